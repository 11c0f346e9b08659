-- What the crash images of a stored log are while recovery settles its files.
use Rattle.std.proofs.Common.{◌≡◌, ◌⊎◌, inl, inr, ⊎_elim, ℕ, suc, ◌+◌, ◌<◌, ◌≤◌, List, length, take, None, sym, ◌∙◌, ap, subst, arith}
use Rattle.std.proofs.lemmas.Bool.{cases_eq}
use Rattle.std.proofs.lemmas.List.{take_all}
use Rattle.mq_outside.specs.Files.{Files, At, Vanished, Shortened}
use Rattle.record_codec.specs.Entry.{Entry}
use Rattle.log_model.specs.Bases.{Geometry}
use Rattle.log_model.specs.Segments.{layouts, Shape, opened, used, shape_of, segment_file, last_bytes, IsLogFile, AreClosed, NoOther, next_segment}
use Rattle.log_model.specs.Store.{Stands}
use Rattle.log_model.proofs.FileNames.{IsNamed, named_less, names_apart, is_log_file}
use Rattle.log_model.proofs.Steps.{cut_stands, vanished_stands, opened_closes}
use Rattle.log_recovery.specs.Settle.{IsPruned, IsTrimmed}
use Rattle.log_recovery.proofs.KeptShapes.{Extends, EndIn}

-- a file that is removed
abbrev Removed : Geometry → ℕ → ℕ → List ℕ → Type 0
Removed S m n name = (k : ℕ) × (m < k) × (k ≤ n) × (name ≡ segment_file S k)

-- files behind the last are absent before they are removed
absent : (S : Geometry) (j n : ℕ) (files : Files) (name : List ℕ) (k : ℕ) → IsNamed S n → NoOther S j files → j < k → k ≤ n → name ≡ segment_file S k → files name ≡ None
absent S j n files name k named others low high is = others name (subst IsLogFile (sym is) (is_log_file S k))
    (λ i within same. names_apart S n k i named high (omega (arith, within, low, high)) (λ e. omega (arith, e, within, low)) (sym is ∙ same))

-- where the last segment holds the last record, nothing is there to remove
pruned_same : (S : Geometry) (m n j : ℕ) (before mid : Files) → IsNamed S n → j ≡ m → NoOther S j before → IsPruned S.size m n before mid → mid ≡ before
pruned_same S m n j before mid named number others pruned =
    let each : (name : List ℕ) → mid name ≡ before name = λ name. ⊎_elim
    (λ (same : mid name ≡ before name). same)
    (λ (gone : (mid name ≡ None) × Removed S m n name). gone.0 ∙ sym (absent S j n before name gone.1.0 named others (omega (arith, gone.1.1, number)) gone.1.2 gone.1.3))
    (pruned name) in
    λ i name. each name i

-- where a next segment is opened, its file is removed
pruned_vanishes : (S : Geometry) (m n : ℕ) (before mid : Files) → IsNamed S n → NoOther S (suc m) before → IsPruned S.size m n before mid → At (segment_file S (suc m)) Vanished before mid
pruned_vanishes S m n before mid named others pruned = record {
  here = ⊎_elim
      (λ (same : mid (segment_file S (suc m)) ≡ before (segment_file S (suc m))). inr same)
      (λ (gone : (mid (segment_file S (suc m)) ≡ None) × Removed S m n (segment_file S (suc m))). inl gone.0)
      (pruned (segment_file S (suc m)));
  others = λ name other. ⊎_elim
      (λ (same : mid name ≡ before name). same)
      (λ (gone : (mid name ≡ None) × Removed S m n name). ⊎_elim
      (λ (next : gone.1.0 ≡ suc m). absurd (other (gone.1.3 ∙ ap (segment_file S) next)))
      (λ (behind : gone.1.0 ≡ suc m → ⊥). gone.0 ∙ sym (absent S (suc m) n before name gone.1.0 named others (omega (arith, gone.1.1, behind)) gone.1.2 gone.1.3))
      (cases_eq gone.1.0 (suc m)))
      (pruned name);
}

module _ (S : Geometry) (log : List Entry) (flushed k : ℕ) (shape : Shape) (reach n : ℕ) (named : IsNamed S n) (behind : next_segment S (shape_of S (take k log)).older < n) where
  abbrev last : Shape
  last = shape_of S (take k log)

  -- before the cut each image is as it was, but for a next segment
  pub pruned_stands : (before mid : Files) → EndIn S log flushed k shape → Stands S shape reach before → IsPruned S.size (next_segment S last.older) n before mid → Stands S shape reach mid
  pruned_stands before mid ends stands pruned = ⊎_elim
      (λ (here : Extends shape last).
      subst (Stands S shape reach) (sym (pruned_same S (next_segment S last.older) n (next_segment S shape.older) before mid named (sym (ap (λ (l : List (List Entry)). next_segment S l) here.older)) stands.others pruned)) stands)
      (λ (next : (k ≡ flushed) × (shape ≡ opened last)).
      let was : Stands S (opened last) reach before = subst (λ (s : Shape). Stands S s reach before) next.1 stands in
      subst (λ (s : Shape). Stands S s reach mid) (sym next.1)
      (vanished_stands S last reach before mid (named_less S n _ (omega (arith, behind)) named) (pruned_vanishes S (next_segment S last.older) n before mid named was.others pruned) was))
      ends

  -- the segments that stand after the cut has begun
  abbrev pub standing : EndIn S log flushed k shape → Shape
  standing (inl here) = shape
  standing (inr next) = last

  abbrev pub reaching : EndIn S log flushed k shape → ℕ
  reaching (inl here) = reach
  reaching (inr next) = S.size

  pub trimmed_stands : (before files : Files) → (ends : EndIn S log flushed k shape) → used last + 8 ≤ S.size → Stands S shape reach before → IsTrimmed S.size (next_segment S last.older) n (used last) before files
      → Stands S (standing ends) (reaching ends) files
  trimmed_stands before files (inl here) room stands trimmed =
      let number : next_segment S last.older ≡ next_segment S shape.older = ap (λ (l : List (List Entry)). next_segment S l) here.older in
      cut_stands S shape reach (used last) trimmed.mid files (named_less S n _ (omega (arith, behind, number)) named) here.longer
      (subst (λ (j : ℕ). At (segment_file S j) (Shortened (used last)) trimmed.mid files) number trimmed.cut)
      (pruned_stands before trimmed.mid (inl here) stands trimmed.pruned)
  trimmed_stands before files (inr next) room stands trimmed =
      let still : Stands S (opened last) reach trimmed.mid = subst (λ (s : Shape). Stands S s reach trimmed.mid) next.1 (pruned_stands before trimmed.mid (inr next) stands trimmed.pruned) in
      cut_stands S last S.size (used last) trimmed.mid files (named_less S n _ (omega (arith, behind)) named) (omega arith) trimmed.cut
      (opened_closes S last reach trimmed.mid room (trimmed.gone (suc (next_segment S last.older)) (omega arith) (omega (arith, behind))) still)

  -- once the last file has just its records, the image is that of the kept records
  pub settled_stands : (files : Files) → (ends : EndIn S log flushed k shape) → Stands S (standing ends) (reaching ends) files → last_bytes S last files ≡ layouts last.last → Stands S last (used last) files
  settled_stands files (inl here) stands bytes = record {
    older = subst (λ (l : List (List Entry)). AreClosed S l files) (sym here.older) stands.older;
    last = ap (λ (l : List ℕ). take (used last) l) bytes ∙ take_all (used last) (layouts last.last) (omega arith);
    short = omega (arith, ap length bytes);
    others = subst (λ (l : List (List Entry)). NoOther S (next_segment S l) files) (sym here.older) stands.others;
  }
  settled_stands files (inr next) stands bytes = record {
    older = stands.older;
    last = ap (λ (l : List ℕ). take (used last) l) bytes ∙ take_all (used last) (layouts last.last) (omega arith);
    short = omega (arith, ap length bytes);
    others = stands.others;
  }

  -- after the cut too, the flushed records stand in these segments
  pub standing_laid : (ends : EndIn S log flushed k shape) → (shape ≡ shape_of S (take flushed log)) ⊎ (shape ≡ opened (shape_of S (take flushed log)))
      → (standing ends ≡ shape_of S (take flushed log)) ⊎ (standing ends ≡ opened (shape_of S (take flushed log)))
  standing_laid (inl here) laid = laid
  standing_laid (inr next) laid = inl (ap (λ (j : ℕ). shape_of S (take j log)) next.0)
