-- The files of a log whose last one was cut anywhere are honest.
use Rattle.std.proofs.Common.{◌≡◌, ◌⊎◌, inl, inr, ⊎_elim, ℕ, ◌≤◌, true, false, bytes_eq, List, [], ◌∷◌, ◌++◌, length, take, drop, Option, Some, None, IsSome, is_some, refl, sym, ◌∙◌, ap, subst, arith, append_assoc, append-nil, length-append, take-append-drop}
use Rattle.std.proofs.lemmas.Bool.{cases_Bool}
use Rattle.std.proofs.lemmas.List.{length-take, take-append-le, drop-append-le}
use Rattle.std.proofs.lemmas.Slice.Eq.{bytes_eq-Decides}
use Rattle.mq_outside.specs.Files.{Files, bytes_in, bytes_of, At, Shortened}
use Rattle.record_codec.specs.Entry.{Entry}
use Rattle.record_codec.specs.Layout.{layout}
use Rattle.log_model.specs.Bases.{Geometry}
use Rattle.log_model.specs.Log.{IsWellFormed}
use Rattle.log_model.specs.Segments.{layouts, used, shape_of, segment_file, last_name, last_bytes, AreSegmentFiles, next_segment}
use Rattle.log_model.specs.Store.{StartsWith, AreEnded, IsHonest}
use Rattle.log_model.proofs.Lists.{option_cases}
use Rattle.log_model.proofs.Places.{placed_log}
use Rattle.log_model.proofs.Recovery.{files_keep, kept_honest}

-- a file with a tail has what the file has in front
front_back : (bytes tail : List ℕ) (n : ℕ) (front : List ℕ) → n ≡ length front → take n bytes ≡ front → (n ≤ length bytes) × (take n (bytes ++ tail) ≡ front)
front_back bytes tail n front is begins =
    let long : n ≤ length bytes = omega (arith, is, ap length begins, length-take n bytes) in
    (long, take-append-le n bytes tail long ∙ begins)

starts_back : (bytes tail : List ℕ) (n : ℕ) (r : Entry) → n ≤ length bytes → StartsWith (drop n bytes) r → StartsWith (drop n (bytes ++ tail)) r
starts_back bytes tail n r long starts = record {
  is = starts.is;
  rest = starts.rest ++ tail;
  split = drop-append-le n bytes tail long ∙ ap (λ (l : List ℕ). l ++ tail) starts.split ∙ append_assoc (layout r) starts.rest tail;
}

module _ (S : Geometry) (log : List Entry) (files cut : Files) (well : IsWellFormed S log) (are : AreSegmentFiles S log files)
    (step : At (last_name S (shape_of S log)) (Shortened 0) files cut) where
  same_or_last : (other : List ℕ) → (cut other ≡ files other) ⊎ (other ≡ last_name S (shape_of S log))
  same_or_last other = ⊎_elim
      (λ (is : bytes_eq other (last_name S (shape_of S log)) ≡ true). inr ((bytes_eq-Decides _ _).0 is))
      (λ (apart : bytes_eq other (last_name S (shape_of S log)) ≡ false). inl (step.others other (λ is. let full : false ≡ true = sym apart ∙ (bytes_eq-Decides _ _).1 is in absurd (cc))))
      (cases_Bool (bytes_eq other (last_name S (shape_of S log))))

  -- each file was what it is now, and a tail
  tail_of : (other : List ℕ) → (tail : List ℕ) × (bytes_of files other ≡ bytes_of cut other ++ tail)
  tail_of other = ⊎_elim
      (λ (same : cut other ≡ files other). ([], ap bytes_in (sym same) ∙ sym (append-nil (bytes_of cut other))))
      (λ (last : other ≡ last_name S (shape_of S log)). subst (λ (n : List ℕ). (tail : List ℕ) × (bytes_of files n ≡ bytes_of cut n ++ tail)) (sym last) (
        drop (length (last_bytes S (shape_of S log) cut)) (last_bytes S (shape_of S log) files),
        sym (take-append-drop (length (last_bytes S (shape_of S log) cut)) (last_bytes S (shape_of S log) files))
            ∙ ap (λ (l : List ℕ). l ++ drop (length (last_bytes S (shape_of S log) cut)) (last_bytes S (shape_of S log) files)) step.here.front,
      ))
      (same_or_last other)

  some_back : (other : List ℕ) → IsSome (cut other) → IsSome (files other)
  some_back other some = ⊎_elim
      (λ (same : cut other ≡ files other). subst (λ (o : Option (List ℕ)). IsSome o) same some)
      (λ (last : other ≡ last_name S (shape_of S log)). subst (λ (n : List ℕ). IsSome (files n)) (sym last) (step.here.there.1 (subst (λ (n : List ℕ). IsSome (cut n)) last some)))
      (same_or_last other)

  none_back : (other : List ℕ) → cut other ≡ None → files other ≡ None
  none_back other none = ⊎_elim
      (λ (same : cut other ≡ files other). sym same ∙ none)
      (λ (last : other ≡ last_name S (shape_of S log)). ⊎_elim
      (λ (is : files other ≡ None). is)
      (λ (some : (bytes : List ℕ) × (files other ≡ Some bytes)).
      let there : IsSome (cut other) = subst (λ (n : List ℕ). IsSome (cut n)) (sym last) (step.here.there.0 (subst (λ (n : List ℕ). IsSome (files n)) last (ap is_some some.1))) in
      let full : false ≡ true = ap is_some (sym none) ∙ there in absurd (cc))
      (option_cases (files other)))
      (same_or_last other)

  -- a file that ends in a blank was not cut
  ended_back : (older : List (List Entry)) → AreEnded S older cut → AreEnded S older files
  ended_back [] are_ended = tt
  ended_back (records ∷ older) are_ended = (
    ⊎_elim
        (λ (same : cut (segment_file S (next_segment S older)) ≡ files (segment_file S (next_segment S older))). (are_ended.0.0, sym same ∙ are_ended.0.1, are_ended.0.2))
        (λ (last : segment_file S (next_segment S older) ≡ last_name S (shape_of S log)).
        let bytes : last_bytes S (shape_of S log) cut ≡ are_ended.0.0 = ap (λ (n : List ℕ). bytes_of cut n) (sym last) ∙ ap bytes_in are_ended.0.1 in
        let tail = tail_of (last_name S (shape_of S log)) in
        absurd (omega (arith, ap length bytes, are_ended.0.2.long, ap length tail.1, length-append (last_bytes S (shape_of S log) cut) tail.0, ap length are.last, (placed_log S log well).room)))
        (same_or_last (segment_file S (next_segment S older))),
    ended_back older are_ended.1,
  )

  cut_honest : (flushed : ℕ) → IsHonest S log flushed cut
  cut_honest flushed k shape r low within looks next =
      let tail = tail_of (last_name S shape) in
      let begins = front_back (last_bytes S shape cut) tail.0 (used shape) (layouts shape.last) refl looks.last in
      kept_honest S log flushed files (files_keep S log files well are) k shape r low within
      (record {
        opens = looks.opens;
        is = looks.is;
        there = λ some. some_back (last_name S shape) (looks.there some);
        none = none_back _ looks.none;
        low = looks.low;
        older = ended_back shape.older looks.older;
        last = ap (λ (l : List ℕ). take (used shape) l) tail.1 ∙ begins.1;
      })
      (record {
        starts = subst (λ (l : List ℕ). StartsWith (drop (used shape) l) r) (sym tail.1) (starts_back (last_bytes S shape cut) tail.0 (used shape) r begins.0 next.starts);
        follows = next.follows;
        place = next.place;
      })

-- so they recover to a prefix, with no premise on their bytes
pub cut_files_honest : (S : Geometry) (log : List Entry) (flushed : ℕ) (files cut : Files) → IsWellFormed S log → AreSegmentFiles S log files
    → At (last_name S (shape_of S log)) (Shortened 0) files cut → IsHonest S log flushed cut
cut_files_honest S log flushed files cut well are step = cut_honest S log files cut well are step flushed
