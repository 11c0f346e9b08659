-- One more text put into a keep in memory.
use Rattle.std.proofs.Common.{◌≡◌, ◌≢◌, inr, ℕ, true, false, List, [], ◌∷◌, ◌++◌, length, reverse, Option, Some, sym, ◌∙◌, ap, subst, arith, length-append}
use Rattle.std.proofs.lemmas.List.{take_all, take-append-le, reverse-append}
use Rattle.std.proofs.lemmas.Slice.Eq.{bytes_eq-Decides}
use Rattle.std.proofs.lemmas.Bool.{cond-true, cond-false, false_from_ne_true}
use Rattle.std.specs.Prelude.{find, string_bytes}
use Rattle.std.specs.Str.{bytes_eq}
use Rattle.std.specs.Option.{option_map, option_or}
use Rattle.mq_outside.specs.Files.{Files, At, OldOrNew}
use Rattle.mq_outside.specs.Disk.{Moves}
use Rattle.mq_outside.specs.MemKeep.{Entry, last_of, texts_of, keep_state, texts_are_image}

module _ (first puts : List Entry) (entry : Entry) where
  -- under the name of the new entry
  pub put_here : (name bytes : List ℕ) → string_bytes entry.0 ≡ name → entry.1.items ≡ bytes
      → texts_of first (puts ++ entry ∷ []) name ≡ Some bytes
  put_here name bytes named has =
      let same : bytes_eq (string_bytes entry.0) name ≡ true = (bytes_eq-Decides (string_bytes entry.0) name).1 named in
      ap (λ (o : Option Entry). option_or (option_map (λ e. e.1.items) o) (last_of first name))
      (ap (λ (l : List Entry). find (λ e. bytes_eq (string_bytes e.0) name) l) (reverse-append puts (entry ∷ []))
      ∙ cond-true (bytes_eq (string_bytes entry.0) name) (Some entry) (find (λ e. bytes_eq (string_bytes e.0) name) (reverse puts)) same)
      ∙ ap (λ (l : List ℕ). Some l) has

  -- under another name
  pub put_other : (name other : List ℕ) → string_bytes entry.0 ≡ name → other ≢ name
      → texts_of first (puts ++ entry ∷ []) other ≡ texts_of first puts other
  put_other name other named apart =
      let differs : bytes_eq (string_bytes entry.0) other ≡ false =
      false_from_ne_true _ (λ same. apart (sym ((bytes_eq-Decides (string_bytes entry.0) other).0 same) ∙ named)) in
      ap (λ (o : Option Entry). option_or (option_map (λ e. e.1.items) o) (last_of first other))
      (ap (λ (l : List Entry). find (λ e. bytes_eq (string_bytes e.0) other) l) (reverse-append puts (entry ∷ []))
      ∙ cond-false (bytes_eq (string_bytes entry.0) other) (Some entry) (find (λ e. bytes_eq (string_bytes e.0) other) (reverse puts)) differs)

  -- the new text is there, and the others stay
  puts_at : (name bytes : List ℕ) → string_bytes entry.0 ≡ name → entry.1.items ≡ bytes
      → At name (OldOrNew bytes) (texts_of first puts) (texts_of first (puts ++ entry ∷ []))
  puts_at name bytes named has = record {
    here = inr (put_here name bytes named has);
    others = λ other apart. put_other name other named apart;
  }

  -- as a step of the keep
  pub put_moves : (name bytes : List ℕ) → string_bytes entry.0 ≡ name → entry.1.items ≡ bytes
      → Moves (At name (OldOrNew bytes)) (keep_state first puts) (keep_state first (puts ++ entry ∷ []))
  put_moves name bytes named has =
      let more = length-append puts (entry ∷ []) in
      record {
        reads = puts_at name bytes named has;
        later = omega (arith, more);
        by_one = omega (arith, more);
        past = λ m texts low image. image ∙ ap (texts_of first) (take-append-le m puts (entry ∷ []) low);
        kept = λ m texts low image. image ∙ ap (texts_of first) (sym (take-append-le m puts (entry ∷ []) low));
        crash = λ texts image.
            let now : texts ≡ texts_of first (puts ++ entry ∷ []) =
            image ∙ ap (texts_of first) (take_all (length (puts ++ entry ∷ [])) (puts ++ entry ∷ []) (omega arith)) in (
              texts_of first puts,
              texts_are_image first puts,
              subst (λ (f : Files). At name (OldOrNew bytes) (texts_of first puts) f) (sym now) (puts_at name bytes named has),
            );
      }
