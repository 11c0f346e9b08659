-- Spaces and plain strings, as the definitions read them.
use Rattle.std.proofs.Common.{◌≡◌, ℕ, ◌+◌, ◌-◌, ◌<◌, ◌≤◌, true, List, ◌∷◌, ◌++◌, length, take, drop, get_or, Some, inl, inr, ◌⊎◌, sym, ap, ◌∙◌, arith, drop-drop, get_or-take, take-append-drop}
use Rattle.std.proofs.lemmas.Bool.{cases_eq, cases_lt, ne_eqb, false≢true}
use Rattle.std.proofs.lemmas.List.{drop_more, get_or_past}
use Rattle.std.proofs.lemmas.List.Folds.{length-prefix_len}
use Rattle.std.proofs.lemmas.List.Sums.{prefix_len_passes}
use Rattle.std.specs.List.{prefix_len}
use Rattle.json.specs.Text.{content, plain}
use Rattle.json.specs.Word.{is_space}
use Rattle.json.specs.Lex.{lex, between, in_string}
use Rattle.json.specs.Run.{is_plain}
use Rattle.json.specs.Print.{escape}
use Rattle.json.proofs.Printed.Strings.{content-escape, lex-escape}
use Rattle.json.proofs.Printed.Plain.{escape_on_plain}

-- a space is passed over
space_passed : (x : ℕ) (r : List ℕ) → is_space x ≡ true → lex between r ≡ lex between (x ∷ r)
unfolding lex
space_passed x r h = go (cases_eq x 32) (cases_eq x 9) (cases_eq x 10) (cases_eq x 13)
  where
    go : (x ≡ 32) ⊎ (x ≡ 32 → ⊥) → (x ≡ 9) ⊎ (x ≡ 9 → ⊥) → (x ≡ 10) ⊎ (x ≡ 10 → ⊥) → (x ≡ 13) ⊎ (x ≡ 13 → ⊥) → lex between r ≡ lex between (x ∷ r)
    go (inl e) b c d = rw e
    go (inr a) (inl e) c d = rw e
    go (inr a) (inr b) (inl e) d = rw e
    go (inr a) (inr b) (inr c) (inl e) = rw e
    go (inr a) (inr b) (inr c) (inr d) = absurd (false≢true (rw (ne_eqb x 32 a, ne_eqb x 9 b, ne_eqb x 10 c, ne_eqb x 13 d) at h))

pub space_at : (d : List ℕ) (i : ℕ) → i < length d → is_space (get_or d i 0) ≡ true → lex between (drop (i + 1) d) ≡ lex between (drop i d)
space_at d i h e = space_passed (get_or d i 0) (drop (i + 1) d) e ∙ ap (lex between) (sym (drop_more d i 0 h))

plain_front : (xs : List ℕ) → escape (take (prefix_len is_plain xs) xs) ≡ take (prefix_len is_plain xs) xs
plain_front xs =
    let n = prefix_len is_plain xs in
    escape_on_plain true (take n xs) (λ k p q. let lt : k < n = omega (arith, length-prefix_len is_plain xs) in ap is_plain (get_or-take n xs k 0 lt) ∙ prefix_len_passes is_plain xs k 0 lt)

-- where a byte stands, the text has not ended
pub byte_within : (d : List ℕ) (i x : ℕ) → get_or d i 0 ≡ x → 0 < x → i < length d
byte_within d i x e some = go (cases_lt i (length d))
  where
    go : (i < length d) ⊎ (length d ≤ i) → i < length d
    go (inl lt) = lt
    go (inr le) = absurd (omega (arith, get_or_past d i 0 le))

-- and stands in front of the rest
pub byte_first : (d : List ℕ) (i x : ℕ) → get_or d i 0 ≡ x → 0 < x → drop i d ≡ x ∷ drop (i + 1) d
byte_first d i x e some = drop_more d i 0 (byte_within d i x e some) ∙ ap (λ y. y ∷ drop (i + 1) d) e

-- a string that is plain up to its quote
module _ (d : List ℕ) (from stop : ℕ) (is : stop ≡ from + prefix_len is_plain (drop from d)) (quote : get_or d stop 0 ≡ 34) where
  rest_is : drop (prefix_len is_plain (drop from d)) (drop from d) ≡ 34 ∷ drop (stop + 1) d
  rest_is = drop-drop _ from d ∙ ap (λ k. drop k d) (sym is) ∙ byte_first d stop 34 quote (omega arith)

  parts : drop from d ≡ escape (take (prefix_len is_plain (drop from d)) (drop from d)) ++ 34 ∷ drop (stop + 1) d
  parts =
      let n = prefix_len is_plain (drop from d) in
      sym (take-append-drop n (drop from d)) ∙ ap (λ l. take n (drop from d) ++ l) rest_is ∙ ap (λ l. l ++ 34 ∷ drop (stop + 1) d) (sym (plain_front (drop from d)))

  pub plain_content : content plain (drop from d) ≡ Some (take (stop - from) (drop from d))
  plain_content =
      let n : prefix_len is_plain (drop from d) ≡ stop - from = omega arith in
      ap (content plain) parts ∙ content-escape _ (drop (stop + 1) d) ∙ ap (λ k. Some (take k (drop from d))) n

  pub plain_rest : lex in_string (drop from d) ≡ lex between (drop (stop + 1) d)
  plain_rest = ap (lex in_string) parts ∙ lex-escape (take (prefix_len is_plain (drop from d)) (drop from d)) (drop (stop + 1) d)
