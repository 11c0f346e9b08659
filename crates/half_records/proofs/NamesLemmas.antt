-- Names that have numbers of their own.
use Rattle.std.proofs.Common.{◌≡◌, ◌∙◌, ℕ, ◌+◌, ◌<◌, Bool, true, false, cond, List, Some, None, bytes_eq, refl, sym, ap, subst, arith}
use Rattle.std.proofs.lemmas.Option.{same_Some}
use Rattle.std.proofs.lemmas.Slice.Eq.{bytes_eq-Decides}
use Rattle.indexmap.specs.IndexMap.{index_map_len}
use Rattle.half_records.specs.declared.names.Names.{Names}
use Rattle.half_records.specs.Names.{AreApart, KeepsNumbers, number_of}

-- no number changes
pub apart_same : (old new : Names) → ((name : List ℕ) → number_of new name ≡ number_of old name) → index_map_len new.numbers ≡ index_map_len old.numbers → AreApart old → AreApart new
apart_same old new same count are = record {
  apart = λ a b n at_a at_b. are.apart a b n (sym (same a) ∙ at_a) (sym (same b) ∙ at_b);
  low = λ a n at. subst (λ (m : ℕ). n < m) (sym count) (are.low a n (sym (same a) ∙ at));
}

module _ (old new : Names) (own : List ℕ) (absent : number_of old own ≡ None)
    (numbers : (other : List ℕ) → number_of new other ≡ cond (bytes_eq own other) (Some (index_map_len old.numbers)) (number_of old other)) where
  -- the other names keep their numbers
  pub others_keep : KeepsNumbers old new
  others_keep name n is = numbers name ∙ by_test (bytes_eq own name) refl
    where
      by_test : (b : Bool) → bytes_eq own name ≡ b → cond b (Some (index_map_len old.numbers)) (number_of old name) ≡ Some n
      by_test false other = is
      by_test true same =
          let bad : None ≡ Some n = sym absent ∙ ap (number_of old) ((bytes_eq-Decides own name).0 same) ∙ is in cc bad

  -- it has the number that was given
  pub has_number : number_of new own ≡ Some (index_map_len old.numbers)
  has_number = numbers own ∙ ap (λ (b : Bool). cond b (Some (index_map_len old.numbers)) (number_of old own)) ((bytes_eq-Decides own own).1 refl)

  low_by : (are : AreApart old) (a : List ℕ) (n : ℕ) (b : Bool) → cond b (Some (index_map_len old.numbers)) (number_of old a) ≡ Some n → n < index_map_len old.numbers + 1
  low_by are a n true at = let same = same_Some (index_map_len old.numbers) n at in omega (arith, same)
  low_by are a n false at = let low = are.low a n at in omega (arith, low)

  apart_by : (are : AreApart old) (a b : List ℕ) (n : ℕ) (x y : Bool) → bytes_eq own a ≡ x → bytes_eq own b ≡ y
      → cond x (Some (index_map_len old.numbers)) (number_of old a) ≡ Some n → cond y (Some (index_map_len old.numbers)) (number_of old b) ≡ Some n → a ≡ b
  apart_by are a b n true true is_a is_b at_a at_b = sym ((bytes_eq-Decides own a).0 is_a) ∙ (bytes_eq-Decides own b).0 is_b
  apart_by are a b n true false is_a is_b at_a at_b = absurd (let same = same_Some (index_map_len old.numbers) n at_a in let low = are.low b n at_b in omega (arith, same, low))
  apart_by are a b n false true is_a is_b at_a at_b = absurd (let same = same_Some (index_map_len old.numbers) n at_b in let low = are.low a n at_a in omega (arith, same, low))
  apart_by are a b n false false is_a is_b at_a at_b = are.apart a b n at_a at_b

  -- and no other name has that
  pub apart_more : index_map_len new.numbers ≡ index_map_len old.numbers + 1 → AreApart old → AreApart new
  apart_more count are = record {
    apart = λ a b n at_a at_b. apart_by are a b n (bytes_eq own a) (bytes_eq own b) refl refl (sym (numbers a) ∙ at_a) (sym (numbers b) ∙ at_b);
    low = λ a n at. subst (λ (m : ℕ). n < m) (sym count) (low_by are a n (bytes_eq own a) (sym (numbers a) ∙ at));
  }
