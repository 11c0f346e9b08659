-- Numbers as properties.
use Rattle.std.proofs.Common.{◌≡◌, ◌∙◌, refl, sym, ap, arith, ℕ, ◌<◌, ◌^◌, ◌==◌, ◌&&◌, ◌++◌, not, nat_lt, Bool, true, false, List, [], ◌∷◌, length, ⊎_elim, Option, Some, None, cond, bytes_eq}
use Rattle.std.specs.Prelude.{IsTrue}
use Rattle.std.specs.Str.Parse.{AllDigits}
use Rattle.std.proofs.lemmas.Bool.{and_parts, and_from, cases_Bool, eqb-true}
use Rattle.std.proofs.lemmas.Fmt.{decimal_is_IsNumeral}
use Rattle.std.proofs.lemmas.Str.Parse.{digit_from_value}
use Rattle.mq_bytes.specs.Decimal.{digits_of}
use Rattle.record_codec.specs.Props.{lacks, is_pair, value_of, with_prop}

-- the name of a property
abbrev pub is_name : List ℕ → Bool
is_name name = nat_lt 0 (length name) && lacks 1 name && lacks 2 name

pair_of : (name value : List ℕ) → is_name name ≡ true → lacks 1 value ≡ true → lacks 2 value ≡ true → IsTrue (is_pair (name, value))
pair_of name value named one two = and_from _ _ (and_from _ _ named one) two

differs : (x b : ℕ) → ((b ≡ x) → ⊥) → not (b == x) ≡ true
differs x b apart = ⊎_elim (λ (same : (b == x) ≡ true). absurd (apart (eqb-true b x same))) (λ (other : (b == x) ≡ false). ap (λ (t : Bool). not t) other) (cases_Bool (b == x))

digits_lack : (x : ℕ) (t : List ℕ) → x < 45 → AllDigits 10 t → lacks x t ≡ true
digits_lack x [] low all = refl
digits_lack x (b ∷ t) low all =
    let digit = digit_from_value b all.0 in
    and_from _ _ (differs x b (λ same. omega (arith, low, same, digit))) (digits_lack x t low all.1)

number_lacks : (x n : ℕ) → x < 45 → n < 2 ^ 64 → lacks x (digits_of n) ≡ true
number_lacks x n low few = digits_lack x (digits_of n) low (decimal_is_IsNumeral n few).0.1

-- a number
pub digits_pair : (name : List ℕ) (n : ℕ) → is_name name ≡ true → n < 2 ^ 64 → IsTrue (is_pair (name, digits_of n))
digits_pair name n named few = pair_of name (digits_of n) named (number_lacks 1 n (omega arith) few) (number_lacks 2 n (omega arith) few)

lacks-append : (x : ℕ) (a b : List ℕ) → lacks x a ≡ true → lacks x b ≡ true → lacks x (a ++ b) ≡ true
lacks-append x [] b h k = k
lacks-append x (c ∷ a) b h k =
    let parts = and_parts (not (c == x)) (lacks x a) h in
    and_from _ _ parts.0 (lacks-append x a b parts.1 k)

dash_lacks : (x m n : ℕ) → x < 45 → m < 2 ^ 64 → n < 2 ^ 64 → lacks x (digits_of m ++ 45 ∷ digits_of n) ≡ true
dash_lacks x m n low few_m few_n =
    lacks-append x (digits_of m) (45 ∷ digits_of n) (number_lacks x m low few_m)
    (and_from _ _ (differs x 45 (λ same. omega (arith, low, same))) (number_lacks x n low few_n))

-- two numbers with a dash between
pub dash_pair : (name : List ℕ) (m n : ℕ) → is_name name ≡ true → m < 2 ^ 64 → n < 2 ^ 64 → IsTrue (is_pair (name, digits_of m ++ 45 ∷ digits_of n))
dash_pair name m n named few_m few_n =
    pair_of name (digits_of m ++ 45 ∷ digits_of n) named (dash_lacks 1 m n (omega arith) few_m few_n) (dash_lacks 2 m n (omega arith) few_m few_n)

-- a name that has no value goes to the end
pub put_last : (name value : List ℕ) (ps : List (List ℕ × List ℕ)) → value_of name ps ≡ None → with_prop name value ps ≡ ps ++ (name, value) ∷ []
put_last name value [] none = refl
put_last name value (p ∷ ps) none =
    ⊎_elim (λ (same : bytes_eq name p.0 ≡ true). let never : ◌≡◌ {A = Option (List ℕ)} (Some p.1) None = sym (ap (λ (b : Bool). cond b (Some p.1) (value_of name ps)) same) ∙ none in absurd cc)
    (λ (other : bytes_eq name p.0 ≡ false).
    ap (λ (b : Bool). cond b ((p.0, value) ∷ ps) (p ∷ with_prop name value ps)) other
    ∙ ap (λ (l : List (List ℕ × List ℕ)). p ∷ l) (put_last name value ps (sym (ap (λ (b : Bool). cond b (Some p.1) (value_of name ps)) other) ∙ none)))
    (cases_Bool (bytes_eq name p.0))
