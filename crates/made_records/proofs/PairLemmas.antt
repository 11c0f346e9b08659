-- What a half message and a delayed one are given as properties.
use Rattle.std.proofs.Common.{◌≡◌, ◌≢◌, ◌∙◌, refl, sym, ap, subst, arith, ℕ, ◌<◌, ◌^◌, ◌&&◌, ◌||◌, not, nat_lt, nat_eq, Bool, true, false, List, [], ◌∷◌, length, Option, Some, None, bytes_eq, codes}
use Rattle.std.specs.Prelude.{IsTrue, is_some, option_map, if◌then◌else◌}
use Rattle.std.specs.List.{list_any}
use Rattle.std.specs.Str.Parse.{AllDigits}
use Rattle.std.proofs.lemmas.Bool.{and_parts, and_from, ne_eqb, eq-eqb}
use Rattle.std.proofs.lemmas.Fmt.{decimal_is_IsNumeral}
use Rattle.std.proofs.lemmas.Str.Parse.{digit_from_value}
use Rattle.mq_bytes.specs.Decimal.{digits_of}
use Rattle.record_codec.specs.Props.{lacks, is_pair, value_of, has_name, with_prop}
use Rattle.record_codec.specs.Layout.{is_topic_char, all_topic_chars, is_named, is_legal}
use Rattle.request_fields.specs.Requests.{IsFieldName}
use Rattle.broker_model.specs.Sends.{with_group}

-- the name of a property
abbrev is_name : List ℕ → Bool
is_name name = nat_lt 0 (length name) && lacks 1 name && lacks 2 name

pair_of : (name value : List ℕ) → is_name name ≡ true → lacks 1 value ≡ true → lacks 2 value ≡ true → IsTrue (is_pair (name, value))
pair_of name value named one two = and_from _ _ (and_from _ _ named one) two

digits_lack : (x : ℕ) (t : List ℕ) → x < 45 → AllDigits 10 t → lacks x t ≡ true
digits_lack x [] low all = refl
digits_lack x (b ∷ t) low all =
    let digit = digit_from_value b all.0 in
    and_from _ _ (ap not (ne_eqb b x (λ same. omega (arith, low, same, digit)))) (digits_lack x t low all.1)

-- a number
pub digits_pair : (name : List ℕ) (n : ℕ) → is_name name ≡ true → n < 2 ^ 64 → IsTrue (is_pair (name, digits_of n))
digits_pair name n named few =
    let all = (decimal_is_IsNumeral n few).0.1 in
    pair_of name (digits_of n) named (digits_lack 1 (digits_of n) (omega arith) all) (digits_lack 2 (digits_of n) (omega arith) all)

topic_lacks : (x : ℕ) (t : List ℕ) → is_topic_char x ≡ false → all_topic_chars t ≡ true → lacks x t ≡ true
topic_lacks x [] none all = refl
topic_lacks x (b ∷ t) none all =
    let parts = and_parts (is_topic_char b) (all_topic_chars t) all in
    let apart : b ≢ x = λ same. let bad : false ≡ true = sym none ∙ subst (λ (c : ℕ). is_topic_char c ≡ true) same parts.0 in cc bad in
    and_from _ _ (ap not (ne_eqb b x apart)) (topic_lacks x t none parts.1)

-- a topic
pub topic_pair : (name topic : List ℕ) → is_name name ≡ true → is_legal topic ≡ true → IsTrue (is_pair (name, topic))
topic_pair name topic named legal =
    let all = (and_parts (nat_lt 0 (length topic)) (all_topic_chars topic) (and_parts (is_named topic) _ legal).0).1 in
    pair_of name topic named (topic_lacks 1 topic refl all) (topic_lacks 2 topic refl all)

neither : (a b : Bool) → a || b ≡ false → (a ≡ false) × (b ≡ false)
neither true b is = absurd (cc is)
neither false b is = (refl, is)

none_lacks : (x : ℕ) (t : List ℕ) → list_any (nat_eq x) t ≡ false → lacks x t ≡ true
none_lacks x [] none = refl
none_lacks x (b ∷ t) none =
    let parts = neither (nat_eq x b) (list_any (nat_eq x) t) none in
    and_from _ _ (ap not (ne_eqb b x (λ same. let bad : false ≡ true = sym parts.0 ∙ eq-eqb x b (sym same) in cc bad))) (none_lacks x t parts.1)

-- a group
pub group_pair : (name group : List ℕ) → is_name name ≡ true → IsFieldName group → IsTrue (is_pair (name, group))
group_pair name group named is = pair_of name group named (none_lacks 1 group is.no_1) (none_lacks 2 group is.no_2)

-- a name is there where it has a value
pub named_has : (name : List ℕ) (ps : List (List ℕ × List ℕ)) → is_some (value_of name ps) ≡ has_name name ps
named_has name [] = refl
named_has name (p ∷ ps) = by_first (bytes_eq name p.0) (named_has name ps)
  where
    by_first : (here : Bool) → is_some (value_of name ps) ≡ has_name name ps → is_some (if here then Some p.1 else value_of name ps) ≡ (here || has_name name ps)
    by_first true rest = refl
    by_first false rest = rest

pub with_own : (group : List ℕ) (props : List (List ℕ × List ℕ)) (b : Bool) → has_name (codes "PGROUP") props ≡ b
    → with_group group props ≡ (if b then props else with_prop (codes "PGROUP") group props)
with_own group props b is = ap (λ (a : Bool). if a then props else with_prop (codes "PGROUP") group props) is

-- what is there stays there when it is mapped
pub mapped_some : {A B : Type 0} (f : A → B) (o : Option A) → is_some (option_map f o) ≡ is_some o
mapped_some f None = refl
mapped_some f (Some x) = refl
