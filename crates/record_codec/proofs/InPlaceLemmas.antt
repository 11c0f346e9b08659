-- The tests of a record in place are those of its definition.
use Rattle.std.proofs.Common.{◌≡◌, ℕ, ◌+◌, ◌-◌, ◌≤◌, List, [], ◌∷◌, length, take, drop, codes, Bool, true, false, not, ◌&&◌, Option, Some, None, option_and_then, Result, Ok, Err, refl, sym, ap, ◌∙◌, arith, length-drop}
use Rattle.std.specs.Prelude.{MatchResult, is_some, is_ok}
use Rattle.std.specs.Str.{IsUtf8, is_utf8}
use Rattle.std.proofs.lemmas.Bool.{and_from, and_left, and_right, false_from_ne_true}
use Rattle.std.proofs.lemmas.List.{length-take}
use Rattle.std.proofs.lemmas.Str.{is_utf8-from_IsUtf8, IsUtf8-from_is_utf8}
use Rattle.record_codec.specs.Entry.{Entry}
use Rattle.record_codec.specs.Props.{written, are_pairs, are_distinct, has_name, pairs_in}
use Rattle.record_codec.specs.Layout.{is_legal, are_hosts_short, are_low, is_entry}
use Rattle.record_codec.specs.Parsed.{n32, n64, Lengths, end_of, lengths_in, entry_in, is_spelled, entry_at, parsed}
use Rattle.record_codec.specs.InPlace.{has_fields, are_allowed, are_props}
use Rattle.record_codec.proofs.PairTexts.{pairs_take}

-- a part of a slice that begins there and has this length
pub part_of : (b : List ℕ) (from len : ℕ) → take (from + len - from) (drop from b) ≡ take len (drop from b)
part_of b from len = let e : from + len - from ≡ len = omega arith in ap (λ (k : ℕ). take k (drop from b)) e

abbrev topic_of : List ℕ → Lengths → List ℕ
topic_of b l = take l.topic (drop (89 + l.body) b)

abbrev pub props_of : List ℕ → Lengths → List ℕ
props_of b l = take l.props (drop (91 + l.body + l.topic) b)

pub length-props_of : (b : List ℕ) (l : Lengths) → end_of l ≤ length b → length (props_of b l) ≡ l.props
length-props_of b l within = omega (arith, length-take l.props (drop (91 + l.body + l.topic) b), length-drop (91 + l.body + l.topic) b)

-- ---- has_fields, test by test

pub fields_without_topic : (b : List ℕ) (l : Lengths) → is_legal (topic_of b l) ≡ false → false ≡ has_fields b l
unfolding has_fields
fields_without_topic b l h = sym (and_left _ _ (and_left _ _ h))

pub fields_without_hosts : (b : List ℕ) (l : Lengths) → are_hosts_short (n32 b 36) ≡ false → false ≡ has_fields b l
unfolding has_fields
fields_without_hosts b l h = sym (and_left _ _ (and_right _ _ h))

pub fields_by_numbers : (b : List ℕ) (l : Lengths) → is_legal (topic_of b l) ≡ true → are_hosts_short (n32 b 36) ≡ true
    → are_low (n64 b 20 ∷ n64 b 28 ∷ n64 b 40 ∷ n64 b 56 ∷ n64 b 76 ∷ []) ≡ has_fields b l
unfolding has_fields
fields_by_numbers b l t h = rw (t, h) refl

-- ---- are_props, test by test

pub is_ok-is_utf8 : {A E : Type 0} (r : Result A E) (text : List ℕ) (P : A → Type 0) (Q : E → Type 0) → MatchResult r (λ s. P s × IsUtf8 text) (λ e. (IsUtf8 text → ⊥) × Q e) → is_ok r ≡ is_utf8 text
is_ok-is_utf8 (Ok s) text P Q h = sym (is_utf8-from_IsUtf8 text h.1)
is_ok-is_utf8 (Err e) text P Q h = sym (false_from_ne_true _ (λ t. h.0 (IsUtf8-from_is_utf8 text t)))

allowed_by : (o : Option (List (List ℕ × List ℕ))) (utf8 : Bool) → is_some o ≡ true
    → ((ps : List (List ℕ × List ℕ)) → o ≡ Some ps → (are_distinct ps ≡ true) × (has_name (codes "SEAL") ps ≡ false) × (utf8 ≡ is_utf8 (written ps)))
    → utf8 ≡ are_allowed o
allowed_by None utf8 some h = absurd cc
allowed_by (Some ps) utf8 some h = let f = h ps refl in rw (f.0, f.1) f.2

pub props_by_utf8 : (text : List ℕ) (utf8 : Bool) → is_some (pairs_in (length text) text) ≡ true
    → ((ps : List (List ℕ × List ℕ)) → pairs_in (length text) text ≡ Some ps → are_distinct ps ≡ true)
    → ((ps : List (List ℕ × List ℕ)) → pairs_in (length text) text ≡ Some ps → has_name (codes "SEAL") ps ≡ false)
    → utf8 ≡ is_utf8 text → utf8 ≡ are_props text
unfolding are_props
props_by_utf8 text utf8 some distinct no_seal is =
    allowed_by (pairs_in (length text) text) utf8 some (λ ps e. (distinct ps e, no_seal ps e, is ∙ ap is_utf8 (pairs_take (length text) text ps e).0))

-- ---- parsed, test by test

by_pairs : (b : List ℕ) (l : Lengths) → lengths_in b ≡ Some l → end_of l ≤ length b → parsed b ≡ option_and_then (entry_at b l) (pairs_in (length (props_of b l)) (props_of b l))
unfolding parsed
by_pairs b l h within =
    let len = length-props_of b l within in
    rw (h, len) refl

none_if : (b : List ℕ) (l : Lengths) (o : Option (List (List ℕ × List ℕ))) → ((ps : List (List ℕ × List ℕ)) → o ≡ Some ps → (is_entry (entry_in b l ps) && is_spelled b l) ≡ false) → option_and_then (entry_at b l) o ≡ None
unfolding entry_at
none_if b l None h = refl
none_if b l (Some ps) h = let f = h ps refl in rw f refl

some_if : (b : List ℕ) (l : Lengths) (o : Option (List (List ℕ × List ℕ))) → is_some o ≡ true → ((ps : List (List ℕ × List ℕ)) → o ≡ Some ps → (is_entry (entry_in b l ps) && is_spelled b l) ≡ true)
    → (r : Entry) × (option_and_then (entry_at b l) o ≡ Some r)
unfolding entry_at
some_if b l None some h = absurd cc
some_if b l (Some ps) some h = let f = h ps refl in (entry_in b l ps, rw f refl)

pub refused_for_lengths : (b : List ℕ) → lengths_in b ≡ None → parsed b ≡ None
unfolding parsed
refused_for_lengths b h = rw h refl

pub refused_for_fields : (b : List ℕ) (l : Lengths) → lengths_in b ≡ Some l → end_of l ≤ length b → has_fields b l ≡ false → parsed b ≡ None
unfolding is_entry has_fields
refused_for_fields b l h within f =
    by_pairs b l h within ∙ none_if b l _ (λ ps e. and_left _ _ (and_left _ _ (and_left _ _ (and_left _ _ (and_left _ (are_pairs ps) f)))))

pub refused_for_spelling : (b : List ℕ) (l : Lengths) → lengths_in b ≡ Some l → end_of l ≤ length b → is_spelled b l ≡ false → parsed b ≡ None
refused_for_spelling b l h within f = by_pairs b l h within ∙ none_if b l _ (λ ps e. and_right _ _ f)

tail_false : (x d s u : Bool) → (d && s && u) ≡ false → (x && d && s && u) ≡ false
tail_false true d s u h = h
tail_false false d s u h = refl

tail_true : (x d s u : Bool) → x ≡ true → (d && s && u) ≡ true → (x && d && s && u) ≡ true
tail_true true d s u e h = h
tail_true false d s u e h = absurd cc

pub refused_for_props : (b : List ℕ) (l : Lengths) → lengths_in b ≡ Some l → end_of l ≤ length b → are_props (props_of b l) ≡ false → parsed b ≡ None
unfolding is_entry has_fields are_props
refused_for_props b l h within f =
    by_pairs b l h within ∙ none_if b l _ (λ ps e. and_left _ _ (tail_false (has_fields b l && are_pairs ps) _ _ _ (sym (ap are_allowed e) ∙ f)))

some_allowed : (o : Option (List (List ℕ × List ℕ))) → are_allowed o ≡ true → is_some o ≡ true
some_allowed None h = absurd cc
some_allowed (Some ps) h = refl

pub accepted : (b : List ℕ) (l : Lengths) → lengths_in b ≡ Some l → end_of l ≤ length b → has_fields b l ≡ true → is_spelled b l ≡ true → are_props (props_of b l) ≡ true → (r : Entry) × (parsed b ≡ Some r)
unfolding is_entry has_fields are_props
accepted b l h within fields spelled props =
    let text = props_of b l in
    let entry = λ (ps : List (List ℕ × List ℕ)) (e : pairs_in (length text) text ≡ Some ps).
    tail_true (has_fields b l && are_pairs ps) (are_distinct ps) (not (has_name (codes "SEAL") ps)) (is_utf8 (written ps)) (and_from _ _ fields (pairs_take (length text) text ps e).1) (sym (ap are_allowed e) ∙ props) in
    let found = some_if b l (pairs_in (length text) text) (some_allowed _ props) (λ ps e. and_from _ _ (entry ps e) spelled) in
    (found.0, by_pairs b l h within ∙ found.1)
