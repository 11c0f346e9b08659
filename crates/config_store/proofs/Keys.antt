-- The name of a group's offsets of a topic has one topic and one group.
use Rattle.std.proofs.Common.{◌≡◌, ◌≢◌, ℕ, zero, suc, ◌<◌, List, [], ◌∷◌, ◌++◌, length, get_or, true, false, refl, sym, arith}
use Rattle.std.proofs.lemmas.Bool.{and_parts}
use Rattle.record_codec.specs.Layout.{is_topic_char, all_topic_chars, is_legal}
use Rattle.config_store.specs.Texts.{key_of}

-- no `@` stands in a legal topic
chars_lack : (topic : List ℕ) → all_topic_chars topic ≡ true → (i : ℕ) → i < length topic → get_or topic i 0 ≢ 64
chars_lack [] all i within = absurd (omega (arith, within))
chars_lack (c ∷ topic) all zero within = λ at. let parts = and_parts (is_topic_char c) (all_topic_chars topic) all in let first = parts.0 in let no : is_topic_char 64 ≡ false = refl in let same : c ≡ 64 = at in absurd (cc)
chars_lack (c ∷ topic) all (suc i) within =
    let parts = and_parts (is_topic_char c) (all_topic_chars topic) all in
    chars_lack topic parts.1 i (omega (arith, within))

pub lacks_at : (topic : List ℕ) → is_legal topic ≡ true → (i : ℕ) → i < length topic → get_or topic i 0 ≢ 64
lacks_at topic legal =
    let parts = and_parts _ _ legal in
    let named = and_parts _ _ parts.0 in
    chars_lack topic named.1

cut_at : (a b x y : List ℕ) → ((i : ℕ) → i < length a → get_or a i 0 ≢ 64) → ((i : ℕ) → i < length b → get_or b i 0 ≢ 64)
    → a ++ 64 ∷ x ≡ b ++ 64 ∷ y → (a ≡ b) × (x ≡ y)
cut_at [] [] x y lacks also e = (refl, cc)
cut_at [] (c ∷ b) x y lacks also e = let first : 64 ≡ c = cc in absurd (also 0 (omega arith) (sym first))
cut_at (c ∷ a) [] x y lacks also e = let first : c ≡ 64 = cc in absurd (lacks 0 (omega arith) first)
cut_at (c ∷ a) (d ∷ b) x y lacks also e =
    let rest : a ++ 64 ∷ x ≡ b ++ 64 ∷ y = cc in
    let more = cut_at a b x y (λ i within. lacks (suc i) (omega (arith, within))) (λ i within. also (suc i) (omega (arith, within))) rest in
    let front = more.0 in
    (cc, more.1)

pub one_key : (topic group other_topic other_group : List ℕ) → is_legal topic ≡ true → is_legal other_topic ≡ true
    → key_of topic group ≡ key_of other_topic other_group → (topic ≡ other_topic) × (group ≡ other_group)
one_key topic group other_topic other_group legal also same = cut_at topic other_topic group other_group (lacks_at topic legal) (lacks_at other_topic also) same
