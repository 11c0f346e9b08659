-- The words of a subscription: what one step over a space, and over two bars, leaves of a text.
use Rattle.std.proofs.Common.{◌≡◌, ◌≢◌, refl, ap, sym, ◌∙◌, arith, ℕ, ◌+◌, Bool, true, false, cond, ◌&&◌, ◌==◌, nat_lt, List, [], ◌∷◌, ◌++◌, length, map, filter, reverse, take, drop, Some, None, append_assoc, length-append, ℤ, ◌||◌}
use Rattle.std.proofs.lemmas.Bool.{eqb-true, and_parts, false_from_ne_true}
use Rattle.std.proofs.lemmas.List.{take-append-drop, reverse-append, reverse-reverse, drop_at, map-append}
use Rattle.std.specs.Str.Pattern.{FindsText}
use Rattle.std.specs.List.{list_any}
use Rattle.std.specs.Ordering.{int_eq}
use Rattle.mq_bytes.specs.Hashes.{java_hash}
use Rattle.record_codec.specs.declared.unit.Unit.{Unit as QueueUnit}
use Rattle.record_codec.specs.LaxProps.{in_front}
use Rattle.log_model.specs.Pulls.{past_spaces, between_bars, trimmed, words_in, takes_all, takes}
use Rattle.queue_view.specs.Subscriptions.{word_in}

-- nothing is left out of a text that begins with no space
pub past_none : (text : List ℕ) → ((rest : List ℕ) → text ≢ 32 ∷ rest) → past_spaces text ≡ text
past_none [] none = refl
past_none (b ∷ text) none =
    let other : (b == 32) ≡ false = false_from_ne_true (b == 32) (λ yes. none text (ap (λ n. n ∷ text) (eqb-true b 32 yes))) in
    ap (λ t. cond t (past_spaces text) (b ∷ text)) other

-- a space is left out
pub past_one : (text rest : List ℕ) → text ≡ 32 ∷ rest → past_spaces rest ≡ past_spaces text
past_one text rest is = sym (ap past_spaces is)

-- the same at the end
pub past_last : (text front : List ℕ) → text ≡ front ++ 32 ∷ [] → past_spaces (reverse front) ≡ past_spaces (reverse text)
past_last text front is = sym (ap (λ t. past_spaces (reverse t)) is ∙ ap past_spaces (reverse-append front (32 ∷ [])))

-- nothing is left out of a text that ends with no space
pub past_none_last : (text : List ℕ) → ((front : List ℕ) → text ≢ front ++ 32 ∷ []) → text ≡ reverse (past_spaces (reverse text))
past_none_last text none =
    let same = past_none (reverse text) (λ rest is. none (reverse rest) (sym (reverse-reverse text) ∙ ap reverse is ∙ reverse-append (32 ∷ []) rest)) in
    sym (ap reverse same ∙ reverse-reverse text)

word_first : (b : Bool) (x : List ℕ) (ys : List (List ℕ)) → cond b (x ∷ ys) ys ≡ cond b (x ∷ []) [] ++ ys
word_first true x ys = refl
word_first false x ys = refl

bars_none : (b c : ℕ) → ((b ≡ 124) × (c ≡ 124) → ⊥) → ((b == 124) && (c == 124)) ≡ false
bars_none b c none = false_from_ne_true ((b == 124) && (c == 124)) (λ yes. let parts = and_parts (b == 124) (c == 124) yes in none (eqb-true b 124 parts.0, eqb-true c 124 parts.1))

-- a text without bars is one piece
between_none : (text : List ℕ) → ((front rest : List ℕ) → text ≢ front ++ 124 ∷ 124 ∷ rest) → between_bars text ≡ text ∷ []
between_none [] none = refl
between_none (b ∷ []) none = refl
between_none (b ∷ c ∷ text) none =
    let no : ((b == 124) && (c == 124)) ≡ false = bars_none b c (λ both. none [] text (ap (λ n. n ∷ c ∷ text) both.0 ∙ ap (λ n. 124 ∷ n ∷ text) both.1)) in
    ap (λ t. cond t ([] ∷ between_bars text) (in_front b (between_bars (c ∷ text)))) no
    ∙ ap (λ (ps : List (List ℕ)). in_front b ps) (between_none (c ∷ text) (λ front rest is. none (b ∷ front) rest (ap (λ (t : List ℕ). b ∷ t) is)))

-- the piece before the first bars, and those behind
between_first : (word rest : List ℕ) → ((front more : List ℕ) → word ++ 124 ∷ [] ≢ front ++ 124 ∷ 124 ∷ more) → between_bars (word ++ 124 ∷ 124 ∷ rest) ≡ word ∷ between_bars rest
between_first [] rest none = refl
between_first (b ∷ []) rest none =
    let no : ((b == 124) && (124 == 124)) ≡ false = bars_none b 124 (λ both. none [] [] (ap (λ n. n ∷ 124 ∷ []) both.0)) in
    ap (λ t. cond t ([] ∷ between_bars (124 ∷ rest)) (in_front b (between_bars (124 ∷ 124 ∷ rest)))) no
between_first (b ∷ c ∷ word) rest none =
    let no : ((b == 124) && (c == 124)) ≡ false = bars_none b c (λ both. none [] (word ++ 124 ∷ []) (ap (λ n. n ∷ c ∷ (word ++ 124 ∷ [])) both.0 ∙ ap (λ n. 124 ∷ n ∷ (word ++ 124 ∷ [])) both.1)) in
    ap (λ t. cond t ([] ∷ between_bars (word ++ 124 ∷ 124 ∷ rest)) (in_front b (between_bars ((c ∷ word) ++ 124 ∷ 124 ∷ rest)))) no
    ∙ ap (λ (ps : List (List ℕ)). in_front b ps) (between_first (c ∷ word) rest (λ front more is. none (b ∷ front) more (ap (λ (t : List ℕ). b ∷ t) is)))

front_is : (text front behind : List ℕ) → text ≡ front ++ behind → drop (length front) text ≡ behind
front_is text front behind is = ap (λ (t : List ℕ). drop (length front) t) is ∙ drop_at front behind (length front) refl

-- the words of a text are those of the piece before its first bars, and those behind
pub first_word : (text word behind : List ℕ) (i j : ℕ) → FindsText (124 ∷ 124 ∷ []) text (Some (i, j)) → word ≡ take i text → behind ≡ drop j text → length word ≡ i
    → words_in text ≡ word_in word ++ words_in behind
first_word text word behind i j finds is_word is_behind long =
    let here : drop i text ≡ 124 ∷ 124 ∷ behind = finds.1.split ∙ ap (λ (t : List ℕ). 124 ∷ 124 ∷ t) (sym is_behind) in
    let whole : text ≡ word ++ 124 ∷ 124 ∷ behind = sym (take-append-drop i text) ∙ ap (λ (t : List ℕ). t ++ drop i text) (sym is_word) ∙ ap (λ (t : List ℕ). word ++ t) here in
    let none : (front more : List ℕ) → word ++ 124 ∷ [] ≢ front ++ 124 ∷ 124 ∷ more = λ front more is.
    let again : text ≡ front ++ 124 ∷ 124 ∷ (more ++ 124 ∷ behind) =
    whole ∙ sym (append_assoc word (124 ∷ []) (124 ∷ behind)) ∙ ap (λ (t : List ℕ). t ++ 124 ∷ behind) is ∙ append_assoc front (124 ∷ 124 ∷ more) (124 ∷ behind) in
    let lengths : length word + 1 ≡ length front + length (124 ∷ 124 ∷ more) = sym (length-append word (124 ∷ [])) ∙ ap length is ∙ length-append front (124 ∷ 124 ∷ more) in
    let two : length (124 ∷ 124 ∷ more) ≡ length more + 2 = omega arith in
    finds.0 (length front) (omega (arith, long, lengths, two)) (more ++ 124 ∷ behind) (front_is text front (124 ∷ 124 ∷ (more ++ 124 ∷ behind)) again) in
    ap words_in whole
    ∙ ap (λ (ps : List (List ℕ)). filter (λ w. nat_lt 0 (length w)) (map trimmed ps)) (between_first word behind none)
    ∙ word_first (nat_lt 0 (length (trimmed word))) (trimmed word) (words_in behind)

-- a text without bars has one word at most
pub last_word : (text : List ℕ) → FindsText (124 ∷ 124 ∷ []) text None → words_in text ≡ word_in text
last_word text lacks =
    ap (λ (ps : List (List ℕ)). filter (λ w. nat_lt 0 (length w)) (map trimmed ps))
    (between_none text (λ front rest is.
    let lengths : length text ≡ length front + length (124 ∷ 124 ∷ rest) = ap length is ∙ length-append front (124 ∷ 124 ∷ rest) in
    lacks (length front) (omega (arith, lengths)) rest (front_is text front (124 ∷ 124 ∷ rest) is)))

-- the codes so far, with the words of one more piece
pub codes_more : (so_far more all : List ℤ) (hash : List ℕ → ℤ) (text word behind : List (List ℕ)) → so_far ++ map hash text ≡ all → text ≡ word ++ behind → more ≡ so_far ++ map hash word
    → more ++ map hash behind ≡ all
codes_more so_far more all hash text word behind before is added =
    ap (λ (cs : List ℤ). cs ++ map hash behind) added ∙ append_assoc so_far (map hash word) (map hash behind)
    ∙ ap (λ (cs : List ℤ). so_far ++ cs) (sym (map-append hash word behind) ∙ ap (λ (ws : List (List ℕ)). map hash ws) (sym is)) ∙ before

any_hash : (hash : List ℕ → ℤ) (tag : ℤ) (words : List (List ℕ)) → list_any (λ code. int_eq code tag) (map hash words) ≡ list_any (λ word. int_eq (hash word) tag) words
any_hash hash tag [] = refl
any_hash hash tag (word ∷ words) = ap (λ b. int_eq (hash word) tag || b) (any_hash hash tag words)

-- the hashes of the words take what the subscription takes
pub read_takes : (text : List ℕ) (codes : List ℤ) → takes_all text ≡ false → codes ≡ map java_hash (words_in text)
    → (λ (unit : QueueUnit). false || list_any (λ code. int_eq code unit.tag) codes) ≡ takes text
read_takes text codes all is =
    let each : (unit : QueueUnit) → (false || list_any (λ code. int_eq code unit.tag) codes) ≡ takes text unit = λ unit.
    ap (λ (cs : List ℤ). list_any (λ code. int_eq code unit.tag) cs) is
    ∙ any_hash java_hash unit.tag (words_in text)
    ∙ ap (λ b. b || list_any (λ word. int_eq (java_hash word) unit.tag) (words_in text)) (sym all) in
    λ i unit. each unit i
