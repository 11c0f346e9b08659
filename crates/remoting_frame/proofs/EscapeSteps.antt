-- How a string goes on at a place of the text: over plain bytes, and over a backslash and what stands behind it.
use Rattle.std.proofs.Common.{◌≡◌, ◌≢◌, ℕ, suc, ◌+◌, ◌-◌, ◌*◌, ◌<◌, ◌≤◌, Bool, true, false, cond, ◌||◌, ◌==◌, List, [], ◌∷◌, ◌++◌, length, take, drop, get_or, Option, Some, None, refl, sym, ap, ◌∙◌, subst, arith, append_assoc, drop-drop}
use Rattle.std.proofs.lemmas.Bool.{or_parts, not-true, ne_eqb}
use Rattle.std.proofs.lemmas.List.{drop_more, append-nil}
use Rattle.std.specs.List.{prefix_len}
use Rattle.std.specs.Char.{digit_value}
use lib.Utf8.{encode}
use Rattle.json.specs.Text.{content, plain, after_backslash, after_u, prepend, code_unit, short_escape, is_high_surrogate, is_low_surrogate}
use Rattle.json.specs.Word.{is_operator, is_space}
use Rattle.json.specs.Lex.{Lexeme, Mode, lex, lex_byte, between, in_string, in_escape, operator, space, other}
use Rattle.json.specs.Run.{is_plain}
use Rattle.remoting_frame.proofs.JsonBytes.{byte_first}

prepend-prepend : (a b : List ℕ) (r : Option (List ℕ)) → prepend a (prepend b r) ≡ prepend (a ++ b) r
prepend-prepend a b None = refl
prepend-prepend a b (Some s) = ap Some (sym (append_assoc a b s))

prepend-nil : (r : Option (List ℕ)) → prepend [] r ≡ r
prepend-nil None = refl
prepend-nil (Some s) = refl

-- the string that goes on in xs has the bytes `out`, and then goes on in ys
pub record Passes (xs out ys : List ℕ) : Type 0 where
  pub read : content plain xs ≡ prepend out (content plain ys)
  pub lexed : lex in_string xs ≡ lex in_string ys

passes_none : (xs : List ℕ) → Passes xs [] xs
passes_none xs = record { read = sym (prepend-nil _); lexed = refl }

passes_both : (xs a ys b zs : List ℕ) → Passes xs a ys → Passes ys b zs → Passes xs (a ++ b) zs
passes_both xs a ys b zs p q = record { read = p.read ∙ ap (prepend a) q.read ∙ prepend-prepend a b _; lexed = p.lexed ∙ q.lexed }

-- ---- plain bytes

stays : (o s : Bool) (x : ℕ) (r : List ℕ) (k : Mode → List Lexeme) → lex_byte in_string (cond o operator (cond s space other)) x r k ≡ k in_string
stays true s x r k = refl
stays false true x r k = refl
stays false false x r k = refl

plain_byte : (x : ℕ) (xs : List ℕ) → is_plain x ≡ true → Passes (x ∷ xs) (x ∷ []) xs
unfolding content lex
plain_byte x xs e =
    let none = or_parts ((x == 34) || (x == 92)) _ (not-true _ e) in
    let tests = or_parts (x == 34) _ none.0 in
    record {
      read = rw (tests.0, tests.1, none.1);
      lexed = rw (tests.0, tests.1) (stays (is_operator x) (is_space x) x xs (λ m. lex m xs));
    }

run_step : (p : Bool) (x n : ℕ) (xs : List ℕ) → p ≡ is_plain x → Passes xs (take n xs) (drop n xs) → Passes (x ∷ xs) (take (cond p (1 + n) 0) (x ∷ xs)) (drop (cond p (1 + n) 0) (x ∷ xs))
run_step false x n xs e rest = passes_none (x ∷ xs)
run_step true x n xs e rest =
    let next : suc n ≡ 1 + n = omega arith in
    subst (λ (k : ℕ). Passes (x ∷ xs) (take k (x ∷ xs)) (drop k (x ∷ xs))) next (passes_both _ (x ∷ []) xs _ _ (plain_byte x xs (sym e)) rest)

run : (xs : List ℕ) → Passes xs (take (prefix_len is_plain xs) xs) (drop (prefix_len is_plain xs) xs)
run [] = passes_none []
run (x ∷ xs) = run_step (is_plain x) x (prefix_len is_plain xs) xs refl (run xs)

passes_run : (d : List ℕ) (i stop : ℕ) → stop ≡ i + prefix_len is_plain (drop i d) → Passes (drop i d) (take (stop - i) (drop i d)) (drop stop d)
passes_run d i stop is =
    let n : prefix_len is_plain (drop i d) ≡ stop - i = omega arith in
    let back : i + (stop - i) ≡ stop = omega arith in
    let same = drop-drop (stop - i) i d ∙ ap (λ k. drop k d) back in
    subst (Passes (drop i d) (take (stop - i) (drop i d))) same (subst (λ (k : ℕ). Passes (drop i d) (take k (drop i d)) (drop k (drop i d))) n (run (drop i d)))

-- ---- a quote, and a backslash

read_quote : (d : List ℕ) (i : ℕ) → get_or d i 0 ≡ 34 → content plain (drop i d) ≡ Some []
unfolding content
read_quote d i e = ap (content plain) (byte_first d i 34 e (omega arith))

lex_quote : (d : List ℕ) (i : ℕ) → get_or d i 0 ≡ 34 → lex in_string (drop i d) ≡ lex between (drop (i + 1) d)
unfolding lex
lex_quote d i e = ap (lex in_string) (byte_first d i 34 e (omega arith))

read_backslash : (d : List ℕ) (i : ℕ) → get_or d i 0 ≡ 92 → content plain (drop i d) ≡ content after_backslash (drop (i + 1) d)
unfolding content
read_backslash d i e = ap (content plain) (byte_first d i 92 e (omega arith))

lex_backslash : (d : List ℕ) (i : ℕ) → get_or d i 0 ≡ 92 → lex in_string (drop i d) ≡ lex in_escape (drop (i + 1) d)
unfolding lex
lex_backslash d i e = ap (lex in_string) (byte_first d i 92 e (omega arith))

passes_escape : (d : List ℕ) (i b : ℕ) (ys : List ℕ) → get_or d i 0 ≡ 92
    → content after_backslash (drop (i + 1) d) ≡ prepend (b ∷ []) (content plain ys) → lex in_escape (drop (i + 1) d) ≡ lex in_string ys → Passes (drop i d) (b ∷ []) ys
passes_escape d i b ys e read lexed = record { read = read_backslash d i e ∙ read; lexed = lex_backslash d i e ∙ lexed }

-- ---- a string that is at i so far, after the bytes `out`

pub passes_to_stop : (xs out d : List ℕ) (i stop : ℕ) → Passes xs out (drop i d) → stop ≡ i + prefix_len is_plain (drop i d) → Passes xs (out ++ take (stop - i) (drop i d)) (drop stop d)
passes_to_stop xs out d i stop p is = passes_both xs out _ _ _ p (passes_run d i stop is)

pub passes_to_next : (xs out d : List ℕ) (i b next : ℕ) → Passes xs out (drop i d) → get_or d i 0 ≡ 92
    → content after_backslash (drop (i + 1) d) ≡ prepend (b ∷ []) (content plain (drop next d)) → lex in_escape (drop (i + 1) d) ≡ lex in_string (drop next d)
    → Passes xs (out ++ b ∷ []) (drop next d)
passes_to_next xs out d i b next p e read lexed = passes_both xs out _ _ _ p (passes_escape d i b (drop next d) e read lexed)

pub read_whole : (xs out d : List ℕ) (i : ℕ) → Passes xs out (drop i d) → get_or d i 0 ≡ 34 → content plain xs ≡ Some out
read_whole xs out d i p e = p.read ∙ ap (prepend out) (read_quote d i e) ∙ ap Some (append-nil out)

pub lex_whole : (xs out d : List ℕ) (i : ℕ) → Passes xs out (drop i d) → get_or d i 0 ≡ 34 → lex in_string xs ≡ lex between (drop (i + 1) d)
lex_whole xs out d i p e = p.lexed ∙ lex_quote d i e

-- ---- behind a backslash

pub lex_escape : (d : List ℕ) (i : ℕ) → i < length d → lex in_escape (drop i d) ≡ lex in_string (drop (i + 1) d)
unfolding lex
lex_escape d i h = ap (lex in_escape) (drop_more d i 0 h)

pub read_u : (d : List ℕ) (i : ℕ) → get_or d i 0 ≡ 117 → content after_backslash (drop i d) ≡ content after_u (drop (i + 1) d)
unfolding content
read_u d i e = ap (content after_backslash) (byte_first d i 117 e (omega arith))

pub read_short : (d : List ℕ) (i b : ℕ) → i < length d → get_or d i 0 ≢ 117 → short_escape (get_or d i 0) ≡ Some b
    → content after_backslash (drop i d) ≡ prepend (b ∷ []) (content plain (drop (i + 1) d))
unfolding content
read_short d i b h ne e = ap (content after_backslash) (drop_more d i 0 h) ∙ rw (ne_eqb (get_or d i 0) 117 ne, e) refl

-- ---- four hex digits

four : (d : List ℕ) (i : ℕ) → i + 4 ≤ length d → drop i d ≡ get_or d i 0 ∷ get_or d (i + 1) 0 ∷ get_or d (i + 2) 0 ∷ get_or d (i + 3) 0 ∷ drop (i + 4) d
four d i h =
    let more : (j k : ℕ) → k ≡ j + 1 → j < length d → drop j d ≡ get_or d j 0 ∷ drop k d = λ j k e l. drop_more d j 0 l ∙ ap (λ n. get_or d j 0 ∷ drop n d) (sym e) in
    more i (i + 1) refl (omega arith) ∙ ap (λ l. get_or d i 0 ∷ l) (more (i + 1) (i + 2) (omega arith) (omega arith) ∙ ap (λ l. get_or d (i + 1) 0 ∷ l)
    (more (i + 2) (i + 3) (omega arith) (omega arith) ∙ ap (λ l. get_or d (i + 2) 0 ∷ l) (more (i + 3) (i + 4) (omega arith) (omega arith))))

digit_is_plain : (x : ℕ) → digit_value x < 16 → is_plain x ≡ true
digit_is_plain x h = grind arith

unit_is : (p q a b high low : ℕ) → p ≡ 48 → q ≡ 48 → digit_value a ≡ high → digit_value b ≡ low → high < 8 → low < 16 → code_unit p q a b ≡ Some (high * 16 + low)
unfolding code_unit
unit_is p q a b high low zero none is last h l =
    let wide : high < 16 = omega arith in
    rw (zero, none) (grind arith)

-- a code unit below 0x80 stands for itself
low_unit : (u : ℕ) (o r : Option (List ℕ)) → u < 128 → cond (is_high_surrogate u) o (cond (is_low_surrogate u) None (prepend (encode u) r)) ≡ prepend (u ∷ []) r
unfolding encode
low_unit u o r h = grind arith

-- the four hex digits at i spell a byte below 0x80
pub record Spells (d : List ℕ) (i high low : ℕ) : Type 0 where
  pub room : i + 4 ≤ length d
  pub zero : get_or d i 0 ≡ 48
  pub none : get_or d (i + 1) 0 ≡ 48
  pub is : digit_value (get_or d (i + 2) 0) ≡ high
  pub last : digit_value (get_or d (i + 3) 0) ≡ low
  pub small : high < 8
  pub below : low < 16

pub read_ascii : (d : List ℕ) (i high low : ℕ) → Spells d i high low → content after_u (drop i d) ≡ prepend ((high * 16 + low) ∷ []) (content plain (drop (i + 4) d))
unfolding content
read_ascii d i high low s =
    let small = s.small in
    let below = s.below in
    ap (content after_u) (four d i s.room) ∙ rw (unit_is _ _ _ _ high low s.zero s.none s.is s.last small below) (low_unit (high * 16 + low) _ _ (omega arith))

lex_plain : (x : ℕ) (xs ys : List ℕ) → is_plain x ≡ true → lex in_string xs ≡ lex in_string ys → lex in_string (x ∷ xs) ≡ lex in_string ys
lex_plain x xs ys e rest = (plain_byte x xs e).lexed ∙ rest

pub lex_ascii : (d : List ℕ) (i high low : ℕ) → Spells d i high low → lex in_string (drop i d) ≡ lex in_string (drop (i + 4) d)
lex_ascii d i high low s =
    let small = s.small in
    let below = s.below in
    let is = s.is in
    let last = s.last in
    let third = digit_is_plain (get_or d (i + 2) 0) (omega arith) in
    let fourth = digit_is_plain (get_or d (i + 3) 0) (omega arith) in
    ap (lex in_string) (four d i s.room) ∙ lex_plain _ _ _ (ap is_plain s.zero) (lex_plain _ _ _ (ap is_plain s.none) (lex_plain _ _ _ third (lex_plain _ _ _ fourth refl)))
