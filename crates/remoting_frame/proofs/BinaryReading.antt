-- What the readers of a binary header give.
use Rattle.std.proofs.Common.{◌≡◌, ℕ, zero, suc, ◌+◌, ◌-◌, ◌<◌, ◌≤◌, List, [], ◌∷◌, length, map, subst, take, drop, Bool, true, false, cond, Option, Some, None, option_map, String, Global, ℤ, string_bytes, string_cmp, nat_cmp, Ordering, Less, Equal, Greater, refl, sym, ap, ◌∙◌, arith, length-drop}
use Rattle.std.specs.Ordering.{match_ordering}
use Rattle.std.specs.Prelude.{Result, Ok, Err}
use Rattle.std.specs.Result.{MatchResult, is_err}
use Rattle.std.specs.Cmp.Lexicographic.{slice_cmp}
use Rattle.std.specs.BTreeMap.{insert_entry}
use Rattle.std.specs.List.{AllByRecursion}
use Rattle.std.specs.List.Sorted.{IsStrictlySortedBy}
use Rattle.std.specs.Map.{keys_of}
use Rattle.std.specs.Int.{w16, w32, cast_signed}
use Rattle.std.specs.Str.{IsUtf8, is_utf8}
use Rattle.std.proofs.lemmas.Str.{IsUtf8-from_is_utf8, is_utf8-from_IsUtf8}
use Rattle.std.proofs.lemmas.Option.{same_Some}
use Rattle.remoting_frame.specs.Gives.{◌>>=◌}
use Rattle.remoting_frame.specs.Head.{IsInOrder}
use Rattle.remoting_frame.specs.NameMaps.{pairs_view}
use Rattle.remoting_frame.proofs.NameOrder.{ordered_put}
use Rattle.remoting_frame.specs.Binary.{number_at, text_of, remark_len_of, binary_header, by_name, lens_of, first_pair, put_first_of, pairs_within, binary_pairs, put_pair, put_all}

abbrev pub Pair : Type 0
Pair = List ℕ × List ℕ

abbrev pub NameEntry : Type 0
NameEntry = String Global × String Global

-- ---- texts

pub text_is : (bytes : List ℕ) → IsUtf8 bytes → text_of bytes ≡ Some bytes
unfolding text_of
text_is bytes text = rw (is_utf8-from_IsUtf8 bytes text) refl

refused : (bytes : List ℕ) (b : Bool) → (b ≡ true → IsUtf8 bytes) → (IsUtf8 bytes → ⊥) → cond b (Some bytes) None ≡ None
refused bytes true h k = absurd (k (h refl))
refused bytes false h k = refl

pub no_text : (bytes : List ℕ) → (IsUtf8 bytes → ⊥) → text_of bytes ≡ None
unfolding text_of
no_text bytes h = refused bytes (is_utf8 bytes) (IsUtf8-from_is_utf8 bytes) h

-- what is so of an error, where there is one
pub told_err : {A E : Type 0} (result : Result A E) (P : A → Type 0) (X : Type 0) (Q : E → Type 0) → MatchResult result P (λ e. X × Q e) → is_err result ≡ true → X
told_err (Ok text) P X Q h is = absurd (cc is)
told_err (Err fault) P X Q h is = h.0

-- ---- one pair

pub bind_some : {A B : Type 0} (o : Option A) (f : A → Option B) (y : B) → (o >>= f) ≡ Some y → (x : A) × (o ≡ Some x) × (f x ≡ Some y)
bind_some (Some x) f y e = (x, refl, e)
bind_some None f y e = absurd cc

-- what a pair that is read is
pub pair_parts : (bytes : List ℕ) (x : Pair × List ℕ) → first_pair bytes ≡ Some x
    → (lens : ℕ × ℕ) × (lens_of bytes ≡ Some lens) × (text_of (take lens.0 (drop 2 bytes)) ≡ Some x.0.0) × (text_of (take lens.1 (drop (6 + lens.0) bytes)) ≡ Some x.0.1) × (x.1 ≡ drop (6 + lens.0 + lens.1) bytes)
unfolding first_pair
pair_parts bytes x e =
    let lens = bind_some (lens_of bytes) _ x e in
    let name = bind_some (text_of (take lens.0.0 (drop 2 bytes))) _ x lens.2 in
    let value = bind_some (text_of (take lens.0.1 (drop (6 + lens.0.0) bytes))) _ x name.2 in
    let same : ((name.0, value.0), drop (6 + lens.0.0 + lens.0.1) bytes) ≡ x = same_Some _ x value.2 in
    (lens.0, lens.1, name.1 ∙ ap (λ (p : Pair × List ℕ). Some p.0.0) same, value.1 ∙ ap (λ (p : Pair × List ℕ). Some p.0.1) same, sym (ap (λ (p : Pair × List ℕ). p.1) same))

pub pair_of_parts : (bytes : List ℕ) (n v : ℕ) (name value : List ℕ) → lens_of bytes ≡ Some (n, v) → text_of (take n (drop 2 bytes)) ≡ Some name → text_of (take v (drop (6 + n) bytes)) ≡ Some value
    → first_pair bytes ≡ Some ((name, value), drop (6 + n + v) bytes)
unfolding first_pair
pair_of_parts bytes n v name value lens first second = rw (lens, first, second) refl

-- where there is none
pub no_lens : (bytes : List ℕ) → lens_of bytes ≡ None → first_pair bytes ≡ None
unfolding first_pair
no_lens bytes lens = rw lens refl

pub no_name : (bytes : List ℕ) (n v : ℕ) → lens_of bytes ≡ Some (n, v) → text_of (take n (drop 2 bytes)) ≡ None → first_pair bytes ≡ None
unfolding first_pair
no_name bytes n v lens first = rw (lens, first) refl

pub no_value : (bytes : List ℕ) (n v : ℕ) (name : List ℕ) → lens_of bytes ≡ Some (n, v) → text_of (take n (drop 2 bytes)) ≡ Some name → text_of (take v (drop (6 + n) bytes)) ≡ None → first_pair bytes ≡ None
unfolding first_pair
no_value bytes n v name lens first second = rw (lens, first, second) refl

-- ---- putting a pair into the map

view-match_ordering : (o : Ordering) (a b c : List NameEntry) → pairs_view (match_ordering o a b c) ≡ match_ordering o (pairs_view a) (pairs_view b) (pairs_view c)
view-match_ordering Less a b c = refl
view-match_ordering Equal a b c = refl
view-match_ordering Greater a b c = refl

pub view-insert_entry : (es : List NameEntry) (k v : String Global) → pairs_view (insert_entry string_cmp es k v) ≡ put_pair (pairs_view es) (string_bytes k, string_bytes v)
view-insert_entry [] k v = refl
view-insert_entry (e ∷ es) k v =
    view-match_ordering (string_cmp k e.0) ((k, v) ∷ e ∷ es) ((e.0, v) ∷ es) (e ∷ insert_entry string_cmp es k v)
    ∙ ap (λ (w : List Pair). match_ordering (string_cmp k e.0) ((string_bytes k, string_bytes v) ∷ pairs_view (e ∷ es)) ((string_bytes e.0, string_bytes v) ∷ pairs_view es) ((string_bytes e.0, string_bytes e.1) ∷ w)) (view-insert_entry es k v)

pub put_is : (es new : List NameEntry) (bytes : List ℕ) (name value : String Global) (rest : List ℕ) → first_pair bytes ≡ Some ((string_bytes name, string_bytes value), rest)
    → new ≡ insert_entry string_cmp es name value → put_first_of (pairs_view es) bytes ≡ Some (pairs_view new, rest)
put_is es new bytes name value rest first e = rw (first, ap pairs_view e ∙ view-insert_entry es name value) refl

-- ---- all pairs

first_shorter : (bytes : List ℕ) (x : Pair × List ℕ) → first_pair bytes ≡ Some x → length x.1 ≤ length bytes - 6
first_shorter bytes x e =
    let parts = pair_parts bytes x e in
    rw parts.4 (omega (arith, length-drop (6 + parts.0.0 + parts.0.1) bytes))

-- two ways to read on that agree behind the first pair
same_behind : (o : Option (Pair × List ℕ)) (f g : List ℕ → Option (List Pair)) → ((x : Pair × List ℕ) → o ≡ Some x → f x.1 ≡ g x.1)
    → (o >>= λ first. option_map (λ others. first.0 ∷ others) (f first.1)) ≡ (o >>= λ first. option_map (λ others. first.0 ∷ others) (g first.1))
same_behind None f g h = refl
same_behind (Some x) f g h = ap (option_map (λ others. x.0 ∷ others)) (h x refl)

-- more fuel than bytes is as good
pub pairs_fuel : (n m : ℕ) (bytes : List ℕ) → length bytes ≤ n → length bytes ≤ m → pairs_within n bytes ≡ pairs_within m bytes
pairs_fuel n m [] le more = refl
pairs_fuel zero m (b ∷ bytes) le more = absurd (omega arith)
pairs_fuel (suc n) zero (b ∷ bytes) le more = absurd (omega arith)
pairs_fuel (suc n) (suc m) (b ∷ bytes) le more = same_behind (first_pair (b ∷ bytes)) (pairs_within n) (pairs_within m)
    (λ x e.
    let shorter = first_shorter (b ∷ bytes) x e in
    pairs_fuel n m x.1 (omega arith) (omega arith))

-- the pairs so far, and those that the bytes are
abbrev pub with_pairs : List Pair → List ℕ → Option (List Pair)
with_pairs pairs bytes = option_map (put_all pairs) (binary_pairs bytes)

put_behind : (pairs : List Pair) (p : Pair) (o : Option (List Pair)) → option_map (put_all pairs) (option_map (λ others. p ∷ others) o) ≡ option_map (put_all (put_pair pairs p)) o
put_behind pairs p (Some others) = refl
put_behind pairs p None = refl

put_some : (pairs : List Pair) (bytes : List ℕ) (o : Option (Pair × List ℕ)) (next : List Pair × List ℕ) → option_map (λ first. (put_pair pairs first.0, first.1)) o ≡ Some next
    → (x : Pair × List ℕ) × (o ≡ Some x) × (next.0 ≡ put_pair pairs x.0) × (next.1 ≡ x.1)
put_some pairs bytes (Some x) next e =
    let same = same_Some _ next e in
    (x, refl, sym (ap (λ (w : List Pair × List ℕ). w.0) same), sym (ap (λ (w : List Pair × List ℕ). w.1) same))
put_some pairs bytes None next e = absurd cc

-- a step of the loop
pub pairs_step : (pairs : List Pair) (bytes : List ℕ) (next : List Pair × List ℕ) → 0 < length bytes → put_first_of pairs bytes ≡ Some next → with_pairs next.0 next.1 ≡ with_pairs pairs bytes
pairs_step pairs [] next some e = absurd (omega arith)
pairs_step pairs (b ∷ bytes) next some e =
    let put = put_some pairs (b ∷ bytes) (first_pair (b ∷ bytes)) next e in
    let shorter = first_shorter (b ∷ bytes) put.0 put.1 in
    let fuel = pairs_fuel (length bytes) (length put.0.1) put.0.1 (omega arith) (omega arith) in
    let x = put.0 in
    let moved = ap (λ (w : List Pair). with_pairs w next.1) put.2 ∙ ap (with_pairs (put_pair pairs x.0)) put.3 in
    let whole : binary_pairs (b ∷ bytes) ≡ option_map (λ others. x.0 ∷ others) (binary_pairs x.1) =
    ap (λ (o : Option (Pair × List ℕ)). o >>= λ first. option_map (λ others. first.0 ∷ others) (pairs_within (length bytes) first.1)) put.1 ∙ ap (option_map (λ others. x.0 ∷ others)) fuel in
    moved ∙ sym (ap (option_map (put_all pairs)) whole ∙ put_behind pairs x.0 (binary_pairs x.1))

-- a step of the loop that needs no map
pub put_step : (pairs new : List Pair) (bytes name value rest : List ℕ) → 0 < length bytes → first_pair bytes ≡ Some ((name, value), rest) → IsInOrder pairs → new ≡ put_pair pairs (name, value)
    → (with_pairs new rest ≡ with_pairs pairs bytes) × IsInOrder new
put_step pairs new bytes name value rest some first order e =
    let next : put_first_of pairs bytes ≡ Some (new, rest) = rw (first, e) refl in
    (pairs_step pairs bytes (new, rest) some next, subst IsInOrder (sym e) (ordered_put pairs name value order))

-- what no bytes are
pub pairs_end : (pairs : List Pair) (bytes : List ℕ) → length bytes ≡ 0 → with_pairs pairs bytes ≡ Some pairs
pairs_end pairs [] e = refl
pairs_end pairs (b ∷ bytes) e = absurd (omega arith)

-- ---- in order

names_after : (P : List ℕ → Type 0) (es : List NameEntry) → AllByRecursion (λ k. P (string_bytes k)) (keys_of es) → AllByRecursion P (map (λ p. p.0) (pairs_view es))
names_after P [] h = tt
names_after P (e ∷ es) h = (h.0, names_after P es h.1)

-- a map's entries are in byte order
pub view_in_order : (es : List NameEntry) → IsStrictlySortedBy string_cmp (keys_of es) → IsInOrder (pairs_view es)
unfolding IsStrictlySortedBy
view_in_order [] h = tt
view_in_order (e ∷ es) h = (names_after (λ (y : List ℕ). slice_cmp nat_cmp (string_bytes e.0) y ≡ Less) es h.0, view_in_order es h.1)

-- ---- the header

pub header_of_parts : (bytes : List ℕ) (len : ℕ) (remark : List ℕ) (ext : List Pair) (code version opaque flag : ℤ) → remark_len_of bytes ≡ Some len → text_of (take len (drop 17 bytes)) ≡ Some remark
    → option_map by_name (binary_pairs (drop (21 + len) bytes)) ≡ Some ext → code ≡ cast_signed w16 (number_at w16 0 bytes) → version ≡ cast_signed w16 (number_at w16 3 bytes) → opaque ≡ cast_signed w32 (number_at w32 5 bytes) → flag ≡ cast_signed w32 (number_at w32 9 bytes)
    → binary_header bytes ≡ Some (record { code = code; version = version; opaque = opaque; flag = flag; remark = remark; ext = ext })
unfolding binary_header
header_of_parts bytes len remark ext code version opaque flag l t p c v o f = rw (l, t, p, c, v, o, f) refl
