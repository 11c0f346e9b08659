-- How long the JSON text of a header is.
use Rattle.std.proofs.Common.{◌≡◌, lit<, lit≤, ℕ, suc, ◌+◌, ◌*◌, ◌^◌, ◌<◌, ◌≤◌, ◌++◌, ◌∷◌, [], List, length, Bool, true, false, cond, ltb, ℤ, pos, negsuc, codes, arith, length-append}
use Rattle.std.specs.List.{flat_map}
use Rattle.std.proofs.lemmas.Fmt.{length-decimal-le}
use Rattle.std.proofs.lemmas.Bool.{ltb-true}
use Rattle.json.specs.Print.{escape_letter, escape_byte, quoted}
use Rattle.serde_json.specs.Data.{Data, number, string, object, Members, no_members, member}
use Rattle.serde_json.specs.Find.{of_integer}
use Rattle.serde_json.specs.Written.{number_text, compact_text, members_text, comma_if}
use Rattle.remoting_frame.specs.Json.{is_i32}
use Rattle.remoting_frame.specs.Head.{Head, IsShort, pairs_size}
use Rattle.remoting_frame.specs.Written.{texts, with_remark, header_data, json_text}
use Rattle.remoting_frame.proofs.HeaderTexts.{Has32Bits, not_empty}

-- one of three texts
one_of : (b c : Bool) (x y z : List ℕ) (n : ℕ) → length x ≤ n → length y ≤ n → length z ≤ n → length (cond b x (cond c y z)) ≤ n
one_of true c x y z n p q r = p
one_of false true x y z n p q r = q
one_of false false x y z n p q r = r

length-escape_byte : (x : ℕ) → length (escape_byte x) ≤ 6
unfolding escape_byte
length-escape_byte x = one_of (ltb 0 (escape_letter x)) (ltb x 32) _ _ _ 6 (lit≤ tt) (lit≤ tt) (lit≤ tt)

length-escape : (s : List ℕ) → length (flat_map escape_byte s) ≤ 6 * length s
length-escape [] = lit≤ tt
length-escape (x ∷ s) = omega (arith, length-append (escape_byte x) (flat_map escape_byte s), length-escape_byte x, length-escape s)

length-quoted : (s : List ℕ) → length (quoted s) ≤ 6 * length s + 2
length-quoted s = omega (arith, length-append (flat_map escape_byte s) (34 ∷ []), length-escape s)

length-comma : (later : Bool) → length (comma_if later) ≤ 1
length-comma true = lit≤ tt
length-comma false = lit≤ tt

-- a member, and those behind it
length-member : (later : Bool) (k v : List ℕ) (rest : List ℕ) → length (comma_if later ++ (quoted k ++ 58 ∷ (v ++ rest))) ≤ 6 * length k + 4 + length v + length rest
length-member later k v rest = omega (arith, length-append (comma_if later) (quoted k ++ 58 ∷ (v ++ rest)), length-append (quoted k) (58 ∷ (v ++ rest)), length-append v rest, length-comma later, length-quoted k)

length-pairs : (ps : List (List ℕ × List ℕ)) (later : Bool) → length (members_text later (texts ps)) ≤ 6 * pairs_size ps + 1
length-pairs [] later = lit≤ tt
length-pairs (p ∷ ps) later = omega (arith, length-member later p.0 (quoted p.1) (members_text true (texts ps)), length-quoted p.1, length-pairs ps true)

-- a number of 32 bits
length-number : (z : ℤ) → is_i32 z ≡ true → length (number_text (of_integer z)) ≤ 11
length-number (pos n) h =
    let below = ltb-true n (2 ^ 31) h in
    omega (arith, length-decimal-le 10 n (lit< tt) (omega arith) (omega arith))
length-number (negsuc n) h =
    let below = ltb-true n (2 ^ 31) h in
    omega (arith, length-decimal-le 10 (suc n) (lit< tt) (omega arith) (omega arith))

length-member_of : (later : Bool) (k : List ℕ) (d : Data) (ms : Members) (v n : ℕ) → length (compact_text d) ≤ v → length (members_text true ms) ≤ n → length (members_text later (member k d ms)) ≤ 6 * length k + 4 + v + n
length-member_of later k d ms v n value rest = omega (arith, length-member later k (compact_text d) (members_text true ms))

length-remark : (remark : List ℕ) (rest : Members) (n : ℕ) → length (members_text true rest) ≤ n → length (members_text true (with_remark remark rest)) ≤ 6 * length remark + 42 + n
length-remark [] rest n h = omega arith
length-remark (x ∷ remark) rest n h =
    let text : length (quoted (x ∷ remark)) ≤ 6 * length (x ∷ remark) + 2 = length-quoted (x ∷ remark) in
    let all = length-member_of true (codes "remark") (string (x ∷ remark)) rest (6 * length (x ∷ remark) + 2) n text h in
    rw (not_empty x remark) (omega (arith, all))

-- ---- the members of a header, each with those behind it

abbrev version_on : Head → Members
version_on h = member (codes "version") (number (of_integer h.version)) no_members

abbrev form_on : Head → Members
form_on h = member (codes "serializeTypeCurrentRPC") (string (codes "JSON")) (version_on h)

abbrev remark_on : Head → Members
remark_on h = with_remark h.remark (form_on h)

abbrev opaque_on : Head → Members
opaque_on h = member (codes "opaque") (number (of_integer h.opaque)) (remark_on h)

abbrev language_on : Head → Members
language_on h = member (codes "language") (string (codes "OTHER")) (opaque_on h)

abbrev flag_on : Head → Members
flag_on h = member (codes "flag") (number (of_integer h.flag)) (language_on h)

length-remark_on : (h : Head) → Has32Bits h → length (members_text true (remark_on h)) ≤ 6 * length h.remark + 268
length-remark_on h fits =
    let version = length-member_of true (codes "version") (number (of_integer h.version)) no_members 11 1 (length-number h.version fits.version) (lit≤ tt) in
    let form = length-member_of true (codes "serializeTypeCurrentRPC") (string (codes "JSON")) (version_on h) 26 58 (length-quoted (codes "JSON")) version in
    omega (arith, length-remark h.remark (form_on h) 226 form)

length-flag_on : (h : Head) → Has32Bits h → length (members_text true (flag_on h)) ≤ 6 * length h.remark + 442
length-flag_on h fits =
    let opaque = length-member_of true (codes "opaque") (number (of_integer h.opaque)) (remark_on h) 11 (6 * length h.remark + 268) (length-number h.opaque fits.opaque) (length-remark_on h fits) in
    let language = length-member_of true (codes "language") (string (codes "OTHER")) (opaque_on h) 32 (6 * length h.remark + 319) (length-quoted (codes "OTHER")) (omega (arith, opaque)) in
    let flag = length-member_of true (codes "flag") (number (of_integer h.flag)) (language_on h) 11 (6 * length h.remark + 403) (length-number h.flag fits.flag) (omega (arith, language)) in
    omega (arith, flag)

pub length-json_text : (h : Head) → Has32Bits h → IsShort h → length (json_text h) < 2 ^ 20
unfolding header_data
length-json_text h fits short =
    let ext : length (compact_text (object (texts h.ext))) ≤ 6 * pairs_size h.ext + 2 = omega (arith, length-pairs h.ext false) in
    let pairs = length-member_of true (codes "extFields") (object (texts h.ext)) (flag_on h) (6 * pairs_size h.ext + 2) (6 * length h.remark + 442) ext (omega (arith, length-flag_on h fits)) in
    let code = length-member_of false (codes "code") (number (of_integer h.code)) (member (codes "extFields") (object (texts h.ext)) (flag_on h)) 11 (6 * length h.remark + 6 * pairs_size h.ext + 502) (length-number h.code fits.code) (omega (arith, pairs)) in
    omega (arith, code, short)
