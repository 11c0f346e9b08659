-- That the JSON value which is written of a header is that header again.
use Rattle.std.proofs.Common.{◌≡◌, ℕ, ◌^◌, ◌++◌, ◌∷◌, [], List, length, map, true, false, ltb, eqb, ℤ, pos, negsuc, FitsSigned, Some, option_and_then, Greater, Less, refl, ap, ◌∙◌, arith}
use Rattle.std.specs.Ordering.{nat_cmp, ordering_reverse}
use Rattle.std.specs.Cmp.Lexicographic.{slice_cmp}
use Rattle.std.specs.List.{AllByRecursion}
use Rattle.std.specs.List.Sorted.{IsStrictlySortedBy}
use Rattle.std.specs.Int.{w32}
use Rattle.std.proofs.lemmas.Int.{ints}
use Rattle.std.specs.Str.{IsUtf8}
use Rattle.std.proofs.lemmas.Cmp.{nat_list_cmp_total}
use Rattle.std.proofs.lemmas.Bool.{lt-ltb, ltb-true, ne_eqb}
use Rattle.serde_json.specs.Data.{number, string, member, put}
use Rattle.serde_json.specs.Read.{read}
use Rattle.serde_json.specs.Find.{of_integer}
use Rattle.remoting_frame.specs.Json.{is_i32, whole, pairs_of, header_of, json_header}
use Rattle.remoting_frame.specs.Written.{texts, header_data, json_text}
use Rattle.remoting_frame.specs.Head.{Head, IsInOrder}
use Rattle.remoting_frame.proofs.HeaderReading.{data_is}

abbrev Pair : Type 0
Pair = List ℕ × List ℕ

-- of pairs in order the first is below each other
pub below_middle : (first : Pair) (ps : List Pair) (e : Pair) (more : List Pair) → AllByRecursion (λ y. slice_cmp nat_cmp first.0 y ≡ Less) (map (λ p. p.0) (ps ++ e ∷ more)) → slice_cmp nat_cmp first.0 e.0 ≡ Less
below_middle first [] e more h = h.0
below_middle first (x ∷ ps) e more h = below_middle first ps e more h.1

-- a name above those before it goes last
pub put_last : (done : List Pair) (e : Pair) (more : List Pair) → IsInOrder (done ++ e ∷ more) → put e.0 (string e.1) (texts done) ≡ texts (done ++ e ∷ [])
unfolding IsStrictlySortedBy
put_last [] e more h = refl
put_last (first ∷ done) e more h =
    let above : slice_cmp nat_cmp e.0 first.0 ≡ Greater = nat_list_cmp_total.antisymm e.0 first.0 ∙ ap ordering_reverse (below_middle first done e more h.0) in
    rw above (ap (member first.0 (string first.1)) (put_last done e more h.1))

pub not_empty : (x : ℕ) (remark : List ℕ) → eqb (length (x ∷ remark)) 0 ≡ false
not_empty x remark = ne_eqb _ _ (λ e. absurd (omega arith))

-- ---- read again

pub whole_again : (z : ℤ) → is_i32 z ≡ true → whole (number (of_integer z)) ≡ Some z
unfolding whole
whole_again (pos n) h =
    let wide : ltb n (2 ^ 63) ≡ true = lt-ltb _ _ (omega (arith, ltb-true n (2 ^ 31) h)) in
    rw (wide, h) refl
whole_again (negsuc n) h = rw h refl

pub pairs_again : (ps : List Pair) → pairs_of (texts ps) ≡ Some ps
pairs_again [] = refl
pairs_again (p ∷ ps) = rw (pairs_again ps) refl

pub record Has32Bits (h : Head) : Type 0 where
  pub code : is_i32 h.code ≡ true
  pub version : is_i32 h.version ≡ true
  pub opaque : is_i32 h.opaque ≡ true
  pub flag : is_i32 h.flag ≡ true

again_by : (code version opaque flag : ℤ) (remark : List ℕ) (ext : List Pair) → is_i32 code ≡ true → is_i32 version ≡ true → is_i32 opaque ≡ true → is_i32 flag ≡ true
    → header_of (header_data (record { code = code; version = version; opaque = opaque; flag = flag; remark = remark; ext = ext })) ≡ Some (record { code = code; version = version; opaque = opaque; flag = flag; remark = remark; ext = ext })
unfolding header_of header_data
again_by code version opaque flag [] ext c v o f = rw (whole_again code c, whole_again opaque o, whole_again flag f, whole_again version v, pairs_again ext) refl
again_by code version opaque flag (x ∷ remark) ext c v o f = rw (not_empty x remark, whole_again code c, whole_again opaque o, whole_again flag f, whole_again version v, pairs_again ext) refl

pub header_again : (h : Head) → Has32Bits h → header_of (header_data h) ≡ Some h
header_again h fits = again_by h.code h.version h.opaque h.flag h.remark h.ext fits.code fits.version fits.opaque fits.flag

-- ---- the text

pub json_again : (h : Head) → Has32Bits h → IsUtf8 (json_text h) → read (json_text h) ≡ Some (header_data h) → json_header (json_text h) ≡ Some h
json_again h fits text e = ap (option_and_then header_of) (data_is (json_text h) (header_data h) text e) ∙ header_again h fits

pub is_i32-fits : (z : ℤ) → FitsSigned w32 z → is_i32 z ≡ true
is_i32-fits (pos n) f = lt-ltb n (2 ^ 31) (omega (arith, ints, f))
is_i32-fits (negsuc n) f = lt-ltb n (2 ^ 31) (omega (arith, ints, f))

pub has_32_bits : (h : Head) → FitsSigned w32 h.code → FitsSigned w32 h.version → FitsSigned w32 h.opaque → FitsSigned w32 h.flag → Has32Bits h
has_32_bits h code version opaque flag = record { code = is_i32-fits h.code code; version = is_i32-fits h.version version; opaque = is_i32-fits h.opaque opaque; flag = is_i32-fits h.flag flag }
