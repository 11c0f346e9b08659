-- A header that is spelled in binary form is read as it was.
use Rattle.std.proofs.Common.{◌≡◌, lt-ltb, ℕ, zero, suc, ◌+◌, ◌^◌, ◌<◌, ◌≤◌, List, [], ◌∷◌, ◌++◌, length, take, drop, true, false, ltb, eqb, eq-eqb, Option, Some, option_map, ℤ, nat_cmp, Greater, refl, sym, ap, subst, ◌∙◌, append_assoc, append-nil, arith, length-append}
use Rattle.std.specs.Prelude.{FitsSigned, All}
use Rattle.std.specs.Ordering.{ordering_reverse}
use Rattle.std.specs.Cmp.Lexicographic.{slice_cmp}
use Rattle.std.specs.Int.{w16, w32, from_be_bytes, to_be_bytes, cast_signed, cast_unsigned}
use Rattle.std.specs.List.{AllByRecursion}
use Rattle.std.specs.List.Sorted.{IsStrictlySortedBy}
use Rattle.std.proofs.lemmas.Bool.{le-ltb}
use Rattle.std.proofs.lemmas.Cmp.{nat_list_cmp_total}
use Rattle.std.proofs.lemmas.Int.{to_z-of_z}
use Rattle.std.proofs.Math.Facts.{Fits-of_z}
use Rattle.remoting_frame.specs.Gives.{◌>>=◌}
use Rattle.remoting_frame.specs.Head.{Head, IsInOrder, pairs_size}
use Rattle.remoting_frame.specs.Binary.{number_at, text_of, lens_of, name_len_of, value_len_of, first_pair, pairs_within, binary_pairs, put_pair, put_all, by_name, remark_len_of, remark_fits, ext_len_of, binary_header}
use Rattle.remoting_frame.specs.BinaryText.{sized, pair_text, pairs_text, sized_pairs, numbers_text, header_bytes, binary_text, FitsPair, Has16Bits, FitsLengths, IsPairOfTexts, AreTexts}
use Rattle.remoting_frame.specs.BinaryForm.{IsBinary}
use Rattle.remoting_frame.proofs.WireNumbers.{wide16, wide32, part_at, rest_at}
use Rattle.remoting_frame.proofs.BinaryReading.{Pair, text_is, pair_of_parts, header_of_parts}
use Rattle.remoting_frame.proofs.BinaryWriting.{length-pairs_text}
use Rattle.remoting_frame.proofs.HeaderTexts.{below_middle}

-- ---- one pair

record PairPlaces (bytes : List ℕ) (n v : ℕ) (name value rest : List ℕ) : Type 0 where
  lens : lens_of bytes ≡ Some (n, v)
  name_at : take n (drop 2 bytes) ≡ name
  value_at : take v (drop (6 + n) bytes) ≡ value
  rest_at : drop (6 + n + v) bytes ≡ rest

lens_are : (bytes : List ℕ) (n v : ℕ) → 6 + n + v ≤ length bytes → v < 2 ^ 31 → number_at w16 0 bytes ≡ n → number_at w32 (2 + n) bytes ≡ v → lens_of bytes ≡ Some (n, v)
unfolding lens_of name_len_of value_len_of
lens_are bytes n v le lt first second =
    let six : ltb (length bytes) 6 ≡ false = le-ltb _ _ (omega arith) in
    let named : ltb (length bytes) (6 + n) ≡ false = le-ltb _ _ (omega arith) in
    let below : ltb v (2 ^ 31) ≡ true = lt-ltb _ _ lt in
    let whole : ltb (length bytes) (6 + n + v) ≡ false = le-ltb _ _ le in
    rw (six, first, named, second, below, whole) refl

pair_places : (N name V value rest bytes : List ℕ) (n v : ℕ) → bytes ≡ N ++ (name ++ (V ++ (value ++ rest))) → length N ≡ 2 → length V ≡ 4 → length name ≡ n → length value ≡ v → from_be_bytes w16 N ≡ n → from_be_bytes w32 V ≡ v → v < 2 ^ 31
    → PairPlaces bytes n v name value rest
pair_places N name V value rest bytes n v e two four named valued first second lt =
    let behind_name = V ++ (value ++ rest) in
    let r2 : bytes ≡ (N ++ name) ++ (V ++ (value ++ rest)) = e ∙ sym (append_assoc N name behind_name) in
    let r3 : bytes ≡ ((N ++ name) ++ V) ++ (value ++ rest) = r2 ∙ sym (append_assoc (N ++ name) V (value ++ rest)) in
    let r4 : bytes ≡ (((N ++ name) ++ V) ++ value) ++ rest = r3 ∙ sym (append_assoc ((N ++ name) ++ V) value rest) in
    let l2 : length (N ++ name) ≡ 2 + n = omega (arith, length-append N name) in
    let l3 : length ((N ++ name) ++ V) ≡ 6 + n = omega (arith, length-append (N ++ name) V) in
    let l4 : length (((N ++ name) ++ V) ++ value) ≡ 6 + n + v = omega (arith, length-append ((N ++ name) ++ V) value) in
    let all : 6 + n + v ≤ length bytes = omega (arith, ap (λ (w : List ℕ). length w) r4, length-append (((N ++ name) ++ V) ++ value) rest) in
    let name_len : number_at w16 0 bytes ≡ n = ap (from_be_bytes w16) (part_at [] N (name ++ behind_name) bytes 0 2 e refl two) ∙ first in
    let value_len : number_at w32 (2 + n) bytes ≡ v = ap (from_be_bytes w32) (part_at (N ++ name) V (value ++ rest) bytes (2 + n) 4 r2 l2 four) ∙ second in
    record {
      lens = lens_are bytes n v all lt name_len value_len;
      name_at = part_at N name behind_name bytes 2 n e two named;
      value_at = part_at ((N ++ name) ++ V) value rest bytes (6 + n) v r3 l3 valued;
      rest_at = rest_at (((N ++ name) ++ V) ++ value) rest bytes (6 + n + v) r4 l4;
    }

split_pair : (N name V value rest : List ℕ) → ((N ++ name) ++ (V ++ value)) ++ rest ≡ N ++ (name ++ (V ++ (value ++ rest)))
split_pair N name V value rest = simp append_assoc

pub pair_again : (p : Pair) (rest : List ℕ) → FitsPair p → first_pair (pair_text p ++ rest) ≡ Some (p, rest)
unfolding pair_text sized
pair_again p rest fits =
    let n = length p.0 in
    let v = length p.1 in
    let bytes = pair_text p ++ rest in
    let e : bytes ≡ to_be_bytes w16 n ++ (p.0 ++ (to_be_bytes w32 v ++ (p.1 ++ rest))) = split_pair (to_be_bytes w16 n) p.0 (to_be_bytes w32 v) p.1 rest in
    let places = pair_places (to_be_bytes w16 n) p.0 (to_be_bytes w32 v) p.1 rest bytes n v e (wide16.len n) (wide32.len v) refl refl (wide16.again n fits.name) (wide32.again v (omega (arith, fits.value))) fits.value in
    pair_of_parts bytes n v p.0 p.1 places.lens (ap text_of places.name_at ∙ text_is p.0 fits.name_text) (ap text_of places.value_at ∙ text_is p.1 fits.value_text)
    ∙ ap (λ (w : List ℕ). Some (p, w)) places.rest_at

-- ---- all pairs

pairs_first : (n : ℕ) (bytes : List ℕ) → 0 < length bytes → pairs_within (suc n) bytes ≡ (first_pair bytes >>= λ first. option_map (λ others. first.0 ∷ others) (pairs_within n first.1))
pairs_first n [] some = absurd (omega arith)
pairs_first n (b ∷ bytes) some = refl

pairs_again : (ps : List Pair) (n : ℕ) → AllByRecursion FitsPair ps → length (pairs_text ps) ≤ n → pairs_within n (pairs_text ps) ≡ Some ps
pairs_again [] n fits le = refl
pairs_again (p ∷ ps) zero fits le = absurd (omega (arith, length-pairs_text (p ∷ ps)))
pairs_again (p ∷ ps) (suc n) fits le =
    let all = length-pairs_text (p ∷ ps) in
    let others = length-pairs_text ps in
    pairs_first n (pairs_text (p ∷ ps)) (omega arith)
    ∙ ap (λ (o : Option (Pair × List ℕ)). o >>= λ first. option_map (λ others. first.0 ∷ others) (pairs_within n first.1)) (pair_again p (pairs_text ps) fits.0)
    ∙ ap (option_map (λ others. p ∷ others)) (pairs_again ps n fits.1 (omega arith))

pub binary_pairs_again : (ps : List Pair) → AllByRecursion FitsPair ps → binary_pairs (pairs_text ps) ≡ Some ps
binary_pairs_again ps fits = pairs_again ps (length (pairs_text ps)) fits (omega arith)

-- ---- pairs in order stay as they are

put_last : (done : List Pair) (e : Pair) (more : List Pair) → IsInOrder (done ++ e ∷ more) → put_pair done e ≡ done ++ e ∷ []
unfolding IsStrictlySortedBy
put_last [] e more h = refl
put_last (first ∷ done) e more h =
    let above : slice_cmp nat_cmp e.0 first.0 ≡ Greater = nat_list_cmp_total.antisymm e.0 first.0 ∙ ap ordering_reverse (below_middle first done e more h.0) in
    rw above (ap (λ (w : List Pair). first ∷ w) (put_last done e more h.1))

put_all_in_order : (done more : List Pair) → IsInOrder (done ++ more) → put_all done more ≡ done ++ more
put_all_in_order done [] h = sym (append-nil done)
put_all_in_order done (e ∷ more) h =
    let moved : done ++ e ∷ more ≡ (done ++ e ∷ []) ++ more = sym (append_assoc done (e ∷ []) more) in
    ap (λ (w : List Pair). put_all w more) (put_last done e more h) ∙ put_all_in_order (done ++ e ∷ []) more (subst IsInOrder moved h) ∙ sym moved

pub by_name_in_order : (ps : List Pair) → IsInOrder ps → by_name ps ≡ ps
by_name_in_order ps h = put_all_in_order [] ps h

-- ---- the header

record HeaderPlaces (bytes : List ℕ) (C V O F remark pairs : List ℕ) (r : ℕ) : Type 0 where
  code : number_at w16 0 bytes ≡ from_be_bytes w16 C
  version : number_at w16 3 bytes ≡ from_be_bytes w16 V
  opaque : number_at w32 5 bytes ≡ from_be_bytes w32 O
  flag : number_at w32 9 bytes ≡ from_be_bytes w32 F
  len : remark_len_of bytes ≡ Some r
  remark_at : take r (drop 17 bytes) ≡ remark
  pairs_at : drop (21 + r) bytes ≡ pairs

len_is : (bytes : List ℕ) (r e : ℕ) → length bytes ≡ 21 + r + e → r < 2 ^ 31 → e < 2 ^ 31 → number_at w32 13 bytes ≡ r → number_at w32 (17 + r) bytes ≡ e → remark_len_of bytes ≡ Some r
unfolding remark_len_of remark_fits ext_len_of
len_is bytes r e all short few first second =
    let fixed : ltb (length bytes) 21 ≡ false = le-ltb _ _ (omega arith) in
    let remark : ltb r (2 ^ 31) ≡ true = lt-ltb _ _ short in
    let within : ltb (length bytes) (21 + r) ≡ false = le-ltb _ _ (omega arith) in
    let pairs : ltb e (2 ^ 31) ≡ true = lt-ltb _ _ few in
    let end : eqb (length bytes) (21 + r + e) ≡ true = eq-eqb _ _ all in
    rw (fixed, first, remark, within, second, pairs, end) refl

-- the bytes of a header, one field after the other
abbrev fields : (C L V O F R remark E pairs : List ℕ) → List ℕ
fields C L V O F R remark E pairs = C ++ (L ++ (V ++ (O ++ (F ++ (R ++ (remark ++ (E ++ pairs)))))))

header_places : (C L V O F R remark E pairs bytes : List ℕ) (r e : ℕ) → bytes ≡ fields C L V O F R remark E pairs → length C ≡ 2 → length L ≡ 1 → length V ≡ 2 → length O ≡ 4 → length F ≡ 4 → length R ≡ 4 → length E ≡ 4
    → length remark ≡ r → length pairs ≡ e → r < 2 ^ 31 → e < 2 ^ 31 → from_be_bytes w32 R ≡ r → from_be_bytes w32 E ≡ e → HeaderPlaces bytes C V O F remark pairs r
header_places C L V O F R remark E pairs bytes r e is c l v o f g h remarked paired short few first second =
    let t8 = E ++ pairs in
    let t7 = remark ++ t8 in
    let t6 = R ++ t7 in
    let t5 = F ++ t6 in
    let t4 = O ++ t5 in
    let t3 = V ++ t4 in
    let r2 : bytes ≡ (C ++ L) ++ t3 = is ∙ sym (append_assoc C L t3) in
    let r3 : bytes ≡ ((C ++ L) ++ V) ++ t4 = r2 ∙ sym (append_assoc (C ++ L) V t4) in
    let r4 : bytes ≡ (((C ++ L) ++ V) ++ O) ++ t5 = r3 ∙ sym (append_assoc ((C ++ L) ++ V) O t5) in
    let r5 : bytes ≡ ((((C ++ L) ++ V) ++ O) ++ F) ++ t6 = r4 ∙ sym (append_assoc (((C ++ L) ++ V) ++ O) F t6) in
    let r6 : bytes ≡ (((((C ++ L) ++ V) ++ O) ++ F) ++ R) ++ t7 = r5 ∙ sym (append_assoc ((((C ++ L) ++ V) ++ O) ++ F) R t7) in
    let r7 : bytes ≡ ((((((C ++ L) ++ V) ++ O) ++ F) ++ R) ++ remark) ++ t8 = r6 ∙ sym (append_assoc (((((C ++ L) ++ V) ++ O) ++ F) ++ R) remark t8) in
    let r8 : bytes ≡ (((((((C ++ L) ++ V) ++ O) ++ F) ++ R) ++ remark) ++ E) ++ pairs = r7 ∙ sym (append_assoc ((((((C ++ L) ++ V) ++ O) ++ F) ++ R) ++ remark) E pairs) in
    let l2 : length (C ++ L) ≡ 3 = omega (arith, length-append C L) in
    let l3 : length ((C ++ L) ++ V) ≡ 5 = omega (arith, l2, length-append (C ++ L) V) in
    let l4 : length (((C ++ L) ++ V) ++ O) ≡ 9 = omega (arith, l3, length-append ((C ++ L) ++ V) O) in
    let l5 : length ((((C ++ L) ++ V) ++ O) ++ F) ≡ 13 = omega (arith, l4, length-append (((C ++ L) ++ V) ++ O) F) in
    let l6 : length (((((C ++ L) ++ V) ++ O) ++ F) ++ R) ≡ 17 = omega (arith, l5, length-append ((((C ++ L) ++ V) ++ O) ++ F) R) in
    let l7 : length ((((((C ++ L) ++ V) ++ O) ++ F) ++ R) ++ remark) ≡ 17 + r = omega (arith, l6, length-append (((((C ++ L) ++ V) ++ O) ++ F) ++ R) remark) in
    let l8 : length (((((((C ++ L) ++ V) ++ O) ++ F) ++ R) ++ remark) ++ E) ≡ 21 + r = omega (arith, l7, length-append ((((((C ++ L) ++ V) ++ O) ++ F) ++ R) ++ remark) E) in
    let all : length bytes ≡ 21 + r + e = omega (arith, l8, ap (λ (w : List ℕ). length w) r8, length-append (((((((C ++ L) ++ V) ++ O) ++ F) ++ R) ++ remark) ++ E) pairs) in
    let remark_len : number_at w32 13 bytes ≡ r = ap (from_be_bytes w32) (part_at ((((C ++ L) ++ V) ++ O) ++ F) R t7 bytes 13 4 r5 l5 g) ∙ first in
    let ext_len : number_at w32 (17 + r) bytes ≡ e = ap (from_be_bytes w32) (part_at ((((((C ++ L) ++ V) ++ O) ++ F) ++ R) ++ remark) E pairs bytes (17 + r) 4 r7 l7 h) ∙ second in
    record {
      code = ap (from_be_bytes w16) (part_at [] C (L ++ t3) bytes 0 2 is refl c);
      version = ap (from_be_bytes w16) (part_at (C ++ L) V t4 bytes 3 2 r2 l2 v);
      opaque = ap (from_be_bytes w32) (part_at ((C ++ L) ++ V) O t5 bytes 5 4 r3 l3 o);
      flag = ap (from_be_bytes w32) (part_at (((C ++ L) ++ V) ++ O) F t6 bytes 9 4 r4 l4 f);
      len = len_is bytes r e all short few remark_len ext_len;
      remark_at = part_at (((((C ++ L) ++ V) ++ O) ++ F) ++ R) remark t8 bytes 17 r r6 l6 remarked;
      pairs_at = rest_at (((((((C ++ L) ++ V) ++ O) ++ F) ++ R) ++ remark) ++ E) pairs bytes (21 + r) r8 l8;
    }

-- a signed number is what its bytes are
signed16 : (z : ℤ) → FitsSigned w16 z → z ≡ cast_signed w16 (from_be_bytes w16 (to_be_bytes w16 (cast_unsigned w16 z)))
signed16 z fits = sym (ap (cast_signed w16) (wide16.again (cast_unsigned w16 z) (omega (arith, Fits-of_z {w = w16} {z = z} fits))) ∙ to_z-of_z w16 z fits)

signed32 : (z : ℤ) → FitsSigned w32 z → z ≡ cast_signed w32 (from_be_bytes w32 (to_be_bytes w32 (cast_unsigned w32 z)))
signed32 z fits = sym (ap (cast_signed w32) (wide32.again (cast_unsigned w32 z) (omega (arith, Fits-of_z {w = w32} {z = z} fits))) ∙ to_z-of_z w32 z fits)

split_header : (C L V O F R remark E pairs : List ℕ) → ((((C ++ L) ++ V) ++ O) ++ F) ++ (R ++ remark) ++ (E ++ pairs) ≡ fields C L V O F R remark E pairs
split_header C L V O F R remark E pairs = simp append_assoc

-- what is spelled so is read
pub binary_again : (bytes : List ℕ) (h : Head) → IsBinary bytes h → binary_header bytes ≡ Some h
unfolding header_bytes numbers_text sized sized_pairs
binary_again bytes h is =
    let r = length h.remark in
    let e = pairs_size is.pairs in
    let C = to_be_bytes w16 (cast_unsigned w16 h.code) in
    let V = to_be_bytes w16 (cast_unsigned w16 h.version) in
    let O = to_be_bytes w32 (cast_unsigned w32 h.opaque) in
    let F = to_be_bytes w32 (cast_unsigned w32 h.flag) in
    let parts : bytes ≡ fields C (is.language ∷ []) V O F (to_be_bytes w32 r) h.remark (to_be_bytes w32 e) (pairs_text is.pairs) = is.spelled ∙ split_header C (is.language ∷ []) V O F (to_be_bytes w32 r) h.remark (to_be_bytes w32 e) (pairs_text is.pairs) in
    let places = header_places C (is.language ∷ []) V O F (to_be_bytes w32 r) h.remark (to_be_bytes w32 e) (pairs_text is.pairs) bytes r e parts (wide16.len (cast_unsigned w16 h.code)) refl (wide16.len (cast_unsigned w16 h.version)) (wide32.len (cast_unsigned w32 h.opaque)) (wide32.len (cast_unsigned w32 h.flag)) (wide32.len r) (wide32.len e)
    refl (length-pairs_text is.pairs) is.remark is.size (wide32.again r (omega (arith, is.remark))) (wide32.again e (omega (arith, is.size))) in
    let pairs : option_map by_name (binary_pairs (drop (21 + r) bytes)) ≡ Some h.ext = ap (λ (w : List ℕ). option_map by_name (binary_pairs w)) places.pairs_at ∙ ap (option_map by_name) (binary_pairs_again is.pairs is.each) ∙ ap Some (sym is.last) in
    header_of_parts bytes r h.remark h.ext h.code h.version h.opaque h.flag places.len (ap text_of places.remark_at ∙ text_is h.remark is.remark_text) pairs
    (signed16 h.code is.bits.code ∙ ap (cast_signed w16) (sym places.code)) (signed16 h.version is.bits.version ∙ ap (cast_signed w16) (sym places.version)) (signed32 h.opaque is.opaque ∙ ap (cast_signed w32) (sym places.opaque)) (signed32 h.flag is.flag ∙ ap (cast_signed w32) (sym places.flag))

-- ---- what is written is spelled so

each_fits : (ps : List Pair) → pairs_size ps < 2 ^ 31 → All (λ p. length p.0 < 2 ^ 16) ps → AllByRecursion IsPairOfTexts ps → AllByRecursion FitsPair ps
each_fits [] few names texts = tt
each_fits (p ∷ ps) few names texts = (
  record { name = names 0 p (omega arith); value = omega arith; name_text = texts.0.0; value_text = texts.0.1 },
  each_fits ps (omega arith) (λ k d lt. names (suc k) d (omega arith)) texts.1,
)

pub written_again : (h : Head) → Has16Bits h → FitsLengths h → AreTexts h → FitsSigned w32 h.opaque → FitsSigned w32 h.flag → IsInOrder h.ext → binary_header (binary_text h) ≡ Some h
written_again h bits lengths texts opaque flag order =
    binary_again (binary_text h) h (record {
      language = 7;
      pairs = h.ext;
      spelled = refl;
      last = sym (by_name_in_order h.ext order);
      bits = bits;
      opaque = opaque;
      flag = flag;
      remark = lengths.remark;
      remark_text = texts.remark;
      size = lengths.pairs;
      each = each_fits h.ext lengths.pairs lengths.names texts.pairs;
    })
