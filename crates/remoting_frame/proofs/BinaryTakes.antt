-- A header that is read in binary form is spelled by the bytes.
use Rattle.std.proofs.Common.{◌≡◌, ℕ, zero, suc, ◌+◌, ◌^◌, ◌<◌, ◌≤◌, ◌||◌, List, [], ◌∷◌, ◌++◌, length, get_or, take, drop, Bool, true, false, not, cond, ltb, eqb, Option, Some, None, option_map, ℤ, refl, sym, ap, subst, ◌∙◌, append_assoc, arith, length-drop}
use Rattle.std.specs.Prelude.{FitsSigned, All}
use Rattle.std.specs.Int.{w16, w32, to_be_bytes, cast_signed, cast_unsigned}
use Rattle.std.specs.List.{AllByRecursion}
use Rattle.std.specs.Str.{IsUtf8, is_utf8}
use Rattle.std.proofs.lemmas.Bool.{ltb-false, ltb-true, eqb-true}
use Rattle.std.proofs.lemmas.Str.{IsUtf8-from_is_utf8}
use Rattle.std.proofs.lemmas.List.{take-append-drop, length-take-le, drop-drop}
use Rattle.std.proofs.lemmas.Int.{of_z-to_z}
use Rattle.std.proofs.lemmas.Option.{same_Some}
use Rattle.std.proofs.Math.Seq.{drop-cons}
use Rattle.std.proofs.Math.Facts.{sfits_to_z}
use Rattle.mq_bytes.specs.Bytes.{AreBytes}
use Rattle.remoting_frame.specs.Head.{Head, pairs_size}
use Rattle.remoting_frame.specs.Binary.{number_at, text_of, lens_of, name_len_of, value_len_of, first_pair, pairs_within, binary_pairs, by_name, remark_len_of, remark_fits, ext_len_of, binary_header}
use Rattle.remoting_frame.specs.BinaryText.{sized, pair_text, pairs_text, sized_pairs, numbers_text, header_bytes, FitsPair, FitsLengths}
use Rattle.remoting_frame.specs.BinaryForm.{IsBinary}
use Rattle.remoting_frame.proofs.WireNumbers.{wide16, wide32, AreBytes-take, AreBytes-drop}
use Rattle.remoting_frame.proofs.BinaryReading.{Pair, bind_some, pair_parts}
use Rattle.remoting_frame.proofs.BinaryWriting.{length-pairs_text}
use Rattle.remoting_frame.proofs.NameOrder.{by_name_size, by_name_names, each_index}

-- ---- tests that were passed

past_none : {A : Type 0} (b : Bool) (o : Option A) (y : A) → cond b None o ≡ Some y → (b ≡ false) × (o ≡ Some y)
past_none true o y e = absurd cc
past_none false o y e = (refl, e)

past_test : {A : Type 0} (b : Bool) (o : Option A) (y : A) → cond b o None ≡ Some y → (b ≡ true) × (o ≡ Some y)
past_test true o y e = (refl, e)
past_test false o y e = absurd cc

neither : (a b : Bool) → (not a || b) ≡ false → (a ≡ true) × (b ≡ false)
neither true b e = (refl, e)
neither false b e = absurd cc

-- ---- one pair

record LensParts (bytes : List ℕ) (lens : ℕ × ℕ) : Type 0 where
  long : 6 + lens.0 + lens.1 ≤ length bytes
  value : lens.1 < 2 ^ 31
  name_is : number_at w16 0 bytes ≡ lens.0
  value_is : number_at w32 (2 + lens.0) bytes ≡ lens.1

lens_parts : (bytes : List ℕ) (lens : ℕ × ℕ) → lens_of bytes ≡ Some lens → LensParts bytes lens
unfolding lens_of name_len_of value_len_of
lens_parts bytes lens e =
    let name = number_at w16 0 bytes in
    let value = number_at w32 (2 + name) bytes in
    let a = past_none (ltb (length bytes) 6) _ lens e in
    let b = past_none (ltb (length bytes) (6 + name)) _ lens a.1 in
    let c = past_none (not (ltb value (2 ^ 31)) || ltb (length bytes) (6 + name + value)) _ lens b.1 in
    let d = neither (ltb value (2 ^ 31)) (ltb (length bytes) (6 + name + value)) c.0 in
    subst (LensParts bytes) (same_Some (name, value) lens c.1) (record { long = ltb-false _ _ d.1; value = ltb-true _ _ d.0; name_is = refl; value_is = refl })

text_parts : (bytes text : List ℕ) → text_of bytes ≡ Some text → (bytes ≡ text) × IsUtf8 text
unfolding text_of
text_parts bytes text e =
    let p = past_test (is_utf8 bytes) _ text e in
    let same = same_Some bytes text p.1 in
    (same, subst IsUtf8 same (IsUtf8-from_is_utf8 bytes p.0))

-- a number's bytes, where the number is there
number_back16 : (at n : ℕ) (bytes : List ℕ) → AreBytes bytes → at + 2 ≤ length bytes → number_at w16 at bytes ≡ n → take 2 (drop at bytes) ≡ to_be_bytes w16 n
number_back16 at n bytes fits le e = sym (wide16.back (take 2 (drop at bytes)) (length-take-le 2 (drop at bytes) (omega (arith, length-drop at bytes))) (AreBytes-take 2 (drop at bytes) (AreBytes-drop at bytes fits))) ∙ ap (to_be_bytes w16) e

number_back32 : (at n : ℕ) (bytes : List ℕ) → AreBytes bytes → at + 4 ≤ length bytes → number_at w32 at bytes ≡ n → take 4 (drop at bytes) ≡ to_be_bytes w32 n
number_back32 at n bytes fits le e = sym (wide32.back (take 4 (drop at bytes)) (length-take-le 4 (drop at bytes) (omega (arith, length-drop at bytes))) (AreBytes-take 4 (drop at bytes) (AreBytes-drop at bytes fits))) ∙ ap (to_be_bytes w32) e

-- the bytes from a place on, cut once
cut_at : (at n : ℕ) (bytes part : List ℕ) → take n (drop at bytes) ≡ part → drop at bytes ≡ part ++ drop (at + n) bytes
cut_at at n bytes part e = sym (take-append-drop n (drop at bytes)) ∙ ap (λ (w : List ℕ). take n (drop at bytes) ++ w) (drop-drop n at bytes) ∙ ap (λ (w : List ℕ). w ++ drop (at + n) bytes) e

join_pair : (N name V value rest : List ℕ) → N ++ (name ++ (V ++ (value ++ rest))) ≡ ((N ++ name) ++ (V ++ value)) ++ rest
join_pair N name V value rest = sym (simp append_assoc)

pair_takes : (bytes : List ℕ) (x : Pair × List ℕ) → AreBytes bytes → first_pair bytes ≡ Some x → (bytes ≡ pair_text x.0 ++ x.1) × FitsPair x.0 × AreBytes x.1
unfolding pair_text sized
pair_takes bytes x fits e =
    let parts = pair_parts bytes x e in
    let n = parts.0.0 in
    let v = parts.0.1 in
    let lens = lens_parts bytes parts.0 parts.1 in
    let long : 6 + n + v ≤ length bytes = lens.long in
    let name = text_parts (take n (drop 2 bytes)) x.0.0 parts.2 in
    let value = text_parts (take v (drop (6 + n) bytes)) x.0.1 parts.3 in
    let name_len : length x.0.0 ≡ n = ap (λ (w : List ℕ). length w) (sym name.0) ∙ length-take-le n (drop 2 bytes) (omega (arith, length-drop 2 bytes)) in
    let value_len : length x.0.1 ≡ v = ap (λ (w : List ℕ). length w) (sym value.0) ∙ length-take-le v (drop (6 + n) bytes) (omega (arith, length-drop (6 + n) bytes)) in
    let N = number_back16 0 (length x.0.0) bytes fits (omega arith) (lens.name_is ∙ sym name_len) in
    let V = number_back32 (2 + n) (length x.0.1) bytes fits (omega arith) (lens.value_is ∙ sym value_len) in
    let six : 2 + n + 4 ≡ 6 + n = omega arith in
    let a = cut_at 0 2 bytes (to_be_bytes w16 (length x.0.0)) N in
    let b = cut_at 2 n bytes x.0.0 name.0 in
    let c = cut_at (2 + n) 4 bytes (to_be_bytes w32 (length x.0.1)) V ∙ ap (λ (k : ℕ). to_be_bytes w32 (length x.0.1) ++ drop k bytes) six in
    let d = cut_at (6 + n) v bytes x.0.1 value.0 ∙ ap (λ (w : List ℕ). x.0.1 ++ w) (sym parts.4) in
    let N' = to_be_bytes w16 (length x.0.0) in
    let V' = to_be_bytes w32 (length x.0.1) in
    let whole : bytes ≡ N' ++ (x.0.0 ++ (V' ++ (x.0.1 ++ x.1))) = a ∙ ap (λ (w : List ℕ). N' ++ w) (b ∙ ap (λ (w : List ℕ). x.0.0 ++ w) (c ∙ ap (λ (w : List ℕ). V' ++ w) d)) in
    let below : number_at w16 0 bytes < 2 ^ 16 = wide16.below (take 2 bytes) (AreBytes-take 2 bytes fits) in (
      whole ∙ join_pair N' x.0.0 V' x.0.1 x.1,
      record { name = omega (arith, below, lens.name_is, name_len); value = omega (arith, lens.value, value_len); name_text = name.1; value_text = value.1 },
      subst AreBytes (sym parts.4) (AreBytes-drop (6 + n + v) bytes fits),
    )

-- ---- all pairs

map_some : {A B : Type 0} (f : A → B) (o : Option A) (y : B) → option_map f o ≡ Some y → (x : A) × (o ≡ Some x) × (f x ≡ y)
map_some f (Some x) y e = (x, refl, same_Some _ y e)
map_some f None y e = absurd cc

pairs_take : (n : ℕ) (bytes : List ℕ) (ps : List Pair) → AreBytes bytes → pairs_within n bytes ≡ Some ps → (bytes ≡ pairs_text ps) × AllByRecursion FitsPair ps
pairs_take n [] ps fits e = subst (λ (w : List Pair). ([] ≡ pairs_text w) × AllByRecursion FitsPair w) (same_Some [] ps e) (refl, tt)
pairs_take zero (b ∷ bytes) ps fits e = absurd cc
pairs_take (suc n) (b ∷ bytes) ps fits e =
    let first = bind_some (first_pair (b ∷ bytes)) (λ first. option_map (λ others. first.0 ∷ others) (pairs_within n first.1)) ps e in
    let others = map_some (λ others. first.0.0 ∷ others) (pairs_within n first.0.1) ps first.2 in
    let taken = pair_takes (b ∷ bytes) first.0 fits first.1 in
    let behind = pairs_take n first.0.1 others.0 taken.2 others.1 in
    subst (λ (w : List Pair). (b ∷ bytes ≡ pairs_text w) × AllByRecursion FitsPair w) others.2 (taken.0 ∙ ap (λ (w : List ℕ). pair_text first.0.0 ++ w) behind.0, (taken.1, behind.1))

-- ---- the header

record LenParts (bytes : List ℕ) (r : ℕ) : Type 0 where
  ext : ℕ
  remark : r < 2 ^ 31
  few : ext < 2 ^ 31
  all : length bytes ≡ 21 + r + ext
  remark_is : number_at w32 13 bytes ≡ r
  ext_is : number_at w32 (17 + r) bytes ≡ ext

len_parts : (bytes : List ℕ) (r : ℕ) → remark_len_of bytes ≡ Some r → LenParts bytes r
unfolding remark_len_of remark_fits ext_len_of
len_parts bytes r e =
    let remark = number_at w32 13 bytes in
    let ext = number_at w32 (17 + remark) bytes in
    let a = past_none (ltb (length bytes) 21) _ r e in
    let b = past_none (not (ltb remark (2 ^ 31)) || ltb (length bytes) (21 + remark)) _ r a.1 in
    let c = past_test (ltb ext (2 ^ 31)) _ r b.1 in
    let d = past_test (eqb (length bytes) (21 + remark + ext)) _ r c.1 in
    let t = neither (ltb remark (2 ^ 31)) (ltb (length bytes) (21 + remark)) b.0 in
    subst (LenParts bytes) (same_Some remark r d.1) (record { ext = ext; remark = ltb-true _ _ t.0; few = ltb-true _ _ c.0; all = eqb-true _ _ d.0; remark_is = refl; ext_is = refl })

record HeaderParts (bytes : List ℕ) (h : Head) : Type 0 where
  len : ℕ
  pairs : List Pair
  len_is : remark_len_of bytes ≡ Some len
  remark_is : text_of (take len (drop 17 bytes)) ≡ Some h.remark
  pairs_are : binary_pairs (drop (21 + len) bytes) ≡ Some pairs
  last : h.ext ≡ by_name pairs
  code : h.code ≡ cast_signed w16 (number_at w16 0 bytes)
  version : h.version ≡ cast_signed w16 (number_at w16 3 bytes)
  opaque : h.opaque ≡ cast_signed w32 (number_at w32 5 bytes)
  flag : h.flag ≡ cast_signed w32 (number_at w32 9 bytes)

header_parts : (bytes : List ℕ) (h : Head) → binary_header bytes ≡ Some h → HeaderParts bytes h
unfolding binary_header
header_parts bytes h e =
    let len = bind_some (remark_len_of bytes) _ h e in
    let remark = bind_some (text_of (take len.0 (drop 17 bytes))) _ h len.2 in
    let ext = bind_some (option_map by_name (binary_pairs (drop (21 + len.0) bytes))) _ h remark.2 in
    let pairs = map_some by_name (binary_pairs (drop (21 + len.0) bytes)) ext.0 ext.1 in
    subst (HeaderParts bytes) (same_Some _ h ext.2) (record { len = len.0; pairs = pairs.0; len_is = len.1; remark_is = remark.1; pairs_are = pairs.1; last = sym pairs.2; code = refl; version = refl; opaque = refl; flag = refl })

-- a signed number's bytes
back16 : (z : ℤ) (n : ℕ) → n < 2 ^ 16 → z ≡ cast_signed w16 n → n ≡ cast_unsigned w16 z
back16 z n lt e = sym (ap (cast_unsigned w16) e ∙ of_z-to_z w16 n lt)

back32 : (z : ℤ) (n : ℕ) → n < 2 ^ 32 → z ≡ cast_signed w32 n → n ≡ cast_unsigned w32 z
back32 z n lt e = sym (ap (cast_unsigned w32) e ∙ of_z-to_z w32 n lt)

signed_fits16 : (n : ℕ) → n < 2 ^ 16 → FitsSigned w16 (cast_signed w16 n)
signed_fits16 n lt = sfits_to_z {w = w16} {n = n} (record { fits = lt })

signed_fits32 : (n : ℕ) → n < 2 ^ 32 → FitsSigned w32 (cast_signed w32 n)
signed_fits32 n lt = sfits_to_z {w = w32} {n = n} (record { fits = lt })

join_header : (C L V O F R remark E pairs : List ℕ) → C ++ (L ++ (V ++ (O ++ (F ++ (R ++ (remark ++ (E ++ pairs))))))) ≡ ((((C ++ L) ++ V) ++ O) ++ F) ++ (R ++ remark) ++ (E ++ pairs)
join_header C L V O F R remark E pairs = sym (simp append_assoc)

-- what is read is spelled so
pub binary_takes : (bytes : List ℕ) (h : Head) → AreBytes bytes → binary_header bytes ≡ Some h → IsBinary bytes h
unfolding header_bytes numbers_text sized sized_pairs
binary_takes bytes h fits e =
    let parts = header_parts bytes h e in
    let r = parts.len in
    let len = len_parts bytes r parts.len_is in
    let all : length bytes ≡ 21 + r + len.ext = len.all in
    let remark = text_parts (take r (drop 17 bytes)) h.remark parts.remark_is in
    let tail = drop (21 + r) bytes in
    let pairs = pairs_take (length tail) tail parts.pairs (AreBytes-drop (21 + r) bytes fits) parts.pairs_are in
    let remark_len : length h.remark ≡ r = ap (λ (w : List ℕ). length w) (sym remark.0) ∙ length-take-le r (drop 17 bytes) (omega (arith, length-drop 17 bytes)) in
    let pairs_len : pairs_size parts.pairs ≡ len.ext = sym (length-pairs_text parts.pairs) ∙ ap (λ (w : List ℕ). length w) (sym pairs.0) ∙ omega (arith, length-drop (21 + r) bytes) in
    let code_fits : number_at w16 0 bytes < 2 ^ 16 = wide16.below (take 2 bytes) (AreBytes-take 2 bytes fits) in
    let version_fits : number_at w16 3 bytes < 2 ^ 16 = wide16.below (take 2 (drop 3 bytes)) (AreBytes-take 2 (drop 3 bytes) (AreBytes-drop 3 bytes fits)) in
    let opaque_fits : number_at w32 5 bytes < 2 ^ 32 = wide32.below (take 4 (drop 5 bytes)) (AreBytes-take 4 (drop 5 bytes) (AreBytes-drop 5 bytes fits)) in
    let flag_fits : number_at w32 9 bytes < 2 ^ 32 = wide32.below (take 4 (drop 9 bytes)) (AreBytes-take 4 (drop 9 bytes) (AreBytes-drop 9 bytes fits)) in
    let language = get_or bytes 2 0 in
    let C = to_be_bytes w16 (cast_unsigned w16 h.code) in
    let V = to_be_bytes w16 (cast_unsigned w16 h.version) in
    let O = to_be_bytes w32 (cast_unsigned w32 h.opaque) in
    let F = to_be_bytes w32 (cast_unsigned w32 h.flag) in
    let R = to_be_bytes w32 (length h.remark) in
    let E = to_be_bytes w32 (pairs_size parts.pairs) in
    let end : 17 + r + 4 ≡ 21 + r = omega arith in
    let c1 = cut_at 0 2 bytes C (number_back16 0 (cast_unsigned w16 h.code) bytes fits (omega arith) (back16 h.code _ code_fits parts.code)) in
    let c2 : drop 2 bytes ≡ (language ∷ []) ++ drop 3 bytes = drop-cons bytes 2 0 (omega arith) in
    let c3 = cut_at 3 2 bytes V (number_back16 3 (cast_unsigned w16 h.version) bytes fits (omega arith) (back16 h.version _ version_fits parts.version)) in
    let c4 = cut_at 5 4 bytes O (number_back32 5 (cast_unsigned w32 h.opaque) bytes fits (omega arith) (back32 h.opaque _ opaque_fits parts.opaque)) in
    let c5 = cut_at 9 4 bytes F (number_back32 9 (cast_unsigned w32 h.flag) bytes fits (omega arith) (back32 h.flag _ flag_fits parts.flag)) in
    let c6 = cut_at 13 4 bytes R (number_back32 13 (length h.remark) bytes fits (omega arith) (len.remark_is ∙ sym remark_len)) in
    let c7 = cut_at 17 r bytes h.remark remark.0 in
    let c8 = cut_at (17 + r) 4 bytes E (number_back32 (17 + r) (pairs_size parts.pairs) bytes fits (omega arith) (len.ext_is ∙ sym pairs_len)) ∙ ap (λ (k : ℕ). E ++ drop k bytes) end in
    let whole : bytes ≡ C ++ ((language ∷ []) ++ (V ++ (O ++ (F ++ (R ++ (h.remark ++ (E ++ pairs_text parts.pairs))))))) =
    c1 ∙ ap (λ (w : List ℕ). C ++ w) (c2 ∙ ap (λ (w : List ℕ). (language ∷ []) ++ w) (c3 ∙ ap (λ (w : List ℕ). V ++ w) (c4 ∙ ap (λ (w : List ℕ). O ++ w) (c5 ∙ ap (λ (w : List ℕ). F ++ w) (c6 ∙ ap (λ (w : List ℕ). R ++ w) (c7 ∙ ap (λ (w : List ℕ). h.remark ++ w) (c8 ∙ ap (λ (w : List ℕ). E ++ w) pairs.0))))))) in
    record {
      language = language;
      pairs = parts.pairs;
      spelled = whole ∙ join_header C (language ∷ []) V O F R h.remark E (pairs_text parts.pairs);
      last = parts.last;
      bits = record { code = subst (FitsSigned w16) (sym parts.code) (signed_fits16 _ code_fits); version = subst (FitsSigned w16) (sym parts.version) (signed_fits16 _ version_fits) };
      opaque = subst (FitsSigned w32) (sym parts.opaque) (signed_fits32 _ opaque_fits);
      flag = subst (FitsSigned w32) (sym parts.flag) (signed_fits32 _ flag_fits);
      remark = omega (arith, len.remark, remark_len);
      remark_text = remark.1;
      size = omega (arith, len.few, pairs_len);
      each = pairs.1;
    }

all_names : (ps : List Pair) → AllByRecursion FitsPair ps → AllByRecursion (λ p. length p.0 < 2 ^ 16) ps
all_names [] fits = tt
all_names (p ∷ ps) fits = (fits.0.name, all_names ps fits.1)

-- what is read can be written
pub read_fits : (bytes : List ℕ) (h : Head) → IsBinary bytes h → FitsLengths h
read_fits bytes h is =
    let names : All (λ p. length p.0 < 2 ^ 16) h.ext =
    subst (λ (w : List Pair). All (λ p. length p.0 < 2 ^ 16) w) (sym is.last) (each_index (λ p. length p.0 < 2 ^ 16) (by_name is.pairs) (by_name_names (λ name. length name < 2 ^ 16) is.pairs (all_names is.pairs is.each))) in
    record { remark = is.remark; pairs = omega (arith, by_name_size is.pairs, ap pairs_size is.last, is.size); names = names }
