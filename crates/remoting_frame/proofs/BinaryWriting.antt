-- Appending a header in binary form.
use Rattle.std.proofs.Common.{◌≡◌, ℕ, ℤ, zero, suc, add-one, ◌+◌, ◌<◌, ◌≤◌, List, [], ◌∷◌, ◌++◌, length, get_or, take, refl, sym, ap, subst, ◌∙◌, arith, append_assoc, append-nil, length-append}
use Rattle.std.specs.Prelude.{Result, Ok, Err, OnErr}
use Rattle.std.specs.Int.{w16, w32, to_be_bytes, cast_unsigned}
use Rattle.std.specs.List.{AllByRecursion}
use Rattle.std.proofs.Math.Seq.{take-append_seam}
use Rattle.std.proofs.lemmas.List.{take-take, take_more}
use Rattle.remoting_frame.specs.Head.{Head, pairs_size}
use Rattle.remoting_frame.specs.Appends.{KeepsFront}
use Rattle.remoting_frame.specs.Headers.{words, front_bytes}
use Rattle.remoting_frame.specs.declared.frame.Form.TheVariants.{Binary}
use Rattle.remoting_frame.specs.BinaryText.{FitsLengths, sized, pair_text, pairs_text, sized_pairs, numbers_text, header_bytes, binary_text}

abbrev Pair : Type 0
Pair = List ℕ × List ℕ

-- ---- what is kept where memory runs out

pub keeps_one : (old a : List ℕ) → KeepsFront old (old ++ a)
keeps_one old a = take-append_seam old a

front_within : (n : ℕ) (xs ys : List ℕ) → take (length xs) ys ≡ xs → n ≤ length xs → take n ys ≡ take n xs
front_within n xs ys e le = sym (take-take n (length xs) ys le) ∙ ap (take n) e

-- what keeps more keeps less
pub keeps_through : (old a new : List ℕ) → KeepsFront (old ++ a) new → KeepsFront old new
keeps_through old a new e =
    let within : length old ≤ length (old ++ a) = omega (arith, length-append old a) in
    front_within (length old) (old ++ a) new e within ∙ take-append_seam old a

pub on_err : {X E P : Type 0} (r : Result X E) → P → OnErr r P
on_err (Ok x) p = tt
on_err (Err e) p = p

-- the same behind one text, and behind two
pub kept_behind : (old a mid new : List ℕ) → mid ≡ old ++ a → KeepsFront mid new → KeepsFront old new
kept_behind old a mid new e kept = keeps_through old a new (subst (λ (w : List ℕ). KeepsFront w new) e kept)

pub kept_behind_two : (old a b mid far new : List ℕ) → mid ≡ old ++ a → far ≡ mid ++ b → KeepsFront far new → KeepsFront old new
kept_behind_two old a b mid far new d e kept = kept_behind old a mid new d (kept_behind mid b far new e kept)

-- ---- numbers

pub numbers_cells : (c v o f : ℤ) (code version opaque flag : List ℕ) → code ≡ to_be_bytes w16 (cast_unsigned w16 c) → version ≡ to_be_bytes w16 (cast_unsigned w16 v) → opaque ≡ to_be_bytes w32 (cast_unsigned w32 o) → flag ≡ to_be_bytes w32 (cast_unsigned w32 f)
    → get_or code 0 0 ∷ get_or code 1 0 ∷ 7 ∷ get_or version 0 0 ∷ get_or version 1 0 ∷ get_or opaque 0 0 ∷ get_or opaque 1 0 ∷ get_or opaque 2 0 ∷ get_or opaque 3 0 ∷ get_or flag 0 0 ∷ get_or flag 1 0 ∷ get_or flag 2 0 ∷ get_or flag 3 0 ∷ [] ≡ numbers_text c 7 v o f
unfolding numbers_text
numbers_cells c v o f code version opaque flag d w p g = rw (d, w, p, g) refl

-- ---- pairs

pub pair_fits : (ps : List Pair) (i : ℕ) (item : Pair) → item ≡ get_or ps i item → i < length ps → 6 + length item.0 + length item.1 ≤ pairs_size ps
pair_fits [] i item is lt = absurd (omega arith)
pair_fits (p ∷ ps) zero item is lt = rw is (omega arith)
pair_fits (p ∷ ps) (suc i) item is lt = omega (arith, pair_fits ps i item is (omega arith))

pairs_text-append : (ps qs : List Pair) → pairs_text (ps ++ qs) ≡ pairs_text ps ++ pairs_text qs
pairs_text-append [] qs = refl
pairs_text-append (p ∷ ps) qs = ap (λ (w : List ℕ). pair_text p ++ w) (pairs_text-append ps qs) ∙ sym (append_assoc (pair_text p) (pairs_text ps) (pairs_text qs))

-- one pair more
pub pairs_next : (ps : List Pair) (i : ℕ) (item : Pair) (start so_far new : List ℕ) → item ≡ get_or ps i item → i < length ps → so_far ≡ start ++ pairs_text (take i ps) → new ≡ so_far ++ pair_text item → new ≡ start ++ pairs_text (take (i + 1) ps)
pairs_next ps i item start so_far new is lt e d =
    let more : take (i + 1) ps ≡ take i ps ++ item ∷ [] = take_more ps i item lt ∙ ap (λ (w : Pair). take i ps ++ w ∷ []) (sym is) in
    let text : pairs_text (take (i + 1) ps) ≡ pairs_text (take i ps) ++ pair_text item = ap pairs_text more ∙ pairs_text-append (take i ps) (item ∷ []) ∙ ap (λ (w : List ℕ). pairs_text (take i ps) ++ w) (append-nil (pair_text item)) in
    d ∙ ap (λ (w : List ℕ). w ++ pair_text item) e ∙ append_assoc start (pairs_text (take i ps)) (pair_text item) ∙ ap (λ (w : List ℕ). start ++ w) (sym text)

all_suc : (P : Pair → Type 0) (ps : List Pair) (i : ℕ) (item : Pair) → item ≡ get_or ps i item → i < length ps → AllByRecursion P (take i ps) → P item → AllByRecursion P (take (suc i) ps)
all_suc P [] i item is lt all one = absurd (omega arith)
all_suc P (p ∷ ps) zero item is lt all one = (subst P is one, tt)
all_suc P (p ∷ ps) (suc i) item is lt all one = (all.0, all_suc P ps i item is (omega arith) all.1 one)

-- what holds of the items so far, and of one more
pub all_next : (P : Pair → Type 0) (ps : List Pair) (i : ℕ) (item : Pair) → item ≡ get_or ps i item → i < length ps → AllByRecursion P (take i ps) → P item → AllByRecursion P (take (i + 1) ps)
all_next P ps i item is lt all one = rw (add-one i) (all_suc P ps i item is lt all one)

-- ---- lengths

length-pair_text : (p : Pair) → length (pair_text p) ≡ 6 + length p.0 + length p.1
unfolding pair_text sized
length-pair_text p = omega (arith, length-append (to_be_bytes w16 (length p.0) ++ p.0) (to_be_bytes w32 (length p.1) ++ p.1), length-append (to_be_bytes w16 (length p.0)) p.0, length-append (to_be_bytes w32 (length p.1)) p.1)

pub length-pairs_text : (ps : List Pair) → length (pairs_text ps) ≡ pairs_size ps
length-pairs_text [] = refl
length-pairs_text (p ∷ ps) = omega (arith, length-append (pair_text p) (pairs_text ps), length-pair_text p, length-pairs_text ps)

pub length-numbers_text : (code : ℤ) (language : ℕ) (version opaque flag : ℤ) → length (numbers_text code language version opaque flag) ≡ 13
unfolding numbers_text
length-numbers_text code language version opaque flag = refl

pub length-sized : (text : List ℕ) → length (sized text) ≡ 4 + length text
unfolding sized
length-sized text = omega (arith, length-append (to_be_bytes w32 (length text)) text)

pub length-sized_pairs : (ps : List Pair) → length (sized_pairs ps) ≡ 4 + pairs_size ps
unfolding sized_pairs
length-sized_pairs ps = omega (arith, length-append (to_be_bytes w32 (pairs_size ps)) (pairs_text ps), length-pairs_text ps)

abbrev pub numbers_of : Head → ℕ → List ℕ
numbers_of h language = numbers_text h.code language h.version h.opaque h.flag

pub length-header_bytes : (h : Head) (language : ℕ) (ps : List Pair) → length (header_bytes h language ps) ≡ 21 + length h.remark + pairs_size ps
unfolding header_bytes
length-header_bytes h language ps =
    omega (arith, length-append (numbers_of h language ++ sized h.remark) (sized_pairs ps), length-append (numbers_of h language) (sized h.remark), length-numbers_text h.code language h.version h.opaque h.flag, length-sized h.remark, length-sized_pairs ps)

-- a header, put together
pub header_whole : (h : Head) (old first second third numbers remark : List ℕ) (ext : List Pair) → numbers ≡ numbers_of h 7 → remark ≡ h.remark → ext ≡ h.ext → first ≡ old ++ numbers → second ≡ first ++ sized remark → third ≡ second ++ sized_pairs ext → third ≡ old ++ binary_text h
unfolding header_bytes
header_whole h old first second third numbers remark ext n r e a b c =
    c ∙ ap (λ (w : List ℕ). w ++ sized_pairs ext) (b ∙ ap (λ (w : List ℕ). w ++ sized remark) a) ∙ rw (n, r, e) (ap (λ (w : List ℕ). w ++ sized_pairs h.ext) (append_assoc old (numbers_of h 7) (sized h.remark)) ∙ append_assoc old (numbers_of h 7 ++ sized h.remark) (sized_pairs h.ext))

-- ---- names of short headers

get_or_self : (ps : List Pair) (k : ℕ) (d : Pair) → k < length ps → get_or ps k d ≡ get_or ps k (get_or ps k d)
get_or_self [] k d lt = absurd (omega arith)
get_or_self (p ∷ ps) zero d lt = refl
get_or_self (p ∷ ps) (suc k) d lt = get_or_self ps k d (omega arith)

-- with at most 65,536 bytes of remark and pairs, each name has a length of two bytes
pub short_fits : (h : Head) → length h.remark + pairs_size h.ext ≤ 65536 → FitsLengths h
short_fits h short = record {
  remark = omega (arith, short);
  pairs = omega (arith, short);
  names = λ k d lt. omega (arith, short, pair_fits h.ext k (get_or h.ext k d) (get_or_self h.ext k d lt) lt);
}

-- a front, put together
pub front_whole : (h : Head) (body len : ℕ) (old mid new : List ℕ) → len ≡ 21 + length h.remark + pairs_size h.ext → mid ≡ old ++ words 1 len body → new ≡ mid ++ binary_text h → new ≡ old ++ front_bytes Binary h body
front_whole h body len old mid new size first second =
    let same : len ≡ length (binary_text h) = size ∙ sym (length-header_bytes h 7 h.ext) in
    second ∙ ap (λ (w : List ℕ). w ++ binary_text h) (first ∙ ap (λ (n : ℕ). old ++ words 1 n body) same) ∙ append_assoc old (words 1 (length (binary_text h)) body) (binary_text h)
