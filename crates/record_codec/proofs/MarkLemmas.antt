-- Names that are marked, and those that are looked up among the names before them.
use Rattle.std.proofs.Common.{◌≡◌, ℕ, ◌+◌, ◌-◌, ◌<◌, ◌++◌, List, [], ◌∷◌, length, get_or, take, true, false, not, Some, refl, sym, ap, subst, ◌∙◌, inl, inr, append_assoc, arith, length-append}
use Rattle.std.specs.Prelude.{bit_and, bit_or}
use Rattle.std.specs.Str.{bytes_eq}
use Rattle.std.proofs.lemmas.Bool.{and_parts, and_from, and_right, or_parts, or_from, not-true, cases_Bool, cases_eq, false_from_ne_true, eqb-true, eq-eqb}
use Rattle.std.proofs.lemmas.List.{append-nil, get_or-set_same, get_or-set_other}
use Rattle.std.proofs.lemmas.Nat.{and_or_self, and_assoc, or_comm}
use Rattle.std.proofs.lemmas.Slice.Eq.{bytes_eq-Decides}
use Rattle.std.proofs.Math.Seq.{take-append_seam}
use Rattle.mq_bytes.specs.Crc.{crc_of}
use Rattle.record_codec.specs.Marks.{word_of, bits_of, is_marked, marked, are_marked}
use Rattle.record_codec.specs.Props.{pair_text, written, are_pairs, is_pair, has_name, are_distinct, pairs_in, next_written}
use Rattle.record_codec.proofs.PairTexts.{pairs_take, pairs_again}
use Rattle.record_codec.proofs.ScanLemmas.{nothing_some}
use Rattle.record_codec.proofs.WrittenLemmas.{written_goes}

-- ---- names

alike : (a b : List ℕ) → bytes_eq a b ≡ true → bytes_eq b a ≡ true
alike a b same = (bytes_eq-Decides b a).1 (sym ((bytes_eq-Decides a b).0 same))

apart : (a b : List ℕ) → bytes_eq a b ≡ false → bytes_eq b a ≡ false
apart a b other = false_from_ne_true _ (λ t. let same : bytes_eq a b ≡ true = alike b a t in absurd cc)

comes_later : (name : List ℕ) (p : List ℕ × List ℕ) (seen left : List (List ℕ × List ℕ)) → bytes_eq name p.0 ≡ true → has_name name (seen ++ p ∷ left) ≡ true
comes_later name p [] left same = rw same refl
comes_later name p (q ∷ seen) left same =
    elim (cases_Bool (bytes_eq name q.0)) [
      | inl here ↦ rw here refl
      | inr later ↦ rw later (comes_later name p seen left same)
    ]

-- a name that comes again
pub repeats : (p : List ℕ × List ℕ) (seen left : List (List ℕ × List ℕ)) → has_name p.0 seen ≡ true → are_distinct (seen ++ p ∷ left) ≡ false
repeats p [] left h = absurd cc
repeats p (q ∷ seen) left h =
    elim (cases_Bool (bytes_eq p.0 q.0)) [
      | inl same ↦ rw (comes_later q.0 p seen left (alike p.0 q.0 same)) refl
      | inr other ↦ and_right _ _ (repeats p seen left (rw other at h))
    ]

still_new : (name : List ℕ) (p : List ℕ × List ℕ) (seen : List (List ℕ × List ℕ)) → has_name name seen ≡ false → bytes_eq name p.0 ≡ false → has_name name (seen ++ p ∷ []) ≡ false
still_new name p [] new other = or_from _ _ other refl
still_new name p (q ∷ seen) new other =
    let parts = or_parts (bytes_eq name q.0) (has_name name seen) new in
    or_from _ _ parts.0 (still_new name p seen parts.1 other)

-- a new name behind the others
pub one_more : (p : List ℕ × List ℕ) (seen : List (List ℕ × List ℕ)) → has_name p.0 seen ≡ false → are_distinct seen ≡ true → are_distinct (seen ++ p ∷ []) ≡ true
one_more p [] new distinct = refl
one_more p (q ∷ seen) new distinct =
    let differ = or_parts (bytes_eq p.0 q.0) (has_name p.0 seen) new in
    let parts = and_parts (not (has_name q.0 seen)) (are_distinct seen) distinct in
    and_from _ _ (ap not (still_new q.0 p seen (not-true _ parts.0) (apart p.0 q.0 differ.0))) (one_more p seen differ.1 parts.1)

-- ---- marks

-- bits that are set stay set
kept : (a k m : ℕ) → bit_and a m ≡ m → bit_and (bit_or a k) m ≡ m
kept a k m h =
    let own : bit_and (bit_or a k) a ≡ a = ap (λ (x : ℕ). bit_and x a) (or_comm a k) ∙ and_or_self a k in
    ap (bit_and (bit_or a k)) (sym h) ∙ sym (and_assoc m (bit_or a k) a) ∙ ap (λ (x : ℕ). bit_and x m) own ∙ h

own_mark : (words : List ℕ) (sum : ℕ) → length words ≡ 4096 → is_marked (marked words sum) sum ≡ true
own_mark words sum all =
    let there = get_or-set_same words (word_of sum) (bit_or (get_or words (word_of sum) 0) (bits_of sum)) 0 (omega arith) in
    eq-eqb _ _ (ap (λ (w : ℕ). bit_and w (bits_of sum)) there ∙ and_or_self (bits_of sum) (get_or words (word_of sum) 0))

other_mark : (words : List ℕ) (sum other : ℕ) → length words ≡ 4096 → is_marked words other ≡ true → is_marked (marked words sum) other ≡ true
other_mark words sum other all h =
    let set : bit_and (get_or words (word_of other) 0) (bits_of other) ≡ bits_of other = eqb-true _ _ h in
    let word = bit_or (get_or words (word_of sum) 0) (bits_of sum) in
    elim (cases_eq (word_of other) (word_of sum)) [
      | inl same ↦
          let there : get_or (marked words sum) (word_of other) 0 ≡ bit_or (get_or words (word_of other) 0) (bits_of sum) =
          ap (λ (i : ℕ). get_or (marked words sum) i 0) same ∙ get_or-set_same words (word_of sum) word 0 (omega arith) ∙ ap (λ (i : ℕ). bit_or (get_or words i 0) (bits_of sum)) (sym same) in
          eq-eqb _ _ (ap (λ (w : ℕ). bit_and w (bits_of other)) there ∙ kept (get_or words (word_of other) 0) (bits_of sum) (bits_of other) set)
      | inr differ ↦ eq-eqb _ _ (ap (λ (w : ℕ). bit_and w (bits_of other)) (get_or-set_other words (word_of sum) (word_of other) word 0 differ) ∙ set)
    ]

-- marks stay, and a name's own are added
pub one_more_marked : (words : List ℕ) (p : List ℕ × List ℕ) (seen : List (List ℕ × List ℕ)) → length words ≡ 4096 → are_marked words seen ≡ true → are_marked (marked words (crc_of p.0)) (seen ++ p ∷ []) ≡ true
one_more_marked words p [] all h = and_from _ _ (own_mark words (crc_of p.0) all) refl
one_more_marked words p (q ∷ seen) all h =
    let parts = and_parts (is_marked words (crc_of q.0)) (are_marked words seen) h in
    and_from _ _ (other_mark words (crc_of p.0) (crc_of q.0) all parts.0) (one_more_marked words p seen all parts.1)

-- a name without marks is none of those that are marked
pub unmarked : (words name : List ℕ) (seen : List (List ℕ × List ℕ)) → are_marked words seen ≡ true → is_marked words (crc_of name) ≡ false → has_name name seen ≡ false
unmarked words name [] h none = refl
unmarked words name (p ∷ seen) h none =
    let parts = and_parts (is_marked words (crc_of p.0)) (are_marked words seen) h in
    let other : bytes_eq name p.0 ≡ false = false_from_ne_true _ (λ same.
    let there : is_marked words (crc_of name) ≡ true = ap (λ (n : List ℕ). is_marked words (crc_of n)) ((bytes_eq-Decides name p.0).0 same) ∙ parts.0 in
    absurd cc) in
    or_from _ _ other (unmarked words name seen parts.1 none)

-- ---- a text that was read up to a rest

written-parts : (a b : List (List ℕ × List ℕ)) → written (a ++ b) ≡ written a ++ written b
written-parts [] b = refl
written-parts (p ∷ a) b = ap (λ (w : List ℕ). pair_text p ++ w) (written-parts a b) ∙ sym (append_assoc (pair_text p) (written a) (written b))

front_pairs : (a b : List (List ℕ × List ℕ)) → are_pairs (a ++ b) ≡ true → are_pairs a ≡ true
front_pairs [] b h = refl
front_pairs (p ∷ a) b h =
    let parts = and_parts (is_pair p) (are_pairs (a ++ b)) h in
    and_from _ _ parts.0 (front_pairs a b parts.1)

-- the pairs in front of the rest have distinct names, which are marked
pub record IsSeen (text rest words : List ℕ) (ps seen : List (List ℕ × List ℕ)) : Type 0 where
  pub left : List (List ℕ × List ℕ)
  pub rest_is : pairs_in (length rest) rest ≡ Some left
  pub all : ps ≡ seen ++ left
  pub distinct : are_distinct seen ≡ true
  pub marks : are_marked words seen ≡ true

-- what stands in front of the rest is the text of these pairs
pub front_reads : (text rest words : List ℕ) (ps seen : List (List ℕ × List ℕ)) → pairs_in (length text) text ≡ Some ps → IsSeen text rest words ps seen
    → (let front = take (length text - length rest) text in pairs_in (length front) front ≡ Some seen)
front_reads text rest words ps seen h s =
    let whole = pairs_take (length text) text ps h in
    let behind = (pairs_take (length rest) rest s.left s.rest_is).0 in
    let split : text ≡ written seen ++ written s.left = whole.0 ∙ ap written s.all ∙ written-parts seen s.left in
    let long : length text ≡ length (written seen) + length (written s.left) = ap (λ (w : List ℕ). length w) split ∙ length-append (written seen) (written s.left) in
    let so_long : length text - length rest ≡ length (written seen) = omega (arith, long, ap (λ (w : List ℕ). length w) behind) in
    let front : take (length text - length rest) text ≡ written seen = ap (λ (n : ℕ). take n text) so_long ∙ ap (take (length (written seen))) split ∙ take-append_seam (written seen) (written s.left) in
    let pairs = front_pairs seen s.left (subst (λ (l : List (List ℕ × List ℕ)). are_pairs l ≡ true) s.all whole.1) in
    subst (λ (w : List ℕ). pairs_in (length w) w ≡ Some seen) (sym front) (pairs_again (length (written seen)) seen pairs (omega arith))

-- nothing was read yet
pub nothing_seen : (text words : List ℕ) (ps : List (List ℕ × List ℕ)) → pairs_in (length text) text ≡ Some ps → IsSeen text text words ps []
nothing_seen text words ps h = record { left = ps; rest_is = h; all = refl; distinct = refl; marks = refl }

-- the next pair has a new name
pub seen_next : (text rest words : List ℕ) (ps seen : List (List ℕ × List ℕ)) (r : List ℕ × List ℕ × List ℕ) → 0 < length rest → next_written rest ≡ Some r → length words ≡ 4096 → IsSeen text rest words ps seen
    → has_name r.0 seen ≡ false → IsSeen text r.2 (marked words (crc_of r.0)) ps (seen ++ (r.0, r.1) ∷ [])
seen_next text rest words ps seen r some next long s new =
    let more = written_goes rest r s.left some next s.rest_is in
    record {
      left = more.0;
      rest_is = more.1;
      all = s.all ∙ ap (λ (w : List (List ℕ × List ℕ)). seen ++ w) more.2 ∙ sym (append_assoc seen ((r.0, r.1) ∷ []) more.0);
      distinct = one_more (r.0, r.1) seen new s.distinct;
      marks = one_more_marked words (r.0, r.1) seen long s.marks;
    }

-- the next pair has a name that was seen
pub seen_again : (text rest words : List ℕ) (ps seen : List (List ℕ × List ℕ)) (r : List ℕ × List ℕ × List ℕ) → 0 < length rest → next_written rest ≡ Some r → IsSeen text rest words ps seen
    → has_name r.0 seen ≡ true → are_distinct ps ≡ false
seen_again text rest words ps seen r some next s again =
    let more = written_goes rest r s.left some next s.rest_is in
    ap are_distinct (s.all ∙ ap (λ (w : List (List ℕ × List ℕ)). seen ++ w) more.2) ∙ repeats (r.0, r.1) seen more.0 again

-- no pair is left
pub all_seen : (text rest words : List ℕ) (ps seen : List (List ℕ × List ℕ)) → length rest ≡ 0 → IsSeen text rest words ps seen → are_distinct ps ≡ true
all_seen text rest words ps seen none s =
    ap are_distinct (s.all ∙ ap (λ (w : List (List ℕ × List ℕ)). seen ++ w) (nothing_some rest s.left none s.rest_is) ∙ append-nil seen) ∙ s.distinct
