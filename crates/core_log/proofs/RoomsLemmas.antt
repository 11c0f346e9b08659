-- The room for one record and for two, as the parts tell it.
use Rattle.std.proofs.Common.{◌≡◌, ◌∙◌, refl, ap, sym, arith, ℕ, ◌+◌, ◌^◌, ◌≤◌, Bool, true, false, cond, List, [], ◌∷◌, length}
use Rattle.std.specs.Prelude.{◌||◌, nat_lt, sum_by}
use Rattle.std.proofs.lemmas.Bool.{ltb-false}
use Rattle.std.proofs.lemmas.List.Sums.{sum_by-cons}
use Rattle.record_codec.specs.Entry.{Entry}
use Rattle.record_codec.specs.Layout.{size}
use Rattle.record_codec.specs.Drafts.{draft_size}
use Rattle.record_codec.specs.declared.draft.Draft.{Draft}
use Rattle.log_model.specs.Log.{place_after}
use Rattle.log_model.specs.Numbered.{place_end, next_record, next_records, records_from, with_appended}
use Rattle.log_model.proofs.Places.{end_of-append}
use Rattle.pending_log.proofs.RemovalLemmas.{layouts_size}
use Rattle.broker_model.specs.State.{State, Setup, pending_bytes}
use Rattle.core_log.specs.declared.parts.Parts.{Parts}
use Rattle.core_log.specs.declared.room.Room.{Room}
use Rattle.core_log.specs.declared.room.Room.TheVariants.{Free, Past, Full}
use Rattle.core_log.specs.Represents.{Represents}
use Rattle.core_log.specs.Rooms.{room_of}
use Rattle.core_log.specs.Rooms.{is_past}

-- the room, by whether a record would end past all places and whether the buffer is full
abbrev pub told : Bool → Bool → ℕ → Room
told past over pending = cond past Past (cond over (Full pending) Free)

pub told_past : (past over : Bool) (n : ℕ) → past ≡ true → Past ≡ told past over n
told_past past over n is = ap (λ (b : Bool). told b over n) (sym is)

pub told_full : (past over : Bool) (n : ℕ) → past ≡ false → over ≡ true → Full n ≡ told past over n
told_full past over n low is = ap (λ (b : Bool). told false b n) (sym is) ∙ ap (λ (b : Bool). told b over n) (sym low)

pub told_free : (past over : Bool) (n : ℕ) → past ≡ false → over ≡ false → Free ≡ told past over n
told_free past over n low short = ap (λ (b : Bool). told false b n) (sym short) ∙ ap (λ (b : Bool). told b over n) (sym low)

-- room tells that there is room
pub free_fits : (past over : Bool) (n : ℕ) → told past over n ≡ Free → (past ≡ false) × (over ≡ false)
free_fits true over n is = cc is
free_fits false true n is = cc is
free_fits false false n is = (refl, refl)

-- one of two would, or none
pub either : (a b : Bool) → b ≡ true → (a || b) ≡ true
either true b is = refl
either false b is = is

pub first_one : (a b : Bool) → a ≡ true → (a || b) ≡ true
first_one a b is = ap (λ (c : Bool). c || b) is

pub neither : (a b : Bool) → a ≡ false → b ≡ false → (a || b) ≡ false
neither a b not_a not_b = ap (λ (c : Bool). c || b) not_a ∙ not_b

pub both_fit : (a b : Bool) → (a || b) ≡ false → (a ≡ false) × (b ≡ false)
both_fit true b is = cc is
both_fit false b is = (refl, is)

or_false : (b : Bool) → (b || false) ≡ b
or_false true = refl
or_false false = refl

sum_one : (r : Entry) → sum_by size (r ∷ []) ≡ size r
sum_one r = let all = sum_by-cons size r [] in omega (arith, all)

sum_two : (r x : Entry) → sum_by size (r ∷ x ∷ []) ≡ size r + size x
sum_two r x = let all = sum_by-cons size r (x ∷ []) in let rest = sum_one x in omega (arith, all, rest)

module _ (core : Parts) (s : State) (are : Represents core s) where
  pending_is : length core.pending.bytes ≡ pending_bytes s
  pending_is =
      ap (λ (l : List ℕ). length l) are.pending.bytes ∙ layouts_size (records_from s.log core.pending.flushed)
      ∙ ap (λ (k : ℕ). pending_bytes (record s { flushed = k })) are.numbers.flushed

  -- whether a record of so many bytes would end past all places, and whether the buffer has no room for so many bytes
  abbrev pub past_one : ℕ → Bool
  past_one bytes = nat_lt (2 ^ 62) (place_after core.pending.segment core.pending.end bytes + bytes)

  abbrev pub past_two : ℕ → ℕ → Bool
  past_two first second =
      nat_lt (2 ^ 62) (place_after core.setup.segment (place_after core.pending.segment core.pending.end first + first) second + second)

  abbrev pub over : ℕ → Bool
  over bytes = nat_lt 67108864 (length core.pending.bytes + bytes)

  pub room_one : (d : Draft) (time bytes : ℕ) → bytes ≡ draft_size d
      → told (past_one bytes) (over bytes) core.pending.flushed ≡ room_of s (next_records s.setup.segment time s.log (d ∷ []))
  room_one d time bytes is =
      let r = next_record s.setup.segment time s.log d in
      let S = s.setup.segment in
      ap (λ (k : ℕ). told (nat_lt (2 ^ 62) (place_after k core.pending.end bytes + bytes)) (over bytes) core.pending.flushed) are.numbers.segment
      ∙ ap (λ (k : ℕ). told (nat_lt (2 ^ 62) (place_after S k bytes + bytes)) (over bytes) core.pending.flushed) are.pending.end
      ∙ ap (λ (k : ℕ). told (nat_lt (2 ^ 62) (place_after S (place_end s.log) bytes + bytes)) (over bytes) k) are.numbers.flushed
      ∙ ap (λ (k : ℕ). told (nat_lt (2 ^ 62) (place_after S (place_end s.log) bytes + bytes)) (nat_lt 67108864 (k + bytes)) s.flushed) pending_is
      ∙ ap (λ (k : ℕ). told (nat_lt (2 ^ 62) (place_after S (place_end s.log) k + k)) (nat_lt 67108864 (pending_bytes s + k)) s.flushed) is
      ∙ ap (λ (k : ℕ). told (is_past r) (nat_lt 67108864 (pending_bytes s + k)) s.flushed) (sym (sum_one r))
      ∙ ap (λ (b : Bool). told b (nat_lt 67108864 (pending_bytes s + sum_by size (r ∷ []))) s.flushed) (sym (or_false (is_past r)))

  pub room_two : (d e : Draft) (time first second : ℕ) → first ≡ draft_size d → second ≡ draft_size e
      → told (past_one first || past_two first second) (over (first + second)) core.pending.flushed ≡ room_of s (next_records s.setup.segment time s.log (d ∷ e ∷ []))
  room_two d e time first second is is_too =
      let r = next_record s.setup.segment time s.log d in
      let x = next_record s.setup.segment time (with_appended s.log (r ∷ [])) e in
      let S = s.setup.segment in
      let n = draft_size d in
      let m = draft_size e in
      let end = end_of-append s.log.base s.log.records r in
      let p : ℕ → ℕ → ℕ → Bool = λ (k end n : ℕ). nat_lt (2 ^ 62) (place_after k end n + n) in
      let q : ℕ → ℕ → ℕ → ℕ → ℕ → Bool = λ (t k end n m : ℕ). nat_lt (2 ^ 62) (place_after t (place_after k end n + n) m + m) in
      let o : ℕ → ℕ → Bool = λ (b n : ℕ). nat_lt 67108864 (b + n) in
      let bytes = length core.pending.bytes in
      ap (λ (k : ℕ). told (p k core.pending.end first || q core.setup.segment k core.pending.end first second) (o bytes (first + second)) core.pending.flushed) are.numbers.segment
      ∙ ap (λ (t : Setup). told (p S core.pending.end first || q t.segment S core.pending.end first second) (o bytes (first + second)) core.pending.flushed) are.numbers.setup
      ∙ ap (λ (k : ℕ). told (p S k first || q S S k first second) (o bytes (first + second)) core.pending.flushed) are.pending.end
      ∙ ap (λ (k : ℕ). told (p S (place_end s.log) first || q S S (place_end s.log) first second) (o bytes (first + second)) k) are.numbers.flushed
      ∙ ap (λ (k : ℕ). told (p S (place_end s.log) first || q S S (place_end s.log) first second) (o k (first + second)) s.flushed) pending_is
      ∙ ap (λ (k : ℕ). told (p S (place_end s.log) k || q S S (place_end s.log) k second) (o (pending_bytes s) (k + second)) s.flushed) is
      ∙ ap (λ (k : ℕ). told (is_past r || q S S (place_end s.log) n k) (o (pending_bytes s) (n + k)) s.flushed) is_too
      ∙ ap (λ (k : ℕ). told (is_past r || nat_lt (2 ^ 62) (place_after S k m + m)) (o (pending_bytes s) (n + m)) s.flushed) (sym end)
      ∙ ap (λ (k : ℕ). told (is_past r || is_past x) (o (pending_bytes s) k) s.flushed) (sym (sum_two r x))
      ∙ ap (λ (b : Bool). told (is_past r || b) (o (pending_bytes s) (sum_by size (r ∷ x ∷ []))) s.flushed) (sym (or_false (is_past x)))

  -- where there is room, the record fits
  pub fits_one : (d : Draft) (time bytes : ℕ) → bytes ≡ draft_size d → room_of s (next_records s.setup.segment time s.log (d ∷ [])) ≡ Free
      → (place_after core.pending.segment core.pending.end bytes + bytes ≤ 2 ^ 62) × (length core.pending.bytes + bytes ≤ 67108864)
  fits_one d time bytes is free =
      let it = free_fits (past_one bytes) (over bytes) core.pending.flushed (room_one d time bytes is ∙ free) in
      (ltb-false (2 ^ 62) (place_after core.pending.segment core.pending.end bytes + bytes) it.0, ltb-false 67108864 (length core.pending.bytes + bytes) it.1)

  pub fits_two : (d e : Draft) (time first second : ℕ) → first ≡ draft_size d → second ≡ draft_size e → room_of s (next_records s.setup.segment time s.log (d ∷ e ∷ [])) ≡ Free
      → (place_after core.pending.segment core.pending.end first + first ≤ 2 ^ 62)
      × (place_after core.setup.segment (place_after core.pending.segment core.pending.end first + first) second + second ≤ 2 ^ 62)
      × (length core.pending.bytes + (first + second) ≤ 67108864)
  fits_two d e time first second is is_too free =
      let it = free_fits (past_one first || past_two first second) (over (first + second)) core.pending.flushed (room_two d e time first second is is_too ∙ free) in
      let places = both_fit (past_one first) (past_two first second) it.0 in (
        ltb-false (2 ^ 62) (place_after core.pending.segment core.pending.end first + first) places.0,
        ltb-false (2 ^ 62) (place_after core.setup.segment (place_after core.pending.segment core.pending.end first + first) second + second) places.1,
        ltb-false 67108864 (length core.pending.bytes + (first + second)) it.1,
      )
