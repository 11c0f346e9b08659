use Rattle.std.proofs.Common.{rules, ◌≡◌, ◌∙◌, ap, sym, ℕ, ◌+◌, ◌^◌, nat_lt, true, false}
use Rattle.log_model.specs.Log.{place_after}
use Rattle.core_log.specs.declared.room.Room.TheVariants.{Full}
use Rattle.core_log.proofs.RoomsLemmas.{told_past, told_full, told_free, either, first_one, neither, past_one, past_two, over, room_two}
use Rattle.core_log.proofs.parts.Parts.room_for_two.Goals as goal

pub returns-then-is_past_end : goal.returns-then-is_past_end
returns-then-is_past_end c s d e time are is is_too =
    let core = c.args.self.now in
    let first = c.args.first in
    let second = c.args.second in
    let past : past_one core s are first ≡ true = ap (λ (p : ℕ). nat_lt (2 ^ 62) (p + first)) (sym c.next_place-place.ensures) ∙ sym c.is_past_end.ensures ∙ c.if-is_past_end.true in
    let one = first_one (past_one core s are first) (past_two core s are first second) past in
    told_past _ (over core s are (first + second)) core.pending.flushed one ∙ room_two core s are d e time first second is is_too

pub returns-then-is_past_end-2 : goal.returns-then-is_past_end-2
returns-then-is_past_end-2 c s d e time are is is_too =
    let core = c.args.self.now in
    let first = c.args.first in
    let second = c.args.second in
    let there : past_two core s are first second ≡ true =
    ap (λ (p : ℕ). nat_lt (2 ^ 62) (place_after core.setup.segment (p + first) second + second)) (sym c.next_place-place.ensures)
    ∙ ap (λ (n : ℕ). nat_lt (2 ^ 62) (place_after core.setup.segment (c.next_place-place.result + n) second + second)) (sym c.from.ensures)
    ∙ ap (λ (p : ℕ). nat_lt (2 ^ 62) (p + second)) (sym c.next_place.ensures) ∙ sym c.is_past_end-2.ensures ∙ c.if-is_past_end-2.true in
    let one = either (past_one core s are first) (past_two core s are first second) there in
    told_past _ (over core s are (first + second)) core.pending.flushed one ∙ room_two core s are d e time first second is is_too

pub returns-then-is_full : goal.returns-then-is_full
returns-then-is_full c s d e time are is is_too =
    let core = c.args.self.now in
    let first = c.args.first in
    let second = c.args.second in
    let low : past_one core s are first ≡ false = ap (λ (p : ℕ). nat_lt (2 ^ 62) (p + first)) (sym c.next_place-place.ensures) ∙ sym c.is_past_end.ensures ∙ c.if-is_past_end.false in
    let low_too : past_two core s are first second ≡ false =
    ap (λ (p : ℕ). nat_lt (2 ^ 62) (place_after core.setup.segment (p + first) second + second)) (sym c.next_place-place.ensures)
    ∙ ap (λ (n : ℕ). nat_lt (2 ^ 62) (place_after core.setup.segment (c.next_place-place.result + n) second + second)) (sym c.from.ensures)
    ∙ ap (λ (p : ℕ). nat_lt (2 ^ 62) (p + second)) (sym c.next_place.ensures) ∙ sym c.is_past_end-2.ensures ∙ c.if-is_past_end-2.false in
    let full : over core s are (first + second) ≡ true = search rules in
    ap (λ (n : ℕ). Full n) c.flushed_count.ensures
    ∙ told_full _ (over core s are (first + second)) core.pending.flushed (neither (past_one core s are first) (past_two core s are first second) low low_too) full
    ∙ room_two core s are d e time first second is is_too

pub returns : goal.returns
returns c s d e time are is is_too =
    let core = c.args.self.now in
    let first = c.args.first in
    let second = c.args.second in
    let low : past_one core s are first ≡ false = ap (λ (p : ℕ). nat_lt (2 ^ 62) (p + first)) (sym c.next_place-place.ensures) ∙ sym c.is_past_end.ensures ∙ c.if-is_past_end.false in
    let low_too : past_two core s are first second ≡ false =
    ap (λ (p : ℕ). nat_lt (2 ^ 62) (place_after core.setup.segment (p + first) second + second)) (sym c.next_place-place.ensures)
    ∙ ap (λ (n : ℕ). nat_lt (2 ^ 62) (place_after core.setup.segment (c.next_place-place.result + n) second + second)) (sym c.from.ensures)
    ∙ ap (λ (p : ℕ). nat_lt (2 ^ 62) (p + second)) (sym c.next_place.ensures) ∙ sym c.is_past_end-2.ensures ∙ c.if-is_past_end-2.false in
    let short : over core s are (first + second) ≡ false = search rules in
    told_free _ (over core s are (first + second)) core.pending.flushed (neither (past_one core s are first) (past_two core s are first second) low low_too) short
    ∙ room_two core s are d e time first second is is_too
