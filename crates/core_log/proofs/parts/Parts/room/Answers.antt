use Rattle.std.proofs.Common.{rules, ◌≡◌, ◌∙◌, ap, sym, ℕ, ◌+◌, ◌^◌, nat_lt, true, false}
use Rattle.core_log.specs.declared.room.Room.TheVariants.{Full}
use Rattle.core_log.proofs.RoomsLemmas.{told_past, told_full, told_free, past_one, over, room_one}
use Rattle.core_log.proofs.parts.Parts.room.Goals as goal

pub returns-then-is_past_end : goal.returns-then-is_past_end
returns-then-is_past_end c s d time are is =
    let core = c.args.self.now in
    let size = c.args.size in
    let past : past_one core s are size ≡ true = ap (λ (p : ℕ). nat_lt (2 ^ 62) (p + size)) (sym c.next_place.ensures) ∙ sym c.is_past_end.ensures ∙ c.if-is_past_end.true in
    told_past (past_one core s are size) (over core s are size) core.pending.flushed past ∙ room_one core s are d time size is

pub returns-then-is_full : goal.returns-then-is_full
returns-then-is_full c s d time are is =
    let core = c.args.self.now in
    let size = c.args.size in
    let low : past_one core s are size ≡ false = ap (λ (p : ℕ). nat_lt (2 ^ 62) (p + size)) (sym c.next_place.ensures) ∙ sym c.is_past_end.ensures ∙ c.if-is_past_end.false in
    let full : over core s are size ≡ true = search rules in
    ap (λ (n : ℕ). Full n) c.flushed_count.ensures ∙ told_full (past_one core s are size) (over core s are size) core.pending.flushed low full ∙ room_one core s are d time size is

pub returns : goal.returns
returns c s d time are is =
    let core = c.args.self.now in
    let size = c.args.size in
    let low : past_one core s are size ≡ false = ap (λ (p : ℕ). nat_lt (2 ^ 62) (p + size)) (sym c.next_place.ensures) ∙ sym c.is_past_end.ensures ∙ c.if-is_past_end.false in
    let short : over core s are size ≡ false = search rules in
    told_free (past_one core s are size) (over core s are size) core.pending.flushed low short ∙ room_one core s are d time size is
