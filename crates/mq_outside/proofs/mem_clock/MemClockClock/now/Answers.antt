use Rattle.std.proofs.Common.{arith, ◌≡◌, ◌+◌, ◌++◌, ◌∷◌, [], ◌∙◌, ap, ℕ}
use Rattle.std.proofs.lemmas.Grind.{common_steps}
use Rattle.std.proofs.lemmas.List.FromFn.{map-range_with_len_more}
use Rattle.mq_outside.specs.MemClock.{first_readings, reading_at}
use Rattle.mq_outside.proofs.mem_clock.MemClockClock.now.Goals as goal

pub returns-clause-given : goal.returns-clause-given
returns-clause-given c =
    let readings = c.args.self.now.list.items in
    let given = c.args.self.now.given in
    let one_more : c.in-Some.given ≡ given + 1 = grind (arith, common_steps) in
    let is : reading_at readings given ≡ c.index-now.result.now = grind (arith, common_steps) in
    ap (first_readings readings) one_more ∙ map-range_with_len_more (reading_at readings) 0 given given (omega arith)
    ∙ ap (λ (now : ℕ). first_readings readings given ++ now ∷ []) is
