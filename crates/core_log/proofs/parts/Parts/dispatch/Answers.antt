use Rattle.std.proofs.Common.{◌∙◌, ap, ℕ, min, ◌+◌, ◌-◌, ◌^◌}
use Rattle.core_log.proofs.SeeLemmas.{to_is, range_of, seen_now, levels_now, dispatches}
use Rattle.core_log.proofs.parts.Parts.dispatch.Goals as goal

pub see-requires-clause-within : goal.see-requires-clause-within
see-requires-clause-within c =
    let some = c.requires.some in
    let old = c.args.self.now in
    let sum = c.saturating_add.ensures ∙ ap (λ (n : ℕ). min (old.dispatched + n) (2 ^ 64 - 1)) c.from.ensures in
    let to = c.min-to.ensures ∙ ap (λ (n : ℕ). min n c.saturating_add.result) c.flushed_count-flushed.ensures in
    (range_of old some.0 c.args.most c.min-to.result some.1 (to_is old some.0 c.args.most c.saturating_add.result c.min-to.result some.1 sum to)).within

pub returns-clause-carries : goal.returns-clause-carries
returns-clause-carries c s are =
    let old = c.args.self.now in
    let sum = c.saturating_add.ensures ∙ ap (λ (n : ℕ). min (old.dispatched + n) (2 ^ 64 - 1)) c.from.ensures in
    let to = c.min-to.ensures ∙ ap (λ (n : ℕ). min n c.saturating_add.result) c.flushed_count-flushed.ensures in
    let seen = c.see.ensures s.log are.rows are.tabled (seen_now old s are) in
    let levels = c.see_levels.ensures s.setup.segment s.log are.state.log are.rows seen.0 (levels_now old s are) in
    dispatches old s c.args.most c.min-to.result c.see.new.queues c.see_levels.new.levels levels are (to_is old s c.args.most c.saturating_add.result c.min-to.result are sum to) seen.0 seen.1

pub see_levels-requires-clause-some : goal.see_levels-requires-clause-some
see_levels-requires-clause-some c =
    let some = c.requires.some in
    let s = some.0 in
    let are = some.1 in
    let old = c.args.self.now in
    let seen = c.see.ensures s.log are.rows are.tabled (seen_now old s are) in
    (s.setup.segment, s.log, are.state.log, are.rows, seen.0, levels_now old s are)

pub see_levels-requires-clause-within : goal.see_levels-requires-clause-within
see_levels-requires-clause-within c =
    let some = c.requires.some in
    let old = c.args.self.now in
    let sum = c.saturating_add.ensures ∙ ap (λ (n : ℕ). min (old.dispatched + n) (2 ^ 64 - 1)) c.from.ensures in
    let to = c.min-to.ensures ∙ ap (λ (n : ℕ). min n c.saturating_add.result) c.flushed_count-flushed.ensures in
    (range_of old some.0 c.args.most c.min-to.result some.1 (to_is old some.0 c.args.most c.saturating_add.result c.min-to.result some.1 sum to)).within
