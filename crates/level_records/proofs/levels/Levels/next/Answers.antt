use Rattle.std.proofs.Common.{◌∙◌, ◌-◌, refl, arith}
use Rattle.level_records.proofs.LineLemmas.{next_waits, of_level, get_read}
use Rattle.level_records.proofs.levels.Levels.next.Goals as goal

pub returns : goal.returns
returns c log d r are next =
    let k = c.args.level - 1 in
    let first = c.requires.low in
    let last = c.requires.high in
    let all = are.waiting.all in
    let at = get_read c.args.self.now.waiting.items k c.index.result.now (omega (arith, all, first, last)) c.index.ensures in
    c.first.ensures ∙ next_waits log d c.args.level k r c.index.result.now refl (of_level c.args.level first) next (are.waiting.each k c.index.result.now at)
