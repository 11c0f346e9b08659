use Rattle.std.proofs.Common.{◌≡◌, ◌∙◌, sym}
use Rattle.log_opening.proofs.FreezeLemmas.{files_apart}
use Rattle.log_opening.proofs.freezing.make_durable.Goals as goal

pub sync_ended-requires-clause-apart : goal.sync_ended-requires-clause-apart
sync_ended-requires-clause-apart g c = λ same.
    files_apart c.args.base c.args.next c.requires.ordered c.ranges.next.fits
    (sym (c.as_str.ensures ∙ c.of-file.ensures) ∙ same ∙ (c.as_str-then-next-end.ensures ∙ c.of-behind.ensures))
