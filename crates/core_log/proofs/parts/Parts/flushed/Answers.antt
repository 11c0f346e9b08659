use Rattle.std.proofs.Common.{sym, subst, ◌≤◌, ◌<◌, ◌^◌}
use Rattle.mq_outside.specs.Covers.{piece_start, piece_end}
use Rattle.mq_outside.specs.declared.frozen.Frozen.{Frozen}
use Rattle.core_log.proofs.FlushLemmas.{HasPushed, piece_fits, flushes, shown_flushed}
use Rattle.core_log.proofs.parts.Parts.flushed.Goals as goal

pub push-requires-clause-behind : goal.push-requires-clause-behind
push-requires-clause-behind c =
    subst (λ (p : Frozen). c.args.self.now.stored.end ≤ piece_start p) (sym c.keeping.ensures)
    (piece_fits c.args.self.now c.requires.some.0 c.args.receipt.now c.requires.some.1 c.requires.receipt).1

pub push-requires-clause-fits : goal.push-requires-clause-fits
push-requires-clause-fits c =
    subst (λ (p : Frozen). piece_end p < 2 ^ 64) (sym c.keeping.ensures)
    (piece_fits c.args.self.now c.requires.some.0 c.args.receipt.now c.requires.some.1 c.requires.receipt).2

pub returns-clause-carries : goal.returns-clause-carries
returns-clause-carries c s are =
    flushes c.args.self.now s c.args.receipt.now c.push.new.self c.flushed-bytes.new.self are c.requires.receipt
    (subst (λ (p : Frozen). HasPushed c.args.self.now.stored p c.push.new.self) c.keeping.ensures
    (record { added = c.push.ensures.added; kept = c.push.ensures.kept; holds = c.push.ensures.holds; fresh = c.push.ensures.fresh; end = c.push.ensures.end }))
    c.flushed-bytes.ensures.flushed (c.flushed-bytes.ensures.log s.log are.pending)

pub returns-clause-shown : goal.returns-clause-shown
returns-clause-shown c =
    shown_flushed c.args.self.now c.requires.some.0 c.args.receipt.now c.flushed-bytes.new.self c.requires.some.1 c.requires.receipt c.flushed-bytes.ensures.flushed
