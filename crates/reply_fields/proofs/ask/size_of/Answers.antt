use Rattle.std.proofs.Common.{arith, ◌^◌}
use Rattle.record_codec.proofs.DraftLemmas.{HasNoFault-from}
use Rattle.reply_fields.proofs.ask.size_of.Goals as goal

pub returns-clause-within : goal.returns-clause-within
returns-clause-within c =
    let fault = HasNoFault-from (2 ^ 30) c.args.message.now c.in-Ok.ensures.passes.0 in
    omega (arith, fault.fits, c.in-Ok.ensures.passes.1)
