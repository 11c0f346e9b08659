use Rattle.std.proofs.Common.{◌∙◌, ℤ, sym, subst}
use Rattle.std.proofs.lemmas.Int.{to_z-of_z}
use Rattle.std.specs.Int.{w32}
use Rattle.request_fields.specs.declared.fault.RequestFault.TheVariants.{Unsupported}
use Rattle.pipe_stream.specs.Asking.{Refuses}
use Rattle.pipe_stream.proofs.AskLemmas.{gives_served, gives_unserved, gives_fault}
use Rattle.pipe_stream.proofs.asking.give_request.Goals as goal

pub returns-in-Err-clause-acted : goal.returns-in-Err-clause-acted
returns-in-Err-clause-acted g c = rw c.in-Err.is (gives_fault _ _ c.args.code c.args.now c.in-Err.fault c.refuse.result _ _ c.refuse.ensures)

pub returns-then-is_served-clause-acted : goal.returns-then-is_served-clause-acted
returns-then-is_served-clause-acted g c =
    rw c.in-Ok.is (gives_served _ _ c.args.code c.args.now c.in-Ok.request c.ask_at.result _ _ _ _ (sym c.is_served.ensures ∙ c.if-is_served.true) c.ask_at.ensures.acted)

pub returns-else-is_served-clause-acted : goal.returns-else-is_served-clause-acted
returns-else-is_served-clause-acted g c =
    let told = subst (λ (z : ℤ). Refuses (Unsupported z) c.refuse-else-is_served.result)
    (to_z-of_z w32 c.args.code c.ranges.code) c.refuse-else-is_served.ensures in
    rw c.in-Ok.is (gives_unserved _ _ c.args.code c.args.now c.in-Ok.request c.refuse-else-is_served.result _ _ (sym c.is_served.ensures ∙ c.if-is_served.false) told)
