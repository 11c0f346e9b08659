use Rattle.std.proofs.Common.{refl, [], ◌∷◌, None}
use Rattle.log_model.specs.Numbered.{next_records}
use Rattle.broker_core.proofs.CheckLemmas.{finds_room}
use Rattle.broker_core.proofs.RenewalPlaces.{number_is}
use Rattle.broker_core.proofs.check_back.append_given_up.Goals as goal

pub returns-clause-checked : goal.returns-clause-checked
returns-clause-checked c s half are is =
    finds_room s c.args.now c.args.origin c.end-number.result (next_records s.setup.segment c.args.now s.log (c.args.copy.now ∷ c.args.op.now ∷ [])) None c.append_both.new.self (c.requires.room s are)
    (number_is c.args.parts.now s c.end-number.result are c.end-number.ensures.value) refl (c.in_ok-append_both.ensures.appended s half are is)
