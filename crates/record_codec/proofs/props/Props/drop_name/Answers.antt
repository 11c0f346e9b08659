use Rattle.std.proofs.Common.{sym, subst}
use Rattle.record_codec.specs.Props.{AreProps}
use Rattle.record_codec.proofs.PutLemmas.{AreProps-without}
use Rattle.record_codec.proofs.props.Props.drop_name.Goals as goal

pub invariant_of-self : goal.invariant_of-self
invariant_of-self c = subst AreProps (sym c.drop_pair.ensures) (AreProps-without _ _ c.self.invariant)
