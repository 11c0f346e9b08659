use Rattle.record_codec.specs.Props.{AreProps}
use Rattle.record_codec.proofs.PutLemmas.{AreProps-with_prop, either_way}
use Rattle.record_codec.proofs.props.Props.put_at.Goals as goal

pub invariant_of-self : goal.invariant_of-self
invariant_of-self c =
    either_way AreProps c.put_pair.result _ _ _ c.put_pair.ensures.ok c.put_pair.ensures.err
    (AreProps-with_prop c.args.name.now c.args.value.now _ c.requires.pair c.requires.name c.requires.value c.self.invariant) c.self.invariant
