use Rattle.std.proofs.Common.{◌∙◌, arith, length}
use Rattle.reply_fields.proofs.BodyLemmas.{front-within, read-front}
use Rattle.reply_fields.proofs.body.fill_stretch.Goals as goal

pub read-requires : goal.read-requires
read-requires g c = omega (arith, front-within c.args.slices.now c.index-slices-0.result c.in-Kept.range c.index-slices-0.is c.in-Kept.is c.requires.stretch, c.requires.len)

pub returns-in_ok-read-in-Kept-clause-body : goal.returns-in_ok-read-in-Kept-clause-body
returns-in_ok-read-in-Kept-clause-body g c =
    read-front g.R.Reader.gives g.met.R.Reader.parts g.met.R.Reader.alike c.args.slices.now c.index-slices-0.result c.in-Kept.range c.read.new.out c.index-slices-0.is c.in-Kept.is c.requires.stretch
    (c.read.auto.out ∙ c.requires.len) c.in_ok-read-in-Kept.ensures.gives
