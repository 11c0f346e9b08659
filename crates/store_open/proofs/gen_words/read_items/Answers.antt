use Rattle.std.proofs.Common.{◌∙◌, ◌∷◌, ℕ, List, ap}
use Rattle.store_open.specs.Options.{texts_of}
use Rattle.store_open.proofs.gen_words.read_items.Goals as goal

pub returns-in-Ok-clause-fits : goal.returns-in-Ok-clause-fits
returns-in-Ok-clause-fits c = (
  texts_of c.in-Some.more.now,
  record { low = c.in-Some-read_number.ensures.within.0; high = c.in-Some-read_number.ensures.within.1 },
  ap texts_of c.in-Some.ensures.cases.0 ∙ ap (λ (word : List ℕ). word ∷ texts_of c.in-Some.more.now) c.in-Some-read_number.ensures.found,
  c.in-Ok.ensures.fits,
)
