use Rattle.std.proofs.Common.{eqb, ◌++◌, codes, sym, ap, ◌∙◌, subst, List, ℕ}
use Rattle.std.proofs.lemmas.Option.{IfSome_then}
use Rattle.std.proofs.lemmas.Bool.Decides.{Decides-eqb}
use Rattle.std.proofs.lemmas.Slice.Eq.{strip_prefix_is, strip_suffix_is}
use Rattle.std.specs.Str.{IsUtf8}
use Rattle.store_open.specs.Formats.{sizes_text}
use Rattle.store_open.proofs.FormatLemmas.{sizes_between, sizes_are_text}
use Rattle.store_open.proofs.format.read_format.Goals as goal

pub returns-in_default-clause-exact : goal.returns-in_default-clause-exact
returns-in_default-clause-exact c = λ sizes format.
    let front = rw c.in_ok-rest.was at (strip_prefix_is {A = ℕ} {E = eqb} Decides-eqb c.args.text.now (codes "mq_broker 1 ") c.strip_prefix.result c.strip_prefix.ensures.cases) in
    let end = rw c.in_ok-sizes.was at (strip_suffix_is {A = ℕ} {E = eqb} Decides-eqb c.in_ok-rest.rest.now (codes "\n") c.strip_suffix.result c.strip_suffix.ensures.cases) in
    let same = sizes_between _ _ _ (sizes_text sizes) front end format.is in
    absurd (c.in_default.ensures.cases.0 (subst (λ (text : List ℕ). IsUtf8 text) (sym same) (sizes_are_text sizes format.allowed)))

pub returns-clause-found : goal.returns-clause-found
returns-clause-found c =
    let front = rw c.in_ok-rest.was at (strip_prefix_is {A = ℕ} {E = eqb} Decides-eqb c.args.text.now (codes "mq_broker 1 ") c.strip_prefix.result c.strip_prefix.ensures.cases) in
    let end = rw c.in_ok-sizes.was at (strip_suffix_is {A = ℕ} {E = eqb} Decides-eqb c.in_ok-rest.rest.now (codes "\n") c.strip_suffix.result c.strip_suffix.ensures.cases) in
    IfSome_then c.read_sizes.result c.read_sizes.ensures.found (λ sizes found. record {
      is = front ∙ ap (λ (rest : List ℕ). codes "mq_broker 1 " ++ rest) (end ∙ ap (λ (text : List ℕ). text ++ codes "\n") (sym c.in-Ok.ensures.cases.0 ∙ found.0));
      allowed = found.1;
    })
