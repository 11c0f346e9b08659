use Rattle.std.proofs.Common.{◌∙◌, sym, ap, ℕ, ◌+◌, [], ◌∷◌, length-append}
use Rattle.tool_run.proofs.loading.LoadingVisit.record.Goals as goal

pub returns-in-Some-clause-stands : goal.returns-in-Some-clause-stands
returns-in-Some-clause-stands c S records follows has = record {
  loaded = c.in_ok-add.ensures [] records has.loaded;
  count = c.in-Some.ensures.1 ∙ ap (λ (n : ℕ). n + 1) has.count ∙ sym (length-append records (c.args.view.now ∷ []));
}
