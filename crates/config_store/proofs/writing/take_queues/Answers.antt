use Rattle.std.proofs.Common.{◌∙◌, ap, sym, Option, option_map, option_and_then}
use Rattle.std.specs.Prelude.{unwrap_or}
use Rattle.serde_json.specs.Data.{no_members}
use Rattle.serde_json.specs.Find.{as_object}
use Rattle.serde_json.specs.View.{view, members_view}
use Rattle.serde_json.specs.declared.value.Value.{Value}
use Rattle.config_store.proofs.TakeLemmas.{taken, put_there}
use Rattle.config_store.proofs.writing.take_queues.Goals as goal

pub returns-in-Some-clause-taken : goal.returns-in-Some-clause-taken
returns-in-Some-clause-taken c =
    c.object_or_empty.ensures ∙ ap (λ (r : Option Value). unwrap_or (option_and_then as_object (option_map view r)) no_members) (sym c.in-Some.is)
    ∙ taken c.args.key.now c.args.table.now.entries c.remove.result c.remove.ensures.value

pub returns-in-Some-clause-back : goal.returns-in-Some-clause-back
returns-in-Some-clause-back c = λ d. put_there _ d _ _ c.len-names.ensures.ordered c.remove.ensures.entries

pub returns-in-None-clause-taken : goal.returns-in-None-clause-taken
returns-in-None-clause-taken c =
    ap members_view c.new.ensures.empty ∙ ap (λ (r : Option Value). unwrap_or (option_and_then as_object (option_map view r)) no_members) (sym c.in-None.is)
    ∙ taken c.args.key.now c.args.table.now.entries c.remove.result c.remove.ensures.value
