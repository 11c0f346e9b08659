use Rattle.std.proofs.Common.{FitsSigned, rules, ◌∙◌}
use Rattle.std.specs.Int.{w32}
use Rattle.std.proofs.lemmas.Int.{to_z-of_z}
use Rattle.key_view.proofs.keys.hash_from.Goals as goal

pub returns : goal.returns
returns c =
    let given : FitsSigned w32 c.args.start = search rules in
    c.hash_after.ensures c.args.topic.now c.utf8.topic (to_z-of_z w32 c.args.start given ∙ c.requires)
