use Rattle.std.proofs.Common.{FitsSigned, rules, ◌∙◌}
use Rattle.std.specs.Int.{w32}
use Rattle.std.proofs.lemmas.Int.{to_z-of_z}
use Rattle.log_replay.proofs.keys.key_hash.Goals as goal

pub returns : goal.returns
returns c =
    let fits : FitsSigned w32 c.topic_hash.result = search rules in
    c.hash_after.ensures c.args.topic.now c.utf8.topic (to_z-of_z w32 c.topic_hash.result fits ∙ c.topic_hash.ensures)
