use Rattle.std.proofs.Common.{FitsSigned, rules, ◌∙◌}
use Rattle.std.specs.Int.{w32}
use Rattle.std.proofs.lemmas.Int.{to_z-of_z}
use Rattle.log_replay.proofs.keys.topic_hash.Goals as goal

pub returns : goal.returns
returns c =
    let hashed : FitsSigned w32 c.java_hash.result = search rules in
    let fits : FitsSigned w32 c.java_hash_more.result = search rules in
    to_z-of_z w32 c.java_hash_more.result fits
    ∙ c.java_hash_more.ensures c.args.topic.now c.utf8.topic (to_z-of_z w32 c.java_hash.result hashed ∙ c.java_hash.ensures)
