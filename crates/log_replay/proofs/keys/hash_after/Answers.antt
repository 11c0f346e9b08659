use Rattle.std.proofs.Common.{FitsSigned, rules, ◌∙◌, ◌++◌, ◌∷◌, []}
use Rattle.std.specs.Int.{w32}
use Rattle.std.proofs.lemmas.Int.{to_z-of_z}
use Rattle.log_replay.proofs.KeyHashes.{behind_sign, with_sign}
use Rattle.log_replay.proofs.keys.hash_after.Goals as goal

pub returns : goal.returns
returns c topic utf8 is =
    let given : FitsSigned w32 c.args.topic_hash = search rules in
    behind_sign topic c.args.key.now _ (c.key_hash_more.ensures (topic ++ 35 ∷ []) (with_sign topic utf8) (to_z-of_z w32 c.args.topic_hash given ∙ is))
