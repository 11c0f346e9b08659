use Rattle.std.proofs.Common.{FitsSigned, rules, ap, ◌∙◌}
use Rattle.std.specs.Int.{w32}
use Rattle.std.proofs.lemmas.Int.{to_z-of_z}
use Rattle.mq_bytes.specs.Hashes.{absolute, key_hash}
use Rattle.mq_bytes.proofs.hashes.key_hash_more.Goals as goal

pub returns : goal.returns
unfolding key_hash
returns c before utf8 is =
    let given : FitsSigned w32 c.args.hash = search rules in
    let fits : FitsSigned w32 c.java_hash_more.result = search rules in
    c.absolute.ensures ∙ ap absolute (to_z-of_z w32 c.java_hash_more.result fits ∙ c.java_hash_more.ensures before utf8 (to_z-of_z w32 c.args.hash given ∙ is))
