use Rattle.std.proofs.Common.{FitsSigned, rules, ap, ◌∙◌}
use Rattle.std.proofs.lemmas.Int.{to_z-of_z}
use Rattle.std.specs.Int.{w32, cast_signed}
use Rattle.mq_bytes.specs.Hashes.{java_hash}
use Rattle.mq_bytes.proofs.hashes.java_hash.Goals as goal

pub returns : goal.returns
unfolding java_hash
returns c =
    let fits : FitsSigned w32 c.cast_signed.result = search rules in
    to_z-of_z w32 c.cast_signed.result fits ∙ c.cast_signed.ensures ∙ ap (cast_signed w32) c.after_text.ensures
