use Rattle.std.proofs.Common.{◌≡◌, ◌∙◌, ◌++◌, ◌-◌, ℕ, min, List, length, take, drop, sym, ap}
use Rattle.mq_bytes.specs.Names.{log_file}
use Rattle.mq_outside.specs.Files.{bytes_of}
use Rattle.record_codec.specs.Blanks.{blank_front}
use Rattle.log_recovery.proofs.WindowLemmas.{blank_ends}
use Rattle.log_recovery.proofs.scan.ends_in_blank.Goals as goal
use Rattle.log_model.specs.Bases.{Geometry, geometry}

pub returns-clause-ended : goal.returns-clause-ended
returns-clause-ended g c = λ tells begun bytes records reads here room begins.
    let S : Geometry = geometry c.args.segment begun in
    let at : ℕ = c.args.at in
    let named : c.as_str-name.result.now ≡ log_file c.args.base = c.as_str-name.ensures ∙ c.of-file.ensures in
    let was : bytes_of (g.D.Disk.state c.args.disk.now).reads c.as_str-name.result.now ≡ bytes = ap (bytes_of (g.D.Disk.state c.args.disk.now).reads) named ∙ reads in
    let same : bytes_of (g.D.Disk.state c.len.new.self).reads c.as_str-name.result.now ≡ bytes = ap (λ f. bytes_of f c.as_str-name.result.now) (c.len.ensures.moves tells).reads ∙ was in
    let long_is : c.in_ok-long.long ≡ S.size = c.if-long-from.false ∙ c.from.ensures in
    let whole_is : length bytes ≡ S.size = ap length (sym was) ∙ sym (c.in_ok-long.ensures.len tells) ∙ long_is in
    let size_is : c.in_ok-long.long - at ≡ S.size - at = ap (λ (k : ℕ). k - at) long_is in
    blank_ends S at c.in_ok-n.n bytes c.read_at.new.out records c.is_blank.result whole_is here room begins
    (c.in_ok-n.ensures.count tells ∙ ap (λ (l : List ℕ). min 8 (length l - at)) same)
    (c.in_ok-n.ensures.bytes tells ∙ ap (λ (l : List ℕ). take c.in_ok-n.n (drop at l)) same)
    (λ is. let found = c.is_blank.ensures.is is in (found.0, found.1 ∙ ap (λ (k : ℕ). blank_front k ++ found.0) size_is))
    (λ is rest stands. c.is_blank.ensures.not is rest (stands ∙ ap (λ (k : ℕ). blank_front k ++ rest) (sym size_is)))
