use Rattle.std.proofs.Common.{◌≡◌, ℕ, List, map, take, reverse, ap, ◌∙◌}
use Rattle.std.specs.Prelude.{ℤ, filter}
use Rattle.std.specs.Int.{w128}
use Rattle.std.proofs.lemmas.Int.{to_z-of_z}
use Rattle.record_codec.specs.Entry.{Entry}
use Rattle.log_model.specs.Keys.{is_match}
use Rattle.log_model.specs.Queues.{entries_of}
use Rattle.log_replay.specs.Told.{place_and_size}
use Rattle.log_replay.proofs.Replies.{newest_first, at_both}
use Rattle.log_replay.proofs.queries.newest.Goals as goal

pub returns : goal.returns
returns c =
    let most = c.args.most in
    let matches : ℤ → ℤ → List Entry = λ from to. filter (is_match c.args.hash from to) (entries_of c.args.log.now) in
    let found : c.in_ok-found.found.items ≡ map place_and_size (matches c.args.from c.args.to) =
    c.in_ok-found.ensures
    ∙ at_both (λ (a b : ℤ). map place_and_size (matches a b)) _ c.args.from _ c.args.to (to_z-of_z w128 c.args.from c.ranges.from) (to_z-of_z w128 c.args.to c.ranges.to) in
    c.truncate.ensures.items ∙ ap (λ (l : List (ℕ × ℕ)). take most l) (c.reverse.ensures.items ∙ ap (λ (l : List (ℕ × ℕ)). reverse l) found)
    ∙ newest_first place_and_size most (matches c.args.from c.args.to)
