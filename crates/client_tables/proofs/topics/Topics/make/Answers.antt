use Rattle.std.proofs.Common.{◌≡◌, ◌∙◌, ap, ℕ, max, Some, Option, if◌then◌else◌, string_bytes}
use Rattle.std.specs.Option.{unwrap_or}
use Rattle.std.specs.Str.{bytes_eq}
use Rattle.std.proofs.lemmas.Map.Text.{hash_map_updates_text}
use Rattle.client_tables.specs.Counts.{queues_of}
use Rattle.client_tables.proofs.topics.Topics.make.Goals as goal

pub returns : goal.returns
returns c = λ other.
    let counts : c.max.result ≡ max (unwrap_or (queues_of c.args.self.now (string_bytes c.args.topic)) 0) c.args.queues =
    c.max.ensures ∙ ap (λ (n : ℕ). max n c.args.queues) (c.unwrap_or-had.ensures ∙ ap (λ (o : Option ℕ). unwrap_or o 0) (c.find.ensures ∙ ap (queues_of c.args.self.now) c.as_str.ensures.value)) in
    hash_map_updates_text (string_bytes c.args.topic) c.args.self.now.counts c.insert.new.self (Some c.max.result) c.in-Ok.ensures.updates other
    ∙ ap (λ (n : ℕ). if bytes_eq (string_bytes c.args.topic) other then Some n else queues_of c.args.self.now other) counts
