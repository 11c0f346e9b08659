use Rattle.std.proofs.Common.{Some, string_bytes}
use Rattle.std.proofs.lemmas.Map.Text.{hash_map_updates_text}
use Rattle.half_records.proofs.names.Names.give.Goals as goal

pub returns-clause-numbers : goal.returns-clause-numbers
returns-clause-numbers c = λ other.
    hash_map_updates_text (string_bytes c.args.name) c.args.self.now.numbers c.insert.new.self (Some c.args.number) c.in-Ok.ensures.updates other
