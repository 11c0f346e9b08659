-- The rows of the model's table, as they are kept.
use Rattle.std.specs.Prelude.{◌≡◌, ℕ, ◌≤◌, List, map, filter, reverse, String, All}
use Rattle.std.specs.BTreeMap.{BTreeMap}
use Rattle.broker_model.specs.Clients.{ClientRow, HeardRow}
use Rattle.client_tables.specs.Kept.{in_groups}
use Rattle.client_tables.specs.Rows.{is_key}
use Rattle.client_tables.specs.declared.client.Client.{Client}
use Rattle.client_tables.specs.declared.heard.Heard.{Heard}
use Rattle.client_tables.specs.declared.heard.Said.{Said}

-- a client, as the model has it
abbrev pub client_of : Client → ClientRow
client_of c = record { client = c.client; link = c.link; producers = c.producers.items; consumers = c.consumers.items }

-- what was said of a group and a topic, as the model has it
abbrev pub row_of : List ℕ → List ℕ → Said → HeardRow
row_of group topic said = record { client = said.client; group = group; topic = topic; words = said.words }

-- the rows of each group and topic, the last heard first, are what is kept of them, and no heartbeat after the last said it
abbrev pub IsHeard : {A B : Type 0} → BTreeMap (String A) (BTreeMap (String B) Heard) → ℕ → List HeardRow → Type 0
IsHeard groups last heard = (group topic : List ℕ)
    → (reverse (map (row_of group topic) (in_groups groups group topic)) ≡ filter (is_key group topic) heard)
    × All (λ said. said.beat ≤ last) (in_groups groups group topic)
