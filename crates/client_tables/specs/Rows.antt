-- What a heartbeat says of a group, in its order.
use Rattle.std.specs.Prelude.{ℕ, ◌&&◌, Bool, List, map, filter}
use Rattle.std.specs.Str.{bytes_eq}
use Rattle.request_fields.specs.declared.clients.Consumer.{Consumer}
use Rattle.broker_model.specs.Clients.{HeardRow}
use Rattle.client_tables.specs.declared.heard.Said.{Said}

-- what a client says of one of its groups
abbrev pub rows_of : List ℕ → Consumer → List HeardRow
rows_of client c = map (λ s. record { client = client; group = c.group; topic = s.topic; words = s.words }) c.subscriptions

-- the row is of this group and topic
abbrev pub is_key : List ℕ → List ℕ → HeardRow → Bool
is_key group topic row = bytes_eq row.group group && bytes_eq row.topic topic

-- a row, as it is kept with its group and topic
abbrev pub said_as : ℕ → HeardRow → Said
said_as beat row = record { client = row.client; words = row.words; beat = beat }

-- what a heartbeat says of this group and topic, of all that it says
abbrev pub said_by : ℕ → List ℕ → List ℕ → List HeardRow → List Said
said_by beat group topic rows = map (said_as beat) (filter (is_key group topic) rows)
