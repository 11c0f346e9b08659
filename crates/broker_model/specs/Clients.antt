-- The table of clients: on which link each was last heard, for which groups, and what these subscribed to.
use Rattle.std.specs.Prelude.{ℕ, ◌==◌, ◌&&◌, not, List, [], ◌∷◌, ◌++◌, map, filter, find}
use Rattle.std.specs.Prelude.{length, Bool, Option, option_map, unwrap_or, if◌then◌else◌}
use Rattle.std.specs.List.{list_any}
use Rattle.std.specs.Str.{bytes_eq}
use Rattle.request_fields.specs.Clients.{Beat}
use Rattle.request_fields.specs.declared.clients.Consumer.{Consumer}
use Rattle.request_fields.specs.declared.clients.Subscription.{Subscription}

-- a client, the link of its last heartbeat, and the groups that it produces and consumes for
pub record ClientRow : Type 0 where
  pub client : List ℕ
  pub link : ℕ
  pub producers : List (List ℕ)
  pub consumers : List (List ℕ)

-- what a client of a consumer group subscribed to of a topic
pub record HeardRow : Type 0 where
  pub client : List ℕ
  pub group : List ℕ
  pub topic : List ℕ
  pub words : List ℕ

-- the clients in the order in which they were first heard, and the subscriptions, the last heard first
pub record ClientTable : Type 0 where
  pub clients : List ClientRow
  pub heard : List HeardRow

-- nobody was heard
abbrev pub no_clients : ClientTable
no_clients = record { clients = []; heard = [] }

-- the name is one of these
abbrev pub is_among : List (List ℕ) → List ℕ → Bool
is_among names name = list_any (λ other. bytes_eq other name) names

-- these names, and those of the others that are not among them
abbrev pub joined : List (List ℕ) → List (List ℕ) → List (List ℕ)
joined names more = names ++ filter (λ name. not (is_among names name)) more

-- the names but for this one
abbrev pub without_name : List ℕ → List (List ℕ) → List (List ℕ)
without_name name names = filter (λ other. not (bytes_eq other name)) names

-- ---- heartbeats

-- the consumer groups of a heartbeat
abbrev pub consumer_groups : Beat → List (List ℕ)
consumer_groups beat = map (λ c. c.group) beat.consumers

-- a client that is heard for the first time
abbrev pub new_client : ℕ → Beat → ClientRow
new_client link beat = record { client = beat.client; link = link; producers = beat.producers; consumers = consumer_groups beat }

-- a client that is heard again, on this link
abbrev pub heard_again : ℕ → Beat → ClientRow → ClientRow
heard_again link beat row = record {
  client = row.client;
  link = link;
  producers = joined row.producers beat.producers;
  consumers = joined row.consumers (consumer_groups beat);
}

-- with the client of a heartbeat, which keeps its first place
abbrev pub with_client : ℕ → Beat → List ClientRow → List ClientRow
with_client link beat [] = new_client link beat ∷ []
with_client link beat (row ∷ rows) =
    if bytes_eq row.client beat.client then heard_again link beat row ∷ rows else row ∷ with_client link beat rows

-- the subscriptions of a client for one group, the last first, and then these
abbrev pub group_rows : List ℕ → List ℕ → List Subscription → List HeardRow → List HeardRow
group_rows client group [] earlier = earlier
group_rows client group (s ∷ subscriptions) earlier =
    group_rows client group subscriptions (record { client = client; group = group; topic = s.topic; words = s.words } ∷ earlier)

-- the subscriptions of a heartbeat, the last first
abbrev pub heard_rows : List ℕ → List Consumer → List HeardRow
heard_rows client [] = []
heard_rows client (c ∷ consumers) = heard_rows client consumers ++ group_rows client c.group c.subscriptions []

-- the client said this of one of the groups
abbrev pub is_said_of : List ℕ → List (List ℕ) → HeardRow → Bool
is_said_of client groups row = bytes_eq row.client client && is_among groups row.group

-- after a heartbeat, which replaces what the client had said of the groups that it names
abbrev pub after_beat : ℕ → Beat → ClientTable → ClientTable
after_beat link beat t = record {
  clients = with_client link beat t.clients;
  heard = heard_rows beat.client beat.consumers ++ filter (λ row. not (is_said_of beat.client (consumer_groups beat) row)) t.heard;
}

-- ---- leaving

-- a client without these two groups
abbrev pub without_groups : List ℕ → List ℕ → ClientRow → ClientRow
without_groups producer consumer row = record {
  client = row.client;
  link = row.link;
  producers = without_name producer row.producers;
  consumers = without_name consumer row.consumers;
}

-- the client is in some group
abbrev pub has_group : ClientRow → Bool
has_group row = not ((length row.producers == 0) && (length row.consumers == 0))

-- the clients once one has left a producer group and a consumer group: it is dropped where it is in no group then
abbrev pub clients_after : List ℕ → List ℕ → List ℕ → List ClientRow → List ClientRow
clients_after client producer consumer [] = []
clients_after client producer consumer (row ∷ rows) =
    if bytes_eq row.client client
    then filter has_group (without_groups producer consumer row ∷ []) ++ clients_after client producer consumer rows
    else row ∷ clients_after client producer consumer rows

-- after a client left a producer group and a consumer group
abbrev pub after_unregister : List ℕ → List ℕ → List ℕ → ClientTable → ClientTable
after_unregister client producer consumer t = record {
  clients = clients_after client producer consumer t.clients;
  heard = filter (λ row. not (is_said_of client (consumer ∷ []) row)) t.heard;
}

-- the client was last heard on this link
abbrev pub is_heard_on : ℕ → List ClientRow → List ℕ → Bool
is_heard_on link rows client = list_any (λ row. (row.link == link) && bytes_eq row.client client) rows

-- after a link ended: the clients that were last heard on it are gone
abbrev pub after_leave : ℕ → ClientTable → ClientTable
after_leave link t = record {
  clients = filter (λ row. not (row.link == link)) t.clients;
  heard = filter (λ row. not (is_heard_on link t.clients row.client)) t.heard;
}

-- ---- questions

-- the link of the first client of a producer group
abbrev pub producer_link : ClientTable → List ℕ → Option ℕ
producer_link t group = option_map (λ row. row.link) (find (λ row. is_among row.producers group) t.clients)

-- the words that were last heard of a consumer group for a topic; none stand for all messages
abbrev pub heard_words : ClientTable → List ℕ → List ℕ → List ℕ
heard_words t group topic =
    unwrap_or (option_map (λ row. row.words) (find (λ row. bytes_eq row.group group && bytes_eq row.topic topic) t.heard)) []
