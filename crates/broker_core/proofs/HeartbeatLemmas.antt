-- Clients that are heard, and that leave: in the parts and in the state.
use Rattle.std.proofs.Common.{◌≡◌, refl, sym, subst, ℕ, List}
use Rattle.request_fields.specs.Clients.{Beat as Said}
use Rattle.request_fields.specs.Requests.{UnregisterSaid}
use Rattle.request_fields.specs.declared.request.Request.TheVariants.{Beat, Unregister}
use Rattle.broker_model.specs.State.{State}
use Rattle.broker_model.specs.Events as events
use Rattle.broker_model.specs.Clients.{ClientTable, after_beat, after_unregister, after_leave}
use Rattle.broker_model.specs.Answers.{answer_of, request_answer, done_reply}
use Rattle.broker_model.specs.Appended.{drafts_of}
use Rattle.broker_model.specs.Refusals.{refusal_of}
use Rattle.broker_model.specs.Step.{after, changed, request_changed}
use Rattle.client_tables.specs.Held.{HasClients}
use Rattle.client_tables.specs.declared.clients.Clients.{Clients}
use Rattle.core_log.specs.declared.parts.Parts.{Parts}
use Rattle.core_log.specs.Represents.{Represents}
use Rattle.broker_core.proofs.ReadLemmas.{Does, asked_by}
use Rattle.core_log.proofs.StateLemmasTurns.{left_state}
use Rattle.core_log.proofs.TurnLemmas.{after_leaving, answer_leaving}

-- the parts with other clients
pub represents_clients : (old : Parts) (clients : Clients) (s : State) (table : ClientTable) → Represents old s → HasClients clients table
    → Represents (record old { clients = clients }) (record s { clients = table })
represents_clients old clients s table are has =
    let n = are.numbers in
    record {
      state = left_state s table are.state;
      numbers = record { setup = n.setup; segment = n.segment; flushed = n.flushed; dispatched = n.dispatched; turns = n.turns; bounded = n.bounded; now = n.now; few = n.few; low = n.low };
      pending = are.pending;
      out = are.out;
      failed = are.failed;
      rows = are.rows;
      tabled = are.tabled;
      queues = are.queues;
      stored = are.stored;
      room = are.room;
      topics = are.topics;
      clients = has;
      offsets = are.offsets;
      locks = are.locks;
      names = are.names;
      kept = are.kept;
      halves = are.halves;
      levels = are.levels;
      keys = are.keys;
    }

pub does_beat : (old : Parts) (link : ℕ) (host : List ℕ) (now : ℕ) (b : Said)
    → Does old (asked_by link host now (Beat b)) (λ s. events.Replies done_reply) (λ s. record s { clients = after_beat link b s.clients })
unfolding drafts_of request_answer changed request_changed refusal_of
does_beat old link host now b = record { none = λ s. refl; answer = λ s. refl; change = λ s. refl; time = λ s. refl; allowed = λ s are. refl }

pub does_unregister : (old : Parts) (link : ℕ) (host : List ℕ) (now : ℕ) (u : UnregisterSaid)
    → Does old (asked_by link host now (Unregister u)) (λ s. events.Replies done_reply) (λ s. record s { clients = after_unregister u.client u.producer u.consumer s.clients })
unfolding drafts_of request_answer changed request_changed refusal_of
does_unregister old link host now u = record { none = λ s. refl; answer = λ s. refl; change = λ s. refl; time = λ s. refl; allowed = λ s are. refl }

-- a client left groups
pub unregister_done : (old : Parts) (clients : Clients) (s : State) (u : UnregisterSaid) (client producer consumer : List ℕ) → Represents old s → client ≡ u.client → producer ≡ u.producer → consumer ≡ u.consumer
    → ((t : ClientTable) → HasClients old.clients t → HasClients clients (after_unregister client producer consumer t))
    → Represents (record old { clients = clients }) (record s { clients = after_unregister u.client u.producer u.consumer s.clients })
unregister_done old clients s u client producer consumer are same_client same_producer same_consumer left =
    represents_clients old clients s (after_unregister u.client u.producer u.consumer s.clients) are
    (subst (λ (t : ClientTable). HasClients clients t) (λ i. after_unregister (same_client i) (same_producer i) (same_consumer i) s.clients) (left s.clients are.clients))

-- a link ended
pub leaves : (old : Parts) (clients : Clients) (s : State) (link : ℕ) → Represents old s → ((t : ClientTable) → HasClients old.clients t → HasClients clients (after_leave link t))
    → (answer_of s (events.Leave link) ≡ events.Done) × Represents (record old { clients = clients }) (after s (events.Leave link))
leaves old clients s link are left = (
  answer_leaving s link,
  subst (λ (t : State). Represents (record old { clients = clients }) t) (sym (after_leaving s link)) (represents_clients old clients s (after_leave link s.clients) are (left s.clients are.clients)),
)
