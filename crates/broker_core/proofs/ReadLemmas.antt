-- A request that reads: it is refused by a row, or told at a later time, and makes no record.
use Rattle.std.proofs.Common.{◌≡◌, refl, ap, sym, ◌∙◌, subst, arith, ℕ, ◌+◌, ◌^◌, ◌<◌, ◌||◌, ◌&&◌, max, nat_lt, List, [], length, sum_by, is_some, Bool, false, Option, Some, None, Result, Ok, Err, IfOk, OnOk, if◌then◌else◌}
use Rattle.std.specs.List.{list_any}
use Rattle.std.proofs.lemmas.Result.{IfOk-weaker}
use Rattle.std.specs.declared.alloc.AllocError.{AllocError}
use Rattle.record_codec.specs.Layout.{size}
use Rattle.record_codec.specs.declared.draft.Draft.{Draft}
use Rattle.log_model.specs.Numbered.{next_records, queue_max, queue_min}
use Rattle.request_fields.specs.Requests.{QueueSaid, SearchSaid, PullSaid, OffsetSaid, SetOffsetSaid}
use Rattle.request_fields.specs.declared.request.Request.{Request}
use Rattle.request_fields.specs.declared.request.Request.TheVariants.{MaxOffset, MinOffset, Search, Pull, OffsetOf, SetOffset}
use Rattle.broker_model.specs.Tables.{offset_in}
use Rattle.broker_model.specs.State.{State, seen, pending_bytes}
use Rattle.broker_model.specs.Events as model
use Rattle.broker_model.specs.Refusals.{refusal_of, queue_refusal, pull_refusal}
use Rattle.broker_model.specs.Appended.{drafts_of, made_by, is_past_end, is_full, is_refused, appended}
use Rattle.broker_model.specs.Answers.{answer_of, or_refused, refused_answer, carried_out_answer, request_answer, offset_reply, offset_at, pulled_reply, pull_of, stored_reply, done_reply}
use Rattle.broker_model.specs.Step.{after, changed, request_changed, with_records, stored, pull_offset}
use Rattle.broker_events.specs.declared.said.Said.{Said}
use Rattle.broker_events.specs.Steps.{Says}
use Rattle.core_log.specs.declared.parts.Parts.{Parts}
use Rattle.broker_core.specs.declared.replies.Refused.{Refused}
use Rattle.core_log.specs.Carries.{Carries}
use Rattle.broker_core.specs.Reads.{refusal_reply, refusal_replies}
use Rattle.core_log.specs.Represents.{Represents}
use Rattle.broker_core.proofs.StateLemmasReads.{read_state}

-- ---- the model

-- whether records of these drafts end past the last place, or find the buffer full
abbrev no_room : State → ℕ → List Draft → Bool
no_room s now drafts =
    list_any (λ r. nat_lt (2 ^ 62) (r.offset + size r)) (next_records s.setup.segment now s.log drafts)
    || (nat_lt 0 (length drafts) && nat_lt 67108864 (pending_bytes s + sum_by size (next_records s.setup.segment now s.log drafts)))

-- without a record only a row refuses
not_refused : (s : State) (a : model.Asked) → drafts_of s (model.Asks a) ≡ [] → refusal_of s a.request ≡ None → is_refused s (model.Asks a) ≡ false
unfolding is_refused
not_refused s a none allowed =
    ap (λ (o : Option model.Reply). is_some o || is_past_end s (model.Asks a) || is_full s (model.Asks a)) allowed
    ∙ ap (λ (drafts : List Draft). no_room s (max a.now s.now) drafts) none

pub after_read : (s t : State) (a : model.Asked) → drafts_of s (model.Asks a) ≡ [] → refusal_of s a.request ≡ None → changed s (model.Asks a) ≡ t → after s (model.Asks a) ≡ record t { now = max a.now s.now }
unfolding after
after_read s t a none allowed is =
    ap (λ (b : Bool). if b then s else with_records (changed s (model.Asks a)) (max a.now s.now) (made_by s (model.Asks a))) (not_refused s a none allowed)
    ∙ (ap (λ (drafts : List Draft). with_records (changed s (model.Asks a)) (max a.now s.now) (next_records s.setup.segment (max a.now s.now) s.log drafts)) none
    ∙ ap (λ (u : State). with_records u (max a.now s.now) []) is)

pub answer_read : (s : State) (a : model.Asked) → drafts_of s (model.Asks a) ≡ [] → refusal_of s a.request ≡ None → answer_of s (model.Asks a) ≡ request_answer s a.now a.request []
unfolding answer_of appended carried_out_answer
answer_read s a none allowed =
    ap (λ (o : Option model.Reply). or_refused o (if is_refused s (model.Asks a) then refused_answer s (model.Asks a) else carried_out_answer s (model.Asks a) (appended s (model.Asks a)))) allowed
    ∙ (ap (λ (b : Bool). if b then refused_answer s (model.Asks a) else carried_out_answer s (model.Asks a) (if b then [] else made_by s (model.Asks a))) (not_refused s a none allowed)
    ∙ ap (λ (drafts : List Draft). carried_out_answer s (model.Asks a) (next_records s.setup.segment (max a.now s.now) s.log drafts)) none)

pub after_refusal : (s : State) (a : model.Asked) (reply : model.Reply) → refusal_of s a.request ≡ Some reply → after s (model.Asks a) ≡ s
unfolding after is_refused
after_refusal s a reply refused =
    ap (λ (o : Option model.Reply). if is_some o || is_past_end s (model.Asks a) || is_full s (model.Asks a) then s else with_records (changed s (model.Asks a)) (max a.now s.now) (made_by s (model.Asks a))) refused

pub answer_refusal : (s : State) (a : model.Asked) (reply : model.Reply) → refusal_of s a.request ≡ Some reply → answer_of s (model.Asks a) ≡ model.Replies reply
unfolding answer_of
answer_refusal s a reply refused =
    ap (λ (o : Option model.Reply). or_refused o (if is_refused s (model.Asks a) then refused_answer s (model.Asks a) else carried_out_answer s (model.Asks a) (appended s (model.Asks a)))) refused

-- ---- the parts

-- time went on
pub represents_read : (old new : Parts) (s : State) (now : ℕ) → Represents old s → new ≡ record old { now = max now old.now } → now < 2 ^ 62 → Represents new (record s { now = max now s.now })
represents_read old new s now are is low =
    let before = are.state.time in
    let t : State = record s { now = max now s.now } in
    let core : Parts = record old { now = max now old.now } in
    let n = are.numbers in
    let there : Represents core t = record {
      state = read_state s s.offsets (max now s.now) are.state (omega arith) (omega (arith, before, low));
      numbers = record {
        setup = n.setup;
        segment = n.segment;
        flushed = n.flushed;
        dispatched = n.dispatched;
        turns = n.turns;
        bounded = n.bounded;
        now = ap (λ m. max now m) n.now;
        few = n.few;
        low = n.low;
      };
      pending = are.pending;
      out = are.out;
      failed = are.failed;
      rows = are.rows;
      tabled = are.tabled;
      queues = are.queues;
      stored = are.stored;
      room = are.room;
      topics = are.topics;
      clients = are.clients;
      offsets = are.offsets;
      locks = are.locks;
      names = are.names;
      kept = are.kept;
      halves = are.halves;
      levels = are.levels;
      keys = are.keys;
    } in
    subst (λ (p : Parts). Represents p t) (sym is) there

-- ---- a request

-- It is refused, and nothing changes.
pub carries_refusal : (old : Parts) (a : model.Asked) (refused : Refused) (said : Result Said AllocError) → ((s : State) → Represents old s → refusal_of s a.request ≡ Some (refusal_reply refused))
    → IfOk said (λ x. Says x (model.Replies (refusal_reply refused))) → IfOk said (λ x. Carries old (model.Asks a) (Says x) old)
carries_refusal old a refused said is told =
    IfOk-weaker said (λ x. Says x (model.Replies (refusal_reply refused))) (λ x. Carries old (model.Asks a) (Says x) old) (λ x says s are. (
      subst (λ (w : model.Answer). Says x w) (sym (answer_refusal s a (refusal_reply refused) (is s are))) says,
      subst (λ (t : State). Represents old t) (sym (after_refusal s a (refusal_reply refused) (is s are))) are,
    )) told

-- What is asked of each state: no record, this answer, and this change.
pub record Does (old : Parts) (a : model.Asked) (told : State → model.Answer) (next : State → State) : Type 0 where
  pub none : (s : State) → drafts_of s (model.Asks a) ≡ []
  pub answer : (s : State) → request_answer s a.now a.request [] ≡ told s
  pub change : (s : State) → changed s (model.Asks a) ≡ next s
  pub time : (s : State) → (next s).now ≡ s.now
  pub allowed : (s : State) → Represents old s → refusal_of s a.request ≡ None

-- It is done, and told.
pub carries_done : (old mid new : Parts) (a : model.Asked) (told : State → model.Answer) (next : State → State) (what : Said) → Does old a told next → a.now < 2 ^ 62 → new ≡ record mid { now = max a.now mid.now }
    → ((s : State) → Represents old s → Represents mid (next s) × Says what (told s)) → Carries old (model.Asks a) (Says what) new
carries_done old mid new a told next what does low moved each s are =
    let it = each s are in (
      subst (λ (w : model.Answer). Says what w) (sym (answer_read s a (does.none s) (does.allowed s are) ∙ does.answer s)) it.1,
      subst (λ (t : State). Represents new t) (sym (after_read s (next s) a (does.none s) (does.allowed s are) (does.change s)))
          (subst (λ (n : ℕ). Represents new (record (next s) { now = max a.now n })) (does.time s) (represents_read mid new (next s) a.now it.0 moved low)),
    )

-- what is asked of each state: no record, this reply, and no change
pub record Reads (old : Parts) (a : model.Asked) (told : State → model.Reply) : Type 0 where
  pub none : (s : State) → drafts_of s (model.Asks a) ≡ []
  pub answer : (s : State) → request_answer s a.now a.request [] ≡ model.Replies (told s)
  pub change : (s : State) → changed s (model.Asks a) ≡ s
  pub allowed : (s : State) → Represents old s → refusal_of s a.request ≡ None

-- It is told.
pub carries_reply : (old new : Parts) (a : model.Asked) (told : State → model.Reply) (said : Result Said AllocError) → Reads old a told → a.now < 2 ^ 62
    → OnOk said (new ≡ record old { now = max a.now old.now }) → ((s : State) → Represents old s → IfOk said (λ x. Says x (model.Replies (told s)))) → IfOk said (λ x. Carries old (model.Asks a) (Says x) new)
carries_reply old new a told (Err fault) reads low moved says = tt
carries_reply old new a told (Ok x) reads low moved says =
    carries_done old old new a (λ s. model.Replies (told s)) (λ s. s) x (record { none = reads.none; answer = reads.answer; change = reads.change; time = λ s. refl; allowed = reads.allowed }) low moved
    (λ s are. (are, says s are))

-- ---- the requests

-- how a request was asked
abbrev pub asked_by : ℕ → List ℕ → ℕ → Request → model.Asked
asked_by link host now request = record { link = link; host = host; now = now; request = request }

-- a row holds for this request
pub is_refused_as : (old : Parts) (rows : State → Option model.Reply) (found : Option Refused) (refused : Refused) → ((s : State) → Represents old s → rows s ≡ refusal_replies found) → found ≡ Some refused
    → (s : State) → Represents old s → rows s ≡ Some (refusal_reply refused)
is_refused_as old rows found refused told is s are = told s are ∙ ap refusal_replies is

-- or none does
pub is_allowed : (old : Parts) (rows : State → Option model.Reply) (found : Option Refused) → ((s : State) → Represents old s → rows s ≡ refusal_replies found) → found ≡ None
    → (s : State) → Represents old s → rows s ≡ None
is_allowed old rows found told is s are = told s are ∙ ap refusal_replies is

pub reads_max : (old : Parts) (link : ℕ) (host : List ℕ) (now : ℕ) (q : QueueSaid) → ((s : State) → Represents old s → queue_refusal s q.topic q.queue ≡ None)
    → Reads old (asked_by link host now (MaxOffset q)) (λ s. offset_reply (queue_max (seen s) q.topic q.queue))
unfolding drafts_of request_answer changed request_changed refusal_of
reads_max old link host now q allowed = record { none = λ s. refl; answer = λ s. refl; change = λ s. refl; allowed = allowed }

pub reads_min : (old : Parts) (link : ℕ) (host : List ℕ) (now : ℕ) (q : QueueSaid) → ((s : State) → Represents old s → queue_refusal s q.topic q.queue ≡ None)
    → Reads old (asked_by link host now (MinOffset q)) (λ s. offset_reply (queue_min (seen s) q.topic q.queue))
unfolding drafts_of request_answer changed request_changed refusal_of
reads_min old link host now q allowed = record { none = λ s. refl; answer = λ s. refl; change = λ s. refl; allowed = allowed }

pub reads_search : (old : Parts) (link : ℕ) (host : List ℕ) (now : ℕ) (q : SearchSaid) → ((s : State) → Represents old s → queue_refusal s q.topic q.queue ≡ None)
    → Reads old (asked_by link host now (Search q)) (λ s. offset_reply (offset_at (seen s) q.topic q.queue q.time))
unfolding drafts_of request_answer changed request_changed refusal_of
reads_search old link host now q allowed = record { none = λ s. refl; answer = λ s. refl; change = λ s. refl; allowed = allowed }

-- a pull stores an offset at most
stored_keeps_time : (s : State) (group topic : List ℕ) (queue : ℕ) (offset : Option ℕ) → (stored s group topic queue offset).now ≡ s.now
stored_keeps_time s group topic queue None = refl
stored_keeps_time s group topic queue (Some offset) = refl

pub does_pull : (old : Parts) (link : ℕ) (host : List ℕ) (now : ℕ) (p : PullSaid) → ((s : State) → Represents old s → pull_refusal s p ≡ None)
    → Does old (asked_by link host now (Pull p)) (λ s. model.Replies (pulled_reply (pull_of s p))) (λ s. stored s p.group p.topic p.queue (pull_offset p))
unfolding drafts_of request_answer changed request_changed refusal_of
does_pull old link host now p allowed =
    record { none = λ s. refl; answer = λ s. refl; change = λ s. refl; time = λ s. stored_keeps_time s p.group p.topic p.queue (pull_offset p); allowed = allowed }

pub reads_stored : (old : Parts) (link : ℕ) (host : List ℕ) (now : ℕ) (q : OffsetSaid) → ((s : State) → Represents old s → queue_refusal s q.topic q.queue ≡ None)
    → Reads old (asked_by link host now (OffsetOf q)) (λ s. stored_reply (offset_in s.offsets q.group q.topic q.queue))
unfolding drafts_of request_answer changed request_changed refusal_of
reads_stored old link host now q allowed = record { none = λ s. refl; answer = λ s. refl; change = λ s. refl; allowed = allowed }

pub does_set_offset : (old : Parts) (link : ℕ) (host : List ℕ) (now : ℕ) (q : SetOffsetSaid) → ((s : State) → Represents old s → queue_refusal s q.topic q.queue ≡ None)
    → Does old (asked_by link host now (SetOffset q)) (λ s. model.Replies done_reply) (λ s. stored s q.group q.topic q.queue (Some q.offset))
unfolding drafts_of request_answer changed request_changed refusal_of
does_set_offset old link host now q allowed = record { none = λ s. refl; answer = λ s. refl; change = λ s. refl; time = λ s. refl; allowed = allowed }

-- the same of a queue that is named in another way
pub queue_rows : (old : Parts) (topic other : List ℕ) (queue at : ℕ) (found : Option Refused) → topic ≡ other → queue ≡ at
    → ((s : State) → Represents old s → queue_refusal s topic queue ≡ refusal_replies found) → (s : State) → Represents old s → queue_refusal s other at ≡ refusal_replies found
queue_rows old topic other queue at found same_topic same_queue told s are =
    sym (ap (λ (name : List ℕ). queue_refusal s name queue) same_topic ∙ ap (λ q. queue_refusal s other q) same_queue) ∙ told s are

pub refusal_max_offset : (old : Parts) (q : QueueSaid) (refused : Refused) → ((s : State) → Represents old s → queue_refusal s q.topic q.queue ≡ Some (refusal_reply refused))
    → (s : State) → Represents old s → refusal_of s (MaxOffset q) ≡ Some (refusal_reply refused)
unfolding refusal_of
refusal_max_offset old q refused told = told

pub refusal_min_offset : (old : Parts) (q : QueueSaid) (refused : Refused) → ((s : State) → Represents old s → queue_refusal s q.topic q.queue ≡ Some (refusal_reply refused))
    → (s : State) → Represents old s → refusal_of s (MinOffset q) ≡ Some (refusal_reply refused)
unfolding refusal_of
refusal_min_offset old q refused told = told

pub refusal_search : (old : Parts) (q : SearchSaid) (refused : Refused) → ((s : State) → Represents old s → queue_refusal s q.topic q.queue ≡ Some (refusal_reply refused))
    → (s : State) → Represents old s → refusal_of s (Search q) ≡ Some (refusal_reply refused)
unfolding refusal_of
refusal_search old q refused told = told

pub refusal_pull : (old : Parts) (q : PullSaid) (refused : Refused) → ((s : State) → Represents old s → pull_refusal s q ≡ Some (refusal_reply refused))
    → (s : State) → Represents old s → refusal_of s (Pull q) ≡ Some (refusal_reply refused)
unfolding refusal_of
refusal_pull old q refused told = told

pub refusal_stored : (old : Parts) (q : OffsetSaid) (refused : Refused) → ((s : State) → Represents old s → queue_refusal s q.topic q.queue ≡ Some (refusal_reply refused))
    → (s : State) → Represents old s → refusal_of s (OffsetOf q) ≡ Some (refusal_reply refused)
unfolding refusal_of
refusal_stored old q refused told = told

pub refusal_set_offset : (old : Parts) (q : SetOffsetSaid) (refused : Refused) → ((s : State) → Represents old s → queue_refusal s q.topic q.queue ≡ Some (refusal_reply refused))
    → (s : State) → Represents old s → refusal_of s (SetOffset q) ≡ Some (refusal_reply refused)
unfolding refusal_of
refusal_set_offset old q refused told = told
