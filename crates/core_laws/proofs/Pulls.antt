-- What is pulled is among what consumers see.
use Rattle.std.proofs.Common.{◌≡◌, refl, ap, sym, ◌∙◌, subst, arith, ℕ, zero, suc, ◌+◌, ◌-◌, ◌<◌, List, [], ◌∷◌, ◌++◌, length, take, drop, filter, slice_get, Bool, true, false, Option, Some, None, cond, if◌then◌else◌, append_assoc}
use Rattle.std.specs.Prelude.{ℤ, pos, negsuc, nat_lt, ◌&&◌, ◌==◌, ◌||◌, not, is_some, is_none, unwrap_or, codes}
use Rattle.std.specs.Str.{bytes_eq}
use Rattle.std.proofs.lemmas.Option.{same_Some}
use Rattle.record_codec.specs.Entry.{Entry}
use Rattle.record_codec.specs.Units.{unit_of}
use Rattle.record_codec.specs.Drafts.{first_that_holds}
use Rattle.record_codec.specs.declared.unit.Unit.{Unit as QueueUnit}
use Rattle.log_model.specs.Keys.{asked_number}
use Rattle.log_model.specs.Numbered.{queue_min, records_of}
use Rattle.log_model.specs.Pulls.{Pulled, takes, goes_on, examined, nothing, after_looking, pulled_from, pulled}
use Rattle.request_fields.specs.Requests.{PullSaid}
use Rattle.request_fields.specs.declared.request.Request.{Request}
use Rattle.request_fields.specs.declared.request.Request.TheVariants.{Pull}
use Rattle.broker_model.specs.State.{State, seen}
use Rattle.broker_model.specs.Events
use Rattle.broker_model.specs.Refusals.{refusal_of, pull_refusal, queue_refusal, queue_count, is_closed_topic, is_by_tags, or_else, plain_reply}
use Rattle.broker_model.specs.Appended.{is_refused, drafts_of}
use Rattle.broker_model.specs.Answers.{answer_of, carried_out_answer, request_answer, pulled_reply, pull_of, pull_words, or_refused, refused_answer}
use Rattle.broker_model.specs.Acknowledged.{StandsAt}
use Rattle.broker_model.specs.Step.{Step}
use Rattle.core_laws.specs.Sound.{IsSound}
use Rattle.core_laws.specs.Pulls.{IsSliceOf}
use Rattle.core_laws.proofs.Lists.{get_take, get_left, get_behind}

-- what is examined is a front of what is there, behind what was examined before
examined_front : (most : ℕ) (test : QueueUnit → Bool) (front queue : List Entry) → (rest : List Entry) × (front ++ queue ≡ examined unit_of most test front queue ++ rest)
examined_front most test front [] = ([], refl)
examined_front most test front (x ∷ queue) =
    elim (goes_on unit_of most test front x) as (λ b. (rest : List Entry) × (front ++ (x ∷ queue) ≡ (if b then examined unit_of most test (front ++ x ∷ []) queue else front) ++ rest)) [
      | true ↦ let more = examined_front most test (front ++ x ∷ []) queue in (more.0, sym (append_assoc front (x ∷ []) queue) ∙ more.1)
      | false ↦ (x ∷ queue, refl)
    ]

-- nothing is a piece of any queue
no_slice : (queue : List Entry) (words : List ℕ) → IsSliceOf queue words []
no_slice queue words = record { before = []; piece = []; behind = queue; whole = refl; taken = refl }

take_drop : (n : ℕ) (xs : List Entry) → xs ≡ take n xs ++ drop n xs
take_drop zero xs = refl
take_drop (suc n) [] = refl
take_drop (suc n) (x ∷ xs) = ap (λ (l : List Entry). x ∷ l) (take_drop n xs)

looked_slice : (low from most : ℕ) (queue : List Entry) (words : List ℕ)
    → IsSliceOf queue words (after_looking unit_of from low (low + length queue) (takes words) (examined unit_of most (takes words) [] (drop (from - low) queue))).taken
looked_slice low from most queue words =
    let front = examined_front most (takes words) [] (drop (from - low) queue) in
    record {
      before = take (from - low) queue;
      piece = examined unit_of most (takes words) [] (drop (from - low) queue);
      behind = front.0;
      whole = take_drop (from - low) queue ∙ ap (λ (l : List Entry). take (from - low) queue ++ l) front.1;
      taken = refl;
    }

-- one of two pulls is a slice where both are
either_slice : (queue : List Entry) (words : List ℕ) (b : Bool) (x y : Pulled Entry) → IsSliceOf queue words x.taken → IsSliceOf queue words y.taken
    → IsSliceOf queue words (if b then x else y).taken
either_slice queue words true x y first second = first
either_slice queue words false x y first second = second

from_slice : (low from most : ℕ) (queue : List Entry) (words : List ℕ) → IsSliceOf queue words (pulled_from unit_of low queue from most (takes words)).taken
from_slice low from most queue words =
    either_slice queue words ((low + length queue == 0) && (from == 0)) (nothing 19 0 low (low + length queue)) _ (no_slice queue words)
    (either_slice queue words (nat_lt from low) (nothing 21 low low (low + length queue)) _ (no_slice queue words)
    (either_slice queue words (from == low + length queue) (nothing 19 (low + length queue) low (low + length queue)) _ (no_slice queue words)
    (either_slice queue words (nat_lt (low + length queue) from) (nothing 21 (low + length queue) low (low + length queue))
    (after_looking unit_of from low (low + length queue) (takes words) (examined unit_of most (takes words) [] (drop (from - low) queue)))
    (no_slice queue words) (looked_slice low from most queue words))))

pulled_slice : (low : ℕ) (queue : List Entry) (from : ℤ) (most : ℕ) (words : List ℕ) → IsSliceOf queue words (pulled unit_of low queue from most (takes words)).taken
pulled_slice low queue (pos from) most words = from_slice low from most queue words
pulled_slice low queue (negsuc from) most words = no_slice queue words

-- ---- the answer to a pull

-- a reply, if any, without a body
abbrev HasNoBody : Option Events.Reply → Type 0
HasNoBody None = Unit {0}
HasNoBody (Some reply) = reply.body ≡ []

one_row : (b : Bool) (reply : Events.Reply) → reply.body ≡ [] → HasNoBody (first_that_holds ((b, reply) ∷ []))
one_row true reply empty = empty
one_row false reply empty = tt

two_rows : (a b : Bool) (first second : Events.Reply) → first.body ≡ [] → second.body ≡ []
    → HasNoBody (first_that_holds ((a, first) ∷ (b, second) ∷ []))
two_rows true b first second empty also = empty
two_rows false true first second empty also = also
two_rows false false first second empty also = tt

either_row : (first second : Option Events.Reply) → HasNoBody first → HasNoBody second → HasNoBody (or_else first second)
either_row None second empty also = also
either_row (Some reply) second empty also = empty

refused_pull : (s : State) (p : PullSaid) → HasNoBody (pull_refusal s p)
refused_pull s p = either_row (first_that_holds ((is_closed_topic p.topic, plain_reply 16 (codes "system topic")) ∷ [])) _
    (one_row (is_closed_topic p.topic) (plain_reply 16 (codes "system topic")) refl)
    (either_row (queue_refusal s p.topic p.queue) (first_that_holds ((not (is_by_tags p.expression), plain_reply 1 (codes "expression")) ∷ []))
    (two_rows (is_none (queue_count s p.topic)) (not (nat_lt p.queue (unwrap_or (queue_count s p.topic) 0))) (plain_reply 17 (codes "no topic"))
    (plain_reply 1 (codes "queue")) refl refl)
    (one_row (not (is_by_tags p.expression)) (plain_reply 1 (codes "expression")) refl))

-- the body of a reply
abbrev body_of : Events.Answer → List Entry
body_of (Events.Replies reply) = reply.body
body_of _ = []

-- the pull of an event
abbrev pull_event : Events.Asked → PullSaid → Events.Event
pull_event a p = Events.Asks (record a { request = Pull p })

-- whether it is refused or not, what is answered is a piece of the queue
pull_answered : (s : State) (a : Events.Asked) (p : PullSaid)
    → IsSliceOf (records_of (seen s) p.topic p.queue) (pull_words s p) (body_of (answer_of s (pull_event a p)))
unfolding answer_of is_refused drafts_of carried_out_answer request_answer refusal_of
pull_answered s a p =
    elim (pull_refusal s p) as (λ o. HasNoBody o → IsSliceOf (records_of (seen s) p.topic p.queue) (pull_words s p)
    (body_of (or_refused o (if is_some o || false || false then refused_answer s (pull_event a p) else Events.Replies (pulled_reply (pull_of s p)))))) [
      | None ↦ λ empty. pulled_slice (queue_min (seen s) p.topic p.queue) (records_of (seen s) p.topic p.queue) p.from (asked_number 32 p.most) (pull_words s p)
      | Some reply ↦ λ empty. subst (IsSliceOf (records_of (seen s) p.topic p.queue) (pull_words s p)) (sym empty) (no_slice (records_of (seen s) p.topic p.queue) (pull_words s p))
    ]
    (refused_pull s p)

pub step_slice : (s t : State) (a : Events.Asked) (p : PullSaid) (reply : Events.Reply) → a.request ≡ Pull p
    → Step s (Events.Asks a) (Some (Events.Replies reply)) t → IsSliceOf (records_of (seen s) p.topic p.queue) (pull_words s p) reply.body
step_slice s t a p reply is step =
    subst (λ (answer : Events.Answer). IsSliceOf (records_of (seen s) p.topic p.queue) (pull_words s p) (body_of answer)) (sym step.1)
    (subst (λ (q : Request). IsSliceOf (records_of (seen s) p.topic p.queue) (pull_words s p) (body_of (answer_of s (Events.Asks (record a { request = q }))))) (sym is)
    (pull_answered s a p))

-- ---- where it stands

-- what a filter keeps was there
kept_at : (test : Entry → Bool) (x : Entry) (xs : List Entry) (r : Entry) (b : Bool)
    → ((i : ℕ) → slice_get (filter test xs) i ≡ Some r → (j : ℕ) × (slice_get xs j ≡ Some r))
    → (k : ℕ) → slice_get (cond b (x ∷ filter test xs) (filter test xs)) k ≡ Some r → (j : ℕ) × (slice_get (x ∷ xs) j ≡ Some r)
kept_at test x xs r true rest zero got = (0, got)
kept_at test x xs r true rest (suc k) got = let there = rest k got in (suc there.0, there.1)
kept_at test x xs r false rest k got = let there = rest k got in (suc there.0, there.1)

pub kept_was_there : (test : Entry → Bool) (xs : List Entry) (k : ℕ) (r : Entry) → slice_get (filter test xs) k ≡ Some r
    → (j : ℕ) × (slice_get xs j ≡ Some r)
kept_was_there test [] k r got = absurd (cc)
kept_was_there test (x ∷ xs) k r got = kept_at test x xs r (test x) (λ i at. kept_was_there test xs i r at) k got

-- and passes
passes_at : (test : Entry → Bool) (x : Entry) (xs : List Entry) (r : Entry) (b : Bool) → test x ≡ b
    → ((i : ℕ) → slice_get (filter test xs) i ≡ Some r → test r ≡ true)
    → (k : ℕ) → slice_get (cond b (x ∷ filter test xs) (filter test xs)) k ≡ Some r → test r ≡ true
passes_at test x xs r true is rest zero got = ap test (sym (same_Some x r got)) ∙ is
passes_at test x xs r true is rest (suc k) got = rest k got
passes_at test x xs r false is rest k got = rest k got

pub kept_passes : (test : Entry → Bool) (xs : List Entry) (k : ℕ) (r : Entry) → slice_get (filter test xs) k ≡ Some r → test r ≡ true
kept_passes test [] k r got = absurd (cc)
kept_passes test (x ∷ xs) k r got = passes_at test x xs r (test x) refl (λ i at. kept_passes test xs i r at) k got

-- what a slice has is in its queue
slice_in : (queue body : List Entry) (words : List ℕ) (k : ℕ) (r : Entry) → IsSliceOf queue words body → slice_get body k ≡ Some r → (j : ℕ) × (slice_get queue j ≡ Some r)
slice_in queue body words k r slice at =
    let kept = kept_was_there (λ x. takes words (unit_of x)) slice.piece k r (subst (λ (l : List Entry). slice_get l k ≡ Some r) slice.taken at) in
    let there = get_behind slice.before (slice.piece ++ slice.behind) kept.0 r (get_left slice.piece slice.behind kept.0 r kept.1) in
    (there.0, subst (λ (l : List Entry). slice_get l there.0 ≡ Some r) (sym slice.whole) there.1)

-- what is pulled has a number below the dispatched one
pub pulled_at : (s t : State) (a : Events.Asked) (p : PullSaid) (reply : Events.Reply) (k : ℕ) (r : Entry) → IsSound s → a.request ≡ Pull p
    → Step s (Events.Asks a) (Some (Events.Replies reply)) t → slice_get reply.body k ≡ Some r
    → (n : ℕ) × (n < s.dispatched) × StandsAt s n r
pulled_at s t a p reply k r sound is step at =
    let found = slice_in (records_of (seen s) p.topic p.queue) reply.body (pull_words s p) k r (step_slice s t a p reply is step) at in
    let there = kept_was_there (λ x. bytes_eq x.topic p.topic && (x.queue == p.queue)) (seen s).records found.0 r found.1 in
    let low = get_take (s.dispatched - s.log.base.records) there.0 s.log.records r there.1 in
    (s.log.base.records + there.0, omega (arith, low.1), record { index = there.0; number = refl; stands = low.0 })
