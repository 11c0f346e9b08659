-- What a step of the broker leaves of its log, its setup and its flushed number.
use Rattle.std.proofs.Common.{◌≡◌, ℕ, ◌+◌, List, [], ◌∷◌, ◌++◌, true, false, max, Option, Some, None, refl, sym, ap, ◌∙◌, subst, append_assoc}
use Rattle.std.specs.Prelude.{if◌then◌else◌}
use Rattle.record_codec.specs.Entry.{Entry}
use Rattle.log_model.specs.Bases.{geometry}
use Rattle.log_model.specs.Numbered.{Log, with_appended}
use Rattle.log_model.specs.Stored.{stored}
use Rattle.request_fields.specs.declared.request.Request.{Request}
use Rattle.request_fields.specs.declared.request.Request.TheVariants.{Pull}
use Rattle.broker_model.specs.State.{State}
use Rattle.broker_model.specs.Events as events
use Rattle.broker_model.specs.Answers.{taken}
use Rattle.broker_model.specs.Appended.{is_refused, made_by, moment, appended, drafts_of}
use Rattle.broker_model.specs.Step.{Step, after, changed, request_changed, with_records, stored as offset_stored, pull_offset, out_of}
use Rattle.broker_model.specs.Laws.{IsRemoval}
use Rattle.broker_model.proofs.StepLemmas.{log_grows, with_appended-nil}
use Rattle.broker_events.specs.declared.event.Event.{Event}
use Rattle.broker_events.specs.declared.event.Event.TheVariants.{Request as Asks, Take, Flushed, FlushFailed}
use Rattle.broker_events.specs.declared.event.Event.TheVariants.{Look, Dispatch, Deliver, Check, Leave}
use Rattle.broker_events.specs.Steps.{event_of}
use Rattle.log_model.specs.declared.batch.Receipt.{Receipt}
use Rattle.flush_story.specs.Story.{IsBetween}
use Rattle.flush_story.specs.Keeping.{flushed_in, log_in, Grows}

-- ---- setup and flushed number of the state that is left

-- the same setup, and as many records flushed
record Alike (s t : State) : Type 0 where
  setup : t.setup ≡ s.setup
  flushed : t.flushed ≡ s.flushed

records_alike : (s : State) (now : ℕ) (records : List Entry) → Alike s (with_records s now records)
records_alike s now [] = record { setup = refl; flushed = refl }
records_alike s now (r ∷ records) = record { setup = refl; flushed = refl }

offset_alike : (s : State) (group topic : List ℕ) (queue : ℕ) (offset : Option ℕ) → Alike s (offset_stored s group topic queue offset)
offset_alike s group topic queue None = record { setup = refl; flushed = refl }
offset_alike s group topic queue (Some offset) = record { setup = refl; flushed = refl }

request_alike : (s : State) (link now : ℕ) (r : Request) → Alike s (request_changed s link now r)
unfolding request_changed
request_alike s link now (Pull p) = offset_alike s p.group p.topic p.queue (pull_offset p)
request_alike s link now _ = record { setup = refl; flushed = refl }

out_alike : (s : State) (t : Option events.Taken) → Alike s (out_of s t)
out_alike s None = record { setup = refl; flushed = refl }
out_alike s (Some t) = record { setup = refl; flushed = refl }

changed_alike : (s : State) (e : Event) → IsBetween e → Alike s (changed s (event_of e))
unfolding changed
changed_alike s (Asks link host now request) between = request_alike s link now request
changed_alike s Take between = out_alike s (taken s)
changed_alike s (Flushed receipt) between = absurd between
changed_alike s (FlushFailed count) between = record { setup = refl; flushed = refl }
changed_alike s (Look number turn) between = record { setup = refl; flushed = refl }
changed_alike s (Dispatch most) between = record { setup = refl; flushed = refl }
changed_alike s (Deliver now) between = record { setup = refl; flushed = refl }
changed_alike s (Check now) between = record { setup = refl; flushed = refl }
changed_alike s (Leave link) between = record { setup = refl; flushed = refl }

after_alike : (s : State) (e : Event) → IsBetween e → Alike s (after s (event_of e))
unfolding after
after_alike s e between =
    elim (is_refused s (event_of e)) as (λ b. Alike s (if b then s else with_records (changed s (event_of e)) (moment s (event_of e)) (made_by s (event_of e)))) [
      | true ↦ record { setup = refl; flushed = refl }
      | false ↦
          let first = changed_alike s e between in
          let next = records_alike (changed s (event_of e)) (moment s (event_of e)) (made_by s (event_of e)) in
          record { setup = next.setup ∙ first.setup; flushed = next.flushed ∙ first.flushed }
    ]

step_alike : (s t : State) (e : Event) (answer : Option events.Answer) → IsBetween e → Step s (event_of e) answer t → Alike s t
step_alike s t e None between step = subst (λ (u : State). Alike s u) (sym step.1) (record { setup = refl; flushed = refl })
step_alike s t e (Some answer) between step = subst (λ (u : State). Alike s u) (sym step.2) (after_alike s e between)

-- a step that flushes nothing
pub step_flushed : (s t : State) (e : Event) (answer : Option events.Answer) → IsBetween e → Step s (event_of e) answer t → t.flushed ≡ s.flushed
step_flushed s t e answer between step = (step_alike s t e answer between step).flushed

-- ---- a batch that is flushed

flushed_after : (s : State) (count : ℕ) → ((after s (events.Flushed count)).flushed ≡ s.flushed + count) × ((after s (events.Flushed count)).setup ≡ s.setup)
unfolding after changed is_refused drafts_of
flushed_after s count = (refl, refl)

-- its records are flushed
pub step_flushes : (s t : State) (receipt : Receipt) (answer : events.Answer) → Step s (event_of (Flushed receipt)) (Some answer) t → t.flushed ≡ s.flushed + receipt.count
step_flushes s t receipt answer step = ap (λ (u : State). u.flushed) step.2 ∙ (flushed_after s receipt.count).0

-- ---- the log grows

pub grows_none : (s : State) → Grows s s
grows_none s = record { more = []; log = with_appended-nil s.log; setup = refl }

no_removal : (e : Event) → IsRemoval (event_of e) → ⊥
no_removal (Asks link host now request) removal = removal
no_removal Take removal = removal
no_removal (Flushed receipt) removal = removal
no_removal (FlushFailed count) removal = removal
no_removal (Look number turn) removal = removal
no_removal (Dispatch most) removal = removal
no_removal (Deliver now) removal = removal
no_removal (Check now) removal = removal
no_removal (Leave link) removal = removal

setup_stays : (s : State) (e : Event) → (after s (event_of e)).setup ≡ s.setup
setup_stays s (Asks link host now request) = (after_alike s (Asks link host now request) tt).setup
setup_stays s Take = (after_alike s Take tt).setup
setup_stays s (Flushed receipt) = (flushed_after s receipt.count).1
setup_stays s (FlushFailed count) = (after_alike s (FlushFailed count) tt).setup
setup_stays s (Look number turn) = (after_alike s (Look number turn) tt).setup
setup_stays s (Dispatch most) = (after_alike s (Dispatch most) tt).setup
setup_stays s (Deliver now) = (after_alike s (Deliver now) tt).setup
setup_stays s (Check now) = (after_alike s (Check now) tt).setup
setup_stays s (Leave link) = (after_alike s (Leave link) tt).setup

pub step_grows : (s t : State) (e : Event) (answer : Option events.Answer) → Step s (event_of e) answer t → Grows s t
step_grows s t e None step = subst (λ (u : State). Grows s u) (sym step.1) (grows_none s)
step_grows s t e (Some answer) step =
    subst (λ (u : State). Grows s u) (sym step.2)
    (record { more = appended s (event_of e); log = log_grows s (event_of e) (no_removal e); setup = setup_stays s e })

pub grows_then : (s t u : State) → Grows s t → Grows t u → Grows s u
grows_then s t u first later = record {
  more = first.more ++ later.more;
  log = later.log ∙ ap (λ (l : Log). with_appended l later.more) first.log
      ∙ ap (λ (rs : List Entry). record { base = s.log.base; records = rs }) (append_assoc s.log.records first.more later.more);
  setup = later.setup ∙ first.setup;
}

-- the log that is stored, where so many records are flushed
pub log_grown : (s t : State) (grows : Grows s t) (n : ℕ) → flushed_in t ≡ n → log_in t ≡ stored (geometry s.setup.segment s.log.base) (s.log.records ++ grows.more) n
log_grown s t grows n flushed = λ i. stored (geometry ((grows.setup i).segment) ((grows.log i).base)) ((grows.log i).records) (flushed i)
