-- What a step does to the log.
use Rattle.std.proofs.Common.{◌≡◌, refl, ap, sym, ◌∙◌, ℕ, List, [], ◌∷◌, true, false, Option, Some, None, if◌then◌else◌}
use Rattle.std.proofs.lemmas.List.{append-nil}
use Rattle.record_codec.specs.Entry.{Entry}
use Rattle.log_model.specs.Numbered.{Log, with_appended}
use Rattle.request_fields.specs.declared.request.Request.{Request}
use Rattle.request_fields.specs.declared.request.Request.TheVariants.{Pull}
use Rattle.broker_model.specs.State.{State}
use Rattle.broker_model.specs.Events
use Rattle.broker_model.specs.Appended.{made_by, appended, is_refused, moment}
use Rattle.broker_model.specs.Answers.{taken}
use Rattle.broker_model.specs.Step.{changed, request_changed, after, with_records, stored, pull_offset, out_of}
use Rattle.broker_model.specs.Laws.{IsRemoval}

-- an offset is stored apart from the log
stored_log : (s : State) (group topic : List ℕ) (queue : ℕ) (offset : Option ℕ) → (stored s group topic queue offset).log ≡ s.log
stored_log s group topic queue None = refl
stored_log s group topic queue (Some offset) = refl

-- a turn that begins leaves the log
out_log : (s : State) (t : Option Events.Taken) → (out_of s t).log ≡ s.log
out_log s None = refl
out_log s (Some t) = refl

-- a request changes the log only by its records
request_log : (s : State) (link now : ℕ) (r : Request) → (request_changed s link now r).log ≡ s.log
unfolding request_changed
request_log s link now (Pull p) = stored_log s p.group p.topic p.queue (pull_offset p)
request_log s link now _ = refl

-- nothing but a removal changes the records that stand
pub log_stays : (s : State) (e : Events.Event) → ¬ IsRemoval e → (changed s e).log ≡ s.log
unfolding changed
log_stays s (Events.Asks a) stays = request_log s a.link a.now a.request
log_stays s Events.Take stays = out_log s (taken s)
log_stays s (Events.Trim base) stays = absurd (stays tt)
log_stays s _ stays = refl

-- a log with nothing appended is the log
pub with_appended-nil : (log : Log) → log ≡ with_appended log []
with_appended-nil log = ap (λ (rs : List Entry). record { base = log.base; records = rs }) (sym (append-nil log.records))

-- the records are appended, and nothing else changes the log
with_records_log : (s : State) (now : ℕ) (records : List Entry) → (with_records s now records).log ≡ with_appended s.log records
with_records_log s now [] = with_appended-nil s.log
with_records_log s now (r ∷ records) = refl

-- but for a removal the log grows by what the event appends
pub log_grows : (s : State) (e : Events.Event) → ¬ IsRemoval e → (after s e).log ≡ with_appended s.log (appended s e)
unfolding after appended
log_grows s e stays =
    elim (is_refused s e) as (λ b. (if b then s else with_records (changed s e) (moment s e) (made_by s e)).log ≡ with_appended s.log (if b then [] else made_by s e)) [
      | true ↦ with_appended-nil s.log
      | false ↦ with_records_log (changed s e) (moment s e) (made_by s e) ∙ ap (λ (l : Log). with_appended l (made_by s e)) (log_stays s e stays)
    ]
