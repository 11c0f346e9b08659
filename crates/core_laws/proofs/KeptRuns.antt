-- Each log of a run is kept.
use Rattle.std.proofs.Common.{◌≡◌, inl, inr, refl, ap, sym, ◌∙◌, subst, arith, ℕ, ◌-◌, ◌<◌, ◌≤◌, List, [], ◌∷◌, length, true, false, Option, Some, None, if◌then◌else◌}
use Rattle.std.proofs.lemmas.Bool.{cases_Bool, or_parts, cond-true, cond-false}
use Rattle.record_codec.specs.Entry.{Entry}
use Rattle.log_model.specs.Bases.{Base}
use Rattle.log_model.specs.Numbered.{Log, with_appended, above, below}
use Rattle.std.specs.Prelude.{◌||◌}
use Rattle.request_fields.specs.declared.request.Request.{Request}
use Rattle.request_fields.specs.declared.request.Request.TheVariants.{Pull}
use Rattle.broker_model.specs.State.{State, Saved, Setup}
use Rattle.broker_model.specs.Events
use Rattle.broker_model.specs.Appended.{is_refused, is_refused_request, is_past_end, is_full, made_by, moment, drafts_of}
use Rattle.broker_model.specs.Step.{Step, after, changed, request_changed, stored, pull_offset, out_of, with_records, IsPossible}
use Rattle.broker_model.specs.Answers.{taken}
use Rattle.broker_model.specs.Removal.{IsRemovable}
use Rattle.broker_model.specs.Laws.{IsRemoval}
use Rattle.broker_model.specs.Run.{Boot, Move, Steps, SavesOffsets, SavesTopics, SavesBase, Crashes, Goes, RunWith, IsAmong, IsOfBoot, with_saved, kept_log, CanCrash}
use Rattle.broker_model.proofs.StepLemmas.{log_stays, with_appended-nil}
use Rattle.core_laws.specs.Sound.{IsSound, IsSoundBoot}
use Rattle.core_laws.specs.Kept.{IsKept, IsKeptBoot}
use Rattle.core_laws.specs.LogSteps.{LogStep}
use Rattle.core_laws.proofs.Bases.{base_same}
use Rattle.core_laws.proofs.Lists.{length_take, take_take_less}
use Rattle.core_laws.proofs.Kept.{kept_above, kept_below}
use Rattle.core_laws.proofs.Runs.{goes_good}
use Rattle.core_laws.proofs.KeptSteps.{kept_all, event_fits}

-- ---- what a step does to the log

with_log : (s : State) (now : ℕ) (records : List Entry) → (with_records s now records).log ≡ with_appended s.log records
with_log s now [] = with_appended-nil s.log
with_log s now (r ∷ records) = refl

-- a removal appends nothing, and takes over the saved base
trim_log : (s : State) (base : Base) → base ≡ s.saved.base
    → (with_records (changed s (Events.Trim base)) (moment s (Events.Trim base)) (made_by s (Events.Trim base))).log ≡ above s.log s.saved.base
unfolding changed drafts_of
trim_log s base is = ap (λ (b : Base). above s.log b) is

-- any other event appends what it makes
grows_by : (s : State) (e : Events.Event) → ¬ IsRemoval e → is_refused s e ≡ false → LogStep s e (with_records (changed s e) (moment s e) (made_by s e))
grows_by s e stays fine = inr (inl (record {
  fine = fine;
  log = with_log (changed s e) (moment s e) (made_by s e) ∙ ap (λ (l : Log). with_appended l (made_by s e)) (log_stays s e stays);
}))

carried : (s : State) (e : Events.Event) → IsPossible s e → is_refused s e ≡ false
    → LogStep s e (with_records (changed s e) (moment s e) (made_by s e))
carried s (Events.Trim base) possible fine = inr (inr (record { log = trim_log s base possible.0 }))
carried s (Events.Asks a) possible fine = grows_by s (Events.Asks a) (λ no. no) fine
carried s Events.Take possible fine = grows_by s Events.Take (λ no. no) fine
carried s (Events.Flushed n) possible fine = grows_by s (Events.Flushed n) (λ no. no) fine
carried s (Events.FlushFailed n) possible fine = grows_by s (Events.FlushFailed n) (λ no. no) fine
carried s (Events.Look n t) possible fine = grows_by s (Events.Look n t) (λ no. no) fine
carried s (Events.Dispatch n) possible fine = grows_by s (Events.Dispatch n) (λ no. no) fine
carried s (Events.Deliver n) possible fine = grows_by s (Events.Deliver n) (λ no. no) fine
carried s (Events.Check n) possible fine = grows_by s (Events.Check n) (λ no. no) fine
carried s (Events.Leave n) possible fine = grows_by s (Events.Leave n) (λ no. no) fine

after_log : (s : State) (e : Events.Event) → IsPossible s e → LogStep s e (after s e)
unfolding after
after_log s e possible = elim (cases_Bool (is_refused s e)) [
  | inl refused ↦ inl (ap (λ (t : State). t.log) (cond-true (is_refused s e) s (with_records (changed s e) (moment s e) (made_by s e)) refused))
  | inr fine ↦ subst (LogStep s e) (sym (cond-false (is_refused s e) s (with_records (changed s e) (moment s e) (made_by s e)) fine)) (carried s e possible fine)
]

-- the log stays, grows by what the event makes, or begins at the saved base
pub step_log : (s t : State) (e : Events.Event) (said : Option Events.Answer) → Step s e said t → LogStep s e t
step_log s t e None step = inl (ap (λ (x : State). x.log) step.1)
step_log s t e (Some said) step = subst (LogStep s e) (sym step.2) (after_log s e step.0)

-- ---- states

-- what is made of an event that isn't refused keeps the log
pub made_kept : (s : State) (e : Events.Event) → 0 < s.setup.segment → IsKept s.log → is_refused s e ≡ false → IsKept (with_appended s.log (made_by s e))
unfolding is_refused
made_kept s e some kept fine =
    let outer = or_parts (is_refused_request s e || is_past_end s e) (is_full s e) fine in
    let inner = or_parts (is_refused_request s e) (is_past_end s e) outer.0 in
    kept_all s.setup.segment (moment s e) s.log (drafts_of s e) some kept (event_fits s s.setup.segment (moment s e) e kept inner.0) inner.1

-- what the saved base leaves of the log is kept
saved_kept : (s : State) → IsSound s → IsKept s.log → ((topic : List ℕ) (queue : ℕ) → s.saved.base.queues topic queue ≤ s.saved.base.place)
    → IsKept (above s.log s.saved.base)
saved_kept s sound kept low = kept_above s.log s.saved.base sound.ahead (omega (arith, sound.within, sound.dispatched, sound.flushed)) sound.saved low kept

pub step_kept : (s t : State) (e : Events.Event) → 0 < s.setup.segment → IsSound s → IsKept s.log
    → ((topic : List ℕ) (queue : ℕ) → s.saved.base.queues topic queue ≤ s.saved.base.place) → LogStep s e t → IsKept t.log
step_kept s t e some sound kept low (inl same) = subst IsKept (sym same) kept
step_kept s t e some sound kept low (inr (inl grows)) = subst IsKept (sym grows.log) (made_kept s e some kept grows.fine)
step_kept s t e some sound kept low (inr (inr cut)) = subst IsKept (sym cut.log) (saved_kept s sound kept low)

-- what a crash keeps is a front of the log, from the saved base on
crash_kept : (s : State) (k : ℕ) (setup : Setup) → CanCrash s k setup → IsSound s → IsKept s.log
    → ((topic : List ℕ) (queue : ℕ) → s.saved.base.queues topic queue ≤ s.saved.base.place) → IsKept (kept_log s k)
crash_kept s k setup can sound kept low =
    let long : sound.ahead ≤ length s.log.records = omega (arith, sound.within, sound.dispatched, sound.flushed) in
    let front : sound.ahead ≤ k - s.log.base.records = omega (arith, sound.within, sound.dispatched, can.no_less) in
    kept_above (below s.log k) s.saved.base sound.ahead
    (omega (arith, length_take (k - s.log.base.records) s.log.records (omega (arith, can.no_more)), front))
    (base_same s.log.base s.saved.base _ _ (sym (take_take_less sound.ahead (k - s.log.base.records) s.log.records front)) sound.saved) low (kept_below s.log k kept)

-- a base at which a state may begin counts no more records than there are places before it
base_low : (p : State) (base : Base) → IsKept p.log → IsRemovable p base → (topic : List ℕ) (queue : ℕ) → base.queues topic queue ≤ base.place
base_low p base kept may topic queue = omega (arith, may.cut.counts.queues topic queue, kept.counted may.count topic queue, may.cut.behind)

-- ---- boots

-- the setup and the kept files stay in a step
with_setup : (s : State) (now : ℕ) (records : List Entry) → ((with_records s now records).setup ≡ s.setup) × ((with_records s now records).saved ≡ s.saved)
with_setup s now [] = (refl, refl)
with_setup s now (r ∷ records) = (refl, refl)

stored_setup : (s : State) (group topic : List ℕ) (queue : ℕ) (offset : Option ℕ)
    → ((stored s group topic queue offset).setup ≡ s.setup) × ((stored s group topic queue offset).saved ≡ s.saved)
stored_setup s group topic queue None = (refl, refl)
stored_setup s group topic queue (Some offset) = (refl, refl)

request_setup : (s : State) (link now : ℕ) (r : Request) → ((request_changed s link now r).setup ≡ s.setup) × ((request_changed s link now r).saved ≡ s.saved)
unfolding request_changed
request_setup s link now (Pull p) = stored_setup s p.group p.topic p.queue (pull_offset p)
request_setup s link now _ = (refl, refl)

out_setup : (s : State) (t : Option Events.Taken) → ((out_of s t).setup ≡ s.setup) × ((out_of s t).saved ≡ s.saved)
out_setup s None = (refl, refl)
out_setup s (Some t) = (refl, refl)

changed_setup : (s : State) (e : Events.Event) → ((changed s e).setup ≡ s.setup) × ((changed s e).saved ≡ s.saved)
unfolding changed
changed_setup s (Events.Asks a) = request_setup s a.link a.now a.request
changed_setup s Events.Take = out_setup s (taken s)
changed_setup s _ = (refl, refl)

-- nothing that an event changes is the setup or the kept files
after_setup : (s : State) (e : Events.Event) → ((after s e).setup ≡ s.setup) × ((after s e).saved ≡ s.saved)
unfolding after
after_setup s e = elim (is_refused s e) as (λ b. ((if b then s else with_records (changed s e) (moment s e) (made_by s e)).setup ≡ s.setup)
    × ((if b then s else with_records (changed s e) (moment s e) (made_by s e)).saved ≡ s.saved)) [
      | true ↦ (refl, refl)
      | false ↦ let w = with_setup (changed s e) (moment s e) (made_by s e) in let c = changed_setup s e in (w.0 ∙ c.0, w.1 ∙ c.1)
    ]

pub step_saved : (s t : State) (e : Events.Event) (said : Option Events.Answer) → Step s e said t → (t.setup ≡ s.setup) × (t.saved ≡ s.saved)
step_saved s t e None step = (ap (λ (x : State). x.setup) step.1, ap (λ (x : State). x.saved) step.1)
step_saved s t e (Some said) step =
    let a = after_setup s e in (ap (λ (x : State). x.setup) step.2 ∙ a.0, ap (λ (x : State). x.saved) step.2 ∙ a.1)

-- the state of a boot
of_saved : (b : Boot) (saved : Saved) → ((s : State) → IsOfBoot b s → IsKept s.log) → (s : State) → IsOfBoot (with_saved b saved) s → IsKept s.log
of_saved b saved logs s (inl now) = subst (λ (x : State). IsKept x.log) (sym now) (logs b.now (inl refl))
of_saved b saved logs s (inr (inl last)) = logs s (inl last)
of_saved b saved logs s (inr (inr before)) = logs s (inr before)

-- what a move leaves is kept where its state is sound
pub goes_kept : (b : Boot) (move : Move) (c : Boot) → IsKeptBoot b → Goes b move c → IsKeptBoot c
goes_kept b (Steps e said) c kept goes =
    let good = goes_good b (Steps e said) c kept.sound goes in
    let rest = step_saved b.now c.now e said goes.0 in
    let here = step_kept b.now c.now e kept.segment kept.sound.state (kept.logs b.now (inl refl)) kept.saved (step_log b.now c.now e said goes.0) in
    record {
      sound = good.0;
      segment = subst (λ (x : Setup). 0 < x.segment) (sym rest.0) kept.segment;
      logs = λ s of. elim of [
        | inl now ↦ subst (λ (x : State). IsKept x.log) (sym now) here
        | inr past ↦ elim (subst (λ (l : List State). IsAmong l s) goes.1 past) [ inl last ↦ kept.logs s (inl last) | inr before ↦ kept.logs s (inr before) ]
      ];
      saved = λ topic queue. subst (λ (x : Saved). x.base.queues topic queue ≤ x.base.place) (sym rest.1) (kept.saved topic queue);
    }
goes_kept b SavesOffsets c kept goes = subst IsKeptBoot (sym goes.2) (record {
  sound = subst IsSoundBoot goes.2 (goes_good b SavesOffsets c kept.sound goes).0;
  segment = kept.segment;
  logs = of_saved b _ kept.logs;
  saved = kept.saved;
})
goes_kept b SavesTopics c kept goes = subst IsKeptBoot (sym goes.2) (record {
  sound = subst IsSoundBoot goes.2 (goes_good b SavesTopics c kept.sound goes).0;
  segment = kept.segment;
  logs = of_saved b _ kept.logs;
  saved = kept.saved;
})
goes_kept b (SavesBase base) c kept goes = subst IsKeptBoot (sym goes.4) (record {
  sound = subst IsSoundBoot goes.4 (goes_good b (SavesBase base) c kept.sound goes).0;
  segment = kept.segment;
  logs = of_saved b _ kept.logs;
  saved = base_low goes.0 base (kept.logs goes.0 goes.1) goes.2;
})
goes_kept b (Crashes k setup) c kept goes = subst IsKeptBoot (sym goes.1) (record {
  sound = subst IsSoundBoot goes.1 (goes_good b (Crashes k setup) c kept.sound goes).0;
  segment = omega (arith, goes.0.segment, kept.segment);
  logs = λ s of. elim of [
    | inl now ↦ subst (λ (x : State). IsKept x.log) (sym now) (crash_kept b.now k setup goes.0 kept.sound.state (kept.logs b.now (inl refl)) kept.saved)
    | inr past ↦ absurd past
  ];
  saved = kept.saved;
})

pub run_kept : (P : Boot → Move → Boot → Type 0) (b : Boot) (moves : List Move) (c : Boot) → IsKeptBoot b → RunWith P b moves c → IsKeptBoot c
run_kept P b [] c kept run = subst IsKeptBoot (sym run) kept
run_kept P b (move ∷ moves) c kept run = run_kept P run.0 moves c (goes_kept b move run.0 kept run.1) run.3
