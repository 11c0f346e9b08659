-- What a step stores of offsets.
use Rattle.std.proofs.Common.{◌≡◌, refl, ap, sym, ◌∙◌, subst, arith, ℕ, List, [], ◌∷◌, filter, Bool, true, false, Option, Some, None, cond, if◌then◌else◌}
use Rattle.std.specs.Prelude.{not}
use Rattle.request_fields.specs.declared.request.Request.{Request}
use Rattle.request_fields.specs.declared.request.Request.TheVariants.{Send, Pull, Query, OffsetOf, SetOffset, MakeTopic, Search, MaxOffset, MinOffset, ViewById, Beat, Unregister, EndTransaction, Lock, Unlock}
use Rattle.record_codec.specs.Entry.{Entry}
use Rattle.broker_model.specs.Tables.{OffsetRow, is_row_of}
use Rattle.broker_model.specs.State.{State}
use Rattle.broker_model.specs.Events
use Rattle.broker_model.specs.Appended.{made_by, is_refused, moment}
use Rattle.broker_model.specs.Answers.{taken}
use Rattle.broker_model.specs.Step.{Step, changed, request_changed, after, with_records, stored, pull_offset, out_of}
use Rattle.core_laws.specs.Offsets.{AllRows, IsAllowed, MayStore, RequestStores, EventStores}

pub rows_weaker : (P Q : OffsetRow → Type 0) (rows : List OffsetRow) → ((row : OffsetRow) → P row → Q row) → AllRows P rows → AllRows Q rows
rows_weaker P Q [] h all = tt
rows_weaker P Q (row ∷ rows) h all = (h row all.0, rows_weaker P Q rows h all.1)

rows_filter : (P : OffsetRow → Type 0) (test : OffsetRow → Bool) (rows : List OffsetRow) → AllRows P rows → AllRows P (filter test rows)
rows_filter P test [] all = tt
rows_filter P test (row ∷ rows) all = elim (test row) as (λ b. AllRows P (cond b (row ∷ filter test rows) (filter test rows))) [
  | true ↦ (all.0, rows_filter P test rows all.1)
  | false ↦ rows_filter P test rows all.1
]

stored_rows : (allowed : OffsetRow → Bool) (s : State) (group topic : List ℕ) (queue : ℕ) (offset : Option ℕ) → MayStore allowed s group topic queue offset → AllRows (IsAllowed allowed s) s.offsets
    → AllRows (IsAllowed allowed s) (stored s group topic queue offset).offsets
stored_rows allowed s group topic queue None may all = all
stored_rows allowed s group topic queue (Some offset) may all = ((may, omega arith), rows_filter (IsAllowed allowed s) (λ row. not (is_row_of group topic queue row)) s.offsets all)

request_rows : (allowed : OffsetRow → Bool) (s : State) (link now : ℕ) (r : Request) → RequestStores allowed s r → AllRows (IsAllowed allowed s) s.offsets → AllRows (IsAllowed allowed s) (request_changed s link now r).offsets
unfolding request_changed
request_rows allowed s link now (Pull p) may all = stored_rows allowed s p.group p.topic p.queue (pull_offset p) may all
request_rows allowed s link now (SetOffset q) may all = stored_rows allowed s q.group q.topic q.queue (Some q.offset) may all
request_rows allowed s link now (Send x) may all = all
request_rows allowed s link now (Query x) may all = all
request_rows allowed s link now (OffsetOf x) may all = all
request_rows allowed s link now (MakeTopic x) may all = all
request_rows allowed s link now (Search x) may all = all
request_rows allowed s link now (MaxOffset x) may all = all
request_rows allowed s link now (MinOffset x) may all = all
request_rows allowed s link now (ViewById x) may all = all
request_rows allowed s link now (Beat x) may all = all
request_rows allowed s link now (Unregister x) may all = all
request_rows allowed s link now (EndTransaction x) may all = all
request_rows allowed s link now (Lock x) may all = all
request_rows allowed s link now (Unlock x) may all = all

out_rows : (s : State) (t : Option Events.Taken) → (out_of s t).offsets ≡ s.offsets
out_rows s None = refl
out_rows s (Some t) = refl

changed_rows : (allowed : OffsetRow → Bool) (s : State) (e : Events.Event) → EventStores allowed s e → AllRows (IsAllowed allowed s) s.offsets → AllRows (IsAllowed allowed s) (changed s e).offsets
unfolding changed
changed_rows allowed s (Events.Asks a) may all = request_rows allowed s a.link a.now a.request may all
changed_rows allowed s Events.Take may all = subst (AllRows (IsAllowed allowed s)) (sym (out_rows s (taken s))) all
changed_rows allowed s (Events.Flushed n) may all = all
changed_rows allowed s (Events.FlushFailed n) may all = all
changed_rows allowed s (Events.Look n t) may all = all
changed_rows allowed s (Events.Dispatch n) may all = all
changed_rows allowed s (Events.Deliver n) may all = all
changed_rows allowed s (Events.Check n) may all = all
changed_rows allowed s (Events.Leave n) may all = all
changed_rows allowed s (Events.Trim base) may all = all

with_rows : (s : State) (now : ℕ) (records : List Entry) → ((with_records s now records).offsets ≡ s.offsets) × ((with_records s now records).saved ≡ s.saved)
with_rows s now [] = (refl, refl)
with_rows s now (r ∷ records) = (refl, refl)

request_saved : (s : State) (link now : ℕ) (r : Request) → (request_changed s link now r).saved ≡ s.saved
unfolding request_changed
request_saved s link now (Pull p) = stored_saved (pull_offset p)
  where
    stored_saved : (o : Option ℕ) → (stored s p.group p.topic p.queue o).saved ≡ s.saved
    stored_saved None = refl
    stored_saved (Some n) = refl
request_saved s link now _ = refl

out_saved : (s : State) (t : Option Events.Taken) → (out_of s t).saved ≡ s.saved
out_saved s None = refl
out_saved s (Some t) = refl

changed_saved : (s : State) (e : Events.Event) → (changed s e).saved ≡ s.saved
unfolding changed
changed_saved s (Events.Asks a) = request_saved s a.link a.now a.request
changed_saved s Events.Take = out_saved s (taken s)
changed_saved s _ = refl

after_rows : (allowed : OffsetRow → Bool) (s : State) (e : Events.Event) → EventStores allowed s e → AllRows (IsAllowed allowed s) s.offsets → AllRows (IsAllowed allowed s) (after s e).offsets × ((after s e).saved ≡ s.saved)
unfolding after
after_rows allowed s e may all = elim (is_refused s e) as (λ b. AllRows (IsAllowed allowed s) (if b then s else with_records (changed s e) (moment s e) (made_by s e)).offsets × ((if b then s else with_records (changed s e) (moment s e) (made_by s e)).saved ≡ s.saved)) [
  | true ↦ (all, refl)
  | false ↦ let w = with_rows (changed s e) (moment s e) (made_by s e) in (subst (AllRows (IsAllowed allowed s)) (sym w.0) (changed_rows allowed s e may all), w.1 ∙ changed_saved s e)
]

pub step_rows : (allowed : OffsetRow → Bool) (s t : State) (e : Events.Event) (said : Option Events.Answer) → Step s e said t → EventStores allowed s e → AllRows (IsAllowed allowed s) s.offsets → AllRows (IsAllowed allowed s) t.offsets × (t.saved ≡ s.saved)
step_rows allowed s t e None step may all = (subst (λ (x : State). AllRows (IsAllowed allowed s) x.offsets) (sym step.1) all, ap (λ (x : State). x.saved) step.1)
step_rows allowed s t e (Some said) step may all = let a = after_rows allowed s e may all in (subst (λ (x : State). AllRows (IsAllowed allowed s) x.offsets) (sym step.2) a.0, ap (λ (x : State). x.saved) step.2 ∙ a.1)
