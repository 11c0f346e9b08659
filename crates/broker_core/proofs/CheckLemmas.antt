-- A check, as the model has it.
use Rattle.std.proofs.Common.{◌≡◌, ◌∙◌, ℕ, suc, ◌+◌, ◌<◌, ◌&&◌, ◌||◌, max, Bool, true, false, cond, List, [], ◌∷◌, length, Option, Some, None, option_map, refl, sym, ap, subst, arith}
use Rattle.std.specs.Prelude.{nat_lt, sum_by}
use Rattle.std.specs.List.{list_any}
use Rattle.record_codec.specs.Entry.{Entry}
use Rattle.record_codec.specs.Layout.{size}
use Rattle.record_codec.specs.declared.draft.Draft.{Draft}
use Rattle.log_model.specs.Drafts.{renewal_draft, discard_draft, op_draft}
use Rattle.log_model.specs.Numbered.{Log, count_of, next_record, next_records, with_appended}
use Rattle.log_model.specs.Transactions.{last_of, renewals}
use Rattle.reply_fields.specs.Parts.{AskParts}
use Rattle.broker_model.specs.State.{State, pending_bytes}
use Rattle.broker_model.specs.Events as model
use Rattle.broker_model.specs.Appended.{due_origin, check_drafts, next_check, drafts_of, made_by, is_full, is_refused, appended}
use Rattle.broker_model.specs.Answers.{answer_of, asks_of, refused_answer, carried_out_answer, checked_of}
use Rattle.broker_model.specs.Step.{after, changed, with_records}
use Rattle.broker_events.specs.declared.said.Said.{Said}
use Rattle.broker_events.specs.declared.said.Said.TheVariants as said
use Rattle.broker_events.specs.Steps.{Says, asked_of}
use Rattle.core_log.specs.declared.parts.Parts.{Parts}
use Rattle.core_log.specs.declared.room.Room.{Room}
use Rattle.core_log.specs.declared.room.Room.TheVariants.{Free, Past, Full}
use Rattle.broker_core.specs.Checks.{check_answer, IsCheckedWith, Checks}
use Rattle.core_log.specs.Represents.{Represents}
use Rattle.core_log.specs.Rooms.{room_of, answer_in, state_in, IsOwnRefusal}
use Rattle.core_log.specs.Rooms.{is_past}
use Rattle.broker_core.proofs.RoomSteps.{room_decides}

-- ---- by the room

-- there is none
pub finds_no_room : (s : State) (now origin : ℕ) (records : List Entry) (room : Room) (what : Said) (core : Parts) → room ≡ room_of s records → IsOwnRefusal room (Some what) → Represents core s
    → IsCheckedWith s now origin records what core
finds_no_room s now origin records room what core is refused are = record {
  answer = subst (λ (r : Room). Says what (check_answer r s origin records)) is (answers room refused);
  state = subst (λ (r : Room). Represents core (state_in r s now records)) is (leaves room refused);
}
  where
    answers : (r : Room) → IsOwnRefusal r (Some what) → Says what (check_answer r s origin records)
    answers Free none = absurd none
    answers Past told = told
    answers (Full pending) told = told

    leaves : (r : Room) → IsOwnRefusal r (Some what) → Represents core (state_in r s now records)
    leaves Free none = absurd none
    leaves Past told = are
    leaves (Full pending) told = are

-- there is some
pub is_free : (room : Room) → IsOwnRefusal room None → room ≡ Free
is_free Free told = refl
is_free Past told = absurd told
is_free (Full pending) told = absurd told

pub finds_room : (s : State) (now origin number : ℕ) (records : List Entry) (ask : Option AskParts) (new : Parts) → room_of s records ≡ Free → number ≡ count_of s.log
    → option_map asked_of ask ≡ asks_of s records → Represents new (with_records s now records)
    → IsCheckedWith s now origin records (said.Checked (Some (record { origin = origin; number = number; ask = ask }))) new
finds_room s now origin number records ask new free count asks has =
    let what = said.Checked (Some (record { origin = origin; number = number; ask = ask })) in
    let done : ℕ → Option (ℕ × Entry) → model.Answer = λ n o. model.Checked (Some (record { origin = origin; number = n; asks = o })) in
    record {
      answer = subst (λ (r : Room). Says what (check_answer r s origin records)) (sym free)
          (ap (λ (n : ℕ). done n (asks_of s records)) (sym count) ∙ ap (λ (o : Option (ℕ × Entry)). done number o) (sym asks));
      state = subst (λ (r : Room). Represents new (state_in r s now records)) (sym free) has;
    }

-- ---- what the model does

length-next_records : (segment now : ℕ) (log : Log) (drafts : List Draft) → length (next_records segment now log drafts) ≡ length drafts
length-next_records segment now log [] = refl
length-next_records segment now log (d ∷ drafts) =
    ap (λ (n : ℕ). suc n) (length-next_records segment now (with_appended log (next_record segment now log d ∷ [])) drafts)

some_drafts : (s : State) (now : ℕ) (origin : Entry) (asked : List Entry) (last : Option Entry) → 0 < length (next_check s now origin asked last)
some_drafts s now origin asked None = omega arith
some_drafts s now origin asked (Some renewal) = by_count (nat_lt (length asked) 15)
  where
    by_count : (b : Bool) → 0 < length (cond b (renewal_draft s.setup.host (length asked + 1) origin ∷ []) (discard_draft s.setup.host renewal ∷ op_draft s.setup.host now origin.queue_offset ∷ []))
    by_count true = omega arith
    by_count false = omega arith

module _ (s : State) (now : ℕ) (origin : Entry) (due : due_origin s (max now s.now) ≡ Some origin) where
  abbrev it : model.Event
  it = model.Check now

  abbrev time : ℕ
  time = max now s.now

  abbrev made : List Entry
  made = next_records s.setup.segment time s.log (check_drafts s time (Some origin))

  made_is : made_by s it ≡ made
  unfolding drafts_of
  made_is = ap (λ (o : Option Entry). next_records s.setup.segment time s.log (check_drafts s time o)) due

  some_made : 0 < length made
  some_made =
      let count = length-next_records s.setup.segment time s.log (check_drafts s time (Some origin)) in
      let asked = renewals s.log.records origin.queue_offset in
      let some = some_drafts s time origin asked (last_of asked) in
      omega (arith, count, some)

  same : changed s it ≡ s
  unfolding changed
  same = refl

  decided : (answer_of s it ≡ answer_in (room_of s made) s it made) × (after s it ≡ state_in (room_of s made) s time made)
  decided = room_decides s it made made_is some_made refl refl same

  answers : (r : Room) → answer_in r s it made ≡ check_answer r s origin.queue_offset made
  unfolding carried_out_answer
  answers Free = ap (λ (o : Option Entry). model.Checked (checked_of s made o)) due
  answers Past = refl
  answers (Full pending) = refl

  carried : (what : Said) (new : Parts) → IsCheckedWith s time origin.queue_offset made what new → Says what (answer_of s it) × Represents new (after s it)
  carried what new done = (
    subst (λ (answer : model.Answer). Says what answer) (sym (decided.0 ∙ answers (room_of s made))) done.answer,
    subst (λ (t : State). Represents new t) (sym decided.1) done.state,
  )

-- what was done is what the model does
pub carries_check : (core : Parts) (s : State) (now moment : ℕ) (what : Said) (new : Parts) → Represents core s → moment ≡ max now core.now → Checks s moment what new
    → Says what (answer_of s (model.Check now)) × Represents new (after s (model.Check now))
carries_check core s now moment what new are is did =
    let time : moment ≡ max now s.now = is ∙ ap (λ (n : ℕ). max now n) are.numbers.now in
    let it = subst (λ (n : ℕ). Checks s n what new) time did in
    carried s now it.origin it.is what new it.done

-- nothing is due
module _ (s : State) (now : ℕ) (none : due_origin s (max now s.now) ≡ None) where
  no_drafts : drafts_of s (model.Check now) ≡ []
  unfolding drafts_of
  no_drafts = ap (λ (o : Option Entry). check_drafts s (max now s.now) o) none

  none_made : made_by s (model.Check now) ≡ []
  none_made = ap (λ (ds : List Draft). next_records s.setup.segment (max now s.now) s.log ds) no_drafts

  not_refused : is_refused s (model.Check now) ≡ false
  unfolding is_refused
  not_refused =
      ap (λ (rs : List Entry). list_any is_past rs || is_full s (model.Check now)) none_made
      ∙ ap (λ (ds : List Draft). nat_lt 0 (length ds) && nat_lt 67108864 (pending_bytes s + sum_by size (made_by s (model.Check now)))) no_drafts

  pub checks_none : answer_of s (model.Check now) ≡ model.Checked None
  unfolding answer_of appended carried_out_answer
  checks_none =
      ap (λ (b : Bool). cond b (refused_answer s (model.Check now)) (model.Checked (checked_of s (cond b [] (made_by s (model.Check now))) (due_origin s (max now s.now))))) not_refused
      ∙ ap (λ (o : Option Entry). model.Checked (checked_of s (made_by s (model.Check now)) o)) none

  pub after_none : after s (model.Check now) ≡ record s { now = max now s.now }
  unfolding after changed
  after_none =
      ap (λ (b : Bool). cond b s (with_records s (max now s.now) (made_by s (model.Check now)))) not_refused
      ∙ ap (λ (rs : List Entry). with_records s (max now s.now) rs) none_made
