-- A delivery, as the model has it.
use Rattle.std.proofs.Common.{◌≡◌, ◌∙◌, ℕ, ◌+◌, ◌&&◌, ◌||◌, max, Bool, true, false, cond, List, [], ◌∷◌, length, Option, Some, None, refl, sym, ap, subst, arith}
use Rattle.std.specs.Prelude.{nat_lt, sum_by}
use Rattle.std.specs.List.{list_any}
use Rattle.record_codec.specs.Entry.{Entry}
use Rattle.record_codec.specs.Layout.{size}
use Rattle.record_codec.specs.declared.draft.Draft.{Draft}
use Rattle.log_model.specs.Delays.{due_delayed, progress}
use Rattle.log_model.specs.Drafts.{delivery_draft}
use Rattle.log_model.specs.Numbered.{next_record, next_records}
use Rattle.broker_model.specs.State.{State, pending_bytes}
use Rattle.broker_model.specs.Events as model
use Rattle.broker_model.specs.Appended.{drafts_of, delivery_drafts, made_by, is_past_end, is_full, is_refused, appended}
use Rattle.broker_model.specs.Answers.{refused_answer, carried_out_answer, delivered_of, answer_of}
use Rattle.broker_model.specs.Step.{changed, with_records, after}
use Rattle.core_log.specs.Rooms.{is_past, is_over}
use Rattle.broker_events.specs.declared.said.Said.{Said}
use Rattle.broker_events.specs.declared.said.Said.TheVariants as said
use Rattle.broker_events.specs.Steps.{Says}
use Rattle.core_log.specs.declared.parts.Parts.{Parts}
use Rattle.core_log.specs.Represents.{Represents}
use Rattle.broker_core.specs.Delivers.{delivery_answer, delivery_state, IsDelivered, Delivers}

or_none : (b : Bool) → (b || false) ≡ b
or_none true = refl
or_none false = refl

answers : (past over : Bool) (end full : model.Answer) (own : List Entry → model.Answer) (e : Entry)
    → cond (past || over) (cond past end full) (own (cond (past || over) [] (e ∷ []))) ≡ cond past end (cond over full (own (e ∷ [])))
answers true over end full own e = refl
answers false true end full own e = refl
answers false false end full own e = refl

leaves : (past over : Bool) (s t : State) → cond (past || over) s t ≡ cond past s (cond over s t)
leaves true over s t = refl
leaves false true s t = refl
leaves false false s t = refl

module _ (s : State) (now level : ℕ) (r : Entry) (due : due_delayed s.log s.dispatched (max now s.now) ≡ Some (level, r)) where
  abbrev d : Draft
  d = delivery_draft s.setup.host level (progress s.log level) r

  abbrev e : Entry
  e = next_record s.setup.segment (max now s.now) s.log d

  abbrev it : model.Event
  it = model.Deliver now

  drafts : drafts_of s it ≡ d ∷ []
  unfolding drafts_of
  drafts = ap (λ (o : Option (ℕ × Entry)). delivery_drafts s o) due

  made : made_by s it ≡ e ∷ []
  made = ap (λ (ds : List Draft). next_records s.setup.segment (max now s.now) s.log ds) drafts

  past : is_past_end s it ≡ is_past e
  past = ap (λ (rs : List Entry). list_any is_past rs) made ∙ or_none (is_past e)

  full : is_full s it ≡ is_over s e
  full =
      ap (λ (ds : List Draft). nat_lt 0 (length ds) && nat_lt 67108864 (pending_bytes s + sum_by size (made_by s it))) drafts
      ∙ ap (λ (rs : List Entry). nat_lt 67108864 (pending_bytes s + sum_by size rs)) made
      ∙ ap (λ (n : ℕ). nat_lt 67108864 (pending_bytes s + n)) (let n = size e in let same : sum_by size (e ∷ []) ≡ n = omega arith in same)

  refused : is_refused s it ≡ (is_past e || is_over s e)
  unfolding is_refused
  refused = ap (λ (b : Bool). b || is_full s it) past ∙ ap (λ (b : Bool). is_past e || b) full

  pub delivers : answer_of s it ≡ delivery_answer s e level (progress s.log level)
  unfolding answer_of appended carried_out_answer
  delivers =
      ap (λ (b : Bool). cond b (refused_answer s it) (model.Delivered (delivered_of s (due_delayed s.log s.dispatched (max now s.now))))) refused
      ∙ ap (λ (b : Bool). cond (is_past e || is_over s e) (cond b model.LogEnd (model.Full s.flushed)) (model.Delivered (delivered_of s (due_delayed s.log s.dispatched (max now s.now))))) past
      ∙ ap (λ (o : Option (ℕ × Entry)). cond (is_past e || is_over s e) (cond (is_past e) model.LogEnd (model.Full s.flushed)) (model.Delivered (delivered_of s o))) due
      ∙ answers (is_past e) (is_over s e) model.LogEnd (model.Full s.flushed) (λ rs. model.Delivered (Some (level, progress s.log level))) e

  pub delivered : after s it ≡ delivery_state s (max now s.now) e
  unfolding after changed
  delivered =
      ap (λ (b : Bool). cond b s (with_records s (max now s.now) (made_by s it))) refused
      ∙ ap (λ (rs : List Entry). cond (is_past e || is_over s e) s (with_records s (max now s.now) rs)) made
      ∙ leaves (is_past e) (is_over s e) s (with_records s (max now s.now) (e ∷ []))

-- nothing is due
module _ (s : State) (now : ℕ) (none : due_delayed s.log s.dispatched (max now s.now) ≡ None) where
  no_drafts : drafts_of s (model.Deliver now) ≡ []
  unfolding drafts_of
  no_drafts = ap (λ (o : Option (ℕ × Entry)). delivery_drafts s o) none

  none_made : made_by s (model.Deliver now) ≡ []
  none_made = ap (λ (ds : List Draft). next_records s.setup.segment (max now s.now) s.log ds) no_drafts

  not_refused : is_refused s (model.Deliver now) ≡ false
  unfolding is_refused
  not_refused =
      ap (λ (rs : List Entry). list_any is_past rs || is_full s (model.Deliver now)) none_made
      ∙ ap (λ (ds : List Draft). nat_lt 0 (length ds) && nat_lt 67108864 (pending_bytes s + sum_by size (made_by s (model.Deliver now)))) no_drafts

  pub delivers_none : answer_of s (model.Deliver now) ≡ model.Delivered None
  unfolding answer_of appended carried_out_answer
  delivers_none =
      ap (λ (b : Bool). cond b (refused_answer s (model.Deliver now)) (model.Delivered (delivered_of s (due_delayed s.log s.dispatched (max now s.now))))) not_refused
      ∙ ap (λ (o : Option (ℕ × Entry)). model.Delivered (delivered_of s o)) none

  pub after_none : after s (model.Deliver now) ≡ record s { now = max now s.now }
  unfolding after changed
  after_none =
      ap (λ (b : Bool). cond b s (with_records s (max now s.now) (made_by s (model.Deliver now)))) not_refused
      ∙ ap (λ (rs : List Entry). with_records s (max now s.now) rs) none_made

-- what was done is what the model does
pub carries_delivery : (core : Parts) (s : State) (now moment level count : ℕ) (what : Said) (new : Parts) → Represents core s → moment ≡ max now core.now → count ≡ progress s.log level
    → Delivers s moment level count what new → Says what (answer_of s (model.Deliver now)) × Represents new (after s (model.Deliver now))
carries_delivery core s now moment level count what new are is number did =
    let r = did.message in
    let time : moment ≡ max now s.now = is ∙ ap (λ (n : ℕ). max now n) are.numbers.now in
    let at : due_delayed s.log s.dispatched (max now s.now) ≡ Some (level, r) = ap (λ (n : ℕ). due_delayed s.log s.dispatched n) (sym time) ∙ did.due in
    let done = subst (λ (n : ℕ). IsDelivered s n level (progress s.log level) (delivery_draft s.setup.host level (progress s.log level) r) what new) time
    (subst (λ (n : ℕ). IsDelivered s moment level n (delivery_draft s.setup.host level n r) what new) number did.done) in (
      subst (λ (answer : model.Answer). Says what answer) (sym (delivers s now level r at)) done.answer,
      subst (λ (t : State). Represents new t) (sym (delivered s now level r at)) done.state,
    )

-- there is no place for its record
pub finds_end : (core : Parts) (s : State) (d : Draft) (now level count : ℕ) → Represents core s → is_past (next_record s.setup.segment now s.log d) ≡ true → IsDelivered s now level count d said.LogEnd core
finds_end core s d now level count are past =
    let e = next_record s.setup.segment now s.log d in
    record {
      answer = ap (λ (b : Bool). cond b model.LogEnd (cond (is_over s e) (model.Full s.flushed) (model.Delivered (Some (level, count))))) past;
      state = subst (λ (b : Bool). Represents core (cond b s (cond (is_over s e) s (with_records s now (e ∷ []))))) (sym past) are;
    }

-- or no room in the buffer
pub finds_full : (core : Parts) (s : State) (d : Draft) (now level count pending : ℕ) → Represents core s → is_past (next_record s.setup.segment now s.log d) ≡ false
    → is_over s (next_record s.setup.segment now s.log d) ≡ true → pending ≡ s.flushed → IsDelivered s now level count d (said.Full pending) core
finds_full core s d now level count pending are low over same =
    let e = next_record s.setup.segment now s.log d in
    record {
      answer = ap (λ (b : Bool). cond b model.LogEnd (cond (is_over s e) (model.Full s.flushed) (model.Delivered (Some (level, count))))) low
          ∙ ap (λ (b : Bool). cond b (model.Full s.flushed) (model.Delivered (Some (level, count)))) over ∙ ap (λ (n : ℕ). model.Full n) (sym same);
      state = subst (λ (b : Bool). Represents core (cond b s (cond (is_over s e) s (with_records s now (e ∷ []))))) (sym low)
          (subst (λ (b : Bool). Represents core (cond b s (with_records s now (e ∷ [])))) (sym over) are);
    }

-- it is delivered
pub finds_room : (s : State) (d : Draft) (now level count : ℕ) (new : Parts) → is_past (next_record s.setup.segment now s.log d) ≡ false → is_over s (next_record s.setup.segment now s.log d) ≡ false
    → Represents new (with_records s now (next_record s.setup.segment now s.log d ∷ [])) → IsDelivered s now level count d (said.Delivered (Some (level, count))) new
finds_room s d now level count new low short has =
    let e = next_record s.setup.segment now s.log d in
    record {
      answer = ap (λ (b : Bool). cond b model.LogEnd (cond (is_over s e) (model.Full s.flushed) (model.Delivered (Some (level, count))))) low
          ∙ ap (λ (b : Bool). cond b (model.Full s.flushed) (model.Delivered (Some (level, count)))) short;
      state = subst (λ (b : Bool). Represents new (cond b s (cond (is_over s e) s (with_records s now (e ∷ []))))) (sym low)
          (subst (λ (b : Bool). Represents new (cond b s (with_records s now (e ∷ [])))) (sym short) has);
    }
