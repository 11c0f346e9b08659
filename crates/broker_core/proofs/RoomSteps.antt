-- Events that append records and change nothing else but the time: what they answer and leave goes by the room for the records.
use Rattle.std.proofs.Common.{◌≡◌, ◌∙◌, ℕ, suc, ◌+◌, ◌<◌, ◌&&◌, ◌||◌, Bool, true, false, cond, List, [], ◌∷◌, length, Option, None, refl, sym, ap}
use Rattle.std.specs.Prelude.{nat_lt, sum_by}
use Rattle.std.specs.List.{list_any}
use Rattle.std.proofs.lemmas.Bool.{lt-ltb}
use Rattle.record_codec.specs.Entry.{Entry}
use Rattle.record_codec.specs.Layout.{size}
use Rattle.record_codec.specs.declared.draft.Draft.{Draft}
use Rattle.log_model.specs.Numbered.{Log, next_record, next_records, with_appended}
use Rattle.broker_model.specs.State.{State, pending_bytes}
use Rattle.broker_model.specs.Events as model
use Rattle.broker_model.specs.Appended.{moment, drafts_of, made_by, is_past_end, is_full, is_refused_request, is_refused, appended}
use Rattle.broker_model.specs.Answers.{end_of_log, event_refusal, or_refused, refused_answer, carried_out_answer, answer_of}
use Rattle.broker_model.specs.Step.{changed, with_records, after}
use Rattle.core_log.specs.declared.room.Room.TheVariants.{Free, Past, Full}
use Rattle.core_log.specs.Rooms.{is_past}
use Rattle.core_log.specs.Rooms.{room_of, answer_in, state_in}

-- as many records as drafts
length-next_records : (segment now : ℕ) (log : Log) (drafts : List Draft) → length (next_records segment now log drafts) ≡ length drafts
length-next_records segment now log [] = refl
length-next_records segment now log (d ∷ drafts) =
    ap (λ (n : ℕ). suc n) (length-next_records segment now (with_appended log (next_record segment now log d ∷ [])) drafts)

-- the records have more bytes than the buffer takes
abbrev is_over_with : ℕ → List Entry → Bool
is_over_with bytes records = nat_lt 67108864 (bytes + sum_by size records)

chosen : (p f : Bool) (s : State) (e : model.Event) (records : List Entry)
    → cond (p || f) (cond p (end_of_log e) (model.Full s.flushed)) (carried_out_answer s e (cond (p || f) [] records))
    ≡ answer_in (cond p Past (cond f (Full s.flushed) Free)) s e records
chosen true f s e records = refl
chosen false true s e records = refl
chosen false false s e records = refl

left : (p f : Bool) (s : State) (now : ℕ) (records : List Entry)
    → cond (p || f) s (with_records s now records) ≡ state_in (cond p Past (cond f (Full s.flushed) Free)) s now records
left true f s now records = refl
left false true s now records = refl
left false false s now records = refl

module _ (s : State) (e : model.Event) (records : List Entry) (are : made_by s e ≡ records) (some : 0 < length records) (taken : is_refused_request s e ≡ false) where
  abbrev P : Bool
  P = list_any is_past records

  abbrev F : Bool
  F = is_over_with (pending_bytes s) records

  full_is : is_full s e ≡ F
  full_is =
      ap (λ (n : ℕ). nat_lt 0 n && nat_lt 67108864 (pending_bytes s + sum_by size (made_by s e)))
      (sym (length-next_records s.setup.segment (moment s e) s.log (drafts_of s e)))
      ∙ ap (λ (l : List Entry). nat_lt 0 (length l) && is_over_with (pending_bytes s) l) are
      ∙ ap (λ (b : Bool). b && F) (lt-ltb 0 (length records) some)

  refused_is : is_refused s e ≡ (P || F)
  unfolding is_refused
  refused_is =
      ap (λ (b : Bool). b || is_past_end s e || is_full s e) taken
      ∙ ap (λ (l : List Entry). list_any is_past l || is_full s e) are
      ∙ ap (λ (b : Bool). P || b) full_is

  after_is : changed s e ≡ s → after s e ≡ state_in (room_of s records) s (moment s e) records
  unfolding after
  after_is same =
      ap (λ (b : Bool). cond b s (with_records (changed s e) (moment s e) (made_by s e))) refused_is
      ∙ ap (λ (t : State). cond (P || F) s (with_records t (moment s e) (made_by s e))) same
      ∙ ap (λ (l : List Entry). cond (P || F) s (with_records s (moment s e) l)) are
      ∙ left P F s (moment s e) records

  answer_is : event_refusal s e ≡ None → answer_of s e ≡ answer_in (room_of s records) s e records
  unfolding answer_of appended
  answer_is none =
      ap (λ (o : Option model.Reply). or_refused o (cond (is_refused s e) (refused_answer s e) (carried_out_answer s e (cond (is_refused s e) [] (made_by s e))))) none
      ∙ ap (λ (b : Bool). cond b (refused_answer s e) (carried_out_answer s e (cond b [] (made_by s e)))) refused_is
      ∙ ap (λ (l : List Entry). cond (P || F) (cond (list_any is_past l) (end_of_log e) (model.Full s.flushed)) (carried_out_answer s e (cond (P || F) [] l))) are
      ∙ chosen P F s e records

  -- what the event answers and leaves
  pub room_decides : event_refusal s e ≡ None → changed s e ≡ s
      → (answer_of s e ≡ answer_in (room_of s records) s e records) × (after s e ≡ state_in (room_of s records) s (moment s e) records)
  room_decides none same = (answer_is none, after_is same)
