-- A verdict as the model answers it.
use Rattle.std.proofs.Common.{◌≡◌, ◌∙◌, refl, ap, sym, subst, arith, ℕ, zero, suc, ◌+◌, ◌^◌, ◌<◌, max, Bool, true, false, cond, List, [], ◌∷◌, length, find, slice_get, codes, Option, Some, None}
use Rattle.std.specs.Prelude.{◌==◌, ◌&&◌, ◌||◌, not, nat_lt, is_none, is_some, option_map, IsSome, IfSome}
use Rattle.std.specs.Str.Parse.{digits_value}
use Rattle.std.proofs.lemmas.Bool.{and_parts, eq-eqb, eqb-true, lt-ltb}
use Rattle.std.proofs.lemmas.Option.{same_Some}
use Rattle.mq_bytes.specs.Decimal.{digits_of}
use Rattle.record_codec.specs.Entry.{Entry}
use Rattle.record_codec.specs.Props.{value_of}
use Rattle.record_codec.specs.declared.draft.Draft.{Draft}
use Rattle.log_model.specs.declared.origin.OriginState.{OriginState}
use Rattle.log_model.specs.declared.origin.OriginState.TheVariants as told
use Rattle.log_model.specs.Admissible.{number_in}
use Rattle.log_model.specs.Drafts.{copy_draft, op_draft}
use Rattle.log_model.specs.Kinds.{is_half, is_text, origin_text}
use Rattle.log_model.specs.Numbered.{next_records}
use Rattle.log_model.specs.Origins.{told_state}
use Rattle.log_model.specs.Transactions.{TransactionState, Open, Committed, RolledBack, Discarded, transaction_state, family, is_origin, is_renewal, is_settled, settles, half_at, named_origin, origin_of}
use Rattle.half_view.specs.Halves.{if_settled, is_open}
use Rattle.half_view.specs.OfLog.{after_last, settling_in}
use Rattle.half_view.proofs.DueLemmas.{find-filter, open_is}
use Rattle.half_view.proofs.GrowthLemmas.{low_number as few_number}
use Rattle.half_view.proofs.NumberLemmas.{text_names}
use Rattle.half_view.proofs.OriginLemmas.{found_passes}
use Rattle.half_records.specs.Verdicts as records
use Rattle.half_records.specs.Verdicts.{judged_of}
use Rattle.half_records.specs.declared.judged.Judged.{Judged}
use Rattle.request_fields.specs.Requests.{EndSaid}
use Rattle.request_fields.specs.declared.request.Request.TheVariants.{EndTransaction}
use Rattle.broker_model.specs.Lawful.{IsState}
use Rattle.broker_model.specs.State.{State}
use Rattle.broker_model.specs.Events as model
use Rattle.broker_model.specs.Refusals.{plain_reply, refusal_of, end_refusal, settled_otherwise, is_other_id, is_by_its_group, judged_origin, named_half, origin_refusal, verdict_origin}
use Rattle.broker_model.specs.Appended.{made_by, drafts_of, open_verdict, first_verdict, verdict_drafts}
use Rattle.broker_model.specs.Answers.{answer_of, append_answer, carried_out_answer, request_answer, done_reply, end_answer, half_waits, last_number, or_number, settling_number}
use Rattle.broker_model.specs.Sends.{waits}
use Rattle.broker_model.specs.Step.{after, changed, request_changed}
use Rattle.broker_events.specs.declared.said.Said.{Said}
use Rattle.broker_events.specs.Steps.{Says}
use Rattle.core_log.specs.declared.parts.Parts.{Parts}
use Rattle.core_log.specs.declared.room.Room.{Room}
use Rattle.core_log.specs.declared.room.Room.TheVariants.{Free, Past, Full}
use Rattle.core_log.specs.Represents.{Represents}
use Rattle.core_log.specs.Rooms.{room_of, answer_in}
use Rattle.broker_core.specs.Verdicts.{disagreement_of, is_first_verdict, settled_answer, IsSettled, IsNamedBy, IsJudged, verdict_event, agreed_answer}
use Rattle.broker_core.proofs.ReadLemmas.{after_read, answer_read}
use Rattle.broker_core.proofs.RoomSteps.{room_decides}
use Rattle.core_log.proofs.SettleLemmas.{found_at, found_alone, one_half}

-- ---- the origin that is judged

other_id : (id : List ℕ) (o : Option (List ℕ)) → records.is_other_id id o ≡ is_other_id id o
other_id id None = refl
other_id id (Some own) = refl

same_origin : (log : List Entry) (end : EndSaid) (o : Option Entry) → records.judged_origin log end.group end.msg_id o ≡ judged_origin log end o
same_origin log end None = refl
same_origin log end (Some half) =
    ap (λ (b : Bool). cond (is_text end.group (value_of (codes "PGROUP") half.props) && not b) (origin_of log half) None)
    (other_id end.msg_id (value_of (codes "UNIQ_KEY") half.props))

-- what the half messages tell is the model's origin
pub judged_is_origin : (s : State) (end : EndSaid)
    → option_map (judged_of s.log.records) (records.judged_origin s.log.records end.group end.msg_id (half_at s.log.records end.queue_offset end.place)) ≡ option_map (judged_of s.log.records) (verdict_origin s end)
judged_is_origin s end = ap (option_map (judged_of s.log.records)) (same_origin s.log.records end (named_half s end))

pub judged_some : (log : List Entry) (o : Option Entry) (judged : Judged) → option_map (judged_of log) o ≡ Some judged → (r : Entry) × (o ≡ Some r) × (judged ≡ judged_of log r)
judged_some log None judged is = cc is
judged_some log (Some r) judged is = (r, refl, cc is)

-- ---- refusals

pub refuses : (verdict : ℕ) (state : TransactionState) → settled_otherwise verdict state ≡ option_map (λ (remark : List ℕ). plain_reply 1 remark) (disagreement_of verdict (told_state state))
refuses verdict Open = refl
refuses verdict Committed = by_test (verdict == 12)
  where
    by_test : (b : Bool) → cond b (Some (plain_reply 1 (codes "settled committed"))) None ≡ option_map (λ (remark : List ℕ). plain_reply 1 remark) (cond b (Some (codes "settled committed")) None)
    by_test true = refl
    by_test false = refl
refuses verdict RolledBack = by_test (verdict == 8)
  where
    by_test : (b : Bool) → cond b (Some (plain_reply 1 (codes "settled rolledback"))) None ≡ option_map (λ (remark : List ℕ). plain_reply 1 remark) (cond b (Some (codes "settled rolledback")) None)
    by_test true = refl
    by_test false = refl
refuses verdict Discarded = by_test (verdict == 0)
  where
    by_test : (b : Bool) → cond b None (Some (plain_reply 1 (codes "settled discarded"))) ≡ option_map (λ (remark : List ℕ). plain_reply 1 remark) (cond b None (Some (codes "settled discarded")))
    by_test true = refl
    by_test false = refl

-- a verdict on no origin
pub refused_none : (s : State) (end : EndSaid) → verdict_origin s end ≡ None → refusal_of s (EndTransaction end) ≡ Some (plain_reply 1 (codes "half"))
unfolding refusal_of
refused_none s end none = ap (λ (o : Option Entry). origin_refusal s.log.records end.verdict o) none

-- a verdict on this origin
pub refusal_is : (s : State) (end : EndSaid) (r : Entry) → verdict_origin s end ≡ Some r
    → end_refusal s end ≡ option_map (λ (remark : List ℕ). plain_reply 1 remark) (disagreement_of end.verdict (told_state (transaction_state s.log.records r.queue_offset)))
refusal_is s end r on = ap (λ (o : Option Entry). origin_refusal s.log.records end.verdict o) on ∙ refuses end.verdict (transaction_state s.log.records r.queue_offset)

pub as_refusal : (s : State) (end : EndSaid) → refusal_of s (EndTransaction end) ≡ end_refusal s end
unfolding refusal_of
as_refusal s end = refl

-- ---- the number of the record that settles

settled_next : (n : ℕ) → if_settled (n + 1) ≡ Some n
settled_next n = let same : n + 1 ≡ suc n = omega arith in ap if_settled same

last_is : (test : Entry → Bool) (n : ℕ) (log : List Entry) → if_settled (after_last test n log) ≡ last_number test n log
last_is test n [] = refl
last_is test n (r ∷ log) = by_rest (after_last test (n + 1) log) (last_number test (n + 1) log) (last_is test (n + 1) log) (test r)
  where
    by_rest : (a : ℕ) (o : Option ℕ) → if_settled a ≡ o → (b : Bool) → if_settled (cond (nat_lt 0 a) a (cond b (n + 1) 0)) ≡ or_number o (cond b (Some n) None)
    by_rest zero o is true = settled_next n ∙ ap (λ (x : Option ℕ). or_number x (Some n)) is
    by_rest zero o is false = ap (λ (x : Option ℕ). or_number x None) is
    by_rest (suc a) o is b = ap (λ (c : Bool). if_settled (cond c (suc a) (cond b (n + 1) 0))) (lt-ltb 0 (suc a) (omega arith)) ∙ ap (λ (x : Option ℕ). or_number x (cond b (Some n) None)) is

pub settled_number : (s : State) (first : Entry) → settling_in s.log (Some first) ≡ settling_number s (Some first)
settled_number s first = last_is (settles s.log.records first.queue_offset) s.log.base.records s.log.records

-- ---- a first verdict

open_told : (state : TransactionState) → told_state state ≡ told.Open → state ≡ Open
open_told Open is = refl
open_told Committed is = cc is
open_told RolledBack is = cc is
open_told Discarded is = cc is

not_true : (b : Bool) → not b ≡ true → b ≡ false
not_true true is = cc is
not_true false is = refl

where_true : (b : Bool) (o : Option Entry) (r : Entry) → cond b o None ≡ Some r → o ≡ Some r
where_true true o r is = is
where_true false o r is = cc is

text_read : (o : Option (List ℕ)) (text : List ℕ) → o ≡ Some text → IfSome o (λ t. IsSome (number_in t)) → IsSome (number_in text)
text_read o text is read = subst (λ (x : Option (List ℕ)). IfSome x (λ t. IsSome (number_in t))) is read

-- a half message that an origin has is one of its family
pub record IsOneOf (log : List Entry) (origin : ℕ) (half first : Entry) : Type 0 where
  pub named : find (is_origin origin) log ≡ Some first
  pub member : (is_origin origin half || is_renewal origin half) ≡ true

module _ (s : State) (end : EndSaid) (is : IsState s) (half : Entry) (named : named_half s end ≡ Some half) where
  abbrev log : List Entry
  log = s.log.records

  abbrev names_it : Entry → Bool
  names_it r = is_half r && (r.queue_offset == end.queue_offset) && (r.offset == end.place)

  there : (k : ℕ) × (slice_get log k ≡ Some half)
  there = found_at names_it log half named

  passes : ((is_half half && (half.queue_offset == end.queue_offset)) ≡ true) × ((half.offset == end.place) ≡ true)
  passes = and_parts (is_half half && (half.queue_offset == end.queue_offset)) (half.offset == end.place) (found_passes names_it log half named)

  a_half : is_half half ≡ true
  a_half = (and_parts (is_half half) (half.queue_offset == end.queue_offset) passes.0).0

  number : half.queue_offset ≡ end.queue_offset
  number = eqb-true half.queue_offset end.queue_offset (and_parts (is_half half) (half.queue_offset == end.queue_offset) passes.0).1

  its_test : (origin : ℕ) → is_none (origin_text half) ≡ true → half.queue_offset ≡ origin → is_origin origin half ≡ true
  its_test origin none same = ap (λ (b : Bool). b && is_none (origin_text half) && (half.queue_offset == origin)) a_half
      ∙ ap (λ (b : Bool). b && (half.queue_offset == origin)) none ∙ eq-eqb half.queue_offset origin same

  -- it is alone among the half messages with its number
  alone : (k : ℕ) (y : Entry) → slice_get log k ≡ Some y → is_half y ≡ true → y.queue_offset ≡ half.queue_offset → y ≡ half
  alone k y at too same = one_half s.setup.segment s.log is.log k there.0 y half at there.1 too a_half same

  family_by : (origin : ℕ) (first : Entry) (text : Option (List ℕ)) → origin_text half ≡ text → named_origin log text half ≡ Some first → first.queue_offset ≡ origin → IsOneOf log origin half first
  family_by origin first None none own same =
      let one : half ≡ first = same_Some half first own in
      let self = its_test origin (ap (λ (o : Option (List ℕ)). is_none o) none) (ap (λ (r : Entry). r.queue_offset) one ∙ same) in
      let found : find (is_origin origin) log ≡ Some half =
      found_alone names_it (is_origin origin) log half named self
      (λ k y at mine.
      let parts = and_parts (is_half y && is_none (origin_text y)) (y.queue_offset == origin) mine in
      let equal : y.queue_offset ≡ half.queue_offset = eqb-true y.queue_offset origin parts.1 ∙ sym (ap (λ (r : Entry). r.queue_offset) one ∙ same) in
      alone k y at (and_parts (is_half y) (is_none (origin_text y)) parts.0).0 equal) in
      record { named = found ∙ own; member = ap (λ (b : Bool). b || is_renewal origin half) self }
  family_by origin first (Some text) some own same =
      let at = found_at (is_origin (digits_value 10 text)) log first own in
      let mine = and_parts (is_half first && is_none (origin_text first)) (first.queue_offset == digits_value 10 text) (found_passes (is_origin (digits_value 10 text)) log first own) in
      let value : digits_value 10 text ≡ origin = sym (eqb-true first.queue_offset (digits_value 10 text) mine.1) ∙ same in
      let few = few_number first (is.log.each at.0 first at.1).layout in
      let low : origin < 2 ^ 64 = omega (arith, few, same) in
      let read = text_read (origin_text half) text some (is.log.each there.0 half there.1).admissible.renewal in
      let renews : is_renewal origin half ≡ true =
      ap (λ (b : Bool). b && is_text (digits_of origin) (origin_text half)) a_half
      ∙ ap (λ (o : Option (List ℕ)). is_text (digits_of origin) o) some
      ∙ text_names text origin low read ∙ eq-eqb (digits_value 10 text) origin value in
      record { named = ap (λ (n : ℕ). find (is_origin n) log) (sym value) ∙ own; member = later (is_origin origin half) (is_renewal origin half) renews }
    where
      later : (a b : Bool) → b ≡ true → (a || b) ≡ true
      later true b h = refl
      later false b h = h

  -- it is found in its family
  in_family : (origin : ℕ) → (is_origin origin half || is_renewal origin half) ≡ true → find (λ r. r.queue_offset == half.queue_offset) (family log origin) ≡ Some half
  in_family origin member =
      let test : Entry → Bool = λ r. is_origin origin r || is_renewal origin r in
      find-filter (λ r. r.queue_offset == half.queue_offset) test log
      ∙ found_alone names_it (λ r. test r && (r.queue_offset == half.queue_offset)) log half named
      (ap (λ (b : Bool). b && (half.queue_offset == half.queue_offset)) member ∙ eq-eqb half.queue_offset half.queue_offset refl)
      (λ k y at mine.
      let parts = and_parts (test y) (y.queue_offset == half.queue_offset) mine in
      alone k y at (half_by (is_half y) (is_none (origin_text y)) (y.queue_offset == origin) (is_text (digits_of origin) (origin_text y)) parts.0) (eqb-true y.queue_offset half.queue_offset parts.1))
    where
      half_by : (a b c d : Bool) → ((a && b && c) || (a && d)) ≡ true → a ≡ true
      half_by true b c d h = refl
      half_by false b c d h = h

-- the half message that a verdict names, which isn't refused
pub judged_names : (s : State) (now origin : ℕ) (end : EndSaid) (state : OriginState) → IsState s → (it : IsJudged s now end origin state) → (half : Entry) × (named_half s end ≡ Some half) × IsOneOf s.log.records origin half it.first
judged_names s now origin end state is it = by_named (named_half s end) refl it.on
  where
    by_named : (o : Option Entry) → named_half s end ≡ o → judged_origin s.log.records end o ≡ Some it.first → (half : Entry) × (named_half s end ≡ Some half) × IsOneOf s.log.records origin half it.first
    by_named None named on = cc on
    by_named (Some half) named on =
        (half, named, family_by s end is half named origin it.first (origin_text half) refl (where_true (is_by_its_group end half) (origin_of s.log.records half) it.first on) it.number)

-- the same of a first verdict
pub named_by_first : (s : State) (now origin : ℕ) (end : EndSaid) → IsState s → IsJudged s now end origin told.Open → (half : Entry) × (named_half s end ≡ Some half) × IsNamedBy s end origin half
named_by_first s now origin end is it =
    let it_is = judged_names s now origin end told.Open is it in
    let half = it_is.0 in
    let named = it_is.1 in
    let one = it_is.2 in (
      half,
      named,
      record {
        first = it.first;
        named = one.named;
        opens = not_true (is_settled s.log.records origin) (sym (open_is s.log.records origin) ∙ ap is_open it.state_is);
        stands = in_family s end is half named origin one.member;
        number = number s end is half named;
      },
    )

-- ---- what the model answers

module _ (s : State) (link : ℕ) (host : List ℕ) (given : ℕ) (end : EndSaid) (taken : end_refusal s end ≡ None) where
  abbrev e : model.Event
  e = verdict_event link host given end

  abbrev time : ℕ
  time = max given s.now

  abbrev drafts : List Draft
  drafts = verdict_drafts s time end.verdict (named_half s end) (verdict_origin s end)

  drafts_are : drafts_of s e ≡ drafts
  unfolding drafts_of
  drafts_are = refl

  not_refused : refusal_of s (EndTransaction end) ≡ None
  not_refused = as_refusal s end ∙ taken

  same_state : changed s e ≡ s
  unfolding changed request_changed
  same_state = refl

  carried_out : (records : List Entry) → carried_out_answer s e records ≡ end_answer s end records
  unfolding carried_out_answer request_answer
  carried_out records = refl

  answered : (records : List Entry) → request_answer s given (EndTransaction end) records ≡ end_answer s end records
  unfolding request_answer
  answered records = refl

  -- a verdict that settles its origin by records of these drafts
  pub verdict_settles : (half : Entry) (d : Draft) (more : List Draft) (what : Said) (new : Parts) → named_half s end ≡ Some half → drafts ≡ d ∷ more → IsSettled s time (waits half.props) (d ∷ more) what new
      → Says what (answer_of s e) × Represents new (after s e)
  verdict_settles half d more what new named are it =
      let records = next_records s.setup.segment time s.log (d ∷ more) in
      let room = room_of s records in
      let made : made_by s e ≡ records = ap (λ (ds : List Draft). next_records s.setup.segment time s.log ds) (drafts_are ∙ are) in
      let decided = room_decides s e records made (omega arith) (ap (λ (o : Option model.Reply). is_some o) not_refused) not_refused same_state in (
        subst (λ (answer : model.Answer). Says what answer) (sym (decided.0 ∙ by_room room)) it.answer,
        subst (λ (t : State). Represents new t) (sym decided.1) it.state,
      )
    where
      by_room : (room : Room) → answer_in room s e (next_records s.setup.segment time s.log (d ∷ more)) ≡ settled_answer room s (waits half.props) (next_records s.setup.segment time s.log (d ∷ more))
      by_room Free =
          carried_out (next_records s.setup.segment time s.log (d ∷ more))
          ∙ ap (λ (o : Option Entry). append_answer s (half_waits o) done_reply (length (next_records s.setup.segment time s.log (d ∷ more)))) named
      by_room Past = refl
      by_room (Full pending) = refl

  -- a verdict that appends nothing
  pub verdict_agrees : drafts ≡ [] → (answer_of s e ≡ agreed_answer s end.verdict (verdict_origin s end)) × (after s e ≡ record s { now = time })
  verdict_agrees none =
      let a : model.Asked = record { link = link; host = host; now = given; request = EndTransaction end } in (
        answer_read s a (drafts_are ∙ none) not_refused ∙ answered [],
        after_read s s a (drafts_are ∙ none) not_refused same_state,
      )

-- ---- which records a verdict appends

none_of_two : (a b : Bool) (x y : List Draft) → (a || b) ≡ false → cond a x (cond b y []) ≡ []
none_of_two true b x y never = cc never
none_of_two false true x y never = cc never
none_of_two false false x y never = refl

nothing_by : (s : State) (now verdict : ℕ) (half origin : Entry) (state : TransactionState) → is_first_verdict verdict (told_state state) ≡ false → first_verdict state (open_verdict s now verdict half origin) ≡ []
nothing_by s now verdict half origin Open never =
    none_of_two (verdict == 8) (verdict == 12) (copy_draft s.setup.host half ∷ op_draft s.setup.host now origin.queue_offset ∷ []) (op_draft s.setup.host now origin.queue_offset ∷ []) never
nothing_by s now verdict half origin Committed never = refl
nothing_by s now verdict half origin RolledBack never = refl
nothing_by s now verdict half origin Discarded never = refl

-- none where it isn't a first verdict
pub nothing_drafted : (s : State) (now verdict : ℕ) (o : Option Entry) (first : Entry) → is_first_verdict verdict (told_state (transaction_state s.log.records first.queue_offset)) ≡ false
    → verdict_drafts s now verdict o (Some first) ≡ []
nothing_drafted s now verdict None first never = refl
nothing_drafted s now verdict (Some half) first never = nothing_by s now verdict half first (transaction_state s.log.records first.queue_offset) never

-- else those of an open origin
pub first_drafted : (s : State) (now : ℕ) (end : EndSaid) (half first : Entry) (origin : ℕ) → named_half s end ≡ Some half → verdict_origin s end ≡ Some first → first.queue_offset ≡ origin
    → told_state (transaction_state s.log.records origin) ≡ told.Open
    → verdict_drafts s now end.verdict (named_half s end) (verdict_origin s end)
    ≡ cond (end.verdict == 8) (copy_draft s.setup.host half ∷ op_draft s.setup.host now origin ∷ []) (cond (end.verdict == 12) (op_draft s.setup.host now origin ∷ []) [])
first_drafted s now end half first origin named on number opens =
    ap (λ (o : Option Entry). verdict_drafts s now end.verdict o (verdict_origin s end)) named
    ∙ ap (λ (o : Option Entry). verdict_drafts s now end.verdict (Some half) o) on
    ∙ ap (λ (state : TransactionState). first_verdict state (open_verdict s now end.verdict half first)) (ap (transaction_state s.log.records) number ∙ open_told (transaction_state s.log.records origin) opens)
    ∙ ap (λ (n : ℕ). cond (end.verdict == 8) (copy_draft s.setup.host half ∷ op_draft s.setup.host now n ∷ []) (cond (end.verdict == 12) (op_draft s.setup.host now n ∷ []) [])) number
