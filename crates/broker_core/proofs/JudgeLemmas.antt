-- What the parts do with a verdict: the records that settle an origin, or nothing but the time.
use Rattle.std.proofs.Common.{◌≡◌, ◌∙◌, refl, ap, sym, subst, arith, ℕ, ◌+◌, ◌^◌, ◌<◌, ◌≤◌, max, Bool, true, false, cond, List, [], ◌∷◌, length, find, slice_get, codes, Option, Some, None}
use Rattle.std.specs.Prelude.{◌==◌, ◌&&◌, nat_le, option_map}
use Rattle.std.proofs.lemmas.Option.{same_Some}
use Rattle.record_codec.specs.Entry.{Entry}
use Rattle.record_codec.specs.Layout.{IsRecord}
use Rattle.record_codec.specs.Drafts.{draft_fault, draft_size, entry_of, IsEncodable}
use Rattle.record_codec.specs.declared.draft.Draft.{Draft}
use Rattle.record_codec.specs.declared.draft.Place.{Place}
use Rattle.log_model.specs.declared.origin.OriginState.{OriginState}
use Rattle.log_model.specs.declared.origin.OriginState.TheVariants.{Open, Committed, RolledBack, Discarded}
use Rattle.log_model.specs.Admissible.{half_topic, IsBelow}
use Rattle.log_model.specs.Drafts.{text_in, copy_draft, op_draft}
use Rattle.log_model.specs.Log.{place_after}
use Rattle.log_model.specs.Numbered.{place_end, queue_max, next_record, next_records}
use Rattle.log_model.specs.Origins.{told_state}
use Rattle.log_model.specs.Transactions.{family, is_origin, transaction_state}
use Rattle.half_view.specs.OfLog.{settling_in}
use Rattle.made_records.specs.Made.{CanStand, IsOpOf}
use Rattle.made_records.proofs.TextLemmas.{text_holds}
use Rattle.record_codec.specs.Props.{value_of}
use Rattle.request_fields.specs.Requests.{EndSaid}
use Rattle.request_fields.specs.declared.request.Request.TheVariants.{EndTransaction}
use Rattle.half_records.specs.Verdicts.{judged_of}
use Rattle.half_records.specs.declared.judged.Judged.{Judged}
use Rattle.queue_view.specs.Tables.{Table, added_of, number_of}
use Rattle.broker_model.specs.State.{State, Setup}
use Rattle.broker_model.specs.Events as model
use Rattle.broker_model.specs.Answers.{append_answer, done_reply, repeated_answer, settling_number}
use Rattle.broker_model.specs.Refusals.{named_half, plain_reply, refusal_of, verdict_origin}
use Rattle.broker_model.specs.Appended.{verdict_drafts}
use Rattle.broker_model.specs.Sends.{waits}
use Rattle.broker_model.specs.Step.{with_records}
use Rattle.broker_events.specs.declared.said.Said.{Said}
use Rattle.broker_events.specs.Steps.{Says}
use Rattle.core_log.specs.declared.parts.Parts.{Parts}
use Rattle.core_log.specs.declared.room.Room.{Room}
use Rattle.core_log.specs.declared.room.Room.TheVariants.{Free, Past, Full}
use Rattle.core_log.specs.Appends.{MayStand}
use Rattle.core_log.specs.Represents.{Represents}
use Rattle.core_log.specs.Rooms.{room_of, state_in, IsRefusal}
use Rattle.core_log.specs.Settles.{IsSettling}
use Rattle.broker_core.specs.Verdicts.{disagreement_of, is_first_verdict, settled_answer, awaited_in, IsSettled, IsRollingBack, IsNamedBy, IsJudged, AnswersVerdict, agreed_answer}
use Rattle.core_log.proofs.BothLemmas.{may_stand_by, written_by}
use Rattle.broker_core.proofs.ReadLemmas.{represents_read}
use Rattle.core_log.proofs.RoomsLemmas.{fits_one}
use Rattle.core_log.proofs.SettleLemmas.{a_half, copies, earlier, layout, may, op_may, op_is_its}
use Rattle.core_log.proofs.StoreLemmas.{offset_low, is_next, is_next_record}
use Rattle.broker_core.proofs.VerdictLemmas.{as_refusal, first_drafted, judged_names, judged_some, refusal_is, nothing_drafted, settled_number, verdict_agrees, verdict_settles}

-- ---- the op record alone

pub record IsReadyAlone (core : Parts) (s : State) (now origin : ℕ) (op : Draft) (p : Place) (size : ℕ) : Type 0 where
  pub may : MayStand s op p
  pub written : IsEncodable op p
  pub short : length core.pending.bytes + size ≤ 67108864
  pub is_op_of : IsOpOf origin (entry_of op p)
  pub next : entry_of op p ≡ next_record s.setup.segment now s.log op
  pub at : p.store ≡ now

pub ready_alone : (old core : Parts) (s : State) (now origin : ℕ) (d : Draft) (p : Place) (table size : ℕ) → Represents old s → Represents core s → IsRollingBack s now origin d
    → number_of core.queues d.topic d.queue ≡ Some table → ((t : Table) → slice_get core.queues table ≡ Some t → p.queue_offset ≡ added_of t) → p.offset ≡ place_after core.pending.segment core.pending.end size → p.store ≡ now
    → size ≡ draft_size d → ((t : State) → Represents old t → room_of t (next_records t.setup.segment now t.log (d ∷ [])) ≡ Free) → IsReadyAlone core s now origin d p size
ready_alone old core s now origin d p table size are0 are it mine offset place at size_is free =
    let fits = fits_one core s are d now size size_is (free s are0) in
    let fit = fits.0 in
    let later = it.later in
    let same = are.numbers.now in
    let time : p.store ≡ max now core.now = omega (arith, at, later, same) in
    let next = is_next core s d p table size now are mine offset place size_is time it.time in
    let can = subst (λ (x : Draft). CanStand s.setup.segment (queue_max s.log half_topic 0) x p) (sym it.op_is)
    (op_may s origin it.first are.state it.named now (queue_max s.log half_topic 0) p it.time (earlier s origin it.first are.state it.named)) in
    let low : p.offset + draft_size d ≤ 2 ^ 62 = omega (arith, fit, place, size_is) in
    let few = offset_low core s d.topic d.queue are in
    let number = next.queue_offset in
    record {
      may = may_stand_by s d p can next low;
      written = written_by s.setup.segment (queue_max s.log half_topic 0) d p are.state.log.segment.high can (omega (arith, few, number)) low next.time;
      short = fits.1;
      is_op_of = subst (λ (x : Draft). IsOpOf origin (entry_of x p)) (sym it.op_is) (op_is_its s origin it.first are.state it.named now p it.time);
      next = is_next_record s d p now next at;
      at = at;
    }

-- ---- sizes

segment_same : (core : Parts) (s : State) → Represents core s → s.setup.segment ≡ core.setup.segment
segment_same core s are = sym (ap (λ (x : Setup). x.segment) are.numbers.setup)

pub op_fits : (core : Parts) (s : State) (now origin : ℕ) (first : Entry) (op : Draft) → Represents core s → find (is_origin origin) s.log.records ≡ Some first → op ≡ op_draft s.setup.host now origin → now < 2 ^ 62
    → draft_fault core.setup.segment op ≡ None
op_fits core s now origin first op are named is time =
    let p : Place = record { queue_offset = 0; offset = 0; store = now } in
    let can = op_may s origin first are.state named now (queue_max s.log half_topic 0) p time (earlier s origin first are.state named) in
    subst (λ (S : ℕ). draft_fault S op ≡ None) (segment_same core s are) (subst (λ (d : Draft). draft_fault s.setup.segment d ≡ None) (sym is) can.passes)

pub copy_fits : (core : Parts) (s : State) (now origin : ℕ) (how : OriginState) (half : Entry) (copy op : Draft) → Represents core s → IsSettling s now origin how half copy op → draft_fault core.setup.segment copy ≡ None
copy_fits core s now origin how half copy op are it =
    let p : Place = record { queue_offset = 0; offset = place_end s.log; store = now } in
    let its = copies s now origin how half copy op are.state it (queue_max s.log half_topic 0) core.halves.view p are.halves.view (omega arith) in
    subst (λ (S : ℕ). draft_fault S copy ≡ None) (segment_same core s are) its.stands.passes

-- ---- by the room

pub free_of : (room : Room) (o : Option Said) → IsRefusal room o → ((what : Said) → o ≡ Some what → ⊥) → room ≡ Free
free_of Free o is none = refl
free_of Past None is none = absurd is
free_of Past (Some what) is none = absurd (none what refl)
free_of (Full n) None is none = absurd is
free_of (Full n) (Some what) is none = absurd (none what refl)

pub refused_settling : (s : State) (now : ℕ) (awaited : Bool) (drafts : List Draft) (what : Said) (new : Parts) (room : Room) (o : Option Said) → room ≡ room_of s (next_records s.setup.segment now s.log drafts)
    → IsRefusal room o → o ≡ Some what → Represents new s → IsSettled s now awaited drafts what new
refused_settling s now awaited drafts what new room o is refused told are =
    let records = next_records s.setup.segment now s.log drafts in
    let both = subst (λ (r : Room). Says what (settled_answer r s awaited records) × Represents new (state_in r s now records)) is
    (by_room room (subst (λ (x : Option Said). IsRefusal room x) told refused)) in
    record { answer = both.0; state = both.1 }
  where
    by_room : (r : Room) → IsRefusal r (Some what) → Says what (settled_answer r s awaited (next_records s.setup.segment now s.log drafts)) × Represents new (state_in r s now (next_records s.setup.segment now s.log drafts))
    by_room Free bad = absurd bad
    by_room Past says = (says, are)
    by_room (Full n) says = (says, are)

pub settled_freely : (s : State) (now : ℕ) (awaited : Bool) (d : Draft) (more : List Draft) (what : Said) (new : Parts) → room_of s (next_records s.setup.segment now s.log (d ∷ more)) ≡ Free
    → Says what (append_answer s awaited done_reply (length (next_records s.setup.segment now s.log (d ∷ more)))) → Represents new (with_records s now (next_records s.setup.segment now s.log (d ∷ more))) → IsSettled s now awaited (d ∷ more) what new
settled_freely s now awaited d more what new free says are =
    let records = next_records s.setup.segment now s.log (d ∷ more) in
    record {
      answer = subst (λ (r : Room). Says what (settled_answer r s awaited records)) (sym free) says;
      state = subst (λ (r : Room). Represents new (state_in r s now records)) (sym free) are;
    }

-- ---- the half message that is named

-- what is kept of it
pub whole_is : (s : State) (end : EndSaid) (origin at : ℕ) (half : Entry) (o : Option Entry) → IsNamedBy s end origin half → at ≡ end.queue_offset → o ≡ find (λ r. r.queue_offset == at) (family s.log.records origin) → o ≡ Some half
whole_is s end origin at half o it same is =
    is ∙ ap (λ (n : ℕ). find (λ r. r.queue_offset == n) (family s.log.records origin)) (same ∙ sym it.number) ∙ it.stands

pub kept_layout : (s : State) (end : EndSaid) (origin : ℕ) (half : Entry) (core : Parts) → Represents core s → IsNamedBy s end origin half → IsRecord half
kept_layout s end origin half core are it = layout s origin half it.first are.state it.named it.stands

pub its_queue : (s : State) (end : EndSaid) (origin : ℕ) (half : Entry) (core : Parts) → Represents core s → IsNamedBy s end origin half → IsBelow 1024 (text_in (codes "REAL_QID") half.props)
its_queue s end origin half core are it =
    let message = (may s origin half it.first are.state it.named it.stands).half (a_half s origin half it.first are.state it.named it.stands) in
    text_holds (value_of (codes "REAL_QID") half.props) (IsBelow 1024) message.waits.queue.0 message.waits.queue.1

-- ---- first verdicts

pub settles_named : (s : State) (now origin : ℕ) (end : EndSaid) (half : Entry) (copy op : Draft) (host : List ℕ) → IsJudged s now end origin Open → IsNamedBy s end origin half → host ≡ s.setup.host → copy ≡ copy_draft host half → op ≡ op_draft host now origin
    → IsSettling s now origin Committed half copy op
settles_named s now origin end half copy op host judged it same is is_too = record {
  first = it.first;
  named = it.named;
  stands = it.stands;
  copy_is = is ∙ ap (λ (h : List ℕ). copy_draft h half) same;
  op_is = is_too ∙ ap (λ (h : List ℕ). op_draft h now origin) same;
  later = judged.later;
  time = judged.time;
}

pub rolls_named : (s : State) (now origin : ℕ) (end : EndSaid) (half : Entry) (op : Draft) (host : List ℕ) → IsJudged s now end origin Open → IsNamedBy s end origin half → host ≡ s.setup.host → op ≡ op_draft host now origin → IsRollingBack s now origin op
rolls_named s now origin end half op host judged it same is =
    record { first = it.first; named = it.named; op_is = is ∙ ap (λ (h : List ℕ). op_draft h now origin) same; later = judged.later; time = judged.time }

settled_at : (s : State) (now time : ℕ) (awaited waited : Bool) (drafts : List Draft) (what : Said) (new : Parts) → time ≡ now → awaited ≡ waited → IsSettled s now awaited drafts what new → IsSettled s time waited drafts what new
settled_at s now time awaited waited drafts what new same is it =
    subst (λ (t : ℕ). IsSettled s t waited drafts what new) (sym same) (subst (λ (b : Bool). IsSettled s now b drafts what new) is it)

pub commit_answers : (s : State) (now origin : ℕ) (end : EndSaid) (half : Entry) (copy op : Draft) (awaited : Bool) (what : Said) (new : Parts) → IsJudged s now end origin Open → named_half s end ≡ Some half
    → IsSettling s now origin Committed half copy op → (end.verdict == 8) ≡ true → awaited ≡ waits half.props → IsSettled s now awaited (copy ∷ op ∷ []) what new → AnswersVerdict s now end what new
commit_answers s now origin end half copy op awaited what new judged named it eight waited settled link host given same =
    verdict_settles s link host given end judged.taken half copy (op ∷ []) what new named
    (first_drafted s (max given s.now) end half judged.first origin named judged.on judged.number judged.state_is
    ∙ ap (λ (b : Bool). cond b (copy_draft s.setup.host half ∷ op_draft s.setup.host (max given s.now) origin ∷ []) (cond (end.verdict == 12) (op_draft s.setup.host (max given s.now) origin ∷ []) [])) eight
    ∙ ap (λ (t : ℕ). copy_draft s.setup.host half ∷ op_draft s.setup.host t origin ∷ []) same
    ∙ ap (λ (d : Draft). d ∷ op_draft s.setup.host now origin ∷ []) (sym it.copy_is)
    ∙ ap (λ (d : Draft). copy ∷ d ∷ []) (sym it.op_is))
    (settled_at s now (max given s.now) awaited (waits half.props) (copy ∷ op ∷ []) what new same waited settled)

pub roll_answers : (s : State) (now origin : ℕ) (end : EndSaid) (half : Entry) (op : Draft) (awaited : Bool) (what : Said) (new : Parts) → IsJudged s now end origin Open → named_half s end ≡ Some half
    → IsRollingBack s now origin op → (end.verdict == 8) ≡ false → (end.verdict == 12) ≡ true → awaited ≡ waits half.props → IsSettled s now awaited (op ∷ []) what new → AnswersVerdict s now end what new
roll_answers s now origin end half op awaited what new judged named it eight twelve waited settled link host given same =
    verdict_settles s link host given end judged.taken half op [] what new named
    (first_drafted s (max given s.now) end half judged.first origin named judged.on judged.number judged.state_is
    ∙ ap (λ (b : Bool). cond b (copy_draft s.setup.host half ∷ op_draft s.setup.host (max given s.now) origin ∷ []) (cond (end.verdict == 12) (op_draft s.setup.host (max given s.now) origin ∷ []) [])) eight
    ∙ ap (λ (b : Bool). cond b (op_draft s.setup.host (max given s.now) origin ∷ []) []) twelve
    ∙ ap (λ (t : ℕ). op_draft s.setup.host t origin ∷ []) same
    ∙ ap (λ (d : Draft). d ∷ []) (sym it.op_is))
    (settled_at s now (max given s.now) awaited (waits half.props) (op ∷ []) what new same waited settled)

pub first_is_open : (verdict : ℕ) (state : OriginState) → is_first_verdict verdict state ≡ true → state ≡ Open
first_is_open verdict Open is = refl
first_is_open verdict Committed is = cc is
first_is_open verdict RolledBack is = cc is
first_is_open verdict Discarded is = cc is

-- ---- a verdict that appends nothing

pub repeated_waits : (s : State) (o : Option ℕ) (flushed number : ℕ) → s.setup.sync ≡ true → flushed ≡ s.flushed → awaited_in o flushed ≡ Some number → repeated_answer s o ≡ model.After done_reply number s.turns
repeated_waits s None flushed number sync same is = cc is
repeated_waits s (Some n) flushed number sync same is = by_test (nat_le flushed n) refl is
  where
    by_test : (b : Bool) → nat_le flushed n ≡ b → cond b (Some n) None ≡ Some number → repeated_answer s (Some n) ≡ model.After done_reply number s.turns
    by_test true more here =
        ap (λ (c : Bool). cond (c && nat_le s.flushed n) (model.After done_reply n s.turns) (model.Replies done_reply)) sync
        ∙ ap (λ (k : ℕ). cond (nat_le k n) (model.After done_reply n s.turns) (model.Replies done_reply)) (sym same)
        ∙ ap (λ (c : Bool). cond c (model.After done_reply n s.turns) (model.Replies done_reply)) more
        ∙ ap (λ (k : ℕ). model.After done_reply k s.turns) (same_Some n number here)
    by_test false more here = cc here

pub repeated_done : (s : State) (o : Option ℕ) (flushed : ℕ) → flushed ≡ s.flushed → awaited_in o flushed ≡ None → repeated_answer s o ≡ model.Replies done_reply
repeated_done s None flushed same is = refl
repeated_done s (Some n) flushed same is = by_test (nat_le flushed n) refl is
  where
    by_sync : (b : Bool) → cond (b && false) (model.After done_reply n s.turns) (model.Replies done_reply) ≡ model.Replies done_reply
    by_sync true = refl
    by_sync false = refl

    by_test : (b : Bool) → nat_le flushed n ≡ b → cond b (Some n) None ≡ None → repeated_answer s (Some n) ≡ model.Replies done_reply
    by_test true more here = cc here
    by_test false more here =
        ap (λ (k : ℕ). cond (s.setup.sync && nat_le k n) (model.After done_reply n s.turns) (model.Replies done_reply)) (sym same)
        ∙ ap (λ (c : Bool). cond (s.setup.sync && c) (model.After done_reply n s.turns) (model.Replies done_reply)) more
        ∙ by_sync s.setup.sync

-- the number of the record that settles the origin, as the table tells it
pub number_told : (s : State) (origin : ℕ) (first : Entry) (o : Option ℕ) → find (is_origin origin) s.log.records ≡ Some first → o ≡ settling_in s.log (find (is_origin origin) s.log.records) → o ≡ settling_number s (Some first)
number_told s origin first o named is = is ∙ ap (λ (r : Option Entry). settling_in s.log r) named ∙ settled_number s first

-- time went on
time_passes : (core : Parts) (s : State) (now time : ℕ) → Represents core s → s.now ≤ now → now < 2 ^ 62 → time ≡ now → Represents (record core { now = now }) (record s { now = time })
time_passes core s now time are later low same =
    let clock = are.numbers.now in
    let here : now ≡ max now core.now = omega (arith, later, clock) in
    let there : max now s.now ≡ time = omega (arith, later, same) in
    subst (λ (t : ℕ). Represents (record core { now = now }) (record s { now = t })) there
    (represents_read core (record core { now = now }) s now are (ap (λ (t : ℕ). record core { now = t }) here) low)

pub agrees : (core : Parts) (s : State) (now origin : ℕ) (end : EndSaid) (state : OriginState) (what : Said) → Represents core s → (it : IsJudged s now end origin state) → is_first_verdict end.verdict state ≡ false
    → Says what (agreed_answer s end.verdict (Some it.first)) → AnswersVerdict s now end what (record core { now = now })
agrees core s now origin end state what are it later says link host given same =
    let none : verdict_drafts s (max given s.now) end.verdict (named_half s end) (verdict_origin s end) ≡ [] =
    ap (λ (o : Option Entry). verdict_drafts s (max given s.now) end.verdict (named_half s end) o) it.on
    ∙ nothing_drafted s (max given s.now) end.verdict (named_half s end) it.first
    (ap (λ (n : ℕ). is_first_verdict end.verdict (told_state (transaction_state s.log.records n))) it.number ∙ ap (is_first_verdict end.verdict) it.state_is ∙ later) in
    let answered = verdict_agrees s link host given end it.taken none in (
      subst (λ (answer : model.Answer). Says what answer) (sym (answered.0 ∙ ap (λ (o : Option Entry). agreed_answer s end.verdict o) it.on)) says,
      subst (λ (t : State). Represents (record core { now = now }) t) (sym answered.1) (time_passes core s now (max given s.now) are it.later it.time same),
    )

-- the origin is one of the log
pub origin_found : (core : Parts) (s : State) (now origin : ℕ) (end : EndSaid) (state : OriginState) → Represents core s → (it : IsJudged s now end origin state) → find (is_origin origin) s.log.records ≡ Some it.first
origin_found core s now origin end state are it = (judged_names s now origin end state are.state it).2.named

-- ---- what the half messages tell of a verdict

pub nobody_judged : (log : List Entry) (o : Option Entry) (told : Option Judged) → told ≡ option_map (judged_of log) o → ((judged : Judged) → told ≡ Some judged → ⊥) → o ≡ None
nobody_judged log None told is none = refl
nobody_judged log (Some r) told is none = absurd (none (judged_of log r) is)

pub somebody_judged : (s : State) (end : EndSaid) (told : Option Judged) (judged : Judged) → told ≡ Some judged → told ≡ option_map (judged_of s.log.records) (verdict_origin s end)
    → (first : Entry) × (verdict_origin s end ≡ Some first) × (first.queue_offset ≡ judged.origin) × (told_state (transaction_state s.log.records first.queue_offset) ≡ judged.state)
somebody_judged s end told judged is on =
    let it = judged_some s.log.records (verdict_origin s end) judged (sym on ∙ is) in
    (it.0, it.1, ap (λ (j : Judged). j.origin) (sym it.2), ap (λ (j : Judged). j.state) (sym it.2))

not_some : {A : Type 0} (o : Option A) → ((x : A) → o ≡ Some x → ⊥) → o ≡ None
not_some None none = refl
not_some (Some x) none = absurd (none x refl)

-- a verdict that disagrees is refused
pub refused_by : {A : Type 0} (f : A → List ℕ) (s : State) (end : EndSaid) (verdict : ℕ) (told : Option Judged) (judged : Judged) (o : Option A) (remark : A) → told ≡ Some judged
    → told ≡ option_map (judged_of s.log.records) (verdict_origin s end) → verdict ≡ end.verdict → option_map f o ≡ disagreement_of verdict judged.state → o ≡ Some remark
    → refusal_of s (EndTransaction end) ≡ Some (plain_reply 1 (f remark))
refused_by {A = A} f s end verdict told judged o remark is on same ensured here =
    let it = somebody_judged s end told judged is on in
    let g : List ℕ → model.Reply = λ (remark : List ℕ). plain_reply 1 remark in
    as_refusal s end ∙ refusal_is s end it.0 it.1
    ∙ ap (λ (state : OriginState). option_map g (disagreement_of end.verdict state)) it.3
    ∙ ap (λ (n : ℕ). option_map g (disagreement_of n judged.state)) (sym same)
    ∙ ap (option_map g) (sym ensured)
    ∙ ap (λ (x : Option A). option_map g (option_map f x)) here

-- another one isn't
pub is_judged : {A : Type 0} (f : A → List ℕ) (core : Parts) (s : State) (now moment : ℕ) (end : EndSaid) (verdict : ℕ) (told : Option Judged) (judged : Judged) (o : Option A) → Represents core s → told ≡ Some judged
    → told ≡ option_map (judged_of s.log.records) (verdict_origin s end) → verdict ≡ end.verdict → option_map f o ≡ disagreement_of verdict judged.state → ((remark : A) → o ≡ Some remark → ⊥) → moment ≡ max core.now now → now < 2 ^ 62
    → IsJudged s moment end judged.origin judged.state
is_judged {A = A} f core s now moment end verdict told judged o are is on same ensured none time low =
    let it = somebody_judged s end told judged is on in
    let g : List ℕ → model.Reply = λ (remark : List ℕ). plain_reply 1 remark in
    let clock = are.numbers.now in
    let before = are.state.time in
    record {
      first = it.0;
      on = it.1;
      number = it.2;
      state_is = ap (λ (n : ℕ). told_state (transaction_state s.log.records n)) (sym it.2) ∙ it.3;
      taken = refusal_is s end it.0 it.1
          ∙ ap (λ (state : OriginState). option_map g (disagreement_of end.verdict state)) it.3
          ∙ ap (λ (n : ℕ). option_map g (disagreement_of n judged.state)) (sym same)
          ∙ ap (option_map g) (sym ensured)
          ∙ ap (λ (x : Option A). option_map g (option_map f x)) (not_some o none);
      later = omega (arith, time, clock);
      time = omega (arith, time, clock, before, low);
    }
