-- The copy of a Commit that is answered.
use Rattle.std.proofs.Common.{◌≡◌, inl, inr, refl, ap, sym, ◌∙◌, subst, arith, ℕ, ◌+◌, ◌-◌, ◌<◌, ◌≤◌, max, List, [], ◌∷◌, ◌++◌, length, slice_get, Bool, true, false, Option, Some, if◌then◌else◌}
use Rattle.std.specs.Prelude.{◌&&◌, ◌==◌, not, nat_le}
use Rattle.std.specs.List.{list_any}
use Rattle.std.proofs.lemmas.Bool.{and_from, eq-eqb, cond-false, leb-false}
use Rattle.std.proofs.lemmas.List.{append-nil}
use Rattle.record_codec.specs.Entry.{Entry}
use Rattle.log_model.specs.Drafts.{copy_draft, op_draft}
use Rattle.log_model.specs.Kinds.{is_copy}
use Rattle.log_model.specs.Numbered.{Log, count_of, with_appended, next_record, next_records}
use Rattle.log_model.specs.Transactions.{TransactionState, Open, Committed, RolledBack, Discarded, transaction_state, settles, is_settled, copies_it, discards_it, is_of_family}
use Rattle.request_fields.specs.Requests.{EndSaid}
use Rattle.request_fields.specs.declared.request.Request.{Request}
use Rattle.request_fields.specs.declared.request.Request.TheVariants.{EndTransaction}
use Rattle.broker_model.specs.State.{State}
use Rattle.broker_model.specs.Sends.{waits}
use Rattle.broker_model.specs.Events
use Rattle.broker_model.specs.Refusals.{named_half, verdict_origin}
use Rattle.broker_model.specs.Appended.{drafts_of, request_drafts, verdict_drafts, first_verdict, open_verdict, appended, made_by, is_refused}
use Rattle.broker_model.specs.Answers.{end_answer, repeated_answer, settling_number, half_waits, done_reply}
use Rattle.broker_model.specs.Step.{Step}
use Rattle.broker_model.specs.Acknowledged.{is_verdict_on}
use Rattle.broker_model.proofs.StepLemmas.{log_grows}
use Rattle.core_laws.specs.Kept.{IsKept}
use Rattle.core_laws.specs.Halves.{in_family, IsCopyAt}
use Rattle.core_laws.proofs.Lists.{get_left, get_seam}
use Rattle.core_laws.proofs.Counts.{any_found}
use Rattle.core_laws.proofs.Families.{family_at, copy_settles}
use Rattle.core_laws.proofs.KeptSteps.{named_there}
use Rattle.core_laws.proofs.Commits.{commit_family}
use Rattle.core_laws.proofs.Verdicts.{IsVerdict, commit_of, verdict_answer, number_high, copy_bits}

-- ---- what a verdict writes

pub verdict_writes : (s : State) (a : Events.Asked) (end : EndSaid) (half origin : Entry) (verdict : ℕ) (state : TransactionState) → a.request ≡ EndTransaction end → end.verdict ≡ verdict
    → named_half s end ≡ Some half → verdict_origin s end ≡ Some origin → transaction_state s.log.records origin.queue_offset ≡ state
    → drafts_of s (Events.Asks a) ≡ first_verdict state (open_verdict s (max a.now s.now) verdict half origin)
unfolding drafts_of
verdict_writes s a end half origin verdict state is says named judged become =
    ap (λ (r : Request). request_drafts s (max a.now s.now) a.host r) is
    ∙ (ap (λ (o : Option Entry). verdict_drafts s (max a.now s.now) end.verdict o (verdict_origin s end)) named
    ∙ (ap (λ (o : Option Entry). verdict_drafts s (max a.now s.now) end.verdict (Some half) o) judged
    ∙ (ap (λ (x : TransactionState). first_verdict x (open_verdict s (max a.now s.now) end.verdict half origin)) become
    ∙ ap (λ (n : ℕ). first_verdict state (open_verdict s (max a.now s.now) n half origin)) says)))

-- the log behind it
pub verdict_log : (s t : State) (a : Events.Asked) (answer : Events.Answer) → is_refused s (Events.Asks a) ≡ false → Step s (Events.Asks a) (Some answer) t
    → t.log ≡ with_appended s.log (made_by s (Events.Asks a))
unfolding appended
verdict_log s t a answer fine step =
    ap (λ (x : State). x.log) step.2 ∙ (log_grows s (Events.Asks a) (λ no. no)
    ∙ ap (λ (rs : List Entry). with_appended s.log rs) (cond-false (is_refused s (Events.Asks a)) [] (made_by s (Events.Asks a)) fine))

-- ---- the answers

pub after_number : (b : Bool) (reply : Events.Reply) (number turn k t : ℕ) → Events.After reply number turn ≡ (if b then Events.After done_reply k t else Events.Replies done_reply) → number ≡ k
after_number true reply number turn k t is = cc
after_number false reply number turn k t is = absurd (cc)

pub replies_now : (a b : Bool) (reply : Events.Reply) (k t : ℕ) → a ≡ true → Events.Replies reply ≡ (if a && b then Events.After done_reply k t else Events.Replies done_reply) → b ≡ false
replies_now true true reply k t on is = absurd (cc)
replies_now true false reply k t on is = refl
replies_now false b reply k t on is = absurd (cc)

-- ---- the first Commit

fresh_copy : (s t : State) (a : Events.Asked) (end : EndSaid) (half origin : Entry) (h : ℕ) → IsKept s.log → named_half s end ≡ Some half → verdict_origin s end ≡ Some origin
    → origin.queue_offset ≡ h → drafts_of s (Events.Asks a) ≡ copy_draft s.setup.host half ∷ op_draft s.setup.host (max a.now s.now) origin.queue_offset ∷ []
    → t.log ≡ with_appended s.log (made_by s (Events.Asks a))
    → IsCopyAt t h (count_of s.log) (next_record s.setup.segment (max a.now s.now) s.log (copy_draft s.setup.host half))
fresh_copy s t a end half origin h kept named judged of drafts log =
    let copy : Entry = next_record s.setup.segment (max a.now s.now) s.log (copy_draft s.setup.host half) in
    let made : made_by s (Events.Asks a) ≡ next_records s.setup.segment (max a.now s.now) s.log (copy_draft s.setup.host half ∷ op_draft s.setup.host (max a.now s.now) origin.queue_offset ∷ []) =
    ap (next_records s.setup.segment (max a.now s.now) s.log) drafts in
    let there = named_there s end half named in
    let family : in_family h half ≡ true = subst (λ (n : ℕ). in_family n half ≡ true) of (commit_family s end half origin kept named judged) in
    let records : t.log.records ≡ s.log.records ++ made_by s (Events.Asks a) = ap (λ (l : Log). l.records) log in
    record {
      stands = record {
        index = length s.log.records;
        number = ap (λ (l : Log). l.base.records + length s.log.records) (sym log);
        stands = subst (λ (l : List Entry). slice_get l (length s.log.records) ≡ Some copy) (sym records)
            (subst (λ (l : List Entry). slice_get (s.log.records ++ l) (length s.log.records) ≡ Some copy) (sym made) (get_seam s.log.records copy _));
      };
      copies = and_from (is_copy copy) (is_of_family t.log.records h copy.prepared) (eq-eqb _ 8 (copy_bits half.sysflag))
          (family_at t.log.records h copy.prepared there.0 half
          (subst (λ (l : List Entry). slice_get l there.0 ≡ Some half) (sym records) (get_left s.log.records (made_by s (Events.Asks a)) there.0 half there.1)) family refl);
    }

-- ---- a Commit that is said again

copied_case : (settled given copied : Bool) → (if not settled then Open else (if given then Discarded else (if copied then Committed else RolledBack))) ≡ Committed → copied ≡ true
copied_case true false true is = refl
copied_case true true c is = absurd (cc)
copied_case true false false is = absurd (cc)
copied_case false g c is = absurd (cc)

-- one of the copies of a committed origin, and the last record that settles it, which isn't before that copy
pub record IsAgreed (s : State) (h : ℕ) (origin : Entry) : Type 0 where
  pub index : ℕ
  pub copy : Entry
  pub stands : slice_get s.log.records index ≡ Some copy
  pub copies : copies_it s.log.records h copy ≡ true
  pub number : ℕ
  pub last : settling_number s (Some origin) ≡ Some number
  pub low : s.log.base.records + index ≤ number

agreed : (s : State) (h : ℕ) (origin : Entry) → origin.queue_offset ≡ h → transaction_state s.log.records origin.queue_offset ≡ Committed → IsAgreed s h origin
agreed s h origin of is =
    let some = copied_case (is_settled s.log.records origin.queue_offset) (list_any (discards_it s.log.records origin.queue_offset) s.log.records)
    (list_any (copies_it s.log.records origin.queue_offset) s.log.records) is in
    let found = any_found (copies_it s.log.records origin.queue_offset) s.log.records some in
    let high = number_high (settles s.log.records origin.queue_offset) s.log.base.records s.log.records found.0 found.1 found.2
    (copy_settles s.log.records origin.queue_offset found.1 found.3) in
    record {
      index = found.0;
      copy = found.1;
      stands = found.2;
      copies = subst (λ (n : ℕ). copies_it s.log.records n found.1 ≡ true) of found.3;
      number = high.0;
      last = high.1;
      low = high.2;
    }

-- it says the number of that record
pub again_answer : (s : State) (end : EndSaid) (origin : Entry) (verdict number : ℕ) → end.verdict ≡ verdict → (verdict == 0) ≡ false → verdict_origin s end ≡ Some origin → settling_number s (Some origin) ≡ Some number
    → end_answer s end [] ≡ (if s.setup.sync && nat_le s.flushed number then Events.After done_reply number s.turns else Events.Replies done_reply)
again_answer s end origin verdict number says some judged last =
    ap (λ (n : ℕ). if n == 0 then Events.Replies done_reply else repeated_answer s (settling_number s (verdict_origin s end))) says
    ∙ (ap (λ (b : Bool). if b then Events.Replies done_reply else repeated_answer s (settling_number s (verdict_origin s end))) some
    ∙ (ap (λ (o : Option Entry). repeated_answer s (settling_number s o)) judged ∙ ap (repeated_answer s) last))

again_copy : (s t : State) (h : ℕ) (origin : Entry) → (c : IsAgreed s h origin) → t.log ≡ with_appended s.log [] → IsCopyAt t h (s.log.base.records + c.index) c.copy
again_copy s t h origin c log =
    let records : t.log.records ≡ s.log.records = ap (λ (l : Log). l.records) log ∙ append-nil s.log.records in
    record {
      stands = record {
        index = c.index;
        number = ap (λ (l : Log). l.base.records + c.index) (sym log);
        stands = subst (λ (l : List Entry). slice_get l c.index ≡ Some c.copy) (sym records) c.stands;
      };
      copies = subst (λ (l : List Entry). copies_it l h c.copy ≡ true) (sym records) c.copies;
    }

-- ---- both

-- the copy of an accepted Commit that waits for a record has no higher number
pub step_after : (s t : State) (e : Events.Event) (h : ℕ) (reply : Events.Reply) (number turn : ℕ) → IsKept s.log → is_verdict_on s h 8 e ≡ true
    → Step s e (Some (Events.After reply number turn)) t → (n : ℕ) × (copy : Entry) × (n ≤ number) × IsCopyAt t h n copy
step_after s t e h reply number turn kept is step =
    let v = commit_of s e h is in
    asked_after v (subst (λ (x : Events.Event). Step s x (Some (Events.After reply number turn)) t) v.is step) (subst (λ (x : Events.Event). is_refused s x ≡ false) v.is v.fine)
  where
    asked_after : (v : IsVerdict s e h 8 Committed) → Step s (Events.Asks v.asked) (Some (Events.After reply number turn)) t → is_refused s (Events.Asks v.asked) ≡ false
        → (n : ℕ) × (copy : Entry) × (n ≤ number) × IsCopyAt t h n copy
    asked_after v taken fine =
        let says = taken.1 ∙ verdict_answer s v.asked v.end v.request fine in
        let log = verdict_log s t v.asked (Events.After reply number turn) fine taken in
        elim v.state [
          | inl was_open ↦
              let drafts = verdict_writes s v.asked v.end v.half v.origin 8 Open v.request v.says v.named v.judged was_open in
              let made : made_by s (Events.Asks v.asked) ≡ next_records s.setup.segment (max v.asked.now s.now) s.log (copy_draft s.setup.host v.half ∷ op_draft s.setup.host (max v.asked.now s.now) v.origin.queue_offset ∷ []) =
              ap (next_records s.setup.segment (max v.asked.now s.now) s.log) drafts in
              let said = says ∙ ap (end_answer s v.end) made in
              let number_is = after_number (s.setup.sync && half_waits (named_half s v.end)) reply number turn (count_of s.log + 2 - 1) s.turns said in (
                count_of s.log,
                next_record s.setup.segment (max v.asked.now s.now) s.log (copy_draft s.setup.host v.half),
                omega (arith, number_is),
                fresh_copy s t v.asked v.end v.half v.origin h kept v.named v.judged v.of drafts log,
              )
          | inr done ↦
              let c = agreed s h v.origin v.of done in
              let drafts = verdict_writes s v.asked v.end v.half v.origin 8 Committed v.request v.says v.named v.judged done in
              let made : made_by s (Events.Asks v.asked) ≡ [] = ap (next_records s.setup.segment (max v.asked.now s.now) s.log) drafts in
              let said = says ∙ (ap (end_answer s v.end) made ∙ again_answer s v.end v.origin 8 c.number v.says refl v.judged c.last) in
              let number_is = after_number (s.setup.sync && nat_le s.flushed c.number) reply number turn c.number s.turns said in (
                s.log.base.records + c.index,
                c.copy,
                omega (arith, number_is, c.low),
                again_copy s t h v.origin c (log ∙ ap (λ (rs : List Entry). with_appended s.log rs) made),
              )
        ]

-- one that is answered at once in sync mode, for a message that waits, was said before, and its copy is on the disk
pub step_at_once : (s t : State) (a : Events.Asked) (end : EndSaid) (h : ℕ) (reply : Events.Reply) → IsKept s.log → a.request ≡ EndTransaction end
    → is_verdict_on s h 8 (Events.Asks a) ≡ true → s.setup.sync ≡ true → half_waits (named_half s end) ≡ true → Step s (Events.Asks a) (Some (Events.Replies reply)) t
    → (n : ℕ) × (copy : Entry) × (n < s.flushed) × IsCopyAt t h n copy
step_at_once s t a end h reply kept request is sync waits step =
    let v = commit_of s (Events.Asks a) h is in
    let same : v.asked ≡ a = let e = v.is in cc in
    let one : v.end ≡ end = same_end v.end end (sym v.request ∙ (ap (λ (x : Events.Asked). x.request) same ∙ request)) in
    once v (subst (λ (x : Events.Asked). Step s (Events.Asks x) (Some (Events.Replies reply)) t) (sym same) step) (subst (λ (x : Events.Event). is_refused s x ≡ false) v.is v.fine)
    (subst (λ (x : EndSaid). half_waits (named_half s x) ≡ true) (sym one) waits)
  where
    same_end : (x y : EndSaid) → EndTransaction x ≡ EndTransaction y → x ≡ y
    same_end x y e = cc

    once : (v : IsVerdict s (Events.Asks a) h 8 Committed) → Step s (Events.Asks v.asked) (Some (Events.Replies reply)) t → is_refused s (Events.Asks v.asked) ≡ false
        → half_waits (named_half s v.end) ≡ true → (n : ℕ) × (copy : Entry) × (n < s.flushed) × IsCopyAt t h n copy
    once v taken fine waits =
        let says = taken.1 ∙ verdict_answer s v.asked v.end v.request fine in
        let log = verdict_log s t v.asked (Events.Replies reply) fine taken in
        elim v.state [
          | inl was_open ↦
              let drafts = verdict_writes s v.asked v.end v.half v.origin 8 Open v.request v.says v.named v.judged was_open in
              let made : made_by s (Events.Asks v.asked) ≡ next_records s.setup.segment (max v.asked.now s.now) s.log (copy_draft s.setup.host v.half ∷ op_draft s.setup.host (max v.asked.now s.now) v.origin.queue_offset ∷ []) =
              ap (next_records s.setup.segment (max v.asked.now s.now) s.log) drafts in
              let said = says ∙ ap (end_answer s v.end) made in
              let late = replies_now s.setup.sync (half_waits (named_half s v.end)) reply (count_of s.log + 2 - 1) s.turns sync said in
              absurd (let e : true ≡ false = sym waits ∙ late in cc)
          | inr done ↦
              let c = agreed s h v.origin v.of done in
              let drafts = verdict_writes s v.asked v.end v.half v.origin 8 Committed v.request v.says v.named v.judged done in
              let made : made_by s (Events.Asks v.asked) ≡ [] = ap (next_records s.setup.segment (max v.asked.now s.now) s.log) drafts in
              let said = says ∙ (ap (end_answer s v.end) made ∙ again_answer s v.end v.origin 8 c.number v.says refl v.judged c.last) in
              let low = leb-false s.flushed c.number (replies_now s.setup.sync (nat_le s.flushed c.number) reply c.number s.turns sync said) in (
                s.log.base.records + c.index,
                c.copy,
                omega (arith, low, c.low),
                again_copy s t h v.origin c (log ∙ ap (λ (rs : List Entry). with_appended s.log rs) made),
              )
        ]
