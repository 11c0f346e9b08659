-- Behind an accepted Rollback its origin is rolled back, by the op record that the Rollback made or found.
use Rattle.std.proofs.Common.{◌≡◌, inl, inr, refl, ap, sym, ◌∙◌, subst, arith, ℕ, ◌+◌, ◌-◌, ◌<◌, ◌≤◌, ◌^◌, max, List, [], ◌∷◌, ◌++◌, length, slice_get, Bool, true, false, Some, if◌then◌else◌}
use Rattle.std.specs.Prelude.{◌&&◌, ◌||◌, ◌==◌, not, nat_le, is_none}
use Rattle.std.specs.List.{list_any}
use Rattle.std.specs.Str.{bytes_eq}
use Rattle.std.proofs.lemmas.Bool.{cases_lt, and_parts, and_from, eqb-true, leb-false}
use Rattle.mq_bytes.specs.Decimal.{digits_of}
use Rattle.record_codec.specs.Entry.{Entry}
use Rattle.log_model.specs.Admissible.{half_topic, op_topic}
use Rattle.log_model.specs.Drafts.{op_draft}
use Rattle.log_model.specs.Kinds.{is_half, is_op, origin_text}
use Rattle.log_model.specs.Numbered.{Log, count_of, with_appended, next_record, next_records}
use Rattle.log_model.specs.Transactions.{Open, Committed, RolledBack, Discarded, transaction_state, is_origin, copies_it, discards_it, names_it, settles, is_settled}
use Rattle.request_fields.specs.Requests.{EndSaid}
use Rattle.request_fields.specs.declared.request.Request.TheVariants.{EndTransaction}
use Rattle.broker_model.specs.State.{State}
use Rattle.broker_model.specs.Events
use Rattle.broker_model.specs.Refusals.{named_half}
use Rattle.broker_model.specs.Appended.{drafts_of, made_by, is_refused}
use Rattle.broker_model.specs.Answers.{end_answer, settling_number, last_number, half_waits, done_reply}
use Rattle.broker_model.specs.Step.{Step}
use Rattle.broker_model.specs.Acknowledged.{StandsAt, is_verdict_on}
use Rattle.core_laws.specs.Kept.{IsKept}
use Rattle.core_laws.proofs.Lists.{get_seam, within}
use Rattle.core_laws.proofs.Bases.{longer_queue}
use Rattle.core_laws.proofs.Counts.{any_found, any_none, count_none}
use Rattle.core_laws.proofs.Families.{open_no_copy}
use Rattle.core_laws.proofs.Texts.{text_equal}
use Rattle.core_laws.proofs.Commits.{NoCopies}
use Rattle.core_laws.proofs.Copies.{more_copies, none_made}
use Rattle.core_laws.proofs.KeptSteps.{with_none}
use Rattle.core_laws.proofs.KeptRuns.{made_kept}
use Rattle.core_laws.proofs.Verdicts.{IsVerdict, rollback_of, verdict_answer, number_high}
use Rattle.core_laws.proofs.CommitAnswers.{verdict_writes, verdict_log, after_number, replies_now, again_answer}
use Rattle.core_laws.proofs.CommitStays.{judged_stands, open_none, asks_none}
use Rattle.core_laws.proofs.Committed.{NoneGivesUp}
use Rattle.core_laws.proofs.RolledBack.{IsRolledBackAt}

-- ---- op records

-- an op record stands behind the origin that it names
op_behind : (log : Log) (h k j : ℕ) (origin op : Entry) → h < 2 ^ 64 → IsKept log → slice_get log.records k ≡ Some origin → is_origin h origin ≡ true
    → slice_get log.records j ≡ Some op → names_it h op ≡ true → k < j
op_behind log h k j origin op low kept origin_at is op_at names = elim (cases_lt k j) [
  | inl later ↦ later
  | inr before ↦ absurd (
      let parts = and_parts (is_half origin && is_none (origin_text origin)) (origin.queue_offset == h) is in
      omega (
        arith,
        eqb-true origin.queue_offset h parts.1,
        (kept.halves k origin origin_at (and_parts (is_half origin) (is_none (origin_text origin)) parts.0).0).queue_offset,
        (kept.counts j op op_at).names h low names,
        longer_queue j k log.records half_topic 0 before,
      ))
]

-- ---- the first Rollback

fresh_op : (s : State) (a : Events.Asked) (h i : ℕ) (origin : Entry) → 0 < s.setup.segment → IsKept s.log → is_refused s (Events.Asks a) ≡ false
    → slice_get s.log.records i ≡ Some origin → transaction_state s.log.records h ≡ Open
    → drafts_of s (Events.Asks a) ≡ op_draft s.setup.host (max a.now s.now) h ∷ []
    → IsRolledBackAt (with_appended s.log (made_by s (Events.Asks a))) h (s.log.base.records + i) (count_of s.log)
fresh_op s a h i origin some kept fine origin_at was_open drafts =
    let new : List Entry = made_by s (Events.Asks a) in
    let op : Entry = next_record s.setup.segment (max a.now s.now) s.log (op_draft s.setup.host (max a.now s.now) h) in
    let made : new ≡ op ∷ [] = ap (next_records s.setup.segment (max a.now s.now) s.log) drafts in
    let longer : IsKept (with_appended s.log new) = made_kept s (Events.Asks a) some kept fine in
    let no_copy = none_made s.setup.segment (max a.now s.now) s.log (drafts_of s (Events.Asks a)) (s.log.records ++ new) h
    (subst NoCopies (sym drafts) (refl, tt)) in
    record {
      op = op;
      op_at = (
        length s.log.records,
        refl,
        subst (λ (l : List Entry). slice_get (s.log.records ++ l) (length s.log.records) ≡ Some op) (sym made) (get_seam s.log.records op []),
      );
      names = and_from (is_op op) (bytes_eq op.body (digits_of h)) (text_equal op_topic op_topic refl) (text_equal (digits_of h) (digits_of h) refl);
      follows = omega (arith, within s.log.records i origin origin_at);
      none = asks_none s a h some kept fine (open_none s.log.records h was_open);
      uncopied = omega (arith, more_copies s.log new h longer, no_copy, open_no_copy s.log.records h was_open);
    }

-- ---- a Rollback that is said again

rolled_case : (settled given copied : Bool) → (if not settled then Open else (if given then Discarded else (if copied then Committed else RolledBack))) ≡ RolledBack
    → (settled ≡ true) × (given ≡ false) × (copied ≡ false)
rolled_case true false false is = (refl, refl, refl)
rolled_case true true c is = absurd (cc)
rolled_case true false true is = absurd (cc)
rolled_case false g c is = absurd (cc)

only_names : (a b c : Bool) → (a || b || c) ≡ true → b ≡ false → c ≡ false → a ≡ true
only_names true b c is none also = refl
only_names false true c is none also = absurd (cc)
only_names false false true is none also = absurd (cc)
only_names false false false is none also = absurd (cc)

-- the op record of an origin that is rolled back, and the last record that settles it, which isn't before that
pub record IsNamedAt (log : Log) (h i : ℕ) : Type 0 where
  pub n : ℕ
  pub rolled_back : IsRolledBackAt log h i n
  pub number : ℕ
  pub last : last_number (settles log.records h) log.base.records log.records ≡ Some number
  pub low : n ≤ number

named_at : (log : Log) (h i : ℕ) (origin : Entry) → h < 2 ^ 64 → IsKept log → slice_get log.records i ≡ Some origin → is_origin h origin ≡ true
    → transaction_state log.records h ≡ RolledBack → IsNamedAt log h (log.base.records + i)
named_at log h i origin small kept origin_at is state =
    let case = rolled_case (is_settled log.records h) (list_any (discards_it log.records h) log.records) (list_any (copies_it log.records h) log.records) state in
    let given : NoneGivesUp log.records h = any_none (discards_it log.records h) log.records case.1 in
    let found = any_found (settles log.records h) log.records case.0 in
    let names = only_names (names_it h found.1) (copies_it log.records h found.1) (discards_it log.records h found.1) found.3
    (any_none (copies_it log.records h) log.records case.2 found.0 found.1 found.2) (given found.0 found.1 found.2) in
    let high = number_high (settles log.records h) log.base.records log.records found.0 found.1 found.2 found.3 in
    record {
      n = log.base.records + found.0;
      rolled_back = record {
        op = found.1;
        op_at = (found.0, refl, found.2);
        names = names;
        follows = omega (arith, op_behind log h i found.0 origin found.1 small kept origin_at is found.2 names);
        none = given;
        uncopied = count_none (copies_it log.records h) log.records (any_none (copies_it log.records h) log.records case.2);
      };
      number = high.0;
      last = high.1;
      low = high.2;
    }

-- ---- both

-- the origin stood before the Rollback, and is rolled back behind it
pub record IsKeptRollback (s t : State) (h n : ℕ) : Type 0 where
  pub i : ℕ
  pub origin : Entry
  pub stands : StandsAt s i origin
  pub is_origin : is_origin h origin ≡ true
  pub low : h < 2 ^ 64
  pub rolled_back : IsRolledBackAt t.log h i n

-- What an accepted Rollback is answered: it waits for a record that isn't before the op record, or needn't, and where its half message
-- waits that record is on the disk then.
pub record IsRollbackSaid (s t : State) (answer : Events.Answer) (end : EndSaid) (h : ℕ) : Type 0 where
  pub n : ℕ
  pub kept : IsKeptRollback s t h n
  pub waits : Bool
  pub number : ℕ
  pub low : n ≤ number
  pub says : answer ≡ (if s.setup.sync && waits then Events.After done_reply number s.turns else Events.Replies done_reply)
  pub flushed : half_waits (named_half s end) ≡ true → waits ≡ false → number < s.flushed

module _ (s t : State) (e : Events.Event) (answer : Events.Answer) (h : ℕ) (some : 0 < s.setup.segment) (kept : IsKept s.log) (v : IsVerdict s e h 12 RolledBack)
    (step : Step s (Events.Asks v.asked) (Some answer) t) (fine : is_refused s (Events.Asks v.asked) ≡ false) where
  stands : (i : ℕ) × (slice_get s.log.records i ≡ Some v.origin) × (is_origin v.origin.queue_offset v.origin ≡ true)
  stands = judged_stands s v.end v.half v.origin v.named v.judged

  is_it : is_origin h v.origin ≡ true
  is_it = subst (λ (m : ℕ). is_origin m v.origin ≡ true) v.of stands.2

  small : h < 2 ^ 64
  small =
      let parts = and_parts (is_half v.origin && is_none (origin_text v.origin)) (v.origin.queue_offset == h) is_it in
      omega (arith, v.of, (kept.each stands.0 v.origin stands.1).low (and_parts (is_half v.origin) (is_none (origin_text v.origin)) parts.0).0)

  log : t.log ≡ with_appended s.log (made_by s (Events.Asks v.asked))
  log = verdict_log s t v.asked answer fine step

  kept_by : (n : ℕ) → IsRolledBackAt t.log h (s.log.base.records + stands.0) n → IsKeptRollback s t h n
  kept_by n rolled_back = record {
    i = s.log.base.records + stands.0;
    origin = v.origin;
    stands = record { index = stands.0; number = refl; stands = stands.1 };
    is_origin = is_it;
    low = small;
    rolled_back = rolled_back;
  }

  first_said : transaction_state s.log.records v.origin.queue_offset ≡ Open → IsRollbackSaid s t answer v.end h
  first_said was_open =
      let drafts : drafts_of s (Events.Asks v.asked) ≡ op_draft s.setup.host (max v.asked.now s.now) v.origin.queue_offset ∷ [] =
      verdict_writes s v.asked v.end v.half v.origin 12 Open v.request v.says v.named v.judged was_open in
      let made = ap (next_records s.setup.segment (max v.asked.now s.now) s.log) drafts in
      record {
        n = count_of s.log;
        kept = kept_by (count_of s.log) (subst (λ (l : Log). IsRolledBackAt l h (s.log.base.records + stands.0) (count_of s.log)) (sym log)
            (fresh_op s v.asked h stands.0 v.origin some kept fine stands.1 (subst (λ (m : ℕ). transaction_state s.log.records m ≡ Open) v.of was_open)
            (drafts ∙ ap (λ (m : ℕ). op_draft s.setup.host (max v.asked.now s.now) m ∷ []) v.of)));
        waits = half_waits (named_half s v.end);
        number = count_of s.log + 1 - 1;
        low = omega arith;
        says = step.1 ∙ (verdict_answer s v.asked v.end v.request fine ∙ ap (end_answer s v.end) made);
        flushed = λ waits not. absurd (let e : true ≡ false = sym waits ∙ not in cc);
      }

  again_said : transaction_state s.log.records v.origin.queue_offset ≡ RolledBack → IsRollbackSaid s t answer v.end h
  again_said done =
      let c = named_at s.log h stands.0 v.origin small kept stands.1 is_it (subst (λ (m : ℕ). transaction_state s.log.records m ≡ RolledBack) v.of done) in
      let made : made_by s (Events.Asks v.asked) ≡ [] = ap (next_records s.setup.segment (max v.asked.now s.now) s.log)
      (verdict_writes s v.asked v.end v.half v.origin 12 RolledBack v.request v.says v.named v.judged done) in
      let same : t.log ≡ s.log = log ∙ (ap (with_appended s.log) made ∙ sym (with_none s.log)) in
      let last : settling_number s (Some v.origin) ≡ Some c.number =
      subst (λ (m : ℕ). last_number (settles s.log.records m) s.log.base.records s.log.records ≡ Some c.number) (sym v.of) c.last in
      record {
        n = c.n;
        kept = kept_by c.n (subst (λ (l : Log). IsRolledBackAt l h (s.log.base.records + stands.0) c.n) (sym same) c.rolled_back);
        waits = nat_le s.flushed c.number;
        number = c.number;
        low = c.low;
        says = step.1 ∙ (verdict_answer s v.asked v.end v.request fine ∙ (ap (end_answer s v.end) made ∙ again_answer s v.end v.origin 12 c.number v.says refl v.judged last));
        flushed = λ waits not. leb-false s.flushed c.number not;
      }

  rollback_said : IsRollbackSaid s t answer v.end h
  rollback_said = elim v.state [ inl was_open ↦ first_said was_open | inr done ↦ again_said done ]

-- an accepted Rollback that waits for a record
pub rollback_after : (s t : State) (e : Events.Event) (h : ℕ) (reply : Events.Reply) (number turn : ℕ) → 0 < s.setup.segment → IsKept s.log → is_verdict_on s h 12 e ≡ true
    → Step s e (Some (Events.After reply number turn)) t → (n : ℕ) × IsKeptRollback s t h n × (n ≤ number)
rollback_after s t e h reply number turn some kept is step =
    let v = rollback_of s e h is in
    let said = rollback_said s t e (Events.After reply number turn) h some kept v
    (subst (λ (x : Events.Event). Step s x (Some (Events.After reply number turn)) t) v.is step) (subst (λ (x : Events.Event). is_refused s x ≡ false) v.is v.fine) in
    let same = after_number (s.setup.sync && said.waits) reply number turn said.number s.turns said.says in
    (said.n, said.kept, omega (arith, said.low, same))

-- one that is answered at once in sync mode, for a message that waits, was said before, and its op record is on the disk
pub rollback_at_once : (s t : State) (a : Events.Asked) (end : EndSaid) (h : ℕ) (reply : Events.Reply) → 0 < s.setup.segment → IsKept s.log → a.request ≡ EndTransaction end
    → is_verdict_on s h 12 (Events.Asks a) ≡ true → s.setup.sync ≡ true → half_waits (named_half s end) ≡ true → Step s (Events.Asks a) (Some (Events.Replies reply)) t
    → (n : ℕ) × IsKeptRollback s t h n × (n < s.flushed)
rollback_at_once s t a end h reply some kept request is sync waits step =
    let v = rollback_of s (Events.Asks a) h is in
    let same : v.asked ≡ a = let e = v.is in cc in
    let one : v.end ≡ end = same_end v.end end (sym v.request ∙ (ap (λ (x : Events.Asked). x.request) same ∙ request)) in
    let said = rollback_said s t (Events.Asks a) (Events.Replies reply) h some kept v
    (subst (λ (x : Events.Asked). Step s (Events.Asks x) (Some (Events.Replies reply)) t) (sym same) step) (subst (λ (x : Events.Event). is_refused s x ≡ false) v.is v.fine) in
    let flushed = said.flushed (subst (λ (x : EndSaid). half_waits (named_half s x) ≡ true) (sym one) waits)
    (replies_now s.setup.sync said.waits reply said.number s.turns sync said.says) in
    (said.n, said.kept, omega (arith, said.low, flushed))
  where
    same_end : (x y : EndSaid) → EndTransaction x ≡ EndTransaction y → x ≡ y
    same_end x y e = cc
