-- How many copies a run makes.
use Rattle.std.proofs.Common.{◌≡◌, ◌⊎◌, inl, inr, refl, ap, sym, ◌∙◌, subst, arith, ℕ, ◌+◌, ◌<◌, ◌≤◌, ◌^◌, List, [], ◌∷◌, ◌++◌, take, slice_get, Bool, true, false, Option, Some, None, cond, if◌then◌else◌}
use Rattle.std.specs.Prelude.{◌&&◌, ◌||◌, ◌==◌, ◌-◌, not}
use Rattle.std.specs.List.{count_by}
use Rattle.std.proofs.lemmas.Bool.{cases_Bool, and_parts, and_from, eq-eqb}
use Rattle.record_codec.specs.Entry.{Entry}
use Rattle.record_codec.specs.declared.draft.Draft.{Draft}
use Rattle.log_model.specs.Drafts.{copy_draft, op_draft}
use Rattle.log_model.specs.Kinds.{is_copy, is_discard}
use Rattle.log_model.specs.Numbered.{Log, with_appended, next_record, next_records}
use Rattle.log_model.specs.Transactions.{copies_it, copies, is_of_family, transaction_state, Open, origin_of}
use Rattle.request_fields.specs.declared.request.Request.{Request}
use Rattle.broker_model.specs.State.{State}
use Rattle.broker_model.specs.Events
use Rattle.broker_model.specs.Refusals.{verdict_origin, judged_origin, is_by_its_group}
use Rattle.broker_model.specs.Appended.{drafts_of, made_by, is_refused, moment}
use Rattle.broker_model.specs.Run.{Boot, Move, Steps, SavesOffsets, SavesTopics, SavesBase, Crashes, Goes, RunWith, Run}
use Rattle.broker_model.specs.Acknowledged.{is_verdict_on, is_request_on, is_that_origin}
use Rattle.core_laws.specs.Kept.{IsKept, IsKeptBoot}
use Rattle.core_laws.specs.Halves.{in_family, IsCommitOf, NoCommitOn}
use Rattle.core_laws.specs.LogSteps.{LogStep}
use Rattle.core_laws.proofs.Lists.{get_left}
use Rattle.core_laws.proofs.Counts.{count_append, count_cons, count_le}
use Rattle.core_laws.proofs.Families.{one_place, family_found, old_family, copies_take, copies_drop, open_no_copy, family_origin}
use Rattle.core_laws.proofs.KeptSteps.{named_there}
use Rattle.core_laws.proofs.KeptRuns.{step_log, made_kept, goes_kept}
use Rattle.core_laws.proofs.Commits.{NoCopies, Copies, event_copies}

-- ---- what is appended

-- a record that stands already was a copy before
old_copy : (log : Log) (new : List Entry) (h k : ℕ) (r : Entry) → IsKept (with_appended log new) → slice_get log.records k ≡ Some r
    → copies_it (log.records ++ new) h r ≡ true → copies_it log.records h r ≡ true
old_copy log new h k r kept at is =
    let parts = and_parts (is_copy r) (is_of_family (log.records ++ new) h r.prepared) is in
    let low : r.prepared < r.offset = (kept.each k r (get_left log.records new k r at)).prepared (first (is_copy r) (is_discard r) parts.0) in
    and_from (is_copy r) (is_of_family log.records h r.prepared) parts.0 (old_family log new h k r kept at low parts.1)
  where
    first : (a b : Bool) → a ≡ true → (a || b) ≡ true
    first true b e = refl
    first false b e = absurd (cc)

-- the longer log has those copies, and those among the new records
pub more_copies : (log : Log) (new : List Entry) (h : ℕ) → IsKept (with_appended log new)
    → copies (log.records ++ new) h ≤ copies log.records h + count_by (copies_it (log.records ++ new) h) new
more_copies log new h kept = omega (
  arith,
  count_append (copies_it (log.records ++ new) h) log.records new,
  count_le (copies_it (log.records ++ new) h) (copies_it log.records h) log.records (λ k x at is. old_copy log new h k x kept at is),
)

-- drafts that are none of a copy make none
pub none_made : (S now : ℕ) (log : Log) (drafts : List Draft) (whole : List Entry) (h : ℕ) → NoCopies drafts → count_by (copies_it whole h) (next_records S now log drafts) ≡ 0
none_made S now log [] whole h none = refl
none_made S now log (d ∷ drafts) whole h none =
    let rest = none_made S now (with_appended log (next_record S now log d ∷ [])) drafts whole h none.1 in
    let not : copies_it whole h (next_record S now log d) ≡ false = ap (λ (b : Bool). b && is_of_family whole h d.prepared) none.0 in
    omega (
      arith,
      rest,
      count_cons (copies_it whole h) (next_record S now log d) (next_records S now (with_appended log (next_record S now log d ∷ [])) drafts),
      ap {B = ℕ} (λ (b : Bool). cond b 1 0) not,
    )

bit : (b : Bool) → cond b 1 0 ≤ 1
bit true = omega arith
bit false = omega arith

-- a copy and its op record are at most one copy, and none of a family that the half isn't in
pair_made : (whole : List Entry) (h : ℕ) (copy op : Entry) → is_copy op ≡ false → count_by (copies_it whole h) (copy ∷ op ∷ []) ≡ cond (copies_it whole h copy) 1 0
pair_made whole h copy op plain =
    let not : copies_it whole h op ≡ false = ap (λ (b : Bool). b && is_of_family whole h op.prepared) plain in
    omega (arith, count_cons (copies_it whole h) copy (op ∷ []), count_cons (copies_it whole h) op [], ap {B = ℕ} (λ (b : Bool). cond b 1 0) not)

-- ---- one step

-- a Commit on the origin h, before which it has no copy and behind which at most one
pub record CopiedOnce (s t : State) (e : Events.Event) (h : ℕ) : Type 0 where
  pub half : Entry
  pub origin : Entry
  pub commit : IsCommitOf s e half origin
  pub of : origin.queue_offset ≡ h
  pub none : copies s.log.records h ≡ 0
  pub one : copies t.log.records h ≤ 1

commit_copies : (s t : State) (e : Events.Event) (h : ℕ) → h < 2 ^ 64 → IsKept s.log → IsKept (with_appended s.log (made_by s e)) → t.log ≡ with_appended s.log (made_by s e) → Copies s e
    → (copies t.log.records h ≤ copies s.log.records h) ⊎ CopiedOnce s t e h
commit_copies s t e h low before kept log c =
    let copy : Entry = next_record s.setup.segment (moment s e) s.log (copy_draft s.setup.host c.half) in
    let op : Entry = next_record s.setup.segment (moment s e) (with_appended s.log (copy ∷ [])) (op_draft s.setup.host (moment s e) c.origin.queue_offset) in
    let made : made_by s e ≡ copy ∷ op ∷ [] = ap (next_records s.setup.segment (moment s e) s.log) c.drafts_are in
    let total = more_copies s.log (made_by s e) h kept in
    let is : copies t.log.records h ≡ copies (s.log.records ++ made_by s e) h = ap (λ (l : Log). copies l.records h) log in
    let pair : count_by (copies_it (s.log.records ++ made_by s e) h) (made_by s e) ≡ cond (copies_it (s.log.records ++ made_by s e) h copy) 1 0 =
    ap (count_by (copies_it (s.log.records ++ made_by s e) h)) made ∙ pair_made (s.log.records ++ made_by s e) h copy op refl in
    elim (cases_Bool (copies_it (s.log.records ++ made_by s e) h copy)) [
      | inr not ↦ inl (omega (arith, total, is, pair, ap {B = ℕ} (λ (b : Bool). cond b 1 0) not))
      | inl counts ↦
          let there = named_there s c.commit.end c.half c.commit.named in
          let found = family_found (s.log.records ++ made_by s e) h copy.prepared (and_parts (is_copy copy) (is_of_family (s.log.records ++ made_by s e) h copy.prepared) counts).1 in
          let half_at : slice_get (s.log.records ++ made_by s e) there.0 ≡ Some c.half = get_left s.log.records (made_by s e) there.0 c.half there.1 in
          let one : found.1 ≡ c.half = one_place (with_appended s.log (made_by s e)) found.0 there.0 found.1 c.half kept found.2 half_at found.4 in
          let family : in_family h c.half ≡ true = subst (λ (y : Entry). in_family h y ≡ true) one found.3 in
          let of : c.origin.queue_offset ≡ h = family_origin s.log.records h c.half c.origin low family
          (origin_found (is_by_its_group c.commit.end c.half) (sym (ap (judged_origin s.log.records c.commit.end) c.commit.named) ∙ c.commit.judged)) in
          let none : copies s.log.records h ≡ 0 = open_no_copy s.log.records h (subst (λ (n : ℕ). transaction_state s.log.records n ≡ Open) of c.commit.was_open) in
          inr (record {
            half = c.half;
            origin = c.origin;
            commit = c.commit;
            of = of;
            none = none;
            one = omega (arith, total, is, none, pair, bit (copies_it (s.log.records ++ made_by s e) h copy));
          })
    ]
  where
    origin_found : (b : Bool) → (if b then origin_of s.log.records c.half else None) ≡ Some c.origin → origin_of s.log.records c.half ≡ Some c.origin
    origin_found true is = is
    origin_found false is = absurd (cc)

pub step_copies : (s t : State) (e : Events.Event) (h : ℕ) → h < 2 ^ 64 → 0 < s.setup.segment → IsKept s.log → LogStep s e t
    → (copies t.log.records h ≤ copies s.log.records h) ⊎ CopiedOnce s t e h
step_copies s t e h low some kept (inl same) = inl (omega (arith, ap (λ (l : Log). copies l.records h) same))
step_copies s t e h low some kept (inr (inr cut)) =
    inl (omega (arith, ap (λ (l : Log). copies l.records h) cut.log, copies_drop s.log.records (s.saved.base.records - s.log.base.records) h))
step_copies s t e h low some kept (inr (inl grows)) =
    let longer = made_kept s e some kept grows.fine in
    elim (event_copies s e kept grows.fine) [
      | inl none ↦ inl (omega (
        arith,
        ap (λ (l : Log). copies l.records h) grows.log,
        more_copies s.log (made_by s e) h longer,
        none_made s.setup.segment (moment s e) s.log (drafts_of s e) (s.log.records ++ made_by s e) h none,
      ))
      | inr commit ↦ commit_copies s t e h low kept longer grows.log commit
    ]

-- ---- runs

-- a move makes no copy, or is such a Commit
pub record IsCopying (b c : Boot) (move : Move) (h : ℕ) : Type 0 where
  pub event : Events.Event
  pub said : Option Events.Answer
  pub is : move ≡ Steps event said
  pub once : CopiedOnce b.now c.now event h

pub goes_copies : (b : Boot) (move : Move) (c : Boot) (h : ℕ) → h < 2 ^ 64 → IsKeptBoot b → Goes b move c
    → (copies c.now.log.records h ≤ copies b.now.log.records h) ⊎ IsCopying b c move h
goes_copies b (Steps e said) c h low kept goes = elim (step_copies b.now c.now e h low kept.segment (kept.logs b.now (inl refl)) (step_log b.now c.now e said goes.0)) [
  | inl less ↦ inl less
  | inr once ↦ inr (record { event = e; said = said; is = refl; once = once })
]
goes_copies b SavesOffsets c h low kept goes = inl (omega (arith, ap (λ (x : Boot). copies x.now.log.records h) goes.2))
goes_copies b SavesTopics c h low kept goes = inl (omega (arith, ap (λ (x : Boot). copies x.now.log.records h) goes.2))
goes_copies b (SavesBase base) c h low kept goes = inl (omega (arith, ap (λ (x : Boot). copies x.now.log.records h) goes.4))
goes_copies b (Crashes k setup) c h low kept goes = inl (omega (
  arith,
  ap (λ (x : Boot). copies x.now.log.records h) goes.1,
  copies_drop (take (k - b.now.log.base.records) b.now.log.records) (b.now.saved.base.records - b.now.log.base.records) h,
  copies_take b.now.log.records (k - b.now.log.base.records) h,
))

-- at most one copy, or what was there at the start
pub run_copies : (b : Boot) (moves : List Move) (c : Boot) (h most : ℕ) → h < 2 ^ 64 → 1 ≤ most → IsKeptBoot b → copies b.now.log.records h ≤ most → Run b moves c
    → copies c.now.log.records h ≤ most
run_copies b [] c h most low one kept few run = omega (arith, few, ap (λ (x : Boot). copies x.now.log.records h) run)
run_copies b (move ∷ moves) c h most low one kept few run =
    let next : copies run.0.now.log.records h ≤ most = elim (goes_copies b move run.0 h low kept run.1) [
      | inl less ↦ omega (arith, less, few)
      | inr copy ↦ omega (arith, copy.once.one, one)
    ] in
    run_copies run.0 moves c h most low one (goes_kept b move run.0 kept run.1) next run.3

-- such a Commit is a verdict on the origin
commit_is_verdict : (s : State) (e : Events.Event) (half origin : Entry) → (c : IsCommitOf s e half origin) → is_verdict_on s origin.queue_offset 8 e ≡ true
commit_is_verdict s e half origin c =
    subst (λ (x : Events.Event). is_verdict_on s origin.queue_offset 8 x ≡ true) (sym c.is)
    (and_from (is_request_on s origin.queue_offset 8 c.asked.request) (not (is_refused s (Events.Asks c.asked)))
    (subst (λ (r : Request). is_request_on s origin.queue_offset 8 r ≡ true) (sym c.request)
    (and_from (c.end.verdict == 8) (is_that_origin origin.queue_offset (verdict_origin s c.end)) (eq-eqb c.end.verdict 8 c.verdict)
    (subst (λ (o : Option Entry). is_that_origin origin.queue_offset o ≡ true) (sym c.judged) (eq-eqb origin.queue_offset origin.queue_offset refl))))
    (not_refused (is_refused s (Events.Asks c.asked)) (subst (λ (x : Events.Event). is_refused s x ≡ false) c.is c.fine)))
  where
    not_refused : (b : Bool) → b ≡ false → not b ≡ true
    not_refused true e = absurd (cc)
    not_refused false e = refl

no_commit : (b c : Boot) (move : Move) (h : ℕ) → NoCommitOn h b move c → IsCopying b c move h → ⊥
no_commit b c move h none copy =
    let not : is_verdict_on b.now h 8 copy.event ≡ false = subst (λ (m : Move). NoCommitOn h b m c) copy.is none in
    let is : is_verdict_on b.now h 8 copy.event ≡ true = subst (λ (n : ℕ). is_verdict_on b.now n 8 copy.event ≡ true) copy.once.of
    (commit_is_verdict b.now copy.event copy.once.half copy.once.origin copy.once.commit) in
    let e : true ≡ false = sym is ∙ not in cc

-- no copy without a Commit
pub run_no_copies : (b : Boot) (moves : List Move) (c : Boot) (h : ℕ) → h < 2 ^ 64 → IsKeptBoot b → copies b.now.log.records h ≡ 0 → RunWith (NoCommitOn h) b moves c
    → copies c.now.log.records h ≡ 0
run_no_copies b [] c h low kept empty run = ap (λ (x : Boot). copies x.now.log.records h) run ∙ empty
run_no_copies b (move ∷ moves) c h low kept empty run =
    let next : copies run.0.now.log.records h ≡ 0 = elim (goes_copies b move run.0 h low kept run.1) [
      | inl less ↦ omega (arith, less, empty)
      | inr copy ↦ absurd (no_commit b run.0 move h run.2 copy)
    ] in
    run_no_copies run.0 moves c h low (goes_kept b move run.0 kept run.1) next run.3
