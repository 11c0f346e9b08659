-- A family of half messages is removed as one: what the saved base counts has no renewal behind it.
use Rattle.std.proofs.Common.{◌≡◌, ◌⊎◌, inl, inr, refl, ap, sym, ◌∙◌, subst, arith, ℕ, ◌+◌, ◌-◌, ◌<◌, List, [], ◌∷◌, slice_get, true, false, Some}
use Rattle.std.proofs.lemmas.Bool.{cases_lt, and_parts}
use Rattle.std.specs.Prelude.{◌&&◌, ◌==◌, is_none}
use Rattle.record_codec.specs.Entry.{Entry}
use Rattle.log_model.specs.Bases.{Base}
use Rattle.log_model.specs.Kinds.{is_half, origin_text}
use Rattle.log_model.specs.Numbered.{Log, count_of}
use Rattle.log_model.specs.Transactions.{is_origin, is_renewal, settles}
use Rattle.broker_model.specs.State.{State, Saved}
use Rattle.broker_model.specs.Events
use Rattle.broker_model.specs.Appended.{made_by, is_refused}
use Rattle.broker_model.specs.Removal.{IsRemovable}
use Rattle.broker_model.specs.Run.{Boot, Move, Steps, SavesOffsets, SavesTopics, SavesBase, Crashes, Goes, RunWith, IsAmong, IsOfBoot, IsOpening, with_saved}
use Rattle.broker_model.specs.Acknowledged.{StandsAt, StandsOrRemoved}
use Rattle.core_laws.specs.Sound.{IsSound, Grows, Keeps}
use Rattle.core_laws.specs.Kept.{IsKept, IsKeptBoot}
use Rattle.core_laws.specs.LogSteps.{LogStep}
use Rattle.core_laws.specs.Removed.{IsSettledBehind}
use Rattle.core_laws.proofs.Counts.{any_at}
use Rattle.core_laws.proofs.Growth.{grows_keeps, grows_at}
use Rattle.core_laws.proofs.KeptRuns.{goes_kept, step_log, step_saved}
use Rattle.core_laws.proofs.Lists.{get_append, drop_get, within, length_take}
use Rattle.core_laws.proofs.Removed.{AllDone, Settled, goes_done, settled_gives, settled_lasts, settled_kept, given_settled, back_grows, saved_within, origin_is}
use Rattle.core_laws.proofs.Renewals.{new_renewal}
use Rattle.core_laws.proofs.Runs.{among_grows}
use Rattle.core_laws.proofs.Steps.{step_good}

-- the same record in a state with other kept files
as_saved : (s : State) (saved : Saved) (n : ℕ) (r : Entry) → StandsAt (record s { saved = saved }) n r → StandsAt s n r
as_saved s saved n r at = record { index = at.index; number = at.number; stands = at.stands }

in_count : (s : State) (n : ℕ) (r : Entry) → StandsAt s n r → n < count_of s.log
in_count s n r at = omega (arith, at.number, within s.log.records at.index r at.stands)

-- a record of a log behind a step is one from before, or is made by it
log_new : (s t : State) (e : Events.Event) (m : ℕ) (r : Entry) → IsSound s → LogStep s e t → StandsAt t m r
    → (m < count_of s.log) ⊎ ((is_refused s e ≡ false) × (k : ℕ) × (slice_get (made_by s e) k ≡ Some r))
log_new s t e m r sound (inl same) at = inl (omega (arith, in_count t m r at, ap count_of same))
log_new s t e m r sound (inr (inl grows)) at = elim (get_append s.log.records (made_by s e) at.index r (subst (λ (l : Log). slice_get l.records at.index ≡ Some r) grows.log at.stands)) [
  | inl old ↦ inl (omega (arith, within s.log.records at.index r old, at.number, ap (λ (l : Log). l.base.records) grows.log))
  | inr later ↦ inr (grows.fine, later.0, later.2)
]
log_new s t e m r sound (inr (inr cut)) at =
    let there = drop_get (s.saved.base.records - s.log.base.records) at.index s.log.records r (subst (λ (l : Log). slice_get l.records at.index ≡ Some r) cut.log at.stands) in
    inl (omega (arith, within s.log.records ((s.saved.base.records - s.log.base.records) + at.index) r there, at.number, ap (λ (l : Log). l.base.records) cut.log, sound.saved.records))

-- no renewal is made of an origin that is settled
not_new : (s : State) (e : Events.Event) (h n m k : ℕ) (o r : Entry) → IsKept s.log → StandsAt s n o → is_origin h o ≡ true → IsSettledBehind s h n
    → is_refused s e ≡ false → slice_get (made_by s e) k ≡ Some r → is_renewal h r ≡ true → ⊥
not_new s e h n m k o r kept at is d fine got renewal =
    let a = any_at (settles s.log.records h) s.log.records d.stands.index d.r d.stands.stands d.settled in
    let b = new_renewal s e h k r kept fine (origin_is s.log h at.index o kept at.stands is).small got renewal in
    let e : true ≡ false = sym a ∙ b in cc

-- ---- behind each state of a boot

-- no renewal stands behind a state of the boot by which its origin was settled
abbrev pub NoneAfter : Boot → Type 0
NoneAfter b = (p : State) → IsOfBoot b p → (n m h : ℕ) (o r : Entry) → StandsAt p n o → StandsAt b.now n o → is_origin h o ≡ true → IsSettledBehind p h n
    → StandsAt b.now m r → is_renewal h r ≡ true → m < count_of p.log

step_after : (b c : Boot) (e : Events.Event) (p : State) (n m h : ℕ) (o r : Entry) → IsKeptBoot b → Grows b.now c.now → LogStep b.now e c.now → NoneAfter b → IsOfBoot b p
    → StandsAt p n o → StandsAt c.now n o → is_origin h o ≡ true → IsSettledBehind p h n → StandsAt c.now m r → is_renewal h r ≡ true → m < count_of p.log
step_after b c e p n m h o r kept grows step none of at later is d r_at renewal =
    let keeps = grows_keeps grows in
    let past = among_grows b p kept.sound of in
    let here : StandsAt b.now n o = still (grows_at p b.now past n o (inr at)) keeps in
    elim (log_new b.now c.now e m r kept.sound.state step r_at) [
      | inl old ↦ none p of n m h o r at here is d (back_grows b.now c.now grows m r old r_at) renewal
      | inr new ↦ absurd (not_new b.now e h n m new.1 o r (kept.logs b.now (inl refl)) here is
          (settled_kept p b.now h n o (kept.logs p of) (grows_keeps past) (omega (arith, here.number)) at is d) new.0 new.2 renewal)
    ]
  where
    still : StandsOrRemoved b.now n o → Keeps b.now c.now → StandsAt b.now n o
    still (inl gone) keeps = absurd (omega (arith, gone, keeps.records, later.number))
    still (inr there) keeps = there

saved_after : (b : Boot) (saved : Saved) → NoneAfter b → NoneAfter (with_saved b saved)
saved_after b saved none p (inl now) n m h o r at later is d r_at renewal =
    subst (λ (x : State). m < count_of x.log) (sym now) (in_count (record b.now { saved = saved }) m r r_at)
saved_after b saved none p (inr of) n m h o r at later is d r_at renewal =
    none p of n m h o r at (as_saved b.now saved n o later) is d (as_saved b.now saved m r r_at) renewal

goes_after : (b : Boot) (move : Move) (c : Boot) → IsKeptBoot b → Goes b move c → NoneAfter b → NoneAfter c
goes_after b (Steps e said) c kept goes none = λ p of n m h o r at later is d r_at renewal. elim of [
  | inl now ↦ subst (λ (x : State). m < count_of x.log) (sym now) (in_count c.now m r r_at)
  | inr past ↦ step_after b c e p n m h o r kept (step_good b.now c.now e said goes.0 kept.sound.state).1 (step_log b.now c.now e said goes.0) none
      (among_of b p (subst (λ (l : List State). IsAmong l p) goes.1 past)) at later is d r_at renewal
]
  where
    among_of : (b : Boot) (p : State) → IsAmong (b.now ∷ b.before) p → IsOfBoot b p
    among_of b p (inl last) = inl last
    among_of b p (inr before) = inr before
goes_after b SavesOffsets c kept goes none = subst NoneAfter (sym goes.2) (saved_after b _ none)
goes_after b SavesTopics c kept goes none = subst NoneAfter (sym goes.2) (saved_after b _ none)
goes_after b (SavesBase base) c kept goes none = subst NoneAfter (sym goes.4) (saved_after b _ none)
goes_after b (Crashes k setup) c kept goes none = subst NoneAfter (sym goes.1) (λ p of n m h o r at later is d r_at renewal. elim of [
  | inl now ↦ subst (λ (x : State). m < count_of x.log) (sym now) (in_count _ m r r_at)
  | inr past ↦ absurd past
])

-- ---- what the saved base counts

abbrev pub IsWhole : Boot → Type 0
IsWhole b = (n m h : ℕ) (o r : Entry) → n < b.now.saved.base.records → StandsAt b.now n o → is_origin h o ≡ true → StandsAt b.now m r → is_renewal h r ≡ true
    → m < b.now.saved.base.records

saved_whole : (b : Boot) (saved : Saved) → saved.base ≡ b.now.saved.base → IsWhole b → IsWhole (with_saved b saved)
saved_whole b saved base whole n m h o r low at is r_at renewal =
    let records : saved.base.records ≡ b.now.saved.base.records = ap (λ (x : Base). x.records) base in
    omega (arith, records, whole n m h o r (omega (arith, low, records)) (as_saved b.now saved n o at) is (as_saved b.now saved m r r_at) renewal)

base_whole : (b : Boot) (p : State) (base : Base) → IsKeptBoot b → NoneAfter b → IsOfBoot b p → IsRemovable p base → IsWhole (with_saved b (record b.now.saved { base = base }))
base_whole b p base kept none of may n m h o r low at is r_at renewal =
    let grows = among_grows b p kept.sound of in
    let total = length_take may.count p.log.records may.cut.long in
    let here = as_saved b.now (record b.now.saved { base = base }) n o at in
    let r_here = as_saved b.now (record b.now.saved { base = base }) m r r_at in
    let o_then = back_grows p b.now grows n o (omega (arith, low, may.cut.counts.records, total, may.cut.long)) here in
    let settled = given_settled p base h n o (kept.logs p of) may low o_then is in
    let r_then = back_grows p b.now grows m r (none p of n m h o r o_then here is settled r_here renewal) r_here in
    let parts = and_parts (is_half o && is_none (origin_text o)) (o.queue_offset == h) is in
    elim (cases_lt m base.records) [
      | inl less ↦ less
      | inr more ↦ absurd (may.families o_then.index r_then.index o r (omega (arith, low, o_then.number, may.cut.counts.records, total)) o_then.stands parts.0
          (omega (arith, more, r_then.number, may.cut.counts.records, total)) r_then.stands
          (subst (λ (q : ℕ). is_renewal q r ≡ true) (sym (origin_is p.log h o_then.index o (kept.logs p of) o_then.stands is).offset) renewal))
    ]

goes_whole : (b : Boot) (move : Move) (c : Boot) → IsKeptBoot b → NoneAfter b → AllDone Settled b.now → Goes b move c → IsWhole b → IsWhole c
goes_whole b (Steps e said) c kept none done goes whole = λ n m h o r low at is r_at renewal.
    let grows = (step_good b.now c.now e said goes.0 kept.sound.state).1 in
    let records : c.now.saved.base.records ≡ b.now.saved.base.records = ap (λ (x : Saved). x.base.records) (step_saved b.now c.now e said goes.0).1 in
    let here = back_grows b.now c.now grows n o (omega (arith, low, records, saved_within b.now kept.sound.state)) at in
    elim (log_new b.now c.now e m r kept.sound.state (step_log b.now c.now e said goes.0) r_at) [
      | inl old ↦ omega (arith, records, whole n m h o r (omega (arith, low, records)) here is (back_grows b.now c.now grows m r old r_at) renewal)
      | inr new ↦ absurd (not_new b.now e h n m new.1 o r (kept.logs b.now (inl refl)) here is (done n o (omega (arith, low, records)) here h is) new.0 new.2 renewal)
    ]
goes_whole b SavesOffsets c kept none done goes whole = subst IsWhole (sym goes.2) (saved_whole b _ refl whole)
goes_whole b SavesTopics c kept none done goes whole = subst IsWhole (sym goes.2) (saved_whole b _ refl whole)
goes_whole b (SavesBase base) c kept none done goes whole = subst IsWhole (sym goes.4) (base_whole b goes.0 base kept none goes.1 goes.2)
goes_whole b (Crashes k setup) c kept none done goes whole = subst IsWhole (sym goes.1) (λ n m h o r low at is r_at renewal. absurd (omega (arith, low, at.number)))

-- ---- runs

pub run_whole : (P : Boot → Move → Boot → Type 0) (b : Boot) (moves : List Move) (c : Boot) → IsKeptBoot b → NoneAfter b → AllDone Settled b.now → RunWith P b moves c
    → IsWhole b → IsWhole c
run_whole P b [] c kept none done run whole = subst IsWhole (sym run) whole
run_whole P b (move ∷ moves) c kept none done run whole =
    run_whole P run.0 moves c (goes_kept b move run.0 kept run.1) (goes_after b move run.0 kept run.1 none)
    (goes_done (λ p. IsKept p.log) Settled b move run.0 settled_gives settled_lasts kept.sound kept.logs run.1 done) run.3
    (goes_whole b move run.0 kept none done run.1 whole)

pub opening_after : (b : Boot) → IsOpening b → NoneAfter b
opening_after b opening p (inl now) n m h o r at later is d r_at renewal = subst (λ (x : State). m < count_of x.log) (sym now) (in_count b.now m r r_at)
opening_after b opening p (inr past) n m h o r at later is d r_at renewal = absurd (subst (λ (l : List State). IsAmong l p) opening.before past)

pub opening_whole : (b : Boot) → IsOpening b → IsWhole b
opening_whole b opening n m h o r low at is r_at renewal = absurd (omega (arith, low, at.number, ap (λ (x : Base). x.records) opening.base))
