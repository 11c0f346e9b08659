-- Savings, crashes and whole runs keep states sound, and keep what was on the disk.
use Rattle.std.proofs.Common.{◌≡◌, inl, inr, refl, ap, sym, ◌∙◌, subst, arith, ℕ, ◌+◌, ◌-◌, ◌≤◌, List, [], ◌∷◌, ◌++◌, length, take, Option, None, length-append}
use Rattle.std.proofs.lemmas.List.{length-drop, append-nil}
use Rattle.std.proofs.lemmas.Bool.{cases_lt}
use Rattle.record_codec.specs.Entry.{Entry}
use Rattle.log_model.specs.Bases.{Base}
use Rattle.log_model.specs.Numbered.{count_of}
use Rattle.broker_model.specs.State.{State, Setup, Saved, Out}
use Rattle.broker_model.specs.Lawful.{IfOut}
use Rattle.broker_model.specs.Removal.{IsBaseAfter, IsRemovable}
use Rattle.broker_model.specs.Run.{Boot, Move, Steps, SavesOffsets, SavesTopics, SavesBase, Crashes, Goes, RunWith, IsAmong, IsOfBoot, crashed, CanCrash, kept_log, with_saved, IsCrash, IsOneBoot, IsOpening}
use Rattle.core_laws.specs.Sound.{IsSound, Grows, Keeps, IsSoundBoot}
use Rattle.core_laws.proofs.Lists.{take_get, get_drop, take_left, length_take}
use Rattle.core_laws.proofs.Bases.{take_plus, base_none, base_off, base_same}
use Rattle.core_laws.proofs.Growth.{grows_same, grows_on, grows_keeps, keeps_same, keeps_on}
use Rattle.core_laws.proofs.Steps.{step_good}

-- ---- crashes and savings

pub among_grows : (b : Boot) (p : State) → IsSoundBoot b → IsOfBoot b p → Grows p b.now
among_grows b p sound (inl is) = subst (λ (x : State). Grows x b.now) (sym is) (grows_same b.now)
among_grows b p sound (inr there) = sound.earlier p there

pub crash_sound : (s : State) (k : ℕ) (setup : Setup) → CanCrash s k setup → IsSound s → IsSound (crashed s k setup)
crash_sound s k setup can sound = record {
  ahead = 0;
  saved = base_none s.saved.base;
  within = omega arith;
  dispatched = omega arith;
  flushed = omega arith;
  out = tt;
}

pub crash_count : (s : State) (k : ℕ) (setup : Setup) → CanCrash s k setup → IsSound s → count_of (kept_log s k) ≡ k
crash_count s k setup can sound =
    let long : sound.ahead ≤ length s.log.records = omega (arith, sound.within, sound.dispatched, sound.flushed) in
    let records : s.saved.base.records ≡ s.log.base.records + sound.ahead = omega (arith, sound.saved.records, length_take sound.ahead s.log.records long) in
    let total = length_take (k - s.log.base.records) s.log.records (omega (arith, can.no_more)) in
    omega (arith, records, total, length-drop (s.saved.base.records - s.log.base.records) (take (k - s.log.base.records) s.log.records), can.no_less, sound.within, sound.dispatched)

pub crash_keeps : (s : State) (k : ℕ) (setup : Setup) → CanCrash s k setup → IsSound s → Keeps s (crashed s k setup)
crash_keeps s k setup can sound =
    let long : sound.ahead ≤ length s.log.records = omega (arith, sound.within, sound.dispatched, sound.flushed) in
    let records : s.saved.base.records ≡ s.log.base.records + sound.ahead = omega (arith, sound.saved.records, length_take sound.ahead s.log.records long) in
    let count = crash_count s k setup can sound in
    record {
      records = omega (arith, records);
      flushed = omega (arith, count, can.no_less);
      dispatched = omega (arith, count, sound.dispatched, can.no_less);
      stays = λ n r less stands. elim stands [
        | inl gone ↦ inl (omega (arith, gone, records))
        | inr there ↦ elim (cases_lt n s.saved.base.records) [
          | inl removed ↦ inl removed
          | inr high' ↦ inr (record {
            index = there.index - (s.saved.base.records - s.log.base.records);
            number = omega (arith, there.number, records, high');
            stands =
                get_drop (s.saved.base.records - s.log.base.records) there.index (take (k - s.log.base.records) s.log.records) r (omega (arith, there.number, high'))
                (take_get (k - s.log.base.records) there.index s.log.records r (omega (arith, there.number, less, can.no_less)) there.stands);
          })
        ]
      ];
    }

-- a base that a state of the boot gave is right for this one
save_counts : (p s : State) (base : Base) → IsSound s → Grows p s → (may : IsRemovable p base) → s.saved.base.records ≤ base.records
    → (ahead : ℕ) × IsBaseAfter s.log.base (take ahead s.log.records) base × (s.log.base.records + ahead ≤ s.dispatched)
save_counts p s base sound grows may low =
    let total : length (take grows.gone (p.log.records ++ grows.more)) ≡ grows.gone = length_take grows.gone (p.log.records ++ grows.more) (omega (arith, grows.low, length-append p.log.records grows.more)) in
    let records : s.log.base.records ≡ p.log.base.records + grows.gone = omega (arith, grows.base.records, total) in
    let number : base.records ≡ p.log.base.records + may.count = omega (arith, may.cut.counts.records, length_take may.count p.log.records may.cut.long) in
    let behind : grows.gone ≤ may.count = omega (arith, records, number, low, sound.saved.records) in
    let rest : grows.gone + (may.count - grows.gone) ≡ may.count = omega (arith, behind) in
    let split : take may.count p.log.records ≡ take grows.gone (p.log.records ++ grows.more) ++ take (may.count - grows.gone) s.log.records =
    sym (take_left may.count p.log.records grows.more may.cut.long) ∙ (ap (λ (n : ℕ). take n (p.log.records ++ grows.more)) (sym rest)
    ∙ (take_plus grows.gone (may.count - grows.gone) (p.log.records ++ grows.more) ∙ ap (λ (l : List Entry). take grows.gone (p.log.records ++ grows.more) ++ take (may.count - grows.gone) l) (sym grows.log))) in (
      may.count - grows.gone,
      base_off p.log.base s.log.base base (take grows.gone (p.log.records ++ grows.more)) (take (may.count - grows.gone) s.log.records) grows.base (base_same p.log.base base _ _ split may.cut.counts),
      omega (arith, records, behind, may.dispatched, grows.dispatched),
    )

-- the kept files are no part of the log
saved_grows : (s : State) (saved : Saved) → Grows s (record s { saved = saved })
saved_grows s saved = record {
  more = [];
  gone = 0;
  low = omega arith;
  base = base_none s.log.base;
  log = sym (append-nil s.log.records);
  flushed = omega arith;
  dispatched = omega arith;
}

-- after a saving the earlier states still grow into the one that saved
saved_earlier : (b : Boot) (saved : Saved) → IsSoundBoot b → (p : State) → IsAmong (with_saved b saved).before p → Grows p (with_saved b saved).now
saved_earlier b saved sound p (inl here) = subst (λ (x : State). Grows x (record b.now { saved = saved })) (sym here) (saved_grows b.now saved)
saved_earlier b saved sound p (inr past) = grows_on p b.now (record b.now { saved = saved }) (sound.earlier p past) (saved_grows b.now saved)

-- a saving that leaves the base
saved_good : (b : Boot) (saved : Saved) → saved.base ≡ b.now.saved.base → IsSoundBoot b → IsSoundBoot (with_saved b saved) × Keeps b.now (with_saved b saved).now
saved_good b saved is sound =
    let t = sound.state in (
      record {
        state = record {
          ahead = t.ahead;
          saved = subst (IsBaseAfter b.now.log.base (take t.ahead b.now.log.records)) (sym is) t.saved;
          within = t.within;
          dispatched = t.dispatched;
          flushed = t.flushed;
          out = t.out;
        };
        earlier = saved_earlier b saved sound;
      },
      grows_keeps (saved_grows b.now saved),
    )

-- a saving of a base
base_good : (b : Boot) (p : State) (base : Base) → IsSoundBoot b → IsOfBoot b p → IsRemovable p base → b.now.saved.base.records ≤ base.records
    → IsSoundBoot (with_saved b (record b.now.saved { base = base })) × Keeps b.now (with_saved b (record b.now.saved { base = base })).now
base_good b p base sound of may low =
    let t = sound.state in
    let n = save_counts p b.now base t (among_grows b p sound of) may low in
    let saved : Saved = record b.now.saved { base = base } in (
      record {
        state = record { ahead = n.0; saved = n.1; within = n.2; dispatched = t.dispatched; flushed = t.flushed; out = t.out };
        earlier = saved_earlier b (record b.now.saved { base = base }) sound;
      },
      grows_keeps (saved_grows b.now (record b.now.saved { base = base })),
    )

pub goes_good : (b : Boot) (move : Move) (c : Boot) → IsSoundBoot b → Goes b move c → IsSoundBoot c × Keeps b.now c.now
goes_good b (Steps e said) c sound goes =
    let good = step_good b.now c.now e said goes.0 sound.state in (
      record {
        state = good.0;
        earlier = λ p there. elim (subst (λ (l : List State). IsAmong l p) goes.1 there) [
          | inl here ↦ subst (λ (x : State). Grows x c.now) (sym here) good.1
          | inr past ↦ grows_on p b.now c.now (sound.earlier p past) good.1
        ];
      },
      grows_keeps good.1,
    )
goes_good b SavesOffsets c sound goes = subst (λ (x : Boot). IsSoundBoot x × Keeps b.now x.now) (sym goes.2) (saved_good b _ refl sound)
goes_good b SavesTopics c sound goes = subst (λ (x : Boot). IsSoundBoot x × Keeps b.now x.now) (sym goes.2) (saved_good b _ refl sound)
goes_good b (SavesBase base) c sound goes = subst (λ (x : Boot). IsSoundBoot x × Keeps b.now x.now) (sym goes.4)
    (base_good b goes.0 base sound goes.1 goes.2 goes.3)
goes_good b (Crashes k setup) c sound goes = subst (λ (x : Boot). IsSoundBoot x × Keeps b.now x.now) (sym goes.1)
    (record { state = crash_sound b.now k setup goes.0 sound.state; earlier = λ p there. absurd there }, crash_keeps b.now k setup goes.0 sound.state)

-- ---- runs

pub run_good : (P : Boot → Move → Boot → Type 0) (b : Boot) (moves : List Move) (c : Boot) → IsSoundBoot b → RunWith P b moves c
    → IsSoundBoot c × Keeps b.now c.now
run_good P b [] c sound run = subst (λ (x : Boot). IsSoundBoot x × Keeps b.now x.now) (sym run) (sound, keeps_same b.now)
run_good P b (move ∷ moves) c sound run =
    let one = goes_good b move run.0 sound run.1 in
    let rest = run_good P run.0 moves c one.0 run.3 in
    (rest.0, keeps_on one.1 rest.1)

-- a move that is no crash lets the state grow
goes_grows : (b : Boot) (move : Move) (c : Boot) → IsSoundBoot b → (IsCrash move → ⊥) → Goes b move c → Grows b.now c.now
goes_grows b (Steps e said) c sound boot goes = (step_good b.now c.now e said goes.0 sound.state).1
goes_grows b SavesOffsets c sound boot goes = subst (λ (x : Boot). Grows b.now x.now) (sym goes.2) (saved_grows b.now _)
goes_grows b SavesTopics c sound boot goes = subst (λ (x : Boot). Grows b.now x.now) (sym goes.2) (saved_grows b.now _)
goes_grows b (SavesBase base) c sound boot goes = subst (λ (x : Boot). Grows b.now x.now) (sym goes.4) (saved_grows b.now _)
goes_grows b (Crashes k setup) c sound boot goes = absurd (boot tt)

pub boot_grows : (P : Boot → Move → Boot → Type 0) (b : Boot) (moves : List Move) (c : Boot) → IsSoundBoot b → IsOneBoot moves → RunWith P b moves c
    → Grows b.now c.now
boot_grows P b [] c sound boot run = subst (λ (x : Boot). Grows b.now x.now) (sym run) (grows_same b.now)
boot_grows P b (move ∷ moves) c sound boot run =
    grows_on b.now run.0.now c.now (goes_grows b move run.0 sound boot.0 run.1)
    (boot_grows P run.0 moves c (goes_good b move run.0 sound run.1).0 boot.1 run.3)

-- ---- openings

pub opening_sound : (b : Boot) → IsOpening b → IsSoundBoot b
opening_sound b opening =
    let flushed : b.now.flushed ≡ count_of b.now.log = ap (λ (s : State). s.flushed) opening.state in
    let dispatched : b.now.dispatched ≡ count_of b.now.log = ap (λ (s : State). s.dispatched) opening.state in
    let out : b.now.out ≡ None = ap (λ (s : State). s.out) opening.state in
    record {
      state = record {
        ahead = 0;
        saved = subst (IsBaseAfter b.now.log.base []) (sym opening.base) (base_none b.now.log.base);
        within = omega (arith, dispatched);
        dispatched = omega (arith, flushed, dispatched);
        flushed = omega (arith, flushed);
        out = subst (λ (o : Option Out). IfOut o (λ x. b.now.flushed + x.count ≤ count_of b.now.log)) (sym out) tt;
      };
      earlier = λ p there. absurd (subst (λ (l : List State). IsAmong l p) opening.before there);
    }
