-- What each move keeps of the log holds along a run, where what it rests on is on the disk before a crash.
use Rattle.std.proofs.Common.{inl, inr, refl, sym, subst, arith, ℕ, ◌<◌, ◌≤◌, List, [], ◌∷◌}
use Rattle.log_model.specs.Bases.{Base}
use Rattle.log_model.specs.Numbered.{Log, above, below}
use Rattle.broker_model.specs.State.{State}
use Rattle.broker_model.specs.Events
use Rattle.broker_model.specs.Run.{Boot, Move, Steps, SavesOffsets, SavesTopics, SavesBase, Crashes, Goes, RunWith, IsCrash, IsOneBoot}
use Rattle.core_laws.specs.Sound.{IsSound}
use Rattle.core_laws.specs.Kept.{IsKept, IsKeptBoot}
use Rattle.core_laws.specs.LogSteps.{LogStep, Appends}
use Rattle.core_laws.proofs.KeptRuns.{step_log, goes_kept}
use Rattle.core_laws.proofs.Runs.{goes_good}

-- It stays where the log loses records in front, where it loses some behind the number n, and where an event appends some.
pub record IsKeptByMoves (Stays : Log → Type 0) (n : ℕ) : Type 0 where
  pub loses_front : (log : Log) (later : Base) → log.base.records ≤ later.records → Stays log → Stays (above log later)
  pub loses_end : (log : Log) (m : ℕ) → n < m → Stays log → Stays (below log m)
  pub grows : (s t : State) (e : Events.Event) → 0 < s.setup.segment → IsKept s.log → Appends s e t → Stays s.log → Stays t.log

module _ (Stays : Log → Type 0) (n : ℕ) (keeps : IsKeptByMoves Stays n) where
  step_stays : (s t : State) (e : Events.Event) → 0 < s.setup.segment → IsSound s → IsKept s.log → LogStep s e t → Stays s.log → Stays t.log
  step_stays s t e some sound kept (inl same) stays = subst Stays (sym same) stays
  step_stays s t e some sound kept (inr (inl grows)) stays = keeps.grows s t e some kept grows stays
  step_stays s t e some sound kept (inr (inr cut)) stays =
      subst Stays (sym cut.log) (keeps.loses_front s.log s.saved.base (omega (arith, sound.saved.records)) stays)

  -- savings change no log, and a crash keeps what is on the disk
  goes_stays : (b : Boot) (move : Move) (c : Boot) → IsKeptBoot b → (IsCrash move → n < b.now.flushed) → Goes b move c → Stays b.now.log → Stays c.now.log
  goes_stays b (Steps e said) c kept flushed goes stays =
      step_stays b.now c.now e kept.segment kept.sound.state (kept.logs b.now (inl refl)) (step_log b.now c.now e said goes.0) stays
  goes_stays b SavesOffsets c kept flushed goes stays = subst (λ (x : Boot). Stays x.now.log) (sym goes.2) stays
  goes_stays b SavesTopics c kept flushed goes stays = subst (λ (x : Boot). Stays x.now.log) (sym goes.2) stays
  goes_stays b (SavesBase base) c kept flushed goes stays = subst (λ (x : Boot). Stays x.now.log) (sym goes.4) stays
  goes_stays b (Crashes k setup) c kept flushed goes stays = subst (λ (x : Boot). Stays x.now.log) (sym goes.1)
      (keeps.loses_front (below b.now.log k) b.now.saved.base (omega (arith, kept.sound.state.saved.records))
      (keeps.loses_end b.now.log k (omega (arith, flushed tt, goes.0.no_less)) stays))

  -- in one boot it stays whatever is on the disk
  pub boot_stays : (P : Boot → Move → Boot → Type 0) (b : Boot) (moves : List Move) (c : Boot) → IsKeptBoot b → IsOneBoot moves → RunWith P b moves c
      → Stays b.now.log → Stays c.now.log
  boot_stays P b [] c kept one run stays = subst (λ (x : Boot). Stays x.now.log) (sym run) stays
  boot_stays P b (move ∷ moves) c kept one run stays =
      boot_stays P run.0 moves c (goes_kept b move run.0 kept run.1) one.1 run.3 (goes_stays b move run.0 kept (λ crash. absurd (one.0 crash)) run.1 stays)

  -- once the record n is on the disk it stays over crashes
  pub run_stays : (P : Boot → Move → Boot → Type 0) (b : Boot) (moves : List Move) (c : Boot) → IsKeptBoot b → n < b.now.flushed → RunWith P b moves c
      → Stays b.now.log → Stays c.now.log
  run_stays P b [] c kept flushed run stays = subst (λ (x : Boot). Stays x.now.log) (sym run) stays
  run_stays P b (move ∷ moves) c kept flushed run stays =
      let good = goes_good b move run.0 kept.sound run.1 in
      run_stays P run.0 moves c (goes_kept b move run.0 kept run.1) (omega (arith, flushed, good.1.flushed)) run.3
      (goes_stays b move run.0 kept (λ crash. flushed) run.1 stays)
