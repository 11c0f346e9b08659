-- Stored offsets along a run.
use Rattle.std.proofs.Common.{◌≡◌, inl, inr, refl, ap, sym, ◌∙◌, subst, arith, ℕ, ◌≤◌, min, List, [], ◌∷◌, Bool}
use Rattle.log_model.specs.Numbered.{Log, queue_max, below}
use Rattle.broker_model.specs.Tables.{OffsetRow}
use Rattle.broker_model.specs.State.{State, Saved, Setup, seen}
use Rattle.broker_model.specs.Run.{Boot, Move, Steps, SavesOffsets, SavesTopics, SavesBase, Crashes, Goes, RunWith, IsAmong, IsOfBoot, IsOpening, crashed, CanCrash, kept_log, with_saved, cut_offsets}
use Rattle.core_laws.specs.Sound.{IsSound, IsSoundBoot}
use Rattle.core_laws.specs.Offsets.{AllRows, IsAllowed, StoresOnly}
use Rattle.core_laws.proofs.Steps.{step_good}
use Rattle.core_laws.proofs.Runs.{goes_good}
use Rattle.core_laws.proofs.QueueEnds.{max_grows, max_kept, all_seen}
use Rattle.core_laws.proofs.OffsetRows.{rows_weaker, step_rows}

pub record RowsBoot (allowed : OffsetRow → Bool) (b : Boot) : Type 0 where
  pub saved : AllRows (IsAllowed allowed b.now) b.now.saved.offsets
  pub boot : (p : State) → IsOfBoot b p → AllRows (IsAllowed allowed b.now) p.offsets

more_rows : (allowed : OffsetRow → Bool) (s t : State) (rows : List OffsetRow) → ((topic : List ℕ) (q : ℕ) → queue_max (seen s) topic q ≤ queue_max (seen t) topic q) → AllRows (IsAllowed allowed s) rows → AllRows (IsAllowed allowed t) rows
more_rows allowed s t rows more = rows_weaker (IsAllowed allowed s) (IsAllowed allowed t) rows (λ row is. (is.0, omega (arith, is.1, more row.topic row.queue)))

with_saved_rows : (allowed : OffsetRow → Bool) (b : Boot) (saved : Saved) → AllRows (IsAllowed allowed b.now) saved.offsets → RowsBoot allowed b → RowsBoot allowed (with_saved b saved)
with_saved_rows allowed b saved all rows = record {
  saved = all;
  boot = λ p there. elim there [
    | inl now ↦ subst (λ (x : State). AllRows (IsAllowed allowed b.now) x.offsets) (sym now) (rows.boot b.now (inl refl))
    | inr past ↦ elim past [ inl last ↦ rows.boot p (inl last) | inr before ↦ rows.boot p (inr before) ]
  ];
}

cut_rows : (P : OffsetRow → Type 0) (log : Log) (rows : List OffsetRow) → ((row : OffsetRow) → P row → row.offset ≤ queue_max log row.topic row.queue) → AllRows P rows → cut_offsets log rows ≡ rows
cut_rows P log [] low all = refl
cut_rows P log (row ∷ rows) low all =
    let h = low row all.0 in
    let same : min row.offset (queue_max log row.topic row.queue) ≡ row.offset = omega (arith, h) in
    ap (λ (n : ℕ). record row { offset = n } ∷ cut_offsets log rows) same ∙ ap (λ (l : List OffsetRow). row ∷ l) (cut_rows P log rows low all.1)

crash_offsets : (allowed : OffsetRow → Bool) (s : State) (k : ℕ) (setup : Setup) → CanCrash s k setup → IsSound s → AllRows (IsAllowed allowed s) s.saved.offsets → (crashed s k setup).offsets ≡ s.saved.offsets
crash_offsets allowed s k setup can sound all = cut_rows (IsAllowed allowed s) (kept_log s k) s.saved.offsets (λ row is. omega (arith, is.1, max_kept s k setup row.topic row.queue can sound)) all

pub goes_rows : (allowed : OffsetRow → Bool) (b : Boot) (move : Move) (c : Boot) → IsSoundBoot b → RowsBoot allowed b → Goes b move c → StoresOnly allowed b move c → RowsBoot allowed c
goes_rows allowed b (Steps e said) c sound rows goes may =
    let good = step_good b.now c.now e said goes.0 sound.state in
    let more : (topic : List ℕ) (q : ℕ) → queue_max (seen b.now) topic q ≤ queue_max (seen c.now) topic q = λ topic q. max_grows b.now c.now topic q sound.state good.0 good.1 in
    let here = step_rows allowed b.now c.now e said goes.0 may (rows.boot b.now (inl refl)) in
    record {
      saved = subst (λ (v : Saved). AllRows (IsAllowed allowed c.now) v.offsets) (sym here.1) (more_rows allowed b.now c.now b.now.saved.offsets more rows.saved);
      boot = λ p there. elim there [
        | inl now ↦ subst (λ (x : State). AllRows (IsAllowed allowed c.now) x.offsets) (sym now) (more_rows allowed b.now c.now c.now.offsets more here.0)
        | inr past ↦ more_rows allowed b.now c.now p.offsets more (elim (subst (λ (l : List State). IsAmong l p) goes.1 past) [ inl last ↦ rows.boot p (inl last) | inr before ↦ rows.boot p (inr before) ])
      ];
    }
goes_rows allowed b SavesOffsets c sound rows goes may = subst (RowsBoot allowed) (sym goes.2) (with_saved_rows allowed b _ (rows.boot goes.0 goes.1) rows)
goes_rows allowed b SavesTopics c sound rows goes may = subst (RowsBoot allowed) (sym goes.2) (with_saved_rows allowed b _ rows.saved rows)
goes_rows allowed b (SavesBase base) c sound rows goes may = subst (RowsBoot allowed) (sym goes.4) (with_saved_rows allowed b _ rows.saved rows)
goes_rows allowed b (Crashes k setup) c sound rows goes may =
    let t : State = crashed b.now k setup in
    let more : (topic : List ℕ) (q : ℕ) → queue_max (seen b.now) topic q ≤ queue_max (seen t) topic q = λ topic q. omega (arith, max_kept b.now k setup topic q goes.0 sound.state, all_seen (kept_log b.now k) topic q) in
    let saved : AllRows (IsAllowed allowed t) b.now.saved.offsets = more_rows allowed b.now t b.now.saved.offsets more rows.saved in
    let here : AllRows (IsAllowed allowed t) t.offsets = subst (AllRows (IsAllowed allowed t)) (sym (crash_offsets allowed b.now k setup goes.0 sound.state rows.saved)) saved in
    subst (RowsBoot allowed) (sym goes.1) (record {
      saved = saved;
      boot = λ p there. elim there [ inl now ↦ subst (λ (x : State). AllRows (IsAllowed allowed t) x.offsets) (sym now) here | inr past ↦ absurd past ];
    })

pub run_rows : (allowed : OffsetRow → Bool) (b : Boot) (moves : List Move) (c : Boot) → IsSoundBoot b → RowsBoot allowed b → RunWith (StoresOnly allowed) b moves c → RowsBoot allowed c × IsSoundBoot c
run_rows allowed b [] c sound rows run = subst (λ (x : Boot). RowsBoot allowed x × IsSoundBoot x) (sym run) (rows, sound)
run_rows allowed b (move ∷ moves) c sound rows run =
    run_rows allowed run.0 moves c (goes_good b move run.0 sound run.1).0 (goes_rows allowed b move run.0 sound rows run.1 run.2) run.3

pub crash_uncut : (allowed : OffsetRow → Bool) (b : Boot) (k : ℕ) (setup : Setup) (c : Boot) → IsSoundBoot b → RowsBoot allowed b → Goes b (Crashes k setup) c → c.now.offsets ≡ b.now.saved.offsets
crash_uncut allowed b k setup c sound rows goes = ap (λ (x : Boot). x.now.offsets) goes.1 ∙ crash_offsets allowed b.now k setup goes.0 sound.state rows.saved

pub opening_rows : (allowed : OffsetRow → Bool) (b : Boot) → IsOpening b → AllRows (IsAllowed allowed b.now) b.now.saved.offsets → RowsBoot allowed b
opening_rows allowed b opening all = record {
  saved = all;
  boot = λ p there. elim there [
    | inl now ↦ subst (λ (x : State). AllRows (IsAllowed allowed b.now) x.offsets) (sym now) (subst (AllRows (IsAllowed allowed b.now)) (sym (ap (λ (s : State). s.offsets) opening.state ∙ uncut)) all)
    | inr past ↦ absurd (subst (λ (l : List State). IsAmong l p) opening.before past)
  ];
}
  where
    uncut : cut_offsets b.now.log b.now.saved.offsets ≡ b.now.saved.offsets
    uncut = cut_rows (IsAllowed allowed b.now) b.now.log b.now.saved.offsets (λ row is. omega (
      arith,
      is.1,
      ap (λ (n : ℕ). queue_max (below b.now.log n) row.topic row.queue) (ap (λ (s : State). s.dispatched) opening.state),
      all_seen b.now.log row.topic row.queue,
    )) all
