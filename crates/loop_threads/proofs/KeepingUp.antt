-- What is put into the kept files, from one look to the next, and the count of failures meanwhile.
use Rattle.std.proofs.Common.{inl, inr, refl, sym, subst, ℕ, ◌≤◌, List, [], ◌∷◌, ◌++◌, Result, Ok, Err, arith}
use Rattle.mq_outside.specs.Counts.{CountsDiskFault}
use Rattle.mq_outside.specs.Disk.{DiskState}
use Rattle.mq_outside.specs.declared.faults.DiskFault.{DiskFault}
use Rattle.mq_outside.specs.declared.faults.DiskFault.TheVariants as device
use Rattle.core_log.specs.declared.parts.Parts.{Parts}
use Rattle.keeper_turns.specs.Turns.{HasKeptOf, IsOffsetsOf, IsTopicsOf}
use Rattle.keeper_turns.proofs.PutLemmas.{puts_none, puts_then, puts_weaker}
use Rattle.loop_threads.specs.Kept.{Among, SeesAll, KeepsUp, keep_over}

-- ---- one look more

among_first : (Is : Parts → List ℕ → Type 0) (cores more : List Parts) (text : List ℕ) → Among Is cores text → Among Is (cores ++ more) text
among_first Is [] more text none = absurd none
among_first Is (core ∷ cores) more text (inl is) = inl is
among_first Is (core ∷ cores) more text (inr rest) = inr (among_first Is cores more text rest)

among_last : (Is : Parts → List ℕ → Type 0) (cores : List Parts) (core : Parts) (text : List ℕ) → Is core text → Among Is (cores ++ core ∷ []) text
among_last Is [] core text is = inl is
among_last Is (other ∷ cores) core text is = inr (among_last Is cores core text is)

module _ {C : Type 0} (sees : C → Parts → C → Type 0) where
  sees_snoc : (x : C) (cores : List Parts) (y : C) (core : Parts) (z : C) → SeesAll sees x cores y → sees y core z → SeesAll sees x (cores ++ core ∷ []) z
  sees_snoc x [] y core z all saw = subst (λ (w : C). SeesAll sees w (core ∷ []) z) (sym all) (z, saw, refl)
  sees_snoc x (first ∷ cores) y core z all saw = (all.0, all.1, sees_snoc all.0 cores y core z all.2 saw)

  pub keeps_start : (tells : Type 0) (x : C) (keep : DiskState) → KeepsUp sees (keep_over tells keep keep) x x
  keeps_start tells x keep = record { cores = []; seen = refl; puts = λ told. puts_none (Among IsOffsetsOf []) (Among IsTopicsOf []) keep }

  pub keeps_more : {E : Type 0} (tells : Type 0) (x : C) (old : DiskState) (y : C) (mid : DiskState) (z : C) (new : DiskState) (result : Result (Unit {0}) E) → KeepsUp sees (keep_over tells old mid) x y
      → (core : Parts) × sees y core z × HasKeptOf tells core result mid new → KeepsUp sees (keep_over tells old new) x z
  keeps_more tells x old y mid z new result so_far turn =
      let core = turn.0 in
      let cores = so_far.cores in
      let all = cores ++ core ∷ [] in
      record {
        cores = all;
        seen = sees_snoc x cores y core z so_far.seen turn.1;
        puts = λ told. puts_then (Among IsOffsetsOf all) (Among IsTopicsOf all) old mid new
            (puts_weaker (Among IsOffsetsOf cores) (Among IsTopicsOf cores) (Among IsOffsetsOf all) (Among IsTopicsOf all) old mid
            (λ text is. among_first IsOffsetsOf cores (core ∷ []) text is) (λ text is. among_first IsTopicsOf cores (core ∷ []) text is) (so_far.puts told))
            (puts_weaker (IsOffsetsOf core) (IsTopicsOf core) (Among IsOffsetsOf all) (Among IsTopicsOf all) mid new
            (λ text is. among_last IsOffsetsOf cores core text is) (λ text is. among_last IsTopicsOf cores core text is) (turn.2.puts told));
      }

-- ---- the keep

pub disk_grows : {A : Type 0} (result : Result A DiskFault) (old new : ℕ) → CountsDiskFault result old new → old ≤ new
disk_grows (Ok done) old new counts = omega (arith, counts)
disk_grows (Err device.Failed) old new counts = counts.0
disk_grows (Err device.Memory) old new counts = omega (arith, counts)
