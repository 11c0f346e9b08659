-- The counts of what is around the threads, over their runs.
use Rattle.std.proofs.Common.{◌≡◌, ⊎_elim, inl, inr, ℕ, ◌≤◌, ◌+◌, Option, Some, None, IfSome, Result, Ok, Err, sym, subst, arith}
use Rattle.mq_outside.specs.Counts.{Rises, CountsDiskFault}
use Rattle.mq_outside.specs.declared.faults.DiskFault.{DiskFault}
use Rattle.mq_outside.specs.declared.faults.DiskFault.TheVariants as device
use Rattle.event_loops.specs.declared.event_loop.LoopEnd.{LoopEnd}
use Rattle.event_loops.specs.declared.event_loop.LoopEnd.TheVariants.{Done, Stopped, Clock, Door, Poll, Memory}
use Rattle.event_loops.specs.Doors.{AllCame, GaveAll, IsDoorDone, KeepsDoor}
use Rattle.event_loops.specs.declared.entrance.Bounds.{Bounds}
use Rattle.event_loops.specs.declared.entrance.Entrance.{Entrance}
use Rattle.event_loops.specs.Causes.{door_faults, LoopFaults, GrowsAt, RisesAt, Blames, CountsEnd}
use Rattle.serve_threads.specs.Causes.{BlamesKeep, BlamesWorld, HasDoor, IsFirstFault, WorldFaults, both_faults, count_in}

-- ---- the keep

-- a replacement behind others
pub keep_blamed : {A : Type 0} (kept : Result A DiskFault) (old mid new : ℕ) → old ≤ mid → CountsDiskFault kept mid new → BlamesKeep kept old new
keep_blamed (Ok done) old mid new grows counts = tt
keep_blamed (Err device.Failed) old mid new grows counts = (omega (arith, grows, counts.0), omega (arith, grows, counts.1))
keep_blamed (Err device.Memory) old mid new grows counts = tt

-- ---- the loops

rises_in : (old new : Option ℕ) → RisesAt old new → Rises (count_in old) (count_in new)
rises_in None new rises = absurd rises
rises_in (Some old) None rises = absurd rises
rises_in (Some old) (Some new) rises = rises

-- what the first loop blames
first_blames : (end : LoopEnd) (first first_then second second_then : LoopFaults) → Blames end first first_then
    → BlamesWorld end (both_faults first second) (both_faults first_then second_then)
first_blames Done first first_then second second_then blames = tt
first_blames Stopped first first_then second second_then blames = tt
first_blames Clock first first_then second second_then blames = inl blames
first_blames Door first first_then second second_then blames = rises_in first.door first_then.door blames
first_blames Poll first first_then second second_then blames = inl blames
first_blames Memory first first_then second second_then blames = tt

-- what the second one does, which has no door
second_blames : (end : LoopEnd) (first first_then second second_then : LoopFaults) → second.door ≡ None → Blames end second second_then
    → BlamesWorld end (both_faults first second) (both_faults first_then second_then)
second_blames Done first first_then second second_then none blames = tt
second_blames Stopped first first_then second second_then none blames = tt
second_blames Clock first first_then second second_then none blames = inr blames
second_blames Door first first_then second second_then none blames = absurd (subst (λ (d : Option ℕ). RisesAt d second_then.door) none blames)
second_blames Poll first first_then second second_then none blames = inr blames
second_blames Memory first first_then second second_then none blames = tt

pub loops_blame : (end first_end second_end : LoopEnd) (first first_then second second_then : LoopFaults) (new : WorldFaults) → second.door ≡ None
    → IsFirstFault first_end second_end end → CountsEnd first_end first first_then → CountsEnd second_end second second_then
    → new ≡ both_faults first_then second_then → BlamesWorld end (both_faults first second) new
loops_blame end first_end second_end first first_then second second_then new none ends one other same =
    subst (λ (w : WorldFaults). BlamesWorld end (both_faults first second) w) (sym same)
    (⊎_elim (λ is. subst (λ (e : LoopEnd). BlamesWorld e (both_faults first second) (both_faults first_then second_then)) (sym is) tt)
    (λ some. ⊎_elim
    (λ is. subst (λ (e : LoopEnd). BlamesWorld e (both_faults first second) (both_faults first_then second_then)) (sym is)
    (second_blames second_end first first_then second second_then none other.blames))
    (λ is. subst (λ (e : LoopEnd). BlamesWorld e (both_faults first second) (both_faults first_then second_then)) (sym is)
    (first_blames first_end first first_then second second_then one.blames)) some) ends.one)

-- the counts of the same two loops
pub world_counts : {O : Type 0} (counts : O → LoopFaults) (world : WorldFaults) (near far first second : O) → near ≡ first → far ≡ second
    → world ≡ both_faults (counts near) (counts far) → world ≡ both_faults (counts first) (counts second)
world_counts counts world near far first second same_near same_far is =
    subst (λ o. world ≡ both_faults (counts o) (counts second)) same_near (subst (λ o. world ≡ both_faults (counts near) (counts o)) same_far is)

-- a door that was there is there still
still_at : (old new : Option ℕ) → GrowsAt old new → HasDoor old → HasDoor new
still_at None new grows has = absurd has
still_at (Some old) None grows has = absurd grows
still_at (Some old) (Some new) grows has = tt

pub door_stays : (end : LoopEnd) (old new : LoopFaults) → CountsEnd end old new → HasDoor old.door → HasDoor new.door
door_stays end old new counts has = still_at old.door new.door counts.grow.door has

-- ---- the door

-- an entrance that counted no more links than its door gave, and that lets none in any more
gave_most : (most : Option ℕ) (old new came : ℕ) → old + came ≤ new → AllCame most came → GaveAll most old new
gave_most None old new came counted all = tt
gave_most (Some most) old new came counted all = omega (arith, counted, all)

pub gave_all : {Ready Link Door Ends Waker : Type 0} (gave : Door → ℕ) (old new : Option (Entrance Ready Link Door Ends Waker)) (door : Door) → KeepsDoor gave old new → IsDoorDone new
    → IfSome new (λ e. door ≡ e.door) → IfSome old (λ e. e.came ≡ 0 → GaveAll e.bounds.most (gave e.door) (gave door))
gave_all gave None new door keeps done same = tt
gave_all gave (Some old) None door keeps done same = absurd keeps
gave_all gave (Some old) (Some new) door keeps done same = λ none.
    subst (λ d. GaveAll old.bounds.most (gave old.door) (gave d)) (sym same)
    (gave_most old.bounds.most (gave old.door) (gave new.door) new.came (omega (arith, keeps.counted, none))
    (subst (λ (b : Bounds). AllCame b.most new.came) keeps.bounds done))

-- the same from an entrance that was made with this door and these bounds, by which no link came yet
pub came_from : {Ready Link Door Ends Waker : Type 0} (faults : Door → ℕ) (gave : Door → ℕ) (door : Door) (bounds : Bounds) (entrance : Option (Entrance Ready Link Door Ends Waker)) (left : Door)
    → HasDoor (door_faults faults entrance) → IfSome entrance (λ e. (e.door ≡ door) × (e.bounds ≡ bounds) × (e.came ≡ 0))
    → IfSome entrance (λ e. e.came ≡ 0 → GaveAll e.bounds.most (gave e.door) (gave left)) → GaveAll bounds.most (gave door) (gave left)
came_from faults gave door bounds None left has made came = absurd has
came_from faults gave door bounds (Some e) left has made came =
    subst (λ (b : Bounds). GaveAll b.most (gave door) (gave left)) made.1 (subst (λ d. GaveAll e.bounds.most (gave d) (gave left)) made.0 (came made.2))
