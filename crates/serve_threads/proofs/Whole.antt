-- The ledgers of both loops have each link that came.
use Rattle.std.specs.Prelude.{IsSome}
use Rattle.std.specs.Option.{is_some}
use Rattle.std.proofs.Common.{◌≡◌, ◌≢◌, Bool, refl, ℕ, ◌≤◌, ◌+◌, List, false, Option, Some, None, IfSome, ap, sym, subst, arith}
use Rattle.mq_peers.specs.Ended.{LinkEnd}
use Rattle.event_loops.specs.Causes.{door_faults}
use Rattle.event_loops.specs.Doors.{KeepsDoor}
use Rattle.event_loops.specs.declared.entrance.Bounds.{Bounds}
use Rattle.event_loops.specs.declared.entrance.Entrance.{Entrance}
use Rattle.event_loops.specs.declared.links.Links.{Links}
use Rattle.serve_threads.specs.Causes.{HasDoor}
use Rattle.serve_threads.specs.Links.{AreAllThatCame, AreUpTo, AreWhole, told_in, first_in, second_in, links_over}

module _ {L N : Type 0} (told : Type 0) (entries : N → List LinkEnd) (came : ℕ) (first second : Links L N) where
  -- where they are told, they are those of each ledger
  pub first_whole : (ends : Option (N × N)) → IfSome ends (λ e. AreWhole told entries came first second e) → told_in told ends
      → told × (first.ledger.lost ≡ false) × (entries first.ledger.ends ≡ first_in entries ends)
  first_whole None whole is = absurd is
  first_whole (Some ends) whole is = (is, whole.known.0, ap entries (sym whole.are.0))

  pub second_whole : (ends : Option (N × N)) → IfSome ends (λ e. AreWhole told entries came first second e) → told_in told ends
      → told × (second.ledger.lost ≡ false) × (entries second.ledger.ends ≡ second_in entries ends)
  second_whole None whole is = absurd is
  second_whole (Some ends) whole is = (is, whole.known.1, ap entries (sym whole.are.1))

  module _ (tells : Type 0)
      (first_up : told → first.ledger.lost ≡ false → first.newest ≤ came → AreUpTo came (entries first.ledger.ends))
      (second_up : told → second.ledger.lost ≡ false → second.newest ≤ came → AreUpTo came (entries second.ledger.ends)) where
    -- as many came as the door gave
    counted : (old new : ℕ) (ends : Option (N × N)) → IfSome ends (λ e. AreWhole told entries came first second e) → old + came ≡ new
        → AreAllThatCame old new (links_over tells told entries ends)
    counted old new None whole gave is = absurd is
    counted old new (Some ends) whole gave is =
        let many = whole.many is in (
          omega (arith, gave, many),
          subst (λ (n : ℕ). AreUpTo n (entries ends.0)) (sym many)
              (subst (λ (e : N). AreUpTo came (entries e)) (sym whole.are.0) (first_up is whole.known.0 whole.within.0)),
          subst (λ (n : ℕ). AreUpTo n (entries ends.1)) (sym many)
              (subst (λ (e : N). AreUpTo came (entries e)) (sym whole.are.1) (second_up is whole.known.1 whole.within.1)),
        )

    pub all_came : {Ready Link Door Ends Waker : Type 0} (gave : Door → ℕ) (old new : Option (Entrance Ready Link Door Ends Waker)) (door : Door) (ends : Option (N × N))
        → KeepsDoor gave old new → IfSome new (λ e. door ≡ e.door) → IfSome new (λ e. came ≡ e.came) → IfSome ends (λ e. AreWhole told entries came first second e)
        → IfSome old (λ e. e.came ≡ 0 → AreAllThatCame (gave e.door) (gave door) (links_over tells told entries ends))
    all_came gave None new door ends keeps same is whole = tt
    all_came gave (Some old) None door ends keeps same is whole = absurd keeps
    all_came gave (Some old) (Some new) door ends keeps same is whole = λ none.
        let here : gave door ≡ gave new.door = ap gave same in
        counted (gave old.door) (gave door) ends whole (omega (arith, keeps.counted, none, here, is))

-- the same from an entrance that was made with this door
pub all_from : {Ready Link Door Ends Waker : Type 0} (faults : Door → ℕ) (P : Door → Type 0) (door : Door) (bounds : Bounds) (entrance : Option (Entrance Ready Link Door Ends Waker)) → HasDoor (door_faults faults entrance)
    → IfSome entrance (λ e. (e.door ≡ door) × (e.bounds ≡ bounds) × (e.came ≡ 0)) → IfSome entrance (λ e. e.came ≡ 0 → P e.door) → P door
all_from faults P door bounds None has made came = absurd has
all_from faults P door bounds (Some e) has made came = subst (λ d. P d) made.0 (came made.2)

-- there are ledgers, unless the end says otherwise
pub some_unless : {X A : Type 0} (ends : Option X) (some : Bool) (end memory : A) → some ≡ is_some ends → (some ≡ false → end ≡ memory) → end ≢ memory → IsSome ends
some_unless None some end memory is without other = absurd (other (without is))
some_unless (Some x) some end memory is without other = refl
