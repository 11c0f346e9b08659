-- The disk's count of faults never falls by acts.
use Rattle.std.proofs.Common.{◌≤◌, List, [], ◌∷◌, ap, arith}
use Rattle.worker_turns.specs.Turns.{Steps}
use Rattle.worker_turns.specs.Acts.{Act, Made, Wrote, Missed, DiskView, Place, Happens, Acts, change_of}

module _ {C D : Type 0} (makes : Steps C) (view : DiskView D) where
  one_grows : (act : Act) (x y : C) (old new : Place D) → Happens makes view act (change_of x old y new) → view.faults old.disk ≤ view.faults new.disk
  one_grows (Made e what) x y old new happened = omega (arith, ap (λ (p : Place D). view.faults p.disk) happened.still)
  one_grows (Wrote turn) x y old new happened = omega (arith, happened.still)
  one_grows (Missed batch count) x y old new happened = happened.rises.0

  pub faults_grow : (acts : List Act) (x y : C) (old new : Place D) → Acts makes view acts (change_of x old y new) → view.faults old.disk ≤ view.faults new.disk
  faults_grow [] x y old new happened = omega (arith, ap (λ (p : Place D). view.faults p.disk) happened.place)
  faults_grow (act ∷ acts) x y old new happened =
      omega (arith, one_grows act x happened.0 old happened.1 happened.2, faults_grow acts happened.0 y happened.1 new happened.3)
