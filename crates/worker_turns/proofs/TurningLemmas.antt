-- Flush turns, one behind another.
use Rattle.std.proofs.Common.{◌≡◌, ℕ, ◌++◌, List, [], ◌∷◌, map, Option, Some, None, refl, sym, ap, ◌∙◌}
use Rattle.std.proofs.lemmas.List.{map-append}
use Rattle.broker_events.specs.declared.event.Event.TheVariants.{Dispatch}
use Rattle.broker_events.specs.declared.said.Said.TheVariants as said
use Rattle.worker_turns.specs.Turns.{Steps}
use Rattle.worker_turns.specs.declared.flush.FlushEnd.TheVariants.{Idle, Done, Failed}
use Rattle.worker_turns.specs.Acts.{Act, Made, Wrote, Missed, DiskView, Place, Acted, change_of}
use Rattle.worker_turns.specs.Turning.{idle, IsTurn, AreOk, AreTurns, AreTurnsAndDispatch, IsDispatch, most_seen}
use Rattle.worker_turns.proofs.ActLemmas.{acted_then, one_step, takes_none}

module _ {C D : Type 0} (makes : Steps C) (view : DiskView D) (x y z : C) (p q r : Place D) where
  -- one more that ended Ok
  pub turns_more : Acted makes view AreOk (change_of x p y q) → Acted makes view (IsTurn Done) (change_of y q z r) → Acted makes view AreOk (change_of x p z r)
  turns_more first turn = acted_then makes view AreOk (IsTurn Done) AreOk x y z p q r first turn (λ before later are is.
      (are.0 ++ is.0 ∷ [], ap (λ (l : List Act). l ++ later) are.1 ∙ ap (λ (l : List Act). map Wrote are.0 ++ l) is.1 ∙ sym (map-append Wrote are.0 (is.0 ∷ []))))

  -- the last found nothing pending
  pub turns_idle : Acted makes view AreOk (change_of x p y q) → Acted makes view (IsTurn Idle) (change_of y q z r) → Acted makes view (AreTurns None) (change_of x p z r)
  turns_idle first turn = acted_then makes view AreOk (IsTurn Idle) (AreTurns None) x y z p q r first turn (λ before later are is.
      record { turns = are.0; last = idle; ends = refl; are = ap (λ (l : List Act). l ++ later) are.1 ∙ ap (λ (l : List Act). map Wrote are.0 ++ l) is })

  -- the last failed
  pub turns_failed : (count : ℕ) → Acted makes view AreOk (change_of x p y q) → Acted makes view (IsTurn (Failed count)) (change_of y q z r) → Acted makes view (AreTurns (Some count)) (change_of x p z r)
  turns_failed count first turn = acted_then makes view AreOk (IsTurn (Failed count)) (AreTurns (Some count)) x y z p q r first turn (λ before later are is.
      record { turns = are.0; last = Missed is.0 count; ends = (is.0, refl); are = ap (λ (l : List Act). l ++ later) are.1 ∙ ap (λ (l : List Act). map Wrote are.0 ++ l) is.1 })

  -- any acts behind acts
  pub any_then : (P Q : List Act → Type 0) → Acted makes view P (change_of x p y q) → Acted makes view Q (change_of y q z r) → Acted makes view (λ acts. Unit {0}) (change_of x p z r)
  any_then P Q first later = acted_then makes view P Q (λ acts. Unit {0}) x y z p q r first later (λ before behind is are. tt)

  -- a dispatch behind them
  pub turns_dispatched : (failed : Option ℕ) → Acted makes view (AreTurns failed) (change_of x p y q) → IsDispatch makes y z → Acted makes view AreTurnsAndDispatch (change_of x p z q)
  turns_dispatched failed first made =
      let act : Act = Made (Dispatch most_seen) (Some (said.Moved made.0)) in
      acted_then makes view (AreTurns failed) (λ acts. acts ≡ act ∷ []) AreTurnsAndDispatch x y z p q q first
      (record { acts = act ∷ []; kind = refl; happened = one_step makes view (Dispatch most_seen) (Some (said.Moved made.0)) y z q q tt (takes_none (Dispatch most_seen) (Some (said.Moved made.0)) tt) made.1 refl })
      (λ before later are is. record { failed = failed; turns = before; number = made.0; ended = are; are_all = ap (λ (l : List Act). before ++ l) is })
