use Rattle.std.proofs.Common.{◌≡◌, ◌≤◌, ◌&&◌, ◌∷◌, [], ℕ, List, true, false, eqb, bytes_eq, refl, ⊎_elim, arith}
use Rattle.std.specs.Prelude.{String, string_bytes}
use Rattle.std.proofs.lemmas.Bool.{cases_Bool}
use Rattle.log_model.specs.Told.{counts_in}
use Rattle.log_tests.proofs.recovery_tests.base_of_two.Goals as goal

-- one row alone tells the count of its queue
one_counted : {A : Type 0} (row : String A × ℕ × ℕ) (topic : List ℕ) (queue : ℕ) → row.2 ≤ 3 → counts_in (row ∷ []) topic queue ≤ 3
one_counted row topic queue low = ⊎_elim
    (λ (here : (bytes_eq (string_bytes row.0) topic && eqb row.1 queue) ≡ true). rw here low)
    (λ (other : (bytes_eq (string_bytes row.0) topic && eqb row.1 queue) ≡ false). rw other (omega arith))
    (cases_Bool (bytes_eq (string_bytes row.0) topic && eqb row.1 queue))

pub returns : goal.returns
returns c = record {
  low = omega arith;
  high = omega arith;
  begins = refl;
  within = omega arith;
  some = omega arith;
  counted = λ topic queue. rw (c.in_ok-push.ensures.items, c.new-queues.ensures.items) (one_counted (c.in_ok-from_str.field-0, 0, 3) topic queue (omega arith));
}
