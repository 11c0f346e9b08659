use Rattle.std.proofs.Common.{◌≡◌, ◌∙◌, refl, ap, arith, ℕ, ◌+◌, ◌-◌, ◌<◌, set, slice_get, Some}
use Rattle.std.proofs.lemmas.Option.{get_or_from_slice_get}
use Rattle.log_model.specs.Delays.{progress}
use Rattle.table_check.proofs.LevelLemmas.{one_delivered}
use Rattle.table_check.proofs.levels.count_delivery.Goals as goal

pub returns-in-Some-checked_add : goal.returns-in-Some-checked_add
returns-in-Some-checked_add c segment log are lawful k within =
    let level = c.in-Some.level in
    let delivered = c.args.delivered.now in
    let low = c.in-Some.ensures.within.0 in
    let high = c.in-Some.ensures.within.1 in
    let below : level - 1 < 18 = omega (arith, low, high) in
    let n = progress log ((level - 1) + 1) in
    let at : slice_get delivered (level - 1) ≡ Some n = are (level - 1) below in
    let grown : c.in-Some-checked_add.count ≡ n + 1 = c.in-Some-checked_add.ensures.1 ∙ ap (λ m. m + 1) (get_or_from_slice_get delivered (level - 1) n _ at) in
    ap (λ (m : ℕ). slice_get (set delivered (level - 1) m) k) grown
    ∙ one_delivered log c.args.view.now delivered level (level - 1) (c.in-Some.ensures.copy segment log lawful) low refl n at are k within
