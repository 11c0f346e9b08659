use Rattle.std.proofs.Common.{◌≡◌, ◌∙◌, ◌+◌, ◌++◌, ◌&&◌, ◌==◌, [], ◌∷◌, ℕ, take, ap, sym, cond, bytes_eq}
use Rattle.log_model.specs.Told.{counts_in}
use Rattle.log_recovery.proofs.CountLemmas.{take_or, with_counts-push}
use Rattle.log_recovery.proofs.counts.counts_of.Goals as goal

pub loop-entry-preserved : goal.loop-entry-preserved
loop-entry-preserved c topic queue =
    let entries = c.args.entries.now in
    let i : ℕ = c.loop-entry.entry-index in
    let entry = c.entry-item.result in
    let longer : take (i + 1) entries ≡ take i entries ++ entry ∷ [] = take_or entries i entry c.loop-entry-test.true ∙ ap (λ e. take i entries ++ e ∷ []) (sym c.entry-item.is) in
    c.in_ok-set_count.ensures.counted topic queue ∙ (λ j. cond (bytes_eq (c.as_str.ensures.value j) topic && (entry.1 == queue)) entry.2 (c.loop-entry.invariant topic queue j))
    ∙ sym (with_counts-push (take i entries) entry (λ t q. 0) topic queue) ∙ ap (λ l. counts_in l topic queue) (sym longer)
