use Rattle.std.proofs.Common.{◌≡◌, ◌∙◌, ◌+◌, ◌-◌, sym, subst, ap, arith, ℕ, [], ◌∷◌}
use Rattle.record_codec.specs.Entry.{Entry}
use Rattle.log_model.specs.Admissible.{level_topic}
use Rattle.log_model.specs.Numbered.{queue_max, with_appended}
use Rattle.delay_view.specs.OfLog.{IsMessageOf}
use Rattle.level_records.specs.OfLog.{HasLevels}
use Rattle.level_records.proofs.levels.Levels.load_message.Goals as goal

pub returns : goal.returns
returns c log are next =
    let r = c.args.view.now in
    let same = c.in_ok-whole.ensures next.layout in
    let queue = c.queue-2.ensures in
    let is_queue : r.queue ≡ c.queue-2.result + 1 - 1 = omega (arith, queue) in
    let message = subst (λ (q : ℕ). IsMessageOf (q + 1) r) (sym queue) next.message in
    subst (λ (w : Entry). HasLevels (with_appended log (w ∷ [])) 0 c.add.new.self) same
    (c.add.ensures log 0 (c.in_ok-reserve.ensures.same log 0 are) (omega arith)
    (subst (λ (w : Entry). IsMessageOf (c.queue-2.result + 1) w) (sym same) message)
    (c.queue_offset.ensures.value ∙ next.number ∙ ap (λ (q : ℕ). queue_max log level_topic q) is_queue)
    (c.store.ensures.value ∙ ap (λ (w : Entry). w.store) (sym same)))
