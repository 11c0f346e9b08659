use Rattle.std.proofs.Common.{◌≡◌, ◌∙◌, ap, sym, subst, refl, arith, ◌+◌, ◌-◌, ℕ, slice_get, bytes_eq}
use Rattle.std.proofs.lemmas.Slice.Eq.{bytes_eq-Decides}
use Rattle.log_model.specs.Admissible.{level_topic}
use Rattle.delay_view.specs.OfLog.{IsMessageOf}
use Rattle.core_log.proofs.SeenLevelLemmas.{message, unseen, other_seen}
use Rattle.core_log.proofs.dispatch.see_record.Goals as goal

pub overflow_cast-queue : goal.overflow_cast-queue
overflow_cast-queue c =
    let it = c.requires.some in
    let is = it.4 in
    let topic : it.3.topic ≡ level_topic = is.topic ∙ sym (c.topic.ensures is.t is.there) ∙ (bytes_eq-Decides c.topic.result.now level_topic).0 (sym c.eq.ensures ∙ c.if-eq.true) in
    let queue : c.queue.result ≡ it.3.queue = c.queue.ensures is.t is.there ∙ sym is.queue in
    let low = (message it.0 it.1 c.args.table it.2 it.3 c.args.queues.now c.args.levels.now is topic).1 in
    omega (arith, queue, low)

pub overflow_add-queue : goal.overflow_add-queue
overflow_add-queue c =
    let it = c.requires.some in
    let is = it.4 in
    let topic : it.3.topic ≡ level_topic = is.topic ∙ sym (c.topic.ensures is.t is.there) ∙ (bytes_eq-Decides c.topic.result.now level_topic).0 (sym c.eq.ensures ∙ c.if-eq.true) in
    let queue : c.queue.result ≡ it.3.queue = c.queue.ensures is.t is.there ∙ sym is.queue in
    let low = (message it.0 it.1 c.args.table it.2 it.3 c.args.queues.now c.args.levels.now is topic).1 in
    omega (arith, queue, low)

pub see-requires-clause-high : goal.see-requires-clause-high
see-requires-clause-high c =
    let it = c.requires.some in
    let is = it.4 in
    let topic : it.3.topic ≡ level_topic = is.topic ∙ sym (c.topic.ensures is.t is.there) ∙ (bytes_eq-Decides c.topic.result.now level_topic).0 (sym c.eq.ensures ∙ c.if-eq.true) in
    let queue : c.queue.result ≡ it.3.queue = c.queue.ensures is.t is.there ∙ sym is.queue in
    let low = (message it.0 it.1 c.args.table it.2 it.3 c.args.queues.now c.args.levels.now is topic).1 in
    omega (arith, queue, low)

pub see-requires-clause-some : goal.see-requires-clause-some
see-requires-clause-some c l there =
    let it = c.requires.some in
    let is = it.4 in
    let topic : it.3.topic ≡ level_topic = is.topic ∙ sym (c.topic.ensures is.t is.there) ∙ (bytes_eq-Decides c.topic.result.now level_topic).0 (sym c.eq.ensures ∙ c.if-eq.true) in
    let queue : c.queue.result ≡ it.3.queue = c.queue.ensures is.t is.there ∙ sym is.queue in
    let low = (message it.0 it.1 c.args.table it.2 it.3 c.args.queues.now c.args.levels.now is topic).1 in
    let k : c.queue.result + 1 - 1 ≡ it.3.queue = omega (arith, queue) in
    unseen it.0 it.1 c.args.table it.2 it.3 c.args.queues.now c.args.levels.now is it.3.queue l topic refl (ap (λ (n : ℕ). slice_get c.args.levels.now.view n) (sym k) ∙ there)

pub returns-then-eq : goal.returns-then-eq
returns-then-eq c segment d log r is =
    let topic : r.topic ≡ level_topic = is.topic ∙ sym (c.topic.ensures is.t is.there) ∙ (bytes_eq-Decides c.topic.result.now level_topic).0 (sym c.eq.ensures ∙ c.if-eq.true) in
    let queue : c.queue.result ≡ r.queue = c.queue.ensures is.t is.there ∙ sym is.queue in
    let mine = (message segment d c.args.table log r c.args.queues.now c.args.levels.now is topic).0 in
    c.see.ensures log d r is.has is.at (subst (λ (n : ℕ). IsMessageOf (n + 1) r) (sym queue) mine)

pub returns-else-eq : goal.returns-else-eq
returns-else-eq c segment d log r is =
    let topic : r.topic ≡ c.topic.result.now = is.topic ∙ sym (c.topic.ensures is.t is.there) in
    other_seen segment d c.args.table log r c.args.queues.now c.args.levels.now is
    (ap (λ (t : _). bytes_eq t level_topic) topic ∙ sym c.eq.ensures ∙ c.if-eq.false)
