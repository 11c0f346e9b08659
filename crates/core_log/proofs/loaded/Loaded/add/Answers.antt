use Rattle.std.proofs.Common.{◌≡◌, ◌∙◌, refl, ap, sym, subst, ◌≤◌, ◌+◌, ◌++◌, ◌∷◌, [], ℕ, List, length, map, codes, Some, Ok}
use Rattle.std.specs.declared.alloc.AllocError.{AllocError}
use Rattle.record_codec.specs.Props.{value_of}
use Rattle.log_model.specs.Bases.{no_base}
use Rattle.log_model.specs.Keys.{index_keys}
use Rattle.pending_log.specs.Rows.{AreAlike, AreRowsOf}
use Rattle.pending_log.specs.declared.rows.Row.{Row}
use Rattle.queue_view.specs.Tables.{number_of}
use Rattle.client_tables.specs.Counts.{queues_of}
use Rattle.core_log.specs.Loads.{whole_log, own_with}
use Rattle.core_log.proofs.TableLemmas.{room_made, numbers_kept, tabled_kept, to_view, from_view, as_added}
use Rattle.core_log.proofs.LoadLemmas.{loads, real_same, unit_added}
use Rattle.core_log.proofs.loaded.Loaded.add.Goals as goal

pub add-requires-clause-room : goal.add-requires-clause-room
add-requires-clause-room c =
    let table = c.in_ok-table.table in
    let reserved = c.in_ok-table.ensures in
    room_made {E = AllocError} c.args.self.now.queues c.reserve-3.new.self c.topic-topic.result.now c.queue-queue.result table table (Ok table) refl reserved.there reserved.absent reserved.number

pub add_all-requires : goal.add_all-requires
add_all-requires c =
    let keys = index_keys c.args.view.now in
    subst (λ (hashes : List ℕ). length hashes ≤ c.reserve.new.self.spare) (sym c.of_view-2.ensures)
    (subst (λ (n : ℕ). n ≤ c.reserve.new.self.spare) (c.count.ensures ∙ ap (λ (hashes : List ℕ). length hashes) c.of_view.ensures) c.in_ok-reserve.ensures.spare)

pub returns : goal.returns
returns c saved records is =
    let old = c.args.self.now in
    let r = c.args.view.now in
    let row : Row = record { place = c.offset-place.result; size = c.size-size.result; table = c.in_ok-table.table } in
    let mid = c.reserve-3.new.self in
    let topic = c.topic-topic.result.now in
    let queue = c.queue-queue.result in
    let reserved = c.reserve-3.ensures in
    let number : c.end-2.result ≡ old.rows.first + length old.rows.items = c.end-2.ensures.value ∙ ap (λ (n : ℕ). n + length c.reserve-2.new.self.items) c.reserve-2.ensures.first
    ∙ ap (λ (xs : List Row). old.rows.first + length xs) c.reserve-2.ensures.items in
    let own_topics : (other : List ℕ) → queues_of c.know_own.new.topics other ≡ own_with (queues_of old.topics) r.topic r.queue other = λ other.
    c.in_ok-know_own.ensures other ∙ ap (λ (name : List ℕ). own_with (queues_of old.topics) name queue other) c.topic-topic.ensures
    ∙ ap (λ (q : ℕ). own_with (queues_of old.topics) r.topic q other) c.queue-queue.ensures in
    let rows : AreRowsOf (whole_log records) c.reserve-2.new.self = record {
      first = c.reserve-2.ensures.first ∙ is.rows.first;
      items = subst (λ (xs : List Row). AreAlike xs records) (sym c.reserve-2.ensures.items) is.rows.items;
    } in
    let kept = numbers_kept c.reserve-3.result old.queues mid topic queue reserved.there reserved.absent reserved.same in
    let tabled = tabled_kept old.queues mid records old.rows.items kept is.tabled in
    let tables = from_view no_base records 0 mid
    (reserved.records no_base.queues (map as_added records) 0 (to_view no_base records 0 old.queues old.rows.items is.rows.items is.tabled is.queues)) in
    let mine : number_of mid r.topic r.queue ≡ Some row.table = ap (λ (name : List ℕ). number_of mid name r.queue) (sym c.topic-topic.ensures)
    ∙ ap (λ (q : ℕ). number_of mid topic q) (sym c.queue-queue.ensures) ∙ c.in_ok-table.ensures.number in
    loads saved records r old _ row is c.in_ok-know_real.ensures.real
    (c.push.ensures.log (whole_log records) r rows c.offset-place.ensures.value c.size-size.ensures)
    (c.push.ensures.items ∙ ap (λ (xs : List Row). xs ++ row ∷ []) c.reserve-2.ensures.items)
    (unit_added records old.rows.items r row mid c.add.new.self c.unit_of.result c.store-store.result c.unit_of.ensures c.store-store.ensures.value
    is.rows.items tabled tables mine c.add.ensures.table c.add.ensures.records)
    (λ other. c.in_ok-know_real.ensures.topics other
    ∙ real_same (queues_of c.know_own.new.topics) (own_with (queues_of old.topics) r.topic r.queue) own_topics (value_of (codes "REAL_TOPIC") r.props) r other)
    (λ segment log well follows count has. c.in_ok-load.ensures segment log well follows (number ∙ count) has)
    c.in_ok-load-2.ensures
    (λ log has. c.add_all.ensures.records log r (c.reserve.ensures.entries ∙ has) c.of_view-2.ensures c.offset-place.ensures.value c.store-store.ensures.value)
    (ap (λ (n : ℕ). n + c.from.result) c.offset-place.ensures.value ∙ ap (λ (n : ℕ). r.offset + n) (c.from.ensures ∙ c.size-size.ensures))
    c.store-store.ensures.value c.store-store.ensures.low refl
