-- The core with two records more behind the log: a copy of a half message, and the op record of its origin.
use Rattle.std.proofs.Common.{◌≡◌, ◌≢◌, ◌∙◌, ⊎_elim, refl, ap, sym, subst, arith, ℕ, ◌+◌, ◌^◌, ◌<◌, ◌≤◌, false, List, [], ◌∷◌, ◌++◌, length, slice_get, slice_set, Option, Some, None, Result, Ok, Err, OnOk, OnErr, append_assoc}
use Rattle.record_codec.specs.Entry.{Entry}
use Rattle.record_codec.specs.Layout.{IsRecord}
use Rattle.record_codec.specs.Units.{unit_of}
use Rattle.record_codec.specs.Drafts.{entry_of, draft_size}
use Rattle.record_codec.specs.declared.draft.Draft.{Draft}
use Rattle.record_codec.specs.declared.draft.Place.{Place}
use Rattle.log_model.specs.declared.origin.OriginState.{OriginState}
use Rattle.log_model.specs.declared.origin.OriginState.TheVariants.{RolledBack}
use Rattle.log_model.specs.Bases.{geometry}
use Rattle.log_model.specs.Kinds.{is_half}
use Rattle.log_model.specs.Log.{place_after, Follows, IsWellFormed}
use Rattle.log_model.specs.Numbered.{Log, count_of, place_end, with_appended}
use Rattle.log_model.proofs.Places.{end_of-append}
use Rattle.half_view.specs.Halves.{with_settled}
use Rattle.half_view.specs.OfLog.{with_settlement}
use Rattle.queue_view.specs.Tables.{Table, number_of, with_unit, with_room, empty_table}
use Rattle.queue_view.proofs.NumberedLemmas.{number_within}
use Rattle.log_model.proofs.Lists.{option_cases}
use Rattle.core_log.proofs.TableLemmas.{MoreRoom, NewTable, NoTable, there_is, is_its_table}
use Rattle.queue_view.specs.Added.{Added, added_to, AreTablesOf}
use Rattle.pending_log.proofs.LogLemmas.{place_past}
use Rattle.queue_view.proofs.AddedLemmas.{get_set}
use Rattle.pending_log.specs.Parts.{appended}
use Rattle.pending_log.specs.Pending.{IsPendingOf}
use Rattle.pending_log.specs.Tables.{RowTable}
use Rattle.pending_log.specs.Rows.{AreRowsOf}
use Rattle.key_view.specs.Entries.{KeyTable, key_entries}
use Rattle.broker_model.specs.State.{State}
use Rattle.broker_model.specs.Step.{with_records}
use Rattle.core_log.specs.declared.parts.Parts.{Parts}
use Rattle.half_records.specs.declared.halves.Halves.{Halves}
use Rattle.half_records.specs.OfLog.{HasHalves}
use Rattle.core_log.specs.Represents.{Represents}
use Rattle.made_records.specs.Made.{IsOpOf}
use Rattle.core_log.specs.Appends.{MayStand, MayStandBoth, SettlesAs}
use Rattle.core_log.proofs.AppendLemmas.{represents_appended, HasUnit, has_unit, unit_kept}
use Rattle.core_log.proofs.LevelLemmas.{levels_kept, number_is, op_settles}
use Rattle.core_log.proofs.StateLemmasB.{follows, count_with, get_push}

-- what a call that settles a half message promises of the half messages of a log
abbrev pub Settles : Halves → Halves → Option ℕ → OriginState → ℕ → Type 0
Settles old new half how number = (segment : ℕ) (log : Log) (r : Entry) → IsWellFormed (geometry segment log.base) log.records
    → Follows (geometry segment log.base) log.records r → HasHalves log old → is_half r ≡ false
    → with_settlement old.view r (count_of log) ≡ with_settled old.view half how number → HasHalves (with_appended log (r ∷ [])) new

-- a record that settles its origin
origin_settled : (core : Parts) (s : State) (d : Draft) (p : Place) (origin number : ℕ) (how : OriginState) (new : Halves) → Represents core s → MayStand s d p → IsRecord (entry_of d p)
    → SettlesAs core.halves.view origin how (entry_of d p) → number ≡ count_of s.log → Settles core.halves new (Some origin) how number
    → HasHalves (with_appended s.log (entry_of d p ∷ [])) new
origin_settled core s d p origin number how new are may layout is count settled =
    settled s.setup.segment s.log (entry_of d p) are.state.log (follows s d p are.state may layout) are.halves is.half
    (is.settles (count_of s.log) ∙ ap (λ (k : ℕ). with_settled core.halves.view (Some origin) how k) (sym count))

-- two records behind one another are two records more
both_records : (s : State) (time later : ℕ) (r x : Entry) → later ≡ time → with_records (with_records s time (r ∷ [])) later (x ∷ []) ≡ with_records s time (r ∷ x ∷ [])
both_records s time later r x same =
    ap (λ (t : ℕ). with_records (with_records s time (r ∷ [])) t (x ∷ [])) same
    ∙ ap (λ (rs : List Entry). record s { log = record s.log { records = rs }; now = time }) (append_assoc s.log.records (r ∷ []) (x ∷ []))

-- where the second record stands
pub second_place : (s : State) (d : Draft) (p : Place) (e : Draft) (q : Place) → MayStandBoth s d p e q → q.offset ≡ place_after s.setup.segment (p.offset + draft_size d) (draft_size e)
second_place s d p e q may =
    may.second.next.offset ∙ ap (λ (n : ℕ). place_after s.setup.segment n (draft_size e)) (end_of-append s.log.base s.log.records (entry_of d p))

-- the parts with both records
pub represents_two : (old : Parts) (s : State) (d : Draft) (p : Place) (e : Draft) (q : Place) (table other origin number : ℕ) (how : OriginState) (queues queues_too : List Table) (rows rows_too : RowTable) (keys keys_too : KeyTable) (halves halves_too : Halves)
    → Represents old s → MayStandBoth s d p e q → IsRecord (entry_of d p) → IsRecord (entry_of e q)
    → number_of old.queues d.topic d.queue ≡ Some table → number_of old.queues e.topic e.queue ≡ Some other
    → IsPendingOf (with_appended s.log (entry_of d p ∷ [])) (appended old.pending (entry_of d p))
    → IsPendingOf (with_appended (with_appended s.log (entry_of d p ∷ [])) (entry_of e q ∷ [])) (appended (appended old.pending (entry_of d p)) (entry_of e q))
    → HasUnit old.queues table (entry_of d p) queues → HasUnit queues other (entry_of e q) queues_too
    → rows.items ≡ old.rows.items ++ record { place = p.offset; size = draft_size d; table = table } ∷ []
    → rows_too.items ≡ rows.items ++ record { place = q.offset; size = draft_size e; table = other } ∷ []
    → AreRowsOf (with_appended s.log (entry_of d p ∷ [])) rows → AreRowsOf (with_appended (with_appended s.log (entry_of d p ∷ [])) (entry_of e q ∷ [])) rows_too
    → ((log : Log) → old.keys.entries ≡ key_entries log.records → keys.entries ≡ key_entries (log.records ++ entry_of d p ∷ []))
    → ((log : Log) → keys.entries ≡ key_entries log.records → keys_too.entries ≡ key_entries (log.records ++ entry_of e q ∷ []))
    → SettlesAs old.halves.view origin how (entry_of d p) → IsOpOf origin (entry_of e q) → number ≡ old.rows.first + length old.rows.items
    → Settles old.halves halves (Some origin) how number → Settles halves halves_too (Some origin) RolledBack (number + 1)
    → Represents (record old { pending = appended (appended old.pending (entry_of d p)) (entry_of e q); queues = queues_too; rows = rows_too; keys = keys_too; now = q.store; halves = halves_too })
    (with_records s p.store (entry_of d p ∷ entry_of e q ∷ []))
represents_two old s d p e q table other origin number how queues queues_too rows rows_too keys keys_too halves halves_too are may layout layout_too mine mine_too pending pending_too unit unit_too items items_too are_rows are_rows_too indexed indexed_too copy op number_same settled settled_too =
    let r = entry_of d p in
    let x = entry_of e q in
    let count = number_same ∙ number_is old s are in
    let mid : Parts = record old { pending = appended old.pending r; queues = queues; rows = rows; keys = keys; now = p.store; halves = halves; levels = old.levels } in
    let s_mid = with_records s p.store (r ∷ []) in
    let are_mid : Represents mid s_mid = represents_appended old s d p table (appended old.pending r) queues rows keys halves old.levels are may.first layout mine refl pending unit items are_rows (indexed s.log are.keys)
    (record { halves = origin_settled old s d p origin number how halves are may.first layout copy count settled; levels = levels_kept old s d p are copy.other }) in
    let more = count_with s.log r in
    let next : number + 1 ≡ count_of s_mid.log = omega (arith, count, more) in
    let mine_mid = unit_kept old.queues queues table r unit e.topic e.queue other mine_too in
    subst (λ (later : State). Represents (record old { pending = appended (appended old.pending r) x; queues = queues_too; rows = rows_too; keys = keys_too; now = q.store; halves = halves_too }) later)
    (both_records s p.store q.store r x may.time)
    (represents_appended mid s_mid e q other (appended (appended old.pending r) x) queues_too rows_too keys_too halves_too old.levels are_mid may.second layout_too mine_mid refl pending_too unit_too items_too are_rows_too (indexed_too s_mid.log are_mid.keys)
    (record { halves = origin_settled mid s_mid e q origin (number + 1) RolledBack halves_too are_mid may.second layout_too (op_settles halves.view origin x op) next settled_too; levels = levels_kept mid s_mid e q are_mid op.other }))

-- a record's unit was added to its queue's table
pub stood : (old mid : List Table) (d : Draft) (p : Place) (table : ℕ) (new : List Table) → mid ≡ old → number_of old d.topic d.queue ≡ Some table
    → ((t : Table) → slice_get mid table ≡ Some t → (k : ℕ) × (t.spare ≤ k + 1) × (new ≡ slice_set mid table (with_unit t (unit_of (entry_of d p)) p.store k)))
    → ((low : List ℕ → ℕ → ℕ) (added : List Added) (n : ℕ) (t : Table) → AreTablesOf low added n mid → n ≤ length added → slice_get mid table ≡ Some t
    → AreTablesOf low (added ++ added_to t (unit_of (entry_of d p)) p.store ∷ []) n new)
    → HasUnit old table (entry_of d p) new
stood old mid d p table new same mine put records =
    subst (λ (ts : List Table). HasUnit ts table (entry_of d p) new) same
    (has_unit mid new table d.topic d.queue (unit_of (entry_of d p)) (entry_of d p) refl (ap (λ (ts : List Table). number_of ts d.topic d.queue) same ∙ mine) put records)

-- the other table keeps its room
pub room_left : (old new : List Table) (table other : ℕ) (r : Entry) → HasUnit old table r new → table ≢ other → ((t : Table) → slice_get old other ≡ Some t → 0 < t.spare)
    → (t : Table) → slice_get new other ≡ Some t → 0 < t.spare
room_left old new table other r unit apart room t at =
    ⊎_elim (λ (here : (other ≡ table) × (t ≡ with_unit unit.t (unit_of r) r.store unit.spare)). absurd (apart (sym here.0)))
    (λ (elsewhere : (other ≢ table) × (slice_get old other ≡ Some t)). room t elsewhere.1)
    (get_set old other table (with_unit unit.t (unit_of r) r.store unit.spare) t (subst (λ (ts : List Table). slice_get ts other ≡ Some t) unit.is at))

-- there are few rows with one more
pub rows_few_too : (core : Parts) (s : State) (d : Draft) (p : Place) → Represents core s → MayStand s d p → core.rows.first + length core.rows.items + 1 < 2 ^ 62
rows_few_too core s d p are may =
    let count = number_is core s are in
    let few = are.numbers.few in
    let segment = are.state.log.segment.low in
    let place = may.next.offset in
    let past = place_past s.setup.segment (place_end s.log) (draft_size d) (omega (arith, segment)) in
    let low = may.low in
    omega (arith, count, few, past, place, low)

-- the room of one table stays while room is made in another one
pub room_kept : {E : Type 0} (old new : List Table) (topic : List ℕ) (queue k : ℕ) (result : Result ℕ E) → MoreRoom result old new topic queue → NewTable result old new topic queue → NoTable result old new topic queue
    → k < length old → ((t : Table) → slice_get old k ≡ Some t → 0 < t.spare) → (t : Table) → slice_get new k ≡ Some t → 0 < t.spare
room_kept {E = E} old new topic queue k result there absent same low room t at = ⊎_elim
    (λ (none : number_of old topic queue ≡ None). by_result result (absent none) (same none))
    (λ (some : (j : ℕ) × (number_of old topic queue ≡ Some j)).
    let u = there_is old some.0 (number_within old topic queue some.0 some.1) in
    let made = there some.0 u.0 some.1 u.1 in
    ⊎_elim (λ (here : (k ≡ some.0) × (t ≡ with_room u.0 made.0)).
    let spare = ap (λ (x : Table). x.spare) here.1 in
    let before = room u.0 (subst (λ (n : ℕ). slice_get old n ≡ Some u.0) (sym here.0) u.1) in
    let more = made.1 in
    omega (arith, spare, before, more))
    (λ (other : (k ≢ some.0) × (slice_get old k ≡ Some t)). room t other.1)
    (get_set old k some.0 (with_room u.0 made.0) t (subst (λ (ts : List Table). slice_get ts k ≡ Some t) made.3 at)))
    (option_cases (number_of old topic queue))
  where
    by_result : (r : Result ℕ E) → OnOk r ((s : ℕ) × (1 ≤ s) × (new ≡ old ++ empty_table topic queue 0 s ∷ [])) → OnErr r (new ≡ old) → 0 < t.spare
    by_result (Ok n) made kept = ⊎_elim (λ (first : slice_get old k ≡ Some t). room t first)
        (λ (last : (k ≡ length old) × (t ≡ empty_table topic queue 0 made.0)). absurd (let here = last.0 in omega (arith, low, here)))
        (get_push old (empty_table topic queue 0 made.0) t k (subst (λ (ts : List Table). slice_get ts k ≡ Some t) made.2 at))
    by_result (Err fault) made kept = room t (subst (λ (ts : List Table). slice_get ts k ≡ Some t) kept at)

-- queues of two topics have two tables
pub tables_apart : (tables : List Table) (topic other : List ℕ) (queue queue_too k j : ℕ) → number_of tables topic queue ≡ Some k → number_of tables other queue_too ≡ Some j → topic ≢ other → k ≢ j
tables_apart tables topic other queue queue_too k j mine others apart same =
    let t = there_is tables k (number_within tables topic queue k mine) in
    let one = is_its_table tables topic queue k t.0 mine t.1 in
    let two = is_its_table tables other queue_too j t.0 others (subst (λ (n : ℕ). slice_get tables n ≡ Some t.0) same t.1) in
    apart (sym one.0 ∙ two.0)
