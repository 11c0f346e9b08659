-- Records that a query by key or by id finds: which they are, where they stand, and how many a body takes.
use Rattle.std.proofs.Common.{◌≡◌, ◌≢◌, ⊎_elim, inr, refl, ap, sym, ◌∙◌, subst, arith, ℕ, zero, suc, ◌+◌, ◌-◌, ◌^◌, ◌<◌, ◌≤◌, ◌==◌, nat_lt, nat_le, Bool, true, false, cond, List, [], ◌∷◌, ◌++◌, length, take, drop, filter, reverse, find, sum_by, slice_get, Option, Some, None, ℤ, pos, Vec, Result, IfOk, get_or}
use Rattle.std.proofs.Math.Nat.{eq-or-lt_of_le}
use Rattle.std.proofs.lemmas.Bool.{le-ltb, lt-ltb, le-leb, cases_Bool, cases_lt, leb-true, false_from_ne_true}
use Rattle.std.proofs.lemmas.Bool.Decides.{Decides-eqb}
use Rattle.std.proofs.lemmas.List.{drop_all, map-append, reverse-append, take_all}
use Rattle.std.proofs.lemmas.Option.{get_or_from_slice_get}
use Rattle.std.specs.declared.alloc.Global.{Global}
use Rattle.queue_view.proofs.Lists.{drop_next, map_get}
use Rattle.std.proofs.lemmas.List.Sums.{sum_by-append, sum_by-cons}
use Rattle.record_codec.specs.Entry.{Entry}
use Rattle.record_codec.specs.Layout.{size, layout}
use Rattle.record_codec.specs.declared.unit.Unit.{Unit as QueueUnit}
use Rattle.record_codec.proofs.LayoutLengths.{length-layout}
use Rattle.mq_outside.specs.Covers.{HasRange}
use Rattle.mq_outside.specs.declared.frozen_ranges.FrozenRanges.{FrozenRanges}
use Rattle.log_model.specs.Bases.{geometry}
use Rattle.log_model.specs.Keys.{within, cut_to, hash_of, is_match, asked_number, newest_with_key, query_of}
use Rattle.pending_log.specs.declared.rows.Row.{Row}
use Rattle.pending_log.specs.Rows.{AreAlike}
use Rattle.pending_log.proofs.Lists.{some_one, get_there}
use Rattle.pending_log.proofs.LogLemmas.{places_rise}
use Rattle.key_view.specs.Entries.{AreRising, newest_records}
use Rattle.key_view.proofs.QueryLemmas.{map-reverse}
use Rattle.reply_fields.specs.Parts.{ReplyParts}
use Rattle.reply_fields.specs.Slices.{body_len}
use Rattle.reply_fields.specs.declared.slice.Slice.{Slice}
use Rattle.reply_fields.specs.declared.slice.Slice.TheVariants.{Held, Kept}
use Rattle.broker_model.specs.State.{State, seen}
use Rattle.broker_model.specs.Refusals.{plain_reply}
use Rattle.broker_model.specs.Answers.{found_reply, viewed, view_found}
use Rattle.broker_events.specs.Replies.{IsSliceOf, AreSlicesOf, IsReplyOf}
use Rattle.core_log.specs.declared.parts.Parts.{Parts}
use Rattle.broker_core.specs.Queries.{AreIn, IsIn, IsSeenEnd, bare_unit, bare_units, places_of}
use Rattle.broker_core.specs.Reads.{IsSliceAt, AreSlicesAt}
use Rattle.core_log.specs.Represents.{Represents}
use Rattle.broker_core.proofs.PullLemmas.{Each, IsTold, body_size, each_append, each_filter, each_get, each_of, few_bytes, get_take}

-- ---- the places of records

-- each record stands behind those before it
pub rises : (core : Parts) (s : State) → Represents core s → AreRising s.log.records
rises core s are i j a b less at there =
    let up = places_rise (geometry s.setup.segment s.log.base) s.log.records are.state.log i j a b less at there in
    let some : 0 < size a = omega arith in
    omega (arith, up, some)

rest_rises : (r : Entry) (records : List Entry) → AreRising (r ∷ records) → AreRising records
rest_rises r records rising i j a b less at there = rising (suc i) (suc j) a b (omega (arith, less)) at there

-- the first of them stands before all others
first_least : (r : Entry) (records : List Entry) → AreRising (r ∷ records) → (k : ℕ) (x : Entry) → slice_get (r ∷ records) k ≡ Some x → r.offset ≤ x.offset
first_least r records rising zero x at = let same = ap (λ (e : Entry). e.offset) (some_one at) in omega (arith, same)
first_least r records rising (suc k) x at = let less = rising 0 (suc k) r x (omega arith) refl at in omega (arith, less)

-- two records at one place are one
pub one_place : (records : List Entry) → AreRising records → (i j : ℕ) (a b : Entry) → slice_get records i ≡ Some a → slice_get records j ≡ Some b → a.offset ≡ b.offset → i ≡ j
one_place records rising i j a b at there same =
    ⊎_elim (λ (less : i < j). absurd (let up = rising i j a b less at there in omega (arith, up, same)))
    (λ (most : j ≤ i). ⊎_elim (λ (is : j ≡ i). sym is) (λ (less : j < i). absurd (let up = rising j i b a less there at in omega (arith, up, same))) (eq-or-lt_of_le most))
    (cases_lt i j)

pub same_record : (records : List Entry) → AreRising records → (i j : ℕ) (a b : Entry) → slice_get records i ≡ Some a → slice_get records j ≡ Some b → a.offset ≡ b.offset → a ≡ b
same_record records rising i j a b at there same =
    some_one (sym at ∙ ap (λ k. slice_get records k) (one_place records rising i j a b at there same) ∙ there)

-- the record of a row
pub alike_get : (rows : List Row) (records : List Entry) (k : ℕ) (row : Row) → AreAlike rows records → slice_get rows k ≡ Some row
    → (r : Entry) × (slice_get records k ≡ Some r) × (row.place ≡ r.offset) × (row.size ≡ size r)
alike_get [] records k row alike at = cc at
alike_get (x ∷ rows) [] k row alike at = absurd alike
alike_get (x ∷ rows) (r ∷ records) zero row alike at =
    let same : row ≡ x = sym (some_one at) in
    (r, refl, ap (λ (y : Row). y.place) same ∙ alike.0, ap (λ (y : Row). y.size) same ∙ alike.1)
alike_get (x ∷ rows) (r ∷ records) (suc k) row alike at = alike_get rows records k row alike.2 at

-- the row of a record
pub alike_row : (rows : List Row) (records : List Entry) (k : ℕ) (r : Entry) → AreAlike rows records → slice_get records k ≡ Some r
    → (row : Row) × (slice_get rows k ≡ Some row) × (row.place ≡ r.offset) × (row.size ≡ size r)
alike_row rows [] k r alike at = cc at
alike_row [] (x ∷ records) k r alike at = absurd alike
alike_row (row ∷ rows) (x ∷ records) zero r alike at =
    let same : x ≡ r = some_one at in
    (row, refl, alike.0 ∙ ap (λ (y : Entry). y.offset) same, alike.1 ∙ ap (λ (y : Entry). size y) same)
alike_row (row ∷ rows) (x ∷ records) (suc k) r alike at = alike_row rows records k r alike.2 at

-- ---- what consumers see

-- none stands before a place that is before all
none_below : (place : ℕ) (records : List Entry) → ((k : ℕ) (r : Entry) → slice_get records k ≡ Some r → place ≤ r.offset) → filter (λ (r : Entry). nat_lt r.offset place) records ≡ []
none_below place [] past = refl
none_below place (r ∷ records) past =
    let rest = filter (λ (x : Entry). nat_lt x.offset place) records in
    ap (λ (b : Bool). cond b (r ∷ rest) rest) (le-ltb r.offset place (past 0 r refl)) ∙ none_below place records (λ k x at. past (suc k) x at)

-- those before the place of a record are those before it
below_record : (records : List Entry) (n : ℕ) (q : Entry) → AreRising records → slice_get records n ≡ Some q → filter (λ (r : Entry). nat_lt r.offset q.offset) records ≡ take n records
below_record [] n q rising at = cc at
below_record (r ∷ records) zero q rising at =
    none_below q.offset (r ∷ records) (λ k x there.
    let same = ap (λ (e : Entry). e.offset) (some_one at) in let least = first_least r records rising k x there in omega (arith, same, least))
below_record (r ∷ records) (suc n) q rising at =
    let rest = filter (λ (x : Entry). nat_lt x.offset q.offset) records in
    ap (λ (b : Bool). cond b (r ∷ rest) rest) (lt-ltb r.offset q.offset (rising 0 (suc n) r q (omega arith) refl at))
    ∙ ap (λ (rs : List Entry). r ∷ rs) (below_record records n q (rest_rises r records rising) at)

-- all stand before a place that is past all
all_below : (place : ℕ) (records : List Entry) → ((k : ℕ) (r : Entry) → slice_get records k ≡ Some r → r.offset < place) → filter (λ (r : Entry). nat_lt r.offset place) records ≡ records
all_below place [] before = refl
all_below place (r ∷ records) before =
    let rest = filter (λ (x : Entry). nat_lt x.offset place) records in
    ap (λ (b : Bool). cond b (r ∷ rest) rest) (lt-ltb r.offset place (before 0 r refl))
    ∙ ap (λ (rs : List Entry). r ∷ rs) (all_below place records (λ k x at. before (suc k) x at))

-- the place of the first record that isn't seen
pub seen_to_row : (core : Parts) (s : State) (row : Row) → Represents core s → slice_get core.rows.items (core.dispatched - core.rows.first) ≡ Some row → IsSeenEnd s row.place
seen_to_row core s row are at =
    let n = s.dispatched - s.log.base.records in
    let index : core.dispatched - core.rows.first ≡ n = ap (λ k. k - core.rows.first) are.numbers.dispatched ∙ ap (λ k. s.dispatched - k) are.rows.first in
    let there = alike_get core.rows.items s.log.records n row are.rows.items (subst (λ k. slice_get core.rows.items k ≡ Some row) index at) in
    ap (λ (place : ℕ). filter (λ (r : Entry). nat_lt r.offset place) s.log.records) there.2 ∙ below_record s.log.records n there.0 (rises core s are) there.1

-- where all are seen, any place past all places
pub seen_all : (core : Parts) (s : State) → Represents core s → core.rows.first + length core.rows.items ≤ core.dispatched → IsSeenEnd s 18446744073709551615
seen_all core s are past =
    let n = s.dispatched - s.log.base.records in
    let first = are.rows.first in
    let dispatched = are.numbers.dispatched in
    let long = same_length core.rows.items s.log.records are.rows.items in
    all_below 18446744073709551615 s.log.records (λ k r at. let low = (are.state.log.each k r at).low in omega (arith, low))
    ∙ sym (take_all n s.log.records (omega (arith, first, dispatched, long, past)))
  where
    same_length : (rows : List Row) (records : List Entry) → AreAlike rows records → length rows ≡ length records
    same_length [] [] alike = refl
    same_length [] (r ∷ records) alike = absurd alike
    same_length (row ∷ rows) [] alike = absurd alike
    same_length (row ∷ rows) (r ∷ records) alike = ap (λ n. suc n) (same_length rows records alike.2)

-- ---- how many a body takes

-- the front of so many records is what fits
pub front_within : (room : ℕ) (records : List Entry) → take (length (within room records)) records ≡ within room records
front_within room [] = refl
front_within room (r ∷ records) =
    elim (nat_le (size r) room) as (λ b. take (length (cond b (r ∷ within (room - size r) records) [])) (r ∷ records) ≡ cond b (r ∷ within (room - size r) records) []) [
      | true ↦ ap (λ (rs : List Entry). r ∷ rs) (front_within (room - size r) records)
      | false ↦ refl
    ]

pub front_cut : (room : ℕ) (records : List Entry) → take (length (cut_to room records)) records ≡ cut_to room records
front_cut room [] = refl
front_cut room (r ∷ records) = ap (λ (rs : List Entry). r ∷ rs) (front_within (room - size r) records)

-- what fits has no more bytes than there is room
within_bytes : (room : ℕ) (records : List Entry) → sum_by size (within room records) ≤ room
within_bytes room [] = omega arith
within_bytes room (r ∷ records) = ⊎_elim
    (λ (fits : nat_le (size r) room ≡ true).
    subst (λ (b : Bool). sum_by size (cond b (r ∷ within (room - size r) records) []) ≤ room) (sym fits)
    (let low = leb-true (size r) room fits in let rest = within_bytes (room - size r) records in let all = sum_by-cons size r (within (room - size r) records) in omega (arith, low, rest, all)))
    (λ (past : nat_le (size r) room ≡ false). subst (λ (b : Bool). sum_by size (cond b (r ∷ within (room - size r) records) []) ≤ room) (sym past) (omega arith))
    (cases_Bool (nat_le (size r) room))

-- a body has few bytes where each record is small
pub cut_bytes : (records : List Entry) → ((k : ℕ) (r : Entry) → slice_get records k ≡ Some r → size r < 2 ^ 30) → sum_by size (cut_to 8388608 records) < 2 ^ 30
cut_bytes [] small = omega arith
cut_bytes (r ∷ records) small =
    let first = small 0 r refl in
    let rest = within_bytes (8388608 - size r) records in
    let all = sum_by-cons size r (within (8388608 - size r) records) in
    omega (arith, first, rest, all)

-- ---- lists of units

bare-take : (n : ℕ) (records : List Entry) → take n (bare_units records) ≡ bare_units (take n records)
bare-take zero records = refl
bare-take (suc n) [] = refl
bare-take (suc n) (r ∷ records) = ap (λ (us : List QueueUnit). bare_unit r ∷ us) (bare-take n records)

-- those that a body takes, in the order of the log
pub units_taken : (units cut : List QueueUnit) (n : ℕ) (records : List Entry) → units ≡ bare_units records → cut ≡ take n units → n ≡ length (cut_to 8388608 records)
    → reverse cut ≡ bare_units (reverse (cut_to 8388608 records))
units_taken units cut n records are cut_is many =
    ap reverse (cut_is ∙ ap (λ (us : List QueueUnit). take n us) are ∙ bare-take n records
    ∙ ap (λ k. bare_units (take k records)) many ∙ ap bare_units (front_cut 8388608 records))
    ∙ sym (map-reverse bare_unit (cut_to 8388608 records))

-- one unit more
pub units_next : (units new : List QueueUnit) (records : List Entry) (i : ℕ) (r : Entry) (unit : QueueUnit) → units ≡ bare_units (take i records) → slice_get records i ≡ Some r → unit ≡ bare_unit r
    → new ≡ units ++ unit ∷ [] → new ≡ bare_units (take (i + 1) records)
units_next units new records i r unit are at is new_is =
    new_is ∙ ap (λ (us : List QueueUnit). us ++ unit ∷ []) are ∙ ap (λ (u : QueueUnit). bare_units (take i records) ++ u ∷ []) is
    ∙ sym (map-append bare_unit (take i records) (r ∷ []))
    ∙ ap bare_units (sym (next records i r at) ∙ ap (λ n. take n records) (let e : suc i ≡ i + 1 = omega arith in e))
  where
    next : (xs : List Entry) (n : ℕ) (x : Entry) → slice_get xs n ≡ Some x → take (suc n) xs ≡ take n xs ++ x ∷ []
    next [] n x at = cc at
    next (y ∷ xs) zero x at = ap (λ (z : Entry). z ∷ []) (some_one at)
    next (y ∷ xs) (suc n) x at = ap (λ (zs : List Entry). y ∷ zs) (next xs n x at)

-- ---- where the records stand

-- a record that consumers see is on the disk
pub told_seen : (core : Parts) (s : State) (k : ℕ) (r : Entry) → Represents core s → k < s.dispatched - s.log.base.records → slice_get s.log.records k ≡ Some r → IsTold core.stored r
told_seen core s k r are below at =
    let dispatched = are.state.dispatched in
    let room = (are.state.log.each k r at).room in
    let high = are.state.log.segment.high in
    record { covered = are.stored.each k r (omega (arith, below, dispatched)) at; small = omega (arith, room, high) }

slice_bare : (stored : FrozenRanges) (slice : Slice) (r : Entry) → IsSliceAt stored slice (bare_unit r) → IsTold stored r → IsSliceOf slice r
slice_bare stored (Held bytes) r is told = is
slice_bare stored (Kept range) r is told = record { place = is.0; len = is.1; held = is.2 (layout r) (length-layout r) told.covered.held }

pub slices_bare : (stored : FrozenRanges) (slices : List Slice) (rs : List Entry) → AreSlicesAt stored slices (bare_units rs) → Each (IsTold stored) rs → AreSlicesOf slices rs
slices_bare stored [] [] are told = tt
slices_bare stored [] (r ∷ rs) are told = are
slices_bare stored (slice ∷ slices) [] are told = are
slices_bare stored (slice ∷ slices) (r ∷ rs) are told = (slice_bare stored slice r are.0 told.0, slices_bare stored slices rs are.1 told.1)

pub ranges_bare : (stored : FrozenRanges) (rs : List Entry) → Each (IsTold stored) rs → Each (λ (u : QueueUnit). HasRange stored.pieces.items u.offset u.size) (bare_units rs)
ranges_bare stored [] told = tt
ranges_bare stored (r ∷ rs) told = (told.0.covered.range, ranges_bare stored rs told.1)

-- ---- a query by id

-- the record at a place, where there is one
pub found_at : (records : List Entry) (k : ℕ) (r : Entry) (place : ℕ) → AreRising records → slice_get records k ≡ Some r → r.offset ≡ place → find (λ (x : Entry). x.offset == place) records ≡ Some r
found_at [] k r place rising at is = cc at
found_at (x ∷ records) zero r place rising at is =
    let same : x ≡ r = some_one at in
    let here : (x.offset == place) ≡ true = (Decides-eqb x.offset place).1 (ap (λ (e : Entry). e.offset) same ∙ is) in
    ap (λ (b : Bool). cond b (Some x) (find (λ (y : Entry). y.offset == place) records)) here ∙ ap (λ (e : Entry). Some e) same
found_at (x ∷ records) (suc k) r place rising at is =
    let less = rising 0 (suc k) x r (omega arith) refl at in
    let other : (x.offset == place) ≡ false = false_from_ne_true (x.offset == place) (λ t. let same = (Decides-eqb x.offset place).0 t in let none : ⊥ = omega (arith, same, is, less) in none) in
    ap (λ (b : Bool). cond b (Some x) (find (λ (y : Entry). y.offset == place) records)) other ∙ found_at records k r place (rest_rises x records rising) at is

-- or none
pub none_at : (records : List Entry) (place : ℕ) → ((k : ℕ) (r : Entry) → slice_get records k ≡ Some r → r.offset ≢ place) → find (λ (x : Entry). x.offset == place) records ≡ None
none_at [] place other = refl
none_at (x ∷ records) place other =
    let here : (x.offset == place) ≡ false = false_from_ne_true (x.offset == place) (λ t. other 0 x refl ((Decides-eqb x.offset place).0 t)) in
    ap (λ (b : Bool). cond b (Some x) (find (λ (y : Entry). y.offset == place) records)) here ∙ none_at records place (λ k r at. other (suc k) r at)

-- ---- a query by key

-- the newest records of those before the end of what is seen
pub keyed_are : {E : Type 0} (s : State) (hash end : ℕ) (from to most : ℤ) (topic key : List ℕ) (result : Result (Vec ℕ Global) E) → hash ≡ hash_of topic key → IsSeenEnd s end
    → IfOk result (λ places. places.items ≡ places_of (newest_records hash from to most end s.log.records))
    → IfOk result (λ places. places.items ≡ places_of (newest_with_key (seen s).records topic key from to most))
keyed_are s hash end from to most topic key result is_hash is_end told =
    let before = filter (λ (r : Entry). nat_lt r.offset end) s.log.records in
    let same : newest_records hash from to most end s.log.records ≡ newest_with_key (seen s).records topic key from to most =
    ap (λ (h : ℕ). take (asked_number 64 most) (reverse (filter (is_match h from to) before))) is_hash
    ∙ ap (λ (rs : List Entry). take (asked_number 64 most) (reverse (filter (is_match (hash_of topic key) from to) rs))) is_end in
    subst (λ (rs : List Entry). IfOk result (λ places. places.items ≡ places_of rs)) same told

-- the unit of a record, by its row
pub unit_is : (core : Parts) (s : State) (r : Entry) (j : ℕ) (row : Row) (unit : QueueUnit) → Represents core s → IsIn s r → slice_get core.rows.items j ≡ Some row → row.place ≡ r.offset
    → unit ≡ record { offset = row.place; size = row.size; tag = pos 0 } → unit ≡ bare_unit r
unit_is core s r j row unit are there at same is =
    let found = alike_get core.rows.items s.log.records j row are.rows.items at in
    let one : found.0 ≡ r = same_record s.log.records (rises core s are) j there.0 found.0 r found.1 there.1 (sym found.2 ∙ same) in
    is
    ∙ ap (λ (place : ℕ). record { offset = place; size = row.size; tag = pos 0 }) same
    ∙ ap (λ (n : ℕ). record { offset = r.offset; size = n; tag = pos 0 }) (found.3 ∙ ap (λ (x : Entry). size x) one)

-- it has one
pub has_row : (core : Parts) (s : State) (r : Entry) (place : ℕ) → Represents core s → IsIn s r → r.offset ≡ place → ((k : ℕ) (row : Row) → slice_get core.rows.items k ≡ Some row → row.place ≢ place) → ⊥
has_row core s r place are there is absent =
    let row = alike_row core.rows.items s.log.records there.0 r are.rows.items there.1 in
    absent there.0 row.0 row.1 (row.2 ∙ is)

-- ---- counting

at_unit : (units : List QueueUnit) (records : List Entry) (k : ℕ) (d : QueueUnit) → units ≡ bare_units records → k < length units
    → (r : Entry) × (drop k records ≡ r ∷ drop (suc k) records) × (size r ≡ (get_or units k d).size)
at_unit units records k d are low =
    let long : length units ≡ length records = ap length are ∙ same_len records in
    let at = get_there records k (omega (arith, low, long)) in
    let unit : get_or units k d ≡ bare_unit at.0 =
    ap (λ (us : List QueueUnit). get_or us k d) are ∙ get_or_from_slice_get (bare_units records) k (bare_unit at.0) d (map_get bare_unit records k at.0 at.1) in
    (at.0, drop_next records k at.0 at.1, sym (ap (λ (u : QueueUnit). u.size) unit))
  where
    same_len : (rs : List Entry) → length (bare_units rs) ≡ length rs
    same_len [] = refl
    same_len (r ∷ rs) = ap (λ n. suc n) (same_len rs)

-- so many were counted, and so many bytes are left for the rest
abbrev pub IsCounted : ℕ → List Entry → ℕ → ℕ → Type 0
IsCounted room records k left = length (within room records) ≡ k + length (within left (drop k records))

-- the next one doesn't fit
pub stops_at : (units : List QueueUnit) (records : List Entry) (room left k : ℕ) (d : QueueUnit) → units ≡ bare_units records → k < length units → IsCounted room records k left
    → left < (get_or units k d).size → k ≡ length (within room records)
stops_at units records room left k d are low counted past =
    let at = at_unit units records k d are low in
    let n = at.2 in
    let none : length (within left (drop k records)) ≡ 0 = ap (λ (rs : List Entry). length (within left rs)) at.1
    ∙ ap (λ (b : Bool). length (cond b (at.0 ∷ within (left - size at.0) (drop (suc k) records)) [])) (false_from_ne_true (nat_le (size at.0) left) (λ fits. let le = leb-true (size at.0) left fits in let no : ⊥ = omega (arith, le, n, past) in no)) in
    omega (arith, counted, none)

-- it fits
pub counts_on : (units : List QueueUnit) (records : List Entry) (room left k : ℕ) (d : QueueUnit) → units ≡ bare_units records → k < length units → IsCounted room records k left
    → (get_or units k d).size ≤ left → IsCounted room records (k + 1) (left - (get_or units k d).size)
counts_on units records room left k d are low counted fits =
    let at = at_unit units records k d are low in
    let n = at.2 in
    let next : suc k ≡ k + 1 = omega arith in
    let more : length (within left (drop k records)) ≡ suc (length (within (left - size at.0) (drop (suc k) records))) = ap (λ (rs : List Entry). length (within left rs)) at.1
    ∙ ap (λ (b : Bool). length (cond b (at.0 ∷ within (left - size at.0) (drop (suc k) records)) [])) (le-leb (size at.0) left (omega (arith, n, fits))) in
    let same : length (within (left - size at.0) (drop (suc k) records)) ≡ length (within (left - (get_or units k d).size) (drop (k + 1) records)) =
    ap (λ (m : ℕ). length (within (left - m) (drop (suc k) records))) n ∙ ap (λ (m : ℕ). length (within (left - (get_or units k d).size) (drop m records))) next in
    omega (arith, counted, more, same)

-- all are counted
pub counts_all : (units : List QueueUnit) (records : List Entry) (room left k : ℕ) → units ≡ bare_units records → length units ≤ k → k ≤ length units → IsCounted room records k left → length units ≡ length (within room records)
counts_all units records room left k are past most counted =
    let long : length units ≡ length records = ap length are ∙ same_len records in
    let none : length (within left (drop k records)) ≡ 0 = ap (λ (rs : List Entry). length (within left rs)) (drop_all k records (omega (arith, long, past))) in
    omega (arith, counted, none, past, most)
  where
    same_len : (rs : List Entry) → length (bare_units rs) ≡ length rs
    same_len [] = refl
    same_len (r ∷ rs) = ap (λ n. suc n) (same_len rs)

-- the first of them is taken in any case, and those after it that fit
pub taken_some : (units : List QueueUnit) (records : List Entry) (first : QueueUnit) (rest : List QueueUnit) (n room : ℕ) → units ≡ first ∷ rest → units ≡ bare_units records
    → room ≡ 8388608 - first.size → ((rs : List Entry) → rest ≡ bare_units rs → n ≡ length (within room rs)) → 1 + n ≡ length (cut_to 8388608 records)
taken_some units [] first rest n room split are is many = cc (sym split ∙ are)
taken_some units (r ∷ rs) first rest n room split are is many =
    let same : first ∷ rest ≡ bare_unit r ∷ bare_units rs = sym split ∙ are in
    let head : first ≡ bare_unit r = cc same in
    let tail : rest ≡ bare_units rs = cc same in
    let left : room ≡ 8388608 - size r = is ∙ ap (λ (u : QueueUnit). 8388608 - u.size) head in
    let counted : n ≡ length (within (8388608 - size r) rs) = many rs tail ∙ ap (λ (k : ℕ). length (within k rs)) left in
    omega (arith, counted)

-- nothing is taken of nothing
pub taken_none : (units : List QueueUnit) (records : List Entry) → length units ≡ 0 → units ≡ bare_units records → 0 ≡ length (cut_to 8388608 records)
taken_none units [] none are = refl
taken_none units (r ∷ rs) none are = let long : length units ≡ suc (length (bare_units rs)) = ap length are in absurd (omega (arith, none, long))

-- ---- what is found

-- a record of the log that is on the disk
pub record IsFound (core : Parts) (s : State) (r : Entry) : Type 0 where
  pub told : IsTold core.stored r
  pub there : IsIn s r

each_take : {A : Type 0} (P : A → Type 0) (n : ℕ) (xs : List A) → Each P xs → Each P (take n xs)
each_take P zero xs all = tt
each_take P (suc n) [] all = tt
each_take P (suc n) (x ∷ xs) all = (all.0, each_take P n xs all.1)

each_reverse : {A : Type 0} (P : A → Type 0) (xs : List A) → Each P xs → Each P (reverse xs)
each_reverse P [] all = tt
each_reverse P (x ∷ xs) all =
    subst (λ (ys : List _). Each P ys) (sym (reverse-append (x ∷ []) xs)) (each_append P (reverse xs) (x ∷ []) (each_reverse P xs all.1) (all.0, tt))

-- each record that consumers see is found
pub seen_found : (core : Parts) (s : State) → Represents core s → Each (IsFound core s) (seen s).records
seen_found core s are =
    let n = s.dispatched - s.log.base.records in
    each_of (IsFound core s) (take n s.log.records) (λ k r at.
    let there = get_take s.log.records n k r at in
    record { told = told_seen core s k r are there.0 there.1; there = (k, there.1) })

-- and so is each of the newest with a key
pub newest_found : (core : Parts) (s : State) (topic key : List ℕ) (from to most : ℤ) → Represents core s → Each (IsFound core s) (newest_with_key (seen s).records topic key from to most)
newest_found core s topic key from to most are =
    let kept = filter (is_match (hash_of topic key) from to) (seen s).records in
    each_take (IsFound core s) (asked_number 64 most) (reverse kept)
    (each_reverse (IsFound core s) kept (each_filter (IsFound core s) (is_match (hash_of topic key) from to) (seen s).records (seen_found core s are)))

pub found_in : (core : Parts) (s : State) (records : List Entry) → Each (IsFound core s) records → AreIn s records
found_in core s records all k r at = (each_get (IsFound core s) records all k r at).there

found_told : (core : Parts) (s : State) (records : List Entry) → Each (IsFound core s) records → Each (IsTold core.stored) records
found_told core s [] all = tt
found_told core s (r ∷ records) all = (all.0.told, found_told core s records all.1)

cut_found : (core : Parts) (s : State) (records : List Entry) → Each (IsFound core s) records → Each (IsFound core s) (cut_to 8388608 records)
cut_found core s records all =
    subst (λ (rs : List Entry). Each (IsFound core s) rs) (front_cut 8388608 records) (each_take (IsFound core s) (length (cut_to 8388608 records)) records all)

-- what a query finds is on the disk
pub query_told : (core : Parts) (s : State) (topic key : List ℕ) (from to most : ℤ) → Represents core s → Each (IsTold core.stored) (query_of (seen s).records topic key from to most)
query_told core s topic key from to most are =
    let newest = newest_with_key (seen s).records topic key from to most in
    found_told core s (reverse (cut_to 8388608 newest))
    (each_reverse (IsFound core s) (cut_to 8388608 newest) (cut_found core s newest (newest_found core s topic key from to most are)))

told_ranges : (stored : FrozenRanges) (units : List QueueUnit) (rs : List Entry) → units ≡ bare_units rs → Each (IsTold stored) rs
    → (k : ℕ) (unit : QueueUnit) → slice_get units k ≡ Some unit → HasRange stored.pieces.items unit.offset unit.size
told_ranges stored units rs is told =
    each_get (λ (u : QueueUnit). HasRange stored.pieces.items u.offset u.size) units
    (subst (λ (us : List QueueUnit). Each (λ (u : QueueUnit). HasRange stored.pieces.items u.offset u.size) us) (sym is) (ranges_bare stored rs told))

-- each unit of what a query finds has its range on the disk
pub query_ranges : (core : Parts) (s : State) (topic key : List ℕ) (from to most : ℤ) (units : List QueueUnit) → Represents core s → units ≡ bare_units (query_of (seen s).records topic key from to most)
    → (k : ℕ) (unit : QueueUnit) → slice_get units k ≡ Some unit → HasRange core.stored.pieces.items unit.offset unit.size
query_ranges core s topic key from to most units are is =
    told_ranges core.stored units (query_of (seen s).records topic key from to most) is (query_told core s topic key from to most are)

sum-reverse : (rs : List Entry) → sum_by size (reverse rs) ≡ sum_by size rs
sum-reverse [] = refl
sum-reverse (r ∷ rs) =
    let parts = ap (λ (xs : List Entry). sum_by size xs) (reverse-append (r ∷ []) rs) ∙ sum_by-append size (reverse rs) (r ∷ []) in
    let one = sum_by-cons size r [] in
    let all = sum_by-cons size r rs in
    let rest = sum-reverse rs in
    omega (arith, parts, one, all, rest)

-- and few bytes
pub query_bytes : (core : Parts) (s : State) (topic key : List ℕ) (from to most : ℤ) (slices : List Slice) → Represents core s → AreSlicesOf slices (query_of (seen s).records topic key from to most) → body_len slices < 2 ^ 30
query_bytes core s topic key from to most slices are of =
    let newest = newest_with_key (seen s).records topic key from to most in
    let all = newest_found core s topic key from to most are in
    let low = cut_bytes newest (λ k r at. (each_get (IsFound core s) newest all k r at).told.small) in
    let total = body_size slices (reverse (cut_to 8388608 newest)) of in
    let same = sum-reverse (cut_to 8388608 newest) in
    omega (arith, low, total, same)

-- ---- the reply

-- nothing is found
pub found_none : (ext : List (List ℕ × List ℕ)) (slices : List Slice) (records : List Entry) → length slices ≡ 0 → AreSlicesOf slices records → plain_reply 22 [] ≡ found_reply ext records
found_none ext [] [] none are = refl
found_none ext [] (r ∷ records) none are = absurd are
found_none ext (x ∷ slices) records none are = absurd (omega (arith, none))

-- something is
pub found_some : (reply : ReplyParts) (records : List Entry) → reply.code ≡ pos 0 → reply.remark ≡ [] → 0 < length reply.body → AreSlicesOf reply.body records → IsReplyOf reply (found_reply reply.ext records)
found_some reply [] code remark some are = absurd (none_of reply.body some are)
  where
    none_of : (slices : List Slice) → 0 < length slices → AreSlicesOf slices [] → ⊥
    none_of [] some are = omega (arith, some)
    none_of (x ∷ slices) some are = are
found_some reply (r ∷ records) code remark some are = record { code = code; remark = remark; ext = refl; body = are }

-- the record at a place of a list
pub place_at : (places : List ℕ) (records : List Entry) (i d : ℕ) → places ≡ places_of records → i < length places → (r : Entry) × (slice_get records i ≡ Some r) × (r.offset ≡ get_or places i d)
place_at places records i d are low =
    let long : length places ≡ length records = ap length are ∙ same_len records in
    let at = get_there records i (omega (arith, low, long)) in
    let place : get_or places i d ≡ at.0.offset =
    ap (λ (ps : List ℕ). get_or ps i d) are ∙ get_or_from_slice_get (places_of records) i at.0.offset d (map_get (λ (r : Entry). r.offset) records i at.0 at.1) in
    (at.0, at.1, sym place)
  where
    same_len : (rs : List Entry) → length (places_of rs) ≡ length rs
    same_len [] = refl
    same_len (r ∷ rs) = ap (λ n. suc n) (same_len rs)

-- all of a list
pub units_all : (units : List QueueUnit) (places : List ℕ) (records : List Entry) (i : ℕ) → places ≡ places_of records → length places ≤ i → units ≡ bare_units (take i records) → units ≡ bare_units records
units_all units places records i are past is = is ∙ ap bare_units (take_all i records (let long = ap length are in let same = same_len records in omega (arith, long, same, past)))
  where
    same_len : (rs : List Entry) → length (places_of rs) ≡ length rs
    same_len [] = refl
    same_len (r ∷ rs) = ap (λ n. suc n) (same_len rs)

-- ---- a query by id, of what consumers see

in_take : {A : Type 0} (xs : List A) (n k : ℕ) (x : A) → k < n → slice_get xs k ≡ Some x → slice_get (take n xs) k ≡ Some x
in_take xs zero k x low at = absurd (let none : ⊥ = omega (arith, low) in none)
in_take [] (suc n) k x low at = cc at
in_take (y ∷ xs) (suc n) zero x low at = at
in_take (y ∷ xs) (suc n) (suc k) x low at = in_take xs n k x (omega (arith, low)) at

-- what consumers see stands in its order
seen_rises : (core : Parts) (s : State) → Represents core s → AreRising (seen s).records
seen_rises core s are i j a b less at there =
    let n = s.dispatched - s.log.base.records in
    rises core s are i j a b less (get_take s.log.records n i a at).1 (get_take s.log.records n j b there).1

-- no record begins at the place
pub view_absent : (core : Parts) (s : State) (place : ℕ) → Represents core s → ((k : ℕ) (row : Row) → slice_get core.rows.items k ≡ Some row → row.place ≢ place)
    → [] ≡ bare_units (viewed (seen s).records place)
view_absent core s place are absent =
    let n = s.dispatched - s.log.base.records in
    sym (ap (λ (o : Option Entry). bare_units (view_found o)) (none_at (seen s).records place (λ k r at same.
    has_row core s r place are (k, (get_take s.log.records n k r at).1) same absent)))

-- one does that consumers don't see yet
pub view_unseen : (core : Parts) (s : State) (place number : ℕ) (row : Row) → Represents core s → core.rows.first ≤ number → slice_get core.rows.items (number - core.rows.first) ≡ Some row
    → row.place ≡ place → core.dispatched ≤ number → [] ≡ bare_units (viewed (seen s).records place)
view_unseen core s place number row are from at is past =
    let n = s.dispatched - s.log.base.records in
    let first = are.rows.first in
    let dispatched = are.numbers.dispatched in
    let there = alike_get core.rows.items s.log.records (number - core.rows.first) row are.rows.items at in
    sym (ap (λ (o : Option Entry). bare_units (view_found o)) (none_at (seen s).records place (λ k r at_r same.
    let in_log = get_take s.log.records n k r at_r in
    let low = in_log.0 in
    let one = one_place s.log.records (rises core s are) k (number - core.rows.first) r there.0 in_log.1 there.1 (same ∙ sym is ∙ there.2) in
    omega (arith, low, one, first, dispatched, from, past))))

-- the record that begins at the place
pub view_seen : (core : Parts) (s : State) (place number : ℕ) (row : Row) (unit : QueueUnit) → Represents core s → core.rows.first ≤ number
    → slice_get core.rows.items (number - core.rows.first) ≡ Some row → row.place ≡ place → number < core.dispatched
    → unit ≡ record { offset = row.place; size = row.size; tag = pos 0 } → unit ∷ [] ≡ bare_units (viewed (seen s).records place)
view_seen core s place number row unit are from at is low unit_is_row =
    let n = s.dispatched - s.log.base.records in
    let first = are.rows.first in
    let dispatched = are.numbers.dispatched in
    let k = number - core.rows.first in
    let there = alike_get core.rows.items s.log.records k row are.rows.items at in
    let r : Entry = there.0 in
    let found : find (λ (x : Entry). x.offset == place) (seen s).records ≡ Some r =
    found_at (seen s).records k r place (seen_rises core s are) (in_take s.log.records n k r (omega (arith, first, dispatched, from, low)) there.1) (sym there.2 ∙ is) in
    ap (λ (u : QueueUnit). u ∷ []) (unit_is core s r k row unit are (k, there.1) at there.2 unit_is_row)
    ∙ sym (ap (λ (o : Option Entry). bare_units (view_found o)) found)

each_find : {A : Type 0} (P : A → Type 0) (test : A → Bool) (xs : List A) → Each P xs → (x : A) → find test xs ≡ Some x → P x
each_find P test [] all x is = cc is
each_find P test (y ∷ xs) all x is =
    ⊎_elim (λ (here : test y ≡ true). subst P (some_one (sym (ap (λ (b : Bool). cond b (Some y) (find test xs)) here) ∙ is)) all.0)
    (λ (other : test y ≡ false). each_find P test xs all.1 x (sym (ap (λ (b : Bool). cond b (Some y) (find test xs)) other) ∙ is))
    (cases_Bool (test y))

each_view : (P : Entry → Type 0) (o : Option Entry) → ((r : Entry) → o ≡ Some r → P r) → Each P (view_found o)
each_view P None is = tt
each_view P (Some r) is = (is r refl, tt)

-- it is on the disk
pub view_told : (core : Parts) (s : State) (place : ℕ) → Represents core s → Each (IsTold core.stored) (viewed (seen s).records place)
view_told core s place are =
    each_view (IsTold core.stored) (find (λ (x : Entry). x.offset == place) (seen s).records)
    (each_find (IsTold core.stored) (λ (x : Entry). x.offset == place) (seen s).records (found_told core s (seen s).records (seen_found core s are)))

-- and has its range there
pub view_ranges : (core : Parts) (s : State) (place : ℕ) (units : List QueueUnit) → Represents core s → units ≡ bare_units (viewed (seen s).records place)
    → (k : ℕ) (unit : QueueUnit) → slice_get units k ≡ Some unit → HasRange core.stored.pieces.items unit.offset unit.size
view_ranges core s place units are is = told_ranges core.stored units (viewed (seen s).records place) is (view_told core s place are)

-- its slice
pub view_slices : (core : Parts) (s : State) (place : ℕ) (units : List QueueUnit) (slices : List Slice) → Represents core s → units ≡ bare_units (viewed (seen s).records place)
    → AreSlicesAt core.stored slices units → AreSlicesOf slices (viewed (seen s).records place)
view_slices core s place units slices are is at =
    slices_bare core.stored slices (viewed (seen s).records place) (subst (λ (us : List QueueUnit). AreSlicesAt core.stored slices us) is at) (view_told core s place are)

-- few bytes
pub view_bytes : (core : Parts) (s : State) (place : ℕ) (slices : List Slice) → Represents core s → AreSlicesOf slices (viewed (seen s).records place) → body_len slices < 2 ^ 30
view_bytes core s place slices are of =
    let total = body_size slices (viewed (seen s).records place) of in
    let low = few_bytes core.stored (viewed (seen s).records place) (view_told core s place are) (inr (at_most_one (find (λ (x : Entry). x.offset == place) (seen s).records))) in
    omega (arith, total, low)
  where
    at_most_one : (o : Option Entry) → length (view_found o) ≤ 1
    at_most_one None = omega arith
    at_most_one (Some r) = omega arith

-- ---- the slices of a query

pub query_slices : (core : Parts) (s : State) (topic key : List ℕ) (from to most : ℤ) (units : List QueueUnit) (slices : List Slice) → Represents core s
    → units ≡ bare_units (query_of (seen s).records topic key from to most) → AreSlicesAt core.stored slices units → AreSlicesOf slices (query_of (seen s).records topic key from to most)
query_slices core s topic key from to most units slices are is at =
    slices_bare core.stored slices (query_of (seen s).records topic key from to most)
    (subst (λ (us : List QueueUnit). AreSlicesAt core.stored slices us) is at) (query_told core s topic key from to most are)
