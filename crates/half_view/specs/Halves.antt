-- What contracts see of the table of the half messages, and what each change makes of it.
use Rattle.std.specs.Prelude.{ℕ, zero, suc, ◌+◌, ◌-◌, ◌^◌, ◌==◌, ◌&&◌, min, nat_lt, nat_le, List, [], ◌∷◌, ◌++◌, length}
use Rattle.std.specs.Prelude.{slice_get, find, filter, Bool, true, false, Option, Some, None, option_map, if◌then◌else◌}
use Rattle.std.specs.List.{position_or_len}
use Rattle.log_model.specs.declared.origin.OriginState.{OriginState}
use Rattle.log_model.specs.declared.origin.OriginState.TheVariants.{Open, Committed, RolledBack, Discarded}
use Rattle.half_view.specs.declared.check.Check.{Check}
use Rattle.half_view.specs.declared.row.HalfRow.{HalfRow}

-- How many half messages were removed, those that stand, in the order of their queue offsets, and for how many more there is room.
pub record HalfTable : Type 0 where
  pub low : ℕ
  pub halves : List HalfRow
  pub spare : ℕ

-- the queue offset of the next half message
abbrev pub next_of : HalfTable → ℕ
next_of t = t.low + length t.halves

-- the half message with this queue offset, where it stands
abbrev pub row_at : HalfTable → ℕ → Option HalfRow
row_at t h = if nat_lt h t.low then None else slice_get t.halves (h - t.low)

-- its index among those that stand
abbrev pub index_of : HalfTable → ℕ → Option ℕ
index_of t h = if nat_lt h t.low then None else (if nat_lt (h - t.low) (length t.halves) then Some (h - t.low) else None)

-- ---- one half message

-- where its record stands
abbrev pub place_of : HalfRow → ℕ
place_of row = row.place

-- what becomes of an origin that is settled once more: a copy outweighs an op record, and a discarded copy both
abbrev pub settled_as : OriginState → OriginState → OriginState
settled_as Open by = by
settled_as RolledBack Open = RolledBack
settled_as RolledBack RolledBack = RolledBack
settled_as RolledBack Committed = Committed
settled_as RolledBack Discarded = Discarded
settled_as Committed Open = Committed
settled_as Committed RolledBack = Committed
settled_as Committed Committed = Committed
settled_as Committed Discarded = Discarded
settled_as Discarded by = Discarded

-- settled by the record with this number
abbrev pub settled_row : OriginState → ℕ → HalfRow → HalfRow
settled_row how number row = record row { state = settled_as row.state how; settled = number + 1 }

-- named by the renewal with this queue offset, which was stored at this time
abbrev pub renewed_row : ℕ → ℕ → HalfRow → HalfRow
renewed_row renewal store row = record row { due = store + 60000; last = renewal; checks = min (row.checks + 1) (2 ^ 32 - 1) }

-- a half message that was just stored
abbrev pub new_row : ℕ → ℕ → ℕ → ℕ → HalfRow
new_row own names place store =
    record { place = place; names = names; due = store + 6000; last = own; settled = 0; checks = 0; state = Open }

-- ---- the table

-- the item at this index is changed, where there is one
abbrev pub change : {A : Type 0} → (A → A) → ℕ → List A → List A
change f k [] = []
change f zero (x ∷ xs) = f x ∷ xs
change f (suc k) (x ∷ xs) = x ∷ change f k xs

-- the half message with this queue offset is changed, where it stands
abbrev pub changed : (HalfRow → HalfRow) → ℕ → HalfTable → HalfTable
changed f h t = if nat_lt h t.low then t else record t { halves = change f (h - t.low) t.halves }

-- the queue offset that a half message names, its own where it is none
abbrev pub names_or : ℕ → Option ℕ → ℕ
names_or own None = own
names_or own (Some n) = n

-- with one half message more, which names another one or none, and then this much room
abbrev pub with_half : HalfTable → Option ℕ → ℕ → ℕ → ℕ → HalfTable
with_half t named place store spare = record {
  low = t.low;
  halves = (changed (renewed_row (next_of t) store) (names_or (next_of t) named) t).halves
      ++ new_row (next_of t) (names_or (next_of t) named) place store ∷ [];
  spare = spare;
}

-- the half message with this queue offset, if one is told, is settled by the record with this number
abbrev pub with_settled : HalfTable → Option ℕ → OriginState → ℕ → HalfTable
with_settled t None how number = t
with_settled t (Some h) how number = changed (settled_row how number) h t

-- the queue offset that the half message at this place names
abbrev pub family_in : List HalfRow → ℕ → Option ℕ
family_in rows place = option_map (λ row. row.names) (find (λ row. row.place == place) rows)

abbrev pub family_at : HalfTable → ℕ → Option ℕ
family_at t place = family_in t.halves place

-- without the half messages that stand below a place, and then this much room
abbrev pub cut_at : HalfTable → ℕ → ℕ → HalfTable
cut_at t place spare = record {
  low = t.low + position_or_len (λ row. nat_le place row.place) t.halves;
  halves = filter (λ row. nat_le place row.place) t.halves;
  spare = spare;
}

-- ---- origins

-- the row, where it is that of an origin with this queue offset
abbrev pub if_origin : ℕ → Option HalfRow → Option HalfRow
if_origin own None = None
if_origin own (Some row) = if row.names == own then Some row else None

-- the origin with this queue offset
abbrev pub origin_at : HalfTable → ℕ → Option HalfRow
origin_at t h = if_origin h (row_at t h)

-- the row, where it stands at this place
abbrev pub if_at : ℕ → Option HalfRow → Option HalfRow
if_at place None = None
if_at place (Some row) = if row.place == place then Some row else None

-- the queue offset that the half message names, where that is an origin's
abbrev pub origin_named : HalfTable → Option HalfRow → Option ℕ
origin_named t None = None
origin_named t (Some row) = option_map (λ origin. row.names) (origin_at t row.names)

-- what is not 0
abbrev pub if_settled : ℕ → Option ℕ
if_settled zero = None
if_settled (suc number) = Some number

abbrev pub settling_number : Option HalfRow → Option ℕ
settling_number None = None
settling_number (Some row) = if_settled row.settled

-- ---- what is due

abbrev pub is_open : OriginState → Bool
is_open Open = true
is_open Committed = false
is_open RolledBack = false
is_open Discarded = false

-- an open origin with this queue offset, whose time has come
abbrev pub is_due_row : ℕ → ℕ → HalfRow → Bool
is_due_row now own row = (row.names == own) && is_open row.state && nat_le row.due now

-- after 15 renewals the last one is given up
abbrev pub given_up_of : HalfRow → Option ℕ
given_up_of row = if nat_lt row.checks 15 then None else Some row.last

-- how the half message with this queue offset is checked
abbrev pub check_row : ℕ → HalfRow → Check
check_row own row = record { origin = own; checks = row.checks; given_up = given_up_of row }

-- the first of these half messages that is due; the first of them has this queue offset
abbrev pub due_from : ℕ → ℕ → List HalfRow → Option Check
due_from now own [] = None
due_from now own (row ∷ rows) = if is_due_row now own row then Some (check_row own row) else due_from now (own + 1) rows

-- the first that is due
abbrev pub due_of : ℕ → HalfTable → Option Check
due_of now t = due_from now t.low t.halves
