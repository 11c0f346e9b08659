-- The half messages as those of a log.
use Rattle.std.specs.Prelude.{◌≡◌, ℕ, ◌+◌, ◌&&◌, not, is_none, List, [], ◌∷◌, length, codes, slice_get, true, Option, Some}
use Rattle.std.specs.Prelude.{if◌then◌else◌}
use Rattle.record_codec.specs.Entry.{Entry}
use Rattle.record_codec.specs.Props.{value_of}
use Rattle.log_model.specs.Drafts.{text_in}
use Rattle.log_model.specs.Bases.{geometry}
use Rattle.log_model.specs.Kinds.{is_half, origin_text}
use Rattle.log_model.specs.Log.{Follows, IsWellFormed}
use Rattle.log_model.specs.Numbered.{Log, with_appended}
use Rattle.log_model.specs.Transactions.{family, is_settled}
use Rattle.half_view.specs.Halves.{HalfTable}
use Rattle.half_view.specs.OfLog.{AreHalvesOf, halves_in, named_by}
use Rattle.half_records.specs.Kept.{KeptRow}
use Rattle.half_records.specs.Names.{AreApart, number_of}
use Rattle.half_records.specs.Tables.{is_open_at}
use Rattle.half_records.specs.declared.halves.Halves.{Halves}
use Rattle.half_records.specs.declared.names.Names.{Names}

-- the family of an open origin, which a verdict or a check may still need; nothing of each other half message
abbrev pub open_family : List Entry → Entry → List Entry
open_family log r = if is_none (origin_text r) && not (is_settled log r.queue_offset) then family log r.queue_offset else []

-- what is kept of a half message with these properties: its group and id, and this family
pub record IsKeptOf (names : Names) (props : List (List ℕ × List ℕ)) (members : List Entry) (x : KeptRow) : Type 0 where
  pub group : number_of names (text_in (codes "PGROUP") props) ≡ Some x.group
  pub id : x.id ≡ value_of (codes "UNIQ_KEY") props
  pub family : x.family ≡ members

-- The half messages are those of the log. Kept whole are the families of the open origins, and nothing else.
pub record HasHalves (log : Log) (h : Halves) : Type 0 where
  pub view : AreHalvesOf log h.view
  pub first : h.first ≡ h.view.low
  pub long : length h.kept.items ≡ length (halves_in log)
  pub each : (k : ℕ) (r : Entry) → slice_get (halves_in log) k ≡ Some r
      → (x : KeptRow) × (slice_get h.kept.items k ≡ Some x) × IsKeptOf h.groups r.props (open_family log.records r) x
  pub names : AreApart h.groups

-- The half messages of a log, with this one more, are those of the log with it appended. It names this origin or none, is at this
-- place and time, and this is kept of it.
abbrev pub HasHalfMore : Halves → Halves → Option ℕ → (place store : ℕ) → KeptRow → Entry → Type 0
HasHalfMore old new named place store kept whole = (segment : ℕ) (log : Log) → IsWellFormed (geometry segment log.base) log.records
    → Follows (geometry segment log.base) log.records whole → HasHalves log old → is_half whole ≡ true
    → named_by whole ≡ named → place ≡ whole.offset → store ≡ whole.store → IsKeptOf old.groups whole.props [] kept
    → HasHalves (with_appended log (whole ∷ [])) new

-- ---- in between

-- the family, where the table has its origin as an open one
abbrev pub table_family : HalfTable → List Entry → ℕ → List Entry
table_family t log half = if is_open_at t half then family log half else []

-- The half messages of the log are kept, with the families of those that the table, which may be ahead of the log, has as open
-- origins.
pub record KeepsFamilies (log : Log) (h : Halves) : Type 0 where
  pub first : h.first ≡ h.view.low
  pub long : length h.kept.items ≡ length (halves_in log)
  pub numbers : (k : ℕ) (r : Entry) → slice_get (halves_in log) k ≡ Some r → r.queue_offset ≡ h.first + k
  pub each : (k : ℕ) (r : Entry) → slice_get (halves_in log) k ≡ Some r
      → (x : KeptRow) × (slice_get h.kept.items k ≡ Some x)
      × IsKeptOf h.groups r.props (table_family h.view log.records r.queue_offset) x
  pub names : AreApart h.groups
