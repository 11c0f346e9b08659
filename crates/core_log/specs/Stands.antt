-- How the record of a message is kept, and which drafts' records may stand behind any log where there is room.
use Rattle.std.specs.Prelude.{◌≡◌, ℕ, ◌^◌, ◌<◌, ◌≤◌, codes, false, None}
use Rattle.record_codec.specs.Entry.{Entry}
use Rattle.record_codec.specs.Props.{has_name}
use Rattle.record_codec.specs.Drafts.{draft_fault, entry_of}
use Rattle.record_codec.specs.declared.draft.Draft.{Draft}
use Rattle.record_codec.specs.declared.draft.Place.{Place}
use Rattle.log_model.specs.Admissible.{IsAdmissible, NamesEarlier}
use Rattle.delay_view.specs.OfLog.{IsMessageOf, IsOther}
use Rattle.made_records.specs.Made.{IsHalfOf}
use Rattle.core_log.specs.declared.kind.Kind.{Kind}
use Rattle.core_log.specs.declared.kind.Kind.TheVariants.{Plain, Delayed, Half}
use Rattle.core_log.specs.Appends.{IsMessage}

-- the record is kept like this: it is a message of a topic of clients, or a delayed one of this level, or a half message
abbrev pub IsKeptAs : Kind → Entry → Type 0
IsKeptAs Plain r = IsMessage r × IsOther r
IsKeptAs (Delayed level) r = (1 ≤ level) × (level ≤ 18) × IsMessage r × IsMessageOf level r
IsKeptAs Half r = IsHalfOf None r

-- A draft whose record may stand behind any log where there is room, and is kept like this: it can be written into a segment, and
-- a log may have its record wherever it stands.
pub record IsStorable (segment : ℕ) (kind : Kind) (d : Draft) : Type 0 where
  pub passes : draft_fault segment d ≡ None
  pub born : d.born < 2 ^ 62
  pub prepared : d.prepared < 2 ^ 62
  pub unsealed : has_name (codes "SEAL") d.props ≡ false
  pub admissible : (p : Place) → IsAdmissible segment (entry_of d p)
  pub names : (p : Place) (halves : ℕ) → NamesEarlier halves (entry_of d p)
  pub kept : (p : Place) → IsKeptAs kind (entry_of d p)
