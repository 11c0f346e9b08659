-- What may be said of the records that the broker makes, wherever they stand in its log.
use Rattle.std.specs.Prelude.{◌≡◌, ℕ, ◌^◌, ◌<◌, codes, true, false, Option, Some, None}
use Rattle.record_codec.specs.Entry.{Entry}
use Rattle.record_codec.specs.Props.{has_name}
use Rattle.record_codec.specs.Drafts.{draft_fault, entry_of}
use Rattle.record_codec.specs.declared.draft.Draft.{Draft}
use Rattle.record_codec.specs.declared.draft.Place.{Place}
use Rattle.log_model.specs.Admissible.{IsAdmissible, NamesEarlier}
use Rattle.log_model.specs.Kinds.{is_half, is_op, is_copy, is_discard}
use Rattle.half_view.specs.OfLog.{named_by, rolled_back_by}
use Rattle.delay_view.specs.OfLog.{IsOther}

-- The record of this draft may stand at this place of a log in segments of S bytes, in which so many half messages stand before it.
pub record CanStand (S halves : ℕ) (d : Draft) (p : Place) : Type 0 where
  pub passes : draft_fault S d ≡ None
  pub born : d.born < 2 ^ 62
  pub prepared : d.prepared < 2 ^ 62
  pub unsealed : has_name (codes "SEAL") d.props ≡ false
  pub admissible : IsAdmissible S (entry_of d p)
  pub names : NamesEarlier halves (entry_of d p)

-- the committed copy of this half message
pub record IsCopyOfHalf (message r : Entry) : Type 0 where
  pub half : is_half r ≡ false
  pub op : is_op r ≡ false
  pub copied : is_copy r ≡ true
  pub discard : is_discard r ≡ false
  pub place : r.prepared ≡ message.offset
  pub other : IsOther r

-- the discarded copy of this half message
pub record IsDiscardOfHalf (message r : Entry) : Type 0 where
  pub half : is_half r ≡ false
  pub op : is_op r ≡ false
  pub copied : is_copy r ≡ false
  pub discard : is_discard r ≡ true
  pub place : r.prepared ≡ message.offset
  pub other : IsOther r

-- the op record of this origin
pub record IsOpOf (origin : ℕ) (r : Entry) : Type 0 where
  pub half : is_half r ≡ false
  pub names : rolled_back_by r ≡ Some origin
  pub copied : is_copy r ≡ false
  pub discard : is_discard r ≡ false
  pub other : IsOther r

-- a half message that names this origin, or none
pub record IsHalfOf (named : Option ℕ) (r : Entry) : Type 0 where
  pub half : is_half r ≡ true
  pub name : named_by r ≡ named
  pub other : IsOther r
