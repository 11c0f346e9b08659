-- The origin that a verdict is on.
use Rattle.std.specs.Prelude.{ℕ, ◌&&◌, not, nat_lt, List, length, codes, Bool, false, Option, Some, None, option_map, if◌then◌else◌}
use Rattle.std.specs.Str.{bytes_eq}
use Rattle.record_codec.specs.Entry.{Entry}
use Rattle.record_codec.specs.Props.{value_of}
use Rattle.log_model.specs.Kinds.{is_text}
use Rattle.log_model.specs.Origins.{told_state}
use Rattle.log_model.specs.Transactions.{origin_of, transaction_state}
use Rattle.half_view.specs.declared.row.HalfRow.{HalfRow}
use Rattle.half_view.specs.Halves.{HalfTable, row_at, if_at, origin_at, origin_named}
use Rattle.half_records.specs.Kept.{KeptRow}
use Rattle.half_records.specs.Names.{number_of, is_number}
use Rattle.half_records.specs.Tables.{kept_at}
use Rattle.half_records.specs.declared.halves.Halves.{Halves}
use Rattle.half_records.specs.declared.judged.Judged.{Judged}
use Rattle.half_records.specs.declared.names.Names.{Names}

-- the half message has an id, and the verdict names another one
abbrev pub is_other_id : List ℕ → Option (List ℕ) → Bool
is_other_id id None = false
is_other_id id (Some own) = nat_lt 0 (length id) && not (bytes_eq own id)

-- ---- as the log tells it

-- the half message is of this group, and has this id or none, where one is named
abbrev pub is_half_of : List ℕ → List ℕ → Entry → Bool
is_half_of group id half =
    is_text group (value_of (codes "PGROUP") half.props) && not (is_other_id id (value_of (codes "UNIQ_KEY") half.props))

-- the origin of a half message of this group and id
abbrev pub judged_origin : List Entry → List ℕ → List ℕ → Option Entry → Option Entry
judged_origin log group id None = None
judged_origin log group id (Some half) = if is_half_of group id half then origin_of log half else None

-- what is told of it
abbrev pub judged_of : List Entry → Entry → Judged
judged_of log origin = record {
  origin = origin.queue_offset;
  state = told_state (transaction_state log origin.queue_offset);
}

-- ---- as the tables tell it

-- what is kept is of a half message of this group and id
abbrev pub is_kept_of : Names → List ℕ → List ℕ → Option KeptRow → Bool
is_kept_of names group id None = false
is_kept_of names group id (Some x) = is_number x.group (number_of names group) && not (is_other_id id x.id)

-- what is told of an origin
abbrev pub judged_row : ℕ → Option HalfRow → Option Judged
judged_row origin row = option_map (λ r. record { origin = origin; state = r.state }) row

abbrev pub judged_named : HalfTable → Bool → Option ℕ → Option Judged
judged_named t right None = None
judged_named t right (Some origin) = if right then judged_row origin (origin_at t origin) else None

abbrev pub judged_at : Halves → ℕ → ℕ → List ℕ → List ℕ → Option Judged
judged_at h half place group id =
    judged_named h.view (is_kept_of h.groups group id (kept_at h half)) (origin_named h.view (if_at place (row_at h.view half)))
