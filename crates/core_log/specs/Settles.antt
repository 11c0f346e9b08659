-- A half message that is committed, or given up: its copy and the op record of its origin.
use Rattle.std.specs.Prelude.{◌≡◌, ℕ, ◌^◌, ◌<◌, ◌≤◌, ◌==◌, List, find, IsSome, Some}
use Rattle.record_codec.specs.Entry.{Entry}
use Rattle.record_codec.specs.declared.draft.Draft.{Draft}
use Rattle.log_model.specs.Drafts.{copy_draft, discard_draft, op_draft}
use Rattle.log_model.specs.Kinds.{origin_text}
use Rattle.log_model.specs.Transactions.{family, is_origin}
use Rattle.log_model.specs.declared.origin.OriginState.{OriginState}
use Rattle.log_model.specs.declared.origin.OriginState.TheVariants.{Open, Committed, RolledBack, Discarded}
use Rattle.broker_model.specs.State.{State}

-- the copy is that of the half message, a committed one, or a discarded one, of a renewal
abbrev pub IsCopyBy : OriginState → List ℕ → Entry → Draft → Type 0
IsCopyBy Open host half copy = ⊥
IsCopyBy Committed host half copy = copy ≡ copy_draft host half
IsCopyBy RolledBack host half copy = ⊥
IsCopyBy Discarded host half copy = (copy ≡ discard_draft host half) × IsSome (origin_text half)

-- at this time these are the copy of this half message, and the op record of its origin
pub record IsSettling (s : State) (now origin : ℕ) (how : OriginState) (half : Entry) (copy op : Draft) : Type 0 where
  pub first : Entry
  pub named : find (is_origin origin) s.log.records ≡ Some first
  pub stands : find (λ r. r.queue_offset == half.queue_offset) (family s.log.records origin) ≡ Some half
  pub copy_is : IsCopyBy how s.setup.host half copy
  pub op_is : op ≡ op_draft s.setup.host now origin
  pub later : s.now ≤ now
  pub time : now < 2 ^ 62
