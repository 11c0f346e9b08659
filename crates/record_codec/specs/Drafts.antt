-- A draft: what a record says before it has a place, and what keeps it from being written.
use Rattle.std.specs.Prelude.{◌≡◌, ℕ, ◌+◌, ◌^◌, ◌<◌, List, [], ◌∷◌, length, codes, Bool, false}
use Rattle.std.specs.Prelude.{not, nat_lt, FitsSigned, Option, Some, None, if◌then◌else◌}
use Rattle.std.specs.Int.{w32}
use Rattle.mq_bytes.specs.Bytes.{AreBytes}
use Rattle.record_codec.specs.declared.draft.Draft.{Draft}
use Rattle.record_codec.specs.declared.draft.Place.{Place}
use Rattle.record_codec.specs.declared.draft.DraftFault.{DraftFault}
use Rattle.record_codec.specs.declared.draft.DraftFault.TheVariants.{BadTopic, TopicLong, HostSix, BodyLong, PropsLong, RecordLong}
use Rattle.record_codec.specs.Entry.{Entry}
use Rattle.record_codec.specs.Props.{written, has_name}
use Rattle.record_codec.specs.Layout.{is_named, are_hosts_short, IsHost}

-- the record of a draft at a place
abbrev pub entry_of : Draft → Place → Entry
entry_of d p = record {
  topic = d.topic;
  queue = d.queue;
  flag = d.flag;
  sysflag = d.sysflag;
  born = d.born;
  born_host = d.born_host;
  store_host = d.store_host;
  reconsume = d.reconsume;
  prepared = d.prepared;
  body = d.body;
  props = d.props;
  queue_offset = p.queue_offset;
  offset = p.offset;
  store = p.store;
}

-- this record is one of this draft
abbrev pub IsDraftOf : Draft → Entry → Type 0
IsDraftOf d r = (p : Place) → p.queue_offset ≡ r.queue_offset → p.offset ≡ r.offset → p.store ≡ r.store → entry_of d p ≡ r

-- the size of that record, at any place
abbrev pub draft_size : Draft → ℕ
draft_size d = 105 + length d.body + length d.topic + length (written d.props)

-- the first value whose test holds
abbrev pub first_that_holds : {A : Type 0} → List (Bool × A) → Option A
first_that_holds [] = None
first_that_holds (choice ∷ more) = if choice.0 then Some choice.1 else first_that_holds more

-- why a draft can't be written into a segment of this size: the first fault in this order
unfoldable pub draft_fault : ℕ → Draft → Option DraftFault
draft_fault segment d = first_that_holds (
    (not (is_named d.topic), BadTopic)
    ∷ (nat_lt 127 (length d.topic), TopicLong)
    ∷ (not (are_hosts_short d.sysflag), HostSix)
    ∷ (nat_lt 4194304 (length d.body), BodyLong)
    ∷ (nat_lt 32767 (length (written d.props) + 14), PropsLong)
    ∷ (nat_lt segment (draft_size d + 8), RecordLong)
    ∷ [])

-- the ranges of a draft's numbers, hosts and body
pub record IsInRanges (d : Draft) : Type 0 where
  pub queue : d.queue < 2 ^ 32
  pub flag : FitsSigned w32 d.flag
  pub sysflag : d.sysflag < 2 ^ 32
  pub reconsume : FitsSigned w32 d.reconsume
  pub born_host : IsHost d.born_host
  pub store_host : IsHost d.store_host
  pub body : AreBytes d.body

-- a draft that can be written at this place: into the greatest segment it has no fault, its numbers are in range, and the seal's name is
-- free
pub record IsEncodable (d : Draft) (p : Place) : Type 0 where
  pub passes : draft_fault (2 ^ 30) d ≡ None
  pub born : d.born < 2 ^ 62
  pub prepared : d.prepared < 2 ^ 62
  pub queue_offset : p.queue_offset < 2 ^ 62
  pub offset : p.offset < 2 ^ 62
  pub store : p.store < 2 ^ 62
  pub unsealed : has_name (codes "SEAL") d.props ≡ false
