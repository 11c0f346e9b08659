-- What is done to the half and delayed messages that are kept.
use Rattle.std.proofs.Common.{◌≡◌, ◌∙◌, refl, ap, sym, subst, arith, ℕ, ◌+◌, ◌^◌, ◌<◌, Bool, false, cond, ◌∷◌, [], length, Option, Some, None}
use Rattle.record_codec.specs.Drafts.{entry_of}
use Rattle.record_codec.specs.Entry.{Entry}
use Rattle.record_codec.specs.Layout.{IsRecord}
use Rattle.record_codec.specs.declared.draft.Draft.{Draft}
use Rattle.record_codec.specs.declared.draft.Place.{Place}
use Rattle.log_model.specs.declared.origin.OriginState.TheVariants.{Committed, RolledBack, Discarded}
use Rattle.log_model.specs.declared.origin.OriginState.{OriginState}
use Rattle.log_model.specs.Admissible.{number_of}
use Rattle.log_model.specs.Bases.{geometry}
use Rattle.log_model.specs.Log.{Follows, IsWellFormed}
use Rattle.log_model.specs.Kinds.{is_half, is_op, is_copy, is_discard}
use Rattle.log_model.specs.Numbered.{Log, count_of, with_appended}
use Rattle.half_view.specs.Halves.{HalfTable, with_settled, family_at}
use Rattle.half_view.specs.OfLog.{AreHalvesOf, rolled_back_by, committed_by, discarded_by, with_settlement}
use Rattle.half_view.proofs.GrowthLemmas.{others_follow}
use Rattle.half_records.specs.declared.halves.Halves.{Halves}
use Rattle.half_records.specs.OfLog.{HasHalves, HasHalfMore, IsKeptOf}
use Rattle.half_records.specs.Kept.{KeptRow}
use Rattle.half_records.proofs.HalvesLemmas.{has_with, keeps}
use Rattle.made_records.specs.Made.{IsHalfOf, IsOpOf}
use Rattle.delay_view.specs.OfLog.{IsOther}
use Rattle.delay_view.proofs.GrowthLemmas.{other_appended}
use Rattle.level_records.proofs.LineLemmas.{same_lines, other_stays}
use Rattle.level_records.specs.declared.levels.Levels.{Levels}
use Rattle.level_records.specs.OfLog.{HasLevels}
use Rattle.broker_model.specs.State.{State}
use Rattle.core_log.specs.declared.parts.Parts.{Parts}
use Rattle.core_log.specs.Represents.{Represents}
use Rattle.core_log.specs.Appends.{IsMessage, MayStand, SettlesAs}
use Rattle.core_log.proofs.AppendLemmas.{alike_length, rows_few}
use Rattle.core_log.proofs.StateLemmasB.{follows}

-- ---- half messages

-- a record that is no op record and no copy settles nothing
pub nothing_settled : (t : HalfTable) (r : Entry) (number : ℕ) → is_op r ≡ false → is_copy r ≡ false → is_discard r ≡ false → with_settlement t r number ≡ t
nothing_settled t r number op copy discard =
    let a : rolled_back_by r ≡ None = ap (λ (b : Bool). cond b (number_of r.body) None) op in
    let b : committed_by t r ≡ None = ap (λ (b : Bool). cond b (family_at t r.prepared) None) copy in
    let c : discarded_by t r ≡ None = ap (λ (b : Bool). cond b (family_at t r.prepared) None) discard in
    ap (λ (o : Option ℕ). with_settled (with_settled (with_settled t o RolledBack number) (committed_by t r) Committed number) (discarded_by t r) Discarded number) a
    ∙ ap (λ (o : Option ℕ). with_settled (with_settled t o Committed number) (discarded_by t r) Discarded number) b
    ∙ ap (λ (o : Option ℕ). with_settled t o Discarded number) c

-- an op record settles its origin
pub op_settles : (t : HalfTable) (origin : ℕ) (r : Entry) → IsOpOf origin r → SettlesAs t origin RolledBack r
op_settles t origin r is = record {
  half = is.half;
  other = is.other;
  settles = λ n.
      (let b : committed_by t r ≡ None = ap (λ (x : Bool). cond x (family_at t r.prepared) None) is.copied in
      let c : discarded_by t r ≡ None = ap (λ (x : Bool). cond x (family_at t r.prepared) None) is.discard in
      ap (λ (o : Option ℕ). with_settled (with_settled (with_settled t o RolledBack n) (committed_by t r) Committed n) (discarded_by t r) Discarded n) is.names
      ∙ ap (λ (o : Option ℕ). with_settled (with_settled (with_settled t (Some origin) RolledBack n) o Committed n) (discarded_by t r) Discarded n) b
      ∙ ap (λ (o : Option ℕ). with_settled (with_settled t (Some origin) RolledBack n) o Discarded n) c);
}

-- the half messages of a log serve for it with a record more that is no half message and settles none
pub halves_kept : (core : Parts) (s : State) (d : Draft) (p : Place) → Represents core s → MayStand s d p → IsRecord (entry_of d p) → IsMessage (entry_of d p)
    → HasHalves (with_appended s.log (entry_of d p ∷ [])) core.halves
halves_kept core s d p are may layout is =
    let r = entry_of d p in
    let segment = s.setup.segment in
    let well = are.state.log in
    let next = follows s d p are.state may layout in
    let has = are.halves in
    has_with segment s.log well r is.half core.halves (keeps segment s.log well core.halves has)
    (subst (λ (t : HalfTable). AreHalvesOf (with_appended s.log (r ∷ [])) t) (nothing_settled core.halves.view r (count_of s.log) is.op is.copied is.discard)
    (others_follow segment s.log r core.halves.view well next has.view is.half))

-- other half messages of the same log serve as well
pub represents_halves : (old : Parts) (halves : Halves) (s : State) → Represents old s → HasHalves s.log halves → Represents (record old { halves = halves }) s
represents_halves old halves s are has = record {
  state = are.state;
  numbers = record { setup = are.numbers.setup; segment = are.numbers.segment; flushed = are.numbers.flushed; dispatched = are.numbers.dispatched; turns = are.numbers.turns; bounded = are.numbers.bounded; now = are.numbers.now; few = are.numbers.few; low = are.numbers.low };
  pending = are.pending;
  out = are.out;
  failed = are.failed;
  rows = are.rows;
  tabled = are.tabled;
  queues = are.queues;
  stored = are.stored;
  room = are.room;
  topics = are.topics;
  clients = are.clients;
  offsets = are.offsets;
  locks = are.locks;
  names = are.names;
  kept = are.kept;
  halves = has;
  levels = are.levels;
  keys = are.keys;
}

-- a half message is added
pub half_added : (core : Parts) (s : State) (d : Draft) (p : Place) (named : Option ℕ) (halves new : Halves) (kept : KeptRow) (whole : Entry) → Represents core s → MayStand s d p → IsRecord (entry_of d p)
    → IsHalfOf named (entry_of d p) → whole ≡ entry_of d p → IsKeptOf core.halves.groups d.props [] kept → halves ≡ core.halves → HasHalfMore halves new named p.offset p.store kept whole
    → HasHalves (with_appended s.log (entry_of d p ∷ [])) new
half_added core s d p named halves new kept whole are may layout is whole_is is_kept same more =
    let r = entry_of d p in
    let fed = subst (λ (h : Halves). HasHalfMore h new named p.offset p.store kept r) same (subst (λ (w : Entry). HasHalfMore halves new named p.offset p.store kept w) whole_is more) in
    fed s.setup.segment s.log are.state.log (follows s d p are.state may layout) are.halves is.half is.name refl refl is_kept

-- an origin is settled
pub half_settled : (core : Parts) (s : State) (d : Draft) (p : Place) (origin number : ℕ) (how : OriginState) (halves new : Halves) → Represents core s → MayStand s d p → IsRecord (entry_of d p)
    → SettlesAs core.halves.view origin how (entry_of d p) → number ≡ count_of s.log → halves ≡ core.halves
    → ((segment : ℕ) (log : Log) (r : Entry) → IsWellFormed (geometry segment log.base) log.records → Follows (geometry segment log.base) log.records r → HasHalves log halves → is_half r ≡ false
    → with_settlement halves.view r (count_of log) ≡ with_settled halves.view (Some origin) how number → HasHalves (with_appended log (r ∷ [])) new)
    → HasHalves (with_appended s.log (entry_of d p ∷ [])) new
half_settled core s d p origin number how halves new are may layout is count same settled =
    let r = entry_of d p in
    let settles = is.settles (count_of s.log) ∙ ap (λ (k : ℕ). with_settled core.halves.view (Some origin) how k) (sym count) in
    settled s.setup.segment s.log r are.state.log (follows s d p are.state may layout) (subst (λ (h : Halves). HasHalves s.log h) (sym same) are.halves) is.half
    (subst (λ (h : Halves). with_settlement h.view r (count_of s.log) ≡ with_settled h.view (Some origin) how number) (sym same) settles)

-- the number of the next record
pub number_is : (core : Parts) (s : State) → Represents core s → core.rows.first + length core.rows.items ≡ count_of s.log
number_is core s are =
    let first = are.rows.first in
    let long = alike_length core.rows.items s.log.records are.rows.items in
    omega (arith, first, long)

pub number_low : (core : Parts) (s : State) (number : ℕ) → Represents core s → number ≡ core.rows.first + length core.rows.items → number < 2 ^ 63
number_low core s number are is = let few = rows_few core s are in omega (arith, few, is)

-- ---- delayed messages

-- the levels of a log serve for it with a record more that is neither a delayed message nor a delivery
pub levels_kept : (core : Parts) (s : State) (d : Draft) (p : Place) → Represents core s → IsOther (entry_of d p) → HasLevels (with_appended s.log (entry_of d p ∷ [])) s.dispatched core.levels
levels_kept core s d p are other =
    let r = entry_of d p in
    let dispatched = are.state.dispatched in
    let flushed = are.state.flushed in
    record {
      view = other_appended s.log s.dispatched r core.levels.view are.levels.view (omega (arith, dispatched, flushed)) other;
      waiting = same_lines s.log (with_appended s.log (r ∷ [])) core.levels.waiting.items are.levels.waiting (λ j. other_stays s.log r j other);
    }

-- other levels of the same log serve as well
pub represents_levels : (old : Parts) (levels : Levels) (s : State) → Represents old s → HasLevels s.log s.dispatched levels → Represents (record old { levels = levels }) s
represents_levels old levels s are has = record {
  state = are.state;
  numbers = record { setup = are.numbers.setup; segment = are.numbers.segment; flushed = are.numbers.flushed; dispatched = are.numbers.dispatched; turns = are.numbers.turns; bounded = are.numbers.bounded; now = are.numbers.now; few = are.numbers.few; low = are.numbers.low };
  pending = are.pending;
  out = are.out;
  failed = are.failed;
  rows = are.rows;
  tabled = are.tabled;
  queues = are.queues;
  stored = are.stored;
  room = are.room;
  topics = are.topics;
  clients = are.clients;
  offsets = are.offsets;
  locks = are.locks;
  names = are.names;
  kept = are.kept;
  halves = are.halves;
  levels = has;
  keys = are.keys;
}
