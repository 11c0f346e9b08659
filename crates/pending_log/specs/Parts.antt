-- What contracts see of the pending part of a log.
use Rattle.std.specs.Prelude.{ℕ, ◌+◌, ◌-◌, ◌*◌, ◌^◌, ◌<◌, ◌≤◌, min, List, [], ◌++◌, length, Option, Some, None}
use Rattle.record_codec.specs.Entry.{Entry}
use Rattle.record_codec.specs.Layout.{size, layout}
use Rattle.pending_log.specs.declared.pending.Pending.TheInside.{Inside}
use Rattle.pending_log.specs.declared.turn.Out.{Out}
use Rattle.pending_log.specs.declared.turn.FailedTurn.{FailedTurn}

-- The bytes of a segment; the number of the first pending record, and the number after the last; where the flushed records end,
-- and where the last one does; the pending bytes; the turn that is out, how many there were, and the last that failed.
pub record PendingPart : Type 0 where
  pub segment : ℕ
  pub flushed : ℕ
  pub count : ℕ
  pub start : ℕ
  pub end : ℕ
  pub bytes : List ℕ
  pub out : Option Out
  pub turns : ℕ
  pub failed : Option FailedTurn

-- the same of the parts that the code keeps
abbrev pub part_of : Inside → PendingPart
part_of p = record {
  segment = p.segment;
  flushed = p.flushed;
  count = p.count;
  start = p.start;
  end = p.end;
  bytes = p.buffer;
  out = p.out;
  turns = p.turns;
  failed = p.failed;
}

-- nothing is pending behind so many records that end there
abbrev pub new_part : ℕ → ℕ → ℕ → PendingPart
new_part segment count end = record {
  segment = segment;
  flushed = count;
  count = count;
  start = end;
  end = end;
  bytes = [];
  out = None;
  turns = 0;
  failed = None;
}

-- with a record appended
abbrev pub appended : PendingPart → Entry → PendingPart
appended p r = record p { count = p.count + 1; end = r.offset + size r; bytes = p.bytes ++ layout r }

-- with a turn taken, the one after the last; the greatest number that 64 bits can say stays
abbrev pub turned : PendingPart → Out → PendingPart
turned p out = record p { out = Some out; turns = min (p.turns + 1) (2 ^ 64 - 1) }

-- The numbers are those that a log can have, whose records have 91 bytes and more and end at 2^62 at most.
pub record IsBounded (p : PendingPart) : Type 0 where
  pub some : 0 < p.segment
  pub segment : p.segment ≤ 2 ^ 30
  pub ordered : p.flushed ≤ p.count
  pub few : 91 * p.count ≤ p.end
  pub low : p.end ≤ 2 ^ 62
  pub short : length p.bytes ≤ 67108864
