-- The disk's count of failures over flush turns.
use Rattle.std.proofs.Common.{ℕ, ◌≤◌, arith}
use Rattle.worker_turns.specs.Turns.{CountsEnd as CountsTurn}
use Rattle.worker_turns.specs.declared.flush.FlushEnd.{FlushEnd}
use Rattle.worker_turns.specs.declared.flush.FlushEnd.TheVariants as flush
use Rattle.flush_rounds.specs.Causes.{BlamesDisk}

pub turn_grows : (end : FlushEnd) (old new : ℕ) → CountsTurn end old new → old ≤ new
turn_grows flush.Idle old new counts = omega (arith, counts)
turn_grows flush.Done old new counts = omega (arith, counts)
turn_grows (flush.Failed count) old new counts = counts.0.0
turn_grows flush.Misplaced old new counts = omega (arith, counts)
turn_grows flush.Memory old new counts = omega (arith, counts)

-- a flush turn behind others
pub turn_blamed : (end : FlushEnd) (old mid new : ℕ) → old ≤ mid → CountsTurn end mid new → BlamesDisk end old new
turn_blamed flush.Idle old mid new grows counts = tt
turn_blamed flush.Done old mid new grows counts = tt
turn_blamed (flush.Failed count) old mid new grows counts = (omega (arith, grows, counts.0.0), omega (arith, grows, counts.0.1))
turn_blamed flush.Misplaced old mid new grows counts = tt
turn_blamed flush.Memory old mid new grows counts = tt

pub disk_blamed : (end : FlushEnd) (old mid new : ℕ) → old ≤ mid → BlamesDisk end mid new → BlamesDisk end old new
disk_blamed flush.Idle old mid new grows blames = tt
disk_blamed flush.Done old mid new grows blames = tt
disk_blamed (flush.Failed count) old mid new grows blames = (omega (arith, grows, blames.0), omega (arith, grows, blames.1))
disk_blamed flush.Misplaced old mid new grows blames = tt
disk_blamed flush.Memory old mid new grows blames = tt

-- a flush turn, and others behind it
pub blamed_more : (end : FlushEnd) (old mid new : ℕ) → mid ≤ new → BlamesDisk end old mid → BlamesDisk end old new
blamed_more flush.Idle old mid new grows blames = tt
blamed_more flush.Done old mid new grows blames = tt
blamed_more (flush.Failed count) old mid new grows blames = (omega (arith, grows, blames.0), omega (arith, grows, blames.1))
blamed_more flush.Misplaced old mid new grows blames = tt
blamed_more flush.Memory old mid new grows blames = tt
