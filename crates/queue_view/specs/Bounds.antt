-- Where a pull begins.
use Rattle.std.specs.Prelude.{ℕ, ◌==◌, ◌&&◌, nat_lt, ℤ, pos, negsuc, if◌then◌else◌}
use Rattle.queue_view.specs.declared.bounds.Start.{Start}
use Rattle.queue_view.specs.declared.bounds.Start.TheVariants.{Within, AtEnd, Outside}

-- an offset from low up to high is within, high is at the end, and others are outside; the empty queue has its end at 0
abbrev pub start_of : ℤ → ℕ → ℕ → Start
start_of (pos from) low high =
    if (high == 0) && (from == 0) then AtEnd 0
    else (if nat_lt from low then Outside low
    else (if from == high then AtEnd high
    else (if nat_lt high from then Outside high else Within from)))
start_of (negsuc from) low high = Outside low
