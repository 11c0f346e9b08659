-- Two loops before they run.
use Rattle.std.specs.Prelude.{◌≡◌, ℕ, List, []}
use Rattle.mq_peers.specs.Ended.{LinkEnd}
use Rattle.event_loops.specs.declared.event_loop.EventLoop.{EventLoop}

-- one of two loops, with this number, which had no link yet; where its ledger tells, it has none either
pub record IsLoop {Ready Link Door Ends Waker : Type 0} (told : Type 0) (entries : Ends → List LinkEnd) (number : ℕ)
    (it : EventLoop Ready Link Door Ends Waker) : Type 0 where
  pub loops : (it.links.loops ≡ 2) × (it.links.number ≡ number)
  pub none : it.links.slots.items ≡ []
  pub fresh : told → entries it.links.ledger.ends ≡ []

-- both of them
abbrev pub AreLoops : {Ready Link Door Ends Waker : Type 0} → Type 0 → (Ends → List LinkEnd) → EventLoop Ready Link Door Ends Waker
    → EventLoop Ready Link Door Ends Waker → Type 0
AreLoops told entries first second = IsLoop told entries 0 first × IsLoop told entries 1 second
