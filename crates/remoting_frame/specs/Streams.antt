-- A stream and its frames.
use Rattle.std.specs.Prelude.{◌≡◌, ◌≢◌, ℕ, ◌+◌, ◌-◌, List, [], ◌∷◌, length, Some, None, Ok, Err}
use Rattle.remoting_frame.specs.Frames.{next_of}
use Rattle.remoting_frame.specs.declared.frame.Frame.{Frame}
use Rattle.remoting_frame.specs.declared.fault.FrameFault.{FrameFault}

-- From the place `at` on the bytes begin with these frames, and then the rest is at the place `end`.
abbrev pub BeginsWith : ℕ → List ℕ → List Frame → ℕ → List ℕ → Type 0
BeginsWith at bytes [] end rest = (at ≡ end) × (bytes ≡ rest)
BeginsWith at bytes (f ∷ fs) end rest = (after : List ℕ) × (next_of at bytes ≡ Ok (Some (f, after)))
    × BeginsWith (at + (length bytes - length after)) after fs end rest

-- What stands behind the frames of a stream: nothing, a part of a frame that starts at the place, or a fault.
pub data End : Type 0 where
  nothing : End
  part : ℕ → End
  faulty : FrameFault → End

-- No frame begins at the place `at`, since this stands there.
abbrev pub Stops : ℕ → List ℕ → End → Type 0
Stops at rest nothing = rest ≡ []
Stops at rest (part from) = (rest ≢ []) × (from ≡ at) × (next_of at rest ≡ Ok None)
Stops at rest (faulty fault) = next_of at rest ≡ Err fault

-- The stream is these frames, and then this end.
pub record IsCut (bytes : List ℕ) (frames : List Frame) (end : End) : Type 0 where
  pub at : ℕ
  pub rest : List ℕ
  pub begins : BeginsWith 0 bytes frames at rest
  pub stops : Stops at rest end
