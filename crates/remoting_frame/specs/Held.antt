-- What a cutter holds.
use Rattle.std.specs.Prelude.{◌≡◌, ℕ, ◌+◌, ◌^◌, ◌<◌, List, length, Option, Some, Ok, IfSome}
use Rattle.remoting_frame.specs.Fronts.{front_view}
use Rattle.remoting_frame.specs.Frames.{first_of}
use Rattle.remoting_frame.specs.declared.front.FrameFront.{FrameFront}

-- where the next frame starts, and the bytes from there on
pub record Held : Type 0 where
  pub at : ℕ
  pub bytes : List ℕ

-- the place has 64 bits, and a front that is kept is that of the next frame
pub record IsKept (at : ℕ) (bytes : List ℕ) (front : Option FrameFront) : Type 0 where
  pub fits : at + length bytes < 2 ^ 64
  pub known : IfSome front (λ f. first_of at bytes ≡ Ok (Some (front_view f)))
