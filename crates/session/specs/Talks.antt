-- Calls of a talk: what they fed, and what was heard.
use Rattle.std.specs.Prelude.{◌≡◌, ◌++◌, ℕ, not, List, [], ◌∷◌, filter, Option, Some, None, Result, Ok, Err}
use Rattle.remoting_frame.specs.Held.{Held}
use Rattle.remoting_frame.specs.Streams.{BeginsWith}
use Rattle.remoting_frame.specs.declared.frame.Frame.{Frame}
use Rattle.remoting_frame.specs.declared.fault.FrameFault.{FrameFault}
use Rattle.session.specs.Hearing.{Hears, IsHeard, is_response}
use Rattle.session.specs.declared.heard.Heard.{Heard}

-- a piece was fed, or the next request was asked for
pub data Call : Type 0 where
  fed : List ℕ → Call
  answered : Result (Option Heard) FrameFault → Call

-- these calls, in this order, lead from what was held to what is held
abbrev pub AreCalls : Held → List Call → Held → Type 0
AreCalls old [] new = old ≡ new
AreCalls old (fed piece ∷ calls) new = AreCalls (record { at = old.at; bytes = old.bytes ++ piece }) calls new
AreCalls old (answered result ∷ calls) new = (after : Held) × Hears old result after × AreCalls after calls new

-- the pieces that were fed, joined
abbrev pub stream_of : List Call → List ℕ
stream_of [] = []
stream_of (fed piece ∷ calls) = piece ++ stream_of calls
stream_of (answered result ∷ calls) = stream_of calls

-- what an answer lets be heard
abbrev pub heard_in : Result (Option Heard) FrameFault → List Heard
heard_in (Ok (Some heard)) = heard ∷ []
heard_in (Ok None) = []
heard_in (Err fault) = []

-- all that was heard, in order
abbrev pub heard_of : List Call → List Heard
heard_of [] = []
heard_of (fed piece ∷ calls) = heard_of calls
heard_of (answered result ∷ calls) = heard_in result ++ heard_of calls

-- the requests among the frames
abbrev pub requests_of : List Frame → List Frame
requests_of = filter (λ frame. not (is_response frame.header))

-- each of these is what its frame says
abbrev pub AreHeard : List Heard → List Frame → Type 0
AreHeard [] [] = Unit {0}
AreHeard [] (frame ∷ frames) = ⊥
AreHeard (heard ∷ more) [] = ⊥
AreHeard (heard ∷ more) (frame ∷ frames) = IsHeard heard frame × AreHeard more frames

-- From the place `at` on the bytes begin with frames whose requests are these, and the rest is held.
pub record HasHeard (at : ℕ) (bytes : List ℕ) (heard : List Heard) (held : Held) : Type 0 where
  pub frames : List Frame
  pub begins : BeginsWith at bytes frames held.at held.bytes
  pub requests : AreHeard heard (requests_of frames)
