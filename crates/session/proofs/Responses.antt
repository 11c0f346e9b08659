-- Responses that are skipped, one after another.
use Rattle.std.proofs.Common.{◌≡◌, ℕ, ◌+◌, ◌-◌, List, [], ◌∷◌, ◌++◌, length, true, false, Some, refl, subst, arith}
use Rattle.std.specs.Prelude.{Ok}
use Rattle.remoting_frame.specs.Held.{Held}
use Rattle.remoting_frame.specs.Cutting.{NextIs}
use Rattle.remoting_frame.specs.Streams.{BeginsWith}
use Rattle.remoting_frame.specs.declared.frame.Frame.{Frame}
use Rattle.remoting_frame.proofs.StreamLaws.{begins_next, next_shorter}
use Rattle.session.specs.Hearing.{AreResponses, Skips, HearsNext, IsHeard, is_response}
use Rattle.session.specs.declared.heard.Heard.{Heard}

-- before the first frame
pub skips_none : (held : Held) → Skips held [] held
skips_none held = record { begins = (refl, refl); responses = tt }

-- one frame more is taken off
begins_on : (old mid new : Held) (frames : List Frame) (frame : Frame) → BeginsWith old.at old.bytes frames mid.at mid.bytes → NextIs mid (Ok (Some frame)) new
    → BeginsWith old.at old.bytes (frames ++ frame ∷ []) new.at new.bytes
begins_on old mid new frames frame begins is =
    let place : mid.at + (length mid.bytes - length new.bytes) ≡ new.at = omega (arith, is.1, next_shorter mid.at mid.bytes frame new.bytes is.0) in
    subst (λ (w : ℕ). BeginsWith old.at old.bytes (frames ++ frame ∷ []) w new.bytes) place (begins_next old.at old.bytes frames mid.at mid.bytes frame new.bytes begins is.0)

responses_snoc : (frames : List Frame) (frame : Frame) → AreResponses frames → is_response frame.header ≡ true → AreResponses (frames ++ frame ∷ [])
responses_snoc [] frame all is = (is, tt)
responses_snoc (f ∷ frames) frame all is = (all.0, responses_snoc frames frame all.1 is)

-- one response more
pub skips_next : (old mid new : Held) (skipped : List Frame) (frame : Frame) → Skips old skipped mid → NextIs mid (Ok (Some frame)) new → is_response frame.header ≡ true
    → Skips old (skipped ++ frame ∷ []) new
skips_next old mid new skipped frame skips is response =
    record { begins = begins_on old mid new skipped frame skips.begins is; responses = responses_snoc skipped frame skips.responses response }

-- a request behind responses
pub hears_next : (old mid new : Held) (skipped : List Frame) (frame : Frame) (heard : Heard) → Skips old skipped mid → NextIs mid (Ok (Some frame)) new → is_response frame.header ≡ false
    → IsHeard heard frame → HearsNext heard old new
hears_next old mid new skipped frame heard skips is request said = record {
  skipped = skipped;
  frame = frame;
  begins = begins_on old mid new skipped frame skips.begins is;
  responses = skips.responses;
  request = request;
  is = said;
}
