-- What was heard are the requests of the stream.
use Rattle.std.proofs.Common.{◌≡◌, ℕ, ◌+◌, ◌-◌, List, [], ◌∷◌, ◌++◌, length, Bool, false, not, Option, Some, None, Ok, Err, refl, sym, ap, ◌∙◌, subst, append_assoc, append-nil}
use Rattle.std.specs.Prelude.{Result, if◌then◌else◌}
use Rattle.std.proofs.lemmas.List.Elements.{filter-append}
use Rattle.remoting_frame.specs.Held.{Held}
use Rattle.remoting_frame.specs.Streams.{BeginsWith}
use Rattle.remoting_frame.specs.declared.frame.Frame.{Frame}
use Rattle.remoting_frame.specs.declared.fault.FrameFault.{FrameFault}
use Rattle.remoting_frame.specs.declared.fault.FrameFault.TheVariants as faults
use Rattle.remoting_frame.proofs.StreamLaws.{begins_more}
use Rattle.session.specs.Hearing.{AreResponses, Hears, HearsNone, is_response}
use Rattle.session.specs.Talks.{Call, fed, answered, AreCalls, stream_of, heard_in, heard_of, requests_of, AreHeard, HasHeard}
use Rattle.session.specs.declared.heard.Heard.{Heard}

-- frames, and behind them others
pub begins_append : (at : ℕ) (bytes : List ℕ) (fs gs : List Frame) (mid : ℕ) (rest : List ℕ) (end : ℕ) (last : List ℕ) → BeginsWith at bytes fs mid rest → BeginsWith mid rest gs end last
    → BeginsWith at bytes (fs ++ gs) end last
begins_append at bytes [] gs mid rest end last h k = rw (h.0, h.1) k
begins_append at bytes (f ∷ fs) gs mid rest end last h k = (h.0, h.1, begins_append (at + (length bytes - length h.0)) h.0 fs gs mid rest end last h.2 k)

pub heard_append : (hs ks : List Heard) (fs gs : List Frame) → AreHeard hs fs → AreHeard ks gs → AreHeard (hs ++ ks) (fs ++ gs)
heard_append [] ks [] gs h k = k
heard_append [] ks (f ∷ fs) gs h k = absurd h
heard_append (x ∷ hs) ks [] gs h k = absurd h
heard_append (x ∷ hs) ks (f ∷ fs) gs h k = (h.0, heard_append hs ks fs gs h.1 k)

-- responses have no request among them
no_requests : (frames : List Frame) → AreResponses frames → requests_of frames ≡ []
no_requests [] all = refl
no_requests (f ∷ frames) all = subst (λ (b : Bool). (if not b then f ∷ requests_of frames else requests_of frames) ≡ []) (sym all.0) (no_requests frames all.1)

one_request : (frame : Frame) → is_response frame.header ≡ false → requests_of (frame ∷ []) ≡ frame ∷ []
one_request frame is = subst (λ (b : Bool). (if not b then frame ∷ [] else []) ≡ frame ∷ []) (sym is) refl

pub none_heard : (old after : Held) (rest : Type 0) → HearsNone old after rest → HasHeard old.at old.bytes [] after
none_heard old after rest h = record { frames = h.skipped; begins = h.skips.begins; requests = subst (λ (l : List Frame). AreHeard [] l) (sym (no_requests h.skipped h.skips.responses)) tt }

-- what one answer takes off
pub one_answer : (old after : Held) (result : Result (Option Heard) FrameFault) → Hears old result after → HasHeard old.at old.bytes (heard_in result) after
one_answer old after (Ok (Some heard)) h =
    let requests : requests_of (h.skipped ++ h.frame ∷ []) ≡ h.frame ∷ [] =
    filter-append (λ frame. not (is_response frame.header)) h.skipped (h.frame ∷ []) ∙ ap (λ (l : List Frame). l ++ requests_of (h.frame ∷ [])) (no_requests h.skipped h.responses) ∙ one_request h.frame h.request in
    record { frames = h.skipped ++ h.frame ∷ []; begins = h.begins; requests = subst (λ (l : List Frame). AreHeard (heard ∷ []) l) (sym requests) (h.is, tt) }
one_answer old after (Ok None) h = none_heard old after _ h
one_answer old after (Err faults.Memory) h = none_heard old after _ h
one_answer old after (Err (faults.BadLength at)) h = none_heard old after _ h
one_answer old after (Err (faults.BadForm at)) h = none_heard old after _ h
one_answer old after (Err (faults.BadHeader at)) h = none_heard old after _ h

-- what all calls took off
pub calls_hear : (calls : List Call) (old new : Held) → AreCalls old calls new → HasHeard old.at (old.bytes ++ stream_of calls) (heard_of calls) new
calls_hear [] old new h = record { frames = []; begins = (ap (λ (w : Held). w.at) h, append-nil old.bytes ∙ ap (λ (w : Held). w.bytes) h); requests = tt }
calls_hear (fed piece ∷ calls) old new h =
    let later = calls_hear calls (record { at = old.at; bytes = old.bytes ++ piece }) new h in
    subst (λ (l : List ℕ). HasHeard old.at l (heard_of calls) new) (append_assoc old.bytes piece (stream_of calls)) later
calls_hear (answered result ∷ calls) old new h =
    let one = one_answer old h.0 result h.1 in
    let later = calls_hear calls h.0 new h.2 in
    let front = begins_more old.at old.bytes (stream_of calls) one.frames h.0.at h.0.bytes one.begins in
    record {
      frames = one.frames ++ later.frames;
      begins = begins_append old.at (old.bytes ++ stream_of calls) one.frames later.frames h.0.at (h.0.bytes ++ stream_of calls) new.at new.bytes front later.begins;
      requests = subst (λ (l : List Frame). AreHeard (heard_in result ++ heard_of calls) l) (sym (filter-append (λ frame. not (is_response frame.header)) one.frames later.frames))
          (heard_append (heard_in result) (heard_of calls) (requests_of one.frames) (requests_of later.frames) one.requests later.requests);
    }
