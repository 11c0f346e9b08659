-- However a stream is cut, its frames are the same.
use Rattle.std.proofs.Common.{◌≡◌, ℕ, zero, suc, ◌+◌, ◌-◌, ◌<◌, ◌≤◌, ◌++◌, List, [], ◌∷◌, length, take, drop, Bool, true, false, cond, ltb, Option, Some, None, Result, Ok, Err, refl, sym, ap, subst, ◌∙◌, arith, length-append, length-drop, append_assoc, append-nil}
use Rattle.std.proofs.lemmas.Bool.{ltb-false, le-ltb}
use Rattle.std.proofs.lemmas.List.{take-append-le, drop-append-le}
use Rattle.remoting_frame.specs.Frames.{Front, first_of, whole, then_whole, next_of}
use Rattle.remoting_frame.specs.Streams.{BeginsWith, Stops, IsCut, End, nothing, part, faulty}
use Rattle.remoting_frame.specs.Held.{Held}
use Rattle.remoting_frame.specs.Cutting.{NextIs}
use Rattle.remoting_frame.specs.Calls.{Call, fed, gave, AreCalls, stream_of, frames_of}
use Rattle.remoting_frame.specs.declared.frame.Frame.{Frame}
use Rattle.remoting_frame.specs.declared.fault.FrameFault.{FrameFault}
use Rattle.remoting_frame.proofs.FrontLaws.{IsSettled, first_settled, has_room}
use Rattle.remoting_frame.proofs.FrameTexts.{frame_parts}

abbrev Next : Type 0
Next = Result (Option (Frame × List ℕ)) FrameFault

abbrev IsOver : Next → Type 0
IsOver (Ok None) = ⊥
IsOver (Ok (Some f)) = Unit {0}
IsOver (Err e) = Unit {0}

-- a frame and what follows it, with more behind
abbrev and_more : List ℕ → Next → Next
and_more more (Err e) = Err e
and_more more (Ok None) = Ok None
and_more more (Ok (Some f)) = Ok (Some (f.0, f.1 ++ more))

settled_first : (at : ℕ) (bytes : List ℕ) (r : Result (Option Front) FrameFault) → IsOver (then_whole at bytes r) → IsSettled r
settled_first at bytes (Err e) s = tt
settled_first at bytes (Ok None) s = s
settled_first at bytes (Ok (Some f)) s = tt

-- one choice beside another
chosen : (b c : Bool) (x y : Frame × List ℕ) (more : List ℕ) → (b ≡ false → (c ≡ false) × (y ≡ (x.0, x.1 ++ more))) → IsOver (Ok (cond b None (Some x))) → Ok (cond c None (Some y)) ≡ and_more more (Ok (cond b None (Some x)))
chosen true c x y more h s = absurd s
chosen false c x y more h s = let p = h refl in rw (p.0, p.1) refl

whole_more : (at : ℕ) (bytes more : List ℕ) (f : Front) → 8 + f.header_len ≤ f.len → IsOver (Ok (whole at bytes f)) → Ok (whole at (bytes ++ more) f) ≡ and_more more (Ok (whole at bytes f))
unfolding whole
whole_more at bytes more f room s =
    chosen (ltb (length bytes) f.len) (ltb (length (bytes ++ more)) f.len) _ _ more
    (λ e.
    let le : f.len ≤ length bytes = ltb-false _ _ e in
    let from : 8 + f.header_len ≤ length bytes = omega arith in
    let longer : ltb (length (bytes ++ more)) f.len ≡ false = le-ltb _ _ (omega (arith, length-append bytes more)) in
    let within : f.len - (8 + f.header_len) ≤ length (drop (8 + f.header_len) bytes) = omega (arith, length-drop (8 + f.header_len) bytes) in
    let body : take (f.len - (8 + f.header_len)) (drop (8 + f.header_len) (bytes ++ more)) ≡ take (f.len - (8 + f.header_len)) (drop (8 + f.header_len) bytes) =
    rw (drop-append-le (8 + f.header_len) bytes more from) (take-append-le (f.len - (8 + f.header_len)) (drop (8 + f.header_len) bytes) more within) in
    let rest : drop f.len (bytes ++ more) ≡ drop f.len bytes ++ more = drop-append-le f.len bytes more le in
    (longer, rw (body, rest) refl))
    s

then_more : (at : ℕ) (bytes more : List ℕ) (r : Result (Option Front) FrameFault) → first_of at bytes ≡ r → IsOver (then_whole at bytes r) → then_whole at (bytes ++ more) r ≡ and_more more (then_whole at bytes r)
then_more at bytes more (Err e) is s = refl
then_more at bytes more (Ok None) is s = absurd s
then_more at bytes more (Ok (Some f)) is s = whole_more at bytes more f (has_room at bytes f is) s

-- More bytes change nothing of a frame that is whole, and of a fault.
pub next_more : (at : ℕ) (bytes more : List ℕ) → IsOver (next_of at bytes) → next_of at (bytes ++ more) ≡ and_more more (next_of at bytes)
next_more at bytes more s =
    ap (then_whole at (bytes ++ more)) (first_settled at bytes more (settled_first at bytes (first_of at bytes) s)) ∙ then_more at bytes more (first_of at bytes) refl s

pub frame_more : (at : ℕ) (bytes more : List ℕ) (f : Frame) (after : List ℕ) → next_of at bytes ≡ Ok (Some (f, after)) → next_of at (bytes ++ more) ≡ Ok (Some (f, after ++ more))
frame_more at bytes more f after e = next_more at bytes more (rw e tt) ∙ ap (and_more more) e

-- a fault is a fault for good
pub fault_more : (at : ℕ) (bytes more : List ℕ) (e : FrameFault) → next_of at bytes ≡ Err e → next_of at (bytes ++ more) ≡ Err e
fault_more at bytes more f e = next_more at bytes more (rw e tt) ∙ ap (and_more more) e

-- the frames so far stay
pub begins_more : (at : ℕ) (bytes more : List ℕ) (fs : List Frame) (end : ℕ) (rest : List ℕ) → BeginsWith at bytes fs end rest → BeginsWith at (bytes ++ more) fs end (rest ++ more)
begins_more at bytes more [] end rest h = (h.0, ap (λ (w : List ℕ). w ++ more) h.1)
begins_more at bytes more (f ∷ fs) end rest h =
    let same : length (bytes ++ more) - length (h.0 ++ more) ≡ length bytes - length h.0 = omega (arith, length-append bytes more, length-append h.0 more) in
    (h.0 ++ more, frame_more at bytes more f h.0 h.1, rw same (begins_more (at + (length bytes - length h.0)) h.0 more fs end rest h.2))

-- one frame more
pub begins_next : (at : ℕ) (bytes : List ℕ) (fs : List Frame) (end : ℕ) (rest : List ℕ) (f : Frame) (after : List ℕ) → BeginsWith at bytes fs end rest → next_of end rest ≡ Ok (Some (f, after))
    → BeginsWith at bytes (fs ++ f ∷ []) (end + (length rest - length after)) after
begins_next at bytes [] end rest f after h e =
    (after, rw (h.0, h.1) e, (rw (h.0, h.1) refl, refl))
begins_next at bytes (g ∷ fs) end rest f after h e = (h.0, h.1, begins_next (at + (length bytes - length h.0)) h.0 fs end rest f after h.2 e)

pair_of : (x y : Frame × List ℕ) (r : Next) → r ≡ Ok (Some x) → r ≡ Ok (Some y) → x ≡ y
pair_of x y r p q = cc

-- where no bytes are held no frame is
none_waits : (at : ℕ) (rest : List ℕ) → rest ≡ [] → next_of at rest ≡ Ok None
unfolding first_of
none_waits at rest e = rw e refl

no_more : (f : Frame) (a rest : List ℕ) (at : ℕ) (stop : End) → next_of at rest ≡ Ok (Some (f, a)) → Stops at rest stop → ⊥
no_more f a rest at nothing p s = let q = none_waits at rest s in absurd cc
no_more f a rest at (part from) p s = let q = s.2 in absurd cc
no_more f a rest at (faulty e) p s = absurd cc

-- a stream has one list of frames, and one place behind them
one_list : (at : ℕ) (bytes : List ℕ) (fs gs : List Frame) (end other : ℕ) (rest left : List ℕ) (stop halt : End)
    → BeginsWith at bytes fs end rest → Stops end rest stop → BeginsWith at bytes gs other left → Stops other left halt → (fs ≡ gs) × (end ≡ other) × (rest ≡ left)
one_list at bytes [] [] end other rest left stop halt h s k t = (refl, sym h.0 ∙ k.0, sym h.1 ∙ k.1)
one_list at bytes [] (g ∷ gs) end other rest left stop halt h s k t = absurd (no_more g k.0 rest end stop (rw (← h.0, ← h.1) k.1) s)
one_list at bytes (f ∷ fs) [] end other rest left stop halt h s k t = absurd (no_more f h.0 left other halt (rw (← k.0, ← k.1) h.1) t)
one_list at bytes (f ∷ fs) (g ∷ gs) end other rest left stop halt h s k t =
    let same = pair_of (f, h.0) (g, k.0) (next_of at bytes) h.1 k.1 in
    let first = ap (λ (p : Frame × List ℕ). p.0) same in
    let after = ap (λ (p : Frame × List ℕ). p.1) same in
    let moved = subst (λ (w : List ℕ). BeginsWith (at + (length bytes - length w)) w gs other left) (sym after) k.2 in
    let others = one_list (at + (length bytes - length h.0)) h.0 fs gs end other rest left stop halt h.2 s moved t in
    (rw (first, others.0) refl, others.1, others.2)

-- and one end there
same_end : (at : ℕ) (rest : List ℕ) (stop halt : End) → Stops at rest stop → Stops at rest halt → stop ≡ halt
same_end at rest nothing nothing s t = refl
same_end at rest nothing (part from) s t = absurd (t.0 s)
same_end at rest nothing (faulty e) s t = let q = none_waits at rest s in absurd cc
same_end at rest (part from) nothing s t = absurd (s.0 t)
same_end at rest (part from) (part to) s t = ap part (s.1 ∙ sym t.1)
same_end at rest (part from) (faulty e) s t = let q = s.2 in absurd cc
same_end at rest (faulty e) nothing s t = let q = none_waits at rest t in absurd cc
same_end at rest (faulty e) (part from) s t = let q = t.2 in absurd cc
same_end at rest (faulty d) (faulty e) s t = cc

pub one_reading : (bytes : List ℕ) (fs gs : List Frame) (stop halt : End) → IsCut bytes fs stop → IsCut bytes gs halt → (fs ≡ gs) × (stop ≡ halt)
one_reading bytes fs gs stop halt c d =
    let same = one_list 0 bytes fs gs c.at d.at c.rest d.rest stop halt c.begins c.stops d.begins d.stops in
    (same.0, same_end c.at c.rest stop halt c.stops (rw (same.1, same.2) d.stops))

pub fault_stays : (bytes more : List ℕ) (fs : List Frame) (e : FrameFault) → IsCut bytes fs (faulty e) → IsCut (bytes ++ more) fs (faulty e)
fault_stays bytes more fs e c = record { at = c.at; rest = c.rest ++ more; begins = begins_more 0 bytes more fs c.at c.rest c.begins; stops = fault_more c.at c.rest more e c.stops }

-- ---- calls of a cutter

pub next_shorter : (at : ℕ) (bytes : List ℕ) (g : Frame) (after : List ℕ) → next_of at bytes ≡ Ok (Some (g, after)) → length after < length bytes
next_shorter at bytes g after e =
    let parts = frame_parts at bytes (first_of at bytes) (g, after) e in
    let left = ap (λ (p : Frame × List ℕ). length p.1) parts.3 in
    omega (arith, left, parts.2, has_room at bytes parts.0 parts.1, length-drop parts.0.len bytes)

-- a frame that is given goes behind those so far
pub gave_begins : (bytes : List ℕ) (fs : List Frame) (old new : Held) (f : Frame) → BeginsWith 0 bytes fs old.at old.bytes → NextIs old (Ok (Some f)) new → BeginsWith 0 bytes (fs ++ f ∷ []) new.at new.bytes
gave_begins bytes fs old new f begins is =
    let place : old.at + (length old.bytes - length new.bytes) ≡ new.at = omega (arith, is.1, next_shorter old.at old.bytes f new.bytes is.0) in
    subst (λ (w : ℕ). BeginsWith 0 bytes (fs ++ f ∷ []) w new.bytes) place (begins_next 0 bytes fs old.at old.bytes f new.bytes begins is.0)

-- what was held and what is fed later begins with the frames that are given
pub calls_begin : (calls : List Call) (old new : Held) → AreCalls old calls new → BeginsWith old.at (old.bytes ++ stream_of calls) (frames_of calls) new.at new.bytes
calls_begin [] old new h = (ap (λ (w : Held). w.at) h, append-nil old.bytes ∙ ap (λ (w : Held). w.bytes) h)
calls_begin (fed piece ∷ calls) old new h =
    let later = calls_begin calls (record { at = old.at; bytes = old.bytes ++ piece }) new h in
    subst (λ (w : List ℕ). BeginsWith old.at w (frames_of calls) new.at new.bytes) (append_assoc old.bytes piece (stream_of calls)) later
calls_begin (gave frame ∷ calls) old new h =
    let after : Held = h.0 in
    let next = h.1.0 in
    let more = stream_of calls in
    let shorter = next_shorter old.at old.bytes frame after.bytes next in
    let place : old.at + (length (old.bytes ++ more) - length (after.bytes ++ more)) ≡ after.at = omega (arith, h.1.1, length-append old.bytes more, length-append after.bytes more) in
    (after.bytes ++ more, frame_more old.at old.bytes more frame after.bytes next, rw place (calls_begin calls after new h.2))

-- ---- each stream is cut

-- the frames from a place on, and what stands behind them
pub record Cut (at : ℕ) (bytes : List ℕ) : Type 0 where
  pub frames : List Frame
  pub end : End
  pub from : ℕ
  pub rest : List ℕ
  pub begins : BeginsWith at bytes frames from rest
  pub stops : Stops from rest end

no_frames : (at : ℕ) (bytes : List ℕ) (end : End) → Stops at bytes end → Cut at bytes
no_frames at bytes end stops = record { frames = []; end = end; from = at; rest = bytes; begins = (refl, refl); stops = stops }

no_whole_frame : (at : ℕ) (bytes : List ℕ) → next_of at bytes ≡ Ok None → Cut at bytes
no_whole_frame at [] e = no_frames at [] nothing refl
no_whole_frame at (b ∷ bytes) e = no_frames at (b ∷ bytes) (part at) ((λ none. absurd cc), refl, e)

cut_from : (n at : ℕ) (bytes : List ℕ) (r : Next) → length bytes < n → next_of at bytes ≡ r → Cut at bytes
cut_from n at bytes (Err e) lt is = no_frames at bytes (faulty e) is
cut_from n at bytes (Ok None) lt is = no_whole_frame at bytes is
cut_from zero at bytes (Ok (Some f)) lt is = absurd (omega arith)
cut_from (suc n) at bytes (Ok (Some f)) lt is =
    let place = at + (length bytes - length f.1) in
    let later = cut_from n place f.1 (next_of place f.1) (omega (arith, next_shorter at bytes f.0 f.1 is)) refl in
    record { frames = f.0 ∷ later.frames; end = later.end; from = later.from; rest = later.rest; begins = (f.1, is, later.begins); stops = later.stops }

pub stream_is_cut : (bytes : List ℕ) → (frames : List Frame) × (end : End) × IsCut bytes frames end
stream_is_cut bytes =
    let cut = cut_from (suc (length bytes)) 0 bytes (next_of 0 bytes) (omega arith) refl in
    (cut.frames, cut.end, record { at = cut.from; rest = cut.rest; begins = cut.begins; stops = cut.stops })
