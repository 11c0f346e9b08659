-- The buffer of the calls of a disk in memory, with one call more.
use Rattle.std.proofs.Common.{◌≡◌, ℕ, ◌+◌, List, [], ◌∷◌, ◌++◌, length, take, drop, sym, ◌∙◌, ap, arith, length-drop, append_assoc}
use Rattle.std.proofs.lemmas.List.{nil_from_length, take-append-le, drop-append-le, take_at, drop_at, take_all}
use Rattle.mq_outside.specs.Calls.{Event}
use Rattle.mq_outside.specs.MemCalls.{total, events_in, event_of}
use Rattle.mq_outside.specs.declared.mem_calls.Call.{Call}

pub total-append : (xs ys : List Call) → total (xs ++ ys) ≡ total xs + total ys
total-append [] ys = omega arith
total-append (x ∷ xs) ys = omega (arith, total-append xs ys)

-- the calls of two buffers, one behind the other
events_in-append : (xs ys : List Call) (a b : List ℕ) → total xs ≡ length a → events_in (xs ++ ys) (a ++ b) ≡ events_in xs a ++ events_in ys b
events_in-append [] ys a b whole = ap (λ (l : List ℕ). events_in ys (l ++ b)) (nil_from_length a (sym whole))
events_in-append (x ∷ xs) ys a b whole =
    let name : take x.name (a ++ b) ≡ take x.name a = take-append-le x.name a b (omega arith) in
    let behind : drop x.name (a ++ b) ≡ drop x.name a ++ b = drop-append-le x.name a b (omega arith) in
    let piece : take x.size (drop x.name (a ++ b)) ≡ take x.size (drop x.name a) =
    ap (λ (l : List ℕ). take x.size l) behind ∙ take-append-le x.size (drop x.name a) b (omega (arith, length-drop x.name a)) in
    let rest : drop (x.name + x.size) (a ++ b) ≡ drop (x.name + x.size) a ++ b = drop-append-le (x.name + x.size) a b (omega arith) in
    let more : events_in (xs ++ ys) (drop (x.name + x.size) a ++ b) ≡ events_in xs (drop (x.name + x.size) a) ++ events_in ys b =
    events_in-append xs ys (drop (x.name + x.size) a) b (omega (arith, length-drop (x.name + x.size) a)) in
    ap (λ (n : List ℕ). event_of x.kind n (take x.size (drop x.name (a ++ b))) ∷ events_in (xs ++ ys) (drop (x.name + x.size) (a ++ b))) name
    ∙ ap (λ (n : List ℕ). event_of x.kind (take x.name a) n ∷ events_in (xs ++ ys) (drop (x.name + x.size) (a ++ b))) piece
    ∙ ap (λ (n : List Event). event_of x.kind (take x.name a) (take x.size (drop x.name a)) ∷ n) (ap (events_in (xs ++ ys)) rest ∙ more)

-- one call more
pub noted : (calls : List Call) (buffer name piece : List ℕ) (call : Call) → total calls ≡ length buffer → call.name ≡ length name → call.size ≡ length piece
    → events_in (calls ++ call ∷ []) (buffer ++ name ++ piece) ≡ events_in calls buffer ++ event_of call.kind name piece ∷ []
noted calls buffer name piece call whole named sized =
    let first : take call.name (name ++ piece) ≡ name = take_at name piece call.name (sym named) in
    let last : take call.size (drop call.name (name ++ piece)) ≡ piece = ap (λ (l : List ℕ). take call.size l) (drop_at name piece call.name (sym named)) ∙ take_all call.size piece (omega arith) in
    ap (events_in (calls ++ call ∷ [])) (append_assoc buffer name piece)
    ∙ events_in-append calls (call ∷ []) buffer (name ++ piece) whole
    ∙ ap (λ (l : List ℕ). events_in calls buffer ++ event_of call.kind l (take call.size (drop call.name (name ++ piece))) ∷ []) first
    ∙ ap (λ (l : List ℕ). events_in calls buffer ++ event_of call.kind name l ∷ []) last
