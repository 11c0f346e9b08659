-- More bytes change nothing of a front that is whole, and of a fault.
use Rattle.std.proofs.Common.{◌≡◌, ℕ, ◌+◌, ◌-◌, ◌%◌, ◌/◌, ◌^◌, ◌<◌, ◌≤◌, ◌||◌, ◌++◌, List, length, take, drop, Bool, true, false, cond, ltb, Option, Some, None, Result, Ok, Err, refl, sym, ap, subst, ◌∙◌, arith, length-append, length-drop}
use Rattle.std.specs.Int.{w32, from_be_bytes}
use Rattle.std.specs.Prelude.{IfSome, OnOk, OnErr}
use Rattle.std.proofs.lemmas.Bool.{ltb-false, le-ltb, lt-ltb}
use Rattle.std.proofs.lemmas.List.{take-append-le, drop-append-le}
use Rattle.remoting_frame.specs.Head.{Head}
use Rattle.remoting_frame.specs.Headers.{header_in}
use Rattle.remoting_frame.specs.Frames.{Front, form_of, with_header, with_form, with_word, with_length, first_of, whole, next_of}
use Rattle.remoting_frame.specs.Fronts.{front_view}
use Rattle.remoting_frame.specs.Held.{IsKept}
use Rattle.remoting_frame.specs.declared.front.FrameFront.{FrameFront}
use Rattle.remoting_frame.specs.declared.frame.Form.{Form}
use Rattle.remoting_frame.specs.declared.fault.FrameFault.{FrameFault}
use Rattle.remoting_frame.specs.declared.fault.FrameFault.TheVariants as faults

abbrev Answer : Type 0
Answer = Result (Option Front) FrameFault

-- a front or a fault
abbrev pub IsSettled : Answer → Type 0
IsSettled (Ok None) = ⊥
IsSettled (Ok (Some f)) = Unit {0}
IsSettled (Err e) = Unit {0}

-- where enough bytes are there
enough : (b c : Bool) (x y : Answer) → (b ≡ false → c ≡ false) → (b ≡ false → IsSettled x → y ≡ x) → IsSettled (cond b (Ok None) x) → cond c (Ok None) y ≡ cond b (Ok None) x
enough true c x y h k s = absurd s
enough false c x y h k s = rw (h refl) (k refl s)

-- past a test that has no need of more
tested : (b : Bool) (e : FrameFault) (x y : Answer) → (IsSettled x → y ≡ x) → IsSettled (cond b (Err e) x) → cond b (Err e) y ≡ cond b (Err e) x
tested true e x y k s = refl
tested false e x y k s = k s

longer : (n : ℕ) (bytes more : List ℕ) → ltb (length bytes) n ≡ false → ltb (length (bytes ++ more)) n ≡ false
longer n bytes more h = le-ltb _ _ (omega (arith, ltb-false (length bytes) n h, length-append bytes more))

part_stays : (from n : ℕ) (bytes more : List ℕ) → from + n ≤ length bytes → take n (drop from (bytes ++ more)) ≡ take n (drop from bytes)
part_stays from n bytes more le =
    let past : from ≤ length bytes = omega arith in
    let within : n ≤ length (drop from bytes) = omega (arith, length-drop from bytes) in
    rw (drop-append-le from bytes more past) (take-append-le n (drop from bytes) more within)

form_settled : (at : ℕ) (bytes more : List ℕ) (len : ℕ) (form : Option Form) (header_len : ℕ) → IsSettled (with_form at bytes len form header_len) → with_form at (bytes ++ more) len form header_len ≡ with_form at bytes len form header_len
form_settled at bytes more len None header_len s = refl
form_settled at bytes more len (Some form) header_len s =
    tested (ltb len (4 + header_len)) (faults.BadLength at) _ _
    (enough (ltb (length bytes) (8 + header_len)) (ltb (length (bytes ++ more)) (8 + header_len)) _ _
    (longer (8 + header_len) bytes more)
    (λ e k. ap (λ (w : List ℕ). with_header at form header_len len (header_in form w)) (part_stays 8 header_len bytes more (ltb-false _ _ e))))
    s

length_settled : (at : ℕ) (bytes more : List ℕ) (len : ℕ) → IsSettled (with_length at bytes len) → with_length at (bytes ++ more) len ≡ with_length at bytes len
unfolding with_length
length_settled at bytes more len s =
    tested (ltb len 4 || ltb 16777216 len) (faults.BadLength at) _ _
    (enough (ltb (length bytes) 8) (ltb (length (bytes ++ more)) 8) _ _ (longer 8 bytes more)
    (λ e k.
    let same : take 4 (drop 4 (bytes ++ more)) ≡ take 4 (drop 4 bytes) = part_stays 4 4 bytes more (ltb-false _ _ e) in
    ap (λ (w : List ℕ). with_word at (bytes ++ more) len (from_be_bytes w32 w)) same ∙ form_settled at bytes more len _ _ k))
    s

pub first_settled : (at : ℕ) (bytes more : List ℕ) → IsSettled (first_of at bytes) → first_of at (bytes ++ more) ≡ first_of at bytes
unfolding first_of
first_settled at bytes more s =
    enough (ltb (length bytes) 4) (ltb (length (bytes ++ more)) 4) _ _ (longer 4 bytes more)
    (λ e k.
    let same : take 4 (bytes ++ more) ≡ take 4 bytes = take-append-le 4 bytes more (ltb-false _ _ e) in
    ap (λ (w : List ℕ). with_length at (bytes ++ more) (from_be_bytes w32 w)) same ∙ length_settled at bytes more _ k)
    s

settled_front : (r : Answer) (f : Front) → r ≡ Ok (Some f) → IsSettled r
settled_front r f e = rw e tt

-- ---- the frame behind a front

pub waits : (at : ℕ) (bytes : List ℕ) (f : Front) → first_of at bytes ≡ Ok (Some f) → length bytes < f.len → next_of at bytes ≡ Ok None
unfolding whole
waits at bytes f e lt = let short : ltb (length bytes) f.len ≡ true = lt-ltb _ _ lt in rw (e, short) refl

pub cut : (at : ℕ) (bytes : List ℕ) (f : Front) → first_of at bytes ≡ Ok (Some f) → f.len ≤ length bytes
    → next_of at bytes ≡ Ok (Some (record { at = at; form = f.form; header = f.header; body = take (f.len - (8 + f.header_len)) (drop (8 + f.header_len) bytes) }, drop f.len bytes))
unfolding whole
cut at bytes f e le = let long : ltb (length bytes) f.len ≡ false = le-ltb _ _ le in rw (e, long) refl

-- ---- the room of a front

abbrev done : Front → Answer
done f = Ok (Some f)

pub past_fault : (b : Bool) (e : FrameFault) (x : Answer) (f : Front) → cond b (Err e) x ≡ Ok (Some f) → (b ≡ false) × (x ≡ Ok (Some f))
past_fault true e x f h = absurd cc
past_fault false e x f h = (refl, h)

pub past_wait : (b : Bool) (x : Answer) (f : Front) → cond b (Ok None) x ≡ Ok (Some f) → (b ≡ false) × (x ≡ Ok (Some f))
past_wait true x f h = absurd cc
past_wait false x f h = (refl, h)

ok_some : (f g : Front) → done f ≡ done g → f ≡ g
ok_some f g e = cc

header_room : (at : ℕ) (form : Form) (header_len len : ℕ) (o : Option Head) (f : Front) → 4 + header_len ≤ len → with_header at form header_len len o ≡ Ok (Some f) → 8 + f.header_len ≤ f.len
unfolding with_header
header_room at form header_len len None f le h = absurd cc
header_room at form header_len len (Some header) f le h =
    let same : record { form = form; header = header; header_len = header_len; len = len + 4 } ≡ f = ok_some _ f h in
    subst (λ (g : Front). 8 + g.header_len ≤ g.len) same (omega arith)

form_room : (at : ℕ) (bytes : List ℕ) (len : ℕ) (form : Option Form) (header_len : ℕ) (f : Front) → with_form at bytes len form header_len ≡ Ok (Some f) → 8 + f.header_len ≤ f.len
form_room at bytes len None header_len f h = absurd cc
form_room at bytes len (Some form) header_len f h =
    let p = past_fault (ltb len (4 + header_len)) (faults.BadLength at) _ f h in
    let q = past_wait (ltb (length bytes) (8 + header_len)) _ f p.1 in
    header_room at form header_len len _ f (ltb-false _ _ p.0) q.1

pub has_room : (at : ℕ) (bytes : List ℕ) (f : Front) → first_of at bytes ≡ Ok (Some f) → 8 + f.header_len ≤ f.len
unfolding first_of with_length
has_room at bytes f h =
    let a = past_wait (ltb (length bytes) 4) _ f h in
    let b = past_fault _ (faults.BadLength at) _ f a.1 in
    let c = past_wait (ltb (length bytes) 8) _ f b.1 in
    let word = from_be_bytes w32 (take 4 (drop 4 bytes)) in
    form_room at bytes (from_be_bytes w32 (take 4 bytes)) (form_of (word / 2 ^ 24)) (word % 2 ^ 24) f c.1

-- ---- what a cutter keeps

known_stays : (at : ℕ) (bytes more : List ℕ) (front : Option FrameFront) → IfSome front (λ s. first_of at bytes ≡ Ok (Some (front_view s))) → IfSome front (λ s. first_of at (bytes ++ more) ≡ Ok (Some (front_view s)))
known_stays at bytes more None h = tt
known_stays at bytes more (Some s) h = first_settled at bytes more (settled_front _ _ h) ∙ h

pub kept_fed : (at : ℕ) (bytes more : List ℕ) (front : Option FrameFront) → IsKept at bytes front → at + length bytes + length more < 2 ^ 64 → IsKept at (bytes ++ more) front
kept_fed at bytes more front kept fits = record { fits = omega (arith, length-append bytes more); known = known_stays at bytes more front kept.known }

pub kept_after : {T E : Type 0} (r : Result T E) (at : ℕ) (old new piece : List ℕ) (front : Option FrameFront) → OnOk r (new ≡ old ++ piece) → OnErr r (new ≡ old)
    → at + length old + length piece < 2 ^ 64 → IsKept at old front → IsKept at new front
kept_after (Ok u) at old new piece front ok err fits kept = subst (λ (w : List ℕ). IsKept at w front) (sym ok) (kept_fed at old piece front kept fits)
kept_after (Err e) at old new piece front ok err fits kept = subst (λ (w : List ℕ). IsKept at w front) (sym err) kept
