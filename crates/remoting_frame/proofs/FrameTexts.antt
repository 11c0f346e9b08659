-- The next frame is the one that the bytes spell.
use Rattle.std.proofs.Common.{◌≡◌, ℕ, ◌+◌, ◌-◌, ◌*◌, ◌/◌, ◌%◌, ◌^◌, ◌≤◌, ◌||◌, List, [], ◌++◌, length, take, drop, Bool, true, false, cond, ltb, eqb, Option, Some, None, Result, Ok, Err, refl, sym, ap, subst, ◌∙◌, append_assoc, arith, length-append, length-drop}
use Rattle.std.specs.Int.{w32, from_be_bytes, to_be_bytes}
use Rattle.std.proofs.lemmas.Bool.{ltb-false, le-ltb, eqb-true}
use Rattle.std.proofs.lemmas.Nat.{div-mul-add, mod-mul-add}
use Rattle.std.proofs.lemmas.List.{take-append-drop, length-take-le, drop-drop}
use Rattle.remoting_frame.specs.Head.{Head}
use Rattle.remoting_frame.specs.Headers.{header_in, header_text, form_byte, words, frame_bytes}
use Rattle.remoting_frame.specs.Frames.{Front, form_of, with_header, with_form, with_length, first_of, whole, then_whole, next_of}
use Rattle.remoting_frame.specs.FrameForm.{IsFrame}
use Rattle.mq_bytes.specs.Bytes.{AreBytes}
use Rattle.remoting_frame.specs.declared.frame.Form.{Form}
use Rattle.remoting_frame.specs.declared.frame.Form.TheVariants.{Json, Binary}
use Rattle.remoting_frame.specs.declared.frame.Frame.{Frame}
use Rattle.remoting_frame.specs.declared.fault.FrameFault.{FrameFault}
use Rattle.remoting_frame.specs.declared.fault.FrameFault.TheVariants as faults
use Rattle.remoting_frame.proofs.WireNumbers.{wide32, part_at, rest_at, AreBytes-take, AreBytes-drop}
use Rattle.remoting_frame.proofs.FrontLaws.{cut, past_fault, past_wait}

-- ---- what is spelled so is next

form_again : (form : Form) → form_of (form_byte form) ≡ Some form
form_again Json = refl
form_again Binary = refl

form_small : (form : Form) → form_byte form ≤ 1
form_small Json = omega arith
form_small Binary = omega arith

front_is : (at : ℕ) (bytes : List ℕ) (len word h q : ℕ) (form : Form) (header : List ℕ) (head : Head) → 8 + h ≤ length bytes → 4 + h ≤ len → len ≤ 16777216 → from_be_bytes w32 (take 4 bytes) ≡ len → from_be_bytes w32 (take 4 (drop 4 bytes)) ≡ word
    → word / 2 ^ 24 ≡ q → form_of q ≡ Some form → word % 2 ^ 24 ≡ h → take h (drop 8 bytes) ≡ header → header_in form header ≡ Some head → first_of at bytes ≡ Ok (Some (record { form = form; header = head; header_len = h; len = len + 4 }))
unfolding first_of with_length with_header
front_is at bytes len word h q form header head long room within first second byte formed low text read =
    let four : ltb (length bytes) 4 ≡ false = le-ltb _ _ (omega arith) in
    let least : ltb len 4 ≡ false = le-ltb _ _ (omega arith) in
    let most : ltb 16777216 len ≡ false = le-ltb _ _ within in
    let eight : ltb (length bytes) 8 ≡ false = le-ltb _ _ (omega arith) in
    let inside : ltb len (4 + h) ≡ false = le-ltb _ _ room in
    let there : ltb (length bytes) (8 + h) ≡ false = le-ltb _ _ long in
    rw (four, first, least, most, eight, second, byte, formed, low, inside, there, text, read) refl

split_frame : (W X header body rest : List ℕ) → (W ++ X) ++ header ++ body ++ rest ≡ W ++ (X ++ (header ++ (body ++ rest)))
split_frame W X header body rest = simp append_assoc

pub frame_again : (at : ℕ) (bytes : List ℕ) (form : Form) (head : Head) (header body rest : List ℕ) → bytes ≡ words (form_byte form) (length header) (length body) ++ header ++ body ++ rest → header_in form header ≡ Some head → 4 + length header + length body ≤ 16777216
    → next_of at bytes ≡ Ok (Some (record { at = at; form = form; header = head; body = body }, rest))
unfolding words
frame_again at bytes form head header body rest spelled read within =
    let h = length header in
    let b = length body in
    let len = 4 + h + b in
    let f = form_byte form in
    let word = f * 2 ^ 24 + h in
    let W = to_be_bytes w32 len in
    let X = to_be_bytes w32 word in
    let r1 : bytes ≡ W ++ (X ++ (header ++ (body ++ rest))) = spelled ∙ split_frame W X header body rest in
    let r2 : bytes ≡ (W ++ X) ++ (header ++ (body ++ rest)) = r1 ∙ sym (append_assoc W X (header ++ (body ++ rest))) in
    let r3 : bytes ≡ ((W ++ X) ++ header) ++ (body ++ rest) = r2 ∙ sym (append_assoc (W ++ X) header (body ++ rest)) in
    let r4 : bytes ≡ (((W ++ X) ++ header) ++ body) ++ rest = r3 ∙ sym (append_assoc ((W ++ X) ++ header) body rest) in
    let l1 : length W ≡ 4 = wide32.len len in
    let m1 : length X ≡ 4 = wide32.len word in
    let l2 : length (W ++ X) ≡ 8 = omega (arith, l1, m1, length-append W X) in
    let l3 : length ((W ++ X) ++ header) ≡ 8 + h = omega (arith, l2, length-append (W ++ X) header) in
    let l4 : length (((W ++ X) ++ header) ++ body) ≡ len + 4 = omega (arith, l3, length-append ((W ++ X) ++ header) body) in
    let all : length bytes ≡ len + 4 + length rest = omega (arith, l4, ap (λ (w : List ℕ). length w) r4, length-append (((W ++ X) ++ header) ++ body) rest) in
    let small = form_small form in
    let first : from_be_bytes w32 (take 4 bytes) ≡ len = ap (from_be_bytes w32) (part_at [] W (X ++ (header ++ (body ++ rest))) bytes 0 4 r1 refl l1) ∙ wide32.again len (omega arith) in
    let second : from_be_bytes w32 (take 4 (drop 4 bytes)) ≡ word = ap (from_be_bytes w32) (part_at W X (header ++ (body ++ rest)) bytes 4 4 r1 l1 m1) ∙ wide32.again word (omega arith) in
    let front = front_is at bytes len word h f form header head (omega arith) (omega arith) within first second (div-mul-add f (2 ^ 24) h (omega arith)) (form_again form) (mod-mul-add f (2 ^ 24) h (omega arith)) (part_at (W ++ X) header (body ++ rest) bytes 8 h r2 l2 refl) read in
    let body_is : take (len + 4 - (8 + h)) (drop (8 + h) bytes) ≡ body = part_at ((W ++ X) ++ header) body rest bytes (8 + h) (len + 4 - (8 + h)) r3 l3 (omega arith) in
    let rest_is : drop (len + 4) bytes ≡ rest = rest_at (((W ++ X) ++ header) ++ body) rest bytes (len + 4) r4 l4 in
    cut at bytes (record { form = form; header = head; header_len = h; len = len + 4 }) front (omega arith) ∙ rw (body_is, rest_is) refl

pub frame_is_next : (bytes : List ℕ) (frame : Frame) (rest : List ℕ) → IsFrame bytes frame rest → next_of frame.at bytes ≡ Ok (Some (frame, rest))
frame_is_next bytes frame rest is = frame_again frame.at bytes frame.form frame.header is.header frame.body rest is.spelled is.read is.within

-- a frame that is written is the next one
pub written_is_next : (at : ℕ) (form : Form) (head : Head) (body rest : List ℕ) → header_in form (header_text form head) ≡ Some head → 4 + length (header_text form head) + length body ≤ 16777216
    → next_of at (frame_bytes form head body ++ rest) ≡ Ok (Some (record { at = at; form = form; header = head; body = body }, rest))
written_is_next at form head body rest again within = frame_again at (frame_bytes form head body ++ rest) form head (header_text form head) body rest refl again within

-- ---- what is next is spelled so

record FrontParts (bytes : List ℕ) (f : Front) (len word : ℕ) : Type 0 where
  long : 8 + f.header_len ≤ length bytes
  room : 4 + f.header_len ≤ len
  within : len ≤ 16777216
  len_is : f.len ≡ len + 4
  form_is : form_of (word / 2 ^ 24) ≡ Some f.form
  low : word % 2 ^ 24 ≡ f.header_len
  read : header_in f.form (take f.header_len (drop 8 bytes)) ≡ Some f.header

settled : Front → Result (Option Front) FrameFault
settled f = Ok (Some f)

some_front : (f g : Front) → Ok (Some f) ≡ settled g → f ≡ g
unfolding settled
some_front f g e = cc

header_parts : (at : ℕ) (bytes : List ℕ) (form : Form) (len word : ℕ) (o : Option Head) (f : Front) → o ≡ header_in form (take (word % 2 ^ 24) (drop 8 bytes)) → 8 + word % 2 ^ 24 ≤ length bytes → 4 + word % 2 ^ 24 ≤ len → len ≤ 16777216 → form_of (word / 2 ^ 24) ≡ Some form
    → with_header at form (word % 2 ^ 24) len o ≡ Ok (Some f) → FrontParts bytes f len word
unfolding with_header settled
header_parts at bytes form len word None f is long room within formed e = absurd cc
header_parts at bytes form len word (Some head) f is long room within formed e =
    let same = some_front (record { form = form; header = head; header_len = word % 2 ^ 24; len = len + 4 }) f e in
    subst (λ (g : Front). FrontParts bytes g len word) same (record { long = long; room = room; within = within; len_is = refl; form_is = formed; low = refl; read = sym is })

form_parts : (at : ℕ) (bytes : List ℕ) (len word : ℕ) (o : Option Form) (f : Front) → o ≡ form_of (word / 2 ^ 24) → len ≤ 16777216 → with_form at bytes len o (word % 2 ^ 24) ≡ Ok (Some f) → FrontParts bytes f len word
form_parts at bytes len word None f is within e = absurd cc
form_parts at bytes len word (Some form) f is within e =
    let p = past_fault (ltb len (4 + word % 2 ^ 24)) (faults.BadLength at) _ f e in
    let q = past_wait (ltb (length bytes) (8 + word % 2 ^ 24)) _ f p.1 in
    header_parts at bytes form len word _ f refl (ltb-false _ _ q.0) (ltb-false _ _ p.0) within (sym is) q.1

neither : (a b : Bool) → (a || b) ≡ false → b ≡ false
neither true b e = absurd cc
neither false b e = e

front_parts : (at : ℕ) (bytes : List ℕ) (f : Front) → first_of at bytes ≡ Ok (Some f) → FrontParts bytes f (from_be_bytes w32 (take 4 bytes)) (from_be_bytes w32 (take 4 (drop 4 bytes)))
unfolding first_of with_length
front_parts at bytes f e =
    let len = from_be_bytes w32 (take 4 bytes) in
    let word = from_be_bytes w32 (take 4 (drop 4 bytes)) in
    let a = past_wait (ltb (length bytes) 4) _ f e in
    let b = past_fault (ltb len 4 || ltb 16777216 len) (faults.BadLength at) _ f a.1 in
    let c = past_wait (ltb (length bytes) 8) _ f b.1 in
    form_parts at bytes len word (form_of (word / 2 ^ 24)) f refl (ltb-false _ _ (neither (ltb len 4) (ltb 16777216 len) b.0)) c.1

byte_of : (b c : Bool) (q : ℕ) (form : Form) → (b ≡ true → q ≡ 0) → (c ≡ true → q ≡ 1) → cond b (Some Json) (cond c (Some Binary) None) ≡ Some form → q ≡ form_byte form
byte_of true c q Json h k e = h refl
byte_of true c q Binary h k e = absurd cc
byte_of false true q Json h k e = absurd cc
byte_of false true q Binary h k e = k refl
byte_of false false q form h k e = absurd cc

form_byte_is : (q : ℕ) (form : Form) → form_of q ≡ Some form → q ≡ form_byte form
form_byte_is q form e = byte_of (eqb q 0) (eqb q 1) q form (eqb-true q 0) (eqb-true q 1) e

-- the frame behind a front
abbrev pub frame_of : ℕ → List ℕ → Front → Frame
frame_of at bytes f = record { at = at; form = f.form; header = f.header; body = take (f.len - (8 + f.header_len)) (drop (8 + f.header_len) bytes) }

chosen_is : (b : Bool) (x y : Frame × List ℕ) → cond b None (Some x) ≡ Some y → (b ≡ false) × (x ≡ y)
chosen_is true x y e = absurd cc
chosen_is false x y e = (refl, cc)

whole_is : (at : ℕ) (bytes : List ℕ) (f : Front) (x : Frame × List ℕ) → whole at bytes f ≡ Some x → (f.len ≤ length bytes) × ((frame_of at bytes f, drop f.len bytes) ≡ x)
unfolding whole
whole_is at bytes f x e = let p = chosen_is _ _ x e in (ltb-false _ _ p.0, p.1)

-- the front and the rest of a frame that is there
pub frame_parts : (at : ℕ) (bytes : List ℕ) (r : Result (Option Front) FrameFault) (x : Frame × List ℕ) → then_whole at bytes r ≡ Ok (Some x) → (f : Front) × (r ≡ Ok (Some f)) × (f.len ≤ length bytes) × ((frame_of at bytes f, drop f.len bytes) ≡ x)
frame_parts at bytes (Err e) x h = absurd cc
frame_parts at bytes (Ok None) x h = absurd cc
frame_parts at bytes (Ok (Some f)) x h = let p = whole_is at bytes f x cc in (f, refl, p.0, p.1)

-- four parts, and what was taken from them
parts : (bytes : List ℕ) (h n : ℕ) → 8 + h ≤ n → bytes ≡ take 4 bytes ++ take 4 (drop 4 bytes) ++ take h (drop 8 bytes) ++ take (n - (8 + h)) (drop (8 + h) bytes) ++ drop n bytes
parts bytes h n le =
    let a = sym (take-append-drop 4 bytes) in
    let b : drop 4 bytes ≡ take 4 (drop 4 bytes) ++ drop 8 bytes = sym (take-append-drop 4 (drop 4 bytes)) ∙ ap (λ (w : List ℕ). take 4 (drop 4 bytes) ++ w) (drop-drop 4 4 bytes) in
    let c : drop 8 bytes ≡ take h (drop 8 bytes) ++ drop (8 + h) bytes = sym (take-append-drop h (drop 8 bytes)) ∙ ap (λ (w : List ℕ). take h (drop 8 bytes) ++ w) (drop-drop h 8 bytes) in
    let behind : 8 + h + (n - (8 + h)) ≡ n = omega arith in
    let d : drop (8 + h) bytes ≡ take (n - (8 + h)) (drop (8 + h) bytes) ++ drop n bytes = sym (take-append-drop (n - (8 + h)) (drop (8 + h) bytes)) ∙ ap (λ (w : List ℕ). take (n - (8 + h)) (drop (8 + h) bytes) ++ w) (drop-drop (n - (8 + h)) (8 + h) bytes ∙ ap (λ (k : ℕ). drop k bytes) behind) in
    a ∙ ap (λ (w : List ℕ). take 4 bytes ++ w) (b ∙ ap (λ (w : List ℕ). take 4 (drop 4 bytes) ++ w) (c ∙ ap (λ (w : List ℕ). take h (drop 8 bytes) ++ w) d))
    ∙ sym (split_frame (take 4 bytes) (take 4 (drop 4 bytes)) (take h (drop 8 bytes)) (take (n - (8 + h)) (drop (8 + h) bytes)) (drop n bytes))

-- the frame that is behind this front, with its words
frame_is : (at : ℕ) (bytes : List ℕ) (f : Front) (len word : ℕ) → AreBytes bytes → f.len ≤ length bytes → FrontParts bytes f len word → len ≡ from_be_bytes w32 (take 4 bytes) → word ≡ from_be_bytes w32 (take 4 (drop 4 bytes)) → IsFrame bytes (frame_of at bytes f) (drop f.len bytes)
unfolding words
frame_is at bytes f len word fits whole p first second =
    let h = f.header_len in
    let n = f.len in
    let header = take h (drop 8 bytes) in
    let body = take (n - (8 + h)) (drop (8 + h) bytes) in
    let size = p.len_is in
    let room = p.room in
    let header_len : length header ≡ h = length-take-le h (drop 8 bytes) (omega (arith, length-drop 8 bytes, p.long)) in
    let body_len : length body ≡ n - (8 + h) = length-take-le (n - (8 + h)) (drop (8 + h) bytes) (omega (arith, length-drop (8 + h) bytes)) in
    let W : to_be_bytes w32 (4 + length header + length body) ≡ take 4 bytes =
    ap (to_be_bytes w32) (let same : 4 + length header + length body ≡ len = omega arith in same ∙ first) ∙ wide32.back (take 4 bytes) (length-take-le 4 bytes (omega arith)) (AreBytes-take 4 bytes fits) in
    let byte = form_byte_is (word / 2 ^ 24) f.form p.form_is in
    let X : to_be_bytes w32 (form_byte f.form * 2 ^ 24 + length header) ≡ take 4 (drop 4 bytes) =
    ap (to_be_bytes w32) (let same : form_byte f.form * 2 ^ 24 + length header ≡ word = omega (arith, byte, p.low, header_len) in same ∙ second) ∙ wide32.back (take 4 (drop 4 bytes)) (length-take-le 4 (drop 4 bytes) (omega (arith, length-drop 4 bytes))) (AreBytes-take 4 (drop 4 bytes) (AreBytes-drop 4 bytes fits)) in
    record { header = header; spelled = parts bytes h n (omega arith) ∙ ap (λ (w : List ℕ). w ++ header ++ body ++ drop n bytes) (ap (λ (w : List ℕ). w ++ take 4 (drop 4 bytes)) (sym W) ∙ ap (λ (w : List ℕ). to_be_bytes w32 (4 + length header + length body) ++ w) (sym X)); read = p.read; within = omega (arith, p.within) }

pub next_is_frame : (at : ℕ) (bytes : List ℕ) (frame : Frame) (rest : List ℕ) → AreBytes bytes → next_of at bytes ≡ Ok (Some (frame, rest)) → IsFrame bytes frame rest × (frame.at ≡ at)
next_is_frame at bytes frame rest fits e =
    let q = frame_parts at bytes (first_of at bytes) (frame, rest) e in
    let is = frame_is at bytes q.0 _ _ fits q.2 (front_parts at bytes q.0 q.1) refl refl in
    (subst (λ (x : Frame × List ℕ). IsFrame bytes x.0 x.1) q.3 is, sym (ap (λ (x : Frame × List ℕ). x.0.at) q.3))
