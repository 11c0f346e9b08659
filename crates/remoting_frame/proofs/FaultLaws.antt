-- The fault of the next frame is the one that the bytes show.
use Rattle.std.proofs.Common.{◌≡◌, ℕ, ◌+◌, ◌<◌, ◌≤◌, ◌||◌, List, length, take, drop, Bool, true, false, cond, ltb, Option, Some, None, Result, Ok, Err, ◌⊎◌, inl, inr, refl, sym, ap, subst, ◌∙◌, arith}
use Rattle.std.proofs.lemmas.Bool.{ltb-false, ltb-true, le-ltb, lt-ltb}
use Rattle.remoting_frame.specs.Head.{Head}
use Rattle.remoting_frame.specs.Headers.{header_in}
use Rattle.remoting_frame.specs.Held.{Held}
use Rattle.remoting_frame.specs.Cutting.{NextIs}
use Rattle.remoting_frame.specs.Fronts.{front_view}
use Rattle.remoting_frame.specs.Frames.{Front, ReadsHeader, Answers, form_of, with_header, with_form, with_length, first_of, then_whole, next_of}
use Rattle.remoting_frame.specs.FaultForm.{counted, form_at, header_len_at, HasNoLength, HasWords, HasNoForm, HasNoRoom, HasHeader, HasNoHeader, HasFault}
use Rattle.remoting_frame.specs.declared.frame.Form.{Form}
use Rattle.remoting_frame.specs.declared.fault.FrameFault.{FrameFault}
use Rattle.remoting_frame.specs.declared.fault.FrameFault.TheVariants as faults

abbrev Answer : Type 0
Answer = Result (Option Front) FrameFault

failed : FrameFault → Answer
failed e = Err e

same_fault : (d e : FrameFault) → Err d ≡ failed e → d ≡ e
unfolding failed
same_fault d e h = cc

-- ---- a fault that is told is shown

past_wait : (b : Bool) (x : Answer) (e : FrameFault) → cond b (Ok None) x ≡ Err e → (b ≡ false) × (x ≡ Err e)
past_wait true x e h = absurd cc
past_wait false x e h = (refl, h)

here_or_later : (b : Bool) (d e : FrameFault) (x : Answer) → cond b (Err d) x ≡ Err e → ((b ≡ true) × (d ≡ e)) ⊎ ((b ≡ false) × (x ≡ Err e))
here_or_later true d e x h = inl (refl, cc)
here_or_later false d e x h = inr (refl, h)

either : (a b : Bool) → (a || b) ≡ true → (a ≡ true) ⊎ (b ≡ true)
either true b h = inl refl
either false b h = inr h

neither : (a b : Bool) → (a || b) ≡ false → (a ≡ false) × (b ≡ false)
neither true b h = absurd cc
neither false b h = (refl, h)

outside : (n : ℕ) → (ltb n 4 || ltb 16777216 n) ≡ true → (n < 4) ⊎ (16777216 < n)
outside n h = elim (either (ltb n 4) (ltb 16777216 n) h) [ inl a ↦ inl (ltb-true _ _ a) | inr b ↦ inr (ltb-true _ _ b) ]

header_fault : (at : ℕ) (bytes : List ℕ) (form : Form) (h len : ℕ) (o : Option Head) (e : FrameFault) → with_header at form h len o ≡ Err e → (o ≡ None) × (e ≡ faults.BadHeader at)
unfolding with_header failed
header_fault at bytes form h len None e is = (refl, sym (same_fault _ e is))
header_fault at bytes form h len (Some head) e is = absurd cc

form_fault : (at : ℕ) (bytes : List ℕ) (o : Option Form) (e : FrameFault) → form_of (form_at bytes) ≡ o → HasWords bytes → with_form at bytes (counted bytes) o (header_len_at bytes) ≡ Err e → HasFault at bytes e
unfolding failed
form_fault at bytes None e is words h = subst (HasFault at bytes) (same_fault _ e h) (refl, record { words = words; unknown = is })
form_fault at bytes (Some form) e is words h =
    elim (here_or_later (ltb (counted bytes) (4 + header_len_at bytes)) (faults.BadLength at) e _ h) [
      | inl here ↦ subst (HasFault at bytes) here.1 (refl, inr (record { words = words; form = form; known = is; over = ltb-true _ _ here.0 }))
      | inr later ↦
          let whole = past_wait (ltb (length bytes) (8 + header_len_at bytes)) _ e later.1 in
          let none = header_fault at bytes form (header_len_at bytes) (counted bytes) (header_in form (take (header_len_at bytes) (drop 8 bytes))) e whole.1 in
          subst (HasFault at bytes) (sym none.1) (refl, record { there = record { words = words; form = form; known = is; room = ltb-false _ _ later.0; whole = ltb-false _ _ whole.0 }; unread = none.0 })
    ]

first_fault : (at : ℕ) (bytes : List ℕ) (e : FrameFault) → first_of at bytes ≡ Err e → HasFault at bytes e
unfolding first_of with_length
first_fault at bytes e h =
    let four = past_wait (ltb (length bytes) 4) _ e h in
    elim (here_or_later (ltb (counted bytes) 4 || ltb 16777216 (counted bytes)) (faults.BadLength at) e _ four.1) [
      | inl here ↦ subst (HasFault at bytes) here.1 (refl, inl (record { there = ltb-false _ _ four.0; outside = outside (counted bytes) here.0 }))
      | inr later ↦
          let eight = past_wait (ltb (length bytes) 8) _ e later.1 in
          let inside = neither (ltb (counted bytes) 4) (ltb 16777216 (counted bytes)) later.0 in
          form_fault at bytes (form_of (form_at bytes)) e refl (record { there = ltb-false _ _ eight.0; least = ltb-false _ _ inside.0; most = ltb-false _ _ inside.1 }) eight.1
    ]

then_fault : (at : ℕ) (bytes : List ℕ) (r : Answer) (e : FrameFault) → then_whole at bytes r ≡ Err e → r ≡ Err e
then_fault at bytes (Err d) e h = cc
then_fault at bytes (Ok None) e h = absurd cc
then_fault at bytes (Ok (Some f)) e h = absurd cc

pub fault_is_shown : (at : ℕ) (bytes : List ℕ) (e : FrameFault) → next_of at bytes ≡ Err e → HasFault at bytes e
fault_is_shown at bytes e h = first_fault at bytes e (then_fault at bytes (first_of at bytes) e h)

-- ---- a fault that is shown is told

outside_too : (n : ℕ) → (n < 4) ⊎ (16777216 < n) → (ltb n 4 || ltb 16777216 n) ≡ true
outside_too n (inl a) = let t : ltb n 4 ≡ true = lt-ltb _ _ a in rw t refl
outside_too n (inr b) =
    let f : ltb n 4 ≡ false = le-ltb _ _ (omega arith) in
    let t : ltb 16777216 n ≡ true = lt-ltb _ _ b in
    rw (f, t) refl

bad_length : (at : ℕ) (bytes : List ℕ) → HasNoLength bytes → first_of at bytes ≡ Err (faults.BadLength at)
unfolding first_of with_length
bad_length at bytes is =
    let four : ltb (length bytes) 4 ≡ false = le-ltb _ _ is.there in
    let out : (ltb (counted bytes) 4 || ltb 16777216 (counted bytes)) ≡ true = outside_too (counted bytes) is.outside in
    rw (four, out) refl

-- past both words
past_words : (at : ℕ) (bytes : List ℕ) (r : Answer) → HasWords bytes → with_form at bytes (counted bytes) (form_of (form_at bytes)) (header_len_at bytes) ≡ r → first_of at bytes ≡ r
unfolding first_of with_length
past_words at bytes r is e =
    let four : ltb (length bytes) 4 ≡ false = le-ltb _ _ (omega (arith, is.there)) in
    let least : ltb (counted bytes) 4 ≡ false = le-ltb _ _ is.least in
    let most : ltb 16777216 (counted bytes) ≡ false = le-ltb _ _ is.most in
    let eight : ltb (length bytes) 8 ≡ false = le-ltb _ _ is.there in
    rw (four, least, most, eight) e

bad_form : (at : ℕ) (bytes : List ℕ) → HasNoForm bytes → first_of at bytes ≡ Err (faults.BadForm at)
bad_form at bytes is = past_words at bytes (Err (faults.BadForm at)) is.words (ap (λ (o : Option Form). with_form at bytes (counted bytes) o (header_len_at bytes)) is.unknown)

no_room : (at : ℕ) (bytes : List ℕ) → HasNoRoom bytes → first_of at bytes ≡ Err (faults.BadLength at)
no_room at bytes is =
    let over : ltb (counted bytes) (4 + header_len_at bytes) ≡ true = lt-ltb _ _ is.over in
    past_words at bytes (Err (faults.BadLength at)) is.words (ap (λ (o : Option Form). with_form at bytes (counted bytes) o (header_len_at bytes)) is.known ∙ rw over refl)

bad_header : (at : ℕ) (bytes : List ℕ) → HasNoHeader bytes → first_of at bytes ≡ Err (faults.BadHeader at)
unfolding with_header
bad_header at bytes is =
    let room : ltb (counted bytes) (4 + header_len_at bytes) ≡ false = le-ltb _ _ is.there.room in
    let whole : ltb (length bytes) (8 + header_len_at bytes) ≡ false = le-ltb _ _ is.there.whole in
    past_words at bytes (Err (faults.BadHeader at)) is.there.words (ap (λ (o : Option Form). with_form at bytes (counted bytes) o (header_len_at bytes)) is.there.known ∙ rw (room, whole, is.unread) refl)

pub fault_is_told : (at : ℕ) (bytes : List ℕ) (e : FrameFault) → HasFault at bytes e → next_of at bytes ≡ Err e
fault_is_told at bytes (faults.BadLength from) (is, inl none) = rw is (ap (then_whole at bytes) (bad_length at bytes none))
fault_is_told at bytes (faults.BadLength from) (is, inr over) = rw is (ap (then_whole at bytes) (no_room at bytes over))
fault_is_told at bytes (faults.BadForm from) h = rw h.0 (ap (then_whole at bytes) (bad_form at bytes h.1))
fault_is_told at bytes (faults.BadHeader from) h = rw h.0 (ap (then_whole at bytes) (bad_header at bytes h.1))
fault_is_told at bytes faults.Memory h = absurd h

-- ---- where a header is read

past_wait_to_header : (b : Bool) (x : Answer) → ReadsHeader (cond b (Ok None) x) → (b ≡ false) × ReadsHeader x
past_wait_to_header true x h = absurd h
past_wait_to_header false x h = (refl, h)

past_length_to_header : (b : Bool) (at : ℕ) (x : Answer) → ReadsHeader (cond b (Err (faults.BadLength at)) x) → (b ≡ false) × ReadsHeader x
past_length_to_header true at x h = absurd h
past_length_to_header false at x h = (refl, h)

form_to_header : (at : ℕ) (bytes : List ℕ) (o : Option Form) → form_of (form_at bytes) ≡ o → HasWords bytes → ReadsHeader (with_form at bytes (counted bytes) o (header_len_at bytes)) → HasHeader bytes
form_to_header at bytes None is words h = absurd h
form_to_header at bytes (Some form) is words h =
    let room = past_length_to_header (ltb (counted bytes) (4 + header_len_at bytes)) at _ h in
    let whole = past_wait_to_header (ltb (length bytes) (8 + header_len_at bytes)) _ room.1 in
    record { words = words; form = form; known = is; room = ltb-false _ _ room.0; whole = ltb-false _ _ whole.0 }

-- a header that is read stands there
pub header_is_there : (at : ℕ) (bytes : List ℕ) → ReadsHeader (first_of at bytes) → HasHeader bytes
unfolding first_of with_length
header_is_there at bytes h =
    let four = past_wait_to_header (ltb (length bytes) 4) _ h in
    let inside = past_length_to_header (ltb (counted bytes) 4 || ltb 16777216 (counted bytes)) at _ four.1 in
    let eight = past_wait_to_header (ltb (length bytes) 8) _ inside.1 in
    let bounds = neither (ltb (counted bytes) 4) (ltb 16777216 (counted bytes)) inside.0 in
    form_to_header at bytes (form_of (form_at bytes)) refl (record { there = ltb-false _ _ eight.0; least = ltb-false _ _ bounds.0; most = ltb-false _ _ bounds.1 }) eight.1

-- where a front is there, a header is
pub front_has_header : (at : ℕ) (bytes : List ℕ) (f : Front) → first_of at bytes ≡ Ok (Some f) → HasHeader bytes
front_has_header at bytes f e = header_is_there at bytes (rw e tt)

any_reads : (at : ℕ) (form : Form) (h len : ℕ) (o : Option Head) → ReadsHeader (with_header at form h len o)
unfolding with_header
any_reads at form h len None = tt
any_reads at form h len (Some head) = tt

-- past the form a header that is whole is read
pub whole_reads : (at : ℕ) (bytes : List ℕ) (len : ℕ) (form : Form) (h : ℕ) → 4 + h ≤ len → 8 + h ≤ length bytes → ReadsHeader (with_form at bytes len (Some form) h)
whole_reads at bytes len form h room whole =
    let inside : ltb len (4 + h) ≡ false = le-ltb _ _ room in
    let there : ltb (length bytes) (8 + h) ≡ false = le-ltb _ _ whole in
    rw (inside, there) (any_reads at form h len _)

-- what the front's reader can't give the next frame's can't
pub fault_of_front : (old new : Held) (e : FrameFault) → Answers front_view (Err e) (first_of old.at old.bytes) → new ≡ old → NextIs old (Err e) new
fault_of_front old new (faults.BadLength at) is same = (ap (then_whole old.at old.bytes) is, same)
fault_of_front old new (faults.BadForm at) is same = (ap (then_whole old.at old.bytes) is, same)
fault_of_front old new (faults.BadHeader at) is same = (ap (then_whole old.at old.bytes) is, same)
fault_of_front old new faults.Memory is same = (header_is_there old.at old.bytes is, same)
