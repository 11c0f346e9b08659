-- An accepted verdict: what it is, and what it is answered.
use Rattle.std.proofs.Common.{◌≡◌, ◌⊎◌, inl, inr, refl, ap, ◌∙◌, subst, arith, ℕ, zero, suc, ◌+◌, ◌*◌, ◌/◌, ◌%◌, ◌<◌, ◌≤◌, ◌^◌, List, [], ◌∷◌, slice_get, Bool, true, false, Option, Some, None, if◌then◌else◌}
use Rattle.std.specs.Prelude.{◌||◌, ◌==◌, not, bit_and, bit_or, is_some}
use Rattle.std.proofs.lemmas.Bool.{and_parts, eqb-true, or_parts, cond-false}
use Rattle.std.proofs.lemmas.Nat.{and_or_self, and_or_apart, and_block, and_assoc, and_le_r}
use Rattle.std.proofs.lemmas.Option.{same_Some}
use Rattle.record_codec.specs.Entry.{Entry}
use Rattle.log_model.specs.Drafts.{plain_flag}
use Rattle.log_model.specs.Transactions.{TransactionState, Open, Committed, RolledBack, Discarded, transaction_state}
use Rattle.request_fields.specs.Requests.{EndSaid}
use Rattle.request_fields.specs.declared.request.Request.{Request}
use Rattle.request_fields.specs.declared.request.Request.TheVariants.{EndTransaction}
use Rattle.broker_model.specs.State.{State}
use Rattle.broker_model.specs.Events
use Rattle.broker_model.specs.Refusals.{refusal_of, origin_refusal, settled_otherwise, named_half, verdict_origin, judged_origin}
use Rattle.broker_model.specs.Appended.{appended, made_by, is_refused, is_refused_request, is_past_end, is_full}
use Rattle.broker_model.specs.Answers.{answer_of, carried_out_answer, request_answer, end_answer, or_refused, refused_answer, last_number, or_number}
use Rattle.broker_model.specs.Acknowledged.{is_verdict_on, is_request_on, is_that_origin}

-- ---- what it is

-- an accepted verdict on the origin h, which is open or became what this verdict makes of it
pub record IsVerdict (s : State) (e : Events.Event) (h verdict : ℕ) (made : TransactionState) : Type 0 where
  pub asked : Events.Asked
  pub end : EndSaid
  pub is : e ≡ Events.Asks asked
  pub request : asked.request ≡ EndTransaction end
  pub says : end.verdict ≡ verdict
  pub half : Entry
  pub named : named_half s end ≡ Some half
  pub origin : Entry
  pub judged : verdict_origin s end ≡ Some origin
  pub of : origin.queue_offset ≡ h
  pub fine : is_refused s e ≡ false
  pub state : (transaction_state s.log.records origin.queue_offset ≡ Open) ⊎ (transaction_state s.log.records origin.queue_offset ≡ made)

request_end : (s : State) (h verdict : ℕ) (r : Request) → is_request_on s h verdict r ≡ true
    → (end : EndSaid) × (r ≡ EndTransaction end) × (end.verdict ≡ verdict) × (is_that_origin h (verdict_origin s end) ≡ true)
request_end s h verdict (EndTransaction end) is =
    let parts = and_parts (end.verdict == verdict) (is_that_origin h (verdict_origin s end)) is in
    (end, refl, eqb-true end.verdict verdict parts.0, parts.1)
request_end s h verdict _ is = absurd (cc)

that_origin : (h : ℕ) (o : Option Entry) → is_that_origin h o ≡ true → (origin : Entry) × (o ≡ Some origin) × (origin.queue_offset ≡ h)
that_origin h None is = absurd (cc)
that_origin h (Some origin) is = (origin, refl, eqb-true origin.queue_offset h is)

judged_half : (log : List Entry) (end : EndSaid) (o : Option Entry) (origin : Entry) → judged_origin log end o ≡ Some origin → (half : Entry) × (o ≡ Some half)
judged_half log end None origin is = absurd (cc)
judged_half log end (Some half) origin is = (half, refl)

not_some : (o : Option Events.Reply) → is_some o ≡ false → o ≡ None
not_some None fine = refl
not_some (Some r) fine = absurd (cc)

-- no row refuses an event that is carried out
pub no_row : (s : State) (a : Events.Asked) → is_refused s (Events.Asks a) ≡ false → refusal_of s a.request ≡ None
unfolding is_refused
no_row s a fine =
    let outer = or_parts (is_refused_request s (Events.Asks a) || is_past_end s (Events.Asks a)) (is_full s (Events.Asks a)) fine in
    not_some (refusal_of s a.request) (or_parts (is_refused_request s (Events.Asks a)) (is_past_end s (Events.Asks a)) outer.0).0

-- a verdict is accepted where the origin is open, or became this
abbrev pub AcceptedAt : ℕ → TransactionState → Type 0
AcceptedAt verdict made = (state : TransactionState) → settled_otherwise verdict state ≡ None → (state ≡ Open) ⊎ (state ≡ made)

commit_accepted : AcceptedAt 8 Committed
commit_accepted Open is = inl refl
commit_accepted Committed is = inr refl
commit_accepted RolledBack is = absurd (cc)
commit_accepted Discarded is = absurd (cc)

rollback_accepted : AcceptedAt 12 RolledBack
rollback_accepted Open is = inl refl
rollback_accepted Committed is = absurd (cc)
rollback_accepted RolledBack is = inr refl
rollback_accepted Discarded is = absurd (cc)

end_row : (s : State) (end : EndSaid) (origin : Entry) (verdict : ℕ) → end.verdict ≡ verdict → verdict_origin s end ≡ Some origin
    → refusal_of s (EndTransaction end) ≡ None → settled_otherwise verdict (transaction_state s.log.records origin.queue_offset) ≡ None
unfolding refusal_of
end_row s end origin verdict says judged none =
    subst (λ (v : ℕ). settled_otherwise v (transaction_state s.log.records origin.queue_offset) ≡ None) says
    (subst (λ (o : Option Entry). origin_refusal s.log.records end.verdict o ≡ None) judged none)

unrefused : (b : Bool) → not b ≡ true → b ≡ false
unrefused true is = absurd (cc)
unrefused false is = refl

verdict_of : (s : State) (e : Events.Event) (h verdict : ℕ) (made : TransactionState) → AcceptedAt verdict made → is_verdict_on s h verdict e ≡ true
    → IsVerdict s e h verdict made
verdict_of s (Events.Asks a) h verdict made accepted is =
    let parts = and_parts (is_request_on s h verdict a.request) (not (is_refused s (Events.Asks a))) is in
    let fine : is_refused s (Events.Asks a) ≡ false = unrefused (is_refused s (Events.Asks a)) parts.1 in
    let asks = request_end s h verdict a.request parts.0 in
    let origin = that_origin h (verdict_origin s asks.0) asks.3 in
    let half = judged_half s.log.records asks.0 (named_half s asks.0) origin.0 origin.1 in
    record {
      asked = a;
      end = asks.0;
      is = refl;
      request = asks.1;
      says = asks.2;
      half = half.0;
      named = half.1;
      origin = origin.0;
      judged = origin.1;
      of = origin.2;
      fine = fine;
      state = accepted (transaction_state s.log.records origin.0.queue_offset)
          (end_row s asks.0 origin.0 verdict asks.2 origin.1 (subst (λ (r : Request). refusal_of s r ≡ None) asks.1 (no_row s a fine)));
    }
verdict_of s Events.Take h verdict made accepted is = absurd (cc)
verdict_of s (Events.Flushed n) h verdict made accepted is = absurd (cc)
verdict_of s (Events.FlushFailed n) h verdict made accepted is = absurd (cc)
verdict_of s (Events.Look n t) h verdict made accepted is = absurd (cc)
verdict_of s (Events.Dispatch n) h verdict made accepted is = absurd (cc)
verdict_of s (Events.Deliver n) h verdict made accepted is = absurd (cc)
verdict_of s (Events.Check n) h verdict made accepted is = absurd (cc)
verdict_of s (Events.Leave n) h verdict made accepted is = absurd (cc)
verdict_of s (Events.Trim base) h verdict made accepted is = absurd (cc)

pub commit_of : (s : State) (e : Events.Event) (h : ℕ) → is_verdict_on s h 8 e ≡ true → IsVerdict s e h 8 Committed
commit_of s e h is = verdict_of s e h 8 Committed commit_accepted is

pub rollback_of : (s : State) (e : Events.Event) (h : ℕ) → is_verdict_on s h 12 e ≡ true → IsVerdict s e h 12 RolledBack
rollback_of s e h is = verdict_of s e h 12 RolledBack rollback_accepted is

-- ---- what it is answered

pub verdict_answer : (s : State) (a : Events.Asked) (end : EndSaid) → a.request ≡ EndTransaction end → is_refused s (Events.Asks a) ≡ false
    → answer_of s (Events.Asks a) ≡ end_answer s end (made_by s (Events.Asks a))
unfolding answer_of appended carried_out_answer request_answer
verdict_answer s a end is fine =
    ap (λ (o : Option Events.Reply). or_refused o (if is_refused s (Events.Asks a) then refused_answer s (Events.Asks a)
    else request_answer s a.now a.request (if is_refused s (Events.Asks a) then [] else made_by s (Events.Asks a)))) (no_row s a fine)
    ∙ (cond-false (is_refused s (Events.Asks a)) (refused_answer s (Events.Asks a)) (request_answer s a.now a.request (if is_refused s (Events.Asks a) then [] else made_by s (Events.Asks a))) fine
    ∙ (ap (λ (rs : List Entry). request_answer s a.now a.request rs) (cond-false (is_refused s (Events.Asks a)) [] (made_by s (Events.Asks a)) fine)
    ∙ ap (λ (r : Request). request_answer s a.now r (made_by s (Events.Asks a))) is))

-- ---- the last number

-- it isn't below the first
number_low : (test : Entry → Bool) (n m : ℕ) (log : List Entry) → last_number test n log ≡ Some m → n ≤ m
number_low test n m [] is = absurd (cc)
number_low test n m (r ∷ log) is = first (last_number test (n + 1) log) (test r) (λ k e. number_low test (n + 1) k log e) is
  where
    first : (o : Option ℕ) (b : Bool) → ((k : ℕ) → o ≡ Some k → n + 1 ≤ k) → or_number o (if b then Some n else None) ≡ Some m → n ≤ m
    first (Some k) b later got = let same = same_Some k m got in let low = later k refl in omega (arith, same, low)
    first None true later got = let same = same_Some n m got in omega (arith, same)
    first None false later got = absurd (cc)

pub number_high : (test : Entry → Bool) (n : ℕ) (log : List Entry) (j : ℕ) (r : Entry) → slice_get log j ≡ Some r → test r ≡ true
    → (m : ℕ) × (last_number test n log ≡ Some m) × (n + j ≤ m)
number_high test n [] j r got is = absurd (cc)
number_high test n (x ∷ log) zero r got is =
    here (last_number test (n + 1) log) (test x) (ap test (same_Some x r got) ∙ is) (λ k e. number_low test (n + 1) k log e)
  where
    here : (o : Option ℕ) (b : Bool) → b ≡ true → ((k : ℕ) → o ≡ Some k → n + 1 ≤ k) → (m : ℕ) × (or_number o (if b then Some n else None) ≡ Some m) × (n + 0 ≤ m)
    here (Some k) b e later = let low = later k refl in (k, refl, omega (arith, low))
    here None true e later = (n, refl, omega arith)
    here None false e later = absurd (cc)
number_high test n (x ∷ log) (suc j) r got is =
    let rest = number_high test (n + 1) log j r got is in
    (rest.0, ap (λ (o : Option ℕ). or_number o (if test x then Some n else None)) rest.1, omega (arith, rest.2))

-- ---- the bits of a copy

-- with the bit 8 and without the bit 4 the bits of a transaction are 8
eight_bits : (y : ℕ) → bit_and y 8 ≡ 8 → bit_and y 4 ≡ 0 → bit_and y 12 ≡ 8
eight_bits y eight four =
    let whole : y ≡ y / 8 * 2 ^ 3 + y % 8 = omega arith in
    let low : y % 8 < 2 ^ 3 = omega arith in
    let a = and_block 3 (y / 8) 1 (y % 8) 0 low (omega arith) in
    let b = and_block 3 (y / 8) 0 (y % 8) 4 low (omega arith) in
    let c = and_block 3 (y / 8) 1 (y % 8) 4 low (omega arith) in
    omega (
      arith,
      a,
      b,
      c,
      eight,
      four,
      ap (λ (n : ℕ). bit_and n 8) whole,
      ap (λ (n : ℕ). bit_and n 4) whole,
      ap (λ (n : ℕ). bit_and n 12) whole,
      and_le_r (y % 8) 0,
      and_le_r (y / 8) 0,
    )

pub copy_bits : (flag : ℕ) → bit_and (bit_or (plain_flag flag) 8) 12 ≡ 8
copy_bits flag = eight_bits (bit_or (plain_flag flag) 8) (and_or_self 8 (plain_flag flag))
    (and_or_apart 4 (plain_flag flag) 8 refl ∙ omega (arith, and_assoc 4 flag 0xFFFF_FFF3, and_le_r flag 0))
