-- What the readers of a batch give.
use Rattle.std.proofs.Common.{◌≡◌, ℕ, zero, suc, ◌+◌, ◌-◌, ◌≤◌, ◌<◌, List, [], ◌∷◌, ◌++◌, length, drop, Bool, true, false, cond, Option, Some, None, option_map, refl, sym, ap, ◌∙◌, append_assoc, arith, length-drop}
use Rattle.std.specs.Str.{IsUtf8, is_utf8}
use Rattle.std.proofs.lemmas.Str.{IsUtf8-from_is_utf8, is_utf8-from_IsUtf8}
use Rattle.std.proofs.lemmas.Option.{same_Some}
use Rattle.batch_records.specs.declared.message.Message.{Message}
use Rattle.batch_records.specs.Reading.{◌>>=◌, text_of, lengths_of, message_of, first_message, messages_within, messages_in}

-- ---- texts

pub text_is : (bytes : List ℕ) → IsUtf8 bytes → text_of bytes ≡ Some bytes
unfolding text_of
text_is bytes text = rw (is_utf8-from_IsUtf8 bytes text) refl

refused : (bytes : List ℕ) (b : Bool) → (b ≡ true → IsUtf8 bytes) → (IsUtf8 bytes → ⊥) → cond b (Some bytes) None ≡ None
refused bytes true h k = absurd (k (h refl))
refused bytes false h k = refl

pub no_text : (bytes : List ℕ) → (IsUtf8 bytes → ⊥) → text_of bytes ≡ None
unfolding text_of
no_text bytes h = refused bytes (is_utf8 bytes) (IsUtf8-from_is_utf8 bytes) h

-- ---- one message

pub bind_some : {A B : Type 0} (o : Option A) (f : A → Option B) (y : B) → (o >>= f) ≡ Some y → (x : A) × (o ≡ Some x) × (f x ≡ Some y)
bind_some (Some x) f y e = (x, refl, e)
bind_some None f y e = absurd cc

-- what a message that is read is
pub message_parts : (bytes : List ℕ) (x : Message × List ℕ) → first_message bytes ≡ Some x
    → (lengths : ℕ × ℕ) × (lengths_of bytes ≡ Some lengths) × (message_of bytes lengths.0 lengths.1 ≡ Some x.0) × (x.1 ≡ drop (22 + lengths.0 + lengths.1) bytes)
unfolding first_message
message_parts bytes x e =
    let lengths = bind_some (lengths_of bytes) _ x e in
    let message = bind_some (message_of bytes lengths.0.0 lengths.0.1) _ x lengths.2 in
    let same : (message.0, drop (22 + lengths.0.0 + lengths.0.1) bytes) ≡ x = same_Some _ x message.2 in
    (lengths.0, lengths.1, message.1 ∙ ap (λ (p : Message × List ℕ). Some p.0) same, sym (ap (λ (p : Message × List ℕ). p.1) same))

pub message_of_parts : (bytes : List ℕ) (b p : ℕ) (m : Message) → lengths_of bytes ≡ Some (b, p) → message_of bytes b p ≡ Some m → first_message bytes ≡ Some (m, drop (22 + b + p) bytes)
unfolding first_message
message_of_parts bytes b p m lengths message = rw (lengths, message) refl

-- ---- all messages

pub first_shorter : (bytes : List ℕ) (x : Message × List ℕ) → first_message bytes ≡ Some x → length x.1 ≤ length bytes - 22
first_shorter bytes x e =
    let parts = message_parts bytes x e in
    rw parts.3 (omega (arith, length-drop (22 + parts.0.0 + parts.0.1) bytes))

-- two ways to read on that agree behind the first message
same_behind : (o : Option (Message × List ℕ)) (f g : List ℕ → Option (List Message)) → ((x : Message × List ℕ) → o ≡ Some x → f x.1 ≡ g x.1)
    → (o >>= λ first. option_map (λ others. first.0 ∷ others) (f first.1)) ≡ (o >>= λ first. option_map (λ others. first.0 ∷ others) (g first.1))
same_behind None f g h = refl
same_behind (Some x) f g h = ap (option_map (λ others. x.0 ∷ others)) (h x refl)

-- more fuel than bytes is as good
pub messages_fuel : (n m : ℕ) (bytes : List ℕ) → length bytes ≤ n → length bytes ≤ m → messages_within n bytes ≡ messages_within m bytes
messages_fuel n m [] le more = refl
messages_fuel zero m (b ∷ bytes) le more = absurd (omega arith)
messages_fuel (suc n) zero (b ∷ bytes) le more = absurd (omega arith)
messages_fuel (suc n) (suc m) (b ∷ bytes) le more = same_behind (first_message (b ∷ bytes)) (messages_within n) (messages_within m)
    (λ x e.
    let shorter = first_shorter (b ∷ bytes) x e in
    messages_fuel n m x.1 (omega arith) (omega arith))

-- the messages so far, and those that the bytes are
abbrev pub with_messages : List Message → List ℕ → Option (List Message)
with_messages done bytes = option_map (λ others. done ++ others) (messages_in bytes)

regroup : (done : List Message) (m : Message) (o : Option (List Message)) → option_map (λ others. (done ++ m ∷ []) ++ others) o ≡ option_map (λ others. done ++ others) (option_map (λ others. m ∷ others) o)
regroup done m (Some others) = ap Some (append_assoc done (m ∷ []) others)
regroup done m None = refl

-- a step of the loop
pub messages_step : (done : List Message) (m : Message) (bytes rest : List ℕ) → first_message bytes ≡ Some (m, rest) → 0 < length bytes → with_messages (done ++ m ∷ []) rest ≡ with_messages done bytes
messages_step done m [] rest e some = absurd (omega arith)
messages_step done m (b ∷ bytes) rest e some =
    let shorter = first_shorter (b ∷ bytes) (m, rest) e in
    let fuel = messages_fuel (length bytes) (length rest) rest (omega arith) (omega arith) in
    let whole : messages_in (b ∷ bytes) ≡ option_map (λ others. m ∷ others) (messages_in rest) =
    ap (λ (o : Option (Message × List ℕ)). o >>= λ first. option_map (λ others. first.0 ∷ others) (messages_within (length bytes) first.1)) e ∙ ap (option_map (λ others. m ∷ others)) fuel in
    regroup done m (messages_in rest) ∙ sym (ap (option_map (λ others. done ++ others)) whole)
