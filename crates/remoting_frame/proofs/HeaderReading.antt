-- What the readers of a JSON header give.
use Rattle.std.proofs.Common.{◌≡◌, ℕ, ℤ, ◌<◌, ◌++◌, ◌∷◌, [], List, length, Bool, true, false, cond, Option, Some, None, option_map, ◌∙◌, ◌⊎◌, inl, inr, map, string_bytes, string_cmp, nat_cmp, Less, subst, refl, sym, ap, append_assoc, arith}
use Rattle.std.specs.Str.{IsUtf8, is_utf8}
use Rattle.std.proofs.lemmas.Str.{IsUtf8-from_is_utf8, is_utf8-from_IsUtf8}
use Rattle.std.proofs.lemmas.Option.{same_Some}
use Rattle.std.specs.Cmp.Lexicographic.{slice_cmp}
use Rattle.std.specs.List.{AllByRecursion}
use Rattle.std.specs.List.Sorted.{IsStrictlySortedBy}
use Rattle.std.specs.Map.{keys_of}
use Rattle.serde_json.specs.View.{view, members_view}
use Rattle.serde_json.proofs.Views.{Entry}
use Rattle.serde_json.proofs.OnLiterals.{serde_json_on_literals}
use Rattle.remoting_frame.specs.Head.{IsInOrder}
use Rattle.serde_json.specs.Data.{Data, null, boolean, number, string, array, object, Members, member}
use Rattle.serde_json.specs.Read.{read}
use Rattle.serde_json.specs.Find.{as_i64}
use Rattle.mq_bytes.specs.Decimal.{decimal}
use Rattle.remoting_frame.specs.Gives.{◌>>=◌}
use Rattle.remoting_frame.specs.Json.{data_of, word_of, pair_of, pairs_of}

pub data_is : (bytes : List ℕ) (d : Data) → IsUtf8 bytes → read bytes ≡ Some d → data_of bytes ≡ Some d
unfolding data_of
data_is bytes d text e = rw (is_utf8-from_IsUtf8 bytes text) e

unless : {A : Type 0} (b : Bool) (o : Option A) → (b ≡ true → o ≡ None) → cond b o None ≡ None
unless true o h = h refl
unless false o h = refl

pub no_data : (bytes : List ℕ) → (IsUtf8 bytes → read bytes ≡ None) → data_of bytes ≡ None
unfolding data_of
no_data bytes h = unless (is_utf8 bytes) (read bytes) (λ t. h (IsUtf8-from_is_utf8 bytes t))

-- of no bytes nothing is read
pub some_read : (bytes : List ℕ) (d : Data) → read bytes ≡ Some d → 0 < length bytes
unfolding serde_json_on_literals
some_read [] d e = absurd cc
some_read (b ∷ bytes) d e = omega arith

-- the pairs so far, and what is still read
abbrev pub with_front : List (List ℕ × List ℕ) → Option (List (List ℕ × List ℕ)) → Option (List (List ℕ × List ℕ))
with_front front o = o >>= λ others. Some (front ++ others)

regroup : (front first : List (List ℕ × List ℕ)) (o : Option (List (List ℕ × List ℕ))) → with_front front (o >>= λ others. Some (first ++ others)) ≡ with_front (front ++ first) o
regroup front first (Some others) = ap Some (sym (append_assoc front first others))
regroup front first None = refl

step_at : (front new : List (List ℕ × List ℕ)) (o rest : Option (List (List ℕ × List ℕ))) → option_map (λ first. front ++ first) o ≡ Some new → with_front new rest ≡ with_front front (o >>= λ first. rest >>= λ others. Some (first ++ others))
step_at front new (Some first) rest e = ap (λ (w : List (List ℕ × List ℕ)). with_front w rest) (sym (same_Some (front ++ first) new e)) ∙ sym (regroup front first rest)
step_at front new None rest e = absurd cc

-- one member more
pub front_step : (front new : List (List ℕ × List ℕ)) (k : List ℕ) (d : Data) (ms : Members) → option_map (λ first. front ++ first) (pair_of k d) ≡ Some new → with_front new (pairs_of ms) ≡ with_front front (pairs_of (member k d ms))
front_step front new k d ms e = step_at front new (pair_of k d) (pairs_of ms) e

-- ---- in order

with_others : (first : List (List ℕ × List ℕ)) (o : Option (List (List ℕ × List ℕ))) (ps : List (List ℕ × List ℕ)) → (o >>= λ others. Some (first ++ others)) ≡ Some ps
    → (others : List (List ℕ × List ℕ)) × (o ≡ Some others) × (ps ≡ first ++ others)
with_others first (Some others) ps e = (others, refl, cc)
with_others first None ps e = absurd cc

-- what a number adds
parted_number : (k : List ℕ) (z : Option ℤ) (ms : Members) (ps : List (List ℕ × List ℕ))
    → (option_map (λ w. (k, decimal w) ∷ []) z >>= λ first. pairs_of ms >>= λ others. Some (first ++ others)) ≡ Some ps
    → (others : List (List ℕ × List ℕ)) × (pairs_of ms ≡ Some others) × ((ps ≡ others) ⊎ ((s : List ℕ) × (ps ≡ (k, s) ∷ others)))
parted_number k (Some z) ms ps e = let w = with_others ((k, decimal z) ∷ []) (pairs_of ms) ps e in (w.0, w.1, inr (decimal z, w.2))
parted_number k None ms ps e = absurd cc

-- what one member adds
parted : (k : List ℕ) (d : Data) (ms : Members) (ps : List (List ℕ × List ℕ)) → pairs_of (member k d ms) ≡ Some ps
    → (others : List (List ℕ × List ℕ)) × (pairs_of ms ≡ Some others) × ((ps ≡ others) ⊎ ((s : List ℕ) × (ps ≡ (k, s) ∷ others)))
parted k null ms ps e = let w = with_others [] (pairs_of ms) ps e in (w.0, w.1, inl w.2)
parted k (string s) ms ps e = let w = with_others ((k, s) ∷ []) (pairs_of ms) ps e in (w.0, w.1, inr (s, w.2))
parted k (boolean b) ms ps e = let w = with_others ((k, word_of b) ∷ []) (pairs_of ms) ps e in (w.0, w.1, inr (word_of b, w.2))
parted k (number n) ms ps e = parted_number k (as_i64 n) ms ps e
parted k (array ds) ms ps e = absurd cc
parted k (object os) ms ps e = absurd cc

-- what holds of each key holds of each name
all_kept : (P : List ℕ → Type 0) (es : List Entry) (ps : List (List ℕ × List ℕ)) → AllByRecursion (λ k. P (string_bytes k)) (keys_of es) → pairs_of (members_view es) ≡ Some ps
    → AllByRecursion P (map (λ p. p.0) ps)
all_kept P [] ps h e = subst (λ (w : List (List ℕ × List ℕ)). AllByRecursion P (map (λ p. p.0) w)) (same_Some [] ps e) tt
all_kept P (x ∷ es) ps h e =
    let w = parted (string_bytes x.0) (view x.1) (members_view es) ps e in
    elim w.2 [
      | inl same ↦ rw same (all_kept P es w.0 h.1 w.1)
      | inr kept ↦ rw kept.1 (h.0, all_kept P es w.0 h.1 w.1)
    ]

pub in_order : (es : List Entry) (ps : List (List ℕ × List ℕ)) → IsStrictlySortedBy string_cmp (keys_of es) → pairs_of (members_view es) ≡ Some ps → IsInOrder ps
unfolding IsStrictlySortedBy
in_order [] ps h e = subst IsInOrder (same_Some [] ps e) tt
in_order (x ∷ es) ps h e =
    let w = parted (string_bytes x.0) (view x.1) (members_view es) ps e in
    elim w.2 [
      | inl same ↦ rw same (in_order es w.0 h.1 w.1)
      | inr kept ↦ rw kept.1 (all_kept (λ (y : List ℕ). slice_cmp nat_cmp (string_bytes x.0) y ≡ Less) es w.0 h.0 w.1, in_order es w.0 h.1 w.1)
    ]

pub none_in_order : IsInOrder []
unfolding IsStrictlySortedBy
none_in_order = tt
