-- The lowest level that is due.
use Rattle.std.proofs.Common.{◌≡◌, ◌∙◌, ◌⊎◌, inl, inr, ℕ, suc, ◌+◌, ◌<◌, ◌≤◌, Bool, true, false, cond, List, [], ◌∷◌, Option, Some, None, refl, sym, ap, subst, arith}
use Rattle.std.specs.Prelude.{nat_le}
use Rattle.std.proofs.lemmas.Bool.{cases_lt}
use Rattle.std.proofs.lemmas.Option.{same_Some}
use Rattle.mq_bytes.specs.Delays.{level_delay}
use Rattle.record_codec.specs.Entry.{Entry}
use Rattle.log_model.specs.Numbered.{Log}
use Rattle.log_model.specs.Delays.{next_delayed, is_ripe, is_due, due_here, due_among, levels}

-- what one level answers before the others
abbrev IsHere : ℕ → ℕ → Option Entry → Option (ℕ × Entry) → Type 0
IsHere now level o answer = (r : Entry) × (o ≡ Some r) × (is_ripe now level o ≡ true) × (answer ≡ Some (level, r))

ripe : (now level : ℕ) (r : Entry) (more : Option (ℕ × Entry)) (b : Bool) → nat_le (r.store + level_delay level) now ≡ b
    → IsHere now level (Some r) (due_here now level (Some r) more) ⊎ ((is_ripe now level (Some r) ≡ false) × (due_here now level (Some r) more ≡ more))
ripe now level r more true is = inl (r, refl, is, ap (λ (t : Bool). cond t (Some (level, r)) more) is)
ripe now level r more false is = inr (is, ap (λ (t : Bool). cond t (Some (level, r)) more) is)

here : (now level : ℕ) (o : Option Entry) (more : Option (ℕ × Entry))
    → IsHere now level o (due_here now level o more) ⊎ ((is_ripe now level o ≡ false) × (due_here now level o more ≡ more))
here now level None more = inr (refl, refl)
here now level (Some r) more = ripe now level r more (nat_le (r.store + level_delay level) now) refl

-- these levels are the ones from this one on
abbrev pub AreFrom : ℕ → List ℕ → Type 0
AreFrom n [] = n ≡ 19
AreFrom n (level ∷ more) = (level ≡ n) × AreFrom (suc n) more

pub from_one : AreFrom 1 levels
from_one = (refl, (refl, (refl, (refl, (refl, (refl, (refl, (refl, (refl, (refl, (refl, (refl, (refl, (refl, (refl, (refl, (refl, (refl, refl))))))))))))))))))

module _ (log : Log) (d now : ℕ) where
  -- the level is due, with this message, and none from n on that is lower
  pub record IsLowest (n level : ℕ) (r : Entry) : Type 0 where
    pub due : is_due log d now level ≡ true
    pub next : next_delayed log d level ≡ Some r
    pub lowest : (lower : ℕ) → n ≤ lower → lower < level → is_due log d now lower ≡ false

  at_first : (n level : ℕ) (r s : Entry) → next_delayed log d n ≡ Some s → is_due log d now n ≡ true → ◌≡◌ {A = Option (ℕ × Entry)} (Some (n, s)) (Some (level, r)) → IsLowest n level r
  at_first n level r s next due same =
      let is : ◌≡◌ {A = ℕ × Entry} (n, s) (level, r) = same_Some (n, s) (level, r) same in
      let at : n ≡ level = ap (λ (p : ℕ × Entry). p.0) is in
      record {
        due = subst (λ (v : ℕ). is_due log d now v ≡ true) at due;
        next = subst (λ (v : ℕ). next_delayed log d v ≡ Some r) at (next ∙ ap (λ (p : ℕ × Entry). Some p.1) is);
        lowest = λ lower low less. absurd (omega (arith, low, less, at));
      }

  past_by : (n level lower : ℕ) → is_due log d now n ≡ false → ((k : ℕ) → suc n ≤ k → k < level → is_due log d now k ≡ false)
      → lower < level → (n < lower) ⊎ (lower ≤ n) → n ≤ lower → is_due log d now lower ≡ false
  past_by n level lower not_due rest less (inl later) low = rest lower (omega (arith, later)) less
  past_by n level lower not_due rest less (inr first) low =
      let same : n ≡ lower = omega (arith, first, low) in
      subst (λ (v : ℕ). is_due log d now v ≡ false) same not_due

  past : (n level : ℕ) (r : Entry) → is_due log d now n ≡ false → IsLowest (suc n) level r → IsLowest n level r
  past n level r not_due rest = record {
    due = rest.due;
    next = rest.next;
    lowest = λ lower low less. past_by n level lower not_due rest.lowest less (cases_lt n lower) low;
  }

  abbrev Here : ℕ → List ℕ → Type 0
  Here n vs = IsHere now n (next_delayed log d n) (due_here now n (next_delayed log d n) (due_among log d now vs))

  abbrev Past : ℕ → List ℕ → Type 0
  Past n vs = (is_due log d now n ≡ false) × (due_here now n (next_delayed log d n) (due_among log d now vs) ≡ due_among log d now vs)

  at_level : (n : ℕ) (vs : List ℕ) (level : ℕ) (r : Entry) → Here n vs ⊎ Past n vs → due_here now n (next_delayed log d n) (due_among log d now vs) ≡ Some (level, r)
      → (due_among log d now vs ≡ Some (level, r) → IsLowest (suc n) level r) → IsLowest n level r
  at_level n vs level r (inl first) answer rest = at_first n level r first.0 first.1 first.2 (sym first.3 ∙ answer)
  at_level n vs level r (inr later) answer rest = past n level r later.0 (rest (sym later.1 ∙ answer))

  pub lowest_among : (n : ℕ) (vs : List ℕ) → AreFrom n vs → (level : ℕ) (r : Entry) → due_among log d now vs ≡ Some (level, r) → IsLowest n level r
  lowest_among n [] from level r answer = absurd (cc)
  lowest_among n (v ∷ vs) from level r answer =
      at_level n vs level r (here now n (next_delayed log d n) (due_among log d now vs))
      (subst (λ (w : ℕ). due_here now w (next_delayed log d w) (due_among log d now vs) ≡ Some (level, r)) from.0 answer)
      (lowest_among (suc n) vs from.1 level r)

  none_at : (n : ℕ) (vs : List ℕ) (level : ℕ) → Here n vs ⊎ Past n vs → due_here now n (next_delayed log d n) (due_among log d now vs) ≡ None
      → (due_among log d now vs ≡ None → (k : ℕ) → suc n ≤ k → k < 19 → is_due log d now k ≡ false) → n ≤ level → level < 19 → is_due log d now level ≡ false
  none_at n vs level (inl first) answer rest low high = let never : ◌≡◌ {A = Option (ℕ × Entry)} None (Some (n, first.0)) = sym answer ∙ first.3 in absurd (cc)
  none_at n vs level (inr later) answer rest low high = past_by n 19 level later.0 (rest (sym later.1 ∙ answer)) high (cases_lt n level) low

  pub none_among : (n : ℕ) (vs : List ℕ) → AreFrom n vs → due_among log d now vs ≡ None → (level : ℕ) → n ≤ level → level < 19 → is_due log d now level ≡ false
  none_among n [] from answer level low high = absurd (omega (arith, from, low, high))
  none_among n (v ∷ vs) from answer level low high =
      none_at n vs level (here now n (next_delayed log d n) (due_among log d now vs))
      (subst (λ (w : ℕ). due_here now w (next_delayed log d w) (due_among log d now vs) ≡ None) from.0 answer)
      (none_among (suc n) vs from.1) low high
