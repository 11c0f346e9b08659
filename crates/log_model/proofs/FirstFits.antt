-- The place of the next record is the first that fits.
use Rattle.std.proofs.Common.{◌≡◌, ◌⊎◌, inl, inr, ⊎_elim, ℕ, ◌+◌, ◌*◌, ◌/◌, ◌%◌, ◌<◌, ◌≤◌, true, false, sym, ◌∙◌, ap, subst, arith}
use Rattle.std.proofs.lemmas.Bool.{leb-true, le-leb, cases_Bool, cases_lt, cond-true, cond-false}
use Rattle.std.proofs.lemmas.Nat.{mod-mul-add}
use Rattle.std.proofs.Math.Nat.{div-add-mod, lt-div-mul-add, div-mul-le_self, mul-le-mul_right}
use Rattle.log_model.specs.Log.{fits, place_after}

-- it fits at the end, or the place is the start of the next segment
pub place_cases : (S end n : ℕ) → ((place_after S end n ≡ end) × (end % S + n + 8 ≤ S)) ⊎ ((place_after S end n ≡ (end / S + 1) * S) × (end % S + n + 8 ≤ S → ⊥))
place_cases S end n = ⊎_elim
    (λ (fit : fits S (end % S) n ≡ true). inl (cond-true _ end _ fit, leb-true _ _ fit))
    (λ (full : fits S (end % S) n ≡ false). inr (cond-false _ end _ full, λ room. let both : false ≡ true = sym full ∙ le-leb _ _ room in absurd (cc)))
    (cases_Bool (fits S (end % S) n))

-- the start of the next segment is behind the end
next_behind : (S end : ℕ) → 0 < S → end ≤ (end / S + 1) * S
next_behind S end some = omega (arith, lt-div-mul-add {a = end} {b = S} some)

-- the start of a segment is at the offset 0
start_offset : (S k : ℕ) → 0 < S → k * S % S ≡ 0
start_offset S k some = let plain : k * S + 0 ≡ k * S = omega arith in ap (λ (m : ℕ). m % S) (sym plain) ∙ mod-mul-add k S 0 some

-- the place isn't before the end
pub place_behind : (S end n : ℕ) → 0 < S → end ≤ place_after S end n
place_behind S end n some = ⊎_elim
    (λ (here : (place_after S end n ≡ end) × (end % S + n + 8 ≤ S)). omega (arith, here.0))
    (λ (next : (place_after S end n ≡ (end / S + 1) * S) × (end % S + n + 8 ≤ S → ⊥)). omega (arith, next.0, next_behind S end some))
    (place_cases S end n)

-- it is the end, or the start of a segment
pub place_starts : (S end n : ℕ) → 0 < S → (place_after S end n ≡ end) ⊎ (place_after S end n % S ≡ 0)
place_starts S end n some = ⊎_elim
    (λ (here : (place_after S end n ≡ end) × (end % S + n + 8 ≤ S)). inl here.0)
    (λ (next : (place_after S end n ≡ (end / S + 1) * S) × (end % S + n + 8 ≤ S → ⊥)). inr (ap (λ (m : ℕ). m % S) next.0 ∙ start_offset S (end / S + 1) some))
    (place_cases S end n)

-- the record and a blank's first eight bytes fit there
pub place_fits : (S end n : ℕ) → n + 8 ≤ S → place_after S end n % S + n + 8 ≤ S
place_fits S end n room = ⊎_elim
    (λ (here : (place_after S end n ≡ end) × (end % S + n + 8 ≤ S)). omega (arith, here.1, ap (λ (m : ℕ). m % S) here.0))
    (λ (next : (place_after S end n ≡ (end / S + 1) * S) × (end % S + n + 8 ≤ S → ⊥)).
    omega (arith, room, ap (λ (m : ℕ). m % S) next.0, start_offset S (end / S + 1) (omega (arith, room))))
    (place_cases S end n)

-- the start of a segment from the end on is the end, or the start of the next segment or of a later one
starts_later : (S end q : ℕ) → 0 < S → end ≤ q → q % S ≡ 0 → (q ≡ end) ⊎ ((end / S + 1) * S ≤ q)
starts_later S end q some low start =
    let whole : q / S * S ≡ q = omega (arith, div-add-mod q S, start) in
    ⊎_elim
    (λ (less : q / S < end / S + 1).
    let below : q / S ≤ end / S = omega (arith, less) in
    inl (omega (arith, low, whole, div-mul-le_self end S, mul-le-mul_right S below)))
    (λ (more : end / S + 1 ≤ q / S). inr (omega (arith, whole, mul-le-mul_right S more)))
    (cases_lt (q / S) (end / S + 1))

-- and no such place is before it
pub place_first : (S end n q : ℕ) → 0 < S → end ≤ q → (q ≡ end) ⊎ (q % S ≡ 0) → q % S + n + 8 ≤ S → place_after S end n ≤ q
place_first S end n q some low which room = ⊎_elim
    (λ (here : (place_after S end n ≡ end) × (end % S + n + 8 ≤ S)). omega (arith, here.0, low))
    (λ (next : (place_after S end n ≡ (end / S + 1) * S) × (end % S + n + 8 ≤ S → ⊥)).
    let not_end : q ≡ end → ⊥ = λ is. next.1 (subst (λ (m : ℕ). m % S + n + 8 ≤ S) is room) in
    ⊎_elim
    (λ (is : q ≡ end). absurd (not_end is))
    (λ (start : q % S ≡ 0). ⊎_elim
    (λ (is : q ≡ end). absurd (not_end is))
    (λ (later : (end / S + 1) * S ≤ q). omega (arith, next.0, later))
    (starts_later S end q some low start))
    which)
    (place_cases S end n)
