-- Scanning properties from the front.
use Rattle.std.proofs.Common.{◌≡◌, ℕ, zero, suc, ◌+◌, ◌-◌, ◌<◌, ◌≤◌, ◌++◌, List, [], ◌∷◌, length, get_or, take, drop, true, false, eqb, Option, Some, None, option_map, option_and_then, refl, sym, ap, subst, ◌∙◌, append_assoc, arith, length-append, length-drop, add-one, drop-cons}
use Rattle.std.specs.Prelude.{is_some}
use Rattle.std.proofs.lemmas.List.{take_more, append-nil, nil_from_length}
use Rattle.record_codec.specs.Props.{until, pair_in, pairs_in, next_pair}
use Rattle.record_codec.proofs.PairTexts.{bind_some, map_some, some_is, pairs_step, until-parts}

-- what is found behind a front
abbrev pub behind : List ℕ → Option (List ℕ × List ℕ) → Option (List ℕ × List ℕ)
behind front o = option_map (λ p. (front ++ p.0, p.1)) o

behind-step : (front : List ℕ) (b : ℕ) (o : Option (List ℕ × List ℕ)) → behind front (option_map (λ p. (b ∷ p.0, p.1)) o) ≡ behind (front ++ b ∷ []) o
behind-step front b None = refl
behind-step front b (Some p) = ap (λ (w : List ℕ). Some (w, p.1)) (sym (append_assoc front (b ∷ []) p.0))

pub passes : (x : ℕ) (text : List ℕ) (i : ℕ) → i < length text → eqb (get_or text i 0) x ≡ false → behind (take i text) (until x (drop i text)) ≡ until x text → behind (take (i + 1) text) (until x (drop (i + 1) text)) ≡ until x text
unfolding until
passes x text i lt other so_far =
    let rest : drop i text ≡ get_or text i 0 ∷ drop (suc i) text = drop-cons text i 0 lt in
    let more : take (i + 1) text ≡ take i text ++ get_or text i 0 ∷ [] = take_more text i 0 lt in
    let one : until x (get_or text i 0 ∷ drop (suc i) text) ≡ option_map (λ p. (get_or text i 0 ∷ p.0, p.1)) (until x (drop (suc i) text)) = rw other refl in
    rw (more, add-one) (sym (ap (behind (take i text)) (ap (until x) rest ∙ one) ∙ behind-step (take i text) (get_or text i 0) (until x (drop (suc i) text))) ∙ so_far)

pub stops : (x : ℕ) (text : List ℕ) (i : ℕ) → i < length text → eqb (get_or text i 0) x ≡ true → behind (take i text) (until x (drop i text)) ≡ until x text → until x text ≡ Some (take i text, drop (i + 1) text)
unfolding until
stops x text i lt here so_far =
    let rest : drop i text ≡ get_or text i 0 ∷ drop (suc i) text = drop-cons text i 0 lt in
    let one : until x (get_or text i 0 ∷ drop (suc i) text) ≡ Some ([], drop (suc i) text) = rw here refl in
    sym so_far ∙ ap (behind (take i text)) (ap (until x) rest ∙ one) ∙ rw (add-one, append-nil) refl

pub until_shorter : (x : ℕ) (t : List ℕ) (p : List ℕ × List ℕ) → until x t ≡ Some p → length p.1 < length t
until_shorter x t p h =
    let parts = until-parts x t p.0 p.1 h in
    omega (arith, ap (λ (w : List ℕ). length w) parts.0, length-append p.0 (x ∷ p.1))

abbrev step_of : ℕ → List ℕ × List ℕ → Option (List (List ℕ × List ℕ))
step_of n piece = option_and_then (λ p. option_map (λ ps. p ∷ ps) (pairs_in n piece.1)) (pair_in piece.0)

fuel_by : (n m : ℕ) (t : List ℕ) (o : Option (List ℕ × List ℕ)) → until 2 t ≡ o → length t ≤ suc n → length t ≤ suc m → ((s : List ℕ) → length s ≤ n → length s ≤ m → pairs_in n s ≡ pairs_in m s)
    → option_and_then (step_of n) o ≡ option_and_then (step_of m) o
fuel_by n m t None is a c ih = refl
fuel_by n m t (Some p) is a c ih =
    let short = until_shorter 2 t p is in
    let same : pairs_in n p.1 ≡ pairs_in m p.1 = ih p.1 (omega arith) (omega arith) in
    rw same refl

-- more fuel than bytes is as good
pairs_fuel : (n m : ℕ) (t : List ℕ) → length t ≤ n → length t ≤ m → pairs_in n t ≡ pairs_in m t
unfolding pairs_in
pairs_fuel n m [] a c = refl
pairs_fuel zero m (b ∷ t) a c = absurd (omega arith)
pairs_fuel (suc n) zero (b ∷ t) a c = absurd (omega arith)
pairs_fuel (suc n) (suc m) (b ∷ t) a c = fuel_by n m (b ∷ t) (until 2 (b ∷ t)) refl a c (pairs_fuel n m)

first_step : (t : List ℕ) → 0 < length t → pairs_in (length t) t ≡ option_and_then (step_of (length t - 1)) (until 2 t)
first_step t lt =
    let len : length t ≡ suc (length t - 1) = omega arith in
    ap (λ (n : ℕ). pairs_in n t) len ∙ pairs_step (length t - 1) t lt

some_map : {A B : Type 0} (f : A → B) (o : Option A) → is_some (option_map f o) ≡ is_some o
some_map f (Some x) = refl
some_map f None = refl

pub goes : (t : List ℕ) (r : List ℕ × List ℕ × List ℕ) → 0 < length t → next_pair t ≡ Some r → (is_some (pairs_in (length r.2) r.2) ≡ is_some (pairs_in (length t) t)) × (length r.2 < length t)
unfolding next_pair
goes t r lt h =
    let piece = bind_some (until 2 t) (λ piece. option_map (λ p. (p.0, p.1, piece.1)) (pair_in piece.0)) r h in
    let p = map_some (pair_in piece.0.0) (λ p. (p.0, p.1, piece.0.1)) r piece.2 in
    let rest : piece.0.1 ≡ r.2 = ap (λ (w : List ℕ × List ℕ × List ℕ). w.2) p.2 in
    let short = until_shorter 2 t piece.0 piece.1 in
    let fuel = pairs_fuel (length t - 1) (length piece.0.1) piece.0.1 (omega arith) (omega arith) in
    let inner : step_of (length t - 1) piece.0 ≡ option_map (λ ps. p.0 ∷ ps) (pairs_in (length t - 1) piece.0.1) = ap (option_and_then (λ q. option_map (λ ps. q ∷ ps) (pairs_in (length t - 1) piece.0.1))) p.1 in
    let whole = first_step t lt ∙ ap (option_and_then (step_of (length t - 1))) piece.1 ∙ inner in
    let all : is_some (pairs_in (length t) t) ≡ is_some (pairs_in (length piece.0.1) piece.0.1) =
    ap is_some whole ∙ some_map (λ ps. p.0 ∷ ps) (pairs_in (length t - 1) piece.0.1) ∙ ap is_some fuel in
    (ap (λ (w : List ℕ). is_some (pairs_in (length w) w)) (sym rest) ∙ sym all, omega (arith, short, ap (λ (w : List ℕ). length w) rest))

abbrev with_rest : List ℕ → List ℕ × List ℕ → List ℕ × List ℕ × List ℕ
with_rest rest p = (p.0, p.1, rest)

none_pair : (q : Option (List ℕ × List ℕ)) (rest : List ℕ) (n : ℕ) → option_map (with_rest rest) q ≡ None → option_and_then (λ p. option_map (λ ps. p ∷ ps) (pairs_in n rest)) q ≡ None
none_pair None rest n h = refl
none_pair (Some p) rest n h = absurd cc

none_by : (o : Option (List ℕ × List ℕ)) (n : ℕ) → option_and_then (λ piece. option_map (with_rest piece.1) (pair_in piece.0)) o ≡ None → option_and_then (step_of n) o ≡ None
none_by None n h = refl
none_by (Some piece) n h = none_pair (pair_in piece.0) piece.1 n h

pub stuck : (t : List ℕ) → 0 < length t → next_pair t ≡ None → is_some (pairs_in (length t) t) ≡ false
unfolding next_pair
stuck t lt h = ap is_some (first_step t lt ∙ none_by (until 2 t) (length t - 1) h)

pub nothing_left : (t : List ℕ) → length t ≡ 0 → is_some (pairs_in (length t) t) ≡ true
unfolding pairs_in
nothing_left t e = let none = nil_from_length t e in rw none refl

pub ended : (x : ℕ) (text : List ℕ) (i : ℕ) → length text ≤ i → behind (take i text) (until x (drop i text)) ≡ until x text → None ≡ until x text
unfolding until
ended x text i le so_far =
    let none : drop i text ≡ [] = nil_from_length (drop i text) (omega (arith, length-drop i text)) in
    let one : behind (take i text) (until x (drop i text)) ≡ None = rw none refl in
    sym one ∙ so_far

-- the pairs of a text are the first and those of the rest
pub goes_some : (t : List ℕ) (r : List ℕ × List ℕ × List ℕ) (ps : List (List ℕ × List ℕ)) → 0 < length t → next_pair t ≡ Some r → pairs_in (length t) t ≡ Some ps
    → (qs : List (List ℕ × List ℕ)) × (pairs_in (length r.2) r.2 ≡ Some qs) × (ps ≡ (r.0, r.1) ∷ qs)
unfolding next_pair
goes_some t r ps lt h all =
    let piece = bind_some (until 2 t) (λ piece. option_map (λ p. (p.0, p.1, piece.1)) (pair_in piece.0)) r h in
    let p = map_some (pair_in piece.0.0) (λ p. (p.0, p.1, piece.0.1)) r piece.2 in
    let short = until_shorter 2 t piece.0 piece.1 in
    let fuel = pairs_fuel (length t - 1) (length piece.0.1) piece.0.1 (omega arith) (omega arith) in
    let inner : step_of (length t - 1) piece.0 ≡ option_map (λ ps. p.0 ∷ ps) (pairs_in (length t - 1) piece.0.1) = ap (option_and_then (λ q. option_map (λ ps. q ∷ ps) (pairs_in (length t - 1) piece.0.1))) p.1 in
    let whole = first_step t lt ∙ ap (option_and_then (step_of (length t - 1))) piece.1 ∙ inner ∙ ap (option_map (λ ps. p.0 ∷ ps)) fuel in
    let others = map_some (pairs_in (length piece.0.1) piece.0.1) (λ ps. p.0 ∷ ps) ps (sym whole ∙ all) in
    subst (λ (w : List ℕ × List ℕ × List ℕ). (qs : List (List ℕ × List ℕ)) × (pairs_in (length w.2) w.2 ≡ Some qs) × (ps ≡ (w.0, w.1) ∷ qs)) p.2 (others.0, others.1, sym others.2)

none_is : (ps : List (List ℕ × List ℕ)) → is_some (Some ps) ≡ false → ⊥
none_is ps e = absurd cc

pub stuck_none : (t : List ℕ) (ps : List (List ℕ × List ℕ)) → 0 < length t → next_pair t ≡ None → pairs_in (length t) t ≡ Some ps → ⊥
stuck_none t ps lt h all = none_is ps (ap is_some (sym all) ∙ stuck t lt h)

pub nothing_some : (t : List ℕ) (ps : List (List ℕ × List ℕ)) → length t ≡ 0 → pairs_in (length t) t ≡ Some ps → ps ≡ []
unfolding pairs_in
nothing_some t ps e all =
    let none = nil_from_length t e in
    let read : pairs_in (length t) t ≡ Some [] = rw none refl in
    some_is ps [] (sym all ∙ read)
