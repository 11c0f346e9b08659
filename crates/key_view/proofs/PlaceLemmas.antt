-- Places, each once: with one more behind them, and their front.
use Rattle.std.proofs.Common.{◌≡◌, ◌∙◌, ℕ, suc, ◌-◌, ◌<◌, Bool, true, false, cond, List, [], ◌∷◌, ◌++◌, length, get_or, take, refl, sym, ap, arith}
use Rattle.std.specs.Prelude.{◌==◌, ◌&&◌, nat_lt}
use Rattle.std.specs.List.{dedup_from}
use Rattle.std.proofs.lemmas.List.{take_at}
use Rattle.std.proofs.lemmas.Bool.{eqb-true, ltb-false}
use Rattle.key_view.specs.Entries.{once, with_place}

-- the last of these, where that one stands before them
abbrev pub last_of : ℕ → List ℕ → ℕ
last_of last [] = last
last_of last (p ∷ ps) = last_of p ps

-- each once, with one before them
abbrev pub once_from : ℕ → List ℕ → List ℕ
once_from last ps = dedup_from (λ later earlier. later == earlier) last ps

cons_cond : (b : Bool) (last p : ℕ) (ps : List ℕ) → last ∷ cond b ps (ps ++ p ∷ []) ≡ cond b (last ∷ ps) ((last ∷ ps) ++ p ∷ [])
cons_cond true last p ps = refl
cons_cond false last p ps = refl

push_by : (b : Bool) (last p q : ℕ) (ps : List ℕ) → (q == last) ≡ b
    → once_from last (ps ++ p ∷ []) ≡ cond (p == last_of last ps) (once_from last ps) (once_from last ps ++ p ∷ [])
    → once_from q (ps ++ p ∷ []) ≡ cond (p == last_of q ps) (once_from q ps) (once_from q ps ++ p ∷ [])
    → cond b (once_from last (ps ++ p ∷ [])) (last ∷ once_from q (ps ++ p ∷ []))
    ≡ cond (p == last_of q ps) (cond b (once_from last ps) (last ∷ once_from q ps)) (cond b (once_from last ps) (last ∷ once_from q ps) ++ p ∷ [])
push_by true last p q ps is here there =
    here ∙ ap (λ (l : ℕ). cond (p == last_of l ps) (once_from last ps) (once_from last ps ++ p ∷ [])) (sym (eqb-true q last is))
push_by false last p q ps is here there = ap (λ (l : List ℕ). last ∷ l) there ∙ cons_cond (p == last_of q ps) last p (once_from q ps)

-- one more behind them is left out where it is the last
pub once_from-push : (last p : ℕ) (ps : List ℕ) → once_from last (ps ++ p ∷ []) ≡ cond (p == last_of last ps) (once_from last ps) (once_from last ps ++ p ∷ [])
once_from-push last p [] = refl
once_from-push last p (q ∷ ps) = push_by (q == last) last p q ps refl (once_from-push last p ps) (once_from-push q p ps)

-- places that have a last one, which is this
abbrev Ends : List ℕ → ℕ → Type 0
Ends xs last = (0 < length xs) × (get_or xs (length xs - 1) 0 ≡ last)

ends_by : (b : Bool) (last q : ℕ) (ps : List ℕ) → (q == last) ≡ b → Ends (once_from last ps) (last_of last ps) → Ends (once_from q ps) (last_of q ps)
    → Ends (cond b (once_from last ps) (last ∷ once_from q ps)) (last_of q ps)
ends_by true last q ps is here there = (here.0, here.1 ∙ ap (λ (l : ℕ). last_of l ps) (sym (eqb-true q last is)))
ends_by false last q ps is here there =
    let xs = once_from q ps in
    let some = there.0 in
    let size : length (last ∷ xs) - 1 ≡ suc (length xs - 1) = omega (arith, some) in
    (omega arith, ap (λ (k : ℕ). get_or (last ∷ xs) k 0) size ∙ there.1)

-- they have a last one, which is the last of all
once_from-ends : (last : ℕ) (ps : List ℕ) → Ends (once_from last ps) (last_of last ps)
once_from-ends last [] = (omega arith, refl)
once_from-ends last (q ∷ ps) = ends_by (q == last) last q ps refl (once_from-ends last ps) (once_from-ends q ps)

put_by : (b : Bool) (p last : ℕ) (xs : List ℕ) → nat_lt 0 (length xs) ≡ b → Ends xs last
    → cond (p == last) xs (xs ++ p ∷ []) ≡ cond (b && (p == get_or xs (length xs - 1) 0)) xs (xs ++ p ∷ [])
put_by true p last xs is ends = ap (λ (l : ℕ). cond (p == l) xs (xs ++ p ∷ [])) (sym ends.1)
put_by false p last xs is ends = let none = ltb-false 0 (length xs) is in let some = ends.0 in absurd (omega (arith, none, some))

-- a place is put behind these as it is
pub once-push : (ps : List ℕ) (p : ℕ) → once (ps ++ p ∷ []) ≡ with_place p (once ps)
once-push [] p = refl
once-push (q ∷ ps) p =
    let xs = once_from q ps in
    once_from-push q p ps ∙ put_by (nat_lt 0 (length xs)) p (last_of q ps) xs refl (once_from-ends q ps)

-- places that begin with these
abbrev Begins : List ℕ → List ℕ → Type 0
Begins xs all = (rest : List ℕ) × (all ≡ xs ++ rest)

front_by : (b : Bool) (last p : ℕ) (ps qs : List ℕ) → Begins (once_from last ps) (once_from last (ps ++ qs)) → Begins (once_from p ps) (once_from p (ps ++ qs))
    → Begins (cond b (once_from last ps) (last ∷ once_from p ps)) (cond b (once_from last (ps ++ qs)) (last ∷ once_from p (ps ++ qs)))
front_by true last p ps qs here there = here
front_by false last p ps qs here there = (there.0, ap (λ (l : List ℕ). last ∷ l) there.1)

behind_by : (b : Bool) (last q : ℕ) (qs : List ℕ) → Begins (last ∷ []) (once_from last qs) → Begins (last ∷ []) (cond b (once_from last qs) (last ∷ once_from q qs))
behind_by true last q qs here = here
behind_by false last q qs here = (once_from q qs, refl)

-- what is behind one, once, begins with it
once_from-first : (last : ℕ) (qs : List ℕ) → Begins (last ∷ []) (once_from last qs)
once_from-first last [] = ([], refl)
once_from-first last (q ∷ qs) = behind_by (q == last) last q qs (once_from-first last qs)

-- more of them begin with these
once_from-front : (last : ℕ) (ps qs : List ℕ) → Begins (once_from last ps) (once_from last (ps ++ qs))
once_from-front last [] qs = once_from-first last qs
once_from-front last (p ∷ ps) qs = front_by (p == last) last p ps qs (once_from-front last ps qs) (once_from-front p ps qs)

-- as many of more places as these are once
pub once-front : (ps qs : List ℕ) → take (length (once ps)) (once (ps ++ qs)) ≡ once ps
once-front [] qs = refl
once-front (p ∷ ps) qs =
    let more = once_from-front p ps qs in
    ap (λ (l : List ℕ). take (length (once_from p ps)) l) more.1 ∙ take_at (once_from p ps) more.0 (length (once_from p ps)) refl
