-- The last failed turn alone tells what all of them do.
use Rattle.std.proofs.Common.{◌≡◌, refl, ap, sym, ◌∙◌, subst, arith, ℕ, suc, ◌≤◌, ◌&&◌, nat_lt, nat_le, Bool, true, false, List, [], ◌∷◌, ◌++◌, filter, Option, Some, if◌then◌else◌}
use Rattle.std.proofs.lemmas.Bool.{le-leb, lt-ltb, le-ltb, ltb-true, ltb-false}
use Rattle.std.proofs.lemmas.List.Elements.{All-head, All-tail}
use Rattle.pending_log.specs.declared.turn.FailedTurn.{FailedTurn}
use Rattle.pending_log.specs.declared.turn.Look.{Look}
use Rattle.pending_log.specs.declared.turn.Look.TheVariants.{Flushed, Failed, NotYet}
use Rattle.pending_log.specs.Looks.{Turn, holds_up, last_count, looked, AreInOrder, KeepsLast, kept_look}

both : {a b c : Bool} → a ≡ true → b ≡ true → c ≡ true → (a && b && c) ≡ true
both {a} {b} {c} is_a is_b is_c = λ i. is_a i && is_b i && is_c i

parts : (a b c : Bool) → (a && b && c) ≡ true → (a ≡ true) × (b ≡ true) × (c ≡ true)
parts true true true e = (refl, refl, refl)
parts true true false e = cc e
parts true false c e = cc e
parts false b c e = cc e

-- a turn that holds up a record which isn't flushed is followed by one that does
later_holds : {T : Type 0} (facts : T → Turn) (flushed number turn : ℕ) (t u : T) → flushed ≤ number → (facts u).from ≤ flushed
    → (facts t).held ≤ (facts u).held → (facts t).turn ≤ (facts u).turn → holds_up number turn (facts t) ≡ true → holds_up number turn (facts u) ≡ true
later_holds facts flushed number turn t u behind from held after holds =
    let each = parts (nat_lt turn (facts t).turn) (nat_le (facts t).from number) (nat_lt number (facts t).held) holds in
    let later = ltb-true turn (facts t).turn each.0 in
    let low = ltb-true number (facts t).held each.2 in
    both (lt-ltb turn (facts u).turn (omega (arith, later, after))) (le-leb (facts u).from number (omega (arith, from, behind))) (lt-ltb number (facts u).held (omega (arith, low, held)))

-- an earlier turn makes no difference where the next one holds the record up too
skipped : {T : Type 0} (facts : T → Turn) (p : T → Bool) (t u : T) (turns : List T) → (p t ≡ true → p u ≡ true)
    → last_count facts (filter p (t ∷ u ∷ turns)) ≡ last_count facts (filter p (u ∷ turns))
skipped facts p t u turns next =
    (elim (p t) as (λ b. p t ≡ b → last_count facts (if b then t ∷ filter p (u ∷ turns) else filter p (u ∷ turns)) ≡ last_count facts (filter p (u ∷ turns))) [
      | true ↦ λ e. let P : Bool → Type 0 = λ b. last_count facts (t ∷ (if b then u ∷ filter p turns else filter p turns)) ≡ last_count facts (if b then u ∷ filter p turns else filter p turns) in subst P (sym (next e)) refl
      | false ↦ λ e. refl
    ]) refl

one_case : {T : Type 0} (facts : T → Turn) (t : T) (a b c : Bool) → b ≡ true → (if a && c then Failed (facts t).count else NotYet) ≡ last_count facts (if a && b && c then t ∷ [] else [])
one_case facts t true true true e = refl
one_case facts t true true false e = refl
one_case facts t true false c e = cc e
one_case facts t false b c e = refl

-- one turn
one_look : {T : Type 0} (facts : T → Turn) (flushed number turn : ℕ) (t : T) → flushed ≤ number → (facts t).from ≤ flushed
    → kept_look (Some (record { turn = (facts t).turn; held = (facts t).held; count = (facts t).count })) number turn ≡ last_count facts (filter (λ x. holds_up number turn (facts x)) (t ∷ []))
one_look facts flushed number turn t behind from =
    one_case facts t (nat_lt turn (facts t).turn) (nat_le (facts t).from number) (nat_lt number (facts t).held) (le-leb (facts t).from number (omega (arith, from, behind)))

-- the last turn tells the count of the last that held the record up
pub last_tells : {T : Type 0} (facts : T → Turn) (flushed number turn : ℕ) (turns : List T) (kept : Option FailedTurn) → flushed ≤ number → AreInOrder facts flushed turns → KeepsLast facts turns kept
    → kept_look kept number turn ≡ last_count facts (filter (λ t. holds_up number turn (facts t)) turns)
last_tells facts flushed number turn [] kept behind order keeps = ap (λ k. kept_look k number turn) keeps
last_tells facts flushed number turn (t ∷ []) kept behind order keeps =
    ap (λ k. kept_look k number turn) keeps ∙ one_look facts flushed number turn t behind (All-head (λ x. (facts x).from ≤ flushed) t [] order.from)
last_tells facts flushed number turn (t ∷ u ∷ turns) kept behind order keeps =
    let tail = All-tail (λ x. (facts x).from ≤ flushed) t (u ∷ turns) order.from in
    let pair = order.later 0 1 t (omega arith) (omega arith) in
    last_tells facts flushed number turn (u ∷ turns) kept behind (record { from = tail; later = λ i j d before within. order.later (suc i) (suc j) d (omega (arith, before)) (omega (arith, within)) }) keeps
    ∙ sym (skipped facts (λ x. holds_up number turn (facts x)) t u turns
    (λ holds. later_holds facts flushed number turn t u behind (All-head (λ x. (facts x).from ≤ flushed) u turns tail) pair.0 pair.1 holds))

-- so the kept turn answers for all of them
pub kept_answers : {T : Type 0} (facts : T → Turn) (flushed number turn : ℕ) (turns : List T) (kept : Option FailedTurn) → AreInOrder facts flushed turns → KeepsLast facts turns kept
    → (if nat_lt number flushed then Flushed else kept_look kept number turn) ≡ looked facts flushed turns number turn
kept_answers facts flushed number turn turns kept order keeps =
    (elim (nat_lt number flushed) as (λ b. nat_lt number flushed ≡ b → (if b then Flushed else kept_look kept number turn) ≡ (if b then Flushed else last_count facts (filter (λ t. holds_up number turn (facts t)) turns))) [
      | true ↦ λ e. refl
      | false ↦ λ e. last_tells facts flushed number turn turns kept (ltb-false number flushed e) order keeps
    ]) refl

-- what is told of a record that is not flushed
pub unflushed_look : {T : Type 0} (facts : T → Turn) (flushed number turn : ℕ) (turns : List T) (kept : Option FailedTurn) (look : Look) → flushed ≤ number → look ≡ kept_look kept number turn
    → AreInOrder facts flushed turns → KeepsLast facts turns kept → look ≡ looked facts flushed turns number turn
unflushed_look facts flushed number turn turns kept look behind is order keeps =
    let told : (if nat_lt number flushed then Flushed else kept_look kept number turn) ≡ kept_look kept number turn =
    ap (λ b. if b then Flushed else kept_look kept number turn) (le-ltb number flushed behind) in
    is ∙ (sym told ∙ kept_answers facts flushed number turn turns kept order keeps)

-- a turn that fails is the last of those that did
pub kept_last : {T : Type 0} (facts : T → Turn) (turns : List T) (t : T) → KeepsLast facts (turns ++ t ∷ []) (Some (record { turn = (facts t).turn; held = (facts t).held; count = (facts t).count }))
kept_last facts [] t = refl
kept_last facts (u ∷ []) t = refl
kept_last facts (u ∷ v ∷ turns) t = kept_last facts (v ∷ turns) t
