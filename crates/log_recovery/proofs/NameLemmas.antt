-- The files of the log among the names of all files.
use Rattle.std.proofs.Common.{◌≡◌, ⊎_elim, ℕ, ◌+◌, ◌*◌, ◌^◌, ◌<◌, ◌≤◌, Bool, true, false, not, bytes_eq, Decides, List, [], length, get_or, Option, Some, None, IsSome, refl, sym, ◌∙◌, ap, subst, arith}
use Rattle.std.proofs.lemmas.Bool.{cases_order, cases_eq, cases_lt}
use Rattle.std.proofs.lemmas.List.{get_or_default}
use Rattle.std.proofs.lemmas.Slice.Eq.{bytes_eq-Decides}
use Rattle.mq_outside.specs.Files.{Files, Lists}
use Rattle.log_model.specs.Bases.{Geometry, first_segment}
use Rattle.log_model.specs.Segments.{segment_file, IsLogFile, Counts}
use Rattle.log_model.specs.Store.{ComesNext}
use Rattle.log_model.proofs.NameOrder.{Precedes, precede_once}
use Rattle.log_recovery.specs.Names.{NoFurther, AreNamed}

-- each file of the log's folder among the first i names is one of the first n segments
abbrev pub AreTaken : Geometry → ℕ → List (List ℕ) → ℕ → Type 0
AreTaken S n names i = (j : ℕ) → j < i → IsLogFile (get_or names j []) → (k : ℕ) × (k < n) × (get_or names j [] ≡ segment_file S k)

-- each of the segments from the first one to n has its file among the first i names
abbrev pub AreMet : Geometry → ℕ → List (List ℕ) → ℕ → Type 0
AreMet S n names i = (k : ℕ) → first_segment S ≤ k → k < n → (j : ℕ) × (j < i) × (get_or names j [] ≡ segment_file S k)

module _ (S : Geometry) (n i : ℕ) (names : List (List ℕ)) (files : Files) (lists : Lists files names) (within : i < length names) where
  -- where a name that is there stands
  found : (name : List ℕ) → IsSome (files name) → (j : ℕ) × (j < length names) × (get_or names j [] ≡ name)
  found name there =
      let at = (lists.each name).1 there in
      (at.0, at.1, get_or_default names at.0 [] name at.1 ∙ at.2)

  -- the name at i comes next, behind the first n segments
  pub comes_next : AreTaken S n names i → AreMet S n names i → Counts S (get_or names i []) → ComesNext S n files (get_or names i [])
  comes_next taken met counts = record {
    in_folder = counts.in_folder;
    there = (lists.each (get_or names i [])).0 (i, within, sym (get_or_default names i [] (get_or names i []) within));
    behind = λ k low is. ⊎_elim
        (λ (removed : k < first_segment S). counts.kept k removed is)
        (λ (from : first_segment S ≤ k).
        let at = met k from low in
        let before : Precedes (get_or names at.0 []) (get_or names i []) = lists.ordered at.0 i [] at.1 within in
        let same : get_or names at.0 [] ≡ get_or names i [] = at.2 ∙ sym is in
        let once : Precedes (get_or names i []) (get_or names i []) = subst (λ (l : List ℕ). Precedes l (get_or names i [])) same before in
        precede_once (get_or names i []) (get_or names i []) once once)
        (cases_lt k (first_segment S));
    first = λ other other_in there apart other_is.
        let at = found other there in
        ⊎_elim
        (λ (same : i ≡ at.0). absurd (other_is (sym at.2 ∙ ap (λ (j : ℕ). get_or names j []) (sym same))))
        (λ order. ⊎_elim
        (λ (before : i < at.0). subst (Precedes (get_or names i [])) at.2 (lists.ordered i at.0 [] before at.1))
        (λ (behind : at.0 < i).
        let is = taken at.0 behind (subst IsLogFile (sym at.2) other_in) in
        absurd (apart is.0 is.1 (sym at.2 ∙ is.2)))
        order)
        (cases_order i at.0);
  }

-- the next name is that of the next segment
pub taken_more : (S : Geometry) (n i : ℕ) (names : List (List ℕ)) → AreTaken S n names i → get_or names i [] ≡ segment_file S n → AreTaken S (n + 1) names (i + 1)
taken_more S n i names taken is j low in_folder = ⊎_elim
    (λ (last : j ≡ i). (n, omega arith, ap (λ (k : ℕ). get_or names k []) last ∙ is))
    (λ (other : j ≡ i → ⊥). let before = taken j (omega (arith, low, other)) in_folder in (before.0, omega (arith, before.1), before.2))
    (cases_eq j i)

pub met_more : (S : Geometry) (n i : ℕ) (names : List (List ℕ)) → AreMet S n names i → get_or names i [] ≡ segment_file S n → AreMet S (n + 1) names (i + 1)
met_more S n i names met is k from low = ⊎_elim
    (λ (last : k ≡ n). (i, omega arith, is ∙ ap (segment_file S) (sym last)))
    (λ (other : k ≡ n → ⊥). let before = met k from (omega (arith, low, other)) in (before.0, omega (arith, before.1), before.2))
    (cases_eq k n)

-- the next name is none of the log's folder, or that of one of these segments
pub taken_past : (S : Geometry) (n i : ℕ) (names : List (List ℕ)) → AreTaken S n names i → (IsLogFile (get_or names i []) → (k : ℕ) × (k < n) × (get_or names i [] ≡ segment_file S k)) → AreTaken S n names (i + 1)
taken_past S n i names taken here j low in_folder = ⊎_elim
    (λ (last : j ≡ i).
    let found = here (subst (λ (k : ℕ). IsLogFile (get_or names k [])) last in_folder) in
    (found.0, found.1, ap (λ (m : ℕ). get_or names m []) last ∙ found.2))
    (λ (other : j ≡ i → ⊥). taken j (omega (arith, low, other)) in_folder)
    (cases_eq j i)

pub met_past : (S : Geometry) (n i : ℕ) (names : List (List ℕ)) → AreMet S n names i → AreMet S n names (i + 1)
met_past S n i names met k from low = let before = met k from low in (before.0, omega (arith, before.1), before.2)

pub named_more : (S : Geometry) (n : ℕ) (files : Files) → AreNamed S n files → n * S.size < 2 ^ 63 → ComesNext S n files (segment_file S n) → AreNamed S (n + 1) files
named_more S n files named low next k from within = ⊎_elim
    (λ (last : k ≡ n). subst (λ (j : ℕ). (j * S.size < 2 ^ 63) × ComesNext S j files (segment_file S j)) (sym last) (low, next))
    (λ (other : k ≡ n → ⊥). named k from (omega (arith, within, other)))
    (cases_eq k n)

none_of : {A : Type 0} (o : Option A) → (IsSome o → ⊥) → o ≡ None
none_of None not = refl
none_of (Some x) not = absurd (not refl)

-- where all names were looked at, there is no further file of the log
pub none_further : (S : Geometry) (n : ℕ) (names : List (List ℕ)) (files : Files) → Lists files names → AreTaken S n names (length names) → NoFurther S n files
none_further S n names files lists taken name in_folder apart = none_of (files name) (λ there.
    let at = (lists.each name).1 there in
    let is : get_or names at.0 [] ≡ name = get_or_default names at.0 [] name at.1 ∙ at.2 in
    let one = taken at.0 at.1 (subst IsLogFile (sym is) in_folder) in
    apart one.0 one.1 (sym is ∙ one.2))

-- a test of two texts
tested : (a b : List ℕ) (same : Bool) → Decides same (a ≡ b) → not same ≡ false → a ≡ b
tested a b true decides fails = decides.0 refl
tested a b false decides fails = let full : true ≡ false = fails in absurd (cc)

pub same_of : (a b : List ℕ) (differs : Bool) → differs ≡ not (bytes_eq a b) → differs ≡ false → a ≡ b
same_of a b differs is fails = tested a b (bytes_eq a b) (bytes_eq-Decides a b) (sym is ∙ fails)

pub apart_of : (a b : List ℕ) (differs : Bool) → differs ≡ not (bytes_eq a b) → differs ≡ true → a ≡ b → ⊥
apart_of a b differs is holds same =
    let found : bytes_eq a b ≡ true = (bytes_eq-Decides a b).1 same in
    let full : true ≡ false = sym holds ∙ is ∙ ap not found in
    absurd (cc)

pub each_more : (S : Geometry) (n more : ℕ) → more ≡ n + 1 → ((k : ℕ) → k < n → k * S.size < 2 ^ 63) → n * S.size < 2 ^ 63 → (k : ℕ) → k < more → k * S.size < 2 ^ 63
each_more S n more is each low k within = ⊎_elim
    (λ (last : k ≡ n). subst (λ (j : ℕ). j * S.size < 2 ^ 63) (sym last) low)
    (λ (other : k ≡ n → ⊥). each k (omega (arith, is, within, other)))
    (cases_eq k n)
