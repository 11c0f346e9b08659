-- What is put into the kept files along the one history.
use Rattle.std.proofs.Common.{◌≡◌, inl, inr, refl, sym, ap, subst, ◌∙◌, ℕ, List, [], ◌∷◌, ◌++◌, Option, Some, None, IfSome, Result}
use Rattle.mq_outside.specs.Disk.{DiskState}
use Rattle.worker_turns.specs.Acts.{Change, Place}
use Rattle.mq_outside.specs.declared.faults.DiskFault.{DiskFault}
use Rattle.broker_model.specs.State.{State}
use Rattle.broker_events.specs.declared.event.Event.{Event}
use Rattle.broker_events.specs.declared.said.Said.{Said}
use Rattle.core_log.specs.declared.parts.Parts.{Parts}
use Rattle.core_log.specs.Represents.{Represents}
use Rattle.broker_core.specs.Owner.{plain_look}
use Rattle.config_store.specs.Texts.{offsets_text_of, topics_text_of}
use Rattle.keeper_turns.specs.Turns.{HasKeptOf, IsOffsetsOf, IsTopicsOf}
use Rattle.keeper_turns.proofs.PutLemmas.{puts_then, puts_weaker}
use Rattle.story_lock.specs.declared.chronicle.Chronicle.{Ghosts}
use Rattle.story_lock.specs.declared.story.Pass.{Pass}
use Rattle.story_lock.specs.Counts.{StartsWith}
use Rattle.story_lock.specs.Passes.{seen_by}
use Rattle.story_lock.proofs.Sums.{starts_longer, starts_itself, append_three}
use Rattle.spine.specs.declared.shared.Shared.{Shared}
use Rattle.spine.specs.Owner.{Sees}
use Rattle.spine.specs.Stands.{Stands}
use Rattle.loop_threads.specs.Kept.{Among, KeepOver, SeesAll, KeepsUp}
use Rattle.serve_threads.specs.Kept.{IsTextAlong, PutsAlong}
use Rattle.serve_threads.specs.Served.{IsLeft, IsMadeBy, Views}

-- ---- along one history

abbrev value_or : {X : Type 0} → X → Option X → X
value_or d None = d
value_or d (Some x) = x

same_of : {X : Type 0} (p q : X) → Some p ≡ Some q → p ≡ q
same_of p q same = ap (value_or p) same

pub starts_then : {X : Type 0} (log mid xs : List X) → StartsWith log mid → StartsWith mid xs → StartsWith log xs
starts_then log mid xs more begins = subst (λ l. StartsWith l xs) (sym more.1) (starts_longer mid more.0 xs begins)

-- such a text of a core that stands for a beginning of the history
of_core : (text_of : State → List ℕ) (start core : Parts) (history part : List (Event × Option Said)) (text : List ℕ) → StartsWith history part → Stands start part core
    → ((s : State) → Represents core s → text ≡ text_of s) → IsTextAlong text_of start history text
of_core text_of start core history part text begins stands is =
    (part, begins, λ s are. let run = stands.runs s are in (run.0, run.1, is run.0 run.2))

longer_along : (text_of : State → List ℕ) (start : Parts) (history part : List (Event × Option Said)) (text : List ℕ) → StartsWith history part
    → IsTextAlong text_of start part text → IsTextAlong text_of start history text
longer_along text_of start history part text begins is = (is.0, starts_then history part is.0 begins is.1, is.2)

-- the same along a longer history
pub puts_longer : (start : Parts) (history seen : List (Event × Option Said)) (old new : DiskState) → StartsWith history seen → PutsAlong start seen old new → PutsAlong start history old new
puts_longer start history seen old new begins puts =
    let offsets = λ (s : State). offsets_text_of s.offsets in
    let topics = λ (s : State). topics_text_of s.topics in
    puts_weaker (IsTextAlong offsets start seen) (IsTextAlong topics start seen) (IsTextAlong offsets start history) (IsTextAlong topics start history) old new
    (λ text is. longer_along offsets start history seen text begins is) (λ text is. longer_along topics start history seen text begins is) puts

module _ {chronicle : Ghosts Shared Event (Option Said)} {C V : Type 0} (pass_of : C → Option (Pass Shared Event (Option Said) chronicle)) (place_of : C → V) (start_at : V → Shared) where
  -- a look of an object at a place, where it stays
  abbrev pub SeesAt : C → Parts → C → Type 0
  SeesAt x core y = Sees pass_of (start_at (place_of x)) x core y × (place_of y ≡ place_of x)

  pub same_place : (x : C) (cores : List Parts) (y : C) → SeesAll SeesAt x cores y → place_of y ≡ place_of x
  same_place x [] y all = ap place_of (sym all)
  same_place x (core ∷ cores) y all = same_place all.0 cores y all.2 ∙ all.1.1

  -- what the pass had seen begins what it has seen then
  begins : (x : C) (cores : List Parts) (y : C) (p q : Pass Shared Event (Option Said) chronicle) → SeesAll SeesAt x cores y → pass_of x ≡ Some p → pass_of y ≡ Some q
      → StartsWith (seen_by q) (seen_by p)
  begins x [] y p q all at there =
      starts_itself (seen_by q) (seen_by p) (ap seen_by (same_of p q (sym at ∙ (ap pass_of all ∙ there))))
  begins x (core ∷ cores) y p q all at there =
      let step = all.1.0.step in
      let old = step.0 in
      let mid = step.1 in
      let adds = step.4 in
      let rest = begins all.0 cores y mid q all.2 step.3 there in
      let same : seen_by p ≡ seen_by old = ap seen_by (same_of p old (sym at ∙ step.2)) in
      let more = adds.between ++ (plain_look, Some all.1.0.what) ∷ [] in
      let first : StartsWith (seen_by mid) (seen_by p) = (more, adds.seen ∙ (append_three (seen_by old) adds.between ((plain_look, Some all.1.0.what) ∷ []) ∙ ap (λ l. l ++ more) (sym same))) in
      starts_then (seen_by q) (seen_by mid) (seen_by p) rest first

  among_along : (Is : Parts → List ℕ → Type 0) (text_of : State → List ℕ) → ((core : Parts) (text : List ℕ) → Is core text → (s : State) → Represents core s → text ≡ text_of s)
      → (x : C) (cores : List Parts) (y : C) (q : Pass Shared Event (Option Said) chronicle) (text : List ℕ) → SeesAll SeesAt x cores y → pass_of y ≡ Some q
      → Among Is cores text → IsTextAlong text_of (start_at (place_of x)).core (seen_by q) text
  among_along Is text_of tells x [] y q text all there none = absurd none
  among_along Is text_of tells x (core ∷ cores) y q text all there (inl is) =
      let saw = all.1.0 in
      let mid = saw.step.1 in
      let stands = subst (λ o. IfSome o (λ p. Stands (start_at (place_of x)).core (seen_by p) core)) saw.step.3 saw.seen in
      of_core text_of (start_at (place_of x)).core core (seen_by q) (seen_by mid) text (begins all.0 cores y mid q all.2 saw.step.3 there) stands (tells core text is)
  among_along Is text_of tells x (core ∷ cores) y q text all there (inr rest) =
      subst (λ v. IsTextAlong text_of (start_at v).core (seen_by q) text) all.1.1 (among_along Is text_of tells all.0 cores y q text all.2 there rest)

  pub keeps_along : (keep : KeepOver) (x y : C) (q : Pass Shared Event (Option Said) chronicle) → KeepsUp SeesAt keep x y → pass_of y ≡ Some q → keep.tells
      → PutsAlong (start_at (place_of x)).core (seen_by q) keep.old keep.new
  keeps_along keep x y q keeps there told =
      puts_weaker (Among IsOffsetsOf keeps.cores) (Among IsTopicsOf keeps.cores)
      (IsTextAlong (λ s. offsets_text_of s.offsets) (start_at (place_of x)).core (seen_by q)) (IsTextAlong (λ s. topics_text_of s.topics) (start_at (place_of x)).core (seen_by q)) keep.old keep.new
      (λ text is. among_along IsOffsetsOf (λ s. offsets_text_of s.offsets) (λ core t it. it) x keeps.cores y q text keeps.seen there is)
      (λ text is. among_along IsTopicsOf (λ s. topics_text_of s.topics) (λ core t it. it) x keeps.cores y q text keeps.seen there is)
      (keeps.puts told)

-- ---- the end

-- the core that is left stands for the whole history, and its texts were put last
pub left_at : {D : Type 0} (views : Views D) (failures : ℕ × ℕ) (change : Change Parts (Place D)) (history seen : List (Event × Option Said)) (keep : KeepOver) (mid : DiskState) (kept : Result (Unit {0}) DiskFault)
    → Stands change.calls history change.calls_then → IsMadeBy views failures history change → StartsWith history seen → (keep.tells → PutsAlong change.calls seen keep.old mid)
    → HasKeptOf keep.tells change.calls_then kept mid keep.new → IsLeft views failures change keep kept
left_at views failures change history seen keep mid kept stands made begins puts last =
    let start = change.calls in
    let now = change.calls_then in
    let offsets = λ (s : State). offsets_text_of s.offsets in
    let topics = λ (s : State). topics_text_of s.topics in
    let whole = starts_itself history history refl in
    record {
      history = history;
      stands = stands;
      made = made;
      puts = λ told. puts_then (IsTextAlong offsets start history) (IsTextAlong topics start history) keep.old mid keep.new
          (puts_longer start history seen keep.old mid begins (puts told))
          (puts_weaker (IsOffsetsOf now) (IsTopicsOf now) (IsTextAlong offsets start history) (IsTextAlong topics start history) mid keep.new
          (λ text is. of_core offsets start now history history text whole stands is) (λ text is. of_core topics start now history history text whole stands is) (last.puts told));
      done = last.done;
    }
