-- What the history that a pass has seen shows. The key stays with the pass, and who has it sees each keyed entry, since it is its own.
use Rattle.std.specs.Prelude.{◌≡◌, ℕ, ◌<◌, List, [], ◌∷◌, ◌++◌, Bool, false, Option, Some, None, IfSome}
use Rattle.std.proofs.Common.{refl, sym, ap, ◌∙◌, subst}
use Rattle.broker_events.specs.declared.event.Event.{Event}
use Rattle.broker_events.specs.declared.event.Event.TheVariants.{Request, Take, Flushed, FlushFailed, Look, Dispatch, Deliver, Check, Leave}
use Rattle.broker_events.specs.declared.said.Said.{Said}
use Rattle.broker_events.specs.Shown.{Shown, moved}
use Rattle.core_log.specs.Shows.{shown_of}
use Rattle.story_lock.specs.declared.chronicle.Chronicle.{Ghosts}
use Rattle.story_lock.specs.declared.story.Pass.{Pass}
use Rattle.story_lock.specs.Counts.{times}
use Rattle.story_lock.specs.Owned.{StepsBy}
use Rattle.story_lock.specs.Passes.{NoneKeyed, HasKey, seen_by}
use Rattle.spine.specs.declared.shared.Shared.{Shared}
use Rattle.spine.specs.Entries.{is_keyed}
use Rattle.spine.specs.Stands.{shown_after}

-- what the core showed at the opening; nothing where the opening isn't known, as after a join
abbrev pub first_shown : Option (Shared × ℕ) → Shown
first_shown None = record { flushed = 0; end = 0; out = None }
first_shown (Some opened) = shown_of opened.0.core

-- what the history that the pass has seen shows
abbrev pub shown_by : {chronicle : Ghosts Shared Event (Option Said)} → Option (Pass Shared Event (Option Said) chronicle) → Shown
shown_by None = first_shown None
shown_by (Some pass) = shown_after (first_shown pass.seat.me.0.opened) (seen_by pass)

-- a history shows what its second part shows after the first
pub shown_append : (shown : Shown) (xs ys : List (Event × Option Said)) → shown_after shown (xs ++ ys)
    ≡ shown_after (shown_after shown xs) ys
shown_append shown [] ys = refl
shown_append shown (x ∷ xs) ys = shown_append (moved shown x.0 x.1) xs ys

-- one entry that isn't keyed
unmoved_by : (shown : Shown) (event : Event) (what : Option Said) → is_keyed event ≡ false → moved shown event what ≡ shown
unmoved_by shown (Request link host now request) what un = refl
unmoved_by shown Take what un = absurd (cc)
unmoved_by shown (Flushed receipt) what un = absurd (cc)
unmoved_by shown (FlushFailed count) what un = absurd (cc)
unmoved_by shown (Look number turn) what un = refl
unmoved_by shown (Dispatch most) what un = refl
unmoved_by shown (Deliver now) what un = refl
unmoved_by shown (Check now) what un = refl
unmoved_by shown (Leave link) what un = refl

pub unmoved : (keyed : Event → Option Said → Bool) → ((e : Event) (a : Option Said) → keyed e a ≡ is_keyed e)
    → (shown : Shown) (xs : List (Event × Option Said)) → NoneKeyed keyed xs → shown_after shown xs ≡ shown
unmoved keyed same shown [] none = refl
unmoved keyed same shown (x ∷ xs) none = ap (λ (z : Shown). shown_after z xs) (unmoved_by shown x.0 x.1 (sym (same x.0 x.1) ∙ none.0))
    ∙ unmoved keyed same shown xs none.1

-- one more entry, after some that aren't keyed
pub shown_more : (keyed : Event → Option Said → Bool) → ((e : Event) (a : Option Said) → keyed e a ≡ is_keyed e)
    → (shown : Shown) (seen between : List (Event × Option Said)) → NoneKeyed keyed between
    → shown_after shown (seen ++ between) ≡ shown_after shown seen
shown_more keyed same shown seen between none = shown_append shown seen between ∙ unmoved keyed same (shown_after shown seen) between none

-- one step of who has a pass
module _ {chronicle : Ghosts Shared Event (Option Said)} (x y : Option (Pass Shared Event (Option Said) chronicle))
    (event : Event) (what : Option Said) (step : StepsBy (λ pass. pass) x event what y) where
  pub key_kept : IfSome x (λ r. HasKey r) → IfSome y (λ r. HasKey r)
  key_kept key =
      subst (λ o. IfSome o (λ r. HasKey r)) (sym step.3) (subst (λ (ns : List ℕ). 0 < times 0 ns) (sym step.4.same.2)
      (subst (λ o. IfSome o (λ r. HasKey r)) step.2 key))

  pub shown_moved : IfSome x (λ r. HasKey r) → ((e : Event) (a : Option Said) → chronicle.keyed e a ≡ is_keyed e)
      → shown_by y ≡ moved (shown_by x) event what
  shown_moved key keyed =
      let p = step.0 in
      let q = step.1 in
      let adds = step.4 in
      let has : HasKey p = subst (λ o. IfSome o (λ r. HasKey r)) step.2 key in
      let first : Shown = first_shown p.seat.me.0.opened in
      let ends : shown_by (Some q) ≡ shown_after first ((seen_by p ++ adds.between) ++ (event, what)
      ∷ []) = (λ i. shown_after (first_shown (adds.same.1 i)) (adds.seen i)) in
      let more : shown_after first ((seen_by p ++ adds.between) ++ (event, what) ∷ []) ≡ moved (shown_by (Some p)) event what =
      shown_append first (seen_by p ++ adds.between) ((event, what) ∷ [])
      ∙ ap (λ (z : Shown). moved z event what) (shown_more chronicle.keyed keyed first (seen_by p) adds.between (adds.unkeyed has)) in
      ap (λ o. shown_by o) step.3 ∙ (ends ∙ (more ∙ ap (λ o. moved (shown_by o) event what) (sym step.2)))
