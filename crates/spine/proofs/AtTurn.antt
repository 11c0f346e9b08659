-- At its turn a pass with the key finds that the core shows what the history shows that it had seen. So what it could accept is accepted.
use Rattle.std.proofs.Common.{◌≡◌, List, Option, Some, sym, ap, ◌∙◌, subst}
use Rattle.broker_events.specs.declared.event.Event.{Event}
use Rattle.broker_events.specs.declared.event.Event.TheVariants.{Request, Take, Flushed, FlushFailed, Look, Dispatch, Deliver, Check, Leave}
use Rattle.broker_events.specs.declared.said.Said.{Said}
use Rattle.broker_events.specs.Steps.{IsKeyed}
use Rattle.broker_events.specs.Shown.{Shown, Accepts}
use Rattle.core_log.specs.Shows.{shown_of}
use Rattle.story_lock.specs.declared.chronicle.Chronicle.{Ghosts}
use Rattle.story_lock.specs.declared.story.Story.{Story}
use Rattle.story_lock.specs.declared.story.Pass.{Pass}
use Rattle.story_lock.specs.Passes.{Finds, IsPassOf, HasKey, start_of, seen_by, mine_of}
use Rattle.story_lock.proofs.Between.{none_between}
use Rattle.spine.specs.declared.shared.Shared.{Shared}
use Rattle.spine.specs.Entries.{is_keyed}
use Rattle.spine.specs.Stands.{Stands, shown_after}
use Rattle.spine.specs.Seen.{first_shown, shown_by, shown_more}

-- an event that isn't keyed is accepted whatever is shown
accepts : (shown now : Shown) (e : Event) → (IsKeyed e → now ≡ shown) → Accepts shown e → Accepts now e
accepts shown now (Request link host time request) same may = may
accepts shown now Take same may = tt
accepts shown now (Flushed receipt) same may = subst (λ (z : Shown). Accepts z (Flushed receipt)) (sym (same tt)) may
accepts shown now (FlushFailed count) same may = subst (λ (z : Shown). Accepts z (FlushFailed count)) (sym (same tt)) may
accepts shown now (Look number turn) same may = tt
accepts shown now (Dispatch most) same may = tt
accepts shown now (Deliver time) same may = may
accepts shown now (Check time) same may = may
accepts shown now (Leave link) same may = tt

module _ {chronicle : Ghosts Shared Event (Option Said)} where
  shown_at_turn : ((e : Event) (a : Option Said) → chronicle.keyed e a ≡ is_keyed e) → (story : Story Shared Event (Option Said)) (pass : Pass Shared Event (Option Said) chronicle) (history : List (Event × Option Said)) (now : Shared)
      → IsPassOf story pass → Finds story pass history now → Stands (start_of story).core history now.core → HasKey pass → shown_of now.core ≡ shown_by (Some pass)
  shown_at_turn keyed story pass history now of finds stands key =
      let start : Shown = shown_of (start_of story).core in
      let between = finds.begins.0 in
      let none = none_between chronicle.keyed (seen_by pass) between history (mine_of pass) finds.begins.1 finds.inside (finds.own_keyed key) in
      stands.shown ∙ (ap (λ h. shown_after start h) finds.begins.1 ∙ (shown_more chronicle.keyed keyed start (seen_by pass) between none ∙ ap (λ o. shown_after (first_shown o) (seen_by pass)) (sym of.1)))

  -- what may be given to the pass may be given to the core that it finds
  pub accepts_at_turn : ((e : Event) (a : Option Said) → chronicle.keyed e a ≡ is_keyed e) → (story : Story Shared Event (Option Said)) (pass : Pass Shared Event (Option Said) chronicle) (history : List (Event × Option Said)) (now : Shared) (e : Event)
      → IsPassOf story pass → Finds story pass history now → Stands (start_of story).core history now.core → (IsKeyed e → HasKey pass) → Accepts (shown_by (Some pass)) e → Accepts (shown_of now.core) e
  accepts_at_turn keyed story pass history now e of finds stands key may =
      accepts (shown_by (Some pass)) (shown_of now.core) e (λ is. shown_at_turn keyed story pass history now of finds stands (key is)) may
