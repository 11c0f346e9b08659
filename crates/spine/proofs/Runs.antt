-- A run along a history goes on by one step of the core.
use Rattle.std.proofs.Common.{List, [], ◌∷◌, ◌++◌, Option, refl, sym, ap, ◌∙◌, subst}
use Rattle.broker_model.specs.State.{State}
use Rattle.broker_events.specs.declared.event.Event.{Event}
use Rattle.broker_events.specs.declared.said.Said.{Said}
use Rattle.broker_events.specs.Shown.{Shown, moved}
use Rattle.core_log.specs.declared.parts.Parts.{Parts}
use Rattle.broker_core.specs.Makes.{MakesStep}
use Rattle.core_log.specs.Shows.{shown_of}
use Rattle.spine.specs.Stands.{StepsAlong, Along, Stands}
use Rattle.spine.specs.Seen.{shown_append}

along_snoc : (s : State) (history : List (Event × Option Said)) (m t : State) (event : Event) (what : Option Said) → Along s history m → StepsAlong m event what t → Along s (history ++ (event, what) ∷ []) t
along_snoc s [] m t event what run step = subst (λ (x : State). Along x ((event, what) ∷ []) t) (sym run) (t, step, refl)
along_snoc s (e ∷ es) m t event what run step = (run.0, run.1, along_snoc run.0 es m t event what run.2 step)

-- the core at the opening stands for no entries
pub stands_none : (start : Parts) → Stands start [] start
stands_none start = record { runs = λ s are. (s, refl, are); shown = refl }

-- and a step of the core is one entry more
pub stands_snoc : (start mid now : Parts) (history : List (Event × Option Said)) (event : Event) (what : Option Said) → Stands start history mid → MakesStep mid event what now → Stands start (history ++ (event, what) ∷ []) now
stands_snoc start mid now history event what stands step = record {
  runs = λ s are. let run = stands.runs s are in
      let made = step.step run.0 run.2 in
      (made.reached, along_snoc s history run.0 made.reached event what run.1 (record { answer = made.answer; says = made.says; step = made.step }), made.represents);
  shown = step.shown ∙ (ap (λ (z : Shown). moved z event what) stands.shown ∙ sym (shown_append (shown_of start) history ((event, what) ∷ [])));
}
