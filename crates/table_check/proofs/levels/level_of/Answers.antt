use Rattle.std.proofs.Common.{◌≡◌, ◌∙◌, ap, sym, false, List, ℕ, Option, Some, None}
use Rattle.std.specs.Prelude.{IsNone, IfNone}
use Rattle.std.specs.Str.{bytes_eq}
use Rattle.log_model.specs.Admissible.{level_topic}
use Rattle.log_model.specs.Kinds.{is_delayed}
use Rattle.delay_view.specs.OfLog.{IsOther}
use Rattle.table_check.proofs.LevelLemmas.{delayed_delivers_none}
use Rattle.table_check.proofs.LogLemmas.{follows}
use Rattle.table_check.proofs.levels.level_of.Goals as goal

if_none : {A : Type 0} (o : Option A) (P : Type 0) → IsNone o → IfNone o P → P
if_none None P none it = it
if_none (Some x) P none it = cc none

pub returns-then-eq-clause-none : goal.returns-then-eq-clause-none
returns-then-eq-clause-none c = λ segment log lawful none.
    delayed_delivers_none segment log c.args.view.now lawful (ap (λ (t : List ℕ). bytes_eq t level_topic) (sym c.topic.ensures) ∙ sym c.eq.ensures ∙ c.if-eq.true)

pub returns-clause-copy : goal.returns-clause-copy
returns-clause-copy c = λ segment log lawful.
    let plain : is_delayed c.args.view.now ≡ false = ap (λ (t : List ℕ). bytes_eq t level_topic) (sym c.topic.ensures) ∙ sym c.eq.ensures ∙ c.if-eq.false in
    c.delivered_level.ensures.copy (follows segment log c.args.view.now lawful).admissible.delivery plain

pub returns-clause-none : goal.returns-clause-none
returns-clause-none c = λ segment log lawful none.
    let plain : is_delayed c.args.view.now ≡ false = ap (λ (t : List ℕ). bytes_eq t level_topic) (sym c.topic.ensures) ∙ sym c.eq.ensures ∙ c.if-eq.false in
    (if_none c.delivered_level.result (IsOther c.args.view.now) none (c.delivered_level.ensures.other (follows segment log c.args.view.now lawful).admissible.delivery plain)).none
