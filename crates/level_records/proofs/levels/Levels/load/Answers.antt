use Rattle.std.proofs.Common.{◌≡◌, ◌∙◌, ap, sym, arith, false, List, ℕ, [], ◌∷◌}
use Rattle.std.specs.Str.{bytes_eq}
use Rattle.log_model.specs.Admissible.{level_topic}
use Rattle.log_model.specs.Kinds.{is_delayed}
use Rattle.log_model.specs.Numbered.{with_appended}
use Rattle.delay_view.proofs.GrowthLemmas.{other_appended}
use Rattle.level_records.proofs.LineLemmas.{same_lines, other_stays}
use Rattle.level_records.proofs.LoadLemmas.{follows, next_message}
use Rattle.level_records.proofs.levels.Levels.load.Goals as goal

pub returns-then-eq : goal.returns-then-eq
returns-then-eq c segment log are lawful =
    c.load_message.ensures log are
    (next_message segment log c.args.view.now lawful (ap (λ (t : List ℕ). bytes_eq t level_topic) (sym c.topic.ensures) ∙ sym c.eq.ensures ∙ c.if-eq.true))

pub returns-in-Some : goal.returns-in-Some
returns-in-Some c segment log are lawful =
    let r = c.args.view.now in
    let plain : is_delayed r ≡ false = ap (λ (t : List ℕ). bytes_eq t level_topic) (sym c.topic.ensures) ∙ sym c.eq.ensures ∙ c.if-eq.false in
    c.load_delivery.ensures log r are (c.in-Some.ensures.copy (follows segment log r lawful).admissible.delivery plain)

pub returns-in-None : goal.returns-in-None
returns-in-None c segment log are lawful =
    let r = c.args.view.now in
    let plain : is_delayed r ≡ false = ap (λ (t : List ℕ). bytes_eq t level_topic) (sym c.topic.ensures) ∙ sym c.eq.ensures ∙ c.if-eq.false in
    let other = c.in-None.ensures.other (follows segment log r lawful).admissible.delivery plain in
    record {
      view = other_appended log 0 r c.args.self.now.view are.view (omega arith) other;
      waiting = same_lines log (with_appended log (r ∷ [])) c.args.self.now.waiting.items are.waiting (λ j. other_stays log r j other);
    }
