use Rattle.std.proofs.Common.{◌≡◌, ◌∙◌, ◌+◌, ◌-◌, ◌<◌, ◌≤◌, ap, sym, subst, arith, ℕ, List, [], ◌∷◌, drop}
use Rattle.record_codec.specs.Entry.{Entry}
use Rattle.log_model.specs.Admissible.{level_topic}
use Rattle.log_model.specs.Delays.{progress}
use Rattle.log_model.specs.Numbered.{queue_min, with_appended}
use Rattle.delay_view.proofs.GrowthLemmas.{get_there}
use Rattle.level_records.specs.Lines.{without_first}
use Rattle.level_records.specs.OfLog.{undelivered}
use Rattle.level_records.proofs.LineLemmas.{set_line, same_lines, copy_takes, copy_behind, copy_elsewhere, of_level, at_or_not}
use Rattle.level_records.proofs.levels.Levels.delivered.Goals as goal

pub returns-then-is_kept : goal.returns-then-is_kept
returns-then-is_kept c log d r are few is =
    let lines = c.args.self.now.waiting.items in
    let level = c.args.level in
    let k = level - 1 in
    let first = c.requires.low in
    let last = c.requires.high in
    let all = are.waiting.all in
    let line = get_there lines k (omega (arith, all, first, last)) in
    let here : progress log level ≡ progress log (k + 1) = ap (λ (n : ℕ). progress log n) (of_level level first) in
    let least = c.min.ensures.records log d are.view in
    let so_far = c.progress.ensures.records log d are.view in
    let kept = c.if-is_kept.true in
    let behind : queue_min log level_topic k ≤ progress log (k + 1) = omega (arith, kept, least, so_far, here) in
    let done = c.let_go.ensures.line line.0 line.1 in
    record {
      view = c.copied.ensures.records log d r are.view few is;
      waiting =
          set_line log (with_appended log (r ∷ [])) lines c.let_go.new.lines.items k (without_first line.0 done.0) are.waiting done.1
          (ap (λ (rs : List Entry). drop 1 rs) (are.waiting.each k line.0 line.1) ∙ sym (copy_takes log r level k is (of_level level first) behind))
          (λ j other. copy_elsewhere log r level j is (λ this. other (omega (arith, this))));
    }

pub returns-else-is_kept : goal.returns-else-is_kept
returns-else-is_kept c log d r are few is =
    let lines = c.args.self.now.waiting.items in
    let level = c.args.level in
    let k = level - 1 in
    let first = c.requires.low in
    let later = with_appended log (r ∷ []) in
    let here : progress log level ≡ progress log (k + 1) = ap (λ (n : ℕ). progress log n) (of_level level first) in
    let least = c.min.ensures.records log d are.view in
    let so_far = c.progress.ensures.records log d are.view in
    let kept = c.if-is_kept.false in
    let removed : progress log (k + 1) < queue_min log level_topic k = omega (arith, kept, least, so_far, here) in
    record {
      view = c.copied.ensures.records log d r are.view few is;
      waiting = same_lines log later lines are.waiting (λ j. at_or_not j k
          (λ this. subst (λ (n : ℕ). undelivered later n ≡ undelivered log n) (sym this) (copy_behind log r level k is (of_level level first) removed))
          (λ other. copy_elsewhere log r level j is (λ this. other (omega (arith, this)))));
    }
