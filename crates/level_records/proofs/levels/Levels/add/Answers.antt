use Rattle.std.proofs.Common.{◌≡◌, ◌∙◌, ◌+◌, ◌-◌, ◌≤◌, ◌<◌, ap, sym, subst, arith, refl, ℕ, List, [], ◌∷◌, ◌++◌}
use Rattle.record_codec.specs.Entry.{Entry}
use Rattle.log_model.specs.Delays.{progress}
use Rattle.log_model.specs.Numbered.{with_appended}
use Rattle.delay_view.specs.OfLog.{delivery_time}
use Rattle.delay_view.proofs.GrowthLemmas.{get_there}
use Rattle.level_records.specs.Lines.{with_message}
use Rattle.level_records.specs.OfLog.{undelivered}
use Rattle.level_records.proofs.LineLemmas.{set_line, same_lines, message_waits, message_was, message_elsewhere, message_progress, of_level, delay_low, at_or_not}
use Rattle.level_records.proofs.levels.Levels.add.Goals as goal

pub overflow_add-store : goal.overflow_add-store
overflow_add-store c = (let low = c.requires.store in let short = delay_low c.args.level in let is = c.level_delay.ensures in omega (arith, low, short, is))

pub returns-then-number-progress : goal.returns-then-number-progress
returns-then-number-progress c log d are few is next store =
    let lines = c.args.self.now.waiting.items in
    let level = c.args.level in
    let k = level - 1 in
    let first = c.requires.low in
    let last = c.requires.high in
    let all = are.waiting.all in
    let w : Entry = c.args.whole in
    let later = with_appended log (w ∷ []) in
    let time : c.args.store + c.level_delay.result ≡ delivery_time level w = ap (λ (n : ℕ). n + c.level_delay.result) store ∙ ap (λ (n : ℕ). w.store + n) c.level_delay.ensures in
    let view = c.add.ensures.records log d w are.view few is time in
    let so_far : c.progress.result ≡ progress log level = c.progress.ensures.records later d view ∙ message_progress log w level level is in
    let here : progress log level ≡ progress log (k + 1) = ap (λ (n : ℕ). progress log n) (of_level level first) in
    let ahead : progress log (k + 1) ≤ c.args.number = (let passes = c.if-number-progress.true in omega (arith, passes, so_far, here)) in
    let line = get_there lines k (omega (arith, all, first, last)) in
    let done = c.put.ensures.line line.0 line.1 in
    record {
      view = view;
      waiting =
          set_line log later lines c.put.new.lines.items k (with_message line.0 w done.0) are.waiting done.1
          (ap (λ (rs : List Entry). rs ++ w ∷ []) (are.waiting.each k line.0 line.1) ∙ sym (message_waits log w level k c.args.number is refl next ahead))
          (λ j other. message_elsewhere log w level j is other);
    }

pub returns-else-number-progress : goal.returns-else-number-progress
returns-else-number-progress c log d are few is next store =
    let lines = c.args.self.now.waiting.items in
    let level = c.args.level in
    let k = level - 1 in
    let first = c.requires.low in
    let last = c.requires.high in
    let all = are.waiting.all in
    let w : Entry = c.args.whole in
    let later = with_appended log (w ∷ []) in
    let time : c.args.store + c.level_delay.result ≡ delivery_time level w = ap (λ (n : ℕ). n + c.level_delay.result) store ∙ ap (λ (n : ℕ). w.store + n) c.level_delay.ensures in
    let view = c.add.ensures.records log d w are.view few is time in
    let so_far : c.progress.result ≡ progress log level = c.progress.ensures.records later d view ∙ message_progress log w level level is in
    let here : progress log level ≡ progress log (k + 1) = ap (λ (n : ℕ). progress log n) (of_level level first) in
    let behind : c.args.number < progress log (k + 1) = (let fails = c.if-number-progress.false in omega (arith, fails, so_far, here)) in
    record {
      view = view;
      waiting = same_lines log later lines are.waiting (λ j. at_or_not j k
          (λ this. subst (λ (n : ℕ). undelivered later n ≡ undelivered log n) (sym this) (message_was log w level k c.args.number is refl next behind))
          (λ other. message_elsewhere log w level j is other));
    }
