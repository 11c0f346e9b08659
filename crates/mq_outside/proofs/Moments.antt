-- What holds at each moment of a run of calls: one call more, one run behind another, a run that only reads.
use Rattle.std.proofs.Common.{◌≡◌, ◌<◌, ◌≤◌, ℕ, ⊎_elim, refl, sym, subst, ◌∙◌, arith}
use Rattle.std.proofs.lemmas.Bool.{cases_lt}
use Rattle.mq_outside.specs.Files.{Files, Same}
use Rattle.mq_outside.specs.Disk.{DiskState, IsCrashImage, Moves, EachImage, Throughout, Rests}

-- a call that changes nothing
pub each_same : {old new : DiskState} {P : Files → Type 0} → Moves Same old new → EachImage P old → EachImage P new
each_same {P = P} moves each = record { at = λ files image. let from = moves.crash files image in subst P (sym from.2) (each.at from.0 from.1) }

-- a call whose step keeps P
pub each_step : {old new : DiskState} {step : Files → Files → Type 0} {P Q : Files → Type 0} → Moves step old new → ((before after : Files) → step before after → P before → Q after)
    → EachImage P old → EachImage Q new
each_step moves keeps each = record { at = λ files image. let from = moves.crash files image in keeps from.0 files from.2 (each.at from.0 from.1) }

-- before the first call
pub at_start : (disk : DiskState) (P : Files → Type 0) → EachImage P disk → Throughout disk disk P
at_start disk P here = record {
  later = omega arith;
  each = λ m files low high image. let same : m ≡ disk.moment = omega (arith, low, high) in
      here.at files (subst (λ (k : ℕ). disk.image_at k files) same image);
  past = λ m files low image. image;
  kept = λ m files low image. image;
}

-- one call more, after which each image has P
pub goes_on : {old mid new : DiskState} {step : Files → Files → Type 0} {P : Files → Type 0} → Throughout old mid P → Moves step mid new
    → EachImage P new → Throughout old new P
goes_on {mid = mid} {new = new} {P = P} so_far moves here = record {
  later = omega (arith, so_far.later, moves.later);
  each = λ m files low high image. ⊎_elim
      (λ (later : mid.moment < m).
      let same : m ≡ new.moment = omega (arith, later, high, moves.by_one) in
      here.at files (subst (λ (k : ℕ). new.image_at k files) same image))
      (λ (before : m ≤ mid.moment). so_far.each m files low before (moves.past m files before image))
      (cases_lt mid.moment m);
  past = λ m files low image. so_far.past m files low (moves.past m files (omega (arith, low, so_far.later)) image);
  kept = λ m files low image. moves.kept m files (omega (arith, low, so_far.later)) (so_far.kept m files low image);
}

-- what holds of each image of now
pub at_end : {old new : DiskState} {P : Files → Type 0} → Throughout old new P → EachImage P new
at_end {new = new} so_far = record { at = λ files image. so_far.each new.moment files so_far.later (omega arith) image }

pub weaker : {old new : DiskState} {P Q : Files → Type 0} → Throughout old new P → ((files : Files) → P files → Q files) → Throughout old new Q
weaker so_far gives = record {
  later = so_far.later;
  each = λ m files low high image. gives files (so_far.each m files low high image);
  past = so_far.past;
  kept = so_far.kept;
}

-- one run behind another
pub chained : {old mid new : DiskState} {P : Files → Type 0} → Throughout old mid P → Throughout mid new P → Throughout old new P
chained {mid = mid} first second = record {
  later = omega (arith, first.later, second.later);
  each = λ m files low high image. ⊎_elim
      (λ (later : mid.moment < m). second.each m files (omega (arith, later)) high image)
      (λ (before : m ≤ mid.moment). first.each m files low before (second.past m files before image))
      (cases_lt mid.moment m);
  past = λ m files low image. first.past m files low (second.past m files (omega (arith, low, first.later)) image);
  kept = λ m files low image. second.kept m files (omega (arith, low, first.later)) (first.kept m files low image);
}

-- nothing was asked yet
pub rests_start : (disk : DiskState) → Rests disk disk
rests_start disk = record { same = refl; quiet = at_start disk (IsCrashImage disk) (record { at = λ files image. image }) }

-- one call more that changes nothing
pub rests_call : {old mid new : DiskState} → Rests old mid → Moves Same mid new → Rests old new
rests_call so_far moves = record { same = moves.reads ∙ so_far.same; quiet = goes_on so_far.quiet moves (each_same moves (at_end so_far.quiet)) }

pub rests_then : {old mid new : DiskState} → Rests old mid → Rests mid new → Rests old new
rests_then first second = record {
  same = second.same ∙ first.same;
  quiet = chained first.quiet (weaker second.quiet (λ files image. (at_end first.quiet).at files image));
}

-- what held of each image goes on to hold
pub throughout_rests : {old new : DiskState} {P : Files → Type 0} → Rests old new → EachImage P old → Throughout old new P
throughout_rests rests each = weaker rests.quiet (λ files image. each.at files image)
