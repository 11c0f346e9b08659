-- Flush turns in their order: how many records they flushed, and by when.
use Rattle.std.proofs.Common.{◌≡◌, ℕ, ◌+◌, ◌≤◌, nat_le, Bool, true, false, cond, List, [], ◌∷◌, ◌++◌, length, take, sym, subst, arith}
use Rattle.std.proofs.lemmas.List.{take-append-le}
use Rattle.std.proofs.lemmas.List.Sums.{sum_by-cons, sum_by-append}
use Rattle.mq_outside.specs.Disk.{DiskState}
use Rattle.mq_outside.specs.Files.{Files}
use Rattle.record_codec.specs.Entry.{Entry}
use Rattle.log_model.specs.Bases.{Geometry}
use Rattle.log_model.specs.Segments.{AreSegmentFiles}
use Rattle.log_model.specs.Stored.{FlushTurn, Continues, turned_by, turned_in}
use Rattle.flush_story.specs.Keeping.{AreInOrder, AreExact}

-- ---- how many

cond_most : (b : Bool) (n : ℕ) → cond b n 0 ≤ n
cond_most true n = omega arith
cond_most false n = omega arith

turned_cons : (turn : FlushTurn) (turns : List FlushTurn) → turned_in (turn ∷ turns) ≡ turn.count + turned_in turns
turned_cons turn turns = sum_by-cons (λ (t : FlushTurn). t.count) turn turns

-- by any moment at most all of them
pub turned_most : (turns : List FlushTurn) (m : ℕ) → turned_by turns m ≤ turned_in turns
turned_most [] m = omega arith
turned_most (turn ∷ turns) m = omega (
  arith,
  sum_by-cons (λ (t : FlushTurn). cond (nat_le t.moment m) t.count 0) turn turns,
  turned_cons turn turns,
  turned_most turns m,
  cond_most (nat_le turn.moment m) turn.count,
)

pub turned_push : (turns : List FlushTurn) (turn : FlushTurn) → turned_in (turns ++ turn ∷ []) ≡ turned_in turns + turn.count
turned_push turns turn = omega (arith, sum_by-append (λ (t : FlushTurn). t.count) turns (turn ∷ []))

-- ---- in which order

pub order_on : (low mid high : ℕ) (turns : List FlushTurn) → mid ≤ high → AreInOrder low turns mid → AreInOrder low turns high
order_on low mid high [] later order = omega (arith, later, order)
order_on low mid high (turn ∷ turns) later order = (order.0, order_on turn.moment mid high turns later order.1)

pub order_push : (low mid : ℕ) (turns : List FlushTurn) (turn : FlushTurn) → mid ≤ turn.moment → AreInOrder low turns mid → AreInOrder low (turns ++ turn ∷ []) turn.moment
order_push low mid [] turn later order = (omega (arith, later, order), omega arith)
order_push low mid (t ∷ turns) turn later order = (order.0, order_push t.moment mid turns turn later order.1)

order_whole : (low high : ℕ) (turns : List FlushTurn) → AreInOrder low turns high → low ≤ high
order_whole low high [] order = order
order_whole low high (turn ∷ turns) order = omega (arith, order.0, order_whole turn.moment high turns order.1)

-- ---- exactly these files

-- of a longer log
pub exact_more : (S : Geometry) (log more : List Entry) (before : ℕ) (turns : List FlushTurn) (disk : DiskState) → before + turned_in turns ≤ length log
    → AreExact S log before turns disk → AreExact S (log ++ more) before turns disk
exact_more S log more before [] disk within exact = tt
exact_more S log more before (turn ∷ turns) disk within exact =
    let total = turned_cons turn turns in
    let front : take (before + turn.count) (log ++ more) ≡ take (before + turn.count) log = take-append-le (before + turn.count) log more (omega (arith, within, total)) in (
      λ files image. subst (λ (l : List Entry). AreSegmentFiles S l files) (sym front) (exact.0 files image),
      exact_more S log more (before + turn.count) turns disk (omega (arith, within, total)) exact.1,
    )

-- later
pub exact_later : (S : Geometry) (log : List Entry) (before low : ℕ) (turns : List FlushTurn) (old new : DiskState) → Continues old new → AreInOrder low turns old.moment
    → AreExact S log before turns old → AreExact S log before turns new
exact_later S log before low [] old new continues order exact = tt
exact_later S log before low (turn ∷ turns) old new continues order exact = (
  λ files image. exact.0 files (continues.past turn.moment files (order_whole turn.moment old.moment turns order.1) image),
  exact_later S log (before + turn.count) turn.moment turns old new continues order.1 exact.1,
)

-- with one turn more
pub exact_push : (S : Geometry) (log : List Entry) (before : ℕ) (turns : List FlushTurn) (turn : FlushTurn) (disk : DiskState) → AreExact S log before turns disk
    → ((files : Files) → disk.image_at turn.moment files → AreSegmentFiles S (take (before + turned_in turns + turn.count) log) files) → AreExact S log before (turns ++ turn ∷ []) disk
exact_push S log before [] turn disk exact last =
    let same : before + turned_in [] + turn.count ≡ before + turn.count = omega arith in
    (λ files image. subst (λ (n : ℕ). AreSegmentFiles S (take n log) files) same (last files image), tt)
exact_push S log before (t ∷ turns) turn disk exact last =
    let same : before + turned_in (t ∷ turns) + turn.count ≡ before + t.count + turned_in turns + turn.count = omega (arith, turned_cons t turns) in (
      exact.0,
      exact_push S log (before + t.count) turns turn disk exact.1 (λ files image. subst (λ (n : ℕ). AreSegmentFiles S (take n log) files) same (last files image)),
    )
