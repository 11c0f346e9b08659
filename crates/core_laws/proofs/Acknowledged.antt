-- What was acknowledged stays.
use Rattle.std.proofs.Common.{◌≡◌, inl, inr, refl, sym, ◌∙◌, subst, arith, ◌<◌, ◌≤◌, ℕ, List, [], ◌∷◌, Bool, Some, cond}
use Rattle.std.specs.Prelude.{nat_lt, filter}
use Rattle.std.proofs.lemmas.Bool.{cases_Bool, ltb-true}
use Rattle.record_codec.specs.Entry.{Entry}
use Rattle.log_model.specs.Numbered.{count_of}
use Rattle.broker_model.specs.State.{State, FailedTurn}
use Rattle.broker_model.specs.Events
use Rattle.broker_model.specs.Appended.{is_refused, drafts_of}
use Rattle.broker_model.specs.Answers.{answer_of, carried_out_answer, looked, last_count, holds_up}
use Rattle.broker_model.specs.Step.{Step}
use Rattle.broker_model.specs.Run.{Boot, Move, Steps, Anything, IsOpening}
use Rattle.broker_model.specs.Acknowledged.{AnswersAfter, StandsAt, StandsOrRemoved}
use Rattle.core_laws.specs.Sound.{IsSoundBoot, Keeps}
use Rattle.core_laws.proofs.Growth.{grows_at}
use Rattle.core_laws.proofs.Runs.{goes_good, run_good, boot_grows, opening_sound}

-- ---- looks

not_flushed : (turns : List FailedTurn) → last_count turns ≡ Events.IsFlushed → ⊥
not_flushed [] is = cc
not_flushed (f ∷ []) is = cc
not_flushed (f ∷ g ∷ turns) is = not_flushed (g ∷ turns) is

look_flushed : (s : State) (number turn : ℕ) → Events.IsFlushed ≡ looked s number turn → number < s.flushed
look_flushed s number turn is = elim (cases_Bool (nat_lt number s.flushed)) [
  | inl low ↦ ltb-true number s.flushed low
  | inr high ↦ absurd (not_flushed (filter (holds_up number turn) s.failed)
      (sym (subst (λ (b : Bool). Events.IsFlushed ≡ cond b Events.IsFlushed (last_count (filter (holds_up number turn) s.failed))) high is)))
]

look_answer : (s : State) (number turn : ℕ) → answer_of s (Events.Look number turn) ≡ Events.Looked (looked s number turn)
unfolding answer_of is_refused drafts_of carried_out_answer
look_answer s number turn = refl

same_awaited : (a b : Events.Awaited) → Events.Looked a ≡ Events.Looked b → a ≡ b
same_awaited a b is = cc

-- a look finds only those records on the disk that are there
pub step_flushed : (s t : State) (number turn : ℕ) → Step s (Events.Look number turn) (Some (Events.Looked Events.IsFlushed)) t → number < s.flushed
step_flushed s t number turn step =
    look_flushed s number turn (same_awaited Events.IsFlushed (looked s number turn) (step.1 ∙ look_answer s number turn))

-- ---- the boots of an answer

-- the boots at the cuts of the run are sound
pub record AnswerIsSound (b : Boot) (moves : List Move) (c : Boot) (e : Events.Event) (reply : Events.Reply) (number : ℕ)
    (h : AnswersAfter b moves c e reply number) : Type 0 where
  pub asked : IsSoundBoot h.asked
  pub heard : IsSoundBoot h.heard
  pub looked : IsSoundBoot h.looked
  pub answered : IsSoundBoot h.answered
  pub last : IsSoundBoot c
  pub at_look : Keeps h.looked.now h.answered.now
  pub behind : Keeps h.answered.now c.now
  pub told : number < h.looked.now.flushed

pub answer_sound : (b : Boot) (moves : List Move) (c : Boot) (e : Events.Event) (reply : Events.Reply) (number : ℕ) → IsOpening b
    → (h : AnswersAfter b moves c e reply number) → AnswerIsSound b moves c e reply number h
answer_sound b moves c e reply number opening h =
    let first = run_good Anything b h.before h.asked (opening_sound b opening) h.first in
    let asks = goes_good h.asked (Steps e (Some (Events.After reply number h.turn))) h.heard first.0 h.asks in
    let waits = run_good Anything h.heard h.waiting h.looked asks.0 h.waits in
    let looks = goes_good h.looked (Steps (Events.Look number h.turn) (Some (Events.Looked Events.IsFlushed))) h.answered waits.0 h.looks in
    let rest = run_good Anything h.answered h.later c looks.0 h.rest in
    record {
      asked = first.0;
      heard = asks.0;
      looked = waits.0;
      answered = looks.0;
      last = rest.0;
      at_look = looks.1;
      behind = rest.1;
      told = step_flushed h.looked.now h.answered.now number h.turn h.looks.0;
    }

-- ---- the law

-- up to the number that was answered, what stood when the answer was heard stays
pub answered_stays : (b : Boot) (moves : List Move) (c : Boot) (e : Events.Event) (reply : Events.Reply) (number : ℕ) → IsOpening b
    → (h : AnswersAfter b moves c e reply number) → (n : ℕ) (r : Entry) → n ≤ number → StandsAt h.heard.now n r
    → (n < h.answered.now.flushed) × (n < c.now.flushed) × (n < count_of c.now.log) × StandsOrRemoved c.now n r
answered_stays b moves c e reply number opening h n r high stands =
    let all = answer_sound b moves c e reply number opening h in
    let low : n < h.looked.now.flushed = omega (arith, all.told, high) in
    let there = grows_at h.heard.now h.looked.now (boot_grows Anything h.heard h.waiting h.looked all.heard h.boot h.waits) n r (inr stands) in
    let here = all.at_look.stays n r low there in
    let now : n < h.answered.now.flushed = omega (arith, low, all.at_look.flushed) in
    let last : n < c.now.flushed = omega (arith, now, all.behind.flushed) in
    (now, last, omega (arith, last, all.last.state.flushed), all.behind.stays n r now here)
