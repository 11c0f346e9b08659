-- What is due, and the asks behind it.
use Rattle.std.proofs.Common.{◌≡◌, ℕ, ◌++◌, List, [], map, Result, Ok, Err, refl, sym, ap, ◌∙◌, subst, append_assoc}
use Rattle.reply_fields.specs.Parts.{AskParts}
use Rattle.worker_turns.specs.Turns.{Steps}
use Rattle.worker_turns.specs.Acts.{Act, DiskView, Place, Acted, change_of}
use Rattle.worker_turns.specs.Turning.{AllTurnsDispatched}
use Rattle.worker_turns.specs.Checks.{HasLooked, look, ripe_of}
use Rattle.worker_turns.specs.Due.{acts_of_steps, AreDelayActs, AreCheckActs, AreDueTurns, HoldsDue, DueTurns, LooksFor, DueAsks}
use Rattle.worker_turns.specs.declared.broken.Broken.{Broken}
use Rattle.worker_turns.specs.declared.broken.Broken.TheVariants.{Memory}
use Rattle.worker_turns.proofs.ActLemmas.{acted_then, broke_behind}
use Rattle.worker_turns.proofs.CheckLemmas.{look_acts}

-- deliveries and checks, so many
pub record AreBoth (now delivered_count checked_count : ℕ) (held held_then : List (ℕ × AskParts)) (acts : List Act) : Type 0 where
  pub delays : List Act
  pub checks : List Act
  pub delivered : AreDelayActs now (Ok delivered_count) delays
  pub checked : AreCheckActs now held (Ok checked_count) held_then checks
  pub are_all : acts ≡ delays ++ checks

-- flush turns behind them
due_joined : {A : Type 0} (now delivered_count checked_count : ℕ) (held held_then : List (ℕ × AskParts)) (result : Result A Broken) (first later : List Act) → AreBoth now delivered_count checked_count held held_then first
    → AllTurnsDispatched result later → DueTurns now held result held_then (first ++ later)
due_joined now delivered_count checked_count held held_then (Ok done) first later both turned = (
  both.checked.asked,
  both.checked.holds,
  record {
    delivered_count = delivered_count;
    checked_count = checked_count;
    delays = both.delays;
    checks = both.checked.steps;
    turns = later;
    delivered = both.delivered;
    checked = both.checked.are;
    turned = turned;
    are_all = ap (λ (l : List Act). l ++ later) both.are_all ∙ append_assoc both.delays both.checks later
        ∙ ap (λ (l : List Act). both.delays ++ (l ++ later)) both.checked.acts_are;
  },
)
due_joined now delivered_count checked_count held held_then (Err fault) first later both broke = broke_behind fault first later broke

module _ {C D : Type 0} (makes : Steps C) (view : DiskView D) where
  pub due_acted : {A : Type 0} (now delivered_count checked_count : ℕ) (held held_then : List (ℕ × AskParts)) (result : Result A Broken) (w x y z : C) (p q : Place D)
      → Acted makes view (AreDelayActs now (Ok delivered_count)) (change_of w p x p) → Acted makes view (AreCheckActs now held (Ok checked_count) held_then) (change_of x p y p)
      → Acted makes view (AllTurnsDispatched result) (change_of y p z q) → Acted makes view (DueTurns now held result held_then) (change_of w p z q)
  due_acted now delivered_count checked_count held held_then result w x y z p q delays checks turns =
      acted_then makes view (AreBoth now delivered_count checked_count held held_then) (AllTurnsDispatched result) (DueTurns now held result held_then) w y z p p q
      (acted_then makes view (AreDelayActs now (Ok delivered_count)) (AreCheckActs now held (Ok checked_count) held_then) (AreBoth now delivered_count checked_count held held_then) w x y p p p delays checks
      (λ first later are more. record { delays = first; checks = later; delivered = are; checked = more; are_all = refl }))
      turns
      (λ first later both turned. due_joined now delivered_count checked_count held held_then result first later both turned)

  -- memory ran out at a check
  pub due_broke : (A : Type 0) (now : ℕ) (held held_then : List (ℕ × AskParts)) (P Q : List Act → Type 0) (x y z : C) (p q r : Place D) → Acted makes view P (change_of x p y q) → Acted makes view Q (change_of y q z r)
      → Acted makes view (DueTurns {A = A} now held (Err Memory) held_then) (change_of x p z r)
  due_broke A now held held_then P Q x y z p q r first later =
      acted_then makes view P Q (DueTurns {A = A} now held (Err Memory) held_then) x y z p q r first later (λ before behind is are. tt)

  -- looks for asks that were held
  pub looks_acted : {A : Type 0} (items : A → List AskParts) (asks : A) (held held_then : List (ℕ × AskParts)) (start : List AskParts) (x y : C) (p : Place D) → start ≡ []
      → HasLooked makes x held [] start y held_then (items asks) → Acted makes view (LooksFor held (Ok asks) items) (change_of x p y p)
  looks_acted items asks held held_then start x y p none it = record {
    acts = acts_of_steps (map look it.looks);
    kind = (it.looks, it.are, it.out_is ∙ ap (λ (l : List AskParts). l ++ ripe_of it.looks) none, refl);
    happened = look_acts makes view p it.looks x y it.made;
  }

  -- behind what is due
  asks_joined : {A : Type 0} (now : ℕ) (items : A → List AskParts) (result : Result A Broken) (start held : List (ℕ × AskParts)) (first later : List Act) → start ≡ [] → HoldsDue now start held first → LooksFor held result items later
      → DueAsks now result items (first ++ later)
  asks_joined now items (Ok asks) start held first later none due looks = record {
    looks = looks.0;
    due = first;
    turned = subst (λ (l : List (ℕ × AskParts)). AreDueTurns now l first) (ap (λ (l : List (ℕ × AskParts)). l ++ due.0) (sym none) ∙ sym due.1 ∙ looks.1) due.2;
    ripe = looks.2;
    are_all = ap (λ (l : List Act). first ++ l) looks.3;
  }
  asks_joined now items (Err fault) start held first later none due broke = broke_behind fault first later broke

  pub asks_acted : {A : Type 0} (now : ℕ) (items : A → List AskParts) (result : Result A Broken) (start held : List (ℕ × AskParts)) (x y z : C) (p q : Place D) → start ≡ []
      → Acted makes view (HoldsDue now start held) (change_of x p y q) → Acted makes view (LooksFor held result items) (change_of y q z q) → Acted makes view (DueAsks now result items) (change_of x p z q)
  asks_acted now items result start held x y z p q none due looks =
      acted_then makes view (HoldsDue now start held) (LooksFor held result items) (DueAsks now result items) x y z p q q due looks
      (λ first later are more. asks_joined now items result start held first later none are more)
