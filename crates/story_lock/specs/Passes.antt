-- What contracts say of a story and its passes: what a pass has seen and made, what it finds at its turn, and what a turn adds.
use Rattle.std.specs.Prelude.{◌≡◌, ℕ, ◌<◌, List, [], ◌∷◌, ◌++◌, length, slice_get, Some, Bool, true, false}
use Rattle.story_lock.specs.Counts.{times, StartsWith, IsDistinct}
use Rattle.story_lock.specs.Rule as rule
use Rattle.story_lock.specs.declared.chronicle.Chronicle.{Ghosts}
use Rattle.story_lock.specs.declared.story.Story.{Story}
use Rattle.story_lock.specs.declared.story.Pass.{Pass}
use Rattle.story_lock.specs.declared.story.Turn.{Turn}

-- none of these entries is keyed
abbrev pub NoneKeyed : {E A : Type 0} → (E → A → Bool) → List (E × A) → Type 0
NoneKeyed keyed [] = Unit {0}
NoneKeyed keyed (e ∷ es) = (keyed e.0 e.1 ≡ false) × NoneKeyed keyed es

module _ {S E A : Type 0} where
  -- the state at the opening
  abbrev pub start_of : Story S E A → S
  start_of story = story.board.shared.key.start.value

  -- the number of seats
  abbrev pub seats_of : Story S E A → ℕ
  seats_of story = story.board.shared.key.seats

  -- the history of the state that is out with the turn
  abbrev pub history_of : Turn S E A → List (E × A)
  history_of turn = turn.seat.me.0.seen

  -- the places of the entries that are the turn's pass's own
  abbrev pub turn_mine : Turn S E A → List ℕ
  turn_mine turn = turn.seat.me.0.mine

  -- the seat numbers of the turn's pass
  abbrev pub turn_numbers : Turn S E A → List ℕ
  turn_numbers turn = turn.seat.me.0.numbers

  -- the turn may make keyed entries
  abbrev pub TurnHasKey : Turn S E A → Type 0
  TurnHasKey turn = rule.HasKey turn.seat.me.0

module _ {S E A : Type 0} {chronicle : Ghosts S E A} where
  -- the history as far as the pass has seen it
  abbrev pub seen_by : Pass S E A chronicle → List (E × A)
  seen_by pass = pass.seat.me.0.seen

  -- the places of the pass's own entries in the history
  abbrev pub mine_of : Pass S E A chronicle → List ℕ
  mine_of pass = pass.seat.me.0.mine

  -- the seat numbers of the pass
  abbrev pub numbers_of : Pass S E A chronicle → List ℕ
  numbers_of pass = pass.seat.me.0.numbers

  -- it is a pass of this story
  abbrev pub IsPassOf : Story S E A → Pass S E A chronicle → Type 0
  IsPassOf story pass = rule.IsSeatAt story.board.shared.table_id story.board.shared.key pass.seat

  -- it has some seat number, and may make entries
  abbrev pub HasSeat : Pass S E A chronicle → Type 0
  HasSeat pass = rule.HasSeat pass.seat.me.0

  -- it has the seat number 0, and may make keyed entries
  abbrev pub HasKey : Pass S E A chronicle → Type 0
  HasKey pass = rule.HasKey pass.seat.me.0

  -- it has each seat number of the story
  abbrev pub HasAllSeats : Story S E A → Pass S E A chronicle → Type 0
  HasAllSeats story pass = rule.HasAllSeats (seats_of story) pass.seat.me.0

  -- both are of one story, and have the same seat numbers
  abbrev pub IsSamePass : Pass S E A chronicle → Pass S E A chronicle → Type 0
  IsSamePass old new =
      (new.seat.table_id ≡ old.seat.table_id) × (new.seat.me.0.opened ≡ old.seat.me.0.opened) × (numbers_of new ≡ numbers_of old)

  -- the turn is of the pass's story, and has its entries and seat numbers
  abbrev pub IsTurnOf : Pass S E A chronicle → Turn S E A → Type 0
  IsTurnOf pass turn =
      (turn.seat.table_id ≡ pass.seat.table_id) × (turn.seat.me.0.opened ≡ pass.seat.me.0.opened)
      × (turn_mine turn ≡ mine_of pass) × (turn_numbers turn ≡ numbers_of pass)

  -- what a pass finds when the state is out with it: the one history, and the state that represents it
  pub record Finds (story : Story S E A) (pass : Pass S E A chronicle) (history : List (E × A)) (state : S) : Type 0 where
    pub represented : chronicle.represents (start_of story) history state
    pub begins : StartsWith history (seen_by pass)
    pub inside : (k : ℕ) → 0 < times k (mine_of pass) → k < length (seen_by pass)
    pub distinct : IsDistinct (mine_of pass)
    -- a pass with each seat number has seen it all, and made it all
    pub whole : HasAllSeats story pass → (seen_by pass ≡ history) × ((k : ℕ) → k < length history → 0 < times k (mine_of pass))
    -- a pass with the key has made each keyed entry
    pub own_keyed :
        HasKey pass → (k : ℕ) (e : E × A) → slice_get history k ≡ Some e → chronicle.keyed e.0 e.1 ≡ true → 0 < times k (mine_of pass)

  -- one entry of its own was added to all that the pass had seen and to what others added meanwhile
  pub record Adds (old : Pass S E A chronicle) (event : E) (said : A) (new : Pass S E A chronicle) : Type 0 where
    pub between : List (E × A)
    pub seen : seen_by new ≡ (seen_by old ++ between) ++ (event, said) ∷ []
    pub mine : mine_of new ≡ mine_of old ++ length (seen_by old ++ between) ∷ []
    pub same : IsSamePass old new
    -- while a pass has the key, nobody else makes a keyed entry
    pub unkeyed : HasKey old → NoneKeyed chronicle.keyed between
