-- The rule of a story's table: one history, which the state represents, and what each view says of it. And what each step does and tells.
use Rattle.std.specs.Prelude.{◌≡◌, ◌⊎◌, ℕ, ◌<◌, ◌≤◌, ◌^◌, Bool, true, cond, leb, Option, Some, None, IfSome}
use Rattle.std.specs.Prelude.{List, [], ◌∷◌, ◌++◌, length, slice_get}
use mathlib.Core.Option as maybe
use lib.ListN.{get_elem?}
use Rattle.atomic_table.specs.Table.{State, Me, Step}
use Rattle.atomic_table.specs.Seated.{TableId}
use Rattle.atomic_table.specs.declared.shared.Seat.{Seat}
use Rattle.story_lock.specs.declared.view.Opening.{Opening}
use Rattle.story_lock.specs.declared.view.View.{View}
use Rattle.story_lock.specs.declared.view.Stage.{Stage}
use Rattle.story_lock.specs.declared.view.Stage.TheVariants.{Idle, Waits, Served, Done}
use Rattle.story_lock.specs.Counts.{times, total, numbers_below, greatest, without, StartsWith, Once, IsDistinct}

-- the ticket that a pass has drawn
abbrev pub drawn : Stage → List ℕ
drawn Idle = []
drawn (Waits t) = t ∷ []
drawn (Served t) = t ∷ []
drawn (Done t) = t ∷ []

-- 1 where the state is out with the pass, else 0
abbrev pub has_state : Stage → ℕ
has_state Idle = 0
has_state (Waits t) = 0
has_state (Served t) = 1
has_state (Done t) = 1

-- the shorter of two lists, the first where they are of one length
abbrev pub shorter : {X : Type 0} → List X → List X → List X
shorter xs ys = cond (leb (length xs) (length ys)) xs ys

-- the other one
abbrev pub longer : {X : Type 0} → List X → List X → List X
longer xs ys = cond (leb (length xs) (length ys)) ys xs

-- a pass whose ticket is served has seen the whole history
abbrev pub IsAt : {X : Type 0} → List X → ℕ → List X → Stage → Type 0
IsAt log serving seen Idle = Unit {0}
IsAt log serving seen (Waits t) = Unit {0}
IsAt log serving seen (Served t) = (t ≡ serving) × (seen ≡ log)
IsAt log serving seen (Done t) = (t ≡ serving) × (seen ≡ log)

-- the same as a number, 0 where it has none
abbrev pub number : Stage → ℕ
number Idle = 0
number (Waits t) = t
number (Served t) = t
number (Done t) = t

-- a seat's view, and the slots that are out with it
abbrev Sat : Type 0 → Type 0 → Type 0 → Type 0
Sat S E A = Me (Option S) (View S E A)

module _ {S E A : Type 0} where
  -- the ticket of a view
  abbrev pub drawn_by : View S E A → List ℕ
  drawn_by v = drawn v.stage

  -- 1 where the state is out with it, else 0
  abbrev pub held_by : View S E A → ℕ
  held_by v = has_state v.stage

  -- the view has the seat number 0, which is the key
  abbrev pub HasKey : View S E A → Type 0
  HasKey v = 0 < times 0 v.numbers

  -- it has some seat number
  abbrev pub HasSeat : View S E A → Type 0
  HasSeat v = 0 < length v.numbers

  -- it has each seat number
  abbrev pub HasAllSeats : ℕ → View S E A → Type 0
  HasAllSeats seats v = (k : ℕ) → k < seats → 0 < times k v.numbers

  -- the view at another stage
  abbrev pub at_stage : View S E A → Stage → View S E A
  at_stage v stage = record v { stage = stage }

  -- its ticket is served, and it has seen the whole history
  abbrev pub served : View S E A → List (E × A) → ℕ → View S E A
  served v log t = record v { seen = log; stage = Served t }

  -- its entry is made
  abbrev pub after : View S E A → List (E × A) → ℕ → View S E A
  after v es t = record v { seen = v.seen ++ es; mine = v.mine ++ length v.seen ∷ []; stage = Done t }

  -- the view without its greatest seat number
  abbrev pub fewer : View S E A → View S E A
  fewer v = record v { numbers = without (greatest v.numbers) v.numbers }

  -- a new view that has seen as much, with these seat numbers
  abbrev pub newcomer : View S E A → List ℕ → View S E A
  newcomer v numbers = record v { shorter_seen = []; mine = []; numbers = numbers; stage = Idle }

  -- two views as one
  abbrev pub met : View S E A → View S E A → View S E A
  met v w =
      record v {
        seen = longer v.seen w.seen;
        shorter_seen = shorter v.seen w.seen;
        mine = v.mine ++ w.mine;
        numbers = v.numbers ++ w.numbers;
      }

  -- what is left of the second
  abbrev pub spent : View S E A
  spent = record { opened = None; seen = []; shorter_seen = []; mine = []; numbers = []; stage = Idle }

  -- the first view
  abbrev pub opening_view : S → ℕ → View S E A
  opening_view start seats =
      record { opened = Some (start, seats); seen = []; shorter_seen = []; mine = []; numbers = numbers_below seats; stage = Idle }

  module _ (represents : S → List (E × A) → S → Type 0) (keyed : E → A → Bool) (start : S) (seats : ℕ) where
    -- what a view says is so, where the history is this one and this ticket is served
    pub record Fits (log : List (E × A)) (serving : ℕ) (v : View S E A) : Type 0 where
      pub opened : IfSome v.opened (λ a. a ≡ (start, seats))
      pub seen : StartsWith log v.seen
      pub shorter_seen : StartsWith log v.shorter_seen
      pub shorter : length v.shorter_seen ≤ length v.seen
      pub inside : (k : ℕ) → 0 < times k v.mine → k < length v.seen
      pub seated : 0 < length v.mine → HasSeat v
      pub key : HasKey v → (k : ℕ) (e : E × A) → slice_get log k ≡ Some e → keyed e.0 e.1 ≡ true → 0 < times k v.mine
      pub stage : IsAt log serving v.seen v.stage

    -- the state is home and represents the history, or it is out with one pass
    abbrev pub IsPlaced : List (E × A) → maybe.Option (Option S) → List (View S E A) → Type 0
    IsPlaced log home views =
        ((x : S) × (home ≡ maybe.some (Some x)) × represents start log x × (total held_by views ≡ 0))
        ⊎ ((home ≡ maybe.none) × (total held_by views ≡ 1))

    -- the history, the next ticket, the ticket that is served, the slot and all views fit one another.
    -- Each ticket from the one served up to the next is drawn by one view, each seat number is in one, and each place of the
    -- history is in the `mine` of one
    pub record Kept (log : List (E × A)) (ticket serving : ℕ) (home : maybe.Option (Option S)) (views : List (View S E A)) : Type 0 where
      pub fits : ticket < 2 ^ 64
      pub order : serving ≤ ticket
      pub placed : IsPlaced log home views
      pub queue : Once (λ k. total (λ v. times k (drawn_by v)) views) serving ticket
      pub seats_once : Once (λ k. total (λ v. times k v.numbers) views) 0 seats
      pub mine_once : Once (λ k. total (λ v. times k v.mine) views) 0 (length log)
      pub each : (id : ℕ) (v : View S E A) → get_elem? views id ≡ maybe.some v → Fits log serving v

    -- the same of a table: word 0 is the next ticket, and word 1 the ticket that is served
    pub record Holds (s : State (Option S) (View S E A)) : Type 0 where
      pub log : List (E × A)
      pub ticket : ℕ
      pub serving : ℕ
      pub home : maybe.Option (Option S)
      pub words : s.words ≡ ticket ∷ serving ∷ []
      pub homes : s.homes ≡ home ∷ []
      pub kept : Kept log ticket serving home s.views

  -- a draw gives the pass the number that it expected where that was found, and else changes nothing
  abbrev pub draws : Step (Option S) → Sat S E A → ℕ → Sat S E A → Type 0
  draws st m r m' = (r ≡ st.first → m' ≡ (at_stage m.0 (Waits st.first), m.1)) × (¬ (r ≡ st.first) → m' ≡ m)

  -- what a pass learns when its ticket is served: the state, and the one history, which begins with all that it had seen
  abbrev pub Comes : (S → List (E × A) → S → Type 0) → (E → A → Bool) → ℕ → Sat S E A → Sat S E A → Type 0
  Comes represents keyed t m m' =
      (log : List (E × A)) × (x : S) × (m' ≡ (served m.0 log t, (0, Some x) ∷ m.1)) × StartsWith log m.0.seen
      × ((k : ℕ) → 0 < times k m.0.mine → k < length m.0.seen) × IsDistinct m.0.mine
      × IfSome m.0.opened (λ a.
      represents a.0 log x × (HasAllSeats a.1 m.0 → (m.0.seen ≡ log) × ((k : ℕ) → k < length log → 0 < times k m.0.mine)))
      × (HasKey m.0 → (k : ℕ) (e : E × A) → slice_get log k ≡ Some e → keyed e.0 e.1 ≡ true → 0 < times k m.0.mine)

  -- a look serves the pass where its ticket is found, and else changes nothing
  abbrev pub looks : (S → List (E × A) → S → Type 0) → (E → A → Bool) → Step (Option S) → Sat S E A → ℕ → Sat S E A → Type 0
  looks represents keyed st m r m' =
      (r ≡ number m.0.stage → Comes represents keyed (number m.0.stage) m m') × (¬ (r ≡ number m.0.stage) → m' ≡ m)

  -- a commit adds the entries to what was seen and to the pass's own
  abbrev pub commits : List (E × A) → Step (Option S) → Sat S E A → ℕ → Sat S E A → Type 0
  commits es st m r m' = m' ≡ (after m.0 es (number m.0.stage), m.1)

  -- passing on gives the state and the ticket back
  abbrev pub passes : Step (Option S) → Sat S E A → ℕ → Sat S E A → Type 0
  passes st m r m' = m' ≡ (at_stage m.0 Idle, [])

  -- settling changes nothing: the shorter of the histories that met begins the longer, and no place was both passes' own
  abbrev pub settles : Step (Option S) → Sat S E A → ℕ → Sat S E A → Type 0
  settles st m r m' = (m' ≡ m) × StartsWith m.0.seen m.0.shorter_seen × IsDistinct m.0.mine

  -- the seat is at the table with this identity, which was made with this opening
  abbrev pub IsSeatAt : TableId → Opening S → Seat (Option S) (View S E A) → Type 0
  IsSeatAt table opening seat = (seat.table_id ≡ table) × (seat.me.0.opened ≡ Some (opening.start.value, opening.seats))
