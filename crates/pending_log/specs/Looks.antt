-- What has become of a record, by all flush turns that failed.
use Rattle.std.specs.Prelude.{◌≡◌, ℕ, ◌≤◌, ◌&&◌, nat_lt, nat_le, List, [], ◌∷◌, filter, All, Bool, if◌then◌else◌, Option, Some, None}
use Rattle.std.specs.List.{AllPairs}
use Rattle.pending_log.specs.declared.turn.FailedTurn.{FailedTurn}
use Rattle.pending_log.specs.declared.turn.Look.{Look}
use Rattle.pending_log.specs.declared.turn.Look.TheVariants.{Flushed, Failed, NotYet}

-- a flush turn that failed: its number, the first record that it held up, the number after the last, and the disk's count
pub record Turn : Type 0 where
  pub turn : ℕ
  pub from : ℕ
  pub held : ℕ
  pub count : ℕ

-- a turn after this one that held up the record
abbrev pub holds_up : ℕ → ℕ → Turn → Bool
holds_up number turn t = nat_lt turn t.turn && nat_le t.from number && nat_lt number t.held

-- the count of the last of these turns
abbrev pub last_count : {T : Type 0} → (T → Turn) → List T → Look
last_count facts [] = NotYet
last_count facts (t ∷ []) = Failed (facts t).count
last_count facts (t ∷ u ∷ turns) = last_count facts (u ∷ turns)

-- A record below the flushed number is flushed. Else it has failed with the last turn after this one that held it up.
abbrev pub looked : {T : Type 0} → (T → Turn) → ℕ → List T → ℕ → ℕ → Look
looked facts flushed turns number turn =
    if nat_lt number flushed then Flushed else last_count facts (filter (λ t. holds_up number turn (facts t)) turns)

-- the failed turns stand in order: none begins past the flushed number, and a later one has no lower number and holds up no fewer
pub record AreInOrder {T : Type 0} (facts : T → Turn) (flushed : ℕ) (turns : List T) : Type 0 where
  pub from : All (λ t. (facts t).from ≤ flushed) turns
  pub later : AllPairs (λ t u. ((facts t).held ≤ (facts u).held) × ((facts t).turn ≤ (facts u).turn)) turns

-- the kept turn is the last of these, if there is one
abbrev pub KeepsLast : {T : Type 0} → (T → Turn) → List T → Option FailedTurn → Type 0
KeepsLast facts [] kept = kept ≡ None
KeepsLast facts (t ∷ []) kept = kept ≡ Some (record { turn = (facts t).turn; held = (facts t).held; count = (facts t).count })
KeepsLast facts (t ∷ u ∷ turns) kept = KeepsLast facts (u ∷ turns) kept

-- what the kept turn tells of a record that isn't flushed
abbrev pub kept_look : Option FailedTurn → ℕ → ℕ → Look
kept_look None number turn = NotYet
kept_look (Some kept) number turn = if nat_lt turn kept.turn && nat_lt number kept.held then Failed kept.count else NotYet

-- for a list of the facts themselves
abbrev pub this : Turn → Turn
this t = t
