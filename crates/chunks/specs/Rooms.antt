-- How chunks hold a list.
use Rattle.std.specs.Prelude.{◌≡◌, ℕ, ◌+◌, ◌-◌, ◌<◌, ◌≤◌, ◌^◌, nat_lt, List, [], ◌++◌, length, drop, if◌then◌else◌}
use Rattle.std.specs.Prelude.{vec_len, vec_capacity, Vec, All, Option, Some, None, IfSome, IsSome}
use Rattle.std.specs.List.{flat_map}
use Rattle.std.specs.declared.alloc.Global.{Global}
use Rattle.chunks.specs.Lists.{Roomy}

-- the items of the chunks, one after another
abbrev pub joined : {T : Type 0} → List (Vec T Global) → List T
joined chunks = flat_map (λ c. c.items) chunks

-- a chunk that waits is room for 1,024
abbrev pub waiting : {T : Type 0} → Option (Vec T Global) → ℕ
waiting None = 0
waiting (Some chunk) = 1024

-- the room of the last chunk, and behind it that of the next
abbrev pub spare_of : {T : Type 0} → Vec T Global → Option (Vec T Global) → ℕ
spare_of last next = if nat_lt (vec_capacity last) 1024 then vec_capacity last - vec_len last else (1024 - vec_len last) + waiting next

-- the list that the chunks hold, without the items that are skipped at its front
abbrev pub roomy_of : {T : Type 0} → Vec (Vec T Global) Global → Vec T Global → Option (Vec T Global) → ℕ → Roomy T
roomy_of full last next skipped = record { items = drop skipped (joined full.items ++ last.items); spare = spare_of last next }

-- Each full chunk has 1,024 items, and the last no more. The next one is empty and has room for as many, and there is room
-- for the last one among the full ones. No more is skipped than the first chunk has.
pub record AreChunks {T : Type 0} (full : Vec (Vec T Global) Global) (last : Vec T Global) (next : Option (Vec T Global))
    (skipped : ℕ) : Type 0 where
  pub whole : All (λ (c : Vec T Global). length c.items ≡ 1024) full.items
  pub short : vec_len last ≤ 1024
  pub empty : IfSome next (λ c. (c.items ≡ []) × (vec_len c ≡ 0) × (1024 ≤ vec_capacity c))
  pub room : IsSome next → (vec_len full < vec_capacity full) × (vec_len full < 2 ^ 52)
  pub few : vec_len full ≤ 2 ^ 52
  pub first : skipped ≤ 1024
  pub within : skipped ≤ length (joined full.items ++ last.items)
