-- Which chunk an item is in, and what is left without the first items.
use Rattle.std.proofs.Common.{◌≡◌, refl, ap, sym, ◌∙◌, subst, arith, ℕ, zero, suc, ◌+◌, ◌-◌, ◌*◌, ◌/◌, ◌%◌, ◌<◌, ◌≤◌, min, List, [], ◌∷◌, ◌++◌, length, get_or, drop, slice_get, Some, All, Vec, vec_len, vec_capacity, Option, append_assoc, length-append}
use Rattle.std.specs.List.{AllByRecursion}
use Rattle.std.specs.declared.alloc.Global.{Global}
use Rattle.std.proofs.lemmas.List.{get_or_append_left, get_or-append-add, length-drop, drop-drop, drop_at}
use Rattle.std.proofs.lemmas.List.Elements.{recursion_from_All, All-drop}
use Rattle.std.proofs.lemmas.Option.{slice_get_read, get_or_from_slice_get}
use Rattle.std.proofs.lemmas.Grind.{common_steps}
use Rattle.chunks.specs.Rooms.{joined, AreChunks}

abbrev pub IsWhole : {T : Type 0} → Vec T Global → Type 0
IsWhole c = length c.items ≡ 1024

-- how many items whole chunks have
pub joined_len : {T : Type 0} (full : List (Vec T Global)) → AllByRecursion IsWhole full → length (joined full) ≡ length full * 1024
joined_len [] w = refl
joined_len (c ∷ full) w = grind (arith, common_steps, w.0, joined_len full w.1)

-- an item of a chunk, found at the chunk's place
pub at_chunk : {T : Type 0} (full : List (Vec T Global)) (last : List T) (k j : ℕ) (v : Vec T Global) (d : T) → AllByRecursion IsWhole full → slice_get full k ≡ Some v → j < 1024
    → get_or (joined full ++ last) (k * 1024 + j) d ≡ get_or v.items j d
at_chunk [] last k j v d w e h = cc e
at_chunk (c ∷ full) last zero j v d w e h =
    let whole : length c.items ≡ 1024 = w.0 in
    let front : get_or (c.items ++ (joined full ++ last)) j d ≡ get_or c.items j d = get_or_append_left c.items (joined full ++ last) d j (subst (λ n. j < n) (sym whole) h) in
    let same : c ≡ v = cc e in
    ap (λ (xs : List _). get_or xs (0 * 1024 + j) d) (append_assoc c.items (joined full) last)
    ∙ ap (λ n. get_or (c.items ++ (joined full ++ last)) n d) (let n : 0 * 1024 + j ≡ j = omega arith in n)
    ∙ front ∙ ap (λ (u : Vec _ Global). get_or u.items j d) same
at_chunk (c ∷ full) last (suc k) j v d w e h =
    let whole : length c.items ≡ 1024 = w.0 in
    ap (λ (xs : List _). get_or xs (suc k * 1024 + j) d) (append_assoc c.items (joined full) last)
    ∙ ap (λ n. get_or (c.items ++ (joined full ++ last)) n d) (let n : suc k * 1024 + j ≡ length c.items + (k * 1024 + j) = omega (arith, whole) in n)
    ∙ get_or-append-add c.items (joined full ++ last) (k * 1024 + j) d
    ∙ at_chunk full last k j v d w.1 e h

-- an item behind the whole chunks
pub at_last : {T : Type 0} (full : List (Vec T Global)) (last : List T) (place i : ℕ) (d : T) → AllByRecursion IsWhole full → place ≡ length full * 1024 + i
    → get_or (joined full ++ last) place d ≡ get_or last i d
at_last full last place i d w e =
    ap (λ n. get_or (joined full ++ last) n d) (let n : place ≡ length (joined full) + i = omega (arith, e, joined_len full w) in n)
    ∙ get_or-append-add (joined full) last i d

-- what is left without the first chunks
pub drop_chunks : {T : Type 0} (full : List (Vec T Global)) (last : List T) (k : ℕ) → AllByRecursion IsWhole full → k ≤ length full
    → drop (k * 1024) (joined full ++ last) ≡ joined (drop k full) ++ last
drop_chunks full last zero w h = refl
drop_chunks [] last (suc k) w h = absurd (let none : ⊥ = omega (arith, h) in none)
drop_chunks (c ∷ full) last (suc k) w h =
    let whole : length c.items ≡ 1024 = w.0 in
    ap (λ (xs : List _). drop (suc k * 1024) xs) (append_assoc c.items (joined full) last)
    ∙ ap (λ n. drop n (c.items ++ (joined full ++ last))) (let n : suc k * 1024 ≡ 1024 + k * 1024 = omega arith in n)
    ∙ sym (drop-drop (k * 1024) 1024 (c.items ++ (joined full ++ last)))
    ∙ ap (λ (xs : List _). drop (k * 1024) xs) (drop_at c.items (joined full ++ last) 1024 whole)
    ∙ drop_chunks full last k w.1 (omega (arith, h))

-- a number is its quotient and its remainder
div_mod : (n : ℕ) → n ≡ n / 1024 * 1024 + n % 1024
div_mod n = omega arith

mod_below : (n : ℕ) → n % 1024 < 1024
mod_below n = omega arith

-- the item of a list at a place within it
slice_get_there : {A : Type 0} (xs : List A) (k : ℕ) → k < length xs → (x : A) × (slice_get xs k ≡ Some x)
slice_get_there [] k h = absurd (let none : ⊥ = omega (arith, h) in none)
slice_get_there (x ∷ xs) zero h = (x, refl)
slice_get_there (x ∷ xs) (suc k) h = slice_get_there xs k (omega (arith, h))

-- an item of what is left without the first items
slice_get-drop : {A : Type 0} (n : ℕ) (xs : List A) (i : ℕ) → slice_get (drop n xs) i ≡ slice_get xs (i + n)
slice_get-drop zero xs i = ap (slice_get xs) (let e : i ≡ i + 0 = omega arith in e)
slice_get-drop (suc n) [] i = refl
slice_get-drop (suc n) (x ∷ xs) i = slice_get-drop n xs i ∙ ap (slice_get (x ∷ xs)) (let e : suc (i + n) ≡ i + suc n = omega arith in e)

get_whole : {T : Type 0} (full : List (Vec T Global)) → AllByRecursion IsWhole full → (chunk : Vec T Global) (k : ℕ) → slice_get full k ≡ Some chunk → length chunk.items ≡ 1024
get_whole [] w chunk k there = cc there
get_whole (c ∷ full) w chunk zero there = let same : c ≡ chunk = cc there in subst (λ (v : Vec _ Global). length v.items ≡ 1024) same w.0
get_whole (c ∷ full) w chunk (suc k) there = get_whole full w.1 chunk k there

module _ {T : Type 0} (full : Vec (Vec T Global) Global) (last : Vec T Global) (next : Option (Vec T Global)) (skipped : ℕ) (are : AreChunks full last next skipped) where
  abbrev all : List T
  all = joined full.items ++ last.items

  whole : AllByRecursion IsWhole full.items
  whole = recursion_from_All IsWhole full.items are.whole

  -- the chunk at a place among the full ones has 1,024 items
  pub whole_there : (chunk : Vec T Global) (k : ℕ) → slice_get full.items k ≡ Some chunk → length chunk.items ≡ 1024
  whole_there chunk k there = get_whole full.items whole chunk k there

  -- how many items the chunks have, the skipped ones too
  pub end_is : length all ≡ vec_len full * 1024 + vec_len last
  end_is =
      let chunks = joined_len full.items whole in
      length-append (joined full.items) last.items ∙ omega (arith, chunks, full.ok.0, last.ok.0)

  -- how many are left
  pub len_is : vec_len full * 1024 + vec_len last - skipped ≡ length (drop skipped all)
  len_is = ap (λ n. n - skipped) (sym end_is) ∙ sym (length-drop skipped all)

  -- the chunks' place of an index is within them
  pub place_within : (index : ℕ) → index < length (drop skipped all) → index + skipped < vec_len full * 1024 + vec_len last
  place_within index h = let left = len_is in omega (arith, h, left)

  -- what is cut off ends within them
  pub place_within_cut : (count : ℕ) → count ≤ length (drop skipped all) → skipped + count ≤ vec_len full * 1024 + vec_len last
  place_within_cut count h = let left = len_is in let most = are.within in let end = end_is in omega (arith, left, h, most, end)

  -- an item of a whole chunk
  pub found_full : (index : ℕ) (x : T) → (index + skipped) / 1024 < vec_len full
      → ((chunk : Vec T Global) → slice_get full.items ((index + skipped) / 1024) ≡ Some chunk → slice_get chunk.items ((index + skipped) % 1024) ≡ Some x)
      → slice_get (drop skipped all) index ≡ Some x
  found_full index x within found =
      let place = index + skipped in
      let k = place / 1024 in
      let j = place % 1024 in
      let split : place ≡ k * 1024 + j = div_mod place in
      let below : j < 1024 = mod_below place in
      let long : k < length full.items = omega (arith, within, full.ok.0) in
      let chunk = slice_get_there full.items k long in
      let here = found chunk.0 chunk.1 in
      let there : get_or all (k * 1024 + j) x ≡ get_or chunk.0.items j x = at_chunk full.items last.items k j chunk.0 x whole chunk.1 below in
      let value : get_or all place x ≡ x = ap (λ n. get_or all n x) split ∙ there ∙ get_or_from_slice_get chunk.0.items j x x here in
      let inside : place < length all = let end = end_is in omega (arith, split, below, within, end) in
      slice_get-drop skipped all index ∙ slice_get_read all (length all) place x refl inside (sym value)

  -- an item of the last chunk is within it
  pub within_last : (index : ℕ) → vec_len full ≤ (index + skipped) / 1024 → index < length (drop skipped all) → index + skipped - vec_len full * 1024 < vec_len last
  within_last index past inside =
      let split : index + skipped ≡ (index + skipped) / 1024 * 1024 + (index + skipped) % 1024 = div_mod (index + skipped) in
      let within = place_within index inside in
      omega (arith, split, past, within)

  -- an item of the last chunk
  pub found_last : (index : ℕ) (x : T) → vec_len full ≤ (index + skipped) / 1024 → index < length (drop skipped all)
      → x ≡ get_or last.items (index + skipped - vec_len full * 1024) x → slice_get (drop skipped all) index ≡ Some x
  found_last index x past inside found =
      let place = index + skipped in
      let split : place ≡ place / 1024 * 1024 + place % 1024 = div_mod place in
      let at : place ≡ length full.items * 1024 + (place - vec_len full * 1024) = omega (arith, split, past, full.ok.0) in
      let within : place < length all = let end = end_is in let inside = place_within index inside in omega (arith, inside, end) in
      slice_get-drop skipped all index
      ∙ slice_get_read all (length all) place x refl within (found ∙ sym (at_last full.items last.items place (place - vec_len full * 1024) x whole at))

  -- what the code finds out about a cut of the first `count` items
  pub record IsCut (count chunks : ℕ) (cut : Vec (Vec T Global) Global) : Type 0 where
    pub within : count ≤ length (drop skipped all)
    pub chunks_is : chunks ≡ min ((skipped + count) / 1024) (vec_len full)
    pub items : cut.items ≡ drop chunks full.items
    pub len : vec_len cut + chunks ≡ vec_len full
    pub capacity : vec_capacity cut ≡ vec_capacity full

  -- no more of the first chunk is skipped than it has
  first_of_cut : (place chunks : ℕ) → place ≤ vec_len full * 1024 + vec_len last → chunks ≡ min (place / 1024) (vec_len full)
      → (place - chunks * 1024 ≤ 1024) × (chunks * 1024 ≤ place)
  first_of_cut place chunks h e =
      let split : place ≡ place / 1024 * 1024 + place % 1024 = div_mod place in
      let below : place % 1024 < 1024 = mod_below place in
      let short = are.short in
      (omega (arith, h, e, split, below, short), omega (arith, e, split, below))

  -- the chunks that are left are chunks
  pub cut_are : (count chunks : ℕ) (cut : Vec (Vec T Global) Global) → IsCut count chunks cut → AreChunks cut last next (skipped + count - chunks * 1024)
  cut_are count chunks cut is =
      let place = place_within_cut count is.within in
      let first = first_of_cut (skipped + count) chunks place is.chunks_is in
      let left : All (λ (c : Vec T Global). length c.items ≡ 1024) cut.items = subst (λ (xs : List (Vec T Global)). All (λ (c : Vec T Global). length c.items ≡ 1024) xs) (sym is.items) (All-drop (λ (c : Vec T Global). length c.items ≡ 1024) chunks full.items are.whole) in
      let chunks_left = joined_len cut.items (recursion_from_All IsWhole cut.items left) in
      let total : length (joined cut.items ++ last.items) ≡ vec_len cut * 1024 + vec_len last = length-append (joined cut.items) last.items ∙ omega (arith, chunks_left, cut.ok.0, last.ok.0) in
      let len = is.len in
      let few = are.few in
      record {
        whole = left;
        short = are.short;
        empty = are.empty;
        room = λ some. let room = are.room some in let fits = room.0 in let few' = room.1 in let capacity = is.capacity in (omega (arith, len, capacity, fits), omega (arith, len, few'));
        few = omega (arith, len, few);
        first = first.0;
        within = let low = first.1 in omega (arith, total, len, place, low);
      }

  -- and they have what is left of the list
  pub cut_items : (count chunks : ℕ) (cut : Vec (Vec T Global) Global) → IsCut count chunks cut
      → drop (skipped + count - chunks * 1024) (joined cut.items ++ last.items) ≡ drop count (drop skipped all)
  cut_items count chunks cut is =
      let place = place_within_cut count is.within in
      let first = first_of_cut (skipped + count) chunks place is.chunks_is in
      let low = first.1 in
      let len = is.len in
      let rest = skipped + count - chunks * 1024 in
      let sum : chunks * 1024 + rest ≡ skipped + count = omega (arith, low) in
      ap (λ (xs : List (Vec T Global)). drop rest (joined xs ++ last.items)) is.items
      ∙ ap (λ (xs : List T). drop rest xs) (sym (drop_chunks full.items last.items chunks whole (omega (arith, len, full.ok.0))))
      ∙ drop-drop rest (chunks * 1024) all
      ∙ ap (λ n. drop n all) sum
      ∙ sym (drop-drop count skipped all)
