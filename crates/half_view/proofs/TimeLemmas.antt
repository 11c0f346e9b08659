-- Times in a tree: what the way down to the first that has come passes.
use Rattle.std.proofs.Common.{◌≡◌, ◌∙◌, ◌≢◌, ◌⊎◌, inl, inr, ℕ, zero, suc, ◌+◌, ◌-◌, ◌*◌, ◌/◌, ◌^◌, ◌<◌, ◌≤◌, min, List, length, get_or, drop, slice_get, Some, refl, sym, ap, subst, arith, length-drop}
use Rattle.std.proofs.lemmas.Bool.{cases_lt}
use Rattle.std.proofs.lemmas.List.{get_or-drop}
use Rattle.std.proofs.lemmas.Option.{get_or_from_slice_get, slice_get_within, slice_get_read, slice_get-get_or}
use Rattle.std.proofs.Math.Nat.{pow-succ'}
use Rattle.std.proofs.Math.Pow.{pow_mono}
use Rattle.std.proofs.lemmas.Nat.{pow_pos}
use Rattle.half_view.specs.Times.{AreLeast, AreAllLater}

-- ---- the way down

-- the node so many steps above this one
abbrev pub above : ℕ → ℕ → ℕ
above zero j = j
above (suc t) j = above t j / 2

above_half : (t j : ℕ) → above t (j / 2) ≡ above t j / 2
above_half zero j = refl
above_half (suc t) j = ap (λ (n : ℕ). n / 2) (above_half t j)

above_most : (t j : ℕ) → above t j ≤ j
above_most zero j = omega arith
above_most (suc t) j = let low = above_most t j in let e : above t j / 2 ≤ j = omega (arith, low) in e

above_some : (t j : ℕ) → 2 ^ t ≤ j → 1 ≤ above t j
above_some zero j low = low
above_some (suc t) j low =
    let twice = pow-succ' 2 t in
    subst (λ (n : ℕ). 1 ≤ n) (above_half t j) (above_some t (j / 2) (omega (arith, low, twice)))

above_few : (t j : ℕ) → j < 2 * 2 ^ t → above t j < 2
above_few zero j few = few
above_few (suc t) j few =
    let twice = pow-succ' 2 t in
    subst (λ (n : ℕ). n < 2) (above_half t j) (above_few t (j / 2) (omega (arith, few, twice)))

half_or : (a : ℕ) → (2 * (a / 2) ≡ a) ⊎ (2 * (a / 2) + 1 ≡ a)
half_or a = elim (cases_lt (2 * (a / 2)) a) [
  | inl less ↦ inr (omega (arith, less))
  | inr more ↦ inl (omega (arith, more))
]

-- the node above one has no later time
least_half : (nodes : List ℕ) (half a : ℕ) → length nodes ≡ 2 * half → AreLeast nodes → 1 ≤ a / 2 → a < length nodes → get_or nodes (a / 2) 0 ≤ get_or nodes a 0
least_half nodes half a even least some within =
    let node : get_or nodes (a / 2) 0 ≡ min (get_or nodes (2 * (a / 2)) 0) (get_or nodes (2 * (a / 2) + 1) 0) = least (a / 2) some (omega (arith, within, even)) in
    elim (half_or a) [
      | inl left ↦ (let same : get_or nodes (2 * (a / 2)) 0 ≡ get_or nodes a 0 = ap (λ (n : ℕ). get_or nodes n 0) left in omega (arith, node, same))
      | inr right ↦ (let same : get_or nodes (2 * (a / 2) + 1) 0 ≡ get_or nodes a 0 = ap (λ (n : ℕ). get_or nodes n 0) right in omega (arith, node, same))
    ]

least_above : (nodes : List ℕ) (half : ℕ) → length nodes ≡ 2 * half → AreLeast nodes → (t j : ℕ) → j < length nodes → 1 ≤ above t j → get_or nodes (above t j) 0 ≤ get_or nodes j 0
least_above nodes half even least zero j within some = omega arith
least_above nodes half even least (suc t) j within some =
    let most = above_most t j in
    let before = least_above nodes half even least t j within (let e : 1 ≤ above t j = omega (arith, some) in e) in
    let step = least_half nodes half (above t j) even least some (omega (arith, most, within)) in
    let e : get_or nodes (above t j / 2) 0 ≤ get_or nodes j 0 = omega (arith, before, step) in e

-- the times that stand before those below a node, which is so many steps above a time, have not come
abbrev pub ArePassed : ℕ → List ℕ → ℕ → ℕ → ℕ → Type 0
ArePassed now nodes half t node = (j : ℕ) → half ≤ j → j < length nodes → above t j < node → now < get_or nodes j 0

pub passed_none : (now : ℕ) (nodes : List ℕ) (half height : ℕ) → half ≡ 2 ^ height → ArePassed now nodes half height 1
passed_none now nodes half height is j from within before = let some = above_some height j (omega (arith, is, from)) in absurd (omega (arith, some, before))

pub passed_left : (now : ℕ) (nodes : List ℕ) (half t node : ℕ) → ArePassed now nodes half (suc t) node → ArePassed now nodes half t (2 * node)
passed_left now nodes half t node passed j from within before = passed j from within (let e : above t j / 2 < node = omega (arith, before) in e)

pub passed_right : (now : ℕ) (nodes : List ℕ) (half t node : ℕ) → length nodes ≡ 2 * half → AreLeast nodes → 1 ≤ node → now < get_or nodes (2 * node) 0
    → ArePassed now nodes half (suc t) node → ArePassed now nodes half t (2 * node + 1)
passed_right now nodes half t node even least some late passed j from within before = elim (cases_lt (above t j) (2 * node)) [
  | inl less ↦ passed j from within (let e : above t j / 2 < node = omega (arith, less) in e)
  | inr more ↦
      (let same : above t j ≡ 2 * node = omega (arith, before, more) in
      let low = least_above nodes half even least t j within (let e : 1 ≤ above t j = omega (arith, same, some) in e) in
      let here : get_or nodes (above t j) 0 ≡ get_or nodes (2 * node) 0 = ap (λ (n : ℕ). get_or nodes n 0) same in
      omega (arith, late, low, here))
]

-- the right one of the two below a node has come where the node has and the left one hasn't
pub right_come : (now : ℕ) (nodes : List ℕ) (half node : ℕ) → length nodes ≡ 2 * half → AreLeast nodes → 1 ≤ node → 2 * node + 1 < length nodes
    → get_or nodes node 0 ≤ now → now < get_or nodes (2 * node) 0 → get_or nodes (2 * node + 1) 0 ≤ now
right_come now nodes half node even least some within come late = let is = least node some within in omega (arith, is, come, late)

-- ---- the way

-- The node stands so many steps below the root; one time below it has come, and none of those that stand before.
pub record IsOnWay (now : ℕ) (nodes : List ℕ) (height steps node : ℕ) : Type 0 where
  pub low : 2 ^ steps ≤ node
  pub high : node < 2 * 2 ^ steps
  pub come : get_or nodes node 0 ≤ now
  pub passed : ArePassed now nodes (2 ^ height) (height - steps) node

twice_pow : (n : ℕ) → 2 ^ (n + 1) ≡ 2 * 2 ^ n
twice_pow n = let e : n + 1 ≡ suc n = omega arith in ap (λ (m : ℕ). 2 ^ m) e ∙ pow-succ' 2 n

-- two nodes stand below one that is above the times
pub below_within : (height steps node : ℕ) → steps < height → node < 2 * 2 ^ steps → 2 * node + 1 < 2 * 2 ^ height
below_within height steps node less high =
    let twice = twice_pow steps in
    let most : 2 ^ (steps + 1) ≤ 2 ^ height = pow_mono (omega (arith, less)) in
    omega (arith, high, twice, most)

pub way_begins : (now : ℕ) (nodes : List ℕ) (height : ℕ) → get_or nodes 1 0 ≤ now → IsOnWay now nodes height 0 1
way_begins now nodes height come = record {
  low = omega arith;
  high = omega arith;
  come = come;
  passed = let e : height ≡ height - 0 = omega arith in subst (λ (t : ℕ). ArePassed now nodes (2 ^ height) t 1) e (passed_none now nodes (2 ^ height) height refl);
}

-- the steps that are left, before one is made
left_over : (now : ℕ) (nodes : List ℕ) (height steps node : ℕ) → steps < height → IsOnWay now nodes height steps node → ArePassed now nodes (2 ^ height) (suc (height - (steps + 1))) node
left_over now nodes height steps node less way =
    let e : height - steps ≡ suc (height - (steps + 1)) = omega (arith, less) in
    subst (λ (t : ℕ). ArePassed now nodes (2 ^ height) t node) e way.passed

pub way_left : (now : ℕ) (nodes : List ℕ) (height steps node n : ℕ) → steps < height → IsOnWay now nodes height steps node → n ≡ 2 * node → get_or nodes n 0 ≤ now
    → IsOnWay now nodes height (steps + 1) n
way_left now nodes height steps node n less way is come = record {
  low = (let twice = twice_pow steps in let low = way.low in omega (arith, twice, low, is));
  high = (let twice = twice_pow steps in let high = way.high in omega (arith, twice, high, is));
  come = come;
  passed = subst (λ (m : ℕ). ArePassed now nodes (2 ^ height) (height - (steps + 1)) m) (sym is)
      (passed_left now nodes (2 ^ height) (height - (steps + 1)) node (left_over now nodes height steps node less way));
}

pub way_right : (now : ℕ) (nodes : List ℕ) (height steps node n : ℕ) → length nodes ≡ 2 * 2 ^ height → AreLeast nodes → steps < height → IsOnWay now nodes height steps node → n ≡ 2 * node
    → now < get_or nodes n 0 → IsOnWay now nodes height (steps + 1) (n + 1)
way_right now nodes height steps node n size least less way is late =
    let low = way.low in
    let some : 1 ≤ node = (let pos = pow_pos steps in omega (arith, pos, low)) in
    let within = below_within height steps node less way.high in
    let left : now < get_or nodes (2 * node) 0 = subst (λ (m : ℕ). now < get_or nodes m 0) is late in
    let same : 2 * node + 1 ≡ n + 1 = omega (arith, is) in
    record {
      low = (let twice = twice_pow steps in omega (arith, twice, low, is));
      high = (let twice = twice_pow steps in let high = way.high in omega (arith, twice, high, is));
      come = subst (λ (m : ℕ). get_or nodes m 0 ≤ now) same (right_come now nodes (2 ^ height) node size least some (omega (arith, within, size)) way.come left);
      passed = subst (λ (m : ℕ). ArePassed now nodes (2 ^ height) (height - (steps + 1)) m) same
          (passed_right now nodes (2 ^ height) (height - (steps + 1)) node size least some left (left_over now nodes height steps node less way));
    }

-- at its end the node is a time, and none before it has come
pub way_ends : (now : ℕ) (nodes : List ℕ) (height node : ℕ) → IsOnWay now nodes height height node → (j : ℕ) → 2 ^ height ≤ j → j < length nodes → j < node → now < get_or nodes j 0
way_ends now nodes height node way j from within before =
    let e : height - height ≡ 0 = omega arith in
    subst (λ (t : ℕ). ArePassed now nodes (2 ^ height) t node) e way.passed j from within before

-- the way goes on to a time that has come
pub way_goes_on : (now : ℕ) (nodes : List ℕ) (height left steps node : ℕ) → length nodes ≡ 2 * 2 ^ height → AreLeast nodes → steps + left ≡ height
    → IsOnWay now nodes height steps node → (n : ℕ) × IsOnWay now nodes height height n
way_goes_on now nodes height zero steps node size least is way = (node, subst (λ (s : ℕ). IsOnWay now nodes height s node) (omega (arith, is)) way)
way_goes_on now nodes height (suc left) steps node size least is way = elim (cases_lt now (get_or nodes (2 * node) 0)) [
  | inl late ↦ way_goes_on now nodes height left (steps + 1) (2 * node + 1) size least (omega (arith, is))
      (way_right now nodes height steps node (2 * node) size least (omega (arith, is)) way refl late)
  | inr come ↦ way_goes_on now nodes height left (steps + 1) (2 * node) size least (omega (arith, is))
      (way_left now nodes height steps node (2 * node) (omega (arith, is)) way refl come)
]

-- where the root has not come, no time has
pub none_come : (now : ℕ) (nodes : List ℕ) (height : ℕ) → length nodes ≡ 2 * 2 ^ height → AreLeast nodes → now < get_or nodes 1 0
    → (j : ℕ) → 2 ^ height ≤ j → j < length nodes → now < get_or nodes j 0
none_come now nodes height size least late j from within =
    let some = above_some height j from in
    let few = above_few height j (omega (arith, within, size)) in
    let low = least_above nodes (2 ^ height) size least height j within some in
    let root : get_or nodes (above height j) 0 ≡ get_or nodes 1 0 = ap (λ (n : ℕ). get_or nodes n 0) (let e : above height j ≡ 1 = omega (arith, some, few) in e) in
    omega (arith, low, root, late)

-- ---- the times

pub times_later : (now : ℕ) (nodes : List ℕ) (half n : ℕ) → length nodes ≡ 2 * half → ((j : ℕ) → half ≤ j → j < half + n → j < length nodes → now < get_or nodes j 0)
    → AreAllLater now (drop half nodes) n
times_later now nodes half n even late k time less at =
    let size = length-drop half nodes in
    let within = slice_get_within (drop half nodes) k time at in
    let here = sym (get_or-drop half nodes k 0) ∙ get_or_from_slice_get (drop half nodes) k time 0 at in
    subst (λ (m : ℕ). now < m) here (late (half + k) (omega arith) (omega (arith, less)) (omega (arith, within, size, even)))

pub time_found : (nodes : List ℕ) (half node time : ℕ) → half ≤ node → slice_get nodes node ≡ Some time → slice_get (drop half nodes) (node - half) ≡ Some time
time_found nodes half node time behind at =
    let within = slice_get_within nodes node time at in
    let size = length-drop half nodes in
    let e : half + (node - half) ≡ node = omega (arith, behind) in
    slice_get_read (drop half nodes) (length (drop half nodes)) (node - half) time refl (omega (arith, size, within, behind))
    (sym (get_or-drop half nodes (node - half) time ∙ ap (λ (n : ℕ). get_or nodes n time) e ∙ get_or_from_slice_get nodes node time time at))

-- one time is that of the root, or earlier
pub root_comes : (nodes : List ℕ) (height : ℕ) → length nodes ≡ 2 * 2 ^ height → AreLeast nodes
    → (k : ℕ) × (time : ℕ) × (slice_get (drop (length nodes / 2) nodes) k ≡ Some time) × (time ≤ get_or nodes 1 0)
root_comes nodes height size least =
    let root = get_or nodes 1 0 in
    let end = way_goes_on root nodes height height 0 1 size least (omega arith) (way_begins root nodes height (omega arith)) in
    let low = end.1.low in
    let high = end.1.high in (
      end.0 - length nodes / 2,
      get_or nodes end.0 0,
      time_found nodes (length nodes / 2) end.0 (get_or nodes end.0 0) (omega (arith, low, size)) (slice_get-get_or nodes end.0 0 (omega (arith, high, size))),
      end.1.come,
    )

pub none_of_none : (now : ℕ) (nodes : List ℕ) → length nodes ≡ 0 → AreAllLater now (drop (length nodes / 2) nodes) (length (drop (length nodes / 2) nodes))
none_of_none now nodes none k time less at = let size = length-drop (length nodes / 2) nodes in absurd (omega (arith, size, none, less))

pub even_size : (nodes : List ℕ) (height : ℕ) → (length nodes ≡ 0) ⊎ (length nodes ≡ 2 * 2 ^ height) → length nodes ≡ 2 * (length nodes / 2)
even_size nodes height (inl none) = omega (arith, none)
even_size nodes height (inr some) = omega (arith, some)

pub some_size : (nodes : List ℕ) (height : ℕ) → (length nodes ≡ 0) ⊎ (length nodes ≡ 2 * 2 ^ height) → length nodes ≢ 0 → length nodes ≡ 2 * 2 ^ height
some_size nodes height (inl none) not = absurd (not none)
some_size nodes height (inr some) not = some

-- where the root has not come, none of the times has
pub none_of_root : (now : ℕ) (nodes : List ℕ) (height : ℕ) → length nodes ≡ 2 * 2 ^ height → AreLeast nodes → now < get_or nodes 1 0
    → AreAllLater now (drop (length nodes / 2) nodes) (length (drop (length nodes / 2) nodes))
none_of_root now nodes height size least late =
    times_later now nodes (length nodes / 2) (length (drop (length nodes / 2) nodes)) (omega (arith, size))
    (λ j from before within. none_come now nodes height size least late j (omega (arith, from, size)) within)
