-- Members whose names stand in byte order: what is put among them, and what stands at a name.
use Rattle.std.proofs.Common.{◌≡◌, ◌≢◌, ◌⊎◌, inl, inr, ⊎_elim, ℕ, List, true, false, Option, Some, None}
use Rattle.std.proofs.Common.{Ordering, Less, Equal, Greater, is_eq, nat_cmp, bytes_eq, refl, sym, ap, subst, ◌∙◌}
use Rattle.std.proofs.lemmas.Cmp.{nat_list_cmp_total, tied_itself}
use Rattle.std.proofs.lemmas.Bool.{cases_Bool}
use Rattle.std.proofs.lemmas.Map.Text.{is_eq-slice_cmp}
use Rattle.std.proofs.lemmas.Slice.Eq.{bytes_eq-Decides}
use Rattle.std.specs.Cmp.Lexicographic.{slice_cmp}
use Rattle.std.specs.Ordering.{match_ordering, ordering_reverse}
use Rattle.serde_json.specs.Data.{Data, Members, no_members, member, put}
use Rattle.serde_json.specs.Find.{get_member}

-- each of these names stands behind k
abbrev pub IsAbove : List ℕ → Members → Type 0
IsAbove k no_members = Unit {0}
IsAbove k (member l d ms) = (slice_cmp nat_cmp k l ≡ Less) × IsAbove k ms

-- names stand in order, and each member has P
abbrev pub Ascends : (List ℕ → Data → Type 0) → Members → Type 0
Ascends P no_members = Unit {0}
Ascends P (member k d ms) = IsAbove k ms × (P k d × Ascends P ms)

-- ---- names

pub same_text : (k : List ℕ) → slice_cmp nat_cmp k k ≡ Equal
same_text k = tied_itself nat_list_cmp_total k

pub equal_names : (k l : List ℕ) → slice_cmp nat_cmp k l ≡ Equal → k ≡ l
equal_names k l is = (bytes_eq-Decides k l).0 (sym (is_eq-slice_cmp k l) ∙ ap is_eq is)

pub turned : (k l : List ℕ) (o : Ordering) → slice_cmp nat_cmp k l ≡ o → slice_cmp nat_cmp l k ≡ ordering_reverse o
turned k l o is = nat_list_cmp_total.antisymm l k ∙ ap ordering_reverse is

pub above_trans : (k l : List ℕ) (ms : Members) → slice_cmp nat_cmp k l ≡ Less → IsAbove l ms → IsAbove k ms
above_trans k l no_members less above = tt
above_trans k l (member m d ms) less above = (nat_list_cmp_total.trans k l m less above.0, above_trans k l ms less above.1)

-- a name is this one, or another
pub same_or_other : (k l : List ℕ) → (k ≡ l) ⊎ (k ≢ l)
same_or_other k l = ⊎_elim
    (λ (same : bytes_eq k l ≡ true). inl ((bytes_eq-Decides k l).0 same))
    (λ (apart : bytes_eq k l ≡ false). inr (λ same. let equal = (bytes_eq-Decides k l).1 same in absurd cc))
    (cases_Bool (bytes_eq k l))

-- ---- what is put

pub put_front : (k : List ℕ) (d : Data) (ms : Members) → IsAbove k ms → put k d ms ≡ member k d ms
put_front k d no_members above = refl
put_front k d (member l e ms) above = rw above.0 refl

put_above_at : (o : Ordering) (j k l : List ℕ) (d e : Data) (ms : Members) → slice_cmp nat_cmp j k ≡ Less → slice_cmp nat_cmp j l ≡ Less → IsAbove j ms
    → IsAbove j (put k d ms) → IsAbove j (match_ordering o (member k d (member l e ms)) (member l d ms) (member l e (put k d ms)))
put_above_at Less j k l d e ms below low above more = (below, (low, above))
put_above_at Equal j k l d e ms below low above more = (low, above)
put_above_at Greater j k l d e ms below low above more = (low, more)

pub put_above : (j k : List ℕ) (d : Data) (ms : Members) → slice_cmp nat_cmp j k ≡ Less → IsAbove j ms → IsAbove j (put k d ms)
put_above j k d no_members below above = (below, tt)
put_above j k d (member l e ms) below above = put_above_at (slice_cmp nat_cmp k l) j k l d e ms below above.0 above.1 (put_above j k d ms below above.1)

module _ (P : List ℕ → Data → Type 0) where
  put_ascends_at : (o : Ordering) (k l : List ℕ) (d e : Data) (ms : Members) → slice_cmp nat_cmp k l ≡ o → Ascends P (member l e ms) → P k d
      → Ascends P (put k d ms) → Ascends P (match_ordering o (member k d (member l e ms)) (member l d ms) (member l e (put k d ms)))
  put_ascends_at Less k l d e ms is all p more = ((is, above_trans k l ms is all.0), (p, all))
  put_ascends_at Equal k l d e ms is all p more = (all.0, (subst (λ (n : List ℕ). P n d) (equal_names k l is) p, all.1.1))
  put_ascends_at Greater k l d e ms is all p more = (put_above l k d ms (turned k l Greater is) all.0, (all.1.0, more))

  pub put_ascends : (k : List ℕ) (d : Data) (ms : Members) → Ascends P ms → P k d → Ascends P (put k d ms)
  put_ascends k d no_members all p = (tt, (p, tt))
  put_ascends k d (member l e ms) all p = put_ascends_at (slice_cmp nat_cmp k l) k l d e ms refl all p (put_ascends k d ms all.1.1 p)

  get_has_at : (o : Ordering) (k l : List ℕ) (d e : Data) (ms : Members) → slice_cmp nat_cmp k l ≡ o → P l e → (get_member k ms ≡ Some d → P k d)
      → match_ordering o (get_member k ms) (Some e) (get_member k ms) ≡ Some d → P k d
  get_has_at Less k l d e ms is p more found = more found
  get_has_at Equal k l d e ms is p more found =
      let same : e ≡ d = cc in
      subst (λ (x : Data). P k x) same (subst (λ (n : List ℕ). P n e) (sym (equal_names k l is)) p)
  get_has_at Greater k l d e ms is p more found = more found

  -- what stands at a name has P
  pub get_has : (k : List ℕ) (d : Data) (ms : Members) → Ascends P ms → get_member k ms ≡ Some d → P k d
  get_has k d no_members all found = absurd cc
  get_has k d (member l e ms) all found = get_has_at (slice_cmp nat_cmp k l) k l d e ms refl all.1.0 (get_has k d ms all.1.1) found

weaker_ascends : (P Q : List ℕ → Data → Type 0) → ((k : List ℕ) (d : Data) → P k d → Q k d) → (ms : Members) → Ascends P ms → Ascends Q ms
weaker_ascends P Q gives no_members all = tt
weaker_ascends P Q gives (member k d ms) all = (all.0, (gives k d all.1.0, weaker_ascends P Q gives ms all.1.1))

-- ---- what stands at a name

pub get_above : (k : List ℕ) (ms : Members) → IsAbove k ms → get_member k ms ≡ None
get_above k no_members above = refl
get_above k (member l d ms) above = rw above.0 (get_above k ms above.1)

pub get_first : (k : List ℕ) (d : Data) (ms : Members) → get_member k (member k d ms) ≡ Some d
get_first k d ms = rw (same_text k) refl

skips_at : (o : Ordering) (a b : Option Data) → o ≢ Equal → match_ordering o a b a ≡ a
skips_at Less a b apart = refl
skips_at Equal a b apart = absurd (apart refl)
skips_at Greater a b apart = refl

pub get_later : (q k : List ℕ) (d : Data) (ms : Members) → q ≢ k → get_member q (member k d ms) ≡ get_member q ms
get_later q k d ms apart = skips_at (slice_cmp nat_cmp q k) (get_member q ms) (Some d) (λ same. apart (equal_names q k same))

-- two answers are the same where each that is there is the other
pub same_answers : {A : Type 0} (a b : Option A) → ((x : A) → a ≡ Some x → b ≡ Some x) → ((x : A) → b ≡ Some x → a ≡ Some x) → a ≡ b
same_answers None None to back = refl
same_answers None (Some y) to back = back y refl
same_answers (Some x) b to back = sym (to x refl)

-- members behind a first one that stand at the same names
rest_same : (P Q : List ℕ → Data → Type 0) (k l : List ℕ) (d e : Data) (ms ns : Members) → k ≡ l → Ascends P (member k d ms) → Ascends Q (member l e ns)
    → ((q : List ℕ) → get_member q (member k d ms) ≡ get_member q (member l e ns)) → (q : List ℕ) → get_member q ms ≡ get_member q ns
rest_same P Q k l d e ms ns name all also same q = ⊎_elim
    (λ (here : q ≡ k).
    let left = get_above k ms all.0 in
    let right = get_above l ns also.0 in
    ap (λ (n : List ℕ). get_member n ms) here ∙ left ∙ sym (ap (λ (n : List ℕ). get_member n ns) (here ∙ name) ∙ right))
    (λ (other : q ≢ k). sym (get_later q k d ms other) ∙ same q ∙ get_later q l e ns (λ at. other (at ∙ sym name)))
    (same_or_other q k)

ext_at : (P Q : List ℕ → Data → Type 0) (o : Ordering) (k l : List ℕ) (d e : Data) (ms ns : Members) → slice_cmp nat_cmp k l ≡ o
    → Ascends P (member k d ms) → Ascends Q (member l e ns) → ((q : List ℕ) → get_member q (member k d ms) ≡ get_member q (member l e ns))
    → (((q : List ℕ) → get_member q ms ≡ get_member q ns) → ms ≡ ns) → member k d ms ≡ member l e ns
ext_at P Q Less k l d e ms ns is all also same more =
    let none = get_above k (member l e ns) (is, above_trans k l ns is also.0) in
    let first = get_first k d ms in
    let both = same k in
    absurd cc
ext_at P Q Greater k l d e ms ns is all also same more =
    let none = get_above l (member k d ms) (turned k l Greater is, above_trans l k ms (turned k l Greater is) all.0) in
    let first = get_first l e ns in
    let both = same l in
    absurd cc
ext_at P Q Equal k l d e ms ns is all also same more =
    let name = equal_names k l is in
    let first = get_first k d ms in
    let second = get_first l e ns in
    let both = same k in
    let at_l = ap (λ (n : List ℕ). get_member n (member l e ns)) name in
    let value : d ≡ e = cc in
    let rest = more (rest_same P Q k l d e ms ns name all also same) in
    cc

-- members in order are known by what stands at each name
pub ext : (P Q : List ℕ → Data → Type 0) (ms ns : Members) → Ascends P ms → Ascends Q ns → ((q : List ℕ) → get_member q ms ≡ get_member q ns) → ms ≡ ns
ext P Q no_members no_members all also same = refl
ext P Q no_members (member l e ns) all also same = let first = get_first l e ns in let both = same l in absurd cc
ext P Q (member k d ms) no_members all also same = let first = get_first k d ms in let both = same k in absurd cc
ext P Q (member k d ms) (member l e ns) all also same =
    ext_at P Q (slice_cmp nat_cmp k l) k l d e ms ns refl all also same (λ tails. ext P Q ms ns all.1.1 also.1.1 tails)
