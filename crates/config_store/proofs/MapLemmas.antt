-- The entries of a map as members: an entry that is taken out, and put again.
use Rattle.std.proofs.Common.{◌≡◌, ℕ, List, [], ◌∷◌, String, Global, Ordering, Less, Equal, Greater, is_eq, nat_cmp, string_bytes, string_cmp, cond}
use Rattle.std.proofs.Common.{refl, ap}
use Rattle.std.proofs.lemmas.Cmp.{nat_list_cmp_total}
use Rattle.std.specs.BTreeMap.{is_at}
use Rattle.std.specs.Cmp.Lexicographic.{slice_cmp}
use Rattle.std.specs.List.{AllByRecursion}
use Rattle.std.specs.List.Sorted.{IsStrictlySortedBy}
use Rattle.std.specs.Map.{keys_of, remove_entry}
use Rattle.std.specs.Ordering.{match_ordering}
use Rattle.serde_json.specs.Data.{Data, member, put}
use Rattle.serde_json.specs.View.{view, members_view}
use Rattle.serde_json.proofs.Views.{Entry}
use Rattle.config_store.proofs.Sorted.{IsAbove, equal_names, put_front}

-- the entries without that of this name
abbrev pub without : List ℕ → List Entry → List Entry
without k es = remove_entry (is_at (λ (key : String Global). slice_cmp nat_cmp k (string_bytes key))) es

all_above : (k l : List ℕ) (es : List Entry) → slice_cmp nat_cmp k l ≡ Less → AllByRecursion (λ y. slice_cmp nat_cmp l (string_bytes y) ≡ Less) (keys_of es)
    → AllByRecursion (λ y. slice_cmp nat_cmp k (string_bytes y) ≡ Less) (keys_of es)
all_above k l [] less all = tt
all_above k l (e ∷ es) less all = (nat_list_cmp_total.trans k l (string_bytes e.0) less all.0, all_above k l es less all.1)

is_above : (k : List ℕ) (es : List Entry) → AllByRecursion (λ y. slice_cmp nat_cmp k (string_bytes y) ≡ Less) (keys_of es) → IsAbove k (members_view es)
is_above k [] all = tt
is_above k (e ∷ es) all = (all.0, is_above k es all.1)

without_none : (k : List ℕ) (es : List Entry) → AllByRecursion (λ y. slice_cmp nat_cmp k (string_bytes y) ≡ Less) (keys_of es) → without k es ≡ es
without_none k [] all = refl
without_none k (e ∷ es) all = rw all.0 (ap (λ (rest : List Entry). e ∷ rest) (without_none k es all.1))

back_at : (o : Ordering) (k : List ℕ) (d : Data) (e : Entry) (es : List Entry) → slice_cmp nat_cmp k (string_bytes e.0) ≡ o
    → AllByRecursion (λ y. slice_cmp nat_cmp (string_bytes e.0) (string_bytes y) ≡ Less) (keys_of es)
    → put k d (members_view (without k es)) ≡ put k d (members_view es)
    → put k d (members_view (cond (is_eq o) es (e ∷ without k es)))
    ≡ match_ordering o (member k d (member (string_bytes e.0) (view e.1) (members_view es))) (member (string_bytes e.0) d (members_view es))
    (member (string_bytes e.0) (view e.1) (put k d (members_view es)))
back_at Less k d e es is above more =
    let same = without_none k es (all_above k (string_bytes e.0) es is above) in
    rw (is, same) refl
back_at Equal k d e es is above more =
    let name = equal_names k (string_bytes e.0) is in
    rw name (put_front (string_bytes e.0) d (members_view es) (is_above (string_bytes e.0) es above))
back_at Greater k d e es is above more = rw is (ap (member (string_bytes e.0) (view e.1)) more)

-- what is put at the name of an entry that was taken out replaces it
pub put_back : (k : List ℕ) (d : Data) (es : List Entry) → IsStrictlySortedBy string_cmp (keys_of es)
    → put k d (members_view (without k es)) ≡ put k d (members_view es)
unfolding IsStrictlySortedBy
put_back k d [] sorted = refl
put_back k d (e ∷ es) sorted = back_at (slice_cmp nat_cmp k (string_bytes e.0)) k d e es refl sorted.0 (put_back k d es sorted.1)
