-- Files as a list: names in byte order, and what a list has at a name.
use Rattle.std.proofs.Common.{◌≡◌, ◌≢◌, ⊎_elim, ℕ, ◌+◌, ◌<◌, ◌≤◌, true, false, cond, List, [], ◌∷◌, ◌++◌, length, take, drop, get_or, suc, zero, IsSome, IsTrue, Option, Some, None, refl, sym, ◌∙◌, ap, subst, arith}
use Rattle.std.proofs.lemmas.Slice.Eq.{bytes_eq-Decides}
use Rattle.std.proofs.lemmas.Bool.{cases_Bool, cond-true, cond-false, false_from_ne_true}
use Rattle.std.proofs.lemmas.Cmp.{nat_list_cmp_total, tied_itself}
use Rattle.std.proofs.lemmas.Bool.{false≢true}
use Rattle.std.proofs.lemmas.List.Kept.{AllPairs-cons}
use Rattle.std.specs.List.{AllPairs, Contains}
use Rattle.std.specs.Ordering.{nat_cmp, is_lt}
use Rattle.std.specs.Cmp.Lexicographic.{slice_cmp}
use Rattle.std.specs.Str.{bytes_eq, is_utf8}
use Rattle.std.proofs.lemmas.List.{append-nil, take-append-drop}
use Rattle.std.proofs.Math.Seq.{drop-nil, take-nil}
use Rattle.mq_outside.specs.Files.{Files, Lists, overwritten}
use Rattle.mq_outside.specs.Calls.{put_file}
use Rattle.mq_outside.specs.Named.{Named, content, names_of, IsBelow, AreAbove, AreBelow, IsAscending, AreTexts, size_of}

same_name : (a b : List ℕ) → a ≡ b → bytes_eq a b ≡ true
same_name a b = (bytes_eq-Decides a b).1

other_name : (a b : List ℕ) → a ≢ b → bytes_eq a b ≡ false
other_name a b apart = false_from_ne_true _ (λ same. apart ((bytes_eq-Decides a b).0 same))

-- a name before another is another name
below_apart : (a b : List ℕ) → IsBelow a b → a ≢ b
below_apart a b below same = let tied = tied_itself nat_list_cmp_total b in let less = subst (λ (l : List ℕ). IsBelow l b) same below in absurd (cc)

-- nothing stands under a name that all are before
pub content_below : (files : List Named) (name : List ℕ) → AreBelow (names_of files) name → content files name ≡ None
content_below [] name below = refl
content_below (file ∷ files) name below =
    cond-false _ (Some file.bytes) (content files name) (other_name file.name name (below_apart file.name name below.0)) ∙ content_below files name below.1

-- nothing stands under a name that is before all
pub content_above : (files : List Named) (name : List ℕ) → AreAbove name (names_of files) → content files name ≡ None
content_above [] name above = refl
content_above (file ∷ files) name above =
    cond-false _ (Some file.bytes) (content files name) (other_name file.name name (λ same. below_apart name file.name above.0 (sym same))) ∙ content_above files name above.1

pub content-front : (xs ys : List Named) (name : List ℕ) → content xs name ≡ None → content (xs ++ ys) name ≡ content ys name
content-front [] ys name absent = refl
content-front (x ∷ xs) ys name absent = ⊎_elim
    (λ (here : bytes_eq x.name name ≡ true). let no : Some x.bytes ≡ None = sym (cond-true _ (Some x.bytes) (content xs name) here) ∙ absent in absurd (cc))
    (λ (there : bytes_eq x.name name ≡ false).
    cond-false _ (Some x.bytes) (content (xs ++ ys) name) there
    ∙ content-front xs ys name (sym (cond-false _ (Some x.bytes) (content xs name) there) ∙ absent))
    (cases_Bool (bytes_eq x.name name))

content-behind : (xs ys zs : List Named) (name : List ℕ) → content ys name ≡ content zs name → content (xs ++ ys) name ≡ content (xs ++ zs) name
content-behind [] ys zs name same = same
content-behind (x ∷ xs) ys zs name same = ap (cond (bytes_eq x.name name) (Some x.bytes)) (content-behind xs ys zs name same)

-- the bytes of the first file of a name
pub content-here : (xs ys : List Named) (file : Named) (name : List ℕ) → content xs name ≡ None → file.name ≡ name → content (xs ++ file ∷ ys) name ≡ Some file.bytes
content-here xs ys file name absent named =
    content-front xs (file ∷ ys) name absent ∙ cond-true _ (Some file.bytes) (content ys name) (same_name file.name name named)

-- another list behind the same front, which has these bytes for the name and else the same
put_behind : (xs ys zs : List Named) (name : List ℕ) (bytes : Option (List ℕ)) → content xs name ≡ None → content ys name ≡ bytes
    → ((other : List ℕ) → other ≢ name → content ys other ≡ content zs other) → (other : List ℕ)
    → content (xs ++ ys) other ≡ put_file name bytes (content (xs ++ zs)) other
put_behind xs ys zs name bytes absent has alike other = ⊎_elim
    (λ (here : bytes_eq name other ≡ true).
    let is : name ≡ other = (bytes_eq-Decides name other).0 here in
    content-front xs ys other (subst (λ (n : List ℕ). content xs n ≡ None) is absent)
    ∙ subst (λ (n : List ℕ). content ys n ≡ bytes) is has
    ∙ sym (cond-true _ bytes (content (xs ++ zs) other) here))
    (λ (there : bytes_eq name other ≡ false).
    content-behind xs ys zs other (alike other (λ is. absurd (cc (there, same_name name other (sym is)))))
    ∙ sym (cond-false _ bytes (content (xs ++ zs) other) there))
    (cases_Bool (bytes_eq name other))

-- a file that is no longer looked at
past : (file : Named) (files : List Named) (name other : List ℕ) → file.name ≡ name → other ≢ name → content (file ∷ files) other ≡ content files other
past file files name other named apart =
    cond-false _ (Some file.bytes) (content files other) (other_name file.name other (λ is. apart (sym is ∙ named)))

first : (file : Named) (files : List Named) (name : List ℕ) → file.name ≡ name → content (file ∷ files) name ≡ Some file.bytes
first file files name named = cond-true _ (Some file.bytes) (content files name) (same_name file.name name named)

-- other bytes in a file
pub changed : (xs ys : List Named) (file next : Named) (name : List ℕ) → content xs name ≡ None → file.name ≡ name → next.name ≡ name → (other : List ℕ)
    → content (xs ++ next ∷ ys) other ≡ put_file name (Some next.bytes) (content (xs ++ file ∷ ys)) other
changed xs ys file next name absent named same =
    put_behind xs (next ∷ ys) (file ∷ ys) name (Some next.bytes) absent (first next ys name same)
    (λ other apart. past next ys name other same apart ∙ sym (past file ys name other named apart))

-- one more file
pub added : (xs ys : List Named) (next : Named) (name : List ℕ) → content xs name ≡ None → next.name ≡ name → (other : List ℕ)
    → content (xs ++ next ∷ ys) other ≡ put_file name (Some next.bytes) (content (xs ++ ys)) other
added xs ys next name absent same =
    put_behind xs (next ∷ ys) ys name (Some next.bytes) absent (first next ys name same) (λ other apart. past next ys name other same apart)

-- a file taken out
pub removed : (xs ys : List Named) (file : Named) (name : List ℕ) → content xs name ≡ None → content ys name ≡ None → file.name ≡ name → (other : List ℕ)
    → content (xs ++ ys) other ≡ put_file name None (content (xs ++ file ∷ ys)) other
removed xs ys file name absent later named =
    put_behind xs ys (file ∷ ys) name None absent later (λ other apart. sym (past file ys name other named apart))

-- nothing where there was nothing
pub put_none : (name : List ℕ) (files : Files) → files name ≡ None → (other : List ℕ) → files other ≡ put_file name None files other
put_none name files absent other = ⊎_elim
    (λ (here : bytes_eq name other ≡ true).
    ap files (sym ((bytes_eq-Decides name other).0 here)) ∙ absent ∙ sym (cond-true _ None (files other) here))
    (λ (there : bytes_eq name other ≡ false). sym (cond-false _ None (files other) there))
    (cases_Bool (bytes_eq name other))

-- names in byte order

pub above_all : (a b : List ℕ) (names : List (List ℕ)) → IsBelow a b → AreAbove b names → AreAbove a names
above_all a b [] below above = tt
above_all a b (n ∷ names) below above = (nat_list_cmp_total.trans a b n below above.0, above_all a b names below above.1)

pub below-append : (xs ys : List (List ℕ)) (name : List ℕ) → AreBelow xs name → AreBelow ys name → AreBelow (xs ++ ys) name
below-append [] ys name first second = second
below-append (x ∷ xs) ys name first second = (first.0, below-append xs ys name first.1 second)

above_insert : (a : List ℕ) (xs ys : List (List ℕ)) (name : List ℕ) → IsBelow a name → AreAbove a (xs ++ ys) → AreAbove a (xs ++ name ∷ ys)
above_insert a [] ys name below above = (below, above)
above_insert a (x ∷ xs) ys name below above = (above.0, above_insert a xs ys name below above.1)

above_remove : (a : List ℕ) (xs ys : List (List ℕ)) (name : List ℕ) → AreAbove a (xs ++ name ∷ ys) → AreAbove a (xs ++ ys)
above_remove a [] ys name above = above.1
above_remove a (x ∷ xs) ys name above = (above.0, above_remove a xs ys name above.1)

-- a name put in at its place
pub ascending_insert : (xs ys : List (List ℕ)) (name : List ℕ) → IsAscending (xs ++ ys) → AreBelow xs name → AreAbove name ys → IsAscending (xs ++ name ∷ ys)
ascending_insert [] ys name ascending below above = (above, ascending)
ascending_insert (x ∷ xs) ys name ascending below above =
    (above_insert x xs ys name below.0 ascending.0, ascending_insert xs ys name ascending.1 below.1 above)

-- a name taken out
pub ascending_remove : (xs ys : List (List ℕ)) (name : List ℕ) → IsAscending (xs ++ name ∷ ys) → IsAscending (xs ++ ys)
ascending_remove [] ys name ascending = ascending.1
ascending_remove (x ∷ xs) ys name ascending = (above_remove x xs ys name ascending.0, ascending_remove xs ys name ascending.1)

-- what stands behind a name is above it
pub ascending_behind : (xs ys : List (List ℕ)) (name : List ℕ) → IsAscending (xs ++ name ∷ ys) → AreAbove name ys
ascending_behind [] ys name ascending = ascending.0
ascending_behind (x ∷ xs) ys name ascending = ascending_behind xs ys name ascending.1

-- names that are text

pub texts_insert : (xs ys : List (List ℕ)) (name : List ℕ) → AreTexts (xs ++ ys) → is_utf8 name ≡ true → AreTexts (xs ++ name ∷ ys)
texts_insert [] ys name texts text = (text, texts)
texts_insert (x ∷ xs) ys name texts text = (texts.0, texts_insert xs ys name texts.1 text)

pub texts_remove : (xs ys : List (List ℕ)) (name : List ℕ) → AreTexts (xs ++ name ∷ ys) → AreTexts (xs ++ ys)
texts_remove [] ys name texts = texts.1
texts_remove (x ∷ xs) ys name texts = (texts.0, texts_remove xs ys name texts.1)

-- a write into a file that isn't there
pub overwritten_none : (at : ℕ) (piece old : List ℕ) → old ≡ [] → overwritten at piece old ≡ piece
overwritten_none at piece old none = ap (λ (l : List ℕ). overwritten at piece l) none ∙ simp (take-nil, drop-nil, append-nil)

pub texts_behind : (xs ys : List (List ℕ)) (name : List ℕ) → AreTexts (xs ++ name ∷ ys) → is_utf8 name ≡ true
texts_behind [] ys name texts = texts.0
texts_behind (x ∷ xs) ys name texts = texts_behind xs ys name texts.1

-- what a list of names in order says of a disk

above_each : (a : List ℕ) (names : List (List ℕ)) → AreAbove a names → (k : ℕ) (d : List ℕ) → k < length names → IsTrue (is_lt (slice_cmp nat_cmp a (get_or names k d)))
above_each a [] above k d below = absurd (omega arith)
above_each a (n ∷ names) above zero d below = ap is_lt above.0
above_each a (n ∷ names) above (suc k) d below = above_each a names above.1 k d (omega arith)

ordered : (names : List (List ℕ)) → IsAscending names → AllPairs (λ a b. IsTrue (is_lt (slice_cmp nat_cmp a b))) names
ordered [] ascending i j d low high = absurd (omega arith)
ordered (n ∷ names) ascending i j d low high =
    AllPairs-cons (λ a b. IsTrue (is_lt (slice_cmp nat_cmp a b))) n names (above_each n names ascending.0) (ordered names ascending.1) i j d low high

there : (files : List Named) (name : List ℕ) (k : ℕ) → k < length (names_of files) → get_or (names_of files) k name ≡ name → IsSome (content files name)
there [] name k below is = absurd (omega arith)
there (file ∷ files) name zero below is = subst (λ (o : Option (List ℕ)). IsSome o) (sym (cond-true _ (Some file.bytes) (content files name) (same_name file.name name is))) refl
there (file ∷ files) name (suc k) below is = ⊎_elim
    (λ (here : bytes_eq file.name name ≡ true). subst (λ (o : Option (List ℕ)). IsSome o) (sym (cond-true _ (Some file.bytes) (content files name) here)) refl)
    (λ (other : bytes_eq file.name name ≡ false). subst (λ (o : Option (List ℕ)). IsSome o) (sym (cond-false _ (Some file.bytes) (content files name) other)) (there files name k (omega arith) is))
    (cases_Bool (bytes_eq file.name name))

listed : (files : List Named) (name : List ℕ) → IsSome (content files name) → Contains (names_of files) name
listed [] name some = absurd (false≢true some)
listed (file ∷ files) name some = ⊎_elim
    (λ (here : bytes_eq file.name name ≡ true). (0, omega arith, (bytes_eq-Decides file.name name).0 here))
    (λ (other : bytes_eq file.name name ≡ false).
    let rest = listed files name (subst (λ (o : Option (List ℕ)). IsSome o) (cond-false _ (Some file.bytes) (content files name) other) some) in
    (suc rest.0, omega (arith, rest.1), rest.2))
    (cases_Bool (bytes_eq file.name name))

pub names_listed : (files : List Named) → IsAscending (names_of files) → Lists (content files) (names_of files)
names_listed files ascending = record {
  each = λ name. ((λ (at : Contains (names_of files) name). there files name at.0 at.1 at.2), listed files name);
  ordered = ordered (names_of files) ascending;
}

-- files with other names

pub content_apart : (files : List Named) (name : List ℕ) → ((k : ℕ) (d : Named) → k < length files → (get_or files k d).name ≢ name) → content files name ≡ None
content_apart [] name apart = refl
content_apart (file ∷ files) name apart =
    cond-false _ (Some file.bytes) (content files name) (other_name file.name name (apart 0 file (omega arith)))
    ∙ content_apart files name (λ k d below. apart (suc k) d (omega arith))

pub size-append : (xs ys : List Named) → size_of (xs ++ ys) ≡ size_of xs + size_of ys
size-append [] ys = omega arith
size-append (x ∷ xs) ys = omega (arith, size-append xs ys)

pub size-take : (files : List Named) (i : ℕ) → size_of (take i files) ≤ size_of files
size-take files i = omega (arith, size-append (take i files) (drop i files), ap size_of (take-append-drop i files))
