-- The places of a log's keys are those of its records.
use Rattle.std.proofs.Common.{◌≡◌, ◌∙◌, ℕ, suc, ◌<◌, Bool, true, false, cond, List, [], ◌∷◌, ◌++◌, reverse, map, take, refl, sym, ap, subst, arith, slice_get, Some, eq-eqb}
use Rattle.std.specs.Prelude.{◌==◌, ◌&&◌, ◌||◌, nat_lt, ℤ, filter, pos, int_le}
use Rattle.std.specs.List.{flat_map, list_any}
use Rattle.std.proofs.lemmas.Bool.{ne_eqb}
use Rattle.std.proofs.lemmas.List.{map-append, take-map, append-nil, append_assoc, reverse-append}
use Rattle.std.proofs.lemmas.List.Elements.{filter-append}
use Rattle.std.proofs.lemmas.List.Folds.{list_any-append}
use Rattle.record_codec.specs.Entry.{Entry}
use Rattle.log_model.specs.Keys.{index_keys, is_match, asked_number}
use Rattle.key_view.specs.Entries.{KeyEntry, once, place_of, is_sought, entries_in, key_entries, newest_places, newest_records, AreRising}
use Rattle.key_view.proofs.PlaceLemmas.{once_from}
use Rattle.key_view.proofs.QueryLemmas.{map-reverse}

-- ---- in reverse

filter_one : {A : Type 0} (b : Bool) (x : A) (xs : List A) → reverse xs ++ cond b (x ∷ []) [] ≡ reverse (cond b (x ∷ xs) xs)
filter_one true x xs = sym (reverse-append (x ∷ []) xs)
filter_one false x xs = append-nil (reverse xs)

filter-reverse : {A : Type 0} (test : A → Bool) (xs : List A) → filter test (reverse xs) ≡ reverse (filter test xs)
filter-reverse test [] = refl
filter-reverse {A = A} test (x ∷ xs) =
    ap (filter test) (reverse-append (x ∷ []) xs) ∙ filter-append test (reverse xs) (x ∷ [])
    ∙ ap (λ (l : List A). l ++ cond (test x) (x ∷ []) []) (filter-reverse test xs) ∙ filter_one (test x) x (filter test xs)

flat_map-append : {A B : Type 0} (f : A → List B) (xs ys : List A) → flat_map f (xs ++ ys) ≡ flat_map f xs ++ flat_map f ys
flat_map-append f [] ys = refl
flat_map-append {B = B} f (x ∷ xs) ys = ap (λ (l : List B). f x ++ l) (flat_map-append f xs ys) ∙ sym (append_assoc (f x) (flat_map f xs) (flat_map f ys))

keys-reverse : (log : List Entry) → reverse (key_entries log) ≡ flat_map (λ r. reverse (entries_in r)) (reverse log)
keys-reverse [] = refl
keys-reverse (r ∷ log) =
    let back : Entry → List KeyEntry = λ q. reverse (entries_in q) in
    reverse-append (entries_in r) (key_entries log)
    ∙ ap (λ (l : List KeyEntry). l ++ back r) (keys-reverse log)
    ∙ sym (ap (flat_map back) (reverse-append (r ∷ []) log) ∙ flat_map-append back (reverse log) (r ∷ []) ∙ ap (λ (l : List KeyEntry). flat_map back (reverse log) ++ l) (append-nil (back r)))

-- ---- the keys of one record

-- the places of those of a record's keys that are sought, by their hashes
spots : (hash : ℕ) (from to : ℤ) (end : ℕ) (r : Entry) → List ℕ → List ℕ
spots hash from to end r hashes = map place_of (filter (is_sought hash from to end) (map (λ h. record { hash = h; place = r.offset; store = r.store }) hashes))

first_by : (b : Bool) (p : ℕ) (rest more : List ℕ) → once_from p rest ≡ p ∷ more → once_from p (cond b (p ∷ rest) rest) ≡ p ∷ more
first_by true p rest more is = ap (λ (b : Bool). cond b (once_from p rest) (p ∷ once_from p rest)) (eq-eqb p p refl) ∙ is
first_by false p rest more is = is

-- places that are all below one
Under : ℕ → List ℕ → Type 0
Under p [] = Unit {0}
Under p (q ∷ ps) = (q < p) × Under p ps

behind_higher : (p : ℕ) (ps : List ℕ) → Under p ps → once_from p ps ≡ p ∷ once ps
unfolding Under
behind_higher p [] under = refl
behind_higher p (q ∷ ps) under =
    let low = under.0 in
    ap (λ (b : Bool). cond b (once_from p ps) (p ∷ once_from q ps)) (ne_eqb q p (λ same. absurd (omega (arith, low, same))))

-- whether a record is found, by what is known of one of its hashes and of the others
found_by : (h any f t e : Bool) (p : ℕ) (rest more : List ℕ) → once_from p rest ≡ p ∷ more
    → once rest ≡ cond e (cond (any && f && t) (p ∷ more) more) more
    → once (cond (h && f && t && e) (p ∷ rest) rest) ≡ cond e (cond ((h || any) && f && t) (p ∷ more) more) more
found_by false any f t e p rest more first others = others
found_by true any true true true p rest more first others = first
found_by true true true true false p rest more first others = others
found_by true false true true false p rest more first others = others
found_by true true true false true p rest more first others = others
found_by true false true false true p rest more first others = others
found_by true true true false false p rest more first others = others
found_by true false true false false p rest more first others = others
found_by true true false true true p rest more first others = others
found_by true false false true true p rest more first others = others
found_by true true false true false p rest more first others = others
found_by true false false true false p rest more first others = others
found_by true true false false true p rest more first others = others
found_by true false false false true p rest more first others = others
found_by true true false false false p rest more first others = others
found_by true false false false false p rest more first others = others

cond-append : {A : Type 0} (b : Bool) (x : A) (xs ys : List A) → cond b (x ∷ xs) xs ++ ys ≡ cond b (x ∷ (xs ++ ys)) (xs ++ ys)
cond-append true x xs ys = refl
cond-append false x xs ys = refl

cond-map : (b : Bool) (e : KeyEntry) (es : List KeyEntry) → map place_of (cond b (e ∷ es) es) ≡ cond b (e.place ∷ map place_of es) (map place_of es)
cond-map true e es = refl
cond-map false e es = refl

spots_next : (hash : ℕ) (from to : ℤ) (end : ℕ) (r : Entry) (h : ℕ) (hashes others : List ℕ)
    → spots hash from to end r (h ∷ hashes) ++ others
    ≡ cond ((h == hash) && int_le from (pos r.store) && int_le (pos r.store) to && nat_lt r.offset end) (r.offset ∷ (spots hash from to end r hashes ++ others)) (spots hash from to end r hashes ++ others)
unfolding spots
spots_next hash from to end r h hashes others =
    let b = (h == hash) && int_le from (pos r.store) && int_le (pos r.store) to && nat_lt r.offset end in
    let rest = filter (is_sought hash from to end) (map (λ k. record { hash = k; place = r.offset; store = r.store }) hashes) in
    ap (λ (l : List ℕ). l ++ others) (cond-map b (record { hash = h; place = r.offset; store = r.store }) rest) ∙ cond-append b r.offset (map place_of rest) others

spots_first : (hash : ℕ) (from to : ℤ) (end : ℕ) (r : Entry) (hashes others : List ℕ) → Under r.offset others
    → once_from r.offset (spots hash from to end r hashes ++ others) ≡ r.offset ∷ once others
unfolding spots
spots_first hash from to end r [] others under = behind_higher r.offset others under
spots_first hash from to end r (h ∷ hashes) others under =
    ap (once_from r.offset) (spots_next hash from to end r h hashes others)
    ∙ first_by ((h == hash) && int_le from (pos r.store) && int_le (pos r.store) to && nat_lt r.offset end) r.offset (spots hash from to end r hashes ++ others) (once others)
    (spots_first hash from to end r hashes others under)

none_by : (b : Bool) (ps : List ℕ) → ps ≡ cond b ps ps
none_by true ps = refl
none_by false ps = refl

-- a record's place once, where one of its hashes is sought
spots_once : (hash : ℕ) (from to : ℤ) (end : ℕ) (r : Entry) (hashes others : List ℕ) → Under r.offset others
    → once (spots hash from to end r hashes ++ others)
    ≡ cond (nat_lt r.offset end) (cond (list_any (λ k. k == hash) hashes && int_le from (pos r.store) && int_le (pos r.store) to) (r.offset ∷ once others) (once others)) (once others)
unfolding spots
spots_once hash from to end r [] others under = none_by (nat_lt r.offset end) (once others)
spots_once hash from to end r (h ∷ hashes) others under =
    ap once (spots_next hash from to end r h hashes others)
    ∙ found_by (h == hash) (list_any (λ k. k == hash) hashes) (int_le from (pos r.store)) (int_le (pos r.store) to) (nat_lt r.offset end) r.offset (spots hash from to end r hashes ++ others) (once others)
    (spots_first hash from to end r hashes others under) (spots_once hash from to end r hashes others under)

-- ---- the records, the newest first

-- records that all stand below a place
Low : ℕ → List Entry → Type 0
Low p [] = Unit {0}
Low p (r ∷ rs) = (r.offset < p) × Low p rs

-- each stands below those before it
Fall : List Entry → Type 0
Fall [] = Unit {0}
Fall (r ∷ rs) = Low r.offset rs × Fall rs

-- the places of the keys of these that are sought
sought_in : (hash : ℕ) (from to : ℤ) (end : ℕ) → List Entry → List ℕ
sought_in hash from to end rs = map place_of (filter (is_sought hash from to end) (flat_map (λ r. reverse (entries_in r)) rs))

sought_next : (hash : ℕ) (from to : ℤ) (end : ℕ) (r : Entry) (rs : List Entry)
    → sought_in hash from to end (r ∷ rs) ≡ spots hash from to end r (reverse (index_keys r)) ++ sought_in hash from to end rs
unfolding sought_in spots
sought_next hash from to end r rs =
    let test = is_sought hash from to end in
    let rest = flat_map (λ q. reverse (entries_in q)) rs in
    ap (λ (l : List KeyEntry). map place_of l) (filter-append test (reverse (entries_in r)) rest)
    ∙ map-append place_of (filter test (reverse (entries_in r))) (filter test rest)
    ∙ ap (λ (l : List KeyEntry). map place_of (filter test l) ++ map place_of (filter test rest)) (sym (map-reverse (λ h. record { hash = h; place = r.offset; store = r.store }) (index_keys r)))

under_by : (b : Bool) (p q : ℕ) (ps : List ℕ) → q < p → Under p ps → Under p (cond b (q ∷ ps) ps)
unfolding Under
under_by true p q ps low under = (low, under)
under_by false p q ps low under = under

under_spots : (hash : ℕ) (from to : ℤ) (end p : ℕ) (r : Entry) (hashes others : List ℕ) → r.offset < p → Under p others → Under p (spots hash from to end r hashes ++ others)
unfolding spots
under_spots hash from to end p r [] others low under = under
under_spots hash from to end p r (h ∷ hashes) others low under =
    subst (Under p) (sym (spots_next hash from to end r h hashes others))
    (under_by ((h == hash) && int_le from (pos r.store) && int_le (pos r.store) to && nat_lt r.offset end) p r.offset (spots hash from to end r hashes ++ others) low
    (under_spots hash from to end p r hashes others low under))

under_sought : (hash : ℕ) (from to : ℤ) (end p : ℕ) (rs : List Entry) → Low p rs → Under p (sought_in hash from to end rs)
unfolding Low Under sought_in
under_sought hash from to end p [] low = tt
under_sought hash from to end p (r ∷ rs) low =
    subst (Under p) (sym (sought_next hash from to end r rs))
    (under_spots hash from to end p r (reverse (index_keys r)) (sought_in hash from to end rs) low.0 (under_sought hash from to end p rs low.1))

any_one : {A : Type 0} (test : A → Bool) (b : Bool) (x : A) → test x ≡ b → list_any test (x ∷ []) ≡ b
any_one test true x is = ap (λ (c : Bool). c || false) is
any_one test false x is = ap (λ (c : Bool). c || false) is

or_swap : (a b : Bool) → (a || b) ≡ (b || a)
or_swap true true = refl
or_swap true false = refl
or_swap false true = refl
or_swap false false = refl

any-reverse : {A : Type 0} (test : A → Bool) (xs : List A) → list_any test (reverse xs) ≡ list_any test xs
any-reverse test [] = refl
any-reverse test (x ∷ xs) =
    ap (list_any test) (reverse-append (x ∷ []) xs) ∙ list_any-append test (reverse xs) (x ∷ [])
    ∙ ap (λ (b : Bool). b || list_any test (x ∷ [])) (any-reverse test xs)
    ∙ ap (λ (b : Bool). list_any test xs || b) (any_one test (test x) x refl) ∙ or_swap (list_any test xs) (test x)

match_by : (e m : Bool) (hash : ℕ) (from to : ℤ) (r : Entry) (rs : List Entry) → is_match hash from to r ≡ m
    → cond e (cond m (r.offset ∷ map (λ q. q.offset) (filter (is_match hash from to) rs)) (map (λ q. q.offset) (filter (is_match hash from to) rs))) (map (λ q. q.offset) (filter (is_match hash from to) rs))
    ≡ map (λ q. q.offset) (filter (is_match hash from to) (cond e (r ∷ rs) rs))
match_by true true hash from to r rs is = sym (ap (λ (b : Bool). map (λ q. q.offset) (cond b (r ∷ filter (is_match hash from to) rs) (filter (is_match hash from to) rs))) is)
match_by true false hash from to r rs is = sym (ap (λ (b : Bool). map (λ q. q.offset) (cond b (r ∷ filter (is_match hash from to) rs) (filter (is_match hash from to) rs))) is)
match_by false m hash from to r rs is = refl

-- each record that is sought once
sought_records : (hash : ℕ) (from to : ℤ) (end : ℕ) (rs : List Entry) → Fall rs
    → once (sought_in hash from to end rs) ≡ map (λ r. r.offset) (filter (is_match hash from to) (filter (λ r. nat_lt r.offset end) rs))
unfolding Fall sought_in
sought_records hash from to end [] fall = refl
sought_records hash from to end (r ∷ rs) fall =
    let others = sought_in hash from to end rs in
    let before = filter (λ (q : Entry). nat_lt q.offset end) rs in
    ap once (sought_next hash from to end r rs)
    ∙ spots_once hash from to end r (reverse (index_keys r)) others (under_sought hash from to end r.offset rs fall.0)
    ∙ ap (λ (b : Bool). cond (nat_lt r.offset end) (cond (b && int_le from (pos r.store) && int_le (pos r.store) to) (r.offset ∷ once others) (once others)) (once others))
    (any-reverse (λ k. k == hash) (index_keys r))
    ∙ ap (λ (ps : List ℕ). cond (nat_lt r.offset end) (cond (is_match hash from to r) (r.offset ∷ ps) ps) ps) (sought_records hash from to end rs fall.1)
    ∙ match_by (nat_lt r.offset end) (is_match hash from to r) hash from to r before refl

-- ---- the log

low_push : (p : ℕ) (rs : List Entry) (r : Entry) → Low p rs → r.offset < p → Low p (rs ++ r ∷ [])
unfolding Low
low_push p [] r low here = (here, tt)
low_push p (q ∷ rs) r low here = (low.0, low_push p rs r low.1 here)

-- records that all stand past a place
High : ℕ → List Entry → Type 0
High p [] = Unit {0}
High p (r ∷ rs) = (p < r.offset) × High p rs

high_push : (p : ℕ) (rs : List Entry) (r : Entry) → High p rs → p < r.offset → High p (rs ++ r ∷ [])
unfolding High
high_push p [] r high here = (here, tt)
high_push p (q ∷ rs) r high here = (high.0, high_push p rs r high.1 here)

high_reverse : (p : ℕ) (rs : List Entry) → High p rs → High p (reverse rs)
unfolding High
high_reverse p [] high = tt
high_reverse p (r ∷ rs) high = subst (High p) (sym (reverse-append (r ∷ []) rs)) (high_push p (reverse rs) r (high_reverse p rs high.1) high.0)

fall_push : (rs : List Entry) (r : Entry) → Fall rs → High r.offset rs → Fall (rs ++ r ∷ [])
unfolding Fall High Low
fall_push [] r fall high = (tt, tt)
fall_push (q ∷ rs) r fall high = (low_push q.offset rs r fall.0 high.0, fall_push rs r fall.1 high.1)

high_behind : (p : ℕ) (log : List Entry) → ((k : ℕ) (q : Entry) → slice_get log k ≡ Some q → p < q.offset) → High p log
unfolding High
high_behind p [] each = tt
high_behind p (q ∷ log) each = (each 0 q refl, high_behind p log (λ k x at. each (suc k) x at))

falls : (log : List Entry) → AreRising log → Fall (reverse log)
unfolding Fall
falls [] rising = tt
falls (r ∷ log) rising =
    subst Fall (sym (reverse-append (r ∷ []) log))
    (fall_push (reverse log) r (falls log (λ i j a b less at there. rising (suc i) (suc j) a b (omega (arith, less)) at there))
    (high_reverse r.offset log (high_behind r.offset log (λ k q at. rising 0 (suc k) r q (omega arith) refl at))))

-- the newest places of a log's keys are those of its newest records
pub newest_of_records : (hash : ℕ) (from to most : ℤ) (end : ℕ) (log : List Entry) → AreRising log
    → newest_places hash from to most end (key_entries log) ≡ map (λ r. r.offset) (newest_records hash from to most end log)
unfolding sought_in
newest_of_records hash from to most end log rising =
    let n = asked_number 64 most in
    let before = λ (r : Entry). nat_lt r.offset end in
    ap (λ (es : List KeyEntry). take n (once (map place_of (filter (is_sought hash from to end) es)))) (keys-reverse log)
    ∙ ap (take n) (sought_records hash from to end (reverse log) (falls log rising))
    ∙ take-map (λ r. r.offset) n (filter (is_match hash from to) (filter before (reverse log)))
    ∙ ap (λ (rs : List Entry). map (λ r. r.offset) (take n rs))
    (ap (filter (is_match hash from to)) (filter-reverse before log) ∙ filter-reverse (is_match hash from to) (filter before log))
