-- The table of a log with one record more.
use Rattle.std.proofs.Common.{◌≡◌, ◌∙◌, inl, inr, ℕ, suc, ◌+◌, ◌-◌, ◌<◌, ◌≤◌, ◌^◌, ◌&&◌, ◌||◌, Bool, true, false, cond, min, List, [], ◌∷◌, ◌++◌, length, map, filter, find, slice_get, Option, Some, None, bytes_eq, refl, sym, ap, subst, arith, append-nil}
use Rattle.std.specs.Prelude.{nat_eq, nat_lt, bit_and, IfSome, option_map}
use Rattle.std.specs.List.{list_any}
use Rattle.std.proofs.lemmas.Bool.{cases_lt, cases_Bool, eqb-true, eqb-false, ne_eqb, ltb-true, lt-ltb}
use Rattle.std.proofs.lemmas.List.{length_push, map-append, length-map}
use Rattle.std.proofs.lemmas.List.Elements.{filter-append}
use Rattle.mq_bytes.specs.Decimal.{digits_of}
use Rattle.record_codec.specs.Entry.{Entry}
use Rattle.log_model.specs.declared.origin.OriginState.{OriginState}
use Rattle.log_model.specs.declared.origin.OriginState.TheVariants.{Open as IsOpen, Committed as IsCommitted, RolledBack as IsRolledBack, Discarded as IsDiscarded}
use Rattle.log_model.specs.Admissible.{IsAdmissible, half_topic, op_topic, discard_topic, names_half}
use Rattle.log_model.specs.Bases.{geometry}
use Rattle.log_model.specs.Kinds.{is_half, is_op, is_copy, is_discard, is_text, origin_text}
use Rattle.log_model.specs.Log.{Follows, IsWellFormed}
use Rattle.log_model.specs.Numbered.{Log, count_of, with_appended}
use Rattle.log_model.specs.Origins.{told_state}
use Rattle.log_model.specs.Transactions.{is_renewal, renewals, is_of_family, names_it, copies_it, discards_it, settles, transaction_state, last_of, TransactionState, Open, Committed, RolledBack, Discarded}
use Rattle.log_replay.specs.Settling.{state_after}
use Rattle.log_replay.proofs.Growth.{family_same, state_more}
use Rattle.half_view.specs.declared.row.HalfRow.{HalfRow}
use Rattle.half_view.specs.Halves.{HalfTable, change, changed, settled_as, settled_row, renewed_row, new_row, with_half, with_settled, names_or, family_at}
use Rattle.half_view.specs.OfLog.{named_by, due_after, last_or, after_last, half_of, AreHalvesOf, rolled_back_by, committed_by, discarded_by, with_settlement}
use Rattle.half_view.proofs.ListLemmas.{get_within, get-change, get-map, same_gets}
use Rattle.half_view.proofs.NumberLemmas.{names, renewal_names, op_names}
use Rattle.record_codec.specs.Layout.{IsRecord}
use Rattle.record_codec.proofs.Records.{said}
use Rattle.half_view.proofs.LogLemmas.{rising, rising_kept, stands_past, numbers, half_number, next_half, kept_was, family_is, place_names, topic_is, not_renewed, no_renewals, all_unsettled, open_yet}

-- ---- the last record that passes

some_number : (m other : ℕ) → 0 < m → cond (nat_lt 0 m) m other ≡ m
some_number m other some = ap (λ (b : Bool). cond b m other) (lt-ltb 0 m some)

after_last-more : (test : Entry → Bool) (n : ℕ) (log : List Entry) (r : Entry) → after_last test n (log ++ r ∷ []) ≡ cond (test r) (n + length log + 1) (after_last test n log)
after_last-more test n [] r = by_test (test r)
  where
    by_test : (b : Bool) → cond b (n + 1) 0 ≡ cond b (n + 0 + 1) 0
    by_test true = omega arith
    by_test false = refl
after_last-more test n (x ∷ xs) r = ap (λ (m : ℕ). cond (nat_lt 0 m) m (cond (test x) (n + 1) 0)) (after_last-more test (n + 1) xs r) ∙ by_test (test r)
  where
    step : ℕ → ℕ
    step m = cond (nat_lt 0 m) m (cond (test x) (n + 1) 0)

    by_test : (b : Bool) → step (cond b (n + 1 + length xs + 1) (after_last test (n + 1) xs)) ≡ cond b (n + suc (length xs) + 1) (step (after_last test (n + 1) xs))
    by_test true = (let e : n + 1 + length xs + 1 ≡ n + suc (length xs) + 1 = omega arith in some_number (n + 1 + length xs + 1) (cond (test x) (n + 1) 0) (omega arith) ∙ e)
    by_test false = refl

after_last-agree : (p q : Entry → Bool) (n : ℕ) (log : List Entry) → ((k : ℕ) (e : Entry) → slice_get log k ≡ Some e → p e ≡ q e) → after_last p n log ≡ after_last q n log
after_last-agree p q n [] agree = refl
after_last-agree p q n (x ∷ xs) agree =
    ap (λ (m : ℕ). cond (nat_lt 0 m) m (cond (p x) (n + 1) 0)) (after_last-agree p q (n + 1) xs (λ k e at. agree (suc k) e at))
    ∙ ap (λ (b : Bool). cond (nat_lt 0 (after_last q (n + 1) xs)) (after_last q (n + 1) xs) (cond b (n + 1) 0)) (agree 0 x refl)

after_last-none : (test : Entry → Bool) (n : ℕ) (log : List Entry) → ((k : ℕ) (e : Entry) → slice_get log k ≡ Some e → test e ≡ false) → after_last test n log ≡ 0
after_last-none test n [] fails = refl
after_last-none test n (x ∷ xs) fails =
    ap (λ (m : ℕ). cond (nat_lt 0 m) m (cond (test x) (n + 1) 0)) (after_last-none test (n + 1) xs (λ k e at. fails (suc k) e at))
    ∙ ap (λ (b : Bool). cond b (n + 1) 0) (fails 0 x refl)

-- ---- the parts of a row, as the log says them of a number

last_of-push : (xs : List Entry) (r : Entry) → last_of (xs ++ r ∷ []) ≡ Some r
last_of-push [] r = refl
last_of-push (x ∷ []) r = refl
last_of-push (x ∷ y ∷ xs) r = last_of-push (y ∷ xs) r

-- a row of these parts
build : Entry → List Entry → ℕ → TransactionState → HalfRow
build e renewed settled state = record {
  place = e.offset;
  names = names_or e.queue_offset (named_by e);
  due = due_after e (last_of renewed);
  last = last_or e.queue_offset (last_of renewed);
  settled = settled;
  checks = min (length renewed) (2 ^ 32 - 1);
  state = told_state state;
}

-- with a renewal more
renewed_by : Bool → ℕ → ℕ → HalfRow → HalfRow
renewed_by b own store row = cond b (renewed_row own store row) row

build-renewed : (b : Bool) (e r : Entry) (renewed : List Entry) (settled : ℕ) (state : TransactionState)
    → build e (renewed ++ cond b (r ∷ []) []) settled state ≡ renewed_by b r.queue_offset r.store (build e renewed settled state)
unfolding build renewed_by
build-renewed false e r renewed settled state = ap (λ (l : List Entry). build e l settled state) (append-nil renewed)
build-renewed true e r renewed settled state =
    let row = build e renewed settled state in
    let counted : min (length (renewed ++ r ∷ [])) (2 ^ 32 - 1) ≡ min (min (length renewed) (2 ^ 32 - 1) + 1) (2 ^ 32 - 1) = (let n = length_push renewed r in omega (arith, n)) in
    ap (λ (o : Option Entry). record row { due = due_after e o; last = last_or e.queue_offset o; checks = min (length (renewed ++ r ∷ [])) (2 ^ 32 - 1) }) (last_of-push renewed r)
    ∙ ap (λ (n : ℕ). record row { due = r.store + 60000; last = r.queue_offset; checks = n }) counted

-- settled by one record more
settled_by : Bool → OriginState → ℕ → HalfRow → HalfRow
settled_by b how number row = cond b (settled_row how number row) row

marked : Bool → Bool → Bool → ℕ → HalfRow → HalfRow
marked n c d number row = settled_by d IsDiscarded number (settled_by c IsCommitted number (settled_by n IsRolledBack number row))

mark_state : (s : TransactionState) (n c d : Bool)
    → told_state (state_after s n c d) ≡ cond d (settled_as (cond c (settled_as (cond n (settled_as (told_state s) IsRolledBack) (told_state s)) IsCommitted) (cond n (settled_as (told_state s) IsRolledBack) (told_state s))) IsDiscarded)
    (cond c (settled_as (cond n (settled_as (told_state s) IsRolledBack) (told_state s)) IsCommitted) (cond n (settled_as (told_state s) IsRolledBack) (told_state s)))
mark_state Open true true true = refl
mark_state Open true true false = refl
mark_state Open true false true = refl
mark_state Open true false false = refl
mark_state Open false true true = refl
mark_state Open false true false = refl
mark_state Open false false true = refl
mark_state Open false false false = refl
mark_state RolledBack true true true = refl
mark_state RolledBack true true false = refl
mark_state RolledBack true false true = refl
mark_state RolledBack true false false = refl
mark_state RolledBack false true true = refl
mark_state RolledBack false true false = refl
mark_state RolledBack false false true = refl
mark_state RolledBack false false false = refl
mark_state Committed true true true = refl
mark_state Committed true true false = refl
mark_state Committed true false true = refl
mark_state Committed true false false = refl
mark_state Committed false true true = refl
mark_state Committed false true false = refl
mark_state Committed false false true = refl
mark_state Committed false false false = refl
mark_state Discarded true true true = refl
mark_state Discarded true true false = refl
mark_state Discarded true false true = refl
mark_state Discarded true false false = refl
mark_state Discarded false true true = refl
mark_state Discarded false true false = refl
mark_state Discarded false false true = refl
mark_state Discarded false false false = refl

with_state : (row : HalfRow) (settled : ℕ) (a b : OriginState) → a ≡ b → record row { state = a; settled = settled } ≡ record row { state = b; settled = settled }
with_state row settled a b same = ap (λ (s : OriginState). record row { state = s; settled = settled }) same

build-marked : (n c d : Bool) (e : Entry) (renewed : List Entry) (settled number : ℕ) (state : TransactionState)
    → build e renewed (cond (n || c || d) (number + 1) settled) (state_after state n c d) ≡ marked n c d number (build e renewed settled state)
unfolding build marked settled_by
build-marked true true true e renewed settled number state = with_state (build e renewed settled state) (number + 1) _ _ (mark_state state true true true)
build-marked true true false e renewed settled number state = with_state (build e renewed settled state) (number + 1) _ _ (mark_state state true true false)
build-marked true false true e renewed settled number state = with_state (build e renewed settled state) (number + 1) _ _ (mark_state state true false true)
build-marked true false false e renewed settled number state = with_state (build e renewed settled state) (number + 1) _ _ (mark_state state true false false)
build-marked false true true e renewed settled number state = with_state (build e renewed settled state) (number + 1) _ _ (mark_state state false true true)
build-marked false true false e renewed settled number state = with_state (build e renewed settled state) (number + 1) _ _ (mark_state state false true false)
build-marked false false true e renewed settled number state = with_state (build e renewed settled state) (number + 1) _ _ (mark_state state false false true)
build-marked false false false e renewed settled number state = with_state (build e renewed settled state) settled _ _ (mark_state state false false false)

-- ---- the table at an index

pub get-changed : (f : HalfRow → HalfRow) (n : ℕ) (t : HalfTable) (k : ℕ) → slice_get (changed f n t).halves k ≡ cond (nat_eq n (t.low + k)) (option_map f (slice_get t.halves k)) (slice_get t.halves k)
get-changed f n t k = elim (cases_lt n t.low) [
  | inl less ↦ ap (λ (b : Bool). slice_get (cond b t (record t { halves = change f (n - t.low) t.halves })).halves k) (below n t.low less)
      ∙ sym (ap (λ (b : Bool). cond b (option_map f (slice_get t.halves k)) (slice_get t.halves k)) (ne_eqb n (t.low + k) (λ same. omega (arith, same, less))))
  | inr more ↦ ap (λ (b : Bool). slice_get (cond b t (record t { halves = change f (n - t.low) t.halves })).halves k) (not_below n t.low more)
      ∙ get-change f (n - t.low) t.halves k (nat_eq n (t.low + k))
      (λ is. let same = eqb-true n (t.low + k) is in omega (arith, same, more))
      (λ is same. eqb-false n (t.low + k) is (omega (arith, same, more)))
]
  where
    below : (a b : ℕ) → a < b → nat_lt a b ≡ true
    below a b less = lt-ltb a b less

    not_below : (a b : ℕ) → b ≤ a → nat_lt a b ≡ false
    not_below a b more = elim (cases_Bool (nat_lt a b)) [
      | inl is ↦ absurd (let less = ltb-true a b is in omega (arith, less, more))
      | inr is ↦ is
    ]

pub low-changed : (f : HalfRow → HalfRow) (n : ℕ) (t : HalfTable) → (changed f n t).low ≡ t.low
low-changed f n t = by_test (nat_lt n t.low)
  where
    by_test : (b : Bool) → (cond b t (record t { halves = change f (n - t.low) t.halves })).low ≡ t.low
    by_test true = refl
    by_test false = refl

spare-changed : (f : HalfRow → HalfRow) (n : ℕ) (t : HalfTable) → (changed f n t).spare ≡ t.spare
spare-changed f n t = by_test (nat_lt n t.low)
  where
    by_test : (b : Bool) → (cond b t (record t { halves = change f (n - t.low) t.halves })).spare ≡ t.spare
    by_test true = refl
    by_test false = refl

low-settled : (t : HalfTable) (o : Option ℕ) (how : OriginState) (number : ℕ) → (with_settled t o how number).low ≡ t.low
low-settled t None how number = refl
low-settled t (Some h) how number = low-changed (settled_row how number) h t

get-settled : (t : HalfTable) (o : Option ℕ) (how : OriginState) (number k : ℕ)
    → slice_get (with_settled t o how number).halves k ≡ option_map (settled_by (names o (t.low + k)) how number) (slice_get t.halves k)
unfolding names settled_by
get-settled t None how number k = by_option (slice_get t.halves k)
  where
    by_option : (o : Option HalfRow) → o ≡ option_map (settled_by false how number) o
    by_option None = refl
    by_option (Some row) = refl
get-settled t (Some h) how number k = get-changed (settled_row how number) h t k ∙ by_option (nat_eq h (t.low + k)) (slice_get t.halves k)
  where
    by_option : (b : Bool) (o : Option HalfRow) → cond b (option_map (settled_row how number) o) o ≡ option_map (settled_by b how number) o
    by_option true None = refl
    by_option false None = refl
    by_option true (Some row) = refl
    by_option false (Some row) = refl

pub map_twice : {A B C : Type 0} (f : A → B) (g : B → C) (o : Option A) → option_map g (option_map f o) ≡ option_map (λ x. g (f x)) o
map_twice f g None = refl
map_twice f g (Some x) = refl

get-settlement : (t : HalfTable) (r : Entry) (number k : ℕ) → slice_get (with_settlement t r number).halves k
    ≡ option_map (marked (names (rolled_back_by r) (t.low + k)) (names (committed_by t r) (t.low + k)) (names (discarded_by t r) (t.low + k)) number) (slice_get t.halves k)
unfolding marked
get-settlement t r number k =
    let first = with_settled t (rolled_back_by r) IsRolledBack number in
    let second = with_settled first (committed_by t r) IsCommitted number in
    let low_first : first.low ≡ t.low = low-settled t (rolled_back_by r) IsRolledBack number in
    let low_second : second.low ≡ t.low = low-settled first (committed_by t r) IsCommitted number ∙ low_first in
    let n = names (rolled_back_by r) (t.low + k) in
    let c = names (committed_by t r) (t.low + k) in
    let d = names (discarded_by t r) (t.low + k) in
    get-settled second (discarded_by t r) IsDiscarded number k
    ∙ ap (λ (m : ℕ). option_map (settled_by (names (discarded_by t r) (m + k)) IsDiscarded number) (slice_get second.halves k)) low_second
    ∙ ap (option_map (settled_by d IsDiscarded number)) (get-settled first (committed_by t r) IsCommitted number k
    ∙ ap (λ (m : ℕ). option_map (settled_by (names (committed_by t r) (m + k)) IsCommitted number) (slice_get first.halves k)) low_first
    ∙ ap (option_map (settled_by c IsCommitted number)) (get-settled t (rolled_back_by r) IsRolledBack number k)
    ∙ map_twice (settled_by n IsRolledBack number) (settled_by c IsCommitted number) (slice_get t.halves k))
    ∙ map_twice (λ row. settled_by c IsCommitted number (settled_by n IsRolledBack number row)) (settled_by d IsDiscarded number) (slice_get t.halves k)

-- ---- a log with one record more

and_names : (b x : Bool) (o : Option ℕ) (h : ℕ) → x ≡ names o h → (b && x) ≡ names (cond b o None) h
unfolding names
and_names true x o h is = is
and_names false x o h is = refl

find-map : {A B : Type 0} (f : A → B) (p : B → Bool) (xs : List A) → find p (map f xs) ≡ option_map f (find (λ x. p (f x)) xs)
find-map f p [] = refl
find-map f p (x ∷ xs) = ap (λ o. cond (p (f x)) (Some (f x)) o) (find-map f p xs) ∙ by_test (p (f x))
  where
    by_test : (b : Bool) → cond b (Some (f x)) (option_map f (find (λ y. p (f y)) xs)) ≡ option_map f (cond b (Some x) (find (λ y. p (f y)) xs))
    by_test true = refl
    by_test false = refl

pub low_number : (e : Entry) → IsRecord e → e.queue_offset < 2 ^ 62
low_number e layout = (said e layout.entry).queue_offset

module _ (segment : ℕ) (log : Log) (r : Entry) (t : HalfTable) (well : IsWellFormed (geometry segment log.base) log.records)
    (follows : Follows (geometry segment log.base) log.records r) (are : AreHalvesOf log t) where
  -- the half message at an index
  row_is : (k : ℕ) → slice_get t.halves k ≡ option_map (half_of log) (slice_get (filter is_half log.records) k)
  row_is k = ap (λ (rows : List HalfRow). slice_get rows k) are.halves ∙ get-map (half_of log) (filter is_half log.records) k

  pub number_is_at : (k : ℕ) (e : Entry) → slice_get (filter is_half log.records) k ≡ Some e → e.queue_offset ≡ t.low + k
  number_is_at k e got = numbers (geometry segment log.base) log.records well k e got ∙ ap (λ (n : ℕ). n + k) (sym are.low)

  pub small_number : (k : ℕ) (e : Entry) → slice_get (filter is_half log.records) k ≡ Some e → e.queue_offset < 2 ^ 64
  small_number k e got =
      let was = kept_was is_half log.records k e got in
      let low = low_number e (well.each was.0 e was.1).layout in
      omega (arith, low)

  -- which half messages stand at a place
  family_flag : (h place : ℕ) → h < 2 ^ 64 → is_of_family log.records h place ≡ names (family_at t place) h
  family_flag h place low =
      let hs = filter is_half log.records in
      let at : HalfRow → Bool = λ row. nat_eq row.place place in
      ap (λ (l : List Entry). list_any (λ (x : Entry). nat_eq x.offset place) l) (family_is (geometry segment log.base) log.records h well low)
      ∙ place_names h place hs (rising_kept is_half log.records (rising (geometry segment log.base) log.records well))
      ∙ ap (λ (o : Option ℕ). names o h)
      (sym (ap (λ (rows : List HalfRow). option_map (λ (row : HalfRow). row.names) (find at rows)) are.halves
      ∙ ap (option_map (λ (row : HalfRow). row.names)) (find-map (half_of log) at hs)
      ∙ map_twice (half_of log) (λ (row : HalfRow). row.names) (find (λ (x : Entry). nat_eq x.offset place) hs)))

  settles_same : (h : ℕ) (e : Entry) → IsAdmissible segment e → e.offset ≤ r.offset → settles (log.records ++ r ∷ []) h e ≡ settles log.records h e
  settles_same h e lawful low =
      ap (λ (b : Bool). names_it h e || b || discards_it (log.records ++ r ∷ []) h e)
      (and_under (is_copy e) _ _ (λ is. family_same log.records r h e.prepared (let before = lawful.copy (eqb-true (bit_and e.sysflag 12) 8 is) in omega (arith, before, low))))
      ∙ ap (λ (b : Bool). names_it h e || copies_it log.records h e || b)
      (and_under (is_discard e) _ _ (λ is. family_same log.records r h e.prepared (let before = lawful.discard is in omega (arith, before, low))))
    where
      and_under : (a b c : Bool) → (a ≡ true → b ≡ c) → (a && b) ≡ (a && c)
      and_under true b c agree = agree refl
      and_under false b c agree = refl

  settled_more : (h : ℕ) → after_last (settles (log.records ++ r ∷ []) h) log.base.records (log.records ++ r ∷ [])
      ≡ cond (settles log.records h r) (count_of log + 1) (after_last (settles log.records h) log.base.records log.records)
  settled_more h =
      after_last-more (settles (log.records ++ r ∷ []) h) log.base.records log.records r
      ∙ ap (λ (n : ℕ). cond (settles (log.records ++ r ∷ []) h r) (count_of log + 1) n)
      (after_last-agree (settles (log.records ++ r ∷ []) h) (settles log.records h) log.base.records log.records
      (λ k e got. settles_same h e (well.each k e got).admissible (let past = stands_past (geometry segment log.base) log.records r well follows k e got in omega (arith, past))))
      ∙ ap (λ (b : Bool). cond b (count_of log + 1) (after_last (settles log.records h) log.base.records log.records)) (settles_same h r follows.admissible (omega arith))

  -- the row of a half message after the record
  next_row : (e : Entry) → half_of (with_appended log (r ∷ [])) e
      ≡ build e (renewals log.records e.queue_offset ++ cond (is_renewal e.queue_offset r) (r ∷ []) [])
      (cond (settles log.records e.queue_offset r) (count_of log + 1) (after_last (settles log.records e.queue_offset) log.base.records log.records))
      (state_after (transaction_state log.records e.queue_offset) (names_it e.queue_offset r) (copies_it log.records e.queue_offset r) (discards_it log.records e.queue_offset r))
  unfolding build
  next_row e =
      let h = e.queue_offset in
      let more = log.records ++ r ∷ [] in
      ap (λ (l : List Entry). build e l (after_last (settles more h) log.base.records more) (transaction_state more h)) (filter-append (is_renewal h) log.records (r ∷ []))
      ∙ ap (λ (n : ℕ). build e (renewals log.records h ++ cond (is_renewal h r) (r ∷ []) []) n (transaction_state more h)) (settled_more h)
      ∙ ap (λ (s : TransactionState). build e (renewals log.records h ++ cond (is_renewal h r) (r ∷ []) [])
      (cond (settles log.records h r) (count_of log + 1) (after_last (settles log.records h) log.base.records log.records)) s)
      (state_more log.records r h (geometry segment log.base) well follows)

  -- the row by what the record is to it
  row_by : (e : Entry) (renews n c d : Bool) → is_renewal e.queue_offset r ≡ renews → names_it e.queue_offset r ≡ n → copies_it log.records e.queue_offset r ≡ c → discards_it log.records e.queue_offset r ≡ d
      → half_of (with_appended log (r ∷ [])) e ≡ marked n c d (count_of log) (renewed_by renews r.queue_offset r.store (half_of log e))
  unfolding build
  row_by e renews n c d renewal named copied discarded =
      let h = e.queue_offset in
      let old = renewals log.records h in
      let last = after_last (settles log.records h) log.base.records log.records in
      let state = transaction_state log.records h in
      next_row e
      ∙ ap (λ (b : Bool). build e (old ++ cond b (r ∷ []) []) (cond (names_it h r || copies_it log.records h r || discards_it log.records h r) (count_of log + 1) last)
      (state_after state (names_it h r) (copies_it log.records h r) (discards_it log.records h r))) renewal
      ∙ ap (λ (b : Bool). build e (old ++ cond renews (r ∷ []) []) (cond (b || copies_it log.records h r || discards_it log.records h r) (count_of log + 1) last)
      (state_after state b (copies_it log.records h r) (discards_it log.records h r))) named
      ∙ ap (λ (b : Bool). build e (old ++ cond renews (r ∷ []) []) (cond (n || b || discards_it log.records h r) (count_of log + 1) last)
      (state_after state n b (discards_it log.records h r))) copied
      ∙ ap (λ (b : Bool). build e (old ++ cond renews (r ∷ []) []) (cond (n || c || b) (count_of log + 1) last) (state_after state n c b)) discarded
      ∙ build-marked n c d e (old ++ cond renews (r ∷ []) []) last (count_of log) state
      ∙ ap (λ (row : HalfRow). marked n c d (count_of log) row) (build-renewed renews e r old last state)

  -- ---- a record that is no half message

  pub others_follow : is_half r ≡ false → AreHalvesOf (with_appended log (r ∷ [])) (with_settlement t r (count_of log))
  unfolding renewed_by
  others_follow other = record {
    low = low-settled second (discarded_by t r) IsDiscarded number ∙ low-settled first (committed_by t r) IsCommitted number ∙ low-settled t (rolled_back_by r) IsRolledBack number ∙ are.low;
    halves = same_gets (with_settlement t r number).halves (map (half_of (with_appended log (r ∷ []))) (filter is_half (log.records ++ r ∷ [])))
        (λ k. get-settlement t r number k
        ∙ ap (option_map (marks k)) (row_is k)
        ∙ by_half k (slice_get (filter is_half log.records) k) refl
        ∙ sym (get-map (half_of (with_appended log (r ∷ []))) (filter is_half log.records) k)
        ∙ ap (λ (l : List Entry). slice_get (map (half_of (with_appended log (r ∷ []))) l) k) (sym halves_same));
  }
    where
      number : ℕ
      number = count_of log

      first : HalfTable
      first = with_settled t (rolled_back_by r) IsRolledBack number

      second : HalfTable
      second = with_settled first (committed_by t r) IsCommitted number

      marks : ℕ → HalfRow → HalfRow
      marks k = marked (names (rolled_back_by r) (t.low + k)) (names (committed_by t r) (t.low + k)) (names (discarded_by t r) (t.low + k)) number

      halves_same : filter is_half (log.records ++ r ∷ []) ≡ filter is_half log.records
      halves_same = filter-append is_half log.records (r ∷ []) ∙ ap (λ (b : Bool). filter is_half log.records ++ cond b (r ∷ []) []) other ∙ append-nil (filter is_half log.records)

      by_half : (k : ℕ) (o : Option Entry) → slice_get (filter is_half log.records) k ≡ o → option_map (marks k) (option_map (half_of log) o) ≡ option_map (half_of (with_appended log (r ∷ []))) o
      by_half k None got = refl
      by_half k (Some e) got =
          let h : e.queue_offset ≡ t.low + k = number_is_at k e got in
          let low = small_number k e got in
          ap (λ (row : HalfRow). Some row) (sym
          (row_by e false (names (rolled_back_by r) (t.low + k)) (names (committed_by t r) (t.low + k)) (names (discarded_by t r) (t.low + k))
          (ap (λ (b : Bool). b && is_text (digits_of e.queue_offset) (origin_text r)) other)
          (op_names r e.queue_offset low follows.admissible.op ∙ ap (λ (n : ℕ). names (rolled_back_by r) n) h)
          (and_names (is_copy r) (is_of_family log.records e.queue_offset r.prepared) (family_at t r.prepared) e.queue_offset (family_flag e.queue_offset r.prepared low) ∙ ap (λ (n : ℕ). names (committed_by t r) n) h)
          (and_names (is_discard r) (is_of_family log.records e.queue_offset r.prepared) (family_at t r.prepared) e.queue_offset (family_flag e.queue_offset r.prepared low) ∙ ap (λ (n : ℕ). names (discarded_by t r) n) h)))

  -- ---- a half message

  module _ (is : is_half r ≡ true) where
    pub own_number : r.queue_offset ≡ log.base.queues half_topic 0 + length (filter is_half log.records)
    own_number = half_number (geometry segment log.base) log.records r well follows is

    pub own_next : r.queue_offset ≡ t.low + length t.halves
    own_next =
        let counted : length t.halves ≡ length (filter is_half log.records) = ap length are.halves ∙ length-map (filter is_half log.records) (half_of log) in
        let low = are.low in
        let number = own_number in
        omega (arith, counted, low, number)

    pub own_small : log.base.queues half_topic 0 + length (filter is_half log.records) < 2 ^ 64
    own_small = let low = low_number r follows.layout in let number = own_number in omega (arith, low, number)

    no_op : is_op r ≡ false
    no_op = ap (λ (topic : List ℕ). bytes_eq topic op_topic) (topic_is r is)

    no_discard : is_discard r ≡ false
    no_discard = ap (λ (topic : List ℕ). bytes_eq topic discard_topic) (topic_is r is)

    no_copy : is_copy r ≡ false
    no_copy = ap (λ (n : ℕ). nat_eq n 8) (follows.admissible.half is).waits.bits

    -- it settles nothing
    half_row : (e : Entry) (renews : Bool) → is_renewal e.queue_offset r ≡ renews → half_of (with_appended log (r ∷ [])) e ≡ renewed_by renews r.queue_offset r.store (half_of log e)
    unfolding marked settled_by
    half_row e renews renewal = row_by e renews false false false renewal
        (ap (λ (b : Bool). b && bytes_eq r.body (digits_of e.queue_offset)) no_op)
        (ap (λ (b : Bool). b && is_of_family log.records e.queue_offset r.prepared) no_copy)
        (ap (λ (b : Bool). b && is_of_family log.records e.queue_offset r.prepared) no_discard)

    -- the half message that it names
    named_there : (k : ℕ) (o : Option ℕ) → k < length t.halves → nat_eq (names_or (t.low + length t.halves) o) (t.low + k) ≡ names o (t.low + k)
    unfolding names
    named_there k None low = ne_eqb (t.low + length t.halves) (t.low + k) (λ same. omega (arith, same, low))
    named_there k (Some n) low = refl

    renewed_at : (k : ℕ) (o : Option Entry) → slice_get (filter is_half log.records) k ≡ o
        → cond (nat_eq (names_or (t.low + length t.halves) (named_by r)) (t.low + k)) (option_map (renewed_row (t.low + length t.halves) r.store) (option_map (half_of log) o)) (option_map (half_of log) o)
        ≡ option_map (half_of (with_appended log (r ∷ []))) o
    unfolding renewed_by
    renewed_at k None got = by_test (nat_eq (names_or (t.low + length t.halves) (named_by r)) (t.low + k)) (option_map (half_of log) None)
      where
        by_test : (b : Bool) (o : Option HalfRow) → cond b o o ≡ o
        by_test true o = refl
        by_test false o = refl
    renewed_at k (Some e) got =
        let h = number_is_at k e got in
        let there : k < length t.halves = get_within t.halves k (half_of log e) (row_is k ∙ ap (option_map (half_of log)) got) in
        let flag : is_renewal e.queue_offset r ≡ names (named_by r) (t.low + k) =
        ap (λ (b : Bool). b && is_text (digits_of e.queue_offset) (origin_text r)) is ∙ renewal_names (origin_text r) e.queue_offset (small_number k e got) follows.admissible.renewal
        ∙ ap (λ (n : ℕ). names (named_by r) n) h in
        ap (λ (b : Bool). cond b (Some (renewed_row (t.low + length t.halves) r.store (half_of log e))) (Some (half_of log e))) (named_there k (named_by r) there)
        ∙ by_test (names (named_by r) (t.low + k))
        ∙ ap (λ (n : ℕ). Some (renewed_by (names (named_by r) (t.low + k)) n r.store (half_of log e))) (sym own_next)
        ∙ ap (λ (row : HalfRow). Some row) (sym (half_row e (names (named_by r) (t.low + k)) flag))
      where
        by_test : (b : Bool) → cond b (Some (renewed_row (t.low + length t.halves) r.store (half_of log e))) (Some (half_of log e)) ≡ Some (renewed_by b (t.low + length t.halves) r.store (half_of log e))
        by_test true = refl
        by_test false = refl

    others_renewed : (changed (renewed_row (t.low + length t.halves) r.store) (names_or (t.low + length t.halves) (named_by r)) t).halves ≡ map (half_of (with_appended log (r ∷ []))) (filter is_half log.records)
    others_renewed =
        let f = renewed_row (t.low + length t.halves) r.store in
        let n = names_or (t.low + length t.halves) (named_by r) in
        same_gets (changed f n t).halves (map (half_of (with_appended log (r ∷ []))) (filter is_half log.records))
        (λ k. get-changed f n t k
        ∙ ap (λ (o : Option HalfRow). cond (nat_eq n (t.low + k)) (option_map f o) o) (row_is k)
        ∙ renewed_at k (slice_get (filter is_half log.records) k) refl
        ∙ sym (get-map (half_of (with_appended log (r ∷ []))) (filter is_half log.records) k))

    -- nothing is said of it yet
    pub unrenewed_itself : is_renewal r.queue_offset r ≡ false
    unrenewed_itself =
        let low = low_number r follows.layout in
        not_renewed segment r r.queue_offset follows.admissible (omega (arith, low))
        (subst (λ (n : ℕ). IfSome (names_half r) (λ m. m < n)) (next_half (geometry segment log.base) log.records well ∙ sym own_number) follows.names)

    new_is : half_of log r ≡ new_row r.queue_offset (names_or r.queue_offset (named_by r)) r.offset r.store
    unfolding build
    new_is =
        let S = geometry segment log.base in
        let number = own_number in
        let last = after_last (settles log.records r.queue_offset) log.base.records log.records in
        let state = transaction_state log.records r.queue_offset in
        ap (λ (l : List Entry). build r l last state) (ap (λ (n : ℕ). renewals log.records n) number ∙ no_renewals S log.records well own_small)
        ∙ ap (λ (n : ℕ). build r [] n state) (after_last-none (settles log.records r.queue_offset) log.base.records log.records
        (λ k e got. ap (λ (n : ℕ). settles log.records n e) number ∙ all_unsettled S log.records well own_small k e got))
        ∙ ap (λ (s : TransactionState). build r [] 0 s) (ap (λ (n : ℕ). transaction_state log.records n) number ∙ open_yet S log.records well own_small)

    new_there : half_of (with_appended log (r ∷ [])) r ≡ new_row (t.low + length t.halves) (names_or (t.low + length t.halves) (named_by r)) r.offset r.store
    unfolding renewed_by
    new_there = half_row r false unrenewed_itself ∙ new_is ∙ ap (λ (n : ℕ). new_row n (names_or n (named_by r)) r.offset r.store) own_next

    -- what became of an origin that stood before stays
    pub state_stays : (e : Entry) → told_state (transaction_state (log.records ++ r ∷ []) e.queue_offset) ≡ told_state (transaction_state log.records e.queue_offset)
    unfolding renewed_by
    state_stays e = ap (λ (row : HalfRow). row.state) (half_row e (is_renewal e.queue_offset r) refl) ∙ by_test (is_renewal e.queue_offset r)
      where
        by_test : (b : Bool) → (cond b (renewed_row r.queue_offset r.store (half_of log e)) (half_of log e)).state ≡ told_state (transaction_state log.records e.queue_offset)
        by_test true = refl
        by_test false = refl

    -- the half message itself is open
    pub new_is_open : told_state (transaction_state (log.records ++ r ∷ []) r.queue_offset) ≡ IsOpen
    new_is_open = ap (λ (row : HalfRow). row.state) new_there

    pub half_follows : (spare : ℕ) → AreHalvesOf (with_appended log (r ∷ [])) (with_half t (named_by r) r.offset r.store spare)
    half_follows spare = record {
      low = are.low;
      halves =
          ap (λ (rows : List HalfRow). rows ++ new_row (t.low + length t.halves) (names_or (t.low + length t.halves) (named_by r)) r.offset r.store ∷ []) others_renewed
          ∙ ap (λ (row : HalfRow). map (half_of (with_appended log (r ∷ []))) (filter is_half log.records) ++ row ∷ []) (sym new_there)
          ∙ sym (ap (map (half_of (with_appended log (r ∷ [])))) (filter-append is_half log.records (r ∷ []) ∙ ap (λ (b : Bool). filter is_half log.records ++ cond b (r ∷ []) []) is)
          ∙ map-append (half_of (with_appended log (r ∷ []))) (filter is_half log.records) (r ∷ []));
    }
