-- A log, one record on: its queues, keys and origins.
use Rattle.std.proofs.Common.{◌≡◌, ◌∙◌, ◌⊎◌, inl, inr, ℕ, zero, suc, ◌+◌, ◌<◌, ◌≤◌, ◌&&◌, ◌||◌, Bool, true, false, cond, List, [], ◌∷◌, ◌++◌, length, map, take, filter, slice_get, Some, bytes_eq, refl, sym, ap, arith, length-append}
use Rattle.std.specs.Prelude.{count_by, nat_eq, bit_and}
use Rattle.std.specs.List.{list_any}
use Rattle.std.proofs.lemmas.Bool.{eqb-true, ne_eqb, cases_lt}
use Rattle.std.proofs.lemmas.List.{map-append, take_all}
use Rattle.std.proofs.lemmas.List.Elements.{filter-append}
use Rattle.std.proofs.lemmas.List.Folds.{list_any-append}
use Rattle.std.proofs.lemmas.List.Sums.{length-filter}
use Rattle.std.proofs.lemmas.Option.{same_Some}
use Rattle.record_codec.specs.Entry.{Entry}
use Rattle.record_codec.specs.Layout.{size}
use Rattle.record_codec.specs.Units.{unit_of}
use Rattle.log_model.specs.Admissible.{IsAdmissible}
use Rattle.log_model.specs.Bases.{Geometry}
use Rattle.log_model.specs.Kinds.{is_copy, is_discard}
use Rattle.log_model.specs.Log.{end_of, Follows, IsWellFormed}
use Rattle.log_model.specs.Queues.{queue_of, units_of}
use Rattle.log_model.specs.Transactions.{is_origin, is_renewal, is_of_family, names_it, copies_it, discards_it, settles, is_settled, copies, transaction_state, TransactionState}
use Rattle.log_model.proofs.FirstFits.{place_behind}
use Rattle.log_model.proofs.Lists.{take_got, get_within}
use Rattle.log_model.proofs.Places.{end_of-append}
use Rattle.log_replay.specs.Settling.{state_after}
use Rattle.log_replay.proofs.States.{by_tests, state_is}

pub units_of-append : (log : List Entry) (r : Entry) (topic : List ℕ) (queue : ℕ) → units_of (log ++ r ∷ []) topic queue ≡ units_of log topic queue ++ units_of (r ∷ []) topic queue
units_of-append log r topic queue =
    ap (λ (l : List Entry). map unit_of l) (filter-append (λ (x : Entry). bytes_eq x.topic topic && nat_eq x.queue queue) log (r ∷ []))
    ∙ map-append unit_of (queue_of log topic queue) (queue_of (r ∷ []) topic queue)

one_kept : (b : Bool) (r : Entry) → length (cond b (r ∷ []) []) ≡ cond b 1 0
one_kept true r = refl
one_kept false r = refl

pub count_by-more : (p : Entry → Bool) (log : List Entry) (r : Entry) → count_by p (log ++ r ∷ []) ≡ count_by p log + cond (p r) 1 0
count_by-more p log r =
    sym (length-filter p (log ++ r ∷ [])) ∙ ap (λ (l : List Entry). length l) (filter-append p log (r ∷ [])) ∙ length-append (filter p log) (cond (p r) (r ∷ []) [])
    ∙ ap (λ (n : ℕ). length (filter p log) + n) (one_kept (p r) r) ∙ ap (λ (n : ℕ). n + cond (p r) 1 0) (length-filter p log)

-- ---- tests that agree on the records of a list

pub any_agree : (p q : Entry → Bool) (log : List Entry) → ((k : ℕ) (e : Entry) → slice_get log k ≡ Some e → p e ≡ q e) → list_any p log ≡ list_any q log
any_agree p q [] agree = refl
any_agree p q (e ∷ log) agree =
    ap (λ (b : Bool). b || list_any p log) (agree 0 e refl) ∙ ap (λ (b : Bool). q e || b) (any_agree p q log (λ k x got. agree (suc k) x got))

pub kept_agree : (p q : Entry → Bool) (log : List Entry) → ((k : ℕ) (e : Entry) → slice_get log k ≡ Some e → p e ≡ q e) → filter p log ≡ filter q log
kept_agree p q [] agree = refl
kept_agree p q (e ∷ log) agree =
    ap (λ (b : Bool). cond b (e ∷ filter p log) (filter p log)) (agree 0 e refl)
    ∙ ap (λ (l : List Entry). cond (q e) (e ∷ l) l) (kept_agree p q log (λ k x got. agree (suc k) x got))

and_under : (a b c : Bool) → (a ≡ true → b ≡ c) → (a && b) ≡ (a && c)
and_under true b c agree = agree refl
and_under false b c agree = refl

after_is : (N C D n c d : Bool) → by_tests (N || n) (C || c) (D || d) ≡ state_after (by_tests N C D) n c d
after_is N C true n c d = refl
after_is N true false n c d = refl
after_is true false false n c d = refl
after_is false false false n c d = refl

-- ---- places ascend

end_by : (S : Geometry) (log : List Entry) (x e : Entry) (n k end before : ℕ) → end ≡ x.offset + size x → before ≤ x.offset → k < suc n → slice_get log k ≡ Some e → slice_get log n ≡ Some x
    → (k < n → e.offset + size e ≤ before) → (k < n) ⊎ (n ≤ k) → e.offset + size e ≤ end
end_by S log x e n k end before ends behind low got last lower (inl less) = omega (arith, ends, behind, lower less)
end_by S log x e n k end before ends behind low got last lower (inr more) =
    let same : k ≡ n = omega (arith, low, more) in
    let is : e ≡ x = same_Some e x (sym got ∙ ap (λ (m : ℕ). slice_get log m) same ∙ last) in
    omega (arith, ends, ap (λ (y : Entry). y.offset) is, ap (λ (y : Entry). size y) is)

ends_by : (S : Geometry) (log : List Entry) → IsWellFormed S log → (n : ℕ) → n ≤ length log → (k : ℕ) (e : Entry) → k < n → slice_get log k ≡ Some e
    → e.offset + size e ≤ end_of S.base (take n log)
ends_by S log well zero within k e low got = absurd (omega (arith, low))
ends_by S log well (suc n) within k e low got =
    let last = get_within log n (omega (arith, within)) in
    let one : suc n ≡ n + 1 = omega arith in
    let grown : take (suc n) log ≡ take n log ++ last.0 ∷ [] = ap (λ (m : ℕ). take m log) one ∙ take_got log n last.0 last.1 in
    let ends : end_of S.base (take (suc n) log) ≡ last.0.offset + size last.0 = ap (λ (l : List Entry). end_of S.base l) grown ∙ end_of-append S.base (take n log) last.0 in
    let some : 0 < S.size = omega (arith, well.segment.low) in
    let behind = place_behind S.size (end_of S.base (take n log)) (size last.0) some in
    end_by S log last.0 e n k (end_of S.base (take (suc n) log)) (end_of S.base (take n log)) ends (omega (arith, behind, (well.each n last.0 last.1).place)) low got last.1
    (λ less. ends_by S log well n (omega (arith, within)) k e less got) (cases_lt k n)

get_short : (log : List Entry) (k : ℕ) (e : Entry) → slice_get log k ≡ Some e → k < length log
get_short [] k e got = absurd (cc)
get_short (x ∷ log) zero e got = omega arith
get_short (x ∷ log) (suc k) e got = omega (arith, get_short log k e got)

-- a record stands behind each before it
pub stands_behind : (S : Geometry) (log : List Entry) (r : Entry) → IsWellFormed S log → Follows S log r → (k : ℕ) (e : Entry) → slice_get log k ≡ Some e → e.offset ≤ r.offset
stands_behind S log r well follows k e got =
    let some : 0 < S.size = omega (arith, well.segment.low) in
    let all : take (length log) log ≡ log = take_all (length log) log (omega arith) in
    let ends = ends_by S log well (length log) (omega arith) k e (get_short log k e got) got in
    omega (arith, ends, ap (λ (l : List Entry). end_of S.base l) all, place_behind S.size (end_of S.base log) (size r) some, follows.place)

-- ---- families

no_more : (b t : Bool) (r : Entry) (T : Entry → Bool) → T r ≡ false → list_any T (cond b (r ∷ []) []) ≡ false
no_more true t r T fails = ap (λ (x : Bool). x || false) fails
no_more false t r T fails = refl

or_false : (a b : Bool) → b ≡ false → (a || b) ≡ a
or_false true b fails = refl
or_false false b fails = fails

not_at : (a b : ℕ) → b < a → nat_eq a b ≡ false
not_at a b low = ne_eqb a b (λ same. omega (arith, low, same))

-- a record adds no place before its own to a family
pub family_same : (log : List Entry) (r : Entry) (h place : ℕ) → place < r.offset → is_of_family (log ++ r ∷ []) h place ≡ is_of_family log h place
family_same log r h place low =
    let M : Entry → Bool = λ x. is_origin h x || is_renewal h x in
    let T : Entry → Bool = λ x. nat_eq x.offset place in
    ap (λ (l : List Entry). list_any T l) (filter-append M log (r ∷ []))
    ∙ list_any-append T (filter M log) (cond (M r) (r ∷ []) [])
    ∙ or_false _ _ (no_more (M r) true r T (not_at r.offset place low))

module _ (log : List Entry) (r : Entry) (h : ℕ) where
  copy_same : (segment : ℕ) (e : Entry) → IsAdmissible segment e → e.offset ≤ r.offset → copies_it (log ++ r ∷ []) h e ≡ copies_it log h e
  copy_same segment e lawful low = and_under (is_copy e) _ _ (λ is. family_same log r h e.prepared (omega (arith, lawful.copy (eqb-true (bit_and e.sysflag 12) 8 is), low)))

  discard_same : (segment : ℕ) (e : Entry) → IsAdmissible segment e → e.offset ≤ r.offset → discards_it (log ++ r ∷ []) h e ≡ discards_it log h e
  discard_same segment e lawful low = and_under (is_discard e) _ _ (λ is. family_same log r h e.prepared (omega (arith, lawful.discard is, low)))

  module _ (S : Geometry) (well : IsWellFormed S log) (follows : Follows S log r) where
    lawful_at : (k : ℕ) (e : Entry) → slice_get log k ≡ Some e → IsAdmissible S.size e
    lawful_at k e got = (well.each k e got).admissible

    -- how often it was copied
    pub copies_more : copies (log ++ r ∷ []) h ≡ copies log h + cond (copies_it log h r) 1 0
    copies_more =
        let C : Entry → Bool = copies_it (log ++ r ∷ []) h in
        let same : filter C log ≡ filter (copies_it log h) log = kept_agree C (copies_it log h) log (λ k e got. copy_same S.size e (lawful_at k e got) (stands_behind S log r well follows k e got)) in
        count_by-more C log r
        ∙ ap (λ (n : ℕ). n + cond (C r) 1 0) (sym (length-filter C log) ∙ ap (λ (l : List Entry). length l) same ∙ length-filter (copies_it log h) log)
        ∙ ap (λ (b : Bool). copies log h + cond b 1 0) (copy_same S.size r follows.admissible (omega arith))

    any_more : (P Q : Entry → Bool) → ((e : Entry) → IsAdmissible S.size e → e.offset ≤ r.offset → P e ≡ Q e) → list_any P (log ++ r ∷ []) ≡ (list_any Q log || Q r)
    any_more P Q agree =
        list_any-append P log (r ∷ [])
        ∙ ap (λ (b : Bool). b || (P r || false)) (any_agree P Q log (λ k e got. agree e (lawful_at k e got) (stands_behind S log r well follows k e got)))
        ∙ ap (λ (b : Bool). list_any Q log || b) (or_false (P r) false refl ∙ agree r follows.admissible (omega arith))

    -- what settles it
    pub settled_more : is_settled (log ++ r ∷ []) h ≡ (is_settled log h || settles log h r)
    settled_more = any_more (settles (log ++ r ∷ []) h) (settles log h) (λ e lawful low.
        ap (λ (b : Bool). names_it h e || b || discards_it (log ++ r ∷ []) h e) (copy_same S.size e lawful low)
        ∙ ap (λ (b : Bool). names_it h e || copies_it log h e || b) (discard_same S.size e lawful low))

    -- what became of it
    pub state_more : transaction_state (log ++ r ∷ []) h ≡ state_after (transaction_state log h) (names_it h r) (copies_it log h r) (discards_it log h r)
    state_more =
        let N = list_any (names_it h) log in
        let C = list_any (copies_it log h) log in
        let D = list_any (discards_it log h) log in
        let n = names_it h r in
        let c = copies_it log h r in
        let d = discards_it log h r in
        state_is (log ++ r ∷ []) h
        ∙ ap (λ (b : Bool). by_tests b (list_any (copies_it (log ++ r ∷ []) h) (log ++ r ∷ [])) (list_any (discards_it (log ++ r ∷ []) h) (log ++ r ∷ [])))
        (any_more (names_it h) (names_it h) (λ e lawful low. refl))
        ∙ ap (λ (b : Bool). by_tests (N || n) b (list_any (discards_it (log ++ r ∷ []) h) (log ++ r ∷ []))) (any_more (copies_it (log ++ r ∷ []) h) (copies_it log h) (copy_same S.size))
        ∙ ap (λ (b : Bool). by_tests (N || n) (C || c) b) (any_more (discards_it (log ++ r ∷ []) h) (discards_it log h) (discard_same S.size))
        ∙ after_is N C D n c d
        ∙ ap (λ (s : TransactionState). state_after s n c d) (sym (state_is log h))
