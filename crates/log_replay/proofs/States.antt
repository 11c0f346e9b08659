-- What became of an origin, by three tests of the log.
use Rattle.std.proofs.Common.{◌≡◌, ◌∙◌, ℕ, ◌&&◌, ◌||◌, Bool, true, false, List, length, map, cond, bytes_eq, refl, sym, ap}
use Rattle.std.specs.Prelude.{not, nat_eq, count_by}
use Rattle.std.specs.List.{list_any}
use Rattle.std.proofs.lemmas.List.Elements.{filter_agree}
use Rattle.std.proofs.lemmas.List.Sums.{length-filter}
use Rattle.mq_bytes.specs.Decimal.{digits_of}
use Rattle.record_codec.specs.Entry.{Entry}
use Rattle.log_model.specs.Kinds.{is_copy, is_discard, is_op}
use Rattle.log_model.specs.Transactions.{family, names_it, copies_it, discards_it, is_settled, transaction_state, TransactionState, Open, Committed, RolledBack, Discarded}
use Rattle.log_replay.specs.Told.{is_among}
use Rattle.log_replay.proofs.Anys.{list_any-map, list_any-agree, list_any-or}

-- what these three tests say: an op record names it, it was copied, it was given up
abbrev pub by_tests : Bool → Bool → Bool → TransactionState
by_tests named copied discarded = cond discarded Discarded (cond copied Committed (cond named RolledBack Open))

sorted : (n c d : Bool) → cond (not (n || c || d)) Open (cond d Discarded (cond c Committed RolledBack)) ≡ by_tests n c d
sorted true true true = refl
sorted true true false = refl
sorted true false true = refl
sorted true false false = refl
sorted false true true = refl
sorted false true false = refl
sorted false false true = refl
sorted false false false = refl

module _ (log : List Entry) (h : ℕ) where
  pub state_is : transaction_state log h ≡ by_tests (list_any (names_it h) log) (list_any (copies_it log h) log) (list_any (discards_it log h) log)
  state_is =
      let settled : is_settled log h ≡ (list_any (names_it h) log || list_any (copies_it log h) log || list_any (discards_it log h) log) =
      list_any-or (λ (r : Entry). names_it h r || copies_it log h r) (discards_it log h) log
      ∙ ap (λ (b : Bool). b || list_any (discards_it log h) log) (list_any-or (names_it h) (copies_it log h) log) in
      ap (λ (b : Bool). cond (not b) Open (cond (list_any (discards_it log h) log) Discarded (cond (list_any (copies_it log h) log) Committed RolledBack))) settled
      ∙ sorted (list_any (names_it h) log) (list_any (copies_it log h) log) (list_any (discards_it log h) log)

  module _ (places : List ℕ) (are : places ≡ map (λ (r : Entry). r.offset) (family log h)) where
    member : (place : ℕ) → is_among places place ≡ list_any (λ (r : Entry). nat_eq r.offset place) (family log h)
    member place = ap (λ (ps : List ℕ). is_among ps place) are ∙ list_any-map (λ (p : ℕ). nat_eq p place) (λ (r : Entry). r.offset) (family log h)

    pub copied_is : (r : Entry) → (is_copy r && is_among places r.prepared) ≡ copies_it log h r
    copied_is r = ap (λ (b : Bool). is_copy r && b) (member r.prepared)

    pub discarded_is : (r : Entry) → (is_discard r && is_among places r.prepared) ≡ discards_it log h r
    discarded_is r = ap (λ (b : Bool). is_discard r && b) (member r.prepared)

    -- the state by the tests of programs
    pub state_by : (digits : List ℕ) → digits ≡ digits_of h → (n c d : Bool)
        → n ≡ list_any (λ (r : Entry). is_op r && bytes_eq r.body digits) log
        → c ≡ list_any (λ (r : Entry). is_copy r && is_among places r.prepared) log
        → d ≡ list_any (λ (r : Entry). is_discard r && is_among places r.prepared) log
        → by_tests n c d ≡ transaction_state log h
    state_by digits digits_are n c d named copied discarded =
        let first : n ≡ list_any (names_it h) log = named ∙ ap (λ (ds : List ℕ). list_any (λ (r : Entry). is_op r && bytes_eq r.body ds) log) digits_are in
        let second : c ≡ list_any (copies_it log h) log = copied ∙ list_any-agree _ _ copied_is log in
        let third : d ≡ list_any (discards_it log h) log = discarded ∙ list_any-agree _ _ discarded_is log in
        ap (λ (b : Bool). by_tests b c d) first
        ∙ ap (λ (b : Bool). by_tests (list_any (names_it h) log) b d) second
        ∙ ap (λ (b : Bool). by_tests (list_any (names_it h) log) (list_any (copies_it log h) log) b) third
        ∙ sym state_is

-- tests that agree on each count the same
pub count_by-agree : {A : Type 0} (p q : A → Bool) → ((x : A) → p x ≡ q x) → (xs : List A) → count_by p xs ≡ count_by q xs
count_by-agree {A = A} p q agree xs = sym (length-filter p xs) ∙ ap (λ (l : List A). length l) (filter_agree p q agree xs) ∙ length-filter q xs
