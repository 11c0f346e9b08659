-- An origin whose Rollback is kept stays rolled back until it is removed.
use Rattle.std.proofs.Common.{◌≡◌, ◌⊎◌, inl, inr, refl, sym, ◌∙◌, subst, arith, ℕ, ◌+◌, ◌-◌, ◌<◌, ◌≤◌, ◌^◌, List, slice_get, Bool, true, false, Some, if◌then◌else◌}
use Rattle.std.specs.Prelude.{◌||◌, not}
use Rattle.std.specs.List.{list_any}
use Rattle.std.proofs.lemmas.Bool.{cases_Bool, cases_lt}
use Rattle.record_codec.specs.Entry.{Entry}
use Rattle.log_model.specs.Bases.{Base}
use Rattle.log_model.specs.Numbered.{Log, above, below}
use Rattle.log_model.specs.Transactions.{Open, Committed, RolledBack, Discarded, transaction_state, copies, copies_it, discards_it, names_it, settles, is_settled}
use Rattle.broker_model.specs.State.{State}
use Rattle.broker_model.specs.Events
use Rattle.broker_model.specs.Appended.{made_by}
use Rattle.core_laws.specs.Kept.{IsKept}
use Rattle.core_laws.specs.Halves.{IsRolledBackOrRemoved}
use Rattle.core_laws.specs.LogSteps.{Appends}
use Rattle.core_laws.proofs.Lists.{get_take, take_get, get_drop, drop_get}
use Rattle.core_laws.proofs.Counts.{any_at, any_found, count_before}
use Rattle.core_laws.proofs.Families.{copies_take, copies_drop, open_unsettled}
use Rattle.core_laws.proofs.Copies.{CopiedOnce, step_copies}
use Rattle.core_laws.proofs.KeptRuns.{made_kept}
use Rattle.core_laws.proofs.LogMoves.{IsKeptByMoves}
use Rattle.core_laws.proofs.Discards.{event_discards}
use Rattle.core_laws.proofs.Committed.{IsAt, NoneGivesUp, none_any, part_none, more_none, other_given, at_longer}

-- ---- what is kept

-- An op record with the number n names the origin, and stands behind its number i. No record gives the origin up, and none copies it.
pub record IsRolledBackAt (log : Log) (h i n : ℕ) : Type 0 where
  pub op : Entry
  pub op_at : IsAt log n op
  pub names : names_it h op ≡ true
  pub follows : i < n
  pub none : NoneGivesUp log.records h
  pub uncopied : copies log.records h ≡ 0

-- or the origin was removed
abbrev pub StaysRolledBackAt : Log → ℕ → ℕ → ℕ → Type 0
StaysRolledBackAt log h i n = (i < log.base.records) ⊎ IsRolledBackAt log h i n

state_is : (settled given copied : Bool) → settled ≡ true → given ≡ false → copied ≡ false
    → (if not settled then Open else (if given then Discarded else (if copied then Committed else RolledBack))) ≡ RolledBack
state_is true false false a b c = refl
state_is true false true a b c = absurd (cc)
state_is true true copied a b c = absurd (cc)
state_is false given copied a b c = absurd (cc)

named_settles : (log : List Entry) (h : ℕ) (r : Entry) → names_it h r ≡ true → settles log h r ≡ true
named_settles log h r is = first (names_it h r) (copies_it log h r) (discards_it log h r) is
  where
    first : (a b c : Bool) → a ≡ true → (a || b || c) ≡ true
    first true b c e = refl
    first false b c e = absurd (cc)

none_copied : (log : List Entry) (h : ℕ) → copies log h ≡ 0 → list_any (copies_it log h) log ≡ false
none_copied log h none = elim (cases_Bool (list_any (copies_it log h) log)) [
  | inl some ↦ absurd (let f = any_found (copies_it log h) log some in omega (arith, none, count_before (copies_it log h) log f.0 f.1 f.2 f.3))
  | inr not ↦ not
]

named_settled : (log : Log) (h i n : ℕ) → (c : IsRolledBackAt log h i n) → is_settled log.records h ≡ true
named_settled log h i n c = any_at (settles log.records h) log.records c.op_at.0 c.op c.op_at.2 (named_settles log.records h c.op c.names)

is_rolled_back : (log : Log) (h i n : ℕ) → IsRolledBackAt log h i n → transaction_state log.records h ≡ RolledBack
is_rolled_back log h i n c = state_is (is_settled log.records h) (list_any (discards_it log.records h) log.records) (list_any (copies_it log.records h) log.records)
    (named_settled log h i n c) (none_any (discards_it log.records h) log.records c.none) (none_copied log.records h c.uncopied)

-- ---- a part of the log

-- removed in front, and cut behind n
part_rolled_back : (log part : Log) (h i n r : ℕ) → ((x : Entry) → part.base.records ≤ n → IsAt log n x → IsAt part n x)
    → ((k : ℕ) (x : Entry) → slice_get part.records k ≡ Some x → slice_get log.records (r + k) ≡ Some x)
    → log.base.records ≤ part.base.records → copies part.records h ≤ copies log.records h → StaysRolledBackAt log h i n → StaysRolledBackAt part h i n
part_rolled_back log part h i n r keeps back later fewer (inl gone) = inl (omega (arith, gone, later))
part_rolled_back log part h i n r keeps back later fewer (inr c) = elim (cases_lt i part.base.records) [
  | inl gone ↦ inl gone
  | inr low ↦ inr (record {
    op = c.op;
    op_at = keeps c.op (omega (arith, low, c.follows)) c.op_at;
    names = c.names;
    follows = c.follows;
    none = part_none log.records part.records r h back c.none;
    uncopied = omega (arith, fewer, c.uncopied);
  })
]

front_rolled_back : (log : Log) (later : Base) (h i n : ℕ) → log.base.records ≤ later.records → StaysRolledBackAt log h i n → StaysRolledBackAt (above log later) h i n
front_rolled_back log later h i n low stays = part_rolled_back log (above log later) h i n (later.records - log.base.records)
    (λ x from at. (
      at.0 - (later.records - log.base.records),
      omega (arith, at.1, from, low),
      get_drop (later.records - log.base.records) at.0 log.records x (omega (arith, at.1, from)) at.2,
    ))
    (λ k x at. drop_get (later.records - log.base.records) k log.records x at) low (copies_drop log.records (later.records - log.base.records) h) stays

end_rolled_back : (log : Log) (m h i n : ℕ) → n < m → StaysRolledBackAt log h i n → StaysRolledBackAt (below log m) h i n
end_rolled_back log m h i n low stays = part_rolled_back log (below log m) h i n 0
    (λ x from at. (at.0, at.1, take_get (m - log.base.records) at.0 log.records x (omega (arith, at.1, low)) at.2))
    (λ k x at. let same : 0 + k ≡ k = omega arith in subst (λ (j : ℕ). slice_get log.records j ≡ Some x) (sym same) (get_take (m - log.base.records) k log.records x at).0)
    (omega arith) (copies_take log.records (m - log.base.records) h) stays

-- ---- moves

-- the first records are removed, those behind the op record are lost, or others come behind
pub rolled_back_by_moves : (h i n : ℕ) → h < 2 ^ 64 → IsKeptByMoves (λ log. StaysRolledBackAt log h i n) n
rolled_back_by_moves h i n low = record {
  loses_front = λ log later less stays. front_rolled_back log later h i n less stays;
  loses_end = λ log m more stays. end_rolled_back log m h i n more stays;
  grows = step_rolled_back;
}
  where
    -- a copy comes only while the origin is open
    still_uncopied : (s t : State) (e : Events.Event) → IsRolledBackAt s.log h i n → (copies t.log.records h ≤ copies s.log.records h) ⊎ CopiedOnce s t e h
        → copies t.log.records h ≡ 0
    still_uncopied s t e c (inl less) = omega (arith, less, c.uncopied)
    still_uncopied s t e c (inr once) = absurd (
        let was_open : transaction_state s.log.records h ≡ Open = subst (λ (m : ℕ). transaction_state s.log.records m ≡ Open) once.of once.commit.was_open in
        let e : true ≡ false = sym (named_settled s.log h i n c) ∙ open_unsettled s.log.records h was_open in cc)

    step_rolled_back : (s t : State) (e : Events.Event) → 0 < s.setup.segment → IsKept s.log → Appends s e t → StaysRolledBackAt s.log h i n → StaysRolledBackAt t.log h i n
    step_rolled_back s t e some kept grows (inl gone) = inl (subst (λ (l : Log). i < l.base.records) (sym grows.log) gone)
    step_rolled_back s t e some kept grows (inr c) =
        let longer = made_kept s e some kept grows.fine in
        let none = more_none s.log (made_by s e) h longer
        (other_given s e h low kept longer (named_settled s.log h i n c) (event_discards s e kept grows.fine)) c.none in
        inr (record {
          op = c.op;
          op_at = subst (λ (l : Log). IsAt l n c.op) (sym grows.log) (at_longer s.log (made_by s e) n c.op c.op_at);
          names = c.names;
          follows = c.follows;
          none = subst (λ (l : Log). NoneGivesUp l.records h) (sym grows.log) none;
          uncopied = still_uncopied s t e c (step_copies s t e h low some kept (inr (inl grows)));
        })

pub said_rolled_back : (s : State) (h i n : ℕ) → StaysRolledBackAt s.log h i n → IsRolledBackOrRemoved s h i
said_rolled_back s h i n (inl gone) = inl gone
said_rolled_back s h i n (inr c) = inr (is_rolled_back s.log h i n c)
