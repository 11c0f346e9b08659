-- Which half messages are open origins, as the table has them.
use Rattle.std.proofs.Common.{◌≡◌, ◌∙◌, ◌≢◌, inl, inr, ℕ, ◌+◌, ◌-◌, ◌<◌, ◌&&◌, Bool, true, false, cond, slice_get, Option, Some, None, refl, sym, ap, arith}
use Rattle.std.specs.Prelude.{nat_eq, nat_lt, not, is_none, IfSome, option_map}
use Rattle.std.proofs.lemmas.Bool.{cases_lt, eq-eqb, ne_eqb}
use Rattle.record_codec.specs.Entry.{Entry}
use Rattle.log_model.specs.declared.origin.OriginState.{OriginState}
use Rattle.log_model.specs.declared.origin.OriginState.TheVariants.{Open, Committed, RolledBack, Discarded}
use Rattle.log_model.specs.Kinds.{origin_text}
use Rattle.log_model.specs.Numbered.{Log}
use Rattle.log_model.specs.Origins.{told_state}
use Rattle.log_model.specs.Transactions.{is_settled, transaction_state}
use Rattle.half_view.specs.declared.row.HalfRow.{HalfRow}
use Rattle.half_view.specs.Halves.{HalfTable, row_at, settled_as, settled_row, changed, with_settled, is_open, if_origin, names_or}
use Rattle.half_view.specs.OfLog.{named_by, half_of}
use Rattle.half_view.proofs.DueLemmas.{itself_is, open_is}
use Rattle.half_view.proofs.GrowthLemmas.{get-changed, low-changed}
use Rattle.half_records.specs.Tables.{is_open_row, is_open_at}
use Rattle.half_records.proofs.ListLemmas.{at_number, at_before}

-- ---- as the log has them

open_by : (b : Bool) (row : HalfRow) → is_open_row (cond b (Some row) None) ≡ (b && is_open row.state)
open_by true row = refl
open_by false row = refl

-- a half message with the row that a log tells is an open origin where the log says so
pub open_in : (log : Log) (t : HalfTable) (k : ℕ) (e : Entry) → e.queue_offset ≡ t.low + k → slice_get t.halves k ≡ Some (half_of log e) → IfSome (named_by e) (λ n. n < e.queue_offset)
    → is_open_at t e.queue_offset ≡ (is_none (origin_text e) && not (is_settled log.records e.queue_offset))
open_in log t k e number at low =
    let h = e.queue_offset in
    ap (λ (o : Option HalfRow). is_open_row (if_origin h o)) (at_number t.halves t.low h k number ∙ at)
    ∙ open_by (nat_eq (names_or h (named_by e)) h) (half_of log e)
    ∙ ap (λ (b : Bool). b && is_open (told_state (transaction_state log.records h))) (itself_is h e refl low)
    ∙ ap (λ (b : Bool). is_none (origin_text e) && b) (open_is log.records h)

-- ---- where one is settled

row_before : (f : HalfRow → HalfRow) (n : ℕ) (t : HalfTable) (h : ℕ) → row_at (changed f n t) h ≡ cond (nat_lt h t.low) None (slice_get (changed f n t).halves (h - t.low))
row_before f n t h = ap (λ (low : ℕ). cond (nat_lt h low) None (slice_get (changed f n t).halves (h - low))) (low-changed f n t)

either_way : (b : Bool) (o : Option HalfRow) → o ≡ cond b o o
either_way true o = refl
either_way false o = refl

-- the row of one that is changed
pub row_changed : (f : HalfRow → HalfRow) (n : ℕ) (t : HalfTable) (h : ℕ) → row_at (changed f n t) h ≡ cond (nat_eq n h) (option_map f (row_at t h)) (row_at t h)
row_changed f n t h = row_before f n t h ∙ elim (cases_lt h t.low) [
  | inl less ↦
      at_before (changed f n t).halves t.low h less ∙ either_way (nat_eq n h) None
      ∙ ap (λ (o : Option HalfRow). cond (nat_eq n h) (option_map f o) o) (sym (at_before t.halves t.low h less))
  | inr more ↦
      (let k = h - t.low in
      let is : h ≡ t.low + k = omega (arith, more) in
      at_number (changed f n t).halves t.low h k is ∙ get-changed f n t k
      ∙ ap (λ (o : Option HalfRow). cond (nat_eq n (t.low + k)) (option_map f o) o) (sym (at_number t.halves t.low h k is))
      ∙ ap (λ (m : ℕ). cond (nat_eq n m) (option_map f (row_at t h)) (row_at t h)) (sym is))
]

-- another half message stays what it was
pub open_other : (t : HalfTable) (n : ℕ) (how : OriginState) (number h : ℕ) → n ≢ h → is_open_at (with_settled t (Some n) how number) h ≡ is_open_at t h
open_other t n how number h other =
    ap (λ (o : Option HalfRow). is_open_row (if_origin h o))
    (row_changed (settled_row how number) n t h ∙ ap (λ (b : Bool). cond b (option_map (settled_row how number) (row_at t h)) (row_at t h)) (ne_eqb n h other))

was_open : (state how : OriginState) → is_open (settled_as state how) ≡ true → is_open state ≡ true
was_open Open how is = refl
was_open RolledBack Open is = cc is
was_open RolledBack RolledBack is = cc is
was_open RolledBack Committed is = cc is
was_open RolledBack Discarded is = cc is
was_open Committed Open is = cc is
was_open Committed RolledBack is = cc is
was_open Committed Committed is = cc is
was_open Committed Discarded is = cc is
was_open Discarded how is = cc is

was_open_row : (h number : ℕ) (how : OriginState) (o : Option HalfRow) → is_open_row (if_origin h (option_map (settled_row how number) o)) ≡ true → is_open_row (if_origin h o) ≡ true
was_open_row h number how None is = cc is
was_open_row h number how (Some row) is = by_test (nat_eq row.names h) is
  where
    by_test : (b : Bool) → is_open_row (cond b (Some (settled_row how number row)) None) ≡ true → is_open_row (cond b (Some row) None) ≡ true
    by_test true is = was_open row.state how is
    by_test false is = cc is

-- what is an open origin then was one
pub open_before : (t : HalfTable) (n : ℕ) (how : OriginState) (number : ℕ) → is_open_at (with_settled t (Some n) how number) n ≡ true → is_open_at t n ≡ true
open_before t n how number is =
    was_open_row n number how (row_at t n)
    (sym (ap (λ (o : Option HalfRow). is_open_row (if_origin n o))
    (row_changed (settled_row how number) n t n ∙ ap (λ (b : Bool). cond b (option_map (settled_row how number) (row_at t n)) (row_at t n)) (eq-eqb n n refl))) ∙ is)
