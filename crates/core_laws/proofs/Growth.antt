-- A state grows into a later one of its boot, and keeps what was on the disk in a later one of its run.
use Rattle.std.proofs.Common.{◌≡◌, inl, inr, ap, sym, ◌∙◌, subst, arith, ℕ, ◌+◌, ◌-◌, List, [], ◌++◌, length, take, drop, slice_get, Some, append_assoc, length-append}
use Rattle.std.proofs.lemmas.List.{length-drop, append-nil}
use Rattle.std.proofs.lemmas.Bool.{cases_lt}
use Rattle.record_codec.specs.Entry.{Entry}
use Rattle.broker_model.specs.State.{State}
use Rattle.broker_model.specs.Acknowledged.{StandsOrRemoved}
use Rattle.core_laws.specs.Sound.{Grows, Keeps}
use Rattle.core_laws.proofs.Lists.{get_left, get_drop, drop_left, take_left, length_take}
use Rattle.core_laws.proofs.Bases.{take_plus, drop_plus, base_none, base_on, base_same}

pub grows_same : (s : State) → Grows s s
grows_same s = record { more = []; gone = 0; low = omega arith; base = base_none s.log.base; log = sym (append-nil s.log.records); flushed = omega arith; dispatched = omega arith }

joined : (p q s : State) (a : Grows p q) (b : Grows q s) → q.log.records ++ b.more ≡ drop a.gone (p.log.records ++ (a.more ++ b.more))
joined p q s a b =
    ap (λ (l : List Entry). l ++ b.more) a.log ∙ (sym (drop_left a.gone (p.log.records ++ a.more) b.more (omega (arith, a.low, length-append p.log.records a.more)))
    ∙ ap (λ (l : List Entry). drop a.gone l) (append_assoc p.log.records a.more b.more))

pub grows_on : (p q s : State) → Grows p q → Grows q s → Grows p s
grows_on p q s a b =
    let whole = joined p q s a b in
    let front : take a.gone (p.log.records ++ (a.more ++ b.more)) ≡ take a.gone (p.log.records ++ a.more) =
    ap (λ (l : List Entry). take a.gone l) (sym (append_assoc p.log.records a.more b.more)) ∙ take_left a.gone (p.log.records ++ a.more) b.more (omega (arith, a.low, length-append p.log.records a.more)) in
    record {
      more = a.more ++ b.more;
      gone = a.gone + b.gone;
      low = omega (arith, a.low, b.low, length-append a.more b.more, ap (λ (l : List Entry). length l) a.log, length-drop a.gone (p.log.records ++ a.more), length-append p.log.records a.more);
      base = base_same p.log.base s.log.base _ _
          (ap (λ (l : List Entry). l ++ take b.gone (q.log.records ++ b.more)) (sym front)
          ∙ (ap (λ (l : List Entry). take a.gone (p.log.records ++ (a.more ++ b.more)) ++ take b.gone l) whole ∙ sym (take_plus a.gone b.gone (p.log.records ++ (a.more ++ b.more)))))
          (base_on p.log.base q.log.base s.log.base (take a.gone (p.log.records ++ a.more)) (take b.gone (q.log.records ++ b.more)) a.base b.base);
      log = b.log ∙ (ap (λ (l : List Entry). drop b.gone l) whole ∙ drop_plus a.gone b.gone (p.log.records ++ (a.more ++ b.more)));
      flushed = omega (arith, a.flushed, b.flushed);
      dispatched = omega (arith, a.dispatched, b.dispatched);
    }

-- within a boot what stands stays or is removed
pub grows_at : (p s : State) → Grows p s → (n : ℕ) (r : Entry) → StandsOrRemoved p n r → StandsOrRemoved s n r
grows_at p s grows n r stands =
    let total : length (take grows.gone (p.log.records ++ grows.more)) ≡ grows.gone = length_take grows.gone (p.log.records ++ grows.more) (omega (arith, grows.low, length-append p.log.records grows.more)) in
    let records : s.log.base.records ≡ p.log.base.records + grows.gone = omega (arith, grows.base.records, total) in
    elim stands [
      | inl gone ↦ inl (omega (arith, gone, records))
      | inr there ↦ elim (cases_lt n s.log.base.records) [
        | inl removed ↦ inl removed
        | inr high ↦ inr (record {
          index = there.index - grows.gone;
          number = omega (arith, there.number, records, high);
          stands =
              subst (λ (l : List Entry). slice_get l (there.index - grows.gone) ≡ Some r) (sym grows.log)
              (get_drop grows.gone there.index (p.log.records ++ grows.more) r (omega (arith, there.number, records, high)) (get_left p.log.records grows.more there.index r there.stands));
        })
      ]
    ]

pub grows_keeps : {p s : State} → Grows p s → Keeps p s
grows_keeps {p = p} {s = s} grows =
    let total : length (take grows.gone (p.log.records ++ grows.more)) ≡ grows.gone = length_take grows.gone (p.log.records ++ grows.more) (omega (arith, grows.low, length-append p.log.records grows.more)) in
    record {
      records = omega (arith, grows.base.records, total);
      flushed = grows.flushed;
      dispatched = grows.dispatched;
      stays = λ n r low stands. grows_at p s grows n r stands;
    }

pub keeps_same : (s : State) → Keeps s s
keeps_same s = record { records = omega arith; flushed = omega arith; dispatched = omega arith; stays = λ n r low at. at }

pub keeps_on : {a b c : State} → Keeps a b → Keeps b c → Keeps a c
keeps_on {a = a} {b = b} {c = c} first later = record {
  records = omega (arith, first.records, later.records);
  flushed = omega (arith, first.flushed, later.flushed);
  dispatched = omega (arith, first.dispatched, later.dispatched);
  stays = λ n r low at. later.stays n r (omega (arith, low, first.flushed)) (first.stays n r low at);
}
