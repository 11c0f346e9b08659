-- Each step leaves a sound state, into which the one before it grows.
use Rattle.std.proofs.Common.{◌≡◌, refl, ap, sym, ◌∙◌, subst, arith, ℕ, ◌+◌, ◌-◌, ◌≤◌, List, [], ◌∷◌, length, take, drop, Bool, true, false, Option, Some, None, if◌then◌else◌, take_while, ◌/◌, ◌==◌, length-append}
use Rattle.std.proofs.lemmas.List.{length-take, length-drop, append-nil}
use Rattle.std.specs.List.{prefix_len}
use Rattle.record_codec.specs.Entry.{Entry}
use Rattle.log_model.specs.Bases.{Base}
use Rattle.log_model.specs.Numbered.{Log, count_of, above}
use Rattle.request_fields.specs.declared.request.Request.{Request}
use Rattle.request_fields.specs.declared.request.Request.TheVariants.{Pull}
use Rattle.broker_model.specs.State.{State, Out, Saved, same_segment, next_batch, pending}
use Rattle.broker_model.specs.Events
use Rattle.broker_model.specs.Appended.{made_by, is_refused, moment}
use Rattle.broker_model.specs.Answers.{taken_of}
use Rattle.broker_model.specs.Step.{Step, changed, request_changed, after, with_records, stored, pull_offset, out_of, IsPossible, IsOut}
use Rattle.broker_model.specs.Lawful.{IfOut}
use Rattle.broker_model.specs.Removal.{IsBaseAfter}
use Rattle.core_laws.specs.Sound.{IsSound, Grows}
use Rattle.core_laws.proofs.Lists.{take_left, length_take}
use Rattle.core_laws.proofs.Bases.{base_none, base_same}
use Rattle.core_laws.proofs.Growth.{grows_same, grows_on}

-- ---- steps

abbrev Good : State → State → Type 0
Good s t = IsSound t × Grows s t

-- a state with the same log, numbers and batch
record Same (s t : State) : Type 0 where
  log : t.log ≡ s.log
  saved : t.saved ≡ s.saved
  flushed : t.flushed ≡ s.flushed
  dispatched : t.dispatched ≡ s.dispatched
  out : t.out ≡ s.out

same_good : (s t : State) → Same s t → IsSound s → Good s t
same_good s t same sound = (
  record {
    ahead = sound.ahead;
    saved = subst (λ (l : Log). IsBaseAfter l.base (take sound.ahead l.records) t.saved.base) (sym same.log) (subst (λ (v : Saved). IsBaseAfter s.log.base (take sound.ahead s.log.records) v.base) (sym same.saved) sound.saved);
    within = omega (arith, sound.within, same.dispatched, ap (λ (l : Log). l.base.records) same.log);
    dispatched = omega (arith, sound.dispatched, same.dispatched, same.flushed);
    flushed = omega (arith, sound.flushed, same.flushed, ap (λ (l : Log). l.base.records + length l.records) same.log);
    out = subst (λ (o : Option Out). IfOut o (λ x. t.flushed + x.count ≤ count_of t.log)) (sym same.out) (subst (λ (l : Log). IfOut s.out (λ x. t.flushed + x.count ≤ count_of l)) (sym same.log) (subst (λ (n : ℕ). IfOut s.out (λ x. n + x.count ≤ count_of s.log)) (sym same.flushed) sound.out));
  },
  record {
    more = [];
    gone = 0;
    low = omega arith;
    base = subst (λ (l : Log). IsBaseAfter s.log.base [] l.base) (sym same.log) (base_none s.log.base);
    log = ap (λ (l : Log). l.records) same.log ∙ sym (append-nil s.log.records);
    flushed = omega (arith, same.flushed);
    dispatched = omega (arith, same.dispatched);
  },
)

stored_same : (s : State) (group topic : List ℕ) (queue : ℕ) (offset : Option ℕ) → Same s (stored s group topic queue offset)
stored_same s group topic queue None = record { log = refl; saved = refl; flushed = refl; dispatched = refl; out = refl }
stored_same s group topic queue (Some offset) = record { log = refl; saved = refl; flushed = refl; dispatched = refl; out = refl }

request_same : (s : State) (link now : ℕ) (r : Request) → Same s (request_changed s link now r)
unfolding request_changed
request_same s link now (Pull p) = stored_same s p.group p.topic p.queue (pull_offset p)
request_same s link now _ = record { log = refl; saved = refl; flushed = refl; dispatched = refl; out = refl }

-- a state with the same log, and other numbers or another batch
numbers_good : (s t : State) → IsSound s → t.log ≡ s.log → t.saved ≡ s.saved → s.flushed ≤ t.flushed → s.dispatched ≤ t.dispatched → t.dispatched ≤ t.flushed → t.flushed ≤ count_of s.log → IfOut t.out (λ x. t.flushed + x.count ≤ count_of s.log) → Good s t
numbers_good s t sound log saved flushed dispatched order high out = (
  record {
    ahead = sound.ahead;
    saved = subst (λ (l : Log). IsBaseAfter l.base (take sound.ahead l.records) t.saved.base) (sym log) (subst (λ (v : Saved). IsBaseAfter s.log.base (take sound.ahead s.log.records) v.base) (sym saved) sound.saved);
    within = omega (arith, sound.within, dispatched, ap (λ (l : Log). l.base.records) log);
    dispatched = order;
    flushed = omega (arith, high, ap (λ (l : Log). l.base.records + length l.records) log);
    out = subst (λ (l : Log). IfOut t.out (λ x. t.flushed + x.count ≤ count_of l)) (sym log) out;
  },
  record {
    more = [];
    gone = 0;
    low = omega arith;
    base = subst (λ (l : Log). IsBaseAfter s.log.base [] l.base) (sym log) (base_none s.log.base);
    log = ap (λ (l : Log). l.records) log ∙ sym (append-nil s.log.records);
    flushed = flushed;
    dispatched = dispatched;
  },
)

while_few : {A : Type 0} (test : A → Bool) (xs : List A) → length (take_while test xs) ≤ length xs
while_few test xs = let front = length-take (prefix_len test xs) xs in omega (arith, front)

batch_few : (S : ℕ) (records : List Entry) → length (same_segment S records) ≤ length records
batch_few S [] = omega arith
batch_few S (r ∷ records) = while_few (λ s. s.offset / S == r.offset / S) (r ∷ records)

out_good : (s : State) (o : Option Out) (records : List Entry) → length records ≤ length (pending s) → IsSound s → Good s (out_of s (taken_of s o records))
out_good s (Some out) records few sound = (sound, grows_same s)
out_good s None [] few sound = (sound, grows_same s)
out_good s None (r ∷ records) few sound =
    let rest = length-drop (s.flushed - s.log.base.records) s.log.records in
    numbers_good s _ sound refl refl (omega arith) (omega arith) sound.dispatched sound.flushed (omega (arith, few, rest, sound.flushed, sound.within, sound.dispatched))

flushed_good : (s : State) (count : ℕ) (o : Option Out) → s.out ≡ o → IsOut o count → IsSound s → Good s (record s { flushed = s.flushed + count; out = None })
flushed_good s count None is h sound = absurd h
flushed_good s count (Some out) is h sound =
    let within : s.flushed + out.count ≤ count_of s.log = subst (λ (o : Option Out). IfOut o (λ x. s.flushed + x.count ≤ count_of s.log)) is sound.out in
    numbers_good s _ sound refl refl (omega arith) (omega arith) (omega (arith, sound.dispatched)) (omega (arith, within, h)) tt

pub saved_ahead : (s : State) → (sound : IsSound s) → s.saved.base.records - s.log.base.records ≡ sound.ahead
saved_ahead s sound = omega (arith, sound.saved.records, length_take sound.ahead s.log.records (omega (arith, sound.within, sound.dispatched, sound.flushed)))

trim_out : (o : Option Out) (f a b : ℕ) → a ≡ b → IfOut o (λ x. f + x.count ≤ a) → IfOut o (λ x. f + x.count ≤ b)
trim_out None f a b is h = tt
trim_out (Some x) f a b is h = omega (arith, h, is)

trim_good : (s : State) (base : Base) → base ≡ s.saved.base → IsSound s → Good s (record s { log = above s.log base })
trim_good s base is sound =
    let long : sound.ahead ≤ length s.log.records = omega (arith, sound.within, sound.dispatched, sound.flushed) in
    let total = length_take sound.ahead s.log.records long in
    let number : base.records - s.log.base.records ≡ sound.ahead = omega (arith, ap (λ (b : Base). b.records) is, sound.saved.records, total) in
    let records : base.records ≡ s.log.base.records + sound.ahead = omega (arith, ap (λ (b : Base). b.records) is, sound.saved.records, total) in
    let left = length-drop (base.records - s.log.base.records) s.log.records in (
      record {
        ahead = 0;
        saved = subst (IsBaseAfter base []) is (base_none base);
        within = omega (arith, records, sound.within);
        dispatched = sound.dispatched;
        flushed = omega (arith, records, number, left, long, sound.flushed);
        out = trim_out s.out s.flushed _ _ (omega (arith, records, number, left, long)) sound.out;
      },
      record {
        more = [];
        gone = base.records - s.log.base.records;
        low = omega (arith, number, long);
        base = base_same s.log.base base _ _ (ap (λ (n : ℕ). take n s.log.records) (sym number) ∙ ap (λ (l : List Entry). take (base.records - s.log.base.records) l) (sym (append-nil s.log.records)))
            (subst (IsBaseAfter s.log.base (take sound.ahead s.log.records)) (sym is) sound.saved);
        log = ap (λ (l : List Entry). drop (base.records - s.log.base.records) l) (sym (append-nil s.log.records));
        flushed = omega arith;
        dispatched = omega arith;
      },
    )

changed_good : (s : State) (e : Events.Event) → IsPossible s e → IsSound s → Good s (changed s e)
unfolding changed
changed_good s (Events.Asks a) possible sound = same_good s _ (request_same s a.link a.now a.request) sound
changed_good s Events.Take possible sound = out_good s s.out (next_batch s) (batch_few s.setup.segment (pending s)) sound
changed_good s (Events.Flushed count) possible sound = flushed_good s count s.out refl possible sound
changed_good s (Events.FlushFailed count) possible sound = numbers_good s _ sound refl refl (omega arith) (omega arith) sound.dispatched sound.flushed tt
changed_good s (Events.Dispatch most) possible sound = numbers_good s _ sound refl refl (omega arith) (omega (arith, sound.dispatched)) (omega arith) sound.flushed sound.out
changed_good s (Events.Trim base) possible sound = trim_good s base possible.0 sound
changed_good s _ possible sound = same_good s _ (record { log = refl; saved = refl; flushed = refl; dispatched = refl; out = refl }) sound

out_more : (o : Option Out) (f short long : ℕ) → short ≤ long → IfOut o (λ x. f + x.count ≤ short) → IfOut o (λ x. f + x.count ≤ long)
out_more None f short long h out = tt
out_more (Some x) f short long h out = omega (arith, h, out)

with_good : (s : State) (now : ℕ) (records : List Entry) → IsSound s → Good s (with_records s now records)
with_good s now [] sound = same_good s _ (record { log = refl; saved = refl; flushed = refl; dispatched = refl; out = refl }) sound
with_good s now (r ∷ records) sound =
    let more = length-append s.log.records (r ∷ records) in
    let long : sound.ahead ≤ length s.log.records = omega (arith, sound.within, sound.dispatched, sound.flushed) in (
      record {
        ahead = sound.ahead;
        saved = base_same s.log.base s.saved.base _ _ (sym (take_left sound.ahead s.log.records (r ∷ records) long)) sound.saved;
        within = sound.within;
        dispatched = sound.dispatched;
        flushed = omega (arith, sound.flushed, more);
        out = out_more s.out s.flushed _ _ (omega (arith, more)) sound.out;
      },
      record {
        more = r ∷ records;
        gone = 0;
        low = omega arith;
        base = base_none s.log.base;
        log = refl;
        flushed = omega arith;
        dispatched = omega arith;
      },
    )

after_good : (s : State) (e : Events.Event) → IsPossible s e → IsSound s → Good s (after s e)
unfolding after
after_good s e possible sound =
    elim (is_refused s e) as (λ b. Good s (if b then s else with_records (changed s e) (moment s e) (made_by s e))) [
      | true ↦ (sound, grows_same s)
      | false ↦ let first = changed_good s e possible sound in let next = with_good (changed s e) (moment s e) (made_by s e) first.0 in (next.0, grows_on s (changed s e) _ first.1 next.1)
    ]

pub step_good : (s t : State) (e : Events.Event) (said : Option Events.Answer) → Step s e said t → IsSound s → IsSound t × Grows s t
step_good s t e None step sound = subst (λ x. Good s x) (sym step.1) (sound, grows_same s)
step_good s t e (Some said) step sound = subst (λ x. Good s x) (sym step.2) (after_good s e step.0 sound)
