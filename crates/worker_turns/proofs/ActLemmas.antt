-- Acts behind acts.
use Rattle.std.proofs.Common.{◌≡◌, ◌≢◌, ⊎_elim, inl, inr, ◌++◌, List, [], ◌∷◌, Option, Some, None, refl, sym, ap, ◌∙◌, subst}
use Rattle.broker_events.specs.declared.event.Event.{Event}
use Rattle.broker_events.specs.Shown.{Shown, moved}
use Rattle.broker_events.specs.declared.event.Event.TheVariants.{Request, Take, Flushed, FlushFailed, Look, Dispatch, Deliver, Check, Leave}
use Rattle.broker_events.specs.declared.said.Said.{Said}
use Rattle.broker_events.specs.declared.said.Said.TheVariants as said
use Rattle.worker_turns.specs.Turns.{Steps, TakesFrom, Writes, HasEnded, WroteNone, CountsEnd}
use Rattle.worker_turns.specs.declared.flush.FlushEnd.{FlushEnd}
use Rattle.worker_turns.specs.declared.flush.FlushEnd.TheVariants.{Idle, Done, Failed, Misplaced, Memory}
use Rattle.worker_turns.specs.Acts.{Turn, Act, Made, Wrote, Missed, DiskView, Place, IsFree, IsBetween, TakesBatch, Happens, IsStill, IsUnwritten, HasUnwritten, Acts, Acted, change_of, synced_at}
use Rattle.log_model.specs.declared.batch.Batch.{Batch}
use Rattle.worker_turns.specs.Turning.{idle, IsTurn, BrokeBy}
use Rattle.worker_turns.specs.declared.broken.Broken.{Broken}
use Rattle.worker_turns.specs.declared.broken.Broken.TheVariants as broken

-- ---- a batch that was taken and not written

-- among acts it is among more
pub unwritten_behind : (first later : List Act) → HasUnwritten later → HasUnwritten (first ++ later)
unwritten_behind [] later has = has
unwritten_behind (act ∷ first) later has = inr (unwritten_behind first later has)

pub unwritten_before : (first later : List Act) → HasUnwritten first → HasUnwritten (first ++ later)
unwritten_before [] later has = absurd has
unwritten_before (act ∷ first) later has =
    ⊎_elim (λ (here : IsUnwritten act). inl here) (λ (there : HasUnwritten first). inr (unwritten_before first later there)) has

-- what broke acts off did so behind acts
pub broke_behind : (fault : Broken) (first later : List Act) → BrokeBy fault later → BrokeBy fault (first ++ later)
broke_behind broken.Misplaced first later broke = unwritten_behind first later broke
broke_behind broken.Memory first later broke = tt

-- out of memory says nothing of acts
pub memory_broke : (fault : Broken) (acts : List Act) → fault ≡ broken.Memory → BrokeBy fault acts
memory_broke fault acts is = subst (λ (f : Broken). BrokeBy f acts) (sym is) tt

-- the events that take no batch
abbrev pub IsOther : Event → Type 0
IsOther (Request link host now request) = Unit {0}
IsOther Take = ⊥
IsOther (Flushed receipt) = Unit {0}
IsOther (FlushFailed count) = Unit {0}
IsOther (Look number turn) = Unit {0}
IsOther (Dispatch most) = Unit {0}
IsOther (Deliver now) = Unit {0}
IsOther (Check now) = Unit {0}
IsOther (Leave link) = Unit {0}

pub takes_none : (e : Event) (what : Option Said) → IsOther e → TakesBatch e what → ⊥
takes_none e what other takes = subst (λ (it : Event). IsOther it) takes.event other

none_said : (batch : Batch) → ◌≡◌ {A = Option Said} (Some (said.Batch None)) (Some (said.Batch (Some batch))) → ⊥
none_said batch is = cc

nothing_said : (batch : Batch) → ◌≡◌ {A = Option Said} None (Some (said.Batch (Some batch))) → ⊥
nothing_said batch is = cc

-- nothing is pending
pub takes_idle : TakesBatch Take (Some (said.Batch None)) → ⊥
takes_idle takes = none_said takes.batch takes.said_is

-- no memory
takes_nothing : TakesBatch Take None → ⊥
takes_nothing takes = nothing_said takes.batch takes.said_is

module _ {C D : Type 0} (makes : Steps C) (view : DiskView D) where
  -- nothing happened
  pub still : (x : C) (p : Place D) → IsStill (change_of x p x p)
  still x p = record { calls = refl; place = refl }

  pub acts_then : (first later : List Act) (x y z : C) (p q r : Place D) → Acts makes view first (change_of x p y q) → Acts makes view later (change_of y q z r) → Acts makes view (first ++ later) (change_of x p z r)
  acts_then [] later x y z p q r before behind =
      subst (λ (w : C). Acts makes view later (change_of w p z r)) before.calls (subst (λ (m : Place D). Acts makes view later (change_of y m z r)) before.place behind)
  acts_then (act ∷ first) later x y z p q r before behind = (before.0, before.1, before.2, acts_then first later before.0 y z before.1 q r before.3 behind)

  -- one act
  pub one : (act : Act) (x y : C) (p q : Place D) → Happens makes view act (change_of x p y q) → Acts makes view (act ∷ []) (change_of x p y q)
  one act x y p q happens = (y, q, happens, still y q)

  -- one step, of which the disk knows nothing
  pub one_step : (e : Event) (what : Option Said) (x y : C) (p q : Place D) → IsBetween e → (TakesBatch e what → ⊥) → makes x e what y → q ≡ p → Acts makes view (Made e what ∷ []) (change_of x p y q)
  one_step e what x y p q between none made same =
      one (Made e what) x y p q (record { made = made; between = between; apart = λ takes from. none takes; still = same })

  -- acts of one kind, and behind them acts of another
  pub acted_then : (P Q R : List Act → Type 0) (x y z : C) (p q r : Place D) → Acted makes view P (change_of x p y q) → Acted makes view Q (change_of y q z r)
      → ((first later : List Act) → P first → Q later → R (first ++ later)) → Acted makes view R (change_of x p z r)
  acted_then P Q R x y z p q r first later joined = record {
    acts = first.acts ++ later.acts;
    kind = joined first.acts later.acts first.kind later.kind;
    happened = acts_then first.acts later.acts x y z p q r first.happened later.happened;
  }

  -- of one kind, and so of another
  pub acted_as : (P Q : List Act → Type 0) (x y : C) (p q : Place D) → ((acts : List Act) → P acts → Q acts) → Acted makes view P (change_of x p y q) → Acted makes view Q (change_of x p y q)
  acted_as P Q x y p q as_well acted = record { acts = acted.acts; kind = as_well acted.acts acted.kind; happened = acted.happened }

  -- of any kind
  pub acted_any : (P : List Act → Type 0) (x y : C) (p q : Place D) → Acted makes view P (change_of x p y q) → Acted makes view (λ acts. Unit {0}) (change_of x p y q)
  acted_any P x y p q acted = record { acts = acted.acts; kind = tt; happened = acted.happened }

  -- of a kind that is broken off, behind acts
  pub acted_broke : (P : List Act → Type 0) (fault : Broken) (x y z : C) (p q r : Place D) → Acted makes view P (change_of x p y q) → Acted makes view (BrokeBy fault) (change_of y q z r)
      → Acted makes view (BrokeBy fault) (change_of x p z r)
  acted_broke P fault x y z p q r first later =
      acted_then P (BrokeBy fault) (BrokeBy fault) x y z p q r first later (λ before behind is broke. broke_behind fault before behind broke)

  -- no act
  pub acted_none : (P : List Act → Type 0) (x : C) (p : Place D) → P [] → Acted makes view P (change_of x p x p)
  acted_none P x p none = record { acts = []; kind = none; happened = still x p }

  -- one flush turn
  pub turn_acted : (end : FlushEnd) (x y : C) (old new : Place D)
      → HasEnded makes (Writes view.tells (synced_at view old) (synced_at view new)) x end y
      → (WroteNone end → new ≡ old) → (TakesFrom makes x old.file → end ≢ Misplaced) → CountsEnd end (view.faults old.disk) (view.faults new.disk) → Acted makes view (IsTurn end) (change_of x old y new)
  turn_acted Idle x y old new ended same placed counts = record {
    acts = idle ∷ [];
    kind = refl;
    happened = one_step Take (Some (said.Batch None)) x y old new tt takes_idle (subst (λ (w : C). makes x Take (Some (said.Batch None)) w) ended.2 ended.1) (same tt);
  }
  turn_acted Done x y old new ended same placed counts =
      let turn : Turn = record { batch = ended.batch; receipt = ended.receipt; moment = (view.state new.disk).moment } in
      record {
        acts = Wrote turn ∷ [];
        kind = (turn, refl);
        happened = one (Wrote turn) x y old new (record { steps = ended.steps; is = ended.is; wrote = ended.wrote; ended = refl; still = counts });
      }
  turn_acted (Failed count) x y old new ended same placed counts = record {
    acts = Missed ended.batch count ∷ [];
    kind = (ended.batch, refl);
    happened = one (Missed ended.batch count) x y old new (record { steps = ended.steps; wrote = ended.wrote; rises = counts.0; count_is = counts.1 });
  }
  turn_acted Misplaced x y old new ended same placed counts =
      let took = Some (said.Batch (Some ended.batch)) in
      let failed = ended.steps.2 in
      record {
        acts = Made Take took ∷ Made (FlushFailed ended.count) (Some said.Done) ∷ [];
        kind = inl (record { batch = ended.batch; event = refl; said_is = refl });
        happened = (
          ended.steps.0,
          old,
          record { made = ended.steps.1; between = tt; apart = λ takes from. placed from refl; still = refl },
          one_step (FlushFailed ended.count) (Some said.Done) ended.steps.0 y old new tt (takes_none (FlushFailed ended.count) (Some said.Done) tt) (subst (λ (w : C). makes ended.steps.0 (FlushFailed ended.count) (Some said.Done) w) failed.2 failed.1) (same tt),
        );
      }
  turn_acted Memory x y old new ended same placed counts = record {
    acts = Made Take None ∷ [];
    kind = tt;
    happened = one_step Take None x y old new tt takes_nothing (subst (λ (w : C). makes x Take None w) ended.2 ended.1) (same tt);
  }

-- ---- who makes steps stays free

pub free_step : {C : Type 0} (makes : Steps C) (has_key : C → Type 0) (shown : C → Shown) (x : C) (e : Event) (what : Option Said) (y : C)
    → ((x : C) (e : Event) (what : Option Said) (y : C) → makes x e what y → has_key x → has_key y)
    → ((x : C) (e : Event) (what : Option Said) (y : C) → makes x e what y → has_key x → shown y ≡ moved (shown x) e what)
    → makes x e what y → (moved (shown x) e what).out ≡ (shown x).out → IsFree (has_key x) (shown x) → IsFree (has_key y) (shown y)
free_step makes has_key shown x e what y key_stays shown_moves made same free = record {
  key_is = key_stays x e what y made free.key_is;
  none_out = ap (λ (s : Shown). s.out) (shown_moves x e what y made free.key_is) ∙ same ∙ free.none_out;
}
