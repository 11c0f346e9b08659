-- What every crash leaves of a broker's log, happening by happening.
use Rattle.std.proofs.Common.{◌≡◌, ℕ, ◌+◌, ◌-◌, ◌≤◌, max, List, [], ◌∷◌, ◌++◌, length, take, drop, Option, Some, None, Ok, Err, refl, sym, ap, ◌∙◌, subst, arith, append-nil, append_assoc}
use Rattle.std.proofs.lemmas.List.{take-append-drop, take_at}
use Rattle.mq_outside.specs.Disk.{DiskState, EachImage}
use Rattle.mq_outside.specs.Files.{Files}
use Rattle.mq_outside.proofs.Moments.{at_start}
use Rattle.record_codec.specs.Entry.{Entry}
use Rattle.log_model.specs.Bases.{Geometry}
use Rattle.log_model.specs.Log.{IsWellFormed}
use Rattle.log_model.specs.Numbered.{Log, IsLawful}
use Rattle.log_model.specs.Segments.{AreSegmentFiles, layouts}
use Rattle.log_model.specs.Stored.{Stored, FlushTurn, flush_turn, HasFirst, KeepsAtLeast, stored, turned_by, turned_in, with_flushed, flushed_of}
use Rattle.log_model.specs.declared.batch.Batch.{Batch}
use Rattle.log_model.specs.declared.batch.Receipt.{Receipt}
use Rattle.log_model.proofs.Places.{well_formed_take}
use Rattle.log_model.specs.Store.{KeepsIfHonest, StoresLog}
use Rattle.log_model.proofs.StoredLemmas.{first_keeps, has_less, keeps_more, keeps_then, keeps_turn}
use Rattle.segment_files.specs.Turn.{IsReady, CanTurn, HasTurned, Growing, zeros_behind}
use Rattle.segment_files.proofs.Ready.{ready_more, ready_first_records, fault_ready}
use Rattle.broker_model.specs.State.{State, next_batch}
use Rattle.broker_model.specs.Events as events
use Rattle.broker_model.specs.Step.{Step}
use Rattle.broker_events.specs.Steps.{event_of, SaysIn}
use Rattle.broker_events.specs.declared.event.Event.{Event}
use Rattle.broker_events.specs.declared.event.Event.TheVariants.{Take, Flushed, FlushFailed}
use Rattle.broker_events.specs.declared.said.Said.{Said}
use Rattle.broker_events.specs.declared.said.Said.TheVariants as said
use Rattle.flush_story.specs.Story.{StepsAs, Reaches, AreBetween, Happening, Stepped, Ended, Broke, OutTurn, HasStepped, HasEnded, HasBroken, Happens, Story, turns_in, turns_of, steps_in, steps_of, span_of}
use Rattle.flush_story.specs.Keeping.{flushed_in, geometry_of, log_in, IsOpenFor, Grows, AreExact, Keeps}
use Rattle.flush_story.proofs.NextBatch.{step_takes, next_longer}
use Rattle.flush_story.proofs.Steps.{step_flushed, step_flushes, step_grows, grows_none, grows_then, log_grown}
use Rattle.flush_story.proofs.Turns.{turned_most, turned_push, order_on, order_push, exact_more, exact_later, exact_push}

-- ---- steps, one after another

pub reaches_grows : (s t : State) (steps : List (Event × Option Said)) → Reaches s steps t → Grows s t
reaches_grows s t [] reaches = subst (λ (u : State). Grows s u) (sym reaches) (grows_none s)
reaches_grows s t (it ∷ steps) reaches =
    grows_then s reaches.0 t (step_grows s reaches.0 it.0 reaches.1.answer reaches.1.step) (reaches_grows reaches.0 t steps reaches.2)

reaches_flushed : (s t : State) (steps : List (Event × Option Said)) → AreBetween steps → Reaches s steps t → t.flushed ≡ s.flushed
reaches_flushed s t [] between reaches = ap (λ (u : State). u.flushed) reaches
reaches_flushed s t (it ∷ steps) between reaches =
    reaches_flushed reaches.0 t steps between.1 reaches.2 ∙ step_flushed s reaches.0 it.0 reaches.1.answer between.0 reaches.1.step

pub reaches_then : (first later : List (Event × Option Said)) (s t u : State) → Reaches s first t → Reaches t later u → Reaches s (first ++ later) u
reaches_then [] later s t u before behind = subst (λ (w : State). Reaches w later u) before behind
reaches_then (it ∷ first) later s t u before behind = (before.0, before.1, reaches_then first later before.0 t u before.2 behind)

one_more : (s t u : State) (steps : List (Event × Option Said)) (e : Event) (what : Option Said) → Reaches s steps t → StepsAs t e what u → Reaches s (steps ++ (e, what) ∷ []) u
one_more s t u steps e what reaches step = reaches_then steps ((e, what) ∷ []) s t u reaches (u, step, refl)

-- ---- the log and the flushed number behind a happening

-- so many more records are flushed
pub record Moves (s t : State) (more : ℕ) : Type 0 where
  pub grows : Grows s t
  pub flushed : t.flushed ≡ s.flushed + more

-- of a batch that is flushed
answered_count : (s t : State) (receipt : Receipt) (answer : Option events.Answer) → SaysIn (Some said.Done) answer → Step s (event_of (Flushed receipt)) answer t → t.flushed ≡ s.flushed + receipt.count
answered_count s t receipt None says step = absurd says
answered_count s t receipt (Some answer) says step = step_flushes s t receipt answer step

pub step_moves : {P : Type 0} (e : Event) (what : Option Said) (s t : State) (old new : P) → HasStepped e what (span_of s old t new) → Moves s t 0
step_moves e what s t old new it = record {
  grows = step_grows s t e it.made.answer it.made.step;
  flushed = omega (arith, step_flushed s t e it.made.answer it.between it.made.step);
}

pub ended_moves : {P : Type 0} (tells : Type 0) (at : P → Growing) (turn : OutTurn) (receipt : Receipt) (moment : ℕ) (s t : State) (old new : P) → HasEnded tells at turn receipt moment (span_of s old t new) → Moves s t receipt.count
ended_moves tells at turn receipt moment s t old new it = record {
  grows = grows_then s it.full t
      (grows_then s it.out it.full (step_grows s it.out Take it.taken.answer it.taken.step) (reaches_grows it.out it.full turn.others it.others))
      (step_grows it.full t (Flushed receipt) it.flushed.answer it.flushed.step);
  flushed = omega (
    arith,
    step_flushed s it.out Take it.taken.answer tt it.taken.step,
    reaches_flushed it.out it.full turn.others it.between it.others,
    answered_count it.full t receipt it.flushed.answer it.flushed.says it.flushed.step,
  );
}

pub broken_moves : {P : Type 0} (tells : Type 0) (at : P → Growing) (turn : OutTurn) (count : ℕ) (s t : State) (old new : P) → HasBroken tells at turn count (span_of s old t new) → Moves s t 0
broken_moves tells at turn count s t old new it = record {
  grows = grows_then s it.full t
      (grows_then s it.out it.full (step_grows s it.out Take it.taken.answer it.taken.step) (reaches_grows it.out it.full turn.others it.others))
      (step_grows it.full t (FlushFailed count) it.failed.answer it.failed.step);
  flushed = omega (
    arith,
    step_flushed s it.out Take it.taken.answer tt it.taken.step,
    reaches_flushed it.out it.full turn.others it.between it.others,
    step_flushed it.full t (FlushFailed count) it.failed.answer tt it.failed.step,
  );
}

-- the numbers stay in order
pub low_then : (s t : State) (more : ℕ) → Moves s t more → s.log.base.records ≤ s.flushed → t.log.base.records ≤ t.flushed
low_then s t more moves low = omega (arith, moves.flushed, low, ap (λ (l : Log). l.base.records) moves.grows.log)

-- how many more a happening flushes
abbrev pub flushed_by : Happening → ℕ
flushed_by (Stepped e what) = 0
flushed_by (Ended turn receipt moment) = receipt.count
flushed_by (Broke turn count) = 0

pub happening_moves : {P : Type 0} (tells : Type 0) (at : P → Growing) (it : Happening) (s t : State) (old new : P) → Happens tells at it (span_of s old t new) → Moves s t (flushed_by it)
happening_moves tells at (Stepped e what) s t old new happens = step_moves e what s t old new happens
happening_moves tells at (Ended turn receipt moment) s t old new happens = ended_moves tells at turn receipt moment s t old new happens
happening_moves tells at (Broke turn count) s t old new happens = broken_moves tells at turn count s t old new happens

pub story_grows : {P : Type 0} (tells : Type 0) (at : P → Growing) (story : List Happening) (s t : State) (old new : P) → Story tells at story (span_of s old t new) → Grows s t
story_grows tells at [] s t old new happened = subst (λ (u : State). Grows s u) (sym happened.0) (grows_none s)
story_grows tells at (it ∷ story) s t old new happened =
    grows_then s happened.0 t (happening_moves tells at it s happened.0 old happened.1 happened.2).grows (story_grows tells at story happened.0 t happened.1 new happened.3)

-- ---- a log that grew

-- the front of a lawful log is lawful
pub lawful_before : (s t : State) → Grows s t → IsLawful t.setup.segment t.log → IsLawful s.setup.segment s.log
lawful_before s t grows lawful =
    let S : Geometry = geometry_of s in
    let whole : IsWellFormed S (s.log.records ++ grows.more) =
    subst (λ (it : Stored). IsWellFormed it.geometry it.log) (log_grown s t grows (flushed_in t) refl) lawful in
    subst (λ (l : List Entry). IsWellFormed S l) (take_at s.log.records grows.more (length s.log.records) refl) (well_formed_take S (length s.log.records) (s.log.records ++ grows.more) whole)

-- the next turn of the grown log can be made
ready_grown : (s t : State) (behind n : ℕ) (at : Growing) → IsLawful t.setup.segment t.log → (grows : Grows s t) → flushed_in t ≡ n → IsReady (stored (geometry_of s) s.log.records n) behind at
    → IsReady (log_in t) behind at
ready_grown s t behind n at lawful grows flushed ready =
    let same = log_grown s t grows n flushed in
    let well : IsWellFormed (geometry_of s) (s.log.records ++ grows.more) = subst (λ (it : Stored). IsWellFormed it.geometry it.log) same lawful in
    subst (λ (it : Stored). IsReady it behind at) (sym same) (ready_more (stored (geometry_of s) s.log.records n) grows.more behind at well ready)

kept_grown : (s t : State) (least : ℕ → ℕ) (old new : DiskState) → Grows s t → KeepsAtLeast (geometry_of s) s.log.records least old new → KeepsAtLeast (geometry_of t) t.log.records least old new
kept_grown s t least old new grows kept =
    subst (λ (it : Stored). KeepsAtLeast it.geometry it.log least old new) (sym (log_grown s t grows (flushed_in t) refl))
    (keeps_more (geometry_of s) s.log.records grows.more least old new kept)

exact_grown : (s t : State) (before : ℕ) (turns : List FlushTurn) (disk : DiskState) → Grows s t → before + turned_in turns ≤ length s.log.records
    → AreExact (geometry_of s) s.log.records before turns disk → AreExact (geometry_of t) t.log.records before turns disk
exact_grown s t before turns disk grows within exact =
    subst (λ (it : Stored). AreExact it.geometry it.log before turns disk) (sym (log_grown s t grows (flushed_in t) refl))
    (exact_more (geometry_of s) s.log.records grows.more before turns disk within exact)

-- ---- before the first happening

pub keeps_start : (s : State) (p : Growing) → IsOpenFor s p → Keeps s s [] p p
keeps_start s p first = record {
  grows = grows_none s;
  flushed = omega arith;
  kept = record {
    continues = at_start p.disk (λ files. Unit {0}) (record { at = λ files image. tt });
    each = λ m files low high image.
        let same : m ≡ p.disk.moment = omega (arith, low, high) in
        let here = (ready_first_records (log_in s) first.behind p.file p.disk first.ready).at files (subst (λ (k : ℕ). p.disk.image_at k files) same image) in
        has_less (geometry_of s) s.log.records (flushed_in s) (flushed_in s + 0) files (omega arith) here;
  };
  order = omega arith;
  exact = λ none. tt;
  ahead = refl;
  still_open = first;
}

-- ---- a step

-- the log grew, and nothing was flushed
keeps_grown : (s t u : State) (turns : List FlushTurn) (p q : Growing) → IsLawful u.setup.segment u.log → Grows t u → u.flushed ≡ t.flushed → Keeps s t turns p q → Keeps s u turns p q
keeps_grown s t u turns p q lawful grows same so_far =
    let within : flushed_in t ≤ length t.log.records = so_far.still_open.ready.writes.stores.within in
    let flushed : flushed_in u ≡ flushed_in t = omega (arith, same, ap (λ (l : Log). l.base.records) grows.log) in
    record {
      grows = grows_then s t u so_far.grows grows;
      flushed = flushed ∙ so_far.flushed;
      kept = kept_grown t u (λ m. flushed_in s + turned_by turns m) p.disk q.disk grows so_far.kept;
      order = so_far.order;
      exact = λ none. exact_grown t u (flushed_in s) turns q.disk grows (omega (arith, so_far.flushed, within)) (so_far.exact none);
      ahead = so_far.ahead;
      still_open = record {
        behind = so_far.still_open.behind;
        few = λ none. omega (arith, so_far.still_open.few none, next_longer t u grows same within);
        ready = ready_grown t u so_far.still_open.behind (flushed_in t) q lawful grows flushed so_far.still_open.ready;
      };
    }

-- ---- a turn

-- what a turn kept of the flushed records is kept of the log
kept_of_log : (it : Stored) (old new : DiskState) → KeepsAtLeast it.geometry (flushed_of it) (λ m. it.flushed) old new → KeepsAtLeast it.geometry it.log (λ m. it.flushed) old new
kept_of_log it old new kept =
    subst (λ (l : List Entry). KeepsAtLeast it.geometry l (λ m. it.flushed) old new) (take-append-drop it.flushed it.log)
    (keeps_more it.geometry (flushed_of it) (drop it.flushed it.log) (λ m. it.flushed) old new kept)

-- at other moments as many
pub kept_as : (S : Geometry) (log : List Entry) (least less : ℕ → ℕ) (old new : DiskState) → ((m : ℕ) → less m ≤ least m) → KeepsAtLeast S log least old new → KeepsAtLeast S log less old new
kept_as S log least less old new fewer kept = record {
  continues = kept.continues;
  each = λ m files low high image. has_less S log (least m) (less m) files (fewer m) (kept.each m files low high image);
}

-- a turn that ended Ok, from the state in which its batch was taken to the one in which it is flushed
keeps_ended : (s t u : State) (turns : List FlushTurn) (batch : Batch) (receipt : Receipt) (moment : ℕ) (p q r : Growing) → IsLawful u.setup.segment u.log
    → (so_far : Keeps s t turns p q) → Moves t u receipt.count → receipt.count ≡ batch.count → t.log.base.records ≤ t.flushed
    → (q.file.ahead ≡ 0 → so_far.still_open.behind ≤ length batch.bytes) → moment ≡ r.disk.moment
    → HasTurned {E = ℕ} (log_in t) so_far.still_open.behind batch (Ok receipt) q r → Keeps s u (turns ++ flush_turn receipt.count moment ∷ []) p r
keeps_ended s t u turns batch receipt moment p q r lawful so_far moves count low few ended turned =
    let S : Geometry = geometry_of t in
    let log : List Entry = t.log.records in
    let n : ℕ = flushed_in s + turned_in turns in
    let rest : ℕ = max (so_far.still_open.behind - length batch.bytes) (zeros_behind q.file) in
    let then : Stored = with_flushed batch.count (log_in t) in
    let within : flushed_in t + batch.count ≤ length log = turned.flushed.writes.stores.within in
    let flushed : flushed_in u ≡ flushed_in t + batch.count = omega (arith, moves.flushed, count, low, ap (λ (l : Log). l.base.records) moves.grows.log) in
    let here = subst (λ (k : ℕ). EachImage (HasFirst S log (k + batch.count)) r.disk) so_far.flushed (ready_first_records then rest r.file r.disk turned.flushed) in
    let during = subst (λ (k : ℕ). KeepsAtLeast S log (λ m. k) q.disk r.disk) so_far.flushed (kept_of_log (log_in t) q.disk r.disk turned.any_moment) in
    let last : FlushTurn = flush_turn batch.count r.disk.moment in
    let kept = keeps_turn S log (flushed_in s) batch.count turns p.disk q.disk r.disk so_far.kept during here in
    let later : q.disk.moment ≤ r.disk.moment = turned.any_moment.continues.later in
    let no_zeros : p.file.ahead ≡ 0 → q.file.ahead ≡ 0 = λ none. so_far.ahead ∙ none in
    let exact = λ (none : p.file.ahead ≡ 0).
    exact_push S log (flushed_in s) turns last r.disk (exact_later S log (flushed_in s) p.disk.moment turns q.disk r.disk turned.any_moment.continues so_far.order (so_far.exact none))
    (λ files image. subst (λ (k : ℕ). AreSegmentFiles S (take (k + batch.count) log) files) so_far.flushed ((turned.exact (no_zeros none) (few (no_zeros none))).at files image)) in
    let total : flushed_in s + turned_in (turns ++ last ∷ []) ≤ length log = omega (arith, within, so_far.flushed, turned_push turns last) in
    subst (λ (turn : FlushTurn). Keeps s u (turns ++ turn ∷ []) p r) (λ i. flush_turn (sym count i) (sym ended i)) (record {
      grows = grows_then s t u so_far.grows moves.grows;
      flushed = omega (arith, flushed, so_far.flushed, turned_push turns last);
      kept = kept_grown t u (λ m. flushed_in s + turned_by (turns ++ last ∷ []) m) p.disk r.disk moves.grows kept;
      order = order_push p.disk.moment q.disk.moment turns last later so_far.order;
      exact = λ none. exact_grown t u (flushed_in s) (turns ++ last ∷ []) r.disk moves.grows total (exact none);
      ahead = turned.ahead ∙ so_far.ahead;
      still_open = record {
        behind = rest;
        few = λ none. let was : q.file.ahead ≡ 0 = sym turned.ahead ∙ none in omega (arith, few was, was);
        ready = ready_grown t u rest (flushed_in t + batch.count) r lawful moves.grows flushed turned.flushed;
      };
    })

-- a turn that failed, before anything else is told
keeps_broken : (s t : State) (turns : List FlushTurn) (batch : Batch) (count : ℕ) (p q r : Growing) → (so_far : Keeps s t turns p q)
    → batch.bytes ≡ layouts (next_batch t) → CanTurn (log_in t) so_far.still_open.behind batch q
    → HasTurned {E = ℕ} (log_in t) so_far.still_open.behind batch (Err count) q r → Keeps s t turns p r
keeps_broken s t turns batch count p q r so_far bytes can turned =
    let S : Geometry = geometry_of t in
    let most : ℕ = max so_far.still_open.behind (length batch.bytes + zeros_behind q.file) in
    let during = kept_as S t.log.records (λ m. flushed_in t) (λ m. flushed_in s + turned_by turns m) q.disk r.disk (λ m. omega (arith, so_far.flushed, turned_most turns m))
    (kept_of_log (log_in t) q.disk r.disk turned.any_moment) in
    let later : q.disk.moment ≤ r.disk.moment = turned.any_moment.continues.later in
    record {
      grows = so_far.grows;
      flushed = so_far.flushed;
      kept = keeps_then S t.log.records (λ m. flushed_in s + turned_by turns m) p.disk q.disk r.disk so_far.kept during;
      order = order_on p.disk.moment q.disk.moment r.disk.moment turns later so_far.order;
      exact = λ none. exact_later S t.log.records (flushed_in s) p.disk.moment turns q.disk r.disk turned.any_moment.continues so_far.order (so_far.exact none);
      ahead = turned.ahead ∙ so_far.ahead;
      still_open = record {
        behind = most;
        few = λ none. let was : q.file.ahead ≡ 0 = sym turned.ahead ∙ none in omega (arith, so_far.still_open.few was, was, ap (λ (bs : List ℕ). length bs) bytes);
        ready = fault_ready (log_in t) so_far.still_open.behind most batch q r can turned.fault;
      };
    }

-- ---- a whole story

module _ {P : Type 0} (tells : Type 0) (at : P → Growing) where
  keeps_happening : tells → (s t u : State) (turns : List FlushTurn) (it : Happening) (p : Growing) (q r : P) → IsLawful u.setup.segment u.log → t.log.base.records ≤ t.flushed
      → Keeps s t turns p (at q) → Happens tells at it (span_of t q u r) → Keeps s u (turns ++ turns_in it) p (at r)
  keeps_happening told s t u turns (Stepped e what) p q r lawful low so_far it =
      let moves = step_moves e what t u q r it in
      let kept = keeps_grown s t u turns p (at q) lawful moves.grows (omega (arith, moves.flushed)) so_far in
      subst (λ (place : P). Keeps s u (turns ++ []) p (at place)) (sym it.still) (subst (λ (l : List FlushTurn). Keeps s u l p (at q)) (sym (append-nil turns)) kept)
  keeps_happening told s t u turns (Ended turn receipt moment) p q r lawful low so_far it =
      let batch = step_takes t it.out turn.batch low it.taken in
      let few : (at q).file.ahead ≡ 0 → so_far.still_open.behind ≤ length turn.batch.bytes = λ none. omega (arith, so_far.still_open.few none, ap (λ (bs : List ℕ). length bs) batch.1) in
      keeps_ended s t u turns turn.batch receipt moment p (at q) (at r) lawful so_far (ended_moves tells at turn receipt moment t u q r it) it.is.count low few it.ended
      (it.wrote told (log_in t) so_far.still_open.behind (record { ready = so_far.still_open.ready; next = batch.0 }))
  keeps_happening told s t u turns (Broke turn count) p q r lawful low so_far it =
      let batch = step_takes t it.out turn.batch low it.taken in
      let can : CanTurn (log_in t) so_far.still_open.behind turn.batch (at q) = record { ready = so_far.still_open.ready; next = batch.0 } in
      let moves = broken_moves tells at turn count t u q r it in
      let missed = keeps_broken s t turns turn.batch count p (at q) (at r) so_far batch.1 can (it.wrote told (log_in t) so_far.still_open.behind can) in
      subst (λ (l : List FlushTurn). Keeps s u l p (at r)) (sym (append-nil turns)) (keeps_grown s t u turns p (at r) lawful moves.grows (omega (arith, moves.flushed)) missed)

  pub keeps_story : tells → (s t u : State) (turns : List FlushTurn) (story : List Happening) (p : Growing) (q r : P) → IsLawful u.setup.segment u.log → t.log.base.records ≤ t.flushed
      → Keeps s t turns p (at q) → Story tells at story (span_of t q u r) → Keeps s u (turns ++ turns_of story) p (at r)
  keeps_story told s t u turns [] p q r lawful low so_far happened =
      subst (λ (place : P). Keeps s u (turns ++ []) p (at place)) (sym happened.1) (subst (λ (w : State). Keeps s w (turns ++ []) p (at q)) (sym happened.0)
      (subst (λ (l : List FlushTurn). Keeps s t l p (at q)) (sym (append-nil turns)) so_far))
  keeps_story told s t u turns (it ∷ story) p q r lawful low so_far happened =
      let mid : State = happened.0 in
      let place : P = happened.1 in
      let moves = happening_moves tells at it t mid q place happened.2 in
      let before = lawful_before mid u (story_grows tells at story mid u place r happened.3) lawful in
      let next = keeps_happening told s t mid turns it p q place before low so_far happened.2 in
      subst (λ (l : List FlushTurn). Keeps s u l p (at r)) (append_assoc turns (turns_in it) (turns_of story))
      (keeps_story told s mid u (turns ++ turns_in it) story p place r lawful (low_then t mid _ moves low) next happened.3)

  -- the steps of a story are a run of the model
  happening_reaches : (s t : State) (it : Happening) (old new : P) → Happens tells at it (span_of s old t new) → Reaches s (steps_in it) t
  happening_reaches s t (Stepped e what) old new it = (t, it.made, refl)
  happening_reaches s t (Ended turn receipt moment) old new it = (it.out, it.taken, one_more it.out it.full t turn.others (Flushed receipt) (Some said.Done) it.others it.flushed)
  happening_reaches s t (Broke turn count) old new it = (it.out, it.taken, one_more it.out it.full t turn.others (FlushFailed count) (Some said.Done) it.others it.failed)

  pub story_reaches : (s t : State) (story : List Happening) (old new : P) → Story tells at story (span_of s old t new) → Reaches s (steps_of story) t
  story_reaches s t [] old new happened = happened.0
  story_reaches s t (it ∷ story) old new happened =
      reaches_then (steps_in it) (steps_of story) s happened.0 t (happening_reaches s happened.0 it old happened.1 happened.2) (story_reaches happened.0 t story happened.1 new happened.3)

-- ---- what is kept, of honest files

pub keeps_recovers : (s t : State) (turns : List FlushTurn) (old new : Growing) → IsLawful t.setup.segment t.log → Keeps s t turns old new
    → (m : ℕ) (files : Files) → old.disk.moment ≤ m → m ≤ new.disk.moment → new.disk.image_at m files → KeepsIfHonest (geometry_of t) t.log.records (flushed_in s + turned_by turns m) files
keeps_recovers s t turns old new lawful kept m files low high image =
    first_keeps (geometry_of t) t.log.records (flushed_in s + turned_by turns m) files lawful (kept.kept.each m files low high image)

pub keeps_stores : (s t : State) (turns : List FlushTurn) (old new : Growing) → Keeps s t turns old new → StoresLog (geometry_of t) t.log.records (flushed_in t) new.disk
keeps_stores s t turns old new kept = record { shape = kept.still_open.ready.shape; reach = kept.still_open.ready.reach; at = kept.still_open.ready.writes.stores }
