-- A call in which nothing fails ends well.
use Rattle.std.proofs.Common.{◌≡◌, ◌⊎◌, ⊎_elim, inl, inr, ◌∙◌, ℕ, ◌<◌, List, [], Option, Some, None, Result, Ok, Err, length, codes, refl, sym, subst, arith}
use Rattle.std.proofs.lemmas.List.{append_cancel_left}
use Rattle.mq_outside.specs.Counts.{Rises}
use Rattle.remoting_frame.specs.Streams.{BeginsWith, nothing, part, faulty, IsCut}
use Rattle.remoting_frame.specs.declared.frame.Frame.{Frame}
use Rattle.remoting_frame.specs.declared.fault.FrameFault.{FrameFault}
use Rattle.remoting_frame.proofs.StreamLaws.{one_reading}
use Rattle.log_recovery.specs.declared.fault.RecoverFault.{RecoverFault}
use Rattle.log_recovery.specs.declared.fault.RecoverFault.TheVariants.{Damaged, Failed as DiskFailed, Memory as NoMemory}
use Rattle.store_open.specs.Words.{IsCommand}
use Rattle.store_open.specs.Openings.{FORMAT, IsForeign}
use Rattle.store_open.specs.declared.status.Status.{Status}
use Rattle.store_open.specs.declared.words.Command.{Command}
use Rattle.worker_turns.specs.declared.broken.Broken.{Broken}
use Rattle.worker_turns.specs.declared.broken.Broken.TheVariants as broken
use Rattle.pipe_stream.specs.Piping.{FaultAt, EndsInside, IsBadAt, EndsBy, stream_limit}
use Rattle.pipe_stream.specs.declared.stop.Halt.{Halt}
use Rattle.pipe_stream.specs.declared.stop.Halt.TheVariants.{BadFrame, Read, Stopped}
use Rattle.pipe_stream.specs.declared.stop.Stop.TheVariants as stops
use Rattle.mq_outside.specs.declared.faults.DiskFault.{DiskFault}
use Rattle.mq_outside.specs.declared.faults.DiskFault.TheVariants as keeper
use Rattle.config_store.specs.Faults.{IsBadText}
use Rattle.exit_status.specs.Statuses.{TellsDevice, StatusTellsFault}
use Rattle.exit_status.specs.Stores.{Misread, Refused, Unrecovered}
use Rattle.broker_run.specs.Promise.{Seen, KeepSeen, AllFaults, Causes, StatusTells, StatusOf, StatusAfter, before, store_seen, Served, IsNotServed, Call, IsQuiet, EndsWell}

-- ---- bytes that are whole frames

not_faulty : (fault : FrameFault) → nothing ≡ faulty fault → ⊥
not_faulty fault same = cc

not_part : (at : ℕ) → nothing ≡ part at → ⊥
not_part at same = cc

cut_whole : (bytes : List ℕ) (frames : List Frame) (end : ℕ) → BeginsWith 0 bytes frames end [] → IsCut bytes frames nothing
cut_whole bytes frames end cut = record { at = end; rest = []; begins = cut; stops = refl }

never_faulty : (bytes : List ℕ) (frames others : List Frame) (end at place : ℕ) (rest : List ℕ) → BeginsWith 0 bytes frames end [] → BeginsWith 0 bytes others at rest
    → FaultAt place (record { at = at; bytes = rest }) → ⊥
never_faulty bytes frames others end at place rest cut begins fault =
    not_faulty fault.fault (one_reading bytes frames others nothing (faulty fault.fault) (cut_whole bytes frames end cut)
    (record { at = at; rest = rest; begins = begins; stops = fault.is })).1

never_inside : (bytes : List ℕ) (frames others : List Frame) (end at place : ℕ) (rest : List ℕ) (source : Type 0) (left : List ℕ) → BeginsWith 0 bytes frames end []
    → BeginsWith 0 bytes others at rest → EndsInside place at rest source left → ⊥
never_inside bytes frames others end at place rest source left cut begins inside =
    not_part at (one_reading bytes frames others nothing (part at) (cut_whole bytes frames end cut)
    (record { at = at; rest = rest; begins = begins; stops = (inside.some, refl, inside.waits) })).1

never_bad : (bytes : List ℕ) (frames others : List Frame) (end at place : ℕ) (rest : List ℕ) (source : Type 0) (left : List ℕ) → BeginsWith 0 bytes frames end [] → length bytes < stream_limit
    → BeginsWith 0 bytes others at rest → IsBadAt place at rest bytes source left → ⊥
never_bad bytes frames others end at place rest source left cut few begins (inl fault) = never_faulty bytes frames others end at place rest cut begins fault
never_bad bytes frames others end at place rest source left cut few begins (inr (inl inside)) = never_inside bytes frames others end at place rest source left cut begins inside
never_bad bytes frames others end at place rest source left cut few begins (inr (inr limit)) = omega (arith, few, limit.1)

-- ---- what ended the call

module _ {D : Type 0} (words : List (List ℕ)) (status : Status) (seen : Seen D) (keep : KeepSeen) (old new : AllFaults) (quiet : IsQuiet words seen keep old new) (causes : Causes status old new) where
  -- neither the clock nor the keep is blamed
  no_device : status.code ≡ 10 → ⊥
  no_device ten = ⊎_elim
      (λ (clock : (status.name ≡ codes "clock") × Rises old.clock new.clock). quiet.clock_still clock.1)
      (λ (kept : (status.name ≡ codes "keep") × Rises old.keep new.keep). quiet.keep_still kept.1)
      (causes.device ten)

  quiet_reading : {A : Type 0} (ended : Result A Halt) (last : Option ℕ) → ((place : ℕ) → ended ≡ Err (BadFrame place) → ⊥) → StatusTells status ended last → EndsWell status
  quiet_reading (Ok done) None good tells = inl tells
  quiet_reading (Ok done) (Some count) good tells = absurd (quiet.disk_still (causes.disk_failed tells))
  quiet_reading (Err (BadFrame place)) last good tells = absurd (good place refl)
  quiet_reading (Err Read) last good tells = absurd (quiet.source_still (causes.read tells))
  quiet_reading (Err (Stopped stops.Sink)) last good tells = absurd (quiet.sink_still (causes.write tells))
  quiet_reading (Err (Stopped stops.Memory)) last good tells = inr tells
  quiet_reading (Err (Stopped stops.Clock)) last good (inl ten) = absurd (no_device ten.0)
  quiet_reading (Err (Stopped stops.Clock)) last good (inr memory) = inr memory
  quiet_reading (Err (Stopped stops.Misplaced)) last good tells = absurd tells

  quiet_status : {A : Type 0} (ended : Result A Halt) (last : Result (Option ℕ) Broken) → ((place : ℕ) → ended ≡ Err (BadFrame place) → ⊥) → StatusOf status ended last → EndsWell status
  quiet_status ended (Ok last) good tells = quiet_reading ended last good tells
  quiet_status ended (Err broken.Memory) good tells = inr tells
  quiet_status ended (Err broken.Misplaced) good tells = absurd tells

  -- nor for the kept files
  quiet_kept : TellsDevice status (codes "keep") → EndsWell status
  quiet_kept (inl ten) = absurd (no_device ten.0)
  quiet_kept (inr seven) = inr seven

  quiet_after : {A B : Type 0} (ended : Result A Halt) (last : Result (Option ℕ) Broken) (replaced : Result B DiskFault) → ((place : ℕ) → ended ≡ Err (BadFrame place) → ⊥)
      → StatusAfter status ended last replaced → EndsWell status
  quiet_after ended last (Ok done) good tells = quiet_status ended last good tells
  quiet_after ended last (Err keeper.Memory) good seven = inr seven
  quiet_after ended last (Err keeper.Failed) good (inl it) = quiet_kept it.1
  quiet_after ended last (Err keeper.Failed) good (inr it) = quiet_status ended last good it.0

  quiet_misread : Misread status (store_seen seen keep) → EndsWell status
  quiet_misread it = by_why it.why
    where
      by_why : ((status.code ≡ 8) × (status.place ≡ 0) × (keep.tells → IsBadText keep.old.reads status.name)) ⊎ ((status.code ≡ 7) ⊎ ((status.code ≡ 10) × (status.name ≡ codes "keep"))) → EndsWell status
      by_why (inl bad) = absurd (quiet.formed status.name (bad.2 quiet.keep_tells))
      by_why (inr (inl seven)) = inr seven
      by_why (inr (inr ten)) = absurd (no_device ten.0)

  quiet_served : (command : Command) → Served command status seen keep → EndsWell status
  quiet_served command served =
      let piped = served.some.ran.piped in
      let same : quiet.bytes ≡ piped.bytes = append_cancel_left seen.source.given quiet.bytes piped.bytes (sym quiet.given_is ∙ piped.given_is quiet.source_tells) in
      let cut = subst (λ (l : List ℕ). BeginsWith 0 l quiet.frames quiet.end []) same quiet.cut in
      let few = subst (λ (l : List ℕ). length l < stream_limit) same quiet.few in
      quiet_after served.ended served.last served.replaced
      (λ place is. never_bad piped.bytes quiet.frames piped.frames quiet.end piped.at place piped.rest seen.source.tells seen.source.left_then cut few piped.cut
      (subst (λ (r : Result (Unit {0}) Halt). EndsBy r piped.at piped.rest piped.bytes seen.source.tells seen.source.left_then) is piped.ends))
      served.tells

  quiet_unrecovered : (command : Command) → IsCommand words command → Unrecovered command.sizes status (store_seen seen keep) → EndsWell status
  quiet_unrecovered command asked it = by_fault it.log.fault it.log.told
    where
      by_fault : (fault : RecoverFault) → StatusTellsFault status fault → EndsWell status
      by_fault (Damaged place name) tells = absurd (quiet.undamaged command it.sizes asked (it.opened_as.sizes_are quiet.keep_tells) status.place status.name (it.log.damaged quiet.disk_tells tells.0).0)
      by_fault DiskFailed tells = absurd (quiet.disk_still (causes.disk_failed tells))
      by_fault NoMemory tells = inr tells

  -- the store was not opened
  quiet_refused : (status.code ≡ 6 → ⊥) → Refused status (store_seen seen keep) → EndsWell status
  quiet_refused own refused = by_code refused.refused
    where
      by_code : (status.code ≡ 5) ⊎ ((status.code ≡ 6) ⊎ ((status.code ≡ 7) ⊎ ((status.code ≡ 10) × (status.name ≡ codes "keep")))) → EndsWell status
      by_code (inl five) = absurd (quiet.disk_still (causes.disk_failed five))
      by_code (inr (inl six)) = absurd (own six)
      by_code (inr (inr (inl seven))) = inr seven
      by_code (inr (inr (inr kept))) = absurd (no_device kept.0)

  pub quiet_call : Call words status seen keep
      → (seen.disk.tells → keep.tells → status.code ≡ 6 → (command : Command) × IsCommand words command × IsForeign (before seen).reads (keep.old.reads FORMAT) command.sizes status.name) → EndsWell status
  quiet_call call foreign = ⊎_elim
      (λ (served : Served call.command status seen keep). quiet_served call.command served)
      (λ (other : IsNotServed call.command status seen keep). ⊎_elim
      (λ (refused : Refused status (store_seen seen keep)). quiet_refused
      (λ six. let it = foreign quiet.disk_tells quiet.keep_tells six in quiet.own it.0 status.name it.1 it.2) refused)
      (λ (later : Misread status (store_seen seen keep) ⊎ Unrecovered call.command.sizes status (store_seen seen keep)). ⊎_elim
      (λ (bad : Misread status (store_seen seen keep)). quiet_misread bad)
      (λ (lost : Unrecovered call.command.sizes status (store_seen seen keep)). quiet_unrecovered call.command call.asked lost)
      later)
      other.why)
      call.called
