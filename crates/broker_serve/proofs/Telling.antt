-- Which status tells what.
use Rattle.std.proofs.Common.{◌≡◌, ◌≢◌, ◌⊎◌, ⊎_elim, inl, inr, refl, sym, subst, ◌∙◌, arith, ℕ, List, Option, Some, None, IfSome, Result, Ok, Err}
use Rattle.std.specs.Prelude.{codes, IfNone, IsSome}
use Rattle.mq_outside.specs.Counts.{CountsDiskFault, Rises}
use Rattle.mq_outside.specs.Files.{Files, Same}
use Rattle.mq_outside.specs.Disk.{DiskState, Moves}
use Rattle.mq_outside.specs.declared.faults.DiskFault.{DiskFault}
use Rattle.mq_outside.specs.declared.faults.DiskFault.TheVariants as device
use Rattle.log_model.specs.Bases.{whole}
use Rattle.log_model.specs.Store.{IsDamagedAt}
use Rattle.log_recovery.specs.Recovered.{OnDamage, CountsRecoverFault}
use Rattle.log_recovery.specs.declared.fault.RecoverFault.{RecoverFault}
use Rattle.log_recovery.specs.declared.fault.RecoverFault.TheVariants as recovery
use Rattle.config_store.specs.Faults.{IsBadText, OnBadText, CountsConfigFault}
use Rattle.config_store.specs.declared.config.ConfigFault.{ConfigFault}
use Rattle.config_store.specs.declared.config.ConfigFault.TheVariants as config
use Rattle.worker_turns.specs.declared.flush.FlushEnd.{FlushEnd}
use Rattle.worker_turns.specs.declared.flush.FlushEnd.TheVariants as flush
use Rattle.event_loops.specs.declared.event_loop.LoopEnd.{LoopEnd}
use Rattle.event_loops.specs.declared.event_loop.LoopEnd.TheVariants as loops
use Rattle.store_open.specs.Openings.{FORMAT, AreSizesOf, OpeningCause, PutsOnly, StoreTold, store_told}
use Rattle.store_open.specs.ServeWords.{IsServeCommand}
use Rattle.store_open.specs.declared.format.Sizes.{Sizes}
use Rattle.store_open.specs.declared.serve_words.ServeCommand.{ServeCommand}
use Rattle.store_open.specs.declared.status.Status.{Status}
use Rattle.event_loops.specs.Doors.{GaveAll}
use Rattle.mq_peers.specs.Ended.{LinkEnd}
use Rattle.serve_threads.specs.Causes.{ServeFaults, WorldFaults, counts_of}
use Rattle.serve_threads.specs.Links.{LinksOver, AreAllThatCame, links_over, told_in}
use Rattle.broker_serve.specs.Serves.{AllLinks}
use Rattle.exit_status.specs.Statuses.{TellsDevice, StatusKept, StatusTellsFault, StatusTellsConfig}
use Rattle.exit_status.proofs.KeepLemmas.{bad_before}
use Rattle.broker_serve.specs.Statuses.{StatusTellsLoops, StatusTellsEnd, AllWell, StatusLeft}
use Rattle.broker_serve.specs.Statuses.{StatusTellsReader, ShutOut, Unopened, Unserved, IsDamagedLog, IsDamagedIn, IsDamagedFor, TellsWhy}

-- ---- links were served

-- a status that names a device isn't 0
device_told : (status : Status) (name : List ℕ) → TellsDevice status name → status.code ≡ 0 → ⊥
device_told status name (inl ten) zero = omega (arith, ten.0, zero)
device_told status name (inr seven) zero = omega (arith, seven, zero)

-- with status 0 the loops ended of themselves
ended_well : (code : ℕ) (status : Status) (end : LoopEnd) → StatusTellsLoops code status end → status.code ≡ 0 → (end ≡ loops.Done) × (code ≡ 0)
ended_well code status loops.Done tells zero = (refl, sym tells ∙ zero)
ended_well code status loops.Stopped tells zero = absurd (omega (arith, tells, zero))
ended_well code status loops.Clock tells zero = absurd (device_told status (codes "clock") tells zero)
ended_well code status loops.Door tells zero = absurd (device_told status (codes "door") tells zero)
ended_well code status loops.Poll tells zero = absurd (device_told status (codes "door") tells zero)
ended_well code status loops.Memory tells zero = absurd (omega (arith, tells, zero))

-- and the last flush turn didn't fail
all_well : (status : Status) (end : LoopEnd) (last : FlushEnd) → StatusTellsEnd status end last → status.code ≡ 0 → AllWell end last
all_well status end flush.Idle tells zero = ((ended_well 0 status end tells zero).0, tt)
all_well status end flush.Done tells zero = ((ended_well 0 status end tells zero).0, tt)
all_well status end (flush.Failed count) tells zero = let five = (ended_well 5 status end tells zero).1 in absurd (omega (arith, five))
all_well status end flush.Misplaced tells zero = absurd (omega (arith, tells, zero))
all_well status end flush.Memory tells zero = absurd (omega (arith, tells, zero))

-- the status behind the last replacement of the kept files
pub left_tells : (status else_told : Status) (end : LoopEnd) (last : FlushEnd) (kept : Result (Unit {0}) DiskFault) → StatusTellsEnd else_told end last → StatusKept status else_told kept → StatusLeft status end last kept
left_tells status else_told end last (Ok done) tells is = subst (λ (s : Status). StatusTellsEnd s end last) (sym is) tells
left_tells status else_told end last (Err device.Memory) tells is = is
left_tells status else_told end last (Err device.Failed) tells (inl is) = inl (all_well else_told end last tells is.0, is.1)
left_tells status else_told end last (Err device.Failed) tells (inr is) =
    inr (subst (λ (s : Status). StatusTellsEnd s end last × (s.code ≢ 0)) (sym is.1) (tells, is.0))

-- with status 0 they were replaced
pub zero_kept : (status : Status) (end : LoopEnd) (last : FlushEnd) (kept : Result (Unit {0}) DiskFault) → StatusLeft status end last kept → status.code ≡ 0 → kept ≡ Ok tt
zero_kept status end last (Ok done) tells zero = refl
zero_kept status end last (Err device.Memory) tells zero = absurd (omega (arith, tells, zero))
zero_kept status end last (Err device.Failed) (inl tells) zero = absurd (device_told status (codes "keep") tells.1 zero)
zero_kept status end last (Err device.Failed) (inr tells) zero = absurd (tells.1 zero)

-- and the loops ended of themselves
pub zero_done : (status : Status) (end : LoopEnd) (last : FlushEnd) (kept : Result (Unit {0}) DiskFault) → StatusLeft status end last kept → status.code ≡ 0 → end ≡ loops.Done
zero_done status end last (Ok done) tells zero = (all_well status end last tells zero).0
zero_done status end last (Err device.Memory) tells zero = absurd (omega (arith, tells, zero))
zero_done status end last (Err device.Failed) (inl tells) zero = absurd (device_told status (codes "keep") tells.1 zero)
zero_done status end last (Err device.Failed) (inr tells) zero = absurd (tells.1 zero)

-- ---- the links that have ended

turn_memory : (status : Status) (last : FlushEnd) → StatusTellsEnd status loops.Memory last → status.code ≡ 7
turn_memory status flush.Idle tells = tells
turn_memory status flush.Done tells = tells
turn_memory status (flush.Failed count) tells = tells
turn_memory status flush.Misplaced tells = tells
turn_memory status flush.Memory tells = tells

-- where the loops ended for want of memory the status says so
left_memory : (status : Status) (last : FlushEnd) (kept : Result (Unit {0}) DiskFault) → StatusLeft status loops.Memory last kept → status.code ≡ 7
left_memory status last (Ok done) tells = turn_memory status last tells
left_memory status last (Err device.Memory) tells = tells
left_memory status last (Err device.Failed) (inl tells) = absurd (cc (tells.0.0))
left_memory status last (Err device.Failed) (inr tells) = turn_memory status last tells.0

told_some : {N : Type 0} (told : Type 0) (ends : Option (N × N)) → IsSome ends → told → told_in told ends
told_some told None some is = absurd (cc some)
told_some told (Some ends) some is = is

-- those that the threads told are told, unless the status says that there was no memory
pub links_left : {N : Type 0} (tells told : Type 0) (entries : N → List LinkEnd) (status : Status) (end : LoopEnd) (last : FlushEnd) (kept : Result (Unit {0}) DiskFault) (old new : ℕ)
    (ends left : Option (N × N)) → left ≡ ends → StatusLeft status end last kept → (end ≢ loops.Memory → IsSome ends) → AreAllThatCame old new (links_over tells told entries ends)
    → AllLinks told status (old, new) (links_over tells told entries left)
links_left tells told entries status end last kept old new ends left same why some all =
    subst (λ (x : Option _). AllLinks told status (old, new) (links_over tells told entries x)) (sym same)
    (record {
      told = λ other is. told_some told ends (some (λ memory. other (left_memory status last kept (subst (λ (e : LoopEnd). StatusLeft status e last kept) memory why)))) is;
      all = all;
    })

-- seen from before the door was opened
pub links_from : {A : Type 0} (left : Option A) (tells : Type 0) (status : Status) (old mid new : ℕ) (links : LinksOver) → mid ≡ old
    → IfSome left (λ core. AllLinks tells status (mid, new) links) → IfSome left (λ core. AllLinks tells status (old, new) links)
links_from left tells status old mid new links same all = subst (λ (n : ℕ). IfSome left (λ core. AllLinks tells status (n, new) links)) same all

-- ---- no links were served

-- what is said of the status and the store of a run that ended before links were served
pub why_unserved : {A S : Type 0} (P : Status → S → Type 0) (left : Option A) (told status : Status) (then store : S) → left ≡ None → told ≡ status → then ≡ store → P status store → IfNone left (P told then)
why_unserved P left told status then store none same same_store is =
    subst (λ (o : Option _). IfNone o (P told then)) (sym none) (subst (λ (s : Status). P s then) (sym same) (subst (λ t. P status t) (sym same_store) is))

-- nothing is said of links that weren't
pub none_of : {X : Type 0} (P : X → Type 0) (left : Option X) → left ≡ None → IfSome left P
none_of {X} P left is = subst (λ (o : Option X). IfSome o P) (sym is) tt

-- nothing is said where they were
pub why_served : {A : Type 0} (P : Type 0) (left : Option A) (core : A) → left ≡ Some core → IfNone left P
why_served P left core some = subst (λ (o : Option _). IfNone o P) (sym some) tt

pub why_then : {A P Q : Type 0} (left : Option A) → (P → Q) → IfNone left P → IfNone left Q
why_then None more is = more is
why_then (Some core) more is = tt

-- there was no memory to begin
pub out_of_memory : (status : Status) (disk disk_then : ℕ) → status.code ≡ 7 → ShutOut status disk disk_then
out_of_memory status disk disk_then seven = inr (inr seven)

pub no_reader : (status : Status) (fault : DiskFault) (disk disk_then : ℕ) → StatusTellsReader status fault → CountsDiskFault {A = Unit {0}} (Err fault) disk disk_then → ShutOut status disk disk_then
no_reader status device.Failed disk disk_then tells counts = inl (tells, counts)
no_reader status device.Memory disk disk_then tells counts = inr (inr tells)

pub door_told : (status : Status) → (status.code ≡ 10) ⊎ (status.code ≡ 7) → (status.code ≢ 7 → status.name ≡ codes "door") → TellsDevice status (codes "door")
door_told status (inl ten) named = inl (ten, named (λ seven. omega (arith, ten, seven)))
door_told status (inr seven) named = inr seven

pub not_recovered : (tells : Type 0) (segment : ℕ) (files : Files) (status : Status) (fault : RecoverFault) (disk disk_then : ℕ) → StatusTellsFault status fault
    → (tells → OnDamage {A = Unit {0}} (Err fault) (IsDamagedAt (whole segment) files)) → CountsRecoverFault {A = Unit {0}} (Err fault) disk disk_then
    → Unopened (IsDamagedLog tells segment files) status disk disk_then
not_recovered tells segment files status (recovery.Damaged place name) disk disk_then told damaged counts =
    inl (told.0, λ it. subst (λ (n : ℕ). IsDamagedAt (whole segment) files n status.name) (sym told.1) (subst (λ (t : List ℕ). IsDamagedAt (whole segment) files place t) (sym told.2) (damaged it)))
not_recovered tells segment files status recovery.Failed disk disk_then told damaged counts = inr (inl (told, counts))
not_recovered tells segment files status recovery.Memory disk disk_then told damaged counts = inr (inr (inr told))

-- seen from before the log was opened
pub shut_out : (damaged : ℕ → List ℕ → Type 0) (status : Status) (disk opened disk_then : ℕ) → opened ≡ disk → ShutOut status opened disk_then → Unopened damaged status disk disk_then
shut_out damaged status disk opened disk_then same is = inr (subst (λ (n : ℕ). ShutOut status n disk_then) same is)

pub not_loaded : (tells : Type 0) (segment : ℕ) (files : Files) (keeps : Type 0) (texts : Files) (status : Status) (fault : ConfigFault) (disk disk_then keep keep_then : ℕ)
    → StatusTellsConfig status fault → (keeps → OnBadText {A = Unit {0}} (Err fault) (IsBadText texts)) → CountsConfigFault {A = Unit {0}} (Err fault) keep keep_then
    → Unserved (IsDamagedIn segment (store_told tells files keeps texts)) status disk disk_then keep keep_then
not_loaded tells segment files keeps texts status (config.BadText name) disk disk_then keep keep_then (inl told) bad counts =
    inr (inl (told.0, inr (told.1, λ it. subst (λ (n : List ℕ). IsBadText texts n) (sym told.2) (bad it))))
not_loaded tells segment files keeps texts status (config.BadText name) disk disk_then keep keep_then (inr seven) bad counts = inr (inr (out_of_memory status disk disk_then seven))
not_loaded tells segment files keeps texts status config.Failed disk disk_then keep keep_then (inl told) bad counts = inl (told.0, told.1, counts)
not_loaded tells segment files keeps texts status config.Failed disk disk_then keep keep_then (inr seven) bad counts = inr (inr (out_of_memory status disk disk_then seven))
not_loaded tells segment files keeps texts status config.Memory disk disk_then keep keep_then seven bad counts = inr (inr (out_of_memory status disk disk_then seven))

-- seen from before the kept files were loaded
pub not_opened : (tells : Type 0) (segment : ℕ) (files : Files) (keeps : Type 0) (texts : Files) (status : Status) (disk disk_then keep keep_then : ℕ)
    → Unopened (IsDamagedLog tells segment files) status disk disk_then → Unserved (IsDamagedIn segment (store_told tells files keeps texts)) status disk disk_then keep keep_then
not_opened tells segment files keeps texts status disk disk_then keep keep_then (inl damaged) = inr (inl (damaged.0, inl damaged.1))
not_opened tells segment files keeps texts status disk disk_then keep keep_then (inr shut) = inr (inr shut)

-- the store was not opened
pub not_formed : (damaged : ℕ → List ℕ → Type 0) (status : Status) (disk disk_then keep keep_then : ℕ) → OpeningCause status disk disk_then keep keep_then
    → (status.code ≡ 6) ⊎ Unserved damaged status disk disk_then keep keep_then
not_formed damaged status disk disk_then keep keep_then (inl failed) = inr (inr (inr (inl failed)))
not_formed damaged status disk disk_then keep keep_then (inr (inl six)) = inl six
not_formed damaged status disk disk_then keep keep_then (inr (inr (inl seven))) = inr (inr (inr (out_of_memory status disk disk_then seven)))
not_formed damaged status disk disk_then keep keep_then (inr (inr (inr kept))) = inr (inl kept)

module _ (words : List (List ℕ)) (command : ServeCommand) (sizes : Sizes) (tells keeps : Type 0) (format : List ℕ) (disk disk_opened keep keep_opened : DiskState)
    (same : tells → Moves Same disk disk_opened) (sizes_are : keeps → AreSizesOf (keep.reads FORMAT) command.sizes sizes) (puts : keeps → PutsOnly format keep keep_opened) where
  damaged_for : (place : ℕ) (name : List ℕ) → IsDamagedIn sizes.segment (store_told tells disk_opened.reads keeps keep_opened.reads) place name → IsDamagedFor command (store_told tells disk.reads keeps keep.reads) place name
  damaged_for place name (inl log) = (sizes, sizes_are, inl (λ it. subst (λ (f : Files). IsDamagedAt (whole sizes.segment) f place name) (same it).reads (log it)))
  damaged_for place name (inr text) = (sizes, sizes_are, inr (text.0, λ it. bad_before format keep keep_opened name (puts it) (text.1 it)))

  before_opening : (status : Status) (d d_then k k_then : ℕ) → Unserved (IsDamagedIn sizes.segment (store_told tells disk_opened.reads keeps keep_opened.reads)) status d d_then k k_then
      → Unserved (IsDamagedFor command (store_told tells disk.reads keeps keep.reads)) status d d_then k k_then
  before_opening status d d_then k k_then (inl kept) = inl kept
  before_opening status d d_then k k_then (inr (inl damaged)) = inr (inl (damaged.0, damaged_for status.place status.name damaged.1))
  before_opening status d d_then k k_then (inr (inr shut)) = inr (inr shut)

  -- seen from before the store was opened
  pub tells_why : (status : Status) (d d_opened d_then k k_opened k_then : ℕ) (world world_then : WorldFaults) → IsServeCommand words command → d_opened ≡ d → k_opened ≡ k
      → Unserved (IsDamagedIn sizes.segment (store_told tells disk_opened.reads keeps keep_opened.reads)) status d_opened d_then k_opened k_then
      → TellsWhy words (store_told tells disk.reads keeps keep.reads) status (counts_of d k world) (counts_of d_then k_then world_then)
  tells_why status d d_opened d_then k k_opened k_then world world_then asked same_disk same_keep is =
      inr (
        command,
        asked,
        inr (inr (subst (λ (n : ℕ). Unserved (IsDamagedFor command (store_told tells disk.reads keeps keep.reads)) status n d_then k k_then) same_disk
            (subst (λ (n : ℕ). Unserved (IsDamagedFor command (store_told tells disk.reads keeps keep.reads)) status d_opened d_then n k_then) same_keep
            (before_opening status d_opened d_then k_opened k_then is)))),
      )

-- ---- how many links came

-- what is said of links that were served
pub some_of : {X : Type 0} (P : X → Type 0) (left : Option X) (core : X) → left ≡ Some core → P core → IfSome left P
some_of {X} P left core is so = subst (λ (o : Option X). IfSome o P) (sym is) so

-- the same bounds, and the same count at first
pub came_from : {X : Type 0} (left : Option X) (zero : Type 0) (asked most : Option ℕ) (old was new : ℕ) → most ≡ asked → was ≡ old
    → IfSome left (λ core. zero → GaveAll most was new) → IfSome left (λ core. zero → GaveAll asked old new)
came_from None zero asked most old was new same_most same_count came = tt
came_from (Some core) zero asked most old was new same_most same_count came = λ is.
    subst (λ (n : ℕ). GaveAll asked n new) same_count (subst (λ (m : Option ℕ). GaveAll m was new) same_most (came is))

not_shut : (status : Status) (disk disk_then : ℕ) → ShutOut status disk disk_then → status.code ≡ 0 → ⊥
not_shut status disk disk_then (inl five) zero = omega (arith, five.0, zero)
not_shut status disk disk_then (inr told) zero = device_told status (codes "door") told zero

-- where no links were served the status isn't 0
not_zero : (words : List (List ℕ)) (store : StoreTold) (status : Status) (old new : ServeFaults) → TellsWhy words store status old new → status.code ≡ 0 → ⊥
not_zero words store status old new (inl one) zero = omega (arith, one, zero)
not_zero words store status old new (inr why) zero =
    ⊎_elim (λ nine. omega (arith, nine, zero))
    (λ rest. ⊎_elim (λ six. omega (arith, six, zero))
    (λ un. ⊎_elim (λ (keep : (status.code ≡ 10) × (status.name ≡ codes "keep") × Rises old.keep new.keep). omega (arith, keep.0, zero))
    (λ shut. ⊎_elim (λ damaged. omega (arith, damaged.0, zero)) (λ out. not_shut status old.disk new.disk out zero) shut) un) rest) why.2

pub none_zero : {X : Type 0} (left : Option X) (words : List (List ℕ)) (store : StoreTold) (status : Status) (old new : ServeFaults) → left ≡ None
    → IfNone left (TellsWhy words store status old new) → status.code ≡ 0 → ⊥
none_zero None words store status old new none why = not_zero words store status old new why
none_zero (Some core) words store status old new none why = absurd (cc none)

-- with status 0 links were served, and as many came as the words ask for
pub all_came : {X : Type 0} (left : Option X) (words : List (List ℕ)) (store : StoreTold) (status : Status) (old new : ServeFaults) (command : ServeCommand) (gave gave_then : ℕ)
    → IsServeCommand words command → IfNone left (TellsWhy words store status old new) → IfSome left (λ core. status.code ≡ 0 → GaveAll command.connections gave gave_then) → status.code ≡ 0
    → (asked : ServeCommand) × IsServeCommand words asked × GaveAll asked.connections gave gave_then
all_came None words store status old new command gave gave_then fits why came zero = absurd (not_zero words store status old new why zero)
all_came (Some core) words store status old new command gave gave_then fits why came zero = (command, fits, came zero)
