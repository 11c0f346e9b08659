-- What was written of a log, by how its reading ended.
use Rattle.std.proofs.Common.{◌≡◌, ◌≢◌, ◌⊎◌, ◌∙◌, ⊎_elim, inl, inr, ℕ, List, [], ◌++◌, length, true, false, Err, sym, ap, subst, arith}
use Rattle.mq_outside.specs.Counts.{Rises}
use Rattle.mq_outside.specs.declared.stream.Sink.{Ghosts}
use Rattle.record_codec.specs.Entry.{Entry}
use Rattle.log_model.specs.Bases.{Geometry}
use Rattle.log_model.specs.Log.{IsWellFormed, end_of}
use Rattle.log_recovery.specs.Visits.{IsGiven, OnStop}
use Rattle.log_recovery.specs.declared.fault.RecoverFault.{RecoverFault}
use Rattle.log_recovery.specs.declared.fault.RecoverFault.TheVariants.{Damaged, Failed as DiskFailed, Memory}
use Rattle.store_open.specs.declared.status.Status.{Status}
use Rattle.store_open.specs.declared.tool_words.Tool.TheVariants as tools
use Rattle.tool_run.specs.Texts.{text_of, dump_text, verify_text, damaged_line}
use Rattle.tool_run.specs.Tools.{CountsReport, Failed, Reports, TookAll, TookPart, TookOrFailed, seen_of}
use Rattle.tool_run.specs.Writes.{HasBroken, HasDumped, Told}
use Rattle.tool_run.specs.declared.dump.Dump.{Dump}
use Rattle.tool_run.specs.declared.lines.Lines.{Lines}
use Rattle.tool_run.proofs.WriteLemmas.{part_told, told_none}
use Rattle.tool_run.proofs.ReportLemmas.{nothing_taken, reports_damage, reports_part, reports_whole}

-- ---- one of two codes

pub other : {A B : Type 0} → A ⊎ B → (A → ⊥) → B
other (inl a) none = absurd (none a)
other (inr b) none = b

-- a number that is one of two is no third
pub neither : (n a b c : ℕ) → (n ≡ a) ⊎ (n ≡ b) → (a ≡ c → ⊥) → (b ≡ c → ⊥) → n ≢ c
neither n a b c (inl e) not_a not_b same = not_a (sym e ∙ same)
neither n a b c (inr e) not_a not_b same = not_b (sym e ∙ same)

pub none_of_three : (n a b d c : ℕ) → (n ≡ a) ⊎ ((n ≡ b) ⊎ (n ≡ d)) → (a ≡ c → ⊥) → (b ≡ c → ⊥) → (d ≡ c → ⊥) → n ≢ c
none_of_three n a b d c (inl e) not_a not_b not_d same = not_a (sym e ∙ same)
none_of_three n a b d c (inr rest) not_a not_b not_d same = neither n b d c rest not_b not_d same

-- ---- a reading that ended early

pub stopped_damaged : (A : Type 0) (fault : RecoverFault) (place : ℕ) (name : List ℕ) (P Q : Type 0) → fault ≡ Damaged place name
    → OnStop {A = A} (Err fault) P Q → P
stopped_damaged A fault place name P Q is stop = subst (λ (f : RecoverFault). OnStop {A = A} (Err f) P Q) is stop

pub stopped_failed : (A : Type 0) (fault : RecoverFault) (P Q : Type 0) → fault ≡ DiskFailed → OnStop {A = A} (Err fault) P Q → P
stopped_failed A fault P Q is stop = subst (λ (f : RecoverFault). OnStop {A = A} (Err f) P Q) is stop

pub stopped_memory : (A : Type 0) (fault : RecoverFault) (P Q : Type 0) → fault ≡ Memory → OnStop {A = A} (Err fault) P Q → P ⊎ Q
stopped_memory A fault P Q is stop = subst (λ (f : RecoverFault). OnStop {A = A} (Err f) P Q) is stop

-- ---- the counts

pub counts_whole : (status : Status) (sink sink_then disk disk_then : ℕ)
    → (status.code ≡ 0) ⊎ ((status.code ≡ 4) ⊎ (status.code ≡ 7)) → (status.code ≡ 4 → Rises sink sink_then)
    → CountsReport status sink sink_then disk disk_then
counts_whole status sink sink_then disk disk_then known rises = record {
  write = rises;
  disk_failed = λ five. absurd (none_of_three status.code 0 4 7 5 known (λ e. omega (arith, e)) (λ e. omega (arith, e)) (λ e. omega (arith, e)) five);
  known = ⊎_elim (λ (e : status.code ≡ 0). inl e)
      (λ (rest : (status.code ≡ 4) ⊎ (status.code ≡ 7)). ⊎_elim (λ (e : status.code ≡ 4). inr (inl e)) (λ (e : status.code ≡ 7). inr (inr (inr (inl e)))) rest) known;
}

-- ---- `dump`

-- nothing was handed on yet
pub dump_start : {K : Type 0} (it : Ghosts K) (dump : Dump K) → dump.lines.held.items ≡ [] → dump.lines.failed ≡ false
    → Told it dump.lines.sink dump.lines (dump_text [])
dump_start it dump empty well = told_none it dump.lines empty well

-- the lines of a record's log, from the first sink on
pub told_from : {K : Type 0} (it : Ghosts K) (first sink : K) (lines : Lines K) (text : List ℕ) → sink ≡ first → Told it sink lines text
    → Told it first lines text
told_from {K = K} it first sink lines text same told = subst (λ (k : K). Told it k lines text) same told

-- the whole text was written, or the sink failed
pub dumped : {K : Type 0} (it : Ghosts K) (S : Geometry) (first sink : K) (lines : Lines K) (status : Status) (records : List Entry)
    → IsWellFormed S records → Told it first lines (dump_text records)
    → ((k : K) (text : List ℕ) → Told it k lines text → status.code ≡ 0 → TookAll (seen_of it k sink) text)
    → ((k : K) (text : List ℕ) → Told it k lines text → status.code ≡ 4 → Failed (seen_of it k sink) text)
    → (status.code ≡ 0) ⊎ (status.code ≡ 4) → Reports tools.Dump S status (seen_of it first sink)
dumped it S first sink lines status records lawful told whole failed known = reports_whole tools.Dump S status (seen_of it first sink) records lawful
    (whole first (dump_text records) told) (neither status.code 0 4 8 known (λ e. omega (arith, e)) (λ e. omega (arith, e)))
    (λ not_done. (failed first (dump_text records) told (other known not_done)).part)

-- the line of the damage followed, or memory ran out before
pub dumped_damage : {K : Type 0} (it : Ghosts K) (S : Geometry) (first sink : K) (lines : Lines K) (status : Status) (records : List Entry)
    (place : ℕ) (name : List ℕ) → IsWellFormed S records → Told it first lines (dump_text records)
    → ((k : K) (text : List ℕ) → Told it k lines text → status.code ≡ 8 → TookOrFailed (seen_of it k sink) (text ++ damaged_line name place))
    → (status.code ≡ 7 → sink ≡ lines.sink) → (status.code ≡ 8 → (status.place ≡ place) × (status.name ≡ name))
    → (status.code ≡ 7) ⊎ (status.code ≡ 8) → Reports tools.Dump S status (seen_of it first sink)
dumped_damage {K = K} it S first sink lines status records place name lawful told line memory said known =
    reports_damage tools.Dump S status (seen_of it first sink) records place name lawful (line first (dump_text records) told) said
    (neither status.code 7 8 0 known (λ e. omega (arith, e)) (λ e. omega (arith, e)))
    (λ undamaged. subst (λ (k : K). TookPart (seen_of it first k) (dump_text records))
    (sym (memory (⊎_elim (λ (e : status.code ≡ 7). e) (λ (e : status.code ≡ 8). absurd (undamaged e)) known)))
    (part_told it first lines (dump_text records) told))

-- nothing more was written
pub dumped_part : {K : Type 0} (it : Ghosts K) (S : Geometry) (first sink : K) (lines : Lines K) (status : Status) (records : List Entry)
    → TookPart (seen_of it first lines.sink) (dump_text records) → sink ≡ lines.sink → status.code ≢ 0 → status.code ≢ 8
    → Reports tools.Dump S status (seen_of it first sink)
dumped_part {K = K} it S first sink lines status records took same no_end no_damage = reports_part tools.Dump S status (seen_of it first sink) records
    no_end no_damage (subst (λ (k : K). TookPart (seen_of it first k) (dump_text records)) (sym same) took)

-- the sink failed, or memory ran out: of what was handed on all lines were told, or some lines should have been told
pub dumped_broken : {K : Type 0} (it : Ghosts K) (S : Geometry) (start now : Dump K) (sink : K) (status : Status)
    → sink ≡ now.lines.sink → (status.code ≡ 4) ⊎ (status.code ≡ 7)
    → IsGiven S (λ records. HasDumped it start records now) ⊎ HasBroken it start now
    → Reports tools.Dump S status (seen_of it start.lines.sink sink)
dumped_broken it S start now sink status same known (inl given) = dumped_part it S start.lines.sink sink now.lines status given.records
    (part_told it start.lines.sink now.lines (dump_text given.records) given.handed) same
    (neither status.code 4 7 0 known (λ e. omega (arith, e)) (λ e. omega (arith, e)))
    (neither status.code 4 7 8 known (λ e. omega (arith, e)) (λ e. omega (arith, e)))
dumped_broken it S start now sink status same known (inr broke) = dumped_part it S start.lines.sink sink now.lines status broke.0 broke.1.took same
    (neither status.code 4 7 0 known (λ e. omega (arith, e)) (λ e. omega (arith, e)))
    (neither status.code 4 7 8 known (λ e. omega (arith, e)) (λ e. omega (arith, e)))

failed_rises : {K : Type 0} (it : Ghosts K) (S : Geometry) (start now : Dump K) → now.lines.failed ≡ true
    → IsGiven S (λ records. HasDumped it start records now) ⊎ HasBroken it start now
    → Rises (it.faults start.lines.sink) (it.faults now.lines.sink)
failed_rises it S start now failed (inl given) = let both : false ≡ true = sym given.handed.well ∙ failed in absurd (cc)
failed_rises it S start now failed (inr broke) = broke.1.failed failed

pub counts_broken : {K : Type 0} (it : Ghosts K) (S : Geometry) (start now : Dump K) (sink : K) (status : Status) (disk disk_then : ℕ)
    → sink ≡ now.lines.sink → (status.code ≡ 4 → now.lines.failed ≡ true) → (status.code ≡ 4) ⊎ (status.code ≡ 7)
    → IsGiven S (λ records. HasDumped it start records now) ⊎ HasBroken it start now
    → CountsReport status (it.faults start.lines.sink) (it.faults sink) disk disk_then
counts_broken {K = K} it S start now sink status disk disk_then same failed known so_far = counts_whole status _ _ disk disk_then (inr known)
    (λ four. subst (λ (k : K). Rises (it.faults start.lines.sink) (it.faults k)) (sym same) (failed_rises it S start now (failed four) so_far))

-- ---- `verify`

-- the text that was written is that of the log
verified_text : (S : Geometry) (records : List Entry) (count end : ℕ) → count ≡ length records → end ≡ end_of S.base records
    → verify_text count end ≡ text_of tools.Verify S records
verified_text S records count end counted ends =
    ap (λ (n : ℕ). verify_text n end) counted ∙ ap (λ (n : ℕ). verify_text (length records) n) ends

pub verified_all : {K : Type 0} (it : Ghosts K) (S : Geometry) (first sink : K) (records : List Entry) (count end : ℕ)
    → count ≡ length records → end ≡ end_of S.base records → TookAll (seen_of it first sink) (verify_text count end)
    → TookAll (seen_of it first sink) (text_of tools.Verify S records)
verified_all it S first sink records count end counted ends took =
    subst (λ (l : List ℕ). TookAll (seen_of it first sink) l) (verified_text S records count end counted ends) took

-- the whole text was written, or the sink failed, or memory ran out
pub verified : {K : Type 0} (it : Ghosts K) (S : Geometry) (first sink : K) (status : Status) (records : List Entry) (count end : ℕ)
    → IsWellFormed S records → count ≡ length records → end ≡ end_of S.base records
    → (status.code ≡ 0 → TookAll (seen_of it first sink) (verify_text count end))
    → (status.code ≡ 4 → Failed (seen_of it first sink) (verify_text count end)) → (status.code ≡ 7 → sink ≡ first)
    → (status.code ≡ 0) ⊎ ((status.code ≡ 4) ⊎ (status.code ≡ 7)) → Reports tools.Verify S status (seen_of it first sink)
verified it S first sink status records count end lawful counted ends whole failed memory known =
    let same = verified_text S records count end counted ends in
    reports_whole tools.Verify S status (seen_of it first sink) records lawful
    (λ code. subst (λ (l : List ℕ). TookAll (seen_of it first sink) l) same (whole code))
    (none_of_three status.code 0 4 7 8 known (λ e. omega (arith, e)) (λ e. omega (arith, e)) (λ e. omega (arith, e)))
    (λ not_done. ⊎_elim
    (λ (four : status.code ≡ 4). subst (λ (l : List ℕ). TookPart (seen_of it first sink) l) same (failed four).part)
    (λ (seven : status.code ≡ 7). nothing_taken (seen_of it first sink) (text_of tools.Verify S records) (ap it.taken (memory seven)))
    (other known not_done))

-- the line of the damage was written, or memory ran out before
pub verified_damage : {K : Type 0} (it : Ghosts K) (S : Geometry) (first sink : K) (lines : Lines K) (status : Status) (records : List Entry)
    (place : ℕ) (name : List ℕ) → IsWellFormed S records → Told it first lines [] → lines.sink ≡ first
    → (status.code ≡ 8 → (status.place ≡ place) × (status.name ≡ name))
    → ((k : K) (text : List ℕ) → Told it k lines text → status.code ≡ 8 → TookOrFailed (seen_of it k sink) (text ++ damaged_line name place))
    → (status.code ≡ 7 → sink ≡ lines.sink) → (status.code ≡ 7) ⊎ (status.code ≡ 8) → Reports tools.Verify S status (seen_of it first sink)
verified_damage it S first sink lines status records place name lawful told same said line memory known =
    reports_damage tools.Verify S status (seen_of it first sink) records place name lawful (line first [] told) said
    (neither status.code 7 8 0 known (λ e. omega (arith, e)) (λ e. omega (arith, e)))
    (λ undamaged. nothing_taken (seen_of it first sink) (text_of tools.Verify S records)
    (ap it.taken (memory (⊎_elim (λ (e : status.code ≡ 7). e) (λ (e : status.code ≡ 8). absurd (undamaged e)) known) ∙ same)))

-- nothing was written
pub verified_nothing : {K : Type 0} (it : Ghosts K) (S : Geometry) (first sink : K) (status : Status) (records : List Entry) → sink ≡ first
    → status.code ≢ 0 → status.code ≢ 8 → Reports tools.Verify S status (seen_of it first sink)
verified_nothing it S first sink status records same no_end no_damage = reports_part tools.Verify S status (seen_of it first sink) records
    no_end no_damage (nothing_taken (seen_of it first sink) (text_of tools.Verify S records) (ap it.taken same))
