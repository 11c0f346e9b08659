use Rattle.std.proofs.Common.{◌≡◌, ℕ, List, subst}
use Rattle.mq_outside.specs.Disk.{DiskState}
use Rattle.record_codec.specs.Entry.{Entry}
use Rattle.log_model.specs.Bases.{Base, geometry}
use Rattle.log_model.specs.Store.{IsHonest, StoresLog}
use Rattle.log_model.specs.Stored.{stored}
use Rattle.log_model.specs.Told.{base_of}
use Rattle.log_recovery.specs.Recovered.{Handed, Kept, Recovered, StaysFlushed}
use Rattle.broker_model.specs.Tables.{TopicRow}
use Rattle.log_opening.specs.Opens.{IsKeptLog, IsOurLog}
use Rattle.log_opening.proofs.OpenLemmas.{loaded_in, kept_log, our_log}
use Rattle.log_opening.proofs.loading.load_log.Goals as goal

pub returns-in-Err-clause-flushed : goal.returns-in-Err-clause-flushed
returns-in-Err-clause-flushed g c = subst (λ (b : Base). g.D.Disk.tells → StaysFlushed (geometry c.args.segment b) (g.D.Disk.state c.args.disk.now) (g.D.Disk.state c.recover.new.disk)) c.none-base.ensures c.recover.ensures.flushed

pub returns-then-not-are_same-clause-flushed : goal.returns-then-not-are_same-clause-flushed
returns-then-not-are_same-clause-flushed g c = subst (λ (b : Base). g.D.Disk.tells → StaysFlushed (geometry c.args.segment b) (g.D.Disk.state c.args.disk.now) (g.D.Disk.state c.recover.new.disk)) c.none-base.ensures c.recover.ensures.flushed

pub returns-clause-flushed : goal.returns-clause-flushed
returns-clause-flushed g c = subst (λ (b : Base). g.D.Disk.tells → StaysFlushed (geometry c.args.segment b) (g.D.Disk.state c.args.disk.now) (g.D.Disk.state c.recover.new.disk)) c.none-base.ensures c.recover.ensures.flushed

pub returns-clause-loaded : goal.returns-clause-loaded
returns-clause-loaded g c =
    let same : c.recover.new.each.topics.now ≡ c.args.topics.now = c.are_same.ensures c.if-not-are_same.false in
    subst (λ (b : Base). Handed (geometry c.args.segment b) (loaded_in c.args.topics.now c.recover.new.each.loaded) c.in-Ok.end) c.none-base.ensures
    (subst (λ (t : List TopicRow). Handed (geometry c.args.segment (base_of c.none-base.result)) (loaded_in t c.recover.new.each.loaded) c.in-Ok.end) same (c.in-Ok.ensures.handed c.requires.topics))

pub returns-clause-kept : goal.returns-clause-kept
returns-clause-kept g c = λ tells.
    let old : DiskState = g.D.Disk.state c.args.disk.now in
    let new : DiskState = g.D.Disk.state c.recover.new.disk in
    let topics = c.args.topics.now in
    let loaded = c.recover.new.each.loaded in
    let same : c.recover.new.each.topics.now ≡ topics = c.are_same.ensures c.if-not-are_same.false in
    let S = geometry c.args.segment (base_of c.none-base.result) in
    subst (λ (b : Base). IsKeptLog (geometry c.args.segment b) topics old.reads new.reads (record { loaded = loaded; end = c.in-Ok.end })) c.none-base.ensures
    (kept_log S topics old.reads new.reads c.args.loaded (record { loaded = loaded; end = c.in-Ok.end }) c.requires.topics
    (subst (λ (t : List TopicRow). Kept S old.reads (loaded_in topics c.args.loaded) (loaded_in t loaded) c.in-Ok.end) same (c.in-Ok.ensures.kept tells)) (c.in-Ok.ensures.reads tells))

pub returns-clause-ours : goal.returns-clause-ours
returns-clause-ours g c = λ tells.
    let old : DiskState = g.D.Disk.state c.args.disk.now in
    let new : DiskState = g.D.Disk.state c.recover.new.disk in
    let topics = c.args.topics.now in
    let loaded = c.recover.new.each.loaded in
    let same : c.recover.new.each.topics.now ≡ topics = c.are_same.ensures c.if-not-are_same.false in
    let S = geometry c.args.segment (base_of c.none-base.result) in
    subst (λ (b : Base). (log : List Entry) (flushed : ℕ) → StoresLog (geometry c.args.segment b) log flushed old → IsHonest (geometry c.args.segment b) log flushed old.reads
    → IsOurLog (geometry c.args.segment b) topics log flushed new (record { loaded = loaded; end = c.in-Ok.end })) c.none-base.ensures
    (λ log flushed stores honest. our_log S topics log flushed new c.args.loaded (record { loaded = loaded; end = c.in-Ok.end }) c.requires.topics
    (g.met.D.Disk.reads_is_image c.recover.new.disk tells)
    (subst (λ (t : List TopicRow). Recovered (stored S log flushed) (loaded_in topics c.args.loaded) (loaded_in t loaded) new c.in-Ok.end) same (c.in-Ok.ensures.ours tells log flushed stores honest)))
