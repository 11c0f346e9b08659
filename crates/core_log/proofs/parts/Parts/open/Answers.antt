use Rattle.std.proofs.Common.{◌∙◌, ap, ℕ, None}
use Rattle.record_codec.specs.Layout.{IsHost}
use Rattle.pending_log.specs.Parts.{PendingPart}
use Rattle.log_model.specs.Numbered.{count_of}
use Rattle.core_log.specs.Loads.{whole_log}
use Rattle.core_log.specs.Shows.{shown_in}
use Rattle.core_log.proofs.OpenLemmas.{has_loaded, count_is, represents_opened}
use Rattle.core_log.proofs.parts.Parts.open.Goals as goal

pub new-pending-requires-clause-few : goal.new-pending-requires-clause-few
new-pending-requires-clause-few c =
    let some = c.requires.some in
    (has_loaded c.args.setup some.0 some.1 c.args.loaded c.args.stored c.end-count.result some.2 c.end-count.ensures.value).few

pub new-pending-requires-clause-low : goal.new-pending-requires-clause-low
new-pending-requires-clause-low c =
    let some = c.requires.some in
    (has_loaded c.args.setup some.0 some.1 c.args.loaded c.args.stored c.end-count.result some.2 c.end-count.ensures.value).low

pub see_levels-requires-clause-some : goal.see_levels-requires-clause-some
see_levels-requires-clause-some c =
    let some = c.requires.some in
    let log = whole_log some.1 in
    let of_log = some.2.of_log in
    let tabled = c.see.ensures log of_log.rows of_log.tabled of_log.queues in
    (c.args.setup.segment, log, some.2.lawful, of_log.rows, tabled.0, of_log.levels c.args.setup.segment some.2.lawful)

pub returns-clause-represents : goal.returns-clause-represents
returns-clause-represents c saved records may =
    let host : IsHost c.args.setup.host = c.host_number-number.ensures.host in
    let log = whole_log records in
    let of_log = may.of_log in
    let tabled = c.see.ensures log of_log.rows of_log.tabled of_log.queues in
    represents_opened c.args.setup saved records c.args.loaded c.args.stored c.new-pending.result c.see_levels.new.levels c.see.new.queues c.new-clients.result c.end-count.result may host c.end-count.ensures.value
    c.new-pending.ensures.value c.new-pending.ensures.log tabled
    (c.see_levels.ensures c.args.setup.segment log may.lawful of_log.rows tabled.0 (of_log.levels c.args.setup.segment may.lawful))
    c.new-clients.ensures

pub returns-clause-shown : goal.returns-clause-shown
returns-clause-shown c saved records may =
    let same = count_is c.args.setup saved records c.args.loaded c.args.stored c.end-count.result may c.end-count.ensures.value in
    ap (λ (p : PendingPart). shown_in p) c.new-pending.ensures.value
    ∙ ap (λ (n : ℕ). record { flushed = n; end = c.args.loaded.end; out = None }) same
    ∙ ap (λ (n : ℕ). record { flushed = count_of (whole_log records); end = n; out = None }) may.of_log.end
