use Rattle.std.proofs.Common.{◌≡◌, ◌∙◌, List, All, IfOk, sym, subst}
use Rattle.std.proofs.lemmas.List.Elements.{All-nil}
use Rattle.broker_model.specs.State.{Saved}
use Rattle.broker_model.specs.Tables.{OffsetRow, TopicRow}
use Rattle.group_tables.specs.Offsets.{IsOffset}
use Rattle.config_store.specs.Texts.{IsKeptTopic}
use Rattle.log_opening.specs.Opens.{saved_as, no_saved, OpensLogWith, OpensKeptWith, OpensOursWith}
use Rattle.log_opening.proofs.opening.open_log.Goals as goal

pub open_log_with-requires-clause-offsets : goal.open_log_with-requires-clause-offsets
open_log_with-requires-clause-offsets g c =
    subst (λ (rows : List OffsetRow). All IsOffset rows) (sym (c.as_slice-offsets.ensures.value ∙ c.new-no_offsets.ensures.items)) (All-nil IsOffset)

pub open_log_with-requires-clause-topics : goal.open_log_with-requires-clause-topics
open_log_with-requires-clause-topics g c =
    subst (λ (rows : List TopicRow). All IsKeptTopic rows) (sym (c.as_slice-topics.ensures.value ∙ c.new-no_topics.ensures.items)) (All-nil IsKeptTopic)

pub returns-clause-represents : goal.returns-clause-represents
returns-clause-represents g c =
    let offsets = c.as_slice-offsets.ensures.value ∙ c.new-no_offsets.ensures.items in
    let topics = c.as_slice-topics.ensures.value ∙ c.new-no_topics.ensures.items in
    let none : saved_as c.as_slice-offsets.result.now c.as_slice-topics.result.now ≡ no_saved = λ i. saved_as (offsets i) (topics i) in
    subst (λ (saved : Saved). IfOk c.open_log_with.result (OpensLogWith c.args.setup saved)) none c.open_log_with.ensures.represents

pub returns-clause-kept : goal.returns-clause-kept
returns-clause-kept g c = λ told.
    let offsets = c.as_slice-offsets.ensures.value ∙ c.new-no_offsets.ensures.items in
    let topics = c.as_slice-topics.ensures.value ∙ c.new-no_topics.ensures.items in
    let none : saved_as c.as_slice-offsets.result.now c.as_slice-topics.result.now ≡ no_saved = λ i. saved_as (offsets i) (topics i) in
    subst (λ (saved : Saved). IfOk c.open_log_with.result (OpensKeptWith c.args.setup saved (g.D.Disk.state c.args.disk.now).reads)) none (c.open_log_with.ensures.kept told)

pub returns-clause-ours : goal.returns-clause-ours
returns-clause-ours g c = λ told log flushed stores honest.
    let offsets = c.as_slice-offsets.ensures.value ∙ c.new-no_offsets.ensures.items in
    let topics = c.as_slice-topics.ensures.value ∙ c.new-no_topics.ensures.items in
    let none : saved_as c.as_slice-offsets.result.now c.as_slice-topics.result.now ≡ no_saved = λ i. saved_as (offsets i) (topics i) in
    subst (λ (saved : Saved). IfOk c.open_log_with.result (OpensOursWith c.args.setup saved log flushed (g.D.Disk.state c.open_log_with.new.disk))) none
    (c.open_log_with.ensures.ours told log flushed stores honest)
