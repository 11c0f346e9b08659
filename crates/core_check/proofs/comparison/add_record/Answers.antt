use Rattle.std.proofs.Common.{◌≡◌, ◌∙◌, sym, subst, [], ◌∷◌, ◌++◌, Some, None, OnOk}
use Rattle.record_codec.specs.Entry.{Entry}
use Rattle.log_model.specs.Queues.{said_by}
use Rattle.queue_view.proofs.Lists.{some_one}
use Rattle.table_check.specs.Beside.{IsBeside}
use Rattle.core_check.proofs.EncodedLemmas.{encodable, reads}
use Rattle.core_check.proofs.comparison.add_record.Goals as goal

pub encode-requires : goal.encode-requires
encode-requires c = encodable c.args.r.now.draft c.args.r.now.place c.requires.layout c.in-Ok.ensures.passes.0

pub unreachable-requires : goal.unreachable-requires
unreachable-requires c =
    let again = reads c.deref.result.now c.new-bytes.result.items (said_by c.args.r.now) c.requires.layout (c.deref.ensures.value ∙ c.in_ok-encode.ensures.ok) c.new-bytes.ensures.items in
    let bad : None ≡ Some (said_by c.args.r.now) = sym c.in-None.is ∙ c.test.ensures.exact ∙ again in
    cc bad

pub returns-clause-beside : goal.returns-clause-beside
returns-clause-beside c records beside =
    let again = reads c.deref.result.now c.new-bytes.result.items (said_by c.args.r.now) c.requires.layout (c.deref.ensures.value ∙ c.in_ok-encode.ensures.ok) c.new-bytes.ensures.items in
    let view_is = some_one (c.in-Some.ensures.exact ∙ again) in
    subst (λ (r : Entry). OnOk c.add.result (IsBeside (records ++ r ∷ []) c.add.new.self)) view_is (c.add.ensures.beside records beside)
