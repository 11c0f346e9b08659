use Rattle.std.proofs.Common.{◌∙◌, ◌≡◌, sym, subst, Some}
use Rattle.std.proofs.lemmas.Option.{same_Some}
use Rattle.record_codec.specs.Layout.{IsRecord}
use Rattle.broker_core.proofs.CheckedOrigins.{member_in}
use Rattle.broker_core.proofs.check_back.half_of.Goals as goal

pub copied-requires : goal.copied-requires
copied-requires c =
    let it = c.requires in
    let s = it.0 in
    let member = it.3 in
    let whole : Some c.in-Some.whole.now ≡ Some it.1 =
    rw c.in-Some.is at (c.whole.ensures.found s.setup.segment s.log member.first it.2.state.log it.2.halves member.named member.unsettled ∙ member.stands) in
    let stands = member_in s.log.records c.args.origin c.args.half it.1 member.stands in
    subst IsRecord (sym (same_Some c.in-Some.whole.now it.1 whole)) (it.2.state.log.each stands.index it.1 stands.at).layout
