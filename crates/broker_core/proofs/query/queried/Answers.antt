use Rattle.std.proofs.Common.{◌∙◌, ◌<◌, ◌^◌, Vec}
use Rattle.std.proofs.lemmas.Result.{IfOk-weaker}
use Rattle.std.specs.declared.alloc.Global.{Global}
use Rattle.log_model.specs.Keys.{query_of}
use Rattle.reply_fields.specs.Slices.{body_len}
use Rattle.reply_fields.specs.declared.slice.Slice.{Slice}
use Rattle.broker_model.specs.State.{seen}
use Rattle.broker_events.specs.Replies.{AreSlicesOf}
use Rattle.broker_core.specs.Reads.{AreSlicesAt}
use Rattle.broker_core.proofs.QueryLemmas.{query_ranges, query_slices, query_bytes}
use Rattle.broker_core.proofs.query.queried.Goals as goal

pub slices_of-requires : goal.slices_of-requires
slices_of-requires c =
    let q = c.args.asked.now in
    let s = c.requires.0 in
    let are = c.requires.1 in
    query_ranges c.args.parts.now s q.topic q.key q.from q.to q.most _ are (c.as_slice.ensures.value ∙ c.in_ok-units.ensures s are)

pub returns-clause-found : goal.returns-clause-found
returns-clause-found c s are =
    let core = c.args.parts.now in
    let q = c.args.asked.now in
    let units = c.as_slice.ensures.value ∙ c.in_ok-units.ensures s are in
    IfOk-weaker c.slices_of.result (λ (slices : Vec Slice Global). AreSlicesAt core.stored slices.items c.as_slice.result.now)
    (λ (slices : Vec Slice Global). AreSlicesOf slices.items (query_of (seen s).records q.topic q.key q.from q.to q.most))
    (λ slices at. query_slices core s q.topic q.key q.from q.to q.most c.as_slice.result.now slices.items are units at) c.slices_of.ensures

pub returns-clause-within : goal.returns-clause-within
returns-clause-within c =
    let core = c.args.parts.now in
    let q = c.args.asked.now in
    let s = c.requires.0 in
    let are = c.requires.1 in
    let units = c.as_slice.ensures.value ∙ c.in_ok-units.ensures s are in
    IfOk-weaker c.slices_of.result (λ (slices : Vec Slice Global). AreSlicesAt core.stored slices.items c.as_slice.result.now)
    (λ (slices : Vec Slice Global). body_len slices.items < 2 ^ 30)
    (λ slices at. query_bytes core s q.topic q.key q.from q.to q.most slices.items are
    (query_slices core s q.topic q.key q.from q.to q.most c.as_slice.result.now slices.items are units at)) c.slices_of.ensures
