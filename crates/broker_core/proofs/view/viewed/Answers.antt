use Rattle.std.proofs.Common.{◌∙◌, ◌<◌, ◌^◌, ap, sym, subst, List, [], ◌∷◌, option_to_list, Vec}
use Rattle.std.proofs.lemmas.Result.{IfOk-weaker}
use Rattle.std.specs.declared.alloc.Global.{Global}
use Rattle.reply_fields.specs.Slices.{body_len}
use Rattle.reply_fields.specs.declared.slice.Slice.{Slice}
use Rattle.broker_model.specs.State.{seen}
use Rattle.broker_model.specs.Answers.{viewed}
use Rattle.broker_events.specs.Replies.{AreSlicesOf}
use Rattle.broker_core.specs.Reads.{AreSlicesAt}
use Rattle.broker_core.proofs.QueryLemmas.{view_ranges, view_slices, view_bytes}
use Rattle.broker_core.proofs.view.viewed.Goals as goal

pub slices_of-requires : goal.slices_of-requires
slices_of-requires c =
    let s = c.requires.0 in
    let are = c.requires.1 in
    view_ranges c.args.parts.now s c.args.place (c.in-Some.unit ∷ []) are (sym (ap option_to_list c.in-Some.is) ∙ c.unit_seen.ensures s are)

pub returns-in-Some-clause-found : goal.returns-in-Some-clause-found
returns-in-Some-clause-found c s are =
    let core = c.args.parts.now in
    let units = sym (ap option_to_list c.in-Some.is) ∙ c.unit_seen.ensures s are in
    IfOk-weaker c.slices_of.result (λ (slices : Vec Slice Global). AreSlicesAt core.stored slices.items (c.in-Some.unit ∷ []))
    (λ (slices : Vec Slice Global). AreSlicesOf slices.items (viewed (seen s).records c.args.place))
    (λ slices at. view_slices core s c.args.place (c.in-Some.unit ∷ []) slices.items are units at) c.slices_of.ensures

pub returns-in-Some-clause-within : goal.returns-in-Some-clause-within
returns-in-Some-clause-within c =
    let core = c.args.parts.now in
    let s = c.requires.0 in
    let are = c.requires.1 in
    let units = sym (ap option_to_list c.in-Some.is) ∙ c.unit_seen.ensures s are in
    IfOk-weaker c.slices_of.result (λ (slices : Vec Slice Global). AreSlicesAt core.stored slices.items (c.in-Some.unit ∷ []))
    (λ (slices : Vec Slice Global). body_len slices.items < 2 ^ 30)
    (λ slices at. view_bytes core s c.args.place slices.items are (view_slices core s c.args.place (c.in-Some.unit ∷ []) slices.items are units at)) c.slices_of.ensures

pub returns-in-None-clause-found : goal.returns-in-None-clause-found
returns-in-None-clause-found c s are =
    subst (λ (slices : List Slice). AreSlicesOf slices (viewed (seen s).records c.args.place)) (sym c.new.ensures.items)
    (view_slices c.args.parts.now s c.args.place [] [] are (sym (ap option_to_list c.in-None.is) ∙ c.unit_seen.ensures s are) tt)
