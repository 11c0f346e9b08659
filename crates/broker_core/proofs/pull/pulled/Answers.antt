use Rattle.std.proofs.Common.{◌≡◌, subst, List, slice_get, Some}
use Rattle.record_codec.specs.declared.unit.Unit.{Unit as QueueUnit}
use Rattle.broker_model.specs.Answers.{pull_of}
use Rattle.broker_core.specs.Reads.{AreSlicesAt}
use Rattle.broker_core.proofs.PullLemmas.{answers_pull, has_ranges, pull_slices, pull_bytes}
use Rattle.broker_core.proofs.pull.pulled.Goals as goal

pub slices_of-requires : goal.slices_of-requires
slices_of-requires c k unit at =
    let core = c.args.parts.now in
    let q = c.args.asked.now in
    let s = c.requires.0 in
    let are = c.requires.1 in
    let answers = answers_pull core s q c.in_ok-tags.tags c.in_ok-found.found are (c.in_ok-tags.ensures s are) (c.in_ok-found.ensures s are) in
    has_ranges core s q c.in_ok-found.found are answers k unit (subst (λ (us : List QueueUnit). slice_get us k ≡ Some unit) c.as_slice.ensures.value at)

pub pull_reply-requires-clause-within : goal.pull_reply-requires-clause-within
pull_reply-requires-clause-within c =
    let core = c.args.parts.now in
    let q = c.args.asked.now in
    let s = c.requires.0 in
    let are = c.requires.1 in
    let answers = answers_pull core s q c.in_ok-tags.tags c.in_ok-found.found are (c.in_ok-tags.ensures s are) (c.in_ok-found.ensures s are) in
    pull_bytes core s q c.in_ok-found.found c.in_ok-slices.slices.items are answers
    (subst (λ (us : List QueueUnit). AreSlicesAt core.stored c.in_ok-slices.slices.items us) c.as_slice.ensures.value c.in_ok-slices.ensures)

pub returns : goal.returns
returns c s are =
    let core = c.args.parts.now in
    let q = c.args.asked.now in
    let answers = answers_pull core s q c.in_ok-tags.tags c.in_ok-found.found are (c.in_ok-tags.ensures s are) (c.in_ok-found.ensures s are) in
    c.pull_reply.ensures (pull_of s q) answers
    (pull_slices core s q c.in_ok-found.found c.in_ok-slices.slices.items are answers
    (subst (λ (us : List QueueUnit). AreSlicesAt core.stored c.in_ok-slices.slices.items us) c.as_slice.ensures.value c.in_ok-slices.ensures))
