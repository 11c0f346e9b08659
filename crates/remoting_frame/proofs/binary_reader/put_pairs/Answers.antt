use Rattle.std.proofs.Common.{◌<◌, length, sym, subst, refl, ◌∙◌, rules}
use Rattle.remoting_frame.specs.Head.{IsInOrder}
use Rattle.remoting_frame.proofs.HeaderReading.{none_in_order}
use Rattle.remoting_frame.proofs.BinaryReading.{put_step}
use Rattle.remoting_frame.proofs.binary_reader.put_pairs.Goals as goal

pub loop-rest-init : goal.loop-rest-init
loop-rest-init c = record { so_far = rw c.requires refl; ordered = subst IsInOrder (sym c.requires) none_in_order }

pub loop-rest-preserved : goal.loop-rest-preserved
loop-rest-preserved c =
    let name = c.in-Some.name.now in
    let some : 0 < length c.loop-rest.rest.now = search rules in
    let step = put_step c.loop-rest.pairs c.put.new.self c.loop-rest.rest.now name c.in-Some.value.now c.in-Some.behind.now some (sym c.in-Some.ensures.pair) c.loop-rest.invariant.ordered c.in_ok-put.ensures.ok in
    record { so_far = step.0 ∙ c.loop-rest.invariant.so_far; ordered = step.1 }
