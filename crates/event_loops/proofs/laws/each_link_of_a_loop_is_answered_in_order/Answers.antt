use Rattle.event_loops.proofs.laws.each_link_of_a_loop_is_answered_in_order.Goals as goal

pub returns : goal.returns
returns g c failures it made asks reads tale = record {
  passes = tale.passes;
  end = tale.end;
  both = tale.both;
  left = tale.left;
  now = tale.now;
  transcript = c.a_link_is_answered_in_order.ensures failures it.number it.peer tale.served.first tale.passes asks reads tale.now tale.served.fresh tale.served.went;
  given = tale.given;
  taken = tale.taken;
}
