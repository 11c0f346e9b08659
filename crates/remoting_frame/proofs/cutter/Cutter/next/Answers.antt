use Rattle.std.proofs.Common.{◌≡◌, List, ℕ, length, Err, ap, ◌∙◌, arith, rules, length-drop}
use Rattle.remoting_frame.specs.Held.{Held}
use Rattle.remoting_frame.specs.Fronts.{front_view}
use Rattle.remoting_frame.proofs.FrontLaws.{waits, cut}
use Rattle.remoting_frame.proofs.FaultLaws.{front_has_header, fault_of_front}
use Rattle.remoting_frame.proofs.cutter.Cutter.next.Goals as goal

pub returns-in_err-front : goal.returns-in_err-front
returns-in_err-front c =
    let told : c.from_residual.result ≡ Err c.in_err-front.field-0.0 = search rules in
    rw told (fault_of_front c.args.self.now c.take_front.new.self c.in_err-front.field-0.0 c.in_err-front.ensures.front c.in_err-front.ensures.same)

pub returns-in_default-from_slice : goal.returns-in_default-from_slice
returns-in_default-from_slice c =
    let front = rw c.in-Some.is at c.in_ok-front.ensures.front in
    (front_has_header c.args.self.now.at c.args.self.now.bytes (front_view c.in-Some.front) front, c.in_ok-front.ensures.same)

pub returns-then-len : goal.returns-then-len
returns-then-len c =
    let front = rw c.in-Some.is at c.in_ok-front.ensures.front in
    let seen = c.self.view_is ∙ c.in_ok-front.ensures.same in
    let held = ap (λ (h : Held). length h.bytes) seen in
    (waits c.args.self.now.at c.args.self.now.bytes (front_view c.in-Some.front) front (omega (arith, held, c.len.ensures.value, c.if-len.true)), seen)

pub returns : goal.returns
returns c =
    let front = rw c.in-Some.is at c.in_ok-front.ensures.front in
    let seen = c.self.view_is ∙ c.in_ok-front.ensures.same in
    let at = ap (λ (h : Held). h.at) seen in
    let bytes = ap (λ (h : Held). h.bytes) seen in
    let held = ap (λ (h : Held). length h.bytes) seen in
    let found = cut c.args.self.now.at c.args.self.now.bytes (front_view c.in-Some.front) front (omega (arith, held, c.len.ensures.value, c.if-len.false)) in
    let left = ap (λ (w : List ℕ). length w) c.advance.ensures.items in
    (rw (c.of.ensures, c.in-Ok.ensures.items, c.as_slice.ensures, c.advance.ensures.items, at, bytes) found, omega (arith, left, length-drop c.in-Some.front.len c.self.inside.held.items, at, held, c.len.ensures.value, c.if-len.false))
