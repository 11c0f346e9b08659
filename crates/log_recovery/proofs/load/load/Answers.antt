use Rattle.std.proofs.Common.{◌≡◌, ◌∙◌, None, Some, ap, arith}
use Rattle.std.proofs.lemmas.Option.{same_Some}
use Rattle.mq_outside.specs.Files.{Files, bytes_of}
use Rattle.record_codec.specs.Layout.{size}
use Rattle.log_recovery.proofs.WindowLemmas.{size_shown, ends_inside}
use Rattle.log_recovery.proofs.load.load.Goals as goal

pub returns-in_default-clause-whole : goal.returns-in_default-clause-whole
returns-in_default-clause-whole g c = λ tells bytes reads was r rest one stands small.
    let told : None ≡ Some (size r) =
    size_shown c.reach.new.window bytes c.front.result.now c.args.at None r rest (c.in_ok-reach.ensures.shows tells bytes reads was) c.in_ok-reach.ensures.from (c.in_ok-reach.ensures.front tells bytes reads)
    c.front.ensures stands (λ n low is. c.in_default.ensures.enough r rest n one low is) in
    absurd (cc)

pub returns-then-size-room-clause-whole : goal.returns-then-size-room-clause-whole
returns-then-size-room-clause-whole g c = λ tells bytes reads was r rest one stands small.
    let told : Some c.in-Some.size ≡ Some (size r) =
    size_shown c.reach.new.window bytes c.front.result.now c.args.at (Some c.in-Some.size) r rest (c.in_ok-reach.ensures.shows tells bytes reads was) c.in_ok-reach.ensures.from (c.in_ok-reach.ensures.front tells bytes reads)
    c.front.ensures stands (λ n low is. c.in-Some.ensures.enough r rest n one low is) in
    absurd (omega (arith, same_Some c.in-Some.size (size r) told, c.if-size-room.true, small))

pub returns-then-at-from-clause-whole : goal.returns-then-at-from-clause-whole
returns-then-at-from-clause-whole g c = λ tells bytes reads was r rest one stands small.
    let told : Some c.in-Some.size ≡ Some (size r) =
    size_shown c.reach.new.window bytes c.front.result.now c.args.at (Some c.in-Some.size) r rest (c.in_ok-reach.ensures.shows tells bytes reads was) c.in_ok-reach.ensures.from (c.in_ok-reach.ensures.front tells bytes reads)
    c.front.ensures stands (λ n low is. c.in-Some.ensures.enough r rest n one low is) in
    omega (arith, same_Some c.in-Some.size (size r) told, c.if-at-from.true, c.from.ensures, c.end.ensures)

pub returns-clause-whole : goal.returns-clause-whole
returns-clause-whole g c = λ tells bytes reads was r rest one stands small.
    let told : Some c.in-Some.size ≡ Some (size r) =
    size_shown c.reach.new.window bytes c.front.result.now c.args.at (Some c.in-Some.size) r rest (c.in_ok-reach.ensures.shows tells bytes reads was) c.in_ok-reach.ensures.from (c.in_ok-reach.ensures.front tells bytes reads)
    c.front.ensures stands (λ n low is. c.in-Some.ensures.enough r rest n one low is) in
    let is = same_Some c.in-Some.size (size r) told in
    let again : bytes_of (g.D.Disk.state c.reach.new.disk).reads c.args.name.now ≡ bytes = ap (λ (f : Files). bytes_of f c.args.name.now) (c.reach.ensures.only_reads.rests tells).same ∙ reads in
    let whole = c.in_ok-extend.ensures.whole tells bytes again (omega (arith, is, ends_inside bytes c.args.at r rest stands)) in
    omega (arith, is, whole)
