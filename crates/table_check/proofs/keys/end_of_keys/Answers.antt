use Rattle.std.proofs.Common.{refl, arith}
use Rattle.std.proofs.lemmas.Option.{slice_get_within}
use Rattle.table_check.proofs.KeyLemmas.{none_met, met_next, met_all, met_there}
use Rattle.table_check.proofs.keys.end_of_keys.Goals as goal

pub loop-hash-init : goal.loop-hash-init
loop-hash-init c = none_met c.args.table.now.entries c.args.place c.args.store c.args.from c.args.keys

pub loop-hash-preserved : goal.loop-hash-preserved
loop-hash-preserved c =
    met_next c.args.table.now.entries c.args.place c.args.store c.args.from c.args.keys c.loop-hash.left c.next.new.self c.loop-hash.at c.in-Some.hash c.loop-hash.invariant
    c.in-Some.ensures.first (c.is_at.ensures.0 c.if-not-is_at.false)

pub returns-then-at-len-clause-differ : goal.returns-then-at-len-clause-differ
returns-then-at-len-clause-differ c = λ none before counted begins.
    let there = met_there c.args.table.now.entries c.args.place c.args.store c.args.from c.args.keys c.loop-hash.left c.next.new.self c.loop-hash.at c.in-Some.hash c.loop-hash.invariant
    c.in-Some.ensures.first before counted begins in
    let within = slice_get_within c.args.table.now.entries c.loop-hash.at _ there in
    let len = c.len.ensures in
    let past = c.if-at-len.true in
    omega (arith, within, len, past)

pub returns-then-not-is_at-clause-differ : goal.returns-then-not-is_at-clause-differ
returns-then-not-is_at-clause-differ c = λ none before counted begins.
    let there = met_there c.args.table.now.entries c.args.place c.args.store c.args.from c.args.keys c.loop-hash.left c.next.new.self c.loop-hash.at c.in-Some.hash c.loop-hash.invariant
    c.in-Some.ensures.first before counted begins in
    let yes = c.is_at.ensures.1 there in
    let no = c.if-not-is_at.true in
    cc (yes, no)

pub returns-clause-count : goal.returns-clause-count
returns-clause-count c =
    (met_all c.args.table.now.entries c.args.place c.args.store c.args.from c.args.keys c.loop-hash.left c.loop-hash.at c.loop-hash.invariant (c.in_default.ensures.none refl)).0

pub returns-clause-stand : goal.returns-clause-stand
returns-clause-stand c =
    (met_all c.args.table.now.entries c.args.place c.args.store c.args.from c.args.keys c.loop-hash.left c.loop-hash.at c.loop-hash.invariant (c.in_default.ensures.none refl)).1
