use Rattle.std.proofs.Common.{◌<◌, ℕ, List, length, take, ap, subst, ◌∙◌}
use Rattle.segment_files.proofs.Standing.{finds, stands_there, none_there, too_short, tells_damage}
use Rattle.segment_files.proofs.read.read_record.Goals as goal

pub returns-in-Ok-None-clause-damaged : goal.returns-in-Ok-None-clause-damaged
returns-in-Ok-None-clause-damaged g c tells =
    let disk = g.D.Disk.state c.args.disk.now in
    let there = finds c.args.segment c.args.place c.from.result disk c.of-file.result c.as_str-name.result.now c.requires c.from.ensures c.of-file.ensures c.as_str-name.ensures in
    let short = rw c.in-Ok-None.field-0-is at (c.in-Ok-None.ensures.bytes tells) in
    tells_damage c.args.segment c.args.place c.args.size disk c.as_str-name.result.now c.damage.result there.named
    (too_short c.args.segment c.args.place c.args.size disk (subst (λ (l : List ℕ). length l < c.args.size) there.bytes short)) c.damage.ensures

pub returns-in-Ok-Some-record_of-clause-stands : goal.returns-in-Ok-Some-record_of-clause-stands
returns-in-Ok-Some-record_of-clause-stands g c tells =
    let disk = g.D.Disk.state c.args.disk.now in
    let there = finds c.args.segment c.args.place c.from.result disk c.of-file.result c.as_str-name.result.now c.requires c.from.ensures c.of-file.ensures c.as_str-name.ensures in
    let read = rw c.in-Ok-Some.field-0-is at (c.in-Ok-Some.ensures.bytes tells) in
    let found = rw c.in-Ok-Some-record_of.field-0-is at c.in-Ok-Some-record_of.ensures in
    let long = rw c.in-Ok-Some.field-0-is at c.in-Ok-Some.ensures.long in
    let items = c.deref.ensures.value in
    stands_there c.args.segment c.args.place c.args.size disk c.deref.result.now _ (ap length items ∙ long)
    (items ∙ read ∙ ap (take c.args.size) there.bytes) found.0.layout found.1

pub returns-in-Ok-None-record_of-clause-damaged : goal.returns-in-Ok-None-record_of-clause-damaged
returns-in-Ok-None-record_of-clause-damaged g c tells =
    let disk = g.D.Disk.state c.args.disk.now in
    let there = finds c.args.segment c.args.place c.from.result disk c.of-file.result c.as_str-name.result.now c.requires c.from.ensures c.of-file.ensures c.as_str-name.ensures in
    let read = rw c.in-Ok-Some.field-0-is at (c.in-Ok-Some.ensures.bytes tells) in
    let none = rw c.in-Ok-None-record_of.field-0-is at c.in-Ok-None-record_of.ensures in
    tells_damage c.args.segment c.args.place c.args.size disk c.as_str-name.result.now c.damage-in-Ok-None-record_of.result there.named
    (none_there c.args.segment c.args.place c.args.size disk c.deref.result.now (c.deref.ensures.value ∙ read ∙ ap (take c.args.size) there.bytes) none) c.damage-in-Ok-None-record_of.ensures

pub returns-in-Ok-Some-record_of-clause-stored : goal.returns-in-Ok-Some-record_of-clause-stored
returns-in-Ok-Some-record_of-clause-stored g c =
    let long = rw c.in-Ok-Some.field-0-is at c.in-Ok-Some.ensures.long in
    let found = rw c.in-Ok-Some-record_of.field-0-is at c.in-Ok-Some-record_of.ensures in
    (found.0, found.2 ∙ ap length c.deref.ensures.value ∙ long)
