use Rattle.std.proofs.Common.{◌≡◌, pos, rules}
use Rattle.request_fields.specs.Reading.{request_in}
use Rattle.request_fields.proofs.Later.{reads_given}
use Rattle.request_fields.proofs.request.request_in.Goals as goal

pub returns-in-10 : goal.returns-in-10
unfolding request_in
returns-in-10 c =
    let code : c.args.header.now.code ≡ pos 10 = search (rules, c.in-10) in
    rw code (reads_given _ _ _ (rw c.long_names.ensures at c.send.ensures))

pub returns-in-11 : goal.returns-in-11
unfolding request_in
returns-in-11 c =
    let code : c.args.header.now.code ≡ pos 11 = search (rules, c.in-11) in
    rw code (reads_given _ _ _ c.pull.ensures)

pub returns-in-12 : goal.returns-in-12
unfolding request_in
returns-in-12 c =
    let code : c.args.header.now.code ≡ pos 12 = search (rules, c.in-12) in
    rw code (reads_given _ _ _ c.query.ensures)

pub returns-in-14 : goal.returns-in-14
unfolding request_in
returns-in-14 c =
    let code : c.args.header.now.code ≡ pos 14 = search (rules, c.in-14) in
    rw code (reads_given _ _ _ c.offset_of.ensures)

pub returns-in-15 : goal.returns-in-15
unfolding request_in
returns-in-15 c =
    let code : c.args.header.now.code ≡ pos 15 = search (rules, c.in-15) in
    rw code (reads_given _ _ _ c.set_offset.ensures)

pub returns-in-17 : goal.returns-in-17
unfolding request_in
returns-in-17 c =
    let code : c.args.header.now.code ≡ pos 17 = search (rules, c.in-17) in
    rw code (reads_given _ _ _ c.make_topic.ensures)

pub returns-in-29 : goal.returns-in-29
unfolding request_in
returns-in-29 c =
    let code : c.args.header.now.code ≡ pos 29 = search (rules, c.in-29) in
    rw code (reads_given _ _ _ c.search.ensures)

pub returns-in-30 : goal.returns-in-30
unfolding request_in
returns-in-30 c =
    let code : c.args.header.now.code ≡ pos 30 = search (rules, c.in-30) in
    rw code (reads_given _ _ _ c.max_offset.ensures)

pub returns-in-31 : goal.returns-in-31
unfolding request_in
returns-in-31 c =
    let code : c.args.header.now.code ≡ pos 31 = search (rules, c.in-31) in
    rw code (reads_given _ _ _ c.min_offset.ensures)

pub returns-in-33 : goal.returns-in-33
unfolding request_in
returns-in-33 c =
    let code : c.args.header.now.code ≡ pos 33 = search (rules, c.in-33) in
    rw code (reads_given _ _ _ c.view_by_id.ensures)

pub returns-in-35 : goal.returns-in-35
unfolding request_in
returns-in-35 c =
    let code : c.args.header.now.code ≡ pos 35 = search (rules, c.in-35) in
    rw code (reads_given _ _ _ c.unregister.ensures)

pub returns-in-37 : goal.returns-in-37
unfolding request_in
returns-in-37 c =
    let code : c.args.header.now.code ≡ pos 37 = search (rules, c.in-37) in
    rw code (reads_given _ _ _ c.end_transaction.ensures)

pub returns-in-310 : goal.returns-in-310
unfolding request_in
returns-in-310 c =
    let code : c.args.header.now.code ≡ pos 310 = search (rules, c.in-310) in
    rw code (reads_given _ _ _ (rw c.short_names.ensures at c.send-in-310.ensures))

pub returns-in-34 : goal.returns-in-34
unfolding request_in
returns-in-34 c =
    let code : c.args.header.now.code ≡ pos 34 = search (rules, c.in-34) in
    rw code (rw c.as_slice.ensures at c.heartbeat.ensures)

pub returns-in-41 : goal.returns-in-41
unfolding request_in
returns-in-41 c =
    let code : c.args.header.now.code ≡ pos 41 = search (rules, c.in-41) in
    rw code (rw c.as_slice-in-41.ensures at c.lock.ensures)

pub returns-in-42 : goal.returns-in-42
unfolding request_in
returns-in-42 c =
    let code : c.args.header.now.code ≡ pos 42 = search (rules, c.in-42) in
    rw code (rw c.as_slice-in-42.ensures at c.unlock.ensures)

pub returns-in_default : goal.returns-in_default
unfolding request_in
returns-in_default c = search rules
