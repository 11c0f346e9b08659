use Rattle.std.proofs.Common.{◌≡◌, length, arith}
use Rattle.record_codec.specs.Layout.{size}
use Rattle.segment_files.proofs.Standing.{fills, none_fills, stored_whole}
use Rattle.segment_files.proofs.read.record_of.Goals as goal

pub returns-then-size-bytes : goal.returns-then-size-bytes
returns-then-size-bytes c r is whole =
    let found = c.in-Some.ensures.found in
    none_fills c.in-Some.view found.1.0 c.args.bytes.now found.0 found.1.1 (λ same. c.if-size-bytes.true (grind arith)) r is whole

pub returns : goal.returns
returns c =
    let found = c.in-Some.ensures.found in
    let long : size c.in-Some.view ≡ length c.args.bytes.now = grind arith in
    stored_whole c.in_ok-to_record.field-0 c.in-Some.view c.args.bytes.now c.in_ok-to_record.ensures.record_is c.in_ok-to_record.ensures.size found.0
    (fills c.in-Some.view found.1.0 c.args.bytes.now found.1.1 long) long
