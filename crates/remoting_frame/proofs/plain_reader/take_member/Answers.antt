use Rattle.std.proofs.Common.{sym}
use Rattle.remoting_frame.proofs.PlainMembers.{code_taken, opaque_taken, flag_taken, version_taken, remark_taken, ext_taken, says_other}
use Rattle.remoting_frame.proofs.plain_reader.take_member.Goals as goal

pub returns-in_ok-take_number-in-code : goal.returns-in_ok-take_number-in-code
returns-in_ok-take_number-in-code c =
    let taken = c.in_ok-take_number-in-code in
    code_taken c.args.found.now taken.field-0 c.args.name.now c.args.scanner.now c.take_number.new.scanner taken.ensures.begins taken.ensures.whole c.in-code.is

pub returns-in_ok-take_number-in-opaque : goal.returns-in_ok-take_number-in-opaque
returns-in_ok-take_number-in-opaque c =
    let taken = c.in_ok-take_number-in-opaque in
    opaque_taken c.args.found.now taken.field-0 c.args.name.now c.args.scanner.now c.take_number-in-opaque.new.scanner taken.ensures.begins taken.ensures.whole c.in-opaque.is

pub returns-in_ok-found-in-flag : goal.returns-in_ok-found-in-flag
returns-in_ok-found-in-flag c =
    let taken = c.in_ok-found-in-flag in
    flag_taken c.args.found.now taken.field-0 c.args.name.now c.args.scanner.now c.take_number-in-flag.new.scanner taken.ensures.begins taken.ensures.whole c.in-flag.is

pub returns-in_ok-found-in-version : goal.returns-in_ok-found-in-version
returns-in_ok-found-in-version c =
    let taken = c.in_ok-found-in-version in
    version_taken c.args.found.now taken.field-0 c.args.name.now c.args.scanner.now c.take_number-in-version.new.scanner taken.ensures.begins taken.ensures.whole c.in-version.is

pub returns-in_ok-found-in-remark : goal.returns-in_ok-found-in-remark
returns-in_ok-found-in-remark c =
    let taken = c.in_ok-found-in-remark in
    remark_taken c.args.found.now taken.field-0 c.args.name.now c.args.scanner.now c.take_text.new.scanner taken.ensures c.in-remark.is

pub returns-in_ok-take_pairs-in-extFields : goal.returns-in_ok-take_pairs-in-extFields
returns-in_ok-take_pairs-in-extFields c =
    let taken = c.in_ok-take_pairs-in-extFields in
    ext_taken c.args.found.now taken.field-0 c.args.name.now c.args.scanner.now c.take_pairs.new.scanner taken.ensures.pairs taken.ensures.ordered c.in-extFields.is

pub returns-in_ok-pass_value-in_default : goal.returns-in_ok-pass_value-in_default
returns-in_ok-pass_value-in_default c =
    let passed = c.in_ok-pass_value-in_default.ensures in
    let other = c.in_default in (
      passed.0,
      passed.1,
      λ ms says. says_other c.args.found.now c.args.name.now passed.0 ms (λ e. other.not-code (sym e)) (λ e. other.not-opaque (sym e)) (λ e. other.not-flag (sym e)) (λ e. other.not-version (sym e))
          (λ e. other.not-remark (sym e)) (λ e. other.not-extFields (sym e)) says,
    )
