use Rattle.std.proofs.Common.{◌≡◌, rules}
use Rattle.remoting_frame.proofs.BinaryWriting.{kept_behind_two, on_err, numbers_of, header_whole}
use Rattle.remoting_frame.proofs.binary_writer.push_header.Goals as goal

pub returns-in_err-push_sized_pairs-clause-err : goal.returns-in_err-push_sized_pairs-clause-err
returns-in_err-push_sized_pairs-clause-err c =
    on_err c.from_residual-in_err-push_sized_pairs.result
    (kept_behind_two c.args.out.now.items _ _ c.extend_from_slice.new.self.items c.push_sized.new.out.items c.push_sized_pairs.new.out.items c.in_ok-extend_from_slice.ensures.items c.in_ok-push_sized.ensures.ok c.in_err-push_sized_pairs.ensures.err)

pub returns-clause-ok : goal.returns-clause-ok
returns-clause-ok c =
    let h = c.args.header.now in
    let numbers : c.numbers.result ≡ numbers_of h 7 = search rules in
    header_whole h c.args.out.now.items c.extend_from_slice.new.self.items c.push_sized.new.out.items c.push_sized_pairs.new.out.items c.numbers.result _ _ numbers (search rules) (search rules)
    c.in_ok-extend_from_slice.ensures.items c.in_ok-push_sized.ensures.ok c.in_ok-push_sized_pairs.ensures.ok
