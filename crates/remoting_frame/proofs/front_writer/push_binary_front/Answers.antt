use Rattle.std.proofs.Common.{◌≡◌, ◌+◌, length, rules}
use Rattle.remoting_frame.specs.Head.{pairs_size}
use Rattle.remoting_frame.proofs.BinaryWriting.{front_whole}
use Rattle.remoting_frame.proofs.front_writer.push_binary_front.Goals as goal

pub returns-clause-ok : goal.returns-clause-ok
returns-clause-ok c =
    let h = c.args.header.now in
    let size : 21 + length c.as_str.result.now + c.size_of.result ≡ 21 + length h.remark + pairs_size h.ext = search rules in
    front_whole h c.args.body _ c.args.out.now.items c.push_words.new.out.items c.push_header.new.out.items size c.in_ok-push_words.ensures.ok c.in_ok-push_header.ensures.ok
