use Rattle.std.proofs.Common.{◌≡◌, rules}
use Rattle.std.specs.Int.{w16, w32, to_be_bytes, cast_unsigned}
use Rattle.remoting_frame.proofs.BinaryWriting.{numbers_cells}
use Rattle.remoting_frame.proofs.binary_writer.numbers.Goals as goal

pub returns : goal.returns
returns c =
    let code : c.two_bytes-code.result ≡ to_be_bytes w16 (cast_unsigned w16 c.args.code) = search rules in
    let version : c.two_bytes-version.result ≡ to_be_bytes w16 (cast_unsigned w16 c.args.version) = search rules in
    let opaque : c.to_be_bytes-opaque.result ≡ to_be_bytes w32 (cast_unsigned w32 c.args.opaque) = search rules in
    let flag : c.to_be_bytes-flag.result ≡ to_be_bytes w32 (cast_unsigned w32 c.args.flag) = search rules in
    numbers_cells c.args.code c.args.version c.args.opaque c.args.flag c.two_bytes-code.result c.two_bytes-version.result c.to_be_bytes-opaque.result c.to_be_bytes-flag.result code version opaque flag
