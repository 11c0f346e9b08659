-- Replies, and their bytes on the wire.
use Rattle.std.specs.Prelude.{◌≡◌, ℕ, ◌+◌, ◌^◌, ◌<◌, ◌≤◌, ◌++◌, List, ℤ, pos, length, FitsSigned}
use Rattle.std.specs.Int.{w16}
use Rattle.mq_outside.specs.Readings.{Giving}
use Rattle.remoting_frame.specs.Head.{Head, IsInOrder, pairs_size}
use Rattle.remoting_frame.specs.Headers.{frame_bytes}
use Rattle.remoting_frame.specs.declared.frame.Form.{Form}
use Rattle.reply_fields.specs.Parts.{ReplyParts}
use Rattle.reply_fields.specs.Slices.{body_len, IsBody}

-- What each reply keeps. Six bytes are counted for the two lengths of each pair.
pub record IsReply (reply : ReplyParts) : Type 0 where
  pub code : FitsSigned w16 reply.code
  pub ordered : IsInOrder reply.ext
  pub short : length reply.remark + pairs_size reply.ext ≤ 65536
  pub within : body_len reply.body < 2 ^ 30

-- the header of a reply to the request with this opaque
abbrev pub reply_head : ReplyParts → ℤ → Head
reply_head reply opaque = record {
  code = reply.code;
  version = pos 0;
  opaque = opaque;
  flag = pos 1;
  remark = reply.remark;
  ext = reply.ext;
}

-- the frame of a reply whose slices give this body
abbrev pub reply_bytes : Form → ℤ → ReplyParts → List ℕ → List ℕ
reply_bytes form opaque reply body = frame_bytes form (reply_head reply opaque) body

-- behind the old bytes stands the frame of the reply, with a body that its slices give
pub record AppendsReply (gives : Giving) (form : Form) (opaque : ℤ) (reply : ReplyParts) (old new : List ℕ) : Type 0 where
  pub body : List ℕ
  pub given : IsBody gives reply.body body
  pub behind : new ≡ old ++ reply_bytes form opaque reply body
