-- What a reply and a check-back say.
use Rattle.std.specs.Prelude.{ℕ, ℤ, List, []}
use Rattle.record_codec.specs.declared.draft.Record.{Record}
use Rattle.reply_fields.specs.declared.slice.Slice.{Slice}

-- A reply's code, its remark, its names with their values, and the slices of its body. Texts are bytes.
pub record ReplyParts : Type 0 where
  pub code : ℤ
  pub remark : List ℕ
  pub ext : List (List ℕ × List ℕ)
  pub body : List Slice

-- a code and a remark, with no fields and no body
abbrev pub plain : ℤ → List ℕ → ReplyParts
plain code remark = record { code = code; remark = remark; ext = []; body = [] }

-- The link that is asked, the producer group, and the half message's renewal.
pub record AskParts : Type 0 where
  pub link : ℕ
  pub group : List ℕ
  pub view : Record
