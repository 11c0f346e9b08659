-- The replies to frames that are no requests.
use Rattle.std.specs.Prelude.{ℕ, ◌++◌, List, length, codes, pos, nat_le, if◌then◌else◌}
use Rattle.mq_bytes.specs.Decimal.{decimal}
use Rattle.request_fields.specs.declared.fault.RequestFault.{RequestFault}
use Rattle.request_fields.specs.declared.fault.RequestFault.TheVariants as faults
use Rattle.reply_fields.specs.Parts.{ReplyParts, plain}

-- A field by its name. A name for which a reply has no room is left out; no field of a request has such a name.
abbrev pub field_remark : List ℕ → List ℕ
field_remark name = if nat_le (length name) 65530 then codes "field " ++ name else codes "field"

-- what is answered to a frame that is no request
abbrev pub fault_reply : RequestFault → ReplyParts
fault_reply (faults.Unsupported code) = plain (pos 3) (codes "code " ++ decimal code)
fault_reply (faults.Missing field) = plain (pos 1) (field_remark field.name)
fault_reply (faults.BadNumber field) = plain (pos 1) (field_remark field.name)
fault_reply faults.BadBody = plain (pos 1) (codes "body")
fault_reply faults.Memory = plain (pos 901) (codes "memory")
