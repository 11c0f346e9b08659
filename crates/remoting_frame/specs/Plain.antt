-- What a pass over the tokens of a plain header has read.
use Rattle.std.specs.Prelude.{◌≡◌, ℕ, List, [], codes, Option, Some, None, IfSome, option_and_then}
use Rattle.json.specs.Token.{Token}
use Rattle.json.specs.Json.{value, members}
use Rattle.serde_json.specs.Data.{Data, Members}
use Rattle.serde_json.specs.Find.{get_member}
use Rattle.serde_json.specs.Read.{of_json, of_members, converted}
use Rattle.remoting_frame.specs.Head.{IsInOrder}
use Rattle.remoting_frame.specs.Json.{whole, whole_or_zero, text_or_empty, pairs_or_none}
use Rattle.remoting_frame.specs.declared.plain_reader.Found.{Found}

-- the tokens begin with this value, which nests at most so deep, and the rest follows
abbrev pub BeginsWith : ℕ → List Token → Data → List Token → Type 0
BeginsWith depth tokens d rest = converted of_json (value depth tokens) ≡ Some (d, rest)

-- those members with the members that the tokens begin with, of which there are at most n, and what follows the closing brace
abbrev pub members_behind : Members → ℕ → ℕ → List Token → Option (Members × List Token)
members_behind before depth n tokens = converted (λ ms. of_members ms before) (members (value depth) n tokens)

-- the pairs, where none is as none at all
abbrev pub pairs_found : Option (List (List ℕ × List ℕ)) → List (List ℕ × List ℕ)
pairs_found None = []
pairs_found (Some pairs) = pairs

-- what was found is what these members say
pub record Says (found : Found) (ms : Members) : Type 0 where
  pub code : IfSome found.code (λ z. option_and_then whole (get_member (codes "code") ms) ≡ Some z)
  pub opaque : IfSome found.opaque (λ z. option_and_then whole (get_member (codes "opaque") ms) ≡ Some z)
  pub flag : whole_or_zero (get_member (codes "flag") ms) ≡ Some found.flag
  pub version : whole_or_zero (get_member (codes "version") ms) ≡ Some found.version
  pub remark : text_or_empty (get_member (codes "remark") ms) ≡ Some found.remark
  pub ext : pairs_or_none (get_member (codes "extFields") ms) ≡ Some (pairs_found found.ext)
  pub ordered : IfSome found.ext IsInOrder
