-- The tokens of a header's JSON text.
use Rattle.std.specs.Prelude.{ℕ, ◌==◌, List, [], ◌∷◌, ◌++◌, length, codes, if◌then◌else◌}
use Rattle.json.specs.Token.{Token, begin_object, end_object, key, string, number}
use Rattle.json.specs.Tree.{members_tokens}
use Rattle.serde_json.specs.Find.{of_integer}
use Rattle.serde_json.specs.Written.{number_text, members_outline}
use Rattle.remoting_frame.specs.Head.{Head}
use Rattle.remoting_frame.specs.Written.{texts}

-- a remark only where it isn't empty
abbrev pub remark_tokens : List ℕ → List Token
remark_tokens remark = if length remark == 0 then [] else key (codes "remark") ∷ string remark ∷ []

-- what stands in front of the remark, from the bracket that opens the object
unfoldable pub first_tokens : Head → List Token
first_tokens h =
    begin_object ∷ key (codes "code") ∷ number (number_text (of_integer h.code)) ∷ key (codes "extFields") ∷ begin_object
    ∷ (members_tokens (members_outline (texts h.ext)) ++ key (codes "flag") ∷ number (number_text (of_integer h.flag))
    ∷ key (codes "language") ∷ string (codes "OTHER") ∷ key (codes "opaque") ∷ number (number_text (of_integer h.opaque)) ∷ [])

-- the remark and what stands behind it, up to the bracket that ends the object
unfoldable pub last_tokens : Head → List Token
last_tokens h =
    remark_tokens h.remark ++ key (codes "serializeTypeCurrentRPC") ∷ string (codes "JSON")
    ∷ key (codes "version") ∷ number (number_text (of_integer h.version)) ∷ end_object ∷ []
