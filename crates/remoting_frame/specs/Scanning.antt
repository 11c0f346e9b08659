-- The tokens that are still to come where a text is read from a place on.
use Rattle.std.specs.Prelude.{ℕ, List, Bool, cond}
use Rattle.json.specs.Token.{Token}
use Rattle.json.specs.Lex.{lex, between, punctuate, fresh, after_value}

-- the tokens of these bytes, which stand behind a whole value or where one may begin
abbrev pub tokens_from : Bool → List ℕ → List Token
tokens_from is_behind bytes = punctuate (cond is_behind after_value fresh) (lex between bytes)
