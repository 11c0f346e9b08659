-- What the lexemes at a place say of the tokens that are still to come.
use Rattle.std.proofs.Common.{◌≡◌, ℕ, ◌+◌, ◌≤◌, ◌∷◌, [], List, Bool, true, false, length, drop, get_or, Some, None, refl, sym, ap, ◌∙◌, arith}
use Rattle.std.proofs.lemmas.List.{drop_all}
use Rattle.json.specs.Token.{begin_object, end_object, string, number}
use Rattle.json.specs.Lex.{Lexeme, token, comma, colon, lex, between, in_string, punctuate, begins_colon, fresh, after_value}
use Rattle.json.specs.Text.{content, plain}
use Rattle.json.specs.Json.{read_key}
use Rattle.remoting_frame.specs.Scanning.{tokens_from}
use Rattle.remoting_frame.proofs.JsonBytes.{byte_first}

-- ---- lexemes at a place

closes_at : (text : List ℕ) (at : ℕ) → get_or text at 0 ≡ 125 → lex between (drop at text) ≡ token end_object ∷ lex between (drop (at + 1) text)
unfolding lex
closes_at text at e = ap (lex between) (byte_first text at 125 e (omega arith))

comma_at : (text : List ℕ) (at : ℕ) → get_or text at 0 ≡ 44 → lex between (drop at text) ≡ comma ∷ lex between (drop (at + 1) text)
unfolding lex
comma_at text at e = ap (lex between) (byte_first text at 44 e (omega arith))

pub no_colon_closing : (text : List ℕ) (at : ℕ) → get_or text at 0 ≡ 125 → begins_colon (lex between (drop at text)) ≡ false
no_colon_closing text at e = ap begins_colon (closes_at text at e)

pub no_colon_comma : (text : List ℕ) (at : ℕ) → get_or text at 0 ≡ 44 → begins_colon (lex between (drop at text)) ≡ false
no_colon_comma text at e = ap begins_colon (comma_at text at e)

quoted : (xs s : List ℕ) (rest : List Lexeme) → content plain xs ≡ Some s → lex in_string xs ≡ rest → lex between (34 ∷ xs) ≡ token (string s) ∷ rest
unfolding lex
quoted xs s rest read passed = rw read (ap (λ (ls : List Lexeme). token (string s) ∷ ls) passed)

colon_first : (xs : List ℕ) → lex between (58 ∷ xs) ≡ colon ∷ lex between xs
unfolding lex
colon_first xs = refl

-- a string, of which the place is that of the quote, with a colon behind it
pub named_at : (text name : List ℕ) (at end value : ℕ) → get_or text at 0 ≡ 34 → content plain (drop (at + 1) text) ≡ Some name → lex in_string (drop (at + 1) text) ≡ lex between (drop end text)
    → lex between (drop end text) ≡ lex between (58 ∷ drop value text) → lex between (drop at text) ≡ token (string name) ∷ colon ∷ lex between (drop value text)
named_at text name at end value quote read passed behind =
    ap (lex between) (byte_first text at 34 quote (omega arith))
    ∙ quoted (drop (at + 1) text) name (colon ∷ lex between (drop value text)) read (passed ∙ behind ∙ colon_first (drop value text))

-- ---- tokens, where the lexemes are known

pub opened : (is_behind : Bool) (xs ys : List ℕ) → is_behind ≡ false → lex between xs ≡ lex between (123 ∷ ys) → tokens_from is_behind xs ≡ begin_object ∷ tokens_from is_behind ys
unfolding lex punctuate
opened true xs ys off e = absurd cc
opened false xs ys off e = ap (punctuate fresh) e

pub closed : (is_behind : Bool) (text : List ℕ) (from at : ℕ) → lex between (drop at text) ≡ lex between (drop from text) → get_or text at 0 ≡ 125
    → read_key (tokens_from is_behind (drop from text)) ≡ Some (None, tokens_from true (drop (at + 1) text))
unfolding punctuate
closed true text from at same brace = ap (λ (ls : List Lexeme). read_key (punctuate after_value ls)) (sym same ∙ closes_at text at brace)
closed false text from at same brace = ap (λ (ls : List Lexeme). read_key (punctuate fresh ls)) (sym same ∙ closes_at text at brace)

pub first_named : (is_behind : Bool) (xs name ys : List ℕ) → is_behind ≡ false → lex between xs ≡ token (string name) ∷ colon ∷ lex between ys
    → read_key (tokens_from is_behind xs) ≡ Some (Some name, tokens_from false ys)
unfolding punctuate
first_named true xs name ys off e = absurd cc
first_named false xs name ys off e = ap (λ (ls : List Lexeme). read_key (punctuate fresh ls)) e

pub next_named : (is_behind : Bool) (text : List ℕ) (from at : ℕ) (name ys : List ℕ) → is_behind ≡ true → lex between (drop at text) ≡ lex between (drop from text) → get_or text at 0 ≡ 44
    → lex between (drop (at + 1) text) ≡ token (string name) ∷ colon ∷ lex between ys → read_key (tokens_from is_behind (drop from text)) ≡ Some (Some name, tokens_from false ys)
unfolding punctuate
next_named false text from at name ys on same first e = absurd cc
next_named true text from at name ys on same first e =
    ap (λ (ls : List Lexeme). read_key (punctuate after_value ls)) (sym same ∙ comma_at text at first ∙ ap (λ (ls : List Lexeme). comma ∷ ls) e)

-- a string of which the quote and the content stand in front, and that is no key
pub string_first : (is_behind : Bool) (xs ys s zs ws : List ℕ) → is_behind ≡ false → lex between xs ≡ lex between (34 ∷ ys) → content plain ys ≡ Some s → lex in_string ys ≡ lex between zs
    → lex between zs ≡ lex between ws → begins_colon (lex between ws) ≡ false → tokens_from is_behind xs ≡ string s ∷ tokens_from true ws
unfolding punctuate
string_first true xs ys s zs ws off e read passed same no_colon = absurd cc
string_first false xs ys s zs ws off e read passed same no_colon = ap (punctuate fresh) (e ∙ quoted ys s (lex between ws) read (passed ∙ same)) ∙ rw no_colon refl

pub number_first : (is_behind : Bool) (xs ys s zs : List ℕ) → is_behind ≡ false → lex between ys ≡ lex between xs → lex between ys ≡ token (number s) ∷ lex between zs
    → tokens_from is_behind xs ≡ number s ∷ tokens_from true zs
unfolding punctuate
number_first true xs ys s zs off same e = absurd cc
number_first false xs ys s zs off same e = ap (punctuate fresh) (sym same ∙ e)

pub nothing_left : (is_behind : Bool) (text : List ℕ) (from at : ℕ) → lex between (drop at text) ≡ lex between (drop from text) → length text ≤ at → tokens_from is_behind (drop from text) ≡ []
unfolding lex punctuate
nothing_left true text from at same past = ap (punctuate after_value) (sym same ∙ ap (lex between) (drop_all at text past))
nothing_left false text from at same past = ap (punctuate fresh) (sym same ∙ ap (lex between) (drop_all at text past))
