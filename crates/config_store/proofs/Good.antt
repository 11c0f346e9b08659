-- Data without floats, in order, whose text reads back as itself and is UTF-8.
use Rattle.std.proofs.Common.{◌≡◌, ℕ, ◌<◌, ◌≤◌, ◌^◌, ◌+◌, List, [], ◌∷◌, Bool, true, false, Option, Some, option_and_then, refl, sym, ap, ◌∙◌, arith}
use Rattle.std.proofs.Common.{Less, decimal, append-nil, IsUtf8}
use Rattle.std.proofs.lemmas.Fmt.{IsAscii-decimal}
use Rattle.std.proofs.lemmas.Str.{IsUtf8-from_ascii, IsUtf8-append}
use Rattle.json.specs.Json as json
use Rattle.json.specs.Token.{Token}
use Rattle.json.specs.Lex.{tokens}
use Rattle.json.specs.Tree as tree
use Rattle.json.proofs.Printed.Decimals.{IsNumber-decimal}
use Rattle.json.proofs.Printed.Tokens.{tokens-print}
use Rattle.json.proofs.Printed.Trees.{value-json_tokens, ArePrintable-json_tokens}
use Rattle.json.proofs.Printed.Utf8.{IsUtf8-quoted, IsUtf8-are_ascii}
use Rattle.serde_json.specs.Data.{Data, number, unsigned, object, Members, no_members, member, put}
use Rattle.serde_json.specs.Read.{read, of_json, of_members, max_depth}
use Rattle.serde_json.specs.Written.{outline, members_outline, compact_text, members_text, comma_if}
use Rattle.serde_json.proofs.Numbers.{number_of-decimal}
use Rattle.serde_json.proofs.Texts.{print-outline}
use Rattle.config_store.proofs.Sorted.{IsAbove, Ascends, turned}

-- the data is what its text says, at most so deep
pub record IsGood (n : ℕ) (d : Data) : Type 0 where
  pub back : of_json (outline d) ≡ Some d
  pub numbers : tree.HasNumbers (outline d)
  pub shallow : tree.depth (outline d) ≤ n
  pub text : IsUtf8 (compact_text d)

-- ---- members that are read one after another

append : Members → Members → Members
append no_members ms = ms
append (member k d front) ms = member k d (append front ms)

-- each of the first names stands before all of the others
Below : Members → Members → Type 0
Below no_members ms = Unit {0}
Below (member l e front) ms = IsAbove l ms × Below front ms

append_nothing : (front : Members) → append front no_members ≡ front
unfolding append
append_nothing no_members = refl
append_nothing (member l e front) = ap (member l e) (append_nothing front)

append_assoc_one : (front ms : Members) (k : List ℕ) (d : Data) → append (append front (member k d no_members)) ms ≡ append front (member k d ms)
unfolding append
append_assoc_one no_members ms k d = refl
append_assoc_one (member l e front) ms k d = ap (member l e) (append_assoc_one front ms k d)

put_last : (front ms : Members) (k : List ℕ) (d : Data) → Below front (member k d ms) → put k d front ≡ append front (member k d no_members)
unfolding append Below
put_last no_members ms k d below = refl
put_last (member l e front) ms k d below = rw (turned l k Less below.0.0) (ap (member l e) (put_last front ms k d below.1))

below_more : (front ms : Members) (k : List ℕ) (d : Data) → Below front (member k d ms) → IsAbove k ms → Below (append front (member k d no_members)) ms
unfolding append Below
below_more no_members ms k d below above = (above, tt)
below_more (member l e front) ms k d below above = (below.0.1, below_more front ms k d below.1 above)

comma_text : (later : Bool) → IsUtf8 (comma_if later)
comma_text true = IsUtf8-are_ascii (44 ∷ []) refl
comma_text false = IsUtf8-are_ascii [] refl

module _ (P : List ℕ → Data → Type 0) (n : ℕ) (good : (k : List ℕ) (d : Data) → P k d → IsUtf8 k × IsGood n d) where
  members_back : (ms front : Members) → Ascends P ms → Below front ms → of_members (members_outline ms) front ≡ Some (append front ms)
  unfolding append Below
  members_back no_members front all below = ap Some (sym (append_nothing front))
  members_back (member k d ms) front all below =
      let value = (good k d all.1.0).1.back in
      let last = put_last front ms k d below in
      rw (value, last) (members_back ms (append front (member k d no_members)) all.1.1 (below_more front ms k d below all.0) ∙ ap Some (append_assoc_one front ms k d))

  members_numbers : (ms : Members) → Ascends P ms → tree.MembersHaveNumbers (members_outline ms)
  members_numbers no_members all = tt
  members_numbers (member k d ms) all = ((good k d all.1.0).1.numbers, members_numbers ms all.1.1)

  members_shallow : (ms : Members) → Ascends P ms → tree.members_depth (members_outline ms) ≤ n
  members_shallow no_members all = omega arith
  members_shallow (member k d ms) all = omega (arith, (good k d all.1.0).1.shallow, members_shallow ms all.1.1)

  members_utf8 : (later : Bool) (ms : Members) → Ascends P ms → IsUtf8 (members_text later ms)
  members_utf8 later no_members all = IsUtf8-are_ascii (125 ∷ []) refl
  members_utf8 later (member k d ms) all =
      let it = good k d all.1.0 in
      IsUtf8-append _ _ (comma_text later) (IsUtf8-append _ _ (IsUtf8-quoted k it.0)
      (IsUtf8-append (58 ∷ []) _ (IsUtf8-are_ascii (58 ∷ []) refl) (IsUtf8-append _ _ it.1.text (members_utf8 true ms all.1.1))))

  -- an object of good members
  pub good_object : (ms : Members) → Ascends P ms → IsGood (n + 1) (object ms)
  unfolding append Below
  good_object ms all = record {
    back = rw (members_back ms no_members all tt) refl;
    numbers = members_numbers ms all;
    shallow = omega (arith, members_shallow ms all);
    text = IsUtf8-append (123 ∷ []) _ (IsUtf8-are_ascii (123 ∷ []) refl) (members_utf8 false ms all);
  }

-- a whole number
pub good_number : (n : ℕ) → n < 2 ^ 64 → IsGood 0 (number (unsigned n))
good_number n small = record {
  back = rw (number_of-decimal n small) refl;
  numbers = IsNumber-decimal n small;
  shallow = omega arith;
  text = IsUtf8-from_ascii (decimal n) (IsAscii-decimal n small);
}

-- the data of a value that stands alone
abbrev whole : Option (json.Json × List Token) → Option Data
whole o = option_and_then of_json (option_and_then (λ p. json.if_last p.0 p.1) o)

-- what is good reads back
pub good_reads : (n : ℕ) (d : Data) → n ≤ 127 → IsGood n d → read (compact_text d) ≡ Some d
good_reads n d few good =
    let j = outline d in
    let ts = tree.json_tokens j in
    let lexed : tokens (compact_text d) ≡ ts = ap tokens (sym (print-outline d)) ∙ tokens-print ts (ArePrintable-json_tokens j good.numbers) in
    ap whole (ap (json.value max_depth) (lexed ∙ sym (append-nil ts)) ∙ value-json_tokens j max_depth [] (omega (arith, few, good.shallow))) ∙ good.back
