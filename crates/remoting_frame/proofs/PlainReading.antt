-- What a pass over the tokens of a plain header has read, a member at a time.
use Rattle.std.proofs.Common.{◌≡◌, ℕ, ◌-◌, ◌<◌, ◌≤◌, ◌∷◌, [], List, length, Option, Some, None, option_map, option_and_then, IfSome, ℤ, pos, negsuc, FitsSigned, refl, ap, ◌∙◌, arith}
use Rattle.std.specs.Int.{w32}
use Rattle.std.specs.Str.{IsUtf8}
use Rattle.std.proofs.lemmas.Int.{ints}
use Rattle.json.specs.Token.{Token, begin_object}
use Rattle.json.specs.Token as token
use Rattle.json.specs.Lex.{tokens}
use Rattle.json.specs.Json as json
use Rattle.json.specs.Json.{parse_map, read_key, members, value, if_last}
use Rattle.json.proofs.Grammar.{read_key-shorter, value_is, value-begin_object, members_end, members_more, skip_value-shorter}
use Rattle.serde_json.specs.Data.{Num, Data, number, string, object, Members, no_members, put}
use Rattle.serde_json.specs.Find.{of_integer}
use Rattle.serde_json.specs.Read.{number_of, of_json, of_members, converted}
use Rattle.serde_json.proofs.Numbers.{number_of-decimal, number_of-negative}
use Rattle.mq_bytes.specs.Decimal.{decimal}
use Rattle.remoting_frame.specs.Head.{Head}
use Rattle.remoting_frame.specs.Json.{whole, header_of, json_header}
use Rattle.remoting_frame.specs.Written.{texts}
use Rattle.remoting_frame.specs.Plain.{BeginsWith, members_behind}
use Rattle.remoting_frame.proofs.HeaderReading.{data_is}
use Rattle.remoting_frame.proofs.HeaderTexts.{is_i32-fits, whole_again}

abbrev Pair : Type 0
Pair = List ℕ × List ℕ

abbrev pick : {A : Type 0} → A → Option A → A
pick d None = d
pick d (Some a) = a

one_converted : {A B : Type 0} (a : A) (r s : List Token) (x : Option B) (b : B) → option_map {U = B × List Token} (λ y. (y, r)) x ≡ Some (b, s) → (r ≡ s) × (x ≡ Some b)
one_converted a r s None b e = absurd cc
one_converted a r s (Some y) b e = let same = ap (pick (y, r)) e in (ap (λ p. p.1) same, ap (λ p. Some p.0) same)

-- what was converted, and from what
converted_from : {A B : Type 0} (f : A → Option B) (o : Option (A × List Token)) (b : B) (r : List Token) → converted f o ≡ Some (b, r) → (a : A) × (o ≡ Some (a, r)) × (f a ≡ Some b)
converted_from f None b r e = absurd cc
converted_from f (Some p) b r e = let both = one_converted p.0 p.1 r (f p.0) b e in (p.0, ap (λ s. Some (p.0, s)) both.0, both.1)

-- ---- values

pub shorter : (depth : ℕ) (ts r : List Token) (d : Data) → BeginsWith depth ts d r → length r < length ts
shorter depth ts r d e = let j = converted_from of_json (value depth ts) d r e in skip_value-shorter depth ts r (ap (option_map (λ p. p.1)) j.1)

pub text_begins : (depth : ℕ) (s : List ℕ) (ts r : List Token) → ts ≡ token.string s ∷ r → BeginsWith depth ts (string s) r
text_begins depth s ts r e = ap (converted of_json) (ap (value depth) e ∙ value_is depth (token.string s ∷ r))

-- the number whose decimal text stands there
number_is : (z : ℤ) → FitsSigned w32 z → number_of (decimal z) ≡ Some (of_integer z)
number_is (pos n) f = number_of-decimal n (omega (arith, ints, f))
number_is (negsuc n) f = number_of-negative n (omega (arith, ints, f))

number_begins : (depth : ℕ) (z : ℤ) (ts r : List Token) → FitsSigned w32 z → ts ≡ token.number (decimal z) ∷ r → BeginsWith depth ts (number (of_integer z)) r
number_begins depth z ts r fits e =
    ap (converted of_json) (ap (value depth) e ∙ value_is depth (token.number (decimal z) ∷ r))
    ∙ ap (λ (o : Option Num). option_map (λ b. (b, r)) (option_map number o)) (number_is z fits)

-- the same of what may be a number
pub numbers_begin : (depth : ℕ) (o : Option ℤ) (ts r : List Token) → IfSome o (FitsSigned w32) → IfSome o (λ z. ts ≡ token.number (decimal z) ∷ r)
    → IfSome o (λ z. BeginsWith depth ts (number (of_integer z)) r)
numbers_begin depth None ts r fits e = tt
numbers_begin depth (Some z) ts r fits e = number_begins depth z ts r fits e

pub whole_numbers : (o : Option ℤ) → IfSome o (FitsSigned w32) → IfSome o (λ z. whole (number (of_integer z)) ≡ Some z)
whole_numbers None fits = tt
whole_numbers (Some z) fits = whole_again z (is_i32-fits z fits)

-- ---- members

twice : {A B : Type 0} (g : A → B) (r : List Token) (x : Option A) → option_map (λ b. (b, r)) (option_map g x) ≡ parse_map g (option_map (λ a. (a, r)) x)
twice g r None = refl
twice g r (Some a) = refl

as_object : (o : Option (json.Members × List Token)) → converted of_json (parse_map json.object o) ≡ parse_map object (converted (λ ms. of_members ms no_members) o)
as_object None = refl
as_object (Some p) = twice object p.1 (of_members p.0 no_members)

pub object_begins : (depth : ℕ) (ms : Members) (ts inside r : List Token) → 0 < depth → ts ≡ begin_object ∷ inside → members_behind no_members (depth - 1) (length inside) inside ≡ Some (ms, r) → BeginsWith depth ts (object ms) r
object_begins depth ms ts inside r deep e found =
    ap (converted of_json) (ap (value depth) e ∙ value-begin_object depth inside deep) ∙ as_object (members (value (depth - 1)) (length inside) inside) ∙ ap (parse_map object) found

-- the same of pairs that may have been read
pub objects_begin : (depth : ℕ) (o : Option (List Pair)) (ts inside r : List Token) → 0 < depth → ts ≡ begin_object ∷ inside
    → IfSome o (λ ext. members_behind no_members (depth - 1) (length inside) inside ≡ Some (texts ext, r)) → IfSome o (λ ext. BeginsWith depth ts (object (texts ext)) r)
objects_begin depth None ts inside r deep e found = tt
objects_begin depth (Some ext) ts inside r deep e found = object_begins depth (texts ext) ts inside r deep e found

with_member : (k : List ℕ) (j : json.Json) (d : Data) (before : Members) → of_json j ≡ Some d → (o : Option (json.Members × List Token))
    → converted (λ ms. of_members ms before) (parse_map (json.member k j) o) ≡ converted (λ ms. of_members ms (put k d before)) o
with_member k j d before e None = refl
with_member k j d before e (Some p) = rw e refl

-- a member goes among those before it
pub next_member : (depth n : ℕ) (before : Members) (k : List ℕ) (d : Data) (ts s r : List Token) → length ts ≤ n → read_key ts ≡ Some (Some k, s) → BeginsWith depth s d r
    → members_behind before depth n ts ≡ members_behind (put k d before) depth (n - 1) r
next_member depth n before k d ts s r enough key e =
    let j = converted_from of_json (value depth s) d r e in
    let some : 0 < n = omega (arith, read_key-shorter ts (Some k) s key) in
    ap (converted (λ ms. of_members ms before)) (members_more (value depth) n k ts s r j.0 some key j.1) ∙ with_member k j.0 d before j.2 (members (value depth) (n - 1) r)

-- the closing brace
pub no_member : (depth n : ℕ) (before : Members) (ts r : List Token) → length ts ≤ n → read_key ts ≡ Some (None, r) → members_behind before depth n ts ≡ Some (before, r)
no_member depth n before ts r enough e = ap (converted (λ ms. of_members ms before)) (members_end (value depth) n ts r enough e)

-- ---- the whole text

abbrev whole_of : Option (json.Json × List Token) → Option Data
whole_of o = option_and_then of_json (option_and_then (λ p. if_last p.0 p.1) o)

whole_is : (o : Option (json.Json × List Token)) (d : Data) → converted of_json o ≡ Some (d, []) → whole_of o ≡ Some d
whole_is o d e = let j = converted_from of_json o d [] e in ap whole_of j.1 ∙ j.2

pub header_is : (bytes : List ℕ) (d : Data) (h : Head) → IsUtf8 bytes → BeginsWith 127 (tokens bytes) d [] → header_of d ≡ Some h → json_header bytes ≡ Some h
header_is bytes d h text e is = ap (option_and_then header_of) (data_is bytes d text (whole_is (value 127 (tokens bytes)) d e)) ∙ is
