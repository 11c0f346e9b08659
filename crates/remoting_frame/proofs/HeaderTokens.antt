-- The tokens that are written of a header, their text, and that it reads as the header.
use Rattle.std.proofs.Common.{◌≡◌, lit≤, ℕ, ◌+◌, ◌^◌, ◌<◌, ◌≤◌, ◌++◌, ◌∷◌, [], List, length, get_or, take, true, ℤ, pos, negsuc, Some, codes, option_and_then, refl, sym, ap, subst, ◌∙◌, arith, append_assoc, append-nil}
use Rattle.std.specs.Str.{IsUtf8}
use Rattle.std.proofs.lemmas.Bool.{ltb-true}
use Rattle.std.proofs.lemmas.List.{take_more, take_all}
use Rattle.json.specs.Token.{Token, begin_object, end_object, key, string, number}
use Rattle.json.specs.Lex.{tokens}
use Rattle.json.specs.Print.{print}
use Rattle.json.specs.Json as json
use Rattle.json.specs.Tree as tree
use Rattle.json.proofs.Printed.Trees.{value-json_tokens}
use Rattle.serde_json.specs.Data.{Members, no_members, member}
use Rattle.serde_json.specs.Data as Data
use Rattle.serde_json.specs.Read.{read, max_depth, number_of, of_json, of_members}
use Rattle.serde_json.specs.Find.{of_integer}
use Rattle.serde_json.specs.Written.{number_text, outline, members_outline}
use Rattle.serde_json.proofs.Numbers.{number_of-decimal, number_of-negative}
use Rattle.serde_json.proofs.Texts.{print-outline}
use Rattle.remoting_frame.specs.Json.{is_i32, json_header}
use Rattle.remoting_frame.specs.Written.{texts, with_remark, header_data, json_text}
use Rattle.remoting_frame.specs.Tokens.{remark_tokens, first_tokens, last_tokens}
use Rattle.remoting_frame.specs.Head.{Head, IsInOrder}
use Rattle.remoting_frame.proofs.HeaderTexts.{put_last, not_empty, Has32Bits, json_again}

abbrev Pair : Type 0
Pair = List ℕ × List ℕ

-- ---- the tokens of pairs

abbrev pub pair_tokens : List Pair → List Token
pair_tokens [] = []
pair_tokens (p ∷ ps) = key p.0 ∷ string p.1 ∷ pair_tokens ps

pair_tokens-one_more : (ps : List Pair) (p : Pair) → pair_tokens (ps ++ p ∷ []) ≡ pair_tokens ps ++ key p.0 ∷ string p.1 ∷ []
pair_tokens-one_more [] p = refl
pair_tokens-one_more (first ∷ ps) p = ap (λ (w : List Token). key first.0 ∷ string first.1 ∷ w) (pair_tokens-one_more ps p)

pub pair_tokens-next : (old : List Token) (ps : List Pair) (i : ℕ) (item : Pair) → item ≡ get_or ps i item → i < length ps
    → (old ++ begin_object ∷ pair_tokens (take i ps)) ++ key item.0 ∷ string item.1 ∷ [] ≡ old ++ begin_object ∷ pair_tokens (take (i + 1) ps)
pair_tokens-next old ps i item is lt =
    let more : take (i + 1) ps ≡ take i ps ++ item ∷ [] = take_more ps i item lt ∙ ap (λ (w : Pair). take i ps ++ w ∷ []) (sym is) in
    append_assoc old (begin_object ∷ pair_tokens (take i ps)) (key item.0 ∷ string item.1 ∷ [])
    ∙ ap (λ (w : List Token). old ++ begin_object ∷ w) (sym (ap pair_tokens more ∙ pair_tokens-one_more (take i ps) item))

texts_tokens : (ps : List Pair) → pair_tokens ps ++ end_object ∷ [] ≡ tree.members_tokens (members_outline (texts ps))
texts_tokens [] = refl
texts_tokens (p ∷ ps) = ap (λ (w : List Token). key p.0 ∷ string p.1 ∷ w) (texts_tokens ps)

pub texts_ended : (old : List Token) (ps : List Pair) (i : ℕ) → length ps ≤ i
    → (old ++ begin_object ∷ pair_tokens (take i ps)) ++ end_object ∷ [] ≡ old ++ begin_object ∷ tree.members_tokens (members_outline (texts ps))
texts_ended old ps i all =
    append_assoc old (begin_object ∷ pair_tokens (take i ps)) (end_object ∷ [])
    ∙ ap (λ (w : List Token). old ++ begin_object ∷ w) (ap (λ (w : List Pair). pair_tokens w ++ end_object ∷ []) (take_all i ps all) ∙ texts_tokens ps)

-- ---- the tokens of the header

with_remark_tokens : (remark : List ℕ) (rest : Members) → remark_tokens remark ++ tree.members_tokens (members_outline rest) ≡ tree.members_tokens (members_outline (with_remark remark rest))
with_remark_tokens [] rest = refl
with_remark_tokens (x ∷ remark) rest = rw (not_empty x remark) refl

abbrev pub all_tokens : Head → List Token
all_tokens h = tree.json_tokens (outline (header_data h))

pub first_put : (h : Head) (old t1 t2 t3 t4 t5 t6 t7 : List Token) → t1 ≡ old ++ begin_object ∷ [] → t2 ≡ t1 ++ key (codes "code") ∷ number (number_text (of_integer h.code)) ∷ []
    → t3 ≡ t2 ++ key (codes "extFields") ∷ [] → t4 ≡ t3 ++ begin_object ∷ tree.members_tokens (members_outline (texts h.ext)) → t5 ≡ t4 ++ key (codes "flag") ∷ number (number_text (of_integer h.flag)) ∷ []
    → t6 ≡ t5 ++ key (codes "language") ∷ string (codes "OTHER") ∷ [] → t7 ≡ t6 ++ key (codes "opaque") ∷ number (number_text (of_integer h.opaque)) ∷ [] → t7 ≡ old ++ first_tokens h
unfolding first_tokens
first_put h old t1 t2 t3 t4 t5 t6 t7 opened code named fields flag language opaque = rw (opaque, language, flag, fields, named, code, opened) (simp append_assoc)

pub last_put : (h : Head) (old t1 t2 t3 t4 : List Token) → t1 ≡ old ++ remark_tokens h.remark → t2 ≡ t1 ++ key (codes "serializeTypeCurrentRPC") ∷ string (codes "JSON") ∷ []
    → t3 ≡ t2 ++ key (codes "version") ∷ number (number_text (of_integer h.version)) ∷ [] → t4 ≡ t3 ++ end_object ∷ [] → t4 ≡ old ++ last_tokens h
unfolding last_tokens
last_put h old t1 t2 t3 t4 remark form version ended = rw (ended, version, form, remark) (simp append_assoc)

first_last : (h : Head) → first_tokens h ++ last_tokens h ≡ all_tokens h
unfolding first_tokens last_tokens header_data
first_last h =
    let behind : Members = member (codes "serializeTypeCurrentRPC") (Data.string (codes "JSON")) (member (codes "version") (Data.number (of_integer h.version)) no_members) in
    let pairs = tree.members_tokens (members_outline (texts h.ext)) in
    ap (λ (w : List Token). begin_object ∷ key (codes "code") ∷ number (number_text (of_integer h.code)) ∷ key (codes "extFields") ∷ begin_object ∷ w)
    (append_assoc pairs _ _
    ∙ ap (λ (w : List Token). pairs ++ key (codes "flag") ∷ number (number_text (of_integer h.flag)) ∷ key (codes "language") ∷ string (codes "OTHER") ∷ key (codes "opaque") ∷ number (number_text (of_integer h.opaque)) ∷ w)
    (with_remark_tokens h.remark behind))

-- of a writer that began with none
pub all_put : (h : Head) (old first all : List Token) → old ≡ [] → first ≡ old ++ first_tokens h → all ≡ first ++ last_tokens h → all ≡ all_tokens h
all_put h old first all none one two = rw (two, one, none) (first_last h)

-- ---- read again

number_again : (z : ℤ) → is_i32 z ≡ true → number_of (number_text (of_integer z)) ≡ Some (of_integer z)
number_again (pos n) h = number_of-decimal n (omega (arith, ltb-true n (2 ^ 31) h))
number_again (negsuc n) h = number_of-negative n (omega (arith, ltb-true n (2 ^ 31) h))

texts_again : (done ps : List Pair) → IsInOrder (done ++ ps) → of_members (members_outline (texts ps)) (texts done) ≡ Some (texts (done ++ ps))
texts_again done [] order = ap (λ (w : List Pair). Some (texts w)) (sym (append-nil done))
texts_again done (p ∷ ps) order =
    let one_more : done ++ p ∷ ps ≡ (done ++ p ∷ []) ++ ps = sym (append_assoc done (p ∷ []) ps) in
    ap (of_members (members_outline (texts ps))) (put_last done p ps order)
    ∙ texts_again (done ++ p ∷ []) ps (subst IsInOrder one_more order)
    ∙ ap (λ (w : List Pair). Some (texts w)) (sym one_more)

data_by : (code version opaque flag : ℤ) (remark : List ℕ) (ext : List Pair) → is_i32 code ≡ true → is_i32 version ≡ true → is_i32 opaque ≡ true → is_i32 flag ≡ true → IsInOrder ext
    → of_json (outline (header_data (record { code = code; version = version; opaque = opaque; flag = flag; remark = remark; ext = ext })))
    ≡ Some (header_data (record { code = code; version = version; opaque = opaque; flag = flag; remark = remark; ext = ext }))
unfolding header_data
data_by code version opaque flag [] ext c v o f order = rw (number_again code c, number_again opaque o, number_again flag f, number_again version v, texts_again [] ext order) refl
data_by code version opaque flag (x ∷ remark) ext c v o f order =
    rw (not_empty x remark, number_again code c, number_again opaque o, number_again flag f, number_again version v, texts_again [] ext order) refl

data_again : (h : Head) → Has32Bits h → IsInOrder h.ext → of_json (outline (header_data h)) ≡ Some (header_data h)
data_again h fits order = data_by h.code h.version h.opaque h.flag h.remark h.ext fits.code fits.version fits.opaque fits.flag order

depth-texts : (ps : List Pair) → tree.members_depth (members_outline (texts ps)) ≡ 0
depth-texts [] = refl
depth-texts (p ∷ ps) = rw (depth-texts ps) refl

depth-remark : (remark : List ℕ) (rest : Members) → tree.members_depth (members_outline rest) ≡ 0 → tree.members_depth (members_outline (with_remark remark rest)) ≡ 0
depth-remark [] rest h = h
depth-remark (x ∷ remark) rest h = rw (not_empty x remark, h) refl

shallow : (h : Head) → tree.depth (outline (header_data h)) ≤ max_depth
unfolding header_data
shallow h = rw (depth-texts h.ext, depth-remark h.remark _ refl) (lit≤ tt)

-- a text with the tokens of a value
read_by : (j : json.Json) (text : List ℕ) → tokens text ≡ tree.json_tokens j → tree.depth j ≤ max_depth → read text ≡ of_json j
read_by j text same within =
    ap (λ o. option_and_then of_json (option_and_then (λ p. json.if_last p.0 p.1) o))
    (ap (json.value max_depth) (same ∙ sym (append-nil (tree.json_tokens j))) ∙ value-json_tokens j max_depth [] within)

-- ---- the text

pub text_is : (h : Head) (ts : List Token) → ts ≡ all_tokens h → print ts ≡ json_text h
text_is h ts e = ap print e ∙ print-outline (header_data h)

pub text_again : (h : Head) (ts : List Token) → Has32Bits h → IsInOrder h.ext → ts ≡ all_tokens h → tokens (print ts) ≡ ts → IsUtf8 (print ts) → json_header (json_text h) ≡ Some h
text_again h ts fits order e back text =
    let is = text_is h ts e in
    json_again h fits (subst IsUtf8 is text)
    (read_by (outline (header_data h)) (json_text h) (ap tokens (sym is) ∙ back ∙ e) (shallow h) ∙ data_again h fits order)
