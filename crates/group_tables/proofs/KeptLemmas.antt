-- What is found in rows that are made of a table of tables, one entry on.
use Rattle.std.proofs.Common.{◌≡◌, ◌∙◌, refl, ap, sym, ℕ, List, [], ◌∷◌, ◌++◌, All, Bool, true, false, cond, ◌&&◌, ◌==◌, eqb, find, String, string_bytes, Option, Some, None}
use Rattle.std.specs.Bool.{nat_eq}
use Rattle.std.specs.Option.{option_or, option_map, option_and_then}
use Rattle.std.specs.Str.{bytes_eq}
use Rattle.std.specs.List.{IsDistinct}
use Rattle.std.specs.Map.{lookup, keys_of}
use Rattle.std.specs.String.{string_eq, string_eq_equiv}
use Rattle.std.proofs.lemmas.Bool.Decides.{Decides-eqb}
use Rattle.std.proofs.lemmas.Map.{lookup-none}
use Rattle.std.proofs.lemmas.Map.Entries.{none_past_head}
use Rattle.std.proofs.lemmas.Map.Keys.{IsDistinct-tail}
use Rattle.std.proofs.lemmas.Slice.Eq.{bytes_eq-Decides}
use Rattle.std.proofs.lemmas.List.{append_assoc, append-nil}
use Rattle.std.proofs.lemmas.List.Elements.{All-nil, All-append, All-push, All-weaker}
use Rattle.std.proofs.lemmas.List.Folds.{find-append}
use Rattle.broker_model.specs.Tables.{OffsetRow, is_row_of, offset_in}
use Rattle.group_tables.specs.Offsets.{offset_row}

-- the value of a queue, of these entries, if they are the asked ones
abbrev pub of_queues : Bool → ℕ → List (ℕ × ℕ) → Option ℕ
of_queues asked queue es = cond asked (lookup (nat_eq queue) es) None

or_none : {A : Type 0} (o : Option A) → option_or o None ≡ o
or_none None = refl
or_none (Some x) = refl

or_in_turn : {A : Type 0} (a b c : Option A) → option_or (option_or a b) c ≡ option_or a (option_or b c)
or_in_turn None b c = refl
or_in_turn (Some x) b c = refl

map_or : {A B : Type 0} (f : A → B) (a b : Option A) → option_map f (option_or a b) ≡ option_or (option_map f a) (option_map f b)
map_or f None b = refl
map_or f (Some x) b = refl

-- one row more
pub offset_push : (rows : List OffsetRow) (row : OffsetRow) (g t : List ℕ) (q : ℕ)
    → offset_in (rows ++ row ∷ []) g t q ≡ option_or (offset_in rows g t q) (cond (is_row_of g t q row) (Some row.offset) None)
offset_push rows row g t q =
    ap (option_map (λ r. r.offset)) (find-append (is_row_of g t q) rows (row ∷ []))
    ∙ map_or (λ r. r.offset) (find (is_row_of g t q) rows) (cond (is_row_of g t q row) (Some row) None)
    ∙ ap (option_or (offset_in rows g t q)) (chosen (is_row_of g t q row))
  where
    chosen : (b : Bool) → option_map (λ r. r.offset) (cond b (Some row) None) ≡ cond b (Some row.offset) None
    chosen true = refl
    chosen false = refl

same_bool : (a b : Bool) → (a ≡ true → b ≡ true) → (b ≡ true → a ≡ true) → a ≡ b
same_bool true b f g = sym (f refl)
same_bool false true f g = g refl
same_bool false false f g = refl

eqb_swap : (a b : ℕ) → eqb a b ≡ eqb b a
eqb_swap a b = same_bool (eqb a b) (eqb b a)
    (λ h. (Decides-eqb b a).1 (sym ((Decides-eqb a b).0 h))) (λ h. (Decides-eqb a b).1 (sym ((Decides-eqb b a).0 h)))

one_queue : (asked here : Bool) (v : ℕ) (rest : Option ℕ) → option_or (cond (asked && here) (Some v) None) (cond asked rest None) ≡ cond asked (cond here (Some v) rest) None
one_queue true true v rest = refl
one_queue true false v rest = refl
one_queue false here v rest = refl

-- one queue on
pub queue_on : (rows : List OffsetRow) (group topic g t : List ℕ) (q : ℕ) (e : ℕ × ℕ) (es : List (ℕ × ℕ))
    → option_or (offset_in (rows ++ offset_row group topic e.0 e.1 ∷ []) g t q) (of_queues (bytes_eq group g && bytes_eq topic t) q es)
    ≡ option_or (offset_in rows g t q) (of_queues (bytes_eq group g && bytes_eq topic t) q (e ∷ es))
queue_on rows group topic g t q e es =
    let asked = bytes_eq group g && bytes_eq topic t in
    let row = offset_row group topic e.0 e.1 in
    ap (λ (o : Option ℕ). option_or o (of_queues asked q es)) (offset_push rows row g t q)
    ∙ or_in_turn (offset_in rows g t q) (cond (asked && (e.0 == q)) (Some e.1) None) (of_queues asked q es)
    ∙ ap (option_or (offset_in rows g t q))
    (ap (λ (b : Bool). option_or (cond (asked && b) (Some e.1) None) (of_queues asked q es)) (eqb_swap e.0 q)
    ∙ one_queue asked (nat_eq q e.0) e.1 (lookup (nat_eq q) es))

-- ---- names

bytes_swap : (xs ys : List ℕ) → bytes_eq xs ys ≡ bytes_eq ys xs
bytes_swap xs ys = same_bool (bytes_eq xs ys) (bytes_eq ys xs)
    (λ h. (bytes_eq-Decides ys xs).1 (sym ((bytes_eq-Decides xs ys).0 h))) (λ h. (bytes_eq-Decides xs ys).1 (sym ((bytes_eq-Decides ys xs).0 h)))

-- what is seen at a name, of these entries, if they are the asked ones
abbrev pub of_names : {A W : Type 0} → (W → Option ℕ) → Bool → List ℕ → List (String A × W) → Option ℕ
of_names see asked name es = cond asked (option_and_then see (lookup (λ k. bytes_eq name (string_bytes k)) es)) None

-- no name is like one before it
abbrev pub AreApart : {A W : Type 0} → List (String A × W) → Type 0
AreApart es = IsDistinct string_eq (keys_of es)

none_later : {A W : Type 0} (name : List ℕ) (e : String A × W) (es : List (String A × W)) → AreApart (e ∷ es) → name ≡ string_bytes e.0 → lookup (λ k. bytes_eq name (string_bytes k)) es ≡ None
none_later name e es apart is =
    ap (λ (n : List ℕ). lookup (λ k. bytes_eq n (string_bytes k)) es) is
    ∙ lookup-none (string_eq e.0) es (none_past_head string_eq_equiv e.0 e es apart ((bytes_eq-Decides (string_bytes e.0) (string_bytes e.0)).1 refl))

cases : {W : Type 0} (see : W → Option ℕ) (found : Option ℕ) (asked here : Bool) (w : W) (later : Option W) → (here ≡ true → later ≡ None)
    → option_or (option_or found (cond (asked && here) (see w) None)) (cond asked (option_and_then see later) None)
    ≡ option_or found (cond asked (option_and_then see (cond here (Some w) later)) None)
cases see found false here w later none = ap (λ (o : Option ℕ). option_or o None) (or_none found)
cases see found true false w later none = ap (λ (o : Option ℕ). option_or o (option_and_then see later)) (or_none found)
cases see found true true w later none =
    ap (λ o. option_or (option_or found (see w)) (option_and_then see o)) (none refl) ∙ or_none (option_or found (see w))

-- one name on
pub name_on : {A W : Type 0} (see : W → Option ℕ) (found : Option ℕ) (asked : Bool) (name : List ℕ) (k : String A) (w : W) (es : List (String A × W)) → AreApart ((k, w) ∷ es)
    → option_or (option_or found (cond (asked && bytes_eq (string_bytes k) name) (see w) None)) (of_names see asked name es) ≡ option_or found (of_names see asked name ((k, w) ∷ es))
name_on see found asked name k w es apart =
    ap (λ (b : Bool). option_or (option_or found (cond (asked && b) (see w) None)) (of_names see asked name es)) (bytes_swap (string_bytes k) name)
    ∙ cases see found asked (bytes_eq name (string_bytes k)) w (lookup (λ other. bytes_eq name (string_bytes other)) es) (λ same. none_later name (k, w) es apart ((bytes_eq-Decides name (string_bytes k)).0 same))

pub apart_tail : {A W : Type 0} (k : String A) (w : W) (es : List (String A × W)) → AreApart ((k, w) ∷ es) → AreApart es
apart_tail k w es apart = IsDistinct-tail string_eq k (keys_of es) apart

-- ---- rows that were added

-- these rows were added, each of which has P
abbrev pub Added : (OffsetRow → Type 0) → List OffsetRow → List OffsetRow → Type 0
Added P old new = (more : List OffsetRow) × (new ≡ old ++ more) × All P more

-- none yet
pub added_none : (P : OffsetRow → Type 0) (rows : List OffsetRow) → Added P rows rows
added_none P rows = ([], sym (append-nil rows), All-nil P)

-- one more
pub added_push : (P : OffsetRow → Type 0) (old rows new : List OffsetRow) (row : OffsetRow) → Added P old rows → new ≡ rows ++ row ∷ [] → P row → Added P old new
added_push P old rows new row added is has =
    let more = added.0 in
    (more ++ row ∷ [], is ∙ ap (λ (l : List OffsetRow). l ++ row ∷ []) added.1 ∙ append_assoc old more (row ∷ []), All-push P more row added.2 has)

-- some more, each of which has Q
pub added_rows : (P Q : OffsetRow → Type 0) (old rows new : List OffsetRow) → Added P old rows → Added Q rows new → ((row : OffsetRow) → Q row → P row) → Added P old new
added_rows P Q old rows new added then weaker =
    let more = added.0 in
    let last = then.0 in
    (more ++ last, then.1 ∙ ap (λ (l : List OffsetRow). l ++ last) added.1 ∙ append_assoc old more last, All-append P more last added.2 (All-weaker Q P weaker last then.2))
