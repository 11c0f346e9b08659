-- What is found in the rows of a table's entries.
use Rattle.std.proofs.Common.{◌≡◌, ◌∙◌, refl, ap, sym, ℕ, List, [], ◌∷◌, map, find, All, get_or, Bool, true, false, cond, String, string_bytes, Option, Some}
use Rattle.std.specs.List.{IsDistinct}
use Rattle.std.specs.Map.{lookup, keys_of}
use Rattle.std.specs.Option.{option_map}
use Rattle.std.specs.Str.{bytes_eq}
use Rattle.std.specs.String.{string_eq, string_eq_equiv}
use Rattle.std.proofs.lemmas.List.Elements.{All-map}
use Rattle.std.proofs.lemmas.Map.Entries.{lookup_from_place}
use Rattle.std.proofs.lemmas.Option.{slice_get-get_or}
use Rattle.std.proofs.lemmas.Slice.Eq.{bytes_eq-Decides}
use Rattle.broker_model.specs.Tables.{TopicRow, queues_in}
use Rattle.client_tables.specs.Counts.{topic_row}

-- the row of an entry
abbrev pub entry_row : {A : Type 0} → String A × ℕ → TopicRow
entry_row e = topic_row (string_bytes e.0) e.1

same_bool : (a b : Bool) → (a ≡ true → b ≡ true) → (b ≡ true → a ≡ true) → a ≡ b
same_bool true b f g = sym (f refl)
same_bool false true f g = g refl
same_bool false false f g = refl

bytes_swap : (xs ys : List ℕ) → bytes_eq xs ys ≡ bytes_eq ys xs
bytes_swap xs ys = same_bool (bytes_eq xs ys) (bytes_eq ys xs)
    (λ h. (bytes_eq-Decides ys xs).1 (sym ((bytes_eq-Decides xs ys).0 h))) (λ h. (bytes_eq-Decides xs ys).1 (sym ((bytes_eq-Decides ys xs).0 h)))

chosen : (b : Bool) (row : TopicRow) (rest : Option TopicRow) → option_map (λ r. r.queues) (cond b (Some row) rest) ≡ cond b (Some row.queues) (option_map (λ r. r.queues) rest)
chosen true row rest = refl
chosen false row rest = refl

-- a topic is found in the rows as in the entries
pub found_same : {A : Type 0} (es : List (String A × ℕ)) (topic : List ℕ) → queues_in (map entry_row es) topic ≡ lookup (λ k. bytes_eq topic (string_bytes k)) es
found_same [] topic = refl
found_same (e ∷ es) topic =
    chosen (bytes_eq (string_bytes e.0) topic) (entry_row e) (find (λ row. bytes_eq row.topic topic) (map entry_row es))
    ∙ ap (λ (b : Bool). cond b (Some e.1) (queues_in (map entry_row es) topic)) (bytes_swap (string_bytes e.0) topic)
    ∙ ap (λ (rest : Option ℕ). cond (bytes_eq topic (string_bytes e.0)) (Some e.1) rest) (found_same es topic)

-- each row is what is found at its topic
pub each_found : {A : Type 0} (es : List (String A × ℕ)) → IsDistinct string_eq (keys_of es)
    → All (λ (row : TopicRow). lookup (λ k. bytes_eq row.topic (string_bytes k)) es ≡ Some row.queues) (map entry_row es)
each_found es apart =
    All-map (λ (row : TopicRow). lookup (λ k. bytes_eq row.topic (string_bytes k)) es ≡ Some row.queues) entry_row es
    (λ i d within. lookup_from_place string_eq_equiv es i (get_or es i d).0 (get_or es i d).1 apart (slice_get-get_or es i d within))
