-- The keys that are left, and those that are added.
use Rattle.std.proofs.Common.{◌≡◌, ◌∙◌, ℕ, ◌+◌, List, [], ◌∷◌, ◌++◌, length, Option, ap, sym, append_assoc, append-nil, length-append}
use Rattle.std.specs.Prelude.{option_to_list}
use Rattle.std.proofs.lemmas.List.{length-map}
use Rattle.std.proofs.lemmas.Grind.{flat_map-append}
use Rattle.record_codec.specs.Entry.{Entry}
use Rattle.log_model.specs.Keys.{hash_of, index_keys}
use Rattle.log_replay.proofs.WordLemmas.{words_in}
use Rattle.key_view.specs.Entries.{KeyEntry, entries_at, entries_in, key_entries}
use Rattle.key_view.specs.Hashes.{hashes_left}

-- how many are left
pub left_are : (topic : List ℕ) (unique : Option (List ℕ)) (rest : List ℕ) → length (option_to_list unique) + length (words_in rest) ≡ length (hashes_left topic unique rest)
left_are topic unique rest =
    sym (length-map (option_to_list unique ++ words_in rest) (hash_of topic) ∙ length-append (option_to_list unique) (words_in rest))

-- one key was added
pub one_added : (before now : List KeyEntry) (place store hash : ℕ) (left : List ℕ) → now ≡ before ++ record { hash = hash; place = place; store = store } ∷ []
    → now ++ entries_at place store left ≡ before ++ entries_at place store (hash ∷ left)
one_added before now place store hash left is =
    ap (λ (es : List KeyEntry). es ++ entries_at place store left) is
    ∙ append_assoc before (record { hash = hash; place = place; store = store } ∷ []) (entries_at place store left)

-- none is left
pub none_left : (now before : List KeyEntry) (place store : ℕ) (left : List ℕ) → left ≡ [] → now ++ entries_at place store left ≡ before → now ≡ before
none_left now before place store left none all =
    sym (append-nil now) ∙ ap (λ (hashes : List ℕ). now ++ entries_at place store hashes) (sym none) ∙ all

-- the keys of a log with one record more
pub record_added : (log : List Entry) (r : Entry) (place store : ℕ) (keys : List ℕ) (before now : List KeyEntry) → now ≡ before ++ entries_at place store keys → before ≡ key_entries log → keys ≡ index_keys r
    → place ≡ r.offset → store ≡ r.store → now ≡ key_entries (log ++ r ∷ [])
record_added log r place store keys before now is log_is keys_are at stored =
    is
    ∙ ap (λ (es : List KeyEntry). es ++ entries_at place store keys) log_is
    ∙ ap (λ (hashes : List ℕ). key_entries log ++ entries_at place store hashes) keys_are
    ∙ ap (λ (p : ℕ). key_entries log ++ entries_at p store (index_keys r)) at
    ∙ ap (λ (t : ℕ). key_entries log ++ entries_at r.offset t (index_keys r)) stored
    ∙ ap (λ (es : List KeyEntry). key_entries log ++ es) (sym (append-nil (entries_in r)))
    ∙ sym (flat_map-append entries_in log (r ∷ []))
