-- The keys of records in a table of keys.
use Rattle.std.proofs.Common.{◌≡◌, refl, ap, sym, ◌∙◌, subst, arith, ℕ, ◌+◌, List, [], ◌∷◌, ◌++◌, length, slice_get, Some, append_assoc, length-append}
use Rattle.std.proofs.lemmas.List.{length-map, map-append}
use Rattle.std.proofs.lemmas.List.Concat.{flat_map-append}
use Rattle.record_codec.specs.Entry.{Entry}
use Rattle.log_model.specs.Keys.{index_keys}
use Rattle.key_view.specs.Entries.{KeyEntry, entries_at, entries_in, key_entries}
use Rattle.table_check.proofs.FrontLemmas.{next_front, has_next, front_of, whole_front}
use Rattle.table_check.specs.Fronts.{BeginsWith}

-- a key of the record with this place and store time
abbrev key_at : ℕ → ℕ → ℕ → KeyEntry
key_at place store hash = record { hash = hash; place = place; store = store }

-- of these keys some stand in the table from an index on, which ends at another
pub record HasMet (entries : List KeyEntry) (place store from : ℕ) (keys left : List ℕ) (at : ℕ) : Type 0 where
  pub done : List ℕ
  pub keys_are : keys ≡ done ++ left
  pub count : at ≡ from + length done
  pub begins : (before : List KeyEntry) → from ≡ length before → BeginsWith entries before → BeginsWith entries (before ++ entries_at place store done)

append_none : {A : Type 0} (xs : List A) → xs ++ [] ≡ xs
append_none [] = refl
append_none (x ∷ xs) = ap (λ ys. x ∷ ys) (append_none xs)

pub none_met : (entries : List KeyEntry) (place store from : ℕ) (keys : List ℕ) → HasMet entries place store from keys keys from
none_met entries place store from keys = record {
  done = [];
  keys_are = refl;
  count = omega arith;
  begins = λ before counted begins. subst (λ (es : List KeyEntry). BeginsWith entries es) (sym (append_none before)) begins;
}

-- the index behind these entries
met_length : (before : List KeyEntry) (place store from : ℕ) (done : List ℕ) (at : ℕ) → from ≡ length before → at ≡ from + length done → at ≡ length (before ++ entries_at place store done)
met_length before place store from done at counted count =
    let long = length-append before (entries_at place store done) in
    let entries = length-map done (key_at place store) in
    omega (arith, counted, count, long, entries)

one_more : (before : List KeyEntry) (place store hash : ℕ) (done : List ℕ)
    → (before ++ entries_at place store done) ++ key_at place store hash ∷ [] ≡ before ++ entries_at place store (done ++ hash ∷ [])
one_more before place store hash done =
    append_assoc before (entries_at place store done) (key_at place store hash ∷ [])
    ∙ ap (λ (es : List KeyEntry). before ++ es) (sym (map-append (key_at place store) done (hash ∷ [])))

-- the next key stands there too
pub met_next : (entries : List KeyEntry) (place store from : ℕ) (keys left behind : List ℕ) (at hash : ℕ) → HasMet entries place store from keys left at → left ≡ hash ∷ behind
    → slice_get entries at ≡ Some (key_at place store hash) → HasMet entries place store from keys behind (at + 1)
met_next entries place store from keys left behind at hash met next there = record {
  done = met.done ++ hash ∷ [];
  keys_are = met.keys_are ∙ ap (λ (ks : List ℕ). met.done ++ ks) next ∙ sym (append_assoc met.done (hash ∷ []) behind);
  count = (let long = length-append met.done (hash ∷ []) in let count = met.count in omega (arith, long, count));
  begins = λ before counted begins.
      subst (λ (es : List KeyEntry). BeginsWith entries es) (one_more before place store hash met.done)
      (next_front entries (before ++ entries_at place store met.done) at (key_at place store hash) (met.begins before counted begins)
      (met_length before place store from met.done at counted met.count) there);
}

-- all of them were met
pub met_all : (entries : List KeyEntry) (place store from : ℕ) (keys left : List ℕ) (at : ℕ) → HasMet entries place store from keys left at → left ≡ []
    → (at ≡ from + length keys) × ((before : List KeyEntry) → from ≡ length before → BeginsWith entries before → BeginsWith entries (before ++ entries_at place store keys))
met_all entries place store from keys left at met none =
    let all : keys ≡ met.done = met.keys_are ∙ ap (λ (ks : List ℕ). met.done ++ ks) none ∙ append_none met.done in (
      (met.count ∙ ap (λ (ks : List ℕ). from + length ks) (sym all)),
      λ before counted begins. subst (λ (ks : List ℕ). BeginsWith entries (before ++ entries_at place store ks)) (sym all) (met.begins before counted begins),
    )

-- where all of them stand there, the next does
pub met_there : (entries : List KeyEntry) (place store from : ℕ) (keys left behind : List ℕ) (at hash : ℕ) → HasMet entries place store from keys left at → left ≡ hash ∷ behind
    → (before : List KeyEntry) → from ≡ length before → BeginsWith entries (before ++ entries_at place store keys) → slice_get entries at ≡ Some (key_at place store hash)
met_there entries place store from keys left behind at hash met next before counted begins =
    let key : KeyEntry = key_at place store hash in
    let all : keys ≡ (met.done ++ hash ∷ []) ++ behind = met.keys_are ∙ ap (λ (ks : List ℕ). met.done ++ ks) next ∙ sym (append_assoc met.done (hash ∷ []) behind) in
    let parts : entries_at place store keys ≡ entries_at place store (met.done ++ hash ∷ []) ++ entries_at place store behind
    = ap (entries_at place store) all ∙ map-append (key_at place store) (met.done ++ hash ∷ []) behind in
    let front : BeginsWith entries (before ++ entries_at place store (met.done ++ hash ∷ [])) = front_of entries (before ++ entries_at place store (met.done ++ hash ∷ [])) (entries_at place store behind)
    (subst (λ (es : List KeyEntry). BeginsWith entries es) (ap (λ (es : List KeyEntry). before ++ es) parts ∙ sym (append_assoc before (entries_at place store (met.done ++ hash ∷ [])) (entries_at place store behind))) begins) in
    has_next entries (before ++ entries_at place store met.done) at key (met_length before place store from met.done at counted met.count)
    (subst (λ (es : List KeyEntry). BeginsWith entries es) (sym (one_more before place store hash met.done)) front)

-- ---- records

-- the keys of one record more
pub keys_more : (records : List Entry) (r : Entry) → key_entries (records ++ r ∷ []) ≡ key_entries records ++ entries_in r
keys_more records r = flat_map-append entries_in records (r ∷ []) ∙ ap (λ (es : List KeyEntry). key_entries records ++ es) (append_none (entries_in r))

pub keys_front : (entries : List KeyEntry) (all records more : List Entry) → entries ≡ key_entries all → all ≡ records ++ more → BeginsWith entries (key_entries records)
keys_front entries all records more are parts = record { rest = key_entries more; is = are ∙ ap key_entries parts ∙ flat_map-append entries_in records more }

-- the keys of the next record, as they were read of it
as_read : (records : List Entry) (r : Entry) (place store : ℕ) (keys : List ℕ) → keys ≡ index_keys r → place ≡ r.offset → store ≡ r.store
    → key_entries records ++ entries_at place store keys ≡ key_entries (records ++ r ∷ [])
as_read records r place store keys keys_are place_is store_is =
    ap (λ (ks : List ℕ). key_entries records ++ entries_at place store ks) keys_are
    ∙ ap (λ p. key_entries records ++ entries_at p store (index_keys r)) place_is
    ∙ ap (λ s. key_entries records ++ entries_at r.offset s (index_keys r)) store_is
    ∙ sym (keys_more records r)

pub keys_passed : (entries : List KeyEntry) (records : List Entry) (r : Entry) (from end place store : ℕ) (keys : List ℕ) → keys ≡ index_keys r → place ≡ r.offset → store ≡ r.store
    → from ≡ length (key_entries records) → end ≡ from + length keys → BeginsWith entries (key_entries records ++ entries_at place store keys)
    → (end ≡ length (key_entries (records ++ r ∷ []))) × BeginsWith entries (key_entries (records ++ r ∷ []))
keys_passed entries records r from end place store keys keys_are place_is store_is counted ends begins =
    let are = as_read records r place store keys keys_are place_is store_is in (
      (met_length (key_entries records) place store from keys end counted ends ∙ ap (λ (es : List KeyEntry). length es) are),
      subst (λ (es : List KeyEntry). BeginsWith entries es) are begins,
    )

pub keys_differ : (entries : List KeyEntry) (all records more : List Entry) (r : Entry) (place store : ℕ) (keys : List ℕ) → keys ≡ index_keys r → place ≡ r.offset → store ≡ r.store
    → all ≡ (records ++ r ∷ []) ++ more → entries ≡ key_entries all → BeginsWith entries (key_entries records ++ entries_at place store keys)
keys_differ entries all records more r place store keys keys_are place_is store_is parts are =
    subst (λ (es : List KeyEntry). BeginsWith entries es) (sym (as_read records r place store keys keys_are place_is store_is)) (keys_front entries all (records ++ r ∷ []) more are parts)

pub keys_whole : (entries : List KeyEntry) (records : List Entry) (k : ℕ) → BeginsWith entries (key_entries records) → k ≡ length (key_entries records) → k ≡ length entries → entries ≡ key_entries records
keys_whole entries records k begins counted long = whole_front entries (key_entries records) begins (sym long ∙ counted)
