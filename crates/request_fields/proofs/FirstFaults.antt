-- The first fault of a row's fields: which field has it, and when there is none.
use Rattle.std.proofs.Common.{◌≡◌, ◌↔◌, List, [], ◌∷◌, ◌++◌, ℕ, Bool, true, false, Option, Some, None, All, refl, ◌∙◌, subst, append-nil}
use Rattle.std.specs.Prelude.{IsSomeAnd, IfSome, if◌then◌else◌}
use Rattle.std.proofs.lemmas.List.Elements.{All-nil, All-cons, All-head, All-tail}
use Rattle.record_codec.specs.Props.{value_of}
use Rattle.request_fields.specs.Kinds.{Kind, text, name, i32, i64, u31, time, count, verdict, untrue, is_of, is_text}
use Rattle.request_fields.specs.Faults.{Row, kind_fault, needed_fault, given_fault, optional_fault, or_later, required_faults, optional_faults, first_fault, IsThere, IsOfKind}
use Rattle.request_fields.specs.declared.fault.RequestFault.{RequestFault}
use Rattle.request_fields.specs.declared.fault.RequestFault.TheVariants.{Missing, BadNumber}

abbrev Pair : Type 0
Pair = List ℕ × List ℕ

abbrev FieldKind : Type 0
FieldKind = List ℕ × Kind

-- ---- one field

-- a field that is there and of its kind has no fault
there_is_faultless : (kind : Kind) (n : List ℕ) (o : Option (List ℕ)) → IsSomeAnd o (λ value. is_of kind value ≡ true) → needed_fault kind n o ≡ None
unfolding needed_fault kind_fault
there_is_faultless kind n None h = absurd h
there_is_faultless kind n (Some value) h = rw h refl

test_held : (b : Bool) (fault : RequestFault) → (if b then None else Some fault) ≡ None → b ≡ true
test_held true fault h = refl
test_held false fault h = absurd (cc)

-- and the other way round
faultless_is_there : (kind : Kind) (n : List ℕ) (o : Option (List ℕ)) → needed_fault kind n o ≡ None → IsSomeAnd o (λ value. is_of kind value ≡ true)
unfolding needed_fault kind_fault
faultless_is_there kind n None h = absurd (cc)
faultless_is_there kind n (Some value) h = test_held _ _ h

none_either_way : (b : Bool) (o : Option RequestFault) → o ≡ None → (if b then None else o) ≡ None
none_either_way true o h = refl
none_either_way false o h = h

-- a field that is of its kind where it is there has no fault
of_kind_is_faultless : (kind : Kind) (n : List ℕ) (o : Option (List ℕ)) → IfSome o (λ value. is_of kind value ≡ true) → optional_fault kind n o ≡ None
unfolding given_fault kind_fault
of_kind_is_faultless kind n None h = none_either_way (is_text kind) None refl
of_kind_is_faultless kind n (Some value) h = none_either_way (is_text kind) _ (rw h refl)

-- and the other way round
faultless_is_of_kind : (kind : Kind) (n : List ℕ) (o : Option (List ℕ)) → optional_fault kind n o ≡ None → IfSome o (λ value. is_of kind value ≡ true)
unfolding given_fault kind_fault
faultless_is_of_kind kind n None h = tt
faultless_is_of_kind text n (Some value) h = refl
faultless_is_of_kind name n (Some value) h = test_held _ _ h
faultless_is_of_kind i32 n (Some value) h = test_held _ _ h
faultless_is_of_kind i64 n (Some value) h = test_held _ _ h
faultless_is_of_kind u31 n (Some value) h = test_held _ _ h
faultless_is_of_kind time n (Some value) h = test_held _ _ h
faultless_is_of_kind count n (Some value) h = test_held _ _ h
faultless_is_of_kind verdict n (Some value) h = test_held _ _ h
faultless_is_of_kind untrue n (Some value) h = test_held _ _ h

-- a value that is not of its field's kind, which is not text
bad_value : (kind : Kind) (n value : List ℕ) → is_of kind value ≡ false → optional_fault kind n (Some value) ≡ Some (BadNumber (record { name = n }))
unfolding given_fault kind_fault
bad_value text n value h = absurd (cc)
bad_value name n value h = rw h refl
bad_value i32 n value h = rw h refl
bad_value i64 n value h = rw h refl
bad_value u31 n value h = rw h refl
bad_value time n value h = rw h refl
bad_value count n value h = rw h refl
bad_value verdict n value h = rw h refl
bad_value untrue n value h = rw h refl

-- ---- lists of fields

-- required fields without a fault leave it to those behind them
past_required : (before after : List FieldKind) (ext : List Pair) (later : Option RequestFault) → All (IsThere ext) before → required_faults (before ++ after) ext later ≡ required_faults after ext later
unfolding or_later
past_required [] after ext later h = refl
past_required (f ∷ before) after ext later h =
    rw (there_is_faultless f.1 f.0 (value_of f.0 ext) (All-head (IsThere ext) f before h)) (past_required before after ext later (All-tail (IsThere ext) f before h))

-- so do optional ones
past_optional : (before after : List FieldKind) (ext : List Pair) → All (IsOfKind ext) before → optional_faults (before ++ after) ext ≡ optional_faults after ext
unfolding or_later
past_optional [] after ext h = refl
past_optional (f ∷ before) after ext h =
    rw (of_kind_is_faultless f.1 f.0 (value_of f.0 ext) (All-head (IsOfKind ext) f before h)) (past_optional before after ext (All-tail (IsOfKind ext) f before h))

all_required : (fs : List FieldKind) (ext : List Pair) (later : Option RequestFault) → All (IsThere ext) fs → required_faults fs ext later ≡ later
all_required fs ext later h = subst (λ (w : List FieldKind). required_faults w ext later ≡ later) (append-nil fs) (past_required fs [] ext later h)

all_optional : (fs : List FieldKind) (ext : List Pair) → All (IsOfKind ext) fs → optional_faults fs ext ≡ None
all_optional fs ext h = subst (λ (w : List FieldKind). optional_faults w ext ≡ None) (append-nil fs) (past_optional fs [] ext h)

neither : (first later : Option RequestFault) → or_later first later ≡ None → (first ≡ None) × (later ≡ None)
unfolding or_later
neither None later h = (refl, h)
neither (Some fault) later h = absurd (cc)

faultless_required : (fs : List FieldKind) (ext : List Pair) (later : Option RequestFault) → required_faults fs ext later ≡ None → All (IsThere ext) fs × (later ≡ None)
faultless_required [] ext later h = (All-nil (IsThere ext), h)
faultless_required (f ∷ fs) ext later h =
    let both = neither _ _ h in
    let others = faultless_required fs ext later both.1 in
    (All-cons (IsThere ext) f fs (faultless_is_there f.1 f.0 _ both.0) others.0, others.1)

faultless_optional : (fs : List FieldKind) (ext : List Pair) → optional_faults fs ext ≡ None → All (IsOfKind ext) fs
faultless_optional [] ext h = All-nil (IsOfKind ext)
faultless_optional (f ∷ fs) ext h =
    let both = neither _ _ h in
    All-cons (IsOfKind ext) f fs (faultless_is_of_kind f.1 f.0 _ both.0) (faultless_optional fs ext both.1)

-- ---- rows

-- the first absent field is missing
pub missing_first : (row : Row) (before after : List FieldKind) (n : List ℕ) (kind : Kind) (ext : List Pair) → row.required ≡ before ++ (n, kind) ∷ after → All (IsThere ext) before → value_of n ext ≡ None → first_fault row ext ≡ Some (Missing (record { name = n }))
unfolding or_later needed_fault
missing_first row before after n kind ext fields there absent = rw (fields, past_required before ((n, kind) ∷ after) ext _ there, absent) refl

-- the first required field that is not of its kind is bad
pub bad_first : (row : Row) (before after : List FieldKind) (n : List ℕ) (kind : Kind) (ext : List Pair) (value : List ℕ) → row.required ≡ before ++ (n, kind) ∷ after → All (IsThere ext) before → value_of n ext ≡ Some value → is_of kind value ≡ false → first_fault row ext ≡ Some (BadNumber (record { name = n }))
unfolding or_later needed_fault kind_fault
bad_first row before after n kind ext value fields there given bad = rw (fields, past_required before ((n, kind) ∷ after) ext _ there, given, bad) refl

-- the first optional field that is not of its kind is bad
pub bad_optional : (row : Row) (before after : List FieldKind) (n : List ℕ) (kind : Kind) (ext : List Pair) (value : List ℕ) → row.optional ≡ before ++ (n, kind) ∷ after → All (IsThere ext) row.required → All (IsOfKind ext) before → value_of n ext ≡ Some value → is_of kind value ≡ false → first_fault row ext ≡ Some (BadNumber (record { name = n }))
unfolding or_later
bad_optional row before after n kind ext value fields there of_kind given bad =
    all_required row.required ext _ there ∙ rw (fields, past_optional before ((n, kind) ∷ after) ext of_kind, given, bad_value kind n value bad) refl

-- no fault, exactly where each field is there that has to be, and of its kind if it is there
pub no_fault : (row : Row) (ext : List Pair) → (first_fault row ext ≡ None) ↔ (All (IsThere ext) row.required × All (IsOfKind ext) row.optional)
no_fault row ext = (
  λ h. let required = faultless_required row.required ext _ h in (required.0, faultless_optional row.optional ext required.1),
  λ h. all_required row.required ext _ h.0 ∙ all_optional row.optional ext h.1,
)
