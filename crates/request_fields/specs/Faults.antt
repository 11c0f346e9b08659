-- Which fault the fields of a request have, by the row of its code.
use Rattle.std.specs.Prelude.{◌≡◌, ℕ, List, [], ◌∷◌, true, IsSomeAnd, IfSome, Option, Some, None, if◌then◌else◌}
use Rattle.request_fields.specs.Kinds.{Kind, is_of, is_text}
use Rattle.record_codec.specs.Props.{value_of}
use Rattle.request_fields.specs.declared.fault.RequestFault.{RequestFault}
use Rattle.request_fields.specs.declared.fault.RequestFault.TheVariants.{Missing, BadNumber}

-- what a code has in its fields: names and kinds, in their order
pub record Row : Type 0 where
  pub required : List (List ℕ × Kind)
  pub optional : List (List ℕ × Kind)

-- a text that is not of its kind
unfoldable pub kind_fault : Kind → List ℕ → List ℕ → Option RequestFault
kind_fault kind name value = if is_of kind value then None else Some (BadNumber (record { name = name }))

-- the fault of a field that has to be there
unfoldable pub needed_fault : Kind → List ℕ → Option (List ℕ) → Option RequestFault
needed_fault kind name None = Some (Missing (record { name = name }))
needed_fault kind name (Some value) = kind_fault kind name value

-- the fault of a field that may be absent, where its kind is not text
unfoldable pub given_fault : Kind → List ℕ → Option (List ℕ) → Option RequestFault
given_fault kind name None = None
given_fault kind name (Some value) = kind_fault kind name value

-- the fault of a field that may be absent
abbrev pub optional_fault : Kind → List ℕ → Option (List ℕ) → Option RequestFault
optional_fault kind name value = if is_text kind then None else given_fault kind name value

-- the fault, or else the later one
unfoldable pub or_later : Option RequestFault → Option RequestFault → Option RequestFault
or_later (Some fault) later = Some fault
or_later None later = later

-- the first fault of fields that may be absent
abbrev pub optional_faults : List (List ℕ × Kind) → List (List ℕ × List ℕ) → Option RequestFault
optional_faults [] ext = None
optional_faults (f ∷ fields) ext = or_later (optional_fault f.1 f.0 (value_of f.0 ext)) (optional_faults fields ext)

-- the first fault of fields that have to be there, or else the later one
abbrev pub required_faults : List (List ℕ × Kind) → List (List ℕ × List ℕ) → Option RequestFault → Option RequestFault
required_faults [] ext later = later
required_faults (f ∷ fields) ext later = or_later (needed_fault f.1 f.0 (value_of f.0 ext)) (required_faults fields ext later)

-- the first fault of the fields: of the required ones in their order, then of the optional ones in theirs
abbrev pub first_fault : Row → List (List ℕ × List ℕ) → Option RequestFault
first_fault row ext = required_faults row.required ext (optional_faults row.optional ext)

-- the field is there and of its kind
abbrev pub IsThere : List (List ℕ × List ℕ) → List ℕ × Kind → Type 0
IsThere ext f = IsSomeAnd (value_of f.0 ext) (λ value. is_of f.1 value ≡ true)

-- the field is of its kind where it is there
abbrev pub IsOfKind : List (List ℕ × List ℕ) → List ℕ × Kind → Type 0
IsOfKind ext f = IfSome (value_of f.0 ext) (λ value. is_of f.1 value ≡ true)
