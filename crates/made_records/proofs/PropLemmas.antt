-- What becomes of a property where others are dropped or put.
use Rattle.std.proofs.Common.{◌≡◌, ◌∙◌, ⊎_elim, refl, ap, ℕ, Bool, true, false, List, [], ◌∷◌, Option, Some, None, codes}
use Rattle.std.specs.Prelude.{◌||◌, not, IsSome, if◌then◌else◌}
use Rattle.std.specs.Str.{bytes_eq}
use Rattle.std.proofs.lemmas.Bool.{cases_Bool}
use Rattle.mq_bytes.specs.Decimal.{digits_of}
use Rattle.record_codec.specs.Entry.{Entry}
use Rattle.record_codec.specs.Props.{value_of, with_prop, without, has_name}
use Rattle.record_codec.proofs.LastLemmas.{value_of-put, value_of-other, value_of-kept, value_of-dropped}
use Rattle.log_model.specs.Drafts.{without_real, without_transaction, renewed_props}
use Rattle.log_model.specs.Kinds.{is_text, level_part, is_delivery}
use Rattle.made_records.proofs.TextLemmas.{differ}

-- ---- names

neither : (a b : Bool) → (a || b) ≡ false → (a ≡ false) × (b ≡ false)
neither true b is = absurd (cc is)
neither false b is = (refl, is)

-- no pair has the name after another one was dropped
pub lost : (name other : List ℕ) (ps : List (List ℕ × List ℕ)) → has_name name ps ≡ false → has_name name (without other ps) ≡ false
lost name other [] none = none
lost name other (p ∷ ps) none =
    by_test (not (bytes_eq other p.0)) (neither (bytes_eq name p.0) (has_name name ps) none).0 (lost name other ps (neither (bytes_eq name p.0) (has_name name ps) none).1)
  where
    by_test : (b : Bool) → bytes_eq name p.0 ≡ false → has_name name (without other ps) ≡ false → has_name name (if b then p ∷ without other ps else without other ps) ≡ false
    by_test true first rest = ap (λ (b : Bool). b || has_name name (without other ps)) first ∙ rest
    by_test false first rest = rest

pub lost_real : (name : List ℕ) (ps : List (List ℕ × List ℕ)) → has_name name ps ≡ false → has_name name (without_real ps) ≡ false
lost_real name ps none = lost name (codes "REAL_QID") (without (codes "REAL_TOPIC") ps) (lost name (codes "REAL_TOPIC") ps none)

pub lost_transaction : (name : List ℕ) (ps : List (List ℕ × List ℕ)) → has_name name ps ≡ false → has_name name (without_transaction ps) ≡ false
lost_transaction name ps none =
    let times = without (codes "TRANSACTION_CHECK_TIMES") ps in
    lost name (codes "TRAN_MSG") (without (codes "TRAN_PREPARED_QUEUE_OFFSET") times)
    (lost name (codes "TRAN_PREPARED_QUEUE_OFFSET") times (lost name (codes "TRANSACTION_CHECK_TIMES") ps none))

-- nor after another one was put
pub unnamed : (name other value : List ℕ) (ps : List (List ℕ × List ℕ)) → bytes_eq name other ≡ false → has_name name ps ≡ false → has_name name (with_prop other value ps) ≡ false
unnamed name other value [] apart none = ap (λ (b : Bool). b || false) apart
unnamed name other value (p ∷ ps) apart none = ⊎_elim
    (λ (here : bytes_eq other p.0 ≡ true). rw here none)
    (λ (later : bytes_eq other p.0 ≡ false).
    let parts = neither (bytes_eq name p.0) (has_name name ps) none in
    rw (later, parts.0) (unnamed name other value ps apart parts.1))
    (cases_Bool (bytes_eq other p.0))

-- a name that a pair has, has a value
pub named_value : (name : List ℕ) (ps : List (List ℕ × List ℕ)) → has_name name ps ≡ true → IsSome (value_of name ps)
named_value name [] is = absurd (cc is)
named_value name (p ∷ ps) is = by_test (bytes_eq name p.0) (λ rest. named_value name ps rest) is
  where
    by_test : (b : Bool) → (has_name name ps ≡ true → IsSome (value_of name ps)) → (b || has_name name ps) ≡ true → IsSome (if b then Some p.1 else value_of name ps)
    by_test true later here = refl
    by_test false later here = later here

-- ---- values

-- another name keeps its value
pub kept : (name other : List ℕ) (ps : List (List ℕ × List ℕ)) → bytes_eq name other ≡ false → value_of name (without other ps) ≡ value_of name ps
kept name other ps apart = value_of-kept name other ps (differ name other apart)

pub stays : (name other value : List ℕ) (ps : List (List ℕ × List ℕ)) → bytes_eq name other ≡ false → value_of name (with_prop other value ps) ≡ value_of name ps
stays name other value ps apart = value_of-other name other value ps (differ name other apart)

-- without the topic and the queue that the message is for
pub kept_real : (name : List ℕ) (ps : List (List ℕ × List ℕ)) → bytes_eq name (codes "REAL_TOPIC") ≡ false → bytes_eq name (codes "REAL_QID") ≡ false
    → value_of name (without_real ps) ≡ value_of name ps
kept_real name ps topic queue = kept name (codes "REAL_QID") (without (codes "REAL_TOPIC") ps) queue ∙ kept name (codes "REAL_TOPIC") ps topic

-- and without those of its transaction
pub kept_transaction : (name : List ℕ) (ps : List (List ℕ × List ℕ)) → bytes_eq name (codes "TRANSACTION_CHECK_TIMES") ≡ false
    → bytes_eq name (codes "TRAN_PREPARED_QUEUE_OFFSET") ≡ false → bytes_eq name (codes "TRAN_MSG") ≡ false → value_of name (without_transaction ps) ≡ value_of name ps
kept_transaction name ps times offset message =
    kept name (codes "TRAN_MSG") (without (codes "TRAN_PREPARED_QUEUE_OFFSET") (without (codes "TRANSACTION_CHECK_TIMES") ps)) message
    ∙ kept name (codes "TRAN_PREPARED_QUEUE_OFFSET") (without (codes "TRANSACTION_CHECK_TIMES") ps) offset
    ∙ kept name (codes "TRANSACTION_CHECK_TIMES") ps times

pub no_origin : (ps : List (List ℕ × List ℕ)) → value_of (codes "TRAN_PREPARED_QUEUE_OFFSET") (without_transaction ps) ≡ None
no_origin ps =
    kept (codes "TRAN_PREPARED_QUEUE_OFFSET") (codes "TRAN_MSG") (without (codes "TRAN_PREPARED_QUEUE_OFFSET") (without (codes "TRANSACTION_CHECK_TIMES") ps)) refl
    ∙ value_of-dropped (codes "TRAN_PREPARED_QUEUE_OFFSET") (without (codes "TRANSACTION_CHECK_TIMES") ps)

-- with the numbers of a renewal
pub renewed_value : (name : List ℕ) (n : ℕ) (r : Entry) → bytes_eq name (codes "TRANSACTION_CHECK_TIMES") ≡ false → bytes_eq name (codes "TRAN_PREPARED_QUEUE_OFFSET") ≡ false
    → value_of name (renewed_props n r) ≡ value_of name r.props
renewed_value name n r times offset =
    stays name (codes "TRANSACTION_CHECK_TIMES") (digits_of n) (with_prop (codes "TRAN_PREPARED_QUEUE_OFFSET") (digits_of r.queue_offset) r.props) times
    ∙ stays name (codes "TRAN_PREPARED_QUEUE_OFFSET") (digits_of r.queue_offset) r.props offset

pub renewed_origin : (n : ℕ) (r : Entry) → value_of (codes "TRAN_PREPARED_QUEUE_OFFSET") (renewed_props n r) ≡ Some (digits_of r.queue_offset)
renewed_origin n r =
    stays (codes "TRAN_PREPARED_QUEUE_OFFSET") (codes "TRANSACTION_CHECK_TIMES") (digits_of n)
    (with_prop (codes "TRAN_PREPARED_QUEUE_OFFSET") (digits_of r.queue_offset) r.props) refl
    ∙ value_of-put (codes "TRAN_PREPARED_QUEUE_OFFSET") (digits_of r.queue_offset) r.props

pub renewed_times : (n : ℕ) (r : Entry) → value_of (codes "TRANSACTION_CHECK_TIMES") (renewed_props n r) ≡ Some (digits_of n)
renewed_times n r = value_of-put (codes "TRANSACTION_CHECK_TIMES") (digits_of n) (with_prop (codes "TRAN_PREPARED_QUEUE_OFFSET") (digits_of r.queue_offset) r.props)

-- ---- deliveries

-- a record without the mark of a delivery is none
pub not_delivered : (r : Entry) → value_of (codes "DELAY_FROM") r.props ≡ None → (level : ℕ) → is_delivery level r ≡ false
not_delivered r none level = ap (λ (o : Option (List ℕ)). is_text (digits_of level) (level_part o)) none
