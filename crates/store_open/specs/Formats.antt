-- The text of the format: which store this is.
use Rattle.std.specs.Prelude.{◌≡◌, ℕ, ◌≤◌, List, ◌∷◌, ◌++◌, codes, IfSome, None, unwrap_or}
use Rattle.mq_bytes.specs.Decimal.{digits_of}
use Rattle.log_model.specs.Log.{IsSegmentSize}
use Rattle.store_open.specs.declared.format.Sizes.{Sizes}
use Rattle.store_open.specs.declared.format.AskedSizes.{AskedSizes}

-- three numbers with a space between: how many bytes a segment has, and how many slots and entry numbers an index file
abbrev pub sizes_text : Sizes → List ℕ
sizes_text sizes = digits_of sizes.segment ++ 32 ∷ (digits_of sizes.slots ++ 32 ∷ digits_of sizes.entries)

-- the name, the version, the sizes and a line end
abbrev pub format_text : Sizes → List ℕ
format_text sizes = codes "mq_broker 1 " ++ (sizes_text sizes ++ codes "\n")

-- how many slots an index file may have
pub record IsSlotCount (n : ℕ) : Type 0 where
  pub low : 1 ≤ n
  pub high : n ≤ 5000000

-- how many entry numbers an index file may have
pub record IsEntryCount (n : ℕ) : Type 0 where
  pub low : 2 ≤ n
  pub high : n ≤ 20000000

-- the sizes that a store may have
pub record AreSizes (sizes : Sizes) : Type 0 where
  pub segment : IsSegmentSize sizes.segment
  pub slots : IsSlotCount sizes.slots
  pub entries : IsEntryCount sizes.entries

-- the text is the format of a store of these sizes
pub record IsFormat (text : List ℕ) (sizes : Sizes) : Type 0 where
  pub is : text ≡ format_text sizes
  pub allowed : AreSizes sizes

-- ---- the sizes that are asked for

-- each is one that a store may have
pub record AreAllowed (asked : AskedSizes) : Type 0 where
  pub segment : IfSome asked.segment IsSegmentSize
  pub slots : IfSome asked.slots IsSlotCount
  pub entries : IfSome asked.entries IsEntryCount

-- no size is asked for
abbrev pub no_sizes : AskedSizes
no_sizes = record { segment = None; slots = None; entries = None }

-- the sizes of a new store: those that are asked for, and the defaults for the rest
abbrev pub new_sizes : AskedSizes → Sizes
new_sizes asked = record {
  segment = unwrap_or asked.segment 1073741824;
  slots = unwrap_or asked.slots 65536;
  entries = unwrap_or asked.entries 262144;
}

-- each is that of the store
pub record Agrees (asked : AskedSizes) (sizes : Sizes) : Type 0 where
  pub segment : IfSome asked.segment (λ size. size ≡ sizes.segment)
  pub slots : IfSome asked.slots (λ n. n ≡ sizes.slots)
  pub entries : IfSome asked.entries (λ n. n ≡ sizes.entries)

-- the text is the format of a store of these sizes, and no others were asked for
pub record IsFormatFor (text : List ℕ) (asked : AskedSizes) (sizes : Sizes) : Type 0 where
  pub format : IsFormat text sizes
  pub agrees : Agrees asked sizes
