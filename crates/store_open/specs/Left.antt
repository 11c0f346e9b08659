-- What a crash leaves of a store and its format.
use Rattle.std.specs.Prelude.{◌≡◌, ◌⊎◌, ℕ, List, Option, Some, None}
use Rattle.mq_outside.specs.Files.{HasNoFile}
use Rattle.mq_outside.specs.Disk.{DiskState, EachImage}
use Rattle.store_open.specs.declared.format.Sizes.{Sizes}
use Rattle.store_open.specs.Formats.{IsFormat}
use Rattle.store_open.specs.Openings.{FORMAT}

-- the text is absent, or the format of a store
abbrev pub IsNoneOrFormat : Option (List ℕ) → Type 0
IsNoneOrFormat None = Unit {0}
IsNoneOrFormat (Some text) = (sizes : Sizes) × IsFormat text sizes

-- every crash leaves one format, which is that of a store of these sizes
pub record HasFormat (sizes : Sizes) (keep : DiskState) : Type 0 where
  pub text : List ℕ
  pub is : IsFormat text sizes
  pub stays : EachImage (λ texts. texts FORMAT ≡ Some text) keep

-- every crash leaves no file, and no format or one of this program
pub record IsNothing (disk keep : DiskState) : Type 0 where
  pub no_file : EachImage HasNoFile disk
  pub no_other : EachImage (λ texts. IsNoneOrFormat (texts FORMAT)) keep

-- a store with its format, or nothing
abbrev pub IsStoreOrNothing : Sizes → DiskState → DiskState → Type 0
IsStoreOrNothing sizes disk keep = HasFormat sizes keep ⊎ IsNothing disk keep
