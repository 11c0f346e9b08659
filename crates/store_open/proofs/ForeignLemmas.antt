-- When a store is foreign.
use Rattle.std.proofs.Common.{◌≡◌, ◌≢◌, ◌⊎◌, inl, inr, ℕ, List, [], ◌∷◌, Option, Some, None, refl, sym, subst, arith}
use Rattle.std.specs.Prelude.{slice_get, IsSome}
use Rattle.std.specs.List.{Contains}
use Rattle.mq_outside.specs.Files.{Files, Lists, HasNoFile}
use Rattle.mq_outside.specs.Disk.{DiskState, IsDurable}
use Rattle.store_open.specs.declared.format.Sizes.{Sizes}
use Rattle.store_open.specs.declared.format.AskedSizes.{AskedSizes}
use Rattle.store_open.specs.Openings.{FORMAT, IsFirstFile, IsForeign, StoreTold, AreSizesOf, IsOpened, format_after}
use Rattle.store_open.specs.Formats.{format_text, new_sizes, IsFormatFor}
use Rattle.store_open.specs.declared.status.Status.{Status}

-- the name that a status tells, unless there was no memory for it
pub tells_name : (code : ℕ) (name wanted : List ℕ) (P : Type 0) → (code ≡ 6) ⊎ (code ≡ 7) → (code ≢ 7 → name ≡ wanted) → P → (code ≡ 7) ⊎ ((code ≡ 6) × (name ≡ wanted) × P)
tells_name code name wanted P (inl six) named p = inr (six, named (λ seven. omega (arith, six, seven)), p)
tells_name code name wanted P (inr seven) named p = inl seven

is_listed : (names : List (List ℕ)) (name : List ℕ) → slice_get names 0 ≡ Some name → Contains names name
is_listed [] name first = cc
is_listed (n ∷ names) name first = let same : n ≡ name = cc in (0, omega arith, same)

is_there : (bytes : Option (List ℕ)) → bytes ≡ None → IsSome bytes → ⊥
is_there None none there = cc
is_there (Some b) none there = cc

-- where no file is, none is the first
pub no_first_file : (files : Files) (name : List ℕ) → HasNoFile files → IsFirstFile files name → ⊥
no_first_file files name none first = is_there (files name) (none name) ((first.listed.each name).0 (is_listed first.names name first.first))

absent : (bytes : Option (List ℕ)) → (IsSome bytes → ⊥) → bytes ≡ None
absent None not_there = refl
absent (Some b) not_there = absurd (not_there refl)

-- where no name is listed, no file is
pub none_listed : (files : Files) → Lists files [] → HasNoFile files
none_listed files listed name = absent (files name) (λ there. let contained = (listed.each name).1 there in omega (arith, contained.1))

-- the status of a text that is no format, or one of other sizes
pub foreign_format : (files : Files) (kept : Option (List ℕ)) (text : List ℕ) (asked : AskedSizes) (status : Status) → kept ≡ Some text
    → (status.code ≡ 7) ⊎ ((status.code ≡ 6) × (status.name ≡ FORMAT) × ((sizes : Sizes) → IsFormatFor text asked sizes → ⊥)) → status.code ≡ 6
    → IsForeign files kept asked status.name
foreign_format files None text asked status is cause six = cc
foreign_format files (Some stored) text asked status is (inl seven) six = absurd (omega (arith, seven, six))
foreign_format files (Some stored) text asked status is (inr foreign) six =
    let same : stored ≡ text = cc in
    (foreign.1, λ sizes format. foreign.2 sizes (subst (λ (t : List ℕ). IsFormatFor t asked sizes) same format))

-- a store that is new: its format was written
pub new_opened : (asked : AskedSizes) (sizes : Sizes) (store : StoreTold) (keep : DiskState) → (store.keep → store.texts FORMAT ≡ None)
    → sizes ≡ new_sizes asked → (store.disk → HasNoFile store.files) → (store.keep → keep.reads FORMAT ≡ Some (format_text sizes)) → (store.keep → IsDurable FORMAT keep)
    → IsOpened asked sizes store keep
new_opened asked sizes store keep none are empty written durable = record {
  sizes_are = λ told. subst (λ (kept : Option (List ℕ)). AreSizesOf kept asked sizes) (sym (none told)) are;
  own = λ told kept name foreign. no_first_file store.files name (empty told) (subst (λ (text : Option (List ℕ)). IsForeign store.files text asked name) (none kept) foreign);
  stands = λ told. subst (λ (kept : Option (List ℕ)). keep.reads FORMAT ≡ Some (format_after kept sizes)) (sym (none told)) (written told);
  stays = durable;
}
