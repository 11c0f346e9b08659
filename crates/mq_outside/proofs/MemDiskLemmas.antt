-- A disk in memory: the files it begins with.
use Rattle.std.proofs.Common.{◌≡◌, ◌≢◌, ℕ, suc, zero, ◌+◌, ◌<◌, ◌≤◌, List, [], ◌∷◌, ◌++◌, length, take, drop, get_or, Option, None, Some, String, Vec, Global, string_bytes, refl, sym, ◌∙◌, ap, arith, get_or-take, length-take-le}
use Rattle.std.proofs.lemmas.List.{append-nil, take_more, length-map}
use Rattle.std.specs.List.{AllPairs}
use Rattle.mq_outside.specs.Files.{bytes_in, overwritten}
use Rattle.mq_outside.specs.Calls.{put_file}
use Rattle.mq_outside.specs.Named.{Named, content, size_of}
use Rattle.mq_outside.specs.MemDisk.{given_files, more_files, more_bytes}
use Rattle.mq_outside.specs.MemFiles.{total, files_in}
use Rattle.mq_outside.specs.declared.mem_files.Extent.{Extent}
use Rattle.mq_outside.proofs.NamedLemmas.{content_apart, added, size-append, size-take, overwritten_none}

pub length-files_in : (extents : List Extent) (buffer : List ℕ) → length (files_in extents buffer) ≡ length extents
length-files_in [] buffer = refl
length-files_in (e ∷ extents) buffer = ap suc (length-files_in extents (drop (e.name + e.size) buffer))

pub no_extents : (extents : List Extent) (buffer : List ℕ) → files_in extents buffer ≡ [] → total extents ≡ length buffer → (length extents ≡ 0) × (length buffer ≡ 0)
no_extents [] buffer none whole = (refl, sym whole)
no_extents (e ∷ extents) buffer none whole = absurd (cc)

-- a write makes at most one file
pub more_files_most : (old : Option (List ℕ)) → more_files old ≤ 1
more_files_most None = omega arith
more_files_most (Some bytes) = omega arith

-- a write adds at most name and piece
pub more_bytes_most : (name : List ℕ) (at : ℕ) (piece : List ℕ) (old : Option (List ℕ)) → at ≤ length (bytes_in old) → more_bytes name at piece old ≤ length name + length piece
more_bytes_most name at piece None within = omega arith
more_bytes_most name at piece (Some bytes) within = omega (arith, within)

given_at : (files : List (String Global × Vec ℕ Global)) (i : ℕ) (file : String Global × Vec ℕ Global) (name bytes : List ℕ) (d : Named)
    → i < length files → file ≡ get_or files i file → name ≡ string_bytes file.0 → bytes ≡ file.1.items → get_or (given_files files) i d ≡ record { name = name; bytes = bytes }
given_at [] i file name bytes d below is named has = absurd (omega arith)
given_at (f ∷ files) zero file name bytes d below is named has =
    ap (λ (l : List ℕ). record { name = l; bytes = f.1.items }) (ap (λ (x : String Global × Vec ℕ Global). string_bytes x.0) (sym is) ∙ sym named)
    ∙ ap (λ (l : List ℕ). record { name = name; bytes = l }) (ap (λ (x : String Global × Vec ℕ Global). x.1.items) (sym is) ∙ sym has)
given_at (f ∷ files) (suc i) file name bytes d below is named has = given_at files i file name bytes d (omega arith) is named has

module _ (files : List (String Global × Vec ℕ Global)) (i : ℕ) (file : String Global × Vec ℕ Global) (name bytes : List ℕ) (below : i < length files)
    (is : file ≡ get_or files i file) (named : name ≡ string_bytes file.0) (has : bytes ≡ file.1.items) where
  within : i < length (given_files files)
  within =
      let named_file : String Global × Vec ℕ Global → Named = λ f. record { name = string_bytes f.0; bytes = f.1.items } in
      let sized : length (given_files files) ≡ length files = length-map files named_file in
      omega (arith, sized)

  given_more : take (i + 1) (given_files files) ≡ take i (given_files files) ++ record { name = name; bytes = bytes } ∷ []
  given_more =
      let d : Named = record { name = []; bytes = [] } in
      take_more (given_files files) i d within ∙ ap (λ (f : Named). take i (given_files files) ++ f ∷ []) (given_at files i file name bytes d below is named has)

  given_absent : AllPairs (λ a b. a.name ≢ b.name) (given_files files) → content (take i (given_files files)) name ≡ None
  given_absent apart = content_apart (take i (given_files files)) name (λ k d low same.
      let high : k < i = omega (arith, low, length-take-le i (given_files files) (omega (arith, within))) in
      apart k i d high within (ap (λ (f : Named). f.name) (sym (get_or-take i (given_files files) k d high)) ∙ same ∙ ap (λ (f : Named). f.name) (sym (given_at files i file name bytes d below is named has))))

  -- one file more is put onto the disk
  pub loaded : (old new : List Named) → AllPairs (λ a b. a.name ≢ b.name) (given_files files)
      → ((other : List ℕ) → content old other ≡ content (take i (given_files files)) other)
      → ((other : List ℕ) → content new other ≡ put_file name (Some (overwritten 0 bytes (bytes_in (content old name)))) (content old) other)
      → (other : List ℕ) → content new other ≡ content (take (i + 1) (given_files files)) other
  loaded old new apart so_far written other =
      let none : content old name ≡ None = so_far name ∙ given_absent apart in
      let front = take i (given_files files) in
      let next : Named = record { name = name; bytes = bytes } in
      written other
      ∙ ap (λ (l : List ℕ). put_file name (Some l) (content old) other) (overwritten_none 0 bytes (bytes_in (content old name)) (ap bytes_in none))
      ∙ ap (λ (o : Option (List ℕ)). put_file name (Some bytes) (λ n. o) other) (so_far other)
      ∙ ap (λ (l : List Named). put_file name (Some bytes) (content l) other) (sym (append-nil front))
      ∙ sym (added front [] next name (given_absent apart) refl other)
      ∙ ap (λ (l : List Named). content l other) (sym given_more)

  pub size_more : size_of (take (i + 1) (given_files files)) ≡ size_of (take i (given_files files)) + (length name + length bytes)
  size_more =
      let next : Named = record { name = name; bytes = bytes } in
      omega (arith, ap size_of given_more, size-append (take i (given_files files)) (next ∷ []))

  pub size_within : size_of (take i (given_files files)) + (length name + length bytes) ≤ size_of (given_files files)
  size_within = omega (arith, size_more, size-take (given_files files) (i + 1))
