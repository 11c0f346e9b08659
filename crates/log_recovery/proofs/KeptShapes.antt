-- Where the records that are kept of a stored log end: in the last segment that the disk stores, or in the one before it.
use Rattle.std.proofs.Common.{◌≡◌, ◌⊎◌, inl, inr, ⊎_elim, ℕ, suc, ◌<◌, ◌≤◌, true, false, List, [], ◌∷◌, ◌++◌, length, take, drop, slice_get, Option, Some, None, refl, sym, ◌∙◌, ap, subst, arith, take-append-drop}
use Rattle.std.proofs.lemmas.Bool.{cases_Bool, cases_lt}
use Rattle.std.proofs.lemmas.List.{take-take, length-take, length-drop}
use Rattle.mq_outside.specs.Files.{Files, bytes_in}
use Rattle.record_codec.specs.Entry.{Entry}
use Rattle.record_codec.specs.Layout.{size}
use Rattle.log_model.specs.Bases.{Geometry, first_segment}
use Rattle.log_model.specs.Log.{fits, Follows, IsWellFormed}
use Rattle.log_model.specs.Segments.{layouts, Shape, empty_shape, added, opened, used, grown, laid, shape_of, last_name, last_bytes, AreClosed, next_segment}
use Rattle.log_model.specs.Store.{StartsWith, AreEnded, opened_times, Keeps, Stands, IsLaid}
use Rattle.log_model.proofs.Places.{next_low, placed_log, well_formed_take, shape_of-append, grown_here, grown_next, used_push, used_first, laid_longer}
use Rattle.log_model.proofs.FileNames.{IsNamed, named_less, names_apart, is_log_file, shape_named}
use Rattle.log_model.proofs.Fronts.{starts_no_blank, closed_ended}
use Rattle.log_model.proofs.Recovery.{Reads, opened_reads, closed_blank, reads_first}

-- ---- segments that grow

-- as long as no segment is opened, the older ones stay, and the last one grows
pub record Extends (first second : Shape) : Type 0 where
  pub older : second.older ≡ first.older
  pub longer : used first ≤ used second

laid_same : (S : Geometry) (shape : Shape) (records : List Entry) → next_segment S (laid S shape records).older ≡ next_segment S shape.older → Extends shape (laid S shape records)
laid_same S shape [] same = record { older = refl; longer = omega arith }
laid_same S shape (r ∷ records) same = ⊎_elim
    (λ (here : fits S.size (used shape) (size r) ≡ true).
    let is : grown S shape r ≡ added shape (r ∷ []) = grown_here S shape r here in
    let rest : Extends (added shape (r ∷ [])) (laid S (added shape (r ∷ [])) records) =
    laid_same S (added shape (r ∷ [])) records (ap (λ (s : Shape). next_segment S (laid S s records).older) (sym is) ∙ same) in
    subst (λ (s : Shape). Extends shape (laid S s records)) (sym is) (record { older = rest.older; longer = omega (arith, rest.longer, used_push shape r) }))
    (λ (full : fits S.size (used shape) (size r) ≡ false).
    let is : grown S shape r ≡ added (opened shape) (r ∷ []) = grown_next S shape r full in
    absurd (omega (arith, same, laid_longer S (grown S shape r) records, ap (λ (s : Shape). next_segment S s.older) is)))
    (cases_Bool (fits S.size (used shape) (size r)))

grown_some : (S : Geometry) (shape : Shape) (r : Entry) → 0 < used (grown S shape r)
grown_some S shape r = ⊎_elim
    (λ (here : fits S.size (used shape) (size r) ≡ true). omega (arith, ap used (grown_here S shape r here), used_push shape r))
    (λ (full : fits S.size (used shape) (size r) ≡ false). omega (arith, ap used (grown_next S shape r full), used_first shape r))
    (cases_Bool (fits S.size (used shape) (size r)))

laid_some : (S : Geometry) (shape : Shape) (records : List Entry) → 0 < used shape → 0 < used (laid S shape records)
laid_some S shape [] some = some
laid_some S shape (r ∷ records) some = laid_some S (grown S shape r) records (grown_some S shape r)

-- a log that goes past its first segment has records in its last one
pub shape_some : (S : Geometry) (records : List Entry) → first_segment S < next_segment S (shape_of S records).older → 0 < used (shape_of S records)
shape_some S [] some = absurd (omega (arith, some))
shape_some S (r ∷ records) some = laid_some S (grown S empty_shape r) records (grown_some S empty_shape r)

-- ---- what is kept of a stored log

-- what is read of the kept records' own segments
pub kept_reads : (S : Geometry) (records : List Entry) (files : Files) → Keeps S records files → Reads S (shape_of S records) files
kept_reads S records files keeps = opened_reads S keeps.looks.opens (shape_of S records) files
    (subst (λ (s : Shape). Reads S s files) keeps.looks.is (record { older = keeps.looks.older; last = keeps.looks.last }))

module _ (S : Geometry) (log : List Entry) (flushed k : ℕ) (shape : Shape) (reach : ℕ) (files : Files) (well : IsWellFormed S log) (low : flushed ≤ k) (high : k ≤ length log)
    (stands : Stands S shape reach files) (keeps : Keeps S (take k log) files) where
  -- the kept records don't go past the last segment of the disk
  not_longer : next_segment S (shape_of S (take k log)).older ≤ next_segment S shape.older
  not_longer =
      let last : Shape = shape_of S (take k log) in
      let n : ℕ = next_segment S last.older in
      ⊎_elim
      (λ (past : next_segment S shape.older < n).
      let named : IsNamed S n = named_less S _ n (omega arith) (shape_named S (take k log) keeps.well_formed) in
      let none : files (last_name S last) ≡ None = stands.others (last_name S last) (is_log_file S n) (λ j within. names_apart S n n j named (omega arith) (omega (arith, within, past)) (λ is. omega (arith, is, within, past))) in
      let some : 0 < used last = shape_some S (take k log) (omega (arith, past, next_low S shape.older)) in
      let reads = kept_reads S (take k log) files keeps in
      let empty : take (used last) [] ≡ layouts last.last = ap (λ (o : Option (List ℕ)). take (used last) (bytes_in o)) (sym none) ∙ reads.last in
      absurd (omega (arith, some, ap length empty, length-take {A = ℕ} (used last) [])))
      (λ (within : n ≤ next_segment S shape.older). within)
      (cases_lt (next_segment S shape.older) n)

  -- the kept records are the flushed ones and some more
  split : take k log ≡ take flushed log ++ drop flushed (take k log)
  split = sym (take-append-drop flushed (take k log)) ∙ ap (λ (l : List Entry). l ++ drop flushed (take k log)) (take-take flushed k log low)

  kept_laid : shape_of S (take k log) ≡ laid S (shape_of S (take flushed log)) (drop flushed (take k log))
  kept_laid = ap (shape_of S) split ∙ shape_of-append S (take flushed log) (drop flushed (take k log))

got_at : (done rest : List Entry) (k : ℕ) (s : Entry) → slice_get rest k ≡ Some s → (j : ℕ) × (slice_get (done ++ rest) j ≡ Some s) × (take j (done ++ rest) ≡ done ++ take k rest)
got_at [] rest k s got = (k, got, refl)
got_at (x ∷ done) rest k s got = let e = got_at done rest k s got in (suc e.0, e.1, ap (λ (l : List Entry). x ∷ l) e.2)

each_of : (S : Geometry) (done rest : List Entry) → IsWellFormed S (done ++ rest) → (k : ℕ) (s : Entry) → slice_get rest k ≡ Some s → Follows S (done ++ take k rest) s
each_of S done rest well k s got =
    let at = got_at done rest k s got in
    subst (λ (l : List Entry). Follows S l s) at.2 (well.each at.0 s at.1)

-- behind a closed segment the first record more opens the next one
next_opens : (S : Geometry) (done : List Entry) (r : Entry) (rest : List Entry) (files : Files) (opens : ℕ) → IsWellFormed S done → IsWellFormed S (done ++ r ∷ rest)
    → AreClosed S ((shape_of S done).last ∷ (shape_of S done).older) files → Reads S (opened_times opens (laid S (shape_of S done) (r ∷ rest))) files
    → grown S (shape_of S done) r ≡ added (opened (shape_of S done)) (r ∷ [])
next_opens S done r rest files opens well longer closed reads =
    let shape : Shape = shape_of S done in
    let placed = placed_log S done well in
    let comes = reads_first S done r rest files opens reads (each_of S done (r ∷ rest) longer) in
    ⊎_elim
    (λ (here : (fits S.size (used shape) (size r) ≡ true) × StartsWith (drop (used shape) (last_bytes S shape files)) r).
    let blank = closed_blank S shape files (closed_ended S (shape.last ∷ shape.older) files (placed.room, placed.roomy) closed) in
    absurd (starts_no_blank (drop (used shape) (last_bytes S shape files)) r blank.0 blank.1 here.1 blank.2))
    (λ (next : (fits S.size (used shape) (size r) ≡ false) × AreEnded S (shape.last ∷ shape.older) files × StartsWith (last_bytes S (opened shape) files) r).
    grown_next S shape r next.0)
    comes.stands

-- The kept records end in the last segment that the disk stores. Or just the flushed ones are kept, and a next one is opened.
abbrev pub EndIn : Geometry → List Entry → ℕ → ℕ → Shape → Type 0
EndIn S log flushed k shape = Extends shape (shape_of S (take k log)) ⊎ ((k ≡ flushed) × (shape ≡ opened (shape_of S (take k log))))

where_opened : (S : Geometry) (log : List Entry) (flushed k : ℕ) (shape : Shape) (files : Files) (rest : List Entry) → rest ≡ drop flushed (take k log) → take k log ≡ take flushed log ++ rest
    → shape_of S (take k log) ≡ laid S (shape_of S (take flushed log)) rest → flushed ≤ k → k ≤ length log → shape ≡ opened (shape_of S (take flushed log))
    → next_segment S (shape_of S (take k log)).older ≤ next_segment S shape.older → IsWellFormed S log → AreClosed S shape.older files → Keeps S (take k log) files → EndIn S log flushed k shape
where_opened S log flushed k shape files [] is split laid_is low high at_next short well closed keeps =
    let none : length (drop flushed (take k log)) ≡ 0 = ap length (sym is) in
    inr (omega (arith, none, length-drop flushed (take k log), length-take k log, low, high), at_next ∙ ap opened (sym laid_is))
where_opened S log flushed k shape files (r ∷ rest) is split laid_is low high at_next short well closed keeps =
    let front : Shape = shape_of S (take flushed log) in
    let longer : IsWellFormed S (take flushed log ++ r ∷ rest) = subst (IsWellFormed S) split keeps.well_formed in
    let reads : Reads S (opened_times keeps.looks.opens (laid S front (r ∷ rest))) files =
    subst (λ (s : Shape). Reads S (opened_times keeps.looks.opens s) files) laid_is (subst (λ (s : Shape). Reads S s files) keeps.looks.is (record { older = keeps.looks.older; last = keeps.looks.last })) in
    let opens = next_opens S (take flushed log) r rest files keeps.looks.opens (well_formed_take S flushed log well) longer (subst (λ (s : Shape). AreClosed S s.older files) at_next closed) reads in
    let is_laid : shape_of S (take k log) ≡ laid S (added (opened front) (r ∷ [])) rest = laid_is ∙ ap (λ (s : Shape). laid S s rest) opens in
    let number : next_segment S (laid S (added (opened front) (r ∷ [])) rest).older ≡ next_segment S (opened front).older =
    omega (arith, ap (λ (s : Shape). next_segment S s.older) is_laid, short, ap (λ (s : Shape). next_segment S s.older) at_next, laid_longer S (added (opened front) (r ∷ [])) rest) in
    let extends = laid_same S (added (opened front) (r ∷ [])) rest number in
    inl (record { older = ap (λ (s : Shape). s.older) is_laid ∙ extends.older ∙ ap (λ (s : Shape). s.older) (sym at_next); longer = omega (arith, ap used at_next) })

pub where_kept : (S : Geometry) (log : List Entry) (flushed k : ℕ) (shape : Shape) (reach : ℕ) (files : Files) → IsWellFormed S log → flushed ≤ k → k ≤ length log → IsLaid S (take flushed log) shape
    → Stands S shape reach files → Keeps S (take k log) files → EndIn S log flushed k shape
where_kept S log flushed k shape reach files well low high laid_as stands keeps =
    let rest : List Entry = drop flushed (take k log) in
    let laid_is = kept_laid S log flushed k shape reach files well low high stands keeps in
    let short = not_longer S log flushed k shape reach files well low high stands keeps in
    ⊎_elim
    (λ (at_end : shape ≡ shape_of S (take flushed log)).
    let is : shape_of S (take k log) ≡ laid S shape rest = laid_is ∙ ap (λ (s : Shape). laid S s rest) (sym at_end) in
    let number : next_segment S (laid S shape rest).older ≡ next_segment S shape.older = omega (arith, ap (λ (s : Shape). next_segment S s.older) is, short, laid_longer S shape rest) in
    inl (subst (Extends shape) (sym is) (laid_same S shape rest number)))
    (λ (at_next : shape ≡ opened (shape_of S (take flushed log))).
    where_opened S log flushed k shape files rest refl (split S log flushed k shape reach files well low high stands keeps) laid_is low high at_next short well stands.older keeps)
    laid_as
