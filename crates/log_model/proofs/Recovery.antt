-- What recovery keeps: a log of its own files, and of any files one list of records.
use Rattle.std.proofs.Common.{◌≡◌, ◌⊎◌, inl, inr, ⊎_elim, ℕ, zero, suc, ◌+◌, ◌-◌, ◌*◌, ◌/◌, ◌%◌, ◌<◌, ◌≤◌, true, false, List, [], ◌∷◌, ◌++◌, length, take, drop, slice_get, Option, Some, None, IsSome, refl, sym, ◌∙◌, ap, subst, arith, append_assoc, append-nil, length-append, take-append-drop}
use Rattle.std.proofs.lemmas.Bool.{cases_Bool}
use Rattle.std.proofs.lemmas.Nat.{mod-mul-add, div-mul-add}
use Rattle.std.proofs.lemmas.List.{drop_at, take_at, take_all, take-take}
use Rattle.std.proofs.lemmas.Option.{same_Some}
use Rattle.mq_outside.specs.Files.{Files, bytes_in, bytes_of}
use Rattle.record_codec.specs.Entry.{Entry}
use Rattle.record_codec.specs.Layout.{layout, size}
use Rattle.record_codec.specs.Blanks.{blank_front}
use Rattle.log_model.specs.Bases.{Geometry}
use Rattle.log_model.specs.Log.{fits, Follows, IsWellFormed}
use Rattle.log_model.specs.Segments.{layouts, Shape, added, opened, used, grown, laid, shape_of, end_in, segment_file, last_name, last_bytes, NoOther, AreSegmentFiles, next_segment}
use Rattle.log_model.specs.Store.{StartsWith, StandsAtPlace, AreEnded, opened_times, IsNext, IsHonest, Keeps}
use Rattle.log_model.proofs.Lists.{get_drop}
use Rattle.log_model.proofs.Places.{empty_well_formed, placed_log, well_formed_take, place_here, place_next, layouts_push, grown_here, grown_next, shape_of-append}
use Rattle.log_model.proofs.FileNames.{named_less, next_absent, shape_named, shape_low}
use Rattle.log_model.proofs.Fronts.{starts_same, starts_some, starts_no_blank, closed_ended}

-- recovery of a log's own files keeps the log
pub files_keep : (S : Geometry) (log : List Entry) (files : Files) → IsWellFormed S log → AreSegmentFiles S log files → Keeps S log files
files_keep S log files well are =
    let shape : Shape = shape_of S log in
    let placed = placed_log S log well in
    let whole : take (used shape) (last_bytes S shape files) ≡ layouts shape.last = ap (λ (l : List ℕ). take (used shape) l) are.last ∙ take_all (used shape) (layouts shape.last) (omega arith) in
    let nothing : drop (used shape) (last_bytes S shape files) ≡ [] =
    ap (λ (l : List ℕ). drop (used shape) l) (are.last ∙ sym (append-nil (layouts shape.last))) ∙ drop_at (layouts shape.last) [] (used shape) refl in
    record {
      well_formed = well;
      shape = shape;
      looks = record {
        opens = 0;
        is = refl;
        there = λ some. absurd (omega (arith, some));
        none = next_absent S (next_segment S shape.older) files (named_less S _ _ (omega arith) (shape_named S log well)) are.others;
        low = omega (arith, shape_low S log well);
        older = closed_ended S shape.older files placed.roomy are.older;
        last = whole;
      };
      ends = λ r next. starts_some r (subst (λ (l : List ℕ). StartsWith l r) nothing next.starts);
      others = are.others;
    }

-- ---- reading record by record

-- the files of these segments hold the records of the segments
pub record Reads (S : Geometry) (shape : Shape) (files : Files) : Type 0 where
  pub older : AreEnded S shape.older files
  pub last : take (used shape) (last_bytes S shape files) ≡ layouts shape.last

-- the file behind whose records a next one was opened: they stand there, and a blank behind them
pub closed_reads : (S : Geometry) (shape : Shape) (files : Files) → AreEnded S (shape.last ∷ shape.older) files → Reads S shape files
closed_reads S shape files are =
    let bytes : last_bytes S shape files ≡ are.0.0 = ap bytes_in are.0.1 in
    record {
      older = are.1;
      last = ap (λ (l : List ℕ). take (used shape) l) (bytes ∙ are.0.2.split) ∙ take_at (layouts shape.last) _ _ refl;
    }

pub opened_reads : (S : Geometry) (n : ℕ) (shape : Shape) (files : Files) → Reads S (opened_times n shape) files → Reads S shape files
opened_reads S zero shape files reads = reads
opened_reads S (suc n) shape files reads = opened_reads S n shape files (closed_reads S (opened_times n shape) files reads.older)

-- a segment that was opened first
pub opened_inside : (n : ℕ) (shape : Shape) → opened_times (suc n) shape ≡ opened_times n (opened shape)
opened_inside zero shape = refl
opened_inside (suc n) shape = ap opened (opened_inside n shape)

-- the segment behind which the first was opened ends in a blank
pub times_closed : (S : Geometry) (n : ℕ) (shape : Shape) (files : Files) → Reads S (opened_times (suc n) shape) files → AreEnded S (shape.last ∷ shape.older) files
times_closed S n shape files reads = (opened_reads S n (opened shape) files (subst (λ (s : Shape). Reads S s files) (opened_inside n shape) reads)).older

-- without the last record of the last segment
added_reads : (S : Geometry) (shape : Shape) (r : Entry) (files : Files) → Reads S (added shape (r ∷ [])) files → Reads S shape files
added_reads S shape r files reads =
    let bytes : List ℕ = last_bytes S shape files in
    let more : length (layouts (shape.last ++ r ∷ [])) ≡ used shape + length (layout r) = ap length (layouts_push shape.last r) ∙ length-append (layouts shape.last) (layout r) in
    record {
      older = reads.older;
      last = sym (take-take (used shape) (length (layouts (shape.last ++ r ∷ []))) bytes (omega (arith, more)))
          ∙ ap (λ (l : List ℕ). take (used shape) l) (reads.last ∙ layouts_push shape.last r) ∙ take_at (layouts shape.last) (layout r) _ refl;
    }

grown_reads : (S : Geometry) (shape : Shape) (r : Entry) (files : Files) → Reads S (grown S shape r) files → Reads S shape files
grown_reads S shape r files reads = ⊎_elim
    (λ (here : fits S.size (used shape) (size r) ≡ true). added_reads S shape r files (subst (λ (s : Shape). Reads S s files) (grown_here S shape r here) reads))
    (λ (full : fits S.size (used shape) (size r) ≡ false).
    closed_reads S shape files (subst (λ (s : Shape). Reads S s files) (grown_next S shape r full) reads).older)
    (cases_Bool (fits S.size (used shape) (size r)))

pub laid_reads : (S : Geometry) (shape : Shape) (records : List Entry) (files : Files) → Reads S (laid S shape records) files → Reads S shape files
laid_reads S shape [] files reads = reads
laid_reads S shape (r ∷ records) files reads = grown_reads S shape r files (laid_reads S (grown S shape r) records files reads)

-- the last record of the last segment stands behind the others
added_starts : (S : Geometry) (shape : Shape) (r : Entry) (files : Files) → Reads S (added shape (r ∷ [])) files
    → (rest : List ℕ) × (drop (used shape) (last_bytes S shape files) ≡ layout r ++ rest)
added_starts S shape r files reads =
    let bytes : List ℕ = last_bytes S shape files in
    let rest : List ℕ = drop (length (layouts (shape.last ++ r ∷ []))) bytes in
    let whole : bytes ≡ layouts shape.last ++ (layout r ++ rest) =
    sym (take-append-drop (length (layouts (shape.last ++ r ∷ []))) bytes) ∙ ap (λ (l : List ℕ). l ++ rest) (reads.last ∙ layouts_push shape.last r)
    ∙ append_assoc (layouts shape.last) (layout r) rest in
    (rest, ap (λ (l : List ℕ). drop (used shape) l) whole ∙ drop_at (layouts shape.last) (layout r ++ rest) _ refl)

-- a blank stands behind the records of a segment that isn't the last
pub closed_blank : (S : Geometry) (shape : Shape) (files : Files) → AreEnded S (shape.last ∷ shape.older) files
    → (n : ℕ) × (rest : List ℕ) × (drop (used shape) (last_bytes S shape files) ≡ blank_front n ++ rest)
closed_blank S shape files are =
    let n : ℕ = S.size - length (layouts shape.last) in
    (n, are.0.2.rest, ap (λ (l : List ℕ). drop (used shape) l) (ap bytes_in are.0.1 ∙ are.0.2.split) ∙ drop_at (layouts shape.last) (blank_front n ++ are.0.2.rest) _ refl)

-- ---- one list of records

-- what recovery keeps behind these records, in these segments
pub record KeepsRest (S : Geometry) (done rest : List Entry) (files : Files) : Type 0 where
  pub opens : ℕ
  pub reads : Reads S (opened_times opens (laid S (shape_of S done) rest)) files
  pub each : (k : ℕ) (r : Entry) → slice_get rest k ≡ Some r → Follows S (done ++ take k rest) r
  pub there : 0 < opens → IsSome (files (last_name S (opened_times opens (laid S (shape_of S done) rest))))
  pub none : files (segment_file S (suc (next_segment S (opened_times opens (laid S (shape_of S done) rest)).older))) ≡ None
  pub ends : (r : Entry) → IsNext S (done ++ rest) files (opened_times opens (laid S (shape_of S done) rest)) r → ⊥
  pub others : NoOther S (next_segment S (opened_times opens (laid S (shape_of S done) rest)).older) files

-- a record comes next: it stands behind the others, or behind their blank in a further file
pub record ComesAt (S : Geometry) (done : List Entry) (files : Files) (r : Entry) : Type 0 where
  pub follows : Follows S done r
  pub stands :
      ((fits S.size (used (shape_of S done)) (size r) ≡ true) × StartsWith (drop (used (shape_of S done)) (last_bytes S (shape_of S done) files)) r)
      ⊎ ((fits S.size (used (shape_of S done)) (size r) ≡ false) × AreEnded S ((shape_of S done).last ∷ (shape_of S done).older) files
      × StartsWith (last_bytes S (opened (shape_of S done)) files) r)

-- the first record of what is read behind these comes next
pub reads_first : (S : Geometry) (done : List Entry) (r : Entry) (rest : List Entry) (files : Files) (opens : ℕ)
    → Reads S (opened_times opens (laid S (shape_of S done) (r ∷ rest))) files → ((k : ℕ) (s : Entry) → slice_get (r ∷ rest) k ≡ Some s → Follows S (done ++ take k (r ∷ rest)) s)
    → ComesAt S done files r
reads_first S done r rest files opens there each =
    let shape : Shape = shape_of S done in
    let follows : Follows S done r = subst (λ (l : List Entry). Follows S l r) (append-nil done) (each zero r refl) in
    let reads : Reads S (grown S shape r) files = laid_reads S (grown S shape r) rest files (opened_reads S opens (laid S (grown S shape r) rest) files there) in
    record {
      follows = follows;
      stands = ⊎_elim
          (λ (here : fits S.size (used shape) (size r) ≡ true).
          let starts = added_starts S shape r files (subst (λ (s : Shape). Reads S s files) (grown_here S shape r here) reads) in
          inl (here, record { is = follows.layout; rest = starts.0; split = starts.1 }))
          (λ (full : fits S.size (used shape) (size r) ≡ false).
          let in_next : Reads S (added (opened shape) (r ∷ [])) files = subst (λ (s : Shape). Reads S s files) (grown_next S shape r full) reads in
          let starts = added_starts S (opened shape) r files in_next in
          inr (full, in_next.older, record { is = follows.layout; rest = starts.0; split = starts.1 }))
          (cases_Bool (fits S.size (used shape) (size r)));
    }

pub rest_first : (S : Geometry) (done : List Entry) (r : Entry) (rest : List Entry) (files : Files) → KeepsRest S done (r ∷ rest) files → ComesAt S done files r
rest_first S done r rest files keeps = reads_first S done r rest files keeps.opens keeps.reads keeps.each

-- two records that come next are one
pub comes_same : (S : Geometry) (done : List Entry) (files : Files) (a b : Entry) → ComesAt S done files a → ComesAt S done files b → a ≡ b
comes_same S done files a b first second =
    let shape : Shape = shape_of S done in
    let behind : List ℕ = drop (used shape) (last_bytes S shape files) in
    ⊎_elim
    (λ (here : (fits S.size (used shape) (size a) ≡ true) × StartsWith behind a). ⊎_elim
    (λ (other : (fits S.size (used shape) (size b) ≡ true) × StartsWith behind b). starts_same behind a b here.1 other.1)
    (λ (other : (fits S.size (used shape) (size b) ≡ false) × AreEnded S (shape.last ∷ shape.older) files × StartsWith (last_bytes S (opened shape) files) b).
    let blank = closed_blank S shape files other.1 in
    absurd (starts_no_blank behind a blank.0 blank.1 here.1 blank.2))
    second.stands)
    (λ (next : (fits S.size (used shape) (size a) ≡ false) × AreEnded S (shape.last ∷ shape.older) files × StartsWith (last_bytes S (opened shape) files) a). ⊎_elim
    (λ (other : (fits S.size (used shape) (size b) ≡ true) × StartsWith behind b).
    let blank = closed_blank S shape files next.1 in
    absurd (starts_no_blank behind b blank.0 blank.1 other.1 blank.2))
    (λ (other : (fits S.size (used shape) (size b) ≡ false) × AreEnded S (shape.last ∷ shape.older) files × StartsWith (last_bytes S (opened shape) files) b).
    starts_same (last_bytes S (opened shape) files) a b next.2 other.2)
    second.stands)
    first.stands

-- the next record stands behind the others, and recovery ends
pub here_ends : (S : Geometry) (done : List Entry) (files : Files) (r : Entry) (opens : ℕ) → Reads S (opened_times opens (shape_of S done)) files
    → ((other : Entry) → IsNext S (done ++ []) files (opened_times opens (shape_of S done)) other → ⊥) → Follows S done r
    → StartsWith (drop (used (shape_of S done)) (last_bytes S (shape_of S done) files)) r → r.offset ≡ end_in S (shape_of S done) → ⊥
here_ends S done files r zero reads ends follows starts place =
    ends r (record { starts = starts; follows = subst (λ (l : List Entry). Follows S l r) (sym (append-nil done)) follows; place = place })
here_ends S done files r (suc opens) reads ends follows starts place =
    let shape : Shape = shape_of S done in
    let blank = closed_blank S shape files (times_closed S opens shape files reads) in
    starts_no_blank (drop (used shape) (last_bytes S shape files)) r blank.0 blank.1 starts blank.2

-- the next record stands in a further file, one was opened, and recovery ends
pub next_stops : (S : Geometry) (done : List Entry) (files : Files) (r : Entry) (opens : ℕ) → Reads S (opened_times (suc opens) (shape_of S done)) files
    → ((other : Entry) → IsNext S (done ++ []) files (opened_times (suc opens) (shape_of S done)) other → ⊥) → Follows S done r
    → StartsWith (last_bytes S (opened (shape_of S done)) files) r → r.offset ≡ end_in S (opened (shape_of S done)) → ⊥
next_stops S done files r zero reads ends follows starts place =
    ends r (record { starts = starts; follows = subst (λ (l : List Entry). Follows S l r) (sym (append-nil done)) follows; place = place })
next_stops S done files r (suc opens) reads ends follows starts place =
    let shape : Shape = opened (shape_of S done) in
    let blank = closed_blank S shape files (times_closed S opens shape files (subst (λ (s : Shape). Reads S s files) (opened_inside (suc opens) (shape_of S done)) reads)) in
    starts_no_blank (last_bytes S shape files) r blank.0 blank.1 starts blank.2

-- the next record stands in a further file, and recovery ends
next_ends : (S : Geometry) (done : List Entry) (files : Files) (r : Entry) (opens : ℕ) → Reads S (opened_times opens (shape_of S done)) files
    → ((other : Entry) → IsNext S (done ++ []) files (opened_times opens (shape_of S done)) other → ⊥)
    → files (segment_file S (suc (next_segment S (opened_times opens (shape_of S done)).older))) ≡ None → Follows S done r
    → StartsWith (last_bytes S (opened (shape_of S done)) files) r → r.offset ≡ end_in S (opened (shape_of S done)) → ⊥
next_ends S done files r zero reads ends none follows starts place =
    starts_some r (subst (λ (o : Option (List ℕ)). StartsWith (bytes_in o) r) none starts)
next_ends S done files r (suc opens) reads ends none follows starts place = next_stops S done files r opens reads ends follows starts place

-- where recovery ends no record comes
pub nothing_comes : (S : Geometry) (done : List Entry) (files : Files) (r : Entry) → IsWellFormed S done → KeepsRest S done [] files → ComesAt S done files r → ⊥
nothing_comes S done files r well keeps comes =
    let shape : Shape = shape_of S done in
    let placed = placed_log S done well in
    let behind : List ℕ = drop (used shape) (last_bytes S shape files) in
    ⊎_elim
    (λ (here : (fits S.size (used shape) (size r) ≡ true) × StartsWith behind r). here_ends S done files r keeps.opens keeps.reads keeps.ends comes.follows here.1
    (place_here S done shape r placed comes.follows here.0))
    (λ (next : (fits S.size (used shape) (size r) ≡ false) × AreEnded S (shape.last ∷ shape.older) files × StartsWith (last_bytes S (opened shape) files) r).
    next_ends S done files r keeps.opens keeps.reads keeps.ends keeps.none comes.follows next.2 (place_next S done shape r placed comes.follows next.0))
    comes.stands

-- one record more is done
pub rest_more : (S : Geometry) (done : List Entry) (r : Entry) (rest : List Entry) (files : Files) → KeepsRest S done (r ∷ rest) files → KeepsRest S (done ++ r ∷ []) rest files
rest_more S done r rest files keeps =
    let shape_is : shape_of S (done ++ r ∷ []) ≡ grown S (shape_of S done) r = shape_of-append S done (r ∷ []) in
    record {
      opens = keeps.opens;
      reads = subst (λ (s : Shape). Reads S (opened_times keeps.opens (laid S s rest)) files) (sym shape_is) keeps.reads;
      each = λ k s got. subst (λ (l : List Entry). Follows S l s) (sym (append_assoc done (r ∷ []) (take k rest))) (keeps.each (suc k) s got);
      there = subst (λ (s : Shape). 0 < keeps.opens → IsSome (files (last_name S (opened_times keeps.opens (laid S s rest))))) (sym shape_is) keeps.there;
      none = subst (λ (s : Shape). files (segment_file S (suc (next_segment S (opened_times keeps.opens (laid S s rest)).older))) ≡ None) (sym shape_is) keeps.none;
      others = subst (λ (s : Shape). NoOther S (next_segment S (opened_times keeps.opens (laid S s rest)).older) files) (sym shape_is) keeps.others;
      ends = subst (λ (s : Shape). (other : Entry) → IsNext S ((done ++ r ∷ []) ++ rest) files (opened_times keeps.opens (laid S s rest)) other → ⊥) (sym shape_is)
          (subst (λ (l : List Entry). (other : Entry) → IsNext S l files (opened_times keeps.opens (laid S (grown S (shape_of S done) r) rest)) other → ⊥)
          (sym (append_assoc done (r ∷ []) rest)) keeps.ends);
    }

got_push : {A : Type 0} (k : ℕ) (done : List A) (r s : A) → slice_get (done ++ r ∷ []) k ≡ Some s
    → ((slice_get done k ≡ Some s) × (take k (done ++ r ∷ []) ≡ take k done)) ⊎ ((r ≡ s) × (take k (done ++ r ∷ []) ≡ done))
got_push zero [] r s got = inr (same_Some r s got, refl)
got_push (suc k) [] r s got = absurd (cc)
got_push zero (x ∷ done) r s got = inl (got, refl)
got_push {A = A} (suc k) (x ∷ done) r s got = ⊎_elim
    (λ (inside : (slice_get done k ≡ Some s) × (take k (done ++ r ∷ []) ≡ take k done)). inl (inside.0, ap (λ (l : List A). x ∷ l) inside.1))
    (λ (last : (r ≡ s) × (take k (done ++ r ∷ []) ≡ done)). inr (last.0, ap (λ (l : List A). x ∷ l) last.1))
    (got_push k done r s got)

push_each : (S : Geometry) (done : List Entry) (r : Entry) → IsWellFormed S done → Follows S done r → (k : ℕ) (s : Entry) → slice_get (done ++ r ∷ []) k ≡ Some s
    → Follows S (take k (done ++ r ∷ [])) s
push_each S done r well follows k s got = ⊎_elim
    (λ (inside : (slice_get done k ≡ Some s) × (take k (done ++ r ∷ []) ≡ take k done)). subst (λ (l : List Entry). Follows S l s) (sym inside.1) (well.each k s inside.0))
    (λ (last : (r ≡ s) × (take k (done ++ r ∷ []) ≡ done)).
    subst (λ (l : List Entry). Follows S l s) (sym last.1) (subst (Follows S done) last.0 follows))
    (got_push k done r s got)

-- a record that follows makes a longer log
pub well_formed_push : (S : Geometry) (done : List Entry) (r : Entry) → IsWellFormed S done → Follows S done r → IsWellFormed S (done ++ r ∷ [])
well_formed_push S done r well follows = record { segment = well.segment; each = λ k s got. push_each S done r well follows k s got }

-- two lists that recovery keeps behind the same records are the same
rest_same : (S : Geometry) (files : Files) (first second done : List Entry) → IsWellFormed S done → KeepsRest S done first files → KeepsRest S done second files → first ≡ second
rest_same S files [] [] done well one two = refl
rest_same S files [] (b ∷ second) done well one two = absurd (nothing_comes S done files b well one (rest_first S done b second files two))
rest_same S files (a ∷ first) [] done well one two = absurd (nothing_comes S done files a well two (rest_first S done a first files one))
rest_same S files (a ∷ first) (b ∷ second) done well one two =
    let comes = rest_first S done a first files one in
    let same : a ≡ b = comes_same S done files a b comes (rest_first S done b second files two) in
    let more = rest_more S done a first files one in
    let other = rest_more S done b second files two in
    let tails : first ≡ second = rest_same S files first second (done ++ a ∷ []) (well_formed_push S done a well comes.follows) more
    (subst (λ (r : Entry). KeepsRest S (done ++ r ∷ []) second files) (sym same) other) in
    λ i. same i ∷ tails i

pub keeps_rest : (S : Geometry) (records : List Entry) (files : Files) → Keeps S records files → KeepsRest S [] records files
keeps_rest S records files keeps = record {
  opens = keeps.looks.opens;
  reads = subst (λ (s : Shape). Reads S s files) keeps.looks.is (record { older = keeps.looks.older; last = keeps.looks.last });
  each = keeps.well_formed.each;
  there = subst (λ (s : Shape). 0 < keeps.looks.opens → IsSome (files (last_name S s))) keeps.looks.is keeps.looks.there;
  none = subst (λ (s : Shape). files (segment_file S (suc (next_segment S s.older))) ≡ None) keeps.looks.is keeps.looks.none;
  ends = subst (λ (s : Shape). (r : Entry) → IsNext S records files s r → ⊥) keeps.looks.is keeps.ends;
  others = subst (λ (s : Shape). NoOther S (next_segment S s.older) files) keeps.looks.is keeps.others;
}

-- recovery keeps one list of records
pub keeps_unique : (S : Geometry) (first second : List Entry) (files : Files) → Keeps S first files → Keeps S second files → first ≡ second
keeps_unique S first second files one two = rest_same S files first second [] (record { segment = one.well_formed.segment; each = λ k r got. absurd (cc) })
    (keeps_rest S first files one) (keeps_rest S second files two)

-- ---- where the records stand

stands_by : (S : Geometry) (shape : Shape) (files : Files) (r : Entry) → used shape < S.size → r.offset ≡ end_in S shape
    → StartsWith (drop (used shape) (last_bytes S shape files)) r → StandsAtPlace S files r
stands_by S shape files r small place starts =
    let offset : used shape ≡ r.offset % S.size = sym (ap (λ (n : ℕ). n % S.size) place ∙ mod-mul-add (next_segment S shape.older) S.size (used shape) small) in
    let number : next_segment S shape.older ≡ r.offset / S.size = sym (ap (λ (n : ℕ). n / S.size) place ∙ div-mul-add (next_segment S shape.older) S.size (used shape) small) in
    subst (λ (n : ℕ). StartsWith (drop (r.offset % S.size) (bytes_of files (segment_file S n))) r) number
    (subst (λ (n : ℕ). StartsWith (drop n (last_bytes S shape files)) r) offset starts)

-- a record that comes next stands where it says
pub comes_stands : (S : Geometry) (done : List Entry) (files : Files) (r : Entry) → IsWellFormed S done → ComesAt S done files r → StandsAtPlace S files r
comes_stands S done files r well comes =
    let shape : Shape = shape_of S done in
    let placed = placed_log S done well in
    ⊎_elim
    (λ (here : (fits S.size (used shape) (size r) ≡ true) × StartsWith (drop (used shape) (last_bytes S shape files)) r).
    stands_by S shape files r (omega (arith, placed.room)) (place_here S done shape r placed comes.follows here.0) here.1)
    (λ (next : (fits S.size (used shape) (size r) ≡ false) × AreEnded S (shape.last ∷ shape.older) files × StartsWith (last_bytes S (opened shape) files) r).
    stands_by S (opened shape) files r (omega (arith, well.segment.low)) (place_next S done shape r placed comes.follows next.0) next.2)
    comes.stands

rest_stands : (S : Geometry) (files : Files) (k : ℕ) (rest done : List Entry) (r : Entry) → IsWellFormed S done → KeepsRest S done rest files → slice_get rest k ≡ Some r
    → StandsAtPlace S files r
rest_stands S files k [] done r well keeps got = absurd (cc)
rest_stands S files zero (x ∷ rest) done r well keeps got =
    subst (StandsAtPlace S files) (same_Some x r got) (comes_stands S done files x well (rest_first S done x rest files keeps))
rest_stands S files (suc k) (x ∷ rest) done r well keeps got =
    rest_stands S files k rest (done ++ x ∷ []) r (well_formed_push S done x well (rest_first S done x rest files keeps).follows) (rest_more S done x rest files keeps) got

-- each record that recovery keeps stands where it says
pub kept_stand : (S : Geometry) (records : List Entry) (files : Files) (k : ℕ) (r : Entry) → Keeps S records files → slice_get records k ≡ Some r → StandsAtPlace S files r
kept_stand S records files k r keeps got = rest_stands S files k records [] r (empty_well_formed S keeps.well_formed.segment) (keeps_rest S records files keeps) got

-- ---- honest files

pub times_length : (S : Geometry) (n : ℕ) (shape : Shape) → next_segment S (opened_times n shape).older ≡ n + next_segment S shape.older
times_length S zero shape = omega arith
times_length S (suc n) shape = omega (arith, times_length S n shape)

-- what stands where recovery looks comes next
next_comes : (S : Geometry) (done : List Entry) (files : Files) (opens : ℕ) (r : Entry) → IsWellFormed S done → AreEnded S (opened_times opens (shape_of S done)).older files
    → IsNext S done files (opened_times opens (shape_of S done)) r → ComesAt S done files r
next_comes S done files zero r well are next =
    let shape : Shape = shape_of S done in
    let placed = placed_log S done well in
    record {
      follows = next.follows;
      stands = ⊎_elim
          (λ (here : fits S.size (used shape) (size r) ≡ true). inl (here, next.starts))
          (λ (full : fits S.size (used shape) (size r) ≡ false). absurd (omega (arith, placed.room, next.place, place_next S done shape r placed next.follows full)))
          (cases_Bool (fits S.size (used shape) (size r)));
    }
next_comes S done files (suc zero) r well are next =
    let shape : Shape = shape_of S done in
    let placed = placed_log S done well in
    record {
      follows = next.follows;
      stands = ⊎_elim
          (λ (here : fits S.size (used shape) (size r) ≡ true). absurd (omega (arith, placed.room, next.place, place_here S done shape r placed next.follows here)))
          (λ (full : fits S.size (used shape) (size r) ≡ false). inr (full, are, next.starts))
          (cases_Bool (fits S.size (used shape) (size r)));
    }
next_comes S done files (suc (suc opens)) r well are next =
    let shape : Shape = shape_of S done in
    let placed = placed_log S done well in
    let number : suc (next_segment S (opened_times (suc opens) shape).older) ≡ opens + 2 + next_segment S shape.older = omega (arith, times_length S (suc opens) shape) in
    let start : suc (next_segment S (opened_times (suc opens) shape).older) * S.size ≡ opens * S.size + (2 * S.size + next_segment S shape.older * S.size) = ap (λ (n : ℕ). n * S.size) number ∙ omega arith in
    absurd (⊎_elim
    (λ (here : fits S.size (used shape) (size r) ≡ true). omega (arith, placed.room, next.place, start, place_here S done shape r placed next.follows here))
    (λ (full : fits S.size (used shape) (size r) ≡ false). omega (arith, placed.room, next.place, start, well.segment.low, place_next S done shape r placed next.follows full))
    (cases_Bool (fits S.size (used shape) (size r))))

rest_at : (S : Geometry) (files : Files) (k : ℕ) (rest done : List Entry) → IsWellFormed S done → KeepsRest S done rest files → k ≤ length rest
    → KeepsRest S (done ++ take k rest) (drop k rest) files
rest_at S files zero rest done well keeps within = subst (λ (l : List Entry). KeepsRest S l rest files) (sym (append-nil done)) keeps
rest_at S files (suc k) [] done well keeps within = absurd (omega (arith, within))
rest_at S files (suc k) (x ∷ rest) done well keeps within =
    subst (λ (l : List Entry). KeepsRest S l (drop k rest) files) (append_assoc done (x ∷ []) (take k rest))
    (rest_at S files k rest (done ++ x ∷ []) (well_formed_push S done x well (rest_first S done x rest files keeps).follows) (rest_more S done x rest files keeps) (omega (arith, within)))

honest_step : (S : Geometry) (done left : List Entry) (files : Files) (r : Entry) → IsWellFormed S done → KeepsRest S done left files → ComesAt S done files r
    → (rest : List Entry) × (left ≡ r ∷ rest)
honest_step S done [] files r well keeps comes = absurd (nothing_comes S done files r well keeps comes)
honest_step S done (x ∷ rest) files r well keeps comes =
    (rest, ap (λ (e : Entry). e ∷ rest) (comes_same S done files x r (rest_first S done x rest files keeps) comes))

-- files are honest for what recovery keeps of them
pub kept_honest : (S : Geometry) (log : List Entry) (flushed : ℕ) (files : Files) → Keeps S log files → IsHonest S log flushed files
kept_honest S log flushed files keeps k shape r low within looks next =
    let well = well_formed_take S k log keeps.well_formed in
    let here : KeepsRest S (take k log) (drop k log) files = rest_at S files k log [] (empty_well_formed S keeps.well_formed.segment) (keeps_rest S log files keeps) within in
    let comes = next_comes S (take k log) files looks.opens r well (subst (λ (s : Shape). AreEnded S s.older files) looks.is looks.older)
    (subst (λ (s : Shape). IsNext S (take k log) files s r) looks.is next) in
    let found = honest_step S (take k log) (drop k log) files r well here comes in
    get_drop k log r found.0 found.1

-- logs with the same files are the same
pub files_tell : (S : Geometry) (first second : List Entry) (files : Files) → IsWellFormed S first → IsWellFormed S second
    → AreSegmentFiles S first files → AreSegmentFiles S second files → first ≡ second
files_tell S first second files well_first well_second one two = keeps_unique S first second files (files_keep S first files well_first one) (files_keep S second files well_second two)

-- recovery of what recovery kept keeps the same
pub recovered_again : (S : Geometry) (records again : List Entry) (files after : Files) → Keeps S records files → AreSegmentFiles S records after → Keeps S again after → again ≡ records
recovered_again S records again files after keeps are other = keeps_unique S again records after other (files_keep S records after keeps.well_formed are)
