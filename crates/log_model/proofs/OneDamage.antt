-- Damage stands at one place.
use Rattle.std.proofs.Common.{◌≡◌, ◌≢◌, ⊎_elim, ℕ, zero, suc, ◌+◌, ◌-◌, ◌*◌, ◌^◌, ◌<◌, ◌≤◌, true, false, bytes_eq, List, [], ◌∷◌, ◌++◌, take, drop, slice_get, Some, IsSome, refl, sym, ◌∙◌, ap, subst, arith, append_assoc}
use Rattle.std.proofs.lemmas.Bool.{cases_order, cases_Bool}
use Rattle.std.proofs.lemmas.Slice.Eq.{bytes_eq-Decides}
use Rattle.mq_outside.specs.Files.{Files}
use Rattle.record_codec.specs.Entry.{Entry}
use Rattle.record_codec.specs.Layout.{size}
use Rattle.log_model.specs.Bases.{Geometry}
use Rattle.log_model.specs.Log.{fits, Follows, IsWellFormed}
use Rattle.log_model.specs.Segments.{Shape, opened, used, laid, grown, shape_of, segment_start, end_in, segment_file, last_name, last_bytes, next_segment}
use Rattle.log_model.specs.Store.{StartsWith, EndsInBlank, AreEnded, opened_times, IsNext, ComesNext, ReadsTo, IsMisnamed, IsBroken, IsDamagedAt}
use Rattle.log_model.proofs.Places.{grown_next, next_low, grown_longer, laid_longer, empty_well_formed, shape_of-append}
use Rattle.log_model.proofs.Fronts.{starts_no_blank}
use Rattle.log_model.proofs.NameOrder.{precede_once}
use Rattle.log_model.proofs.Recovery.{Reads, reads_first, comes_same, well_formed_push, times_closed, times_length, opened_inside, closed_blank}
use Rattle.log_model.proofs.Damage.{BrokenRest, broken_more, broken_more-opens, broken_stops, ended_last, times_add}

-- one file comes next
pub next_same : (S : Geometry) (n : ℕ) (files : Files) (a b : List ℕ) → ComesNext S n files a → ComesNext S n files b → a ≡ b
next_same S n files a b first second = ⊎_elim
    (λ (same : bytes_eq a b ≡ true). (bytes_eq-Decides a b).0 same)
    (λ (apart : bytes_eq a b ≡ false).
    let other : a ≢ b = λ is. let full : false ≡ true = sym apart ∙ (bytes_eq-Decides a b).1 is in absurd (cc) in
    absurd (precede_once a b (first.first b second.in_folder second.there second.behind (λ is. other (sym is))) (second.first a first.in_folder first.there first.behind other)))
    (cases_Bool (bytes_eq a b))

-- ---- reading past a broken file

-- what is read behind these records, past file m
pub record PastRest (S : Geometry) (done rest : List Entry) (files : Files) (m : ℕ) : Type 0 where
  pub opens : ℕ
  pub reads : Reads S (opened_times opens (laid S (shape_of S done) rest)) files
  pub each : (k : ℕ) (r : Entry) → slice_get rest k ≡ Some r → Follows S (done ++ take k rest) r
  pub past : m < next_segment S (opened_times opens (laid S (shape_of S done) rest)).older

-- and what is read up to file m, which is broken
pub record BrokenAt (S : Geometry) (done rest : List Entry) (files : Files) (m : ℕ) : Type 0 where
  pub broken : BrokenRest S done rest files
  pub at : next_segment S (opened_times broken.opens (laid S (shape_of S done) rest)).older ≡ m

past_more : (S : Geometry) (done : List Entry) (r : Entry) (rest : List Entry) (files : Files) (m : ℕ) → PastRest S done (r ∷ rest) files m → PastRest S (done ++ r ∷ []) rest files m
past_more S done r rest files m past =
    let is : shape_of S (done ++ r ∷ []) ≡ grown S (shape_of S done) r = shape_of-append S done (r ∷ []) in
    record {
      opens = past.opens;
      reads = subst (λ (s : Shape). Reads S (opened_times past.opens (laid S s rest)) files) (sym is) past.reads;
      each = λ k s got. subst (λ (l : List Entry). Follows S l s) (sym (append_assoc done (r ∷ []) (take k rest))) (past.each (suc k) s got);
      past = subst (λ (s : Shape). m < next_segment S (opened_times past.opens (laid S s rest)).older) (sym is) past.past;
    }

at_more : (S : Geometry) (done : List Entry) (r : Entry) (rest : List Entry) (files : Files) (m : ℕ) → BrokenAt S done (r ∷ rest) files m → BrokenAt S (done ++ r ∷ []) rest files m
at_more S done r rest files m at =
    let is : shape_of S (done ++ r ∷ []) ≡ grown S (shape_of S done) r = shape_of-append S done (r ∷ []) in
    record {
      broken = broken_more S done r rest files at.broken;
      at = ap (λ (n : ℕ). next_segment S (opened_times n (laid S (shape_of S (done ++ r ∷ [])) rest)).older) (broken_more-opens S done r rest files at.broken)
          ∙ subst (λ (s : Shape). next_segment S (opened_times at.broken.opens (laid S s rest)).older ≡ m) (sym is) at.at;
    }

-- the reading that goes past has no record where the broken file, or one before it, has one
here_past : (S : Geometry) (shape : Shape) (files : Files) (m opens : ℕ) (r : Entry) → Reads S (opened_times opens shape) files → m < next_segment S (opened_times opens shape).older
    → next_segment S shape.older ≤ m → StartsWith (drop (used shape) (last_bytes S shape files)) r → ⊥
here_past S shape files m zero r reads past low starts = omega (arith, past, low)
here_past S shape files m (suc opens) r reads past low starts =
    let blank = closed_blank S shape files (times_closed S opens shape files reads) in
    starts_no_blank (drop (used shape) (last_bytes S shape files)) r blank.0 blank.1 starts blank.2

next_past : (S : Geometry) (shape : Shape) (files : Files) (m opens : ℕ) (r : Entry) → Reads S (opened_times opens shape) files → m < next_segment S (opened_times opens shape).older
    → suc (next_segment S shape.older) ≤ m → StartsWith (last_bytes S (opened shape) files) r → ⊥
next_past S shape files m zero r reads past low starts = omega (arith, past, low)
next_past S shape files m (suc opens) r reads past low starts =
    here_past S (opened shape) files m opens r (subst (λ (s : Shape). Reads S s files) (opened_inside opens shape) reads)
    (subst (λ (s : Shape). m < next_segment S s.older) (opened_inside opens shape) past) low starts

past_ends : (S : Geometry) (done : List Entry) (r : Entry) (read : List Entry) (files : Files) (m : ℕ) → PastRest S done [] files m → BrokenAt S done (r ∷ read) files m → ⊥
past_ends S done r read files m past at =
    let shape : Shape = shape_of S done in
    let comes = reads_first S done r read files at.broken.opens at.broken.reads at.broken.each in
    let longer : next_segment S (grown S shape r).older ≤ m = omega (arith, at.at, times_length S at.broken.opens (laid S (grown S shape r) read), laid_longer S (grown S shape r) read) in
    ⊎_elim
    (λ (here : (fits S.size (used shape) (size r) ≡ true) × StartsWith (drop (used shape) (last_bytes S shape files)) r).
    here_past S shape files m past.opens r past.reads past.past (omega (arith, longer, grown_longer S shape r)) here.1)
    (λ (next : (fits S.size (used shape) (size r) ≡ false) × AreEnded S (shape.last ∷ shape.older) files × StartsWith (last_bytes S (opened shape) files) r).
    next_past S shape files m past.opens r past.reads past.past (omega (arith, longer, ap (λ (s : Shape). next_segment S s.older) (grown_next S shape r next.0))) next.2)
    comes.stands

-- nothing is read past a broken file
past_not : (S : Geometry) (files : Files) (m : ℕ) (beyond read done : List Entry) → IsWellFormed S done → PastRest S done beyond files m → BrokenAt S done read files m → ⊥
past_not S files m [] [] done well past at =
    let shape : Shape = shape_of S done in
    let b : ℕ = at.broken.opens in
    let d : ℕ = past.opens - b - 1 in
    let more : b < past.opens = omega (arith, past.past, at.at, times_length S b shape, times_length S past.opens shape) in
    let is : past.opens ≡ suc d + b = omega (arith, more) in
    let shape_is : opened_times past.opens shape ≡ opened_times (suc d) (opened_times b shape) = ap (λ (n : ℕ). opened_times n shape) is ∙ times_add (suc d) b shape in
    at.broken.full (ended_last S (opened_times b shape) files (times_closed S d (opened_times b shape) files (subst (λ (s : Shape). Reads S s files) shape_is past.reads)))
past_not S files m [] (b ∷ read) done well past at = past_ends S done b read files m past at
past_not S files m (a ∷ beyond) [] done well past at = broken_stops S done files a well at.broken (reads_first S done a beyond files past.opens past.reads past.each)
past_not S files m (a ∷ beyond) (b ∷ read) done well past at =
    let comes = reads_first S done a beyond files past.opens past.reads past.each in
    let same : a ≡ b = comes_same S done files a b comes (reads_first S done b read files at.broken.opens at.broken.reads at.broken.each) in
    past_not S files m beyond read (done ++ a ∷ []) (well_formed_push S done a well comes.follows) (past_more S done a beyond files m past)
    (subst (λ (r : Entry). BrokenAt S (done ++ r ∷ []) read files m) (sym same) (at_more S done b read files m at))

-- up to one broken file one list of records is read
broken_same : (S : Geometry) (files : Files) (first second done : List Entry) → IsWellFormed S done → BrokenRest S done first files → BrokenRest S done second files → first ≡ second
broken_same S files [] [] done well one two = refl
broken_same S files [] (b ∷ second) done well one two = absurd (broken_stops S done files b well one (reads_first S done b second files two.opens two.reads two.each))
broken_same S files (a ∷ first) [] done well one two = absurd (broken_stops S done files a well two (reads_first S done a first files one.opens one.reads one.each))
broken_same S files (a ∷ first) (b ∷ second) done well one two =
    let comes = reads_first S done a first files one.opens one.reads one.each in
    let same : a ≡ b = comes_same S done files a b comes (reads_first S done b second files two.opens two.reads two.each) in
    let tails : first ≡ second = broken_same S files first second (done ++ a ∷ []) (well_formed_push S done a well comes.follows) (broken_more S done a first files one)
    (subst (λ (r : Entry). BrokenRest S (done ++ r ∷ []) second files) (sym same) (broken_more S done b second files two)) in
    λ i. same i ∷ tails i

-- ---- two damages are one

broken_rest : (S : Geometry) (files : Files) (records : List Entry) (shape : Shape) (name : List ℕ) → (reads : ReadsTo S records shape files) → ComesNext S (next_segment S shape.older) files name
    → IsBroken S records shape files name → BrokenAt S [] records files (next_segment S shape.older)
broken_rest S files records shape name reads next broken =
    let is = reads.is in
    record {
      broken = record {
        opens = reads.opens;
        reads = subst (λ (s : Shape). Reads S s files) is (record { older = reads.older; last = reads.last });
        each = reads.well_formed.each;
        there = subst (λ (s : Shape). IsSome (files (last_name S s))) is (subst (λ (l : List ℕ). IsSome (files l)) broken.is next.there);
        behind = subst (λ (s : Shape). (other : List ℕ) × ComesNext S (suc (next_segment S s.older)) files other) is broken.behind;
        ends = subst (λ (s : Shape). (r : Entry) → IsNext S records files s r → ⊥) is broken.ends;
        full = subst (λ (s : Shape). EndsInBlank S s.last (last_bytes S s files) → ⊥) is broken.full;
      };
      at = sym (ap (λ (s : Shape). next_segment S s.older) is);
    }

past_rest : (S : Geometry) (files : Files) (records : List Entry) (shape : Shape) (m : ℕ) → (reads : ReadsTo S records shape files) → m < next_segment S shape.older → PastRest S [] records files m
past_rest S files records shape m reads past = record {
  opens = reads.opens;
  reads = subst (λ (s : Shape). Reads S s files) reads.is (record { older = reads.older; last = reads.last });
  each = reads.well_formed.each;
  past = subst (λ (s : Shape). m < next_segment S s.older) reads.is past;
}

-- no damage stands in a file behind which another is read
earlier_not : (S : Geometry) (files : Files) (place other_place : ℕ) (name other : List ℕ) → (first : IsDamagedAt S files place name) → (second : IsDamagedAt S files other_place other)
    → next_segment S first.shape.older < next_segment S second.shape.older → ⊥
earlier_not S files place other_place name other first second less = ⊎_elim
    (λ (misnamed : IsMisnamed S first.shape name).
    let named = second.reads.named (next_segment S first.shape.older) (next_low S first.shape.older) less in
    ⊎_elim
    (λ (apart : name ≢ last_name S first.shape). apart (next_same S (next_segment S first.shape.older) files name (last_name S first.shape) first.next named.1))
    (λ (far : 2 ^ 63 ≤ segment_start S first.shape). omega (arith, far, named.0))
    misnamed.other)
    (λ (broken : IsBroken S first.records first.shape files name).
    past_not S files (next_segment S first.shape.older) second.records first.records [] (empty_well_formed S first.reads.well_formed.segment)
    (past_rest S files second.records second.shape (next_segment S first.shape.older) second.reads less)
    (broken_rest S files first.records first.shape name first.reads first.next broken))
    first.fault

-- in one file the place is one
same_file : (S : Geometry) (files : Files) (place other_place : ℕ) (name other : List ℕ) → (first : IsDamagedAt S files place name) → (second : IsDamagedAt S files other_place other)
    → next_segment S first.shape.older ≡ next_segment S second.shape.older → name ≡ other → place ≡ other_place
same_file S files place other_place name other first second numbers names =
    let bases : segment_start S first.shape ≡ segment_start S second.shape = ap (λ (n : ℕ). n * S.size) numbers in
    let files_same : last_name S first.shape ≡ last_name S second.shape = ap (segment_file S) numbers in
    ⊎_elim
    (λ (misnamed : IsMisnamed S first.shape name). ⊎_elim
    (λ (also : IsMisnamed S second.shape other). omega (arith, first.here, second.here, bases, misnamed.starts, also.starts))
    (λ (broken : IsBroken S second.records second.shape files other). absurd (⊎_elim
    (λ (apart : name ≢ last_name S first.shape). apart (names ∙ broken.is ∙ sym files_same))
    (λ (far : 2 ^ 63 ≤ segment_start S first.shape). omega (arith, far, broken.low, bases))
    misnamed.other))
    second.fault)
    (λ (broken : IsBroken S first.records first.shape files name). ⊎_elim
    (λ (misnamed : IsMisnamed S second.shape other). absurd (⊎_elim
    (λ (apart : other ≢ last_name S second.shape). apart (sym names ∙ broken.is ∙ files_same))
    (λ (far : 2 ^ 63 ≤ segment_start S second.shape). omega (arith, far, broken.low, bases))
    misnamed.other))
    (λ (also : IsBroken S second.records second.shape files other).
    let one = broken_rest S files first.records first.shape name first.reads first.next broken in
    let two = broken_rest S files second.records second.shape other second.reads second.next also in
    let same : first.records ≡ second.records = broken_same S files first.records second.records [] (empty_well_formed S first.reads.well_formed.segment) one.broken two.broken in
    let shapes : shape_of S first.records ≡ shape_of S second.records = ap (shape_of S) same in
    let opens : first.reads.opens ≡ second.reads.opens =
    omega (
      arith,
      numbers,
      ap (λ (s : Shape). next_segment S s.older) first.reads.is,
      ap (λ (s : Shape). next_segment S s.older) second.reads.is,
      times_length S first.reads.opens (shape_of S first.records),
      times_length S second.reads.opens (shape_of S second.records),
      ap (λ (s : Shape). next_segment S s.older) shapes,
    ) in
    first.here ∙ ap (end_in S) (first.reads.is ∙ (λ i. opened_times (opens i) (shapes i)) ∙ sym second.reads.is) ∙ sym second.here)
    second.fault)
    first.fault

-- damage stands at one place, in one file
pub damage_once : (S : Geometry) (files : Files) (place other_place : ℕ) (name other : List ℕ) → IsDamagedAt S files place name → IsDamagedAt S files other_place other
    → (place ≡ other_place) × (name ≡ other)
damage_once S files place other_place name other first second = ⊎_elim
    (λ (numbers : next_segment S first.shape.older ≡ next_segment S second.shape.older).
    let names : name ≡ other = next_same S (next_segment S first.shape.older) files name other first.next (subst (λ (n : ℕ). ComesNext S n files other) (sym numbers) second.next) in
    (same_file S files place other_place name other first second numbers names, names))
    (λ order. ⊎_elim
    (λ (less : next_segment S first.shape.older < next_segment S second.shape.older). absurd (earlier_not S files place other_place name other first second less))
    (λ (more : next_segment S second.shape.older < next_segment S first.shape.older). absurd (earlier_not S files other_place place other name second first more))
    order)
    (cases_order (next_segment S first.shape.older) (next_segment S second.shape.older))
