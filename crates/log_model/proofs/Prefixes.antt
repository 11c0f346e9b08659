-- What an honest image keeps.
use Rattle.std.proofs.Common.{◌≡◌, ◌⊎◌, inl, inr, ⊎_elim, ℕ, zero, suc, ◌+◌, ◌-◌, ◌^◌, ◌<◌, ◌≤◌, true, false, List, [], ◌∷◌, ◌++◌, length, take, drop, replicate, slice_get, bytes_eq, Some, None, IsSome, is_some, refl, sym, ◌∙◌, ap, subst, arith, append_assoc, take-append-drop, append-nil}
use Rattle.std.proofs.lemmas.Bool.{cases_Bool, cases_eq}
use Rattle.std.proofs.lemmas.List.{drop_at, take_at}
use Rattle.std.proofs.lemmas.Option.{slice_get_within, same_Some}
use Rattle.std.proofs.lemmas.Slice.Eq.{bytes_eq-Decides}
use Rattle.mq_outside.specs.Files.{Files, bytes_in}
use Rattle.record_codec.specs.Entry.{Entry}
use Rattle.record_codec.specs.Layout.{layout, size}
use Rattle.record_codec.specs.Blanks.{blank_front}
use Rattle.log_model.specs.Bases.{Geometry}
use Rattle.log_model.specs.Log.{fits, IsWellFormed}
use Rattle.log_model.specs.Segments.{layouts, Shape, added, opened, used, grown, laid, shape_of, segment_start, end_in, closed, segment_file, last_name, last_bytes, AreClosed, NoOther, next_segment}
use Rattle.log_model.specs.Store.{StartsWith, LooksAt, IsNext, IsHonest, KeepsPrefix, Stands, IsLaid}
use Rattle.log_model.proofs.Lists.{take_got, drop_got, get_within, option_cases}
use Rattle.log_model.proofs.Places.{well_formed_take, placed_log, layouts_push, grown_here, grown_next, shape_of-append, place_here, place_next, AreRoomy}
use Rattle.log_model.proofs.FileNames.{IsNamed, named_less, next_absent, less_other, shape_named, shape_low}
use Rattle.log_model.proofs.Fronts.{starts_layout, starts_no_blank, closed_ended}

-- the blank rule puts record k into the segment where it says that it stands
pub rule_by_place : (S : Geometry) (log : List Entry) (k : ℕ) (r : Entry) (shape : Shape) → IsWellFormed S log → slice_get log k ≡ Some r → IsLaid S (take k log) shape
    → r.offset ≡ end_in S shape → shape_of S (take (k + 1) log) ≡ added shape (r ∷ [])
rule_by_place S log k r shape well got laid place =
    let front : List Entry = take k log in
    let placed = placed_log S front (well_formed_take S k log well) in
    let follows = well.each k r got in
    let old : Shape = shape_of S front in
    let rule : shape_of S (take (k + 1) log) ≡ grown S old r = ap (shape_of S) (take_got log k r got) ∙ shape_of-append S front (r ∷ []) in
    ⊎_elim
    (λ (at_end : shape ≡ old). ⊎_elim
    (λ (here : fits S.size (used old) (size r) ≡ true). rule ∙ grown_here S old r here ∙ ap (λ (s : Shape). added s (r ∷ [])) (sym at_end))
    (λ (full : fits S.size (used old) (size r) ≡ false). absurd (omega (arith, placed.room, place_next S front old r placed follows full, place, ap (end_in S) at_end)))
    (cases_Bool (fits S.size (used old) (size r))))
    (λ (at_next : shape ≡ opened old). ⊎_elim
    (λ (here : fits S.size (used old) (size r) ≡ true). absurd (omega (arith, placed.room, place_here S front old r placed follows here, place, ap (end_in S) at_next)))
    (λ (full : fits S.size (used old) (size r) ≡ false). rule ∙ grown_next S old r full ∙ ap (λ (s : Shape). added s (r ∷ [])) (sym at_next))
    (cases_Bool (fits S.size (used old) (size r))))
    laid

-- where recovery has come to
pub record Reached (S : Geometry) (records : List Entry) (files : Files) (shape : Shape) : Type 0 where
  pub looks : (shape ≡ shape_of S records) ⊎ ((shape ≡ opened (shape_of S records)) × IsSome (files (last_name S shape)))
  pub older : AreClosed S shape.older files
  pub last : take (used shape) (last_bytes S shape files) ≡ layouts shape.last
  pub others : NoOther S (next_segment S shape.older) files

module _ (S : Geometry) (log : List Entry) (files : Files) (well : IsWellFormed S log) where
  laid_of : (k : ℕ) (shape : Shape) → Reached S (take k log) files shape → IsLaid S (take k log) shape
  laid_of k shape reached = ⊎_elim (λ at_end. inl at_end) (λ at_next. inr at_next.0) reached.looks

  named_of : (k : ℕ) (shape : Shape) → Reached S (take k log) files shape → IsNamed S (suc (next_segment S shape.older))
  named_of k shape reached =
      let named = shape_named S (take k log) (well_formed_take S k log well) in
      ⊎_elim
      (λ (at_end : shape ≡ shape_of S (take k log)). subst (λ (s : Shape). IsNamed S (suc (next_segment S s.older))) (sym at_end) (named_less S _ _ (omega arith) named))
      (λ (at_next : (shape ≡ opened (shape_of S (take k log))) × IsSome (files (last_name S shape))).
      subst (λ (s : Shape). IsNamed S (suc (next_segment S s.older))) (sym at_next.0) named)
      reached.looks

  roomy_of : (k : ℕ) (shape : Shape) → Reached S (take k log) files shape → AreRoomy S shape.older
  roomy_of k shape reached =
      let placed = placed_log S (take k log) (well_formed_take S k log well) in
      ⊎_elim
      (λ (at_end : shape ≡ shape_of S (take k log)). subst (λ (s : Shape). AreRoomy S s.older) (sym at_end) placed.roomy)
      (λ (at_next : (shape ≡ opened (shape_of S (take k log))) × IsSome (files (last_name S shape))).
      subst (λ (s : Shape). AreRoomy S s.older) (sym at_next.0) (placed.room, placed.roomy))
      reached.looks

  low_of : (k : ℕ) (shape : Shape) → Reached S (take k log) files shape → segment_start S shape < 2 ^ 63
  low_of k shape reached =
      let low = shape_low S (take k log) (well_formed_take S k log well) in
      ⊎_elim
      (λ (at_end : shape ≡ shape_of S (take k log)). omega (arith, low, ap (segment_start S) at_end))
      (λ (at_next : (shape ≡ opened (shape_of S (take k log))) × IsSome (files (last_name S shape))). omega (arith, low, ap (segment_start S) at_next.0))
      reached.looks

  looks_at : (k : ℕ) (shape : Shape) → Reached S (take k log) files shape → LooksAt S (take k log) files shape
  looks_at k shape reached =
      let none = next_absent S (next_segment S shape.older) files (named_of k shape reached) reached.others in
      let low : segment_start S shape < 2 ^ 63 = low_of k shape reached in
      ⊎_elim
      (λ (at_end : shape ≡ shape_of S (take k log)). record {
        opens = 0;
        is = at_end;
        there = λ some. absurd (omega (arith, some));
        none = none;
        low = low;
        older = closed_ended S shape.older files (roomy_of k shape reached) reached.older;
        last = reached.last;
      })
      (λ (at_next : (shape ≡ opened (shape_of S (take k log))) × IsSome (files (last_name S shape))).
      record {
        opens = 1;
        is = at_next.0;
        there = λ some. at_next.1;
        none = none;
        low = low;
        older = closed_ended S shape.older files (roomy_of k shape reached) reached.older;
        last = reached.last;
      })
      reached.looks

  -- recovery stops where no record of the log follows
  stops : (k : ℕ) (shape : Shape) → k ≤ length log → Reached S (take k log) files shape
      → ((r : Entry) → IsNext S (take k log) files shape r → ⊥) → KeepsPrefix S log k files
  stops k shape within reached ends = record {
    number = k;
    low = omega arith;
    high = within;
    keeps = record {
      well_formed = well_formed_take S k log well;
      shape = shape;
      looks = looks_at k shape reached;
      ends = ends;
      others = reached.others;
    };
  }

  -- one record more
  one_more : (k : ℕ) (shape : Shape) (r : Entry) → Reached S (take k log) files shape → slice_get log k ≡ Some r → r.offset ≡ end_in S shape
      → take (size r) (drop (used shape) (last_bytes S shape files)) ≡ layout r → Reached S (take (k + 1) log) files (added shape (r ∷ []))
  one_more k shape r reached got place stands =
      let bytes : List ℕ = last_bytes S shape files in
      let behind : List ℕ = drop (size r) (drop (used shape) bytes) in
      let rest : drop (used shape) bytes ≡ layout r ++ behind = sym (take-append-drop (size r) (drop (used shape) bytes)) ∙ ap (λ (l : List ℕ). l ++ behind) stands in
      let whole : bytes ≡ layouts (shape.last ++ r ∷ []) ++ behind =
      sym (take-append-drop (used shape) bytes) ∙ (λ i. reached.last i ++ rest i) ∙ sym (append_assoc (layouts shape.last) (layout r) behind)
      ∙ ap (λ (l : List ℕ). l ++ behind) (sym (layouts_push shape.last r)) in
      record {
        looks = inl (sym (rule_by_place S log k r shape well got (laid_of k shape reached) place));
        older = reached.older;
        last = ap (λ (l : List ℕ). take (length (layouts (shape.last ++ r ∷ []))) l) whole ∙ take_at (layouts (shape.last ++ r ∷ [])) behind _ refl;
        others = reached.others;
      }

  -- recovery stops, or it reads the next record of the log
  step : (k : ℕ) (shape : Shape) → k ≤ length log → Reached S (take k log) files shape → IsHonest S log k files
      → KeepsPrefix S log k files ⊎ ((r : Entry) × (slice_get log k ≡ Some r) × Reached S (take (k + 1) log) files (added shape (r ∷ [])))
  step k shape within reached honest =
      let only : (r : Entry) → IsNext S (take k log) files shape r → slice_get log k ≡ Some r =
      λ r next. honest k shape r (omega arith) within (looks_at k shape reached) next in
      ⊎_elim
      (λ (none : slice_get log k ≡ None). inl (stops k shape within reached (λ r next. let full : None ≡ Some r = sym none ∙ only r next in absurd (cc))))
      (λ (some : (r : Entry) × (slice_get log k ≡ Some r)).
      let r : Entry = some.0 in
      ⊎_elim
      (λ (place : r.offset ≡ end_in S shape). ⊎_elim
      (λ (same : bytes_eq (take (size r) (drop (used shape) (last_bytes S shape files))) (layout r) ≡ true).
      inr (r, some.1, one_more k shape r reached some.1 place ((bytes_eq-Decides _ _).0 same)))
      (λ (torn : bytes_eq (take (size r) (drop (used shape) (last_bytes S shape files))) (layout r) ≡ false). inl (stops k shape within reached (λ other next.
      let is : other ≡ r = same_Some other r (sym (only other next) ∙ some.1) in
      let stands = starts_layout (drop (used shape) (last_bytes S shape files)) r (subst (StartsWith (drop (used shape) (last_bytes S shape files))) is next.starts) in
      let full : false ≡ true = sym torn ∙ (bytes_eq-Decides _ _).1 stands in absurd (cc))))
      (cases_Bool (bytes_eq (take (size r) (drop (used shape) (last_bytes S shape files))) (layout r))))
      (λ (elsewhere : r.offset ≡ end_in S shape → ⊥). inl (stops k shape within reached (λ other next.
      elsewhere (ap (λ (e : Entry). e.offset) (same_Some r other (sym some.1 ∙ only other next)) ∙ next.place))))
      (cases_eq r.offset (end_in S shape)))
      (option_cases (slice_get log k))

  pub keeps_from : (left k : ℕ) (shape : Shape) → k + left ≡ length log → Reached S (take k log) files shape → IsHonest S log k files → KeepsPrefix S log k files
  keeps_from zero k shape total reached honest = ⊎_elim
      (λ (done : KeepsPrefix S log k files). done)
      (λ (more : (r : Entry) × (slice_get log k ≡ Some r) × Reached S (take (k + 1) log) files (added shape (r ∷ []))).
      absurd (omega (arith, total, slice_get_within log k more.0 more.1)))
      (step k shape (omega (arith, total)) reached honest)
  keeps_from (suc left) k shape total reached honest = ⊎_elim
      (λ (done : KeepsPrefix S log k files). done)
      (λ (more : (r : Entry) × (slice_get log k ≡ Some r) × Reached S (take (k + 1) log) files (added shape (r ∷ []))).
      let rest = keeps_from left (k + 1) (added shape (more.0 ∷ [])) (omega (arith, total)) more.2
      (λ j s r low high looks next. honest j s r (omega (arith, low)) high looks next) in
      record { number = rest.number; low = omega (arith, rest.low); high = rest.high; keeps = rest.keeps })
      (step k shape (omega (arith, total)) reached honest)

  -- a segment with its blank ends recovery there, where no file stands behind it
  closed_stops : (k : ℕ) → k ≤ length log → AreClosed S ((shape_of S (take k log)).last ∷ (shape_of S (take k log)).older) files
      → files (segment_file S (suc (next_segment S (shape_of S (take k log)).older))) ≡ None → NoOther S (suc (next_segment S (shape_of S (take k log)).older)) files
      → KeepsPrefix S log k files
  closed_stops k within are none others =
      let shape : Shape = shape_of S (take k log) in
      let bytes : last_bytes S shape files ≡ closed S shape.last = ap bytes_in are.0 in
      let size_left : ℕ = S.size - length (layouts shape.last) in
      let blank : drop (used shape) (last_bytes S shape files) ≡ blank_front size_left ++ replicate (size_left - 8) 0 =
      ap (λ (l : List ℕ). drop (used shape) l) bytes ∙ drop_at (layouts shape.last) _ _ refl in
      stops k shape within
      (record {
        looks = inl refl;
        older = are.1;
        last = ap (λ (l : List ℕ). take (used shape) l) bytes ∙ take_at (layouts shape.last) _ _ refl;
        others = less_other S (next_segment S shape.older) files none others;
      })
      (λ r next. starts_no_blank (drop (used shape) (last_bytes S shape files)) r size_left (replicate (size_left - 8) 0) next.starts blank)

-- the flushed records stand in an honest image: it keeps them, and a prefix of the log
pub keeps_prefix : (S : Geometry) (log : List Entry) (flushed : ℕ) (files : Files) (shape : Shape) (reach : ℕ) → IsWellFormed S log → flushed ≤ length log
    → IsLaid S (take flushed log) shape → Stands S shape reach files → IsHonest S log flushed files → KeepsPrefix S log flushed files
keeps_prefix S log flushed files shape reach well within (inl at_end) stands honest =
    keeps_from S log files well (length log - flushed) flushed shape (omega (arith, within))
    (record { looks = inl at_end; older = stands.older; last = stands.last; others = stands.others }) honest
keeps_prefix S log flushed files shape reach well within (inr at_next) stands honest = ⊎_elim
    (λ (none : files (last_name S shape) ≡ None).
    closed_stops S log files well flushed within (subst (λ (s : Shape). AreClosed S s.older files) at_next stands.older)
    (subst (λ (s : Shape). files (last_name S s) ≡ None) at_next none) (subst (λ (s : Shape). NoOther S (next_segment S s.older) files) at_next stands.others))
    (λ (some : (bytes : List ℕ) × (files (last_name S shape) ≡ Some bytes)).
    keeps_from S log files well (length log - flushed) flushed shape (omega (arith, within))
    (record { looks = inr (at_next, ap is_some some.1); older = stands.older; last = stands.last; others = stands.others }) honest)
    (option_cases (files (last_name S shape)))

-- ---- batches by their places

batch_more : (S : Geometry) (log : List Entry) (k count : ℕ) (shape : Shape) → IsWellFormed S log → k + count ≤ length log → shape ≡ shape_of S (take k log)
    → ((i : ℕ) (r : Entry) → i < count → slice_get log (k + i) ≡ Some r → r.offset < segment_start S shape + S.size) → shape_of S (take (k + count) log) ≡ added shape (take count (drop k log))
batch_more S log k zero shape well within is low =
    let zero_is : k + 0 ≡ k = omega arith in
    ap (λ (n : ℕ). shape_of S (take n log)) zero_is ∙ sym is ∙ ap (λ (l : List Entry). record { older = shape.older; last = l }) (sym (append-nil shape.last))
batch_more S log k (suc count) shape well within is low =
    let got = get_within log k (omega (arith, within)) in
    let r : Entry = got.0 in
    let front : List Entry = take k log in
    let placed = placed_log S front (well_formed_take S k log well) in
    let old : Shape = shape_of S front in
    let here : r.offset < segment_start S shape + S.size = low 0 r (omega arith) (ap (slice_get log) (omega arith) ∙ got.1) in
    let place : r.offset ≡ end_in S shape = ⊎_elim
    (λ (fit : fits S.size (used old) (size r) ≡ true). place_here S front old r placed (well.each k r got.1) fit ∙ ap (end_in S) (sym is))
    (λ (full : fits S.size (used old) (size r) ≡ false). absurd (omega (arith, here, ap (segment_start S) is, place_next S front old r placed (well.each k r got.1) full)))
    (cases_Bool (fits S.size (used old) (size r))) in
    let one : shape_of S (take (k + 1) log) ≡ added shape (r ∷ []) = rule_by_place S log k r shape well got.1 (inl is) place in
    let number : k + suc count ≡ (k + 1) + count = omega arith in
    let rest = batch_more S log (k + 1) count (added shape (r ∷ [])) well (omega (arith, within)) (sym one)
    (λ i s below there. low (suc i) s (omega (arith, below)) (ap (slice_get log) (omega arith) ∙ there)) in
    ap (λ (n : ℕ). shape_of S (take n log)) number ∙ rest
    ∙ ap (λ (l : List Entry). record { older = shape.older; last = l }) (append_assoc shape.last (r ∷ []) (take count (drop (k + 1) log))
    ∙ ap (λ (l : List Entry). shape.last ++ take (suc count) l) (sym (drop_got k log r got.1)))

-- Records that all stand in the last of these segments, the first of them no earlier than the segment, are a batch for it.
pub batch_rule : (S : Geometry) (log : List Entry) (flushed count : ℕ) (shape : Shape) (first : Entry) → IsWellFormed S log → IsLaid S (take flushed log) shape → flushed + count ≤ length log
    → 0 < count → slice_get log flushed ≡ Some first → segment_start S shape ≤ first.offset
    → ((i : ℕ) (r : Entry) → i < count → slice_get log (flushed + i) ≡ Some r → r.offset < segment_start S shape + S.size)
    → shape_of S (take (flushed + count) log) ≡ added shape (take count (drop flushed log))
batch_rule S log flushed zero shape first well laid within some got start low = absurd (omega (arith, some))
batch_rule S log flushed (suc count) shape first well laid within some got start low =
    let front : List Entry = take flushed log in
    let placed = placed_log S front (well_formed_take S flushed log well) in
    let old : Shape = shape_of S front in
    let follows = well.each flushed first got in
    let here : first.offset < segment_start S shape + S.size = low 0 first (omega arith) (ap (slice_get log) (omega arith) ∙ got) in
    let place : first.offset ≡ end_in S shape = ⊎_elim
    (λ (fit : fits S.size (used old) (size first) ≡ true). ⊎_elim
    (λ (at_end : shape ≡ old). place_here S front old first placed follows fit ∙ ap (end_in S) (sym at_end))
    (λ (at_next : shape ≡ opened old). absurd (omega (arith, start, ap (segment_start S) at_next, place_here S front old first placed follows fit, placed.room)))
    laid)
    (λ (full : fits S.size (used old) (size first) ≡ false). ⊎_elim
    (λ (at_end : shape ≡ old). absurd (omega (arith, here, ap (segment_start S) at_end, place_next S front old first placed follows full)))
    (λ (at_next : shape ≡ opened old). place_next S front old first placed follows full ∙ ap (end_in S) (sym at_next))
    laid)
    (cases_Bool (fits S.size (used old) (size first))) in
    let one : shape_of S (take (flushed + 1) log) ≡ added shape (first ∷ []) = rule_by_place S log flushed first shape well got laid place in
    let number : flushed + suc count ≡ (flushed + 1) + count = omega arith in
    let rest = batch_more S log (flushed + 1) count (added shape (first ∷ [])) well (omega (arith, within)) (sym one)
    (λ i s below there. low (suc i) s (omega (arith, below)) (ap (slice_get log) (omega arith) ∙ there)) in
    ap (λ (n : ℕ). shape_of S (take n log)) number ∙ rest
    ∙ ap (λ (l : List Entry). record { older = shape.older; last = l }) (append_assoc shape.last (first ∷ []) (take count (drop (flushed + 1) log))
    ∙ ap (λ (l : List Entry). shape.last ++ take (suc count) l) (sym (drop_got flushed log first got)))
