use Rattle.std.proofs.Common.{◌≡◌, ◌+◌, ◌*◌, ◌^◌, ◌<◌, ℕ, List, [], map, get_or, length, sym, ◌∙◌, ap, subst, arith, inl, inr}
use Rattle.std.specs.Prelude.{string_bytes}
use Rattle.std.proofs.lemmas.List.{get_or-map, length-map}
use Rattle.log_model.specs.Bases.{Geometry, geometry}
use Rattle.log_model.specs.Told.{base_of}
use Rattle.log_model.specs.Segments.{segment_file, IsLogFile, Counts}
use Rattle.log_model.specs.Store.{ComesNext}
use Rattle.log_recovery.specs.Names.{AreNamed}
use Rattle.log_recovery.proofs.NameLemmas.{AreTaken, AreMet, comes_next, taken_more, met_more, taken_past, met_past, each_more, named_more, none_further, same_of, apart_of}
use Rattle.log_recovery.proofs.names.order_of.Goals as goal
use Rattle.log_recovery.proofs.names.order_of.Goals.{then-begins-ge-LIMIT-via-then-begins-ge-LIMIT, then-begins-ge-LIMIT-via-else-begins-ge-LIMIT+then-ne, then-counts+else-begins-ge-LIMIT+else-ne, else-counts}

pub returns-then-begins-ge-LIMIT-clause-odd : goal.returns-then-begins-ge-LIMIT-clause-odd
returns-then-begins-ge-LIMIT-clause-odd c = λ files lists.
    let names : List (List ℕ) = map (λ name. string_bytes name) c.args.names.now in
    let S : Geometry = geometry c.args.segment (base_of c.args.base.now) in
    let i : ℕ = c.loop-i.i in
    let name : List ℕ = c.as_str-name.result.now in
    let within : i < length names = omega (arith, length-map c.args.names.now (λ name. string_bytes name), c.loop-i-test.true) in
    let at : get_or names i [] ≡ name = get_or-map (λ name. string_bytes name) c.args.names.now i c.index-names-i.result [] c.loop-i-test.true ∙ ap (λ name. string_bytes name) (sym c.index-names-i.is) ∙ sym c.as_str-name.ensures.value in
    let counted = c.counts.ensures.yes c.if-counts.true in
    let in_folder : Counts S name = record { in_folder = counted.0; kept = λ k low is. counted.1 (k, low, is) } in
    let next : ComesNext S c.loop-i.count files name = subst (ComesNext S c.loop-i.count files) at (comes_next S c.loop-i.count i names files lists within c.loop-i.invariant.taken c.loop-i.invariant.met (subst (Counts S) (sym at) in_folder)) in
    record {
      next = next;
      other = elim c.then-begins-ge-LIMIT.branch [ then-begins-ge-LIMIT-via-then-begins-ge-LIMIT w ↦ inr (omega (arith, w.if-begins-ge-LIMIT.true, ap (λ (k : ℕ). c.loop-i.count * k) c.from-then-counts.ensures)) | then-begins-ge-LIMIT-via-else-begins-ge-LIMIT+then-ne w ↦ inl (λ is. apart_of w.as_str.result.now name w.ne.result w.ne.ensures w.if-ne.true (w.as_str.ensures ∙ c.of-file.ensures ∙ ap (λ (k : ℕ). segment_file (geometry k (base_of c.args.base.now)) c.loop-i.count) c.from-then-counts.ensures ∙ sym is)) ];
    }

pub loop-i-preserved : goal.loop-i-preserved
loop-i-preserved c =
    let names : List (List ℕ) = map (λ name. string_bytes name) c.args.names.now in
    let S : Geometry = geometry c.args.segment (base_of c.args.base.now) in
    let i : ℕ = c.loop-i.i in
    let n : ℕ = c.loop-i.count in
    let name : List ℕ = c.as_str-name.result.now in
    let within : i < length names = omega (arith, length-map c.args.names.now (λ name. string_bytes name), c.loop-i-test.true) in
    let at : get_or names i [] ≡ name = get_or-map (λ name. string_bytes name) c.args.names.now i c.index-names-i.result [] c.loop-i-test.true ∙ ap (λ name. string_bytes name) (sym c.index-names-i.is) ∙ sym c.as_str-name.ensures.value in
    let inv = c.loop-i.invariant in
    elim c.if-counts.branch [
      | then-counts+else-begins-ge-LIMIT+else-ne w ↦
          let e : c.if-counts.count ≡ n + 1 = w.count-is in
          let counted = c.counts.ensures.yes w.if-counts.true in
          let in_folder : Counts S (get_or names i []) = subst (Counts S) (sym at) (record { in_folder = counted.0; kept = λ k low is. counted.1 (k, low, is) }) in
          let is : get_or names i [] ≡ segment_file S n = at ∙ sym (same_of w.as_str.result.now name w.ne.result w.ne.ensures w.if-ne.false) ∙ w.as_str.ensures ∙ w.of-file.ensures ∙ ap (λ (k : ℕ). segment_file (geometry k (base_of c.args.base.now)) n) w.from-then-counts.ensures in
          let low : n * S.size < 2 ^ 63 = omega (arith, w.if-begins-ge-LIMIT.false, ap (λ (k : ℕ). n * k) w.from-then-counts.ensures) in
          record {
            few = omega (arith, e, inv.few);
            from = omega (arith, e, inv.from);
            low = omega (arith, ap (λ (k : ℕ). k * S.size) e, low, c.requires.high);
            each = λ k within. each_more S n c.if-counts.count e inv.each low k within;
            taken = subst (λ (k : ℕ). AreTaken S k names (i + 1)) (sym e) (taken_more S n i names inv.taken is);
            met = subst (λ (k : ℕ). AreMet S k names (i + 1)) (sym e) (met_more S n i names inv.met is);
            named = λ files lists. subst (λ (k : ℕ). AreNamed S k files) (sym e) (named_more S n files (inv.named files lists) low
                (subst (ComesNext S n files) is (comes_next S n i names files lists within inv.taken inv.met in_folder)));
          }
      | else-counts w ↦
          let e : c.if-counts.count ≡ n = w.count-is in
          let removed : IsLogFile (get_or names i []) → (k : ℕ) × (k < n) × (get_or names i [] ≡ segment_file S k) = λ inside.
          let found = c.counts.ensures.no w.if-counts.false (subst IsLogFile at inside) in (found.0, omega (arith, found.1, inv.from), at ∙ found.2) in
          record {
            few = omega (arith, e, inv.few);
            from = omega (arith, e, inv.from);
            low = omega (arith, ap (λ (k : ℕ). k * S.size) e, inv.low);
            each = λ k within. inv.each k (omega (arith, e, within));
            taken = subst (λ (k : ℕ). AreTaken S k names (i + 1)) (sym e) (taken_past S n i names inv.taken removed);
            met = subst (λ (k : ℕ). AreMet S k names (i + 1)) (sym e) (met_past S n i names inv.met);
            named = λ files lists. subst (λ (k : ℕ). AreNamed S k files) (sym e) (inv.named files lists);
          }
    ]

pub returns-clause-all : goal.returns-clause-all
returns-clause-all c = λ files lists.
    let names : List (List ℕ) = map (λ name. string_bytes name) c.args.names.now in
    none_further (geometry c.args.segment (base_of c.args.base.now)) c.loop-i.count names files lists (subst (AreTaken (geometry c.args.segment (base_of c.args.base.now)) c.loop-i.count names) (omega (arith, length-map c.args.names.now (λ name. string_bytes name), c.loop-i.invariant.few, c.loop-i-test.false, c.loop-i.auto.i-end)) c.loop-i.invariant.taken)
