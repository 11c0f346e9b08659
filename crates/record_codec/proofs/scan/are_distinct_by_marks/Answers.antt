use Rattle.std.proofs.Common.{◌≡◌, ◌++◌, ◌∷◌, [], ℕ, List, true, false, refl, sym, subst, ◌∙◌, arith}
use Rattle.record_codec.specs.Props.{has_name}
use Rattle.record_codec.proofs.MarkLemmas.{IsSeen, nothing_seen, front_reads, seen_next, seen_again, all_seen}
use Rattle.record_codec.proofs.WrittenLemmas.{written_smaller, written_stuck}
use Rattle.record_codec.proofs.scan.are_distinct_by_marks.Goals as goal

pub loop-rest-init : goal.loop-rest-init
loop-rest-init c = record { within = omega arith; long = refl; seen = λ ps h. ([], nothing_seen c.args.text.now _ ps h) }

pub loop-rest-smaller : goal.loop-rest-smaller
loop-rest-smaller c = written_smaller c.loop-rest.rest.now _ (sym c.in-Some.ensures)

pub returns-in-None : goal.returns-in-None
returns-in-None c = λ ps h. let s = c.loop-rest.invariant.seen ps h in absurd (written_stuck c.loop-rest.rest.now s.1.left (omega (arith, c.loop-rest-test.true)) (sym c.in-None.ensures) s.1.rest_is)

pub returns-then-is_repeated : goal.returns-then-is_repeated
returns-then-is_repeated c = λ ps h.
    let s = c.loop-rest.invariant.seen ps h in
    let front = front_reads c.args.text.now c.loop-rest.rest.now c.loop-rest.words ps s.0 h s.1 in
    let again : has_name c.in-Some.name.now s.0 ≡ true = sym (c.is_repeated.ensures.repeated s.0 front s.1.marks) ∙ c.if-is_repeated.true in
    sym (seen_again c.args.text.now c.loop-rest.rest.now c.loop-rest.words ps s.0 (c.in-Some.name.now, c.in-Some.field-0-1.now, c.in-Some.after.now) (omega (arith, c.loop-rest-test.true)) (sym c.in-Some.ensures) s.1 again)

pub loop-rest-preserved : goal.loop-rest-preserved
loop-rest-preserved c =
    let r : List ℕ × List ℕ × List ℕ = (c.in-Some.name.now, c.in-Some.field-0-1.now, c.in-Some.after.now) in
    record {
      within = omega (arith, written_smaller c.loop-rest.rest.now r (sym c.in-Some.ensures), c.loop-rest.invariant.within);
      long = c.is_repeated.array_long;
      seen = λ ps h.
          let s = c.loop-rest.invariant.seen ps h in
          let front = front_reads c.args.text.now c.loop-rest.rest.now c.loop-rest.words ps s.0 h s.1 in
          let new : has_name r.0 s.0 ≡ false = sym (c.is_repeated.ensures.repeated s.0 front s.1.marks) ∙ c.if-is_repeated.false in
          let next = seen_next c.args.text.now c.loop-rest.rest.now c.loop-rest.words ps s.0 r (omega (arith, c.loop-rest-test.true)) (sym c.in-Some.ensures) c.loop-rest.invariant.long s.1 new in
          (s.0 ++ (r.0, r.1) ∷ [], subst (λ (words : List ℕ). IsSeen c.args.text.now r.2 words ps (s.0 ++ (r.0, r.1) ∷ [])) (sym c.is_repeated.ensures.marked) next);
    }

pub returns : goal.returns
returns c = λ ps h. let s = c.loop-rest.invariant.seen ps h in sym (all_seen c.args.text.now c.loop-rest.rest.now c.loop-rest.words ps s.0 (omega (arith, c.loop-rest-test.false)) s.1)
