use Rattle.std.proofs.Common.{◌≡◌, ◌∙◌, ◌*◌, ◌/◌, ◌%◌, ◌<◌, ℕ, ap, sym, arith}
use Rattle.std.proofs.lemmas.Option.{same_Some}
use Rattle.std.proofs.lemmas.Slice.Eq.{bytes_eq-Decides}
use Rattle.mq_bytes.specs.Names.{log_file}
use Rattle.log_recovery.proofs.Digits.{start_of, before_base, segment_before}
use Rattle.log_recovery.proofs.names.is_removed.Goals as goal

pub returns-then-begins-from-ne0 : goal.returns-then-begins-from-ne0
returns-then-begins-from-ne0 c = (
  λ holds. absurd (cc),
  λ found.
      let some : 0 < c.args.segment = omega (arith, c.requires.size.low) in
      let low = before_base c.args.segment c.args.place found.0 some c.requires.begins found.1 in
      let same = same_Some _ _ (c.in-Some.ensures (found.0 * c.args.segment) (omega (arith, low, c.requires.low)) found.2) in
      absurd (c.if-begins-from-ne0.true (ap (λ (k : ℕ). c.in-Some.begins % k) c.from.ensures ∙ start_of c.args.segment found.0 c.in-Some.begins some same)),
)

pub returns : goal.returns
returns c =
    let some : 0 < c.args.segment = omega (arith, c.requires.size.low) in
    let spelled : c.as_str.result.now ≡ log_file c.in-Some.begins = c.as_str.ensures ∙ c.of.ensures in (
      λ holds.
          let whole = segment_before c.args.segment c.args.place c.in-Some.begins some c.requires.begins (omega (arith, c.if-begins-place.false))
          (ap (λ (k : ℕ). c.in-Some.begins % k) (sym c.from.ensures) ∙ c.if-begins-from-ne0.false) in
          let same : c.as_str.result.now ≡ c.args.name.now = (bytes_eq-Decides _ _).0 (sym c.eq.ensures ∙ holds) in
          (c.in-Some.begins / c.args.segment, whole.0, sym same ∙ spelled ∙ ap log_file (sym whole.1)),
      λ found.
          let low = before_base c.args.segment c.args.place found.0 some c.requires.begins found.1 in
          let is = same_Some _ _ (c.in-Some.ensures (found.0 * c.args.segment) (omega (arith, low, c.requires.low)) found.2) in
          c.eq.ensures ∙ (bytes_eq-Decides _ _).1 (spelled ∙ ap log_file is ∙ sym found.2),
    )
