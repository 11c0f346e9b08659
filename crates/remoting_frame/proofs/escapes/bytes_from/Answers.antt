use Rattle.std.proofs.Common.{Some, ◌≡◌, ◌-◌, ◌++◌, ◌∷◌, [], take, drop, arith, List, ℕ, subst, sym, ap, ◌∙◌}
use Rattle.std.proofs.lemmas.Grind.{common_steps}
use Rattle.remoting_frame.proofs.EscapeSteps.{Passes, passes_to_stop, passes_to_next, read_whole, lex_whole}
use Rattle.remoting_frame.proofs.escapes.bytes_from.Goals as goal

pub returns-then-end-eq34-clause-value : goal.returns-then-end-eq34-clause-value
returns-then-end-eq34-clause-value c =
    let d = c.args.text.now in
    let l = c.parts in
    let stop = c.plain_end-stop.result in
    let added : c.extend_from_slice.new.self.items ≡ l.out.items ++ take (stop - l.at) (drop l.at d) = grind (arith, common_steps) in
    let so_far = passes_to_stop _ _ d l.at stop l.invariant.0 c.plain_end-stop.ensures.value in
    read_whole _ _ d stop so_far (omega arith) ∙ ap Some (sym added)

pub returns-then-end-eq34-clause-rest : goal.returns-then-end-eq34-clause-rest
returns-then-end-eq34-clause-rest c =
    let d = c.args.text.now in
    let l = c.parts in
    let stop = c.plain_end-stop.result in
    let so_far = passes_to_stop _ _ d l.at stop l.invariant.0 c.plain_end-stop.ensures.value in
    lex_whole _ _ d stop so_far (omega arith)

pub parts-preserved : goal.parts-preserved
parts-preserved c =
    let d = c.args.text.now in
    let l = c.parts in
    let stop = c.plain_end-stop.result in
    let byte = c.in_ok-byte.byte in
    let next = c.in_ok-byte.next in
    let added : c.extend_from_slice.new.self.items ≡ l.out.items ++ take (stop - l.at) (drop l.at d) = grind (arith, common_steps) in
    let pushed : c.push.new.self.items ≡ c.extend_from_slice.new.self.items ++ byte ∷ [] = grind (arith, common_steps) in
    let so_far = passes_to_stop _ _ d l.at stop l.invariant.0 c.plain_end-stop.ensures.value in
    let all = passes_to_next _ _ d stop byte next so_far (omega arith) c.in_ok-byte.ensures.value c.in_ok-byte.ensures.rest in
    let same = pushed ∙ ap (λ (s : List ℕ). s ++ byte ∷ []) added in
    (subst (λ (s : List ℕ). Passes (drop c.args.from d) s (drop next d)) (sym same) all, omega (arith, c.in_ok-byte.ensures.bound), omega (arith, c.in_ok-byte.ensures.bound))
