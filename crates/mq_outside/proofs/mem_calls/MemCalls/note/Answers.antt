use Rattle.std.proofs.Common.{rules, arith, ◌≡◌, ◌∙◌, ap, refl, ◌++◌, ◌∷◌, [], ℕ, List, length, length-append}
use Rattle.mq_outside.specs.MemCalls.{total, events_in}
use Rattle.mq_outside.specs.declared.mem_calls.Call.{Call}
use Rattle.mq_outside.proofs.MemCallsLemmas.{noted, total-append}
use Rattle.mq_outside.proofs.mem_calls.MemCalls.note.Goals as goal

pub invariant_of-self-clause-filled : goal.invariant_of-self-clause-filled
invariant_of-self-clause-filled c =
    let call : Call = record { kind = c.args.kind; name = length c.args.name.now; size = length c.args.piece.now } in
    let first : c.extend_from_slice.new.self.items ≡ c.args.self.now.buffer.items ++ c.args.name.now = search rules in
    let second : c.extend_from_slice-2.new.self.items ≡ c.extend_from_slice.new.self.items ++ c.args.piece.now = search rules in
    let third : c.push.new.self.items ≡ c.args.self.now.calls.items ++ call ∷ [] = search rules in
    omega (arith, ap total third, total-append c.args.self.now.calls.items (call ∷ []), c.args.self.now.filled, ap length first, ap length second, length-append c.args.self.now.buffer.items c.args.name.now, length-append c.extend_from_slice.new.self.items c.args.piece.now)

pub returns-clause-noted : goal.returns-clause-noted
returns-clause-noted c =
    let call : Call = record { kind = c.args.kind; name = length c.args.name.now; size = length c.args.piece.now } in
    let first : c.extend_from_slice.new.self.items ≡ c.args.self.now.buffer.items ++ c.args.name.now = search rules in
    let second : c.extend_from_slice-2.new.self.items ≡ c.extend_from_slice.new.self.items ++ c.args.piece.now = search rules in
    let third : c.push.new.self.items ≡ c.args.self.now.calls.items ++ call ∷ [] = search rules in
    ap (λ (l : List Call). events_in l c.extend_from_slice-2.new.self.items) third
    ∙ ap (events_in (c.args.self.now.calls.items ++ call ∷ [])) (second ∙ ap (λ (l : List ℕ). l ++ c.args.piece.now) first)
    ∙ noted c.args.self.now.calls.items c.args.self.now.buffer.items c.args.name.now c.args.piece.now call c.args.self.now.filled refl refl
