use Rattle.std.proofs.Common.{arith, ◌≡◌, ◌∙◌, ap, ◌+◌, ◌-◌, ◌≤◌, ◌++◌, length, take, drop, ℕ, List, length-append, length-take-le, append_assoc, take-append-drop}
use Rattle.std.proofs.lemmas.List.{take_at, drop_at, take_rest}
use Rattle.mq_outside.proofs.mem_buffer.replace_bytes.Goals as goal

-- the first bytes written over what stood there, and the others put in behind them
written_and_inserted : (xs ys piece : List ℕ) (at count : ℕ) → at + count ≤ length xs → count ≤ length piece
    → ys ≡ take at xs ++ take count piece ++ drop (at + length (take count piece)) xs
    → take (at + count) ys ++ take (length piece - count) (drop count piece) ++ drop (at + count) ys ≡ take at xs ++ piece ++ drop (at + count) xs
written_and_inserted xs ys piece at count within no_more written =
    let size : length (take count piece) ≡ count = length-take-le count piece no_more in
    let front : length (take at xs ++ take count piece) ≡ at + count = omega (arith, length-append (take at xs) (take count piece), size, length-take-le at xs (omega arith)) in
    let first = ap (λ (l : List ℕ). take (at + count) l) written ∙ take_at (take at xs ++ take count piece) (drop (at + length (take count piece)) xs) (at + count) front in
    let last = ap (λ (l : List ℕ). drop (at + count) l) written ∙ drop_at (take at xs ++ take count piece) (drop (at + length (take count piece)) xs) (at + count) front ∙ ap (λ (k : ℕ). drop (at + k) xs) size in
    rw (first, last, take_rest piece count) (ap (λ (l : List ℕ). l ++ drop (at + count) xs) (append_assoc (take at xs) (take count piece) (drop count piece) ∙ ap (λ (l : List ℕ). take at xs ++ l) (take-append-drop count piece)))

pub returns-clause-items : goal.returns-clause-items
returns-clause-items c =
    c.insert_bytes.ensures.items ∙ written_and_inserted c.args.buffer.now.items c.overwrite_bytes.new.buffer.items c.args.piece.now c.args.at c.args.count c.requires.within c.requires.no_more c.overwrite_bytes.ensures.items
