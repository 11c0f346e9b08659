use Rattle.std.proofs.Common.{arith, ◌≡◌, ◌<◌, ◌≤◌, ◌+◌, ◌++◌, ◌∙◌, ap, ℕ, List, length, take, drop, get_or}
use Rattle.std.proofs.lemmas.Grind.{common_steps}
use Rattle.mq_outside.specs.MemSource.{bytes_before, bytes_from}
use Rattle.mq_outside.proofs.MemSourceLemmas.{given_within, left_within, given_over}
use Rattle.mq_outside.proofs.mem_source.MemSourceSource.read.Goals as goal

pub returns-then-n-rest-clause-given : goal.returns-then-n-rest-clause-given
returns-then-n-rest-clause-given c =
    let s = c.args.self.now in
    let n = c.min-n.result in
    let p = (get_or s.pieces.items s.piece c.index.result.now).items in
    let below : s.piece < length s.pieces.items = omega arith in
    let within : s.at + n ≤ length p = grind (arith, common_steps) in
    let got : take n (drop s.at p) ≡ take n (c.copy_from_slice.new.self ++ drop n c.args.out.now) = grind (arith, common_steps) in
    given_within s.pieces.items s.piece s.at n c.index.result.now below within ∙ ap (λ (l : List ℕ). bytes_before s.pieces.items s.piece s.at ++ l) got

pub returns-then-n-rest-clause-left : goal.returns-then-n-rest-clause-left
returns-then-n-rest-clause-left c =
    let s = c.args.self.now in
    let n = c.min-n.result in
    let p = (get_or s.pieces.items s.piece c.index.result.now).items in
    let below : s.piece < length s.pieces.items = omega arith in
    let within : s.at + n ≤ length p = grind (arith, common_steps) in
    let got : take n (drop s.at p) ≡ take n (c.copy_from_slice.new.self ++ drop n c.args.out.now) = grind (arith, common_steps) in
    left_within s.pieces.items s.piece s.at n c.index.result.now below within ∙ ap (λ (l : List ℕ). l ++ bytes_from s.pieces.items s.piece (s.at + n)) got

pub returns-else-n-rest-clause-given : goal.returns-else-n-rest-clause-given
returns-else-n-rest-clause-given c =
    let s = c.args.self.now in
    let n = c.min-n.result in
    let p = (get_or s.pieces.items s.piece c.index.result.now).items in
    let below : s.piece < length s.pieces.items = omega arith in
    let within : s.at ≤ length p = grind (arith, common_steps) in
    let got : drop s.at p ≡ take n (c.copy_from_slice.new.self ++ drop n c.args.out.now) = grind (arith, common_steps) in
    given_over s.pieces.items s.piece s.at c.index.result.now below within ∙ ap (λ (l : List ℕ). bytes_before s.pieces.items s.piece s.at ++ l) got
