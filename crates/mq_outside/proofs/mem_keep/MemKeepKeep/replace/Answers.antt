use Rattle.std.proofs.Common.{rules, ◌≡◌, ◌∷◌, ◌++◌, [], sym, subst, ap, ◌∙◌, List}
use Rattle.mq_outside.specs.Files.{At, OldOrNew}
use Rattle.mq_outside.specs.Disk.{Moves}
use Rattle.mq_outside.specs.MemKeep.{Entry, texts_of, keep_state}
use Rattle.mq_outside.proofs.MemKeepLemmas.{put_here, put_moves}
use Rattle.mq_outside.proofs.mem_keep.MemKeepKeep.replace.Goals as goal

pub returns-clause-done : goal.returns-clause-done
returns-clause-done c =
    let s = c.args.self.now in
    let pushed : c.push.new.self.items ≡ s.puts.items ++ c.in-Ok.entry ∷ [] = search rules in
    ap (λ (l : List Entry). texts_of s.first.items l c.args.name.now) pushed
    ∙ put_here s.first.items s.puts.items c.in-Ok.entry c.args.name.now c.args.bytes.now c.in-Ok.ensures.name c.in-Ok.ensures.bytes

pub returns-clause-moves : goal.returns-clause-moves
returns-clause-moves c =
    let s = c.args.self.now in
    let pushed : c.push.new.self.items ≡ s.puts.items ++ c.in-Ok.entry ∷ [] = search rules in
    subst (λ (l : List Entry). Moves (At c.args.name.now (OldOrNew c.args.bytes.now)) (keep_state s.first.items s.puts.items) (keep_state s.first.items l)) (sym pushed)
    (put_moves s.first.items s.puts.items c.in-Ok.entry c.args.name.now c.args.bytes.now c.in-Ok.ensures.name c.in-Ok.ensures.bytes)
