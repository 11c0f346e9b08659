use Rattle.std.proofs.Common.{◌≡◌, ◌∙◌, ap, subst, sym, List, [], ◌∷◌, ◌++◌, ℕ, length}
use Rattle.mq_outside.specs.Files.{At, Torn}
use Rattle.mq_outside.specs.Disk.{Freshens, Moves}
use Rattle.mq_outside.specs.Calls.{Event, state_after}
use Rattle.mq_outside.specs.Named.{content}
use Rattle.mq_outside.specs.MemDisk.{events_of, given_files}
use Rattle.mq_outside.proofs.Replay.{wrote, wrote_fresh}
use Rattle.mq_outside.proofs.mem_disk.MemDiskDisk.write_at.Goals as goal

pub returns-clause-moves : goal.returns-clause-moves
returns-clause-moves c =
    let base = content (given_files c.args.self.now.base.items) in
    let old = events_of c.args.self.now.calls in
    let calls : events_of c.note.new.self ≡ old ++ Event.Wrote c.args.file.now c.args.at c.args.piece.now ∷ [] = c.note.ensures.noted ∙ ap (λ (n : List ℕ). old ++ Event.Wrote n c.args.at c.args.piece.now ∷ []) c.as_bytes-name.ensures.value in
    subst (λ (l : List Event). Moves (At c.args.file.now (Torn c.args.at (length c.args.piece.now))) (state_after base old) (state_after base l)) (sym calls) (wrote base old c.args.file.now c.args.at c.args.piece.now c.requires)

pub returns-clause-fresh : goal.returns-clause-fresh
returns-clause-fresh c =
    let base = content (given_files c.args.self.now.base.items) in
    let old = events_of c.args.self.now.calls in
    let calls : events_of c.note.new.self ≡ old ++ Event.Wrote c.args.file.now c.args.at c.args.piece.now ∷ [] = c.note.ensures.noted ∙ ap (λ (n : List ℕ). old ++ Event.Wrote n c.args.at c.args.piece.now ∷ []) c.as_bytes-name.ensures.value in
    subst (λ (l : List Event). Freshens c.args.file.now c.args.at (length c.args.piece.now) (state_after base old) (state_after base l)) (sym calls) (wrote_fresh base old c.args.file.now c.args.at c.args.piece.now)
