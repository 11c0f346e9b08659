use Rattle.std.proofs.Common.{◌≡◌, ◌∙◌, ap, subst, sym, List, [], ◌∷◌, ◌++◌, ℕ}
use Rattle.mq_outside.specs.Files.{At, Shortened}
use Rattle.mq_outside.specs.Disk.{Moves}
use Rattle.mq_outside.specs.Calls.{Event, state_after}
use Rattle.mq_outside.specs.Named.{content}
use Rattle.mq_outside.specs.MemDisk.{events_of, given_files}
use Rattle.mq_outside.proofs.Replay.{cut}
use Rattle.mq_outside.proofs.mem_disk.MemDiskDisk.cut.Goals as goal

pub returns-clause-moves : goal.returns-clause-moves
returns-clause-moves c =
    let base = content (given_files c.args.self.now.base.items) in
    let old = events_of c.args.self.now.calls in
    let calls : events_of c.note.new.self ≡ old ++ Event.Cut c.args.file.now c.args.len ∷ [] = c.note.ensures.noted ∙ ap (λ (n : List ℕ). old ++ Event.Cut n c.args.len ∷ []) c.as_bytes-name.ensures.value in
    subst (λ (l : List Event). Moves (At c.args.file.now (Shortened c.args.len)) (state_after base old) (state_after base l)) (sym calls) (cut base old c.args.file.now c.args.len)
