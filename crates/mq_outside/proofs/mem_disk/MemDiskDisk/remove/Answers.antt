use Rattle.std.proofs.Common.{◌≡◌, ◌∙◌, ap, subst, sym, List, [], ◌∷◌, ◌++◌, ℕ}
use Rattle.mq_outside.specs.Files.{At, Vanished}
use Rattle.mq_outside.specs.Disk.{Moves, IsDurable}
use Rattle.mq_outside.specs.Calls.{Event, state_after}
use Rattle.mq_outside.specs.Named.{content}
use Rattle.mq_outside.specs.MemDisk.{events_of, given_files}
use Rattle.mq_outside.proofs.Replay.{removed, removed_durable}
use Rattle.mq_outside.proofs.mem_disk.MemDiskDisk.remove.Goals as goal

pub returns-clause-moves : goal.returns-clause-moves
returns-clause-moves c =
    let base = content (given_files c.args.self.now.base.items) in
    let old = events_of c.args.self.now.calls in
    let calls : events_of c.note.new.self ≡ old ++ Event.Removed c.args.file.now ∷ [] = c.note.ensures.noted ∙ ap (λ (n : List ℕ). old ++ Event.Removed n ∷ []) c.as_bytes-name.ensures.value in
    subst (λ (l : List Event). Moves (At c.args.file.now Vanished) (state_after base old) (state_after base l)) (sym calls) (removed base old c.args.file.now)

pub returns-clause-durable : goal.returns-clause-durable
returns-clause-durable c =
    let base = content (given_files c.args.self.now.base.items) in
    let old = events_of c.args.self.now.calls in
    let calls : events_of c.note.new.self ≡ old ++ Event.Removed c.args.file.now ∷ [] = c.note.ensures.noted ∙ ap (λ (n : List ℕ). old ++ Event.Removed n ∷ []) c.as_bytes-name.ensures.value in
    subst (λ (l : List Event). IsDurable c.args.file.now (state_after base l)) (sym calls) (removed_durable base old c.args.file.now)
