use Rattle.std.proofs.Common.{◌≡◌, ◌∙◌, ap, subst, sym, List, [], ◌∷◌, ◌++◌, ℕ}
use Rattle.mq_outside.specs.Files.{Files, Same}
use Rattle.mq_outside.specs.Disk.{Moves}
use Rattle.mq_outside.specs.Calls.{Event, state_after}
use Rattle.mq_outside.specs.Named.{content}
use Rattle.mq_outside.specs.MemDisk.{events_of, given_files}
use Rattle.mq_outside.proofs.Replay.{renewed, either_way}
use Rattle.mq_outside.proofs.mem_disk.MemDiskDisk.renew.Goals as goal

pub returns-clause-moves : goal.returns-clause-moves
returns-clause-moves c =
    let base = content (given_files c.args.self.now.base.items) in
    let old = events_of c.args.self.now.calls in
    let same : content (given_files c.note_sync.new.self.base.items) ≡ base = (λ i. content (given_files (c.note_sync.ensures.base i).items)) in
    either_way c.note_sync.result c.note_sync.ensures.noted
    (λ (noted : events_of c.note_sync.new.self.calls ≡ old ++ Event.Renewed c.as_bytes.result.now ∷ []).
    let calls : events_of c.note_sync.new.self.calls ≡ old ++ Event.Renewed c.args.file.now ∷ [] = noted ∙ ap (λ (n : List ℕ). old ++ Event.Renewed n ∷ []) c.as_bytes.ensures.value in
    subst (λ (b : Files). Moves Same (state_after base old) (state_after b (events_of c.note_sync.new.self.calls))) (sym same)
    (subst (λ (l : List Event). Moves Same (state_after base old) (state_after base l)) (sym calls) (renewed base old c.args.file.now)))
    c.note_sync.ensures.moves
