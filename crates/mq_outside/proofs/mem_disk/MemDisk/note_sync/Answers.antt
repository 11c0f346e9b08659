use Rattle.std.proofs.Common.{◌∙◌, ap, subst, sym, List, [], reverse}
use Rattle.mq_outside.specs.Files.{Files, Same}
use Rattle.mq_outside.specs.Disk.{Moves}
use Rattle.mq_outside.specs.Calls.{Event, reads_after, state_after}
use Rattle.mq_outside.specs.Named.{content}
use Rattle.mq_outside.specs.MemCalls.{event_of}
use Rattle.mq_outside.specs.MemDisk.{events_of, given_files}
use Rattle.mq_outside.proofs.Replay.{missed, read_still}
use Rattle.mq_outside.proofs.mem_disk.MemDisk.note_sync.Goals as goal

pub returns-then-is_listed-clause-moves : goal.returns-then-is_listed-clause-moves
returns-then-is_listed-clause-moves c =
    let base = content (given_files c.args.self.now.base.items) in
    let old = events_of c.args.self.now.calls in
    subst (λ (l : List Event). Moves Same (state_after base old) (state_after base l)) (sym c.note.ensures.noted) (missed base old c.args.name.now)

pub invariant_of-self-2 : goal.invariant_of-self-2
invariant_of-self-2 c =
    let base = content (given_files c.args.self.now.base.items) in
    let old = events_of c.args.self.now.calls in
    let event = event_of c.args.kind c.args.name.now [] in
    record {
      replayed = λ name. c.args.self.now.replayed name
          ∙ ap (λ (f : Files). f name) (sym (read_still base old event (c.requires base (reverse old))))
          ∙ ap (λ (l : List Event). reads_after base (reverse l) name) (sym c.note-2.ensures.noted);
    }
