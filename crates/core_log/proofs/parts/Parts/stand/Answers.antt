use Rattle.std.proofs.Common.{◌≤◌, ◌+◌, refl, sym, subst, ℕ, List, length}
use Rattle.record_codec.specs.Drafts.{entry_of}
use Rattle.core_log.proofs.parts.Parts.stand.Goals as goal

pub add_all-requires : goal.add_all-requires
add_all-requires c = subst (λ (hashes : List ℕ). length hashes ≤ c.args.self.now.keys.spare) (sym c.of_draft.ensures) c.requires.room.keys

pub returns-clause-keys : goal.returns-clause-keys
returns-clause-keys c log is = c.add_all.ensures.records log.records (entry_of c.args.draft.now c.args.place.now) is c.of_draft.ensures refl refl

pub returns-clause-key_spare : goal.returns-clause-key_spare
returns-clause-key_spare c =
    subst (λ (hashes : List ℕ). c.args.self.now.keys.spare ≤ c.add_all.new.self.spare + length hashes) c.of_draft.ensures c.add_all.ensures.spare
