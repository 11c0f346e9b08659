use Rattle.std.proofs.Common.{◌∙◌, List, find, ap}
use Rattle.std.specs.Prelude.{nat_eq}
use Rattle.record_codec.specs.Entry.{Entry}
use Rattle.half_records.proofs.VerdictLemmas.{family_open, family_settled, none_of}
use Rattle.half_records.proofs.halves.Halves.whole.Goals as goal

pub returns-clause-found : goal.returns-clause-found
returns-clause-found c segment log r well has found opens =
    c.member.ensures ∙ ap (λ (xs : List Entry). find (λ x. nat_eq x.queue_offset c.args.half) xs) (family_open segment log c.args.self.now well has c.args.origin r found opens)

pub returns-clause-settled : goal.returns-clause-settled
returns-clause-settled c segment log well has settled =
    none_of _ _ (c.member.ensures ∙ ap (λ (xs : List Entry). find (λ x. nat_eq x.queue_offset c.args.half) xs) (family_settled segment log c.args.self.now well has c.args.origin settled))
