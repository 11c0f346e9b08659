use Rattle.gen_run.proofs.AskLemmas.{item_acted}
use Rattle.gen_run.proofs.giving.give_item.Goals as goal

pub returns-clause-acted : goal.returns-clause-acted
returns-clause-acted g c = item_acted _ _ _ _ c.args.start c.args.item c.give_kind.result _ _ c.kind_of.ensures c.give_kind.ensures.asked
