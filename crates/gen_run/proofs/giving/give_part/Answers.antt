use Rattle.std.specs.declared.alloc.AllocError.{AllocError}
use Rattle.gen_run.proofs.RoundLemmas.{part_acted, any_behind}
use Rattle.gen_run.proofs.giving.give_part.Goals as goal

pub returns-in-Ok-give_item-clause-acted : goal.returns-in-Ok-give_item-clause-acted
returns-in-Ok-give_item-clause-acted g c = part_acted _ _ AllocError c.args.start c.args.item c.in-Ok-give_item.found (tt {0}) _ _ _ _ _ _ c.in-Ok.ensures.acted c.in-Ok-give_item.ensures.acted

pub returns-in-Err-give_item-clause-acted : goal.returns-in-Err-give_item-clause-acted
returns-in-Err-give_item-clause-acted g c = any_behind _ _ _ _ _ _ _ _ _ _ c.in-Ok.ensures.acted c.in-Err-give_item.ensures.acted
