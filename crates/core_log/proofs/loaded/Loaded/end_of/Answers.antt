use Rattle.std.proofs.Common.{◌∙◌, sym}
use Rattle.core_log.proofs.LoadLemmas.{end_found, end_unknown}
use Rattle.core_log.proofs.loaded.Loaded.end_of.Goals as goal

pub returns-in-Some : goal.returns-in-Some
returns-in-Some c saved records kept is =
    end_found saved records kept c.args.self.now c.args.topic.now c.args.queue c.in-Some.table c.added.result is (sym c.find.ensures ∙ c.in-Some.is) c.added.ensures.table

pub returns-in-None : goal.returns-in-None
returns-in-None c saved records kept is = end_unknown saved records kept c.args.self.now c.args.topic.now c.args.queue is (sym c.find.ensures ∙ c.in-None.is)
