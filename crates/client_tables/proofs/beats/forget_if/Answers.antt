use Rattle.std.proofs.Common.{◌∙◌, ◌&&◌, ap, sym, Bool, not, filter}
use Rattle.client_tables.specs.Kept.{goes, in_groups}
use Rattle.client_tables.proofs.ListLemmas.{filter_all}
use Rattle.client_tables.proofs.beats.forget_if.Goals as goal

pub returns-then-is_gone : goal.returns-then-is_gone
returns-then-is_gone c = λ g t.
    let was = in_groups c.args.groups.now g t in
    c.forget.ensures g t ∙ (λ j. filter (λ said. not (goes (c.as_str.ensures.value j) 0 c.args.last said)) was)
    ∙ ap (λ (b : Bool). filter (λ said. not (b && goes c.args.client.now.client 0 c.args.last said)) was) (sym c.if-is_gone.true)

pub returns-else-is_gone : goal.returns-else-is_gone
returns-else-is_gone c = λ g t.
    let was = in_groups c.args.groups.now g t in
    sym (filter_all was) ∙ ap (λ (b : Bool). filter (λ said. not (b && goes c.args.client.now.client 0 c.args.last said)) was) (sym c.if-is_gone.false)
