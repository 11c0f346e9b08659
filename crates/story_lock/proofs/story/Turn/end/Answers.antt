use Rattle.std.proofs.Common.{rules, [], ◌∷◌, ◌++◌, length, ap, ◌∙◌}
use Rattle.story_lock.proofs.Between.{none_between}
use Rattle.story_lock.proofs.story.Turn.end.Goals as goal

pub returns-clause-adds : goal.returns-clause-adds
returns-clause-adds g c = λ pass state finds same. let added = c.commit.ensures.commits in let home = c.put_back.ensures.passes in record {
  between = finds.begins.0;
  seen = ap (λ m. m.0.seen) home ∙ (ap (λ m. m.0.seen) added ∙ ap (λ l. l ++ (c.args.event.now, c.args.said.now) ∷ []) finds.begins.1);
  mine = ap (λ m. m.0.mine) home ∙ (ap (λ m. m.0.mine) added ∙ (λ i. same.2 i ++ length (finds.begins.1 i) ∷ []));
  same = search rules;
  unkeyed = λ key. none_between _ _ _ _ _ finds.begins.1 finds.inside (finds.own_keyed key);
}
