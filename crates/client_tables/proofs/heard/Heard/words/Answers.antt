use Rattle.std.proofs.Common.{◌≡◌, ◌∙◌, ◌-◌, sym, subst, List, length, Some}
use Rattle.std.specs.List.{slice_get}
use Rattle.client_tables.specs.declared.heard.Said.{Said}
use Rattle.client_tables.proofs.HeardLemmas.{last_read}
use Rattle.client_tables.proofs.heard.Heard.words.Goals as goal

pub returns-in-Some : goal.returns-in-Some
returns-in-Some c =
    let said : Said = c.in-Some.said.now in
    c.as_str.ensures.value
    ∙ sym (last_read c.args.self.now.said.items said (subst (λ (l : List Said). Some said ≡ slice_get l (length l - 1)) c.deref.ensures.value c.in-Some.ensures.value))
