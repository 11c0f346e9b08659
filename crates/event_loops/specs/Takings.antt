-- Which check-backs a loop took, and which of them it wrote.
use Rattle.std.specs.Prelude.{◌≡◌, ◌++◌, ℕ, List, [], ◌∷◌, refl}
use Rattle.std.proofs.Common.{ap, ◌∙◌}
use Rattle.reply_fields.specs.Parts.{AskParts}
use Rattle.session.specs.Owing.{Steps}
use Rattle.event_loops.specs.Tales.{Act, LeadsWith}
use Rattle.event_loops.specs.declared.asks.Picked.{Picked}
use Rattle.event_loops.specs.declared.asks.Picked.TheVariants as picked

-- the check-back that was taken, if one was
abbrev pub picked_list : Picked → List AskParts
picked_list (picked.Ask ask) = ask ∷ []
picked_list picked.Nothing = []

-- of a way by which none comes: none was taken
abbrev pub TakesNone : {A : Type 0} → A → List AskParts → A → Type 0
TakesNone old taken new = taken ≡ []

pub none_at_first : {A : Type 0} (end : A) → TakesNone end [] end
none_at_first end = refl

pub none_at_all : {A : Type 0} (old : A) (first : List AskParts) (mid : A) (rest : List AskParts) (new : A) → TakesNone old first mid
    → TakesNone mid rest new → TakesNone old (first ++ rest) new
none_at_all old first mid rest new h k = ap (λ (l : List AskParts). l ++ rest) h ∙ k

-- Some check-backs were taken, some acts lead from x to y, and of them this is so. What they wrote are some of what was taken, in that
-- order and each once, and no more replies `read N` than a reader failed between these two counts of its failures.
pub record LeadsTaking {C A : Type 0} (makes : Steps C) (takes : A → List AskParts → A → Type 0) (x y : C) (before after : A)
    (low high : ℕ) (P : List Act → Type 0) : Type 0 where
  pub taken : List AskParts
  pub took : takes before taken after
  pub went : LeadsWith makes x y taken low high P
