use Rattle.std.proofs.Common.{◌++◌, ◌∙◌, List, ap, sym}
use Rattle.reply_fields.specs.Parts.{AskParts}
use Rattle.serve_threads.proofs.served.compare.Goals as goal

pub returns-clause-first : goal.returns-clause-first
returns-clause-first c =
    let front = c.count_beside.ensures.front in
    let same = c.count_beside.ensures.same in
    (front.0, sym same.0 ∙ front.2 ∙ ap (λ (l : List AskParts). l ++ front.0) same.1)

pub returns-clause-second : goal.returns-clause-second
returns-clause-second c =
    let front = c.count_beside-2.ensures.front in
    let same = c.count_beside-2.ensures.same in
    (front.0, sym same.0 ∙ front.2 ∙ ap (λ (l : List AskParts). l ++ front.0) same.1)
