use Rattle.std.proofs.Common.{◌≡◌, ◌∙◌, List, ℕ, [], ◌∷◌, Bor, Some, None, slice_get, sym, ap}
use Rattle.std.proofs.lemmas.Slice.Eq.{bytes_eq-Decides}
use Rattle.store_open.specs.Options.{texts_of, word_of}
use Rattle.store_open.specs.ToolWords.{verb_of}
use Rattle.store_open.specs.declared.tool_words.Tool.{Tool}
use Rattle.store_open.specs.declared.tool_words.Tool.TheVariants.{Dump, Verify}
use Rattle.tool_run.specs.Asked.{AsksTool}
use Rattle.tool_run.proofs.asked.asked_tool.Goals as goal

first_asks : (words : List (Bor (List ℕ))) (word : Bor (List ℕ)) (tool : Tool) → Some word ≡ slice_get words 0 → word.now ≡ word_of (verb_of tool)
    → AsksTool (texts_of words) tool
first_asks [] word tool at is = let none : Some word ≡ None = at in absurd (cc)
first_asks (first ∷ words) word tool at is = let same : Some word ≡ Some first = at in let equal : word ≡ first = cc in
    ap (λ (w : Bor (List ℕ)). w.now) (sym equal) ∙ is

pub returns-then-eq-clause-asked : goal.returns-then-eq-clause-asked
returns-then-eq-clause-asked c = first_asks c.args.words.now c.in_ok-first.first.now Dump c.in_ok-first.ensures.value
    ((bytes_eq-Decides _ _).0 (sym c.eq.ensures ∙ c.if-eq.true) ∙ c.word.ensures ∙ ap word_of c.verb.ensures)

pub returns-then-eq-2-clause-asked : goal.returns-then-eq-2-clause-asked
returns-then-eq-2-clause-asked c = first_asks c.args.words.now c.in_ok-first.first.now Verify c.in_ok-first.ensures.value
    ((bytes_eq-Decides _ _).0 (sym c.eq-else-eq.ensures ∙ c.if-eq-2.true) ∙ c.word-else-eq.ensures ∙ ap word_of c.verb-else-eq.ensures)
