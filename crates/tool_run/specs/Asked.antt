-- Which tool the words of a command line ask for.
use Rattle.std.specs.Prelude.{◌≡◌, ℕ, List, [], ◌∷◌}
use Rattle.store_open.specs.Options.{word_of}
use Rattle.store_open.specs.ToolWords.{verb_of}
use Rattle.store_open.specs.declared.tool_words.Tool.{Tool}

-- the words ask for this tool: the first of them is its name
abbrev pub AsksTool : List (List ℕ) → Tool → Type 0
AsksTool [] tool = ⊥
AsksTool (word ∷ words) tool = word ≡ word_of (verb_of tool)

-- they ask for none
abbrev pub AsksNoTool : List (List ℕ) → Type 0
AsksNoTool words = (tool : Tool) → AsksTool words tool → ⊥
