-- The arguments of the tools.
use Rattle.std.specs.Prelude.{◌≡◌, ℕ, List}
use Rattle.store_open.specs.declared.settings.Verb.{Verb}
use Rattle.store_open.specs.declared.settings.Verb.TheVariants as verb
use Rattle.store_open.specs.declared.settings.Settings.{Settings}
use Rattle.store_open.specs.declared.tool_words.Tool.{Tool}
use Rattle.store_open.specs.declared.tool_words.Tool.TheVariants.{Dump, Verify}
use Rattle.store_open.specs.declared.tool_words.ToolCommand.{ToolCommand}
use Rattle.store_open.specs.Options.{AreArguments, IsFirstUnfit, store_of}

-- the command of a tool
abbrev pub verb_of : Tool → Verb
verb_of Dump = verb.Dump
verb_of Verify = verb.Verify

-- These words are the tool's command, and after it, at most once, the store's folder, which is else `store`.
pub record IsToolCommand (tool : Tool) (words : List (List ℕ)) (command : ToolCommand) : Type 0 where
  pub settings : Settings
  pub are : AreArguments (verb_of tool) words settings
  pub store : command.store.now ≡ store_of settings

-- the first word that doesn't fit the tool, or the place after the last where one is missing
abbrev pub IsFirstWrongOfTool : Tool → List (List ℕ) → ℕ → Type 0
IsFirstWrongOfTool tool words place = IsFirstUnfit (verb_of tool) words place
