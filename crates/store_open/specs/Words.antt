-- The arguments of `pipe`.
use Rattle.std.specs.Prelude.{◌≡◌, ℕ, List}
use Rattle.store_open.specs.declared.settings.Verb.TheVariants.{Pipe}
use Rattle.store_open.specs.declared.settings.Settings.{Settings}
use Rattle.store_open.specs.declared.words.Command.{Command}
pub use Rattle.store_open.specs.Options.{texts_of}
use Rattle.store_open.specs.Options.{AreArguments, IsFirstUnfit, sync_of, sizes_of, host_of, store_of}

-- the command has what is said, and else the defaults
pub record IsMeant (settings : Settings) (command : Command) : Type 0 where
  pub sync : command.sync ≡ sync_of settings
  pub sizes : command.sizes ≡ sizes_of settings
  pub host : command.host ≡ host_of settings
  pub store : command.store.now ≡ store_of settings

-- These words are a command: `pipe`, and behind it options with their values, each at most once.
pub record IsCommand (words : List (List ℕ)) (command : Command) : Type 0 where
  pub settings : Settings
  pub are : AreArguments Pipe words settings
  pub meant : IsMeant settings command

-- the first word that doesn't fit, or the place behind the last where one is missing
abbrev pub IsFirstWrong : List (List ℕ) → ℕ → Type 0
IsFirstWrong words place = IsFirstUnfit Pipe words place
