-- The arguments of `serve`.
use Rattle.std.specs.Prelude.{◌≡◌, ℕ, List, unwrap_or}
use Rattle.store_open.specs.declared.settings.Verb.TheVariants.{Serve}
use Rattle.store_open.specs.declared.settings.Settings.{Settings}
use Rattle.store_open.specs.declared.serve_words.ServeCommand.{ServeCommand}
use Rattle.store_open.specs.Options.{AreArguments, IsFirstUnfit, sync_of, sizes_of, host_of, store_of, listen_of}

-- the command has what is said, and else the defaults; it has up to 1024 links
pub record IsServeMeant (settings : Settings) (command : ServeCommand) : Type 0 where
  pub sync : command.sync ≡ sync_of settings
  pub sizes : command.sizes ≡ sizes_of settings
  pub host : command.host ≡ host_of settings
  pub store : command.store.now ≡ store_of settings
  pub listen : command.listen ≡ listen_of settings
  pub links : command.links ≡ unwrap_or settings.links 1024
  pub connections : command.connections ≡ settings.connections

-- These words are a command: `serve`, and behind it options with their values, each at most once.
pub record IsServeCommand (words : List (List ℕ)) (command : ServeCommand) : Type 0 where
  pub settings : Settings
  pub are : AreArguments Serve words settings
  pub meant : IsServeMeant settings command

-- the first word that doesn't fit, or the place behind the last where one is missing
abbrev pub IsFirstWrongOfServe : List (List ℕ) → ℕ → Type 0
IsFirstWrongOfServe words place = IsFirstUnfit Serve words place
