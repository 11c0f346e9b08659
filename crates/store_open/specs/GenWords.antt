-- The arguments of `gen`.
use Rattle.std.specs.Prelude.{◌≡◌, ◌≢◌, ◌⊎◌, ℕ, ◌≤◌, List, [], ◌∷◌, codes}
use Rattle.mq_bytes.specs.Decimal.{digits_of}
use Rattle.store_open.specs.declared.gen_words.GenCommand.{GenCommand}

-- how many items may be asked for, and with which number they may start
pub record IsItemCount (n : ℕ) : Type 0 where
  pub low : 1 ≤ n
  pub high : n ≤ 1000000

abbrev pub IsStart : ℕ → Type 0
IsStart n = n ≤ 1000000

-- the word of the command, of a number of items, of a start, of the option, and of a folder
abbrev pub IsCommandWord : List ℕ → Type 0
IsCommandWord word = word ≡ codes "gen"

abbrev pub IsItemsWord : List ℕ → Type 0
IsItemsWord word = (n : ℕ) × IsItemCount n × (word ≡ digits_of n)

abbrev pub IsStartWord : List ℕ → Type 0
IsStartWord word = (n : ℕ) × IsStart n × (word ≡ digits_of n)

abbrev pub IsOptionWord : List ℕ → Type 0
IsOptionWord word = word ≡ codes "--store"

abbrev pub IsFolderWord : List ℕ → Type 0
IsFolderWord word = word ≢ []

-- these words say which folder has the store: `store`, unless the option names another one
abbrev pub SaysStore : List (List ℕ) → List ℕ → Type 0
SaysStore words store = ((words ≡ []) × (store ≡ codes "store")) ⊎ ((words ≡ codes "--store" ∷ store ∷ []) × (store ≢ []))

-- these words say the start, and which folder has the store
abbrev pub SaysStart : List (List ℕ) → ℕ → List ℕ → Type 0
SaysStart words start store = (options : List (List ℕ)) × IsStart start × (words ≡ digits_of start ∷ options) × SaysStore options store

-- these words say how many items, the start, and which folder has the store
abbrev pub SaysItems : List (List ℕ) → GenCommand → Type 0
SaysItems words command = (more : List (List ℕ)) × IsItemCount command.items × (words ≡ digits_of command.items ∷ more)
    × SaysStart more command.start command.store.now

-- these words ask for so many items from this start on, in the store's folder
abbrev pub IsGenCommand : List (List ℕ) → GenCommand → Type 0
IsGenCommand words command = (more : List (List ℕ)) × (words ≡ codes "gen" ∷ more) × SaysItems more command

-- The first word that doesn't fit, counted from 0, or the place after the last where one is missing: the words before it fit. First
-- of those after the folder, then from the folder on, from the option on, from the start, from the number of items, and of all.
abbrev pub IsWrongMore : List (List ℕ) → ℕ → Type 0
IsWrongMore [] place = ⊥
IsWrongMore (word ∷ words) place = place ≡ 5

abbrev pub IsWrongFolder : List (List ℕ) → ℕ → Type 0
IsWrongFolder [] place = place ≡ 4
IsWrongFolder (word ∷ words) place = ((IsFolderWord word → ⊥) × (place ≡ 4)) ⊎ (IsFolderWord word × IsWrongMore words place)

abbrev pub IsWrongOption : List (List ℕ) → ℕ → Type 0
IsWrongOption [] place = ⊥
IsWrongOption (word ∷ words) place = ((IsOptionWord word → ⊥) × (place ≡ 3)) ⊎ (IsOptionWord word × IsWrongFolder words place)

abbrev pub IsWrongStart : List (List ℕ) → ℕ → Type 0
IsWrongStart [] place = place ≡ 2
IsWrongStart (word ∷ words) place = ((IsStartWord word → ⊥) × (place ≡ 2)) ⊎ (IsStartWord word × IsWrongOption words place)

abbrev pub IsWrongItems : List (List ℕ) → ℕ → Type 0
IsWrongItems [] place = place ≡ 1
IsWrongItems (word ∷ words) place = ((IsItemsWord word → ⊥) × (place ≡ 1)) ⊎ (IsItemsWord word × IsWrongStart words place)

abbrev pub IsFirstWrongOfGen : List (List ℕ) → ℕ → Type 0
IsFirstWrongOfGen [] place = place ≡ 0
IsFirstWrongOfGen (word ∷ words) place = ((IsCommandWord word → ⊥) × (place ≡ 0)) ⊎ (IsCommandWord word × IsWrongItems words place)
