-- What groups subscribe to, as it is kept and looked up.
use Rattle.std.specs.Prelude.{ℕ, ◌&&◌, nat_le, Bool, List, [], ◌∷◌, String, Option, Some, None}
use Rattle.std.specs.BTreeMap.{BTreeMap, get_by_text}
use Rattle.std.specs.Str.{bytes_eq}
use Rattle.client_tables.specs.declared.heard.Heard.{Heard}
use Rattle.client_tables.specs.declared.heard.Said.{Said}

-- the client said it by one of the heartbeats from the first to the last
abbrev pub goes : List ℕ → ℕ → ℕ → Said → Bool
goes client first last said = bytes_eq said.client client && nat_le first said.beat && nat_le said.beat last

-- the words that were said last, or none
abbrev pub last_words : List Said → List ℕ
last_words [] = []
last_words (said ∷ []) = said.words
last_words (said ∷ other ∷ more) = last_words (other ∷ more)

-- what was said of a topic, if it was heard of
abbrev pub said_of : Option Heard → List Said
said_of None = []
said_of (Some heard) = heard.said.items

-- what was said of this topic
abbrev pub in_topics : {A : Type 0} → BTreeMap (String A) Heard → List ℕ → List Said
in_topics topics topic = said_of (get_by_text topics topic)

-- what was said of this topic, if its group was heard of
abbrev pub of_group : {A : Type 0} → List ℕ → Option (BTreeMap (String A) Heard) → List Said
of_group topic None = []
of_group topic (Some topics) = in_topics topics topic

-- what was said of this topic of the group
abbrev pub in_groups : {A B : Type 0} → BTreeMap (String A) (BTreeMap (String B) Heard) → List ℕ → List ℕ → List Said
in_groups groups group topic = of_group topic (get_by_text groups group)
