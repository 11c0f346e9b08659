-- The table of topics: its names stand in order, and it has at a topic what the first of its rows says.
use Rattle.std.proofs.Common.{◌≡◌, ◌≢◌, ⊎_elim, ℕ, List, [], ◌∷◌, true, false, All, Option, Some, None, option_map, refl, sym, ap, ◌∙◌, subst, codes}
use Rattle.std.specs.Str.{bytes_eq}
use Rattle.std.proofs.lemmas.Bool.{cases_Bool}
use Rattle.std.proofs.lemmas.List.Elements.{All-head, All-tail}
use Rattle.std.proofs.lemmas.Slice.Eq.{bytes_eq-Decides}
use Rattle.broker_model.specs.Tables.{TopicRow, queues_in}
use Rattle.serde_json.specs.Data.{Data, number, unsigned, object, no_members, member}
use Rattle.serde_json.specs.Find.{get_member}
use Rattle.serde_json.proofs.Views.{get_member-put, get_member-put_other}
use Rattle.config_store.specs.Texts.{IsKeptTopic, topic_members}
use Rattle.config_store.proofs.Sorted.{Ascends, put_ascends, ext}

-- the value of a topic with so many queues
abbrev pub settings_of : ℕ → Data
settings_of queues = object (member (codes "queues") (number (unsigned queues)) no_members)

-- a member of the table: a topic that can be kept
pub record IsTopicMember (name : List ℕ) (d : Data) : Type 0 where
  pub queues : ℕ
  pub is : d ≡ settings_of queues
  pub kept : IsKeptTopic (record { topic = name; queues = queues })

-- the names of the table of some rows stand in order
pub topics_in_order : (rows : List TopicRow) → All IsKeptTopic rows → Ascends IsTopicMember (topic_members rows)
topics_in_order [] ok = tt
topics_in_order (row ∷ rows) ok =
    put_ascends IsTopicMember row.topic (settings_of row.queues) (topic_members rows) (topics_in_order rows (All-tail IsKeptTopic row rows ok))
    (record { queues = row.queues; is = refl; kept = All-head IsKeptTopic row rows ok })

-- the value that a number of queues has
abbrev pub topic_value : Option ℕ → Option Data
topic_value o = option_map settings_of o

pub topic_lookup : (rows : List TopicRow) (topic : List ℕ) → get_member topic (topic_members rows) ≡ topic_value (queues_in rows topic)
topic_lookup [] topic = refl
topic_lookup (row ∷ rows) topic = ⊎_elim
    (λ (same : bytes_eq row.topic topic ≡ true).
    let name = (bytes_eq-Decides row.topic topic).0 same in
    rw same (subst (λ (t : List ℕ). get_member t (topic_members (row ∷ rows)) ≡ Some (settings_of row.queues)) name
    (get_member-put row.topic (settings_of row.queues) (topic_members rows))))
    (λ (apart : bytes_eq row.topic topic ≡ false).
    let other : topic ≢ row.topic = λ name. let equal = (bytes_eq-Decides row.topic topic).1 (sym name) in absurd cc in
    rw apart (get_member-put_other topic row.topic (settings_of row.queues) (topic_members rows) other ∙ topic_lookup rows topic))
    (cases_Bool (bytes_eq row.topic topic))

one_settings : (a b : Option ℕ) → topic_value a ≡ topic_value b → a ≡ b
one_settings None None e = refl
one_settings None (Some b) e = absurd cc
one_settings (Some a) None e = absurd cc
one_settings (Some a) (Some b) e =
    let same : settings_of a ≡ settings_of b = cc in
    let members : member (codes "queues") (number (unsigned a)) no_members ≡ member (codes "queues") (number (unsigned b)) no_members = cc in
    let value : number (unsigned a) ≡ number (unsigned b) = cc in
    let n : unsigned a ≡ unsigned b = cc in
    cc

-- rows that say the same of each topic have one table
pub topics_one_table : (rows others : List TopicRow) → All IsKeptTopic rows → All IsKeptTopic others → ((topic : List ℕ) → queues_in rows topic ≡ queues_in others topic)
    → topic_members rows ≡ topic_members others
topics_one_table rows others ok also same =
    ext IsTopicMember IsTopicMember (topic_members rows) (topic_members others) (topics_in_order rows ok) (topics_in_order others also)
    (λ topic. topic_lookup rows topic ∙ ap topic_value (same topic) ∙ sym (topic_lookup others topic))

-- and the other way round
pub one_table_topics : (rows others : List TopicRow) → topic_members rows ≡ topic_members others → (topic : List ℕ) → queues_in rows topic ≡ queues_in others topic
one_table_topics rows others same topic =
    one_settings _ _ (sym (topic_lookup rows topic) ∙ ap (get_member topic) same ∙ topic_lookup others topic)
