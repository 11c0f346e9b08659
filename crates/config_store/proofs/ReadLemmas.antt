-- A text of some rows is read as data of which rows are read that have the same text.
use Rattle.std.proofs.Common.{◌≡◌, ℕ, List, All, Option, Some, None, option_and_then, codes, sym, ap, ◌∙◌, subst, IsUtf8}
use Rattle.broker_model.specs.Tables.{OffsetRow, TopicRow}
use Rattle.serde_json.specs.Data.{Data, object, Members, no_members, member}
use Rattle.serde_json.specs.Find.{get, as_object}
use Rattle.serde_json.specs.Read.{read}
use Rattle.serde_json.specs.Written.{compact_text}
use Rattle.config_store.specs.Texts.{IsOffset, IsKeptTopic, offset_members, topic_members, offsets_text_of, topics_text_of}
use Rattle.config_store.specs.Reads.{AreTableRows, AreTopicRows}
use Rattle.config_store.specs.Configs.{IsOffsetsText, IsTopicsText}
use Rattle.config_store.proofs.OffsetTables.{rows_in_order}
use Rattle.config_store.proofs.TopicTables.{topics_in_order}
use Rattle.config_store.proofs.TextLaws.{offsets_read_back, offsets_utf8, topics_read_back, topics_utf8}
use Rattle.config_store.proofs.Rebuilt.{rebuilt, table_exists, topics_rebuilt, topics_exist}

some_none : {A : Type 0} (a : A) (o : Option A) → o ≡ Some a → o ≡ None → ⊥
some_none a o some none = cc

-- the data of the text, where it has one
offsets_table : (text : List ℕ) (rows : List OffsetRow) (d : Data) → IsOffsetsText text rows → read text ≡ Some d
    → option_and_then as_object (get (codes "offsetTable") d) ≡ Some (offset_members rows)
offsets_table text rows d is found =
    let whole : Some d ≡ Some (object (member (codes "offsetTable") (object (offset_members rows)) no_members)) =
    sym found ∙ ap read is.is ∙ offsets_read_back rows is.each in
    let same : d ≡ object (member (codes "offsetTable") (object (offset_members rows)) no_members) = cc in
    ap (λ (x : Data). option_and_then as_object (get (codes "offsetTable") x)) same

pub offsets_no_data : (text : List ℕ) (rows : List OffsetRow) → IsOffsetsText text rows → (IsUtf8 text → read text ≡ None) → ⊥
offsets_no_data text rows is none =
    some_none _ _ (ap read is.is ∙ offsets_read_back rows is.each) (none (subst IsUtf8 (sym is.is) (offsets_utf8 rows is.each)))

pub offsets_no_table : (text : List ℕ) (rows : List OffsetRow) (d : Data) → IsOffsetsText text rows → read text ≡ Some d
    → option_and_then as_object (get (codes "offsetTable") d) ≡ None → ⊥
offsets_no_table text rows d is found none = some_none _ _ (offsets_table text rows d is found) none

same_table : (text : List ℕ) (rows : List OffsetRow) (d : Data) (ms : Members) → IsOffsetsText text rows → read text ≡ Some d
    → option_and_then as_object (get (codes "offsetTable") d) ≡ Some ms → ms ≡ offset_members rows
same_table text rows d ms is found table = let both : Some ms ≡ Some (offset_members rows) = sym table ∙ offsets_table text rows d is found in cc

pub offsets_no_rows : (text : List ℕ) (rows : List OffsetRow) (d : Data) (ms : Members) → IsOffsetsText text rows → read text ≡ Some d
    → option_and_then as_object (get (codes "offsetTable") d) ≡ Some ms → ((more : List OffsetRow) → AreTableRows ms more → All IsOffset more → ⊥) → ⊥
offsets_no_rows text rows d ms is found table none =
    let there = table_exists (offset_members rows) (rows_in_order rows is.each) in
    none there.0 (subst (λ (x : Members). AreTableRows x there.0) (sym (same_table text rows d ms is found table)) there.1.0) there.1.1

pub offsets_again : (text : List ℕ) (rows more : List OffsetRow) (d : Data) (ms : Members) → IsOffsetsText text rows → read text ≡ Some d
    → option_and_then as_object (get (codes "offsetTable") d) ≡ Some ms → AreTableRows ms more → offsets_text_of more ≡ text
offsets_again text rows more d ms is found table are =
    let same = rebuilt (offset_members rows) more (rows_in_order rows is.each)
    (subst (λ (x : Members). AreTableRows x more) (same_table text rows d ms is found table) are) in
    ap (λ (x : Members). compact_text (object (member (codes "offsetTable") (object x) no_members))) same ∙ sym is.is

-- ---- the same of topics

topics_table : (text : List ℕ) (rows : List TopicRow) (d : Data) → IsTopicsText text rows → read text ≡ Some d
    → option_and_then as_object (get (codes "topicConfigTable") d) ≡ Some (topic_members rows)
topics_table text rows d is found =
    let whole : Some d ≡ Some (object (member (codes "topicConfigTable") (object (topic_members rows)) no_members)) =
    sym found ∙ ap read is.is ∙ topics_read_back rows is.each in
    let same : d ≡ object (member (codes "topicConfigTable") (object (topic_members rows)) no_members) = cc in
    ap (λ (x : Data). option_and_then as_object (get (codes "topicConfigTable") x)) same

pub topics_no_data : (text : List ℕ) (rows : List TopicRow) → IsTopicsText text rows → (IsUtf8 text → read text ≡ None) → ⊥
topics_no_data text rows is none =
    some_none _ _ (ap read is.is ∙ topics_read_back rows is.each) (none (subst IsUtf8 (sym is.is) (topics_utf8 rows is.each)))

pub topics_no_table : (text : List ℕ) (rows : List TopicRow) (d : Data) → IsTopicsText text rows → read text ≡ Some d
    → option_and_then as_object (get (codes "topicConfigTable") d) ≡ None → ⊥
topics_no_table text rows d is found none = some_none _ _ (topics_table text rows d is found) none

same_topics : (text : List ℕ) (rows : List TopicRow) (d : Data) (ms : Members) → IsTopicsText text rows → read text ≡ Some d
    → option_and_then as_object (get (codes "topicConfigTable") d) ≡ Some ms → ms ≡ topic_members rows
same_topics text rows d ms is found table = let both : Some ms ≡ Some (topic_members rows) = sym table ∙ topics_table text rows d is found in cc

pub topics_no_rows : (text : List ℕ) (rows : List TopicRow) (d : Data) (ms : Members) → IsTopicsText text rows → read text ≡ Some d
    → option_and_then as_object (get (codes "topicConfigTable") d) ≡ Some ms → ((more : List TopicRow) → AreTopicRows ms more → All IsKeptTopic more → ⊥) → ⊥
topics_no_rows text rows d ms is found table none =
    let there = topics_exist (topic_members rows) (topics_in_order rows is.each) in
    none there.0 (subst (λ (x : Members). AreTopicRows x there.0) (sym (same_topics text rows d ms is found table)) there.1.0) there.1.1

pub topics_again : (text : List ℕ) (rows more : List TopicRow) (d : Data) (ms : Members) → IsTopicsText text rows → read text ≡ Some d
    → option_and_then as_object (get (codes "topicConfigTable") d) ≡ Some ms → AreTopicRows ms more → topics_text_of more ≡ text
topics_again text rows more d ms is found table are =
    let same = topics_rebuilt (topic_members rows) more (topics_in_order rows is.each)
    (subst (λ (x : Members). AreTopicRows x more) (same_topics text rows d ms is found table) are) in
    ap (λ (x : Members). compact_text (object (member (codes "topicConfigTable") (object x) no_members))) same ∙ sym is.is
