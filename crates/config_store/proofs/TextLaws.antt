-- What a text says, and which rows have one text.
use Rattle.std.proofs.Common.{◌≡◌, ◌↔◌, ℕ, ◌<◌, ◌^◌, List, [], ◌∷◌, All, Some, refl, sym, ap, ◌∙◌, arith, codes, IsUtf8}
use Rattle.std.proofs.lemmas.Fmt.{IsAscii-decimal}
use Rattle.std.proofs.lemmas.Str.{IsUtf8-from_ascii, IsUtf8-append}
use Rattle.json.proofs.Printed.Utf8.{IsUtf8-are_ascii}
use Rattle.broker_model.specs.Tables.{OffsetRow, TopicRow, offset_in, queues_in}
use Rattle.serde_json.specs.Data.{Data, number, unsigned, object, Members, member, no_members}
use Rattle.serde_json.specs.Read.{read}
use Rattle.serde_json.specs.Written.{compact_text}
use Rattle.config_store.specs.Texts.{IsOffset, IsKeptTopic, offset_members, topic_members, offsets_data, topics_data, offsets_text_of, topics_text_of}
use Rattle.record_codec.proofs.TextLemmas.{IsUtf8-legal}
use Rattle.config_store.proofs.Good.{IsGood, good_number, good_object, good_reads}
use Rattle.config_store.proofs.OffsetTables.{IsQueueMember, IsKeyMember, rows_in_order}
use Rattle.config_store.proofs.OffsetLaws.{one_table_offsets, offsets_one_table}
use Rattle.config_store.proofs.TopicTables.{IsTopicMember, topics_in_order, topics_one_table, one_table_topics}

-- ---- the data is good

good_queue : (name : List ℕ) (d : Data) → IsQueueMember name d → IsUtf8 name × IsGood 0 d
good_queue name d it =
    (rw it.named (IsUtf8-from_ascii _ (IsAscii-decimal it.queue (omega (arith, it.low)))), rw it.is (good_number it.offset (omega (arith, it.small))))

good_key : (name : List ℕ) (d : Data) → IsKeyMember name d → IsUtf8 name × IsGood 1 d
good_key name d it = (
  rw it.named (IsUtf8-append _ _ (IsUtf8-legal it.topic it.legal) (IsUtf8-append (64 ∷ []) it.group (IsUtf8-are_ascii (64 ∷ []) refl) it.text)),
  rw it.is (good_object IsQueueMember 0 good_queue it.queues it.all),
)

-- a name of the program's own, and its good value
Named : List ℕ → Data → Type 0
Named name d = IsUtf8 name × IsGood 2 d

-- how many queues a topic has
record IsCount (name : List ℕ) (d : Data) : Type 0 where
  count : ℕ
  named : name ≡ codes "queues"
  is : d ≡ number (unsigned count)
  small : count < 2 ^ 64

good_count : (name : List ℕ) (d : Data) → IsCount name d → IsUtf8 name × IsGood 0 d
good_count name d it = (rw it.named (IsUtf8-are_ascii (codes "queues") refl), rw it.is (good_number it.count it.small))

good_offsets : (rows : List OffsetRow) → All IsOffset rows → IsGood 3 (offsets_data rows)
unfolding Named
good_offsets rows ok =
    good_object Named 2 (λ name d it. it) (member (codes "offsetTable") (object (offset_members rows)) no_members)
    (tt, ((IsUtf8-are_ascii (codes "offsetTable") refl, good_object IsKeyMember 1 good_key (offset_members rows) (rows_in_order rows ok)), tt))

pub offsets_read_back : (rows : List OffsetRow) → All IsOffset rows → read (offsets_text_of rows) ≡ Some (offsets_data rows)
offsets_read_back rows ok = good_reads 3 (offsets_data rows) (omega arith) (good_offsets rows ok)

pub offsets_utf8 : (rows : List OffsetRow) → All IsOffset rows → IsUtf8 (offsets_text_of rows)
offsets_utf8 rows ok = (good_offsets rows ok).text

good_settings : (name : List ℕ) (d : Data) → IsTopicMember name d → IsUtf8 name × IsGood 1 d
good_settings name d it = (
  IsUtf8-legal name it.kept.plain.0,
  rw it.is (good_object IsCount 0 good_count (member (codes "queues") (number (unsigned it.queues)) no_members)
      (tt, (record { count = it.queues; named = refl; is = refl; small = omega (arith, it.kept.few) }, tt))),
)

good_topics : (rows : List TopicRow) → All IsKeptTopic rows → IsGood 3 (topics_data rows)
unfolding Named
good_topics rows ok =
    good_object Named 2 (λ name d it. it) (member (codes "topicConfigTable") (object (topic_members rows)) no_members)
    (tt, ((IsUtf8-are_ascii (codes "topicConfigTable") refl, good_object IsTopicMember 1 good_settings (topic_members rows) (topics_in_order rows ok)), tt))

pub topics_read_back : (rows : List TopicRow) → All IsKeptTopic rows → read (topics_text_of rows) ≡ Some (topics_data rows)
topics_read_back rows ok = good_reads 3 (topics_data rows) (omega arith) (good_topics rows ok)

pub topics_utf8 : (rows : List TopicRow) → All IsKeptTopic rows → IsUtf8 (topics_text_of rows)
topics_utf8 rows ok = (good_topics rows ok).text

-- ---- one text

object_same : (name : List ℕ) (ms ns : Members) → Some (object (member name (object ms) no_members)) ≡ Some (object (member name (object ns) no_members)) → ms ≡ ns
object_same name ms ns e =
    let outer : object (member name (object ms) no_members) ≡ object (member name (object ns) no_members) = cc in
    let members : member name (object ms) no_members ≡ member name (object ns) no_members = cc in
    let inner : object ms ≡ object ns = cc in
    cc

pub offsets_one_text : (rows others : List OffsetRow) → All IsOffset rows → All IsOffset others
    → (offsets_text_of rows ≡ offsets_text_of others) ↔ ((group topic : List ℕ) (queue : ℕ) → offset_in rows group topic queue ≡ offset_in others group topic queue)
offsets_one_text rows others ok also = (
  λ same. one_table_offsets rows others ok also
      (object_same (codes "offsetTable") _ _ (sym (offsets_read_back rows ok) ∙ ap read same ∙ offsets_read_back others also)),
  λ says. ap (λ (ms : Members). compact_text (object (member (codes "offsetTable") (object ms) no_members))) (offsets_one_table rows others ok also says),
)

pub topics_one_text : (rows others : List TopicRow) → All IsKeptTopic rows → All IsKeptTopic others
    → (topics_text_of rows ≡ topics_text_of others) ↔ ((topic : List ℕ) → queues_in rows topic ≡ queues_in others topic)
topics_one_text rows others ok also = (
  λ same. one_table_topics rows others
      (object_same (codes "topicConfigTable") _ _ (sym (topics_read_back rows ok) ∙ ap read same ∙ topics_read_back others also)),
  λ says. ap (λ (ms : Members). compact_text (object (member (codes "topicConfigTable") (object ms) no_members))) (topics_one_table rows others ok also says),
)
