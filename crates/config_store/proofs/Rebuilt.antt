-- The rows of a table in order make this table again, and each table in order has rows.
use Rattle.std.proofs.Common.{◌≡◌, ◌≢◌, ℕ, ◌<◌, List, [], ◌∷◌, ◌++◌, length, All, true, Option, Some, None, option_and_then, codes, refl, sym, ap, ◌∙◌, subst, arith, IsUtf8}
use Rattle.std.specs.Prelude.{unwrap_or}
use Rattle.std.proofs.lemmas.List.Elements.{All-nil, All-cons, All-append}
use Rattle.request_fields.specs.Clients.{IsName}
use Rattle.mq_bytes.specs.Decimal.{digits_of}
use Rattle.record_codec.specs.Layout.{is_legal}
use Rattle.broker_model.specs.Tables.{OffsetRow, TopicRow}
use Rattle.serde_json.specs.Data.{Data, number, unsigned, object, Members, no_members, member, put}
use Rattle.serde_json.specs.Find.{get, get_member, as_object}
use Rattle.config_store.specs.Texts.{IsOffset, IsKeptTopic, key_of, members_at, with_offset_row, offset_members, topic_members}
use Rattle.config_store.specs.Reads.{number_in, AreQueueRows, AreTableRows, AreTopicRows}
use Rattle.config_store.proofs.Sorted.{IsAbove, Ascends, same_text, put_front, get_above, get_first}
use Rattle.config_store.proofs.OffsetTables.{IsQueueMember, IsKeyMember}
use Rattle.config_store.proofs.RowLemmas.{some_rows}
use Rattle.config_store.proofs.TopicTables.{IsTopicMember, settings_of}

-- ---- offsets

-- what a table has once the queues of a key were put
made : List ℕ → Members → Members → Members
made key no_members ms = ms
made key (member name d queues) ms = member key (object (member name d queues)) ms

number_is : (d : Data) (n offset : ℕ) → d ≡ number (unsigned n) → number_in d ≡ Some offset → d ≡ number (unsigned offset)
number_is d n offset is found =
    let read : Some n ≡ Some offset = ap number_in (sym is) ∙ found in
    let same : n ≡ offset = cc in
    is ∙ ap (λ (x : ℕ). number (unsigned x)) same

-- the first queue of a key
put_first : (row : OffsetRow) (ms : Members) → IsAbove (key_of row.topic row.group) ms
    → with_offset_row row ms ≡ member (key_of row.topic row.group) (object (member (digits_of row.queue) (number (unsigned row.offset)) no_members)) ms
put_first row ms above =
    let none : members_at (key_of row.topic row.group) ms ≡ no_members =
    ap (λ (o : Option Data). unwrap_or (option_and_then as_object o) no_members) (get_above (key_of row.topic row.group) ms above) in
    ap (λ (qs : Members). put (key_of row.topic row.group) (object (put (digits_of row.queue) (number (unsigned row.offset)) qs)) ms) none
    ∙ put_front (key_of row.topic row.group) _ ms above

put_same : (k : List ℕ) (d e : Data) (ms : Members) → put k d (member k e ms) ≡ member k d ms
put_same k d e ms = rw (same_text k) refl

-- a queue before the others of its key
put_before : (row : OffsetRow) (queues ms : Members) → IsAbove (digits_of row.queue) queues
    → with_offset_row row (member (key_of row.topic row.group) (object queues) ms)
    ≡ member (key_of row.topic row.group) (object (member (digits_of row.queue) (number (unsigned row.offset)) queues)) ms
put_before row queues ms above =
    let key = key_of row.topic row.group in
    let there : members_at key (member key (object queues) ms) ≡ queues =
    ap (λ (o : Option Data). unwrap_or (option_and_then as_object o) no_members) (get_first key (object queues) ms) in
    ap (λ (qs : Members). put key (object (put (digits_of row.queue) (number (unsigned row.offset)) qs)) (member key (object queues) ms)) there
    ∙ ap (λ (qs : Members). put key (object qs) (member key (object queues) ms)) (put_front (digits_of row.queue) _ queues above)
    ∙ put_same key _ (object queues) ms

queues_made : (topic group : List ℕ) (queues ms : Members) (rows rest : List OffsetRow) → Ascends IsQueueMember queues → IsAbove (key_of topic group) ms
    → offset_members rest ≡ ms → AreQueueRows topic group queues rows → offset_members (rows ++ rest) ≡ made (key_of topic group) queues ms
unfolding made
queues_made topic group no_members ms rows rest all above is are = ap (λ (front : List OffsetRow). offset_members (front ++ rest)) are ∙ is
queues_made topic group (member name d no_members) ms rows rest all above is are =
    let row : OffsetRow = record { group = group; topic = topic; queue = are.0; offset = are.1 } in
    let behind : rows ≡ row ∷ [] = are.5 ∙ ap (λ (l : List OffsetRow). row ∷ l) are.6 in
    let value = number_is d _ are.1 all.1.0.is are.4 in
    ap (λ (front : List OffsetRow). offset_members (front ++ rest)) behind ∙ ap (with_offset_row row) is ∙ put_first row ms above
    ∙ ap (λ (n : List ℕ). member (key_of topic group) (object (member n (number (unsigned are.1)) no_members)) ms) (sym are.3)
    ∙ ap (λ (x : Data). member (key_of topic group) (object (member name x no_members)) ms) (sym value)
queues_made topic group (member name d (member m e queues)) ms rows rest all above is are =
    let row : OffsetRow = record { group = group; topic = topic; queue = are.0; offset = are.1 } in
    let more = queues_made topic group (member m e queues) ms are.2 rest all.1.1 above is are.6 in
    let value = number_is d _ are.1 all.1.0.is are.4 in
    let before : IsAbove (digits_of are.0) (member m e queues) = subst (λ (n : List ℕ). IsAbove n (member m e queues)) are.3 all.0 in
    ap (λ (front : List OffsetRow). offset_members (front ++ rest)) are.5 ∙ ap (with_offset_row row) more ∙ put_before row (member m e queues) ms before
    ∙ ap (λ (n : List ℕ). member (key_of topic group) (object (member n (number (unsigned are.1)) (member m e queues))) ms) (sym are.3)
    ∙ ap (λ (x : Data). member (key_of topic group) (object (member name x (member m e queues))) ms) (sym value)

some_made : (topic group key : List ℕ) (queues ms : Members) (rows : List OffsetRow) → 0 < length rows → AreQueueRows topic group queues rows
    → made key queues ms ≡ member key (object queues) ms
unfolding made
some_made topic group key no_members ms rows some are = let size = ap length are in absurd (omega (arith, size, some))
some_made topic group key (member name d queues) ms rows some are = refl

pub rebuilt : (ms : Members) (rows : List OffsetRow) → Ascends IsKeyMember ms → AreTableRows ms rows → offset_members rows ≡ ms
rebuilt no_members rows all are = ap offset_members are
rebuilt (member name d ms) rows all are =
    let keyed = are.2 in
    let it = all.1.0 in
    let whole : object it.queues ≡ object keyed.queues = sym it.is ∙ keyed.table in
    let queues : it.queues ≡ keyed.queues = cc in
    let above : IsAbove (key_of keyed.topic keyed.group) ms = subst (λ (k : List ℕ). IsAbove k ms) keyed.named all.0 in
    let made_is = queues_made keyed.topic keyed.group keyed.queues ms are.0 are.1 (subst (Ascends IsQueueMember) queues it.all) above (rebuilt ms are.1 all.1.1 are.4) keyed.are in
    ap offset_members are.3 ∙ made_is ∙ some_made keyed.topic keyed.group (key_of keyed.topic keyed.group) keyed.queues ms are.0 keyed.some keyed.are
    ∙ ap (λ (k : List ℕ). member k (object keyed.queues) ms) (sym keyed.named) ∙ ap (λ (x : Data). member name x ms) (sym keyed.table)

-- each table has rows
queues_exist : (topic group : List ℕ) (queues : Members) → is_legal topic ≡ true → IsName group → IsUtf8 group → Ascends IsQueueMember queues
    → (rows : List OffsetRow) × (AreQueueRows topic group queues rows × All IsOffset rows)
queues_exist topic group no_members legal name text all = ([], (refl, All-nil IsOffset))
queues_exist topic group (member n d queues) legal name text all =
    let it = all.1.0 in
    let more = queues_exist topic group queues legal name text all.1.1 in
    let row : OffsetRow = record { group = group; topic = topic; queue = it.queue; offset = it.offset } in (
      row ∷ more.0,
      (
        (it.queue, it.offset, more.0, it.named, ap number_in it.is, refl, more.1.0),
        All-cons IsOffset row more.0 (record { topic = legal; group = name; text = text; queue = it.low; offset = it.small }) more.1.1,
      ),
    )

pub table_exists : (ms : Members) → Ascends IsKeyMember ms → (rows : List OffsetRow) × (AreTableRows ms rows × All IsOffset rows)
table_exists no_members all = ([], (refl, All-nil IsOffset))
table_exists (member name d ms) all =
    let it = all.1.0 in
    let first = queues_exist it.topic it.group it.queues it.legal it.group_is it.text it.all in
    let more = table_exists ms all.1.1 in
    let there : it.queues ≢ no_members = λ none. let gone : get_member it.first it.queues ≡ None = ap (get_member it.first) none in let found = it.some in cc in (
      first.0 ++ more.0,
      (
        (
          first.0,
          more.0,
          record {
            topic = it.topic;
            group = it.group;
            queues = it.queues;
            named = it.named;
            table = it.is;
            are = first.1.0;
            some = some_rows it.topic it.group it.queues first.0 there first.1.0;
          },
          refl,
          more.1.0,
        ),
        All-append IsOffset first.0 more.0 first.1.1 more.1.1,
      ),
    )

-- ---- topics

pub topics_rebuilt : (ms : Members) (rows : List TopicRow) → Ascends IsTopicMember ms → AreTopicRows ms rows → topic_members rows ≡ ms
topics_rebuilt no_members rows all are = ap topic_members are
topics_rebuilt (member name d ms) rows all are =
    let it = all.1.0 in
    let read : Some it.queues ≡ Some are.0 = sym (ap (λ (x : Data). option_and_then number_in (get (codes "queues") x)) it.is) ∙ are.2 in
    let same : it.queues ≡ are.0 = cc in
    ap topic_members are.3 ∙ ap (put name (settings_of are.0)) (topics_rebuilt ms are.1 all.1.1 are.4) ∙ put_front name (settings_of are.0) ms all.0
    ∙ ap (λ (n : ℕ). member name (settings_of n) ms) (sym same) ∙ ap (λ (x : Data). member name x ms) (sym it.is)

pub topics_exist : (ms : Members) → Ascends IsTopicMember ms → (rows : List TopicRow) × (AreTopicRows ms rows × All IsKeptTopic rows)
topics_exist no_members all = ([], (refl, All-nil IsKeptTopic))
topics_exist (member name d ms) all =
    let it = all.1.0 in
    let more = topics_exist ms all.1.1 in
    let row : TopicRow = record { topic = name; queues = it.queues } in
    (row ∷ more.0, ((it.queues, more.0, ap (λ (x : Data). option_and_then number_in (get (codes "queues") x)) it.is, refl, more.1.0), All-cons IsKeptTopic row more.0 it.kept more.1.1))
