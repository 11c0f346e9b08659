use Rattle.std.proofs.Common.{◌≡◌, ◌∙◌, ap, false}
use Rattle.std.proofs.lemmas.Result.{IfOk-weaker}
use Rattle.serde_json.specs.Data.{Members, object, member, no_members}
use Rattle.serde_json.specs.Written.{compact_text, members_have_float}
use Rattle.serde_json.specs.View.{members_view}
use Rattle.std.proofs.Common.{codes}
use Rattle.config_store.specs.Texts.{topics_text_of}
use Rattle.config_store.proofs.FloatLemmas.{topics_without}
use Rattle.config_store.proofs.writing.topics_text.Goals as goal

pub returns : goal.returns
returns c =
    let table = c.in_ok-table.ensures in
    IfOk-weaker c.text_with.result
    (λ text. members_have_float (members_view c.in_ok-table.table.entries) ≡ false
    → text.items ≡ compact_text (object (member (codes "topicConfigTable") (object (members_view c.in_ok-table.table.entries)) no_members)))
    (λ text. text.items ≡ topics_text_of c.args.rows.now)
    (λ text is. is (ap members_have_float table ∙ topics_without c.args.rows.now)
    ∙ ap (λ (ms : Members). compact_text (object (member (codes "topicConfigTable") (object ms) no_members))) table)
    c.text_with.ensures
