use Rattle.std.proofs.Common.{◌≡◌, true, false, ap, sym, ◌∙◌, arith, length}
use Rattle.std.proofs.lemmas.Str.Pattern.{split_after}
use Rattle.record_codec.specs.Layout.{is_legal}
use Rattle.config_store.proofs.Keys.{lacks_at}
use Rattle.config_store.proofs.reading.read_key.Goals.{else-is_legal_topic-via-then-is_legal_topic+then-size-gt0+else-size-le-NAME_MAX}
use Rattle.config_store.proofs.reading.read_key.Goals.{else-is_legal_topic-via-then-is_legal_topic+else-size-gt0, else-is_legal_topic-via-else-is_legal_topic}
use Rattle.config_store.proofs.reading.read_key.Goals as goal

pub returns-in_err-topic-clause-exact : goal.returns-in_err-topic-clause-exact
returns-in_err-topic-clause-exact c = λ topic group is legal name.
    let parts = split_after 64 c.args.name.now topic group c.split_once.result c.split_once.ensures.cases (omega arith) is (lacks_at topic legal) in
    absurd (rw c.in_err-topic.was at parts)

pub returns-then-size-le-NAME_MAX-clause-exact : goal.returns-then-size-le-NAME_MAX-clause-exact
returns-then-size-le-NAME_MAX-clause-exact c = λ topic group is legal name.
    let parts = split_after 64 c.args.name.now topic group c.split_once.result c.split_once.ensures.cases (omega arith) is (lacks_at topic legal) in
    rw c.in_ok-topic.was at parts

pub returns-else-is_legal_topic-clause-exact : goal.returns-else-is_legal_topic-clause-exact
returns-else-is_legal_topic-clause-exact c = λ topic group is legal name.
    let parts = split_after 64 c.args.name.now topic group c.split_once.result c.split_once.ensures.cases (omega arith) is (lacks_at topic legal) in
    let cut = rw c.in_ok-topic.was at parts in
    let group_size = ap length cut.1 in
    elim c.else-is_legal_topic.branch [
      | else-is_legal_topic-via-then-is_legal_topic+then-size-gt0+else-size-le-NAME_MAX w ↦ omega (arith, w.if-size-le-NAME_MAX.false, group_size, name.1)
      | else-is_legal_topic-via-then-is_legal_topic+else-size-gt0 w ↦ omega (arith, w.if-size-gt0.false, group_size, name.0)
      | else-is_legal_topic-via-else-is_legal_topic w ↦
          let told = c.is_legal_topic.ensures in
          let no = w.if-is_legal_topic.false in
          let named = ap is_legal cut.0 in
          let apart : true ≡ false = sym legal ∙ sym named ∙ sym told ∙ no in
          cc
    ]
