use Rattle.std.proofs.Common.{◌≡◌, Err, rules}
use Rattle.std.proofs.lemmas.Result.{IfOk-weaker}
use Rattle.config_store.specs.declared.text_fault.TextFault.TheVariants.{Bad}
use Rattle.config_store.specs.Texts.{topics_text_of}
use Rattle.config_store.proofs.ReadLemmas.{topics_no_data, topics_no_table, topics_no_rows, topics_again}
use Rattle.config_store.proofs.reading.topics_in.Goals as goal

pub returns-in_err-value-clause-bad : goal.returns-in_err-value-clause-bad
returns-in_err-value-clause-bad c = λ bad rows is.
    let same : c.value_of.result ≡ Err Bad = search (rules, bad) in
    topics_no_data _ rows is (c.value_of.ensures.bad same)

pub returns-in_err-table-clause-bad : goal.returns-in_err-table-clause-bad
returns-in_err-table-clause-bad c = λ bad rows is.
    let same : c.table_in.result ≡ Err Bad = search (rules, bad) in
    topics_no_table _ rows _ is c.in_ok-value.ensures.read (c.table_in.ensures.bad same)

pub returns-clause-read : goal.returns-clause-read
returns-clause-read c = λ rows is.
    IfOk-weaker c.topic_rows.result _ (λ read. topics_text_of read.items ≡ c.args.text.now)
    (λ read are. topics_again _ rows read.items _ _ is c.in_ok-value.ensures.read c.in_ok-table.ensures.read are.0) c.topic_rows.ensures.read

pub returns-clause-bad : goal.returns-clause-bad
returns-clause-bad c = λ bad rows is.
    topics_no_rows _ rows _ _ is c.in_ok-value.ensures.read c.in_ok-table.ensures.read (c.topic_rows.ensures.bad bad)
