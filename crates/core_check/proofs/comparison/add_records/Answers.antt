use Rattle.std.proofs.Common.{◌∙◌, sym, subst, List, take}
use Rattle.record_codec.specs.Entry.{Entry}
use Rattle.log_model.specs.Queues.{entries_of}
use Rattle.log_replay.proofs.Rows.{front_more}
use Rattle.table_check.specs.Beside.{IsBeside}
use Rattle.core_check.proofs.comparison.add_records.Goals as goal

pub loop-record-preserved : goal.loop-record-preserved
loop-record-preserved c =
    let n = c.loop-record.record-index in
    let more = front_more c.args.log.now n c.record-item.result c.loop-record-test.true c.record-item.is in
    record {
      same = record {
        tables = c.add_record.ensures.same.tables ∙ c.loop-record.invariant.same.tables;
        base = c.add_record.ensures.same.base ∙ c.loop-record.invariant.same.base;
      };
      beside = λ start. subst (λ (rs : List Entry). IsBeside rs c.add_record.new.comparing) (sym more)
          (c.in_ok-add_record.ensures.beside (entries_of (take n c.args.log.now)) (c.loop-record.invariant.beside start));
    }
