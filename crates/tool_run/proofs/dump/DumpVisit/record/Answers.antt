use Rattle.std.proofs.Common.{◌++◌, ◌∷◌, [], List, ℕ, Result, Ok, Err, OnErr, refl, subst}
use Rattle.record_codec.specs.Entry.{Entry}
use Rattle.tool_run.specs.Texts.{record_line, dump_text}
use Rattle.tool_run.specs.Writes.{Told}
use Rattle.tool_run.proofs.WriteLemmas.{broke_held, dump_text-append, told_more}
use Rattle.tool_run.proofs.dump.DumpVisit.record.Goals as goal

on_err : {A E : Type 0} (result : Result A E) (P : Type 0) → P → OnErr result P
on_err (Ok done) P it = tt
on_err (Err fault) P it = it

on_err_then : {A E : Type 0} (result : Result A E) (P Q : Type 0) → (P → Q) → OnErr result P → OnErr result Q
on_err_then (Ok done) P Q then it = tt
on_err_then (Err fault) P Q then it = then it

pub returns-in_err-push_record-clause-fails : goal.returns-in_err-push_record-clause-fails
returns-in_err-push_record-clause-fails g c = λ first records told. on_err c.from_residual.result _
    (records, broke_held g.K.Sink first.lines.sink c.args.self.now.lines _ (dump_text records) refl refl told)

pub returns-clause-fails : goal.returns-clause-fails
returns-clause-fails g c = λ first records told.
    let line = record_line c.args.view.now in
    let more = told_more g.K.Sink first.lines.sink c.args.self.now.lines (record { sink = c.args.self.now.lines.sink; held = c.push_record.new.out; failed = c.args.self.now.lines.failed })
    (dump_text records) line refl refl c.in_ok-push_record.ensures told in
    let text : List Entry = records ++ c.args.view.now ∷ [] in
    let all = subst (λ (l : List ℕ). Told g.K.Sink first.lines.sink (record { sink = c.args.self.now.lines.sink; held = c.push_record.new.out; failed = c.args.self.now.lines.failed }) l)
    (dump_text-append records c.args.view.now) more in
    on_err_then c.flush_piece.result _ _ (λ broke. (text, broke)) (c.flush_piece.ensures.broke first.lines.sink (dump_text text) all)
