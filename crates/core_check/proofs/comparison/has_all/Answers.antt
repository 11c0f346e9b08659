use Rattle.std.proofs.Common.{◌≡◌, ◌∙◌, ap, sym, subst, Bor}
use Rattle.log_model.specs.Numbered.{Log, IsLawful}
use Rattle.log_model.specs.Queues.{entries_of}
use Rattle.log_model.specs.declared.base.Base.{Base as Told}
use Rattle.half_records.specs.declared.halves.Halves.{Halves}
use Rattle.level_records.specs.declared.levels.Levels.{Levels}
use Rattle.table_check.specs.Beside.{log_from}
use Rattle.table_check.specs.declared.tables.Tables.{Tables}
use Rattle.core_check.proofs.EqualLemmas.{AreOf, equal, unequal}
use Rattle.core_check.proofs.comparison.has_all.Goals as goal

pub returns-then-not-end : goal.returns-then-not-end
returns-then-not-end c segment lawful =
    let records = entries_of c.args.log.now in
    let base = c.args.base.now in
    let compared = c.add_records.new.comparing in
    let tables : Tables = record { queues = c.queues.result; keys = c.keys.result; halves = c.table.result; levels = c.table-2.result } in
    let of : AreOf c.args.core.now tables = record {
      queues = c.queues.ensures;
      keys = c.keys.ensures;
      halves = c.table.ensures ∙ ap (λ (h : Halves). h.view) c.halves.ensures;
      levels = c.table-2.ensures ∙ ap (λ (l : Levels). l.view) c.levels.ensures;
    } in
    let same_tables = c.in_ok-add_records.ensures.same.tables ∙ c.in_ok-comparing.ensures.tables in
    let same_base = ap (λ (b : Bor Told). b.now) (c.in_ok-add_records.ensures.same.base ∙ c.in_ok-comparing.ensures.base) in
    let log : log_from compared.base.now records ≡ log_from base records = ap (λ (t : Told). log_from t records) same_base in
    let tells = c.end.ensures segment records (c.in_ok-add_records.ensures.beside c.in_ok-comparing.ensures.none) (subst (λ (l : Log). IsLawful segment l) (sym log) lawful) in (
      λ f. cc f,
      λ has. absurd (unequal base records c.args.core.now tables compared c.end.result same_tables same_base of tells c.if-not-end.true has),
    )

pub returns : goal.returns
returns c segment lawful =
    let records = entries_of c.args.log.now in
    let base = c.args.base.now in
    let compared = c.add_records.new.comparing in
    let tables : Tables = record { queues = c.queues.result; keys = c.keys.result; halves = c.table.result; levels = c.table-2.result } in
    let of : AreOf c.args.core.now tables = record {
      queues = c.queues.ensures;
      keys = c.keys.ensures;
      halves = c.table.ensures ∙ ap (λ (h : Halves). h.view) c.halves.ensures;
      levels = c.table-2.ensures ∙ ap (λ (l : Levels). l.view) c.levels.ensures;
    } in
    let same_tables = c.in_ok-add_records.ensures.same.tables ∙ c.in_ok-comparing.ensures.tables in
    let same_base = ap (λ (b : Bor Told). b.now) (c.in_ok-add_records.ensures.same.base ∙ c.in_ok-comparing.ensures.base) in
    let log : log_from compared.base.now records ≡ log_from base records = ap (λ (t : Told). log_from t records) same_base in
    let tells = c.end.ensures segment records (c.in_ok-add_records.ensures.beside c.in_ok-comparing.ensures.none) (subst (λ (l : Log). IsLawful segment l) (sym log) lawful) in
    equal base records c.args.core.now tables compared c.end.result c.are_seen.result same_tables same_base of tells c.if-not-end.false c.are_seen.ensures
