use Rattle.std.proofs.Common.{◌≡◌, ◌∙◌, ◌++◌, ◌∷◌, [], ap, sym, subst, List, Some}
use Rattle.std.proofs.lemmas.List.{append_assoc}
use Rattle.std.proofs.lemmas.List.Elements.{All-pop}
use Rattle.broker_model.specs.Tables.{OffsetRow}
use Rattle.group_tables.specs.Offsets.{offset_row, IsOffset}
use Rattle.core_log.specs.Loads.{IsLoadedWith}
use Rattle.log_opening.proofs.OpenLemmas.{no_rows}
use Rattle.log_opening.proofs.loading.add_offsets.Goals as goal

pub loop-row-preserved : goal.loop-row-preserved
loop-row-preserved c =
    let row = c.in-Some.row.now in
    let front = c.in-Some.front.now in
    let left = c.loop-row.left.now in
    let cut = c.in-Some.ensures.cases.0 in
    let parts = All-pop IsOffset left front (Some row) cut c.loop-row.invariant.left in
    let it = c.loop-row.invariant.loaded in
    let group : c.as_str.result.now ≡ row.group = c.as_str.ensures.value ∙ ap (λ (r : OffsetRow). r.group) c.row.view_is in
    let topic : c.as_str-in-Some.result.now ≡ row.topic = c.as_str-in-Some.ensures.value ∙ ap (λ (r : OffsetRow). r.topic) c.row.view_is in
    let queue : c.row.inside.queue ≡ row.queue = ap (λ (r : OffsetRow). r.queue) c.row.view_is in
    let offset : c.row.inside.offset ≡ row.offset = ap (λ (r : OffsetRow). r.offset) c.row.view_is in
    let same : offset_row c.as_str.result.now c.as_str-in-Some.result.now c.row.inside.queue c.row.inside.offset ≡ row = λ i. offset_row (group i) (topic i) (queue i) (offset i) in
    record {
      left = parts.0;
      loaded = (
        row ∷ it.0,
        it.1 ∙ ap (λ (l : List OffsetRow). l ++ it.0) cut ∙ append_assoc front (row ∷ []) it.0,
        λ topics records start. subst (λ (r : OffsetRow). IsLoadedWith topics records (r ∷ it.0) c.add_offset.new.self) same
            (c.in_ok-add_offset.ensures topics records it.0 (it.2 topics records start)),
      );
    }

pub returns : goal.returns
returns c = λ topics records start.
    let it = c.loop-row.invariant.loaded in
    let whole : c.args.rows.now ≡ it.0 = it.1 ∙ ap (λ (l : List OffsetRow). l ++ it.0) (no_rows c.loop-row.left.now c.in_default.ensures.cases) in
    subst (λ (rows : List OffsetRow). IsLoadedWith topics records rows c.loop-row.loaded) (sym whole) (it.2 topics records start)
