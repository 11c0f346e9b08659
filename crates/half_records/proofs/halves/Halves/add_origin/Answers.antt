use Rattle.std.proofs.Common.{◌∙◌, ℕ, cond, List, [], ◌∷◌, ◌++◌, Option, Some, None, refl, sym, ap}
use Rattle.std.specs.Prelude.{is_none}
use Rattle.record_codec.specs.Entry.{Entry}
use Rattle.half_view.specs.Halves.{with_half}
use Rattle.half_records.specs.Kept.{KeptRow}
use Rattle.half_records.proofs.HalvesLemmas.{added, origin_families, own_family}
use Rattle.half_records.proofs.ListLemmas.{kept_same}
use Rattle.half_records.proofs.halves.Halves.add_origin.Goals as goal

pub returns-clause-records : goal.returns-clause-records
returns-clause-records c segment log well follows has is named place store ready =
    let old = c.args.self.now in
    let w : Entry = c.args.whole in
    let rows = old.kept.items in
    let spare = c.add_half.new.self.spare in
    added segment log well w follows is old _ (λ k fam. fam) rows c.put.new.self spare has
    (c.add_half.ensures.table
    ∙ ap (λ (n : ℕ). with_half old.view None n c.args.store spare) place
    ∙ ap (λ (n : ℕ). with_half old.view None w.offset n spare) store
    ∙ ap (λ (o : Option ℕ). with_half old.view o w.offset w.store spare) (sym named))
    refl refl c.push_reserved.ensures.items
    (kept_same (λ k fam. fam) rows rows refl (λ k x at. refl))
    (origin_families segment log well w follows is old.view has.view named)
    (record {
      group = ready.group ∙ ap (λ (x : KeptRow). Some x.group) (sym c.put.ensures);
      id = ap (λ (x : KeptRow). x.id) c.put.ensures ∙ ready.id;
      family = ap (λ (x : KeptRow). x.family) c.put.ensures ∙ ap (λ (xs : List Entry). xs ++ w ∷ []) ready.family
          ∙ sym (own_family segment log well w follows is old.view has.view ∙ ap (λ (o : Option ℕ). cond (is_none o) (w ∷ []) []) named);
    })
