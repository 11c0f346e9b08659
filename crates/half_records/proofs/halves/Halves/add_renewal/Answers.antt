use Rattle.std.proofs.Common.{◌∙◌, ℕ, cond, [], ◌∷◌, Option, Some, refl, sym, ap}
use Rattle.std.specs.Prelude.{is_none}
use Rattle.record_codec.specs.Entry.{Entry}
use Rattle.half_view.specs.Halves.{HalfTable, with_half}
use Rattle.half_records.specs.Tables.{renewed_family}
use Rattle.half_records.proofs.HalvesLemmas.{added, own_family, renewal_families}
use Rattle.half_records.proofs.halves.Halves.add_renewal.Goals as goal

pub returns-clause-records : goal.returns-clause-records
returns-clause-records c segment log well follows has is named place store ready =
    let old = c.args.self.now in
    let w : Entry = c.args.whole in
    let spare = c.add_half.new.self.spare in
    added segment log well w follows is old _ (renewed_family old c.args.origin w) c.keep_renewal.new.self.kept.items c.args.kept spare has
    (c.add_half.ensures.table
    ∙ ap (λ (t : HalfTable). with_half t (Some c.args.origin) c.args.place c.args.store spare) c.keep_renewal.ensures.view
    ∙ ap (λ (n : ℕ). with_half old.view (Some c.args.origin) n c.args.store spare) place
    ∙ ap (λ (n : ℕ). with_half old.view (Some c.args.origin) w.offset n spare) store
    ∙ ap (λ (o : Option ℕ). with_half old.view o w.offset w.store spare) (sym named))
    c.keep_renewal.ensures.first c.keep_renewal.ensures.groups c.push_reserved.ensures.items
    c.keep_renewal.ensures.kept
    (renewal_families segment log well w follows is old.view has.view old c.args.origin refl has.first named)
    (record {
      group = ready.group;
      id = ready.id;
      family = ready.family ∙ sym (own_family segment log well w follows is old.view has.view ∙ ap (λ (o : Option ℕ). cond (is_none o) (w ∷ []) []) named);
    })
