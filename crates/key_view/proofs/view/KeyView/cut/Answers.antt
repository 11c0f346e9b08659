use Rattle.std.proofs.Common.{◌∙◌, ℕ, List, length, map, drop, nat_le, refl, subst, sym, ap, arith}
use Rattle.std.specs.Prelude.{filter}
use Rattle.std.specs.List.Sorted.{IsNonDecreasingBy}
use Rattle.std.proofs.lemmas.List.{take_all}
use Rattle.key_view.specs.declared.row.KeyRow.{KeyRow}
use Rattle.key_view.specs.Entries.{KeyEntry, KeyTable, place_of, key_entries}
use Rattle.key_view.specs.Rooms.{entry_of}
use Rattle.key_view.proofs.CutLemmas.{kept_cut, rows_rise, stay_from}
use Rattle.key_view.proofs.RemovalLemmas.{keys_cut}
use Rattle.key_view.proofs.view.KeyView.cut.Goals as goal

pub search-count-requires : goal.search-count-requires
search-count-requires c =
    let rows = c.self.inside.rows.items in
    subst (λ (rs : List KeyRow). IsNonDecreasingBy (λ (row : KeyRow). row.place) rs) (take_all (length rows) rows (omega arith))
    (rows_rise rows (length rows) refl (subst (λ (t : KeyTable). IsNonDecreasingBy place_of t.entries) (sym c.self.view_is) c.requires))

pub invariant_of-self : goal.invariant_of-self
invariant_of-self c =
    kept_cut c.self.inside.rows.items c.cut.new.self.items c.self.inside.gone c.search-count.result c.self.inside.slots.items c.self.invariant
    c.search-count.ensures.most c.cut.ensures.items

pub returns-clause-entries : goal.returns-clause-entries
returns-clause-entries c =
    let rows = c.self.inside.rows.items in
    let rising = subst (λ (rs : List KeyRow). IsNonDecreasingBy (λ (row : KeyRow). row.place) rs) (take_all (length rows) rows (omega arith))
    (rows_rise rows (length rows) refl (subst (λ (t : KeyTable). IsNonDecreasingBy place_of t.entries) (sym c.self.view_is) c.requires)) in
    ap (map entry_of) (c.cut.ensures.items ∙ ap (λ (n : ℕ). drop n rows) c.search-count.ensures.first)
    ∙ stay_from c.args.place rows rising
    ∙ ap (λ (t : KeyTable). filter (λ (e : KeyEntry). nat_le c.args.place e.place) t.entries) c.self.view_is

pub returns-clause-records : goal.returns-clause-records
returns-clause-records c n log later are rising cut at =
    returns-clause-entries c
    ∙ ap (λ (es : List KeyEntry). filter (λ (e : KeyEntry). nat_le c.args.place e.place) es) are
    ∙ ap (λ (p : ℕ). filter (λ (e : KeyEntry). nat_le p e.place) (key_entries log.records)) at
    ∙ keys_cut log later rising n cut
