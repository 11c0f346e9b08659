use Rattle.std.proofs.Common.{◌≡◌, ◌∙◌, ◌+◌, Bool, false, cond, [], length, refl, sym, ap, arith}
use Rattle.std.proofs.lemmas.Bool.{eq-eqb, ne_eqb}
use Rattle.half_view.proofs.ListLemmas.{get_there, get_within}
use Rattle.half_records.specs.Kept.{without_family}
use Rattle.half_records.specs.Tables.{is_open_at, settled_family}
use Rattle.half_records.proofs.ListLemmas.{index_is, index_none, kept_same, kept_set}
use Rattle.half_records.proofs.halves.Halves.let_go_settled.Goals as goal

pub returns-in-Some-clause-kept : goal.returns-in-Some-clause-kept
returns-in-Some-clause-kept c =
    let old = c.args.self.now in
    let half = c.args.half in
    let rows = old.kept.items in
    let index = index_is old.first half (length rows) c.in-Some.k (sym c.index.ensures.index ∙ c.in-Some.is) in
    let row = get_there rows c.in-Some.k index.1 in
    let done = c.let_go.ensures.row row.0 row.1 in
    let settled : is_open_at old.view half ≡ false = sym c.is_open.ensures ∙ c.if-is_open.false in
    kept_set (settled_family old.first old.view half) rows c.let_go.new.list.items c.in-Some.k row.0 (without_family row.0 done.0) row.1 done.1
    (record {
      group = refl;
      id = refl;
      family = sym (ap (λ (b : Bool). cond b (cond (is_open_at old.view half) row.0.family []) row.0.family) (eq-eqb half (old.first + c.in-Some.k) (sym index.0))
          ∙ ap (λ (b : Bool). cond b row.0.family []) settled);
    })
    (λ j z other there. sym (ap (λ (b : Bool). cond b (cond (is_open_at old.view half) z.family []) z.family)
    (ne_eqb half (old.first + j) (λ same. other (omega (arith, same, index.0))))))

pub returns-in_default-clause-kept : goal.returns-in_default-clause-kept
returns-in_default-clause-kept c =
    let old = c.args.self.now in
    let half = c.args.half in
    let rows = old.kept.items in
    kept_same (settled_family old.first old.view half) rows rows refl
    (λ k x at. sym (ap (λ (b : Bool). cond b (cond (is_open_at old.view half) x.family []) x.family)
    (ne_eqb half (old.first + k) (index_none old.first half (length rows) (sym c.index.ensures.index ∙ c.in_default.is) k (get_within rows k x at)))))
