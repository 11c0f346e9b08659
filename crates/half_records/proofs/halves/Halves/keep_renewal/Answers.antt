use Rattle.std.proofs.Common.{◌≡◌, ◌∙◌, ◌+◌, ◌&&◌, Bool, true, cond, [], ◌∷◌, ◌++◌, length, refl, sym, ap, arith}
use Rattle.std.proofs.lemmas.Bool.{eq-eqb, ne_eqb}
use Rattle.half_view.proofs.ListLemmas.{get_there, get_within}
use Rattle.half_records.specs.Kept.{with_member}
use Rattle.half_records.specs.Tables.{is_open_at, renewed_family}
use Rattle.half_records.proofs.ListLemmas.{index_is, index_none, kept_same, kept_set}
use Rattle.half_records.proofs.halves.Halves.keep_renewal.Goals as goal

pub returns-in-Some-clause-kept : goal.returns-in-Some-clause-kept
returns-in-Some-clause-kept c =
    let old = c.args.self.now in
    let origin = c.args.origin in
    let rows = old.kept.items in
    let index = index_is old.first origin (length rows) c.in-Some.k (sym c.index.ensures.index ∙ c.in-Some.is) in
    let row = get_there rows c.in-Some.k index.1 in
    let done = c.put.ensures.row row.0 row.1 in
    let opens : is_open_at old.view origin ≡ true = sym c.is_open.ensures ∙ c.if-not-is_open.false in
    kept_set (renewed_family old origin c.args.whole) rows c.put.new.list.items c.in-Some.k row.0 (with_member row.0 c.args.whole done.0) row.1 done.1
    (record {
      group = refl;
      id = refl;
      family = sym (ap (λ (b : Bool). cond (b && is_open_at old.view origin) (row.0.family ++ c.args.whole ∷ []) row.0.family) (eq-eqb origin (old.first + c.in-Some.k) (sym index.0))
          ∙ ap (λ (b : Bool). cond b (row.0.family ++ c.args.whole ∷ []) row.0.family) opens);
    })
    (λ j z other there. sym (ap (λ (b : Bool). cond (b && is_open_at old.view origin) (z.family ++ c.args.whole ∷ []) z.family)
    (ne_eqb origin (old.first + j) (λ same. other (omega (arith, same, index.0))))))

pub returns-in_default-clause-kept : goal.returns-in_default-clause-kept
returns-in_default-clause-kept c =
    let old = c.args.self.now in
    let origin = c.args.origin in
    let rows = old.kept.items in
    kept_same (renewed_family old origin c.args.whole) rows rows refl
    (λ k x at. sym (ap (λ (b : Bool). cond (b && is_open_at old.view origin) (x.family ++ c.args.whole ∷ []) x.family)
    (ne_eqb origin (old.first + k) (index_none old.first origin (length rows) (sym c.index.ensures.index ∙ c.in_default.is) k (get_within rows k x at)))))
