use Rattle.std.proofs.Common.{◌≡◌, ◌∙◌, ◌<◌, length, slice_get, Some, refl, sym, ap, subst}
use Rattle.std.specs.Prelude.{Result, Ok, Err, OnOk}
use Rattle.std.proofs.lemmas.Option.{same_Some}
use Rattle.half_view.proofs.ListLemmas.{get_there}
use Rattle.half_records.specs.Kept.{KeptRow, with_room}
use Rattle.half_records.proofs.ListLemmas.{at_number, index_is, kept_set, set_here}
use Rattle.half_records.proofs.halves.Halves.make_room.Goals as goal

on_ok : {A E : Type 0} (r : Result A E) (P Q : Type 0) → (P → Q) → OnOk r P → OnOk r Q
on_ok (Ok x) P Q follows h = follows h
on_ok (Err e) P Q follows h = tt

pub returns-in-Some-clause-same : goal.returns-in-Some-clause-same
returns-in-Some-clause-same c =
    let old = c.args.self.now in
    let rows = old.kept.items in
    let index = index_is old.first c.args.origin (length rows) c.in-Some.k (sym c.index.ensures.index ∙ c.in-Some.is) in
    let row = get_there rows c.in-Some.k index.1 in
    let done = c.make_room.ensures.row row.0 row.1 in
    record {
      low = refl;
      halves = refl;
      first = refl;
      kept = kept_set (λ k fam. fam) rows c.make_room.new.list.items c.in-Some.k row.0 (with_room row.0 done.0) row.1 done.3 (record { group = refl; id = refl; family = refl })
          (λ j z other there. refl);
      numbers = λ name n is. is;
      apart = λ are. are;
    }

pub returns-in-Some-clause-room : goal.returns-in-Some-clause-room
returns-in-Some-clause-room c =
    let old = c.args.self.now in
    let rows = old.kept.items in
    let k = c.in-Some.k in
    let index = index_is old.first c.args.origin (length rows) k (sym c.index.ensures.index ∙ c.in-Some.is) in
    let row = get_there rows k index.1 in
    let done = c.make_room.ensures.row row.0 row.1 in
    on_ok c.make_room.result (0 < done.0) _
    (λ some x at.
    let there : slice_get c.make_room.new.list.items k ≡ Some (with_room row.0 done.0) = ap (λ xs. slice_get xs k) done.3 ∙ set_here rows k (with_room row.0 done.0) row.0 row.1 in
    let one : with_room row.0 done.0 ≡ x = same_Some (with_room row.0 done.0) x (sym there ∙ sym (at_number c.make_room.new.list.items old.first c.args.origin k (sym index.0)) ∙ at) in
    subst (λ (y : KeptRow). 0 < y.spare) one some)
    done.2
