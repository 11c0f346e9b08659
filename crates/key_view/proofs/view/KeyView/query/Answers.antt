use Rattle.std.proofs.Common.{◌≡◌, ◌∙◌, ◌<◌, ◌≤◌, ◌+◌, ◌-◌, List, length, get_or, reverse, map, take, subst, sym, ap, arith, rules, ℕ, ℤ, to_z, of_z, refl}
use Rattle.std.proofs.lemmas.Int.{to_z-of_z}
use Rattle.std.proofs.lemmas.List.{get_or-reverse, length-reverse}
use Rattle.std.proofs.lemmas.Option.{get_or_from_slice_get}
use Rattle.std.specs.Int.{w32, w64}
use Rattle.log_model.specs.Keys.{asked_number}
use Rattle.key_view.specs.Entries.{KeyEntry, KeyTable, once, place_of, is_sought, newest_places}
use Rattle.key_view.specs.Rooms.{entry_of, newest_in}
use Rattle.key_view.proofs.ChainLemmas.{covers_same}
use Rattle.key_view.proofs.QueryLemmas.{next_in, none_passed, chain_next, found_next, once_next, one_more, found_all, map-reverse, places_in}
use Rattle.std.specs.Prelude.{filter}
use Rattle.key_view.proofs.RecordLemmas.{newest_of_records}
use Rattle.key_view.proofs.view.KeyView.query.Goals as goal
use Rattle.key_view.proofs.view.KeyView.query.Goals.{then-loop-passed-test+else-len-most, else-loop-passed-test}

pub loop-passed-init : goal.loop-passed-init
loop-passed-init c =
    let rows = reverse c.self.inside.rows.items in
    let passed = c.self.inside.gone + c.len-count.result - c.newest.result in
    let covers = covers_same c.args.hash rows rows (c.self.inside.gone + length c.self.inside.rows.items - newest_in c.self.inside.slots.items c.args.hash) passed refl
    (ap (λ (n : ℕ). c.self.inside.gone + n - c.newest.result) c.len-count.ensures.value ∙ ap (λ (n : ℕ). c.self.inside.gone + length c.self.inside.rows.items - n) c.newest.ensures)
    (c.self.invariant.chains c.args.hash) in
    record {
      few = subst (λ (l : List ℕ). length l ≤ c.asked-most.result) (sym c.new-places.ensures.items) (omega arith);
      chain = next_in c.args.hash rows passed covers;
      found = c.new-places.ensures.items ∙ sym (ap once (none_passed c.args.hash (to_z w64 (of_z w64 c.args.from)) (to_z w64 (of_z w64 c.args.to)) c.args.end rows passed covers));
    }

pub loop-passed-smaller : goal.loop-passed-smaller
loop-passed-smaller c =
    let items = c.self.inside.rows.items in
    let passed = c.loop-passed.passed in
    let row = c.at-row.result in
    let size = c.len-count.ensures.value in
    let before = c.loop-passed-test.true in
    let there : passed < length items = omega (arith, before, size) in
    let within : passed < length (reverse items) = omega (arith, there, length-reverse items) in
    let index : length items - 1 - passed ≡ c.len-count.result - 1 - passed = omega (arith, size) in
    let is : row ≡ get_or (reverse items) passed row = sym (get_or-reverse items passed row there ∙ ap (λ (k : ℕ). get_or items k row) index
    ∙ get_or_from_slice_get items (c.len-count.result - 1 - passed) row row c.at-row.ensures) in
    let next = chain_next c.args.hash (reverse items) passed row within is c.loop-passed.invariant.chain in
    let some = next.0 in
    omega (arith, before, some)

pub loop-passed-preserved : goal.loop-passed-preserved
loop-passed-preserved c =
    let items = c.self.inside.rows.items in
    let rows = reverse items in
    let passed = c.loop-passed.passed in
    let row = c.at-row.result in
    let from = to_z w64 (of_z w64 c.args.from) in
    let to = to_z w64 (of_z w64 c.args.to) in
    let test = is_sought c.args.hash from to c.args.end in
    let size = c.len-count.ensures.value in
    let before = c.loop-passed-test.true in
    let there : passed < length items = omega (arith, before, size) in
    let within : passed < length rows = omega (arith, there, length-reverse items) in
    let index : length items - 1 - passed ≡ c.len-count.result - 1 - passed = omega (arith, size) in
    let is : row ≡ get_or rows passed row = sym (get_or-reverse items passed row there ∙ ap (λ (k : ℕ). get_or items k row) index
    ∙ get_or_from_slice_get items (c.len-count.result - 1 - passed) row row c.at-row.ensures) in
    let next = chain_next c.args.hash rows passed row within is c.loop-passed.invariant.chain in
    let places = c.in_ok-put.ensures in
    let fewer : length c.loop-passed.places.items < c.asked-most.result = search rules in
    record {
      few = subst (λ (l : List ℕ). length l ≤ c.asked-most.result) (sym places)
          (let more = one_more (test (entry_of row)) row.place c.loop-passed.places.items in omega (arith, more, fewer));
      chain = next.1;
      found = places ∙ once_next test (take passed rows) (take (passed + row.back) rows) row c.loop-passed.places.items c.loop-passed.invariant.found
          (found_next c.args.hash from to c.args.end rows passed row within is c.loop-passed.invariant.chain);
    }

pub returns-clause-entries : goal.returns-clause-entries
returns-clause-entries c =
    let items = c.self.inside.rows.items in
    let rows = reverse items in
    let from = to_z w64 (of_z w64 c.args.from) in
    let to = to_z w64 (of_z w64 c.args.to) in
    let test = is_sought c.args.hash from to c.args.end in
    let most = c.asked-most.result in
    let size = c.len-count.ensures.value in
    let turned = length-reverse items in
    let over : c.loop-passed.passed < length rows → most ≤ length c.loop-passed.places.items
    = λ within. elim c.loop-passed-test.branch [
      | then-loop-passed-test+else-len-most w ↦ (let many : most ≤ length c.loop-passed.places.items = search rules in many)
      | else-loop-passed-test w ↦ (let past = w.loop-passed-test.false in absurd (omega (arith, within, size, turned, past)))
    ] in
    let all = found_all test rows c.loop-passed.passed most c.loop-passed.places.items c.loop-passed.invariant.found c.loop-passed.invariant.few over in
    let entries = map-reverse entry_of items ∙ ap (λ (t : KeyTable). reverse t.entries) c.self.view_is in
    all
    ∙ ap (λ (n : ℕ). take n (once (places_in test rows))) (c.asked-most.ensures ∙ ap (asked_number 64) (to_z-of_z w32 c.args.most (search rules)))
    ∙ ap (λ (es : List KeyEntry). take (asked_number 64 c.args.most) (once (map place_of (filter test es)))) entries
    ∙ ap (λ (z : ℤ). newest_places c.args.hash z to c.args.most c.args.end c.args.self.now.entries) (to_z-of_z w64 c.args.from (search rules))
    ∙ ap (λ (z : ℤ). newest_places c.args.hash c.args.from z c.args.most c.args.end c.args.self.now.entries) (to_z-of_z w64 c.args.to (search rules))

pub returns-clause-records : goal.returns-clause-records
returns-clause-records c log are rising =
    returns-clause-entries c
    ∙ ap (λ (es : List KeyEntry). newest_places c.args.hash c.args.from c.args.to c.args.most c.args.end es) are
    ∙ newest_of_records c.args.hash c.args.from c.args.to c.args.most c.args.end log rising
