use Rattle.std.proofs.Common.{◌≡◌, ◌∙◌, ◌<◌, ◌+◌, ◌-◌, ◌%◌, ◌++◌, ◌∷◌, [], ◌^◌, min, List, length, set, subst, sym, ap}
use Rattle.key_view.specs.declared.row.KeyRow.{KeyRow}
use Rattle.key_view.specs.Entries.{KeyTable}
use Rattle.key_view.specs.Rooms.{IsKept, newest_in}
use Rattle.key_view.proofs.ChainLemmas.{kept_added, has_room}
use Rattle.key_view.proofs.view.KeyView.add.Goals as goal

pub invariant_of-self : goal.invariant_of-self
invariant_of-self c =
    let rows = c.self.inside.rows.items in
    let gone = c.self.inside.gone in
    let slots = c.self.inside.slots.items in
    let row : KeyRow = record { place = c.args.place; store = c.args.store; hash = c.args.hash; back = c.distance-back.result } in
    let room = has_room c.self.inside.rows gone slots (subst (λ (n : _). 0 < n) (sym (ap (λ (t : KeyTable). t.spare) c.self.view_is)) c.requires) in
    let size = c.len.ensures.value in
    let back : c.distance-back.result ≡ min (gone + length rows + 1 - newest_in slots c.args.hash) (2 ^ 32 - 1)
    = c.distance-back.ensures ∙ ap (λ (n : _). min (gone + n + 1 - c.newest.result) (2 ^ 32 - 1)) size ∙ ap (λ (n : _). min (gone + length rows + 1 - n) (2 ^ 32 - 1)) c.newest.ensures in
    let kept = kept_added rows gone slots row c.self.invariant room.0 back room.1 room.2 in
    let set_is = c.set_newest.ensures ∙ ap (λ (n : _). set slots (c.args.hash % length slots) (gone + n + 1)) size in
    subst (λ (rs : List KeyRow). IsKept rs gone c.set_newest.new.slots.items) (sym c.push.ensures.items)
    (subst (λ (s : List _). IsKept (rows ++ row ∷ []) gone s) (sym set_is) kept)
