use Rattle.std.proofs.Common.{◌≡◌, ◌∙◌, ◌+◌, ℕ, List, nat_le, length, ap, sym, arith}
use Rattle.std.specs.List.{position_or_len}
use Rattle.std.proofs.lemmas.List.{take_all}
use Rattle.chunks.specs.Lists.{Roomy}
use Rattle.key_view.specs.declared.row.KeyRow.{KeyRow}
use Rattle.key_view.proofs.PartedLemmas.{first_front, first_behind}
use Rattle.key_view.proofs.rows.KeyRows.search.Goals as goal

pub returns-then-found-count-clause-first : goal.returns-then-found-count-clause-first
returns-then-found-count-clause-first c =
    let chunks = c.self.inside.chunks.items in
    let apart = c.self.inside.apart.items in
    let size = c.len-count.ensures.value in
    let low = c.if-found-count.true in
    let first : c.search-found.result ≡ position_or_len (λ (row : KeyRow). nat_le c.args.place row.place) chunks = c.search-found.ensures.first
    ∙ ap (λ (rs : List KeyRow). position_or_len (λ (row : KeyRow). nat_le c.args.place row.place) rs) (take_all c.len-count.result chunks (omega (arith, size))) in
    first ∙ sym (first_front (λ (row : KeyRow). nat_le c.args.place row.place) chunks apart (omega (arith, first, low, size)))
    ∙ ap (λ (v : Roomy KeyRow). position_or_len (λ (row : KeyRow). nat_le c.args.place row.place) v.items) c.self.view_is

pub returns-else-found-count-clause-first : goal.returns-else-found-count-clause-first
returns-else-found-count-clause-first c =
    let chunks = c.self.inside.chunks.items in
    let apart = c.self.inside.apart.items in
    let size = c.len-count.ensures.value in
    let past = c.if-found-count.false in
    let first : c.search-found.result ≡ position_or_len (λ (row : KeyRow). nat_le c.args.place row.place) chunks = c.search-found.ensures.first
    ∙ ap (λ (rs : List KeyRow). position_or_len (λ (row : KeyRow). nat_le c.args.place row.place) rs) (take_all c.len-count.result chunks (omega (arith, size))) in
    ap (λ (n : ℕ). n + c.first_from.result) size
    ∙ ap (λ (n : ℕ). length chunks + n)
    (c.first_from.ensures.first ∙ ap (λ (rs : List KeyRow). position_or_len (λ (row : KeyRow). nat_le c.args.place row.place) rs) c.as_slice.ensures.value)
    ∙ sym (first_behind (λ (row : KeyRow). nat_le c.args.place row.place) chunks apart (omega (arith, first, past, size)))
    ∙ ap (λ (v : Roomy KeyRow). position_or_len (λ (row : KeyRow). nat_le c.args.place row.place) v.items) c.self.view_is
