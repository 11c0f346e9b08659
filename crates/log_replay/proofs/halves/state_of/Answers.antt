use Rattle.std.proofs.Common.{◌&&◌, ℕ, List, Bool, true, false, refl, sym, ap, ◌∙◌, bytes_eq}
use Rattle.std.specs.List.{list_any}
use Rattle.record_codec.specs.Entry.{Entry}
use Rattle.log_model.specs.Kinds.{is_copy, is_discard, is_op}
use Rattle.log_model.specs.Queues.{entries_of}
use Rattle.log_model.specs.Origins.{told_state}
use Rattle.log_replay.specs.Told.{is_among}
use Rattle.log_replay.proofs.States.{state_by}
use Rattle.log_replay.proofs.halves.state_of.Goals as goal

abbrev copied : List Entry → List ℕ → Bool
copied log places = list_any (λ r. is_copy r && is_among places r.prepared) log

abbrev discarded : List Entry → List ℕ → Bool
discarded log places = list_any (λ r. is_discard r && is_among places r.prepared) log

abbrev op : List Entry → List ℕ → Bool
op log digits = list_any (λ r. is_op r && bytes_eq r.body digits) log

pub returns-then-is_discarded : goal.returns-then-is_discarded
returns-then-is_discarded c =
    let log = entries_of c.args.log.now in
    let places = c.in_ok-places.places.items in
    let digits = c.in_ok-digits.digits.items in
    ap told_state (state_by log c.args.origin places c.in_ok-places.ensures digits c.in_ok-digits.ensures (op log digits) (copied log places) true refl refl
    (sym c.if-is_discarded.true ∙ c.is_discarded.ensures ∙ ap (discarded log) c.deref.ensures.value))

pub returns-then-is_copied : goal.returns-then-is_copied
returns-then-is_copied c =
    let log = entries_of c.args.log.now in
    let places = c.in_ok-places.places.items in
    let digits = c.in_ok-digits.digits.items in
    ap told_state (state_by log c.args.origin places c.in_ok-places.ensures digits c.in_ok-digits.ensures (op log digits) true false refl
    (sym c.if-is_copied.true ∙ c.is_copied.ensures ∙ ap (copied log) c.deref-2.ensures.value)
    (sym c.if-is_discarded.false ∙ c.is_discarded.ensures ∙ ap (discarded log) c.deref.ensures.value))

pub returns-then-is_named : goal.returns-then-is_named
returns-then-is_named c =
    let log = entries_of c.args.log.now in
    let places = c.in_ok-places.places.items in
    let digits = c.in_ok-digits.digits.items in
    ap told_state (state_by log c.args.origin places c.in_ok-places.ensures digits c.in_ok-digits.ensures true false false
    (sym c.if-is_named.true ∙ c.is_named.ensures ∙ ap (op log) c.deref-3.ensures.value)
    (sym c.if-is_copied.false ∙ c.is_copied.ensures ∙ ap (copied log) c.deref-2.ensures.value)
    (sym c.if-is_discarded.false ∙ c.is_discarded.ensures ∙ ap (discarded log) c.deref.ensures.value))

pub returns : goal.returns
returns c =
    let log = entries_of c.args.log.now in
    let places = c.in_ok-places.places.items in
    let digits = c.in_ok-digits.digits.items in
    ap told_state (state_by log c.args.origin places c.in_ok-places.ensures digits c.in_ok-digits.ensures false false false
    (sym c.if-is_named.false ∙ c.is_named.ensures ∙ ap (op log) c.deref-3.ensures.value)
    (sym c.if-is_copied.false ∙ c.is_copied.ensures ∙ ap (copied log) c.deref-2.ensures.value)
    (sym c.if-is_discarded.false ∙ c.is_discarded.ensures ∙ ap (discarded log) c.deref.ensures.value))
