use Rattle.std.proofs.Common.{◌≡◌, ◌∙◌, ap, sym, subst, arith, List, length, map, Some}
use Rattle.std.specs.List.{slice_get}
use Rattle.client_tables.specs.Table.{client_of}
use Rattle.client_tables.specs.declared.client.Client.{Client}
use Rattle.client_tables.proofs.ClientLemmas.{place_below, met_again, met_first}
use Rattle.client_tables.proofs.clients.meet_at.Goals as goal

pub again_at-requires : goal.again_at-requires
again_at-requires c =
    let low = place_below c.args.beat.now.client c.args.clients.now.items c.in-Some.at (sym c.requires ∙ c.in-Some.is) in
    omega (arith, low, ap (λ (l : List Client). length l) c.as_slice.ensures.value)

pub index_mut-requires : goal.index_mut-requires
index_mut-requires c = omega (arith, place_below c.args.beat.now.client c.args.clients.now.items c.in-Some.at (sym c.requires ∙ c.in-Some.is))

pub returns-in_ok-again-in-Some-clause-met : goal.returns-in_ok-again-in-Some-clause-met
returns-in_ok-again-in-Some-clause-met c =
    let items = c.args.clients.now.items in
    met_again c.args.link c.args.beat.now items c.in-Some.at c.in_ok-again-in-Some.again (sym c.requires ∙ c.in-Some.is)
    (λ x at. c.in_ok-again-in-Some.ensures x (subst (λ (l : List Client). slice_get l c.in-Some.at ≡ Some x) (sym c.as_slice.ensures.value) at))

pub returns-in_ok-push-in-None-clause-met : goal.returns-in_ok-push-in-None-clause-met
returns-in_ok-push-in-None-clause-met c =
    ap (λ (l : List Client). map client_of l) c.in_ok-push-in-None.ensures.items
    ∙ met_first c.args.link c.args.beat.now c.args.clients.now.items c.in_ok-first-in-None.first (sym c.requires ∙ c.in-None.is) c.in_ok-first-in-None.ensures
