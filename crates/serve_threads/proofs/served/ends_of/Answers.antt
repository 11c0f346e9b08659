use Rattle.std.proofs.Common.{◌+◌, ◌≡◌, length, subst, sym}
use Rattle.serve_threads.proofs.served.ends_of.Goals as goal

pub returns : goal.returns
returns g c =
    let whole = c.are_whole.ensures in
    let yes = c.if-not-are_whole.false in
    let entries = g.P.Ends.Ends.entries in
    record {
      are = (c.into_ends.ensures, c.into_ends-2.ensures);
      known = ((whole.first yes).0, (whole.second yes).0);
      within = ((whole.first yes).1, (whole.second yes).1);
      many = λ told.
          subst (λ e. length (entries e) + length (entries c.into_ends-2.result) ≡ c.args.came) (sym c.into_ends.ensures)
          (subst (λ e. length (entries c.args.first.links.ledger.ends) + length (entries e) ≡ c.args.came) (sym c.into_ends-2.ensures) (whole.many told yes));
    }
