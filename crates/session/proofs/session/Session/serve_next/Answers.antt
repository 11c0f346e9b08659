use Rattle.session.proofs.ServingSteps.{served_next}
use Rattle.session.proofs.session.Session.serve_next.Goals as goal

pub returns-clause-serves : goal.returns-clause-serves
returns-clause-serves g c =
    let taken = rw c.in-Some.is at c.in_ok-heard.ensures.taken in
    let serves = c.serve.ensures.serves in
    record {
      made = serves.made;
      leads = serves.leads;
      so = served_next c.args.now c.in-Some.heard c.args.self.now c.next.new.self c.serve.new.self serves.made c.serve.result taken c.next.ensures.rest c.next.ensures.held
          c.serve.ensures.talk serves.so;
    }
