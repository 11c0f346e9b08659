use Rattle.std.proofs.Common.{refl, ◌∙◌, inl, arith}
use Rattle.mq_outside.specs.Counts.{Rises}
use Rattle.session.specs.Readers.{FailedAt, reads_between}
use Rattle.session.proofs.ReaderLemmas.{failed_between, failed_in, put_wider}
use Rattle.session.proofs.SettlingSteps.{breaks, settled_none, has_settled_wider, settled_more, settled_stops, settled_lost, settled_unput}
use Rattle.session.proofs.session.Session.settle.Goals as goal

pub owed-init : goal.owed-init
owed-init g c = record { so = settled_none g.C.Calls.makes (reads_between g.R.Reader.gives g.R.Reader.faults c.args.reader.now c.args.reader.now) (g.R.Reader.faults c.args.reader.now) c.args.calls.now c.args.self.now; grows = omega arith; held = refl; talk = refl; sent = refl; asked = refl }

pub returns-in_err-caller-clause-settles : goal.returns-in_err-caller-clause-settles
returns-in_err-caller-clause-settles g c =
    let faults = g.R.Reader.faults in
    let first = c.args.reader.now in
    let last = c.owed.reader in
    breaks g.C.Calls.makes (reads_between g.R.Reader.gives faults first last) (faults first) (faults last) c.args.calls.now c.next_due.new.calls c.args.self.now c.next_due.new.self c.from_residual.result c.in_err-caller.field-0.0 c.from_residual.ensures.1
    (settled_lost g.C.Calls.makes (reads_between g.R.Reader.gives faults first last) (faults first) (faults last) c.args.calls.now c.owed.calls c.args.self.now c.owed.self c.owed.invariant.so c.next_due.new.calls c.next_due.new.self
    (faults last) (omega arith) c.in_err-caller.ensures.due c.next_due.ensures.out.0)

pub returns-in_default-clause-settles : goal.returns-in_default-clause-settles
returns-in_default-clause-settles g c =
    let waits = rw c.in_default.is at c.in_ok-caller.ensures.due in
    settled_stops g.C.Calls.makes (reads_between g.R.Reader.gives g.R.Reader.faults c.args.reader.now c.owed.reader) (g.R.Reader.faults c.args.reader.now) (g.R.Reader.faults c.owed.reader)
    c.args.calls.now c.owed.calls c.args.self.now c.owed.self c.owed.invariant.so c.next_due.new.calls c.next_due.new.self
    (record { made = waits.made; leads = waits.leads; so = inl waits.so.0 }) waits.so.1 c.next_due.ensures.out.0 c.next_due.ensures.out.1

pub owed-preserved : goal.owed-preserved
owed-preserved g c =
    let due = rw c.in-Some.is at c.in_ok-caller.ensures.due in
    let faults = g.R.Reader.faults in
    let first = c.args.reader.now in
    let last = c.put.new.reader in
    let so = has_settled_wider g.C.Calls.makes g.R.Reader.gives (FailedAt faults first c.owed.reader) (FailedAt faults first last)
    (failed_between faults first first c.owed.reader last (omega arith) c.put.ensures.grows) (faults first) (faults c.owed.reader) c.args.calls.now c.args.self.now c.owed.calls c.owed.self c.owed.invariant.so in
    let one = c.in_ok-put.ensures.put in
    let wrote = put_wider g.R.Reader.gives (λ count. Rises (faults c.owed.reader) count) (FailedAt faults first last) c.in-Some.caller c.in-Some.reply (faults last) one.0
    c.next_due.new.self.out.items c.put.new.self.out.items (failed_in faults first c.owed.reader last c.owed.invariant.grows) one.2 in
    record {
      so = settled_more g.C.Calls.makes (reads_between g.R.Reader.gives faults first last) (faults first) (faults c.owed.reader) c.args.calls.now c.owed.calls c.args.self.now c.owed.self so
          c.next_due.new.calls c.next_due.new.self c.put.new.self (c.in-Some.caller, c.in-Some.reply) (faults last) one.0 (faults last) one.1 due c.next_due.ensures.out.0 wrote c.put.ensures.owed;
      grows = omega (arith, c.owed.invariant.grows, c.put.ensures.grows);
      held = c.put.ensures.held ∙ c.next_due.ensures.held ∙ c.owed.invariant.held;
      talk = c.put.ensures.talk ∙ c.next_due.ensures.talk ∙ c.owed.invariant.talk;
      sent = c.put.ensures.sent ∙ c.next_due.ensures.out.1 ∙ c.owed.invariant.sent;
      asked = c.put.ensures.asked ∙ c.next_due.ensures.out.2 ∙ c.owed.invariant.asked;
    }

pub returns-in_err-put-clause-settles : goal.returns-in_err-put-clause-settles
returns-in_err-put-clause-settles g c =
    let due = rw c.in-Some.is at c.in_ok-caller.ensures.due in
    let faults = g.R.Reader.faults in
    let first = c.args.reader.now in
    let last = c.put.new.reader in
    let so = has_settled_wider g.C.Calls.makes g.R.Reader.gives (FailedAt faults first c.owed.reader) (FailedAt faults first last)
    (failed_between faults first first c.owed.reader last (omega arith) c.put.ensures.grows) (faults first) (faults c.owed.reader) c.args.calls.now c.args.self.now c.owed.calls c.owed.self c.owed.invariant.so in
    breaks g.C.Calls.makes (reads_between g.R.Reader.gives faults first last) (faults first) (faults last) c.args.calls.now c.next_due.new.calls c.args.self.now c.put.new.self c.from_residual-in_err-put.result c.in_err-put.field-0.0
    c.from_residual-in_err-put.ensures.1
    (settled_unput g.C.Calls.makes (reads_between g.R.Reader.gives faults first last) (faults first) (faults c.owed.reader) c.args.calls.now c.owed.calls c.args.self.now c.owed.self so c.next_due.new.calls c.next_due.new.self
    c.put.new.self (c.in-Some.caller, c.in-Some.reply) (faults last) c.put.ensures.grows due c.next_due.ensures.out.0 c.in_err-put.ensures.err c.put.ensures.owed)
