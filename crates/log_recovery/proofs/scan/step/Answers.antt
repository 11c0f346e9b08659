use Rattle.std.proofs.Common.{◌≡◌, inl, inr, ◌∙◌, ◌++◌, ◌∷◌, [], ℕ, List, true, false, refl, sym, subst}
use Rattle.mq_bytes.specs.Names.{log_file}
use Rattle.mq_outside.specs.Files.{bytes_of}
use Rattle.log_model.specs.Bases.{geometry}
use Rattle.log_model.specs.Log.{Follows}
use Rattle.log_model.proofs.Recovery.{well_formed_push}
use Rattle.log_recovery.proofs.StepLemmas.{step_none, step_other, step_next}
use Rattle.log_recovery.proofs.VisitLemmas.{taken_on, given, stop_given, stop_refused}
use Rattle.log_recovery.proofs.scan.step.Goals as goal

pub returns-in_default-clause-next : goal.returns-in_default-clause-next
returns-in_default-clause-next g c = λ tells begun since files read reads shows stood.
    let bytes : List ℕ = bytes_of files (log_file c.args.base) in
    let here : bytes_of (g.D.Disk.state c.args.disk.now).reads c.args.name.now ≡ bytes = λ i. bytes_of (reads i) (c.requires.named i) in
    let shown = c.in_ok-load.ensures.shows tells bytes here shows in
    inr (record {
      none = refl;
      ends = step_none (geometry c.args.segment begun) files read c.args.scan.now.tail c.args.base c.args.at stood c.load.new.window c.front.result.now shown c.in_ok-load.ensures.from c.front.ensures (c.in_ok-load.ensures.whole tells bytes here shows) c.in_default.ensures.none;
      left = stood.left;
      handed = λ before. before;
    })

pub returns-then-offset-base-clause-next : goal.returns-then-offset-base-clause-next
returns-then-offset-base-clause-next g c = λ tells begun since files read reads shows stood.
    let bytes : List ℕ = bytes_of files (log_file c.args.base) in
    let here : bytes_of (g.D.Disk.state c.args.disk.now).reads c.args.name.now ≡ bytes = λ i. bytes_of (reads i) (c.requires.named i) in
    let shown = c.in_ok-load.ensures.shows tells bytes here shows in
    inr (record {
      none = refl;
      ends = step_other (geometry c.args.segment begun) files read c.args.scan.now.tail c.args.base c.args.at stood c.load.new.window c.front.result.now shown c.in_ok-load.ensures.from c.front.ensures c.in-Some.view c.in-Some.ensures.found (λ place follows. c.if-offset-base.true (c.offset.ensures.value ∙ place));
      left = stood.left;
      handed = λ before. before;
    })

pub returns-then-not-is_next-clause-next : goal.returns-then-not-is_next-clause-next
returns-then-not-is_next-clause-next g c = λ tells begun since files read reads shows stood.
    let bytes : List ℕ = bytes_of files (log_file c.args.base) in
    let here : bytes_of (g.D.Disk.state c.args.disk.now).reads c.args.name.now ≡ bytes = λ i. bytes_of (reads i) (c.requires.named i) in
    let shown = c.in_ok-load.ensures.shows tells bytes here shows in
    inr (record {
      none = refl;
      ends = step_other (geometry c.args.segment begun) files read c.args.scan.now.tail c.args.base c.args.at stood c.load.new.window c.front.result.now shown c.in_ok-load.ensures.from c.front.ensures c.in-Some.view c.in-Some.ensures.found
          (λ place follows. let both : false ≡ true = sym c.if-not-is_next.true ∙ (c.is_next.ensures begun read.records stood.left.stands).1 (subst (λ (k : ℕ). Follows (geometry k begun) read.records c.in-Some.view) (sym stood.left.size) follows) in absurd (cc));
      left = stood.left;
      handed = λ before. before;
    })

pub returns-clause-next : goal.returns-clause-next
returns-clause-next g c = λ tells begun since files read reads shows stood.
    let bytes : List ℕ = bytes_of files (log_file c.args.base) in
    let here : bytes_of (g.D.Disk.state c.args.disk.now).reads c.args.name.now ≡ bytes = λ i. bytes_of (reads i) (c.requires.named i) in
    let shown = c.in_ok-load.ensures.shows tells bytes here shows in
    let follows : Follows (geometry c.args.segment begun) read.records c.in-Some.view = subst (λ (k : ℕ). Follows (geometry k begun) read.records c.in-Some.view) stood.left.size ((c.is_next.ensures begun read.records stood.left.stands).0 c.if-not-is_next.false) in
    let next = step_next (geometry c.args.segment begun) files read c.args.scan.now.tail c.args.base c.args.at stood c.load.new.window c.front.result.now shown c.in_ok-load.ensures.from c.front.ensures c.in-Some.view c.in-Some.ensures.found (sym c.offset.ensures.value ∙ c.if-offset-base.false) follows in
    inl (record {
      r = c.in-Some.view;
      next = next;
      long = c.size.ensures;
      left = record { size = c.add.ensures.segment ∙ stood.left.size; stands = c.in_ok-add.ensures.taken (geometry c.args.segment begun) read.records stood.left.stands follows };
      handed = λ before. taken_on g.V.Visit (geometry c.args.segment begun) since read.records c.in-Some.view _ _ c.in_ok-record.ensures.stands c.in_ok-record.ensures.goes next.follows before;
    })

pub returns-clause-handed : goal.returns-clause-handed
returns-clause-handed g c = λ begun since so_far.
    let r = c.in-Some.view in
    let follows : Follows (geometry c.args.segment begun) so_far.records r =
    subst (λ (k : ℕ). Follows (geometry k begun) so_far.records r) so_far.left.size ((c.is_next.ensures begun so_far.records so_far.left.stands).0 c.if-not-is_next.false) in
    record {
      records = so_far.records ++ r ∷ [];
      lawful = well_formed_push (geometry c.args.segment begun) so_far.records r so_far.lawful follows;
      left = record { size = c.add.ensures.segment ∙ so_far.left.size; stands = c.in_ok-add.ensures.taken (geometry c.args.segment begun) so_far.records so_far.left.stands follows };
      handed = taken_on g.V.Visit (geometry c.args.segment begun) since so_far.records r _ _ c.in_ok-record.ensures.stands c.in_ok-record.ensures.goes follows so_far.handed;
    }

pub returns-in_err-load-clause-stopped : goal.returns-in_err-load-clause-stopped
returns-in_err-load-clause-stopped g c = λ begun first so_far.
    stop_given ℕ c.from_residual.result _ _ (given (geometry c.args.segment begun) _ _ so_far)

pub returns-in_err-record-clause-stopped : goal.returns-in_err-record-clause-stopped
returns-in_err-record-clause-stopped g c = λ begun first so_far.
    stop_refused ℕ c.from_residual-in_err-record.result _ _ c.from_residual-in_err-record.ensures.1
    (c.in_err-record.ensures.fails first so_far.records so_far.handed)

pub returns-in_err-add-clause-stopped : goal.returns-in_err-add-clause-stopped
returns-in_err-add-clause-stopped g c = λ begun first so_far.
    let r = c.in-Some.view in
    let follows : Follows (geometry c.args.segment begun) so_far.records r =
    subst (λ (k : ℕ). Follows (geometry k begun) so_far.records r) so_far.left.size ((c.is_next.ensures begun so_far.records so_far.left.stands).0 c.if-not-is_next.false) in
    stop_given ℕ c.from_residual-in_err-add.result _ _ (record {
      records = so_far.records ++ r ∷ [];
      lawful = well_formed_push (geometry c.args.segment begun) so_far.records r so_far.lawful follows;
      handed = c.in_ok-record.ensures.goes first so_far.records so_far.handed;
    })
