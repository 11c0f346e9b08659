use Rattle.std.proofs.Common.{◌≡◌, ◌*◌, ◌≤◌, ℕ, List, length, Option, sym, ap, subst}
use Rattle.mq_bytes.specs.Names.{log_file}
use Rattle.mq_outside.specs.Files.{bytes_in, bytes_of}
use Rattle.mq_outside.specs.Disk.{EachImage}
use Rattle.log_model.specs.Bases.{whole}
use Rattle.log_model.specs.Segments.{segment_file}
use Rattle.log_model.proofs.FileNames.{IsNamed}
use Rattle.log_recovery.specs.Settle.{Turns, IsCut, CutsTo}
use Rattle.log_recovery.proofs.SettleLemmas.{pruned_kept, settles_pruned, settles_cut, settled_each}
use Rattle.log_recovery.proofs.settle.settle_at.Goals as goal

pub cut_last-requires : goal.cut_last-requires
cut_last-requires g c = record {
  within = λ tells.
      let S : ℕ = c.args.segment in
      let named : IsNamed (whole S) c.args.top = record { some = c.requires.some; low = c.requires.low } in
      let base : log_file (c.args.kept * c.from.result) ≡ segment_file (whole S) c.args.kept = ap (λ (s : ℕ). segment_file (whole s) c.args.kept) c.from.ensures in
      let same = pruned_kept S c.args.kept c.args.top _ _ named (c.remove_behind.ensures.turns tells).reads in
      subst (λ (n : List ℕ). c.args.len ≤ length (bytes_of (g.D.Disk.state c.remove_behind.new.disk).reads n)) (sym base)
      (subst (λ (o : Option (List ℕ)). c.args.len ≤ length (bytes_in o)) (sym same) (c.requires.within tells));
}

pub returns-in_err-cut_last-clause-settles : goal.returns-in_err-cut_last-clause-settles
returns-in_err-cut_last-clause-settles g c = λ tells.
    let base : log_file (c.args.kept * c.from.result) ≡ segment_file (whole c.args.segment) c.args.kept = ap (λ (s : ℕ). segment_file (whole s) c.args.kept) c.from.ensures in
    settles_cut c.args.segment c.args.kept c.args.top c.args.len _ (g.D.Disk.state c.remove_behind.new.disk) _ (c.remove_behind.ensures.turns tells) (c.in_ok-remove_behind.ensures.gone tells)
    (g.met.D.Disk.reads_is_image c.remove_behind.new.disk tells)
    (subst (λ (n : List ℕ). Turns (IsCut n c.args.len) (g.D.Disk.state c.remove_behind.new.disk) (g.D.Disk.state c.cut_last.new.disk)) base (c.cut_last.ensures.turns tells))

pub returns-clause-settles : goal.returns-clause-settles
returns-clause-settles g c = λ tells.
    let base : log_file (c.args.kept * c.from.result) ≡ segment_file (whole c.args.segment) c.args.kept = ap (λ (s : ℕ). segment_file (whole s) c.args.kept) c.from.ensures in
    settles_cut c.args.segment c.args.kept c.args.top c.args.len _ (g.D.Disk.state c.remove_behind.new.disk) _ (c.remove_behind.ensures.turns tells) (c.in_ok-remove_behind.ensures.gone tells)
    (g.met.D.Disk.reads_is_image c.remove_behind.new.disk tells)
    (subst (λ (n : List ℕ). Turns (IsCut n c.args.len) (g.D.Disk.state c.remove_behind.new.disk) (g.D.Disk.state c.cut_last.new.disk)) base (c.cut_last.ensures.turns tells))

pub returns-in_err-remove_behind-clause-settles : goal.returns-in_err-remove_behind-clause-settles
returns-in_err-remove_behind-clause-settles g c = λ tells. settles_pruned c.args.segment c.args.kept c.args.top c.args.len _ _ (c.remove_behind.ensures.turns tells)

pub returns-clause-settled : goal.returns-clause-settled
returns-clause-settled g c = λ tells.
    let S : ℕ = c.args.segment in
    let named : IsNamed (whole S) c.args.top = record { some = c.requires.some; low = c.requires.low } in
    let base : log_file (c.args.kept * c.from.result) ≡ segment_file (whole S) c.args.kept = ap (λ (s : ℕ). segment_file (whole s) c.args.kept) c.from.ensures in
    let same = pruned_kept S c.args.kept c.args.top _ _ named (c.remove_behind.ensures.turns tells).reads in
    settled_each S c.args.kept c.args.top c.args.len _ (g.D.Disk.state c.remove_behind.new.disk) _ (c.remove_behind.ensures.turns tells) (c.in_ok-remove_behind.ensures.gone tells)
    (subst (λ (n : List ℕ). Turns (IsCut n c.args.len) (g.D.Disk.state c.remove_behind.new.disk) (g.D.Disk.state c.cut_last.new.disk)) base (c.cut_last.ensures.turns tells))
    same
    (subst (λ (n : List ℕ). EachImage (CutsTo n c.args.len (g.D.Disk.state c.remove_behind.new.disk).reads) (g.D.Disk.state c.cut_last.new.disk)) base (c.in_ok-cut_last.ensures.cut tells))
