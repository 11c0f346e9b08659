use Rattle.std.proofs.Common.{◌≡◌, ◌∙◌, ◌+◌, length, filter, ap, arith}
use Rattle.std.proofs.lemmas.List.{length-map}
use Rattle.log_model.specs.Bases.{geometry}
use Rattle.log_model.specs.Kinds.{is_half}
use Rattle.half_view.specs.Halves.{next_of}
use Rattle.half_view.specs.OfLog.{half_of}
use Rattle.half_view.proofs.LogLemmas.{next_half}
use Rattle.half_view.proofs.view.HalfView.end.Goals as goal

pub returns-clause-records : goal.returns-clause-records
returns-clause-records c segment log well are =
    let t = c.args.self.now in
    let hs = filter is_half log.records in
    let is : c.self.inside.low + c.len.result ≡ next_of t = (let n = c.len.ensures in let e : c.self.inside.low + length c.self.inside.halves.items ≡ next_of t = ap next_of c.self.view_is in omega (arith, n, e, c.self.inside.halves.ok.0)) in
    let counted : length t.halves ≡ length hs = ap length are.halves ∙ length-map hs (half_of log) in
    let next = next_half (geometry segment log.base) log.records well in
    let low = are.low in
    omega (arith, is, counted, next, low)
