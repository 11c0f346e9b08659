use Rattle.std.proofs.Common.{◌≡◌, cond, eqb, map, sym, ap, ◌∙◌, arith}
use Rattle.std.proofs.lemmas.Bool.{eq-eqb, ne_eqb}
use Rattle.std.proofs.lemmas.Simd.{first_set_mask_l}
use Rattle.std.specs.List.{prefix_len}
use lib.Count.{count_trailing_zeros}
use lib.Lanes.{mask_l}
use Rattle.json.specs.Run.{is_stop, is_plain}
use Rattle.remoting_frame.proofs.json_bytes.plain_front.Goals as goal

pub returns-then-found-eq0 : goal.returns-then-found-eq0
returns-then-found-eq0 c =
    let mask = mask_l (map is_stop c.args.bytes) in
    let front : cond (eqb mask 0) 16 (count_trailing_zeros 64 mask) ≡ prefix_len is_plain c.args.bytes = first_set_mask_l is_stop c.args.bytes 16 c.fits-bytes.0 (omega arith) in
    rw (eq-eqb mask 0 (sym c.stops-found.ensures ∙ c.if-found-eq0.true)) at front

pub returns-else-found-eq0 : goal.returns-else-found-eq0
returns-else-found-eq0 c =
    let mask = mask_l (map is_stop c.args.bytes) in
    let front : cond (eqb mask 0) 16 (count_trailing_zeros 64 mask) ≡ prefix_len is_plain c.args.bytes = first_set_mask_l is_stop c.args.bytes 16 c.fits-bytes.0 (omega arith) in
    ap (count_trailing_zeros 64) c.stops-found.ensures ∙ (rw (ne_eqb mask 0 (λ e. c.if-found-eq0.false (c.stops-found.ensures ∙ e))) at front)
