use Rattle.std.proofs.Common.{◌≡◌, ◌∙◌, ℕ, ◌++◌, length, take, ap, refl, arith}
use Rattle.std.proofs.lemmas.List.{length-take, append-nil}
use Rattle.remoting_frame.specs.Held.{Held}
use Rattle.remoting_frame.specs.Frames.{next_of}
use Rattle.log_model.proofs.OutsideLemmas.{outside_start, outside_then}
use Rattle.pipe_stream.proofs.PipeLemmas.{none_waits, so_far_start, read_failed, source_ended, source_closed, counts_closed, limit_reached, not_fed, piece_served, piece_halted, counts_end, counts_halt}
use Rattle.pipe_stream.proofs.pipe.serve_stream.Goals as goal

pub loop-total-init : goal.loop-total-init
loop-total-init g c = record {
  served = so_far_start _ _ _ _ _ c.args.talk.now.cutter c.requires.start;
  waits = ap (λ (h : Held). next_of h.at h.bytes) c.requires.start ∙ none_waits;
  within = omega arith;
  free = c.requires.free;
  inside = c.requires.inside;
  source = refl;
  sink = refl;
  clock = refl;
  outside = λ tells. outside_start _;
}

pub returns-in-Err-clause-served : goal.returns-in-Err-clause-served
returns-in-Err-clause-served g c = read_failed _ _ _ _ _ _ _ _ _ _ _ _ c.loop-total.invariant.served c.loop-total.invariant.waits c.in-Err.ensures.still

pub returns-in-Err-end_of-clause-served : goal.returns-in-Err-end_of-clause-served
returns-in-Err-end_of-clause-served g c =
    source_ended _ _ _ _ _ c.in-Err-end_of.halt _ _ _ _ _ _ _ c.loop-total.invariant.served c.loop-total.invariant.waits
    (λ told. c.in-Ok.ensures.given told ∙ ap (λ (n : ℕ). g.S.Source.given c.loop-total.source ++ take n c.read_piece.new.input) c.if-read-eq0.true
    ∙ append-nil (g.S.Source.given c.loop-total.source))
    (λ told. c.in-Ok.ensures.end told c.if-read-eq0.true)
    c.in-Err-end_of.ensures

pub returns-in-Ok-end_of-clause-served : goal.returns-in-Ok-end_of-clause-served
returns-in-Ok-end_of-clause-served g c =
    source_closed _ _ _ _ _ c.close.result _ _ _ _ _ _ _ _ _ c.loop-total.invariant.served
    (λ told. c.in-Ok.ensures.given told ∙ ap (λ (n : ℕ). g.S.Source.given c.loop-total.source ++ take n c.read_piece.new.input) c.if-read-eq0.true
    ∙ append-nil (g.S.Source.given c.loop-total.source))
    (λ told. c.in-Ok.ensures.end told c.if-read-eq0.true)
    c.in-Ok-end_of.ensures c.close.ensures.closed refl

pub returns-in-Ok-end_of-clause-cause : goal.returns-in-Ok-end_of-clause-cause
returns-in-Ok-end_of-clause-cause g c = counts_closed c.close.result _ _ _ _ _ _ _ _ c.loop-total.invariant.sink c.loop-total.invariant.clock c.close.ensures.cause

pub returns-in-Err-end_of-clause-cause : goal.returns-in-Err-end_of-clause-cause
returns-in-Err-end_of-clause-cause g c = counts_end _ c.in-Err-end_of.halt _ _ _ _ _ _ c.in-Err-end_of.ensures

pub returns-in-Ok-end_of-clause-outside : goal.returns-in-Ok-end_of-clause-outside
returns-in-Ok-end_of-clause-outside g c tells = outside_then (c.loop-total.invariant.outside tells) (c.close.ensures.outside tells)

pub returns-in-Err-feed-clause-served : goal.returns-in-Err-feed-clause-served
returns-in-Err-feed-clause-served g c =
    not_fed _ _ _ _ _ _ _ (take c.in-Ok.read c.read_piece.new.input) _ _ _ _ _ c.loop-total.invariant.served c.in-Ok.ensures.given

pub returns-in-Err-serve_held-clause-served : goal.returns-in-Err-serve_held-clause-served
returns-in-Err-serve_held-clause-served g c =
    let piece = take c.in-Ok.read c.read_piece.new.input in
    piece_halted _ _ _ _ _ c.in-Err-serve_held.halt _ _ _ _ piece _ _ _ _ _ _ _ c.loop-total.invariant.served c.in-Ok.ensures.given c.in-Ok-feed.ensures.ok
    c.in-Err-serve_held.ensures.served

pub returns-in-Err-serve_held-clause-cause : goal.returns-in-Err-serve_held-clause-cause
returns-in-Err-serve_held-clause-cause g c =
    counts_halt c.in-Err-serve_held.halt _ _ _ _ _ _ _ _ c.loop-total.invariant.sink c.loop-total.invariant.clock c.in-Err-serve_held.ensures.cause

pub loop-total-preserved : goal.loop-total-preserved
loop-total-preserved g c =
    let piece = take c.in-Ok.read c.read_piece.new.input in
    let long : length piece ≡ c.in-Ok.read = omega (arith, length-take c.in-Ok.read c.read_piece.new.input, c.in-Ok.ensures.room) in
    record {
      served = piece_served _ _ _ _ _ _ c.in-Ok.read _ _ _ piece _ _ _ _ _ _ c.loop-total.invariant.served c.in-Ok.ensures.given long c.in-Ok-feed.ensures.ok
          c.in-Ok-serve_held.ensures.served;
      waits = c.in-Ok-serve_held.ensures.served.halts;
      within = c.in-Ok.ensures.within;
      free = c.in-Ok-serve_held.ensures.free;
      inside = c.in-Ok-serve_held.ensures.inside;
      source = c.in-Ok.ensures.cause ∙ c.loop-total.invariant.source;
      sink = c.in-Ok-serve_held.ensures.cause.0 ∙ c.loop-total.invariant.sink;
      clock = c.in-Ok-serve_held.ensures.cause.1 ∙ c.loop-total.invariant.clock;
      outside = λ tells. outside_then (c.loop-total.invariant.outside tells) (c.in-Ok-serve_held.ensures.outside tells);
    }

pub returns-clause-served : goal.returns-clause-served
returns-clause-served g c =
    limit_reached _ _ _ _ _ _ _ _ _ _ _ c.loop-total.invariant.served (omega (arith, c.loop-total.invariant.within, c.loop-total-test.false))

pub returns-in-Err-serve_held-clause-outside : goal.returns-in-Err-serve_held-clause-outside
returns-in-Err-serve_held-clause-outside g c tells = outside_then (c.loop-total.invariant.outside tells) (c.in-Err-serve_held.ensures.outside tells)
