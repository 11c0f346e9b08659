use Rattle.std.proofs.Common.{◌&&◌, [], ◌∷◌, List, length, refl, ap, arith, length-append, bytes_eq}
use Rattle.std.specs.Prelude.{nat_eq}
use Rattle.std.proofs.lemmas.List.Elements.{filter-append}
use Rattle.record_codec.specs.Entry.{Entry}
use Rattle.log_model.specs.Queues.{queue_of}
use Rattle.log_replay.proofs.Growth.{units_of-append}
use Rattle.log_replay.proofs.laws.a_record_ends_its_queue.Goals as goal

pub returns : goal.returns
returns c = record {
  records = λ log r topic queue. filter-append (λ (x : Entry). bytes_eq x.topic topic && nat_eq x.queue queue) log (r ∷ []);
  units = units_of-append;
  minimum = λ log r topic queue. refl;
  maximum = λ log r topic queue. omega (
    arith,
    ap (λ (l : List Entry). length l) (filter-append (λ (x : Entry). bytes_eq x.topic topic && nat_eq x.queue queue) log.records (r ∷ [])),
    length-append (queue_of log.records topic queue) (queue_of (r ∷ []) topic queue),
  );
}
