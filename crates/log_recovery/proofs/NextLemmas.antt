-- Which record is the next one, by the numbers that the tail keeps.
use Rattle.std.proofs.Common.{◌∙◌, ℕ, List, ap, sym, subst, arith}
use Rattle.record_codec.specs.Entry.{Entry}
use Rattle.record_codec.specs.Layout.{size, IsRecord}
use Rattle.log_model.specs.Bases.{Geometry}
use Rattle.log_model.specs.Log.{place_after, Follows}
use Rattle.log_model.specs.Admissible.{half_topic, NamesEarlier}
use Rattle.log_recovery.specs.Counts.{count_in}
use Rattle.log_recovery.specs.Matches.{Matches}
use Rattle.log_recovery.specs.Tails.{StandsFor}
use Rattle.log_recovery.specs.declared.tail.LogTail.{LogTail}
use Rattle.log_recovery.proofs.TailLemmas.{last_store_low}

-- a record whose numbers match follows
pub matches_follow : (S : Geometry) (log : List Entry) (tail : LogTail) (r : Entry) → StandsFor S.base tail log → IsRecord r → Matches S.size tail.end tail.stored (count_in tail.counts r.topic r.queue) (count_in tail.counts half_topic 0) r → Follows S log r
matches_follow S log tail r stands is matches = record {
  layout = is;
  place = matches.place ∙ ap (λ (n : ℕ). place_after S.size n (size r)) stands.end;
  room = matches.room;
  low = matches.low;
  queue_offset = matches.queue_offset ∙ stands.counts r.topic r.queue;
  store = λ k earlier got. omega (arith, stands.latest k earlier got, matches.store);
  admissible = matches.admissible;
  names = subst (λ (n : ℕ). NamesEarlier n r) (stands.counts half_topic 0) matches.names;
}

-- and one that follows matches
pub follows_match : (S : Geometry) (log : List Entry) (tail : LogTail) (r : Entry) → StandsFor S.base tail log → Follows S log r → Matches S.size tail.end tail.stored (count_in tail.counts r.topic r.queue) (count_in tail.counts half_topic 0) r
follows_match S log tail r stands follows = record {
  place = follows.place ∙ ap (λ (n : ℕ). place_after S.size n (size r)) (sym stands.end);
  room = follows.room;
  low = follows.low;
  queue_offset = follows.queue_offset ∙ sym (stands.counts r.topic r.queue);
  store = omega (arith, stands.time, last_store_low r.store log follows.store);
  admissible = follows.admissible;
  names = subst (λ (n : ℕ). NamesEarlier n r) (sym (stands.counts half_topic 0)) follows.names;
}
