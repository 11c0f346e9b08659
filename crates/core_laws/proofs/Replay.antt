-- Where all is dispatched, tables are the replay of the whole log.
use Rattle.std.proofs.Common.{◌≡◌, ap, sym, ◌∙◌, subst, arith, refl, ℕ, ◌-◌, List}
use Rattle.std.proofs.lemmas.List.{take_all}
use Rattle.record_codec.specs.Entry.{Entry}
use Rattle.log_model.specs.Numbered.{Log, records_of, count_of}
use Rattle.broker_model.specs.State.{State, Setup, seen}
use Rattle.broker_model.specs.Run.{Boot, Crashes, Goes}
use Rattle.core_laws.specs.Replay.{Tables, StandsFor, IsReplayOf, keyed_by}

-- consumers see the whole log
seen_all : (s : State) → s.dispatched ≡ count_of s.log → seen s ≡ s.log
seen_all s all = ap (λ (l : List Entry). record { base = s.log.base; records = l }) (take_all (s.dispatched - s.log.base.records) s.log.records (omega (arith, all)))

pub all_dispatched : (s : State) (tables : Tables) → s.dispatched ≡ count_of s.log → StandsFor tables s → IsReplayOf tables s.log
all_dispatched s tables all stands = record {
  queues = λ topic queue. stands.queues topic queue ∙ ap (λ (log : Log). records_of log topic queue) (seen_all s all);
  keys = λ hash. stands.keys hash ∙ ap (λ (log : Log). keyed_by hash log.records) (seen_all s all);
  states = stands.states;
  levels = stands.levels;
}

pub after_crash : (b c : Boot) (k : ℕ) (setup : Setup) (tables : Tables) → Goes b (Crashes k setup) c → StandsFor tables c.now → IsReplayOf tables c.now.log
after_crash b c k setup tables goes stands = all_dispatched c.now tables (subst (λ (x : Boot). x.now.dispatched ≡ count_of x.now.log) (sym goes.1) refl) stands
