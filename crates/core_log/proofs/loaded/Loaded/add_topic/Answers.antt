use Rattle.std.proofs.Common.{rules, ◌≡◌, ◌∙◌, refl, ap, ℕ, List, true, false, is_some, string_bytes}
use Rattle.std.specs.Str.{bytes_eq}
use Rattle.client_tables.specs.Counts.{queues_of}
use Rattle.core_log.proofs.LoadLemmas.{loads_known, loads_topic}
use Rattle.core_log.proofs.TopicLemmas.{made_count}
use Rattle.core_log.proofs.loaded.Loaded.add_topic.Goals as goal

pub returns-then-is_some : goal.returns-then-is_some
returns-then-is_some c saved is =
    let known : is_some (queues_of c.args.self.now.topics c.args.topic.now) ≡ true = search rules in
    loads_known saved c.args.self.now c.args.topic.now c.args.queues is
    (record { some = c.requires.some; few = c.requires.few; plain = c.requires.plain }) c.requires.legal known

pub returns : goal.returns
returns c saved is =
    let old = c.args.self.now in
    let topic = c.args.topic.now in
    let n = c.args.queues in
    let R = c.reserve.new.self in
    let name : string_bytes c.in_ok-name.name ≡ topic = search rules in
    let unknown : is_some (queues_of old.topics topic) ≡ false = search rules in
    loads_topic saved old (record old { topics = c.make.new.self }) topic n is (record { some = c.requires.some; few = c.requires.few; plain = c.requires.plain }) c.requires.legal unknown refl
    (λ other. c.make.ensures other
    ∙ ap (λ (t : List ℕ). made_count (bytes_eq t other) (queues_of R t) n (queues_of R other)) name
    ∙ ap (λ had. made_count (bytes_eq topic other) had n (queues_of R other)) (c.reserve.ensures.same topic)
    ∙ ap (λ rest. made_count (bytes_eq topic other) (queues_of old.topics topic) n rest) (c.reserve.ensures.same other))
