-- The topic of a queue that isn't refused has a legal name.
use Rattle.std.proofs.Common.{◌≡◌, ⊎_elim, refl, sym, ◌∙◌, subst, ℕ, List, [], ◌∷◌, Bool, true, false, is_none, not, nat_lt, codes, Option, Some, None}
use Rattle.std.specs.Option.{unwrap_or}
use Rattle.std.specs.Str.{bytes_eq}
use Rattle.std.proofs.lemmas.Bool.{cases_Bool}
use Rattle.std.proofs.lemmas.Slice.Eq.{bytes_eq-Decides}
use Rattle.record_codec.specs.Layout.{is_legal}
use Rattle.record_codec.specs.Drafts.{first_that_holds}
use Rattle.log_model.specs.Admissible.{is_system_topic, level_topic, half_topic, op_topic, discard_topic}
use Rattle.request_fields.specs.Requests.{PullSaid}
use Rattle.broker_model.specs.State.{State}
use Rattle.broker_model.specs.Events.{Reply}
use Rattle.broker_model.specs.Tables.{queues_in}
use Rattle.broker_model.specs.Refusals.{plain_reply, or_else, is_closed_topic, is_by_tags, queue_count, queue_refusal, pull_refusal}
use Rattle.core_log.specs.declared.parts.Parts.{Parts}
use Rattle.core_log.specs.Represents.{Represents}
use Rattle.core_log.proofs.StoreLemmas.{found_named}

named_so : (topic own : List ℕ) → is_legal own ≡ true → bytes_eq topic own ≡ true → is_legal topic ≡ true
named_so topic own legal same = subst (λ (t : List ℕ). is_legal t ≡ true) (sym ((bytes_eq-Decides topic own).0 same)) legal

-- the broker's own topics have legal names
system_legal : (topic : List ℕ) → is_system_topic topic ≡ true → is_legal topic ≡ true
system_legal topic own = ⊎_elim
    (λ (level : bytes_eq topic level_topic ≡ true). named_so topic level_topic refl level)
    (λ (not_level : bytes_eq topic level_topic ≡ false). ⊎_elim
    (λ (half : bytes_eq topic half_topic ≡ true). named_so topic half_topic refl half)
    (λ (not_half : bytes_eq topic half_topic ≡ false). ⊎_elim
    (λ (op : bytes_eq topic op_topic ≡ true). named_so topic op_topic refl op)
    (λ (not_op : bytes_eq topic op_topic ≡ false). ⊎_elim
    (λ (discard : bytes_eq topic discard_topic ≡ true). named_so topic discard_topic refl discard)
    (λ (not_discard : bytes_eq topic discard_topic ≡ false).
    let none : is_system_topic topic ≡ false = rw (not_level, not_half, not_op, not_discard) refl in
    let bad : false ≡ true = sym none ∙ own in cc bad)
    (cases_Bool (bytes_eq topic discard_topic)))
    (cases_Bool (bytes_eq topic op_topic)))
    (cases_Bool (bytes_eq topic half_topic)))
    (cases_Bool (bytes_eq topic level_topic))

found_legal : (core : Parts) (s : State) (topic : List ℕ) (found : Option ℕ) → Represents core s → queues_in s.topics topic ≡ found → is_none found ≡ false → is_legal topic ≡ true
found_legal core s topic None are is some = cc some
found_legal core s topic (Some n) are is some = found_named s.topics topic n are.names is

-- a topic with queues has a legal name
counted_legal : (core : Parts) (s : State) (topic : List ℕ) → Represents core s → is_none (queue_count s topic) ≡ false → is_legal topic ≡ true
counted_legal core s topic are some = ⊎_elim
    (λ (own : is_system_topic topic ≡ true). system_legal topic own)
    (λ (plain : is_system_topic topic ≡ false). found_legal core s topic (queues_in s.topics topic) are refl (rw plain at some))
    (cases_Bool (is_system_topic topic))

first_clear : (b : Bool) (reply : Reply) (rest : List (Bool × Reply)) → first_that_holds ((b, reply) ∷ rest) ≡ None → b ≡ false
first_clear true reply rest none = cc none
first_clear false reply rest none = refl

-- a queue that isn't refused
pub queue_legal : (core : Parts) (s : State) (topic : List ℕ) (queue : ℕ) → Represents core s → queue_refusal s topic queue ≡ None → is_legal topic ≡ true
queue_legal core s topic queue are none =
    counted_legal core s topic are (first_clear (is_none (queue_count s topic)) (plain_reply 17 (codes "no topic"))
    ((not (nat_lt queue (unwrap_or (queue_count s topic) 0)), plain_reply 1 (codes "queue")) ∷ []) none)

past_first : (a b : Option Reply) → or_else a b ≡ None → b ≡ None
past_first None b none = none
past_first (Some reply) b none = cc none

first_none : (a b : Option Reply) → or_else a b ≡ None → a ≡ None
first_none None b none = refl
first_none (Some reply) b none = cc none

-- a pull that isn't refused
pub pull_legal : (core : Parts) (s : State) (q : PullSaid) → Represents core s → pull_refusal s q ≡ None → is_legal q.topic ≡ true
pull_legal core s q are none =
    let closed = first_that_holds ((is_closed_topic q.topic, plain_reply 16 (codes "system topic")) ∷ []) in
    let tags = first_that_holds ((not (is_by_tags q.expression), plain_reply 1 (codes "expression")) ∷ []) in
    let queue = queue_refusal s q.topic q.queue in
    queue_legal core s q.topic q.queue are (first_none queue tags (past_first closed (or_else queue tags) none))
