-- What refuses a send, and what holds of one that isn't refused.
use Rattle.std.proofs.Common.{◌≡◌, ⊎_elim, refl, ◌∙◌, ℕ, ◌+◌, ◌<◌, ◌≤◌, Bool, true, false, cond, List, [], ◌∷◌, length, map, Option, Some, None, option_map}
use Rattle.std.specs.Prelude.{bit_and}
use Rattle.std.specs.Option.{unwrap_or}
use Rattle.std.specs.Int.Bits.{and_zero_r}
use Rattle.std.proofs.lemmas.Nat.{and_assoc}
use Rattle.std.proofs.lemmas.Bool.{cases_Bool, not-false, ltb-false, ltb-true}
use Rattle.record_codec.specs.Layout.{is_legal, are_hosts_short}
use Rattle.record_codec.specs.Drafts.{first_that_holds}
use Rattle.log_model.specs.Admissible.{is_system_topic}
use Rattle.log_model.specs.Drafts.{plain_flag}
use Rattle.request_fields.specs.Requests.{SendSaid}
use Rattle.request_fields.specs.declared.request.Request.TheVariants.{Send}
use Rattle.broker_model.specs.State.{State}
use Rattle.broker_model.specs.Tables.{queues_in}
use Rattle.broker_model.specs.Refusals.{refusal_of, made_queues}
use Rattle.broker_model.specs.Sends.{flag_of, queue_named}
use Rattle.made_records.specs.SendRows.{rows_of, refusal_by, refused}

-- the first row that holds, with what is made of it
first_mapped : {A B : Type 0} (f : A → B) (rows : List (Bool × A)) → option_map f (first_that_holds rows) ≡ first_that_holds (map (λ (row : Bool × A). (row.0, f row.1)) rows)
first_mapped f [] = refl
first_mapped f (row ∷ rows) = ⊎_elim
    (λ (holds : row.0 ≡ true). rw holds refl)
    (λ (fails : row.0 ≡ false). rw fails (first_mapped f rows))
    (cases_Bool row.0)

-- the rows are the model's
pub rows_are : (s : State) (send : SendSaid) → option_map refused (refusal_by s.setup.segment (queues_in s.topics send.topic) send) ≡ refusal_of s (Send send)
unfolding refusal_by refusal_of
rows_are s send = first_mapped refused (rows_of s.setup.segment (queues_in s.topics send.topic) send)

-- the tests that a send which isn't refused passes
pub record IsTaken (segment : ℕ) (known : Option ℕ) (send : SendSaid) : Type 0 where
  pub topic : is_legal send.topic ≡ true
  pub hosts : are_hosts_short (flag_of send) ≡ true
  pub body : length send.body ≤ 4194304
  pub props : length send.props ≤ 31999
  pub fits : length send.body + length send.props + 1024 ≤ segment
  pub own : is_system_topic send.topic ≡ false
  pub queue : queue_named send.queue < unwrap_or known (made_queues send.default_queues)

past : {A : Type 0} (b : Bool) (refusal : A) (more : Option A) → cond b (Some refusal) more ≡ None → (b ≡ false) × (more ≡ None)
past true refusal more e = absurd cc
past false refusal more e = (refl, e)

pub is_taken : (segment : ℕ) (known : Option ℕ) (send : SendSaid) → refusal_by segment known send ≡ None → IsTaken segment known send
unfolding refusal_by
is_taken segment known send h =
    let topic = past _ _ _ h in
    let hosts = past _ _ _ topic.1 in
    let body = past _ _ _ hosts.1 in
    let props = past _ _ _ body.1 in
    let fits = past _ _ _ props.1 in
    let own = past _ _ _ fits.1 in
    let known_or = past _ _ _ own.1 in
    let queue = past _ _ _ known_or.1 in
    record {
      topic = not-false _ topic.0;
      hosts = not-false _ hosts.0;
      body = ltb-false _ _ body.0;
      props = ltb-false _ _ props.0;
      fits = ltb-false _ _ fits.0;
      own = own.0;
      queue = ltb-true _ _ (not-false _ queue.0);
    }

-- a record has no bit of a transaction
pub no_bits : (flag : ℕ) → bit_and (plain_flag flag) 12 ≡ 0
no_bits flag = and_assoc 12 flag 0xFFFF_FFF3 ∙ and_zero_r flag
