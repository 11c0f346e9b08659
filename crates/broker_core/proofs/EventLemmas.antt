-- What the model answers to a request with one record, and the state after it: past the end of all places, into the full buffer, and stored.
use Rattle.std.proofs.Common.{◌≡◌, ap, ◌∙◌, arith, ℕ, ◌+◌, ◌^◌, ◌||◌, ◌&&◌, max, nat_lt, sum_by, Bool, true, false, List, [], ◌∷◌, length, codes, Option, None, is_some, if◌then◌else◌}
use Rattle.std.specs.List.{list_any}
use Rattle.std.proofs.lemmas.List.Sums.{sum_by-cons}
use Rattle.record_codec.specs.Entry.{Entry}
use Rattle.record_codec.specs.Layout.{size}
use Rattle.record_codec.specs.declared.draft.Draft.{Draft}
use Rattle.log_model.specs.Numbered.{next_record, next_records}
use Rattle.broker_model.specs.State.{State, pending_bytes}
use Rattle.broker_model.specs.Events as model
use Rattle.broker_model.specs.Refusals.{plain_reply, refusal_of}
use Rattle.broker_model.specs.Appended.{is_refused, is_past_end, is_full, drafts_of, request_drafts, made_by, appended}
use Rattle.broker_model.specs.Answers.{answer_of, refused_answer, carried_out_answer, request_answer, or_refused}
use Rattle.broker_model.specs.Step.{after, changed, request_changed, with_records}

module _ (s : State) (a : model.Asked) (d : Draft) (taken : refusal_of s a.request ≡ None) (drafts : request_drafts s (max a.now s.now) a.host a.request ≡ d ∷ []) where
  abbrev r : Entry
  r = next_record s.setup.segment (max a.now s.now) s.log d

  made : made_by s (model.Asks a) ≡ r ∷ []
  unfolding drafts_of
  made = ap (λ (ds : List Draft). next_records s.setup.segment (max a.now s.now) s.log ds) drafts

  past_is : is_past_end s (model.Asks a) ≡ (nat_lt (2 ^ 62) (r.offset + size r) || false)
  past_is = ap (λ (rs : List Entry). list_any (λ q. nat_lt (2 ^ 62) (q.offset + size q)) rs) made

  -- a record that would end past all places
  pub log_end_refuses : nat_lt (2 ^ 62) (r.offset + size r) ≡ true → is_refused s (model.Asks a) ≡ true
  unfolding is_refused
  log_end_refuses past =
      ap (λ (o : Option model.Reply). is_some o || is_past_end s (model.Asks a) || is_full s (model.Asks a)) taken
      ∙ ap (λ (b : Bool). b || is_full s (model.Asks a)) (past_is ∙ ap (λ (b : Bool). b || false) past)

  refused_after : is_refused s (model.Asks a) ≡ true → after s (model.Asks a) ≡ s
  unfolding after
  refused_after refuses = ap (λ (b : Bool). if b then s else with_records (changed s (model.Asks a)) (max a.now s.now) (made_by s (model.Asks a))) refuses

  refused_says : is_refused s (model.Asks a) ≡ true → answer_of s (model.Asks a) ≡ refused_answer s (model.Asks a)
  unfolding answer_of
  refused_says refuses =
      ap (λ (o : Option model.Reply). or_refused o (if is_refused s (model.Asks a) then refused_answer s (model.Asks a) else carried_out_answer s (model.Asks a) (appended s (model.Asks a)))) taken
      ∙ ap (λ (b : Bool). if b then refused_answer s (model.Asks a) else carried_out_answer s (model.Asks a) (appended s (model.Asks a))) refuses

  pub log_end_answer : nat_lt (2 ^ 62) (r.offset + size r) ≡ true
      → (answer_of s (model.Asks a) ≡ model.Replies (plain_reply 14 (codes "log end"))) × (after s (model.Asks a) ≡ s)
  log_end_answer past =
      let refuses = log_end_refuses past in (
        refused_says refuses ∙ ap (λ (b : Bool). if b then model.Replies (plain_reply 14 (codes "log end")) else model.Full s.flushed) (past_is ∙ ap (λ (b : Bool). b || false) past),
        refused_after refuses,
      )

  full_is : is_full s (model.Asks a) ≡ nat_lt 67108864 (pending_bytes s + size r)
  unfolding drafts_of
  full_is =
      ap (λ (ds : List Draft). nat_lt 0 (length ds) && nat_lt 67108864 (pending_bytes s + sum_by size (made_by s (model.Asks a)))) drafts
      ∙ ap (λ (rs : List Entry). nat_lt 67108864 (pending_bytes s + sum_by size rs)) made
      ∙ ap (λ (n : ℕ). nat_lt 67108864 (pending_bytes s + n)) (let all = sum_by-cons size r [] in let same : sum_by size (r ∷ []) ≡ size r = omega (arith, all) in same)

  refused_is : is_refused s (model.Asks a) ≡ (nat_lt (2 ^ 62) (r.offset + size r) || false || nat_lt 67108864 (pending_bytes s + size r))
  unfolding is_refused
  refused_is =
      ap (λ (o : Option model.Reply). is_some o || is_past_end s (model.Asks a) || is_full s (model.Asks a)) taken
      ∙ ap (λ (b : Bool). b || is_full s (model.Asks a)) past_is
      ∙ ap (λ (b : Bool). (nat_lt (2 ^ 62) (r.offset + size r) || false) || b) full_is

  -- a record for which the buffer has no room
  pub full_answer : nat_lt (2 ^ 62) (r.offset + size r) ≡ false → nat_lt 67108864 (pending_bytes s + size r) ≡ true
      → (answer_of s (model.Asks a) ≡ model.Full s.flushed) × (after s (model.Asks a) ≡ s)
  full_answer low full =
      let refuses : is_refused s (model.Asks a) ≡ true =
      refused_is ∙ ap (λ (b : Bool). b || false || nat_lt 67108864 (pending_bytes s + size r)) low ∙ full in (
        refused_says refuses ∙ ap (λ (b : Bool). if b then model.Replies (plain_reply 14 (codes "log end")) else model.Full s.flushed) (past_is ∙ ap (λ (b : Bool). b || false) low),
        refused_after refuses,
      )

  -- a record that is stored
  pub stored_after : nat_lt (2 ^ 62) (r.offset + size r) ≡ false → nat_lt 67108864 (pending_bytes s + size r) ≡ false
      → after s (model.Asks a) ≡ with_records (request_changed s a.link a.now a.request) (max a.now s.now) (r ∷ [])
  unfolding after changed
  stored_after low short =
      let stays : is_refused s (model.Asks a) ≡ false =
      refused_is ∙ ap (λ (b : Bool). b || false || nat_lt 67108864 (pending_bytes s + size r)) low ∙ short in
      ap (λ (b : Bool). if b then s else with_records (request_changed s a.link a.now a.request) (max a.now s.now) (made_by s (model.Asks a))) stays
      ∙ ap (λ (rs : List Entry). with_records (request_changed s a.link a.now a.request) (max a.now s.now) rs) made

  pub stored_says : nat_lt (2 ^ 62) (r.offset + size r) ≡ false → nat_lt 67108864 (pending_bytes s + size r) ≡ false
      → answer_of s (model.Asks a) ≡ request_answer s a.now a.request (r ∷ [])
  unfolding answer_of carried_out_answer appended
  stored_says low short =
      let stays : is_refused s (model.Asks a) ≡ false =
      refused_is ∙ ap (λ (b : Bool). b || false || nat_lt 67108864 (pending_bytes s + size r)) low ∙ short in
      ap (λ (o : Option model.Reply). or_refused o (if is_refused s (model.Asks a) then refused_answer s (model.Asks a)
      else request_answer s a.now a.request (if is_refused s (model.Asks a) then [] else made_by s (model.Asks a)))) taken
      ∙ ap (λ (b : Bool). if b then refused_answer s (model.Asks a) else request_answer s a.now a.request (if b then [] else made_by s (model.Asks a))) stays
      ∙ ap (λ (rs : List Entry). request_answer s a.now a.request rs) made
