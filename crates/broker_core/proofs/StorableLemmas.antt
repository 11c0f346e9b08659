-- The draft of a send that isn't refused can be stored: as a half message, as a delayed one or as it is.
use Rattle.std.proofs.Common.{◌≡◌, ◌≢◌, ◌∙◌, ⊎_elim, refl, ap, sym, subst, arith, ℕ, ◌+◌, ◌^◌, ◌<◌, ◌≤◌, Bool, true, false, List, [], ◌∷◌, length, codes, pos, Option, Some, None}
use Rattle.std.specs.Prelude.{◌||◌, ◌==◌, not, nat_lt, min, filter, bit_and, ℤ, negsuc, IsSome, IfSome, is_some, option_map, if◌then◌else◌}
use Rattle.std.specs.Str.{bytes_eq}
use Rattle.std.specs.Str.Parse.{digits_value}
use Rattle.std.proofs.lemmas.Bool.{le-ltb, ltb-true, and_parts, cases_Bool}
use Rattle.std.proofs.lemmas.Fmt.{length-decimal-le}
use Rattle.std.proofs.lemmas.Slice.Eq.{bytes_eq-Decides}
use Rattle.mq_bytes.specs.Decimal.{digits_of, decimal_value}
use Rattle.record_codec.specs.Props.{written, value_of, with_prop, without, has_name}
use Rattle.record_codec.specs.LaxProps.{read_props}
use Rattle.record_codec.specs.Layout.{is_legal, are_hosts_short}
use Rattle.record_codec.specs.Drafts.{draft_fault, draft_size, entry_of}
use Rattle.record_codec.specs.declared.draft.Draft.{Draft}
use Rattle.record_codec.specs.declared.draft.Place.{Place}
use Rattle.record_codec.proofs.LastLemmas.{value_of-put, value_of-other, value_of-kept}
use Rattle.log_model.specs.Admissible.{level_topic, half_topic, op_topic, discard_topic, is_system_topic, number_in, number_at, IsBelow, IsDelayFrom, IsAdmissible, IsHalfMessage, IsDelayedMessage}
use Rattle.log_model.specs.Kinds.{is_text, level_part}
use Rattle.log_model.specs.Drafts.{plain_flag}
use Rattle.log_model.specs.Made.{text_size}
use Rattle.log_model.proofs.AdmissibleLemmas.{plain_admissible, plain_names}
use Rattle.request_fields.specs.Requests.{SendSaid, IsFieldName}
use Rattle.broker_model.specs.Sends.{flag_of, is_half_send, level_of, level_named, level_text, queue_named, plain_draft, half_draft, delayed_draft, with_real, with_group, waits, is_word}
use Rattle.core_log.specs.declared.kind.Kind.{Kind}
use Rattle.core_log.specs.declared.kind.Kind.TheVariants.{Plain, Delayed, Half}
use Rattle.broker_core.specs.Kinds.{kind_in, kind_of, draft_by}
use Rattle.core_log.specs.Stands.{IsStorable}
use Rattle.broker_core.proofs.MadeLemmas.{number_in_digits}
use Rattle.made_records.proofs.RowLemmas.{IsTaken}
use Rattle.made_records.proofs.PairLemmas.{named_has}
use Rattle.made_records.proofs.SendDraftLemmas.{IsPlainDraft, writable, kept_within, filter_within, with_prop_within, hosts_stay}

-- ---- a level

-- the level of a send is one of 18
level_within : (o : Option ℤ) (level : ℕ) → level_named o ≡ Some level → (1 ≤ level) × (level ≤ 18)
level_within None level is = absurd (cc)
level_within (Some (negsuc n)) level is = absurd (cc)
level_within (Some (pos n)) level is = by_test (nat_lt 0 n) (λ some. ltb-true 0 n some) is
  where
    by_test : (b : Bool) → (b ≡ true → 0 < n) → (if b then Some (min n 18) else None) ≡ Some level → (1 ≤ level) × (level ≤ 18)
    by_test true low at = let same : min n 18 ≡ level = cc at in let some = low refl in (omega (arith, same, some), omega (arith, same))
    by_test false low at = absurd (cc)

pub named_level : (send : SendSaid) (level : ℕ) → level_of send ≡ Some level → (1 ≤ level) × (level ≤ 18)
named_level send level is = of_text (value_of (codes "DELAY") (read_props send.props)) is
  where
    of_text : (o : Option (List ℕ)) → level_text o ≡ Some level → (1 ≤ level) × (level ≤ 18)
    of_text None at = absurd (cc)
    of_text (Some text) at = level_within (decimal_value text) level at

-- ---- properties

both_fail : (a b : Bool) → (a || b) ≡ false → (a ≡ false) × (b ≡ false)
both_fail true b fails = absurd (cc)
both_fail false b fails = (refl, fails)

-- no pair has the name after another one was put
unnamed : (name other value : List ℕ) (ps : List (List ℕ × List ℕ)) → bytes_eq name other ≡ false → has_name name ps ≡ false → has_name name (with_prop other value ps) ≡ false
unnamed name other value [] apart none = ap (λ (b : Bool). b || false) apart
unnamed name other value (p ∷ ps) apart none = ⊎_elim
    (λ (here : bytes_eq other p.0 ≡ true). rw here none)
    (λ (later : bytes_eq other p.0 ≡ false).
    let parts = both_fail (bytes_eq name p.0) (has_name name ps) none in
    rw (later, parts.0) (unnamed name other value ps apart parts.1))
    (cases_Bool (bytes_eq other p.0))

-- nor after others were dropped
unnamed_kept : (name : List ℕ) (keep : List ℕ × List ℕ → Bool) (ps : List (List ℕ × List ℕ)) → has_name name ps ≡ false → has_name name (filter keep ps) ≡ false
unnamed_kept name keep [] none = refl
unnamed_kept name keep (p ∷ ps) none =
    let parts = both_fail (bytes_eq name p.0) (has_name name ps) none in
    ⊎_elim
    (λ (kept : keep p ≡ true). rw (kept, parts.0) (unnamed_kept name keep ps parts.1))
    (λ (dropped : keep p ≡ false). rw dropped (unnamed_kept name keep ps parts.1))
    (cases_Bool (keep p))

differ : (a b : List ℕ) → bytes_eq a b ≡ false → a ≢ b
differ a b apart same = let bad : false ≡ true = sym apart ∙ (bytes_eq-Decides a b).1 same in cc bad

-- ---- the producer's group

module _ (group : List ℕ) (ps : List (List ℕ × List ℕ)) where
  -- another name keeps its value
  grouped_value : (name : List ℕ) → bytes_eq name (codes "PGROUP") ≡ false → value_of name (with_group group ps) ≡ value_of name ps
  grouped_value name apart = by_test (has_name (codes "PGROUP") ps)
    where
      by_test : (b : Bool) → value_of name (if b then ps else with_prop (codes "PGROUP") group ps) ≡ value_of name ps
      by_test true = refl
      by_test false = value_of-other name (codes "PGROUP") group ps (differ name (codes "PGROUP") apart)

  -- some group is named
  grouped : is_some (value_of (codes "PGROUP") (with_group group ps)) ≡ true
  grouped = by_test (has_name (codes "PGROUP") ps) refl
    where
      by_test : (b : Bool) → has_name (codes "PGROUP") ps ≡ b → is_some (value_of (codes "PGROUP") (if b then ps else with_prop (codes "PGROUP") group ps)) ≡ true
      by_test true is = named_has (codes "PGROUP") ps ∙ is
      by_test false is = ap is_some (value_of-put (codes "PGROUP") group ps)

  grouped_within : length (written (with_group group ps)) ≤ length (written ps) + length group + 8
  grouped_within = by_test (has_name (codes "PGROUP") ps)
    where
      by_test : (b : Bool) → length (written (if b then ps else with_prop (codes "PGROUP") group ps)) ≤ length (written ps) + length group + 8
      by_test true = omega arith
      by_test false = let more = with_prop_within (codes "PGROUP") group ps in omega (arith, more)

  grouped_unnamed : (name : List ℕ) → bytes_eq name (codes "PGROUP") ≡ false → has_name name ps ≡ false → has_name name (with_group group ps) ≡ false
  grouped_unnamed name apart none = by_test (has_name (codes "PGROUP") ps)
    where
      by_test : (b : Bool) → has_name name (if b then ps else with_prop (codes "PGROUP") group ps) ≡ false
      by_test true = none
      by_test false = unnamed name (codes "PGROUP") group ps apart none

-- ---- what waits

module _ (segment : ℕ) (known : Option ℕ) (store_host born_host : List ℕ) (send : SendSaid) (fine : IsTaken segment known send) (queue : queue_named send.queue < 1024) (born : send.born < 2 ^ 62) (group : IsFieldName send.group) where
  abbrev d : Draft
  d = plain_draft store_host born_host send

  abbrev real : List (List ℕ × List ℕ)
  real = with_real d.topic d.queue d.props

  plain : IsPlainDraft segment d
  plain = writable segment known store_host born_host send fine queue born

  -- a name of neither of the two properties keeps its value
  keeps : (name : List ℕ) → bytes_eq name (codes "REAL_QID") ≡ false → bytes_eq name (codes "REAL_TOPIC") ≡ false → value_of name real ≡ value_of name d.props
  keeps name queue_id topic =
      value_of-other name (codes "REAL_QID") (digits_of d.queue) (with_prop (codes "REAL_TOPIC") d.topic d.props) (differ name (codes "REAL_QID") queue_id)
      ∙ value_of-other name (codes "REAL_TOPIC") d.topic d.props (differ name (codes "REAL_TOPIC") topic)

  real_topic : value_of (codes "REAL_TOPIC") real ≡ Some d.topic
  real_topic =
      value_of-other (codes "REAL_TOPIC") (codes "REAL_QID") (digits_of d.queue) (with_prop (codes "REAL_TOPIC") d.topic d.props) (differ (codes "REAL_TOPIC") (codes "REAL_QID") refl)
      ∙ value_of-put (codes "REAL_TOPIC") d.topic d.props

  real_queue : value_of (codes "REAL_QID") real ≡ Some (digits_of d.queue)
  real_queue = value_of-put (codes "REAL_QID") (digits_of d.queue) (with_prop (codes "REAL_TOPIC") d.topic d.props)

  no_copy : (bit_and (plain_flag (flag_of send)) 12 == 8) ≡ false
  no_copy = ap (λ (n : ℕ). n == 8) plain.bits

  short : length d.topic < 128
  short = ltb-true _ _ (and_parts _ _ fine.topic).1

  -- the two properties take at most 153 bytes more
  within : length (written real) ≤ length send.props + 154
  within =
      let digits = length-decimal-le 4 d.queue (omega arith) (omega (arith, queue)) (omega (arith, queue)) in
      let topic_added = with_prop_within (codes "REAL_TOPIC") d.topic d.props in
      let queue_added = with_prop_within (codes "REAL_QID") (digits_of d.queue) (with_prop (codes "REAL_TOPIC") d.topic d.props) in
      let kept = kept_within send.props in
      let few = short in
      omega (arith, digits, topic_added, queue_added, kept, few)

  module _ (level : ℕ) (first : 1 ≤ level) (last : level ≤ 18) where
    abbrev e : Draft
    e = delayed_draft level d

    passes : draft_fault segment e ≡ None
    unfolding draft_fault
    passes =
        let more = within in
        let most = fine.props in
        let all = fine.fits in
        let hosts = plain_hosts in
        let body = le-ltb 4194304 (length send.body) fine.body in
        let props = le-ltb 32767 (length (written real) + 14) (omega (arith, more, most)) in
        let fits = le-ltb segment (draft_size e + 8) (omega (arith, more, all)) in
        rw (hosts, body, props, fits) refl
      where
        plain_hosts : not (are_hosts_short (plain_flag (flag_of send))) ≡ false
        plain_hosts = ap not (hosts_stay (flag_of send) fine.hosts)

    waiting : (p : Place) → IsDelayedMessage segment (entry_of e p)
    waiting p = record {
      waits = record {
        topic = subst (λ (o : Option (List ℕ)). IsSome o × IfSome o (λ t. (is_legal t ≡ true) × (is_system_topic t ≡ false))) (sym real_topic) (refl, (fine.topic, fine.own));
        queue = subst (λ (o : Option (List ℕ)). IsSome o × IfSome o (IsBelow 1024)) (sym real_queue) (
          refl,
          (
            subst (λ (o : Option ℕ). IfSome o (λ n. n < 1024)) (sym (number_in_digits d.queue (omega (arith, queue)))) queue,
            subst (λ (o : Option ℕ). IsSome o) (sym (number_in_digits d.queue (omega (arith, queue)))) refl,
          ),
        );
        bits = plain.bits;
      };
      delivered = record {
        body = fine.body;
        props = let more = within in let most = fine.props in omega (arith, more, most);
        fits =
            let more = within in
            let all = fine.fits in
            let few = short in
            let name : text_size (value_of (codes "REAL_TOPIC") real) ≡ length d.topic = ap text_size real_topic in
            omega (arith, more, all, few, name);
      };
    }

    admissible : (p : Place) → IsAdmissible segment (entry_of e p)
    admissible p = record {
      queue = omega (arith, first, last);
      copy = λ eight. let bad : 0 ≡ 8 = sym plain.bits ∙ eight in absurd (let none : ⊥ = omega (arith, bad) in none);
      discard = λ yes. absurd (cc);
      half = λ yes. absurd (cc);
      level = λ yes. waiting p;
      op = λ yes. absurd (cc);
      renewal = subst (λ (o : Option (List ℕ)). IfSome o (λ text. IsSome (number_in text))) (sym (keeps (codes "TRAN_PREPARED_QUEUE_OFFSET") refl refl ∙ plain.renewal)) tt;
      delivery = subst (λ (o : Option (List ℕ)). IfSome o IsDelayFrom) (sym (keeps (codes "DELAY_FROM") refl refl ∙ plain.delivery)) tt;
      undelivered = λ yes. keeps (codes "DELAY_FROM") refl refl ∙ plain.delivery;
    }

    pub delayed_storable : IsStorable segment (Delayed level) e
    delayed_storable = record {
      passes = passes;
      born = plain.born;
      prepared = plain.prepared;
      unsealed = unnamed (codes "SEAL") (codes "REAL_QID") (digits_of d.queue) (with_prop (codes "REAL_TOPIC") d.topic d.props) refl
          (unnamed (codes "SEAL") (codes "REAL_TOPIC") d.topic d.props refl plain.unsealed);
      admissible = admissible;
      names = λ p halves. tt;
      kept = λ p. (
        first,
        last,
        record { half = refl; op = refl; copied = no_copy; discard = refl },
        record {
          topic = refl;
          queue = refl;
          none = λ other. ap (λ (o : Option (List ℕ)). is_text (digits_of other) (level_part o)) (keeps (codes "DELAY_FROM") refl refl ∙ plain.delivery);
        },
      );
    }

  -- ---- a half message

  abbrev kept : List (List ℕ × List ℕ)
  kept = without (codes "DELAY") d.props

  abbrev h : Draft
  h = half_draft send.group d

  -- a name of none of the properties that are dropped or added keeps its value
  stays : (name : List ℕ) → bytes_eq name (codes "PGROUP") ≡ false → bytes_eq name (codes "REAL_QID") ≡ false → bytes_eq name (codes "REAL_TOPIC") ≡ false → bytes_eq name (codes "DELAY") ≡ false
      → value_of name h.props ≡ value_of name d.props
  stays name group queue_id topic delay =
      grouped_value send.group (with_real d.topic d.queue kept) name group
      ∙ value_of-other name (codes "REAL_QID") (digits_of d.queue) (with_prop (codes "REAL_TOPIC") d.topic kept) (differ name (codes "REAL_QID") queue_id)
      ∙ value_of-other name (codes "REAL_TOPIC") d.topic kept (differ name (codes "REAL_TOPIC") topic)
      ∙ value_of-kept name (codes "DELAY") d.props (differ name (codes "DELAY") delay)

  half_topic_is : value_of (codes "REAL_TOPIC") h.props ≡ Some d.topic
  half_topic_is =
      grouped_value send.group (with_real d.topic d.queue kept) (codes "REAL_TOPIC") refl
      ∙ value_of-other (codes "REAL_TOPIC") (codes "REAL_QID") (digits_of d.queue) (with_prop (codes "REAL_TOPIC") d.topic kept) (differ (codes "REAL_TOPIC") (codes "REAL_QID") refl)
      ∙ value_of-put (codes "REAL_TOPIC") d.topic kept

  half_queue_is : value_of (codes "REAL_QID") h.props ≡ Some (digits_of d.queue)
  half_queue_is =
      grouped_value send.group (with_real d.topic d.queue kept) (codes "REAL_QID") refl
      ∙ value_of-put (codes "REAL_QID") (digits_of d.queue) (with_prop (codes "REAL_TOPIC") d.topic kept)

  no_renewal : value_of (codes "TRAN_PREPARED_QUEUE_OFFSET") h.props ≡ None
  no_renewal = stays (codes "TRAN_PREPARED_QUEUE_OFFSET") refl refl refl refl ∙ plain.renewal

  no_delivery : value_of (codes "DELAY_FROM") h.props ≡ None
  no_delivery = stays (codes "DELAY_FROM") refl refl refl refl ∙ plain.delivery

  -- the properties take at most 282 bytes more than the text
  half_within : length (written h.props) ≤ length send.props + 282
  half_within =
      let digits = length-decimal-le 4 d.queue (omega arith) (omega (arith, queue)) (omega (arith, queue)) in
      let group_added = grouped_within send.group (with_real d.topic d.queue kept) in
      let topic_added = with_prop_within (codes "REAL_TOPIC") d.topic kept in
      let queue_added = with_prop_within (codes "REAL_QID") (digits_of d.queue) (with_prop (codes "REAL_TOPIC") d.topic kept) in
      let dropped = filter_within (λ (p : List ℕ × List ℕ). not (bytes_eq (codes "DELAY") p.0)) d.props in
      let read = kept_within send.props in
      let few = short in
      let name = group.short in
      omega (arith, digits, group_added, topic_added, queue_added, dropped, read, few, name)

  half_passes : draft_fault segment h ≡ None
  unfolding draft_fault
  half_passes =
      let more = half_within in
      let most = fine.props in
      let all = fine.fits in
      let hosts : not (are_hosts_short (plain_flag (flag_of send))) ≡ false = ap not (hosts_stay (flag_of send) fine.hosts) in
      let body = le-ltb 4194304 (length send.body) fine.body in
      let props = le-ltb 32767 (length (written h.props) + 14) (omega (arith, more, most)) in
      let fits = le-ltb segment (draft_size h + 8) (omega (arith, more, all)) in
      rw (hosts, body, props, fits) refl

  half_message : (p : Place) → IsHalfMessage segment (entry_of h p)
  half_message p = record {
    waits = record {
      topic = subst (λ (o : Option (List ℕ)). IsSome o × IfSome o (λ t. (is_legal t ≡ true) × (is_system_topic t ≡ false))) (sym half_topic_is) (refl, (fine.topic, fine.own));
      queue = subst (λ (o : Option (List ℕ)). IsSome o × IfSome o (IsBelow 1024)) (sym half_queue_is) (
        refl,
        (
          subst (λ (o : Option ℕ). IfSome o (λ n. n < 1024)) (sym (number_in_digits d.queue (omega (arith, queue)))) queue,
          subst (λ (o : Option ℕ). IsSome o) (sym (number_in_digits d.queue (omega (arith, queue)))) refl,
        ),
      );
      bits = plain.bits;
    };
    group = grouped send.group (with_real d.topic d.queue kept);
    renewed = record {
      body = fine.body;
      props = let more = half_within in let most = fine.props in omega (arith, more, most);
      fits = let more = half_within in let all = fine.fits in omega (arith, more, all);
    };
    discarded = λ some. let bad : true ≡ false = sym some ∙ ap is_some no_renewal in absurd (cc bad);
  }

  pub half_storable : IsStorable segment Half h
  half_storable = record {
    passes = half_passes;
    born = plain.born;
    prepared = plain.prepared;
    unsealed = grouped_unnamed send.group (with_real d.topic d.queue kept) (codes "SEAL") refl
        (unnamed (codes "SEAL") (codes "REAL_QID") (digits_of d.queue) (with_prop (codes "REAL_TOPIC") d.topic kept) refl
        (unnamed (codes "SEAL") (codes "REAL_TOPIC") d.topic kept refl
        (unnamed_kept (codes "SEAL") (λ (p : List ℕ × List ℕ). not (bytes_eq (codes "DELAY") p.0)) d.props plain.unsealed)));
    admissible = λ p. record {
      queue = omega arith;
      copy = λ eight. let bad : 0 ≡ 8 = sym plain.bits ∙ eight in absurd (let none : ⊥ = omega (arith, bad) in none);
      discard = λ yes. absurd (cc);
      half = λ yes. half_message p;
      level = λ yes. absurd (cc);
      op = λ yes. absurd (cc);
      renewal = subst (λ (o : Option (List ℕ)). IfSome o (λ text. IsSome (number_in text))) (sym no_renewal) tt;
      delivery = subst (λ (o : Option (List ℕ)). IfSome o IsDelayFrom) (sym no_delivery) tt;
      undelivered = λ yes. no_delivery;
    };
    names = λ p halves. subst (λ (o : Option (List ℕ)). IfSome (number_at o) (λ n. n < halves)) (sym no_renewal) tt;
    kept = λ p. record {
      half = refl;
      name = ap (λ (o : Option (List ℕ)). option_map (digits_value 10) o) no_renewal;
      other = record { plain = refl; none = λ level. ap (λ (o : Option (List ℕ)). is_text (digits_of level) (level_part o)) no_delivery };
    };
  }

  -- ---- a plain one

  pub plain_storable : IsStorable segment Plain d
  plain_storable = record {
    passes = plain.passes;
    born = plain.born;
    prepared = plain.prepared;
    unsealed = plain.unsealed;
    admissible = λ p. plain_admissible segment (entry_of d p) plain.topic plain.queue (λ eight. let bad : 0 ≡ 8 = sym plain.bits ∙ eight in absurd (let none : ⊥ = omega (arith, bad) in none)) plain.delivery plain.renewal;
    names = λ p halves. plain_names segment (entry_of d p) plain.topic halves;
    kept = λ p. (
      record { half = own.1; op = own.2; copied = no_copy; discard = own.3 },
      record { plain = own.0; none = λ level. ap (λ (o : Option (List ℕ)). is_text (digits_of level) (level_part o)) plain.delivery },
    );
  }
    where
      four : (a b c d : Bool) → (a || b || c || d) ≡ false → (a ≡ false) × (b ≡ false) × (c ≡ false) × (d ≡ false)
      four true b c d fails = absurd (cc)
      four false true c d fails = absurd (cc)
      four false false true d fails = absurd (cc)
      four false false false true fails = absurd (cc)
      four false false false false fails = (refl, refl, refl, refl)

      own : (bytes_eq d.topic level_topic ≡ false) × (bytes_eq d.topic half_topic ≡ false) × (bytes_eq d.topic op_topic ≡ false) × (bytes_eq d.topic discard_topic ≡ false)
      own = four (bytes_eq d.topic level_topic) (bytes_eq d.topic half_topic) (bytes_eq d.topic op_topic) (bytes_eq d.topic discard_topic) plain.topic

  kept_storable : (half : Bool) (o : Option ℕ) → ((level : ℕ) → o ≡ Some level → (1 ≤ level) × (level ≤ 18)) → IsStorable segment (kind_in half o) (draft_by (kind_in half o) send.group d)
  kept_storable true o within_18 = half_storable
  kept_storable false None within_18 = plain_storable
  kept_storable false (Some level) within_18 = let in_range = within_18 level refl in delayed_storable level in_range.0 in_range.1

  pub storable : IsStorable segment (kind_of send) (draft_by (kind_of send) send.group d)
  storable = kept_storable (is_half_send send) (level_of send) (λ level is. named_level send level is)

-- what is asked of the disk stays
pub waits_stay : (kind : Kind) (group : List ℕ) (d : Draft) → waits (draft_by kind group d).props ≡ waits d.props
waits_stay Plain group d = refl
waits_stay (Delayed level) group d =
    ap (λ (v : Option (List ℕ)). not (is_word (codes "false") v))
    (value_of-other (codes "WAIT") (codes "REAL_QID") (digits_of d.queue) (with_prop (codes "REAL_TOPIC") d.topic d.props) (differ (codes "WAIT") (codes "REAL_QID") refl)
    ∙ value_of-other (codes "WAIT") (codes "REAL_TOPIC") d.topic d.props (differ (codes "WAIT") (codes "REAL_TOPIC") refl))
waits_stay Half group d =
    let kept = without (codes "DELAY") d.props in
    ap (λ (v : Option (List ℕ)). not (is_word (codes "false") v))
    (grouped_value group (with_real d.topic d.queue kept) (codes "WAIT") refl
    ∙ value_of-other (codes "WAIT") (codes "REAL_QID") (digits_of d.queue) (with_prop (codes "REAL_TOPIC") d.topic kept) (differ (codes "WAIT") (codes "REAL_QID") refl)
    ∙ value_of-other (codes "WAIT") (codes "REAL_TOPIC") d.topic kept (differ (codes "WAIT") (codes "REAL_TOPIC") refl)
    ∙ value_of-kept (codes "WAIT") (codes "DELAY") d.props (differ (codes "WAIT") (codes "DELAY") refl))
