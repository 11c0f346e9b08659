-- Delayed messages are delivered in order, each once.
use Rattle.std.proofs.Common.{◌≡◌, ◌⊎◌, inl, inr, refl, ap, sym, ◌∙◌, subst, arith, ℕ, zero, suc, ◌+◌, ◌-◌, ◌<◌, ◌≤◌, ◌^◌, List, [], ◌∷◌, ◌++◌, length, take, drop, slice_get, true, Option, Some, None, option_map}
use Rattle.std.specs.Prelude.{codes}
use Rattle.std.specs.List.{count_by}
use Rattle.std.proofs.lemmas.Bool.{cases_order}
use Rattle.std.proofs.lemmas.List.{take_all}
use Rattle.std.proofs.lemmas.Option.{same_Some}
use Rattle.mq_bytes.specs.Decimal.{digits_of}
use Rattle.record_codec.specs.Entry.{Entry}
use Rattle.record_codec.specs.Props.{value_of}
use Rattle.log_model.specs.Admissible.{level_topic}
use Rattle.log_model.specs.Bases.{Base}
use Rattle.log_model.specs.Delays.{progress}
use Rattle.log_model.specs.Drafts.{delivery_text}
use Rattle.log_model.specs.Kinds.{is_delivery, is_text, level_part}
use Rattle.log_model.specs.Numbered.{Log, with_appended, above, below, item_at, queue_min}
use Rattle.log_model.specs.Queues.{queue_of}
use Rattle.broker_model.specs.State.{State}
use Rattle.broker_model.specs.Events
use Rattle.broker_model.specs.Appended.{made_by}
use Rattle.broker_model.specs.Removal.{IsBaseAfter}
use Rattle.broker_model.specs.Run.{Boot, Move, Steps, SavesOffsets, SavesTopics, SavesBase, Crashes, Goes, RunWith}
use Rattle.core_laws.specs.Sound.{IsSound}
use Rattle.core_laws.specs.Delays.{Delivers, IsDeliveryOf, front, InOrder}
use Rattle.core_laws.specs.Kept.{IsKept, IsKeptBoot}
use Rattle.core_laws.specs.LogSteps.{LogStep}
use Rattle.core_laws.proofs.Bases.{take_plus, base_same, count_level}
use Rattle.core_laws.proofs.Counts.{count_before}
use Rattle.core_laws.proofs.DeliveryTexts.{text_parts, same_delivery}
use Rattle.core_laws.proofs.Items.{queue_on, item_slice, slice_item, item_later}
use Rattle.core_laws.proofs.Lists.{get_append, get_take, take_get, drop_get, within, take_left, take_take_less, length_take}
use Rattle.core_laws.proofs.Marks.{NoMarks, IsDelivered, event_marks, none_marked}
use Rattle.core_laws.proofs.KeptRuns.{step_log, goes_kept}
use Rattle.core_laws.proofs.Texts.{text_equal}

-- ---- the order

-- the same front of another log over the same base
moved : (log other : Log) (i level number : ℕ) (r : Entry) → log.base ≡ other.base → take i log.records ≡ take i other.records
    → (number ≡ progress (front log i) level)
    × ((number < queue_min log level_topic (level - 1)) ⊎ ((item : Entry) × (item_at (front log i) level_topic (level - 1) number ≡ Some item) × IsDeliveryOf level number item r))
    → (number ≡ progress (front other i) level)
    × ((number < queue_min other level_topic (level - 1)) ⊎ ((item : Entry) × (item_at (front other i) level_topic (level - 1) number ≡ Some item) × IsDeliveryOf level number item r))
moved log other i level number r base records o =
    let same : front log i ≡ front other i = ap (λ (b : Base). record { base = b; records = take i log.records }) base ∙ ap (λ (l : List Entry). record { base = other.base; records = l }) records in (
      o.0 ∙ ap (λ (l : Log). progress l level) same,
      elim o.1 [
        | inl gone ↦ inl (subst (λ (b : Base). number < b.queues level_topic (level - 1)) base gone)
        | inr there ↦ inr (there.0, subst (λ (l : Log). item_at l level_topic (level - 1) number ≡ Some there.0) same there.1, there.2)
      ],
    )

order_below : (log : Log) (n : ℕ) → InOrder log → InOrder (below log n)
order_below log n order = λ i level number r at low high small is.
    let h = get_take (n - log.base.records) i log.records r at in
    moved log (below log n) i level number r refl (sym (take_take_less i (n - log.base.records) log.records (omega (arith, h.1)))) (order i level number r h.0 low high small is)

-- what is left is in order over what was removed
order_above : (log : Log) (later : Base) (n : ℕ) → n ≤ length log.records → IsBaseAfter log.base (take n log.records) later → InOrder log → InOrder (above log later)
order_above log later n long counts order =
    let number_is : later.records - log.base.records ≡ n = omega (arith, counts.records, length_take n log.records long) in
    subst (λ (m : ℕ). InOrder (record { base = later; records = drop m log.records })) (sym number_is) (λ i level number r at low high small is.
    let o = order (n + i) level number r (drop_get n i log.records r at) low high small is in
    let split : take (n + i) log.records ≡ take n log.records ++ take i (drop n log.records) = take_plus n i log.records in (
      omega (
        arith,
        o.0,
        counts.levels level low high,
        count_level (take n log.records) (take i (drop n log.records)) level,
        ap (λ (l : List Entry). count_by (is_delivery level) l) split,
      ),
      elim o.1 [
        | inl gone ↦ inl (omega (arith, gone, counts.queues level_topic (level - 1)))
        | inr there ↦ left i level number r there.0 split there.1 there.2
      ],
    ))
  where
    rest : ℕ → Log
    rest i = record { base = later; records = take i (drop n log.records) }

    left : (i level number : ℕ) (r item : Entry) → take (n + i) log.records ≡ take n log.records ++ take i (drop n log.records)
        → item_at (front log (n + i)) level_topic (level - 1) number ≡ Some item → IsDeliveryOf level number item r
        → (number < later.queues level_topic (level - 1)) ⊎ ((x : Entry) × (item_at (rest i) level_topic (level - 1) number ≡ Some x) × IsDeliveryOf level number x r)
    left i level number r item split at of =
        let q : ℕ = level - 1 in
        let h = item_slice (front log (n + i)) level_topic q number item at in
        let gone : List Entry = queue_of (take n log.records) level_topic q in
        let here : List Entry = queue_of (take i (drop n log.records)) level_topic q in
        let whole : queue_of (take (n + i) log.records) level_topic q ≡ gone ++ here =
        ap (λ (l : List Entry). queue_of l level_topic q) split ∙ queue_on (take n log.records) (take i (drop n log.records)) level_topic q in
        let both : slice_get (gone ++ here) (number - log.base.queues level_topic q) ≡ Some item =
        subst (λ (l : List Entry). slice_get l (number - log.base.queues level_topic q) ≡ Some item) whole h.1 in
        elim (get_append gone here (number - log.base.queues level_topic q) item both) [
          | inl before ↦ inl (omega (arith, within gone (number - log.base.queues level_topic q) item before, h.0, counts.queues level_topic q))
          | inr behind ↦
              let index : number - later.queues level_topic q ≡ behind.0 = omega (arith, behind.1, h.0, counts.queues level_topic q) in
              inr (
                item,
                slice_item (rest i) level_topic q number item (omega (arith, behind.1, h.0, counts.queues level_topic q))
                    (subst (λ (k : ℕ). slice_get here k ≡ Some item) (sym index) behind.2),
                of,
              )
        ]

-- ---- steps

fresh_order : (s : State) (e : Events.Event) (d : IsDelivered s e) (i level number : ℕ) (r : Entry) → slice_get (made_by s e) i ≡ Some r → level ≤ 18 → number < 2 ^ 64 → Delivers level number r
    → (i ≡ 0) × (number ≡ progress s.log level) × ((item : Entry) × (item_at s.log level_topic (level - 1) number ≡ Some item) × IsDeliveryOf level number item r)
fresh_order s e d i level number r at high small is = first i (subst (λ (l : List Entry). slice_get l i ≡ Some r) d.made at)
  where
    first : (i : ℕ) → slice_get (d.copy ∷ []) i ≡ Some r
        → (i ≡ 0) × (number ≡ progress s.log level) × ((item : Entry) × (item_at s.log level_topic (level - 1) number ≡ Some item) × IsDeliveryOf level number item r)
    first zero got =
        let same : d.copy ≡ r = same_Some d.copy r got in
        let text = same_Some (delivery_text d.level (progress s.log d.level)) (delivery_text level number)
        (sym d.marked ∙ (ap (λ (x : Entry). value_of (codes "DELAY_FROM") x.props) same ∙ is)) in
        let both = same_delivery d.level (progress s.log d.level) level number (omega (arith, d.high)) d.small (omega (arith, high)) small text in
        let item = item_later s.log (s.dispatched - s.log.base.records) level_topic (d.level - 1) (progress s.log d.level) d.item d.seen in (
          refl,
          sym both.1 ∙ ap (λ (v : ℕ). progress s.log v) both.0,
          (
            d.item,
            subst (λ (n : ℕ). item_at s.log level_topic (level - 1) n ≡ Some d.item) both.1
                (subst (λ (v : ℕ). item_at s.log level_topic (v - 1) (progress s.log d.level) ≡ Some d.item) both.0 item),
            subst (λ (x : Entry). IsDeliveryOf level number d.item x) same (subst (λ (n : ℕ). IsDeliveryOf level n d.item d.copy) both.1
                (subst (λ (v : ℕ). IsDeliveryOf v (progress s.log d.level) d.item d.copy) both.0 d.of)),
          ),
        )
    first (suc n) got = absurd (cc)

order_more : (s : State) (e : Events.Event) → NoMarks s e ⊎ IsDelivered s e → InOrder s.log → InOrder (with_appended s.log (made_by s e))
order_more s e marks order = λ i level number r at low high small is. elim (get_append s.log.records (made_by s e) i r at) [
  | inl old ↦ moved s.log (with_appended s.log (made_by s e)) i level number r refl
      (sym (take_left i s.log.records (made_by s e) (omega (arith, within s.log.records i r old)))) (order i level number r old low high small is)
  | inr fresh ↦ elim marks [
    | inl none ↦ absurd (let a = none_marked s e none fresh.0 r fresh.2 in let e : None ≡ Some (delivery_text level number) = sym a ∙ is in cc)
    | inr d ↦
        let o = fresh_order s e d fresh.0 level number r fresh.2 high small is in
        let end : i ≡ length s.log.records = omega (arith, fresh.1, o.0) in
        let all : take i (s.log.records ++ made_by s e) ≡ s.log.records = ap (λ (n : ℕ). take n (s.log.records ++ made_by s e)) end
        ∙ (take_left (length s.log.records) s.log.records (made_by s e) (omega arith) ∙ take_all (length s.log.records) s.log.records (omega arith)) in
        let same : s.log ≡ front (with_appended s.log (made_by s e)) i = ap (λ (l : List Entry). record { base = s.log.base; records = l }) (sym all) in (
          o.1 ∙ ap (λ (l : Log). progress l level) same,
          inr (o.2.0, subst (λ (l : Log). item_at l level_topic (level - 1) number ≡ Some o.2.0) same o.2.1, o.2.2),
        )
  ]
]

step_order : (s t : State) (e : Events.Event) → 0 < s.setup.segment → IsSound s → IsKept s.log → LogStep s e t → InOrder s.log → InOrder t.log
step_order s t e some sound kept (inl same) order = subst InOrder (sym same) order
step_order s t e some sound kept (inr (inl grows)) order = subst InOrder (sym grows.log) (order_more s e (event_marks s e some kept grows.fine) order)
step_order s t e some sound kept (inr (inr cut)) order =
    subst InOrder (sym cut.log) (order_above s.log s.saved.base sound.ahead (omega (arith, sound.within, sound.dispatched, sound.flushed)) sound.saved order)

pub goes_order : (b : Boot) (move : Move) (c : Boot) → IsKeptBoot b → Goes b move c → InOrder b.now.log → InOrder c.now.log
goes_order b (Steps e said) c kept goes order =
    step_order b.now c.now e kept.segment kept.sound.state (kept.logs b.now (inl refl)) (step_log b.now c.now e said goes.0) order
goes_order b SavesOffsets c kept goes order = subst (λ (x : Boot). InOrder x.now.log) (sym goes.2) order
goes_order b SavesTopics c kept goes order = subst (λ (x : Boot). InOrder x.now.log) (sym goes.2) order
goes_order b (SavesBase base) c kept goes order = subst (λ (x : Boot). InOrder x.now.log) (sym goes.4) order
goes_order b (Crashes k setup) c kept goes order =
    let s : State = b.now in
    let sound = kept.sound.state in
    let front_low : sound.ahead ≤ k - s.log.base.records = omega (arith, sound.within, sound.dispatched, goes.0.no_less) in
    subst (λ (x : Boot). InOrder x.now.log) (sym goes.1) (order_above (below s.log k) s.saved.base sound.ahead
    (omega (arith, length_take (k - s.log.base.records) s.log.records (omega (arith, goes.0.no_more)), front_low))
    (base_same s.log.base s.saved.base _ _ (sym (take_take_less sound.ahead (k - s.log.base.records) s.log.records front_low)) sound.saved) (order_below s.log k order))

pub run_order : (P : Boot → Move → Boot → Type 0) (b : Boot) (moves : List Move) (c : Boot) → IsKeptBoot b → RunWith P b moves c → InOrder b.now.log → InOrder c.now.log
run_order P b [] c kept run order = subst (λ (x : Boot). InOrder x.now.log) (sym run) order
run_order P b (move ∷ moves) c kept run order = run_order P run.0 moves c (goes_kept b move run.0 kept run.1) run.3 (goes_order b move run.0 kept run.1 order)

-- ---- once

-- a delivery counts for its level
delivers_level : (level number : ℕ) (r : Entry) → level < 2 ^ 64 → Delivers level number r → is_delivery level r ≡ true
delivers_level level number r low is =
    let part : level_part (value_of (codes "DELAY_FROM") r.props) ≡ Some (digits_of level) = ap (λ (o : Option (List ℕ)). level_part o) is
    ∙ ap (λ (o : Option (List ℕ × List ℕ)). option_map (λ p. p.0) o) (text_parts level number low) in
    ap (λ (o : Option (List ℕ)). is_text (digits_of level) o) part ∙ text_equal (digits_of level) (digits_of level) refl

-- one delivery of each number
pub one_delivery : (log : Log) (i k level number : ℕ) (x y : Entry) → InOrder log → slice_get log.records i ≡ Some x → slice_get log.records k ≡ Some y
    → 1 ≤ level → level ≤ 18 → number < 2 ^ 64 → Delivers level number x → Delivers level number y → i ≡ k
one_delivery log i k level number x y order at_i at_k low high small x_is y_is = elim (cases_order i k) [
  | inl same ↦ same
  | inr other ↦ absurd (apart other)
]
  where
    more : (a b : ℕ) (r : Entry) → a < b → slice_get log.records a ≡ Some r → Delivers level number r → progress (front log a) level < progress (front log b) level
    more a b r less at is = omega (
      arith,
      count_before (is_delivery level) (take b log.records) a r (take_get b a log.records r less at) (delivers_level level number r (omega (arith, high)) is),
      ap (λ (l : List Entry). count_by (is_delivery level) l) (take_take_less a b log.records (omega (arith, less))),
    )

    apart : (i < k) ⊎ (k < i) → ⊥
    apart (inl less) = omega (arith, more i k x less at_i x_is, (order i level number x at_i low high small x_is).0, (order k level number y at_k low high small y_is).0)
    apart (inr less) = omega (arith, more k i y less at_k y_is, (order i level number x at_i low high small x_is).0, (order k level number y at_k low high small y_is).0)
