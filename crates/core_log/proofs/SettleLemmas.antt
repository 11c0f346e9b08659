-- What is known of a half message of an origin's family, and of the records that settle the origin.
use Rattle.std.proofs.Common.{◌≡◌, ◌∙◌, refl, ap, sym, subst, arith, ℕ, zero, suc, ◌+◌, ◌^◌, ◌<◌, ◌≤◌, Bool, true, false, cond, List, [], ◌∷◌, ◌++◌, length, filter, find, map, slice_get, Option, Some, None}
use Rattle.std.specs.Prelude.{◌==◌, ◌&&◌, ◌||◌, is_none, option_map}
use Rattle.std.specs.Str.{bytes_eq}
use Rattle.std.specs.Str.Parse.{digits_value}
use Rattle.std.proofs.lemmas.Bool.{and_parts, eq-eqb, eqb-true, ne_eqb}
use Rattle.std.proofs.lemmas.List.{length-append, take_all}
use Rattle.std.proofs.lemmas.List.Elements.{filter-append}
use Rattle.std.proofs.lemmas.Option.{same_Some}
use Rattle.std.proofs.lemmas.Slice.Eq.{bytes_eq-Decides}
use Rattle.mq_bytes.specs.Decimal.{digits_of}
use Rattle.record_codec.specs.Entry.{Entry}
use Rattle.record_codec.specs.Layout.{IsRecord}
use Rattle.record_codec.specs.Drafts.{entry_of}
use Rattle.record_codec.specs.declared.draft.Draft.{Draft}
use Rattle.record_codec.specs.declared.draft.Place.{Place}
use Rattle.log_model.specs.declared.origin.OriginState.{OriginState}
use Rattle.log_model.specs.declared.origin.OriginState.TheVariants.{Open, Committed, RolledBack, Discarded}
use Rattle.log_model.specs.Admissible.{half_topic, IsAdmissible}
use Rattle.log_model.specs.Bases.{geometry}
use Rattle.log_model.specs.Drafts.{copy_draft, discard_draft, op_draft}
use Rattle.log_model.specs.Kinds.{is_half, is_op, is_text, origin_text}
use Rattle.log_model.specs.Log.{IsWellFormed, end_of}
use Rattle.log_model.specs.Numbered.{Log, place_end, queue_max, with_appended}
use Rattle.log_model.specs.Transactions.{family, is_origin, is_renewal}
use Rattle.half_view.specs.declared.row.HalfRow.{HalfRow}
use Rattle.half_view.specs.Halves.{HalfTable, names_or, family_in, family_at}
use Rattle.half_view.specs.OfLog.{AreHalvesOf, half_of, halves_in, named_by}
use Rattle.half_view.proofs.GrowthLemmas.{low_number}
use Rattle.half_view.proofs.ListLemmas.{find_here, get-map, get_within}
use Rattle.half_view.proofs.LogLemmas.{ends_past, kept_was, next_half, numbers, rising, rising_at, rising_kept}
use Rattle.half_view.proofs.NumberLemmas.{number_value}
use Rattle.half_view.proofs.OriginLemmas.{found_passes}
use Rattle.broker_model.specs.Lawful.{IsState}
use Rattle.broker_model.specs.State.{State}
use Rattle.made_records.specs.Made.{CanStand, IsOpOf}
use Rattle.made_records.proofs.CopyLemmas.{copy_stands, copy_kind}
use Rattle.made_records.proofs.DiscardLemmas.{discard_stands, discard_kind}
use Rattle.made_records.proofs.OpLemmas.{op_stands, op_kind}
use Rattle.made_records.proofs.TableLemmas.{copy_settles, discard_settles}
use Rattle.core_log.specs.Appends.{SettlesAs}
use Rattle.core_log.specs.Settles.{IsCopyBy, IsSettling}

-- ---- lists

-- what is found is there
pub found_at : (p : Entry → Bool) (xs : List Entry) (x : Entry) → find p xs ≡ Some x → (k : ℕ) × (slice_get xs k ≡ Some x)
found_at p [] x found = cc found
found_at p (y ∷ xs) x found = by_test (λ there. found_at p xs x there) (p y) found
  where
    by_test : (find p xs ≡ Some x → (k : ℕ) × (slice_get xs k ≡ Some x)) → (b : Bool) → cond b (Some y) (find p xs) ≡ Some x → (k : ℕ) × (slice_get (y ∷ xs) k ≡ Some x)
    by_test rest true here = (0, here)
    by_test rest false there = let at = rest there in (suc at.0, at.1)

-- what passes a filter is among what it keeps
pub stays_in : (p : Entry → Bool) (xs : List Entry) (k : ℕ) (x : Entry) → slice_get xs k ≡ Some x → p x ≡ true → (j : ℕ) × (slice_get (filter p xs) j ≡ Some x)
stays_in p [] k x at is = cc at
stays_in p (y ∷ xs) zero x at is =
    let same : y ≡ x = same_Some y x at in
    (0, ap (λ (b : Bool). slice_get (cond b (y ∷ filter p xs) (filter p xs)) 0) (ap p same ∙ is) ∙ at)
stays_in p (y ∷ xs) (suc k) x at is = by_test (stays_in p xs k x at is) (p y)
  where
    by_test : ((j : ℕ) × (slice_get (filter p xs) j ≡ Some x)) → (b : Bool) → (j : ℕ) × (slice_get (cond b (y ∷ filter p xs) (filter p xs)) j ≡ Some x)
    by_test there true = (suc there.0, there.1)
    by_test there false = there

-- what one test finds another one finds, which nothing else passes
pub found_alone : (p q : Entry → Bool) (xs : List Entry) (x : Entry) → find p xs ≡ Some x → q x ≡ true → ((k : ℕ) (y : Entry) → slice_get xs k ≡ Some y → q y ≡ true → y ≡ x) → find q xs ≡ Some x
found_alone p q [] x found is alone = cc found
found_alone p q (y ∷ xs) x found is alone = by_tests (λ there. found_alone p q xs x there is (λ k z at. alone (suc k) z at)) (p y) (q y) refl found
  where
    by_tests : (find p xs ≡ Some x → find q xs ≡ Some x) → (a b : Bool) → q y ≡ b → cond a (Some y) (find p xs) ≡ Some x → cond b (Some y) (find q xs) ≡ Some x
    by_tests rest a true passes here = ap (λ (z : Entry). Some z) (alone 0 y refl passes)
    by_tests rest true false fails here =
        let same : y ≡ x = same_Some y x here in
        let bad : false ≡ true = sym fails ∙ ap q same ∙ is in
        cc bad
    by_tests rest false false fails here = rest here

mapped : (log : Log) (o : Option Entry) (row : HalfRow) → option_map (half_of log) o ≡ Some row → (e : Entry) × (o ≡ Some e) × (row ≡ half_of log e)
mapped log None row is = cc is
mapped log (Some e) row is = (e, refl, cc is)

or_false : (b : Bool) → (b || false) ≡ b
or_false true = refl
or_false false = refl

-- ---- half messages

module _ (S : ℕ) (log : Log) (well : IsWellFormed (geometry S log.base) log.records) where
  -- two half messages with one queue offset are one
  pub one_half : (k j : ℕ) (x y : Entry) → slice_get log.records k ≡ Some x → slice_get log.records j ≡ Some y → is_half x ≡ true → is_half y ≡ true → x.queue_offset ≡ y.queue_offset → x ≡ y
  one_half k j x y at there half too same =
      let i = stays_in is_half log.records k x at half in
      let l = stays_in is_half log.records j y there too in
      let n = numbers (geometry S log.base) log.records well i.0 x i.1 in
      let m = numbers (geometry S log.base) log.records well l.0 y l.1 in
      let equal : i.0 ≡ l.0 = omega (arith, n, m, same) in
      same_Some x y (sym i.1 ∙ ap (λ (h : ℕ). slice_get (filter is_half log.records) h) equal ∙ l.1)

  -- a half message has a lower queue offset than the next one
  pub half_low : (k : ℕ) (x : Entry) → slice_get log.records k ≡ Some x → is_half x ≡ true → x.queue_offset < queue_max log half_topic 0
  half_low k x at half =
      let i = stays_in is_half log.records k x at half in
      let n = numbers (geometry S log.base) log.records well i.0 x i.1 in
      let end = next_half (geometry S log.base) log.records well in
      let within = get_within (filter is_half log.records) i.0 x i.1 in
      omega (arith, n, end, within)

-- ---- queues

-- a record of another topic leaves the next queue offset
pub queue_other : (log : Log) (r : Entry) (topic : List ℕ) (queue : ℕ) → bytes_eq r.topic topic ≡ false → queue_max (with_appended log (r ∷ [])) topic queue ≡ queue_max log topic queue
queue_other log r topic queue apart =
    let test : Entry → Bool = λ x. bytes_eq x.topic topic && (x.queue == queue) in
    let low = log.base.queues topic queue in
    let none = length-append (filter test log.records) [] in
    ap (λ (l : List Entry). low + length l) (filter-append test log.records (r ∷ []))
    ∙ ap (λ (b : Bool). low + length (filter test log.records ++ cond (b && (r.queue == queue)) (r ∷ []) [])) apart
    ∙ omega (arith, none)

-- ---- an origin

module _ (s : State) (origin : ℕ) (first : Entry) (is : IsState s) (named : find (is_origin origin) s.log.records ≡ Some first) where
  first_at : (k : ℕ) × (slice_get s.log.records k ≡ Some first)
  first_at = found_at (is_origin origin) s.log.records first named

  first_is : ((is_half first && is_none (origin_text first)) ≡ true) × ((first.queue_offset == origin) ≡ true)
  first_is = and_parts (is_half first && is_none (origin_text first)) (first.queue_offset == origin) (found_passes (is_origin origin) s.log.records first named)

  pub number : first.queue_offset ≡ origin
  number = eqb-true first.queue_offset origin first_is.1

  pub low : origin < 2 ^ 62
  low = let few = low_number first (is.log.each first_at.0 first first_at.1).layout in let same = number in omega (arith, few, same)

  pub earlier : origin < queue_max s.log half_topic 0
  earlier =
      let same = number in
      let less = half_low s.setup.segment s.log is.log first_at.0 first first_at.1 (and_parts (is_half first) (is_none (origin_text first)) first_is.0).0 in
      omega (arith, same, less)

  -- its op record may stand anywhere
  pub op_may : (now halves : ℕ) (p : Place) → now < 2 ^ 62 → origin < halves → CanStand s.setup.segment halves (op_draft s.setup.host now origin) p
  op_may now halves p time there = op_stands s.setup.segment halves now origin s.setup.host p is.log.segment.low time there low

  pub op_is_its : (now : ℕ) (p : Place) → now < 2 ^ 62 → IsOpOf origin (entry_of (op_draft s.setup.host now origin) p)
  op_is_its now p time = op_kind s.setup.segment (queue_max s.log half_topic 0) now origin s.setup.host p is.log.segment.low time earlier low

-- ---- one of the family of an origin

of_half : (a b c d : Bool) → ((a && b && c) || (a && d)) ≡ true → a ≡ true
of_half true b c d is = refl
of_half false b c d is = is

of_names : (a : Bool) (own origin : ℕ) (text : Option (List ℕ)) → origin < 2 ^ 64 → ((a && is_none text && (own == origin)) || (a && is_text (digits_of origin) text)) ≡ true
    → names_or own (option_map (digits_value 10) text) ≡ origin
of_names true own origin None low is = eqb-true own origin (sym (or_false (own == origin)) ∙ is)
of_names true own origin (Some text) low is = ap (digits_value 10) ((bytes_eq-Decides text (digits_of origin)).0 is) ∙ number_value origin low
of_names false own origin text low is = cc is

module _ (s : State) (origin : ℕ) (half first : Entry) (is : IsState s) (named : find (is_origin origin) s.log.records ≡ Some first) (stands : find (λ r. r.queue_offset == half.queue_offset) (family s.log.records origin) ≡ Some half) where
  abbrev test : Entry → Bool
  test r = is_origin origin r || is_renewal origin r

  at : (k : ℕ) × (slice_get s.log.records k ≡ Some half) × (test half ≡ true)
  at = let it = found_at (λ r. r.queue_offset == half.queue_offset) (family s.log.records origin) half stands in
      kept_was test s.log.records it.0 half it.1

  pub a_half : is_half half ≡ true
  a_half = of_half (is_half half) (is_none (origin_text half)) (half.queue_offset == origin) (is_text (digits_of origin) (origin_text half)) at.2

  pub layout : IsRecord half
  layout = (is.log.each at.0 half at.1).layout

  pub may : IsAdmissible s.setup.segment half
  may = (is.log.each at.0 half at.1).admissible

  pub before : half.offset < place_end s.log
  before =
      let all = ap (λ (l : List Entry). end_of s.log.base l) (take_all (length s.log.records) s.log.records (omega arith)) in
      let ends = ends_past (geometry s.setup.segment s.log.base) s.log.records is.log (length s.log.records) (omega arith) at.0 half (get_within s.log.records at.0 half at.1) at.1 in
      omega (arith, ends, all)

  names : names_or half.queue_offset (named_by half) ≡ origin
  names = let few = low s origin first is named in of_names (is_half half) half.queue_offset origin (origin_text half) (omega (arith, few)) at.2

  -- the table has the origin for it
  pub its_family : (t : HalfTable) → AreHalvesOf s.log t → family_at t half.offset ≡ Some origin
  its_family t are =
      let xs = halves_in s.log in
      let i = stays_in is_half s.log.records at.0 half at.1 a_half in
      let rises = rising_kept is_half s.log.records (rising (geometry s.setup.segment s.log.base) s.log.records is.log) in
      let here : slice_get (map (half_of s.log) xs) i.0 ≡ Some (half_of s.log half) = get-map (half_of s.log) xs i.0 ∙ ap (option_map (half_of s.log)) i.1 in
      ap (λ (rows : List HalfRow). family_in rows half.offset) are.halves
      ∙ ap (option_map (λ (row : HalfRow). row.names)) (find_here (λ (row : HalfRow). row.place == half.offset) (map (half_of s.log) xs) i.0 (half_of s.log half) here (eq-eqb half.offset half.offset refl)
      (λ j row less there.
      let e = mapped s.log (slice_get xs j) row (sym (get-map (half_of s.log) xs j) ∙ there) in
      let lower = rising_at xs rises j i.0 e.0 half less e.1 i.1 in
      ne_eqb row.place half.offset (λ same. let place = ap (λ (x : HalfRow). x.place) e.2 in omega (arith, lower, same, place))))
      ∙ ap (λ (n : ℕ). Some n) names

-- ---- the copy of a half message, and its op record

-- the record of the copy may stand there, and settles the origin
pub record Copies (S halves : ℕ) (t : HalfTable) (origin : ℕ) (how : OriginState) (copy : Draft) (p : Place) : Type 0 where
  pub stands : CanStand S halves copy p
  pub settles : SettlesAs t origin how (entry_of copy p)
  pub op : is_op (entry_of copy p) ≡ false

module _ (s : State) (now origin : ℕ) (how : OriginState) (half : Entry) (copy op : Draft) (is : IsState s) (it : IsSettling s now origin how half copy op) where
  abbrev host : List ℕ
  host = s.setup.host

  copies_by : (halves : ℕ) (t : HalfTable) (p : Place) → family_at t half.offset ≡ Some origin → half.offset < p.offset → (by : OriginState) (d : Draft) → IsCopyBy by host half d → Copies s.setup.segment halves t origin by d p
  copies_by halves t p own past Open d is_by = absurd is_by
  copies_by halves t p own past RolledBack d is_by = absurd is_by
  copies_by halves t p own past Committed d is_by =
      let lay = layout s origin half it.first is it.named it.stands in
      let fits = may s origin half it.first is it.named it.stands in
      let is_half_message = a_half s origin half it.first is it.named it.stands in
      let kind = copy_kind s.setup.segment halves half host p lay fits is_half_message past in
      subst (λ (x : Draft). Copies s.setup.segment halves t origin Committed x p) (sym is_by) (record {
        stands = copy_stands s.setup.segment halves half host p lay fits is_half_message past;
        settles = record { half = kind.half; other = kind.other; settles = λ number. copy_settles t half (entry_of (copy_draft host half) p) origin number kind own };
        op = kind.op;
      })
  copies_by halves t p own past Discarded d is_by =
      let lay = layout s origin half it.first is it.named it.stands in
      let fits = may s origin half it.first is it.named it.stands in
      let is_half_message = a_half s origin half it.first is it.named it.stands in
      let kind = discard_kind s.setup.segment halves half host p lay fits is_half_message is_by.1 past in
      subst (λ (x : Draft). Copies s.setup.segment halves t origin Discarded x p) (sym is_by.0) (record {
        stands = discard_stands s.setup.segment halves half host p lay fits is_half_message is_by.1 past;
        settles = record { half = kind.half; other = kind.other; settles = λ number. discard_settles t half (entry_of (discard_draft host half) p) origin number kind own };
        op = kind.op;
      })

  -- the copy, at a place behind the log
  pub copies : (halves : ℕ) (t : HalfTable) (p : Place) → AreHalvesOf s.log t → place_end s.log ≤ p.offset → Copies s.setup.segment halves t origin how copy p
  copies halves t p are behind =
      let past = before s origin half it.first is it.named it.stands in
      copies_by halves t p (its_family s origin half it.first is it.named it.stands t are) (omega (arith, past, behind)) how copy it.copy_is

  -- wherever it stands it is no op record
  no_op_by : (p : Place) → half.offset < p.offset → (by : OriginState) (d : Draft) → IsCopyBy by host half d → is_op (entry_of d p) ≡ false
  no_op_by p past Open d is_by = absurd is_by
  no_op_by p past RolledBack d is_by = absurd is_by
  no_op_by p past Committed d is_by =
      subst (λ (x : Draft). is_op (entry_of x p) ≡ false) (sym is_by)
      (copy_kind s.setup.segment 0 half host p (layout s origin half it.first is it.named it.stands) (may s origin half it.first is it.named it.stands) (a_half s origin half it.first is it.named it.stands) past).op
  no_op_by p past Discarded d is_by =
      subst (λ (x : Draft). is_op (entry_of x p) ≡ false) (sym is_by.0)
      (discard_kind s.setup.segment 0 half host p (layout s origin half it.first is it.named it.stands) (may s origin half it.first is it.named it.stands) (a_half s origin half it.first is it.named it.stands) is_by.1 past).op

  pub copy_is_no_op : (p : Place) → half.offset < p.offset → is_op (entry_of copy p) ≡ false
  copy_is_no_op p past = no_op_by p past how copy it.copy_is
