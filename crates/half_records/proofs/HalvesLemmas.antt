-- The half messages of a log with one record more.
use Rattle.std.proofs.Common.{◌≡◌, ◌∙◌, inl, inr, ℕ, ◌+◌, ◌<◌, ◌&&◌, ◌||◌, Bool, true, false, cond, List, [], ◌∷◌, ◌++◌, length, slice_get, Option, Some, None, refl, sym, ap, subst, arith, append-nil}
use Rattle.std.specs.Prelude.{nat_eq, not, is_none, IfSome, option_map}
use Rattle.std.specs.Str.Parse.{digits_value}
use Rattle.std.proofs.lemmas.Bool.{eqb-true, eq-eqb, ne_eqb}
use Rattle.std.proofs.lemmas.List.{length_push}
use Rattle.std.proofs.lemmas.List.Elements.{filter-append}
use Rattle.mq_bytes.specs.Decimal.{digits_of}
use Rattle.record_codec.specs.Entry.{Entry}
use Rattle.log_model.specs.Bases.{geometry}
use Rattle.log_model.specs.Kinds.{is_half, is_text, origin_text}
use Rattle.log_model.specs.Log.{Follows, IsWellFormed}
use Rattle.log_model.specs.Numbered.{Log, with_appended}
use Rattle.log_model.specs.Transactions.{family, is_origin, is_renewal, is_settled}
use Rattle.half_view.specs.declared.row.HalfRow.{HalfRow}
use Rattle.log_model.specs.declared.origin.OriginState.{OriginState}
use Rattle.half_view.specs.Halves.{HalfTable, is_open, settled_row, with_half, with_settled}
use Rattle.half_view.specs.OfLog.{AreHalvesOf, half_of, halves_in, named_by}
use Rattle.half_view.proofs.DueLemmas.{each_half, open_is, row_there}
use Rattle.half_view.proofs.GrowthLemmas.{half_follows, low-changed, new_is_open, own_next, own_number, own_small, small_number, state_stays, unrenewed_itself}
use Rattle.half_view.proofs.ListLemmas.{at_push, get-map, get_within}
use Rattle.half_view.proofs.LogLemmas.{kept_was, names_earlier, no_family}
use Rattle.half_view.proofs.NumberLemmas.{names, renewal_names}
use Rattle.half_records.specs.declared.halves.Halves.{Halves}
use Rattle.half_records.specs.declared.names.Names.{Names}
use Rattle.half_records.specs.Kept.{KeptRow, AreKeptWith, IsKeptWith}
use Rattle.half_records.specs.Names.{AreApart, KeepsNumbers}
use Rattle.half_records.specs.OfLog.{HasHalves, IsKeptOf, KeepsFamilies, open_family, table_family}
use Rattle.half_records.specs.Tables.{StandsAs, is_open_at, renewed_family, settled_family}
use Rattle.half_records.proofs.ListLemmas.{push_front, push_last}
use Rattle.half_records.proofs.OpenLemmas.{open_before, open_in, open_other}

-- ---- what is kept, by its parts

-- the same of another family
pub kept_of : (old new : Names) (props : List (List ℕ × List ℕ)) (fam now : List Entry) (x y : KeptRow) → KeepsNumbers old new → IsKeptOf old props fam x → IsKeptWith now x y → IsKeptOf new props now y
kept_of old new props fam now x y numbers is with = record {
  group = numbers _ x.group is.group ∙ ap (λ (n : ℕ). Some n) (sym with.group);
  id = with.id ∙ is.id;
  family = with.family;
}

pub keeps_numbers : (old new : Names) → new ≡ old → KeepsNumbers old new
keeps_numbers old new same name n is = ap (λ (names : Names). number names name) same ∙ is
  where
    number : Names → List ℕ → Option ℕ
    number names name = Rattle.half_records.specs.Names.number_of names name

-- ---- nothing but room has changed

pub stands : (log : Log) (old new : Halves) → StandsAs old new → HasHalves log old → HasHalves log new
stands log old new same has = record {
  view = record { low = same.low ∙ has.view.low; halves = same.halves ∙ has.view.halves };
  first = same.first ∙ has.first ∙ sym same.low;
  long = same.kept.long ∙ has.long;
  each = λ k r got.
      (let was = has.each k r got in
      let is = same.kept.each k was.0 was.1 in (
        is.0,
        is.1,
        kept_of old.groups new.groups r.props (open_family log.records r) (open_family log.records r) was.0 is.0 same.numbers was.2
            (subst (λ (fam : List Entry). IsKeptWith fam was.0 is.0) was.2.family is.2),
      ));
  names = same.apart has.names;
}

-- ---- lists and tests

none_mapped : (o : Option (List ℕ)) → is_none o ≡ is_none (option_map (digits_value 10) o)
none_mapped None = refl
none_mapped (Some text) = refl

or_none : (a b : Bool) → ((a && false) || b) ≡ b
or_none true b = refl
or_none false b = refl

just_one : (a : Bool) → ((a && true) || false) ≡ a
just_one true = refl
just_one false = refl

both_choices : (a : Bool) (xs : List Entry) → cond (a && true) (cond a xs []) [] ≡ cond a xs []
both_choices true xs = refl
both_choices false xs = refl

and_when : (b x y : Bool) → (b ≡ true → x ≡ y) → (b && x) ≡ (b && y)
and_when true x y same = same refl
and_when false x y same = refl

-- ---- an origin is settled

settled_by : (half number : ℕ) (fam fams : List Entry) (same now before : Bool) → fam ≡ cond before fams [] → (same ≡ true → now ≡ true → before ≡ true)
    → cond same (cond now fam []) fam ≡ cond (cond same now before) fams []
settled_by half number fam fams true true before is was = is ∙ ap (λ (b : Bool). cond b fams []) (was refl refl)
settled_by half number fam fams true false before is was = refl
settled_by half number fam fams false now before is was = is

-- what is kept then are the families of those that are open origins then
pub settled_keeps : (log : Log) (old new : Halves) (half number : ℕ) (how : OriginState) → new.view ≡ with_settled old.view (Some half) how number → new.first ≡ old.first → new.groups ≡ old.groups
    → AreKeptWith (settled_family old.first new.view half) old.kept.items new.kept.items → KeepsFamilies log old → KeepsFamilies log new
settled_keeps log old new half number how view first groups kept keeps = record {
  first = first ∙ keeps.first ∙ sym (ap (λ (t : HalfTable). t.low) view ∙ low-changed (settled_row how number) half old.view);
  long = kept.long ∙ keeps.long;
  numbers = λ k r got. keeps.numbers k r got ∙ ap (λ (n : ℕ). n + k) (sym first);
  each = λ k r got.
      (let was = keeps.each k r got in
      let is = kept.each k was.0 was.1 in
      let q = r.queue_offset in
      let number_is : q ≡ old.first + k = keeps.numbers k r got in
      let fams = family log.records q in
      let now = is_open_at new.view q in
      let before = is_open_at old.view q in
      let as_settled : (h : ℕ) → is_open_at new.view h ≡ is_open_at (with_settled old.view (Some half) how number) h = (λ h. ap (λ (t : HalfTable). is_open_at t h) view) in
      let right : cond (nat_eq half q) (cond (is_open_at new.view half) was.0.family []) was.0.family ≡ cond now fams [] =
      choice (nat_eq half q) (is_open_at new.view half) now was.0.family (λ same. ap (λ (h : ℕ). is_open_at new.view h) (eqb-true half q same))
      ∙ settled_by half number was.0.family fams (nat_eq half q) now before was.2.family
      (λ same opens. let one = eqb-true half q same in ap (λ (h : ℕ). is_open_at old.view h) (sym one)
      ∙ open_before old.view half how number (sym (as_settled half) ∙ ap (λ (h : ℕ). is_open_at new.view h) one ∙ opens))
      ∙ ap (λ (b : Bool). cond b fams []) (stays (nat_eq half q) now before
      (λ differs. as_settled q ∙ open_other old.view half how number q (λ one. cc (sym (eq-eqb half q one) ∙ differs)))) in (
        is.0,
        is.1,
        kept_of old.groups new.groups r.props (table_family old.view log.records q) (table_family new.view log.records q) was.0 is.0 (keeps_numbers old.groups new.groups groups) was.2
            (subst (λ (fam : List Entry). IsKeptWith fam was.0 is.0)
            (ap (λ (n : ℕ). cond (nat_eq half n) (cond (is_open_at new.view half) was.0.family []) was.0.family) (sym number_is) ∙ right) is.2),
      ));
  names = subst AreApart (sym groups) keeps.names;
}
  where
    choice : (same a b : Bool) (fam : List Entry) → (same ≡ true → a ≡ b) → cond same (cond a fam []) fam ≡ cond same (cond b fam []) fam
    choice true a b fam is = ap (λ (c : Bool). cond c fam []) (is refl)
    choice false a b fam is = refl

    stays : (same now before : Bool) → (same ≡ false → now ≡ before) → cond same now before ≡ now
    stays true now before is = refl
    stays false now before is = sym (is refl)

-- the same, where none is settled
pub unsettled_keeps : (log : Log) (old new : Halves) → new.view ≡ old.view → new.first ≡ old.first → new.groups ≡ old.groups → new.kept.items ≡ old.kept.items → KeepsFamilies log old → KeepsFamilies log new
unsettled_keeps log old new view first groups kept keeps = record {
  first = first ∙ keeps.first ∙ sym (ap (λ (t : HalfTable). t.low) view);
  long = ap length kept ∙ keeps.long;
  numbers = λ k r got. keeps.numbers k r got ∙ ap (λ (n : ℕ). n + k) (sym first);
  each = λ k r got.
      (let was = keeps.each k r got in (
        was.0,
        ap (λ (l : List KeptRow). slice_get l k) kept ∙ was.1,
        kept_of old.groups new.groups r.props (table_family old.view log.records r.queue_offset) (table_family new.view log.records r.queue_offset) was.0 was.0 (keeps_numbers old.groups new.groups groups) was.2
            (record { group = refl; id = refl; family = was.2.family ∙ ap (λ (t : HalfTable). table_family t log.records r.queue_offset) (sym view) }),
      ));
  names = subst AreApart (sym groups) keeps.names;
}

module _ (segment : ℕ) (log : Log) (well : IsWellFormed (geometry segment log.base) log.records) where
  low_name : (k : ℕ) (e : Entry) → slice_get (halves_in log) k ≡ Some e → IfSome (named_by e) (λ n. n < e.queue_offset)
  low_name k e got = let was = kept_was is_half log.records k e got in names_earlier (geometry segment log.base) log.records well was.0 e was.1 was.2

  -- an open origin, as the table has it
  open_at : (t : HalfTable) → AreHalvesOf log t → (k : ℕ) (e : Entry) → slice_get (halves_in log) k ≡ Some e
      → is_open_at t e.queue_offset ≡ (is_none (origin_text e) && not (is_settled log.records e.queue_offset))
  open_at t are k e got =
      open_in log t k e (each_half segment log t well are k e got).0 (row_there segment log t well are k ∙ ap (option_map (half_of log)) got) (low_name k e got)

  pub keeps : (h : Halves) → HasHalves log h → KeepsFamilies log h
  keeps h has = record {
    first = has.first;
    long = has.long;
    numbers = λ k r got. (each_half segment log h.view well has.view k r got).0 ∙ ap (λ (n : ℕ). n + k) (sym has.first);
    each = λ k r got.
        (let was = has.each k r got in (
          was.0,
          was.1,
          record {
            group = was.2.group;
            id = was.2.id;
            family = was.2.family ∙ ap (λ (b : Bool). cond b (family log.records r.queue_offset) []) (sym (open_at h.view has.view k r got));
          },
        ));
    names = has.names;
  }

  -- ---- a record that is no half message

  module _ (r : Entry) (other : is_half r ≡ false) where
    halves_same : halves_in (with_appended log (r ∷ [])) ≡ halves_in log
    halves_same = filter-append is_half log.records (r ∷ []) ∙ ap (λ (b : Bool). halves_in log ++ cond b (r ∷ []) []) other ∙ append-nil (halves_in log)

    family_same : (h : ℕ) → family (log.records ++ r ∷ []) h ≡ family log.records h
    family_same h =
        filter-append (λ x. is_origin h x || is_renewal h x) log.records (r ∷ [])
        ∙ ap (λ (b : Bool). family log.records h ++ cond ((b && is_none (origin_text r) && nat_eq r.queue_offset h) || (b && is_text (digits_of h) (origin_text r))) (r ∷ []) []) other
        ∙ append-nil (family log.records h)

    -- what is kept is that of the log with it, once the table is
    pub has_with : (h : Halves) → KeepsFamilies log h → AreHalvesOf (with_appended log (r ∷ [])) h.view → HasHalves (with_appended log (r ∷ [])) h
    has_with h keeps are = record {
      view = are;
      first = keeps.first;
      long = keeps.long ∙ ap length (sym halves_same);
      each = λ k e got.
          (let later = with_appended log (r ∷ []) in
          let q = e.queue_offset in
          let there : slice_get (halves_in log) k ≡ Some e = subst (λ (l : List Entry). slice_get l k ≡ Some e) halves_same got in
          let was = keeps.each k e there in
          let row : slice_get h.view.halves k ≡ Some (half_of later e) =
          ap (λ (rows : List HalfRow). slice_get rows k) are.halves ∙ get-map (half_of later) (halves_in later) k ∙ ap (option_map (half_of later)) got in
          let opens = open_in later h.view k e (keeps.numbers k e there ∙ ap (λ (n : ℕ). n + k) keeps.first) row (low_name k e there) in (
            was.0,
            was.1,
            record {
              group = was.2.group;
              id = was.2.id;
              family = was.2.family ∙ ap (λ (l : List Entry). cond (is_open_at h.view q) l []) (sym (family_same q)) ∙ ap (λ (b : Bool). cond b (family later.records q) []) opens;
            },
          ));
      names = keeps.names;
    }

  -- ---- a half message more

  module _ (r : Entry) (follows : Follows (geometry segment log.base) log.records r) (is : is_half r ≡ true) (t : HalfTable) (are : AreHalvesOf log t) where
    unsettled_same : (e : Entry) → not (is_settled (log.records ++ r ∷ []) e.queue_offset) ≡ not (is_settled log.records e.queue_offset)
    unsettled_same e =
        sym (open_is (log.records ++ r ∷ []) e.queue_offset) ∙ ap is_open (state_stays segment log r t well follows are is e) ∙ open_is log.records e.queue_offset

    -- it is of the family that it names
    member_is : (k : ℕ) (e : Entry) → slice_get (halves_in log) k ≡ Some e → (is_origin e.queue_offset r || is_renewal e.queue_offset r) ≡ names (named_by r) e.queue_offset
    member_is k e got =
        let q = e.queue_offset in
        let number = (each_half segment log t well are k e got).0 in
        let next = own_next segment log r t well follows are is in
        let within = get_within t.halves k (half_of log e) (row_there segment log t well are k ∙ ap (option_map (half_of log)) got) in
        ap (λ (b : Bool). (is_half r && is_none (origin_text r) && b) || is_renewal q r) (ne_eqb r.queue_offset q (λ same. omega (arith, same, next, number, within)))
        ∙ or_none (is_half r && is_none (origin_text r)) (is_renewal q r)
        ∙ ap (λ (b : Bool). b && is_text (digits_of q) (origin_text r)) is
        ∙ renewal_names (origin_text r) q (small_number segment log r t well follows are k e got) follows.admissible.renewal

    grown_family : (k : ℕ) (e : Entry) → slice_get (halves_in log) k ≡ Some e → open_family (log.records ++ r ∷ []) e
        ≡ cond (names (named_by r) e.queue_offset && (is_none (origin_text e) && not (is_settled log.records e.queue_offset))) (open_family log.records e ++ r ∷ []) (open_family log.records e)
    grown_family k e got =
        let q = e.queue_offset in
        let opens = is_none (origin_text e) && not (is_settled log.records q) in
        ap (λ (b : Bool). cond (is_none (origin_text e) && b) (family (log.records ++ r ∷ []) q) []) (unsettled_same e)
        ∙ ap (λ (l : List Entry). cond opens l []) (filter-append (λ x. is_origin q x || is_renewal q x) log.records (r ∷ []) ∙ ap (λ (b : Bool). family log.records q ++ cond b (r ∷ []) []) (member_is k e got))
        ∙ by_tests opens (names (named_by r) q) (family log.records q)
      where
        by_tests : (b c : Bool) (fam : List Entry) → cond b (fam ++ cond c (r ∷ []) []) [] ≡ cond (c && b) (cond b fam [] ++ r ∷ []) (cond b fam [])
        by_tests true true fam = refl
        by_tests true false fam = append-nil fam
        by_tests false true fam = refl
        by_tests false false fam = refl

    -- it is open, and an origin is all of its family
    pub own_family : open_family (log.records ++ r ∷ []) r ≡ cond (is_none (named_by r)) (r ∷ []) []
    own_family =
        let own = r.queue_offset in
        let more = log.records ++ r ∷ [] in
        let none = is_none (origin_text r) in
        let opens : not (is_settled more own) ≡ true = sym (open_is more own) ∙ ap is_open (new_is_open segment log r t well follows are is) in
        let before : family log.records own ≡ [] =
        ap (λ (n : ℕ). family log.records n) (own_number segment log r t well follows are is)
        ∙ no_family (geometry segment log.base) log.records well (own_small segment log r t well follows are is) in
        let alone : (is_origin own r || is_renewal own r) ≡ none =
        ap (λ (b : Bool). (b && none && nat_eq own own) || is_renewal own r) is
        ∙ ap (λ (b : Bool). (none && b) || is_renewal own r) (eq-eqb own own refl)
        ∙ ap (λ (b : Bool). (none && true) || b) (unrenewed_itself segment log r t well follows are is) ∙ just_one none in
        ap (λ (b : Bool). cond (none && b) (family more own) []) opens
        ∙ ap (λ (l : List Entry). cond (none && true) l []) (filter-append (λ x. is_origin own x || is_renewal own x) log.records (r ∷ [])
        ∙ ap (λ (l : List Entry). l ++ cond (is_origin own r || is_renewal own r) (r ∷ []) []) before ∙ ap (λ (b : Bool). cond b (r ∷ []) []) alone)
        ∙ both_choices none (r ∷ []) ∙ ap (λ (b : Bool). cond b (r ∷ []) []) (none_mapped (origin_text r))

    -- an origin leaves the families as they are
    pub origin_families : named_by r ≡ None → (k : ℕ) (e : Entry) → slice_get (halves_in log) k ≡ Some e → open_family log.records e ≡ open_family (log.records ++ r ∷ []) e
    unfolding names
    origin_families none k e got =
        sym (grown_family k e got
        ∙ ap (λ (o : Option ℕ). cond (names o e.queue_offset && (is_none (origin_text e) && not (is_settled log.records e.queue_offset))) (open_family log.records e ++ r ∷ []) (open_family log.records e)) none)

    -- a renewal goes to that of its origin, where that is open
    pub renewal_families : (h : Halves) (origin : ℕ) → h.view ≡ t → h.first ≡ t.low → named_by r ≡ Some origin → (k : ℕ) (e : Entry) → slice_get (halves_in log) k ≡ Some e
        → renewed_family h origin r k (open_family log.records e) ≡ open_family (log.records ++ r ∷ []) e
    unfolding names
    renewal_families h origin view first named k e got =
        let q = e.queue_offset in
        let fam = open_family log.records e in
        let opens = is_none (origin_text e) && not (is_settled log.records q) in
        let number : h.first + k ≡ q = ap (λ (n : ℕ). n + k) first ∙ sym (each_half segment log t well are k e got).0 in
        ap (λ (n : ℕ). cond (nat_eq origin n && is_open_at h.view origin) (fam ++ r ∷ []) fam) number
        ∙ ap (λ (b : Bool). cond b (fam ++ r ∷ []) fam) (and_when (nat_eq origin q) (is_open_at h.view origin) opens
        (λ same. ap (λ (n : ℕ). is_open_at h.view n) (eqb-true origin q same) ∙ ap (λ (x : HalfTable). is_open_at x q) view ∙ open_at t are k e got))
        ∙ sym (grown_family k e got ∙ ap (λ (o : Option ℕ). cond (names o q && opens) (fam ++ r ∷ []) fam) named)

  -- the half messages with one more
  pub added : (r : Entry) (follows : Follows (geometry segment log.base) log.records r) → is_half r ≡ true → (old new : Halves) (families : ℕ → List Entry → List Entry) (more : List KeptRow) (own : KeptRow) (spare : ℕ)
      → HasHalves log old → new.view ≡ with_half old.view (named_by r) r.offset r.store spare → new.first ≡ old.first → new.groups ≡ old.groups
      → new.kept.items ≡ more ++ own ∷ [] → AreKeptWith families old.kept.items more
      → ((k : ℕ) (e : Entry) → slice_get (halves_in log) k ≡ Some e → families k (open_family log.records e) ≡ open_family (log.records ++ r ∷ []) e)
      → IsKeptOf old.groups r.props (open_family (log.records ++ r ∷ []) r) own → HasHalves (with_appended log (r ∷ [])) new
  added r follows is old new families more own spare has view first groups kept with grown mine = record {
    view = subst (λ (t : HalfTable). AreHalvesOf (with_appended log (r ∷ [])) t) (sym view) (half_follows segment log r old.view well follows has.view is spare);
    first = first ∙ has.first ∙ sym (ap (λ (t : HalfTable). t.low) view);
    long = ap length kept ∙ length_push more own ∙ ap (λ (n : ℕ). n + 1) (with.long ∙ has.long) ∙ sym (ap length all_halves ∙ length_push (halves_in log) r);
    each = λ k e got. elim (at_push (halves_in log) r e k (subst (λ (l : List Entry). slice_get l k ≡ Some e) all_halves got)) [
      | inl here ↦ (
        own,
        ap (λ (l : List KeptRow). slice_get l k) kept ∙ push_last more own k (here.0 ∙ sym (with.long ∙ has.long)),
        subst (λ (x : Entry). IsKeptOf new.groups x.props (open_family (log.records ++ r ∷ []) x) own) (sym here.1)
            (subst (λ (names : Names). IsKeptOf names r.props (open_family (log.records ++ r ∷ []) r) own) (sym groups) mine),
      )
      | inr there ↦
          (let was = has.each k e there in
          let is_now = with.each k was.0 was.1 in (
            is_now.0,
            ap (λ (l : List KeptRow). slice_get l k) kept ∙ push_front more own is_now.0 k is_now.1,
            kept_of old.groups new.groups e.props (open_family log.records e) (open_family (log.records ++ r ∷ []) e) was.0 is_now.0 (keeps_numbers old.groups new.groups groups) was.2
                (subst (λ (fam : List Entry). IsKeptWith fam was.0 is_now.0) (ap (families k) was.2.family ∙ grown k e there) is_now.2),
          ))
    ];
    names = subst AreApart (sym groups) has.names;
  }
    where
      all_halves : halves_in (with_appended log (r ∷ [])) ≡ halves_in log ++ r ∷ []
      all_halves = filter-append is_half log.records (r ∷ []) ∙ ap (λ (b : Bool). halves_in log ++ cond b (r ∷ []) []) is
