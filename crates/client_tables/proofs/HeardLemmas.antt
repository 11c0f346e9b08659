-- The subscriptions of a group and a topic, after a heartbeat and once clients left.
use Rattle.std.proofs.Common.{◌≡◌, ◌∙◌, ℕ, zero, suc, ◌+◌, ◌-◌, ◌<◌, ◌≤◌, ◌==◌, ◌&&◌, ◌||◌, not, Bool, true, false, cond, leb, List, [], ◌∷◌, ◌++◌, length, get_or, take, map, filter, find, reverse, refl, sym, ap, subst, arith, append_assoc, String, Some}
use Rattle.std.specs.List.{flat_map, All, slice_get}
use Rattle.std.specs.Option.{option_map, unwrap_or}
use Rattle.std.specs.Str.{bytes_eq}
use Rattle.std.specs.BTreeMap.{BTreeMap}
use Rattle.std.proofs.lemmas.Bool.{and_parts, le-leb, lt-leb}
use Rattle.std.proofs.lemmas.List.{map-append, append-nil, reverse-append}
use Rattle.std.proofs.lemmas.List.Elements.{filter-append, filter_agree, filter_passes, All-append, All-filter, All-map, All-weaker}
use Rattle.std.proofs.lemmas.Option.{same_Some}
use Rattle.std.proofs.lemmas.Slice.Eq.{bytes_eq-Decides}
use Rattle.request_fields.specs.declared.clients.Consumer.{Consumer}
use Rattle.request_fields.specs.declared.clients.Subscription.{Subscription}
use Rattle.broker_model.specs.Clients.{ClientTable, ClientRow, HeardRow, group_rows, heard_rows, is_heard_on, heard_words}
use Rattle.client_tables.specs.Kept.{goes, last_words, in_groups}
use Rattle.client_tables.specs.Rows.{rows_of, is_key, said_as, said_by}
use Rattle.client_tables.specs.Table.{row_of, IsHeard, client_of}
use Rattle.client_tables.specs.declared.client.Client.{Client}
use Rattle.client_tables.specs.declared.heard.Heard.{Heard}
use Rattle.client_tables.specs.declared.heard.Said.{Said}
use Rattle.client_tables.proofs.ListLemmas.{filter_twice, filter_swap, filter_reverse, filter_where, filter_kept, map_filter, map_where, map_same, map_twice, reverse_first, any_map_more}

same_bool : (a b : Bool) → (a ≡ true → b ≡ true) → (b ≡ true → a ≡ true) → a ≡ b
same_bool true b f g = sym (f refl)
same_bool false true f g = g refl
same_bool false false f g = refl

bytes_swap : (xs ys : List ℕ) → bytes_eq xs ys ≡ bytes_eq ys xs
bytes_swap xs ys = same_bool (bytes_eq xs ys) (bytes_eq ys xs)
    (λ h. (bytes_eq-Decides ys xs).1 (sym ((bytes_eq-Decides xs ys).0 h)))
    (λ h. (bytes_eq-Decides xs ys).1 (sym ((bytes_eq-Decides ys xs).0 h)))

-- ---- what a heartbeat says, the last first

one_group : (client group : List ℕ) (subscriptions : List Subscription) (earlier : List HeardRow)
    → group_rows client group subscriptions earlier ≡ reverse (map (λ s. record { client = client; group = group; topic = s.topic; words = s.words }) subscriptions) ++ earlier
one_group client group [] earlier = refl
one_group client group (s ∷ more) earlier =
    let r : HeardRow = record { client = client; group = group; topic = s.topic; words = s.words } in
    let rows : List HeardRow = map (λ (s : Subscription). record { client = client; group = group; topic = s.topic; words = s.words }) more in
    one_group client group more (r ∷ earlier)
    ∙ sym (append_assoc (reverse rows) (r ∷ []) earlier)
    ∙ ap (λ (l : List HeardRow). l ++ earlier) (sym (reverse-append (r ∷ []) rows))

last_first : (client : List ℕ) (consumers : List Consumer) → reverse (flat_map (rows_of client) consumers) ≡ heard_rows client consumers
last_first client [] = refl
last_first client (c ∷ more) =
    reverse-append (rows_of client c) (flat_map (rows_of client) more)
    ∙ ap (λ (l : List HeardRow). l ++ reverse (rows_of client c)) (last_first client more)
    ∙ ap (λ (l : List HeardRow). heard_rows client more ++ l) (sym (one_group client c.group c.subscriptions [] ∙ append-nil (reverse (rows_of client c))))

row_back : (g t : List ℕ) (beat : ℕ) (row : HeardRow) → is_key g t row ≡ true → row_of g t (said_as beat row) ≡ row
row_back g t beat row is =
    let parts = and_parts (bytes_eq row.group g) (bytes_eq row.topic t) is in
    let of_group : g ≡ row.group = sym ((bytes_eq-Decides row.group g).0 parts.0) in
    let of_topic : t ≡ row.topic = sym ((bytes_eq-Decides row.topic t).0 parts.1) in
    (λ i. record { client = row.client; group = of_group i; topic = of_topic i; words = row.words })

rows_back : (g t : List ℕ) (beat : ℕ) (rows : List HeardRow) → map (row_of g t) (said_by beat g t rows) ≡ filter (is_key g t) rows
rows_back g t beat rows =
    let own = filter (is_key g t) rows in
    map_twice (said_as beat) (row_of g t) own
    ∙ map_where (λ row. is_key g t row ≡ true) (λ row. row_of g t (said_as beat row)) (λ row. row) (row_back g t beat) own (filter_passes (is_key g t) rows)
    ∙ map_same own

-- ---- what is forgotten

both_true : (a b c : Bool) → b ≡ true → c ≡ true → (a && b && c) ≡ a
both_true true true true x y = refl
both_true false true true x y = refl
both_true a false c x y = absurd cc
both_true a true false x y = absurd cc

-- a heartbeat up to the last said it
goes_now : (client : List ℕ) (last : ℕ) (said : Said) → said.beat ≤ last → goes client 0 last said ≡ bytes_eq said.client client
goes_now client last said low = both_true (bytes_eq said.client client) (leb 0 said.beat) (leb said.beat last) (le-leb 0 said.beat (omega arith)) (le-leb said.beat last low)

off_end : (a b c : Bool) → c ≡ false → not (a && (b && c)) ≡ true
off_end true true false is = refl
off_end true false false is = refl
off_end false b false is = refl
off_end a b true is = absurd cc

-- a later heartbeat said it
goes_not : (client : List ℕ) (last : ℕ) (among : Bool) (said : Said) → said.beat ≡ last + 1 → not (among && goes client 0 last said) ≡ true
goes_not client last among said is =
    off_end among (bytes_eq said.client client && leb 0 said.beat) (leb said.beat last) (lt-leb said.beat last (omega (arith, is)))

and_swap : (a b : Bool) → (a && b) ≡ (b && a)
and_swap true true = refl
and_swap true false = refl
and_swap false true = refl
and_swap false false = refl

-- what is left of a group and a topic is what is left of the rows
left_rows : (g t client : List ℕ) (last : ℕ) (among : List ℕ → Bool) (said : List Said) (heard : List HeardRow)
    → reverse (map (row_of g t) said) ≡ filter (is_key g t) heard → All (λ s. s.beat ≤ last) said
    → reverse (map (row_of g t) (filter (λ s. not (among g && goes client 0 last s)) said))
    ≡ filter (is_key g t) (filter (λ row. not (bytes_eq row.client client && among row.group)) heard)
left_rows g t client last among said heard is low =
    let stays : HeardRow → Bool = λ row. not (bytes_eq row.client client && among row.group) in
    let kept : Said → Bool = λ s. stays (row_of g t s) in
    let rows = map (row_of g t) said in
    ap (λ (l : List Said). reverse (map (row_of g t) l))
    (filter_where (λ s. s.beat ≤ last) (λ s. not (among g && goes client 0 last s)) kept
    (λ s small. ap (λ (b : Bool). not (among g && b)) (goes_now client last s small) ∙ ap not (and_swap (among g) (bytes_eq s.client client))) said low)
    ∙ ap (λ (l : List HeardRow). reverse l) (map_filter (row_of g t) kept stays (λ s. refl) said)
    ∙ sym (filter_reverse stays rows)
    ∙ ap (λ (l : List HeardRow). filter stays l) is
    ∙ filter_swap (is_key g t) stays heard

module _ {A B : Type 0} (old new : BTreeMap (String A) (BTreeMap (String B) Heard)) (client : List ℕ) (last : ℕ) where
  -- what the client said of some groups is gone
  pub forgotten : (among : List ℕ → Bool)
      → ((g t : List ℕ) → in_groups new g t ≡ filter (λ s. not (among g && goes client 0 last s)) (in_groups old g t))
      → (heard : List HeardRow) → IsHeard old last heard → IsHeard new last (filter (λ row. not (bytes_eq row.client client && among row.group)) heard)
  forgotten among changed heard is g t =
      let kept : Said → Bool = λ s. not (among g && goes client 0 last s) in (
        ap (λ (l : List Said). reverse (map (row_of g t) l)) (changed g t) ∙ left_rows g t client last among (in_groups old g t) heard (is g t).0 (is g t).1,
        subst (λ (l : List Said). All (λ s. s.beat ≤ last) l) (sym (changed g t)) (All-filter kept (λ s. s.beat ≤ last) (in_groups old g t) (is g t).1),
      )

  -- what the client says now replaces what it had said of the groups that it names
  pub beaten : (among : List ℕ → Bool) (consumers : List Consumer)
      → ((g t : List ℕ) → in_groups new g t
      ≡ filter (λ s. not (among g && goes client 0 last s)) (in_groups old g t ++ said_by (last + 1) g t (flat_map (rows_of client) consumers)))
      → (heard : List HeardRow) → IsHeard old last heard
      → IsHeard new (last + 1) (heard_rows client consumers ++ filter (λ row. not (bytes_eq row.client client && among row.group)) heard)
  beaten among consumers changed heard is g t =
      let kept : Said → Bool = λ s. not (among g && goes client 0 last s) in
      let stays : HeardRow → Bool = λ row. not (bytes_eq row.client client && among row.group) in
      let rows = flat_map (rows_of client) consumers in
      let own = filter (is_key g t) rows in
      let fresh = said_by (last + 1) g t rows in
      let rest = filter kept (in_groups old g t) in
      let of_now : All (λ s. s.beat ≡ last + 1) fresh = All-map (λ s. s.beat ≡ last + 1) (said_as (last + 1)) own (λ k d low. refl) in
      let parts : in_groups new g t ≡ rest ++ fresh =
      changed g t ∙ filter-append kept (in_groups old g t) fresh
      ∙ ap (λ (l : List Said). rest ++ l) (filter_kept (λ s. s.beat ≡ last + 1) kept (λ s this. goes_not client last (among g) s this) fresh of_now) in (
        ap (λ (l : List Said). reverse (map (row_of g t) l)) parts
            ∙ ap (λ (l : List HeardRow). reverse l) (map-append (row_of g t) rest fresh)
            ∙ reverse-append (map (row_of g t) rest) (map (row_of g t) fresh)
            ∙ (λ i. (ap (λ (l : List HeardRow). reverse l) (rows_back g t (last + 1) rows) ∙ sym (filter_reverse (is_key g t) rows) ∙ ap (λ (l : List HeardRow). filter (is_key g t) l) (last_first client consumers)) i
            ++ left_rows g t client last among (in_groups old g t) heard (is g t).0 (is g t).1 i)
            ∙ sym (filter-append (is_key g t) (heard_rows client consumers) (filter stays heard)),
        subst (λ (l : List Said). All (λ s. s.beat ≤ last + 1) l) (sym parts)
            (All-append (λ s. s.beat ≤ last + 1) rest fresh
            (All-weaker (λ s. s.beat ≤ last) (λ s. s.beat ≤ last + 1) (λ s low. omega (arith, low)) rest (All-filter kept (λ s. s.beat ≤ last) (in_groups old g t) (is g t).1))
            (All-weaker (λ s. s.beat ≡ last + 1) (λ s. s.beat ≤ last + 1) (λ s this. omega (arith, this)) fresh of_now)),
      )

  -- nothing changed
  pub unchanged : ((g t : List ℕ) → in_groups new g t ≡ in_groups old g t) → (heard : List HeardRow) → IsHeard old last heard → IsHeard new last heard
  unchanged same heard is g t =
      (ap (λ (l : List Said). reverse (map (row_of g t) l)) (same g t) ∙ (is g t).0, subst (λ (l : List Said). All (λ s. s.beat ≤ last) l) (sym (same g t)) (is g t).1)

-- what was said before a heartbeat stays where what the heartbeat said is forgotten
pub taken_back : (client : List ℕ) (last : ℕ) (said : List Said) → All (λ s. s.beat ≤ last) said → filter (λ s. not (goes client (last + 1) (last + 1) s)) said ≡ said
taken_back client last said low =
    filter_kept (λ s. s.beat ≤ last) (λ s. not (goes client (last + 1) (last + 1) s))
    (λ s small. early (bytes_eq s.client client) (leb (last + 1) s.beat) (leb s.beat (last + 1)) (lt-leb (last + 1) s.beat (omega (arith, small)))) said low
  where
    early : (a b c : Bool) → b ≡ false → not (a && b && c) ≡ true
    early true false c is = refl
    early false false c is = refl
    early a true c is = absurd cc

-- ---- what clients of a link said

nor : (a b : Bool) → (not a && not b) ≡ not (a || b)
nor true b = refl
nor false b = refl

-- the rows without those of the clients so far, one on
pub off_link : (link : ℕ) (clients : List Client) (i : ℕ) (c : Client) (heard : List HeardRow) → i < length clients → c ≡ get_or clients i c
    → filter (λ row. not (bytes_eq row.client c.client && (c.link == link))) (filter (λ row. not (is_heard_on link (map client_of (take i clients)) row.client)) heard)
    ≡ filter (λ row. not (is_heard_on link (map client_of (take (i + 1) clients)) row.client)) heard
off_link link clients i c heard low is =
    let so_far : HeardRow → Bool = λ row. is_heard_on link (map client_of (take i clients)) row.client in
    let this : HeardRow → Bool = λ row. bytes_eq row.client c.client && (c.link == link) in
    filter_twice (λ row. not (so_far row)) (λ row. not (this row)) heard
    ∙ filter_agree (λ row. not (so_far row) && not (this row)) (λ row. not (is_heard_on link (map client_of (take (i + 1) clients)) row.client))
    (λ row. nor (so_far row) (this row)
    ∙ ap (λ (b : Bool). not (so_far row || b)) (and_swap (bytes_eq row.client c.client) (c.link == link) ∙ ap (λ (b : Bool). (c.link == link) && b) (bytes_swap row.client c.client))
    ∙ ap not (sym (any_map_more (λ (r : ClientRow). (r.link == link) && bytes_eq r.client row.client) client_of clients i c low is))) heard

-- ---- the words that were heard last

first_words : List HeardRow → List ℕ
first_words [] = []
first_words (row ∷ rows) = row.words

found_first : (p : HeardRow → Bool) (rows : List HeardRow) → unwrap_or (option_map (λ row. row.words) (find p rows)) [] ≡ first_words (filter p rows)
unfolding first_words
found_first p [] = refl
found_first p (row ∷ rows) = by (p row) (found_first p rows)
  where
    by : (b : Bool) → unwrap_or (option_map (λ row. row.words) (find p rows)) [] ≡ first_words (filter p rows)
        → unwrap_or (option_map (λ row. row.words) (cond b (Some row) (find p rows))) [] ≡ first_words (cond b (row ∷ filter p rows) (filter p rows))
    by true rest = refl
    by false rest = rest

first_on : (rows more : List HeardRow) (row : HeardRow) → first_words ((rows ++ row ∷ []) ++ more) ≡ first_words (rows ++ row ∷ [])
unfolding first_words
first_on [] more row = refl
first_on (r ∷ rows) more row = refl

first_back : (g t : List ℕ) (said : List Said) → first_words (reverse (map (row_of g t) said)) ≡ last_words said
unfolding first_words
first_back g t [] = refl
first_back g t (s ∷ []) = ap first_words (reverse_first (row_of g t s) [])
first_back g t (s ∷ other ∷ more) =
    let rows = map (row_of g t) more in
    ap first_words (reverse_first (row_of g t s) (row_of g t other ∷ rows) ∙ ap (λ (l : List HeardRow). l ++ row_of g t s ∷ []) (reverse_first (row_of g t other) rows))
    ∙ first_on (reverse rows) (row_of g t s ∷ []) (row_of g t other)
    ∙ ap first_words (sym (reverse_first (row_of g t other) rows))
    ∙ first_back g t (other ∷ more)

-- what is found is what the table says
pub words_heard : {A B : Type 0} (groups : BTreeMap (String A) (BTreeMap (String B) Heard)) (last : ℕ) (t : ClientTable) (group topic : List ℕ)
    → IsHeard groups last t.heard → last_words (in_groups groups group topic) ≡ heard_words t group topic
words_heard groups last t group topic is =
    sym (first_back group topic (in_groups groups group topic)) ∙ ap first_words (is group topic).0 ∙ sym (found_first (is_key group topic) t.heard)

-- the last of them
pub last_at : (said : List Said) (s : Said) (n : ℕ) → n + 1 ≡ length said → slice_get said n ≡ Some s → last_words said ≡ s.words
last_at [] s n long is = absurd (omega (arith, long))
last_at (x ∷ []) s zero long is = ap (λ (y : Said). y.words) (same_Some x s is)
last_at (x ∷ []) s (suc n) long is = absurd (omega (arith, long))
last_at (x ∷ y ∷ more) s zero long is = absurd (omega (arith, long))
last_at (x ∷ y ∷ more) s (suc n) long is = last_at (y ∷ more) s n (omega (arith, long)) is

-- the same, as it is read
pub last_read : (said : List Said) (s : Said) → Some s ≡ slice_get said (length said - 1) → last_words said ≡ s.words
last_read [] s is = absurd cc
last_read (x ∷ xs) s is = last_at (x ∷ xs) s (length (x ∷ xs) - 1) (omega arith) (sym is)
