-- How acts go together, and what they keep of a loop's links.
use Rattle.std.proofs.Common.{◌≡◌, ◌≢◌, ◌⊎◌, ⊎_elim, inl, inr, ℕ, zero, suc, ◌<◌, ◌≤◌, ◌+◌, ◌==◌, List, [], ◌∷◌, ◌++◌, length, set, cond, Bool, true, false, Option, Some, None, refl, sym, ap, ◌∙◌, subst, arith, append_assoc, append-nil}
use Rattle.std.specs.Prelude.{slice_get}
use Rattle.std.proofs.lemmas.Bool.{cases_Bool}
use Rattle.std.proofs.lemmas.Bool.Decides.{Decides-eqb}
use Rattle.std.proofs.lemmas.List.Elements.{filter-append}
use Rattle.mq_peers.specs.Ended.{LinkEnd}
use Rattle.broker_events.specs.Makes.{Makes}
use Rattle.broker_events.proofs.Makes.{makes_append}
use Rattle.broker_events.specs.declared.event.Event.TheVariants.{Leave}
use Rattle.broker_events.specs.declared.said.Said.{Said}
use Rattle.reply_fields.specs.Parts.{AskParts}
use Rattle.session.specs.Owing.{Steps}
use Rattle.session.specs.Readers.{ReaderView}
use Rattle.session.specs.Serving.{Made, Leads, LeadsReading}
use Rattle.link_service.specs.Transcripts.{Seen, WentOnWith, WentOn, WentOnUnread, IsFresh, if_asked}
use Rattle.link_service.proofs.Went.{went_on, went_read, unread_same}
use Rattle.event_loops.specs.declared.links.Numbered.{Numbered}
use Rattle.event_loops.specs.declared.ledger.Ledger.{Ledger}
use Rattle.event_loops.specs.declared.links.Links.{Links}
use Rattle.event_loops.specs.Takings.{LeadsTaking}
use Rattle.event_loops.specs.Tales.{Act, steps_of, asks_of, reads_of, acts_for, made_for, asks_for, reads_for, DidNothing, HasLeft, IsServed, IsTale, loop_of, LinkView, seen_in, LoopNumbers, loop_numbers, HasNumber, IsOwn, IsEndOf, AreEnded, IsTold, Keeps, IsSame, Acts, leave_of, Leaves, ActsOrLeaves, LetsGo, end_as, end_in, AreSome, LeadsWith, LeadsBy}
use Rattle.event_loops.specs.Tales.{LoopView, Enters, IsToldOf, GoesOn, IsSeenAs, MayBreak}

-- ---- steps by links

pub steps_append : (xs ys : List Act) → steps_of (xs ++ ys) ≡ steps_of xs ++ steps_of ys
steps_append [] ys = refl
steps_append (x ∷ xs) ys = ap (λ (l : Made). x.made ++ l) (steps_append xs ys) ∙ sym (append_assoc x.made (steps_of xs) (steps_of ys))

pub asks_append : (xs ys : List Act) → asks_of (xs ++ ys) ≡ asks_of xs ++ asks_of ys
asks_append [] ys = refl
asks_append (x ∷ xs) ys = ap (λ (l : List AskParts). x.asks ++ l) (asks_append xs ys) ∙ sym (append_assoc x.asks (asks_of xs) (asks_of ys))

sum_append : (a b c d : ℕ) → b ≡ c + d → a + b ≡ (a + c) + d
sum_append a b c d h = omega (arith, h)

pub reads_append : (xs ys : List Act) → reads_of (xs ++ ys) ≡ reads_of xs + reads_of ys
reads_append [] ys = omega arith
reads_append (x ∷ xs) ys = sum_append x.reads (reads_of (xs ++ ys)) (reads_of xs) (reads_of ys) (reads_append xs ys)

acts_append : (link : ℕ) (xs ys : List Act) → acts_for link (xs ++ ys) ≡ acts_for link xs ++ acts_for link ys
acts_append link xs ys = filter-append (λ (one : Act). one.link == link) xs ys

pub made_append : (link : ℕ) (xs ys : List Act) → made_for link (xs ++ ys) ≡ made_for link xs ++ made_for link ys
made_append link xs ys = ap steps_of (acts_append link xs ys) ∙ steps_append (acts_for link xs) (acts_for link ys)

-- one act is of this link, or of another
acts_one : (link : ℕ) (one : Act) → ((one.link ≡ link) × (acts_for link (one ∷ []) ≡ one ∷ [])) ⊎ ((one.link ≢ link) × (acts_for link (one ∷ []) ≡ []))
acts_one link one =
    ⊎_elim (λ (is : (one.link == link) ≡ true). inl ((Decides-eqb one.link link).0 is, ap (λ (b : Bool). cond b (one ∷ []) []) is))
    (λ (other : (one.link == link) ≡ false).
    inr (λ same. let yes = (Decides-eqb one.link link).1 same in cc, ap (λ (b : Bool). cond b (one ∷ []) []) other))
    (cases_Bool (one.link == link))

pub made_one : (link : ℕ) (one : Act)
    → ((one.link ≡ link) × (made_for link (one ∷ []) ≡ one.made)) ⊎ ((one.link ≢ link) × (made_for link (one ∷ []) ≡ []))
made_one link one =
    ⊎_elim (λ own. inl (own.0, ap steps_of own.1 ∙ append-nil one.made)) (λ other. inr (other.0, ap steps_of other.1)) (acts_one link one)

-- ---- what was done for a link: its steps, its check-backs, and how many replies `read N` it was sent

abbrev Did : Type 0
Did = Made × List AskParts × ℕ

-- nothing
abbrev idle : Did
idle = ([], [], 0)

-- the one and then the other
abbrev joined : Did → Did → Did
joined d e = (d.0 ++ e.0, d.1 ++ e.1, d.2 + e.2)

abbrev did_for : ℕ → List Act → Did
did_for link acts = (made_for link acts, asks_for link acts, reads_for link acts)

did_same : (a b : Made) (c d : List AskParts) (n m : ℕ) → a ≡ b → c ≡ d → n ≡ m → ◌≡◌ {A = Did} (a, c, n) (b, d, m)
did_same a b c d n m first second third = rw (first, second, third) refl

joined_idle : (d : Did) → joined d idle ≡ d
joined_idle d = did_same (d.0 ++ []) d.0 (d.1 ++ []) d.1 (d.2 + 0) d.2 (append-nil d.0) (append-nil d.1) (omega arith)

did_append : (link : ℕ) (xs ys : List Act) → did_for link (xs ++ ys) ≡ joined (did_for link xs) (did_for link ys)
did_append link xs ys =
    did_same (made_for link (xs ++ ys)) (made_for link xs ++ made_for link ys) (asks_for link (xs ++ ys)) (asks_for link xs ++ asks_for link ys)
    (reads_for link (xs ++ ys)) (reads_for link xs + reads_for link ys)
    (made_append link xs ys) (ap asks_of (acts_append link xs ys) ∙ asks_append (acts_for link xs) (acts_for link ys))
    (ap reads_of (acts_append link xs ys) ∙ reads_append (acts_for link xs) (acts_for link ys))

-- what these acts did
abbrev did_by : List Act → Did
did_by acts = (steps_of acts, asks_of acts, reads_of acts)

did_as : (link : ℕ) (acts all : List Act) → acts_for link acts ≡ all → did_for link acts ≡ did_by all
did_as link acts all is = ap did_by is

did_own : (one : Act) → did_for one.link (one ∷ []) ≡ (one.made, one.asks, one.reads)
did_own one =
    ⊎_elim (λ own. did_as one.link (one ∷ []) (one ∷ []) own.1
    ∙ did_same (one.made ++ []) one.made (one.asks ++ []) one.asks (one.reads + 0) one.reads (append-nil one.made) (append-nil one.asks) (omega arith))
    (λ other. absurd (other.0 refl)) (acts_one one.link one)

did_other : (link : ℕ) (one : Act) → link ≢ one.link → did_for link (one ∷ []) ≡ idle
did_other link one other = ⊎_elim (λ own. absurd (other (sym own.0))) (λ not. did_as link (one ∷ []) [] not.1) (acts_one link one)

-- the step that tells the end of a link, as it is let go of
abbrev leave_made : ℕ → Option Said → Made
leave_made link said = (Leave link, said) ∷ []

left_as : (number link : ℕ) (said : Option Said) → link ≡ number → HasLeft link (leave_made number said)
left_as number link said same = (said, subst (λ (k : ℕ). leave_made number said ≡ leave_made k said) (sym same) refl)

-- a pass, and then that step
left_then : (made leave : Made) (reads : ℕ) → joined (made, [], reads) (leave, [], 0) ≡ (made ++ leave, [], reads)
left_then made leave reads = did_same (made ++ leave) (made ++ leave) [] [] (reads + 0) reads refl refl (omega arith)

-- ---- how many replies `read N` were written

counted_none : (low : ℕ) → low + 0 ≤ low
counted_none low = omega arith

-- none, whatever the count of the reader's failures is
pub counted_any : (low : ℕ) (acts : List Act) → 0 + reads_of acts ≤ 0 → low + reads_of acts ≤ low
counted_any low acts none = omega (arith, none)

pub counted_on : (low at high : ℕ) (first rest : List Act) → low + reads_of first ≤ at → at + reads_of rest ≤ high → low + reads_of (first ++ rest) ≤ high
counted_on low at high first rest h k = let both = reads_append first rest in omega (arith, both, h, k)

-- those of one act
counted_one : (low high reads : ℕ) → low + reads ≤ high → low + (reads + 0) ≤ high
counted_one low high reads h = omega (arith, h)

-- ---- the end of a link

-- it is told of the link in a slot, if there is one
pub leaves_none : {L C : Type 0} (makes : Steps C) (x : C) (slot : Option (Numbered L)) → slot ≡ None → LeadsBy makes x x 0 0 (λ acts. LetsGo slot acts)
leaves_none {L} makes x slot none =
    subst (λ (w : Option (Numbered L)). LeadsBy makes x x 0 0 (λ acts. LetsGo w acts)) (sym none)
    (record { acts = []; leads = refl; wrote = refl; counted = counted_none 0; so = refl })

pub leaves_some : {L C : Type 0} (makes : Steps C) (x y : C) (slot : Option (Numbered L)) (n : Numbered L) (said : Option Said) → slot ≡ Some n
    → makes x (Leave n.number) said y → LeadsBy makes x y 0 0 (λ acts. LetsGo slot acts)
leaves_some {L} makes x y slot n said some leave =
    subst (λ (w : Option (Numbered L)). LeadsBy makes x y 0 0 (λ acts. LetsGo w acts)) (sym some)
    (record { acts = leave_of n.number said ∷ []; leads = (y, leave, refl); wrote = refl; counted = counted_none 0; so = (said, refl) })

-- ---- some of a list

pub some_none : {A : Type 0} (all : List A) → AreSome [] all
some_none [] = refl
some_none (x ∷ all) = inl (some_none all)

pub some_append : {A : Type 0} (xs all ys more : List A) → AreSome xs all → AreSome ys more → AreSome (xs ++ ys) (all ++ more)
some_append xs [] ys more h k = subst (λ (l : List _). AreSome (l ++ ys) more) (sym h) k
some_append xs (a ∷ all) ys more (inl h) k = inl (some_append xs all ys more h k)
some_append xs (a ∷ all) ys more (inr h) k =
    inr (h.0 ++ ys, ap (λ (l : List _). l ++ ys) h.1, some_append h.0 all ys more h.2 k)

-- the check-back of one act
some_one : (did : Bool) (ask : AskParts) → AreSome (if_asked did ask ++ []) (ask ∷ [])
some_one true ask = inr ([], refl, refl)
some_one false ask = inl refl

-- ---- one slot is written

got_set : {X : Type 0} (xs : List X) (i j : ℕ) (old new : X) → slice_get xs i ≡ Some old
    → ((j ≡ i) × (slice_get (set xs i new) j ≡ Some new)) ⊎ ((j ≢ i) × (slice_get (set xs i new) j ≡ slice_get xs j))
got_set [] i j old new at = let none : None ≡ Some old = at in cc
got_set (x ∷ xs) zero zero old new at = inl (refl, refl)
got_set (x ∷ xs) zero (suc j) old new at = inr (λ is. omega (arith, is), refl)
got_set (x ∷ xs) (suc i) zero old new at = inr (λ is. omega (arith, is), refl)
got_set (x ∷ xs) (suc i) (suc j) old new at =
    ⊎_elim (λ h. inl (ap suc h.0, h.1)) (λ h. inr (λ is. h.0 (omega (arith, is)), h.1)) (got_set xs i j old new at)

set_same : {X : Type 0} (xs : List X) (i : ℕ) (x : X) → slice_get xs i ≡ Some x → set xs i x ≡ xs
set_same [] i x at = let none : None ≡ Some x = at in cc
set_same (y ∷ xs) zero x at = let same : y ≡ x = cc in ap (λ z. z ∷ xs) (sym same)
set_same (y ∷ xs) (suc i) x at = ap (λ (l : List _). y ∷ l) (set_same xs i x at)

-- what is in a list behind which a free slot is put
got_front : {X : Type 0} (xs : List (Option X)) (j : ℕ) (x : X) → slice_get (xs ++ None ∷ []) j ≡ Some (Some x) → slice_get xs j ≡ Some (Some x)
got_front [] zero x at = let none : None ≡ Some x = cc in cc
got_front [] (suc j) x at = at
got_front (y ∷ xs) zero x at = at
got_front (y ∷ xs) (suc j) x at = got_front xs j x at

got_more : {X : Type 0} (xs more : List X) (k : ℕ) (x : X) → slice_get xs k ≡ Some x → slice_get (xs ++ more) k ≡ Some x
got_more [] more k x at = let none : None ≡ Some x = at in cc
got_more (y ∷ xs) more zero x at = at
got_more (y ∷ xs) more (suc k) x at = got_more xs more k x at

-- what is last, and what is in a list behind which something is put
got_end : {X : Type 0} (xs : List X) (x : X) → slice_get (xs ++ x ∷ []) (length xs) ≡ Some x
got_end [] x = refl
got_end (y ∷ xs) x = got_end xs x

set_last : {X : Type 0} (xs : List X) (x y : X) → set (xs ++ x ∷ []) (length xs) y ≡ xs ++ y ∷ []
set_last [] x y = refl
set_last (z ∷ xs) x y = ap (λ (l : List _). z ∷ l) (set_last xs x y)

got_last : {X : Type 0} (xs : List X) (x : X) (k : ℕ) (y : X) → slice_get (xs ++ x ∷ []) k ≡ Some y → (slice_get xs k ≡ Some y) ⊎ ((k ≡ length xs) × (x ≡ y))
got_last [] x zero y at = let same : x ≡ y = cc in inr (refl, same)
got_last [] x (suc k) y at = let none : None ≡ Some y = at in cc
got_last (z ∷ xs) x zero y at = inl at
got_last (z ∷ xs) x (suc k) y at = ⊎_elim (λ h. inl h) (λ h. inr (ap suc h.0, h.1)) (got_last xs x k y at)

same_in : {X : Type 0} (a b : X) (o : Option X) → o ≡ Some a → o ≡ Some b → a ≡ b
same_in a b o is at = cc

never_none : {X : Type 0} {P : Type 0} (b : X) (o : Option (Option X)) → o ≡ Some None → o ≡ Some (Some b) → P
never_none b o is at = cc

-- ---- no two slots have links of one number

apart_by : {L : Type 0} (links : List (Option (Numbered L)))
    → ((i j : ℕ) (n m : Numbered L) → slice_get links i ≡ Some (Some n) → slice_get links j ≡ Some (Some m) → n.number ≡ m.number → i ≡ j)
    → (i j link : ℕ) → HasNumber links i link → HasNumber links j link → i ≡ j
apart_by links each i j link one other = each i j one.0 other.0 one.1 other.1 (one.2 ∙ sym other.2)

apart_at : {L : Type 0} (links : List (Option (Numbered L))) → ((i j link : ℕ) → HasNumber links i link → HasNumber links j link → i ≡ j)
    → (i j : ℕ) (n m : Numbered L) → slice_get links i ≡ Some (Some n) → slice_get links j ≡ Some (Some m) → n.number ≡ m.number → i ≡ j
apart_at links apart i j n m got had same = apart i j n.number (n, got, refl) (m, had, sym same)

module _ {L : Type 0} (view : LinkView L) (reader : ReaderView) where
  -- ---- one link

  abbrev Served : Numbered L → Did → Seen → Type 0
  Served link did now = IsServed view.tells reader link.number link.peer did.0 did.1 did.2 now

  abbrev Tale : LinkEnd → Did → Type 0
  Tale it did = IsTale view.tells reader it did.0 did.1 did.2

  served_on : (link : Numbered L) (did more : Did) (mid new : Seen) → Served link did mid → WentOnWith view.tells reader mid more.0 more.1 more.2 new
      → Served link (joined did more) new
  served_on link did more mid new is went =
      record { first = is.first; fresh = is.fresh; went = went_on view.tells reader is.first mid new did.0 more.0 did.1 more.1 did.2 more.2 is.went went }

  served_first : (link : Numbered L) (new : Seen) → IsFresh view.tells link.number link.peer new → Served link idle new
  served_first link new fresh =
      record { first = new; fresh = fresh; went = went_read view.tells reader new [] new (unread_same view.tells new) }

  -- it is served as the same link
  served_as : (old new : Numbered L) (did : Did) (now : Seen) → IsSame old new → Served old did now → Served new did now
  served_as old new did now same is =
      subst (λ (p : List ℕ). IsServed view.tells reader new.number p did.0 did.1 did.2 now) (sym same.1)
      (subst (λ (n : ℕ). IsServed view.tells reader n old.peer did.0 did.1 did.2 now) (sym same.0) is)

  -- its end was told, and it is let go of
  tale_left : (link : Numbered L) (number : ℕ) (did more : Did) (said : Option Said) (now : Seen) → link.number ≡ number → Served link (joined did more) now
      → Tale (end_as link now) (joined did (more.0 ++ leave_made number said, more.1, more.2))
  tale_left link number did more said now same is = record {
    passes = did.0 ++ more.0;
    end = leave_made number said;
    both = sym (append_assoc did.0 more.0 (leave_made number said));
    left = left_as number link.number said same;
    now = now;
    served = is;
    given = λ told. refl;
    taken = λ told. refl;
  }

  -- ---- the acts of one link, at its slot

  module _ (loop : LoopNumbers) (before : List Act) (links : List (Option (Numbered L))) (ended : List LinkEnd)
      (told : IsTold view reader loop before links ended) (i : ℕ) where
    -- what is in the slots once this one was written
    there : (old new : Option (Numbered L)) → slice_get links i ≡ Some old → (j : ℕ) (n : Numbered L) → slice_get (set links i new) j ≡ Some (Some n)
        → ((j ≡ i) × (new ≡ Some n)) ⊎ ((j ≢ i) × (slice_get links j ≡ Some (Some n)))
    there old new at j n got =
        ⊎_elim (λ h. inl (h.0, same_in new (Some n) (slice_get (set links i new) j) h.1 got)) (λ h. inr (h.0, sym h.1 ∙ got)) (got_set links i j old new at)

    -- what is written into it, and what is there still
    put_in : (old new : Option (Numbered L)) → slice_get links i ≡ Some old → slice_get (set links i new) i ≡ Some new
    put_in old new at = ⊎_elim (λ h. h.1) (λ h. absurd (h.0 refl)) (got_set links i i old new at)

    still_in : (old new : Option (Numbered L)) → slice_get links i ≡ Some old → (j : ℕ) (n : Numbered L) → j ≢ i → slice_get links j ≡ Some (Some n)
        → slice_get (set links i new) j ≡ Some (Some n)
    still_in old new at j n other got = ⊎_elim (λ h. absurd (other h.0)) (λ h. h.1 ∙ got) (got_set links i j old new at)

    module _ (old : Numbered L) (at : slice_get links i ≡ Some (Some old)) (acts : List Act) (grown : Did) (own : did_for old.number acts ≡ grown)
        (others : (k : ℕ) → k ≢ old.number → did_for k acts ≡ idle) where
      grows : did_for old.number (before ++ acts) ≡ joined (did_for old.number before) grown
      grows = did_append old.number before acts ∙ ap (λ (d : Did). joined (did_for old.number before) d) own

      still : (k : ℕ) → k ≢ old.number → did_for k (before ++ acts) ≡ did_for k before
      still k other =
          did_append k before acts ∙ ap (λ (d : Did). joined (did_for k before) d) (others k other) ∙ joined_idle (did_for k before)

      -- a link that has ended had another number
      ended_still : (k : ℕ) (it : LinkEnd) → slice_get ended k ≡ Some it → IsOwn loop it.number × Tale it (did_for it.number (before ++ acts))
      ended_still k it got =
          let was = told.ends.each k it got in (
            was.0,
            subst (λ (d : Did). Tale it d) (sym (still it.number (λ same. told.ends.gone i k it.number (old, at, sym same) (it, got, refl)))) was.1,
          )

      ends_kept : (new : Numbered L) → IsSame old new → AreEnded view reader loop (before ++ acts) (set links i (Some new)) (ended ++ [])
      ends_kept new same =
          subst (λ (l : List LinkEnd). AreEnded view reader loop (before ++ acts) (set links i (Some new)) l) (sym (append-nil ended))
          (record {
            each = ended_still;
            once = told.ends.once;
            gone = λ j k link has end. ⊎_elim
                (λ h. told.ends.gone i k link (old, at, sym same.0 ∙ ap (λ (n : Numbered L). n.number) (same_in new has.0 (Some new) refl h.1) ∙ has.2) end)
                (λ h. told.ends.gone j k link (has.0, h.1, has.2) end) (there (Some old) (Some new) at j has.0 has.1);
          })

      -- the link has ended
      ends_left : (it : LinkEnd) → it.number ≡ old.number → Tale it (joined (did_for old.number before) grown)
          → AreEnded view reader loop (before ++ acts) (set links i None) (ended ++ it ∷ [])
      ends_left it is tale = record {
        each = λ k e got. ⊎_elim (λ was. ended_still k e was)
            (λ new. subst (λ (x : LinkEnd). IsOwn loop x.number × Tale x (did_for x.number (before ++ acts))) new.1
            (subst (λ (n : ℕ). IsOwn loop n × Tale it (did_for n (before ++ acts))) (sym is) (told.own i old at, subst (λ (d : Did). Tale it d) (sym grows) tale)))
            (got_last ended it k e got);
        once = λ j k link one other. ⊎_elim
            (λ h. ⊎_elim (λ g. told.ends.once j k link (one.0, h, one.2) (other.0, g, other.2))
            (λ g. absurd (told.ends.gone i j link (old, at, sym is ∙ ap (λ (x : LinkEnd). x.number) g.1 ∙ other.2) (one.0, h, one.2))) (got_last ended it k other.0 other.1))
            (λ h. ⊎_elim (λ g. absurd (told.ends.gone i k link (old, at, sym is ∙ ap (λ (x : LinkEnd). x.number) h.1 ∙ one.2) (other.0, g, other.2)))
            (λ g. h.0 ∙ sym g.0) (got_last ended it k other.0 other.1)) (got_last ended it j one.0 one.1);
        gone = λ j k link has end. ⊎_elim (λ h. let none : None ≡ Some has.0 = h.1 in absurd (cc))
            (λ h. ⊎_elim (λ g. told.ends.gone j k link (has.0, h.1, has.2) (end.0, g, end.2))
            (λ g. h.0 (told.apart j i link (has.0, h.1, has.2) (old, at, sym is ∙ ap (λ (x : LinkEnd). x.number) g.1 ∙ end.2))) (got_last ended it k end.0 end.1))
            (there (Some old) None at j has.0 has.1);
      }

      told_after : (new : Option (Numbered L)) (gone : List LinkEnd)
          → ((n : Numbered L) → new ≡ Some n → IsSame old n × Served n (joined (did_for old.number before) grown) (seen_in view n))
          → ((j : ℕ) × HasNumber (set links i new) j old.number) ⊎ ((k : ℕ) × IsEndOf (ended ++ gone) k old.number)
          → AreEnded view reader loop (before ++ acts) (set links i new) (ended ++ gone) → IsTold view reader loop (before ++ acts) (set links i new) (ended ++ gone)
      told_after new gone is mine ends =
          let within = told.own i old at in
          let apart = apart_at links told.apart in
          record {
            present = λ j n got. ⊎_elim
                (λ h. let so = is n h.1 in
                subst (λ (k : ℕ). Served n (did_for k (before ++ acts)) (seen_in view n)) (sym so.0.0)
                (subst (λ (d : Did). Served n d (seen_in view n)) (sym grows) so.1))
                (λ h. subst (λ (d : Did). Served n d (seen_in view n)) (sym (still n.number (λ same. h.0 (apart j i n old h.1 at same))))
                (told.present j n h.1)) (there (Some old) new at j n got);
            apart = apart_by (set links i new) (λ j k n m got had same. ⊎_elim
                (λ h. ⊎_elim (λ g. h.0 ∙ sym g.0)
                (λ g. h.0 ∙ apart i k old m at g.1 (sym (is n h.1).0.0 ∙ same)) (there (Some old) new at k m had))
                (λ h. ⊎_elim (λ g. apart j i n old h.1 at (same ∙ (is m g.1).0.0) ∙ sym g.0)
                (λ g. apart j k n m h.1 g.1 same) (there (Some old) new at k m had)) (there (Some old) new at j n got));
            own = λ j n got. ⊎_elim (λ h. subst (λ (k : ℕ). IsOwn loop k) (sym (is n h.1).0.0) within) (λ h. told.own j n h.1)
                (there (Some old) new at j n got);
            later = λ link above.
                subst (λ (d : Did). (d.0 ≡ []) × (d.1 ≡ []) × (d.2 ≡ 0)) (sym (still link (λ same. omega (arith, within.within, same, above)))) (told.later link above);
            known = λ link. ⊎_elim
                (λ (same : (link == old.number) ≡ true). let equal : link ≡ old.number = (Decides-eqb link old.number).0 same in
                subst (λ (k : ℕ). DidNothing k (before ++ acts) ⊎ (((j : ℕ) × HasNumber (set links i new) j k) ⊎ ((j : ℕ) × IsEndOf (ended ++ gone) j k))) (sym equal) (inr mine))
                (λ (other : (link == old.number) ≡ false).
                let differs : link ≢ old.number = (λ equal. let yes = (Decides-eqb link old.number).1 equal in cc) in
                ⊎_elim (λ none. inl (subst (λ (d : Did). (d.0 ≡ []) × (d.1 ≡ []) × (d.2 ≡ 0)) (sym (still link differs)) none))
                (λ some. inr (⊎_elim
                (λ h. inl (
                  h.0,
                  (
                    h.1.0,
                    still_in (Some old) new at h.0 h.1.0 (λ same. differs (sym h.1.2 ∙ ap (λ (n : Numbered L). n.number)
                        (same_in h.1.0 old (Some h.1.0) refl (same_in (Some h.1.0) (Some old) (slice_get links i) (subst (λ (j : ℕ). slice_get links j ≡ Some (Some h.1.0)) same h.1.1) at)))) h.1.1,
                    h.1.2,
                  ),
                ))
                (λ h. inr (h.0, (h.1.0, got_more ended gone h.0 h.1.0 h.1.1, h.1.2))) some)) (told.known link))
                (cases_Bool (link == old.number));
            ends = ends;
          }

      -- the link is there still
      told_on : (new : Numbered L) → IsSame old new → Served old (joined (did_for old.number before) grown) (seen_in view new)
          → IsTold view reader loop (before ++ acts) (set links i (Some new)) (ended ++ [])
      told_on new same on =
          told_after (Some new) []
          (λ n is. let equal : new ≡ n = cc in
          subst (λ (m : Numbered L). IsSame old m × Served m (joined (did_for old.number before) grown) (seen_in view m)) equal
          (same, served_as old new (joined (did_for old.number before) grown) (seen_in view new) same on))
          (inl (i, (new, put_in (Some old) (Some new) at, same.0))) (ends_kept new same)

      -- it was let go of
      told_off : (it : LinkEnd) → it.number ≡ old.number → Tale it (joined (did_for old.number before) grown)
          → IsTold view reader loop (before ++ acts) (set links i None) (ended ++ it ∷ [])
      told_off it is tale =
          told_after None (it ∷ []) (λ n some. absurd (cc)) (inr (length ended, (it, got_end ended it, is))) (ends_left it is tale)

    -- a slot in which there was none is free still, and nothing else changed
    told_same : (acts : List Act) → slice_get links i ≡ Some None → acts ≡ [] → IsTold view reader loop (before ++ acts) (set links i None) (ended ++ [])
    told_same acts at none =
        subst (λ (xs : List (Option (Numbered L))). IsTold view reader loop (before ++ acts) xs (ended ++ [])) (sym (set_same links i None at))
        (subst (λ (b : List Act). IsTold view reader loop b links (ended ++ [])) (sym (ap (λ (l : List Act). before ++ l) none ∙ append-nil before))
        (subst (λ (l : List LinkEnd). IsTold view reader loop before links l) (sym (append-nil ended)) told))

    -- what a pass did for one link
    told_acts : (old new : Option (Numbered L)) (acts : List Act) → slice_get links i ≡ Some old → Acts view reader old acts new
        → IsTold view reader loop (before ++ acts) (set links i new) (ended ++ [])
    told_acts None new acts at did =
        subst (λ (x : Option (Numbered L)). IsTold view reader loop (before ++ acts) (set links i x) (ended ++ [])) (sym did.1) (told_same acts at did.0)
    told_acts (Some old) None acts at did = absurd did
    told_acts (Some old) (Some new) acts at did =
        let one : Act = record { link = old.number; made = did.0; asks = did.1; reads = did.2 } in
        subst (λ (a : List Act). IsTold view reader loop (before ++ a) (set links i (Some new)) (ended ++ [])) (sym did.5)
        (told_on old at (one ∷ []) (did.0, did.1, did.2) (did_own one) (λ k other. did_other k one other) new did.3
        (served_on old (did_for old.number before) (did.0, did.1, did.2) (seen_in view old) (seen_in view new) (told.present i old at) did.4))

    -- a pass and the end of one link, which was let go of
    told_leaves : (old last : Numbered L) (acts : List Act) → slice_get links i ≡ Some (Some old) → Leaves view reader old acts last
        → IsTold view reader loop (before ++ acts) (set links i None) (ended ++ end_as last (seen_in view last) ∷ [])
    told_leaves old last acts at did =
        let leave : Made = leave_made old.number did.2 in
        let pass : Act = record { link = old.number; made = did.0; asks = []; reads = did.1 } in
        let tell : Act = leave_of old.number did.2 in
        let on = served_on old (did_for old.number before) (did.0, [], did.1) (seen_in view old) (seen_in view last) (told.present i old at) did.4 in
        subst (λ (a : List Act). IsTold view reader loop (before ++ a) (set links i None) (ended ++ end_as last (seen_in view last) ∷ [])) (sym did.5)
        (told_off old at (pass ∷ tell ∷ []) (did.0 ++ leave, [], did.1)
        (did_append old.number (pass ∷ []) (tell ∷ []) ∙ ap (λ (d : Did). joined d (did_for old.number (tell ∷ []))) (did_own pass)
        ∙ ap (λ (d : Did). joined (did.0, [], did.1) d) (did_own tell) ∙ left_then did.0 leave did.1)
        (λ k other. did_append k (pass ∷ []) (tell ∷ []) ∙ ap (λ (d : Did). joined d (did_for k (tell ∷ []))) (did_other k pass other)
        ∙ ap (λ (d : Did). joined idle d) (did_other k tell other))
        (end_as last (seen_in view last)) did.3.0
        (tale_left last old.number (did_for old.number before) (did.0, [], did.1) did.2 (seen_in view last) did.3.0
        (served_as old last (joined (did_for old.number before) (did.0, [], did.1)) (seen_in view last) did.3 on)))

    -- either
    told_acting : (old new : Option (Numbered L)) (acts : List Act) (gone : List LinkEnd) → slice_get links i ≡ Some old
        → ActsOrLeaves view reader old acts new gone → IsTold view reader loop (before ++ acts) (set links i new) (ended ++ gone)
    told_acting old (Some new) acts gone at did =
        subst (λ (l : List LinkEnd). IsTold view reader loop (before ++ acts) (set links i (Some new)) (ended ++ l)) (sym did.1) (told_acts old (Some new) acts at did.0)
    told_acting None None acts gone at did =
        subst (λ (l : List LinkEnd). IsTold view reader loop (before ++ acts) (set links i None) (ended ++ l)) (sym did.1) (told_same acts at did.0)
    told_acting (Some old) None acts gone at did =
        subst (λ (l : List LinkEnd). IsTold view reader loop (before ++ acts) (set links i None) (ended ++ l)) (sym did.2) (told_leaves old did.0 acts at did.1)

    -- the end of a link was told, and it was let go of, as it was
    told_gone : (old : Option (Numbered L)) (acts : List Act) → slice_get links i ≡ Some old → LetsGo old acts
        → IsTold view reader loop (before ++ acts) (set links i None) (ended ++ end_in view old)
    told_gone None acts at did = told_same acts at did
    told_gone (Some old) acts at did =
        let tell : Act = leave_of old.number did.0 in
        subst (λ (a : List Act). IsTold view reader loop (before ++ a) (set links i None) (ended ++ end_as old (seen_in view old) ∷ [])) (sym did.1)
        (told_off old at (tell ∷ []) (leave_made old.number did.0, [], 0) (did_own tell) (λ k other. did_other k tell other) (end_as old (seen_in view old)) refl
        (tale_left old old.number (did_for old.number before) idle did.0 (seen_in view old) refl
        (subst (λ (d : Did). Served old d (seen_in view old)) (sym (joined_idle (did_for old.number before))) (told.present i old at))))

    -- a link was reported
    told_seen : (old new : Option (Numbered L)) → slice_get links i ≡ Some old → IsSeenAs view old new
        → IsTold view reader loop (before ++ []) (set links i new) (ended ++ [])
    told_seen None new at seen =
        subst (λ (x : Option (Numbered L)). IsTold view reader loop (before ++ []) (set links i x) (ended ++ [])) (sym seen) (told_same [] at refl)
    told_seen (Some old) None at seen = absurd seen
    told_seen (Some old) (Some new) at seen =
        told_on old at [] idle refl (λ k other. refl) new seen.0
        (subst (λ (d : Did). Served old d (seen_in view new)) (sym (joined_idle (did_for old.number before)))
        (subst (λ (x : Seen). Served old (did_for old.number before) x) (sym seen.1) (told.present i old at)))

    -- a link may have broken
    told_breaking : (old new : Option (Numbered L)) → slice_get links i ≡ Some old → MayBreak view old new
        → IsTold view reader loop (before ++ []) (set links i new) (ended ++ [])
    told_breaking None new at went =
        subst (λ (x : Option (Numbered L)). IsTold view reader loop (before ++ []) (set links i x) (ended ++ [])) (sym went) (told_same [] at refl)
    told_breaking (Some old) None at went = absurd went
    told_breaking (Some old) (Some new) at went =
        told_on old at [] idle refl (λ k other. refl) new went.0
        (served_on old (did_for old.number before) idle (seen_in view old) (seen_in view new) (told.present i old at)
        (went_read view.tells reader (seen_in view old) [] (seen_in view new) went.1))

  -- ---- a new link

  -- what a loop had stays its own
  own_still : (loop : LoopNumbers) (newest link : ℕ) → loop.newest ≤ newest → IsOwn loop link → IsOwn (record loop { newest = newest }) link
  own_still loop newest link more is = record { some = is.some; within = omega (arith, is.within, more); falls = is.falls }

  own_new : (loop : LoopNumbers) (link : ℕ) → loop.newest < link → loop_of loop.loops link ≡ loop.number → IsOwn (record loop { newest = link }) link
  own_new loop link above falls = record { some = omega (arith, above); within = omega arith; falls = falls }

  module _ (loop : LoopNumbers) (before : List Act) (links : List (Option (Numbered L))) (ended : List LinkEnd)
      (told : IsTold view reader loop before links ended) (new : Numbered L) (above : loop.newest < new.number)
      (falls : loop_of loop.loops new.number ≡ loop.number) (fresh : IsFresh view.tells new.number new.peer (seen_in view new)) where
    none_did : did_for new.number before ≡ idle
    none_did =
        let nothing = told.later new.number above in
        did_same (made_for new.number before) [] (asks_for new.number before) [] (reads_for new.number before) 0 nothing.0 nothing.1 nothing.2

    new_served : Served new (did_for new.number before) (seen_in view new)
    new_served = subst (λ (d : Did). Served new d (seen_in view new)) (sym none_did) (served_first new (seen_in view new) fresh)

    -- it is put into a free slot
    told_put : (i : ℕ) → slice_get links i ≡ Some None
        → IsTold view reader (record loop { newest = new.number }) (before ++ []) (set links i (Some new)) (ended ++ [])
    told_put i at =
        let there : (j : ℕ) (n : Numbered L) → slice_get (set links i (Some new)) j ≡ Some (Some n) → ((j ≡ i) × (new ≡ n)) ⊎ ((j ≢ i) × (slice_get links j ≡ Some (Some n))) =
        (λ j n got. ⊎_elim (λ h. inl (h.0, same_in new n (Some new) refl (same_in (Some new) (Some n) (slice_get (set links i (Some new)) j) h.1 got))) (λ h. inr (h.0, sym h.1 ∙ got))
        (got_set links i j None (Some new) at)) in
        subst (λ (b : List Act). IsTold view reader (record loop { newest = new.number }) b (set links i (Some new)) (ended ++ [])) (sym (append-nil before))
        (subst (λ (l : List LinkEnd). IsTold view reader (record loop { newest = new.number }) before (set links i (Some new)) l) (sym (append-nil ended))
        (record {
          present = λ j n got. ⊎_elim
              (λ h. subst (λ (m : Numbered L). Served m (did_for m.number before) (seen_in view m)) h.1 new_served)
              (λ h. told.present j n h.1) (there j n got);
          apart = apart_by (set links i (Some new)) (λ j k n m got had same. ⊎_elim
              (λ h. ⊎_elim (λ g. h.0 ∙ sym g.0)
              (λ g. let low = told.own k m g.1 in let is : new.number ≡ m.number = ap (λ (x : Numbered L). x.number) h.1 ∙ same in absurd (omega (arith, low.within, is, above))) (there k m had))
              (λ h. ⊎_elim
              (λ g. let low = told.own j n h.1 in let is : new.number ≡ n.number = ap (λ (x : Numbered L). x.number) g.1 ∙ sym same in absurd (omega (arith, low.within, is, above)))
              (λ g. apart_at links told.apart j k n m h.1 g.1 same) (there k m had)) (there j n got));
          own = λ j n got. ⊎_elim
              (λ h. subst (λ (m : Numbered L). IsOwn (record loop { newest = new.number }) m.number) h.1 (own_new loop new.number above falls))
              (λ h. own_still loop new.number n.number (omega (arith, above)) (told.own j n h.1)) (there j n got);
          later = λ link past. told.later link (omega (arith, past, above));
          known = λ link. ⊎_elim (λ none. inl none) (λ some. inr (⊎_elim
              (λ h. inl (
                h.0,
                (
                  h.1.0,
                  ⊎_elim (λ g. never_none h.1.0 (slice_get links i) at (subst (λ (j : ℕ). slice_get links j ≡ Some (Some h.1.0)) g.0 h.1.1)) (λ g. g.1 ∙ h.1.1)
                      (got_set links i h.0 None (Some new) at),
                  h.1.2,
                ),
              ))
              (λ h. inr h) some)) (told.known link);
          ends = record {
            each = λ k it got. let was = told.ends.each k it got in (own_still loop new.number it.number (omega (arith, above)) was.0, was.1);
            once = told.ends.once;
            gone = λ j k link has end. ⊎_elim
                (λ h. let low = (told.ends.each k end.0 end.1).0 in
                let is : new.number ≡ end.0.number = ap (λ (x : Numbered L). x.number) h.1 ∙ has.2 ∙ sym end.2 in omega (arith, low.within, is, above))
                (λ h. told.ends.gone j k link (has.0, h.1, has.2) end) (there j has.0 has.1);
          };
        }))

  -- one more free slot
  told_push : (loop : LoopNumbers) (before : List Act) (links : List (Option (Numbered L))) (ended : List LinkEnd) → IsTold view reader loop before links ended
      → IsTold view reader loop (before ++ []) (links ++ None ∷ []) (ended ++ [])
  told_push loop before links ended told =
      subst (λ (b : List Act). IsTold view reader loop b (links ++ None ∷ []) (ended ++ [])) (sym (append-nil before))
      (subst (λ (l : List LinkEnd). IsTold view reader loop before (links ++ None ∷ []) l) (sym (append-nil ended))
      (record {
        present = λ j n got. told.present j n (got_front links j n got);
        apart = apart_by (links ++ None ∷ []) (λ j k n m got had same. apart_at links told.apart j k n m (got_front links j n got) (got_front links k m had) same);
        own = λ j n got. told.own j n (got_front links j n got);
        later = told.later;
        known = λ link. ⊎_elim (λ none. inl none)
            (λ some. inr (⊎_elim (λ h. inl (h.0, (h.1.0, got_more links (None ∷ []) h.0 (Some h.1.0) h.1.1, h.1.2))) (λ h. inr h) some)) (told.known link);
        ends = record {
          each = told.ends.each;
          once = told.ends.once;
          gone = λ j k link has end. told.ends.gone j k link (has.0, got_front links j has.0 has.1, has.2) end;
        };
      }))

  -- the last slot was free, and is gone
  told_unpush : (loop : LoopNumbers) (before : List Act) (links : List (Option (Numbered L))) (ended : List LinkEnd) → IsTold view reader loop before (links ++ None ∷ []) ended
      → IsTold view reader loop before links ended
  told_unpush loop before links ended told =
      let more : (j : ℕ) (n : Numbered L) → slice_get links j ≡ Some (Some n) → slice_get (links ++ None ∷ []) j ≡ Some (Some n) =
      (λ j n got. got_more links (None ∷ []) j (Some n) got) in
      record {
        present = λ j n got. told.present j n (more j n got);
        apart = apart_by links (λ j k n m got had same. apart_at (links ++ None ∷ []) told.apart j k n m (more j n got) (more k m had) same);
        own = λ j n got. told.own j n (more j n got);
        later = told.later;
        known = λ link. ⊎_elim (λ none. inl none)
            (λ some. inr (⊎_elim (λ h. inl (h.0, (h.1.0, got_front links h.0 h.1.0 h.1.1, h.1.2))) (λ h. inr h) some)) (told.known link);
        ends = record {
          each = told.ends.each;
          once = told.ends.once;
          gone = λ j k link has end. told.ends.gone j k link (has.0, more j has.0 has.1, has.2) end;
        };
      }

  -- the last slot is gone, and its link was let go of
  told_pop : (loop : LoopNumbers) (before : List Act) (links : List (Option (Numbered L))) (ended : List LinkEnd) (last : Option (Numbered L)) (acts : List Act)
      → IsTold view reader loop before (links ++ last ∷ []) ended → LetsGo last acts → IsTold view reader loop (before ++ acts) links (ended ++ end_in view last)
  told_pop loop before links ended last acts told did =
      told_unpush loop (before ++ acts) links (ended ++ end_in view last)
      (subst (λ (l : List (Option (Numbered L))). IsTold view reader loop (before ++ acts) l (ended ++ end_in view last)) (set_last links last None)
      (told_gone loop before (links ++ last ∷ []) ended told (length links) last acts (got_end links last) did))

  -- a new link is let go of at once: it is as if it had been put into one more slot
  told_refused : (loop : LoopNumbers) (before : List Act) (links : List (Option (Numbered L))) (ended : List LinkEnd) → IsTold view reader loop before links ended
      → (new : Numbered L) → loop.newest < new.number → loop_of loop.loops new.number ≡ loop.number → IsFresh view.tells new.number new.peer (seen_in view new)
      → (acts : List Act) → LetsGo (Some new) acts
      → IsTold view reader (record loop { newest = new.number }) (before ++ acts) links (ended ++ end_as new (seen_in view new) ∷ [])
  told_refused loop before links ended told new above falls fresh acts did =
      let after : LoopNumbers = record loop { newest = new.number } in
      let put = told_put loop (before ++ []) (links ++ None ∷ []) (ended ++ []) (told_push loop before links ended told) new above falls fresh (length links) (got_end links None) in
      let there : IsTold view reader after ((before ++ []) ++ []) (links ++ Some new ∷ []) ((ended ++ []) ++ []) =
      subst (λ (l : List (Option (Numbered L))). IsTold view reader after ((before ++ []) ++ []) l ((ended ++ []) ++ [])) (set_last links None (Some new)) put in
      let kept : IsTold view reader after before (links ++ Some new ∷ []) ended =
      subst (λ (b : List Act). IsTold view reader after b (links ++ Some new ∷ []) ended) (append-nil (before ++ []) ∙ append-nil before)
      (subst (λ (e : List LinkEnd). IsTold view reader after ((before ++ []) ++ []) (links ++ Some new ∷ []) e) (append-nil (ended ++ []) ∙ append-nil ended) there) in
      told_pop after before links ended (Some new) acts kept did

  -- nothing was done
  told_still : (loop : LoopNumbers) (before : List Act) (links : List (Option (Numbered L))) (ended : List LinkEnd) → IsTold view reader loop before links ended
      → IsTold view reader loop (before ++ []) links (ended ++ [])
  told_still loop before links ended told =
      subst (λ (b : List Act). IsTold view reader loop b links (ended ++ [])) (sym (append-nil before))
      (subst (λ (l : List LinkEnd). IsTold view reader loop before links l) (sym (append-nil ended)) told)

  -- a loop begins without links
  pub told_none : (loop : LoopNumbers) (links : List (Option (Numbered L))) → links ≡ [] → IsTold view reader loop [] links []
  told_none loop links none =
      subst (λ (xs : List (Option (Numbered L))). IsTold view reader loop [] xs []) (sym none)
      (record {
        present = λ i at got. let empty : None ≡ Some (Some at) = got in cc;
        apart = apart_by [] (λ i j at other got had same. let empty : None ≡ Some (Some at) = got in cc);
        own = λ i at got. let empty : None ≡ Some (Some at) = got in cc;
        later = λ link above. (refl, refl, refl);
        known = λ link. inl (refl, refl, refl);
        ends = record {
          each = λ k it got. let empty : None ≡ Some it = got in cc;
          once = λ j k link one other. let empty : None ≡ Some one.0 = one.1 in cc;
          gone = λ i k link has end. let empty : None ≡ Some (Some has.0) = has.1 in cc;
        };
      })

module _ {L N : Type 0} (view : LoopView L N) (reader : ReaderView) where
  -- ---- a ledger

  pub enters_none : (ledger : Ledger N) → Enters view ledger [] ledger
  enters_none ledger kept = (kept, λ told. sym (append-nil (view.entries ledger.ends)))

  -- it is as it was
  enters_still : (old new : Ledger N) → new ≡ old → Enters view old [] new
  enters_still old new same = subst (λ (l : Ledger N). Enters view old [] l) (sym same) (enters_none old)

  pub enters_then : (old mid new : Ledger N) (gone more : List LinkEnd) → Enters view old gone mid → Enters view mid more new → Enters view old (gone ++ more) new
  enters_then old mid new gone more h k kept =
      let late = k kept in
      let early = h late.0 in
      (early.0, λ told. late.1 told ∙ ap (λ (l : List LinkEnd). l ++ more) (early.1 told) ∙ append_assoc (view.entries old.ends) gone more)

  -- one is lost
  enters_lost : (old new : Ledger N) (gone : List LinkEnd) → new.lost ≡ true → Enters view old gone new
  enters_lost old new gone lost kept = absurd (cc)

  -- ---- a loop

  -- by what its links did, where those that were let go of were entered
  goes_with : (old new : Links L N) (acts : List Act) (gone : List LinkEnd) → (new.loops ≡ old.loops) × (new.number ≡ old.number)
      → Enters view old.ledger gone new.ledger
      → ((before : List Act) (ended : List LinkEnd) → IsTold view.links reader (loop_numbers old) before old.slots.items ended
      → IsTold view.links reader (loop_numbers new) (before ++ acts) new.slots.items (ended ++ gone)) → GoesOn view reader old acts new
  goes_with old new acts gone same enters keeps = record {
    same = same;
    keeps = λ before told. record {
      ended = told.ended ++ gone;
      are = λ kept tells. let entered = enters kept in entered.1 tells ∙ ap (λ (l : List LinkEnd). l ++ gone) (told.are entered.0 tells);
      so = keeps before told.ended told.so;
    };
  }

  pub goes_on : (old mid new : Links L N) (first rest : List Act) → GoesOn view reader old first mid → GoesOn view reader mid rest new
      → GoesOn view reader old (first ++ rest) new
  goes_on old mid new first rest h k = record {
    same = (k.same.0 ∙ h.same.0, k.same.1 ∙ h.same.1);
    keeps = λ before told.
        subst (λ (b : List Act). IsToldOf view reader b new) (append_assoc before first rest)
        (k.keeps (before ++ first) (h.keeps before told));
  }

  -- nothing was done
  pub goes_nowhere : (links : Links L N) → GoesOn view reader links [] links
  goes_nowhere links = record {
    same = (refl, refl);
    keeps = λ before told. subst (λ (b : List Act). IsToldOf view reader b links) (sym (append-nil before)) told;
  }

  pub goes_nowhere_to : (old new : Links L N) → new ≡ old → GoesOn view reader old [] new
  goes_nowhere_to old new same = subst (λ (l : Links L N). GoesOn view reader old [] l) (sym same) (goes_nowhere old)

  -- nothing was done at first
  pub goes_from : (old mid new : Links L N) → mid ≡ old → GoesOn view reader mid [] new → GoesOn view reader old [] new
  goes_from old mid new same h = subst (λ (l : Links L N). GoesOn view reader l [] new) same h

  -- no step was made, twice
  pub goes_then : (old mid new : Links L N) → GoesOn view reader old [] mid → GoesOn view reader mid [] new → GoesOn view reader old [] new
  goes_then old mid new h k = goes_on old mid new [] [] h k

  -- the same links in the same slots, where one may be lost
  pub goes_entering : (old new : Links L N) → (new.loops ≡ old.loops) × (new.number ≡ old.number) × (new.newest ≡ old.newest) × (new.slots.items ≡ old.slots.items)
      → Enters view old.ledger [] new.ledger → GoesOn view reader old [] new
  goes_entering old new same enters = goes_with old new [] [] (same.0, same.1) enters
      (λ before ended told. let after = told_still view.links reader (loop_numbers old) before old.slots.items ended told in rw (same.0, same.1, same.2, same.3) after)

  -- nothing was done for its links
  pub goes_still : (old new : Links L N) → (new.loops ≡ old.loops) × (new.number ≡ old.number) × (new.newest ≡ old.newest) × (new.slots.items ≡ old.slots.items)
      → new.ledger ≡ old.ledger → GoesOn view reader old [] new
  goes_still old new same ledger = goes_entering old new same (enters_still old.ledger new.ledger ledger)

  -- one is lost
  pub goes_lost : (old new : Links L N) → (new.loops ≡ old.loops) × (new.number ≡ old.number) × (new.newest ≡ old.newest) × (new.slots.items ≡ old.slots.items)
      → new.ledger.lost ≡ true → GoesOn view reader old [] new
  goes_lost old new same lost = goes_entering old new same (enters_lost old.ledger new.ledger [] lost)

  -- a new link was put into a free slot
  pub goes_put : (old new : Links L N) (i : ℕ) (n : Numbered L)
      → (new.loops ≡ old.loops) × (new.number ≡ old.number) × (new.newest ≡ n.number) × (new.slots.items ≡ set old.slots.items i (Some n))
      → new.ledger ≡ old.ledger → slice_get old.slots.items i ≡ Some None → old.newest < n.number → loop_of old.loops n.number ≡ old.number
      → IsFresh view.links.tells n.number n.peer (seen_in view.links n) → GoesOn view reader old [] new
  goes_put old new i n same ledger at above falls fresh = goes_with old new [] [] (same.0, same.1) (enters_still old.ledger new.ledger ledger)
      (λ before ended told. let after = told_put view.links reader (loop_numbers old) before old.slots.items ended told n above falls fresh i at in
      rw (same.0, same.1, same.2, same.3) after)

  -- a new link was let go of at once
  pub goes_refusing : (old new : Links L N) (n : Numbered L) (acts : List Act) → LetsGo (Some n) acts
      → (new.loops ≡ old.loops) × (new.number ≡ old.number) × (new.newest ≡ n.number) × (new.slots.items ≡ old.slots.items)
      → Enters view old.ledger (end_as n (seen_in view.links n) ∷ []) new.ledger → old.newest < n.number → loop_of old.loops n.number ≡ old.number
      → IsFresh view.links.tells n.number n.peer (seen_in view.links n) → GoesOn view reader old acts new
  goes_refusing old new n acts did same enters above falls fresh = goes_with old new acts (end_as n (seen_in view.links n) ∷ []) (same.0, same.1) enters
      (λ before ended told. let after = told_refused view.links reader (loop_numbers old) before old.slots.items ended told n above falls fresh acts did in
      rw (same.0, same.1, same.2, same.3) after)

  -- there is one more free slot
  goes_pushed : (old new : Links L N) → (new.loops ≡ old.loops) × (new.number ≡ old.number) × (new.newest ≡ old.newest)
      × (new.slots.items ≡ old.slots.items ++ None ∷ []) → new.ledger ≡ old.ledger → GoesOn view reader old [] new
  goes_pushed old new same ledger = goes_with old new [] [] (same.0, same.1) (enters_still old.ledger new.ledger ledger)
      (λ before ended told. let after = told_push view.links reader (loop_numbers old) before old.slots.items ended told in rw (same.0, same.1, same.2, same.3) after)

  -- there is one more free slot, or there was no memory for it
  pub goes_pushing : (old new : Links L N) (done : Bool) → (new.loops ≡ old.loops) × (new.number ≡ old.number) × (new.newest ≡ old.newest)
      × (new.slots.items ≡ cond done (old.slots.items ++ None ∷ []) old.slots.items) → new.ledger ≡ old.ledger → GoesOn view reader old [] new
  goes_pushing old new true same ledger = goes_pushed old new same ledger
  goes_pushing old new false same ledger = goes_still old new same ledger

  -- a link was reported
  pub goes_reported : (old new : Links L N) (i : ℕ) (o n : Option (Numbered L)) → (new.loops ≡ old.loops) × (new.number ≡ old.number) × (new.newest ≡ old.newest)
      × (new.slots.items ≡ set old.slots.items i n) → new.ledger ≡ old.ledger → slice_get old.slots.items i ≡ Some o → IsSeenAs view.links o n → GoesOn view reader old [] new
  goes_reported old new i o n same ledger at seen = goes_with old new [] [] (same.0, same.1) (enters_still old.ledger new.ledger ledger)
      (λ before ended told. let after = told_seen view.links reader (loop_numbers old) before old.slots.items ended told i o n at seen in
      rw (same.0, same.1, same.2, same.3) after)

  -- the last slot is gone, and its link was let go of
  pub goes_popped : (old new : Links L N) (last : Option (Numbered L)) (acts : List Act) → LetsGo last acts
      → (new.loops ≡ old.loops) × (new.number ≡ old.number) × (new.newest ≡ old.newest)
      → old.slots.items ≡ new.slots.items ++ last ∷ [] → Enters view old.ledger (end_in view.links last) new.ledger → GoesOn view reader old acts new
  goes_popped old new last acts did same at enters = goes_with old new acts (end_in view.links last) (same.0, same.1) enters
      (λ before ended told. let after = told_pop view.links reader (loop_numbers old) before new.slots.items ended last acts
      (subst (λ (l : List (Option (Numbered L))). IsTold view.links reader (loop_numbers old) before l ended) at told) did in rw (same.0, same.1, same.2) after)

module _ {L : Type 0} (view : LinkView L) (reader : ReaderView) where
  -- ---- slots one after another

  -- what one slot did after others
  keeps_then : (first mid : List (Option (Numbered L))) (i : ℕ) (old new : Option (Numbered L)) (acts more : List Act) (gone late : List LinkEnd) → slice_get mid i ≡ Some old
      → Keeps view reader first acts mid gone → ActsOrLeaves view reader old more new late → Keeps view reader first (acts ++ more) (set mid i new) (gone ++ late)
  keeps_then first mid i old new acts more gone late at h k loop before ended told =
      subst (λ (b : List Act). IsTold view reader loop b (set mid i new) (ended ++ (gone ++ late))) (append_assoc before acts more)
      (subst (λ (l : List LinkEnd). IsTold view reader loop ((before ++ acts) ++ more) (set mid i new) l) (append_assoc ended gone late)
      (told_acting view reader loop (before ++ acts) mid (ended ++ gone) (h loop before ended told) i old new more late at k))

  pub keeps_all : (links : List (Option (Numbered L))) → Keeps view reader links [] links []
  keeps_all links loop before ended told = told_still view reader loop before links ended told

  -- a link may have broken
  pub keeps_breaking : (first mid : List (Option (Numbered L))) (i : ℕ) (old new : Option (Numbered L)) → slice_get mid i ≡ Some old
      → Keeps view reader first [] mid [] → MayBreak view old new → Keeps view reader first [] (set mid i new) []
  keeps_breaking first mid i old new at h k loop before ended told =
      subst (λ (b : List Act). IsTold view reader loop b (set mid i new) (ended ++ [])) (append-nil (before ++ []))
      (subst (λ (l : List LinkEnd). IsTold view reader loop ((before ++ []) ++ []) (set mid i new) l) (append-nil (ended ++ []))
      (told_breaking view reader loop (before ++ []) mid (ended ++ []) (h loop before ended told) i old new at k))

  -- a pass of a slot
  passes_one : (old new : Option (Numbered L)) (acts : List Act) → Acts view reader old acts new → ActsOrLeaves view reader old acts new []
  passes_one old (Some new) acts did = (did, refl)
  passes_one None None acts did = (did.0, refl)
  passes_one (Some old) None acts did = absurd did

  module _ {C : Type 0} (makes : Steps C) where
    pub acts_lead : (x y z : C) (first rest : List Act) → Makes makes x (steps_of first) y → Makes makes y (steps_of rest) z → Makes makes x (steps_of (first ++ rest)) z
    acts_lead x y z first rest h k =
        subst (λ (l : Made). Makes makes x l z) (sym (steps_append first rest)) (makes_append makes x (steps_of first) y (steps_of rest) z h k)

    pub acts_write : (first rest : List Act) (asks more : List AskParts) → AreSome (asks_of first) asks → AreSome (asks_of rest) more
        → AreSome (asks_of (first ++ rest)) (asks ++ more)
    acts_write first rest asks more h k =
        subst (λ (l : List AskParts). AreSome l (asks ++ more)) (sym (asks_append first rest)) (some_append (asks_of first) asks (asks_of rest) more h k)

    -- the count of the reader's failures doesn't matter where no reply `read N` was written
    pub led_any : (x y : C) (asks : List AskParts) (low : ℕ) (P : List Act → Type 0) → LeadsWith makes x y asks 0 0 P → LeadsWith makes x y asks low low P
    led_any x y asks low P h =
        record { acts = h.acts; leads = h.leads; wrote = h.wrote; counted = counted_any low h.acts h.counted; so = h.so }

    -- a pass of a link, in which a check-back may be written
    one_went : (x y : C) (o n : Numbered L) (asks all : List AskParts) (low high : ℕ) → AreSome (asks ++ []) all → IsSame o n
        → LeadsReading makes x y low high (λ made reads. WentOnWith view.tells reader (seen_in view o) made asks reads (seen_in view n))
        → LeadsWith makes x y all low high (λ acts. Acts view reader (Some o) acts (Some n))
    one_went x y o n asks all low high some same went = record {
      acts = record { link = o.number; made = went.made; asks = asks; reads = went.reads } ∷ [];
      leads = subst (λ (l : Made). Makes makes x l y) (sym (append-nil went.made)) went.leads;
      wrote = some;
      counted = counted_one low high went.reads went.counted;
      so = (went.made, asks, went.reads, same, went.so, refl);
    }

    pub one_asked : (x y : C) (o n : Numbered L) (ask : AskParts) (did : Bool) (low high : ℕ) → IsSame o n
        → LeadsReading makes x y low high (λ made reads. WentOnWith view.tells reader (seen_in view o) made (if_asked did ask) reads (seen_in view n))
        → LeadsWith makes x y (ask ∷ []) low high (λ acts. Acts view reader (Some o) acts (Some n))
    one_asked x y o n ask did low high same went = one_went x y o n (if_asked did ask) (ask ∷ []) low high (some_one did ask) same went

    pub one_replied : (x y : C) (o n : Numbered L) (low high : ℕ) → IsSame o n
        → LeadsReading makes x y low high (λ made reads. WentOn view.tells reader (seen_in view o) made reads (seen_in view n))
        → LeadsBy makes x y low high (λ acts. Acts view reader (Some o) acts (Some n))
    one_replied x y o n low high same went = one_went x y o n [] [] low high refl same went

    pub one_heard : (x y : C) (o n : Numbered L) → IsSame o n → Leads makes x y (λ made. WentOnUnread view.tells (seen_in view o) made (seen_in view n))
        → LeadsBy makes x y 0 0 (λ acts. Acts view reader (Some o) acts (Some n))
    one_heard x y o n same went =
        one_replied x y o n 0 0 same (record {
          made = went.made;
          leads = went.leads;
          reads = 0;
          counted = counted_none 0;
          so = went_read view.tells reader (seen_in view o) went.made (seen_in view n) went.so;
        })

    -- a pass of a link, and its end
    pub one_left : (x y z : C) (o n : Numbered L) (said : Option Said) (low high : ℕ) → IsSame o n
        → LeadsReading makes x y low high (λ made reads. WentOn view.tells reader (seen_in view o) made reads (seen_in view n))
        → makes y (Leave o.number) said z → LeadsBy makes x z low high (λ acts. Leaves view reader o acts n)
    one_left x y z o n said low high same went leave = record {
      acts = record { link = o.number; made = went.made; asks = []; reads = went.reads } ∷ leave_of o.number said ∷ [];
      leads = makes_append makes x went.made y ((Leave o.number, said) ∷ []) z went.leads (z, leave, refl);
      wrote = refl;
      counted = counted_one low high went.reads went.counted;
      so = (went.made, went.reads, said, same, went.so, refl);
    }

    module _ {N : Type 0} (whole : LoopView L N) where
      -- a slot in which something was done, or nothing, and whose link is there still
      pub slot_stays : (x y : C) (o n : Option (Numbered L)) (ledger : Ledger N) (low high : ℕ) → LeadsBy makes x y low high (λ acts. Acts view reader o acts n)
          → LeadsBy makes x y low high (λ acts. (gone : List LinkEnd) × Enters whole ledger gone ledger × ActsOrLeaves view reader o acts n gone)
      slot_stays x y o n ledger low high h = record {
        acts = h.acts;
        leads = h.leads;
        wrote = h.wrote;
        counted = h.counted;
        so = ([], enters_none whole reader ledger, passes_one o n h.acts h.so);
      }

      -- its link has ended, and was let go of
      pub slot_left : (x y : C) (s t taken : Option (Numbered L)) (o n : Numbered L) (old new : Ledger N) (low high : ℕ) → s ≡ Some o → t ≡ None → taken ≡ Some n
          → LeadsBy makes x y low high (λ acts. Leaves view reader o acts n) → Enters whole old (end_in view taken) new
          → LeadsBy makes x y low high (λ acts. (gone : List LinkEnd) × Enters whole old gone new × ActsOrLeaves view reader s acts t gone)
      slot_left x y s t taken o n old new low high was free got h enters =
          subst (λ (u : Option (Numbered L)). LeadsBy makes x y low high (λ acts. (gone : List LinkEnd) × Enters whole old gone new × ActsOrLeaves view reader u acts t gone)) (sym was)
          (subst (λ (u : Option (Numbered L)). LeadsBy makes x y low high (λ acts. (gone : List LinkEnd) × Enters whole old gone new × ActsOrLeaves view reader (Some o) acts u gone)) (sym free)
          (record {
            acts = h.acts;
            leads = h.leads;
            wrote = h.wrote;
            counted = h.counted;
            so = (end_as n (seen_in view n) ∷ [], subst (λ (u : Option (Numbered L)). Enters whole old (end_in view u) new) got enters, (n, h.so, refl));
          }))

      -- acts of one slot, and of others before it
      pub keeps_replying : (x y z : C) (first mid : List (Option (Numbered L))) (i : ℕ) (old new : Option (Numbered L)) (l m r : Ledger N) (low here high : ℕ)
          → slice_get mid i ≡ Some old
          → LeadsBy makes x y low here (λ acts. (gone : List LinkEnd) × Enters whole l gone m × Keeps view reader first acts mid gone)
          → LeadsBy makes y z here high (λ acts. (gone : List LinkEnd) × Enters whole m gone r × ActsOrLeaves view reader old acts new gone)
          → LeadsBy makes x z low high (λ acts. (gone : List LinkEnd) × Enters whole l gone r × Keeps view reader first acts (set mid i new) gone)
      keeps_replying x y z first mid i old new l m r low here high at h k = record {
        acts = h.acts ++ k.acts;
        leads = acts_lead x y z h.acts k.acts h.leads k.leads;
        wrote = acts_write h.acts k.acts [] [] h.wrote k.wrote;
        counted = counted_on low here high h.acts k.acts h.counted k.counted;
        so = (h.so.0 ++ k.so.0, enters_then whole reader l m r h.so.0 k.so.0 h.so.1 k.so.1, keeps_then first mid i old new h.acts k.acts h.so.0 k.so.0 at h.so.2 k.so.2);
      }

      pub replying_first : (x : C) (links : List (Option (Numbered L))) (ledger : Ledger N) (low : ℕ)
          → LeadsBy makes x x low low (λ acts. (gone : List LinkEnd) × Enters whole ledger gone ledger × Keeps view reader links acts links gone)
      replying_first x links ledger low = record {
        acts = [];
        leads = refl;
        wrote = refl;
        counted = counted_none low;
        so = ([], enters_none whole reader ledger, keeps_all links);
      }

    -- there is no link
    pub none_asked : (x : C) (o : Option (Numbered L)) (asks : List AskParts) (low : ℕ) → o ≡ None → LeadsWith makes x x asks low low (λ acts. Acts view reader o acts o)
    none_asked x o asks low none = subst (λ (w : Option (Numbered L)). LeadsWith makes x x asks low low (λ acts. Acts view reader w acts w)) (sym none)
        (record { acts = []; leads = refl; wrote = some_none asks; counted = counted_none low; so = (refl, refl) })

    -- acts of one slot, and of others before it
    pub keeps_slot : (x y z : C) (first mid : List (Option (Numbered L))) (i : ℕ) (old new : Option (Numbered L)) → slice_get mid i ≡ Some old
        → LeadsBy makes x y 0 0 (λ acts. Keeps view reader first acts mid []) → LeadsBy makes y z 0 0 (λ acts. Acts view reader old acts new)
        → LeadsBy makes x z 0 0 (λ acts. Keeps view reader first acts (set mid i new) [])
    keeps_slot x y z first mid i old new at h k = record {
      acts = h.acts ++ k.acts;
      leads = acts_lead x y z h.acts k.acts h.leads k.leads;
      wrote = acts_write h.acts k.acts [] [] h.wrote k.wrote;
      counted = counted_on 0 0 0 h.acts k.acts h.counted k.counted;
      so = keeps_then first mid i old new h.acts k.acts [] [] at h.so (passes_one old new k.acts k.so);
    }

    pub keeps_first : (x : C) (links : List (Option (Numbered L))) → LeadsBy makes x x 0 0 (λ acts. Keeps view reader links acts links [])
    keeps_first x links = record { acts = []; leads = refl; wrote = refl; counted = counted_none 0; so = keeps_all links }

module _ {L N : Type 0} (view : LoopView L N) (reader : ReaderView) where
  -- links may have broken
  pub goes_breaking : (old new : Links L N) (slots left : List (Option (Numbered L))) → slots ≡ old.slots.items → new.slots.items ≡ left
      → (new.loops ≡ old.loops) × (new.number ≡ old.number) × (new.newest ≡ old.newest) → new.ledger ≡ old.ledger
      → Keeps view.links reader slots [] left [] → GoesOn view reader old [] new
  goes_breaking old new slots left are then same ledger h = goes_with view reader old new [] [] (same.0, same.1) (enters_still view reader old.ledger new.ledger ledger)
      (λ before ended told. let after = h (loop_numbers old) before ended (subst (λ (l : List (Option (Numbered L))). IsTold view.links reader (loop_numbers old) before l ended) (sym are) told) in
      rw (same.0, same.1, same.2, then) after)

  module _ {C : Type 0} (makes : Steps C) where
    -- a loop goes on by what its slots do
    pub goes_by : (x y : C) (old new : Links L N) (slots left : List (Option (Numbered L))) (low high : ℕ) → slots ≡ old.slots.items → new.slots.items ≡ left
        → (new.loops ≡ old.loops) × (new.number ≡ old.number) × (new.newest ≡ old.newest)
        → LeadsBy makes x y low high (λ acts. (gone : List LinkEnd) × Enters view old.ledger gone new.ledger × Keeps view.links reader slots acts left gone)
        → LeadsBy makes x y low high (λ acts. GoesOn view reader old acts new)
    goes_by x y old new slots left low high are then same h = record {
      acts = h.acts;
      leads = h.leads;
      wrote = h.wrote;
      counted = h.counted;
      so = goes_with view reader old new h.acts h.so.0 (same.0, same.1) h.so.1
          (λ before ended told. let after = h.so.2 (loop_numbers old) before ended (subst (λ (l : List (Option (Numbered L))). IsTold view.links reader (loop_numbers old) before l ended) (sym are) told) in
          rw (same.0, same.1, same.2, then) after);
    }

    -- where no link is let go of
    pub goes_hearing : (x y : C) (old new : Links L N) (slots left : List (Option (Numbered L))) → slots ≡ old.slots.items → new.slots.items ≡ left
        → (new.loops ≡ old.loops) × (new.number ≡ old.number) × (new.newest ≡ old.newest) → new.ledger ≡ old.ledger
        → LeadsBy makes x y 0 0 (λ acts. Keeps view.links reader slots acts left []) → LeadsBy makes x y 0 0 (λ acts. GoesOn view reader old acts new)
    goes_hearing x y old new slots left are then same ledger h =
        goes_by x y old new slots left 0 0 are then same (record {
          acts = h.acts;
          leads = h.leads;
          wrote = h.wrote;
          counted = h.counted;
          so = ([], enters_still view reader old.ledger new.ledger ledger, h.so);
        })

    -- a loop goes on by what one of its slots does
    pub goes_at : (x y : C) (old new : Links L N) (i : ℕ) (o n : Option (Numbered L)) (asks : List AskParts) (low high : ℕ)
        → (new.loops ≡ old.loops) × (new.number ≡ old.number) × (new.newest ≡ old.newest) × (new.slots.items ≡ set old.slots.items i n) → new.ledger ≡ old.ledger
        → slice_get old.slots.items i ≡ Some o → LeadsWith makes x y asks low high (λ acts. Acts view.links reader o acts n)
        → LeadsWith makes x y asks low high (λ acts. GoesOn view reader old acts new)
    goes_at x y old new i o n asks low high same ledger at h = record {
      acts = h.acts;
      leads = h.leads;
      wrote = h.wrote;
      counted = h.counted;
      so = goes_with view reader old new h.acts [] (same.0, same.1) (enters_still view reader old.ledger new.ledger ledger)
          (λ before ended told. let after = told_acts view.links reader (loop_numbers old) before old.slots.items ended told i o n h.acts at h.so in
          rw (same.0, same.1, same.2, same.3) after);
    }

    pub goes_leading : (x y z : C) (old mid new : Links L N) (asks more : List AskParts) (low here high : ℕ) → LeadsWith makes x y asks low here (λ acts. GoesOn view reader old acts mid)
        → LeadsWith makes y z more here high (λ acts. GoesOn view reader mid acts new) → LeadsWith makes x z (asks ++ more) low high (λ acts. GoesOn view reader old acts new)
    goes_leading x y z old mid new asks more low here high h k = record {
      acts = h.acts ++ k.acts;
      leads = acts_lead view.links reader makes x y z h.acts k.acts h.leads k.leads;
      wrote = acts_write view.links reader makes h.acts k.acts asks more h.wrote k.wrote;
      counted = counted_on low here high h.acts k.acts h.counted k.counted;
      so = goes_on view reader old mid new h.acts k.acts h.so k.so;
    }

    -- nothing is written, whatever was taken
    pub goes_quietly : (x : C) (old new : Links L N) (asks : List AskParts) (low : ℕ) → GoesOn view reader old [] new
        → LeadsWith makes x x asks low low (λ acts. GoesOn view reader old acts new)
    goes_quietly x old new asks low went = record { acts = []; leads = refl; wrote = some_none asks; counted = counted_none low; so = went }

    -- ---- links that are let go of

    -- some acts by which no reply was written
    abbrev pub Quietly : C → Links L N → C → Links L N → Type 0
    Quietly x old y new = LeadsBy makes x y 0 0 (λ acts. GoesOn view reader old acts new)

    pub quiet_then : (x y z : C) (old mid new : Links L N) → Quietly x old y mid → Quietly y mid z new → Quietly x old z new
    quiet_then x y z old mid new h k = goes_leading x y z old mid new [] [] 0 0 0 h k

    -- no step was made at first
    pub quiet_first : (x y : C) (old mid new : Links L N) → GoesOn view reader old [] mid → Quietly x mid y new → Quietly x old y new
    quiet_first x y old mid new h k = quiet_then x x y old mid new (goes_quietly x old mid [] 0 h) k

    -- and then none
    pub quiet_last : (x y : C) (old mid new : Links L N) → Quietly x old y mid → GoesOn view reader mid [] new → Quietly x old y new
    quiet_last x y old mid new h k = quiet_then x y y old mid new h (goes_quietly y mid new [] 0 k)

    -- and then nothing changed
    pub quiet_kept : (x y : C) (old mid new : Links L N) → Quietly x old y mid → new ≡ mid → Quietly x old y new
    quiet_kept x y old mid new h same = subst (λ (l : Links L N). Quietly x old y l) (sym same) h

    pub quiet_none : (x : C) (links : Links L N) → Quietly x links x links
    quiet_none x links = goes_quietly x links links [] 0 (goes_nowhere view reader links)

    -- a new link was let go of at once
    pub quiet_refusing : (x y : C) (old new : Links L N) (n : Numbered L)
        → (new.loops ≡ old.loops) × (new.number ≡ old.number) × (new.newest ≡ n.number) × (new.slots.items ≡ old.slots.items)
        → Enters view old.ledger (end_as n (seen_in view.links n) ∷ []) new.ledger → old.newest < n.number → loop_of old.loops n.number ≡ old.number
        → IsFresh view.links.tells n.number n.peer (seen_in view.links n) → LeadsBy makes x y 0 0 (λ acts. LetsGo (Some n) acts) → Quietly x old y new
    quiet_refusing x y old new n same enters above falls fresh h = record {
      acts = h.acts;
      leads = h.leads;
      wrote = h.wrote;
      counted = h.counted;
      so = goes_refusing view reader old new n h.acts h.so same enters above falls fresh;
    }

    -- the last slot is gone, and its link was let go of
    pub quiet_popped : (x y : C) (old new : Links L N) (last : Option (Numbered L)) → (new.loops ≡ old.loops) × (new.number ≡ old.number) × (new.newest ≡ old.newest)
        → old.slots.items ≡ new.slots.items ++ last ∷ [] → Enters view old.ledger (end_in view.links last) new.ledger
        → LeadsBy makes x y 0 0 (λ acts. LetsGo last acts) → Quietly x old y new
    quiet_popped x y old new last same at enters h = record {
      acts = h.acts;
      leads = h.leads;
      wrote = h.wrote;
      counted = h.counted;
      so = goes_popped view reader old new last h.acts h.so same at enters;
    }

    -- ---- check-backs that were taken

    module _ {A : Type 0} (takes : A → List AskParts → A → Type 0) where
      abbrev pub Taking : C → Links L N → A → C → Links L N → A → ℕ → ℕ → Type 0
      Taking x old before y new after low high = LeadsTaking makes takes x y before after low high (λ acts. GoesOn view reader old acts new)

      -- none was taken
      pub taking_none : ((end : A) → takes end [] end) → (x y : C) (old new : Links L N) (end : A) (low high : ℕ) → LeadsBy makes x y low high (λ acts. GoesOn view reader old acts new)
          → Taking x old end y new end low high
      taking_none none x y old new end low high went = record { taken = []; took = none end; went = went }

      -- no step was made either
      pub taking_nothing : ((end : A) → takes end [] end) → (x : C) (old new : Links L N) (end : A) (low : ℕ) → GoesOn view reader old [] new → Taking x old end x new end low low
      taking_nothing none x old new end low went = taking_none none x x old new end low low (goes_quietly x old new [] low went)

      module _ (more : (old : A) (first : List AskParts) (mid : A) (rest : List AskParts) (new : A) → takes old first mid → takes mid rest new → takes old (first ++ rest) new) where
        pub taking_on : (x y z : C) (old mid new : Links L N) (before at after : A) (low here high : ℕ) → Taking x old before y mid at low here
            → Taking y mid at z new after here high → Taking x old before z new after low high
        taking_on x y z old mid new before at after low here high h k = record {
          taken = h.taken ++ k.taken;
          took = more before h.taken at k.taken after h.took k.took;
          went = goes_leading x y z old mid new h.taken k.taken low here high h.went k.went;
        }

        -- one more was taken, and was written to its link or dropped
        pub taking_one : (x y z : C) (old mid new : Links L N) (before at after : A) (ask : AskParts) (low here high : ℕ) → Taking x old before y mid at low here
            → takes at (ask ∷ []) after → LeadsWith makes y z (ask ∷ []) here high (λ acts. GoesOn view reader mid acts new) → Taking x old before z new after low high
        taking_one x y z old mid new before at after ask low here high h took went =
            taking_on x y z old mid new before at after low here high h (record { taken = ask ∷ []; took = took; went = went })

        -- and then none was there
        pub taking_until : (x y : C) (old new : Links L N) (before at after : A) (low high : ℕ) → Taking x old before y new at low high → takes at [] after
            → Taking x old before y new after low high
        taking_until x y old new before at after low high h took = record {
          taken = h.taken;
          took = subst (λ (l : List AskParts). takes before l after) (append-nil h.taken) (more before h.taken at [] after h.took took);
          went = h.went;
        }

        -- links were let go of at first, check-backs were taken, and then none
        pub taking_serving : ((end : A) → takes end [] end) → (w x y z : C) (old mid from given new : Links L N) (before after : A) (low here high : ℕ) → Quietly w old x mid
            → from ≡ mid → Taking x from before y given after low here → LeadsBy makes y z here high (λ acts. GoesOn view reader given acts new)
            → Taking w old before z new after low high
        taking_serving none w x y z old mid from given new before after low here high h same took served =
            taking_on w x z old from new before before after low low high
            (taking_none none w x old from before low low (led_any view.links reader makes w x [] low (λ acts. GoesOn view reader old acts from) (quiet_kept w x old mid from h same)))
            (taking_on x y z from given new before after after low here high took (taking_none none y z given new after here high served))
