-- Whose the entries of the history are: those of four passes that met again.
use Rattle.std.proofs.Common.{◌≡◌, ◌⊎◌, ⊎_elim, inl, inr, ℕ, zero, suc, ◌<◌, ◌≤◌, List, [], ◌∷◌, ◌++◌, length, false, Option, Some, None, IfSome, refl, sym, ap, ◌∙◌, subst, arith, append-nil}
use Rattle.std.specs.Prelude.{slice_get}
use Rattle.broker_events.specs.Makes.{Makes}
use Rattle.broker_events.specs.declared.event.Event.{Event}
use Rattle.broker_events.specs.declared.said.Said.{Said}
use Rattle.broker_core.specs.Owner.{plain_look}
use Rattle.core_log.specs.declared.parts.Parts.{Parts}
use Rattle.mq_outside.specs.Readings.{Giving}
use Rattle.session.specs.Owing.{Steps}
use Rattle.session.specs.Serving.{Made, Leads}
use Rattle.reply_fields.specs.Parts.{AskParts}
use Rattle.flush_rounds.specs.Ways.{taken_by}
use Rattle.mq_peers.specs.Ended.{LinkEnd}
use Rattle.event_loops.specs.Tales.{steps_of, asks_of, made_for, asks_for, reads_for, AreSome, DidNothing, loop_of, IsEndOf, IsTale, IsAnsweredInOrder, LoopView, IsToldOf, loop_numbers}
use Rattle.event_loops.specs.Timing.{ClockOver}
use Rattle.event_loops.proofs.Told.{told_none}
use Rattle.story_lock.specs.declared.chronicle.Chronicle.{Ghosts}
use Rattle.story_lock.specs.declared.story.Story.{Story}
use Rattle.story_lock.specs.declared.story.Pass.{Pass}
use Rattle.story_lock.specs.Counts.{times, StartsWith, IsDistinct}
use Rattle.story_lock.specs.Rule.{longer, shorter}
use Rattle.story_lock.specs.Passes.{IsPassOf, seen_by, mine_of, numbers_of, seats_of, start_of}
use Rattle.story_lock.specs.Owned.{HasAt, AscendsFrom, Owns, StepsBy}
use Rattle.story_lock.proofs.Owned.{owned, same_story}
use Rattle.story_lock.proofs.Sums.{by_length}
use Rattle.spine.specs.declared.shared.Shared.{Shared}
use Rattle.spine.specs.Passes.{Joins}
use Rattle.spine.specs.Stands.{Stands, StandsFor}
use Rattle.segment_files.specs.declared.last_file.LastFile.{LastFile}
use Rattle.worker_turns.specs.Acts as acts
use Rattle.worker_turns.specs.Acts.{Acted, DiskView, Place, place_of, change_of}
use Rattle.loop_threads.specs.Kept.{SeesAll}
use Rattle.loop_threads.specs.Loops.{ReaderOver, Worked, Part}
use Rattle.flush_rounds.specs.Asking.{IsFrontOf}
use Rattle.serve_threads.specs.Links.{LoopLinks, loop_links, first_links, second_links, AreUpTo, WasAnswered, AreEntered, WorksFrom}
use Rattle.flush_rounds.specs.Flushing.{FlushesTo, Write}
use Rattle.serve_threads.specs.Served.{first_clock, second_clock, timer_of, AreLooks, IsMerged, Meets, Cuts, AreCut, AreMet, ByThread, HasMade, IsMadeBy, Views, by_thread}
use Rattle.flush_rounds.proofs.Asking.{got_more, front_some}
use Rattle.loop_threads.proofs.Working.{read_by}
use Rattle.serve_threads.proofs.Keeping.{SeesAt, starts_then}
use Rattle.serve_threads.proofs.Keys.{cut_numbers}
use Rattle.flush_rounds.proofs.Turns.{acts_make, acts_write}
use Rattle.serve_threads.proofs.SharedStory.{leads_on}

-- ---- what a loop made

-- no link is there
nothing_in : {X : Type 0} (slots : List (Option X)) (i : ℕ) (x : X) → slots ≡ [] → slice_get slots i ≡ Some (Some x) → ⊥
nothing_in slots i x none got =
    let there : slice_get [] i ≡ Some (Some x) = subst (λ (l : List (Option _)). slice_get l i ≡ Some (Some x)) none got in
    let empty : None ≡ Some (Some x) = there in cc

module _ {L N C : Type 0} (view : LoopView L N) (reader : ReaderOver) (makes : Steps C) (number : ℕ) (clock : ClockOver) (old new : Part C L N)
    (loops : (old.links.loops ≡ 2) × (old.links.number ≡ number)) (begins : old.links.slots.items ≡ [])
    (fresh : view.told → view.entries old.links.ledger.ends ≡ []) (work : Worked makes view reader clock old new) where
  -- what a loop did from its beginning on
  all_told : IsToldOf view (read_by reader) work.went.went.acts new.links
  all_told = work.went.went.so.went.keeps []
      (record { ended = []; are = λ kept told. fresh told; so = told_none view.links (read_by reader) (loop_numbers old.links) old.links.slots.items begins })

  -- the numbers of the links that have ended are at most the greatest that it had
  pub up_to : (came : ℕ) → view.told → new.links.ledger.lost ≡ false → new.links.newest ≤ came → AreUpTo came (view.entries new.links.ledger.ends)
  up_to came told kept most =
      subst (λ (l : List LinkEnd). AreUpTo came l) (sym (all_told.are kept told))
      (λ k it got. let own = (all_told.so.ends.each k it got).0 in (own.some, omega (arith, own.within, most)))

  module _ (law : (it : LinkEnd) (made : Made) (asks : List AskParts) (reads : ℕ) → IsTale view.links.tells (read_by reader) it made asks reads
      → IsAnsweredInOrder view.links.tells (read_by reader) it made asks reads) where
    -- what it did for a link that has ended
    was_answered : (k : ℕ) (it : LinkEnd) → slice_get all_told.ended k ≡ Some it → WasAnswered view.links.tells (read_by reader) number work.went.went.acts it
    was_answered k it got =
        let is = all_told.so.ends.each k it got in
        let done = work.went.went.acts in
        let same = work.went.went.so.went.same in (
          subst (λ (n : ℕ). loop_of n it.number ≡ number) (same.0 ∙ loops.0) (is.0.falls ∙ (same.1 ∙ loops.1)),
          law it (made_for it.number done) (asks_for it.number done) (reads_for it.number done) is.1,
        )

    -- it did nothing for a number that none of these had
    known_ended : (link : ℕ) → DidNothing link work.went.went.acts ⊎ ((k : ℕ) × IsEndOf all_told.ended k link)
    known_ended link = ⊎_elim (λ none. inl none)
        (λ some. ⊎_elim (λ here. absurd (nothing_in new.links.slots.items here.0 here.1.0 work.none here.1.1)) (λ ended. inr ended) some) (all_told.so.known link)

    -- what it did is what it made for each of its links, with some of the check-backs that it took, and with no more replies `read N` than
    -- its reader failed; and its ledger says which these are, where it tells and has them all
    pub answered : (told : Type 0) (ended : List LinkEnd) → taken_by old.asks.way ≡ []
        → (told → view.told × (new.links.ledger.lost ≡ false) × (view.entries new.links.ledger.ends ≡ ended))
        → Leads makes old.calls new.calls (WorksFrom (loop_links view.links.tells told ended) reader.gives reader.new clock number (taken_by new.asks.way))
    answered told ended none whole =
        let went = work.went.went in
        let all : work.went.taken ≡ taken_by new.asks.way = sym (work.went.took.all ∙ ap (λ (l : List AskParts). l ++ work.went.taken) none) in
        record {
          made = steps_of went.acts;
          leads = went.leads;
          so = record {
            answered = (
              asks_of went.acts,
              subst (λ (l : List AskParts). AreSome (asks_of went.acts) l) all went.wrote,
              record {
                acts = went.acts;
                all = refl;
                asked = refl;
                read = let counted = went.counted in omega (arith, counted);
                each = λ link. ⊎_elim (λ nothing. inl nothing) (λ end. inr (end.1.0, end.1.2, was_answered end.0 end.1.0 end.1.1)) (known_ended link);
                ended = λ is_told.
                    let is = whole is_told in
                    subst (λ (l : List LinkEnd). AreEntered view.links.tells (read_by reader) number went.acts l) (sym (all_told.are is.1 is.0) ∙ is.2)
                    (record { each = was_answered; once = all_told.so.ends.once; known = known_ended });
              },
            );
            timed = went.so.timed;
          };
        }

-- the steps of a loop
pub worked_leads : {L N C : Type 0} (makes : Steps C) (view : LoopView L N) (reader : ReaderOver) (clock : ClockOver) (old new : Part C L N) → Worked makes view reader clock old new
    → Leads makes old.calls new.calls (λ made. Unit {0})
worked_leads makes view reader clock old new work = record { made = steps_of work.went.went.acts; leads = work.went.went.leads; so = tt }

-- it took the first of what was put on its way
pub took_first : {C : Type 0} (makes : Steps C) (links : LoopLinks) (gives : Giving) (failures : ℕ) (clock : ClockOver) (number : ℕ) (x y : C) (taken put : List AskParts) → IsFrontOf taken put
    → Leads makes x y (WorksFrom links gives failures clock number taken) → Leads makes x y (WorksFrom links gives failures clock number put)
took_first makes links gives failures clock number x y taken put front went =
    let was = went.so.answered in
    record {
      made = went.made;
      leads = went.leads;
      so = record { answered = (was.0, front_some was.0 taken put was.1 front, was.2); timed = went.so.timed };
    }

-- ---- entries at places

has_more : {X : Type 0} (log more : List X) (ks : List ℕ) (xs : List X) → HasAt log ks xs → HasAt (log ++ more) ks xs
has_more log more [] [] has = tt
has_more log more [] (x ∷ xs) has = has
has_more log more (k ∷ ks) [] has = has
has_more log more (k ∷ ks) (x ∷ xs) has = (got_more log more k x has.0, has_more log more ks xs has.1)

has_from : {X : Type 0} (log all : List X) (ks : List ℕ) (xs : List X) → StartsWith all log → HasAt log ks xs → HasAt all ks xs
has_from log all ks xs begins has = subst (λ (l : List _). HasAt l ks xs) (sym begins.1) (has_more log begins.0 ks xs has)

-- of two histories, the shorter of which begins the longer, each begins it
both_begin : {X : Type 0} (xs ys : List X) → StartsWith (longer xs ys) (shorter xs ys) → StartsWith (longer xs ys) xs × StartsWith (longer xs ys) ys
both_begin {X} xs ys =
    by_length (λ l s. StartsWith l s → StartsWith l xs × StartsWith l ys) xs ys
    (λ less begins. (begins, ([], sym (append-nil ys))))
    (λ less begins. (([], sym (append-nil xs)), begins))

ascends_lower : (low high : ℕ) (ks : List ℕ) → low ≤ high → AscendsFrom high ks → AscendsFrom low ks
ascends_lower low high [] less ascends = tt
ascends_lower low high (k ∷ ks) less ascends = (omega (arith, less, ascends.0), ascends.1)

each_of_four : (k : ℕ) → k < 4 → 0 < times k (0 ∷ 3 ∷ 2 ∷ 1 ∷ [])
each_of_four zero less = omega arith
each_of_four (suc zero) less = omega arith
each_of_four (suc (suc zero)) less = omega arith
each_of_four (suc (suc (suc zero))) less = omega arith
each_of_four (suc (suc (suc (suc k)))) less = absurd (omega (arith, less))

module _ {chronicle : Ghosts Shared Event (Option Said)} where
  -- ---- what a pass gained

  -- these entries are the pass's own since, of which this is so
  record Gains (old : Pass Shared Event (Option Said) chronicle) (P : Made → Type 0) (new : Pass Shared Event (Option Said) chronicle) : Type 0 where
    made : Made
    so : P made
    owns : Owns old made new

  same_some : (a b : Pass Shared Event (Option Said) chronicle) (o : Option (Pass Shared Event (Option Said) chronicle)) → o ≡ Some a → o ≡ Some b → a ≡ b
  same_some a b o is at = cc

  gains : {C : Type 0} (pass_of : C → Option (Pass Shared Event (Option Said) chronicle)) (P : Made → Type 0) (x y : C) (old new : Pass Shared Event (Option Said) chronicle)
      → pass_of x ≡ Some old → pass_of y ≡ Some new → Leads (StepsBy pass_of) x y P → Gains old P new
  gains pass_of P x y old new at there went =
      let all = owned pass_of (λ a es b. Makes (StepsBy pass_of) a es b) (λ a b s. s) (λ a s ss b m. m) x went.made y old at went.leads in
      let is : all.0 ≡ new = same_some all.0 new (pass_of y) all.1 there in
      record { made = went.made; so = went.so; owns = subst (λ (p : Pass Shared Event (Option Said) chronicle). Owns old went.made p) is all.2 }

  -- what was seen of the core was seen by looks
  pub looks_of : {C V : Type 0} (pass_of : C → Option (Pass Shared Event (Option Said) chronicle)) (place_at : C → V) (start_at : V → Shared) (x : C) (cores : List Parts) (y : C)
      → SeesAll (SeesAt pass_of place_at start_at) x cores y → Leads (StepsBy pass_of) x y AreLooks
  looks_of pass_of place_at start_at x [] y all = record { made = []; leads = all; so = tt }
  looks_of pass_of place_at start_at x (core ∷ cores) y all =
      let rest = looks_of pass_of place_at start_at all.0 cores y all.2 in
      record { made = (plain_look, Some all.1.0.what) ∷ rest.made; leads = (all.0, all.1.0.step, rest.leads); so = (refl, rest.so) }

  -- these turns are the pass's own since
  record GainsTurns {D : Type 0} (view : DiskView D) (P : List acts.Act → Type 0) (old : Pass Shared Event (Option Said) chronicle) (p : Place D) (new : Pass Shared Event (Option Said) chronicle) (q : Place D) : Type 0 where
    turns : List acts.Act
    so : P turns
    owns : Owns old (acts.steps_of turns) new
    write : Write view turns p q

  gains_turns : {C D : Type 0} (pass_of : C → Option (Pass Shared Event (Option Said) chronicle)) (view : DiskView D) (P : List acts.Act → Type 0) (x y : C) (p q : Place D) (old new : Pass Shared Event (Option Said) chronicle)
      → pass_of x ≡ Some old → pass_of y ≡ Some new → Acted (StepsBy pass_of) view P (change_of x p y q) → GainsTurns view P old p new q
  gains_turns pass_of view P x y p q old new at there acted =
      let made = acts_make (StepsBy pass_of) view acted.acts x y p q acted.happened in
      let all = owned pass_of (λ a es b. Makes (StepsBy pass_of) a es b) (λ a b s. s) (λ a s ss b m. m) x (acts.steps_of acted.acts) y old at made in
      let is : all.0 ≡ new = same_some all.0 new (pass_of y) all.1 there in
      record {
        turns = acted.acts;
        so = acted.kind;
        owns = subst (λ (r : Pass Shared Event (Option Said) chronicle). Owns old (acts.steps_of acted.acts) r) is all.2;
        write = acts_write (StepsBy pass_of) view acted.acts x y p q acted.happened;
      }

  -- ---- a pass stays one of its story

  stays_made : {C : Type 0} (pass_of : C → Option (Pass Shared Event (Option Said) chronicle)) (story : Story Shared Event (Option Said)) (x y : C) (old : Pass Shared Event (Option Said) chronicle) (made : Made)
      → pass_of x ≡ Some old → IsPassOf story old → Makes (StepsBy pass_of) x made y → IfSome (pass_of y) (λ p. IsPassOf story p)
  stays_made pass_of story x y old made at of leads =
      let all = owned pass_of (λ a es b. Makes (StepsBy pass_of) a es b) (λ a b s. s) (λ a s ss b m. m) x made y old at leads in
      subst (λ (o : Option (Pass Shared Event (Option Said) chronicle)). IfSome o (λ p. IsPassOf story p)) (sym all.1) (same_story story old all.0 all.2.same of)

  pub stays_leading : {C : Type 0} (pass_of : C → Option (Pass Shared Event (Option Said) chronicle)) (story : Story Shared Event (Option Said)) (x y : C) (old : Pass Shared Event (Option Said) chronicle)
      (P : Made → Type 0) → pass_of x ≡ Some old → IsPassOf story old → Leads (StepsBy pass_of) x y P → IfSome (pass_of y) (λ p. IsPassOf story p)
  stays_leading pass_of story x y old P at of went = stays_made pass_of story x y old went.made at of went.leads

  pub stays_acting : {C D : Type 0} (pass_of : C → Option (Pass Shared Event (Option Said) chronicle)) (view : DiskView D) (P : List acts.Act → Type 0) (story : Story Shared Event (Option Said)) (x y : C) (p q : Place D)
      (old : Pass Shared Event (Option Said) chronicle) → pass_of x ≡ Some old → IsPassOf story old → Acted (StepsBy pass_of) view P (change_of x p y q) → IfSome (pass_of y) (λ p. IsPassOf story p)
  stays_acting pass_of view P story x y p q old at of acted =
      stays_made pass_of story x y old (acts.steps_of acted.acts) at of (acts_make (StepsBy pass_of) view acted.acts x y p q acted.happened)

  -- ---- four passes met

  joined : (one other new : Pass Shared Event (Option Said) chronicle) → Joins one other new → StartsWith (seen_by new) (seen_by one) × StartsWith (seen_by new) (seen_by other)
  joined one other new joins =
      let begins = both_begin (seen_by one) (seen_by other) (subst (λ (l : List (Event × Option Said)). StartsWith l (shorter (seen_by one) (seen_by other))) joins.seen joins.begins) in (
        subst (λ (l : List (Event × Option Said)). StartsWith l (seen_by one)) (sym joins.seen) begins.0,
        subst (λ (l : List (Event × Option Said)). StartsWith l (seen_by other)) (sym joins.seen) begins.1,
      )

  -- what the last one had seen begins what the one that is left has seen
  pub met_last : {passes : ByThread (Option (Pass Shared Event (Option Said) chronicle))} (new : Pass Shared Event (Option Said) chronicle) (are : AreMet passes new)
      → StartsWith (seen_by new) (seen_by are.looks)
  met_last new are = (joined are.meets.late are.looks new are.meets.at_last).1

  module _ {D : Type 0} (views : Views D) (failures : ℕ × ℕ) where
    met : (put : List AskParts × List AskParts) (p : Place D) (file : LastFile) (disk : D) (whole k a b e kt at bt et new : Pass Shared Event (Option Said) chronicle) → mine_of whole ≡ [] → numbers_of whole ≡ 0 ∷ 1 ∷ 2 ∷ 3 ∷ []
        → Cuts whole k a b e → GainsTurns views.disk (FlushesTo (timer_of views.clocks) put) k p kt (place_of file disk) → Gains a (WorksFrom (first_links views.links) views.gives failures.0 (first_clock views.clocks) 0 put.0) at
        → Gains b (WorksFrom (second_links views.links) views.gives failures.1 (second_clock views.clocks) 1 put.1) bt
        → Gains e AreLooks et → Meets kt at bt et new → HasMade views failures p new disk
    met put p file disk whole k a b e kt at bt et new none numbers cuts turns one two three meets =
        let early = joined kt at meets.early meets.first in
        let mid = joined meets.early bt meets.late meets.then in
        let late = joined meets.late et new meets.at_last in
        let ns = cut_numbers whole k a b e cuts numbers in
        let all : numbers_of new ≡ 0 ∷ 3 ∷ 2 ∷ 1 ∷ [] =
        meets.at_last.numbers ∙ ap (λ (l : List ℕ). l ++ numbers_of et) meets.then.numbers
        ∙ ap (λ (l : List ℕ). (l ++ numbers_of bt) ++ numbers_of et) meets.first.numbers
        ∙ ap (λ (l : List ℕ). ((l ++ numbers_of at) ++ numbers_of bt) ++ numbers_of et) (turns.owns.same.2 ∙ ns.0)
        ∙ ap (λ (l : List ℕ). ((0 ∷ l) ++ numbers_of bt) ++ numbers_of et) (one.owns.same.2 ∙ ns.1)
        ∙ ap (λ (l : List ℕ). (0 ∷ 3 ∷ l) ++ numbers_of et) (two.owns.same.2 ∙ ns.2)
        ∙ ap (λ (l : List ℕ). 0 ∷ 3 ∷ 2 ∷ l) (three.owns.same.2 ∙ ns.3) in
        let own : mine_of kt ≡ turns.owns.places =
        turns.owns.mine ∙ ap (λ (l : List ℕ). l ++ turns.owns.places) (cuts.at_last.mine.0 ∙ cuts.then.mine.0 ∙ cuts.first.mine.0 ∙ none) in
        let own_one : mine_of at ≡ one.owns.places = one.owns.mine ∙ ap (λ (l : List ℕ). l ++ one.owns.places) cuts.first.mine.1 in
        let own_two : mine_of bt ≡ two.owns.places = two.owns.mine ∙ ap (λ (l : List ℕ). l ++ two.owns.places) cuts.then.mine.1 in
        let own_three : mine_of et ≡ three.owns.places = three.owns.mine ∙ ap (λ (l : List ℕ). l ++ three.owns.places) cuts.at_last.mine.1 in
        let from_early = starts_then (seen_by new) (seen_by meets.late) (seen_by meets.early) late.0 mid.0 in
        record {
          turns = turns.turns;
          first = one.made;
          second = two.made;
          looks = three.made;
          turns_at = turns.owns.places;
          first_at = one.owns.places;
          second_at = two.owns.places;
          looks_at = three.owns.places;
          are = (
            has_from (seen_by kt) (seen_by new) turns.owns.places (acts.steps_of turns.turns) (starts_then (seen_by new) (seen_by meets.early) (seen_by kt) from_early early.0) turns.owns.stand,
            has_from (seen_by at) (seen_by new) one.owns.places one.made (starts_then (seen_by new) (seen_by meets.early) (seen_by at) from_early early.1) one.owns.stand,
            has_from (seen_by bt) (seen_by new) two.owns.places two.made (starts_then (seen_by new) (seen_by meets.late) (seen_by bt) late.0 mid.1) two.owns.stand,
            has_from (seen_by et) (seen_by new) three.owns.places three.made late.1 three.owns.stand,
          );
          ascend = (
            ascends_lower 0 (length (seen_by k)) turns.owns.places (omega arith) turns.owns.ascend,
            ascends_lower 0 (length (seen_by a)) one.owns.places (omega arith) one.owns.ascend,
            ascends_lower 0 (length (seen_by b)) two.owns.places (omega arith) two.owns.ascend,
            ascends_lower 0 (length (seen_by e)) three.owns.places (omega arith) three.owns.ascend,
          );
          mine = meets.at_last.mine.0 ∙ ap (λ (l : List ℕ). l ++ mine_of et) meets.then.mine.0
              ∙ ap (λ (l : List ℕ). (l ++ mine_of bt) ++ mine_of et) meets.first.mine.0
              ∙ ap (λ (l : List ℕ). ((l ++ mine_of at) ++ mine_of bt) ++ mine_of et) own
              ∙ ap (λ (l : List ℕ). ((turns.owns.places ++ l) ++ mine_of bt) ++ mine_of et) own_one
              ∙ ap (λ (l : List ℕ). ((turns.owns.places ++ one.owns.places) ++ l) ++ mine_of et) own_two
              ∙ ap (λ (l : List ℕ). ((turns.owns.places ++ one.owns.places) ++ two.owns.places) ++ l) own_three;
          put = put;
          flusher = turns.so;
          file = file;
          write = turns.write;
          links = (one.so.answered, two.so.answered);
          timed = (one.so.timed, two.so.timed);
          keeper = three.so;
          seats = λ k less. subst (λ (l : List ℕ). 0 < times k l) (sym all) (each_of_four k less);
        }

    -- four callers whose passes were cut from one and met again
    pub made_of : {C : Type 0} (pass_of : C → Option (Pass Shared Event (Option Said) chronicle)) (put : List AskParts × List AskParts) (p : Place D) (file : LastFile) (disk : D) (story : Story Shared Event (Option Said))
        (whole new : Pass Shared Event (Option Said) chronicle) (k a b e kt at bt et : C) → mine_of whole ≡ [] → numbers_of whole ≡ 0 ∷ 1 ∷ 2 ∷ 3 ∷ []
        → AreCut story whole (by_thread (pass_of k) (pass_of a) (pass_of b) (pass_of e)) → AreMet (by_thread (pass_of kt) (pass_of at) (pass_of bt) (pass_of et)) new
        → Acted (StepsBy pass_of) views.disk (FlushesTo (timer_of views.clocks) put) (change_of k p kt (place_of file disk)) → Leads (StepsBy pass_of) a at (WorksFrom (first_links views.links) views.gives failures.0 (first_clock views.clocks) 0 put.0)
        → Leads (StepsBy pass_of) b bt (WorksFrom (second_links views.links) views.gives failures.1 (second_clock views.clocks) 1 put.1) → Leads (StepsBy pass_of) e et AreLooks → HasMade views failures p new disk
    made_of pass_of put p file disk story whole new k a b e kt at bt et none numbers cut are acted first second looks =
        met put p file disk whole cut.turns cut.first cut.second cut.looks are.turns are.first are.second are.looks new none numbers cut.cuts
        (gains_turns pass_of views.disk (FlushesTo (timer_of views.clocks) put) k kt p (place_of file disk) cut.turns are.turns cut.are.0 are.are.0 acted)
        (gains pass_of (WorksFrom (first_links views.links) views.gives failures.0 (first_clock views.clocks) 0 put.0) a at cut.first are.first cut.are.1 are.are.1 first)
        (gains pass_of (WorksFrom (second_links views.links) views.gives failures.1 (second_clock views.clocks) 1 put.1) b bt cut.second are.second cut.are.2 are.are.2 second)
        (gains pass_of AreLooks e et cut.looks are.looks cut.are.3 are.are.3 looks) are.meets

    merged_of : {p : Place D} {disk : D} (pass : Pass Shared Event (Option Said) chronicle) (history : Made) (made : HasMade views failures p pass disk) → seen_by pass ≡ history → IsDistinct (mine_of pass)
        → ((k : ℕ) → k < length history → 0 < times k (mine_of pass)) → IsMerged history (acts.steps_of made.turns) made.first made.second made.looks
    merged_of pass history made whole once all = record {
      turns_at = made.turns_at;
      first_at = made.first_at;
      second_at = made.second_at;
      looks_at = made.looks_at;
      are = subst (λ (l : Made). HasAt l made.turns_at (acts.steps_of made.turns) × HasAt l made.first_at made.first × HasAt l made.second_at made.second × HasAt l made.looks_at made.looks)
          whole made.are;
      ascend = made.ascend;
      once = subst (λ (ks : List ℕ). IsDistinct ks) made.mine once;
      all = λ k less. subst (λ (ks : List ℕ). 0 < times k ks) made.mine (all k less);
    }

    -- ---- the core is out

    -- whose the entries of the history are that the pass had seen, once the core is out
    pub made_by : (old : Place D) (disk : D) (story : Story Shared Event (Option Said)) (pass : Pass Shared Event (Option Said) chronicle) (history : Made) (core : Parts) → seats_of story ≡ 4
        → (made : HasMade views failures old pass disk) → StandsFor story pass history core → Stands (start_of story).core history core
        → IsMadeBy views failures history (change_of (start_of story).core old core (place_of made.file disk))
    made_by old disk story pass history core four made finds stands =
        let whole = finds.whole (λ k less. made.seats k (subst (λ (n : ℕ). k < n) four less)) in
        let merged : IsMerged history (acts.steps_of made.turns) made.first made.second made.looks = merged_of pass history made whole.0 finds.distinct whole.1 in
        record {
          turns = made.turns;
          first = made.first;
          second = made.second;
          looks = made.looks;
          put = made.put;
          merged = merged;
          flusher = made.flusher;
          links = made.links;
          timed = made.timed;
          keeper = made.keeper;
          write = made.write;
          leads = leads_on views.disk (first_links views.links) (second_links views.links) views.gives failures made.put (change_of (start_of story).core old core (place_of made.file disk)) history made.turns made.first made.second made.looks
              stands merged made.links made.keeper made.write;
        }
