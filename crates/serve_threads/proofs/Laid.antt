-- The flusher's steps stand in the history in their order, and all others flush nothing.
use Rattle.std.proofs.Common.{◌≡◌, ◌≢◌, ◌⊎◌, ⊎_elim, inl, inr, ℕ, zero, suc, ◌+◌, ◌<◌, ◌≤◌, ◌==◌, List, [], ◌∷◌, ◌++◌, length, true, false, Option, Some, refl, sym, ap, subst, arith, append_assoc, append-nil, length-append}
use Rattle.std.specs.Prelude.{slice_get}
use Rattle.std.proofs.lemmas.Bool.{cases_Bool}
use Rattle.std.proofs.lemmas.Bool.Decides.{Decides-eqb}
use Rattle.std.proofs.lemmas.Option.{slice_get_within}
use Rattle.broker_events.specs.declared.event.Event.{Event}
use Rattle.broker_events.specs.declared.said.Said.{Said}
use Rattle.mq_outside.specs.Readings.{Giving}
use Rattle.session.specs.Readers.{ReaderView}
use Rattle.session.specs.Serving.{Made}
use Rattle.link_service.specs.Transcripts.{IsOfLink, AreOfLink, counted_to}
use Rattle.reply_fields.specs.Parts.{AskParts}
use Rattle.mq_peers.specs.Ended.{LinkEnd}
use Rattle.event_loops.specs.Tales.{Act, steps_of, made_for, asks_for, reads_for, HasLeft, IsAnsweredInOrder}
use Rattle.event_loops.proofs.Told.{made_append, made_one}
use Rattle.story_lock.specs.Counts.{times}
use Rattle.story_lock.specs.Owned.{HasAt, AscendsFrom}
use Rattle.story_lock.proofs.Sums.{one_at, times_append}
use Rattle.flush_story.specs.Story.{IsBetween, AreBetween}
use Rattle.serve_threads.specs.Links.{LoopLinks, AreAnswered, AreAnsweredFrom}
use Rattle.serve_threads.specs.Served.{AreLooks, IsMerged}

-- the flusher's steps are some of these, in order; each other one flushes nothing
abbrev pub Laid : Made → Made → Type 0
Laid [] turns = turns ≡ []
Laid (e ∷ es) turns = (IsBetween e.0 × Laid es turns) ⊎ ((rest : Made) × (turns ≡ e ∷ rest) × Laid es rest)

-- ---- what a loop made flushes nothing

between_append : (xs ys : Made) → AreBetween xs → AreBetween ys → AreBetween (xs ++ ys)
between_append [] ys are more = more
between_append (x ∷ xs) ys are more = (are.0, between_append xs ys are.1 more)

between_front : (xs ys : Made) → AreBetween (xs ++ ys) → AreBetween xs
between_front [] ys are = tt
between_front (x ∷ xs) ys are = (are.0, between_front xs ys are.1)

between_back : (xs ys : Made) → AreBetween (xs ++ ys) → AreBetween ys
between_back [] ys are = are
between_back (x ∷ xs) ys are = between_back xs ys are.1

link_between : (link : ℕ) (event : Event) → IsOfLink link event → IsBetween event
link_between link event is =
    ⊎_elim (λ asked. subst (λ (e : Event). IsBetween e) (sym asked.3) tt) (λ looked. subst (λ (e : Event). IsBetween e) (sym looked.2) tt) is

passes_between : (link : ℕ) (made : Made) → AreOfLink link made → AreBetween made
passes_between link [] are = tt
passes_between link (step ∷ made) are = (link_between link step.0 are.0, passes_between link made are.1)

leave_between : (link : ℕ) (end : Made) → HasLeft link end → AreBetween end
leave_between link end left = subst (λ (m : Made). AreBetween m) (sym left.1) (tt, tt)

tale_between : (tells : Type 0) (reader : ReaderView) (it : LinkEnd) (made : Made) (asks : List AskParts) (reads : ℕ) → IsAnsweredInOrder tells reader it made asks reads → AreBetween made
tale_between tells reader it made asks reads is =
    subst (λ (m : Made). AreBetween m) (sym is.both)
    (between_append is.passes is.end (passes_between it.number is.passes is.transcript.of_link) (leave_between it.number is.end is.left))

acts_between : (acts : List Act) → ((link : ℕ) → AreBetween (made_for link acts)) → AreBetween (steps_of acts)
acts_between [] each = tt
acts_between (one ∷ acts) each =
    let split : (link : ℕ) → AreBetween (made_for link (one ∷ []) ++ made_for link acts) =
    (λ link. subst (λ (m : Made). AreBetween m) (made_append link (one ∷ []) acts) (each link)) in
    between_append one.made (steps_of acts)
    (⊎_elim (λ own. subst (λ (m : Made). AreBetween m) own.1 (between_front (made_for one.link (one ∷ [])) (made_for one.link acts) (split one.link)))
    (λ other. absurd (other.0 refl)) (made_one one.link one))
    (acts_between acts (λ link. between_back (made_for link (one ∷ [])) (made_for link acts) (split link)))

loop_between : (links : LoopLinks) (gives : Giving) (failures number : ℕ) (made : Made) (asks : List AskParts) → AreAnswered links gives failures number made asks → AreBetween made
loop_between links gives failures number made asks is =
    subst (λ (m : Made). AreBetween m) (sym is.all)
    (acts_between is.acts (λ link. ⊎_elim (λ none. subst (λ (m : Made). AreBetween m) (sym none.0) tt)
    (λ some. subst (λ (n : ℕ). AreBetween (made_for n is.acts)) some.1
    (tale_between links.tells (counted_to gives failures) some.0 (made_for some.0.number is.acts) (asks_for some.0.number is.acts) (reads_for some.0.number is.acts) some.2.1)) (is.each link)))

-- the keeper's looks flush nothing
looks_between : (made : Made) → AreLooks made → AreBetween made
looks_between [] are = tt
looks_between (step ∷ made) are = (subst (λ (e : Event). IsBetween e) (sym are.0) tt, looks_between made are.1)

-- ---- places

got_here : {X : Type 0} (xs ys : List X) (x : X) → slice_get (xs ++ x ∷ ys) (length xs) ≡ Some x
got_here [] ys x = refl
got_here (y ∷ xs) ys x = got_here xs ys x

-- what stands at one of these places is one of these steps
held_between : (log : Made) (ks : List ℕ) (made : Made) → HasAt log ks made → AreBetween made → (k : ℕ) (e : Event × Option Said) → slice_get log k ≡ Some e → 0 < times k ks → IsBetween e.0
held_between log [] made has are k e at some = absurd (omega (arith, some))
held_between log (j ∷ ks) [] has are k e at some = absurd has
held_between log (j ∷ ks) (x ∷ made) has are k e at some =
    ⊎_elim (λ here. let there : slice_get log k ≡ Some x = subst (λ (n : ℕ). slice_get log n ≡ Some x) here.0 has.0 in
    let same : x ≡ e = cc in subst (λ (s : Event × Option Said). IsBetween s.0) same are.0)
    (λ other. held_between log ks made has.1 are.1 k e at (omega (arith, some, other.1))) (one_at j k)

none_before : (low n : ℕ) (ks : List ℕ) → AscendsFrom low ks → n < low → times n ks ≡ 0
none_before low n [] ascends less = refl
none_before low n (k ∷ ks) ascends less =
    let rest = none_before (suc k) n ks ascends.1 (omega (arith, ascends.0, less)) in
    ⊎_elim (λ here. absurd (omega (arith, here.0, ascends.0, less))) (λ other. omega (arith, rest, other.1)) (one_at k n)

-- ---- the steps of the flusher stand there

abbrev Rest : Made → ℕ → List ℕ → Type 0
Rest log low ks = (k : ℕ) (e : Event × Option Said) → low ≤ k → slice_get log k ≡ Some e → (0 < times k ks) ⊎ IsBetween e.0

laid_none : (before : Made) (ks : List ℕ) (turns : Made) → AscendsFrom (length before) ks → HasAt (before ++ []) ks turns → turns ≡ []
laid_none before [] [] ascends has = refl
laid_none before [] (x ∷ turns) ascends has = absurd has
laid_none before (k ∷ ks) [] ascends has = absurd has
laid_none before (k ∷ ks) (x ∷ turns) ascends has =
    let within = slice_get_within (before ++ []) k x has.0 in
    let size : length (before ++ []) ≡ length before = ap length (append-nil before) in
    absurd (omega (arith, within, size, ascends.0))

-- the next entry isn't the flusher's
laid_other : (e : Event × Option Said) (H before turns : Made) (ks : List ℕ) → times (length before) ks ≡ 0 → Rest (before ++ e ∷ H) (length before) ks → Laid H turns → Laid (e ∷ H) turns
laid_other e H before turns ks none rest later =
    ⊎_elim (λ (some : 0 < times (length before) ks). absurd (omega (arith, some, none))) (λ between. inl (between, later))
    (rest (length before) e (omega arith) (got_here before H e))

pub laid_from : (H before turns : Made) (ks : List ℕ) → AscendsFrom (length before) ks → HasAt (before ++ H) ks turns → Rest (before ++ H) (length before) ks → Laid H turns
laid_from [] before turns ks ascends has rest = laid_none before ks turns ascends has
laid_from (e ∷ H) before turns [] ascends has rest =
    let same : before ++ e ∷ H ≡ (before ++ e ∷ []) ++ H = sym (append_assoc before (e ∷ []) H) in
    let size : length (before ++ e ∷ []) ≡ length before + 1 = length-append before (e ∷ []) in
    laid_other e H before turns [] refl rest
    (laid_from H (before ++ e ∷ []) turns [] tt (subst (λ (l : Made). HasAt l [] turns) same has)
    (λ k x low at. rest k x (omega (arith, low, size)) (subst (λ (l : Made). slice_get l k ≡ Some x) (sym same) at)))
laid_from (e ∷ H) before [] (k ∷ ks) ascends has rest = absurd has
laid_from (e ∷ H) before (x ∷ turns) (k ∷ ks) ascends has rest =
    let same : before ++ e ∷ H ≡ (before ++ e ∷ []) ++ H = sym (append_assoc before (e ∷ []) H) in
    let size : length (before ++ e ∷ []) ≡ length before + 1 = length-append before (e ∷ []) in
    let has_then : HasAt ((before ++ e ∷ []) ++ H) (k ∷ ks) (x ∷ turns) = subst (λ (l : Made). HasAt l (k ∷ ks) (x ∷ turns)) same has in
    let rest_then : Rest ((before ++ e ∷ []) ++ H) (length before) (k ∷ ks) = subst (λ (l : Made). Rest l (length before) (k ∷ ks)) same rest in
    ⊎_elim
    (λ (is : (k == length before) ≡ true).
    let here : k ≡ length before = (Decides-eqb k (length before)).0 is in
    let there : slice_get (before ++ e ∷ H) (length before) ≡ Some x = subst (λ (n : ℕ). slice_get (before ++ e ∷ H) n ≡ Some x) here has.0 in
    let got = got_here before H e in
    let equal : x ≡ e = cc in
    inr (
      turns,
      ap (λ (s : Event × Option Said). s ∷ turns) equal,
      laid_from H (before ++ e ∷ []) turns ks
          (subst (λ (n : ℕ). AscendsFrom n ks) (omega (arith, here, size)) ascends.1) has_then.1
          (λ j y low at. ⊎_elim
          (λ (some : 0 < times j (k ∷ ks)). ⊎_elim (λ own. absurd (omega (arith, own.0, here, low, size))) (λ other. inl (omega (arith, some, other.1))) (one_at k j))
          (λ between. inr between) (rest_then j y (omega (arith, low, size)) at)),
    ))
    (λ (is : (k == length before) ≡ false).
    let apart : k ≢ length before = (λ here. let yes = (Decides-eqb k (length before)).1 here in cc) in
    laid_other e H before (x ∷ turns) (k ∷ ks)
    (none_before (length before + 1) (length before) (k ∷ ks) (omega (arith, ascends.0, apart), ascends.1) (omega arith)) rest
    (laid_from H (before ++ e ∷ []) (x ∷ turns) (k ∷ ks) (omega (arith, ascends.0, apart, size), ascends.1) has_then
    (λ j y low at. rest_then j y (omega (arith, low, size)) at)))
    (cases_Bool (k == length before))

-- one of four is some
some_of : (a b c d : ℕ) → 0 < ((a + b) + c) + d → (P : Type 0) → (0 < b → P) → (0 < c → P) → (0 < d → P) → (0 < a) ⊎ P
some_of (suc a) b c d some P first second third = inl (omega arith)
some_of zero (suc b) c d some P first second third = inr (first (omega arith))
some_of zero zero (suc c) d some P first second third = inr (second (omega arith))
some_of zero zero zero d some P first second third = inr (third (omega (arith, some)))

-- in a history of the flusher, two loops and the keeper the flusher's steps stand so
pub laid : (one other : LoopLinks) (gives : Giving) (failures : ℕ × ℕ) (put : List AskParts × List AskParts) (history turns first second looks : Made) → IsMerged history turns first second looks
    → AreAnsweredFrom one gives failures.0 0 put.0 first × AreAnsweredFrom other gives failures.1 1 put.1 second → AreLooks looks → Laid history turns
laid one other gives failures put history turns first second looks merged links keeper =
    laid_from history [] turns merged.turns_at merged.ascend.0 merged.are.0
    (λ k e low at.
    let within = slice_get_within history k e at in
    let some = merged.all k within in
    let all = times_append k ((merged.turns_at ++ merged.first_at) ++ merged.second_at) merged.looks_at in
    let three = times_append k (merged.turns_at ++ merged.first_at) merged.second_at in
    let two = times_append k merged.turns_at merged.first_at in
    some_of (times k merged.turns_at) (times k merged.first_at) (times k merged.second_at) (times k merged.looks_at) (omega (arith, some, all, three, two)) (IsBetween e.0)
    (λ there. held_between history merged.first_at first merged.are.1 (loop_between one gives failures.0 0 first links.0.0 links.0.2) k e at there)
    (λ there. held_between history merged.second_at second merged.are.2 (loop_between other gives failures.1 1 second links.1.0 links.1.2) k e at there)
    (λ there. held_between history merged.looks_at looks merged.are.3 (looks_between looks keeper) k e at there))
