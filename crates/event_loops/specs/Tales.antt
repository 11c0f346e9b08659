-- What a loop does for its links: the steps and check-backs of each, between those of the others.
use Rattle.std.specs.Prelude.{◌≡◌, ◌⊎◌, ◌≤◌, ◌<◌, ◌==◌, ◌+◌, ◌++◌, ◌%◌, ℕ, List, [], ◌∷◌, filter, max, slice_get, Option, Some, None, false}
use Rattle.mq_peers.specs.Ended.{LinkEnd}
use Rattle.reply_fields.specs.Parts.{AskParts}
use Rattle.broker_events.specs.Makes.{Makes}
use Rattle.broker_events.specs.declared.event.Event.TheVariants.{Leave}
use Rattle.broker_events.specs.declared.said.Said.{Said}
use Rattle.session.specs.Owing.{Steps}
use Rattle.session.specs.Readers.{ReaderView}
use Rattle.session.specs.Serving.{Made}
use Rattle.link_service.specs.Transcripts.{Seen, WentOnWith, WentOn, WentOnUnread, IsFresh, IsTranscript, seen_of}
use Rattle.event_loops.specs.declared.ledger.Ledger.{Ledger}
use Rattle.event_loops.specs.declared.links.Links.{Links}
use Rattle.event_loops.specs.declared.links.Numbered.{Numbered}

-- ---- steps by links

-- steps that were made for one link, and the check-backs and how many replies `read N` were written to it meanwhile
pub record Act : Type 0 where
  pub link : ℕ
  pub made : Made
  pub asks : List AskParts
  pub reads : ℕ

-- these steps, for this link
abbrev pub act : ℕ → Made → Act
act link made = record { link = link; made = made; asks = []; reads = 0 }

-- the steps of all acts, in order
abbrev pub steps_of : List Act → Made
steps_of [] = []
steps_of (one ∷ acts) = one.made ++ steps_of acts

-- the check-backs of all acts, in order
abbrev pub asks_of : List Act → List AskParts
asks_of [] = []
asks_of (one ∷ acts) = one.asks ++ asks_of acts

-- how many replies `read N` all acts wrote
abbrev pub reads_of : List Act → ℕ
reads_of [] = 0
reads_of (one ∷ acts) = one.reads + reads_of acts

-- the acts for this link, in order
abbrev pub acts_for : ℕ → List Act → List Act
acts_for link = filter (λ one. one.link == link)

-- the steps that were made for this link, in order
abbrev pub made_for : ℕ → List Act → Made
made_for link acts = steps_of (acts_for link acts)

-- the check-backs that were written to this link, in order
abbrev pub asks_for : ℕ → List Act → List AskParts
asks_for link acts = asks_of (acts_for link acts)

-- how many replies `read N` were written to this link
abbrev pub reads_for : ℕ → List Act → ℕ
reads_for link acts = reads_of (acts_for link acts)

-- nothing was done for this link
abbrev pub DidNothing : ℕ → List Act → Type 0
DidNothing link acts = (made_for link acts ≡ []) × (asks_for link acts ≡ []) × (reads_for link acts ≡ 0)

-- ---- the tale of one link

-- The link with this number, from this peer, went on from its beginning to how it is seen now, made these steps, and was sent these
-- check-backs and so many replies `read N`.
pub record IsServed (tells : Type 0) (reader : ReaderView) (number : ℕ) (host : List ℕ) (made : Made) (asks : List AskParts) (reads : ℕ)
    (now : Seen) : Type 0 where
  pub first : Seen
  pub fresh : IsFresh tells number host first
  pub went : WentOnWith tells reader first made asks reads now

-- one step, which tells that the link has ended
abbrev pub HasLeft : ℕ → Made → Type 0
HasLeft number made = (said : Option Said) × (made ≡ (Leave number, said) ∷ [])

-- What was done for a link that has ended so: its passes from its beginning on, by which it gave and took what it did, with their
-- check-backs and so many replies `read N`, and behind them its `Leave`.
pub record IsTale (tells : Type 0) (reader : ReaderView) (it : LinkEnd) (made : Made) (asks : List AskParts) (reads : ℕ) : Type 0 where
  pub passes : Made
  pub end : Made
  pub both : made ≡ passes ++ end
  pub left : HasLeft it.number end
  pub now : Seen
  pub served : IsServed tells reader it.number it.peer passes asks reads now
  pub given : tells → now.given ≡ it.given
  pub taken : tells → now.taken ≡ it.taken

-- The same, and so each reply is its request's: the passes are a transcript of the link, with these check-backs and so many replies
-- `read N`. What it heard is what the link gave, and what it sent is what the link took.
pub record IsAnsweredInOrder (tells : Type 0) (reader : ReaderView) (it : LinkEnd) (made : Made) (asks : List AskParts) (reads : ℕ)
    : Type 0 where
  pub passes : Made
  pub end : Made
  pub both : made ≡ passes ++ end
  pub left : HasLeft it.number end
  pub now : Seen
  pub transcript : IsTranscript tells reader it.number it.peer passes asks reads now
  pub given : tells → now.given ≡ it.given
  pub taken : tells → now.taken ≡ it.taken

-- ---- the links of a loop

-- the loop, of so many, that serves the link with this number
abbrev pub loop_of : ℕ → ℕ → ℕ
loop_of loops link = link % max loops 1

-- what is seen of links of this type: that they tell what they gave and took, and what that is
pub record LinkView (L : Type 0) : Type 1 where
  pub tells : Type 0
  pub given : L → List ℕ
  pub taken : L → List ℕ

abbrev pub link_view : {L : Type 0} → Type 0 → (L → List ℕ) → (L → List ℕ) → LinkView L
link_view tells given taken = record { tells = tells; given = given; taken = taken }

-- a link of a loop, as it is seen
abbrev pub seen_in : {L : Type 0} → LinkView L → Numbered L → Seen
seen_in view numbered = seen_of view.given view.taken numbered.linked

-- the numbers of a loop: how many loops there are, which of them it is, and the greatest that a link of it had
pub record LoopNumbers : Type 0 where
  pub loops : ℕ
  pub number : ℕ
  pub newest : ℕ

abbrev pub loop_numbers : {L N : Type 0} → Links L N → LoopNumbers
loop_numbers links = record { loops = links.loops; number = links.number; newest = links.newest }

-- the link in this slot has this number
abbrev pub HasNumber : {L : Type 0} → List (Option (Numbered L)) → ℕ → ℕ → Type 0
HasNumber {L} links i link = (at : Numbered L) × (slice_get links i ≡ Some (Some at)) × (at.number ≡ link)

-- this entry is of a link with this number
abbrev pub IsEndOf : List LinkEnd → ℕ → ℕ → Type 0
IsEndOf ended k link = (it : LinkEnd) × (slice_get ended k ≡ Some it) × (it.number ≡ link)

-- a number that a link of this loop has, or had
pub record IsOwn (loop : LoopNumbers) (link : ℕ) : Type 0 where
  pub some : 0 < link
  pub within : link ≤ loop.newest
  pub falls : loop_of loop.loops link ≡ loop.number

-- Links that have ended, each with another number, which was the loop's own and no present link has: what was done for it is its tale.
pub record AreEnded {L : Type 0} (view : LinkView L) (reader : ReaderView) (loop : LoopNumbers) (acts : List Act)
    (links : List (Option (Numbered L))) (ended : List LinkEnd) : Type 0 where
  pub each : (k : ℕ) (it : LinkEnd) → slice_get ended k ≡ Some it → IsOwn loop it.number
      × IsTale view.tells reader it (made_for it.number acts) (asks_for it.number acts) (reads_for it.number acts)
  pub once : (j k link : ℕ) → IsEndOf ended j link → IsEndOf ended k link → j ≡ k
  pub gone : (i k link : ℕ) → HasNumber links i link → IsEndOf ended k link → ⊥

-- What a loop has done for its links by these acts: for each link that it has now, and for each that has ended, what was done for it
-- is its tale. Nothing was done for a number that isn't one of theirs.
pub record IsTold {L : Type 0} (view : LinkView L) (reader : ReaderView) (loop : LoopNumbers) (acts : List Act)
    (links : List (Option (Numbered L))) (ended : List LinkEnd) : Type 0 where
  pub present : (i : ℕ) (at : Numbered L) → slice_get links i ≡ Some (Some at)
      → IsServed view.tells reader at.number at.peer (made_for at.number acts) (asks_for at.number acts) (reads_for at.number acts)
      (seen_in view at)
  pub apart : (i j link : ℕ) → HasNumber links i link → HasNumber links j link → i ≡ j
  pub own : (i : ℕ) (at : Numbered L) → slice_get links i ≡ Some (Some at) → IsOwn loop at.number
  pub later : (link : ℕ) → loop.newest < link → DidNothing link acts
  pub known : (link : ℕ) → DidNothing link acts ⊎ (((i : ℕ) × HasNumber links i link) ⊎ ((k : ℕ) × IsEndOf ended k link))
  pub ends : AreEnded view reader loop acts links ended

-- What holds of a loop's acts and links still holds after these, by which these links ended.
abbrev pub Keeps : {L : Type 0} → LinkView L → ReaderView → List (Option (Numbered L)) → List Act → List (Option (Numbered L))
    → List LinkEnd → Type 0
Keeps view reader old acts new gone = (loop : LoopNumbers) (before : List Act) (ended : List LinkEnd)
    → IsTold view reader loop before old ended → IsTold view reader loop (before ++ acts) new (ended ++ gone)

-- in this slot is the link with this number
abbrev pub IsLink : {L : Type 0} → Option (Numbered L) → ℕ → Type 0
IsLink None link = ⊥
IsLink (Some at) link = link ≡ at.linked.session.talk.link

-- it is in this one of the slots
abbrev pub IsSlotOf : {L : Type 0} → List (Option (Numbered L)) → ℕ → ℕ → Type 0
IsSlotOf {L} slots i link = (at : Option (Numbered L)) × (slice_get slots i ≡ Some at) × IsLink at link

-- this link, as it is let go of once it is seen so
abbrev pub end_as : {L : Type 0} → Numbered L → Seen → LinkEnd
end_as link now = record { number = link.number; peer = link.peer; given = now.given; taken = now.taken }

-- the same link as before
abbrev pub IsSame : {L : Type 0} → Numbered L → Numbered L → Type 0
IsSame old new = (new.number ≡ old.number) × (new.peer ≡ old.peer)

-- what these acts did for one link, or where there is none: a pass, maybe with check-backs
abbrev pub Acts : {L : Type 0} → LinkView L → ReaderView → Option (Numbered L) → List Act → Option (Numbered L) → Type 0
Acts view reader None acts new = (acts ≡ []) × (new ≡ None)
Acts view reader (Some old) acts None = ⊥
Acts view reader (Some old) acts (Some new) = (made : Made) × (asks : List AskParts) × (reads : ℕ) × IsSame old new
    × WentOnWith view.tells reader (seen_in view old) made asks reads (seen_in view new)
    × (acts ≡ record { link = old.number; made = made; asks = asks; reads = reads } ∷ [])

-- the step that tells the end of this link
abbrev pub leave_of : ℕ → Option Said → Act
leave_of link said = act link ((Leave link, said) ∷ [])

-- a pass of a link, and its end
abbrev pub Leaves : {L : Type 0} → LinkView L → ReaderView → Numbered L → List Act → Numbered L → Type 0
Leaves view reader old acts new = (made : Made) × (reads : ℕ) × (said : Option Said) × IsSame old new
    × WentOn view.tells reader (seen_in view old) made reads (seen_in view new)
    × (acts ≡ record { link = old.number; made = made; asks = []; reads = reads } ∷ leave_of old.number said ∷ [])

-- what these acts did for one link, or where there is none: a pass, or a pass and its end, after which it was let go of
abbrev pub ActsOrLeaves : {L : Type 0} → LinkView L → ReaderView → Option (Numbered L) → List Act → Option (Numbered L) → List LinkEnd → Type 0
ActsOrLeaves view reader old acts (Some new) gone = Acts view reader old acts (Some new) × (gone ≡ [])
ActsOrLeaves view reader None acts None gone = (acts ≡ []) × (gone ≡ [])
ActsOrLeaves {L} view reader (Some old) acts None gone =
    (last : Numbered L) × Leaves view reader old acts last × (gone ≡ end_as last (seen_in view last) ∷ [])

-- the step by which the link in a slot is let go of, if there is one
abbrev pub LetsGo : {L : Type 0} → Option (Numbered L) → List Act → Type 0
LetsGo None acts = acts ≡ []
LetsGo (Some at) acts = (said : Option Said) × (acts ≡ leave_of at.number said ∷ [])

-- the link in a slot, as it is let go of
abbrev pub end_in : {L : Type 0} → LinkView L → Option (Numbered L) → List LinkEnd
end_in view None = []
end_in view (Some at) = end_as at (seen_in view at) ∷ []

-- the first are some of the others, in their order and each once
abbrev pub AreSome : {A : Type 0} → List A → List A → Type 0
AreSome some [] = some ≡ []
AreSome {A} some (x ∷ all) = AreSome some all ⊎ ((rest : List A) × (some ≡ x ∷ rest) × AreSome rest all)

-- Some acts lead from x to y, and of them this is so. What they wrote are some of these check-backs, and no more replies `read N` than a
-- reader failed whose count of failures went from the first of these two to the second.
pub record LeadsWith {C : Type 0} (makes : Steps C) (x y : C) (asks : List AskParts) (low high : ℕ) (P : List Act → Type 0) : Type 0 where
  pub acts : List Act
  pub leads : Makes makes x (steps_of acts) y
  pub wrote : AreSome (asks_of acts) asks
  pub counted : low + reads_of acts ≤ high
  pub so : P acts

-- the same where they wrote no check-back
abbrev pub LeadsBy : {C : Type 0} → Steps C → C → C → ℕ → ℕ → (List Act → Type 0) → Type 0
LeadsBy makes x y low high P = LeadsWith makes x y [] low high P

-- ---- a loop

-- what is seen of a loop's links, and of its ledger: that it tells which links have ended, and which these are
pub record LoopView (L N : Type 0) : Type 1 where
  pub links : LinkView L
  pub told : Type 0
  pub entries : N → List LinkEnd

abbrev pub loop_view : {L N : Type 0} → Type 0 → (L → List ℕ) → (L → List ℕ) → Type 0 → (N → List LinkEnd) → LoopView L N
loop_view tells given taken told entries = record { links = link_view tells given taken; told = told; entries = entries }

-- these links were let go of, and entered, unless one is lost
abbrev pub Enters : {L N : Type 0} → LoopView L N → Ledger N → List LinkEnd → Ledger N → Type 0
Enters view old gone new = new.lost ≡ false → (old.lost ≡ false) × (view.told → view.entries new.ends ≡ view.entries old.ends ++ gone)

-- What a loop has done for its links by these acts. The links that have ended are those of its ledger, unless one is lost.
pub record IsToldOf {L N : Type 0} (view : LoopView L N) (reader : ReaderView) (acts : List Act) (links : Links L N) : Type 0 where
  pub ended : List LinkEnd
  pub are : links.ledger.lost ≡ false → view.told → view.entries links.ledger.ends ≡ ended
  pub so : IsTold view.links reader (loop_numbers links) acts links.slots.items ended

-- the loop went on by these acts
pub record GoesOn {L N : Type 0} (view : LoopView L N) (reader : ReaderView) (old : Links L N) (acts : List Act) (new : Links L N)
    : Type 0 where
  pub same : (new.loops ≡ old.loops) × (new.number ≡ old.number)
  pub keeps : (before : List Act) → IsToldOf view reader before old → IsToldOf view reader (before ++ acts) new

-- the same link as before, which is seen as before
abbrev pub IsSeenAs : {L : Type 0} → LinkView L → Option (Numbered L) → Option (Numbered L) → Type 0
IsSeenAs view None new = new ≡ None
IsSeenAs view (Some old) None = ⊥
IsSeenAs view (Some old) (Some new) = IsSame old new × (seen_in view new ≡ seen_in view old)

-- the same link as before, which made no call since; it may have broken
abbrev pub MayBreak : {L : Type 0} → LinkView L → Option (Numbered L) → Option (Numbered L) → Type 0
MayBreak view None new = new ≡ None
MayBreak view (Some old) None = ⊥
MayBreak view (Some old) (Some new) = IsSame old new × WentOnUnread view.tells (seen_in view old) [] (seen_in view new)
