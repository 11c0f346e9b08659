-- The answers that were made in a run, in their order, and where the messages stand that were accepted.
use Rattle.std.proofs.Common.{◌≡◌, ◌⊎◌, ⊎_elim, inl, inr, ℕ, ◌+◌, ◌<◌, ◌≤◌, ◌++◌, List, [], ◌∷◌, map, pos, slice_get, All, Some, Ok, Err, Result, refl, sym, ap, ◌∙◌, subst, true, arith, append_assoc, append-nil}
use Rattle.std.proofs.lemmas.List.Elements.{All-nil, All-cons}
use Rattle.mq_outside.specs.Disk.{DiskState}
use Rattle.mq_outside.specs.Files.{Files}
use Rattle.mq_outside.specs.Readings.{Giving}
use Rattle.record_codec.specs.Entry.{Entry}
use Rattle.remoting_frame.specs.declared.frame.Frame.{Frame}
use Rattle.log_model.specs.Bases.{Geometry}
use Rattle.log_model.specs.Log.{IsWellFormed}
use Rattle.log_model.specs.Stored.{FlushTurn, HasFirst, turned_by, turned_in}
use Rattle.reply_fields.specs.Parts.{AskParts}
use Rattle.request_fields.specs.Reading.{request_of}
use Rattle.request_fields.specs.Requests.{SendSaid}
use Rattle.request_fields.specs.declared.request.Request.TheVariants.{Send}
use Rattle.broker_model.specs.Sends.{kept_props, waits}
use Rattle.broker_model.specs.State.{State}
use Rattle.session.specs.Talks.{requests_of}
use Rattle.flush_story.specs.Keeping.{AreInOrder}
use Rattle.worker_turns.specs.Acts.{Act, Change, turns_of}
use Rattle.pipe_stream.specs.declared.answer.Answer.{Answer}
use Rattle.pipe_stream.specs.Serving.{AreServed, Begun, Nothing, Asked, Closing, Breaks, Broke, IsAnswered, IsAskedFirst, IsPartly, IsNext, IsSilent, Point, Served, Sides, acts_of, asks_of, begun_acts, begun_bytes, bytes_of, frames_of, served_as, written_for}
use Rattle.pipe_stream.specs.Piping.{RanToEnd, acts_in}
use Rattle.pipe_stream.specs.Telling.{FaultCounts, TookPart, asks_bytes, count_after, fault_counts, next_count}
use Rattle.pipe_stream.specs.declared.stop.Halt.{Halt}
use Rattle.pipe_stream.specs.declared.stop.Halt.TheVariants.{BadFrame, Read, Stopped}
use Rattle.pipe_stream.specs.declared.stop.Stop.{Stop}
use Rattle.pipe_stream.specs.declared.stop.Stop.TheVariants.{Clock, Sink, Memory, Misplaced}
use Rattle.program_run.specs.Acknowledged.{last_moment}
use Rattle.program_run.specs.Sent.{IsSent}
use Rattle.program_run.specs.Stand.{Answered, answered, answers_bytes, AreOnDisk, IsAccepted, IsOnDisk, IsWritten, StandsFrom}
use Rattle.program_run.proofs.Moments.{last_then, order_first, order_high, order_later, order_low}
use Rattle.program_run.proofs.OnDisk.{turned_keeps, turned_stands}
use Rattle.program_run.proofs.Walks.{turns_append}

-- each send among the requests of a run that waits for the disk and is answered with 0 is in the run's log
abbrev pub AreSent : Giving → ℕ → State → List Act → Type 0
AreSent gives opened reached acts = (it : Served) (answer : Answer) (faults : FaultCounts) (front later : List Act) (send : SendSaid)
    → acts ≡ front ++ (it.acts ++ later) → (is : IsAnswered gives it answer faults)
    → request_of it.frame.header it.frame.body ≡ Ok (Send send) → waits (kept_props send.props) ≡ true → is.reply.code ≡ pos 0
    → IsSent opened reached (turns_of (front ++ it.acts)) send is.reply

-- requests with these frames were answered by these bytes, check-backs among them, and each message among them that was accepted is on
-- the disk, from `low` on
pub record Answers (gives : Giving) (S : Geometry) (log : List Entry) (low : ℕ) (disk : DiskState) (asked_before : ℕ) (behind : List AskParts) (frames : List Frame) (bytes : List ℕ) : Type 0 where
  pub answers : List Answered
  pub asked : map (λ it. it.frame) answers ≡ frames
  pub written : All (IsWritten gives) answers
  pub bytes_are : answers_bytes asked_before answers behind ≡ bytes
  pub stand : AreOnDisk S log low answers disk

-- The first of these requests were answered, and a front of the bytes of their answers was written.
pub record AnswersFirst (gives : Giving) (S : Geometry) (log : List Entry) (low : ℕ) (disk : DiskState) (requests : List Frame) (sink : Type 0) (taken taken_then : List ℕ) (asked_before : ℕ) : Type 0 where
  pub answers : List Answered
  pub behind : List AskParts
  pub left : List Frame
  pub asked : map (λ it. it.frame) answers ++ left ≡ requests
  pub written : All (IsWritten gives) answers
  pub took : sink → TookPart taken taken_then (answers_bytes asked_before answers behind)
  pub stand : AreOnDisk S log low answers disk

-- ---- turns and bytes, one behind another

-- what was taken behind bytes that were taken whole is a front of both
took_then : (old new first piece : List ℕ) → TookPart (old ++ first) new piece → TookPart old new (first ++ piece)
took_then old new first piece took = record {
  part = first ++ took.part;
  unwritten = took.unwritten;
  front = append_assoc first took.part took.unwritten ∙ ap (λ (l : List ℕ). first ++ l) took.front;
  taken_is = took.taken_is ∙ append_assoc old first took.part;
}

-- so it is of bytes that are both
took_both : (old new first piece more all : List ℕ) → piece ≡ more → all ≡ first ++ more → TookPart (old ++ first) new piece → TookPart old new all
took_both old new first piece more all same are took = subst (TookPart old new) (ap (λ (l : List ℕ). first ++ l) same ∙ sym are) (took_then old new first piece took)

-- what was taken whole is a front too
took_all : (old new bytes all : List ℕ) → all ≡ bytes → new ≡ old ++ bytes → TookPart old new all
took_all old new bytes all are taken = record {
  part = all;
  unwritten = [];
  front = append-nil all;
  taken_is = taken ∙ ap (λ (l : List ℕ). old ++ l) (sym are);
}

-- the frames of all that was answered, and those that are left
asked_whole : (asked served left requests : List Frame) → asked ≡ served ++ [] → served ++ left ≡ requests → asked ++ left ≡ requests
asked_whole asked served left requests same all = ap (λ (l : List Frame). l ++ left) (same ∙ append-nil served) ∙ all

-- the same where the first of those that were left was answered too
asked_one_more : (asked served left behind requests : List Frame) (frame : Frame) → asked ≡ served ++ (frame ∷ []) → left ≡ frame ∷ behind → served ++ left ≡ requests → asked ++ behind ≡ requests
asked_one_more asked served left behind requests frame same next all =
    ap (λ (l : List Frame). l ++ behind) same ∙ (append_assoc served (frame ∷ []) behind ∙ (ap (λ (l : List Frame). served ++ l) (sym next) ∙ all))

-- answers that stand from a moment on stand from an earlier one on
from_before : (S : Geometry) (log : List Entry) (low earlier : ℕ) (answers : List Answered) (disk : DiskState) → earlier ≤ low → AreOnDisk S log low answers disk
    → AreOnDisk S log earlier answers disk
from_before S log low earlier [] disk less on = omega (arith, less, on)
from_before S log low earlier (it ∷ answers) disk less on = let behind : low ≤ on.0 = on.1 in (on.0, omega (arith, less, behind), on.2, on.3)

-- the same of the first requests
pub answers_before : (gives : Giving) (S : Geometry) (log : List Entry) (low earlier : ℕ) (disk : DiskState) (requests : List Frame) (sink : Type 0) (taken taken_then : List ℕ) (asked_before : ℕ)
    → earlier ≤ low → AnswersFirst gives S log low disk requests sink taken taken_then asked_before → AnswersFirst gives S log earlier disk requests sink taken taken_then asked_before
answers_before gives S log low earlier disk requests sink taken taken_then asked_before less it = record {
  answers = it.answers;
  behind = it.behind;
  left = it.left;
  asked = it.asked;
  written = it.written;
  took = it.took;
  stand = from_before S log low earlier it.answers disk less it.stand;
}

-- the count of check-backs behind some, and behind more
count_then : (asked : ℕ) (first later : List AskParts) → count_after asked (first ++ later) ≡ count_after (count_after asked first) later
count_then asked [] later = refl
count_then asked (ask ∷ first) later = count_then (next_count asked) first later

-- ---- what was begun

-- the answer to the request that was begun was made
abbrev IsPartlyBegun : Giving → Begun → ℕ → ℕ → Type 0
IsPartlyBegun gives begun faults faults_then = (it : Served) × (begun ≡ Asked it) × IsPartly gives it faults faults_then

-- the bytes of check-backs alone are to be written for it
abbrev IsAsksOnly : ℕ → Begun → Type 0
IsAsksOnly asked begun = (asks : List AskParts) × (begun_bytes asked begun ≡ asks_bytes asked asks)

-- nothing is
silent_bytes : (asked : ℕ) (it : Served) → IsSilent it → written_for asked it ≡ []
silent_bytes asked it silent = ap (λ (l : List AskParts). asks_bytes asked l ++ it.bytes) silent.no_asks ∙ silent.no_bytes

-- of a request that was not given
asks_only : (asked : ℕ) (it : Served) → IsAskedFirst it → written_for asked it ≡ asks_bytes asked it.asks
asks_only asked it first = ap (λ (l : List ℕ). asks_bytes asked it.asks ++ l) first.no_bytes ∙ append-nil (asks_bytes asked it.asks)

-- only check-backs are to be written for it, or its answer was made
by_breaks : (gives : Giving) (stop : Stop) (begun : Begun) (faults faults_then asked : ℕ) → Breaks gives stop begun faults faults_then
    → IsAsksOnly asked begun ⊎ IsPartlyBegun gives begun faults faults_then
by_breaks gives Clock begun faults faults_then asked is = inl ([], ap (begun_bytes asked) is)
by_breaks gives Sink Nothing faults faults_then asked is = absurd is
by_breaks gives Sink (Asked it) faults faults_then asked (inl first) = inl (it.asks, asks_only asked it first)
by_breaks gives Sink (Asked it) faults faults_then asked (inr is) = inr (it, refl, is)
by_breaks gives Sink (Closing reading asks acts) faults faults_then asked is = inl (asks, refl)
by_breaks gives Memory Nothing faults faults_then asked is = inl ([], refl)
by_breaks gives Memory (Asked it) faults faults_then asked (inl silent) = inl ([], silent_bytes asked it silent)
by_breaks gives Memory (Asked it) faults faults_then asked (inr (inl first)) = inl (it.asks, asks_only asked it first)
by_breaks gives Memory (Asked it) faults faults_then asked (inr (inr is)) = inr (it, refl, is)
by_breaks gives Memory (Closing reading asks acts) faults faults_then asked is = inl (asks, refl)
by_breaks gives Misplaced Nothing faults faults_then asked is = absurd is
by_breaks gives Misplaced (Asked it) faults faults_then asked (unwritten, inl silent) = inl ([], silent_bytes asked it silent)
by_breaks gives Misplaced (Asked it) faults faults_then asked (unwritten, inr (inl first)) = inl (it.asks, asks_only asked it first)
by_breaks gives Misplaced (Asked it) faults faults_then asked (unwritten, inr (inr is)) = inr (it, refl, is)
by_breaks gives Misplaced (Closing reading asks acts) faults faults_then asked is = inl (asks, refl)

-- the request that was begun is the first of those that are left
next_left : (begun : Begun) (left : List Frame) (it : Served) → begun ≡ Asked it → IsNext begun left → (behind : List Frame) × (left ≡ it.frame ∷ behind)
next_left Nothing left it is next = absurd (cc)
next_left (Closing reading asks acts) left it is next = absurd (cc)
next_left (Asked one) [] it is next = absurd next
next_left (Asked one) (frame ∷ left) it is next = (left, cc)

-- ---- in a run

-- the moment at which the last flush turn of these acts ended, or the opening where there is none
abbrev moment_at : ℕ → List Act → ℕ
moment_at opening front = last_moment opening (turns_of front)

module _ (gives : Giving) (S : Geometry) (opened opening : ℕ) (reached : State) (acts : List Act) (disk : DiskState) (sent : AreSent gives opened reached acts)
    (order : AreInOrder opening (turns_of acts) disk.moment) (well : IsWellFormed S reached.log.records)
    (leaves : (m : ℕ) (files : Files) → opening ≤ m → m ≤ disk.moment → disk.image_at m files → HasFirst S reached.log.records (opened + turned_by (turns_of acts) m) files) where
  -- the turns of acts at the front come before those behind them
  in_order : (front later : List Act) → acts ≡ front ++ later → AreInOrder opening (turns_of front ++ turns_of later) disk.moment
  in_order front later are = subst (λ (l : List FlushTurn). AreInOrder opening l disk.moment) (ap turns_of are ∙ turns_append front later) order

  -- the last of the turns of acts at the front ended by the end
  ended : (front later : List Act) → acts ≡ front ++ later → moment_at opening front ≤ disk.moment
  ended front later are =
      let behind = order_later opening disk.moment (turns_of front) (turns_of later) (in_order front later are) in
      omega (arith, order_low (moment_at opening front) disk.moment (turns_of later) behind, order_high (moment_at opening front) disk.moment (turns_of later) behind)

  -- that of more acts ended then or later
  goes_on : (front more later : List Act) → acts ≡ front ++ (more ++ later) → moment_at opening front ≤ moment_at opening (front ++ more)
  goes_on front more later are =
      let behind = order_later opening disk.moment (turns_of front) (turns_of (more ++ later)) (in_order front (more ++ later) are) in
      let split = subst (λ (l : List FlushTurn). AreInOrder (moment_at opening front) l disk.moment) (turns_append more later) behind in
      let mid = order_low (moment_at opening front) (last_moment (moment_at opening front) (turns_of more)) (turns_of more) (order_first (moment_at opening front) disk.moment (turns_of more) (turns_of later) split) in
      subst (λ (n : ℕ). moment_at opening front ≤ n) (sym (ap (last_moment opening) (turns_append front more) ∙ last_then opening (turns_of front) (turns_of more))) mid

  -- a record that the turns of the first acts flushed stands from the last of these turns on
  stands_at : (front later : List Act) (number : ℕ) (r : Entry) → acts ≡ front ++ later → slice_get reached.log.records number ≡ Some r → number < opened + turned_in (turns_of front)
      → StandsFrom S reached.log.records number (moment_at opening front) disk
  stands_at front later number r are is flushed =
      let log : List Entry = reached.log.records in
      let parts : turns_of acts ≡ turns_of front ++ turns_of later = ap turns_of are ∙ turns_append front later in
      record {
        r = r;
        is = is;
        stands = turned_stands S log opened opening (turns_of acts) (turns_of front) (turns_of later) disk number r well parts order leaves is flushed;
        kept = turned_keeps S log opened opening (turns_of acts) (turns_of front) (turns_of later) disk number r well parts order leaves is flushed;
      }

  -- a message that was accepted is on the disk from the last flush turn before its answer on
  accepted_stands : (asks : List AskParts) (it : Served) (answer : Answer) (faults : FaultCounts) (front later : List Act) → acts ≡ front ++ (it.acts ++ later) → (is : IsAnswered gives it answer faults)
      → (send : SendSaid) → IsAccepted (answered it.frame asks is.reply it.bytes) send
      → IsOnDisk S reached.log.records is.reply send (moment_at opening (front ++ it.acts)) disk
  unfolding stands_at
  accepted_stands asks it answer faults front later are is send accepted =
      let found = sent it answer faults front later send are is accepted.asked accepted.awaited accepted.code in
      record {
        number = found.number;
        stands = stands_at (front ++ it.acts) later found.number found.r (are ∙ sym (append_assoc front it.acts later)) found.is found.flushed;
        message = found.message;
        named = found.named;
      }

  -- ---- the answers

  -- none, and check-backs behind
  none_more : (asked_before : ℕ) (behind : List AskParts) (front later : List Act) → acts ≡ front ++ later → Answers gives S reached.log.records (moment_at opening front) disk asked_before behind [] (asks_bytes asked_before behind)
  none_more asked_before behind front later are = record { answers = []; asked = refl; written = All-nil (IsWritten gives); bytes_are = refl; stand = ended front later are }

  -- one answer before others
  answer_then : (asked_before : ℕ) (behind : List AskParts) (frame : Frame) (reading : ℕ) (asks : List AskParts) (bytes : List ℕ) (answer : Answer) (faults : FaultCounts) (front before first later : List Act) (frames : List Frame) (bytes_then : List ℕ)
      → acts ≡ front ++ ((before ++ first) ++ later) → IsAnswered gives (served_as frame reading first bytes) answer faults
      → Answers gives S reached.log.records (moment_at opening (front ++ (before ++ first))) disk (count_after asked_before asks) behind frames bytes_then
      → Answers gives S reached.log.records (moment_at opening front) disk asked_before behind (frame ∷ frames) (asks_bytes asked_before asks ++ (bytes ++ bytes_then))
  answer_then asked_before behind frame reading asks bytes answer faults front before first later frames bytes_then are is rest =
      let it : Answered = answered frame asks is.reply bytes in
      let apart : acts ≡ (front ++ before) ++ (first ++ later) = are ∙ (ap (λ (l : List Act). front ++ l) (append_assoc before first later) ∙ sym (append_assoc front before (first ++ later))) in
      record {
        answers = it ∷ rest.answers;
        asked = ap (λ (l : List Frame). frame ∷ l) rest.asked;
        written = All-cons (IsWritten gives) it rest.answers (faults, is.told) rest.written;
        bytes_are = ap (λ (l : List ℕ). asks_bytes asked_before asks ++ (bytes ++ l)) rest.bytes_are;
        stand = (
          moment_at opening (front ++ (before ++ first)),
          goes_on front (before ++ first) later are,
          λ send accepted. subst (λ (l : List Act). IsOnDisk S reached.log.records is.reply send (moment_at opening l) disk) (append_assoc front before first)
              (accepted_stands asks (served_as frame reading first bytes) answer faults (front ++ before) later apart is send accepted),
          rest.stand,
        );
      }

  -- all requests that were served, before others
  answers_then : (served : List Served) (faults faults_then : ℕ) (asked_before : ℕ) (behind : List AskParts) (front later : List Act) (frames : List Frame) (bytes : List ℕ) → AreServed gives faults served faults_then
      → acts ≡ front ++ (acts_of served ++ later) → Answers gives S reached.log.records (moment_at opening (front ++ acts_of served)) disk (count_after asked_before (asks_of served)) behind frames bytes
      → Answers gives S reached.log.records (moment_at opening front) disk asked_before behind (frames_of served ++ frames) (bytes_of asked_before served ++ bytes)
  answers_then [] faults faults_then asked_before behind front later frames bytes each are rest =
      subst (λ (l : List Act). Answers gives S reached.log.records (moment_at opening l) disk asked_before behind frames bytes) (append-nil front) rest
  answers_then (it ∷ served) faults faults_then asked_before behind front later frames bytes each are rest =
      let is = each.1 in
      let log : List Entry = reached.log.records in
      let mid : ℕ = count_after asked_before it.asks in
      let done : List Act = is.before ++ is.first in
      let whole : it.acts ≡ done ++ is.later = is.are_all ∙ sym (append_assoc is.before is.first is.later) in
      let next : acts ≡ (front ++ it.acts) ++ (acts_of served ++ later) =
      are ∙ (ap (λ (l : List Act). front ++ l) (append_assoc it.acts (acts_of served) later) ∙ sym (append_assoc front it.acts (acts_of served ++ later))) in
      let split : acts ≡ front ++ (done ++ (is.later ++ (acts_of served ++ later))) =
      are ∙ ap (λ (l : List Act). front ++ l) (append_assoc it.acts (acts_of served) later ∙ (ap (λ (l : List Act). l ++ (acts_of served ++ later)) whole ∙ append_assoc done is.later (acts_of served ++ later))) in
      let counted = subst (λ (n : ℕ). Answers gives S log (moment_at opening (front ++ acts_of (it ∷ served))) disk n behind frames bytes) (count_then asked_before it.asks (asks_of served)) rest in
      let others = answers_then served each.0 faults_then mid behind (front ++ it.acts) later frames bytes each.2 next
      (subst (λ (l : List Act). Answers gives S log (moment_at opening l) disk (count_after mid (asks_of served)) behind frames bytes) (sym (append_assoc front it.acts (acts_of served))) counted) in
      let at_end : front ++ it.acts ≡ (front ++ done) ++ is.later = ap (λ (l : List Act). front ++ l) whole ∙ sym (append_assoc front done is.later) in
      let later_on = subst (λ (l : List Act). moment_at opening (front ++ done) ≤ moment_at opening l) (sym at_end)
      (goes_on (front ++ done) is.later (acts_of served ++ later) (split ∙ sym (append_assoc front done (is.later ++ (acts_of served ++ later))))) in
      let lowered : Answers gives S log (moment_at opening (front ++ done)) disk mid behind (frames_of served ++ frames) (bytes_of mid served ++ bytes) = record {
        answers = others.answers;
        asked = others.asked;
        written = others.written;
        bytes_are = others.bytes_are;
        stand = from_before S log (moment_at opening (front ++ it.acts)) (moment_at opening (front ++ done)) others.answers disk later_on others.stand;
      } in
      subst (λ (l : List ℕ). Answers gives S log (moment_at opening front) disk asked_before behind (frames_of (it ∷ served) ++ frames) l)
      (sym (append_assoc (written_for asked_before it) (bytes_of mid served) bytes ∙ append_assoc (asks_bytes asked_before it.asks) it.bytes (bytes_of mid served ++ bytes)))
      (answer_then asked_before behind it.frame it.reading it.asks it.bytes is.answer (fault_counts faults each.0) front is.before is.first (is.later ++ (acts_of served ++ later)) (frames_of served ++ frames) (bytes_of mid served ++ bytes) split is.answered lowered)

  -- all requests were served
  module _ {C D : Type 0} (sides : Sides C D) (same : sides.gives ≡ gives) (frames : List Frame) (change : Change C (Point D)) where
    abbrev FirstOf : Type 0
    FirstOf = AnswersFirst gives S reached.log.records opening disk (requests_of frames) sides.sink change.place.taken change.place_then.taken change.place.asked

    ran_stands : (served : List Served) (asks : List AskParts) (later : List Act) → frames_of served ≡ requests_of frames → AreServed sides.gives change.place.reads served change.place_then.reads
        → (sides.sink → change.place_then.taken ≡ change.place.taken ++ (bytes_of change.place.asked served ++ asks_bytes (count_after change.place.asked (asks_of served)) asks)) → acts ≡ acts_of served ++ later
        → FirstOf
    ran_stands served asks later asked are_served took are =
        let each = subst (λ (g : Giving). AreServed g change.place.reads served change.place_then.reads) same are_served in
        let start : ℕ = change.place.asked in
        let count : ℕ = count_after start (asks_of served) in
        let all = answers_then served change.place.reads change.place_then.reads start asks [] later [] (asks_bytes count asks) each are (none_more count asks (acts_of served) later are) in
        record {
          answers = all.answers;
          behind = asks;
          left = [];
          asked = asked_whole (map (λ a. a.frame) all.answers) (frames_of served) [] (requests_of frames) all.asked (append-nil (frames_of served) ∙ asked);
          written = all.written;
          took = λ told. took_all change.place.taken change.place_then.taken (bytes_of start served ++ asks_bytes count asks) (answers_bytes start all.answers asks) all.bytes_are (took told);
          stand = all.stand;
        }

    -- without check-backs behind
    ran_alone : (served : List Served) (later : List Act) → frames_of served ≡ requests_of frames → AreServed sides.gives change.place.reads served change.place_then.reads
        → (sides.sink → change.place_then.taken ≡ change.place.taken ++ bytes_of change.place.asked served) → acts ≡ acts_of served ++ later → FirstOf
    ran_alone served later asked are_served took are = ran_stands served [] later asked are_served
        (λ told. took told ∙ ap (λ (l : List ℕ). change.place.taken ++ l) (sym (append-nil (bytes_of change.place.asked served)))) are

    -- serving broke off, with only check-backs to write for what was begun
    broke_asks : (stop : Stop) (later : List Act) (broke : Broke sides stop frames change) → IsAsksOnly (count_after change.place.asked (asks_of broke.served)) broke.begun → acts ≡ (acts_of broke.served ++ begun_acts broke.begun) ++ later
        → FirstOf
    broke_asks stop later broke only are =
        let each = subst (λ (g : Giving). AreServed g change.place.reads broke.served broke.mid) same broke.each in
        let apart = are ∙ append_assoc (acts_of broke.served) (begun_acts broke.begun) later in
        let start : ℕ = change.place.asked in
        let count : ℕ = count_after start (asks_of broke.served) in
        let all = answers_then broke.served change.place.reads broke.mid start only.0 [] (begun_acts broke.begun ++ later) [] (asks_bytes count only.0) each apart
        (none_more count only.0 (acts_of broke.served) (begun_acts broke.begun ++ later) apart) in
        record {
          answers = all.answers;
          behind = only.0;
          left = broke.left;
          asked = asked_whole (map (λ a. a.frame) all.answers) (frames_of broke.served) broke.left (requests_of frames) all.asked broke.asked;
          written = all.written;
          took = λ told. took_both change.place.taken change.place_then.taken (bytes_of start broke.served) (begun_bytes count broke.begun) (asks_bytes count only.0) (answers_bytes start all.answers only.0) only.1 all.bytes_are
              (broke.answered told);
          stand = all.stand;
        }

    -- serving broke off once the answer was made
    broke_partly : (stop : Stop) (later : List Act) (broke : Broke sides stop frames change) (it : Served) → broke.begun ≡ Asked it → IsPartly gives it broke.mid change.place_then.reads
        → acts ≡ (acts_of broke.served ++ begun_acts broke.begun) ++ later
        → FirstOf
    broke_partly stop later broke it begun is are =
        let each = subst (λ (g : Giving). AreServed g change.place.reads broke.served broke.mid) same broke.each in
        let start : ℕ = change.place.asked in
        let count : ℕ = count_after start (asks_of broke.served) in
        let served : List Act = acts_of broke.served in
        let done : List Act = is.before ++ is.first in
        let here : begun_acts broke.begun ≡ done ++ is.later = ap begun_acts begun ∙ (is.are_all ∙ sym (append_assoc is.before is.first is.later)) in
        let split : acts ≡ served ++ (done ++ (is.later ++ later)) =
        are ∙ (append_assoc served (begun_acts broke.begun) later ∙ ap (λ (l : List Act). served ++ l) (ap (λ (l : List Act). l ++ later) here ∙ append_assoc done is.later later)) in
        let last = answer_then count [] it.frame it.reading it.asks it.bytes is.answer (fault_counts broke.mid change.place_then.reads) served is.before is.first (is.later ++ later) [] [] split is.answered
        (none_more (count_after count it.asks) [] (served ++ done) (is.later ++ later) (split ∙ sym (append_assoc served done (is.later ++ later)))) in
        let more : List ℕ = asks_bytes count it.asks ++ (it.bytes ++ []) in
        let all = answers_then broke.served change.place.reads broke.mid start [] [] (done ++ (is.later ++ later)) (it.frame ∷ []) more each split last in
        let next = next_left broke.begun broke.left it begun broke.next in
        record {
          answers = all.answers;
          behind = [];
          left = next.0;
          asked = asked_one_more (map (λ a. a.frame) all.answers) (frames_of broke.served) broke.left next.0 (requests_of frames) it.frame all.asked next.1 broke.asked;
          written = all.written;
          took = λ told. took_both change.place.taken change.place_then.taken (bytes_of start broke.served) (begun_bytes count broke.begun) more (answers_bytes start all.answers [])
              (ap (begun_bytes count) begun ∙ ap (λ (l : List ℕ). asks_bytes count it.asks ++ l) (sym (append-nil it.bytes))) all.bytes_are (broke.answered told);
          stand = all.stand;
        }

    -- serving broke off
    broke_stands : (stop : Stop) (later : List Act) (broke : Broke sides stop frames change) → acts ≡ (acts_of broke.served ++ begun_acts broke.begun) ++ later
        → FirstOf
    broke_stands stop later broke are =
        let count : ℕ = count_after change.place.asked (asks_of broke.served) in
        ⊎_elim
        (λ (only : IsAsksOnly count broke.begun). broke_asks stop later broke only are)
        (λ (partly : IsPartlyBegun gives broke.begun broke.mid change.place_then.reads). broke_partly stop later broke partly.0 partly.1 partly.2 are)
        (by_breaks gives stop broke.begun broke.mid change.place_then.reads count (subst (λ (g : Giving). Breaks g stop broke.begun broke.mid change.place_then.reads) same broke.breaks))

    -- whatever ended the reading
    pub run_stands : (ended_by : Result (Unit {0}) Halt) (later : List Act) (ran : RanToEnd sides ended_by frames change) → acts ≡ acts_in sides ended_by frames change ran ++ later
        → AnswersFirst gives S reached.log.records opening disk (requests_of frames) sides.sink change.place.taken change.place_then.taken change.place.asked
    run_stands (Ok done) later ran are =
        ran_stands ran.served ran.asks (ran.last ++ later) ran.asked ran.each ran.answered (are ∙ append_assoc (acts_of ran.served) ran.last later)
    run_stands (Err (BadFrame place)) later ran are = ran_alone ran.served later ran.asked ran.each ran.answered are
    run_stands (Err Read) later ran are = ran_alone ran.served later ran.asked ran.each ran.answered are
    run_stands (Err (Stopped stop)) later ran are = broke_stands stop later ran are
