-- Answers that are told, and what happened for them.
use Rattle.std.proofs.Common.{◌≡◌, ◌⊎◌, inl, inr, ℕ, ℤ, ◌++◌, List, [], Bool, true, false, Some, None, Result, Ok, Err, OnOk, OnErr, refl, sym, ap, ◌∙◌, subst, append-nil, append_assoc, ⊎_elim}
use Rattle.mq_outside.specs.Counts.{Rises}
use Rattle.mq_outside.specs.Readings.{Giving}
use Rattle.remoting_frame.specs.declared.frame.Frame.{Frame}
use Rattle.reply_fields.specs.Parts.{ReplyParts}
use Rattle.reply_fields.specs.Replies.{AppendsReply}
use Rattle.request_fields.specs.Reading.{Reads, request_of}
use Rattle.request_fields.specs.declared.request.Request.{Request}
use Rattle.request_fields.specs.declared.fault.RequestFault.{RequestFault}
use Rattle.session.specs.Hearing.{IsHeard}
use Rattle.session.specs.declared.caller.Caller.{Caller}
use Rattle.session.specs.declared.heard.Heard.{Heard}
use Rattle.session.specs.declared.owed.Awaits.{Awaits}
use Rattle.worker_turns.specs.Acts.{Act, Acts, Acted, Place, change_of}
use Rattle.worker_turns.specs.Turning.{AreTurnsAndDispatch, BrokeBy}
use Rattle.worker_turns.specs.declared.broken.Broken.{Broken}
use Rattle.worker_turns.specs.declared.broken.Broken.TheVariants as broken
use Rattle.pipe_stream.specs.Asking.{Chooses, IsGiven, Gives, IsLooked}
use Rattle.pipe_stream.specs.Telling.{stopped_by, unread, Appends, AppendsUnread, IsTold, HasTold, HasWrittenReply, HasWrittenPart, TookPart, Tells, WritesReply, fault_counts, sink_of}
use Rattle.pipe_stream.specs.Serving.{Sides, Point, point_of, caller_of, IsSettled, IsAnswered, StoppedIn, HasAnswered, HasPartly, HasBroken, Answers, AnswersHeard, HasPartlyHeard, served_as}
use Rattle.pipe_stream.specs.declared.answer.Answer.{Answer}
use Rattle.pipe_stream.specs.declared.stop.Stop.{Stop}
use Rattle.pipe_stream.specs.declared.stop.Stop.TheVariants as stops
use Rattle.worker_turns.proofs.ActLemmas.{still, acts_then, unwritten_behind}

-- nothing was written of a piece
pub took_none : (taken taken_then piece : List ℕ) → taken_then ≡ taken → TookPart taken taken_then piece
took_none taken taken_then piece same = record { part = []; unwritten = piece; front = refl; taken_is = same ∙ sym (append-nil taken) }

-- and all of it was
pub took_all : (taken taken_then piece : List ℕ) → taken_then ≡ taken ++ piece → TookPart taken taken_then piece
took_all taken taken_then piece whole = record { part = piece; unwritten = []; front = append-nil piece; taken_is = whole }

-- ---- pieces

pub on_err : {A E : Type 0} (result : Result A E) (P : Type 0) → P → OnErr result P
on_err (Ok done) P it = tt
on_err (Err fault) P it = it

-- ---- the bytes of a reply

-- the reply of a reader that failed so often
pub unread_appended : (gives : Giving) (caller : Caller) (faults faults_then count : ℕ) (reply : ReplyParts) (old new : List ℕ) → reply ≡ unread count → count ≡ faults → faults_then ≡ faults
    → AppendsReply gives caller.form caller.opaque reply old new → AppendsUnread gives caller (fault_counts faults faults_then) old new
unread_appended gives caller faults faults_then count reply old new is counted same appends =
    (same, subst (λ (r : ReplyParts). AppendsReply gives caller.form caller.opaque r old new) (is ∙ ap unread counted) appends)

-- it is told in place of one whose bytes could not be read
pub told_unread : {A E : Type 0} (gives : Giving) (caller : Caller) (reply : ReplyParts) (faults mid faults_then : ℕ) (old start new : List ℕ) (result : Result A E) → Rises faults mid → start ≡ old
    → OnOk result (AppendsUnread gives caller (fault_counts mid faults_then) start new) → OnOk result (Appends gives caller reply (fault_counts faults faults_then) old new)
told_unread gives caller reply faults mid faults_then old start new (Ok done) rises same appends = inr (
  subst (λ (n : ℕ). Rises faults n) (sym appends.0) rises,
  subst (λ (n : ℕ). AppendsReply gives caller.form caller.opaque (unread n) old new) (sym appends.0)
      (subst (λ (l : List ℕ). AppendsReply gives caller.form caller.opaque (unread mid) l new) same appends.1),
)
told_unread gives caller reply faults mid faults_then old start new (Err fault) rises same appends = tt

-- all bytes of it were written
pub wrote_reply : (gives : Giving) (caller : Caller) (reply : ReplyParts) (faults faults_then : ℕ) (sink : Type 0) (taken taken_then start bytes piece : List ℕ) → start ≡ [] → piece ≡ bytes
    → Appends gives caller reply (fault_counts faults faults_then) start bytes → (sink → taken_then ≡ taken ++ piece) → HasWrittenReply gives caller reply (fault_counts faults faults_then) (sink_of sink taken taken_then)
wrote_reply gives caller reply faults faults_then sink taken taken_then start bytes piece none same appends took = record {
  bytes = bytes;
  are = subst (λ (l : List ℕ). Appends gives caller reply (fault_counts faults faults_then) l bytes) none appends;
  taken_is = λ told. took told ∙ ap (λ (l : List ℕ). taken ++ l) same;
}

-- some of them
pub wrote_part : (gives : Giving) (caller : Caller) (reply : ReplyParts) (faults faults_then : ℕ) (sink : Type 0) (taken taken_then start bytes piece : List ℕ) → start ≡ [] → piece ≡ bytes
    → Appends gives caller reply (fault_counts faults faults_then) start bytes → (sink → TookPart taken taken_then piece) → HasWrittenPart gives caller reply (fault_counts faults faults_then) (sink_of sink taken taken_then)
wrote_part gives caller reply faults faults_then sink taken taken_then start bytes piece none same appends took = record {
  bytes = bytes;
  are = subst (λ (l : List ℕ). Appends gives caller reply (fault_counts faults faults_then) l bytes) none appends;
  took = λ told. subst (λ (l : List ℕ). TookPart taken taken_then l) same (took told);
}

-- ---- somebody waits, or nobody does

waits_for : (gives : Giving) (caller : Caller) (reply : ReplyParts) (faults faults_then : ℕ) (bytes : List ℕ) → caller.one_way ≡ false
    → Appends gives caller reply (fault_counts faults faults_then) [] bytes → IsTold gives caller reply (fault_counts faults faults_then) bytes
waits_for gives caller reply faults faults_then bytes waits appends =
    subst (λ (b : Bool). Chooses b (bytes ≡ []) (Appends gives caller reply (fault_counts faults faults_then) [] bytes)) (sym waits) appends

pub told_by : {A : Type 0} (gives : Giving) (caller : Caller) (reply : ReplyParts) (faults faults_then : ℕ) (sink : Type 0) (taken taken_then : List ℕ) (result : Result A Stop)
    → caller.one_way ≡ false → WritesReply gives caller reply (fault_counts faults faults_then) (sink_of sink taken taken_then) result → Tells gives caller reply (fault_counts faults faults_then) (sink_of sink taken taken_then) result
told_by gives caller reply faults faults_then sink taken taken_then (Ok done) waits wrote =
    record { bytes = wrote.bytes; told = waits_for gives caller reply faults faults_then wrote.bytes waits wrote.are; taken_is = wrote.taken_is }
told_by gives caller reply faults faults_then sink taken taken_then (Err stops.Clock) waits wrote = wrote
told_by gives caller reply faults faults_then sink taken taken_then (Err stops.Sink) waits wrote =
    record { bytes = wrote.bytes; told = waits_for gives caller reply faults faults_then wrote.bytes waits wrote.are; took = wrote.took }
told_by gives caller reply faults faults_then sink taken taken_then (Err stops.Memory) waits wrote = wrote
told_by gives caller reply faults faults_then sink taken taken_then (Err stops.Misplaced) waits wrote = wrote

pub told_nobody : (gives : Giving) (caller : Caller) (reply : ReplyParts) (faults : ℕ) (sink : Type 0) (taken : List ℕ) → caller.one_way ≡ true
    → HasTold gives caller reply (fault_counts faults faults) (sink_of sink taken taken)
told_nobody gives caller reply faults sink taken alone = record {
  bytes = [];
  told = subst (λ (b : Bool). Chooses b (◌≡◌ {A = List ℕ} [] []) (Appends gives caller reply (fault_counts faults faults) [] [])) (sym alone) refl;
  taken_is = λ tells. sym (append-nil taken);
}

module _ {C D : Type 0} (sides : Sides C D) (caller : Caller) where
  -- told of an answer that is another
  pub for_answer : {A : Type 0} (answer it : Answer) (result : Result A Stop) (x y : C) (old new : Point D) → answer ≡ it → Answers sides caller it result (change_of x old y new)
      → Answers sides caller answer result (change_of x old y new)
  for_answer answer it result x y old new is answers = subst (λ (a : Answer). Answers sides caller a result (change_of x old y new)) (sym is) answers

  -- ---- at once

  -- telling it broke off
  pub broken_at_once : (reply : ReplyParts) (stop : Stop) (x : C) (place : Place D) (reads reads_then : ℕ) (taken taken_then readings : List ℕ)
      → Tells {A = Unit {0}} sides.gives caller reply (fault_counts reads reads_then) (sink_of sides.sink taken taken_then) (Err stop)
      → Answers {A = Unit {0}} sides caller (record { reply = reply; awaits = None }) (Err stop) (change_of x (point_of place reads taken readings) x (point_of place reads_then taken_then readings))
  broken_at_once reply stops.Clock x place reads reads_then taken taken_then readings told = absurd told
  broken_at_once reply stops.Sink x place reads reads_then taken taken_then readings told = record {
    settled = [];
    followed = [];
    reply = reply;
    bytes = told.bytes;
    is_settled = (refl, refl);
    told = told.told;
    happened = still sides.makes sides.disk x place;
    stopped = tt;
    took = told.took;
  }
  broken_at_once reply stops.Memory x place reads reads_then taken taken_then readings told =
      inr (record { acts = []; happened = still sides.makes sides.disk x place; stopped = tt; still = told })
  broken_at_once reply stops.Misplaced x place reads reads_then taken taken_then readings told = absurd told

  -- it was told, and turns came behind it
  pub told_at_once : (reply : ReplyParts) (x y : C) (old new : Place D) (reads reads_then : ℕ) (taken taken_then readings : List ℕ)
      → HasTold sides.gives caller reply (fault_counts reads reads_then) (sink_of sides.sink taken taken_then) → Acted sides.makes sides.disk AreTurnsAndDispatch (change_of x old y new)
      → HasAnswered sides caller (record { reply = reply; awaits = None }) (change_of x (point_of old reads taken readings) y (point_of new reads_then taken_then readings))
  told_at_once reply x y old new reads reads_then taken taken_then readings told turned = record {
    settled = [];
    followed = turned.acts;
    reply = reply;
    bytes = told.bytes;
    is_settled = (refl, refl);
    is_followed = turned.kind;
    told = told.told;
    happened = turned.happened;
    taken_is = told.taken_is;
  }

  -- it was told, and the turns broke off
  partly_behind : (reply : ReplyParts) (stop : Stop) (x y : C) (old new : Place D) (reads reads_then : ℕ) (taken taken_then readings : List ℕ)
      → HasTold sides.gives caller reply (fault_counts reads reads_then) (sink_of sides.sink taken taken_then) → Acted sides.makes sides.disk (StoppedIn stop) (change_of x old y new)
      → HasPartly sides stop caller (record { reply = reply; awaits = None }) (change_of x (point_of old reads taken readings) y (point_of new reads_then taken_then readings))
  partly_behind reply stop x y old new reads reads_then taken taken_then readings told turned = record {
    settled = [];
    followed = turned.acts;
    reply = reply;
    bytes = told.bytes;
    is_settled = (refl, refl);
    told = told.told;
    happened = turned.happened;
    stopped = turned.kind;
    took = λ tells. took_all taken taken_then told.bytes (told.taken_is tells);
  }

  told_broken : (reply : ReplyParts) (fault : Broken) (x y : C) (old new : Place D) (reads reads_then : ℕ) (taken taken_then readings : List ℕ)
      → HasTold sides.gives caller reply (fault_counts reads reads_then) (sink_of sides.sink taken taken_then) → Acted sides.makes sides.disk (BrokeBy fault) (change_of x old y new)
      → Answers {A = Unit {0}} sides caller (record { reply = reply; awaits = None }) (Err (stopped_by fault)) (change_of x (point_of old reads taken readings) y (point_of new reads_then taken_then readings))
  told_broken reply broken.Misplaced x y old new reads reads_then taken taken_then readings told turned =
      inl (partly_behind reply stops.Misplaced x y old new reads reads_then taken taken_then readings told
      (record { acts = turned.acts; kind = turned.kind; happened = turned.happened }))
  told_broken reply broken.Memory x y old new reads reads_then taken taken_then readings told turned =
      inl (partly_behind reply stops.Memory x y old new reads reads_then taken taken_then readings told
      (record { acts = turned.acts; kind = turned.kind; happened = turned.happened }))

  pub broken_behind : (answer : Answer) (reply : ReplyParts) (fault : Broken) (stop : Stop) (x y : C) (old new : Place D) (reads reads_then : ℕ) (taken taken_then readings : List ℕ)
      → answer ≡ record { reply = reply; awaits = None } → stop ≡ stopped_by fault
      → HasTold sides.gives caller reply (fault_counts reads reads_then) (sink_of sides.sink taken taken_then) → Acted sides.makes sides.disk (BrokeBy fault) (change_of x old y new)
      → Answers {A = Unit {0}} sides caller answer (Err stop) (change_of x (point_of old reads taken readings) y (point_of new reads_then taken_then readings))
  broken_behind answer reply fault stop x y old new reads reads_then taken taken_then readings is by told turned =
      let p : Point D = point_of old reads taken readings in
      let q : Point D = point_of new reads_then taken_then readings in
      subst (λ (a : Answer). Answers {A = Unit {0}} sides caller a (Err stop) (change_of x p y q)) (sym is)
      (subst (λ (s : Stop). Answers {A = Unit {0}} sides caller (record { reply = reply; awaits = None }) (Err s) (change_of x p y q)) (sym by)
      (told_broken reply fault x y old new reads reads_then taken taken_then readings told turned))

  -- nothing was told, since acts broke off
  none_broken : (answer : Answer) (fault : Broken) (x y : C) (old new : Place D) (reads : ℕ) (taken readings : List ℕ) → Acted sides.makes sides.disk (BrokeBy fault) (change_of x old y new)
      → Answers {A = Unit {0}} sides caller answer (Err (stopped_by fault)) (change_of x (point_of old reads taken readings) y (point_of new reads taken readings))
  none_broken answer broken.Misplaced x y old new reads taken readings acted =
      inr (record { acts = acted.acts; happened = acted.happened; stopped = acted.kind; still = λ tells. refl })
  none_broken answer broken.Memory x y old new reads taken readings acted =
      inr (record { acts = acted.acts; happened = acted.happened; stopped = tt; still = λ tells. refl })

  pub broken_before : (answer : Answer) (fault : Broken) (stop : Stop) (x y : C) (old new : Place D) (reads : ℕ) (taken readings : List ℕ) → stop ≡ stopped_by fault
      → Acted sides.makes sides.disk (BrokeBy fault) (change_of x old y new)
      → Answers {A = Unit {0}} sides caller answer (Err stop) (change_of x (point_of old reads taken readings) y (point_of new reads taken readings))
  broken_before answer fault stop x y old new reads taken readings by acted =
      subst (λ (s : Stop). Answers {A = Unit {0}} sides caller answer (Err s) (change_of x (point_of old reads taken readings) y (point_of new reads taken readings))) (sym by)
      (none_broken answer fault x y old new reads taken readings acted)

  -- ---- behind a look

  nothing_more : (acts : List Act) (x y : C) (old new : Place D) → Acts sides.makes sides.disk acts (change_of x old y new) → Acts sides.makes sides.disk (acts ++ []) (change_of x old y new)
  nothing_more acts x y old new = subst (λ (l : List Act). Acts sides.makes sides.disk l (change_of x old y new)) (sym (append-nil acts))

  pub told_behind : {A : Type 0} (reply told : ReplyParts) (awaits : Awaits) (result : Result A Stop) (x y : C) (old new : Place D) (reads reads_then : ℕ) (taken taken_then readings : List ℕ)
      → Acted sides.makes sides.disk (IsLooked reply awaits told) (change_of x old y new) → Tells sides.gives caller told (fault_counts reads reads_then) (sink_of sides.sink taken taken_then) result
      → Answers sides caller (record { reply = reply; awaits = Some awaits }) result (change_of x (point_of old reads taken readings) y (point_of new reads_then taken_then readings))
  told_behind reply told awaits (Ok done) x y old new reads reads_then taken taken_then readings looked tells = record {
    settled = looked.acts;
    followed = [];
    reply = told;
    bytes = tells.bytes;
    is_settled = looked.kind;
    is_followed = refl;
    told = tells.told;
    happened = nothing_more looked.acts x y old new looked.happened;
    taken_is = tells.taken_is;
  }
  told_behind reply told awaits (Err stops.Clock) x y old new reads reads_then taken taken_then readings looked tells = absurd tells
  told_behind reply told awaits (Err stops.Sink) x y old new reads reads_then taken taken_then readings looked tells = record {
    settled = looked.acts;
    followed = [];
    reply = told;
    bytes = tells.bytes;
    is_settled = looked.kind;
    told = tells.told;
    happened = nothing_more looked.acts x y old new looked.happened;
    stopped = tt;
    took = tells.took;
  }
  told_behind reply told awaits (Err stops.Memory) x y old new reads reads_then taken taken_then readings looked tells =
      inr (record { acts = looked.acts; happened = looked.happened; stopped = tt; still = tells })
  told_behind reply told awaits (Err stops.Misplaced) x y old new reads reads_then taken taken_then readings looked tells = absurd tells

-- ---- a request that was given, and its answer

-- what was heard waits as its frame does
caller_is : (heard : Heard) (frame : Frame) → IsHeard heard frame → record { form = heard.form; opaque = heard.opaque; one_way = heard.one_way } ≡ caller_of frame
caller_is heard frame is = λ i. record { form = is.form i; opaque = is.opaque i; one_way = is.one_way i }

module _ {C D : Type 0} (sides : Sides C D) (frame : Frame) (now : ℕ) where
  answered : (request : Result Request RequestFault) (answer : Answer) (reply : ReplyParts) (given settled : List Act) (bytes : List ℕ) (faults faults_then : ℕ)
      → Reads request (request_of frame.header frame.body) → IsGiven frame.header.code now request answer given → IsSettled answer.reply answer.awaits reply settled
      → IsTold sides.gives (caller_of frame) reply (fault_counts faults faults_then) bytes → IsAnswered sides.gives (served_as frame now (given ++ settled) bytes) answer (fault_counts faults faults_then)
  answered request answer reply given settled bytes faults faults_then read is_given is_settled told = record {
    request = request;
    given = given;
    settled = settled;
    reply = reply;
    read = read;
    is_given = is_given;
    is_settled = is_settled;
    told = told;
    are_all = refl;
  }

  pub stopped_behind : (stop : Stop) (given later : List Act) → StoppedIn stop later → StoppedIn stop (given ++ later)
  stopped_behind stops.Clock given later stopped = tt
  stopped_behind stops.Sink given later stopped = tt
  stopped_behind stops.Memory given later stopped = tt
  stopped_behind stops.Misplaced given later stopped = unwritten_behind given later stopped

  partly : (stop : Stop) (request : Result Request RequestFault) (answer : Answer) (given : List Act) (x y z : C) (old mid new : Point D)
      → Reads request (request_of frame.header frame.body) → IsGiven frame.header.code now request answer given
      → Acts sides.makes sides.disk given (change_of x old.place y mid.place) → mid.reads ≡ old.reads → mid.taken ≡ old.taken
      → HasPartly sides stop (caller_of frame) answer (change_of y mid z new) → HasPartlyHeard sides stop frame now (change_of x old z new)
  partly stop request answer given x y z old mid new read is_given gave reads taken it = record {
    answer = answer;
    first = given ++ it.settled;
    later = it.followed;
    bytes = it.bytes;
    answered = answered request answer it.reply given it.settled it.bytes old.reads new.reads read is_given it.is_settled
        (subst (λ (n : ℕ). IsTold sides.gives (caller_of frame) it.reply (fault_counts n new.reads) it.bytes) reads it.told);
    happened = subst (λ (l : List Act). Acts sides.makes sides.disk l (change_of x old.place z new.place)) (sym (append_assoc given it.settled it.followed))
        (acts_then sides.makes sides.disk given (it.settled ++ it.followed) x y z old.place mid.place new.place gave it.happened);
    stopped = subst (StoppedIn stop) (sym (append_assoc given it.settled it.followed)) (stopped_behind stop given (it.settled ++ it.followed) it.stopped);
    took = λ tells. subst (λ (l : List ℕ). TookPart l new.taken it.bytes) taken (it.took tells);
  }

  broken_on : (stop : Stop) (given : List Act) (x y z : C) (old mid new : Point D) → Acts sides.makes sides.disk given (change_of x old.place y mid.place) → mid.taken ≡ old.taken
      → HasBroken sides stop (change_of y mid z new) → HasBroken sides stop (change_of x old z new)
  broken_on stop given x y z old mid new gave taken it = record {
    acts = given ++ it.acts;
    happened = acts_then sides.makes sides.disk given it.acts x y z old.place mid.place new.place gave it.happened;
    stopped = stopped_behind stop given it.acts it.stopped;
    still = λ tells. it.still tells ∙ taken;
  }

  -- an answer that was told, or on which serving broke off
  either_broken : (stop : Stop) (request : Result Request RequestFault) (answer : Answer) (given : List Act) (x y z : C) (old mid new : Point D)
      → Reads request (request_of frame.header frame.body) → IsGiven frame.header.code now request answer given
      → Acts sides.makes sides.disk given (change_of x old.place y mid.place) → mid.reads ≡ old.reads → mid.taken ≡ old.taken
      → HasPartly sides stop (caller_of frame) answer (change_of y mid z new) ⊎ HasBroken sides stop (change_of y mid z new) → HasPartlyHeard sides stop frame now (change_of x old z new) ⊎ HasBroken sides stop (change_of x old z new)
  either_broken stop request answer given x y z old mid new read is_given gave reads taken = ⊎_elim
      (λ (some : HasPartly sides stop (caller_of frame) answer (change_of y mid z new)).
      inl (partly stop request answer given x y z old mid new read is_given gave reads taken some))
      (λ (none : HasBroken sides stop (change_of y mid z new)). inr (broken_on stop given x y z old mid new gave taken none))

  by_caller : {A : Type 0} (request : Result Request RequestFault) (answer : Answer) (given : List Act) (result : Result A Stop) (x y z : C) (old mid new : Point D)
      → Reads request (request_of frame.header frame.body) → IsGiven frame.header.code now request answer given
      → Acts sides.makes sides.disk given (change_of x old.place y mid.place) → mid.reads ≡ old.reads → mid.taken ≡ old.taken
      → Answers sides (caller_of frame) answer result (change_of y mid z new) → AnswersHeard sides frame now result (change_of x old z new)
  by_caller request answer given (Ok done) x y z old mid new read is_given gave reads taken it = record {
    answer = answer;
    first = given ++ it.settled;
    later = it.followed;
    bytes = it.bytes;
    answered = answered request answer it.reply given it.settled it.bytes old.reads new.reads read is_given it.is_settled
        (subst (λ (n : ℕ). IsTold sides.gives (caller_of frame) it.reply (fault_counts n new.reads) it.bytes) reads it.told);
    followed = it.is_followed;
    happened = subst (λ (l : List Act). Acts sides.makes sides.disk l (change_of x old.place z new.place)) (sym (append_assoc given it.settled it.followed))
        (acts_then sides.makes sides.disk given (it.settled ++ it.followed) x y z old.place mid.place new.place gave it.happened);
    taken_is = λ tells. it.taken_is tells ∙ ap (λ (l : List ℕ). l ++ it.bytes) taken;
  }
  by_caller request answer given (Err stops.Clock) x y z old mid new read is_given gave reads taken it = it
  by_caller request answer given (Err stops.Sink) x y z old mid new read is_given gave reads taken it =
      partly stops.Sink request answer given x y z old mid new read is_given gave reads taken it
  by_caller request answer given (Err stops.Memory) x y z old mid new read is_given gave reads taken it =
      either_broken stops.Memory request answer given x y z old mid new read is_given gave reads taken it
  by_caller request answer given (Err stops.Misplaced) x y z old mid new read is_given gave reads taken it =
      either_broken stops.Misplaced request answer given x y z old mid new read is_given gave reads taken it

  -- what was heard was not answered, since acts broke off
  broken_by : (fault : Broken) (x y : C) (old new : Point D) → Acted sides.makes sides.disk (BrokeBy fault) (change_of x old.place y new.place) → new.taken ≡ old.taken
      → AnswersHeard {A = Unit {0}} sides frame now (Err (stopped_by fault)) (change_of x old y new)
  broken_by broken.Misplaced x y old new acted same =
      inr (record { acts = acted.acts; happened = acted.happened; stopped = acted.kind; still = λ tells. same })
  broken_by broken.Memory x y old new acted same =
      inr (record { acts = acted.acts; happened = acted.happened; stopped = tt; still = λ tells. same })

  pub heard_broken : (fault : Broken) (stop : Stop) (x y : C) (old new : Point D) → stop ≡ stopped_by fault → Acted sides.makes sides.disk (BrokeBy fault) (change_of x old.place y new.place)
      → new.taken ≡ old.taken → AnswersHeard {A = Unit {0}} sides frame now (Err stop) (change_of x old y new)
  heard_broken fault stop x y old new by acted same =
      subst (λ (s : Stop). AnswersHeard {A = Unit {0}} sides frame now (Err s) (change_of x old y new)) (sym by) (broken_by fault x y old new acted same)

  -- what was heard was given to the broker, and its answer told
  pub heard_by : {A : Type 0} (heard : Heard) (answer : Answer) (code : ℤ) (caller : Caller) (result : Result A Stop) (x y z : C) (old mid new : Point D) → code ≡ heard.code
      → caller ≡ record { form = heard.form; opaque = heard.opaque; one_way = heard.one_way } → IsHeard heard frame
      → Acted sides.makes sides.disk (Gives code now heard.request (Ok answer)) (change_of x old.place y mid.place)
      → mid.reads ≡ old.reads → mid.taken ≡ old.taken → Answers sides caller answer result (change_of y mid z new) → AnswersHeard sides frame now result (change_of x old z new)
  heard_by heard answer code caller result x y z old mid new same waits is gave reads taken it =
      by_caller heard.request answer gave.acts result x y z old mid new is.request
      (subst (λ (c : ℤ). IsGiven c now heard.request answer gave.acts) (same ∙ is.code) gave.kind) gave.happened reads taken
      (subst (λ (c : Caller). Answers sides c answer result (change_of y mid z new)) (waits ∙ caller_is heard frame is) it)
