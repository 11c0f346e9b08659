-- How what passes do for a link goes together.
use Rattle.std.proofs.Common.{◌≡◌, ◌<◌, ◌≤◌, ◌+◌, ◌-◌, ◌^◌, min, ℕ, List, [], ◌∷◌, ◌++◌, take, drop, Bool, true, false, Result, Ok, Err, refl, sym, ap, ◌∙◌, subst, append_assoc, append-nil, arith}
use Rattle.mq_outside.specs.Readings.{Giving}
use Rattle.broker_events.proofs.Makes.{makes_append}
use Rattle.reply_fields.specs.Parts.{AskParts}
use Rattle.session.specs.Asking.{Asks, AsksOrNot}
use Rattle.session.specs.Owing.{Steps}
use Rattle.session.specs.Readers.{ReaderView, FailedAt, reads_between}
use Rattle.session.specs.Room.{LooksForRoom}
use Rattle.session.specs.Serving.{Made, Leads, LeadsReading, ServesNext, KeepsLink, KeepsOut, KeepsRest}
use Rattle.session.specs.Settling.{IsSettled, IsBroken, unsent_of}
use Rattle.session.specs.Sessions.{Call, fed, served, looked, settled, sent, asked, HadMemory, IsCall, stream_in, sent_in, made_in, asks_in, read_replies_in, stream_of, sent_of, made_of, asks_of, read_replies_of}
use Rattle.session.specs.declared.session.Session.{Session}
use Rattle.session.specs.declared.talk.Talk.{Talk}
use Rattle.session.specs.declared.serving.Step.{Step}
use Rattle.session.specs.declared.serving.Halt.{Halt}
use Rattle.session.specs.declared.serving.Halt.TheVariants as halts
use Rattle.session.proofs.ReaderLemmas.{settled_wider, broken_wider}
use Rattle.link_service.specs.Transcripts.{Seen, counted_to, FindsNoMemory, IsCallOf, AreCallsOf, WentOnWith, WentOn, WentOnUnread, NoneSettled, reads_nothing, if_asked}

-- ---- what calls come to

pub made_append : (xs ys : List Call) → made_of (xs ++ ys) ≡ made_of xs ++ made_of ys
made_append [] ys = refl
made_append (x ∷ xs) ys = ap (λ (l : Made). made_in x ++ l) (made_append xs ys) ∙ sym (append_assoc (made_in x) (made_of xs) (made_of ys))

pub stream_append : (xs ys : List Call) → stream_of (xs ++ ys) ≡ stream_of xs ++ stream_of ys
stream_append [] ys = refl
stream_append (x ∷ xs) ys = ap (λ (l : List ℕ). stream_in x ++ l) (stream_append xs ys) ∙ sym (append_assoc (stream_in x) (stream_of xs) (stream_of ys))

pub sent_append : (xs ys : List Call) → sent_of (xs ++ ys) ≡ sent_of xs ++ sent_of ys
sent_append [] ys = refl
sent_append (x ∷ xs) ys = ap (λ (l : List ℕ). sent_in x ++ l) (sent_append xs ys) ∙ sym (append_assoc (sent_in x) (sent_of xs) (sent_of ys))

pub asks_append : (xs ys : List Call) → asks_of (xs ++ ys) ≡ asks_of xs ++ asks_of ys
asks_append [] ys = refl
asks_append (x ∷ xs) ys = ap (λ (l : List AskParts). asks_in x ++ l) (asks_append xs ys) ∙ sym (append_assoc (asks_in x) (asks_of xs) (asks_of ys))

-- numbers in front, and none of them
sum_front : (a b c d : ℕ) → b ≡ c + d → a + b ≡ (a + c) + d
sum_front a b c d h = omega (arith, h)

sum_none : (n : ℕ) → n ≡ 0 + n
sum_none n = omega arith

none_more : (n m : ℕ) → n ≡ m → n ≡ m + 0
none_more n m h = omega (arith, h)

pub read_append : (xs ys : List Call) → read_replies_of (xs ++ ys) ≡ read_replies_of xs + read_replies_of ys
read_append [] ys = sum_none (read_replies_of ys)
read_append (x ∷ xs) ys = sum_front (read_replies_in x) (read_replies_of (xs ++ ys)) (read_replies_of xs) (read_replies_of ys) (read_append xs ys)

none_append : (xs ys : List Call) → NoneSettled xs → NoneSettled ys → NoneSettled (xs ++ ys)
none_append [] ys none more = more
none_append (fed piece ∷ xs) ys none more = none_append xs ys none more
none_append (served now made result ∷ xs) ys none more = none_append xs ys none more
none_append (looked made result ∷ xs) ys none more = none_append xs ys none more
none_append (settled made reads ∷ xs) ys none more = absurd none
none_append (sent count bytes ∷ xs) ys none more = none_append xs ys none more
none_append (asked ask ∷ xs) ys none more = none_append xs ys none more

-- ---- one after another

-- calls that begin with a link that broke are none
are_from : (reader : ReaderView) (broken at end : Bool) (old new : Session) (more : List Call) → (broken ≡ true → at ≡ true) → AreCallsOf reader at old more end new
    → AreCallsOf reader broken old more end new
are_from reader broken at end old new [] stays are = (are.0, λ was. are.1 (stays was))
are_from reader false at end old new (call ∷ calls) stays are = (refl, are.1, are.2, are.3, are.4)
are_from reader true at end old new (call ∷ calls) stays are = let was = stays refl in let not = are.0 in cc

are_on : (reader : ReaderView) (broken at end : Bool) (old mid new : Session) (calls more : List Call) → AreCallsOf reader broken old calls at mid → AreCallsOf reader at mid more end new
    → AreCallsOf reader broken old (calls ++ more) end new
are_on reader broken at end old mid new [] more first rest =
    are_from reader broken at end old new more first.1 (subst (λ (s : Session). AreCallsOf reader at s more end new) first.0 rest)
are_on reader broken at end old mid new (call ∷ calls) more first rest =
    (first.0, first.1, first.2, first.3, are_on reader first.2 at end first.1 mid new calls more first.4 rest)

-- what was given or taken before, then by the first calls, then by the others
then_more : (old mid new xs ys all : List ℕ) → mid ≡ old ++ xs → new ≡ mid ++ ys → all ≡ xs ++ ys → new ≡ old ++ all
then_more old mid new xs ys all first rest both =
    rest ∙ ap (λ (l : List ℕ). l ++ ys) first ∙ append_assoc old xs ys ∙ ap (λ (l : List ℕ). old ++ l) (sym both)

pub went_on : (tells : Type 0) (reader : ReaderView) (old mid new : Seen) (first rest : Made) (asks more : List AskParts) (reads others : ℕ)
    → WentOnWith tells reader old first asks reads mid → WentOnWith tells reader mid rest more others new
    → WentOnWith tells reader old (first ++ rest) (asks ++ more) (reads + others) new
went_on tells reader old mid new first rest asks more reads others h k = record {
  calls = h.calls ++ k.calls;
  are = are_on reader old.broken mid.broken new.broken old.session mid.session new.session h.calls k.calls h.are k.are;
  steps = ap (λ (l : Made). l ++ rest) h.steps ∙ ap (λ (l : Made). made_of h.calls ++ l) k.steps ∙ sym (made_append h.calls k.calls);
  asked = ap (λ (l : List AskParts). l ++ more) h.asked ∙ ap (λ (l : List AskParts). asks_of h.calls ++ l) k.asked ∙ sym (asks_append h.calls k.calls);
  read = ap (λ (n : ℕ). n + others) h.read ∙ ap (λ (n : ℕ). read_replies_of h.calls + n) k.read ∙ sym (read_append h.calls k.calls);
  given = λ told. then_more old.given mid.given new.given (stream_of h.calls) (stream_of k.calls) (stream_of (h.calls ++ k.calls)) (h.given told) (k.given told)
      (stream_append h.calls k.calls);
  taken = λ told. then_more old.taken mid.taken new.taken (sent_of h.calls) (sent_of k.calls) (sent_of (h.calls ++ k.calls)) (h.taken told) (k.taken told)
      (sent_append h.calls k.calls);
}

pub unread_on : (tells : Type 0) (old mid new : Seen) (first rest : Made) → WentOnUnread tells old first mid → WentOnUnread tells mid rest new
    → WentOnUnread tells old (first ++ rest) new
unfolding went_on
unread_on tells old mid new first rest h k = record {
  went = went_on tells reads_nothing old mid new first rest [] [] 0 0 h.went k.went;
  none = none_append h.went.calls k.went.calls h.none k.none;
}

-- ---- whatever the reader gives

call_read : (reader : ReaderView) (old new : Session) (call : Call) (breaks : Bool) → NoneSettled (call ∷ []) → IsCallOf reads_nothing old call breaks new → IsCallOf reader old call breaks new
call_read reader old new (fed piece) false none h = h
call_read reader old new (fed piece) true none h = h
call_read reader old new (served now made result) false none h = h
call_read reader old new (served now made result) true none h = h
call_read reader old new (looked made result) false none h = h
call_read reader old new (looked made result) true none h = h
call_read reader old new (settled made reads) breaks none h = absurd none
call_read reader old new (sent count bytes) false none h = h
call_read reader old new (sent count bytes) true none h = absurd h
call_read reader old new (asked ask) false none h = h
call_read reader old new (asked ask) true none h = absurd h

none_first : (call : Call) (calls : List Call) → NoneSettled (call ∷ calls) → NoneSettled (call ∷ []) × NoneSettled calls
none_first (fed piece) calls none = (tt, none)
none_first (served now made result) calls none = (tt, none)
none_first (looked made result) calls none = (tt, none)
none_first (settled made reads) calls none = absurd none
none_first (sent count bytes) calls none = (tt, none)
none_first (asked ask) calls none = (tt, none)

are_read : (reader : ReaderView) (calls : List Call) (broken breaks : Bool) (old new : Session) → NoneSettled calls → AreCallsOf reads_nothing broken old calls breaks new
    → AreCallsOf reader broken old calls breaks new
are_read reader [] broken breaks old new none are = are
are_read reader (call ∷ calls) broken breaks old new none are =
    let parts = none_first call calls none in
    (are.0, are.1, are.2, call_read reader old are.1 call are.2 parts.0 are.3, are_read reader calls are.2 breaks are.1 new parts.1 are.4)

pub went_read : (tells : Type 0) (reader : ReaderView) (old : Seen) (made : Made) (new : Seen) → WentOnUnread tells old made new → WentOn tells reader old made 0 new
went_read tells reader old made new h = record {
  calls = h.went.calls;
  are = are_read reader h.went.calls old.broken new.broken old.session new.session h.none h.went.are;
  steps = h.went.steps;
  asked = h.went.asked;
  read = h.went.read;
  given = h.went.given;
  taken = h.went.taken;
}

-- ---- one call, or none

-- no call was made
pub unread_none : (tells : Type 0) (old new : Seen) → new.session ≡ old.session → (old.broken ≡ true → new.broken ≡ true) → (tells → new.given ≡ old.given ++ [])
    → (tells → new.taken ≡ old.taken) → WentOnUnread tells old [] new
unread_none tells old new same stays given taken = record {
  went = record { calls = []; are = (same, stays); steps = refl; asked = refl; read = refl; given = given; taken = λ told. taken told ∙ sym (append-nil old.taken) };
  none = tt;
}

-- nothing was given, or taken
pub same_bytes : (tells : Type 0) (old new : List ℕ) → (tells → new ≡ old) → tells → new ≡ old ++ []
same_bytes tells old new same told = same told ∙ sym (append-nil old)

-- nothing changed
pub unread_same : (tells : Type 0) (link : Seen) → WentOnUnread tells link [] link
unread_same tells link = unread_none tells link link refl (λ was. was) (λ told. sym (append-nil link.given)) (λ told. refl)

-- one call was made
pub went_by : (tells : Type 0) (reader : ReaderView) (old new : Seen) (call : Call) (made : Made) (asks : List AskParts) (reads : ℕ) → asks ≡ asks_in call
    → reads ≡ read_replies_in call → old.broken ≡ false → IsCallOf reader old.session call new.broken new.session → made ≡ made_in call
    → (tells → new.given ≡ old.given ++ stream_in call) → (tells → new.taken ≡ old.taken ++ sent_in call) → WentOnWith tells reader old made asks reads new
went_by tells reader old new call made asks reads wrote count whole is steps given taken = record {
  calls = call ∷ [];
  are = (whole, new.session, new.broken, is, (refl, λ (was : new.broken ≡ true). was));
  steps = steps ∙ sym (append-nil (made_in call));
  asked = wrote ∙ sym (append-nil (asks_in call));
  read = none_more reads (read_replies_in call) count;
  given = λ told. given told ∙ ap (λ (l : List ℕ). old.given ++ l) (sym (append-nil (stream_in call)));
  taken = λ told. taken told ∙ ap (λ (l : List ℕ). old.taken ++ l) (sym (append-nil (sent_in call)));
}

-- none of the replies is `read N` where none is settled
none_reads : (call : Call) → NoneSettled (call ∷ []) → 0 ≡ read_replies_in call
none_reads (fed piece) none = refl
none_reads (served now made result) none = refl
none_reads (looked made result) none = refl
none_reads (settled made reads) none = absurd none
none_reads (sent count bytes) none = refl
none_reads (asked ask) none = refl

pub unread_by : (tells : Type 0) (old new : Seen) (call : Call) (made : Made) → [] ≡ asks_in call → old.broken ≡ false
    → IsCallOf reads_nothing old.session call new.broken new.session → NoneSettled (call ∷ []) → made ≡ made_in call
    → (tells → new.given ≡ old.given ++ stream_in call) → (tells → new.taken ≡ old.taken ++ sent_in call) → WentOnUnread tells old made new
unfolding went_by
unread_by tells old new call made no_ask whole is none steps given taken =
    record { went = went_by tells reads_nothing old new call made [] 0 no_ask (none_reads call none) whole is steps given taken; none = none }

-- one call was made, and the link is whole
pub unread_whole : (tells : Type 0) (old new : Seen) (call : Call) (made : Made) → old.broken ≡ false → new.broken ≡ false → IsCall reads_nothing old.session call new.session
    → NoneSettled (call ∷ []) → [] ≡ asks_in call → made ≡ made_in call → (tells → new.given ≡ old.given ++ stream_in call)
    → (tells → new.taken ≡ old.taken ++ sent_in call) → WentOnUnread tells old made new
unread_whole tells old new call made was whole is none no_ask =
    unread_by tells old new call made no_ask was (subst (λ (b : Bool). IsCallOf reads_nothing old.session call b new.session) (sym whole) is) none

-- one call was made, and found no memory
pub unread_breaks : (tells : Type 0) (old new : Seen) (call : Call) (made : Made) → old.broken ≡ false → new.broken ≡ true → FindsNoMemory reads_nothing old.session call new.session
    → NoneSettled (call ∷ []) → [] ≡ asks_in call → made ≡ made_in call → (tells → new.given ≡ old.given ++ stream_in call)
    → (tells → new.taken ≡ old.taken ++ sent_in call) → WentOnUnread tells old made new
unread_breaks tells old new call made was broken is none no_ask =
    unread_by tells old new call made no_ask was (subst (λ (b : Bool). IsCallOf reads_nothing old.session call b new.session) (sym broken) is) none

-- bytes of the session were sent
pub unread_sent : (tells : Type 0) (old new : Seen) (count : ℕ) (piece : List ℕ) → old.broken ≡ false → new.broken ≡ false → piece ≡ unsent_of old.session
    → unsent_of new.session ≡ drop count (unsent_of old.session) → new.session.held ≡ old.session.held → new.session.talk ≡ old.session.talk
    → new.session.owed.items ≡ old.session.owed.items → new.session.asked ≡ old.session.asked → (tells → new.given ≡ old.given)
    → (tells → new.taken ≡ old.taken ++ take count piece) → WentOnUnread tells old [] new
unread_sent tells old new count piece was whole is rest held talk owed counted given taken =
    unread_whole tells old new (sent count (take count piece)) [] was whole (ap (λ (l : List ℕ). take count l) is, rest, held, talk, owed, counted) tt refl refl
    (same_bytes tells old.given new.given given) taken

-- a check-back was written, and nothing else was done
went_asked : (tells : Type 0) (reader : ReaderView) (old new : Seen) (ask : AskParts) → old.broken ≡ false → new.broken ≡ false → Asks old.session ask new.session
    → (tells → new.given ≡ old.given) → (tells → new.taken ≡ old.taken) → WentOnWith tells reader old [] (ask ∷ []) 0 new
went_asked tells reader old new ask was whole is given taken =
    went_by tells reader old new (asked ask) [] (ask ∷ []) 0 refl refl was (subst (λ (b : Bool). IsCallOf reader old.session (asked ask) b new.session) (sym whole) is) refl
    (same_bytes tells old.given new.given given) (same_bytes tells old.taken new.taken taken)

-- it was left out: it is as if nothing was fed
went_unasked : (tells : Type 0) (reader : ReaderView) (old new : Seen) → old.broken ≡ false → new.broken ≡ false → new.session.talk ≡ old.session.talk
    → KeepsRest old.session new.session → (tells → new.given ≡ old.given) → (tells → new.taken ≡ old.taken) → WentOn tells reader old [] 0 new
went_unasked tells reader old new was whole talk keeps given taken =
    let held = old.session.talk.cutter in
    let cut : new.session.talk.cutter ≡ record { at = held.at; bytes = held.bytes ++ [] } =
    ap (λ (t : Talk). t.cutter) talk ∙ ap (λ (l : List ℕ). record { at = held.at; bytes = l }) (sym (append-nil held.bytes)) in
    went_by tells reader old new (fed []) [] [] 0 refl refl was (subst (λ (b : Bool). IsCallOf reader old.session (fed []) b new.session) (sym whole) (cut, keeps)) refl
    (same_bytes tells old.given new.given given) (same_bytes tells old.taken new.taken taken)

pub went_asking : (tells : Type 0) (reader : ReaderView) (old new : Seen) (ask : AskParts) (did : Bool) → old.broken ≡ false → new.broken ≡ false
    → AsksOrNot old.session ask did new.session → (tells → new.given ≡ old.given) → (tells → new.taken ≡ old.taken)
    → WentOnWith tells reader old [] (if_asked did ask) 0 new
went_asking tells reader old new ask true was whole is given taken = went_asked tells reader old new ask was whole is given taken
went_asking tells reader old new ask false was whole is given taken = went_unasked tells reader old new was whole is.0 is.1 given taken

-- a link that can't answer is not asked
pub went_silent : (tells : Type 0) (reader : ReaderView) (link : Seen) (ask : AskParts) → WentOnWith tells reader link [] (if_asked false ask) 0 link
went_silent tells reader link ask = went_read tells reader link [] link (unread_same tells link)

-- ---- steps of the broker

-- a count to which a reader rose meanwhile is above 0, and at most one that it has not passed since
counts_up : {R : Type 0} (faults : R → ℕ) (before after : R) (most : ℕ) → faults after ≤ most → (count : ℕ) → FailedAt faults before after count
    → (0 < count) × (count ≤ most)
counts_up faults before after most high count at =
    let rose : min (faults at.before + 1) (2 ^ 64 - 1) ≤ faults at.after = at.rose.1 in (omega (arith, rose, at.is), omega (arith, high, at.is, at.high))

module _ {C : Type 0} (makes : Steps C) (tells : Type 0) where
  -- a link went on by steps that settled no reply
  abbrev pub Hears : C → Seen → C → Seen → Type 0
  Hears x old y new = Leads makes x y (λ made. WentOnUnread tells old made new)

  pub hears_on : (x y z : C) (old mid new : Seen) → Hears x old y mid → Hears y mid z new → Hears x old z new
  hears_on x y z old mid new h k = record {
    made = h.made ++ k.made;
    leads = makes_append makes x h.made y k.made z h.leads k.leads;
    so = unread_on tells old mid new h.made k.made h.so k.so;
  }

  -- no step was made
  pub hears_quietly : (x : C) (old new : Seen) → WentOnUnread tells old [] new → Hears x old x new
  hears_quietly x old new went = record { made = []; leads = refl; so = went }

  -- the next request was served, and memory sufficed
  serves_so : (now : ℕ) (old new : Seen) (x y : C) (result : Result Step Halt) → HadMemory result → old.broken ≡ false → new.broken ≡ false → new.given ≡ old.given
      → new.taken ≡ old.taken → Leads makes x y (λ made. ServesNext now old.session made result new.session) → KeepsLink old.session new.session
      → KeepsOut old.session new.session → Hears x old y new
  serves_so now old new x y result had was whole given taken h link out = record {
    made = h.made;
    leads = h.leads;
    so = unread_whole tells old new (served now h.made result) h.made was whole (had, h.so, link, out) tt refl refl (same_bytes tells old.given new.given (λ told. given))
        (same_bytes tells old.taken new.taken (λ told. taken));
  }

  pub serves_ok : (now : ℕ) (old new : Seen) (x y : C) (result : Result Step Halt) (step : Step) → result ≡ Ok step → old.broken ≡ false → new.broken ≡ false
      → new.given ≡ old.given → new.taken ≡ old.taken → Leads makes x y (λ made. ServesNext now old.session made result new.session)
      → KeepsLink old.session new.session → KeepsOut old.session new.session → Hears x old y new
  serves_ok now old new x y result step is = serves_so now old new x y result (subst (λ (r : Result Step Halt). HadMemory r) (sym is) tt)

  pub serves_bad : (now : ℕ) (old new : Seen) (x y : C) (result : Result Step Halt) (at : ℕ) → result ≡ Err (halts.BadFrame at) → old.broken ≡ false → new.broken ≡ false
      → new.given ≡ old.given → new.taken ≡ old.taken → Leads makes x y (λ made. ServesNext now old.session made result new.session)
      → KeepsLink old.session new.session → KeepsOut old.session new.session → Hears x old y new
  serves_bad now old new x y result at is = serves_so now old new x y result (subst (λ (r : Result Step Halt). HadMemory r) (sym is) tt)

  -- there was no memory for it
  pub serves_memory : (now : ℕ) (old new : Seen) (x y : C) (result : Result Step Halt) → result ≡ Err halts.Memory → old.broken ≡ false → new.broken ≡ true
      → new.given ≡ old.given → new.taken ≡ old.taken → Leads makes x y (λ made. ServesNext now old.session made result new.session)
      → KeepsLink old.session new.session → KeepsOut old.session new.session → Hears x old y new
  serves_memory now old new x y result is was broken given taken h link out = record {
    made = h.made;
    leads = h.leads;
    so = unread_breaks tells old new (served now h.made result) h.made was broken (is, h.so, link, out) tt refl refl (same_bytes tells old.given new.given (λ told. given))
        (same_bytes tells old.taken new.taken (λ told. taken));
  }

  -- room was looked for
  pub looks_well : (old new : Seen) (x y : C) (may : Bool) → old.broken ≡ false → new.broken ≡ false → new.given ≡ old.given → new.taken ≡ old.taken
      → Leads makes x y (λ made. LooksForRoom old.session.held old.session made (Ok may) new.session) → new.session.talk ≡ old.session.talk
      → KeepsOut old.session new.session → Hears x old y new
  looks_well old new x y may was whole given taken h talk out = record {
    made = h.made;
    leads = h.leads;
    so = unread_whole tells old new (looked h.made (Ok may)) h.made was whole (tt, h.so, talk, out) tt refl refl (same_bytes tells old.given new.given (λ told. given))
        (same_bytes tells old.taken new.taken (λ told. taken));
  }

  -- there was no memory for it
  pub looks_memory : (old new : Seen) (x y : C) (halt : Halt) → old.broken ≡ false → new.broken ≡ true → new.given ≡ old.given → new.taken ≡ old.taken
      → Leads makes x y (λ made. LooksForRoom old.session.held old.session made (Err halt) new.session) → new.session.talk ≡ old.session.talk
      → KeepsOut old.session new.session → Hears x old y new
  looks_memory old new x y halt was broken given taken h talk out = record {
    made = h.made;
    leads = h.leads;
    so = unread_breaks tells old new (looked h.made (Err halt)) h.made was broken ((halt, refl), h.so, talk, out) tt refl refl
        (same_bytes tells old.given new.given (λ told. given)) (same_bytes tells old.taken new.taken (λ told. taken));
  }

  module _ (reader : ReaderView) where
    -- a link went on by steps, and the reader's count of failures from the first of these to the second
    abbrev pub Goes : ℕ → ℕ → C → Seen → C → Seen → Type 0
    Goes low high x old y new = LeadsReading makes x y low high (λ made reads. WentOn tells reader old made reads new)

    pub goes_on : (low count high : ℕ) (x y z : C) (old mid new : Seen) → Goes low count x old y mid → Goes count high y mid z new → Goes low high x old z new
    goes_on low count high x y z old mid new h k = record {
      made = h.made ++ k.made;
      leads = makes_append makes x h.made y k.made z h.leads k.leads;
      reads = h.reads + k.reads;
      counted = omega (arith, h.counted, k.counted);
      so = went_on tells reader old mid new h.made k.made [] [] h.reads k.reads h.so k.so;
    }

    pub goes_quietly : (count : ℕ) (x : C) (old new : Seen) → WentOnUnread tells old [] new → Goes count count x old x new
    goes_quietly count x old new went = record { made = []; leads = refl; reads = 0; counted = omega arith; so = went_read tells reader old [] new went }

    -- and then a check-back was written, or left out
    pub goes_asking : (low high : ℕ) (x y : C) (old mid new : Seen) (asks : List AskParts) → Goes low high x old y mid → WentOnWith tells reader mid [] asks 0 new
        → LeadsReading makes x y low high (λ made reads. WentOnWith tells reader old made asks reads new)
    goes_asking low high x y old mid new asks h k = record {
      made = h.made;
      leads = h.leads;
      reads = h.reads + 0;
      counted = omega (arith, h.counted);
      so = subst (λ (m : Made). WentOnWith tells reader old m asks (h.reads + 0) new) (append-nil h.made) (went_on tells reader old mid new h.made [] [] asks h.reads 0 h.so k);
    }

    pub goes_silent : (count : ℕ) (x : C) (link : Seen) (ask : AskParts)
        → LeadsReading makes x x count count (λ made reads. WentOnWith tells reader link made (if_asked false ask) reads link)
    goes_silent count x link ask =
        record { made = []; leads = refl; reads = 0; counted = omega arith; so = went_read tells reader link [] link (unread_same tells link) }

  module _ (gives : Giving) {R : Type 0} (faults : R → ℕ) (before after : R) (most : ℕ) (high : faults after ≤ most) where
    -- replies were settled
    pub settles_whole : (x y : C) (old new : Seen) → old.broken ≡ false → new.broken ≡ false → new.given ≡ old.given → new.taken ≡ old.taken
        → LeadsReading makes x y (faults before) (faults after) (λ made reads. IsSettled (reads_between gives faults before after) old.session made reads new.session)
        → new.session.held ≡ old.session.held → new.session.talk ≡ old.session.talk → new.session.sent ≡ old.session.sent → new.session.asked ≡ old.session.asked
        → Goes (counted_to gives most) (faults before) (faults after) x old y new
    settles_whole x y old new was whole given taken h held talk sends counted = record {
      made = h.made;
      leads = h.leads;
      reads = h.reads;
      counted = h.counted;
      so = went_by tells (counted_to gives most) old new (settled h.made h.reads) h.made [] h.reads refl refl was
          (subst (λ (b : Bool). IsCallOf (counted_to gives most) old.session (settled h.made h.reads) b new.session) (sym whole)
          (settled_wider gives (FailedAt faults before after) (λ count. (0 < count) × (count ≤ most)) (counts_up faults before after most high) old.session h.made h.reads new.session h.so, held, talk, sends, counted)) refl
          (same_bytes tells old.given new.given (λ told. given)) (same_bytes tells old.taken new.taken (λ told. taken));
    }

    -- there was no memory for one
    pub settles_broken : (x y : C) (old new : Seen) → old.broken ≡ false → new.broken ≡ true → new.given ≡ old.given → new.taken ≡ old.taken
        → LeadsReading makes x y (faults before) (faults after) (λ made reads. IsBroken (reads_between gives faults before after) old.session made reads new.session)
        → new.session.held ≡ old.session.held → new.session.talk ≡ old.session.talk → new.session.sent ≡ old.session.sent
        → Goes (counted_to gives most) (faults before) (faults after) x old y new
    settles_broken x y old new was broken given taken h held talk sends = record {
      made = h.made;
      leads = h.leads;
      reads = h.reads;
      counted = h.counted;
      so = went_by tells (counted_to gives most) old new (settled h.made h.reads) h.made [] h.reads refl refl was
          (subst (λ (b : Bool). IsCallOf (counted_to gives most) old.session (settled h.made h.reads) b new.session) (sym broken)
          (broken_wider gives (FailedAt faults before after) (λ count. (0 < count) × (count ≤ most)) (counts_up faults before after most high) old.session h.made h.reads new.session h.so, held, talk, sends)) refl
          (same_bytes tells old.given new.given (λ told. given)) (same_bytes tells old.taken new.taken (λ told. taken));
    }
