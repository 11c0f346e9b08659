-- What a link did from its beginning on is a transcript.
use Rattle.std.proofs.Common.{◌≡◌, ℕ, List, [], ◌∷◌, ◌++◌, Bool, true, false, refl, sym, ap, ◌∙◌, subst, append-nil}
use Rattle.reply_fields.specs.Parts.{AskParts}
use Rattle.session.specs.Asking.{AreFor}
use Rattle.session.specs.Readers.{ReaderView}
use Rattle.session.specs.Serving.{Made}
use Rattle.session.specs.Sessions.{Call, fed, served, looked, settled, sent, asked, AreCalls, IsNew, RepliesInOrder, sent_in, asks_in, stream_of, sent_of, made_of, asks_of, read_replies_of}
use Rattle.session.specs.declared.session.Session.{Session}
use Rattle.link_service.specs.Transcripts.{Seen, FindsNoMemory, IsCallOf, AreCallsOf, AreOfLink, WentOnWith, IsFresh, Ends, IsTranscript}
use Rattle.link_service.proofs.OfLink.{went_of_link}
use Rattle.link_service.proofs.Went.{sent_append, asks_append}

-- calls of which memory sufficed, and at the end maybe one for which it didn't
record Splits (reader : ReaderView) (old : Session) (calls : List Call) (breaks : Bool) (new : Session) : Type 0 where
  front : List Call
  last : Session
  end : List Call
  are : AreCalls reader old front last
  ends : Ends reader last end breaks new
  both : calls ≡ front ++ end

-- no call is made once a link is broken
broken_calls : (reader : ReaderView) (old : Session) (call : Call) (after : Session) (rest : List Call) (breaks : Bool) (new : Session) → FindsNoMemory reader old call after
    → AreCallsOf reader true after rest breaks new → Splits reader old (call ∷ rest) breaks new
broken_calls reader old call after [] breaks new is are = record {
  front = [];
  last = old;
  end = call ∷ [];
  are = refl;
  ends = (refl, are.1 refl, subst (λ (s : Session). FindsNoMemory reader old call s) (sym are.0) is);
  both = refl;
}
broken_calls reader old call after (next ∷ rest) breaks new is are = let not = are.0 in cc

split_first : (reader : ReaderView) (old : Session) (call : Call) (after : Session) (at : Bool) (rest : List Call) (breaks : Bool) (new : Session)
    → IsCallOf reader old call at after → AreCallsOf reader at after rest breaks new → (AreCallsOf reader false after rest breaks new → Splits reader after rest breaks new)
    → Splits reader old (call ∷ rest) breaks new
split_first reader old call after true rest breaks new is are later = broken_calls reader old call after rest breaks new is are
split_first reader old call after false rest breaks new is are later =
    let more = later are in record {
      front = call ∷ more.front;
      last = more.last;
      end = more.end;
      are = (after, is, more.are);
      ends = more.ends;
      both = ap (λ (l : List Call). call ∷ l) more.both;
    }

split_calls : (reader : ReaderView) (old : Session) (calls : List Call) (breaks : Bool) (new : Session) → AreCallsOf reader false old calls breaks new → Splits reader old calls breaks new
split_calls reader old [] breaks new are = record { front = []; last = old; end = []; are = refl; ends = are.0; both = refl }
split_calls reader old (call ∷ calls) breaks new are =
    split_first reader old call are.1 are.2 calls breaks new are.3 are.4 (λ whole. split_calls reader are.1 calls breaks new whole)

-- a call that finds no memory sends nothing
sends_nothing : (reader : ReaderView) (old : Session) (call : Call) (new : Session) → FindsNoMemory reader old call new → sent_in call ≡ []
sends_nothing reader old (fed piece) new is = refl
sends_nothing reader old (served now made result) new is = refl
sends_nothing reader old (looked made result) new is = refl
sends_nothing reader old (settled made reads) new is = refl
sends_nothing reader old (sent count bytes) new is = absurd is
sends_nothing reader old (asked ask) new is = absurd is

ends_sending : (reader : ReaderView) (last : Session) (end : List Call) (broken : Bool) (new : Session) → Ends reader last end broken new → sent_of end ≡ []
ends_sending reader last [] broken new ends = refl
ends_sending reader last (call ∷ more) broken new ends =
    ap (λ (l : List ℕ). l ++ sent_of more) (sends_nothing reader last call new ends.2) ∙ ap (λ (l : List Call). sent_of l) ends.0

-- nor does it write a check-back
asks_nothing : (reader : ReaderView) (old : Session) (call : Call) (new : Session) → FindsNoMemory reader old call new → asks_in call ≡ []
asks_nothing reader old (fed piece) new is = refl
asks_nothing reader old (served now made result) new is = refl
asks_nothing reader old (looked made result) new is = refl
asks_nothing reader old (settled made reads) new is = refl
asks_nothing reader old (sent count bytes) new is = refl
asks_nothing reader old (asked ask) new is = absurd is

ends_asking : (reader : ReaderView) (last : Session) (end : List Call) (broken : Bool) (new : Session) → Ends reader last end broken new → asks_of end ≡ []
ends_asking reader last [] broken new ends = refl
ends_asking reader last (call ∷ more) broken new ends =
    ap (λ (l : List AskParts). l ++ asks_of more) (asks_nothing reader last call new ends.2) ∙ ap (λ (l : List Call). asks_of l) ends.0

pub transcribed : (tells : Type 0) (reader : ReaderView) (number : ℕ) (host : List ℕ) (first : Seen) (made : Made) (asks : List AskParts) (reads : ℕ) (now : Seen)
    → ((old : Session) (calls : List Call) (new : Session) → IsNew old → AreCalls reader old calls new → RepliesInOrder reader old calls new)
    → IsFresh tells number host first → WentOnWith tells reader first made asks reads now → IsTranscript tells reader number host made asks reads now
transcribed tells reader number host first made asks reads now law fresh went =
    let are : AreCallsOf reader false first.session went.calls now.broken now.session =
    subst (λ (b : Bool). AreCallsOf reader b first.session went.calls now.broken now.session) fresh.whole went.are in
    let split = split_calls reader first.session went.calls now.broken now.session are in
    let replies = law first.session split.front split.last fresh.session split.are in
    let wrote : asks ≡ asks_of split.front = went.asked ∙ ap (λ (l : List Call). asks_of l) split.both ∙ asks_append split.front split.end
    ∙ ap (λ (l : List AskParts). asks_of split.front ++ l) (ends_asking reader split.last split.end now.broken now.session split.ends)
    ∙ append-nil (asks_of split.front) in
    record {
      first = first;
      fresh = fresh;
      calls = split.front;
      last = split.last;
      replies = replies;
      end = split.end;
      ends = split.ends;
      steps = went.steps ∙ ap (λ (l : List Call). made_of l) split.both;
      given = λ told. went.given told ∙ ap (λ (l : List ℕ). l ++ stream_of went.calls) (fresh.given told) ∙ ap (λ (l : List Call). stream_of l) split.both;
      taken = λ told. went.taken told ∙ ap (λ (l : List ℕ). l ++ sent_of went.calls) (fresh.taken told) ∙ ap (λ (l : List Call). sent_of l) split.both
          ∙ sent_append split.front split.end ∙ ap (λ (l : List ℕ). sent_of split.front ++ l) (ends_sending reader split.last split.end now.broken now.session split.ends)
          ∙ append-nil (sent_of split.front);
      of_link = subst (λ (link : ℕ). AreOfLink link made) fresh.link.0 (went_of_link tells reader first made asks reads now went);
      asked = wrote;
      for_link = subst (λ (l : List AskParts). AreFor number l) (sym wrote)
          (subst (λ (link : ℕ). AreFor link (asks_of split.front)) fresh.link.0 replies.for_link);
      read = went.read ∙ ap (λ (l : List Call). read_replies_of l) split.both;
    }
