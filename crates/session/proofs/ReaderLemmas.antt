-- What was written by a reader of which something is known, and at which counts a reader failed.
use Rattle.std.proofs.Common.{◌≡◌, ◌≤◌, ◌<◌, ◌+◌, ◌-◌, ◌^◌, min, ℕ, List, [], ◌∷◌, Bool, true, false, Result, Ok, Err, inl, inr, refl, sym, ap, ◌∙◌, subst, arith}
use Rattle.std.specs.Prelude.{OnOk, nat_lt, if◌then◌else◌}
use Rattle.std.specs.Bool.{MatchBool}
use Rattle.std.proofs.lemmas.Bool.{ltb-true}
use Rattle.mq_outside.specs.Counts.{CountsDiskFault, Rises}
use Rattle.mq_outside.specs.Readings.{Giving}
use Rattle.mq_outside.specs.declared.faults.DiskFault.{DiskFault}
use Rattle.mq_outside.specs.declared.faults.DiskFault.TheVariants as why
use Rattle.reply_fields.specs.Parts.{ReplyParts}
use Rattle.reply_fields.specs.Replies.{AppendsReply}
use Rattle.session.specs.Owing.{IsWritten, read_replies_by, unwritten}
use Rattle.session.specs.Readers.{FailedAt, HasCause, reader_view, risen_from}
use Rattle.session.specs.Serving.{Made}
use Rattle.session.specs.Settling.{IsPut, Settles, IsSettled, IsBroken}
use Rattle.session.specs.declared.caller.Caller.{Caller}
use Rattle.session.specs.declared.owed.Owed.{Owed}
use Rattle.session.specs.declared.session.Session.{Session}

-- ---- moments at which a reader failed

module _ {R : Type 0} (faults : R → ℕ) where
  -- one between two states is one between an earlier and a later state
  pub failed_between : (first old new last : R) → faults first ≤ faults old → faults new ≤ faults last → (count : ℕ) → FailedAt faults old new count
      → FailedAt faults first last count
  failed_between first old new last low high count h = record {
    before = h.before;
    after = h.after;
    low = omega (arith, low, h.low);
    rose = h.rose;
    is = h.is;
    high = omega (arith, high, h.high);
  }

  -- a call in which the count has risen has one
  pub failed_in : (first old new : R) → faults first ≤ faults old → Rises (faults old) (faults new) → FailedAt faults first new (faults new)
  failed_in first old new low rose = record { before = old; after = new; low = low; rose = rose; is = refl; high = omega arith }

-- ---- how many replies `read N` are written

-- where the count rises below the greatest u64, it rises by one at least
risen_by : (b : Bool) (low high : ℕ) → nat_lt high (2 ^ 64 - 1) ≡ b → Rises low high → low + (if b then 1 else 0) ≤ high
risen_by true low high below rose =
    let under : high < 2 ^ 64 - 1 = ltb-true high (2 ^ 64 - 1) below in
    let more : min (low + 1) (2 ^ 64 - 1) ≤ high = rose.1 in
    omega (arith, under, more)
risen_by false low high below rose = let up : low ≤ high = rose.0 in omega (arith, up)

-- a reply was written, or what tells why it can't be; it is a reply `read N` at most as often as the reader failed
abbrev pub WritesOne : Giving → Caller → ReplyParts → ℕ → ℕ → List ℕ → List ℕ → Type 0
WritesOne gives caller reply low high old new = (reads : ℕ) × (low + reads ≤ high) × IsWritten (risen_from gives low) caller reply high reads old new

pub writes_whole : (gives : Giving) (caller : Caller) (reply : ReplyParts) (low high : ℕ) (old new : List ℕ) → high ≡ low
    → AppendsReply gives caller.form caller.opaque reply old new → WritesOne gives caller reply low high old new
writes_whole gives caller reply low high old new same h = (0, omega (arith, same), inl (refl, h))

-- the reply tells why none can be written, with the reader's count
writes_fault : (gives : Giving) (caller : Caller) (reply : ReplyParts) (fault : DiskFault) (low high : ℕ) (old new : List ℕ)
    → CountsDiskFault {A = Unit {0}} (Err fault) low high → AppendsReply gives caller.form caller.opaque (unwritten fault high) old new
    → WritesOne gives caller reply low high old new
writes_fault gives caller reply why.Failed low high old new rose h =
    (read_replies_by why.Failed high, risen_by (nat_lt high (2 ^ 64 - 1)) low high refl rose, inr (why.Failed, rose, refl, h))
writes_fault gives caller reply why.Memory low high old new same h =
    let stays : high ≡ low = same in
    (0, omega (arith, stays), inr (why.Memory, tt, refl, h))

-- the same where the count was asked for after the fault, and stayed since
pub writes_unread : (gives : Giving) (caller : Caller) (reply : ReplyParts) (fault : DiskFault) (low mid high count : ℕ) (told : ReplyParts) (old kept new : List ℕ)
    → CountsDiskFault {A = Unit {0}} (Err fault) low mid → count ≡ mid → high ≡ mid → told ≡ unwritten fault count → kept ≡ old
    → AppendsReply gives caller.form caller.opaque told kept new → WritesOne gives caller reply low high old new
writes_unread gives caller reply fault low mid high count told old kept new rose is stays tells same h =
    let by : told ≡ unwritten fault high = tells ∙ ap (λ (n : ℕ). unwritten fault n) (is ∙ sym stays) in
    writes_fault gives caller reply fault low high old new (subst (λ (n : ℕ). CountsDiskFault {A = Unit {0}} (Err fault) low n) (sym stays) rose)
    (subst (λ (l : List ℕ). AppendsReply gives caller.form caller.opaque (unwritten fault high) l new) same
    (subst (λ (r : ReplyParts). AppendsReply gives caller.form caller.opaque r kept new) by h))

-- it is put so where somebody waits for it
pub puts_written : {E : Type 0} (result : Result (Unit {0}) E) (gives : Giving) (caller : Caller) (reply : ReplyParts) (low high : ℕ) (old new : List ℕ) → caller.one_way ≡ false
    → OnOk result (WritesOne gives caller reply low high old new)
    → OnOk result ((reads : ℕ) × (low + reads ≤ high) × IsPut (risen_from gives low) caller reply high reads old new)
puts_written (Ok done) gives caller reply low high old new waits h =
    let put : MatchBool caller.one_way ((h.0 ≡ 0) × (new ≡ old)) (IsWritten (risen_from gives low) caller reply high h.0 old new) =
    subst (λ (b : Bool). MatchBool b ((h.0 ≡ 0) × (new ≡ old)) (IsWritten (risen_from gives low) caller reply high h.0 old new)) (sym waits) h.2 in
    (h.0, h.1, put)
puts_written (Err fault) gives caller reply low high old new waits h = h

-- ---- readers of which more is known

cause_wider : (gives : Giving) (one other : ℕ → Type 0) (fault : DiskFault) (count : ℕ) → (one count → other count) → HasCause (reader_view gives one) fault count
    → HasCause (reader_view gives other) fault count
cause_wider gives one other why.Failed count wider h = wider h
cause_wider gives one other why.Memory count wider h = h

written_wider : (gives : Giving) (one other : ℕ → Type 0) (caller : Caller) (reply : ReplyParts) (count reads : ℕ) (old new : List ℕ) → (one count → other count)
    → IsWritten (reader_view gives one) caller reply count reads old new → IsWritten (reader_view gives other) caller reply count reads old new
written_wider gives one other caller reply count reads old new wider (inl h) = inl h
written_wider gives one other caller reply count reads old new wider (inr h) = inr (h.0, cause_wider gives one other h.0 count wider h.1, h.2, h.3)

put_by : (b : Bool) (gives : Giving) (one other : ℕ → Type 0) (caller : Caller) (reply : ReplyParts) (count reads : ℕ) (old new : List ℕ) → (one count → other count)
    → MatchBool b ((reads ≡ 0) × (new ≡ old)) (IsWritten (reader_view gives one) caller reply count reads old new)
    → MatchBool b ((reads ≡ 0) × (new ≡ old)) (IsWritten (reader_view gives other) caller reply count reads old new)
put_by true gives one other caller reply count reads old new wider h = h
put_by false gives one other caller reply count reads old new wider h = written_wider gives one other caller reply count reads old new wider h

pub put_wider : (gives : Giving) (one other : ℕ → Type 0) (caller : Caller) (reply : ReplyParts) (count reads : ℕ) (old new : List ℕ) → (one count → other count)
    → IsPut (reader_view gives one) caller reply count reads old new → IsPut (reader_view gives other) caller reply count reads old new
put_wider gives one other caller reply count reads old new wider h = put_by caller.one_way gives one other caller reply count reads old new wider h

module _ (gives : Giving) (one other : ℕ → Type 0) (wider : (count : ℕ) → one count → other count) where
  pub settles_wider : (settled : List Owed) (old : List ℕ) (made : Made) (reads : ℕ) (new : List ℕ) → Settles (reader_view gives one) settled old made reads new
      → Settles (reader_view gives other) settled old made reads new
  settles_wider [] old made reads new h = h
  settles_wider (owed ∷ more) old made reads new h =
      let put = put_wider gives one other owed.caller h.7.due h.7.count h.3 old h.0 (wider h.7.count) h.7.put in
      (h.0, h.1, h.2, h.3, h.4, h.5, h.6, record { due = h.7.due; is = h.7.is; count = h.7.count; put = put }, settles_wider more h.0 h.2 h.4 new h.8)

  pub settled_wider : (old : Session) (made : Made) (reads : ℕ) (new : Session) → IsSettled (reader_view gives one) old made reads new
      → IsSettled (reader_view gives other) old made reads new
  settled_wider old made reads new h = record {
    settled = h.settled;
    left = h.left;
    first = h.first;
    last = h.last;
    both = h.both;
    puts = settles_wider h.settled old.out.items h.first reads new.out.items h.puts;
    stops = h.stops;
  }

  pub broken_wider : (old : Session) (made : Made) (reads : ℕ) (new : Session) → IsBroken (reader_view gives one) old made reads new
      → IsBroken (reader_view gives other) old made reads new
  broken_wider old made reads new h = record {
    settled = h.settled;
    lost = h.lost;
    left = h.left;
    first = h.first;
    last = h.last;
    both = h.both;
    puts = settles_wider h.settled old.out.items h.first reads new.out.items h.puts;
    looked = h.looked;
  }
