-- What became of the front of what is owed.
use Rattle.std.proofs.Common.{◌≡◌, ◌≤◌, ◌+◌, ℕ, List, [], ◌∷◌, ◌++◌, Option, Some, None, Ok, Err, refl, sym, ap, ◌∙◌, subst, append_assoc, append-nil, arith}
use Rattle.std.specs.Prelude.{Result, IsErrAnd}
use Rattle.std.specs.declared.alloc.AllocError.{AllocError}
use Rattle.mq_outside.specs.Readings.{Giving}
use Rattle.reply_fields.specs.Parts.{ReplyParts}
use Rattle.broker_events.specs.declared.said.Awaited.{Awaited}
use Rattle.broker_events.specs.declared.said.Awaited.TheVariants.{NotYet}
use Rattle.broker_events.specs.Makes.{Makes}
use Rattle.broker_events.proofs.Makes.{makes_append}
use Rattle.session.specs.Owing.{Steps, look_for}
use Rattle.session.specs.Readers.{ReaderView, reader_view}
use Rattle.session.specs.Serving.{Made, Leads, LeadsReading}
use Rattle.session.specs.Settling.{LooksFor, IsDueAt, Became, IsDueAfter, IsNotYet, Waits, Leaves, IsLost, TakesDue, GivesDue, IsPut, SettlesOne, Settles, Stops, IsSettled, IsBroken, SettlesAll}
use Rattle.session.specs.declared.caller.Caller.{Caller}
use Rattle.session.specs.declared.owed.Awaits.{Awaits}
use Rattle.session.specs.declared.owed.Owed.{Owed}
use Rattle.session.specs.declared.session.Session.{Session}
use Rattle.session.proofs.ReaderLemmas.{settles_wider}

-- what a look says became of a record
pub became_by : (awaits : Option Awaits) (one : Awaits) (what : Awaited) → awaits ≡ Some one → Became awaits what (look_for one what ∷ [])
became_by awaits one what is = subst (λ (w : Option Awaits). Became w what (look_for one what ∷ [])) (sym is) refl

-- a record that became nothing yet is waited for
not_yet : (awaits : Option Awaits) (made : Made) → Became awaits NotYet made → IsNotYet awaits made
not_yet None made h = let flushed = h.0 in cc
not_yet (Some awaits) made h = h

pub waits : (items : List Owed) (front : Owed) (more : List Owed) (made : Made) → items ≡ front ∷ more → Became front.awaits NotYet made → Waits items made
waits items front more made is h = subst (λ (l : List Owed). Waits l made) (sym is) (not_yet front.awaits made h)

-- what is due after a record became this
due_after : (awaits : Option Awaits) (what : Awaited) (reply due : ReplyParts) (made : Made) → Became awaits what made → IsDueAt what reply due → IsDueAfter awaits reply due made
due_after None what reply due made h k = (subst (λ (w : Awaited). IsDueAt w reply due) h.0 k, h.1)
due_after (Some awaits) what reply due made h k = (what, k, h)

looked : (awaits : Option Awaits) (what : Awaited) (made : Made) → Became awaits what made → LooksFor awaits made
looked None what made h = h.1
looked (Some awaits) what made h = (what, h)

-- one list begins with two elements, which are one
fronts : (items : List Owed) (one other : Owed) (more rest : List Owed) → items ≡ one ∷ more → items ≡ other ∷ rest → one.awaits ≡ other.awaits
fronts items one other more rest p q = cc

-- the front left once this became of its record
pub gives_due : {E : Type 0} (what : Awaited) (old new : Session) (front : Owed) (more : List Owed) (made : Made) (result : Result (Option (Caller × ReplyParts)) E)
    → old.owed.items ≡ front ∷ more → Became front.awaits what made → TakesDue what old.owed.items result new.owed.items → GivesDue old made result new
gives_due what old new front more made (Ok (Some due)) is became h =
    let same = fronts old.owed.items front h.0 more new.owed.items is h.1 in
    record {
      owed = h.0;
      left = h.1;
      caller = h.2;
      is = due_after h.0.awaits what h.0.reply due.1 made (subst (λ (w : Option Awaits). Became w what made) same became) h.3;
    }
gives_due what old new front more made (Ok None) is became h = absurd h
gives_due what old new front more made (Err fault) is became h =
    let same = fronts old.owed.items front h.0 more new.owed.items is h.1 in
    record { owed = h.0; left = h.1; looked = looked h.0.awaits what made (subst (λ (w : Option Awaits). Became w what made) same became) }

-- one more is settled behind the others
pub settles_snoc : (reader : ReaderView) (settled : List Owed) (owed : Owed) (old mid new : List ℕ) (first last : Made) (before one : ℕ) → Settles reader settled old first before mid
    → SettlesOne reader owed mid last one new → Settles reader (settled ++ owed ∷ []) old (first ++ last) (before + one) new
settles_snoc reader [] owed old mid new first last before one h k =
    let from = subst (λ (l : List ℕ). SettlesOne reader owed l last one new) h.2 k in
    let count : before + one ≡ one + 0 = omega (arith, h.1) in
    (new, last, [], one, 0, ap (λ l. l ++ last) h.0 ∙ sym (append-nil last), count, from, (refl, refl, refl))
settles_snoc reader (o ∷ settled) owed old mid new first last before one h k =
    let count : before + one ≡ h.3 + (h.4 + one) = omega (arith, h.6) in
    (h.0, h.1, h.2 ++ last, h.3, h.4 + one, ap (λ l. l ++ last) h.5 ∙ append_assoc h.1 h.2 last, count, h.7, settles_snoc reader settled owed h.0 mid new h.2 last h.4 one h.8 k)

-- ---- one after another

-- The first of what was owed have left, by steps from x to y. No more of the replies are `read N` than the reader failed, whose count
-- went from the first of these to the second.
pub record HasSettled {C : Type 0} (makes : Steps C) (reader : ReaderView) (low high : ℕ) (x : C) (old : Session) (y : C) (new : Session) : Type 0 where
  pub made : Made
  pub leads : Makes makes x made y
  pub settled : List Owed
  pub left : old.owed.items ≡ settled ++ new.owed.items
  pub reads : ℕ
  pub counted : low + reads ≤ high
  pub puts : Settles reader settled old.out.items made reads new.out.items

pub settled_none : {C : Type 0} (makes : Steps C) (reader : ReaderView) (count : ℕ) (x : C) (old : Session) → HasSettled makes reader count count x old x old
settled_none makes reader count x old =
    record { made = []; leads = refl; settled = []; left = refl; reads = 0; counted = omega arith; puts = (refl, refl, refl) }

pub has_settled_wider : {C : Type 0} (makes : Steps C) (gives : Giving) (one other : ℕ → Type 0) → ((count : ℕ) → one count → other count) → (low high : ℕ) (x : C) (old : Session) (y : C)
    (new : Session) → HasSettled makes (reader_view gives one) low high x old y new → HasSettled makes (reader_view gives other) low high x old y new
has_settled_wider makes gives one other wider low high x old y new h = record {
  made = h.made;
  leads = h.leads;
  settled = h.settled;
  left = h.left;
  reads = h.reads;
  counted = h.counted;
  puts = settles_wider gives one other wider h.settled old.out.items h.made h.reads new.out.items h.puts;
}

-- a look was made for what is due after one
looks_for : (awaits : Option Awaits) (reply due : ReplyParts) (made : Made) → IsDueAfter awaits reply due made → LooksFor awaits made
looks_for None reply due made h = h.1
looks_for (Some awaits) reply due made h = (h.0, h.2)

module _ {C : Type 0} (makes : Steps C) (reader : ReaderView) (low high : ℕ) (x y : C) (old mid : Session) (so : HasSettled makes reader low high x old y mid) where
  -- one more left, and the count of failures is this now
  pub settled_more : (z : C) (after new : Session) (due : Caller × ReplyParts) (count one : ℕ) (last : ℕ) → high + one ≤ last → Leads makes y z (λ made. Leaves mid made due after)
      → after.out.items ≡ mid.out.items → IsPut reader due.0 due.1 count one after.out.items new.out.items → new.owed.items ≡ after.owed.items
      → HasSettled makes reader low last x old z new
  settled_more z after new due count one last risen next out put same =
      let leaves = next.so in
      let wrote : IsPut reader leaves.owed.caller due.1 count one mid.out.items new.out.items =
      subst (λ (c : Caller). IsPut reader c due.1 count one mid.out.items new.out.items) leaves.caller
      (subst (λ (l : List ℕ). IsPut reader due.0 due.1 count one l new.out.items) out put) in
      record {
        made = so.made ++ next.made;
        leads = makes_append makes x so.made y next.made z so.leads next.leads;
        settled = so.settled ++ leaves.owed ∷ [];
        left = so.left ∙ ap (λ (l : List Owed). so.settled ++ l) (leaves.left ∙ ap (λ (l : List Owed). leaves.owed ∷ l) (sym same))
            ∙ sym (append_assoc so.settled (leaves.owed ∷ []) new.owed.items);
        reads = so.reads + one;
        counted = omega (arith, so.counted, risen);
        puts = settles_snoc reader so.settled leaves.owed old.out.items mid.out.items new.out.items so.made next.made so.reads one so.puts
            (record { due = due.1; is = leaves.is; count = count; put = wrote });
      }

  -- there is a cause to stop
  pub settled_stops : (z : C) (new : Session) → Leads makes y z (λ made. Stops mid made) → new.owed.items ≡ mid.owed.items → new.out.items ≡ mid.out.items
      → new.sent ≡ mid.sent → LeadsReading makes x z low high (λ made reads. IsSettled reader old made reads new)
  settled_stops z new stop owed out sent = record {
    made = so.made ++ stop.made;
    leads = makes_append makes x so.made y stop.made z so.leads stop.leads;
    reads = so.reads;
    counted = so.counted;
    so = record {
      settled = so.settled;
      left = so.left ∙ ap (λ (l : List Owed). so.settled ++ l) (sym owed);
      first = so.made;
      last = stop.made;
      both = refl;
      puts = subst (λ (l : List ℕ). Settles reader so.settled old.out.items so.made so.reads l) (sym out) so.puts;
      stops = rw (owed, out, sent) stop.so;
    };
  }

  -- one left that is lost
  pub settled_lost : (z : C) (new : Session) (last : ℕ) → high ≤ last → Leads makes y z (λ made. IsLost mid made new) → new.out.items ≡ mid.out.items
      → LeadsReading makes x z low last (λ made reads. IsBroken reader old made reads new)
  settled_lost z new last risen lost out = record {
    made = so.made ++ lost.made;
    leads = makes_append makes x so.made y lost.made z so.leads lost.leads;
    reads = so.reads;
    counted = omega (arith, so.counted, risen);
    so = record {
      settled = so.settled;
      lost = lost.so.owed;
      left = so.left ∙ ap (λ (l : List Owed). so.settled ++ l) lost.so.left;
      first = so.made;
      last = lost.made;
      both = refl;
      puts = subst (λ (l : List ℕ). Settles reader so.settled old.out.items so.made so.reads l) (sym out) so.puts;
      looked = lost.so.looked;
    };
  }

  -- one that was due could not be put
  pub settled_unput : (z : C) (after new : Session) (due : Caller × ReplyParts) (last : ℕ) → high ≤ last → Leads makes y z (λ made. Leaves mid made due after)
      → after.out.items ≡ mid.out.items → new.out.items ≡ after.out.items → new.owed.items ≡ after.owed.items
      → LeadsReading makes x z low last (λ made reads. IsBroken reader old made reads new)
  settled_unput z after new due last risen next kept out owed = settled_lost z new last risen (record {
    made = next.made;
    leads = next.leads;
    so = record {
      owed = next.so.owed;
      left = next.so.left ∙ ap (λ (l : List Owed). next.so.owed ∷ l) (sym owed);
      looked = looks_for next.so.owed.awaits next.so.owed.reply due.1 next.made next.so.is;
    };
  }) (out ∙ kept)

-- what is so at an `Err` is what `settle` does
pub breaks : {C : Type 0} (makes : Steps C) (reader : ReaderView) (low high : ℕ) (x y : C) (old new : Session) (result : Result (Unit {0}) AllocError) (fault : AllocError)
    → IsErrAnd result (λ e. e ≡ fault) → LeadsReading makes x y low high (λ made reads. IsBroken reader old made reads new)
    → LeadsReading makes x y low high (λ made reads. SettlesAll reader old made reads result new)
breaks makes reader low high x y old new (Ok done) fault is h = absurd is
breaks makes reader low high x y old new (Err other) fault is h = h
