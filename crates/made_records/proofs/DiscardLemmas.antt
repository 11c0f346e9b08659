-- The discarded copy of a half message that is a renewal.
use Rattle.std.proofs.Common.{◌≡◌, refl, arith, ℕ, ◌<◌, true, List}
use Rattle.std.specs.Prelude.{IsSome}
use Rattle.record_codec.specs.Entry.{Entry}
use Rattle.record_codec.specs.Layout.{IsRecord}
use Rattle.record_codec.specs.Drafts.{entry_of}
use Rattle.record_codec.specs.declared.draft.Place.{Place}
use Rattle.record_codec.proofs.Records.{EntryFacts, said}
use Rattle.log_model.specs.Admissible.{IsAdmissible}
use Rattle.log_model.specs.Kinds.{is_half, origin_text}
use Rattle.log_model.specs.Drafts.{discard_draft}
use Rattle.log_model.proofs.Makes.{discard_written}
use Rattle.made_records.specs.Made.{CanStand, IsDiscardOfHalf}
use Rattle.made_records.proofs.TextLemmas.{no_bits, no_eight, not_eight}
use Rattle.made_records.proofs.PropLemmas.{not_delivered}
use Rattle.made_records.proofs.CopyLemmas.{no_mark}

module _ (S halves : ℕ) (h : Entry) (host : List ℕ) (p : Place) (is : IsRecord h) (may : IsAdmissible S h) (half : is_half h ≡ true) (renewal : IsSome (origin_text h)) (past : h.offset < p.offset) where
  abbrev made : Entry
  made = entry_of (discard_draft host h) p

  facts : EntryFacts h
  facts = said h is.entry

  admissible : IsAdmissible S made
  admissible = record {
    queue = omega arith;
    copy = λ eight. no_eight _ (no_bits h.sysflag) eight;
    discard = λ yes. past;
    half = λ yes. absurd (cc);
    level = λ yes. absurd (cc);
    op = λ yes. absurd (cc);
    renewal = may.renewal;
    delivery = may.delivery;
    undelivered = λ yes. no_mark S h may half;
  }

  pub discard_stands : CanStand S halves (discard_draft host h) p
  discard_stands = record {
    passes = discard_written S h host is may half renewal;
    born = facts.born;
    prepared = facts.offset;
    unsealed = facts.no_seal;
    admissible = admissible;
    names = tt;
  }

  pub discard_kind : IsDiscardOfHalf h (entry_of (discard_draft host h) p)
  discard_kind = record {
    half = refl;
    op = refl;
    copied = not_eight _ (no_bits h.sysflag);
    discard = refl;
    place = refl;
    other = record { plain = refl; none = not_delivered made (no_mark S h may half) };
  }
