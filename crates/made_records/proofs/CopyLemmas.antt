-- The committed copy of a half message.
use Rattle.std.proofs.Common.{◌≡◌, ◌∙◌, refl, ap, ℕ, ◌<◌, true, false, List, None, codes}
use Rattle.std.proofs.lemmas.Bool.{eq-eqb}
use Rattle.std.proofs.lemmas.Slice.Eq.{bytes_eq-Decides}
use Rattle.record_codec.specs.Entry.{Entry}
use Rattle.record_codec.specs.Props.{value_of}
use Rattle.record_codec.specs.Layout.{IsRecord}
use Rattle.record_codec.specs.Drafts.{entry_of}
use Rattle.record_codec.specs.declared.draft.Place.{Place}
use Rattle.record_codec.proofs.Records.{EntryFacts, said}
use Rattle.log_model.specs.Admissible.{half_topic, is_system_topic, IsBelow, IsAdmissible, IsHalfMessage, IsPlainTopic}
use Rattle.log_model.specs.Kinds.{is_half}
use Rattle.log_model.specs.Drafts.{text_in, without_real, copy_draft}
use Rattle.log_model.proofs.AdmissibleLemmas.{plain_admissible, plain_names}
use Rattle.log_model.proofs.Makes.{copy_written}
use Rattle.made_records.specs.Made.{CanStand, IsCopyOfHalf}
use Rattle.made_records.proofs.TextLemmas.{below_read, text_holds, IsApart, apart_of, copy_bits}
use Rattle.made_records.proofs.PropLemmas.{lost_real, lost_transaction, kept_real, kept_transaction, no_origin, not_delivered}

-- a half message is no delivery
pub no_mark : (S : ℕ) (h : Entry) → IsAdmissible S h → is_half h ≡ true → value_of (codes "DELAY_FROM") h.props ≡ None
no_mark S h may half = may.undelivered (ap is_system_topic ((bytes_eq-Decides h.topic half_topic).0 half) ∙ refl)

module _ (S halves : ℕ) (h : Entry) (host : List ℕ) (p : Place) (is : IsRecord h) (may : IsAdmissible S h) (half : is_half h ≡ true) (past : h.offset < p.offset) where
  abbrev made : Entry
  made = entry_of (copy_draft host h) p

  message : IsHalfMessage S h
  message = may.half half

  facts : EntryFacts h
  facts = said h is.entry

  plain : is_system_topic (text_in (codes "REAL_TOPIC") h.props) ≡ false
  plain = (text_holds (value_of (codes "REAL_TOPIC") h.props) IsPlainTopic message.waits.topic.0 message.waits.topic.1).1

  apart : IsApart (text_in (codes "REAL_TOPIC") h.props)
  apart = apart_of (text_in (codes "REAL_TOPIC") h.props) plain

  unmarked : value_of (codes "DELAY_FROM") made.props ≡ None
  unmarked =
      kept_transaction (codes "DELAY_FROM") (without_real h.props) refl refl refl
      ∙ kept_real (codes "DELAY_FROM") h.props refl refl
      ∙ no_mark S h may half

  admissible : IsAdmissible S made
  admissible = plain_admissible S made plain
      (below_read (text_in (codes "REAL_QID") h.props) 1024 (text_holds (value_of (codes "REAL_QID") h.props) (IsBelow 1024) message.waits.queue.0 message.waits.queue.1))
      (λ copy. past) unmarked (no_origin (without_real h.props))

  pub copy_stands : CanStand S halves (copy_draft host h) p
  copy_stands = record {
    passes = copy_written S h host is may half;
    born = facts.born;
    prepared = facts.offset;
    unsealed = lost_transaction (codes "SEAL") (without_real h.props) (lost_real (codes "SEAL") h.props facts.no_seal);
    admissible = admissible;
    names = plain_names S made plain halves;
  }

  pub copy_kind : IsCopyOfHalf h (entry_of (copy_draft host h) p)
  copy_kind = record {
    half = apart.half;
    op = apart.op;
    copied = eq-eqb _ 8 (copy_bits h.sysflag);
    discard = apart.discard;
    place = refl;
    other = record { plain = apart.level; none = not_delivered made unmarked };
  }
