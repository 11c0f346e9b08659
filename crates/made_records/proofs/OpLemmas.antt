-- The record that names a settled origin.
use Rattle.std.proofs.Common.{◌≡◌, refl, sym, subst, arith, ℕ, ◌^◌, ◌<◌, ◌≤◌, List, Option, Some}
use Rattle.std.specs.Prelude.{IsSome, IfSome}
use Rattle.mq_bytes.specs.Decimal.{digits_of}
use Rattle.record_codec.specs.Entry.{Entry}
use Rattle.record_codec.specs.Drafts.{entry_of}
use Rattle.record_codec.specs.declared.draft.Place.{Place}
use Rattle.log_model.specs.Admissible.{number_of, IsAdmissible}
use Rattle.log_model.specs.Drafts.{op_draft}
use Rattle.log_model.proofs.Makes.{op_written}
use Rattle.made_records.specs.Made.{CanStand, IsOpOf}
use Rattle.made_records.proofs.TextLemmas.{number_of_digits, no_eight}
use Rattle.made_records.proofs.PropLemmas.{not_delivered}

module _ (S halves now origin : ℕ) (host : List ℕ) (p : Place) (room : 4096 ≤ S) (time : now < 2 ^ 62) (there : origin < halves) (low : origin < 2 ^ 62) where
  abbrev made : Entry
  made = entry_of (op_draft host now origin) p

  number : number_of (digits_of origin) ≡ Some origin
  number = number_of_digits origin low

  admissible : IsAdmissible S made
  admissible = record {
    queue = omega arith;
    copy = λ eight. no_eight 0 refl eight;
    discard = λ yes. absurd (cc);
    half = λ yes. absurd (cc);
    level = λ yes. absurd (cc);
    op = λ yes. subst (λ (o : Option ℕ). IsSome o) (sym number) refl;
    renewal = tt;
    delivery = tt;
    undelivered = λ yes. refl;
  }

  pub op_stands : CanStand S halves (op_draft host now origin) p
  op_stands = record {
    passes = op_written S now origin host room low;
    born = time;
    prepared = omega arith;
    unsealed = refl;
    admissible = admissible;
    names = subst (λ (o : Option ℕ). IfSome o (λ n. n < halves)) (sym number) there;
  }

  pub op_kind : IsOpOf origin (entry_of (op_draft host now origin) p)
  op_kind = record {
    half = refl;
    names = number;
    copied = refl;
    discard = refl;
    other = record { plain = refl; none = not_delivered made refl };
  }
