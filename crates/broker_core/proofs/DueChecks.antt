-- The check of the origin that is due: it is renewed, or given up.
use Rattle.std.proofs.Common.{◌≡◌, ◌∙◌, ℕ, ◌+◌, ◌^◌, ◌<◌, max, min, ◌-◌, false, List, [], ◌∷◌, length, find, Option, Some, None, option_map, refl, sym, ap, subst, arith}
use Rattle.std.specs.Prelude.{◌==◌}
use Rattle.record_codec.specs.Entry.{Entry}
use Rattle.record_codec.specs.declared.draft.Draft.{Draft}
use Rattle.log_model.specs.Drafts.{renewal_draft, discard_draft, op_draft}
use Rattle.log_model.specs.Transactions.{family, is_origin, is_settled, renewals}
use Rattle.half_view.specs.declared.check.Check.{Check}
use Rattle.half_view.specs.OfLog.{check_of, due_origin as due_in_table}
use Rattle.broker_model.specs.State.{State, Setup}
use Rattle.broker_model.specs.Appended.{check_drafts, due_origin}
use Rattle.core_log.specs.declared.parts.Parts.{Parts}
use Rattle.broker_core.specs.Checks.{IsOpenMember, IsRenewed, IsRenewedBy, IsGivenUp, IsDueCheck}
use Rattle.core_log.specs.Represents.{Represents}
use Rattle.broker_core.proofs.CheckedOrigins.{IsDueIn, IsRenewalIn, IsAskedAgain, IsLeft, origin_in, due_in, due_same, origin_found}
use Rattle.broker_core.proofs.CheckedOrigins.{origin_member, renewal_member, last_renewal, asked_again, left}

-- the open origin is the first of its family
pub renewed_member : (core : Parts) (s : State) (now origin n : ℕ) (first : Entry) → Represents core s → IsRenewed s now origin n first → IsOpenMember s.log.records origin origin first
renewed_member core s now origin n first are is =
    let it = origin_in s.log.records origin first is.named in
    record {
      first = first;
      named = is.named;
      unsettled = is.unsettled;
      stands = subst (λ (k : ℕ). find (λ r. r.queue_offset == k) (family s.log.records k) ≡ Some first) it.number
          (origin_member s.setup.segment s.log core.halves.view are.state.log are.halves.view first it.stands it.none);
    }

pub draft_as : (core : Parts) (s : State) (n : ℕ) (first : Entry) (d : Draft) → Represents core s → d ≡ renewal_draft core.setup.host n first → d ≡ renewal_draft s.setup.host n first
draft_as core s n first d are draft = draft ∙ ap (λ (x : Setup). renewal_draft x.host n first) are.numbers.setup

pub renewed_by : (core : Parts) (s : State) (now origin n : ℕ) (first : Entry) (d : Draft) → Represents core s → IsRenewed s now origin n first → d ≡ renewal_draft core.setup.host n first
    → IsRenewedBy s now origin first d
renewed_by core s now origin n first d are is draft = record {
  n = n;
  renewed = is;
  draft_is = draft_as core s n first d are draft;
}

module _ (core : Parts) (s : State) (now : ℕ) (due : Check) (are : Represents core s) (is : IsDueCheck s now due) where
  abbrev asked : List Entry
  asked = renewals s.log.records is.origin.queue_offset

  its_due : IsDueIn s.log.records is.origin
  its_due = due_in s now is.origin is.is

  pub origin_is : due.origin ≡ is.origin.queue_offset
  origin_is = ap (λ (c : Check). c.origin) is.check

  its_name : find (is_origin due.origin) s.log.records ≡ Some is.origin
  its_name = subst (λ (n : ℕ). find (is_origin n) s.log.records ≡ Some is.origin) (sym origin_is)
      (origin_found s.setup.segment s.log core.halves.view are.state.log are.halves.view is.origin its_due.stands its_due.none)

  its_state : is_settled s.log.records due.origin ≡ false
  its_state = ap (is_settled s.log.records) origin_is ∙ its_due.unsettled

  -- it is asked for again
  module _ (n : ℕ) (count : n ≡ due.checks + 1) (none : due.given_up ≡ None) where
    again : IsAskedAgain s now is.origin asked
    again = asked_again s now is.origin asked (sym (ap (λ (c : Check). c.given_up) is.check) ∙ none)

    checks_are : due.checks ≡ min (length asked) (2 ^ 32 - 1)
    checks_are = ap (λ (c : Check). c.checks) is.check

    pub renewed_due : IsRenewed s now due.origin n is.origin
    renewed_due = record {
      named = its_name;
      unsettled = its_state;
      some = omega (arith, count);
      few = (let most = again.few in let same = checks_are in omega (arith, most, same, count));
      later = is.later;
      time = is.time;
    }

    pub renewed_drafts : renewal_draft s.setup.host n is.origin ∷ [] ≡ check_drafts s now (Some is.origin)
    renewed_drafts =
        ap (λ (k : ℕ). renewal_draft s.setup.host k is.origin ∷ []) count
        ∙ ap (λ (k : ℕ). renewal_draft s.setup.host (k + 1) is.origin ∷ []) checks_are ∙ sym again.drafts

  -- it is given up
  module _ (last : ℕ) (some : due.given_up ≡ Some last) where
    gone : IsLeft s now last is.origin asked
    gone = left s now last is.origin asked (sym (ap (λ (c : Check). c.given_up) is.check) ∙ some)

    pub left_half : Entry
    left_half = gone.renewal

    its_last : IsRenewalIn s.log.records is.origin.queue_offset gone.renewal
    its_last = last_renewal s.log.records is.origin.queue_offset gone.renewal gone.is_last

    pub given_up_due : IsGivenUp s now due.origin last left_half
    unfolding left_half
    given_up_due = record {
      member = record {
        first = is.origin;
        named = its_name;
        unsettled = its_state;
        stands = subst (λ (n : ℕ). find (λ r. r.queue_offset == last) (family s.log.records n) ≡ Some gone.renewal) (sym origin_is)
            (subst (λ (n : ℕ). find (λ r. r.queue_offset == n) (family s.log.records is.origin.queue_offset) ≡ Some gone.renewal) gone.number
            (renewal_member s.setup.segment s.log core.halves.view are.state.log are.halves.view is.origin.queue_offset gone.renewal its_last));
      };
      renewal = its_last.some;
      later = is.later;
      time = is.time;
    }

    pub left_drafts : discard_draft s.setup.host left_half ∷ op_draft s.setup.host now due.origin ∷ [] ≡ check_drafts s now (Some is.origin)
    unfolding left_half
    left_drafts = ap (λ (n : ℕ). discard_draft s.setup.host gone.renewal ∷ op_draft s.setup.host now n ∷ []) origin_is ∙ sym gone.drafts

-- what the table says is due
pub due_check : (core : Parts) (s : State) (now moment : ℕ) (o : Option Check) (due : Check) → Represents core s → now < 2 ^ 62 → moment ≡ max now core.now
    → o ≡ option_map (check_of s.log.records) (due_in_table s.log.records moment) → o ≡ Some due → IsDueCheck s moment due
due_check core s now moment o due are low is told here = by_found (due_in_table s.log.records moment) refl (sym told ∙ here)
  where
    by_found : (e : Option Entry) → due_in_table s.log.records moment ≡ e → option_map (check_of s.log.records) e ≡ Some due → IsDueCheck s moment due
    by_found None found at = cc at
    by_found (Some e) found at =
        let same = are.numbers.now in
        let before = are.state.time in
        record { origin = e; is = sym (due_same s moment) ∙ found; check = cc (sym at); later = omega (arith, is, same); time = omega (arith, is, same, low, before) }

pub none_due : (s : State) (moment : ℕ) → option_map (check_of s.log.records) (due_in_table s.log.records moment) ≡ None → due_origin s moment ≡ None
none_due s moment none = sym (due_same s moment) ∙ by_found (due_in_table s.log.records moment) none
  where
    by_found : (e : Option Entry) → option_map (check_of s.log.records) e ≡ None → e ≡ None
    by_found None is = refl
    by_found (Some e) is = cc is
