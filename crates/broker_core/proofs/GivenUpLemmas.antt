-- An origin that is given up settles so.
use Rattle.std.proofs.Common.{◌≡◌, ◌∙◌, ap, sym, subst, ℕ, List, find, Some}
use Rattle.std.specs.Prelude.{◌==◌, nat_eq}
use Rattle.std.proofs.lemmas.Bool.{eqb-true}
use Rattle.record_codec.specs.Entry.{Entry}
use Rattle.record_codec.specs.declared.draft.Draft.{Draft}
use Rattle.log_model.specs.Drafts.{discard_draft, op_draft}
use Rattle.log_model.specs.Transactions.{family}
use Rattle.log_model.specs.declared.origin.OriginState.TheVariants.{Discarded}
use Rattle.half_view.proofs.OriginLemmas.{found_passes}
use Rattle.broker_model.specs.State.{State, Setup}
use Rattle.core_log.specs.declared.parts.Parts.{Parts}
use Rattle.broker_core.specs.Checks.{IsGivenUp}
use Rattle.core_log.specs.Represents.{Represents}
use Rattle.core_log.specs.Settles.{IsSettling}

pub settles : (core : Parts) (s : State) (now origin last : ℕ) (half : Entry) (copy op : Draft) → Represents core s → IsGivenUp s now origin last half
    → copy ≡ discard_draft core.setup.host half → op ≡ op_draft core.setup.host now origin → IsSettling s now origin Discarded half copy op
settles core s now origin last half copy op are is copy_is op_is =
    let host : core.setup.host ≡ s.setup.host = ap (λ (x : Setup). x.host) are.numbers.setup in
    let member = is.member in
    let number : half.queue_offset ≡ last =
    eqb-true half.queue_offset last (found_passes (λ r. nat_eq r.queue_offset last) (family s.log.records origin) half member.stands) in
    record {
      first = member.first;
      named = member.named;
      stands = subst (λ (n : ℕ). find (λ r. r.queue_offset == n) (family s.log.records origin) ≡ Some half) (sym number) member.stands;
      copy_is = (copy_is ∙ ap (λ (h : List ℕ). discard_draft h half) host, is.renewal);
      op_is = op_is ∙ ap (λ (h : List ℕ). op_draft h now origin) host;
      later = is.later;
      time = is.time;
    }
