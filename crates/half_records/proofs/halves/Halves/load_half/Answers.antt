use Rattle.std.proofs.Common.{◌≡◌, ◌∙◌, ◌∷◌, [], codes, sym, ap, subst}
use Rattle.record_codec.specs.Entry.{Entry}
use Rattle.record_codec.specs.Props.{value_of}
use Rattle.log_model.specs.Bases.{geometry}
use Rattle.log_model.specs.Drafts.{text_in}
use Rattle.log_model.specs.Kinds.{is_half, origin_text}
use Rattle.log_model.specs.Log.{Follows}
use Rattle.log_model.specs.Numbered.{with_appended}
use Rattle.half_view.specs.OfLog.{named_by}
use Rattle.half_view.proofs.NumberLemmas.{renewal_read}
use Rattle.half_records.specs.Names.{number_of}
use Rattle.half_records.specs.OfLog.{HasHalves}
use Rattle.half_records.proofs.HalvesLemmas.{stands}
use Rattle.half_records.proofs.halves.Halves.load_half.Goals as goal

pub returns : goal.returns
returns c segment log well follows has is =
    let r : Entry = c.args.view.now in
    let w : Entry = c.in_ok-whole.whole in
    let same : w ≡ r = c.in_ok-whole.ensures follows.layout in
    let old = c.args.self.now in
    let mid = c.make_ready_by.new.self in
    let kept = c.in_ok-kept.kept in
    subst (λ (x : Entry). HasHalves (with_appended log (x ∷ [])) c.add.new.self) same
    (c.add.ensures.records segment log well
    (subst (λ (x : Entry). Follows (geometry segment log.base) log.records x) (sym same) follows)
    (stands log old mid c.in_ok-kept.ensures.same has)
    (ap is_half same ∙ is)
    (ap named_by same ∙ sym (renewal_read (origin_text r) follows.admissible.renewal) ∙ sym c.named_half-named.ensures)
    (c.offset.ensures.value ∙ sym (ap (λ (x : Entry). x.offset) same))
    (c.store.ensures.value ∙ sym (ap (λ (x : Entry). x.store) same))
    (record {
      group = ap (λ (x : Entry). number_of mid.groups (text_in (codes "PGROUP") x.props)) same ∙ ap (number_of mid.groups) (sym c.group_of.ensures) ∙ c.in_ok-kept.ensures.group;
      id = c.in_ok-kept.ensures.id ∙ c.prop.ensures ∙ sym (ap (λ (x : Entry). value_of (codes "UNIQ_KEY") x.props) same);
      family = c.in_ok-kept.ensures.family;
    }))
