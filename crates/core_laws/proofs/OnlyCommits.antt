-- Each copy that a step appends is made by a Commit.
use Rattle.std.proofs.Common.{◌≡◌, inl, inr, refl, ap, sym, ◌∙◌, subst, arith, ℕ, zero, suc, ◌+◌, ◌-◌, ◌≤◌, List, [], ◌∷◌, drop, slice_get, Bool, true, false, Some}
use Rattle.std.specs.Prelude.{bit_and, ◌==◌}
use Rattle.std.proofs.lemmas.List.{length-drop}
use Rattle.std.proofs.lemmas.Option.{same_Some}
use Rattle.record_codec.specs.Entry.{Entry}
use Rattle.record_codec.specs.declared.draft.Draft.{Draft}
use Rattle.log_model.specs.Drafts.{copy_draft}
use Rattle.log_model.specs.Kinds.{is_copy}
use Rattle.log_model.specs.Numbered.{Log, count_of, with_appended, next_record, next_records}
use Rattle.broker_model.specs.State.{State}
use Rattle.broker_model.specs.Events
use Rattle.broker_model.specs.Appended.{drafts_of, made_by, moment}
use Rattle.broker_model.specs.Acknowledged.{StandsAt}
use Rattle.core_laws.specs.Sound.{IsSound}
use Rattle.core_laws.specs.Kept.{IsKept}
use Rattle.core_laws.specs.Halves.{IsMadeByCommit}
use Rattle.core_laws.specs.LogSteps.{LogStep}
use Rattle.core_laws.proofs.Lists.{get_append, within, length_take}
use Rattle.core_laws.proofs.Commits.{NoCopies, event_copies}

-- a record of drafts that are none of a copy is no copy
none_copy : (S now : ℕ) (log : Log) (drafts : List Draft) (k : ℕ) (r : Entry) → NoCopies drafts → slice_get (next_records S now log drafts) k ≡ Some r → is_copy r ≡ false
none_copy S now log [] k r none got = absurd (cc)
none_copy S now log (d ∷ drafts) zero r none got = ap (λ (x : Entry). bit_and x.sysflag 12 == 8) (sym (same_Some (next_record S now log d) r got)) ∙ none.0
none_copy S now log (d ∷ drafts) (suc k) r none got = none_copy S now (with_appended log (next_record S now log d ∷ [])) drafts k r none.1 got

-- of a copy and its op record the copy is one
pair_copy : (copy op r : Entry) (k : ℕ) → is_copy op ≡ false → slice_get (copy ∷ op ∷ []) k ≡ Some r → is_copy r ≡ true → r ≡ copy
pair_copy copy op r zero plain got is = sym (same_Some copy r got)
pair_copy copy op r (suc zero) plain got is = absurd (let a = ap is_copy_of (same_Some op r got) in let e : true ≡ false = sym is ∙ (sym a ∙ plain) in cc)
  where
    is_copy_of : Entry → Bool
    is_copy_of x = is_copy x
pair_copy copy op r (suc (suc k)) plain got is = absurd (cc)

-- a record with a number past the log's was not in it
past : (s : State) (n : ℕ) (i : ℕ) (r : Entry) → slice_get s.log.records i ≡ Some r → count_of s.log ≤ n → n ≡ s.log.base.records + i → ⊥
past s n i r at high is = omega (arith, within s.log.records i r at, high, is)

pub only_by_commit : (s t : State) (e : Events.Event) (n : ℕ) (r : Entry) → IsSound s → IsKept s.log → LogStep s e t → count_of s.log ≤ n → StandsAt t n r → is_copy r ≡ true
    → IsMadeByCommit s e r
only_by_commit s t e n r sound kept (inl same) high stands is =
    absurd (past s n stands.index r (subst (λ (l : Log). slice_get l.records stands.index ≡ Some r) same stands.stands) high
    (stands.number ∙ ap (λ (l : Log). l.base.records + stands.index) same))
only_by_commit s t e n r sound kept (inr (inr cut)) high stands is =
    absurd (let at = subst (λ (l : Log). slice_get l.records stands.index ≡ Some r) cut.log stands.stands in
    let few = within (drop (s.saved.base.records - s.log.base.records) s.log.records) stands.index r at in
    omega (
      arith,
      few,
      length-drop (s.saved.base.records - s.log.base.records) s.log.records,
      high,
      stands.number,
      ap (λ (l : Log). l.base.records) cut.log,
      sound.saved.records,
      length_take sound.ahead s.log.records (omega (arith, sound.within, sound.dispatched, sound.flushed)),
      sound.within,
      sound.dispatched,
      sound.flushed,
    ))
only_by_commit s t e n r sound kept (inr (inl grows)) high stands is =
    let at = subst (λ (l : Log). slice_get l.records stands.index ≡ Some r) grows.log stands.stands in
    let number : n ≡ s.log.base.records + stands.index = stands.number ∙ ap (λ (l : Log). l.base.records + stands.index) grows.log in
    elim (get_append s.log.records (made_by s e) stands.index r at) [
      | inl old ↦ absurd (past s n stands.index r old high number)
      | inr new ↦ elim (event_copies s e kept grows.fine) [
        | inl none ↦ absurd (let not = none_copy s.setup.segment (moment s e) s.log (drafts_of s e) new.0 r none new.2 in let e : true ≡ false = sym is ∙ not in cc)
        | inr c ↦ record {
          half = c.half;
          origin = c.origin;
          commit = c.commit;
          made = pair_copy (next_record s.setup.segment (moment s e) s.log (copy_draft s.setup.host c.half)) _ r new.0 refl
              (subst (λ (l : List Entry). slice_get l new.0 ≡ Some r) (ap (next_records s.setup.segment (moment s e) s.log) c.drafts_are) new.2) is;
        }
      ]
    ]
