-- Where the next bytes of a broker's log go, happening by happening, whatever the disk tells.
use Rattle.std.proofs.Common.{◌≡◌, inl, inr, ⊎_elim, ℕ, ◌+◌, ◌*◌, ◌/◌, ◌%◌, ◌≤◌, List, [], ◌∷◌, ◌++◌, length, take, slice_get, Some, refl, sym, ap, ◌∙◌, subst, arith, length-append}
use Rattle.std.proofs.lemmas.List.{take_at, take-append-le}
use Rattle.record_codec.specs.Entry.{Entry}
use Rattle.log_model.specs.Log.{end_of}
use Rattle.log_model.specs.Numbered.{Log, IsLawful}
use Rattle.log_model.specs.Stored.{Stored, stored, with_more, flushed_of}
use Rattle.log_model.specs.declared.batch.Batch.{Batch}
use Rattle.log_model.proofs.Lists.{get_take}
use Rattle.segment_files.specs.Turn.{Growing, NextOpens, GoesToEnd, GoesToNext, GoesToPlace, IsPlaced}
use Rattle.segment_files.specs.declared.last_file.LastFile.{LastFile}
use Rattle.segment_files.proofs.Ready.{goes_to_place}
use Rattle.broker_model.specs.State.{State}
use Rattle.broker_events.specs.declared.event.Event.TheVariants.{Take}
use Rattle.broker_events.specs.declared.said.Said.TheVariants as said
use Rattle.flush_story.specs.Story.{StepsAs, Happening, Stepped, Ended, Broke, Happens, Story, span_of}
use Rattle.flush_story.specs.Keeping.{flushed_in, geometry_of, log_in, Grows, IsPlacedFor}
use Rattle.flush_story.proofs.Keeps.{step_moves, ended_moves, broken_moves, happening_moves, story_grows, lawful_before, low_then}
use Rattle.flush_story.proofs.NextBatch.{step_takes}
use Rattle.flush_story.proofs.Steps.{log_grown}

-- ---- a longer log

opens_more : (it : Stored) (more : List Entry) → flushed_of (with_more more it) ≡ flushed_of it → NextOpens it → NextOpens (with_more more it)
opens_more it more same opens =
    let front : take (length it.log) (it.log ++ more) ≡ it.log = take_at it.log more (length it.log) refl in
    record {
      next = opens.next;
      is = (get_take (length it.log) it.flushed (it.log ++ more) opens.next (subst (λ (l : List Entry). slice_get l it.flushed ≡ Some opens.next) (sym front) opens.is)).0;
      apart = λ at_end. opens.apart (at_end ∙ ap (end_of it.geometry.base) same);
    }

placed_more : (it : Stored) (more : List Entry) (file : LastFile) → it.flushed ≤ length it.log → IsPlaced it file → IsPlaced (with_more more it) file
placed_more it more file within placed =
    let same : flushed_of (with_more more it) ≡ flushed_of it = take-append-le it.flushed it.log more within in
    let end : end_of it.geometry.base (flushed_of it) ≡ end_of it.geometry.base (flushed_of (with_more more it)) = ap (end_of it.geometry.base) (sym same) in
    ⊎_elim
    (λ (to_end : GoesToEnd it file). inl (record {
      base = to_end.base ∙ ap (λ (n : ℕ). n / it.geometry.size * it.geometry.size) end;
      offset = to_end.offset ∙ ap (λ (n : ℕ). n % it.geometry.size) end;
    }))
    (λ (to_next : GoesToNext it file). inr (record {
      opens = opens_more it more same to_next.opens;
      base = to_next.base ∙ ap (λ (n : ℕ). (n / it.geometry.size + 1) * it.geometry.size) end;
      offset = to_next.offset;
    }))
    placed

-- of the state that is reached
placed_grown : (s t : State) (n : ℕ) (file : LastFile) → (grows : Grows s t) → flushed_in t ≡ n → n ≤ length s.log.records → IsPlaced (stored (geometry_of s) s.log.records n) file → IsPlaced (log_in t) file
placed_grown s t n file grows flushed within placed =
    subst (λ (it : Stored). IsPlaced it file) (sym (log_grown s t grows n flushed)) (placed_more (stored (geometry_of s) s.log.records n) grows.more file within placed)

-- records that were there are there
within_grown : (s t : State) (n : ℕ) (file : LastFile) → (grows : Grows s t) → flushed_in t ≡ n → n ≤ length s.log.records → IsPlaced (stored (geometry_of s) s.log.records n) file → IsPlacedFor t file
within_grown s t n file grows flushed within placed = record {
  within = omega (arith, flushed, within, ap (λ (l : Log). length l.records) grows.log, length-append s.log.records grows.more);
  placed = placed_grown s t n file grows flushed within placed;
}

-- ---- happenings

module _ {P : Type 0} (tells : Type 0) (at : P → Growing) where
  placed_happening : (s t : State) (it : Happening) (p q : P) → IsLawful s.setup.segment s.log → s.log.base.records ≤ s.flushed → IsPlacedFor s (at p).file
      → Happens tells at it (span_of s p t q) → IsPlacedFor t (at q).file
  placed_happening s t (Stepped e what) p q lawful low here it =
      let moves = step_moves e what s t p q it in
      let flushed : flushed_in t ≡ flushed_in s = omega (arith, moves.flushed, ap (λ (l : Log). l.base.records) moves.grows.log) in
      subst (λ (place : P). IsPlacedFor t (at place).file) (sym it.still) (within_grown s t (flushed_in s) (at p).file moves.grows flushed here.within here.placed)
  placed_happening s t (Ended turn receipt moment) p q lawful low here it =
      let moves = ended_moves tells at turn receipt moment s t p q it in
      let batch = (step_takes s it.out turn.batch low it.taken).0 in
      let on = it.places (log_in s) lawful batch here.placed in
      let flushed : flushed_in t ≡ flushed_in s + turn.batch.count = omega (arith, moves.flushed, it.is.count, low, ap (λ (l : Log). l.base.records) moves.grows.log) in
      within_grown s t (flushed_in s + turn.batch.count) (at q).file moves.grows flushed batch.within (inl on.ok)
  placed_happening s t (Broke turn count) p q lawful low here it =
      let moves = broken_moves tells at turn count s t p q it in
      let batch = (step_takes s it.out turn.batch low it.taken).0 in
      let on = it.places (log_in s) lawful batch here.placed in
      let flushed : flushed_in t ≡ flushed_in s = omega (arith, moves.flushed, ap (λ (l : Log). l.base.records) moves.grows.log) in
      within_grown s t (flushed_in s) (at q).file moves.grows flushed here.within on.err

  pub placed_story : (s t : State) (story : List Happening) (p q : P) → IsLawful t.setup.segment t.log → s.log.base.records ≤ s.flushed → IsPlacedFor s (at p).file
      → Story tells at story (span_of s p t q) → IsPlacedFor t (at q).file
  placed_story s t [] p q lawful low here happened =
      subst (λ (place : P). IsPlacedFor t (at place).file) (sym happened.1) (subst (λ (w : State). IsPlacedFor w (at p).file) (sym happened.0) here)
  placed_story s t (it ∷ story) p q lawful low here happened =
      let mid : State = happened.0 in
      let place : P = happened.1 in
      let moves = happening_moves tells at it s mid p place happened.2 in
      let then = lawful_before mid t (story_grows tells at story mid t place q happened.3) lawful in
      let first = lawful_before s mid moves.grows then in
      placed_story mid t story place q lawful (low_then s mid _ moves low) (placed_happening s mid it p place first low here happened.2) happened.3

-- ---- the batch that is taken

pub takes_to_place : (s t : State) (batch : Batch) (file : LastFile) → IsLawful s.setup.segment s.log → s.log.base.records ≤ s.flushed → IsPlacedFor s file
    → StepsAs s Take (Some (said.Batch (Some batch))) t → GoesToPlace file batch
takes_to_place s t batch file lawful low here takes = goes_to_place (log_in s) batch file lawful (step_takes s t batch low takes).0 here.placed
