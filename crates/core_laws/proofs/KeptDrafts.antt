-- The next record of a draft that fits keeps the log.
use Rattle.std.proofs.Common.{◌≡◌, refl, ap, ◌∙◌, subst, arith, ℕ, ◌+◌, ◌<◌, ◌≤◌, ◌^◌, List, [], ◌∷◌, length, take}
use Rattle.std.specs.Str.{bytes_eq}
use Rattle.std.proofs.lemmas.Bool.{and_parts}
use Rattle.std.proofs.lemmas.List.{take_all}
use Rattle.record_codec.specs.Entry.{Entry}
use Rattle.record_codec.specs.Layout.{size}
use Rattle.record_codec.specs.Drafts.{draft_size}
use Rattle.record_codec.specs.declared.draft.Draft.{Draft}
use Rattle.mq_bytes.specs.Decimal.{digits_of}
use Rattle.log_model.specs.Admissible.{half_topic, op_topic}
use Rattle.log_model.specs.Log.{end_from}
use Rattle.log_model.specs.Numbered.{Log, with_appended, next_record, queue_max, place_end}
use Rattle.log_model.specs.Queues.{queue_of}
use Rattle.log_model.proofs.FirstFits.{place_behind}
use Rattle.core_laws.specs.Kept.{IsKept}
use Rattle.core_laws.specs.KeptDrafts.{IsFitDraft}
use Rattle.core_laws.proofs.Kept.{kept_one, ends_behind}
use Rattle.core_laws.proofs.Texts.{same_text}

-- a queue has no more records than there are places
pub queue_low : (log : Log) (topic : List ℕ) (queue : ℕ) → IsKept log → queue_max log topic queue ≤ place_end log
queue_low log topic queue kept =
    let all : take (length log.records) log.records ≡ log.records = take_all (length log.records) log.records (omega arith) in
    subst (λ (l : List Entry). log.base.queues topic queue + length (queue_of l topic queue) ≤ end_from log.base.place l) all
    (kept.counted (length log.records) topic queue)

pub kept_next : (S now : ℕ) (log : Log) (d : Draft) → 0 < S → IsKept log → IsFitDraft log d
    → (next_record S now log d).offset + size (next_record S now log d) ≤ 2 ^ 62 → IsKept (with_appended log (next_record S now log d ∷ []))
kept_next S now log d some kept fit high =
    let behind : place_end log ≤ (next_record S now log d).offset = place_behind S (place_end log) (draft_size d) some in
    kept_one log (next_record S now log d) kept (record {
      place = λ i x at. omega (arith, behind, ends_behind log i x kept at);
      prepared = λ is. omega (arith, behind, fit.prepared is);
      bits = fit.bits;
      real = fit.real;
      low = λ is. omega (arith, queue_low log d.topic d.queue kept, behind, high);
      text = fit.text;
      undelivered = fit.undelivered;
      level = λ is. (fit.level is, omega (arith, queue_low log d.topic d.queue kept, behind, high));
    }) (λ is. record {
      queue = fit.queue is;
      queue_offset = ap (λ (t : List ℕ). queue_max log t d.queue) (same_text d.topic half_topic is) ∙ ap (λ (q : ℕ). queue_max log half_topic q) (fit.queue is);
      names = λ h low renewal. fit.names is h low (and_parts (bytes_eq d.topic half_topic) _ renewal).1;
    }) (record {
      queue_offset = refl;
      names = λ h low is. let parts = and_parts (bytes_eq d.topic op_topic) (bytes_eq d.body (digits_of h)) is in fit.op parts.0 h low parts.1;
    }) behind
