-- How far a level was delivered, by a count of its digits.
use Rattle.std.proofs.Common.{◌≡◌, ◌∙◌, ℕ, ◌+◌, ◌-◌, List, get_or, ap, arith}
use Rattle.std.specs.Prelude.{count_by}
use Rattle.mq_bytes.specs.Decimal.{digits_of}
use Rattle.record_codec.specs.declared.draft.Record.{Record}
use Rattle.record_codec.specs.Entry.{Entry}
use Rattle.log_model.specs.declared.base.Base.{Base as Told}
use Rattle.log_model.specs.Delays.{progress}
use Rattle.log_model.specs.Kinds.{is_text, delay_level}
use Rattle.log_model.specs.Queues.{entries_of}
use Rattle.log_replay.specs.Told.{log_of}

pub progressed : (base : Told) (log : List Record) (i n : ℕ) (digits : List ℕ) → digits ≡ digits_of (i + 1) → n ≡ count_by (λ (r : Entry). is_text digits (delay_level r)) (entries_of log)
    → get_or base.levels i 0 + n ≡ progress (log_of base log) (i + 1)
progressed base log i n digits are counted =
    let level : i ≡ i + 1 - 1 = omega arith in
    ap (λ (k : ℕ). get_or base.levels i 0 + k) (counted ∙ ap (λ (ds : List ℕ). count_by (λ (r : Entry). is_text ds (delay_level r)) (entries_of log)) are)
    ∙ ap (λ (k : ℕ). get_or base.levels k 0 + count_by (λ (r : Entry). is_text (digits_of (i + 1)) (delay_level r)) (entries_of log)) level
