-- What a tool has written of a log where it ends, by its status.
use Rattle.std.proofs.Common.{◌≡◌, ℕ, List, ◌++◌, sym, subst}
use Rattle.std.specs.Prelude.{◌≢◌}
use Rattle.record_codec.specs.Entry.{Entry}
use Rattle.log_model.specs.Bases.{Geometry}
use Rattle.log_model.specs.Log.{IsWellFormed}
use Rattle.store_open.specs.declared.status.Status.{Status}
use Rattle.store_open.specs.declared.tool_words.Tool.{Tool}
use Rattle.tool_run.specs.Texts.{text_of, text_before, damaged_line}
use Rattle.tool_run.specs.Tools.{Reports, SinkSeen, TookAll, TookPart, TookOrFailed}
use Rattle.tool_run.proofs.WriteLemmas.{took_none}

-- the reading came to the log's end
pub reports_whole : (tool : Tool) (S : Geometry) (status : Status) (sink : SinkSeen) (records : List Entry) → IsWellFormed S records
    → (status.code ≡ 0 → TookAll sink (text_of tool S records)) → status.code ≢ 8
    → (status.code ≢ 0 → TookPart sink (text_of tool S records)) → Reports tool S status sink
reports_whole tool S status sink records lawful whole no_damage part = record {
  done = λ code. record { records = records; lawful = lawful; took = whole code };
  damaged = λ code. absurd (no_damage code);
  part = λ not_done undamaged. record { records = records; took = part not_done };
}

-- it came to a damage
pub reports_damage : (tool : Tool) (S : Geometry) (status : Status) (sink : SinkSeen) (records : List Entry) (place : ℕ) (name : List ℕ)
    → IsWellFormed S records → (status.code ≡ 8 → TookOrFailed sink (text_before tool records ++ damaged_line name place))
    → (status.code ≡ 8 → (status.place ≡ place) × (status.name ≡ name)) → status.code ≢ 0
    → (status.code ≢ 8 → TookPart sink (text_of tool S records)) → Reports tool S status sink
reports_damage tool S status sink records place name lawful line told no_end part = record {
  done = λ code. absurd (no_end code);
  damaged = λ code. record {
    records = records;
    lawful = lawful;
    took = subst (λ (n : ℕ). TookOrFailed sink (text_before tool records ++ damaged_line status.name n)) (sym (told code).0)
        (subst (λ (n : List ℕ). TookOrFailed sink (text_before tool records ++ damaged_line n place)) (sym (told code).1) (line code));
  };
  part = λ not_done undamaged. record { records = records; took = part undamaged };
}

-- it broke off
pub reports_part : (tool : Tool) (S : Geometry) (status : Status) (sink : SinkSeen) (records : List Entry) → status.code ≢ 0
    → status.code ≢ 8 → TookPart sink (text_of tool S records) → Reports tool S status sink
reports_part tool S status sink records no_end no_damage part = record {
  done = λ code. absurd (no_end code);
  damaged = λ code. absurd (no_damage code);
  part = λ not_done undamaged. record { records = records; took = part };
}

-- a sink that is as it was took first bytes of any text
pub nothing_taken : (sink : SinkSeen) (text : List ℕ) → sink.taken_then ≡ sink.taken → TookPart sink text
nothing_taken sink text same = λ tells. took_none sink.taken sink.taken_then text same
