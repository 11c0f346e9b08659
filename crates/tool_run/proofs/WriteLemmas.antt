-- Text on its way to a sink, one step after another.
use Rattle.std.proofs.Common.{◌≡◌, ◌∙◌, ℕ, List, [], ◌∷◌, ◌++◌, true, false, refl, sym, ap, subst, append_assoc, append-nil}
use Rattle.std.proofs.lemmas.List.{flat_map_more}
use Rattle.mq_outside.specs.declared.stream.Sink.{Ghosts}
use Rattle.record_codec.specs.Entry.{Entry}
use Rattle.tool_run.specs.Texts.{record_line, dump_text}
use Rattle.tool_run.specs.Tools.{Failed, TookFront, TookAll, TookPart, seen_of}
use Rattle.tool_run.specs.Writes.{Told, Broke}
use Rattle.tool_run.specs.declared.lines.Lines.{Lines}

-- ---- pieces

-- nothing was taken
pub took_none : (taken taken_then piece : List ℕ) → taken_then ≡ taken → TookFront taken taken_then piece
took_none taken taken_then piece same = record { front = []; unwritten = piece; parts = refl; taken_is = same ∙ sym (append-nil taken) }

-- ---- what is told

-- nothing yet
pub told_none : {K : Type 0} (it : Ghosts K) (lines : Lines K) → lines.held.items ≡ [] → lines.failed ≡ false
    → Told it lines.sink lines []
told_none it lines empty well = record {
  front = [];
  taken_is = λ tells. sym (append-nil (it.taken lines.sink));
  parts = empty;
  faults = refl;
  well = well;
}

-- more of it is held
pub told_more : {K : Type 0} (it : Ghosts K) (first : K) (old new : Lines K) (text piece : List ℕ) → new.sink ≡ old.sink
    → new.failed ≡ old.failed → new.held.items ≡ old.held.items ++ piece → Told it first old text → Told it first new (text ++ piece)
told_more it first old new text piece same well held told = record {
  front = told.front;
  taken_is = λ tells. ap it.taken same ∙ told.taken_is tells;
  parts = ap (λ (l : List ℕ). told.front ++ l) held ∙ sym (append_assoc told.front old.held.items piece)
      ∙ ap (λ (l : List ℕ). l ++ piece) told.parts;
  faults = ap it.faults same ∙ told.faults;
  well = well ∙ told.well;
}

-- all that was held was taken
pub told_flushed : {K : Type 0} (it : Ghosts K) (first : K) (old new : Lines K) (text : List ℕ) → new.held.items ≡ []
    → new.failed ≡ old.failed → it.faults new.sink ≡ it.faults old.sink
    → (it.tells → it.taken new.sink ≡ it.taken old.sink ++ old.held.items) → Told it first old text → Told it first new text
told_flushed it first old new text empty well faults took told = record {
  front = told.front ++ old.held.items;
  taken_is = λ tells. took tells ∙ ap (λ (l : List ℕ). l ++ old.held.items) (told.taken_is tells)
      ∙ append_assoc (it.taken first) told.front old.held.items;
  parts = ap (λ (l : List ℕ). (told.front ++ old.held.items) ++ l) empty ∙ append-nil (told.front ++ old.held.items) ∙ told.parts;
  faults = faults ∙ told.faults;
  well = well ∙ told.well;
}

-- of what was told the sink took first bytes
pub part_told : {K : Type 0} (it : Ghosts K) (first : K) (lines : Lines K) (text : List ℕ) → Told it first lines text
    → TookPart (seen_of it first lines.sink) text
part_told it first lines text told = λ tells.
    record { front = told.front; unwritten = lines.held.items; parts = told.parts; taken_is = told.taken_is tells }

-- there was no memory for more of it, and the sink is as it was
pub broke_held : {K : Type 0} (it : Ghosts K) (first : K) (old new : Lines K) (text : List ℕ) → new.sink ≡ old.sink
    → new.failed ≡ old.failed → Told it first old text → Broke it first new text
broke_held it first old new text same well told = record {
  took = subst (λ (k : _). TookPart (seen_of it first k) text) (sym same) (part_told it first old text told);
  failed = λ yes. let both : false ≡ true = sym told.well ∙ sym well ∙ yes in absurd (cc);
}

-- nothing is held: all of it was taken
pub all_told : {K : Type 0} (it : Ghosts K) (first : K) (lines : Lines K) (text : List ℕ) → lines.held.items ≡ []
    → Told it first lines text → TookAll (seen_of it first lines.sink) text
all_told it first lines text empty told = record {
  all = λ tells. told.taken_is tells
      ∙ ap (λ (l : List ℕ). it.taken first ++ l) (sym (append-nil told.front) ∙ ap (λ (l : List ℕ). told.front ++ l) (sym empty) ∙ told.parts);
  still = told.faults;
}

-- the sink failed
pub failed_broke : {K : Type 0} (it : Ghosts K) (first : K) (lines : Lines K) (text : List ℕ) → lines.failed ≡ true
    → Broke it first lines text → Failed (seen_of it first lines.sink) text
failed_broke it first lines text failed broke = record { part = broke.took; rose = broke.failed failed }

-- ---- the lines of records

pub dump_text-append : (records : List Entry) (r : Entry) → dump_text records ++ record_line r ≡ dump_text (records ++ r ∷ [])
dump_text-append records r = flat_map_more record_line [] records r
