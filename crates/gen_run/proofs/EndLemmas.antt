-- Which statuses the ends of a run of the generator have.
use Rattle.std.proofs.Common.{◌≡◌, ◌≢◌, ◌∙◌, ◌⊎◌, ◌≤◌, inl, inr, ℕ, List, ap, subst, sym, arith}
use Rattle.mq_outside.specs.Counts.{Rises}
use Rattle.store_open.specs.declared.status.Status.{Status}
use Rattle.tool_run.specs.Texts.{foreign_line, damaged_line}
use Rattle.tool_run.specs.Tools.{Causes, Counts, SinkSeen, TookOrFailed}
use Rattle.gen_run.specs.Gens.{WroteLine}

-- ---- the codes

-- of an opening
pub opening_low : (status : Status) → (status.code ≡ 5) ⊎ ((status.code ≡ 6) ⊎ ((status.code ≡ 7) ⊎ (status.code ≡ 10))) → (5 ≤ status.code) × (status.code ≢ 8)
opening_low status (inl five) = (omega (arith, five), λ e. omega (arith, five, e))
opening_low status (inr (inl six)) = (omega (arith, six), λ e. omega (arith, six, e))
opening_low status (inr (inr (inl seven))) = (omega (arith, seven), λ e. omega (arith, seven, e))
opening_low status (inr (inr (inr ten))) = (omega (arith, ten), λ e. omega (arith, ten, e))

-- of a filling that stopped, or there was no memory to say so
pub stopped_low : (ended status : Status) → (ended.code ≡ status.code) ⊎ (ended.code ≡ 7) → (status.code ≡ 5) ⊎ ((status.code ≡ 6) ⊎ ((status.code ≡ 7) ⊎ (status.code ≡ 8))) → 5 ≤ ended.code
stopped_low ended status (inr seven) known = omega (arith, seven)
stopped_low ended status (inl same) (inl five) = omega (arith, same, five)
stopped_low ended status (inl same) (inr (inl six)) = omega (arith, same, six)
stopped_low ended status (inl same) (inr (inr (inl seven))) = omega (arith, same, seven)
stopped_low ended status (inl same) (inr (inr (inr eight))) = omega (arith, same, eight)

-- the store is foreign only where the filling said so
pub stopped_foreign : (ended status : Status) → (ended.code ≡ status.code) ⊎ (ended.code ≡ 7) → ended.code ≡ 6 → status.code ≡ 6
stopped_foreign ended status (inl same) six = omega (arith, same, six)
stopped_foreign ended status (inr seven) six = absurd (omega (arith, seven, six))

-- it has the name that the filling gave it
pub stopped_named : (ended status : Status) (name : List ℕ) → (ended.code ≡ 7) ⊎ ((ended.place ≡ status.place) × (ended.name ≡ status.name)) → (status.code ≡ 6 → status.name ≡ name)
    → status.code ≡ 6 → ended.code ≡ 6 → ended.name ≡ name
stopped_named ended status name (inl seven) named was six = absurd (omega (arith, seven, six))
stopped_named ended status name (inr told) named was six = told.1 ∙ named was

-- an opening found it foreign
pub unopened_foreign : (P : List ℕ → Type 0) (ended status : Status) → (ended ≡ status) ⊎ (ended.code ≡ 7) → (status.code ≡ 6 → P status.name) → ended.code ≡ 6 → P ended.name
unopened_foreign P ended status (inl same) is six = subst (λ (s : Status). P s.name) (sym same) (is (sym (ap (λ (s : Status). s.code) same) ∙ six))
unopened_foreign P ended status (inr seven) is six = absurd (omega (arith, seven, six))

-- of the lines of the summary
pub filled_apart : (status : Status) → (status.code ≡ 0) ⊎ ((status.code ≡ 4) ⊎ (status.code ≡ 7)) → (status.code ≢ 1) × (status.code ≢ 6) × (status.code ≢ 8)
filled_apart status (inl none) = (λ e. omega (arith, none, e), λ e. omega (arith, none, e), λ e. omega (arith, none, e))
filled_apart status (inr (inl four)) = (λ e. omega (arith, four, e), λ e. omega (arith, four, e), λ e. omega (arith, four, e))
filled_apart status (inr (inr seven)) = (λ e. omega (arith, seven, e), λ e. omega (arith, seven, e), λ e. omega (arith, seven, e))

pub filled_memory : (status : Status) → (status.code ≡ 0) ⊎ ((status.code ≡ 4) ⊎ (status.code ≡ 7)) → status.code ≢ 0 → status.code ≢ 4 → status.code ≡ 7
filled_memory status (inl none) whole broke = absurd (whole none)
filled_memory status (inr (inl four)) whole broke = absurd (broke four)
filled_memory status (inr (inr seven)) whole broke = seven

-- ---- the sink and the causes

-- nothing was written
pub wrote_nothing : (status : Status) (sink : SinkSeen) → status.code ≢ 6 → status.code ≢ 8 → sink.taken_then ≡ sink.taken → WroteLine status sink
wrote_nothing status sink other sound same = record {
  foreign = λ e. absurd (other e);
  damaged = λ e. absurd (sound e);
  nothing = λ six eight. same;
}

-- the line of a foreign store was written, or nothing
pub wrote_foreign : (status : Status) (sink : SinkSeen) → (status.code ≡ 6 → TookOrFailed sink (foreign_line status.name)) → status.code ≢ 8 → (status.code ≢ 6 → sink.taken_then ≡ sink.taken) → WroteLine status sink
wrote_foreign status sink line sound same = record { foreign = line; damaged = λ e. absurd (sound e); nothing = λ six eight. same six }

-- the line of a damaged store was written, or nothing
pub wrote_damaged : (status : Status) (sink : SinkSeen) (place : ℕ) (name : List ℕ) → (status.code ≡ 7) ⊎ (status.code ≡ 8) → (status.code ≡ 8 → TookOrFailed sink (damaged_line name place))
    → (status.code ≡ 8 → (status.place ≡ place) × (status.name ≡ name)) → (status.code ≡ 7 → sink.taken_then ≡ sink.taken) → WroteLine status sink
wrote_damaged status sink place name (inl seven) line told same = record {
  foreign = λ e. absurd (omega (arith, seven, e));
  damaged = λ e. absurd (omega (arith, seven, e));
  nothing = λ six eight. same seven;
}
wrote_damaged status sink place name (inr eight) line told same = record {
  foreign = λ e. absurd (omega (arith, eight, e));
  damaged = λ e.
      subst (λ (n : List ℕ). TookOrFailed sink (damaged_line n status.place)) (sym (told eight).1)
      (subst (λ (n : ℕ). TookOrFailed sink (damaged_line name n)) (sym (told eight).0) (line eight));
  nothing = λ six other. absurd (other eight);
}

-- of another status than 8, or of none but want of memory
pub other_code : (ended status : Status) → (ended ≡ status) ⊎ (ended.code ≡ 7) → status.code ≢ 8 → ended.code ≢ 8
other_code ended status (inl same) sound = λ e. sound (sym (ap (λ (s : Status). s.code) same) ∙ e)
other_code ended status (inr seven) sound = λ e. omega (arith, seven, e)

pub other_as : (ended status : Status) → (ended ≡ status) ⊎ (ended.code ≡ 7) → (ended.code ≡ status.code) ⊎ (ended.code ≡ 7)
other_as ended status (inl same) = inl (ap (λ (s : Status). s.code) same)
other_as ended status (inr seven) = inr seven

pub other_told : (ended status : Status) → (ended ≡ status) ⊎ (ended.code ≡ 7) → (ended.code ≡ 7) ⊎ ((ended.place ≡ status.place) × (ended.name ≡ status.name))
other_told ended status (inl same) = inr (ap (λ (s : Status). s.place) same, ap (λ (s : Status). s.name) same)
other_told ended status (inr seven) = inl seven

-- of damage
pub damage_as : (ended status : Status) → (ended.code ≡ 7) ⊎ (ended.code ≡ 8) → status.code ≡ 8 → (ended.code ≡ status.code) ⊎ (ended.code ≡ 7)
damage_as ended status (inl seven) is = inr seven
damage_as ended status (inr eight) is = inl (omega (arith, eight, is))

pub damage_told : (ended status : Status) → (ended.code ≡ 7) ⊎ (ended.code ≡ 8) → (ended.code ≡ 8 → (ended.place ≡ status.place) × (ended.name ≡ status.name))
    → (ended.code ≡ 7) ⊎ ((ended.place ≡ status.place) × (ended.name ≡ status.name))
damage_told ended status (inl seven) told = inl seven
damage_told ended status (inr eight) told = inr (told eight)

-- of the lines of the summary
pub filled_causes : (status : Status) (old new : Counts) → (status.code ≡ 0) ⊎ ((status.code ≡ 4) ⊎ (status.code ≡ 7)) → (status.code ≡ 4 → Rises old.sink new.sink) → Causes status old new
filled_causes status old new (inl none) rises = record {
  write = λ e. absurd (omega (arith, none, e));
  disk_failed = λ e. absurd (omega (arith, none, e));
  keep_failed = λ e. absurd (omega (arith, none, e));
  known = inl none;
}
filled_causes status old new (inr (inl four)) rises = record {
  write = rises;
  disk_failed = λ e. absurd (omega (arith, four, e));
  keep_failed = λ e. absurd (omega (arith, four, e));
  known = inr (inr (inl four));
}
filled_causes status old new (inr (inr seven)) rises = record {
  write = λ e. absurd (omega (arith, seven, e));
  disk_failed = λ e. absurd (omega (arith, seven, e));
  keep_failed = λ e. absurd (omega (arith, seven, e));
  known = inr (inr (inr (inr (inr (inl seven)))));
}
