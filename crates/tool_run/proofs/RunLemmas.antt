-- How a run of a tool ends where its store was not opened, and that its words fit or not.
use Rattle.std.proofs.Common.{◌≡◌, ◌⊎◌, inl, inr, codes, ℕ, List, sym, subst, arith}
use Rattle.mq_outside.specs.Counts.{Rises}
use Rattle.store_open.specs.declared.status.Status.{Status}
use Rattle.store_open.specs.declared.tool_words.Tool.{Tool}
use Rattle.store_open.specs.Openings.{OpeningCause}
use Rattle.store_open.specs.ToolWords.{IsToolCommand, IsFirstWrongOfTool}
use Rattle.store_open.specs.declared.tool_words.ToolCommand.{ToolCommand}
use Rattle.store_open.proofs.OptionLemmas.{no_unfit_word}
use Rattle.tool_run.specs.Tools.{Causes, Counts}

-- ---- the store was not opened

-- its status is that of the opening, or there was no memory to say so
abbrev pub IsOf : Status → Status → Type 0
IsOf status opening = (status ≡ opening) ⊎ (status.code ≡ 7)

out_of_memory : (status : Status) (old new : Counts) → status.code ≡ 7 → Causes status old new
out_of_memory status old new seven = record {
  write = λ e. absurd (omega (arith, seven, e));
  disk_failed = λ e. absurd (omega (arith, seven, e));
  keep_failed = λ e. absurd (omega (arith, seven, e));
  known = inr (inr (inr (inr (inr (inl seven)))));
}

disk_failed : (status : Status) (old new : Counts) → status.code ≡ 5 → Rises old.disk new.disk → Causes status old new
disk_failed status old new five rises = record {
  write = λ e. absurd (omega (arith, five, e));
  disk_failed = λ e. rises;
  keep_failed = λ e. absurd (omega (arith, five, e));
  known = inr (inr (inr (inl five)));
}

keep_failed : (status : Status) (old new : Counts) → status.code ≡ 10 → status.name ≡ codes "keep" → Rises old.keep new.keep → Causes status old new
keep_failed status old new ten named rises = record {
  write = λ e. absurd (omega (arith, ten, e));
  disk_failed = λ e. absurd (omega (arith, ten, e));
  keep_failed = λ e. (named, rises);
  known = inr (inr (inr (inr (inr (inr (inr ten))))));
}

foreign : (status : Status) (old new : Counts) → status.code ≡ 6 → Causes status old new
foreign status old new six = record {
  write = λ e. absurd (omega (arith, six, e));
  disk_failed = λ e. absurd (omega (arith, six, e));
  keep_failed = λ e. absurd (omega (arith, six, e));
  known = inr (inr (inr (inr (inl six))));
}

opening_causes : (status : Status) (old new : Counts) → OpeningCause status old.disk new.disk old.keep new.keep → Causes status old new
opening_causes status old new (inl five) = disk_failed status old new five.0 five.1
opening_causes status old new (inr (inl six)) = foreign status old new six
opening_causes status old new (inr (inr (inl seven))) = out_of_memory status old new seven
opening_causes status old new (inr (inr (inr ten))) = keep_failed status old new ten.0 ten.1 ten.2

pub unopened_causes : (status opening : Status) (old new : Counts) → IsOf status opening
    → OpeningCause opening old.disk new.disk old.keep new.keep → Causes status old new
unopened_causes status opening old new (inl same) cause = subst (λ (s : Status). Causes s old new) (sym same) (opening_causes opening old new cause)
unopened_causes status opening old new (inr seven) cause = out_of_memory status old new seven

-- the codes of an opening
opening_codes : (status : Status) (disk disk_then keep keep_then : ℕ) → OpeningCause status disk disk_then keep keep_then
    → (status.code ≡ 5) ⊎ ((status.code ≡ 6) ⊎ ((status.code ≡ 7) ⊎ (status.code ≡ 10)))
opening_codes status disk disk_then keep keep_then (inl five) = inl five.0
opening_codes status disk disk_then keep keep_then (inr (inl six)) = inr (inl six)
opening_codes status disk disk_then keep keep_then (inr (inr (inl seven))) = inr (inr (inl seven))
opening_codes status disk disk_then keep keep_then (inr (inr (inr ten))) = inr (inr (inr ten.0))

pub refused_as : (status opening : Status) (disk disk_then keep keep_then : ℕ) → IsOf status opening
    → OpeningCause opening disk disk_then keep keep_then
    → (status.code ≡ 5) ⊎ ((status.code ≡ 6) ⊎ ((status.code ≡ 7) ⊎ (status.code ≡ 10)))
refused_as status opening disk disk_then keep keep_then (inl same) cause =
    subst (λ (s : Status). (s.code ≡ 5) ⊎ ((s.code ≡ 6) ⊎ ((s.code ≡ 7) ⊎ (s.code ≡ 10)))) (sym same)
    (opening_codes opening disk disk_then keep keep_then cause)
refused_as status opening disk disk_then keep keep_then (inr seven) cause = inr (inr (inl seven))

-- ---- the words

-- they are a command, or one of them is the first that doesn't fit
pub not_wrong : (tool : Tool) (words : List (List ℕ)) (place : ℕ) (command : ToolCommand) → IsToolCommand tool words command
    → IsFirstWrongOfTool tool words place → ⊥
not_wrong tool words place command is wrong = no_unfit_word _ words is.settings place is.are wrong
