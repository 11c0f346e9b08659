-- A run of a half message: it is sent, flushed and committed, and its copy is flushed; and a crash that keeps the copy without its op
-- record, behind which the Commit is said again.
use Rattle.std.specs.Prelude.{List, [], ◌∷◌, codes, Some}
use Rattle.request_fields.specs.Requests.{EndSaid}
use Rattle.broker_model.specs.Events
use Rattle.broker_model.specs.Answers.{done_reply}
use Rattle.broker_model.specs.Run.{Boot, Move, Steps, Crashes, crashed}
use Rattle.broker_model.specs.Examples.{asks, commit, verdict_by, half_props}
use Rattle.broker_model.specs.StepExamples.{sends}
use Rattle.core_laws.specs.Examples.{setup, at_opening, stepped, answered}

-- it is sent and flushed
abbrev pub at_half : Boot
at_half = stepped at_opening (sends half_props)

abbrev pub at_turn : Boot
at_turn = stepped at_half Events.Take

abbrev pub at_flushed : Boot
at_flushed = stepped at_turn (Events.Flushed 1)

-- a Commit of it is answered once its op record is flushed, behind the copy
abbrev pub commits : Events.Event
commits = asks commit

abbrev pub at_commit : Boot
at_commit = stepped at_flushed commits

abbrev pub at_next_turn : Boot
at_next_turn = stepped at_commit Events.Take

abbrev pub at_both_flushed : Boot
at_both_flushed = stepped at_next_turn (Events.Flushed 2)

abbrev pub at_told : Boot
at_told = stepped at_both_flushed (Events.Look 2 1)

-- all of this as moves
abbrev pub until_told : List Move
until_told = answered at_opening (sends half_props) ∷ answered at_half Events.Take ∷ answered at_turn (Events.Flushed 1)
    ∷ Steps commits (Some (Events.After done_reply 2 1)) ∷ answered at_commit Events.Take ∷ answered at_next_turn (Events.Flushed 2)
    ∷ Steps (Events.Look 2 1) (Some (Events.Looked Events.IsFlushed)) ∷ []

-- or a crash keeps half and copy, and the Commit is said again
abbrev pub at_kept_copy : Boot
at_kept_copy = record { now = crashed at_commit.now 2 setup; before = [] }

abbrev pub at_again : Boot
at_again = stepped at_kept_copy commits

abbrev pub until_again : List Move
until_again = answered at_opening (sends half_props) ∷ answered at_half Events.Take ∷ answered at_turn (Events.Flushed 1)
    ∷ Steps commits (Some (Events.After done_reply 2 1)) ∷ Crashes 2 setup ∷ Steps commits (Some (Events.Replies done_reply)) ∷ []

-- ---- or it is rolled back

-- what the Commit says
abbrev pub commit_said : EndSaid
commit_said = record { group = codes "P"; queue_offset = 0; place = 0; verdict = 8; msg_id = [] }

abbrev pub rolls_back : Events.Event
rolls_back = asks (verdict_by (codes "P") 12 0 0)

abbrev pub at_rolled_back : Boot
at_rolled_back = stepped at_flushed rolls_back

-- what the Rollback says
abbrev pub rollback_said : EndSaid
rollback_said = record { group = codes "P"; queue_offset = 0; place = 0; verdict = 12; msg_id = [] }

-- it is answered once its op record is flushed
abbrev pub at_op_turn : Boot
at_op_turn = stepped at_rolled_back Events.Take

abbrev pub at_op_flushed : Boot
at_op_flushed = stepped at_op_turn (Events.Flushed 1)

abbrev pub at_undone : Boot
at_undone = stepped at_op_flushed (Events.Look 1 1)

abbrev pub until_rolled_back : List Move
until_rolled_back = answered at_opening (sends half_props) ∷ answered at_half Events.Take ∷ answered at_turn (Events.Flushed 1)
    ∷ Steps rolls_back (Some (Events.After done_reply 1 1)) ∷ answered at_rolled_back Events.Take ∷ answered at_op_turn (Events.Flushed 1)
    ∷ Steps (Events.Look 1 1) (Some (Events.Looked Events.IsFlushed)) ∷ []

-- or all crashes once its op record is flushed, and the Rollback is said again
abbrev pub at_kept_op : Boot
at_kept_op = record { now = crashed at_op_flushed.now 2 setup; before = [] }

abbrev pub at_undone_again : Boot
at_undone_again = stepped at_kept_op rolls_back

abbrev pub until_undone_again : List Move
until_undone_again = answered at_opening (sends half_props) ∷ answered at_half Events.Take ∷ answered at_turn (Events.Flushed 1)
    ∷ Steps rolls_back (Some (Events.After done_reply 1 1)) ∷ answered at_rolled_back Events.Take ∷ answered at_op_turn (Events.Flushed 1)
    ∷ Crashes 2 setup ∷ Steps rolls_back (Some (Events.Replies done_reply)) ∷ []

-- a Commit is refused then
abbrev pub at_refused : Boot
at_refused = stepped at_rolled_back commits

abbrev pub until_refused : List Move
until_refused = answered at_opening (sends half_props) ∷ answered at_half Events.Take ∷ answered at_turn (Events.Flushed 1)
    ∷ answered at_flushed rolls_back ∷ answered at_rolled_back commits ∷ []
