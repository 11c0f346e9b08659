-- The room that the records of an event find, and what the event answers and leaves by it.
use Rattle.std.specs.Prelude.{ℕ, ◌+◌, ◌^◌, nat_lt, Bool, List, sum_by, codes, Option, Some, None, if◌then◌else◌}
use Rattle.std.specs.List.{list_any}
use Rattle.record_codec.specs.Entry.{Entry}
use Rattle.record_codec.specs.Layout.{size}
use Rattle.broker_model.specs.State.{State, pending_bytes}
use Rattle.broker_model.specs.Events as model
use Rattle.broker_model.specs.Refusals.{plain_reply}
use Rattle.broker_model.specs.Answers.{carried_out_answer, end_of_log}
use Rattle.broker_model.specs.Step.{with_records}
use Rattle.broker_events.specs.declared.said.Said.{Said}
use Rattle.broker_events.specs.Steps.{Says}
use Rattle.core_log.specs.declared.room.Room.{Room}
use Rattle.core_log.specs.declared.room.Room.TheVariants.{Free, Past, Full}

-- the record would end past all places
abbrev pub is_past : Entry → Bool
is_past r = nat_lt (2 ^ 62) (r.offset + size r)

-- with the record more bytes would be pending than the buffer takes
abbrev pub is_over : State → Entry → Bool
is_over s r = nat_lt 67108864 (pending_bytes s + size r)

-- the room for these records, of which there are some: none where one would end past all places, or where the buffer is full
abbrev pub room_of : State → List Entry → Room
room_of s records =
    if list_any is_past records then Past
    else (if nat_lt 67108864 (pending_bytes s + sum_by size records) then Full s.flushed else Free)

-- the model's answer to an event with these records, by the room for them
abbrev pub answer_in : Room → State → model.Event → List Entry → model.Answer
answer_in Free s e records = carried_out_answer s e records
answer_in Past s e records = end_of_log e
answer_in (Full pending) s e records = model.Full pending

-- the state after it, where it changes nothing but the log and the time
abbrev pub state_in : Room → State → ℕ → List Entry → State
state_in Free s now records = with_records s now records
state_in Past s now records = s
state_in (Full pending) s now records = s

-- what a request is told that finds no room
abbrev pub IsRefusal : Room → Option Said → Type 0
IsRefusal Free None = Unit {0}
IsRefusal Free (Some said) = ⊥
IsRefusal Past None = ⊥
IsRefusal Past (Some said) = Says said (model.Replies (plain_reply 14 (codes "log end")))
IsRefusal (Full pending) None = ⊥
IsRefusal (Full pending) (Some said) = Says said (model.Full pending)

-- the same of a check
abbrev pub IsOwnRefusal : Room → Option Said → Type 0
IsOwnRefusal Free None = Unit {0}
IsOwnRefusal Free (Some said) = ⊥
IsOwnRefusal Past None = ⊥
IsOwnRefusal Past (Some said) = Says said model.LogEnd
IsOwnRefusal (Full pending) None = ⊥
IsOwnRefusal (Full pending) (Some said) = Says said (model.Full pending)
