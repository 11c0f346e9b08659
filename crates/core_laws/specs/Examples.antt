-- A run, so that the laws speak of something: `hi` is sent to an empty store, flushed, looked at, dispatched, pulled, an offset is
-- stored and saved, and then all crashes.
use Rattle.std.specs.Prelude.{◌==◌, ◌++◌, List, [], ◌∷◌, codes, pos, Bool, true, Some}
use Rattle.record_codec.specs.Entry.{Entry}
use Rattle.log_model.specs.Bases.{no_base}
use Rattle.log_model.specs.Numbered.{next_record, records_of}
use Rattle.log_model.specs.Transactions.{transaction_state}
use Rattle.log_model.specs.Delays.{progress}
use Rattle.request_fields.specs.Requests.{PullSaid}
use Rattle.request_fields.specs.declared.request.Request.TheVariants.{Pull}
use Rattle.broker_model.specs.Tables.{OffsetRow}
use Rattle.broker_model.specs.State.{State, Setup, seen}
use Rattle.broker_model.specs.Events
use Rattle.broker_model.specs.Answers.{answer_of, reply_with, send_ext, pull_of, pulled_reply}
use Rattle.broker_model.specs.Step.{after}
use Rattle.broker_model.specs.Run.{Boot, Move, Steps, SavesOffsets, Crashes, opened, crashed, with_saved}
use Rattle.broker_model.specs.Examples.{broker, hi, draft_of_hi, no_log}
use Rattle.broker_model.specs.StepExamples.{sends, stores}
use Rattle.core_laws.specs.Replay.{Tables, keyed_by}

-- segments of 1 GiB, and replies that wait for the flush
abbrev pub setup : Setup
setup = record { segment = 1073741824; host = broker; sync = true }

-- an empty store is opened
abbrev pub at_opening : Boot
at_opening = record { now = opened setup no_log (record { offsets = []; topics = []; base = no_base }); before = [] }

-- the event happens
abbrev pub stepped : Boot → Events.Event → Boot
stepped b e = record { now = after b.now e; before = b.now ∷ b.before }

-- it happens, and this is answered
abbrev pub answered : Boot → Events.Event → Move
answered b e = Steps e (Some (answer_of b.now e))

-- ---- `hi` is sent, flushed and looked at

abbrev pub at_send : Boot
at_send = stepped at_opening (sends [])

abbrev pub at_take : Boot
at_take = stepped at_send Events.Take

abbrev pub at_flush : Boot
at_flush = stepped at_take (Events.Flushed 1)

abbrev pub at_look : Boot
at_look = stepped at_flush (Events.Look 0 0)

-- the record of `hi`
abbrev pub hi_record : Entry
hi_record = next_record 1073741824 1000 no_log (draft_of_hi [])

-- the reply to its send
abbrev pub hi_reply : Events.Reply
hi_reply = reply_with (send_ext (hi []) (hi_record ∷ [])) []

-- ---- it is dispatched and pulled

abbrev pub at_dispatch : Boot
at_dispatch = stepped at_look (Events.Dispatch 1)

-- a pull of its queue, and the same as a request at 1000
abbrev pub a_pull : PullSaid
a_pull = record {
  group = codes "G";
  topic = codes "T";
  queue = 0;
  from = pos 0;
  most = pos 32;
  sysflag = pos 0;
  commit = pos 0;
  suspend = pos 0;
  subscription = [];
  expression = [];
}

abbrev pub asked_pull : Events.Asked
asked_pull = record { link = 0; host = broker; now = 1000; request = Pull a_pull }

-- its reply
abbrev pub pull_said : Events.Reply
pull_said = pulled_reply (pull_of at_dispatch.now a_pull)

abbrev pub at_pull : Boot
at_pull = stepped at_dispatch (Events.Asks asked_pull)

abbrev pub until_dispatch : List Move
until_dispatch = Steps (sends []) (Some (Events.After hi_reply 0 0)) ∷ answered at_send Events.Take ∷ answered at_take (Events.Flushed 1)
    ∷ Steps (Events.Look 0 0) (Some (Events.Looked Events.IsFlushed)) ∷ answered at_look (Events.Dispatch 1) ∷ []

-- ---- an offset is stored and saved, and all crashes

-- the offset 9, which is past the end of the queue
abbrev pub at_store : Boot
at_store = stepped at_pull (stores 9)

abbrev pub at_saving : Boot
at_saving = with_saved at_store (record at_store.now.saved { offsets = at_store.now.offsets })

abbrev pub until_saving : List Move
until_saving = Steps (sends []) (Some (Events.After hi_reply 0 0)) ∷ answered at_send Events.Take ∷ answered at_take (Events.Flushed 1)
    ∷ Steps (Events.Look 0 0) (Some (Events.Looked Events.IsFlushed)) ∷ answered at_look (Events.Dispatch 1)
    ∷ Steps (Events.Asks asked_pull) (Some (Events.Replies pull_said)) ∷ answered at_pull (stores 9) ∷ SavesOffsets ∷ []

-- the offset 1 alone may be stored
abbrev pub is_one : OffsetRow → Bool
is_one row = row.offset == 1

-- the crash keeps the record
abbrev pub at_crash : Boot
at_crash = record { now = crashed at_saving.now 1 setup; before = [] }

-- all of it as moves
abbrev pub until_crash : List Move
until_crash = until_saving ++ Crashes 1 setup ∷ []

-- what comes behind the pull
abbrev pub from_pull : List Move
from_pull = answered at_pull (stores 9) ∷ SavesOffsets ∷ Crashes 1 setup ∷ []

-- the same store, opened with a saved offset that lies past the end of its queue
abbrev pub at_cut : Boot
at_cut = record {
  now = opened setup no_log (record {
    offsets = record { group = codes "G"; topic = codes "T"; queue = 0; offset = 9 } ∷ [];
    topics = [];
    base = no_base;
  });
  before = [];
}

-- ---- tables

-- what stands for a state
abbrev pub tables_of : State → Tables
tables_of s = record {
  queues = λ topic queue. records_of (seen s) topic queue;
  keys = λ hash. keyed_by hash (seen s).records;
  states = λ h. transaction_state s.log.records h;
  levels = λ level. progress s.log level;
}
