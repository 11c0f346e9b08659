-- The generator's items: what each asks the broker for.
use Rattle.std.specs.Prelude.{ℕ, ◌+◌, ◌%◌, ◌==◌, nat_lt, List, [], ◌∷◌, ◌++◌, codes, pos, negsuc, if◌then◌else◌}
use Rattle.mq_bytes.specs.Decimal.{digits_of}
use Rattle.request_fields.specs.declared.request.Request.{Request}
use Rattle.request_fields.specs.declared.request.Request.TheVariants.{Send, Pull as Pulls, EndTransaction}
use Rattle.gen_run.specs.declared.kinds.Kind.{Kind}
use Rattle.gen_run.specs.declared.kinds.Kind.TheVariants.{Plain, Commit, RollBack, Pull, Delayed}

-- what the item with this number asks for: the last digit says it
abbrev pub kind_at : ℕ → Kind
kind_at i = if nat_lt (i % 10) 6 then Plain else (if i % 10 == 6 then Commit else (if i % 10 == 7 then RollBack
    else (if i % 10 == 8 then Pull else Delayed)))

-- at which time, in milliseconds
abbrev pub time_of : ℕ → ℕ
time_of i = 1000 + i

-- of which queue of the topic `gen`
abbrev pub queue_at : ℕ → ℕ → ℕ
queue_at start i = (i + start) % 4

-- the property text of its message, where 1 ends a name and 2 ends a value
abbrev pub props_of : Kind → ℕ → List ℕ
props_of Plain i = codes "KEYS" ++ (1 ∷ (digits_of i ++ (2 ∷ [])))
props_of Commit i = codes "TRAN_MSG" ++ (1 ∷ (codes "true" ++ (2 ∷ [])))
props_of RollBack i = codes "TRAN_MSG" ++ (1 ∷ (codes "true" ++ (2 ∷ [])))
props_of Pull i = []
props_of Delayed i = codes "DELAY" ++ (1 ∷ (codes "1" ++ (2 ∷ [])))

-- the send of its message, whose body is its number
abbrev pub send_of : ℕ → ℕ → Kind → Request
send_of start i kind = Send (record {
  group = codes "P";
  topic = codes "gen";
  queue = pos (queue_at start i);
  sysflag = pos 0;
  born = time_of i;
  flag = pos 0;
  default_topic = codes "TBW102";
  default_queues = pos 4;
  props = props_of kind i;
  reconsume = pos 0;
  body = digits_of i;
})

-- the pull of its queue from the start, whatever tags the messages have
abbrev pub pull_of : ℕ → ℕ → Request
pull_of start i = Pulls (record {
  group = codes "P";
  topic = codes "gen";
  queue = queue_at start i;
  from = pos 0;
  most = pos 32;
  sysflag = pos 4;
  commit = negsuc 0;
  suspend = pos 0;
  subscription = codes "*";
  expression = [];
})

-- the verdict on the half message with this queue offset, at this place: 8 commits it, 12 rolls it back
abbrev pub verdict_on : ℕ → ℕ → ℕ → Request
verdict_on queue_offset place verdict = EndTransaction (record {
  group = codes "P";
  queue_offset = queue_offset;
  place = place;
  verdict = verdict;
  msg_id = [];
})
