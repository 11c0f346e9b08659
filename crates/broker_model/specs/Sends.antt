-- The record of a send: a plain message, a half message, or a delayed one.
use Rattle.std.specs.Prelude.{ℕ, ◌-◌, ◌||◌, ◌==◌, nat_lt, not, min, List, codes, ℤ, pos, negsuc}
use Rattle.std.specs.Prelude.{bit_and, Bool, false, Option, Some, None, if◌then◌else◌}
use Rattle.std.specs.Str.{str_eq_ignore_ascii_case}
use Rattle.std.specs.Int.{w32, cast_unsigned}
use Rattle.mq_bytes.specs.Decimal.{digits_of, decimal_value}
use Rattle.record_codec.specs.Props.{value_of, with_prop, without, has_name}
use Rattle.record_codec.specs.LaxProps.{read_props}
use Rattle.record_codec.specs.declared.draft.Draft.{Draft}
use Rattle.log_model.specs.Admissible.{half_topic, level_topic}
use Rattle.log_model.specs.Drafts.{plain_flag}
use Rattle.request_fields.specs.Requests.{SendSaid}

-- ---- what a send says

-- the value is this word, in any case of letters
abbrev pub is_word : List ℕ → Option (List ℕ) → Bool
is_word word None = false
is_word word (Some value) = str_eq_ignore_ascii_case value word

-- the properties of a send without the names that the broker keeps for itself
abbrev pub kept_props : List ℕ → List (List ℕ × List ℕ)
kept_props text =
    without (codes "SEAL") (without (codes "REAL_TOPIC") (without (codes "REAL_QID") (without (codes "DELAY_FROM")
    (without (codes "TRAN_PREPARED_QUEUE_OFFSET") (without (codes "TRANSACTION_CHECK_TIMES") (read_props text))))))

-- the queue that a send names: a negative number stands for 0
abbrev pub queue_named : ℤ → ℕ
queue_named (pos n) = n
queue_named (negsuc n) = 0

-- the system flag as 32 bits
abbrev pub flag_of : SendSaid → ℕ
flag_of send = cast_unsigned w32 send.sysflag

-- a half message: its `TRAN_MSG` is `true`, or its system flag says that it is prepared
abbrev pub is_half_send : SendSaid → Bool
is_half_send send = is_word (codes "true") (value_of (codes "TRAN_MSG") (read_props send.props)) || (bit_and (flag_of send) 12 == 4)

-- the delay level that a number names: any from 1 on, with 18 for each greater one
abbrev pub level_named : Option ℤ → Option ℕ
level_named None = None
level_named (Some (pos n)) = if nat_lt 0 n then Some (min n 18) else None
level_named (Some (negsuc n)) = None

-- the delay level that a text names
abbrev pub level_text : Option (List ℕ) → Option ℕ
level_text None = None
level_text (Some text) = level_named (decimal_value text)

-- the delay level of a send, by its `DELAY`
abbrev pub level_of : SendSaid → Option ℕ
level_of send = level_text (value_of (codes "DELAY") (read_props send.props))

-- a message is answered once it is on the disk, unless its `WAIT` is `false`
abbrev pub waits : List (List ℕ × List ℕ) → Bool
waits props = not (is_word (codes "false") (value_of (codes "WAIT") props))

-- ---- the record

-- with the topic and the queue that the message is for
abbrev pub with_real : List ℕ → ℕ → List (List ℕ × List ℕ) → List (List ℕ × List ℕ)
with_real topic queue props = with_prop (codes "REAL_QID") (digits_of queue) (with_prop (codes "REAL_TOPIC") topic props)

-- with the producer's group, where none is named
abbrev pub with_group : List ℕ → List (List ℕ × List ℕ) → List (List ℕ × List ℕ)
with_group group props = if has_name (codes "PGROUP") props then props else with_prop (codes "PGROUP") group props

-- a message as it was sent, from this host
abbrev pub plain_draft : List ℕ → List ℕ → SendSaid → Draft
plain_draft store_host born_host send = record {
  topic = send.topic;
  queue = queue_named send.queue;
  flag = send.flag;
  sysflag = plain_flag (flag_of send);
  born = send.born;
  born_host = born_host;
  store_host = store_host;
  reconsume = send.reconsume;
  prepared = 0;
  body = send.body;
  props = kept_props send.props;
}

-- a message of this producer group as a half message, which isn't delayed
abbrev pub half_draft : List ℕ → Draft → Draft
half_draft group d = record d {
  topic = half_topic;
  queue = 0;
  props = with_group group (with_real d.topic d.queue (without (codes "DELAY") d.props));
}

-- a message as a delayed one of this level
abbrev pub delayed_draft : ℕ → Draft → Draft
delayed_draft level d = record d { topic = level_topic; queue = level - 1; props = with_real d.topic d.queue d.props }

-- a message that has a level is delayed
abbrev pub delayed_or_plain : Option ℕ → Draft → Draft
delayed_or_plain None d = d
delayed_or_plain (Some level) d = delayed_draft level d

-- the record of a send: by its form a half message, a delayed one or a plain one
abbrev pub send_draft : List ℕ → List ℕ → SendSaid → Draft
send_draft store_host born_host send =
    if is_half_send send then half_draft send.group (plain_draft store_host born_host send)
    else delayed_or_plain (level_of send) (plain_draft store_host born_host send)
