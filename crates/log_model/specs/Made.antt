-- How long the records are that the broker makes of a record, and when they can be written.
use Rattle.std.specs.Prelude.{ℕ, ◌+◌, ◌≤◌, List, length, codes, Option, Some, None}
use Rattle.record_codec.specs.Entry.{Entry}
use Rattle.record_codec.specs.Props.{value_of, written}

-- how many bytes a text has, none where it is absent
abbrev pub text_size : Option (List ℕ) → ℕ
text_size None = 0
text_size (Some text) = length text

-- how many bytes a property takes in its written form, none where it is absent: its name, its value, byte 1 and byte 2
abbrev pub prop_size : List ℕ → Option (List ℕ) → ℕ
prop_size name None = 0
prop_size name (Some value) = length name + length value + 2

-- the same of the record's property of this name
abbrev pub prop_size_in : List ℕ → Entry → ℕ
prop_size_in name r = prop_size name (value_of name r.props)

-- The body of this record can be written into a segment of S bytes, with a topic of so many bytes, and with the record's
-- properties less `dropped` bytes and with `added` bytes more.
pub record CanBeMade (S : ℕ) (r : Entry) (topic dropped added : ℕ) : Type 0 where
  pub body : length r.body ≤ 4194304
  pub props : length (written r.props) + added + 14 ≤ 32767 + dropped
  pub fits : 105 + length r.body + topic + length (written r.props) + added + 8 ≤ S + dropped

-- The renewal of a half message has the number of its origin, of 19 digits at most, and its own, of 2 at most, in the place of
-- those that the half has. It can be written, also in the topic of discarded halves, which is the longer one.
abbrev pub CanBeRenewed : ℕ → Entry → Type 0
CanBeRenewed S r =
    CanBeMade S r 26 (prop_size_in (codes "TRAN_PREPARED_QUEUE_OFFSET") r + prop_size_in (codes "TRANSACTION_CHECK_TIMES") r) 74

-- a half message can be written as it is in the topic of discarded halves
abbrev pub CanBeDiscarded : ℕ → Entry → Type 0
CanBeDiscarded S r = CanBeMade S r 26 0 0

-- The delivery of a delayed message has a `DELAY_FROM` of 22 bytes at most in the place of `DELAY`, and of the topic and the
-- queue that the message tells. It can be written in that topic.
abbrev pub CanBeDelivered : ℕ → Entry → Type 0
CanBeDelivered S r = CanBeMade S r (text_size (value_of (codes "REAL_TOPIC") r.props))
    (prop_size_in (codes "DELAY") r + prop_size_in (codes "REAL_TOPIC") r + prop_size_in (codes "REAL_QID") r) 34
