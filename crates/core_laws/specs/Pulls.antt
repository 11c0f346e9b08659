-- What a pull is of its queue.
use Rattle.std.specs.Prelude.{◌≡◌, ℕ, ◌++◌, List, filter}
use Rattle.record_codec.specs.Entry.{Entry}
use Rattle.record_codec.specs.Units.{unit_of}
use Rattle.log_model.specs.Pulls.{takes}

-- The body has those records that the words take of a piece of the queue, in its order.
pub record IsSliceOf (queue : List Entry) (words : List ℕ) (body : List Entry) : Type 0 where
  pub before : List Entry
  pub piece : List Entry
  pub behind : List Entry
  pub whole : queue ≡ before ++ (piece ++ behind)
  pub taken : body ≡ filter (λ r. takes words (unit_of r)) piece
