-- A send's record in the log of a run.
use Rattle.std.specs.Prelude.{◌≡◌, ℕ, ◌+◌, ◌<◌, List, [], ◌∷◌, slice_get, Some}
use Rattle.record_codec.specs.Entry.{Entry}
use Rattle.request_fields.specs.Requests.{SendSaid}
use Rattle.reply_fields.specs.Parts.{ReplyParts}
use Rattle.log_model.specs.Stored.{FlushTurn, turned_in}
use Rattle.broker_model.specs.Answers.{send_ext}
use Rattle.broker_model.specs.State.{State}
use Rattle.program_run.specs.Stand.{IsMessage}

-- a send's record in the log of a run: flushed by these turns, the send's message, and named by the reply
pub record IsSent (opened : ℕ) (reached : State) (turns : List FlushTurn) (send : SendSaid) (reply : ReplyParts) : Type 0 where
  pub number : ℕ
  pub r : Entry
  pub is : slice_get reached.log.records number ≡ Some r
  pub flushed : number < opened + turned_in turns
  pub message : IsMessage send r
  pub named : reply.ext ≡ send_ext send (r ∷ [])
