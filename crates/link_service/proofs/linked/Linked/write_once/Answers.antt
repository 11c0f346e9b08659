use Rattle.std.proofs.Common.{refl, ◌∙◌, append-nil}
use Rattle.link_service.proofs.Went.{unread_none, unread_sent, same_bytes}
use Rattle.link_service.proofs.linked.Linked.write_once.Goals as goal

pub returns-in-Ok-Some : goal.returns-in-Ok-Some
returns-in-Ok-Some g c = record {
  went = unread_sent _ _ _ _ _ c.requires.whole c.requires.whole c.unsent.ensures c.sent.ensures.unsent c.sent.ensures.held c.sent.ensures.talk c.sent.ensures.owed c.sent.ensures.asked
      c.in-Ok-Some.ensures.given (rw c.in-Ok-Some.field-0-is at c.in-Ok-Some.ensures.taken);
}

pub returns-in-Ok-None : goal.returns-in-Ok-None
returns-in-Ok-None g c = record {
  went = unread_none _ _ _ refl (λ was. was) (same_bytes _ _ _ c.in-Ok-None.ensures.given)
      (λ told. (rw c.in-Ok-None.field-0-is at c.in-Ok-None.ensures.taken) told ∙ append-nil _);
}

pub returns-in-Err : goal.returns-in-Err
returns-in-Err g c = record {
  went = unread_none _ _ _ refl (λ was. refl) (same_bytes _ _ _ c.in-Err.ensures.given) (λ told. c.in-Err.ensures.taken told ∙ append-nil _);
}
