use Rattle.std.proofs.Common.{refl}
use Rattle.session.specs.Sessions.{fed}
use Rattle.link_service.proofs.Went.{unread_none, unread_whole, unread_breaks, same_bytes}
use Rattle.link_service.proofs.linked.Linked.read_once.Goals as goal

pub returns-in-Ok : goal.returns-in-Ok
returns-in-Ok g c = record {
  went = unread_whole _ _ _ (fed _) _ c.requires.whole c.requires.whole (c.in-Ok.ensures.ok, c.in-Ok.ensures.rest) tt refl refl
      (rw c.in-Ok-Bytes.field-0-is at c.in-Ok-Bytes.ensures.given) (same_bytes _ _ _ c.in-Ok-Bytes.ensures.taken);
}

pub returns-in-Err-feed : goal.returns-in-Err-feed
returns-in-Err-feed g c = record {
  went = unread_breaks _ _ _ (fed _) _ c.requires.whole refl (c.in-Err-feed.ensures.err, c.in-Err-feed.ensures.rest) tt refl refl c.in-Ok-Bytes.ensures.given
      (same_bytes _ _ _ c.in-Ok-Bytes.ensures.taken);
}

pub returns-in-Ok-NotNow : goal.returns-in-Ok-NotNow
returns-in-Ok-NotNow g c =
    record { went = unread_none _ _ _ refl (λ was. was) (rw c.in-Ok-NotNow.field-0-is at c.in-Ok-NotNow.ensures.given) c.in-Ok-NotNow.ensures.taken }

pub returns-in-Ok-End : goal.returns-in-Ok-End
returns-in-Ok-End g c =
    record { went = unread_none _ _ _ refl (λ was. was) (rw c.in-Ok-End.field-0-is at c.in-Ok-End.ensures.given) c.in-Ok-End.ensures.taken }

pub returns-in-Err : goal.returns-in-Err
returns-in-Err g c = record { went = unread_none _ _ _ refl (λ was. refl) c.in-Err.ensures.given c.in-Err.ensures.taken }
