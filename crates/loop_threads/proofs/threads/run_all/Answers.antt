use Rattle.std.proofs.Common.{Bool}
use mir.Syntax.{of_param}
use denote.Exit.{if_kept, unseen}
use denote.Param.Send.{Quiet, Quiet-if}
use Rattle.loop_threads.proofs.threads.run_all.Goals as goal

-- a value that is seen at no exit
kept : {D : Type 0} (b : Bool) → Quiet (if_kept b (unseen {D = D}) (unseen {D = D}))
kept {D} b = Quiet-if b (unseen {D = D}) (unseen {D = D}) (λ x w. tt) (λ x w. tt)

pub join-keeping-requires-after_bounds : goal.join-keeping-requires-after_bounds
join-keeping-requires-after_bounds g c κs within =
    let is = c.type_bounds in (
      (
        (
          record { owned = is.send-P-Link.owned; leaving = λ k. kept (k (of_param 5)) },
          record { owned = is.send-P-Door.owned; leaving = λ k. kept (k (of_param 6)) },
          record { owned = is.send-P-Ends.owned; leaving = λ k. kept (k (of_param 7)) },
          record { owned = is.send-P-Waker.owned; leaving = λ k. kept (k (of_param 8)) },
        ),
        (
          record { owned = is.send-P.owned; leaving = λ k. kept (k (of_param 1)) },
          record { owned = is.send-D.owned; leaving = λ k. kept (k (of_param 2)) },
          record { owned = is.send-K.owned; leaving = λ k. kept (k (of_param 3)) },
          record { owned = is.send-C.owned; leaving = λ k. kept (k (of_param 4)) },
          record { owned = is.send-P-Link.owned; leaving = λ k. kept (k (of_param 5)) },
          record { owned = is.send-P-Door.owned; leaving = λ k. kept (k (of_param 6)) },
          record { owned = is.send-P-Ends.owned; leaving = λ k. kept (k (of_param 7)) },
          record { owned = is.send-P-Waker.owned; leaving = λ k. kept (k (of_param 8)) },
          record { owned = is.send-D-Reader.owned; leaving = λ k. kept (k (of_param 9)) },
          record { shared = is.sync-W.shared },
          record { shared = is.sync-P.shared },
          record { shared = is.sync-P-Waker.shared },
        ),
      ),
      (
        (
          record { shared = is.sync-W.shared },
          record { owned = is.send-P.owned; leaving = λ k. kept (k (of_param 1)) },
          record { shared = is.sync-P.shared },
          record { owned = is.send-P-Link.owned; leaving = λ k. kept (k (of_param 7)) },
          record { owned = is.send-P-Door.owned; leaving = λ k. kept (k (of_param 8)) },
          record { owned = is.send-P-Waker.owned; leaving = λ k. kept (k (of_param 10)) },
          record { shared = is.sync-P-Waker.shared },
          record { owned = is.send-K.owned; leaving = λ k. kept (k (of_param 3)) },
          record { owned = is.send-C.owned; leaving = λ k. kept (k (of_param 4)) },
          record { owned = is.send-R.owned; leaving = λ k. kept (k (of_param 5)) },
          record { owned = is.send-E.owned; leaving = λ k. kept (k (of_param 6)) },
          record { owned = is.send-D.owned; leaving = λ k. kept (k (of_param 2)) },
        ),
        (
          record { owned = is.send-P.owned; leaving = λ k. kept (k (of_param 1)) },
          record { owned = is.send-D.owned; leaving = λ k. kept (k (of_param 2)) },
          record { owned = is.send-K.owned; leaving = λ k. kept (k (of_param 3)) },
          record { owned = is.send-C.owned; leaving = λ k. kept (k (of_param 4)) },
          record { owned = is.send-R.owned; leaving = λ k. kept (k (of_param 5)) },
          record { owned = is.send-E.owned; leaving = λ k. kept (k (of_param 6)) },
          record { owned = is.send-P-Link.owned; leaving = λ k. kept (k (of_param 7)) },
          record { owned = is.send-P-Door.owned; leaving = λ k. kept (k (of_param 8)) },
          record { owned = is.send-P-Ends.owned; leaving = λ k. kept (k (of_param 9)) },
          record { owned = is.send-P-Waker.owned; leaving = λ k. kept (k (of_param 10)) },
          record { owned = is.send-D-Reader.owned; leaving = λ k. kept (k (of_param 11)) },
          record { shared = is.sync-W.shared },
          record { shared = is.sync-P.shared },
          record { shared = is.sync-P-Waker.shared },
        ),
      ),
    )

pub returns-clause-worked : goal.returns-clause-worked
returns-clause-worked g c = c.close.ensures.1.represented
