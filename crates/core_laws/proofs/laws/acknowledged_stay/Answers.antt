use Rattle.std.proofs.Common.{ap}
use Rattle.broker_model.specs.Run.{Boot}
use Rattle.core_laws.proofs.Acknowledged.{answered_stays}
use Rattle.core_laws.proofs.laws.acknowledged_stay.Goals as goal

pub returns-clause-crash : goal.returns-clause-crash
returns-clause-crash a b c k setup goes = (goes.0.no_less, ap (λ (x : Boot). x.now.log.base) goes.1, ap (λ (x : Boot). x.now.log.records) goes.1)

pub returns-clause-flushed : goal.returns-clause-flushed
returns-clause-flushed a b c moves n r opening h =
    (answered_stays b moves c h.event h.reply h.last opening h.answers n r h.appended.high h.appended.stands).0

pub returns-clause-stays : goal.returns-clause-stays
returns-clause-stays a b c moves n r opening h =
    let all = answered_stays b moves c h.event h.reply h.last opening h.answers n r h.appended.high h.appended.stands in
    (all.1, all.2, all.3)
