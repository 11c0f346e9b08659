pub mod AnswerLemmas
mod AskedLemmas
mod CheckBackLemmas
mod CheckLemmas
mod CheckedOrigins
mod DeliverLemmas
mod DueChecks
mod DueLemmas
pub mod EventLemmas
mod GivenUpLemmas
pub mod GroupLemmas
pub mod HeartbeatLemmas
mod JudgeLemmas
pub mod LegalLemmas
mod MadeLemmas
mod MessageLemmas
pub mod PullLemmas
pub mod QueryLemmas
pub mod ReadLemmas
mod RenewalPlaces
pub mod ReplyLemmas
pub mod RoomLemmas
pub mod RoomSteps
pub mod SaidLemmas
pub mod SendLemmas
pub mod ShownLemmas
pub mod StateLemmasReads
pub mod StepLemmas
mod StorableLemmas
mod VerdictLemmas
