pub mod ReaderLemmas
mod RemarkLemmas
mod Responses
mod RoomLemmas
mod ServingSteps
pub mod SessionLaws
mod SessionParts
mod SettlingSteps
mod TalkLaws
