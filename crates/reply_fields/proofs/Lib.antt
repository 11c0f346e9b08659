pub mod BodyLemmas
pub mod ReplyLemmas
pub mod AskLemmas
pub mod SentLemmas
pub mod GrantedLemmas
