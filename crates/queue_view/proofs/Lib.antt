pub mod Lists
pub mod PullLemmas
pub mod TagLemmas
pub mod AnswerLemmas
pub mod NumberLemmas
pub mod NumberedLemmas
pub mod AddedLemmas
pub mod RemovalLemmas
