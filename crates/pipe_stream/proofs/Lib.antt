mod RequestLemmas
mod AskLemmas
mod HeldLemmas
mod PipeLemmas
mod RemarkLemmas
mod ServingLemmas
mod TellingLemmas
mod DueLemmas
