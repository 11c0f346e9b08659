mod AskLemmas
mod RoundLemmas
mod FillLemmas
mod SumLemmas
mod DamageLemmas
mod RunLemmas
mod EndLemmas
mod SettlingLemmas
