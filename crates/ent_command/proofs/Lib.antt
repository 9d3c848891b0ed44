pub mod ChangeLemmas
pub mod CommandWords
pub mod ReadLemmas
pub mod SelectingLemmas
