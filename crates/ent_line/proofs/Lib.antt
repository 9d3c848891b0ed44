mod AskingLemmas
mod CommandLemmas
mod ExplainedLemmas
mod FailedLemmas
pub mod HandleLemmas
mod HeadlineLemmas
mod HistoryLemmas
pub mod KeptLemmas
pub mod KnownLemmas
pub mod LineLemmas
mod ListedLemmas
pub mod PieceLemmas
mod PrintedLemmas
mod ReplyLemmas
pub mod ReportLemmas
pub mod ServeLemmas
mod SessionLemmas
pub mod StandingLemmas
mod TextLemmas
