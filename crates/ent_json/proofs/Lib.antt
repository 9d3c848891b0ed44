mod DottedLemmas
pub mod MemberLemmas
pub mod ObjectLemmas
mod PlainLemmas
pub mod Reading
pub mod TextLemmas
mod WrittenLemmas
