pub mod ReadLemmas
pub mod TypeLemmas
pub mod DoubleLemmas
pub mod FittingLemmas
pub mod TextLemmas
pub mod TokenLemmas
pub mod SpelledLemmas
