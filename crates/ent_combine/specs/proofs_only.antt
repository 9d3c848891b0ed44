pub mod Choose
