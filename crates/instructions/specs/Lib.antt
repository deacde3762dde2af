-- An instruction at the front of some words, and its answer in place.
pub mod Answering
