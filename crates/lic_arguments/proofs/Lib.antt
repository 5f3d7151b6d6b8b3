pub mod CommandLemmas
mod Triples
