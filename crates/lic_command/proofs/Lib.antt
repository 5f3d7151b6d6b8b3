mod CommandLemmas
mod LineLemmas
mod examples
