pub mod PlainWords
pub mod CommandLineMatches
