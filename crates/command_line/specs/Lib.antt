pub mod CommandLine
pub mod QueryWords
