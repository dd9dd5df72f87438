pub mod AppendedWords
