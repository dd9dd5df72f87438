-- The lemmas that other crates may cite.
-- Code of a verified file has names of the language, its records are readable, and a short file can be written.
-- A file is not a program, and a text with a fault is not a verified file.
pub use Rattle.pool_driver.proofs.SpelledFiles.{verified_spelled}
pub use Rattle.pool_driver.proofs.ReadableFiles.{file_reads, file_reads_on_wires}
pub use Rattle.pool_driver.proofs.WritableFiles.{verified_writable}
pub use Rattle.pool_driver.proofs.NoProgram.{no_program}
pub use Rattle.pool_driver.proofs.OneFilePerText.{said_once, refused}
