-- The commands of `pool`, from the crate that reads the command line.
pub use Rattle.command_line.specs.Commands.{FileNames, Request, of_run, of_program, of_ring, of_load, request_of, texts_of}
