-- The command of the definition that a command of the code represents.
use Rattle.std.specs.Prelude.{◌≤◌}
use Rattle.command_line.specs.declared.command.Files.{Files}
use Rattle.command_line.specs.declared.command.Command.{Command}
use Rattle.command_line.specs.declared.command.Command.TheVariants as C
use Rattle.command_line.specs.Commands.{FileNames, Request, of_run, of_program, of_ring, of_convert, of_check, of_load}

abbrev pub names_of : Files → FileNames
names_of f = record { program = f.program.now; placement = f.placement.now; schedule = f.schedule.now }

abbrev pub request : Command → Request
request (C.Run show files) = of_run show (names_of files)
request (C.Program ask name) = of_program ask name.now
request (C.Ring cells) = of_ring cells
request (C.Convert name) = of_convert name.now
request (C.Check program record_name) = of_check program.now record_name.now
request (C.Load unit placement schedule) = of_load unit.now placement.now schedule.now

-- a ring has from 2 to 1000 cells
abbrev pub IsSized : Command → Type 0
IsSized (C.Run show files) = Unit {0}
IsSized (C.Program ask name) = Unit {0}
IsSized (C.Ring cells) = (2 ≤ cells) × (cells ≤ 1000)
IsSized (C.Convert name) = Unit {0}
IsSized (C.Check program record_name) = Unit {0}
IsSized (C.Load unit placement schedule) = Unit {0}
