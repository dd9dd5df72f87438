-- The parser of the command line in terms of `clap`, and the command of its matches.
use Rattle.std.specs.Prelude.{List, [], ◌∷◌, Option, Some, None, option_map, option_and_then, true, codes, fold, bytes_eq, if◌then◌else◌}
use Rattle.text_scan.specs.Text.{Text}
use Rattle.text_scan.specs.Lines.{decimal_of}
use Rattle.clap.specs.Words.{App, Row, Rule, Shape, first_of, new_app, new_rule, with_rule, with_subcommand}
use Rattle.clap.specs.Simple.{on_top}
use Rattle.command_line.specs.Commands.{Request, ask_of, of_check, of_convert, of_load, of_program, of_ring, of_run, ring_size, show_of}
use Rattle.command_line.specs.declared.command.Ask.{Ask}
use Rattle.command_line.specs.declared.command.Show.{Show}

-- a required positional argument of this name
abbrev pub positional : Text → Rule
positional id = record (new_rule id) { required = true }

-- a command with a required argument for each of these names
abbrev pub words_app : Text → List Text → App
words_app name ids = fold (λ a id. with_rule a (positional id)) (new_app name) ids

-- a command with a subcommand for each row of its name and the names of its arguments
abbrev pub with_each : App → List (Text × List Text) → App
with_each app rows = fold (λ a row. with_subcommand a (words_app row.0 row.1).top) app rows

-- the program's name is no argument, there is no help, and a subcommand is required
abbrev pub settings : Shape → Shape
settings s = record s { no_binary_name = true; disable_help_flag = true; disable_help_subcommand = true; subcommand_required = true }

-- the names of the arguments of a command that runs a program or an object code file, which comes first
abbrev pub three_inputs : List Text
three_inputs = codes "program" ∷ codes "placement" ∷ codes "schedule" ∷ []

-- the subcommands, each with the names of its arguments
abbrev pub subcommands : List (Text × List Text)
subcommands =
    (codes "record", three_inputs) ∷ (codes "run", three_inputs) ∷ (codes "why", three_inputs)
    ∷ (codes "print", codes "program" ∷ []) ∷ (codes "code", codes "program" ∷ []) ∷ (codes "ring", codes "cells" ∷ []) ∷ (codes "convert", codes "record" ∷ [])
    ∷ (codes "check", codes "program" ∷ codes "record" ∷ []) ∷ (codes "build", codes "program" ∷ []) ∷ (codes "load", three_inputs) ∷ []

abbrev pub pool_app : App
pool_app = with_each (on_top settings (new_app (codes "pool"))) subcommands

-- the commands of the matches of a subcommand

abbrev pub with_names : Show → Option Text → Option Text → Option Text → Option Request
with_names show (Some p) (Some l) (Some s) = Some (of_run show (record { program = p; placement = l; schedule = s }))
with_names show _ _ _ = None

abbrev pub run_request : Show → List Row → Option Request
run_request show rows = with_names show (first_of (codes "program") rows) (first_of (codes "placement") rows) (first_of (codes "schedule") rows)

abbrev pub program_request : Ask → List Row → Option Request
program_request ask rows = option_map (of_program ask) (first_of (codes "program") rows)

abbrev pub ring_request : List Row → Option Request
ring_request rows = option_and_then (λ k. option_map of_ring (ring_size (decimal_of k))) (first_of (codes "cells") rows)

abbrev pub convert_request : List Row → Option Request
convert_request rows = option_map of_convert (first_of (codes "record") rows)

abbrev pub with_record : Option Text → Option Text → Option Request
with_record (Some p) (Some r) = Some (of_check p r)
with_record _ _ = None

abbrev pub check_request : List Row → Option Request
check_request rows = with_record (first_of (codes "program") rows) (first_of (codes "record") rows)

abbrev pub with_unit : Option Text → Option Text → Option Text → Option Request
with_unit (Some u) (Some l) (Some s) = Some (of_load u l s)
with_unit _ _ _ = None

abbrev pub load_request : List Row → Option Request
load_request rows = with_unit (first_of (codes "program") rows) (first_of (codes "placement") rows) (first_of (codes "schedule") rows)

abbrev pub other_request : Option Ask → Text → List Row → Option Request
other_request (Some ask) name rows = program_request ask rows
other_request None name rows =
    if bytes_eq name (codes "ring") then ring_request rows else (if bytes_eq name (codes "convert") then convert_request rows
    else (if bytes_eq name (codes "check") then check_request rows else (if bytes_eq name (codes "load") then load_request rows else None)))

abbrev pub named_request : Option Show → Text → List Row → Option Request
named_request (Some show) name rows = run_request show rows
named_request None name rows = other_request (ask_of name) name rows

-- the command of a subcommand with these matches
abbrev pub matched_request : Option (Text × List Row) → Option Request
matched_request None = None
matched_request (Some p) = named_request (show_of p.0) p.0 p.1
