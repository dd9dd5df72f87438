use Rattle.std.proofs.Common.{ap, arith, refl, sym, subst}
use Rattle.command_inputs.specs.Inputs.{most_bytes, most_of_record}
use Rattle.command_line.specs.Commands.{Request, of_convert, of_program, of_ring, of_run}
use Rattle.command_line.specs.Requests.{names_of, request}
use Rattle.command_shell.specs.Programs.{MayOpen}
use Rattle.command_shell.proofs.Laws.{all_within, none_within, stays_for}
use Rattle.pool_driver.specs.Inputs.{inputs}
use Rattle.pool_driver.proofs.OutputLaws.{makes_for, ring_makes}
use Rattle.pool_driver.proofs.outputs.make_output.Goals as goal

pub run_output-requires-clause-allowed : goal.run_output-requires-clause-allowed
run_output-requires-clause-allowed g c = subst (λ (r : Request). MayOpen (g.F.Files.may c.args.files.now) (g.F.Files.opens c.args.files.now) (inputs r)) (ap request c.in-Run.is) c.requires.allowed

pub returns-in-Run-clause-makes : goal.returns-in-Run-clause-makes
returns-in-Run-clause-makes g c = makes_for _ _ _ c.run_output.result (sym (ap request c.in-Run.is)) c.run_output.ensures.makes

pub program_output-requires-clause-allowed : goal.program_output-requires-clause-allowed
program_output-requires-clause-allowed g c = subst (λ (r : Request). MayOpen (g.F.Files.may c.args.files.now) (g.F.Files.opens c.args.files.now) (inputs r)) (ap request c.in-Program.is) c.requires.allowed

pub returns-in-Program-clause-makes : goal.returns-in-Program-clause-makes
returns-in-Program-clause-makes g c = makes_for _ _ _ c.program_output.result (sym (ap request c.in-Program.is)) c.program_output.ensures.makes

pub returns-in-Ring-clause-makes : goal.returns-in-Ring-clause-makes
returns-in-Ring-clause-makes g c =
    makes_for _ _ _ c.ring_output.result (sym (ap request c.in-Ring.is)) (ring_makes _ c.in-Ring.cells c.ring_output.result refl c.requires.not_live refl c.ring_output.ensures)

pub convert_output-requires-clause-allowed : goal.convert_output-requires-clause-allowed
convert_output-requires-clause-allowed g c = subst (λ (r : Request). MayOpen (g.F.Files.may c.args.files.now) (g.F.Files.opens c.args.files.now) (inputs r)) (ap request c.in-Convert.is) c.requires.allowed

pub returns-in-Convert-clause-makes : goal.returns-in-Convert-clause-makes
returns-in-Convert-clause-makes g c = makes_for _ _ _ c.convert_output.result (sym (ap request c.in-Convert.is)) c.convert_output.ensures.makes

pub returns-in-Run-clause-unread_within : goal.returns-in-Run-clause-unread_within
returns-in-Run-clause-unread_within g c = stays_for _ _ _ _ _ (ap inputs (sym (ap request c.in-Run.is))) (all_within _ _ _ most_bytes (inputs (of_run c.in-Run.show (names_of c.in-Run.names))) (omega arith, (omega arith, (omega arith, tt))) c.run_output.ensures.unread_within)

pub returns-in-Program-clause-unread_within : goal.returns-in-Program-clause-unread_within
returns-in-Program-clause-unread_within g c = stays_for _ _ _ _ _ (ap inputs (sym (ap request c.in-Program.is))) (all_within _ _ _ most_bytes (inputs (of_program c.in-Program.ask c.in-Program.name.now)) (omega arith, tt) c.program_output.ensures.unread_within)

pub returns-in-Ring-clause-unread_within : goal.returns-in-Ring-clause-unread_within
returns-in-Ring-clause-unread_within g c = stays_for _ _ _ _ _ (ap inputs (sym (ap request c.in-Ring.is))) (none_within _ _ _ (inputs (of_ring c.in-Ring.cells)) refl)

pub returns-in-Convert-clause-unread_within : goal.returns-in-Convert-clause-unread_within
returns-in-Convert-clause-unread_within g c = stays_for _ _ _ _ _ (ap inputs (sym (ap request c.in-Convert.is))) (all_within _ _ _ most_of_record (inputs (of_convert c.in-Convert.name.now)) (omega arith, tt) c.convert_output.ensures.unread_within)

pub check_output-requires-clause-allowed : goal.check_output-requires-clause-allowed
check_output-requires-clause-allowed g c = subst (λ (r : Request). MayOpen (g.F.Files.may c.args.files.now) (g.F.Files.opens c.args.files.now) (inputs r)) (ap request c.in-Check.is) c.requires.allowed

pub returns-in-Check-clause-makes : goal.returns-in-Check-clause-makes
returns-in-Check-clause-makes g c = makes_for _ _ _ c.check_output.result (sym (ap request c.in-Check.is)) c.check_output.ensures.makes

pub returns-in-Check-clause-unread_within : goal.returns-in-Check-clause-unread_within
returns-in-Check-clause-unread_within g c = stays_for _ _ _ _ _ (ap inputs (sym (ap request c.in-Check.is))) c.check_output.ensures.unread_within

pub load_output-requires-clause-allowed : goal.load_output-requires-clause-allowed
load_output-requires-clause-allowed g c = subst (λ (r : Request). MayOpen (g.F.Files.may c.args.files.now) (g.F.Files.opens c.args.files.now) (inputs r)) (ap request c.in-Load.is) c.requires.allowed

pub returns-in-Load-clause-makes : goal.returns-in-Load-clause-makes
returns-in-Load-clause-makes g c = makes_for _ _ _ c.load_output.result (sym (ap request c.in-Load.is)) c.load_output.ensures.makes

pub returns-in-Load-clause-unread_within : goal.returns-in-Load-clause-unread_within
returns-in-Load-clause-unread_within g c = stays_for _ _ _ _ _ (ap inputs (sym (ap request c.in-Load.is))) c.load_output.ensures.unread_within
