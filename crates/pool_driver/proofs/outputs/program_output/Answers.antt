use Rattle.std.proofs.Common.{ap, sym}
use Rattle.command_line.specs.declared.command.Ask.{Ask}
use Rattle.command_line.specs.Commands.{of_program}
use Rattle.pool_driver.proofs.OutputLaws.{makes_for}
use Rattle.pool_driver.proofs.outputs.program_output.Goals as goal

pub returns-in-Canonical-clause-makes : goal.returns-in-Canonical-clause-makes
returns-in-Canonical-clause-makes g c =
    makes_for _ _ _ c.canonical_output.result (ap (λ (a : Ask). of_program a c.args.name.now) (sym c.in-Canonical.is)) c.canonical_output.ensures.makes

pub returns-in-Listing-clause-makes : goal.returns-in-Listing-clause-makes
returns-in-Listing-clause-makes g c =
    makes_for _ _ _ c.listing_output.result (ap (λ (a : Ask). of_program a c.args.name.now) (sym c.in-Listing.is)) c.listing_output.ensures.makes

pub returns-in-File-clause-makes : goal.returns-in-File-clause-makes
returns-in-File-clause-makes g c =
    makes_for _ _ _ c.file_output.result (ap (λ (a : Ask). of_program a c.args.name.now) (sym c.in-File.is)) c.file_output.ensures.makes
