use Rattle.std.proofs.Common.{◌≡◌, ap, refl, subst, sym}
use Rattle.command_shell.specs.Programs.{MayOpen}
use Rattle.explore_driver.specs.AskedRequest.{IsSizedCommand, request, wanted}
use Rattle.explore_driver.specs.Ends.{files_of, inputs}
use Rattle.command_shell.proofs.Laws.{stays_for}
use Rattle.explore_driver.specs.declared.words.Asked.{Asked}
use Rattle.explore_driver.specs.declared.words.Asked.TheVariants as A
use Rattle.explore_driver.specs.declared.words.Command.{Command}
use Rattle.explore_driver.proofs.top.serve.Goals as goal

pub make-requires-clause-sized : goal.make-requires-clause-sized
make-requires-clause-sized g c = subst IsSizedCommand c.in-Make.is c.requires.sized

as_inputs : (asked : Asked) → files_of (request asked) ≡ inputs (request asked)
as_inputs (A.Search question name) = refl
as_inputs (A.Watch shown program record_name) = refl
as_inputs (A.Fill program record_name) = refl

pub make-requires-clause-allowed : goal.make-requires-clause-allowed
make-requires-clause-allowed g c =
    let may = MayOpen (g.F.Files.may c.args.files.now) (g.F.Files.opens c.args.files.now) in
    subst may (as_inputs _) (subst (λ (command : Command). may (files_of (wanted command))) c.in-Make.is c.requires.allowed)

pub follow-requires-clause-allowed : goal.follow-requires-clause-allowed
follow-requires-clause-allowed g c =
    subst (λ (command : Command). MayOpen (g.F.Files.may c.args.files.now) (g.F.Files.opens c.args.files.now) (files_of (wanted command))) c.in-Follow.is c.requires.allowed

pub returns-in-Make-clause-stops_reading : goal.returns-in-Make-clause-stops_reading
returns-in-Make-clause-stops_reading g c = stays_for _ _ _ _ _ (ap (λ (command : Command). inputs (wanted command)) (sym c.in-Make.is)) c.make.ensures.stops_reading
