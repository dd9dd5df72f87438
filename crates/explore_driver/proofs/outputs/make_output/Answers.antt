use Rattle.std.proofs.Common.{ap, subst, sym}
use Rattle.command_shell.specs.Programs.{MayOpen}
use Rattle.command_shell.proofs.Laws.{stays_for}
use Rattle.explore_driver.specs.AskedRequest.{IsSized, request}
use Rattle.explore_driver.specs.Ends.{inputs}
use Rattle.explore_driver.specs.Words.{Request}
use Rattle.explore_driver.proofs.OutputLaws.{makes_for}
use Rattle.explore_driver.proofs.outputs.make_output.Goals as goal

pub search_output-requires-clause-allowed : goal.search_output-requires-clause-allowed
search_output-requires-clause-allowed g c =
    subst (λ (r : Request). MayOpen (g.F.Files.may c.args.files.now) (g.F.Files.opens c.args.files.now) (inputs r)) (ap request c.in-Search.is) c.requires.allowed

pub returns-in-Search-clause-makes : goal.returns-in-Search-clause-makes
returns-in-Search-clause-makes g c = makes_for _ _ _ c.search_output.result (sym (ap request c.in-Search.is)) c.search_output.ensures.makes

pub returns-in-Search-clause-unread_within : goal.returns-in-Search-clause-unread_within
returns-in-Search-clause-unread_within g c = stays_for _ _ _ _ _ (ap inputs (sym (ap request c.in-Search.is))) c.search_output.ensures.unread_within

pub watch_output-requires-clause-ordered : goal.watch_output-requires-clause-ordered
watch_output-requires-clause-ordered g c = subst IsSized c.in-Watch.is c.requires.sized

pub watch_output-requires-clause-allowed : goal.watch_output-requires-clause-allowed
watch_output-requires-clause-allowed g c =
    subst (λ (r : Request). MayOpen (g.F.Files.may c.args.files.now) (g.F.Files.opens c.args.files.now) (inputs r)) (ap request c.in-Watch.is) c.requires.allowed

pub returns-in-Watch-clause-makes : goal.returns-in-Watch-clause-makes
returns-in-Watch-clause-makes g c = makes_for _ _ _ c.watch_output.result (sym (ap request c.in-Watch.is)) c.watch_output.ensures.makes

pub returns-in-Watch-clause-unread_within : goal.returns-in-Watch-clause-unread_within
returns-in-Watch-clause-unread_within g c = stays_for _ _ _ _ _ (ap inputs (sym (ap request c.in-Watch.is))) c.watch_output.ensures.unread_within

pub fill_output-requires-clause-allowed : goal.fill_output-requires-clause-allowed
fill_output-requires-clause-allowed g c =
    subst (λ (r : Request). MayOpen (g.F.Files.may c.args.files.now) (g.F.Files.opens c.args.files.now) (inputs r)) (ap request c.in-Fill.is) c.requires.allowed

pub returns-in-Fill-clause-makes : goal.returns-in-Fill-clause-makes
returns-in-Fill-clause-makes g c = makes_for _ _ _ c.fill_output.result (sym (ap request c.in-Fill.is)) c.fill_output.ensures.makes

pub returns-in-Fill-clause-unread_within : goal.returns-in-Fill-clause-unread_within
returns-in-Fill-clause-unread_within g c = stays_for _ _ _ _ _ (ap inputs (sym (ap request c.in-Fill.is))) c.fill_output.ensures.unread_within
