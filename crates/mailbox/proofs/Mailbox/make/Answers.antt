use Rattle.mailbox.proofs.Front.{empty_front, empty_view}
use Rattle.mailbox.proofs.Mailbox.make.Goals as goal

pub invariant_of-result : goal.invariant_of-result
invariant_of-result c =
    empty_front c.in_ok-early.early c.in_ok-behind.behind c.args.objects c.args.cells c.ranges.cells.fits c.in_ok-early.ensures c.in_ok-behind.ensures

pub returns : goal.returns
returns c =
    empty_view c.in_ok-early.early c.in_ok-behind.behind c.args.objects c.args.cells c.in_ok-early.ensures c.in_ok-behind.ensures
