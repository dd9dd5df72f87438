use Rattle.std.proofs.Common.{refl}
use Rattle.search_states.specs.States.{states}
use Rattle.object_moves.proofs.StateGrowth.{all_of}
use Rattle.object_moves.proofs.table.MoveTable.make_in.Goals as goal

pub returns-in-Write-clause-grows : goal.returns-in-Write-clause-grows
returns-in-Write-clause-grows c = c.make_one.ensures.grows

pub returns-in-Write-clause-program : goal.returns-in-Write-clause-program
returns-in-Write-clause-program c = c.make_one.ensures.program

pub returns-in-Write-clause-within : goal.returns-in-Write-clause-within
returns-in-Write-clause-within c = c.make_one.ensures.within

pub returns-in-Pick-clause-grows : goal.returns-in-Pick-clause-grows
returns-in-Pick-clause-grows c = c.make_one-in-Pick.ensures.grows

pub returns-in-Pick-clause-program : goal.returns-in-Pick-clause-program
returns-in-Pick-clause-program c = c.make_one-in-Pick.ensures.program

pub returns-in-Pick-clause-within : goal.returns-in-Pick-clause-within
returns-in-Pick-clause-within c = c.make_one-in-Pick.ensures.within

pub returns-in-Fault-clause-grows : goal.returns-in-Fault-clause-grows
returns-in-Fault-clause-grows c = c.make_one-in-Fault.ensures.grows

pub returns-in-Fault-clause-program : goal.returns-in-Fault-clause-program
returns-in-Fault-clause-program c = c.make_one-in-Fault.ensures.program

pub returns-in-Fault-clause-within : goal.returns-in-Fault-clause-within
returns-in-Fault-clause-within c = c.make_one-in-Fault.ensures.within

pub returns-in-Answer-clause-grows : goal.returns-in-Answer-clause-grows
returns-in-Answer-clause-grows c = c.make_two.ensures.grows

pub returns-in-Answer-clause-program : goal.returns-in-Answer-clause-program
returns-in-Answer-clause-program c = c.make_two.ensures.program

pub returns-in-Answer-clause-within : goal.returns-in-Answer-clause-within
returns-in-Answer-clause-within c = c.make_two.ensures.within

pub returns-in-Return-clause-grows : goal.returns-in-Return-clause-grows
returns-in-Return-clause-grows c = c.make_two-in-Return.ensures.grows

pub returns-in-Return-clause-program : goal.returns-in-Return-clause-program
returns-in-Return-clause-program c = c.make_two-in-Return.ensures.program

pub returns-in-Return-clause-within : goal.returns-in-Return-clause-within
returns-in-Return-clause-within c = c.make_two-in-Return.ensures.within

pub returns-in-Send-clause-grows : goal.returns-in-Send-clause-grows
returns-in-Send-clause-grows c = c.make_mail.ensures.grows

pub returns-in-Send-clause-program : goal.returns-in-Send-clause-program
returns-in-Send-clause-program c = c.make_mail.ensures.program

pub returns-in-Send-clause-within : goal.returns-in-Send-clause-within
returns-in-Send-clause-within c = c.make_mail.ensures.within

pub returns-in-Take-clause-grows : goal.returns-in-Take-clause-grows
returns-in-Take-clause-grows c = c.make_mail-in-Take.ensures.grows

pub returns-in-Take-clause-program : goal.returns-in-Take-clause-program
returns-in-Take-clause-program c = c.make_mail-in-Take.ensures.program

pub returns-in-Take-clause-within : goal.returns-in-Take-clause-within
returns-in-Take-clause-within c = c.make_mail-in-Take.ensures.within

pub returns-in-New-clause-grows : goal.returns-in-New-clause-grows
returns-in-New-clause-grows c = c.make_new.ensures.grows

pub returns-in-New-clause-program : goal.returns-in-New-clause-program
returns-in-New-clause-program c = c.make_new.ensures.program

pub returns-in-New-clause-within : goal.returns-in-New-clause-within
returns-in-New-clause-within c = c.make_new.ensures.within

pub returns-in-Local-clause-grows : goal.returns-in-Local-clause-grows
returns-in-Local-clause-grows c = all_of (states c.args.self.now.table)

pub returns-in-Local-clause-program : goal.returns-in-Local-clause-program
returns-in-Local-clause-program c = refl

pub returns-in-Local-clause-within : goal.returns-in-Local-clause-within
returns-in-Local-clause-within c = c.requires.within
