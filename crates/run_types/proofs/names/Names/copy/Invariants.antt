use Rattle.std.proofs.Common.{◌≡◌, take}
use Rattle.run_types.proofs.Texts.{texts_of}
use Rattle.run_types.proofs.names.Names.copy.Given as goal

abbrev pub invariant-loop-text : goal.invariant-loop-text
invariant-loop-text l = l.names ≡ texts_of (take l.text-index l.text-items)
