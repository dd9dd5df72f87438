use Rattle.std.proofs.Common.{◌≡◌, drop}
use Rattle.run_types.specs.Paths.{is_cut}
use Rattle.table_routing.proofs.routes.is_cut.Given as goal

-- none of the cuts so far is the link
abbrev pub invariant-loop-cut : goal.invariant-loop-cut
invariant-loop-cut l = is_cut (drop l.cut-index l.cuts) l.from l.to ≡ is_cut l.cuts l.from l.to
