use Rattle.std.proofs.Common.{◌≡◌, ◌<◌, ◌*◌, ℕ, refl, ap₂, subst, true, false, below_more}
use Rattle.run_types.specs.Tables.{list_at, pair_cmp}
use Rattle.run_types.specs.Paths.{AreNeighbours}
use Rattle.pool_machine.specs.ObjectReport.{is_brought}
use Rattle.pool_machine.proofs.Searches.{below_end, never_both}
use Rattle.pool_machine.proofs.ValuePackets.{nothing_leaves}
use Rattle.pool_machine.proofs.report.is_on_way.Goals as goal
use Rattle.pool_machine.proofs.report.is_on_way.Goals.{else-leaving-gt0-via-then-leaving-gt0+else-node_brings, else-leaving-gt0-via-else-leaving-gt0}

pub loop-from-preserved : goal.loop-from-preserved
loop-from-preserved c =
    below_more (λ a. (b : ℕ) → b < c.args.mesh.now.width * c.args.mesh.now.height → AreNeighbours c.args.mesh.now.width a b → is_brought c.args.name (list_at pair_cmp (a, b) c.args.links.now.links) ≡ false)
    c.loop-from.from c.loop-from.invariant
    (λ b within near. elim c.else-leaving-gt0.branch [
      | else-leaving-gt0-via-then-leaving-gt0+else-node_brings w ↦ w.node_brings.ensures.no w.if-node_brings.false b within near
      | else-leaving-gt0-via-else-leaving-gt0 w ↦ nothing_leaves c.args.name c.loop-from.from b c.args.links.now.links c.leaving.result c.leaving.ensures.count w.if-leaving-gt0.false
    ])

pub leaving-requires : goal.leaving-requires
leaving-requires c = subst (λ n. c.loop-from.from < n) (ap₂ (λ w h. w * h) c.requires.width c.requires.height) c.loop-from-test.true

pub node_brings-requires : goal.node_brings-requires
node_brings-requires c = record { width = c.requires.width; height = c.requires.height; from = c.loop-from-test.true }

pub returns-then-node_brings : goal.returns-then-node_brings
returns-then-node_brings c = record {
  yes = λ _. let y = c.node_brings.ensures.yes c.if-node_brings.true in (c.loop-from.from, y.0, y.1);
  no = λ e. absurd (never_both true refl e);
}

pub returns : goal.returns
returns c = record {
  yes = λ e. absurd (never_both false e refl);
  no = λ _ a b within other near. c.loop-from.invariant a (below_end a _ _ within c.loop-from-test.false) b other near;
}
