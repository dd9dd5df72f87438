use Rattle.std.proofs.Common.{◌≡◌, refl, sym, ◌∙◌, true, false, below_more}
use Rattle.run_types.specs.Paths.{AreNeighbours}
use Rattle.run_types.specs.Tables.{list_at, pair_cmp}
use Rattle.pool_machine.specs.ObjectReport.{is_brought}
use Rattle.pool_machine.proofs.InsideMesh.{link_of_mesh}
use Rattle.pool_machine.proofs.Searches.{below_end, never_both}
use Rattle.pool_machine.proofs.report.node_brings.Goals as goal
use Rattle.pool_machine.proofs.report.node_brings.Goals.{else-is_link-via-then-is_link+else-link_brings, else-is_link-via-else-is_link}

pub link_brings-requires : goal.link_brings-requires
link_brings-requires c = record { link = link_of_mesh c.args.links.now c.args.mesh.now.width c.args.mesh.now.height c.args.from c.loop-to.to c.requires.width c.requires.height c.requires.from c.loop-to-test.true (c.is_link.ensures.0 c.if-is_link.true) }

pub is_link-requires : goal.is_link-requires
is_link-requires c = record { from = c.requires.from; to = c.loop-to-test.true }

pub returns-then-link_brings : goal.returns-then-link_brings
returns-then-link_brings c = record {
  yes = λ _. (c.loop-to.to, sym c.link_brings.ensures ∙ c.if-link_brings.true);
  no = λ e. absurd (never_both true refl e);
}

pub loop-to-preserved : goal.loop-to-preserved
loop-to-preserved c =
    below_more (λ b. AreNeighbours c.args.mesh.now.width c.args.from b → is_brought c.args.name (list_at pair_cmp (c.args.from, b) c.args.links.now.links) ≡ false)
    c.loop-to.to c.loop-to.invariant
    (λ near. elim c.else-is_link.branch [
      | else-is_link-via-then-is_link+else-link_brings w ↦ sym w.link_brings.ensures ∙ w.if-link_brings.false
      | else-is_link-via-else-is_link w ↦ absurd (never_both c.is_link.result (c.is_link.ensures.1 near) w.if-is_link.false)
    ])

pub returns : goal.returns
returns c = record {
  yes = λ e. absurd (never_both false e refl);
  no = λ _ b within near. c.loop-to.invariant b (below_end b _ _ within c.loop-to-test.false) near;
}
