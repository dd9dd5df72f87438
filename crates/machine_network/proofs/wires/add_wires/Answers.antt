use Rattle.std.proofs.Common.{◌≡◌, ◌∙◌, ◌*◌, ◌+◌, sym, ap, subst, true, arith}
use Rattle.std.specs.FinMap.{put}
use Rattle.run_types.specs.Tables.{pair_cmp}
use Rattle.mesh_semantics.specs.KeptWire.{KeptWire}
use Rattle.machine_network.specs.WireReports.{AreNew}
use Rattle.machine_network.proofs.WireMap.{inserted_is}
use Rattle.machine_network.proofs.AddedWires.{node_added, none_added, one_added}
use Rattle.machine_network.proofs.wires.add_wires.Goals as goal
use Rattle.machine_network.proofs.wires.add_wires.Goals.{then-is_link+in_ok-insert, else-is_link}

pub returns : goal.returns
returns c = node_added c.args.mesh.now.width (c.args.mesh.now.width * c.args.mesh.now.height) c.args.from c.loop-to.to c.loop-to.wires.entries (let t = c.loop-to-test.false in omega (arith, t)) c.loop-to.invariant

pub loop-to-preserved : goal.loop-to-preserved
loop-to-preserved c =
    let width = c.args.mesh.now.width in
    let size = c.args.mesh.now.width * c.args.mesh.now.height in
    elim c.if-is_link.branch [
      | then-is_link+in_ok-insert w ↦
          one_added width size c.args.from c.loop-to.to c.loop-to.wires.entries c.if-is_link.wires.entries c.loop-to.invariant
          (ap (λ (m : _). m.entries) w.wires-is ∙ w.in_ok-insert.ensures.entries ∙ inserted_is (c.args.from, c.loop-to.to) w.make.result c.loop-to.wires.entries
          ∙ ap (λ (v : KeptWire _). put pair_cmp (c.args.from, c.loop-to.to) v c.loop-to.wires.entries) w.make.ensures)
      | else-is_link w ↦
          subst (λ (m : _). AreNew width size c.args.from (c.loop-to.to + 1) m.entries) (sym w.wires-is)
          (none_added width size c.args.from c.loop-to.to c.loop-to.wires.entries c.loop-to.invariant (λ n. let t : c.is_link.result ≡ true = c.is_link.ensures.1 n in let f = w.if-is_link.false in absurd (let z = sym t ∙ f in cc)))
    ]
