-- The list that a wire carries after each call.
use Rattle.std.proofs.Common.{◌≡◌, refl, sym, subst, ◌∙◌, List, [], Option}
use Rattle.std.specs.Prelude.{drop}
use Rattle.run_types.specs.declared.types.What.{What}
use Rattle.run_types.specs.declared.types.WireAct.{WireAct}
use Rattle.mesh_semantics.specs.Wire.{wire_act}
use Rattle.mesh_semantics.specs.KeptWire.{Carries, Follows, KeptWire, kept_act, whole}
use Rattle.mesh_semantics.proofs.Laws.{act_carries}
use Rattle.rendezvous_protocol.specs.declared.packet.Packet.{Packet}
use Rattle.wire_link.specs.Wires.{late_of, lose_of, twice_of}
use Rattle.wire_link.specs.declared.wire.Side.{Side}
use Rattle.wire_link.specs.declared.wire.Side.TheVariants as D

module _ (v : KeptWire Packet) (put : List Packet) (carried : Carries v put) where
  -- what does not look at the link's packets
  follows : (act : WireAct) (r : Option (What × KeptWire Packet)) → r ≡ kept_act act [] v → kept_act act [] v ≡ kept_act act (drop v.handed put) v → Follows put r (wire_act act (whole v put))
  follows act r e f = subst (λ z. Follows put z (wire_act act (whole v put))) (sym (e ∙ f)) (act_carries act v put carried)

  pub lost : (side : Side) (r : Option (What × KeptWire Packet)) → r ≡ kept_act (lose_of side) [] v → Follows put r (wire_act (lose_of side) (whole v put))
  lost D.Data r e = follows (lose_of D.Data) r e refl
  lost D.Ack r e = follows (lose_of D.Ack) r e refl

  pub doubled : (side : Side) (r : Option (What × KeptWire Packet)) → r ≡ kept_act (twice_of side) [] v → Follows put r (wire_act (twice_of side) (whole v put))
  doubled D.Data r e = follows (twice_of D.Data) r e refl
  doubled D.Ack r e = follows (twice_of D.Ack) r e refl

  pub delayed : (side : Side) (r : Option (What × KeptWire Packet)) → r ≡ kept_act (late_of side) [] v → Follows put r (wire_act (late_of side) (whole v put))
  delayed D.Data r e = follows (late_of D.Data) r e refl
  delayed D.Ack r e = follows (late_of D.Ack) r e refl
