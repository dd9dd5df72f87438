use Rattle.run_types.specs.GivenProperties.{IsGiven}
use Rattle.mesh_semantics.proofs.Laws.{fit_of}
use Rattle.node_semantics.proofs.WiresAgree.{event_agrees}
use Rattle.node_semantics.proofs.theorems.a_machine_does_what_it_stands_for.Goals as goal

pub returns : goal.returns
returns g z = λ h kept l q fresh m c d e law req fit sound st inside is_fresh.
    event_agrees h (IsGiven kept) law req l (fit_of h l fit).objects m c d sound st.state q fresh st.wires e inside is_fresh
