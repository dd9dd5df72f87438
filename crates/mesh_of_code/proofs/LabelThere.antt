-- The objects in a label of code exist, also those in its values, and the number of a picked alternative is at most 64.
use Rattle.std.specs.Prelude.{◌<◌, ◌≤◌}
use Rattle.run_types.specs.declared.types.Label.{Label}
use Rattle.run_types.specs.declared.types.Label.TheVariants as L
use Rattle.mesh_semantics.specs.Config.{Config}
use Rattle.run_types.specs.Tables.{Each}
use Rattle.mesh_semantics.specs.Sound.{IsThere}
use Rattle.code_semantics.proofs.Laws.{HoldsOfItem}
use Rattle.mesh_of_code.specs.Coded.{Placed}
use Rattle.mesh_of_code.specs.CodeInvariant.{Names}

abbrev pub LabelThere : Config Placed → Label → Type 0
LabelThere c (L.Local o) = IsThere c o
LabelThere c (L.New o n k) = IsThere c o
LabelThere c (L.Answer b o m args) = IsThere c b × IsThere c o × Each (Names c) args
LabelThere c (L.Return b o v) = IsThere c b × IsThere c o × Names c v
LabelThere c (L.Send o b m args) = IsThere c o × IsThere c b × Each (Names c) args
LabelThere c (L.Take b s m args) = IsThere c b × Each (Names c) args
LabelThere c (L.Write o item) = IsThere c o × HoldsOfItem (Names c) item
LabelThere c (L.Pick o i) = IsThere c o × (0 < i) × (i ≤ 64)
LabelThere c (L.Fault o e) = IsThere c o
