use Rattle.std.proofs.Common.{take, drop}
use Rattle.std.proofs.lemmas.List.{take-append-drop}
use Rattle.mesh_semantics.specs.Record.{labels}
use Rattle.mesh_of_terms.specs.Terms.{plain}
use Rattle.adequacy.proofs.RunPrefixes.{one_by_one}
use Rattle.adequacy.proofs.ways.a_record_is_a_right_way.Goals as goal

pub returns-clause-after_each_number : goal.returns-clause-after_each_number
returns-clause-after_each_number c =
    λ p l q k d e r h.
    let g = h.fronts (take k (labels r.lines)) (drop k (labels r.lines)) (take-append-drop k (labels r.lines)) in
    (g.between, g.to, g.from, g.right)

pub returns-clause-way : goal.returns-clause-way
returns-clause-way c = λ p l q d e r h. one_by_one p (labels r.lines) d (plain r.last) h.fronts
