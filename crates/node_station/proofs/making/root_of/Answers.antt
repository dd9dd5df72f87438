use Rattle.std.proofs.Common.{◌≡◌, ◌-◌, List, [], ◌∷◌, length, suc, sym, ap, ◌∙◌, Some, arith}
use Rattle.std.specs.Prelude.{slice_get}
use Rattle.std.specs.Option.{option_copied}
use Rattle.run_types.specs.declared.types.Place.{Place}
use Rattle.mesh_semantics.specs.Record.{last_place, root_node}
use Rattle.node_station.proofs.making.root_of.Goals as goal

last_is : (ps : List Place) (p : Place) → slice_get ps (length ps - 1) ≡ Some p → last_place ps ≡ Some p
last_is [] p h = absurd (cc)
last_is (q ∷ []) p h = h
last_is (q ∷ r ∷ ps) p h =
    let z : length (q ∷ r ∷ ps) - 1 ≡ suc (length (r ∷ ps) - 1) = omega arith in
    last_is (r ∷ ps) p (ap (slice_get (q ∷ r ∷ ps)) (sym z) ∙ h)

pub returns-in-Some : goal.returns-in-Some
returns-in-Some c =
    let at : slice_get c.args.places.now (length c.args.places.now - 1) ≡ Some c.in-Some.place.now = sym c.last.ensures.value ∙ ap option_copied c.in-Some.is in
    c.node_of_place.ensures ∙ ap root_node (sym (last_is c.args.places.now c.in-Some.place.now at))
