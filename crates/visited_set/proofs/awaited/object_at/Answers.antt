use Rattle.std.proofs.Common.{rules, ◌≡◌, ◌∙◌, ap, sym, Some, None}
use Rattle.std.specs.Prelude.{option_map}
use Rattle.std.specs.List.{slice_get}
use Rattle.std.proofs.lemmas.Option.{slice_get-get_or, slice_get_past}
use Rattle.stepper_objects.specs.ObjectStates.{thing_object}
use Rattle.object_moves.specs.Tables.{known_states}
use Rattle.visited_set.proofs.RowObjects.{no_object_there, object_there}
use Rattle.visited_set.proofs.awaited.object_at.Goals as goal

pub returns-in_err-number : goal.returns-in_err-number
returns-in_err-number c = λ k same.
    let none : slice_get c.args.numbers.now c.args.name ≡ None = slice_get_past c.args.numbers.now c.args.name (search rules) in
    ap (option_map (λ t. thing_object t.now)) c.from_residual.ensures ∙ no_object_there (known_states c.args.moves.now) c.args.numbers.now k c.args.name same none

pub returns : goal.returns
returns c = λ k same.
    let ns = c.args.numbers.now in
    let there : slice_get ns c.args.name ≡ Some c.in_ok-number.number.now = slice_get-get_or ns c.args.name _ c.in_ok-number.ensures.lookup.3.0 ∙ ap Some (sym c.in_ok-number.ensures.lookup.1) in
    c.get-2.ensures ∙ object_there (known_states c.args.moves.now) ns k c.args.name same c.in_ok-number.number.now c.requires there
