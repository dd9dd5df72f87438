-- The placement that a text represents, or its first fault.
use Rattle.std.specs.Prelude.{ℕ, ◌+◌, ◌*◌, List, [], ◌∷◌, ◌++◌, length, map, Option, Some, None, unwrap_or, Result, Ok, Err, true, false, ◌&&◌, nat_le}
use Rattle.std.specs.List.{range_with_len}
use Rattle.std.specs.Option.{option_or}
use Rattle.text_scan.specs.Text.{Text}
use Rattle.run_types.specs.declared.types.Place.{Place}
use Rattle.run_types.specs.declared.types.Placement.{Placement}
use Rattle.run_types.specs.Tables.{Pair}
use Rattle.run_types.specs.Routes.{without_route}
use Rattle.text_scan.specs.Lines.{lines}
use Rattle.text_scan.specs.ContentLines.{Kept, kept}
use Rattle.code_semantics.specs.NodeWords.{most_vars, words}
use Rattle.code_semantics.specs.declared.unit.Unit.{Unit as Code}
use Rattle.placement_reader.specs.declared.fault.PlacementFault.{PlacementFault}
use Rattle.placement_reader.specs.declared.fault.PlacementFault.TheVariants as F
use Rattle.placement_reader.specs.declared.form.Form.{Form}
use Rattle.placement_reader.specs.declared.form.Form.TheVariants as form
use Rattle.placement_reader.specs.declared.form.Count.TheVariants as C
use Rattle.placement_reader.specs.Forms.{cuts_of, fault_or_bad, form_of, is_from_one, number_in, place_or_same, routes_of, spot_in}

abbrev pub with_form : List Form → Option Form → List Form
with_form fs None = fs
with_form fs (Some f) = fs ++ f ∷ []

-- the fault of the first line that has one, after these forms
abbrev pub first_fault : Code → ℕ → ℕ → List Form → List Kept → Option PlacementFault
first_fault u w nodes earlier [] = None
first_fault u w nodes earlier (k ∷ ks) =
    option_or (fault_or_bad w nodes k.line earlier (form_of u k.words)) (first_fault u w nodes (with_form earlier (form_of u k.words)) ks)

-- the forms of all lines, after these
abbrev pub forms_of : Code → List Form → List Kept → List Form
forms_of u earlier [] = earlier
forms_of u earlier (k ∷ ks) = forms_of u (with_form earlier (form_of u k.words)) ks

abbrev pub places_of : ℕ → List Form → List Place
places_of count fs = map (λ c. place_or_same (spot_in c fs)) (range_with_len 0 count)

-- the placement of the forms, with default values for missing lines
abbrev pub value_of : Code → ℕ → ℕ → List Form → Placement
value_of u w h fs =
    record {
      width = w;
      height = h;
      objects = unwrap_or (number_in C.Objects fs) 256;
      frames = unwrap_or (number_in C.Frames fs) 1024;
      cells = unwrap_or (number_in C.Cells fs) 1024;
      places = places_of (length u.classes) fs;
      cuts = cuts_of fs;
      routes = routes_of fs;
    }

-- each pair of nodes has a route
abbrev pub connected : Option Pair → Placement → Result Placement PlacementFault
connected None p = Ok p
connected (Some k) p = Err (F.NoRoute k.0 k.1)

-- at most 16,777,216 words of memory
abbrev pub fitted : ℕ → Placement → Result Placement PlacementFault
fitted vars p = elim (nat_le (words p vars) 16777216) [ true ↦ connected (without_route p) p | false ↦ Err (F.TooLarge (words p vars)) ]

abbrev pub fitted_or_fault : Option PlacementFault → ℕ → Placement → Result Placement PlacementFault
fitted_or_fault None vars p = fitted vars p
fitted_or_fault (Some f) vars p = Err f

-- the fault of the first content line: it is a mesh line, and each number is from 1 to 8
abbrev pub mesh_fault : ℕ → Option Form → Option PlacementFault
mesh_fault line None = Some (F.BadLine line)
mesh_fault line (Some (form.Mesh w h)) = elim (is_from_one 8 w && is_from_one 8 h) [ true ↦ None | false ↦ Some (F.OutOfRange line) ]
mesh_fault line (Some (form.Counted k n)) = Some (F.BadLine line)
mesh_fault line (Some (form.Placed c s)) = Some (F.BadLine line)
mesh_fault line (Some (form.Cut a b)) = Some (F.BadLine line)
mesh_fault line (Some (form.Routed a g b)) = Some (F.BadLine line)

-- the placement of the mesh line and the lines after it
abbrev pub with_mesh : Code → ℕ → Option Form → List Kept → Result Placement PlacementFault
with_mesh u line None ks = Err (F.BadLine line)
with_mesh u line (Some (form.Mesh w h)) ks =
    fitted_or_fault (option_or (mesh_fault line (Some (form.Mesh w h))) (first_fault u w (w * h) [] ks)) (most_vars u.classes) (value_of u w h (forms_of u [] ks))
with_mesh u line (Some (form.Counted k n)) ks = Err (F.BadLine line)
with_mesh u line (Some (form.Placed c s)) ks = Err (F.BadLine line)
with_mesh u line (Some (form.Cut a b)) ks = Err (F.BadLine line)
with_mesh u line (Some (form.Routed a g b)) ks = Err (F.BadLine line)

-- the placement of the content lines of a text with this number of lines
abbrev pub placement_of_lines : Code → ℕ → List Kept → Result Placement PlacementFault
placement_of_lines u count [] = Err (F.BadLine (count + 1))
placement_of_lines u count (k ∷ ks) = with_mesh u k.line (form_of u k.words) ks

-- the placement of a text, for the classes of a unit
abbrev pub placement_of : Code → Text → Result Placement PlacementFault
placement_of u s = placement_of_lines u (length (lines s)) (kept s)

abbrev pub fault_in : Result Placement PlacementFault → Option PlacementFault
fault_in (Ok p) = None
fault_in (Err f) = Some f
