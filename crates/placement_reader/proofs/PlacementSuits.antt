-- The placement that a text represents for the classes of a unit fits the unit.
use Rattle.std.proofs.Common.{◌≡◌, refl, subst, ℕ, ◌+◌, ◌*◌, ◌≤◌, List, [], ◌∷◌, length, Option, Some, None, Ok, Err, Result, IfSome, unwrap_or, Bool, true, false, ◌&&◌, nat_le, arith}
use Rattle.std.proofs.lemmas.Bool.Decides.{nat_tests}
use Rattle.text_scan.specs.Text.{Text}
use Rattle.run_types.specs.declared.types.Placement.{Placement}
use Rattle.text_scan.specs.Lines.{lines}
use Rattle.text_scan.specs.ContentLines.{Kept, kept}
use Rattle.code_semantics.specs.declared.unit.Unit.{Unit as Code}
use Rattle.code_semantics.specs.Suits.{IsFromTo, Suits}
use Rattle.code_semantics.specs.NodeWords.{most_vars, words}
use Rattle.run_types.specs.Tables.{Pair}
use Rattle.run_types.specs.Routes.{without_route}
use Rattle.run_types.proofs.Laws.{first, second, routed_ways}
use Rattle.placement_reader.specs.declared.fault.PlacementFault.{PlacementFault}
use Rattle.placement_reader.specs.declared.fault.PlacementFault.TheVariants as F
use Rattle.placement_reader.specs.declared.form.Form.{Form}
use Rattle.placement_reader.specs.declared.form.Form.TheVariants as form
use Rattle.placement_reader.specs.declared.form.Count.TheVariants as C
use Rattle.placement_reader.specs.Forms.{fault_or_bad, form_of, is_from_one, number_in}
use Rattle.placement_reader.specs.ReaderFacts.{AreWellFormed}
use Rattle.placement_reader.specs.Placements.{connected, first_fault, fitted, fitted_or_fault, forms_of, mesh_fault, placement_of, placement_of_lines, value_of, with_form, with_mesh}
use Rattle.std.specs.Option.{option_or}
use Rattle.placement_reader.proofs.RoutedPlacement.{fine_of, routed}
use Rattle.placement_reader.proofs.FaultlessForms.{counted, fine_push, number_fine, places_there}

none_both : (a b : Option PlacementFault) → option_or a b ≡ None → (a ≡ None) × (b ≡ None)
none_both None b h = (refl, h)
none_both (Some f) b h = absurd (cc)

-- forms without fault are fine
fine_forms : (u : Code) (w nodes : ℕ) (earlier : List Form) (ks : List Kept) → AreWellFormed nodes earlier → first_fault u w nodes earlier ks ≡ None → AreWellFormed nodes (forms_of u earlier ks)
fine_forms u w nodes earlier [] fine h = fine
fine_forms u w nodes earlier (k ∷ ks) fine h =
    let t = none_both (fault_or_bad w nodes k.line earlier (form_of u k.words)) (first_fault u w nodes (with_form earlier (form_of u k.words)) ks) h in
    fine_forms u w nodes (with_form earlier (form_of u k.words)) ks (one (form_of u k.words) t.0) t.1
  where
    one : (o : Option Form) → fault_or_bad w nodes k.line earlier o ≡ None → AreWellFormed nodes (with_form earlier o)
    one None e = absurd (cc)
    one (Some f) e = fine_push nodes earlier f fine (fine_of w nodes k.line earlier f e)

-- what a placement that fits says
record HasFitted (p l : Placement) (vars : ℕ) : Type 0 where
  few : words p vars ≤ 16777216
  connects : without_route p ≡ None
  same : p ≡ l

fitted_says : (p l : Placement) (vars : ℕ) → fitted vars p ≡ Ok l → HasFitted p l vars
fitted_says p l vars h = by (nat_le (words p vars) 16777216) refl h
  where
    on : (o : Option Pair) → without_route p ≡ o → nat_le (words p vars) 16777216 ≡ true → connected o p ≡ Ok l → HasFitted p l vars
    on None e i g = record { few = grind (arith, nat_tests, i); connects = e; same = (let z : ◌≡◌ {A = Result Placement PlacementFault} (Ok p) (Ok l) = g in cc) }
    on (Some k) e i g = absurd (let z : ◌≡◌ {A = Result Placement PlacementFault} (Err (F.NoRoute k.0 k.1)) (Ok l) = g in cc)

    by : (b : Bool) → nat_le (words p vars) 16777216 ≡ b
        → elim b as (λ b. Result Placement PlacementFault) [ true ↦ connected (without_route p) p | false ↦ Err (F.TooLarge (words p vars)) ] ≡ Ok l → HasFitted p l vars
    by true i g = on (without_route p) refl i g
    by false i g = absurd (let z : ◌≡◌ {A = Result Placement PlacementFault} (Err (F.TooLarge (words p vars))) (Ok l) = g in cc)

from_one : (n : ℕ) → is_from_one 8 n ≡ true → IsFromTo 1 8 n
from_one n h =
    let low : nat_le 1 n ≡ true = first (nat_le 1 n) (nat_le n 8) h in
    let high : nat_le n 8 ≡ true = second (nat_le 1 n) (nat_le n 8) h in
    (grind (arith, nat_tests, low), grind (arith, nat_tests, high))

mesh_says : (line w h : ℕ) → mesh_fault line (Some (form.Mesh w h)) ≡ None → IsFromTo 1 8 w × IsFromTo 1 8 h
mesh_says line w h e = by (is_from_one 8 w && is_from_one 8 h) refl e
  where
    by : (b : Bool) → (is_from_one 8 w && is_from_one 8 h) ≡ b → elim b as (λ b. Option PlacementFault) [ true ↦ None | false ↦ Some (F.OutOfRange line) ] ≡ None → IsFromTo 1 8 w × IsFromTo 1 8 h
    by true i g = (from_one w (first (is_from_one 8 w) (is_from_one 8 h) i), from_one h (second (is_from_one 8 w) (is_from_one 8 h) i))
    by false i g = absurd (cc)

number_or : (o : Option ℕ) (high n : ℕ) → IfSome o (λ m. IsFromTo 1 high m) → IsFromTo 1 high n → IsFromTo 1 high (unwrap_or o n)
number_or None high n h d = d
number_or (Some m) high n h d = h

mesh_suits : (u : Code) (line w h : ℕ) (ks : List Kept) (l : Placement) → with_mesh u line (Some (form.Mesh w h)) ks ≡ Ok l → Suits l u
mesh_suits u line w h ks l e = by (option_or (mesh_fault line (Some (form.Mesh w h))) (first_fault u w (w * h) [] ks)) refl e
  where
    suits : (mesh_fault line (Some (form.Mesh w h)) ≡ None) × (first_fault u w (w * h) [] ks ≡ None) → HasFitted (value_of u w h (forms_of u [] ks)) l (most_vars u.classes) → Suits l u
    suits none fits =
        let sides = mesh_says line w h none.0 in
        let fine = fine_forms u w (w * h) [] ks tt none.1 in
        let routes = routed u w h (w * h) w (forms_of u [] ks) ks (value_of u w h (forms_of u [] ks)) refl refl refl refl none.1 sides.0 sides.1 in
        subst (λ (p : Placement). Suits p u) fits.same (record {
          width = sides.0;
          height = sides.1;
          objects = number_or (number_in C.Objects (forms_of u [] ks)) 4096 256 (number_fine (w * h) C.Objects (forms_of u [] ks) fine) ((omega arith), (omega arith));
          frames = number_or (number_in C.Frames (forms_of u [] ks)) 16384 1024 (number_fine (w * h) C.Frames (forms_of u [] ks) fine) ((omega arith), (omega arith));
          cells = number_or (number_in C.Cells (forms_of u [] ks)) 16384 1024 (number_fine (w * h) C.Cells (forms_of u [] ks) fine) ((omega arith), (omega arith));
          places = counted (length u.classes) (forms_of u [] ks);
          each = places_there (w * h) 0 (length u.classes) (forms_of u [] ks) fine;
          fits = fits.few;
          routed = routes;
          ways = routed_ways (value_of u w h (forms_of u [] ks)) routes fits.connects;
        })

    by : (o : Option PlacementFault) → option_or (mesh_fault line (Some (form.Mesh w h))) (first_fault u w (w * h) [] ks) ≡ o
        → fitted_or_fault o (most_vars u.classes) (value_of u w h (forms_of u [] ks)) ≡ Ok l → Suits l u
    by None i g =
        suits (none_both (mesh_fault line (Some (form.Mesh w h))) (first_fault u w (w * h) [] ks) i) (fitted_says (value_of u w h (forms_of u [] ks)) l (most_vars u.classes) g)
    by (Some f) i g = absurd (let z : ◌≡◌ {A = Result Placement PlacementFault} (Err f) (Ok l) = g in cc)

lines_suit : (u : Code) (count : ℕ) (ks : List Kept) (l : Placement) → placement_of_lines u count ks ≡ Ok l → Suits l u
lines_suit u count [] l e = absurd (let z : ◌≡◌ {A = Result Placement PlacementFault} (Err (F.BadLine (count + 1))) (Ok l) = e in cc)
lines_suit u count (k ∷ ks) l e = by (form_of u k.words) e
  where
    by : (o : Option Form) → with_mesh u k.line o ks ≡ Ok l → Suits l u
    by (Some (form.Mesh w h)) g = mesh_suits u k.line w h ks l g
    by None g = absurd (let z : ◌≡◌ {A = Result Placement PlacementFault} (Err (F.BadLine k.line)) (Ok l) = g in cc)
    by (Some (form.Counted j n)) g = absurd (let z : ◌≡◌ {A = Result Placement PlacementFault} (Err (F.BadLine k.line)) (Ok l) = g in cc)
    by (Some (form.Placed c s)) g = absurd (let z : ◌≡◌ {A = Result Placement PlacementFault} (Err (F.BadLine k.line)) (Ok l) = g in cc)
    by (Some (form.Cut a b)) g = absurd (let z : ◌≡◌ {A = Result Placement PlacementFault} (Err (F.BadLine k.line)) (Ok l) = g in cc)
    by (Some (form.Routed a i b)) g = absurd (let z : ◌≡◌ {A = Result Placement PlacementFault} (Err (F.BadLine k.line)) (Ok l) = g in cc)

pub placement_suits : (u : Code) (s : Text) (l : Placement) → placement_of u s ≡ Ok l → Suits l u
placement_suits u s l e = lines_suit u (length (lines s)) (kept s) l e
