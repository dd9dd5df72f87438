-- The forms of the lines of a placement, and the fault of a line.
use Rattle.std.specs.Prelude.{ℕ, ◌+◌, List, [], ◌∷◌, Option, Some, None, is_some, Bool, true, false, ◌&&◌, not, nat_eq, nat_le, nat_lt, bytes_eq, codes}
use Rattle.run_types.specs.Partial.{◌>>=◌, only_if, unless}
use Rattle.run_types.specs.Table.{is_among, name_of}
use Rattle.text_scan.specs.Text.{Text}
use Rattle.run_types.specs.declared.types.Place.{Place}
use Rattle.run_types.specs.declared.types.Place.TheVariants as P
use Rattle.run_types.specs.declared.types.LinkId.{LinkId}
use Rattle.run_types.specs.declared.types.Route.{Route}
use Rattle.run_types.specs.Paths.{are_neighbours, is_cut, route_of}
use Rattle.text_scan.specs.ContentLines.{number_of}
use Rattle.code_semantics.specs.declared.unit.ClassCode.{ClassCode}
use Rattle.code_semantics.specs.declared.unit.Unit.{Unit as Code}
use Rattle.placement_reader.specs.declared.fault.PlacementFault.{PlacementFault}
use Rattle.placement_reader.specs.declared.fault.PlacementFault.TheVariants as F
use Rattle.placement_reader.specs.declared.form.Form.{Form}
use Rattle.placement_reader.specs.declared.form.Form.TheVariants as form
use Rattle.placement_reader.specs.declared.form.Count.{Count}
use Rattle.placement_reader.specs.declared.form.Count.TheVariants as C
use Rattle.placement_reader.specs.declared.form.Spot.{Spot}
use Rattle.placement_reader.specs.declared.form.Spot.TheVariants as S

-- the index of the first class whose name has this number
abbrev pub class_numbered : ℕ → ℕ → List ClassCode → Option ℕ
class_numbered at n [] = None
class_numbered at n (k ∷ ks) = elim (nat_eq k.name.0 n) [ true ↦ Some at | false ↦ class_numbered (at + 1) n ks ]

-- the index of the class of this name; the table of names has each text once
abbrev pub class_named : Code → Text → Option ℕ
class_named u w = elim (is_among u.names w) [ true ↦ class_numbered 0 (name_of u.names w) u.classes | false ↦ None ]

-- the count that a word names
abbrev pub kind_of : Text → Option Count
kind_of w = elim (bytes_eq w (codes "objects")) [
  | true ↦ Some C.Objects
  | false ↦ elim (bytes_eq w (codes "frames")) [ true ↦ Some C.Frames | false ↦ only_if (bytes_eq w (codes "cells")) (Some C.Cells) ]
]

abbrev pub count_form : Option Count → Option ℕ → Option Form
count_form None n = None
count_form (Some k) None = None
count_form (Some k) (Some n) = Some (form.Counted k n)

abbrev pub spot_of : Text → Option Spot
spot_of w = elim (bytes_eq w (codes "same")) [ true ↦ Some S.Same | false ↦ only_if (bytes_eq w (codes "spread")) (Some S.Spread) ]

abbrev pub place_form : Option ℕ → Option Spot → Option Form
place_form class None = None
place_form class (Some spot) = Some (form.Placed class spot)

-- `mesh W H`, `cut A B`, `place C same`, `place C spread`
abbrev pub form_of_three : Code → Text → Text → Text → Option Form
form_of_three u w a b = elim (bytes_eq w (codes "mesh")) [
  | true ↦ number_of a >>= λ width. number_of b >>= λ height. Some (form.Mesh width height)
  | false ↦ elim (bytes_eq w (codes "cut")) [
    | true ↦ number_of a >>= λ from. number_of b >>= λ to. Some (form.Cut from to)
    | false ↦ only_if (bytes_eq w (codes "place")) (place_form (class_named u a) (spot_of b))
  ]
]

-- `route A G B`, `place C at K`
abbrev pub form_of_four : Code → Text → Text → Text → Text → Option Form
form_of_four u w a b c = elim (bytes_eq w (codes "route")) [
  | true ↦ number_of a >>= λ at. number_of b >>= λ goal. number_of c >>= λ next. Some (form.Routed at goal next)
  | false ↦ only_if (bytes_eq w (codes "place") && bytes_eq b (codes "at")) (number_of c >>= λ node. Some (form.Placed (class_named u a) (S.At node)))
]

-- the form of a line, without a check of its numbers and its class
abbrev pub form_of : Code → List Text → Option Form
form_of u [] = None
form_of u (w ∷ []) = None
form_of u (w ∷ a ∷ []) = count_form (kind_of w) (number_of a)
form_of u (w ∷ a ∷ b ∷ []) = form_of_three u w a b
form_of u (w ∷ a ∷ b ∷ c ∷ []) = form_of_four u w a b c
form_of u (w ∷ a ∷ b ∷ c ∷ d ∷ more) = None

abbrev pub is_kind : Count → Count → Bool
is_kind C.Objects C.Objects = true
is_kind C.Objects C.Frames = false
is_kind C.Objects C.Cells = false
is_kind C.Frames C.Objects = false
is_kind C.Frames C.Frames = true
is_kind C.Frames C.Cells = false
is_kind C.Cells C.Objects = false
is_kind C.Cells C.Frames = false
is_kind C.Cells C.Cells = true

-- the number of the first line of this kind
abbrev pub number_in : Count → List Form → Option ℕ
number_in k [] = None
number_in k (form.Mesh w h ∷ fs) = number_in k fs
number_in k (form.Counted j n ∷ fs) = elim (is_kind j k) [ true ↦ Some n | false ↦ number_in k fs ]
number_in k (form.Placed c s ∷ fs) = number_in k fs
number_in k (form.Cut a b ∷ fs) = number_in k fs
number_in k (form.Routed a g b ∷ fs) = number_in k fs

abbrev pub is_class : ℕ → Option ℕ → Bool
is_class c None = false
is_class c (Some d) = nat_eq d c

-- the place of the first line on this class
abbrev pub spot_in : ℕ → List Form → Option Spot
spot_in c [] = None
spot_in c (form.Mesh w h ∷ fs) = spot_in c fs
spot_in c (form.Counted j n ∷ fs) = spot_in c fs
spot_in c (form.Placed d s ∷ fs) = elim (is_class c d) [ true ↦ Some s | false ↦ spot_in c fs ]
spot_in c (form.Cut a b ∷ fs) = spot_in c fs
spot_in c (form.Routed a g b ∷ fs) = spot_in c fs

-- the cut links
abbrev pub cuts_of : List Form → List LinkId
cuts_of [] = []
cuts_of (form.Mesh w h ∷ fs) = cuts_of fs
cuts_of (form.Counted j n ∷ fs) = cuts_of fs
cuts_of (form.Placed c s ∷ fs) = cuts_of fs
cuts_of (form.Cut a b ∷ fs) = record { from = a; to = b } ∷ cuts_of fs
cuts_of (form.Routed a g b ∷ fs) = cuts_of fs

-- the routes
abbrev pub routes_of : List Form → List Route
routes_of [] = []
routes_of (form.Mesh w h ∷ fs) = routes_of fs
routes_of (form.Counted j n ∷ fs) = routes_of fs
routes_of (form.Placed c s ∷ fs) = routes_of fs
routes_of (form.Cut a b ∷ fs) = routes_of fs
routes_of (form.Routed a g b ∷ fs) = record { at = a; goal = g; next = b } ∷ routes_of fs

-- the largest number of a kind
abbrev pub most : Count → ℕ
most C.Objects = 4096
most C.Frames = 16384
most C.Cells = 16384

abbrev pub is_from_one : ℕ → ℕ → Bool
is_from_one high n = nat_le 1 n && nat_le n high

abbrev pub is_there : ℕ → Spot → Bool
is_there nodes (S.At n) = nat_lt n nodes
is_there nodes S.Same = true
is_there nodes S.Spread = true

-- the first fault of a form on this line, after a mesh line of this width and after these forms; the mesh line comes
-- before all of them
abbrev pub fault_of : ℕ → ℕ → ℕ → List Form → Form → Option PlacementFault
fault_of w nodes line earlier (form.Mesh v h) = Some (F.Repeated line)
fault_of w nodes line earlier (form.Counted k n) =
    unless (not (is_some (number_in k earlier))) (F.Repeated line) (unless (is_from_one (most k) n) (F.OutOfRange line) None)
fault_of w nodes line earlier (form.Placed None s) = Some (F.UnknownClass line)
fault_of w nodes line earlier (form.Placed (Some c) s) =
    unless (not (is_some (spot_in c earlier))) (F.Repeated line) (unless (is_there nodes s) (F.NoSuchNode line) None)
fault_of w nodes line earlier (form.Cut a b) =
    unless (not (is_cut (cuts_of earlier) a b)) (F.Repeated line)
    (unless (nat_lt a nodes && nat_lt b nodes) (F.NoSuchNode line) (unless (are_neighbours w a b) (F.NoSuchLink line) None))
fault_of w nodes line earlier (form.Routed a g b) =
    unless (not (is_some (route_of (routes_of earlier) a g))) (F.Repeated line)
    (unless (nat_lt a nodes && nat_lt g nodes && nat_lt b nodes) (F.NoSuchNode line)
    (unless (not (nat_eq g a)) (F.OutOfRange line) (unless (are_neighbours w a b) (F.NoSuchLink line) None)))

abbrev pub fault_or_bad : ℕ → ℕ → ℕ → List Form → Option Form → Option PlacementFault
fault_or_bad w nodes line earlier None = Some (F.BadLine line)
fault_or_bad w nodes line earlier (Some f) = fault_of w nodes line earlier f

abbrev pub place_of : Spot → Place
place_of (S.At n) = P.At n
place_of S.Same = P.Same
place_of S.Spread = P.Spread

-- the place of a class; if no line gives it, objects are on the node of their creator
abbrev pub place_or_same : Option Spot → Place
place_or_same None = P.Same
place_or_same (Some s) = place_of s
