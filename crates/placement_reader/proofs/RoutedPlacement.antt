-- Forms without fault make a routed placement.
use Rattle.std.proofs.Common.{◌≡◌, ◌≢◌, refl, sym, ap, subst, ◌∙◌, ℕ, zero, suc, ◌*◌, ◌<◌, ◌==◌, List, [], ◌∷◌, ◌++◌, Option, Some, None, is_some, Bool, true, false, not, ◌&&◌, ◌||◌, nat_eq, nat_le, nat_lt, get_or, arith, append-nil, ltb-true, leb-true}
use Rattle.std.proofs.lemmas.Bool.Decides.{nat_tests}
use Rattle.run_types.specs.declared.types.LinkId.{LinkId}
use Rattle.run_types.specs.declared.types.Placement.{Placement}
use Rattle.run_types.specs.declared.types.Route.{Route}
use Rattle.text_scan.specs.ContentLines.{Kept}
use Rattle.code_semantics.specs.declared.unit.Unit.{Unit as Code}
use Rattle.code_semantics.specs.Suits.{IsFromTo}
use Rattle.code_semantics.specs.NodeWords.{most_vars}
use Rattle.run_types.specs.Paths.{are_neighbours, is_cut, route_of}
use Rattle.run_types.specs.RoutedPlacements.{AreBeside, AreCuts, AreRoutes, IsRouted}
use Rattle.run_types.proofs.Laws.{neighbours, first, second}
use Rattle.placement_reader.specs.declared.fault.PlacementFault.{PlacementFault}
use Rattle.placement_reader.specs.declared.fault.PlacementFault.TheVariants as F
use Rattle.placement_reader.specs.declared.form.Form.{Form}
use Rattle.placement_reader.specs.declared.form.Form.TheVariants as form
use Rattle.placement_reader.specs.declared.form.Spot.TheVariants as S
use Rattle.placement_reader.specs.Forms.{cuts_of, fault_of, fault_or_bad, form_of, is_from_one, most, number_in, routes_of, spot_in}
use Rattle.placement_reader.specs.ReaderFacts.{AreWellFormed, IsWellFormed, ReportsFault}
use Rattle.run_types.specs.Partial.{unless}
use Rattle.placement_reader.specs.Placements.{fault_in, first_fault, fitted_or_fault, forms_of, mesh_fault, value_of, with_form, with_mesh}
use Rattle.std.specs.Option.{option_or}

differ : (m n : ℕ) → not (nat_eq m n) ≡ true → m ≢ n
differ m n h e = absurd (grind (arith, nat_tests, h, e))

is_false : (b : Bool) → not b ≡ true → b ≡ false
is_false true h = absurd (cc)
is_false false h = refl

is_none : (o : Option ℕ) → not (is_some o) ≡ true → o ≡ None
is_none None h = refl
is_none (Some n) h = absurd (cc)

-- a test before a fault holds where no fault is told
holds : (b : Bool) (f : PlacementFault) (o : Option PlacementFault) → unless b f o ≡ None → b ≡ true
holds true f o h = refl
holds false f o h = absurd (cc)

later : (b : Bool) (f : PlacementFault) (o : Option PlacementFault) → unless b f o ≡ None → o ≡ None
later true f o h = h
later false f o h = absurd (cc)

-- what a cut without fault says
record CutHolds (w nodes a b : ℕ) (earlier : List Form) : Type 0 where
  new : is_cut (cuts_of earlier) a b ≡ false
  from : a < nodes
  to : b < nodes
  beside : are_neighbours w a b ≡ true

cut_holds : (w nodes line a b : ℕ) (earlier : List Form) → fault_of w nodes line earlier (form.Cut a b) ≡ None → CutHolds w nodes a b earlier
cut_holds w nodes line a b earlier h =
    let one = not (is_cut (cuts_of earlier) a b) in
    let two = nat_lt a nodes && nat_lt b nodes in
    let three = are_neighbours w a b in
    let last = unless three (F.NoSuchLink line) None in
    let rest = unless two (F.NoSuchNode line) last in
    let i = later one (F.Repeated line) rest h in
    let j = later two (F.NoSuchNode line) last i in
    let both = holds two (F.NoSuchNode line) last i in
    record {
      new = is_false (is_cut (cuts_of earlier) a b) (holds one (F.Repeated line) rest h);
      from = ltb-true a nodes (first (nat_lt a nodes) (nat_lt b nodes) both);
      to = ltb-true b nodes (second (nat_lt a nodes) (nat_lt b nodes) both);
      beside = holds three (F.NoSuchLink line) None j;
    }

-- what a route without fault says
record RouteHolds (w nodes a g b : ℕ) (earlier : List Form) : Type 0 where
  new : route_of (routes_of earlier) a g ≡ None
  at : a < nodes
  goal : g < nodes
  next : b < nodes
  other : g ≢ a
  beside : are_neighbours w a b ≡ true

route_holds : (w nodes line a g b : ℕ) (earlier : List Form) → fault_of w nodes line earlier (form.Routed a g b) ≡ None → RouteHolds w nodes a g b earlier
route_holds w nodes line a g b earlier h =
    let one = not (is_some (route_of (routes_of earlier) a g)) in
    let two = nat_lt a nodes && nat_lt g nodes && nat_lt b nodes in
    let three = not (nat_eq g a) in
    let four = are_neighbours w a b in
    let last = unless four (F.NoSuchLink line) None in
    let third = unless three (F.OutOfRange line) last in
    let rest = unless two (F.NoSuchNode line) third in
    let i = later one (F.Repeated line) rest h in
    let j = later two (F.NoSuchNode line) third i in
    let k = later three (F.OutOfRange line) last j in
    let all = holds two (F.NoSuchNode line) third i in
    let before = first (nat_lt a nodes && nat_lt g nodes) (nat_lt b nodes) all in
    record {
      new = is_none (route_of (routes_of earlier) a g) (holds one (F.Repeated line) rest h);
      at = ltb-true a nodes (first (nat_lt a nodes) (nat_lt g nodes) before);
      goal = ltb-true g nodes (second (nat_lt a nodes) (nat_lt g nodes) before);
      next = ltb-true b nodes (second (nat_lt a nodes && nat_lt g nodes) (nat_lt b nodes) all);
      other = differ g a (holds three (F.OutOfRange line) last j);
      beside = holds four (F.NoSuchLink line) None k;
    }

pub fine_of : (w nodes line : ℕ) (earlier : List Form) (f : Form) → fault_of w nodes line earlier f ≡ None → IsWellFormed nodes f
fine_of w nodes line earlier (form.Mesh v h) e = tt
fine_of w nodes line earlier (form.Counted k n) e =
    let one = not (is_some (number_in k earlier)) in
    let two = is_from_one (most k) n in
    let rest = unless two (F.OutOfRange line) None in
    let t = holds two (F.OutOfRange line) None (later one (F.Repeated line) rest e) in
    (leb-true 1 n (first (nat_le 1 n) (nat_le n (most k)) t), leb-true n (most k) (second (nat_le 1 n) (nat_le n (most k)) t))
fine_of w nodes line earlier (form.Placed None s) e = absurd (cc)
fine_of w nodes line earlier (form.Placed (Some c) S.Same) e = tt
fine_of w nodes line earlier (form.Placed (Some c) S.Spread) e = tt
fine_of w nodes line earlier (form.Placed (Some c) (S.At n)) e =
    let one = not (is_some (spot_in c earlier)) in
    let rest = unless (nat_lt n nodes) (F.NoSuchNode line) None in
    ltb-true n nodes (holds (nat_lt n nodes) (F.NoSuchNode line) None (later one (F.Repeated line) rest e))
fine_of w nodes line earlier (form.Cut a b) e = let c = cut_holds w nodes line a b earlier e in (c.from, c.to)
fine_of w nodes line earlier (form.Routed a g b) e = let r = route_holds w nodes line a g b earlier e in (r.at, r.goal, r.next)

-- an element of fine forms, or a mesh behind their end
pub fine_at : (nodes i : ℕ) (fs : List Form) → AreWellFormed nodes fs → IsWellFormed nodes (get_or fs i (form.Mesh 0 0))
fine_at nodes i [] h = tt
fine_at nodes zero (f ∷ fs) h = h.0
fine_at nodes (suc i) (f ∷ fs) h = fine_at nodes i fs h.1

-- one more form
cuts_push : (fs : List Form) (f : Form) → cuts_of (fs ++ f ∷ []) ≡ cuts_of fs ++ cuts_of (f ∷ [])
cuts_push [] f = refl
cuts_push (form.Mesh v h ∷ fs) f = cuts_push fs f
cuts_push (form.Counted k n ∷ fs) f = cuts_push fs f
cuts_push (form.Placed c s ∷ fs) f = cuts_push fs f
cuts_push (form.Cut a b ∷ fs) f = ap (λ (ks : List LinkId). record { from = a; to = b } ∷ ks) (cuts_push fs f)
cuts_push (form.Routed a g b ∷ fs) f = cuts_push fs f

routes_push : (fs : List Form) (f : Form) → routes_of (fs ++ f ∷ []) ≡ routes_of fs ++ routes_of (f ∷ [])
routes_push [] f = refl
routes_push (form.Mesh v h ∷ fs) f = routes_push fs f
routes_push (form.Counted k n ∷ fs) f = routes_push fs f
routes_push (form.Placed c s ∷ fs) f = routes_push fs f
routes_push (form.Cut a b ∷ fs) f = routes_push fs f
routes_push (form.Routed a g b ∷ fs) f = ap (λ (rs : List Route). record { at = a; goal = g; next = b } ∷ rs) (routes_push fs f)

or_first : (a b : Bool) → (a || b) ≡ false → a ≡ false
or_first true b h = absurd (cc)
or_first false b h = refl

or_second : (a b : Bool) → (a || b) ≡ false → b ≡ false
or_second true b h = absurd (cc)
or_second false b h = h

-- two pairs are equal either way round
flipped : (a b c d : ℕ) → (a == c && b == d) ≡ false → (c == a && d == b) ≡ false
flipped a b c d h = by (c == a) (d == b) refl refl
  where
    by : (s t : Bool) → (c == a) ≡ s → (d == b) ≡ t → (c == a && d == b) ≡ false
    by true true p q = absurd (let x : c ≡ a = grind (arith, p) in let y : d ≡ b = grind (arith, q) in grind (arith, h, x, y))
    by true false p q = rw (p, q) refl
    by false t p q = rw p refl

cut_behind : (ks : List LinkId) (k : LinkId) (a b : ℕ) → is_cut ks a b ≡ false → (k.from == a && k.to == b) ≡ false → is_cut (ks ++ k ∷ []) a b ≡ false
cut_behind [] k a b h e = rw e refl
cut_behind (j ∷ ks) k a b h e =
    rw (or_first (j.from == a && j.to == b) (is_cut ks a b) h) (cut_behind ks k a b (or_second (j.from == a && j.to == b) (is_cut ks a b) h) e)

route_behind : (rs : List Route) (r : Route) (a g : ℕ) → route_of rs a g ≡ None → (r.at == a && r.goal == g) ≡ false → route_of (rs ++ r ∷ []) a g ≡ None
route_behind [] r a g h e = rw e refl
route_behind (s ∷ rs) r a g h e = by (s.at == a && s.goal == g) refl (λ k. route_behind rs r a g k e)
  where
    by : (t : Bool) → (s.at == a && s.goal == g) ≡ t → (route_of rs a g ≡ None → route_of (rs ++ r ∷ []) a g ≡ None) → route_of ((s ∷ rs) ++ r ∷ []) a g ≡ None
    by true i go = absurd (let s = rw i at h in cc)
    by false i go = rw i (go (rw i at h))

module _ (l : Placement) where
  cuts_more : (ks : List LinkId) (k : LinkId) → AreCuts l ks → AreBeside l k.from k.to → is_cut ks k.from k.to ≡ false → AreCuts l (ks ++ k ∷ [])
  cuts_more [] k h beside new = (beside, refl, tt)
  cuts_more (j ∷ ks) k h beside new =
      let apart = or_first (j.from == k.from && j.to == k.to) (is_cut ks k.from k.to) new in
      let rest = or_second (j.from == k.from && j.to == k.to) (is_cut ks k.from k.to) new in
      (h.0, cut_behind ks k j.from j.to h.1 (flipped j.from j.to k.from k.to apart), cuts_more ks k h.2 beside rest)

  routes_more : (rs : List Route) (r : Route) → AreRoutes l rs → AreBeside l r.at r.next → r.goal < l.width * l.height → r.goal ≢ r.at → route_of rs r.at r.goal ≡ None
      → AreRoutes l (rs ++ r ∷ [])
  routes_more [] r h beside goal other new = (beside, goal, other, refl, tt)
  routes_more (s ∷ rs) r h beside goal other new = by (s.at == r.at && s.goal == r.goal) refl (λ k. routes_more rs r h.4 beside goal other k)
    where
      by : (t : Bool) → (s.at == r.at && s.goal == r.goal) ≡ t → (route_of rs r.at r.goal ≡ None → AreRoutes l (rs ++ r ∷ [])) → AreRoutes l ((s ∷ rs) ++ r ∷ [])
      by true i go = absurd (let k = rw i at new in cc)
      by false i go = (h.0, h.1, h.2, route_behind rs r s.at s.goal h.3 (flipped s.at s.goal r.at r.goal i), go (rw i at new))

  -- cuts and routes of a mesh
  record AreGood (fs : List Form) : Type 0 where
    pub cuts : AreCuts l (cuts_of fs)
    pub routes : AreRoutes l (routes_of fs)

  good_push : (line : ℕ) (earlier : List Form) (f : Form) → fault_of l.width (l.width * l.height) line earlier f ≡ None → AreGood earlier → AreGood (earlier ++ f ∷ [])
  good_push line earlier f e good = record {
    cuts = subst (AreCuts l) (sym (cuts_push earlier f)) (more_cuts f e);
    routes = subst (AreRoutes l) (sym (routes_push earlier f)) (more_routes f e);
  }
    where
      same_cuts : AreCuts l (cuts_of earlier ++ [])
      same_cuts = subst (AreCuts l) (sym (append-nil (cuts_of earlier))) good.cuts

      same_routes : AreRoutes l (routes_of earlier ++ [])
      same_routes = subst (AreRoutes l) (sym (append-nil (routes_of earlier))) good.routes

      more_cuts : (f : Form) → fault_of l.width (l.width * l.height) line earlier f ≡ None → AreCuts l (cuts_of earlier ++ cuts_of (f ∷ []))
      more_cuts (form.Mesh v h) e = same_cuts
      more_cuts (form.Counted k n) e = same_cuts
      more_cuts (form.Placed c s) e = same_cuts
      more_cuts (form.Cut a b) e =
          let c = cut_holds l.width (l.width * l.height) line a b earlier e in
          cuts_more (cuts_of earlier) (record { from = a; to = b }) good.cuts (c.from, c.to, neighbours l.width a b c.beside) c.new
      more_cuts (form.Routed a g b) e = same_cuts

      more_routes : (f : Form) → fault_of l.width (l.width * l.height) line earlier f ≡ None → AreRoutes l (routes_of earlier ++ routes_of (f ∷ []))
      more_routes (form.Mesh v h) e = same_routes
      more_routes (form.Counted k n) e = same_routes
      more_routes (form.Placed c s) e = same_routes
      more_routes (form.Cut a b) e = same_routes
      more_routes (form.Routed a g b) e =
          let r = route_holds l.width (l.width * l.height) line a g b earlier e in
          routes_more (routes_of earlier) (record { at = a; goal = g; next = b }) good.routes (r.at, r.next, neighbours l.width a b r.beside) r.goal r.other r.new

  none_first : (a b : Option PlacementFault) → option_or a b ≡ None → (a ≡ None) × (b ≡ None)
  none_first None b h = (refl, h)
  none_first (Some f) b h = absurd (cc)

  good_all : (u : Code) (earlier : List Form) (ks : List Kept) → AreGood earlier → first_fault u l.width (l.width * l.height) earlier ks ≡ None → AreGood (forms_of u earlier ks)
  good_all u earlier [] good h = good
  good_all u earlier (k ∷ ks) good h =
      let t = none_first (fault_or_bad l.width (l.width * l.height) k.line earlier (form_of u k.words)) (first_fault u l.width (l.width * l.height) (with_form earlier (form_of u k.words)) ks) h in
      good_all u (with_form earlier (form_of u k.words)) ks (one (form_of u k.words) t.0) t.1
    where
      one : (o : Option Form) → fault_or_bad l.width (l.width * l.height) k.line earlier o ≡ None → AreGood (with_form earlier o)
      one None e = absurd (cc)
      one (Some f) e = good_push k.line earlier f e good

  -- the forms of lines without fault
  pub faultless_cuts : (u : Code) (ks : List Kept) → first_fault u l.width (l.width * l.height) [] ks ≡ None → AreCuts l (cuts_of (forms_of u [] ks))
  faultless_cuts u ks h = (good_all u [] ks (record { cuts = tt; routes = tt }) h).cuts

  pub faultless_routes : (u : Code) (ks : List Kept) → first_fault u l.width (l.width * l.height) [] ks ≡ None → AreRoutes l (routes_of (forms_of u [] ks))
  faultless_routes u ks h = (good_all u [] ks (record { cuts = tt; routes = tt }) h).routes

-- so the placement that they are is routed
pub routed : (u : Code) (w h nodes width : ℕ) (fs : List Form) (ks : List Kept) (p : Placement) → p ≡ value_of u w h fs → fs ≡ forms_of u [] ks → nodes ≡ w * h → width ≡ w
    → first_fault u width nodes [] ks ≡ None → IsFromTo 1 8 w → IsFromTo 1 8 h → IsRouted p
routed u w h nodes width fs ks p is forms count wide none across down =
    subst IsRouted (sym (is ∙ ap (value_of u w h) forms)) (record { width = across; height = down; cuts = faultless_cuts value u ks faultless; routes = faultless_routes value u ks faultless })
  where
    value : Placement
    value = value_of u w h (forms_of u [] ks)

    faultless : first_fault u w (w * h) [] ks ≡ None
    faultless = subst (λ n. first_fault u w n [] ks ≡ None) count (subst (λ n. first_fault u n nodes [] ks ≡ None) wide none)

-- a fault of the first line
pub told : (f : PlacementFault) (o : Option PlacementFault) → o ≡ Some f → ReportsFault f o
told (F.BadLine line) o h = h
told (F.UnknownClass line) o h = h
told (F.Repeated line) o h = h
told (F.NoSuchNode line) o h = h
told (F.OutOfRange line) o h = h
told (F.TooLarge count) o h = h
told F.Memory o h = tt
told (F.NoSuchLink line) o h = h
told (F.NoRoute from to) o h = h

pub mesh_told : (u : Code) (line : ℕ) (o : Option Form) (ks : List Kept) (f : PlacementFault) → mesh_fault line o ≡ Some f → fault_in (with_mesh u line o ks) ≡ Some f
mesh_told u line None ks f h = h
mesh_told u line (Some (form.Mesh w g)) ks f h = ap (λ o. fault_in (fitted_or_fault (option_or o (first_fault u w (w * g) [] ks)) (most_vars u.classes) (value_of u w g (forms_of u [] ks)))) h
mesh_told u line (Some (form.Counted k n)) ks f h = h
mesh_told u line (Some (form.Placed c s)) ks f h = h
mesh_told u line (Some (form.Cut a b)) ks f h = h
mesh_told u line (Some (form.Routed a g b)) ks f h = h
