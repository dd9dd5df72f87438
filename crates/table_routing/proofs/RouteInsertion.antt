-- Routes are set in the table one after the other, from the last to the first.
use Rattle.std.proofs.Common.{◌≡◌, ◌≢◌, ◌⊎◌, inl, inr, refl, sym, ap, ap₂, subst, ◌∙◌, ℕ, zero, suc, ◌+◌, ◌*◌, ◌/◌, ◌%◌, ◌<◌, Bool, true, false, ◌&&◌, ◌==◌, if◌then◌else◌, Some, List, [], ◌∷◌, length, get_or, set, drop, drop-cons, length-set, get_or-set_same, get_or-set_other, arith}
use Rattle.std.proofs.lemmas.Nat.{div-add-mod', div-mul-add, mod-mul-add}
use Rattle.std.specs.Option.{unwrap_or}
use Rattle.run_types.specs.declared.types.Placement.{Placement}
use Rattle.run_types.specs.declared.types.Route.{Route}
use Rattle.run_types.specs.Paths.{next, route_of, toward}
use Rattle.run_types.specs.RoutedPlacements.{AreRoutes}
use Rattle.run_types.proofs.Laws.{decide, equal, equals, first, second}
use Rattle.table_routing.specs.Tables.{AreNexts, size, with_routes}
use Rattle.table_routing.proofs.Places.{below}

-- the node at hand and the goal of a route are nodes
pub inside : (l : Placement) (rs : List Route) (i : ℕ) (d : Route) → AreRoutes l rs → i < length rs → ((get_or rs i d).at < size l) × ((get_or rs i d).goal < size l)
inside l [] i d h lt = absurd (omega (arith, lt))
inside l (r ∷ rs) zero d h lt = (h.0.0, h.1)
inside l (r ∷ rs) (suc i) d h lt = inside l rs i d h.4 (omega (arith, lt))

module _ (l : Placement) (rs : List Route) (r : Route) where
  -- the place of the route
  abbrev j : ℕ
  j = r.at * size l + r.goal

  here : (i : ℕ) → r.at ≡ i / size l → r.goal ≡ i % size l → next (with_routes l (r ∷ rs)) (i / size l) (i % size l) ≡ r.next
  here i row column = rw (sym row, sym column) (rw (equals r.at, equals r.goal) refl)

  other_place : (i : ℕ) → i ≢ j → (t : Bool) → (r.at == i / size l && r.goal == i % size l) ≡ t
      → next (with_routes l (r ∷ rs)) (i / size l) (i % size l) ≡ next (with_routes l rs) (i / size l) (i % size l)
  other_place i apart true e =
      let row : r.at ≡ i / size l = equal r.at (i / size l) (first (r.at == i / size l) (r.goal == i % size l) e) in
      let column : r.goal ≡ i % size l = equal r.goal (i % size l) (second (r.at == i / size l) (r.goal == i % size l) e) in
      absurd (apart (sym (ap₂ (λ a b. a * size l + b) row column ∙ div-add-mod' i (size l))))
  other_place i apart false e = ap (λ (t : Bool). unwrap_or (if t then Some r.next else route_of rs (i / size l) (i % size l)) (toward l.width (i / size l) (i % size l))) e

  pub put : (ns : List ℕ) → r.at < size l → r.goal < size l
      → AreNexts (with_routes l rs) (size l * size l) ns → AreNexts (with_routes l (r ∷ rs)) (size l * size l) (set ns (r.at * size l + r.goal) r.next)
  put ns at goal h = record { count = length-set ns j r.next ∙ h.count; each = λ i less apart. by i less apart (decide i j) }
    where
      by : (i : ℕ) → i < size l * size l → i / size l ≢ i % size l → (i ≡ j) ⊎ (i ≢ j) → get_or (set ns j r.next) i 0 ≡ next (with_routes l (r ∷ rs)) (i / size l) (i % size l)
      by i less apart (inl same) =
          let row : i / size l ≡ r.at = ap (λ k. k / size l) same ∙ div-mul-add r.at (size l) r.goal goal in
          let column : i % size l ≡ r.goal = ap (λ k. k % size l) same ∙ mod-mul-add r.at (size l) r.goal goal in
          let there : j < length ns = subst (λ n. j < n) (sym h.count) (below (size l) r.at r.goal at goal) in
          ap (λ k. get_or (set ns j r.next) k 0) same ∙ get_or-set_same ns j r.next 0 there ∙ sym (here i (sym row) (sym column))
      by i less apart (inr other) =
          get_or-set_other ns j i r.next 0 other ∙ h.each i less apart ∙ sym (other_place i other (r.at == i / size l && r.goal == i % size l) refl)

-- the route at a number is put in after those behind it; where the routes stand does not matter
pub put_at : (l : Placement) (xs rs : List Route) (i k : ℕ) (d : Route) (ns ms : List ℕ) → rs ≡ xs → AreRoutes l xs → i ≡ suc k → k < length xs
    → AreNexts (with_routes l (drop i xs)) (size l * size l) ns
    → ms ≡ set ns ((get_or rs k d).at * size l + (get_or rs k d).goal) (get_or rs k d).next → AreNexts (with_routes l (drop k xs)) (size l * size l) ms
put_at l xs rs i k d ns ms same routes at few h is =
    let r : Route = get_or xs k d in
    let those = inside l xs k d routes few in
    let behind : AreNexts (with_routes l (drop (suc k) xs)) (size l * size l) ns = subst (λ n. AreNexts (with_routes l (drop n xs)) (size l * size l) ns) at h in
    let here : AreNexts (with_routes l (drop k xs)) (size l * size l) (set ns (r.at * size l + r.goal) r.next) =
    subst (λ (ks : List Route). AreNexts (with_routes l ks) (size l * size l) (set ns (r.at * size l + r.goal) r.next)) (sym (drop-cons xs k d few))
    (put l (drop (suc k) xs) r ns those.0 those.1 behind) in
    subst (λ (ks : List ℕ). AreNexts (with_routes l (drop k xs)) (size l * size l) ks)
    (sym (is ∙ ap (λ (ks : List Route). set ns ((get_or ks k d).at * size l + (get_or ks k d).goal) (get_or ks k d).next) same)) here
