-- If objects correspond, they have the same status, and the cycles are the same.
use Rattle.std.proofs.Common.{◌≡◌, refl, ap, ap₂, ◌∙◌, ℕ, suc, List, [], ◌∷◌, length, Option, Some, None}
use Rattle.std.specs.Prelude.{filter_map}
use Rattle.mesh_semantics.specs.Language.{Language}
use Rattle.run_types.specs.Partial.{◌>>=◌}
use Rattle.mesh_semantics.specs.Config.{Config, object_of}
use Rattle.mesh_semantics.specs.Delay.{Delay, held}
use Rattle.mesh_semantics.specs.Standing.{standing, standing_of, chase}
use Rattle.mesh_semantics.specs.Cycles.{called_in, called_by, cycles}
use Rattle.mesh_semantics.specs.Simulates.{Both, Simulates, Zipped, Related}
use Rattle.mesh_semantics.proofs.EventSimulation.{found}

module _ {S T : Type 0} (g : Language S) (h : Language T) (W : Config S → Type 0) (R : ℕ → S → T → Type 0) (sim : Simulates g h W R) where
  pub standing_same : (d : Delay) (o : ℕ) (x : S) (y : T) → R o x y → standing g d o x ≡ standing h d o y
  standing_same d o x y r = ap₂ (λ f k. standing_of d o f (held d o) k) (sim.faults o x y r) (sim.kinds o x y r)

  called_same : (c : Config S) (e : Config T) (d : Delay) → Related R c e → (o : ℕ) → called_by g c d o ≡ called_by h e d o
  called_same c e d z o = by (object_of c o) (object_of e o) (found R o c.objects e.objects z.objects)
    where
      by : (a : Option S) (b : Option T) → Both (R o) a b → (a >>= λ x. called_in (standing g d o x)) ≡ (b >>= λ y. called_in (standing h d o y))
      by None None r = refl
      by None (Some y) r = absurd r
      by (Some x) None r = absurd r
      by (Some x) (Some y) r = ap called_in (standing_same d o x y r)

  as_many : (es : List (ℕ × S)) (fs : List (ℕ × T)) → Zipped R es fs → length es ≡ length fs
  as_many [] [] z = refl
  as_many [] (f ∷ fs) z = absurd z
  as_many (e ∷ es) [] z = absurd z
  as_many (e ∷ es) (f ∷ fs) z = ap suc (as_many es fs z.2)

  chased_same : (chased : ℕ → Option (List ℕ)) (es : List (ℕ × S)) (fs : List (ℕ × T)) → Zipped R es fs → filter_map (λ e. chased e.0) es ≡ filter_map (λ f. chased f.0) fs
  chased_same chased [] [] z = refl
  chased_same chased [] (f ∷ fs) z = absurd z
  chased_same chased (e ∷ es) [] z = absurd z
  chased_same chased (e ∷ es) (f ∷ fs) z = by (chased f.0) refl (ap chased z.0) (chased_same chased es fs z.2)
    where
      by : (m : Option (List ℕ)) → chased f.0 ≡ m → chased e.0 ≡ chased f.0 → filter_map (λ e. chased e.0) es ≡ filter_map (λ f. chased f.0) fs
          → filter_map (λ e. chased e.0) (e ∷ es) ≡ filter_map (λ f. chased f.0) (f ∷ fs)
      by None i s k = let j = s ∙ i in rw (i, j) k
      by (Some ns) i s k = let j = s ∙ i in rw (i, j) (ap (λ ms. ns ∷ ms) k)

  pub cycles_same : (c : Config S) (e : Config T) (d : Delay) → Related R c e → cycles g c d ≡ cycles h e d
  cycles_same c e d z =
      ap₂ (λ (f : ℕ → Option ℕ) n. filter_map (λ x. chase f n x.0 x.0) c.objects) (λ i o. called_same c e d z o i) (as_many c.objects e.objects z.objects)
      ∙ chased_same (λ o. chase (called_by h e d) (length e.objects) o o) c.objects e.objects z.objects
