-- If all labels that were tried or followed are free, no run has another label.
use Rattle.std.proofs.Common.{◌≡◌, refl, sym, ap, ◌∙◌, ℕ, List, [], ◌∷◌, length, map, Option, Some, None, Bool, true, false, ◌&&◌, arith}
use Rattle.run_types.specs.declared.types.Label.{Label}
use Rattle.run_types.specs.Partial.{◌>>=◌}
use Rattle.pool_syntax.specs.Terms.{ProgramTree, ClassTree}
use Rattle.pool_relation.specs.Configuration.{Configuration}
use Rattle.pool_relation.specs.Transition.{run, last_class, start}
use Rattle.reachability.specs.Search.{in_order}
use Rattle.search_laws.specs.Renamed.{Renaming, renamed_program, renamed_label, IsNameless}
use Rattle.search_laws.specs.Unused.{all_free, IsOfNoNames, IsWholeAndFree}
use Rattle.search_laws.proofs.RenamedTransition.{Alike, Neither, Both}
use Rattle.search_laws.proofs.RenamedRun.{run_renamed}
use Rattle.search_laws.proofs.NamesInOrder.{swap_first, swapped, same_all, arranged}
use Rattle.search_laws.proofs.SearchCompleteness.{lone, below_start, lone_renamed}
use Rattle.search_laws.proofs.ChoiceFreeRuns.{start_sorted}
use Rattle.search_laws.proofs.Known.{known_start}
use Rattle.search_laws.proofs.PutOff.{all_still, known_settled, tells}

free_renamed : (free : Label → Bool) → IsOfNoNames free → (f : ℕ → ℕ) (ls : List Label) → all_free free (map (renamed_label f) ls) ≡ all_free free ls
free_renamed free none f [] = refl
free_renamed free none f (l ∷ ls) = ap (λ b. b && all_free free (map (renamed_label f) ls)) (none f l) ∙ ap (λ b. free l && b) (free_renamed free none f ls)

module _ (p : ProgramTree) (free : Label → Bool) where
  -- the run has a label that is not free
  abbrev Uses : List Label → Configuration → Type 0
  Uses ls d = all_free free ls ≡ false

  left_out : (t : Label) (ls : List Label) (d : Configuration) → free t ≡ true → Uses (t ∷ ls) d → Uses ls d
  left_out t ls d f h = sym (ap (λ b. b && all_free free ls) f) ∙ h

  behind : (l : Label) (ls ms : List Label) (d e : Configuration) → (Uses ls d → Uses ms e) → Uses (l ∷ ls) d → Uses (l ∷ ms) e
  behind l ls ms d e f h = by (free l) (all_free free ls) (all_free free ms) f h
    where
      by : (a u v : Bool) → (u ≡ false → v ≡ false) → (a && u) ≡ false → (a && v) ≡ false
      by true u v f h = f h
      by false u v f h = refl

  module _ (less : IsNameless p) (none : IsOfNoNames free) (es : List (ℕ × Configuration)) (whole : IsWholeAndFree p free es) where
    in_turn : (first d : Configuration) (ls : List Label) → start p 0 ≡ Some first → in_order 1 ls ≡ true → run p first ls ≡ Some d → all_free free ls ≡ true
    in_turn first d ls starts orders leads = by (all_free free ls) refl
      where
        by : (b : Bool) → all_free free ls ≡ b → all_free free ls ≡ true
        by true e = e
        by false e =
            let b = whole.begins first starts in
            let w = all_still p free Uses left_out behind (λ t ks x y f i h. h) 1 first d b.0 ls (start_sorted p first starts) b.1 orders leads in
            let known = known_settled p free less 1 first b.0 (known_start p less first starts) b.1 in
            absurd (tells p free Uses left_out behind (λ t ks x y f i h. h) less 0 (λ g ks x y keeps same h. free_renamed free none g.to ks ∙ h) es whole.closed ⊥ (λ n c i h. let z : true ≡ false = h in cc)
            (length w.labels) 1 b.0 w.to w.labels (omega arith) (omega arith) known b.2 w.orders w.leads (w.holds e))

pub no_run_uses : (p : ProgramTree) (free : Label → Bool) (es : List (ℕ × Configuration)) → IsNameless p → IsOfNoNames free → IsWholeAndFree p free es
    → (root : ℕ) (c d : Configuration) (ls : List Label) → start p root ≡ Some c → run p c ls ≡ Some d → all_free free ls ≡ true
no_run_uses p free es less none whole root c d ls starts leads = by (last_class p) refl starts
  where
    go : (x : ClassTree) → last_class p ≡ Some x → run p (lone root x) ls ≡ Some d → all_free free ls ≡ true
    go x e r =
        let a = arranged p (lone root x) d ls 1 (swapped same_all root 0) (below_start x root) r in
        let z : (swapped same_all root 0).to root ≡ 0 = swap_first root 0 in
        let first : a.names.to root ≡ 0 = a.keeps root (omega arith) ∙ z in
        let alike = run_renamed a.names p (lone root x) (lone 0 x) ls (lone_renamed a.names p x root less e first) in
        let starts : start p 0 ≡ Some (lone 0 x) = ap (λ o. o >>= λ c. Some (lone 0 c)) e in
        there a.names a.orders starts (run p (lone root x) ls) r (run (renamed_program a.names.to p) (lone 0 x) (map (renamed_label a.names.to) ls)) refl alike
      where
        there : (g : Renaming) → in_order 1 (map (renamed_label g.to) ls) ≡ true → start p 0 ≡ Some (lone 0 x) → (u : Option Configuration) → u ≡ Some d → (y : Option Configuration)
            → run (renamed_program g.to p) (lone 0 x) (map (renamed_label g.to) ls) ≡ y → Alike g.to u y → all_free free ls ≡ true
        there g orders starts u i y j Neither = absurd (cc)
        there g orders starts u i y j (Both {c = b} {d = e} same) =
            sym (free_renamed free none g.to ls)
            ∙ in_turn p free less none es whole (lone 0 x) e (map (renamed_label g.to) ls) starts orders (ap (λ q. run q (lone 0 x) (map (renamed_label g.to) ls)) (sym (less g.to)) ∙ j)

    by : (o : Option ClassTree) → last_class p ≡ o → (o >>= λ k. Some (lone root k)) ≡ Some c → all_free free ls ≡ true
    by None i s = absurd (cc)
    by (Some x) i s =
        let is : lone root x ≡ c = cc in
        go x i (ap (λ y. run p y ls) is ∙ leads)
