-- The configurations after each prefix of labels, and one after the other.
use Rattle.std.proofs.Common.{◌≡◌, refl, sym, ap, subst, ◌∙◌, List, [], ◌∷◌, ◌++◌, Option, Some, IsTrue}
use Rattle.run_types.specs.declared.types.Label.{Label}
use Rattle.run_types.specs.Partial.{◌>>=◌}
use Rattle.run_types.proofs.Laws.{given_by, same_some}
use Rattle.pool_syntax.specs.Terms.{ProgramTree}
use Rattle.pool_syntax.specs.Typing.{faults}
use Rattle.pool_relation.specs.Configuration.{Configuration}
use Rattle.pool_relation.specs.Transition.{transition, run}
use Rattle.pool_relation.specs.Typed.{Typed}
use Rattle.pool_syntax.specs.Written.{is_written}
use Rattle.pool_relation.proofs.Laws.{not_wrong, typed_kept}
use Rattle.mesh_of_terms.specs.RunOf.{IsRight, GoesBy}
use Rattle.adequacy.specs.RightWay.{IsRightWay}

pub one : {A : Type 0} (o : Option A) (x y : A) → o ≡ Some x → o ≡ Some y → x ≡ y
one o x y h k = cc

module _ (p : ProgramTree) where
  abbrev pub Fronts : (c z : Configuration) → List Label → Type 0
  Fronts c z ls = (front rest : List Label) → front ++ rest ≡ ls → GoesBy p c z front rest

  at_once : (c z : Configuration) (rest : List Label) → GoesBy p c z [] rest → IsRight p c
  at_once c z rest g = let same : c ≡ g.between = one (Some c) c g.between refl g.to in subst (λ (e : Configuration). IsRight p e) (sym same) g.right

  -- a front behind a label that is possible
  behind : (c d z : Configuration) (l : Label) (front rest : List Label) → transition p c l ≡ Some d → GoesBy p c z (l ∷ front) rest → GoesBy p d z front rest
  behind c d z l front rest t g = record {
    between = g.between;
    to = subst (λ (o : Option Configuration). (o >>= λ e. run p e front) ≡ Some g.between) t g.to;
    from = g.from;
    right = g.right;
  }

  pub one_by_one : (ls : List Label) (c z : Configuration) → Fronts c z ls → IsRightWay p c ls z
  one_by_one [] c z h =
      let g = h [] [] refl in
      (at_once c z [] g, let same : c ≡ g.between = one (Some c) c g.between refl g.to in let last : g.between ≡ z = one (Some g.between) g.between z refl g.from in same ∙ last)
  one_by_one (l ∷ ls) c z h =
      let step = given_by (transition p c l) (λ d. Some d) _ (h (l ∷ []) ls refl).to in (
        step.0,
        at_once c z (l ∷ ls) (h [] (l ∷ ls) refl),
        step.1,
        one_by_one ls step.0 z (λ front rest e. behind c step.0 z l front rest step.1 (h (l ∷ front) rest (ap (λ ks. l ∷ ks) e))),
      )

  first_right : (ls : List Label) (c z : Configuration) → IsRightWay p c ls z → IsRight p c
  first_right [] c z w = w.0
  first_right (l ∷ ls) c z w = w.1

  leads : (ls : List Label) (c z : Configuration) → IsRightWay p c ls z → run p c ls ≡ Some z
  leads [] c z w = ap Some w.1
  leads (l ∷ ls) c z w = subst (λ (o : Option Configuration). (o >>= λ e. run p e ls) ≡ Some z) (sym w.2) (leads ls w.0 z w.3)

  pub and_back : (front rest ls : List Label) (c z : Configuration) → IsRightWay p c ls z → front ++ rest ≡ ls → GoesBy p c z front rest
  and_back [] rest ls c z w e = record {
    between = c;
    to = refl;
    from = subst (λ (ks : List Label). run p c ks ≡ Some z) (sym e) (leads ls c z w);
    right = first_right ls c z w;
  }
  and_back (l ∷ front) rest [] c z w e = absurd (cc)
  and_back (l ∷ front) rest (k ∷ ls) c z w e =
      let same : l ≡ k = cc in
      let tail : front ++ rest ≡ ls = cc in
      let g = and_back front rest ls w.0 z w.3 tail in
      let step : transition p c l ≡ Some w.0 = subst (λ (i : Label). transition p c i ≡ Some w.0) (sym same) w.2 in
      record {
        between = g.between;
        to = subst (λ (o : Option Configuration). (o >>= λ d. run p d front) ≡ Some g.between) (sym step) g.to;
        from = g.from;
        right = g.right;
      }

-- a run from a typed configuration

module _ (p : ProgramTree) (none : faults p ≡ []) (written : IsTrue (is_written p)) where
  pub right : (c : Configuration) → Typed p c → IsRight p c
  right c t = record { typed = t; nobody = λ o x e. not_wrong p none written c o x t e }

  pub run_is : (ls : List Label) (c z : Configuration) → Typed p c → run p c ls ≡ Some z → IsRightWay p c ls z
  run_is [] c z t h = (right c t, same_some h)
  run_is (l ∷ ls) c z t h =
      let s = given_by (transition p c l) (λ d. run p d ls) z h in
      (s.0, right c t, s.1, run_is ls s.0 z (typed_kept p c s.0 l none written t s.1) s.2)
