-- The look-ups of the definitions find the first entry with a name.
use Rattle.std.proofs.Common.{◌≡◌, refl, sym, ap, ◌∙◌, ℕ, ◌==◌, slice_get, List, [], ◌∷◌, ◌++◌, map, find, option_map, Some, None, arith}
use Rattle.pool_syntax.specs.declared.tree.ClassDecl.{ClassDecl}
use Rattle.pool_syntax.specs.declared.tree.Method.{Method}
use Rattle.pool_syntax.specs.declared.tree.Var.{Var}
use Rattle.pool_syntax.specs.TreeOf.{class_tree, method_tree}
use Rattle.pool_syntax.specs.Classes.{class_of, named_method}
use Rattle.pool_syntax.specs.Typing.{var_of}
use Rattle.type_check.specs.Index.{place_of}
use Rattle.type_check.proofs.IndexLaws.{found_there, found_nowhere}

pub class_of_found : (ks : List ClassDecl) (n : ℕ) → class_of (map class_tree ks) n ≡ option_map class_tree (find (λ k. k.name.name.0 == n) ks)
class_of_found [] n = refl
class_of_found (k ∷ ks) n = grind (arith, class_of_found ks n)

pub named_method_found : (ms : List Method) (n : ℕ) → named_method (map method_tree ms) n ≡ option_map method_tree (find (λ m. m.name.name.0 == n) ms)
named_method_found [] n = refl
named_method_found (m ∷ ms) n = grind (arith, named_method_found ms n)

pub var_of_found : (vs : List Var) (n : ℕ) → var_of vs n ≡ find (λ v. v.name.0 == n) vs
var_of_found [] n = refl
var_of_found (v ∷ vs) n = grind (arith, var_of_found vs n)

-- the first class of a name stands at the first place of the name
pub class_of_at : (ks : List ClassDecl) (n i : ℕ) → place_of (λ k. k.name.name.0) ks n ≡ Some i → class_of (map class_tree ks) n ≡ option_map class_tree (slice_get ks i)
class_of_at ks n i h = class_of_found ks n ∙ ap (option_map class_tree) (sym (found_there (λ k. k.name.name.0) ks n i h))

pub class_of_nowhere : (ks : List ClassDecl) (n : ℕ) → place_of (λ k. k.name.name.0) ks n ≡ None → class_of (map class_tree ks) n ≡ None
class_of_nowhere ks n h = class_of_found ks n ∙ ap (option_map class_tree) (found_nowhere (λ k. k.name.name.0) ks n h)

-- the first of two lists is looked into first
pub var_of_both : (vs ws : List Var) (n : ℕ) → var_of (vs ++ ws) n ≡ elim (var_of vs n) [ None ↦ var_of ws n | Some v ↦ Some v ]
var_of_both [] ws n = refl
var_of_both (v ∷ vs) ws n = grind (arith, var_of_both vs ws n)
