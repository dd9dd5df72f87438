-- The start of a program, in the code's parts.
use Rattle.std.proofs.Common.{◌≡◌, refl, ℕ, suc, ◌-◌, List, [], ◌∷◌, length, map, slice_get, Some, None, arith}
use Rattle.std.proofs.lemmas.Option.{slice_get-get_or}
use Rattle.std.specs.Ordering.{nat_cmp}
use Rattle.std.specs.FinMap.{put}
use Rattle.pool_syntax.specs.declared.tree.ClassDecl.{ClassDecl}
use Rattle.pool_syntax.specs.TreeOf.{class_tree}
use Rattle.pool_relation.specs.Action.{Object}
use Rattle.run_types.specs.Message.{Message}
use Rattle.run_types.specs.Tables.{Pair}
use Rattle.pool_relation.specs.Transition.{last_class, start, new_object}

last_is : (cs : List ClassDecl) (k : ClassDecl) → slice_get cs (length cs - 1) ≡ Some k → last_class (map class_tree cs) ≡ Some (class_tree k)
last_is [] k h = absurd (grind arith)
last_is (b ∷ []) k h = grind (arith, h)
last_is (b ∷ d ∷ cs) k h =
    let e : suc (suc (length cs)) - 1 ≡ suc (length cs) = omega arith in
    let g : suc (length cs) - 1 ≡ length cs = omega arith in
    let j : slice_get (d ∷ cs) (length (d ∷ cs) - 1) ≡ Some k = rw g (rw e at h) in
    last_is (d ∷ cs) k j

pub none_last : (cs : List ClassDecl) → slice_get cs (length cs - 1) ≡ None → cs ≡ []
none_last [] h = refl
none_last (k ∷ cs) h =
    let last = slice_get-get_or (k ∷ cs) (length (k ∷ cs) - 1) k (omega arith) in
    absurd (cc)

pub started : (cs : List ClassDecl) (k : ClassDecl) (n : ℕ) (x : Object) (os : List (ℕ × Object)) (ms : List (Pair × List Message)) → slice_get cs (length cs - 1) ≡ Some k → x ≡ new_object (class_tree k) → os ≡ put nat_cmp n x [] → ms ≡ []
    → start (map class_tree cs) n ≡ Some (record { objects = os; messages = ms })
started cs k n x os ms h e o m = rw (last_is cs k h, o, e, m) refl
