-- Objects under their names, and the numbers of their states.
use Rattle.std.proofs.Common.{◌≡◌, refl, ap, ◌∙◌, ℕ, suc, ◌+◌, ◌<◌, List, [], ◌∷◌, ◌++◌, length, get_or, IsTrue, arith}
use Rattle.std.specs.Ordering.{nat_cmp, is_lt}
use Rattle.std.specs.FinMap.Entries.{is_sorted, below_all}
use Rattle.run_types.proofs.Laws.{both}
use Rattle.pool_relation.specs.Action.{Object}
use Rattle.object_moves.specs.Rows.{no_object, objects_from}
use Rattle.visited_set.specs.Numbers.{AreNamedFrom}

-- one more number
pub objects_push : (o : ℕ) (xs : List Object) (ns : List ℕ) (n : ℕ) → objects_from o xs (ns ++ n ∷ []) ≡ objects_from o xs ns ++ (o + length ns, get_or xs n no_object) ∷ []
objects_push o xs [] n = ap (λ k. (k, get_or xs n no_object) ∷ []) (omega arith)
objects_push o xs (m ∷ ns) n =
    let e : suc o + length ns ≡ o + length (m ∷ ns) = omega arith in
    ap (λ l. (o, get_or xs m no_object) ∷ l) (objects_push (suc o) xs ns n ∙ ap (λ k. objects_from (suc o) xs ns ++ (k, get_or xs n no_object) ∷ []) e)

-- their names rise
under : (k o : ℕ) (xs : List Object) (ns : List ℕ) → k < o → IsTrue (below_all nat_cmp k (objects_from o xs ns))
under k o xs [] l = refl
under k o xs (n ∷ ns) l =
    let here : IsTrue (is_lt (nat_cmp k o)) = grind arith in
    both (is_lt (nat_cmp k o)) (below_all nat_cmp k (objects_from (suc o) xs ns)) here (under k (suc o) xs ns (omega arith))

pub objects_rise : (o : ℕ) (xs : List Object) (ns : List ℕ) → IsTrue (is_sorted nat_cmp (objects_from o xs ns))
objects_rise o xs [] = refl
objects_rise o xs (n ∷ ns) =
    both (below_all nat_cmp o (objects_from (suc o) xs ns)) (is_sorted nat_cmp (objects_from (suc o) xs ns)) (under o (suc o) xs ns (omega arith)) (objects_rise (suc o) xs ns)

-- where names are in order, the next one is the number of those before it
pub next_in_order : (o : ℕ) (xs : List Object) (ns : List ℕ) (k : ℕ) (x : Object) (rest : List (ℕ × Object)) → AreNamedFrom o (objects_from o xs ns ++ (k, x) ∷ rest) → k ≡ o + length ns
next_in_order o xs [] k x rest h = omega (arith, h.0)
next_in_order o xs (n ∷ ns) k x rest h = omega (arith, next_in_order (suc o) xs ns k x rest h.1)
