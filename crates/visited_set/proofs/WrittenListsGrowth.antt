-- The lists of items that a tree stands for: what a node adds, and that earlier numbers keep their lists.
use Rattle.std.proofs.Common.{◌≡◌, inl, inr, refl, sym, ap, ap₂, ◌∙◌, subst, ℕ, zero, suc, ◌+◌, ◌<◌, ◌≤◌, List, [], ◌∷◌, ◌++◌, map, length, get_or, Some, None, Bool, true, false, arith, append_assoc, length-append}
use Rattle.std.specs.Prelude.{nat_lt, if◌then◌else◌, reverse, ◌-◌, ◌⊎◌}
use Rattle.std.specs.List.{All, slice_get}
use Rattle.std.proofs.lemmas.List.{append-nil, reverse-append}
use Rattle.std.proofs.lemmas.Option.{slice_get_read, slice_get_within}
use Rattle.std.proofs.lemmas.List.Elements.{All-head, All-tail, All-weaker}
use Rattle.run_types.specs.declared.types.Item.{Item}
use Rattle.pool_relation.specs.Action.{Object}
use Rattle.search_laws.specs.Outcomes.{Passed}
use Rattle.run_types.specs.Message.{Message}
use Rattle.visited_set.specs.Rows.{Row}
use Rattle.visited_set.specs.declared.writings.Node.{Node}
use Rattle.visited_set.specs.Numbers.{numbered, passed, IsNamed}
use Rattle.visited_set.specs.VisitedConfigurations.{entry}
use Rattle.visited_set.specs.WrittenLists.{with_nodes, parent, IsGrown}

-- a list at a number that was there
pub still : (vs added : List (List Item)) (n : ℕ) → n < length vs → get_or (vs ++ added) n [] ≡ get_or vs n []
still [] added n h = absurd (omega arith)
still (v ∷ vs) added zero h = refl
still (v ∷ vs) added (suc n) h = still vs added n (omega arith)

-- the last one
at_end : (vs : List (List Item)) (v : List Item) → get_or (vs ++ v ∷ []) (length vs) [] ≡ v
at_end [] v = refl
at_end (w ∷ vs) v = at_end vs v

-- nodes add lists at the end
pub added_by : (vs : List (List Item)) (ns : List Node) → IsGrown vs (with_nodes vs ns)
added_by vs [] = ([], sym (append-nil vs))
added_by vs (n ∷ ns) =
    let v = get_or vs n.before [] ++ n.item ∷ [] in
    let rest = added_by (vs ++ v ∷ []) ns in (v ∷ rest.0, rest.1 ∙ append_assoc vs (v ∷ []) rest.0)

-- no list is there
beyond : (vs : List (List Item)) (n : ℕ) → length vs ≤ n → get_or vs n [] ≡ []
beyond [] n h = refl
beyond (v ∷ vs) zero h = absurd (omega arith)
beyond (v ∷ vs) (suc n) h = beyond vs n (omega arith)

is_less : (a b : ℕ) → a < b → nat_lt a b ≡ true
is_less a b h = grind (arith, h)

-- as many as there are nodes
pub count_of : (vs : List (List Item)) (ns : List Node) → length (with_nodes vs ns) ≡ length vs + length ns
count_of vs [] = omega arith
count_of vs (n ∷ ns) = omega (arith, count_of (vs ++ (get_or vs n.before [] ++ n.item ∷ []) ∷ []) ns, length-append vs ((get_or vs n.before [] ++ n.item ∷ []) ∷ []))

-- the list of a node: that of its parent, and its item
pub at_node : (vs : List (List Item)) (ns : List Node) (k i : ℕ) (n : Node) → length vs ≡ suc k → get_or vs 0 [] ≡ [] → slice_get ns i ≡ Some n
    → get_or (with_nodes vs ns) (suc (k + i)) [] ≡ get_or (with_nodes vs ns) (parent n.before (suc (k + i))) [] ++ n.item ∷ []
at_node vs [] k i n l z g = absurd (let y : None ≡ Some n = g in cc)
at_node vs (m ∷ ns) k zero n l z g =
    let is : m ≡ n = cc in
    let v = get_or vs m.before [] ++ m.item ∷ [] in
    let grown = added_by (vs ++ v ∷ []) ns in
    let one : length (vs ++ v ∷ []) ≡ suc (length vs) = omega (arith, length-append vs (v ∷ [])) in
    let place : suc (k + 0) ≡ length vs = omega arith in
    let here : get_or (with_nodes (vs ++ v ∷ []) ns) (suc (k + 0)) [] ≡ v =
    ap (λ xs. get_or xs (suc (k + 0)) []) grown.1 ∙ still (vs ++ v ∷ []) grown.0 (suc (k + 0)) (omega arith) ∙ ap (λ j. get_or (vs ++ v ∷ []) j []) place ∙ at_end vs v
    in
    let kept : (j : ℕ) → j < length vs → get_or (with_nodes (vs ++ v ∷ []) ns) j [] ≡ get_or vs j [] =
    (λ j h. ap (λ xs. get_or xs j []) grown.1 ∙ still (vs ++ v ∷ []) grown.0 j (omega arith) ∙ still vs (v ∷ []) j h)
    in
    let before : get_or (with_nodes (vs ++ v ∷ []) ns) (parent m.before (suc (k + 0))) [] ≡ get_or vs m.before [] = by (nat_lt m.before (suc (k + 0))) refl kept in
    subst (λ (x : Node). get_or (with_nodes (vs ++ v ∷ []) ns) (suc (k + 0)) [] ≡ get_or (with_nodes (vs ++ v ∷ []) ns) (parent x.before (suc (k + 0))) [] ++ x.item ∷ []) is
    (here ∙ ap (λ w. w ++ m.item ∷ []) (sym before))
  where
    by : (b : Bool) → nat_lt m.before (suc (k + 0)) ≡ b
        → ((j : ℕ) → j < length vs → get_or (with_nodes (vs ++ (get_or vs m.before [] ++ m.item ∷ []) ∷ []) ns) j [] ≡ get_or vs j [])
        → get_or (with_nodes (vs ++ (get_or vs m.before [] ++ m.item ∷ []) ∷ []) ns) (parent m.before (suc (k + 0))) [] ≡ get_or vs m.before []
    by true e kept =
        let small : m.before < length vs = grind (arith, e, l) in
        ap (λ j. get_or (with_nodes (vs ++ (get_or vs m.before [] ++ m.item ∷ []) ∷ []) ns) j []) (ap (λ t. if t then m.before else 0) e) ∙ kept m.before small
    by false e kept =
        let first : 0 < length vs = omega (arith, l) in
        let large : length vs ≤ m.before = grind (arith, e, l) in
        ap (λ j. get_or (with_nodes (vs ++ (get_or vs m.before [] ++ m.item ∷ []) ∷ []) ns) j []) (ap (λ t. if t then m.before else 0) e) ∙ kept 0 first ∙ z ∙ sym (beyond vs m.before large)
at_node vs (m ∷ ns) k (suc i) n l z g =
    let v = get_or vs m.before [] ++ m.item ∷ [] in
    let place : suc (suc k + i) ≡ suc (k + suc i) = omega arith in
    let one : length (vs ++ v ∷ []) ≡ suc (suc k) = omega (arith, length-append vs (v ∷ [])) in
    let first : get_or (vs ++ v ∷ []) 0 [] ≡ [] = still vs (v ∷ []) 0 (omega (arith, l)) ∙ z in
    subst (λ j. get_or (with_nodes (vs ++ v ∷ []) ns) j [] ≡ get_or (with_nodes (vs ++ v ∷ []) ns) (parent n.before j) [] ++ n.item ∷ []) place
    (at_node (vs ++ v ∷ []) ns (suc k) i n one first g)

-- the first list is empty
pub nothing_first : (ns : List Node) → get_or (with_nodes ([] ∷ []) ns) 0 [] ≡ []
nothing_first ns = let g = added_by ([] ∷ []) ns in ap (λ xs. get_or xs 0 []) g.1 ∙ still ([] ∷ []) g.0 0 (omega arith)

-- the list with the number of a node that stands after the list with the number b
pub at_seen : (ns : List Node) (number i b : ℕ) (n : Node) → number ≡ suc i → slice_get ns i ≡ Some n → b < number → n.before ≡ b
    → get_or (with_nodes ([] ∷ []) ns) number [] ≡ get_or (with_nodes ([] ∷ []) ns) b [] ++ n.item ∷ []
at_seen ns number i b n is g small same =
    let one : suc (0 + i) ≡ suc i = omega arith in
    let h = subst (λ j. get_or (with_nodes ([] ∷ []) ns) j [] ≡ get_or (with_nodes ([] ∷ []) ns) (parent n.before j) [] ++ n.item ∷ []) one (at_node ([] ∷ []) ns 0 i n refl refl g) in
    let p : parent n.before (suc i) ≡ b = ap (λ t. if t then n.before else 0) (is_less n.before (suc i) (omega (arith, is, same, small))) ∙ same in
    ap (λ j. get_or (with_nodes ([] ∷ []) ns) j []) is ∙ h ∙ ap (λ j. get_or (with_nodes ([] ∷ []) ns) j [] ++ n.item ∷ []) p

-- no list has this number, or it is the empty one
pub nothing_at : (ns : List Node) (at : ℕ) → (at ≡ 0) ⊎ (length ns < at) → get_or (with_nodes ([] ∷ []) ns) at [] ≡ []
nothing_at ns at (inl h) = ap (λ j. get_or (with_nodes ([] ∷ []) ns) j []) h ∙ nothing_first ns
nothing_at ns at (inr h) = beyond (with_nodes ([] ∷ []) ns) at (omega (arith, count_of ([] ∷ []) ns, h))

-- one step of a walk from a list to the empty one
pub walk_step : (ns : List Node) (at next : ℕ) (n : Node) (so_far : List Item) → 0 < at → at ≤ length ns → n ≡ get_or ns (at - 1) n → next ≡ parent n.before at
    → get_or (with_nodes ([] ∷ []) ns) at [] ++ reverse so_far ≡ get_or (with_nodes ([] ∷ []) ns) next [] ++ reverse (so_far ++ n.item ∷ [])
walk_step ns at next n so_far first inside is up =
    let one : suc (0 + (at - 1)) ≡ at = omega (arith, first) in
    let there : slice_get ns (at - 1) ≡ Some n = slice_get_read ns (length ns) (at - 1) n refl (omega (arith, first, inside)) is in
    let step = at_node ([] ∷ []) ns 0 (at - 1) n refl refl there in
    let here : get_or (with_nodes ([] ∷ []) ns) at [] ≡ get_or (with_nodes ([] ∷ []) ns) next [] ++ n.item ∷ [] =
    ap (λ j. get_or (with_nodes ([] ∷ []) ns) j []) (sym one) ∙ step ∙ ap (λ j. get_or (with_nodes ([] ∷ []) ns) j [] ++ n.item ∷ []) (ap (λ j. parent n.before j) one ∙ sym up)
    in
    ap (λ v. v ++ reverse so_far) here ∙ append_assoc (get_or (with_nodes ([] ∷ []) ns) next []) (n.item ∷ []) (reverse so_far)
    ∙ ap (λ v. get_or (with_nodes ([] ∷ []) ns) next [] ++ v) (sym (reverse-append so_far (n.item ∷ [])))

-- one node more
pub one_more : (vs : List (List Item)) (ns : List Node) (n : Node) → with_nodes vs (ns ++ n ∷ []) ≡ with_nodes vs ns ++ (get_or (with_nodes vs ns) n.before [] ++ n.item ∷ []) ∷ []
one_more vs [] n = refl
one_more vs (m ∷ ns) n = one_more (vs ++ (get_or vs m.before [] ++ m.item ∷ []) ∷ []) ns n

-- the number of a node is one of the lists
pub number_within : (ns : List Node) (number i : ℕ) (n : Node) → number ≡ suc i → slice_get ns i ≡ Some n → number < length (with_nodes ([] ∷ []) ns)
number_within ns number i n is g = omega (arith, is, slice_get_within ns i n g, count_of ([] ∷ []) ns)

-- a tree with one node more
pub grown_by_one : (ns new : List Node) (n : Node) → new ≡ ns ++ n ∷ [] → IsGrown (with_nodes ([] ∷ []) ns) (with_nodes ([] ∷ []) new)
grown_by_one ns new n is = (_, ap (with_nodes ([] ∷ [])) is ∙ one_more ([] ∷ []) ns n)

pub number_of_one : (ns new : List Node) (n : Node) (number : ℕ) → n.before < length (with_nodes ([] ∷ []) ns) → new ≡ ns ++ n ∷ [] → number ≡ length ns + 1
    → (get_or (with_nodes ([] ∷ []) new) number [] ≡ get_or (with_nodes ([] ∷ []) ns) n.before [] ++ n.item ∷ []) × (number < length (with_nodes ([] ∷ []) new))
number_of_one ns new n number small is last =
    let v = get_or (with_nodes ([] ∷ []) ns) n.before [] ++ n.item ∷ [] in
    let all : with_nodes ([] ∷ []) new ≡ with_nodes ([] ∷ []) ns ++ v ∷ [] = ap (with_nodes ([] ∷ [])) is ∙ one_more ([] ∷ []) ns n in
    let count = count_of ([] ∷ []) ns in
    let place : number ≡ length (with_nodes ([] ∷ []) ns) = omega (arith, last, count) in
    let long = ap length all in (
      ap (λ xs. get_or xs number []) all ∙ ap (λ j. get_or (with_nodes ([] ∷ []) ns ++ v ∷ []) j []) place ∙ at_end (with_nodes ([] ∷ []) ns) v,
      omega (arith, place, long, length-append (with_nodes ([] ∷ []) ns) (v ∷ [])),
    )

-- of all that is kept
pub lists_still : (xs : List Object) (ms : List (List Message)) (vs ws : List (List Item)) (es : List Row) → IsGrown vs ws → All (IsNamed vs) es
    → map (passed xs ms ws) es ≡ map (passed xs ms vs) es
lists_still xs ms vs ws [] g k = refl
lists_still xs ms vs ws (e ∷ es) g k =
    let here : get_or ws e.written [] ≡ get_or vs e.written [] = ap (λ l. get_or l e.written []) g.1 ∙ still vs g.0 e.written (All-head (IsNamed vs) e es k) in
    ap₂ (λ (w : List Item) (l : List Passed). entry e.next w (numbered xs ms e) ∷ l) here (lists_still xs ms vs ws es g (All-tail (IsNamed vs) e es k))

pub names_still : (vs ws : List (List Item)) (es : List Row) → IsGrown vs ws → All (IsNamed vs) es → All (IsNamed ws) es
names_still vs ws es g k = All-weaker (IsNamed vs) (IsNamed ws) (λ e l. let long = ap length g.1 in omega (arith, length-append vs g.0)) es k
