-- The calls of a node's cells meet the contracts of the calls of the links.
use Rattle.std.proofs.Common.{◌≡◌, ◌≢◌, ◌⊎◌, inl, inr, refl, sym, ap, subst, ◌∙◌, ℕ, zero, suc, ◌-◌, ◌*◌, ◌<◌, ◌≤◌, List, [], ◌∷◌, ◌++◌, length, set, get_or, drop, replicate, Some, Result, Ok, Err, slice_get, OnOk, IfErr, arith}
use Rattle.std.proofs.lemmas.List.{get_or-set_same, get_or-set_other, length-set, set-get_or, length-replicate}
use Rattle.std.proofs.lemmas.Option.{get_or_from_slice_get, slice_get_read}
use Rattle.cell_pool.specs.Lists.{Pool, pool, list_of, with_list, lengths, free_of}
use Rattle.run_types.specs.Tables.{pair_cmp, list_at, put_list}
use Rattle.run_types.specs.LinkTables.{push_list, leaving}
use Rattle.run_types.proofs.Laws.{decide}
use Rattle.mesh_routing.specs.Ways.{ends}
use Rattle.mesh_routing.specs.Links.{links_of, with_links}
use Rattle.mesh_routing.specs.Nodes.{node_of, view_of, AreNodes}
use Rattle.mesh_routing.proofs.AscendingNodes.{rising}
use Rattle.mesh_routing.proofs.LinkLookup.{list_there}
use Rattle.mesh_routing.proofs.OutgoingPackets.{counted_at, all_empty}
use Rattle.mesh_routing.proofs.LinkUpdate.{put_at, pushed, changed}

one_of : {X : Type 0} (xss : List (List X)) (i : ℕ) → length (get_or xss i []) ≤ lengths xss
one_of [] i = omega arith
one_of (xs ∷ xss) zero = omega arith
one_of (xs ∷ xss) (suc i) = let a = one_of xss i in omega (arith, a)

module _ {X : Type 0} (w h c : ℕ) (nodes : List (Pool X)) (wide : 1 ≤ w) (inv : AreNodes w h c nodes) where
  -- the packets of a link are those of its way
  pub there : (a b i : ℕ) → slice_get (ends w h a) i ≡ Some b → list_at pair_cmp (a, b) (view_of w h c nodes).links ≡ list_of (node_of nodes a) i
  there a b i s = list_there (ends w h) (rising w h wide) a b i nodes s

  pub counts : (a : ℕ) → a < w * h → leaving (view_of w h c nodes).links a ≡ lengths (node_of nodes a).lists
  counts a l = counted_at (ends w h) a nodes inv.ways (omega (arith, l, inv.many))

  pub has_way : (a b i : ℕ) → a < w * h → slice_get (ends w h a) i ≡ Some b → i < length (node_of nodes a).lists
  has_way a b i l s = let n = inv.ways a (omega (arith, l, inv.many)) in let m = within (ends w h a) i s in omega (arith, n, m)
    where
      within : (xs : List ℕ) (i : ℕ) → slice_get xs i ≡ Some b → i < length xs
      within [] i e = absurd (cc)
      within (x ∷ xs) zero e = omega arith
      within (x ∷ xs) (suc i) e = let r = within xs i e in omega (arith, r)

  -- one node with other packets
  pub kept : (a i : ℕ) (ys : List X) → a < w * h → AreNodes w h c (put_at nodes a i ys)
  kept a i ys l =
      record {
        many = length-set nodes a (with_list (node_of nodes a) i ys) ∙ inv.many;
        ways = λ k m. on_ways k (omega (arith, m, length-set nodes a (with_list (node_of nodes a) i ys))) (decide k a);
        cells = λ k m. on_cells k (omega (arith, m, length-set nodes a (with_list (node_of nodes a) i ys))) (decide k a);
      }
    where
      la : a < length nodes
      la = omega (arith, l, inv.many)

      is_new : node_of (put_at nodes a i ys) a ≡ with_list (node_of nodes a) i ys
      is_new = get_or-set_same nodes a (with_list (node_of nodes a) i ys) (pool [] 0) la

      is_old : (k : ℕ) → k ≢ a → node_of (put_at nodes a i ys) k ≡ node_of nodes k
      is_old k n = get_or-set_other nodes a k (with_list (node_of nodes a) i ys) (pool [] 0) n

      on_ways : (k : ℕ) → k < length nodes → (k ≡ a) ⊎ (k ≢ a) → length (node_of (put_at nodes a i ys) k).lists ≡ length (ends w h k)
      on_ways k m (inl e) =
          subst (λ z. length (node_of (put_at nodes a i ys) z).lists ≡ length (ends w h z)) (sym e)
          (ap (λ (p : Pool X). length p.lists) is_new ∙ length-set (node_of nodes a).lists i ys ∙ inv.ways a la)
      on_ways k m (inr n) = ap (λ (p : Pool X). length p.lists) (is_old k n) ∙ inv.ways k m

      on_cells : (k : ℕ) → k < length nodes → (k ≡ a) ⊎ (k ≢ a) → (node_of (put_at nodes a i ys) k).cells ≡ c
      on_cells k m (inl e) = subst (λ z. (node_of (put_at nodes a i ys) z).cells ≡ c) (sym e) (ap (λ (p : Pool X). p.cells) is_new ∙ inv.cells a la)
      on_cells k m (inr n) = ap (λ (p : Pool X). p.cells) (is_old k n) ∙ inv.cells k m

  pub put_there : (a b i : ℕ) (ys : List X) → a < w * h → slice_get (ends w h a) i ≡ Some b
      → view_of w h c (put_at nodes a i ys) ≡ with_links (view_of w h c nodes) (put_list pair_cmp (a, b) ys (view_of w h c nodes).links)
  put_there a b i ys l s =
      ap (λ z. links_of w h c z) (changed (ends w h) (rising w h wide) a b i nodes ys s (omega (arith, l, inv.many)) (has_way a b i l s))

  -- a packet was taken off
  pub moved_kept : (a i : ℕ) (ys : List X) (new : Pool X) → a < w * h → new ≡ with_list (node_of nodes a) i ys → AreNodes w h c (set nodes a new)
  moved_kept a i ys new l e = subst (λ p. AreNodes w h c (set nodes a p)) (sym e) (kept a i ys l)

  pub moved : (a b i : ℕ) (new : Pool X) → a < w * h → slice_get (ends w h a) i ≡ Some b → new ≡ with_list (node_of nodes a) i (drop 1 (list_of (node_of nodes a) i))
      → view_of w h c (set nodes a new) ≡ with_links (view_of w h c nodes) (put_list pair_cmp (a, b) (drop 1 (list_at pair_cmp (a, b) (view_of w h c nodes).links)) (view_of w h c nodes).links)
  moved a b i new l s e =
      ap (λ p. view_of w h c (set nodes a p)) e
      ∙ put_there a b i (drop 1 (list_of (node_of nodes a) i)) l s
      ∙ ap (λ z. with_links (view_of w h c nodes) (put_list pair_cmp (a, b) (drop 1 z) (view_of w h c nodes).links)) (sym (there a b i s))

  -- a packet was put, or came back
  module _ {A : Type 0} (a b i : ℕ) (x : X) (new : Pool X) (l : a < w * h) (s : slice_get (ends w h a) i ≡ Some b) where
    pub put_kept : (r : Result A X) → OnOk r (new ≡ with_list (node_of nodes a) i (list_of (node_of nodes a) i ++ x ∷ []))
        → IfErr r (λ v. (v ≡ x) × (new ≡ node_of nodes a)) → AreNodes w h c (set nodes a new)
    put_kept (Ok u) e f = subst (λ p. AreNodes w h c (set nodes a p)) (sym e) (kept a i (list_of (node_of nodes a) i ++ x ∷ []) l)
    put_kept (Err v) e f = subst (λ p. AreNodes w h c (set nodes a p)) (sym f.1) (subst (λ z. AreNodes w h c z) (sym (set-get_or nodes a (pool [] 0))) inv)

    pub put_ok : (r : Result A X) → OnOk r (new ≡ with_list (node_of nodes a) i (list_of (node_of nodes a) i ++ x ∷ []))
        → OnOk r (view_of w h c (set nodes a new) ≡ with_links (view_of w h c nodes) (push_list pair_cmp (a, b) x (view_of w h c nodes).links))
    put_ok (Ok u) e =
        ap (λ p. view_of w h c (set nodes a p)) e
        ∙ put_there a b i (list_of (node_of nodes a) i ++ x ∷ []) l s
        ∙ ap (λ z. with_links (view_of w h c nodes) (put_list pair_cmp (a, b) (z ++ x ∷ []) (view_of w h c nodes).links)) (sym (there a b i s))
        ∙ ap (λ z. with_links (view_of w h c nodes) z) (pushed (a, b) x (view_of w h c nodes).links)
    put_ok (Err v) e = tt

    pub put_err : (r : Result A X) → IfErr r (λ v. (v ≡ x) × (new ≡ node_of nodes a)) → IfErr r (λ v. (v ≡ x) × (view_of w h c (set nodes a new) ≡ view_of w h c nodes))
    put_err (Ok u) f = tt
    put_err (Err v) f = (f.0, ap (λ p. view_of w h c (set nodes a p)) f.1 ∙ ap (λ z. view_of w h c z) (set-get_or nodes a (pool [] 0)))

  -- what is said of the cells of a node that was read
  module _ (a : ℕ) (l : a < w * h) (p : Pool X) (e : p ≡ get_or nodes a p) where
    la : a < length nodes
    la = omega (arith, l, inv.many)

    pub is_node : node_of nodes a ≡ p
    is_node = get_or_from_slice_get nodes a p (pool [] 0) (slice_get_read nodes (length nodes) a p refl la e)

    pub left : leaving (view_of w h c nodes).links a ≡ lengths p.lists
    left = counts a l ∙ ap (λ (q : Pool X). lengths q.lists) is_node

    pub has_cells : p.cells ≡ c
    has_cells = ap (λ (q : Pool X). q.cells) (sym is_node) ∙ inv.cells a la

    pub there_read : (b i : ℕ) → slice_get (ends w h a) i ≡ Some b → list_at pair_cmp (a, b) (view_of w h c nodes).links ≡ list_of p i
    there_read b i s = there a b i s ∙ ap (λ q. list_of q i) is_node

    -- a link has no more packets than leave its node
    pub one_there : (i : ℕ) → length (list_of p i) ≤ leaving (view_of w h c nodes).links a
    one_there i = let b = one_of p.lists i in omega (arith, b, left)

    pub free_there : (f : ℕ) → f ≡ free_of p → lengths p.lists ≤ p.cells → c - f ≡ leaving (view_of w h c nodes).links a
    free_there f k m = omega (arith, k, m, left, has_cells)

    pub full_there : (Q : Type 0) → (Q → free_of p ≡ 0) × (free_of p ≡ 0 → Q) → lengths p.lists ≤ p.cells
        → (Q → leaving (view_of w h c nodes).links a ≡ c) × (leaving (view_of w h c nodes).links a ≡ c → Q)
    full_there Q f m = (λ q. let k = f.0 q in omega (arith, k, m, left, has_cells), λ k. f.1 (omega (arith, k, m, left, has_cells)))

    pub within_there : lengths p.lists ≤ p.cells → leaving (view_of w h c nodes).links a ≤ c
    within_there m = omega (arith, m, left, has_cells)

  -- packets leave a node where one does
  pub some_leave : (j : ℕ) → j < w * h → 0 < lengths (node_of nodes j).lists → (view_of w h c nodes).links ≢ []
  some_leave j l p e =
      absurd (let k = counts j l in let z : leaving (view_of w h c nodes).links j ≡ 0 = ap (λ ls. leaving ls j) e in omega (arith, k, z, p))

  pub none_leave : ((j : ℕ) → j < length nodes → lengths (node_of nodes j).lists ≡ 0) → (view_of w h c nodes).links ≡ []
  none_leave f = all_empty (ends w h) 0 nodes f

no_packets : (X : Type 0) (n : ℕ) → lengths (replicate {A = List X} n []) ≡ 0
no_packets X zero = refl
no_packets X (suc n) = let r = no_packets X n in omega (arith, r)

-- new nodes
module _ {X : Type 0} (w h c : ℕ) (nodes : List (Pool X)) (many : length nodes ≡ w * h) (each : (j : ℕ) → j < length nodes → node_of nodes j ≡ pool (replicate (length (ends w h j)) []) c) where
  pub starts : AreNodes w h c nodes
  starts =
      record {
        many = many;
        ways = λ k m. ap (λ (p : Pool X). length p.lists) (each k m) ∙ length-replicate {A = List X} (length (ends w h k)) [];
        cells = λ k m. ap (λ (p : Pool X). p.cells) (each k m);
      }

  pub starts_empty : view_of w h c nodes ≡ links_of w h c []
  starts_empty = ap (λ z. links_of w h c z) (all_empty (ends w h) 0 nodes (λ j m. ap (λ (p : Pool X). lengths p.lists) (each j m) ∙ no_packets X (length (ends w h j))))
