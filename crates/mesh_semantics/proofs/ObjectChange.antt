-- The parts of a consistent state that a change of one object keeps.
use Rattle.std.proofs.Common.{◌≡◌, ◌≢◌, ◌⊎◌, inl, inr, refl, sym, ap, subst, ◌∙◌, IsTrue, ℕ, ◌+◌, ◌*◌, ◌<◌, ◌≤◌, ◌==◌, List, [], ◌∷◌, ◌++◌, Option, Some, None, Bool, true, false, if◌then◌else◌, arith}
use Rattle.std.specs.Ordering.{nat_cmp}
use Rattle.std.specs.FinMap.{find, put, is_sorted}
use Rattle.run_types.specs.declared.types.Error.{Error}
use Rattle.run_types.specs.declared.types.Placement.{Placement}
use Rattle.run_types.specs.Tables.{Pair, Each}
use Rattle.run_types.proofs.Laws.{decide, differ, same_some, find_put_same, find_put_other, total_put, each_map}
use Rattle.mesh_semantics.specs.Language.{Language}
use Rattle.mesh_semantics.specs.Config.{Config, object_of, put_object}
use Rattle.mesh_semantics.specs.Moves.{running}
use Rattle.run_types.specs.Paths.{total, on_link, without_first}
use Rattle.mesh_semantics.specs.Delay.{Packet, Arrival}
use Rattle.run_types.specs.ObjectNames.{node_of, slot_of}
use Rattle.mesh_semantics.specs.Act.{object_count, frame_count, first_of}
use Rattle.mesh_semantics.specs.Sound.{IsThere, IsPlaced}
use Rattle.mesh_semantics.proofs.LinksAndArrivals.{heads}

-- equal words are told so

-- lists of which each element has a property

pub each_without : {X : Type 0} (P : X → Type 0) (t : X → Bool) (xs : List X) → Each P xs → Each P (without_first t xs)
each_without P t [] h = tt
each_without P t (x ∷ xs) h = by (t x) refl (each_without P t xs h.1)
  where
    by : (b : Bool) → t x ≡ b → Each P (without_first t xs) → Each P (without_first t (x ∷ xs))
    by true i k = rw i h.1
    by false i k = rw i (h.0, k)

pub each_middle : {X : Type 0} (P : X → Type 0) (xs ys : List X) (x : X) → Each P (xs ++ x ∷ ys) → P x
each_middle P [] ys x h = h.0
each_middle P (z ∷ xs) ys x h = each_middle P xs ys x h.1

pub each_head : {X : Type 0} (P : Pair × X → Type 0) (k : Pair) (ls : List (Pair × X)) (x : X) → first_of (on_link ls k) ≡ Some x → Each P ls → P (k, x)
each_head P k ls x h e = let r = heads k ls x h in each_middle P r.before r.behind (k, x) (subst (Each P) r.whole e)

pub total_without : {E : Type 0} (f : E → ℕ) (t : E → Bool) (es : List E) → ((e : E) → t e ≡ true → f e ≡ 0) → total f (without_first t es) ≡ total f es
total_without f t [] h = refl
total_without f t (e ∷ es) h = by (t e) refl (total_without f t es h)
  where
    by : (b : Bool) → t e ≡ b → total f (without_first t es) ≡ total f es → total f (without_first t (e ∷ es)) ≡ total f (e ∷ es)
    by true i k = let z = h e i in rw i (omega (arith, z))
    by false i k = rw i (ap (λ n. f e + n) k)

-- and never more than before
pub total_less : {E : Type 0} (f : E → ℕ) (t : E → Bool) (es : List E) → total f (without_first t es) ≤ total f es
total_less f t [] = omega arith
total_less f t (e ∷ es) = by (t e) refl (total_less f t es)
  where
    by : (b : Bool) → t e ≡ b → total f (without_first t es) ≤ total f es → total f (without_first t (e ∷ es)) ≤ total f (e ∷ es)
    by true i k = rw i (omega arith)
    by false i k = rw i (omega arith)

module _ {S : Type 0} (g : Language S) where
  -- objects that are there

  pub there_put : (c : Config S) (o : ℕ) (y : S) (q : ℕ) → IsThere c q → IsThere (put_object c o y) q
  there_put c o y q h = by (decide q o)
    where
      by : (q ≡ o) ⊎ (q ≢ o) → IsThere (put_object c o y) q
      by (inl e) = (y, subst (λ n. find nat_cmp n (put nat_cmp o y c.objects) ≡ Some y) (sym e) (find_put_same o y c.objects))
      by (inr n) = (h.0, find_put_other q o y c.objects n ∙ h.1)

  pub put_there : (c : Config S) (o : ℕ) (x y : S) (q : ℕ) → object_of c o ≡ Some x → IsThere (put_object c o y) q → IsThere c q
  put_there c o x y q f h = by (decide q o)
    where
      by : (q ≡ o) ⊎ (q ≢ o) → IsThere c q
      by (inl e) = (x, ap (object_of c) e ∙ f)
      by (inr n) = (h.0, sym (find_put_other q o y c.objects n) ∙ h.1)

  pub runs : (c : Config S) (o : ℕ) (x : S) → object_of c o ≡ Some x → g.fault x ≡ None → running g c o ≡ Some x
  runs c o x f s = rw (f, s) refl

  pub running_gives : (c : Config S) (o : ℕ) (x : S) → running g c o ≡ Some x → (object_of c o ≡ Some x) × (g.fault x ≡ None)
  running_gives c o x h = by (object_of c o) refl
    where
      on : (y : S) → object_of c o ≡ Some y → (f : Option Error) → g.fault y ≡ f → (object_of c o ≡ Some x) × (g.fault x ≡ None)
      on y i None f = let same : y ≡ x = same_some (rw (i, f) at h) in (i ∙ ap Some same, ap g.fault (sym same) ∙ f)
      on y i (Some e) f = absurd (let q = rw (i, f) at h in cc)

      by : (z : Option S) → object_of c o ≡ z → (object_of c o ≡ Some x) × (g.fault x ≡ None)
      by None i = absurd (let q = rw i at h in cc)
      by (Some y) i = on y i (g.fault y) refl

  pub placed_grow : (l : Placement) (c c' : Config S) → ((q : ℕ) → IsThere c q → IsThere c' q) → (ls : List (Pair × Packet)) → Each (IsPlaced l c) ls → Each (IsPlaced l c') ls
  placed_grow l c c' f ls h = each_map (IsPlaced l c) (IsPlaced l c') (λ e p. record { sender = f _ p.sender; goal = p.goal; link = p.link; way = p.way; on_path = p.on_path }) ls h

  pub arrivals_grow : (c c' : Config S) → ((q : ℕ) → IsThere c q → IsThere c' q) → (es : List (ℕ × Arrival)) → Each (λ e. IsThere c e.1.sender) es → Each (λ e. IsThere c' e.1.sender) es
  arrivals_grow c c' f es h = each_map (λ e. IsThere c e.1.sender) (λ e. IsThere c' e.1.sender) (λ e p. f _ p) es h

  -- counts

  pub count_put : (c : Config S) (o : ℕ) (x y : S) (n : ℕ) → IsTrue (is_sorted nat_cmp c.objects) → object_of c o ≡ Some x → object_count (put_object c o y) n ≡ object_count c n
  count_put c o x y n s f = total_put (λ e. if node_of e.0 == n then 1 else 0) o x y c.objects s f refl

  pub frames_put : (c : Config S) (o : ℕ) (x y : S) (n : ℕ) → IsTrue (is_sorted nat_cmp c.objects) → object_of c o ≡ Some x → g.frames y ≡ g.frames x
      → frame_count g (put_object c o y) n ≡ frame_count g c n
  frames_put c o x y n s f e =
      total_put (λ z. if node_of z.0 == n then 1 + g.frames z.1 else 0) o x y c.objects s f (ap (λ k. if node_of o == n then 1 + k else 0) e)

  pub frames_elsewhere : (c : Config S) (o : ℕ) (x y : S) (n : ℕ) → IsTrue (is_sorted nat_cmp c.objects) → object_of c o ≡ Some x → n ≢ node_of o
      → frame_count g (put_object c o y) n ≡ frame_count g c n
  frames_elsewhere c o x y n s f e =
      total_put (λ z. if node_of z.0 == n then 1 + g.frames z.1 else 0) o x y c.objects s f
      (let d = differ (node_of o) n (λ i. e (sym i)) in ap (λ b. if b then 1 + g.frames y else 0) d ∙ sym (ap (λ b. if b then 1 + g.frames x else 0) d))

  pub names_put : (l : Placement) (c : Config S) (o : ℕ) (x y : S) → IsTrue (is_sorted nat_cmp c.objects) → object_of c o ≡ Some x
      → ((q : ℕ) → IsThere c q → (node_of q < l.width * l.height) × (slot_of q < object_count c (node_of q)))
      → (q : ℕ) → IsThere (put_object c o y) q → (node_of q < l.width * l.height) × (slot_of q < object_count (put_object c o y) (node_of q))
  names_put l c o x y s f h q t =
      let r = h q (put_there c o x y q f t) in (r.0, subst (λ n. slot_of q < n) (sym (count_put c o x y (node_of q) s f)) r.1)
