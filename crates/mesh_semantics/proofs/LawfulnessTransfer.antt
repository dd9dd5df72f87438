-- A language that does what a lawful one does is lawful. The kept property is to correspond to a configuration of the
-- lawful language.
use Rattle.std.proofs.Common.{◌≡◌, ◌≢◌, inl, inr, refl, sym, ap, subst, ◌∙◌, IsTrue, ℕ, List, [], ◌∷◌, Option, Some, None, Bool, true, false}
use Rattle.std.specs.Prelude.{◌&&◌, ◌||◌}
use Rattle.std.specs.Ordering.{nat_cmp, is_lt}
use Rattle.std.specs.FinMap.{is_sorted}
use Rattle.std.specs.FinMap.Entries.{below_all}
use Rattle.run_types.specs.declared.types.Value.{Value}
use Rattle.run_types.specs.declared.types.Value.TheVariants as V
use Rattle.run_types.specs.declared.types.Error.{Error}
use Rattle.run_types.specs.declared.types.Label.{Label}
use Rattle.run_types.specs.declared.types.Label.TheVariants as L
use Rattle.run_types.proofs.Laws.{equals, both, find_put_same, value_itself, values_itself}
use Rattle.mesh_semantics.specs.Kind as K
use Rattle.mesh_semantics.specs.Kind.{Kind, makes, calls, posts, returns, waits_on, alternatives}
use Rattle.mesh_semantics.specs.Language.{Language}
use Rattle.mesh_semantics.specs.Config.{Config, object_of, put_object, messages_of}
use Rattle.mesh_semantics.specs.Moves.{move, running, offered, first_message}
use Rattle.mesh_semantics.specs.Sound.{is_wait}
use Rattle.mesh_semantics.specs.Lawful.{Lawful, CanServe}
use Rattle.mesh_semantics.specs.Simulates.{Both, IsCalled, Simulates, Zipped, Related, Corresponds}
use Rattle.mesh_semantics.proofs.EventSimulation.{found, messages_same, move_same}

module _ {S T : Type 0} (g : Language S) (h : Language T) (W : Config S → Type 0) (R : ℕ → S → T → Type 0) (law : Lawful g W) (sim : Simulates g h W R) where
  below : (k : ℕ) (es : List (ℕ × S)) (fs : List (ℕ × T)) → Zipped R es fs → IsTrue (below_all nat_cmp k es) → IsTrue (below_all nat_cmp k fs)
  below k [] [] z t = t
  below k [] (f ∷ fs) z t = absurd z
  below k (e ∷ es) [] z t = absurd z
  below k (e ∷ es) (f ∷ fs) z t =
      let a : is_lt (nat_cmp k e.0) ≡ true = first_of_two (is_lt (nat_cmp k e.0)) (below_all nat_cmp k es) t in
      both (is_lt (nat_cmp k f.0)) (below_all nat_cmp k fs) (ap (λ n. is_lt (nat_cmp k n)) (sym z.0) ∙ a) (below k es fs z.2 (second_of_two (is_lt (nat_cmp k e.0)) (below_all nat_cmp k es) t))
    where
      first_of_two : (a b : Bool) → (a && b) ≡ true → a ≡ true
      first_of_two true b h = refl
      first_of_two false b h = absurd (let z : false ≡ true = h in cc)

      second_of_two : (a b : Bool) → (a && b) ≡ true → b ≡ true
      second_of_two true b h = h
      second_of_two false b h = absurd (let z : false ≡ true = h in cc)

  sorted : (es : List (ℕ × S)) (fs : List (ℕ × T)) → Zipped R es fs → IsTrue (is_sorted nat_cmp es) → IsTrue (is_sorted nat_cmp fs)
  sorted [] [] z t = t
  sorted [] (f ∷ fs) z t = absurd z
  sorted (e ∷ es) [] z t = absurd z
  sorted (e ∷ es) (f ∷ fs) z t = two (below_all nat_cmp e.0 es) (is_sorted nat_cmp es) t
      (λ a b. both (below_all nat_cmp f.0 fs) (is_sorted nat_cmp fs) (subst (λ n. below_all nat_cmp n fs ≡ true) z.0 (below e.0 es fs z.2 a)) (sorted es fs z.2 b))
    where
      two : (a b : Bool) {X : Type 0} → (a && b) ≡ true → (a ≡ true → b ≡ true → X) → X
      two true b t k = k refl t
      two false b t k = absurd (let z : false ≡ true = t in cc)

  -- an object of the second, with the one that it corresponds to
  abbrev Twin : Config S → ℕ → T → Type 0
  Twin c o y = (x : S) × (object_of c o ≡ Some x) × R o x y

  twin : (c : Config S) (e : Config T) (o : ℕ) (y : T) → Related R c e → object_of e o ≡ Some y → Twin c o y
  twin c e o y z i = by (object_of c o) refl (subst (λ b. Both (R o) (object_of c o) b) i (found R o c.objects e.objects z.objects))
    where
      by : (a : Option S) → object_of c o ≡ a → Both (R o) (object_of c o) (Some y) → Twin c o y
      by None j r = absurd (rw j at r)
      by (Some x) j r = (x, j, rw j at r)

  other : (c : Config S) (e : Config T) (o : ℕ) (x : S) → Related R c e → object_of c o ≡ Some x → (y : T) × (object_of e o ≡ Some y) × R o x y
  other c e o x z i = by (object_of e o) refl (subst (λ a. Both (R o) a (object_of e o)) i (found R o c.objects e.objects z.objects))
    where
      by : (b : Option T) → object_of e o ≡ b → Both (R o) (Some x) (object_of e o) → (y : T) × (object_of e o ≡ Some y) × R o x y
      by None j r = absurd (rw j at r)
      by (Some y) j r = (y, j, rw j at r)

  nobody : (c : Config S) (e : Config T) (o : ℕ) → Related R c e → object_of e o ≡ None → object_of c o ≡ None
  nobody c e o z i = by (object_of c o) refl (subst (λ b. Both (R o) (object_of c o) b) i (found R o c.objects e.objects z.objects))
    where
      by : (a : Option S) → object_of c o ≡ a → Both (R o) (object_of c o) None → object_of c o ≡ None
      by None j r = j
      by (Some x) j r = absurd (rw j at r)

  -- one at no error runs
  runs : (c : Config S) (o : ℕ) (x : S) → W c → object_of c o ≡ Some x → ((e : Error) → g.kind o x ≢ K.Fault e) → running g c o ≡ Some x
  runs c o x w i n = by (g.fault x) refl
    where
      by : (f : Option Error) → g.fault x ≡ f → running g c o ≡ Some x
      by None j = rw (i, j) refl
      by (Some e) j = absurd (n e (law.fault_kind c o x e w i j))

  -- what the receiver offers to a call it can serve
  can : (c : Config S) (e : Config T) (b m : ℕ) (args : List Value) → W c → Related R c e → IsCalled g c b m args → CanServe g c b m args → CanServe h e b m args
  can c e b m args w z called (x, i, serves) = let y = other c e b x z i in (y.0, y.1, λ n names caller off. on y.0 y.2 n names caller (ap (λ k. offered 1 (alternatives k) m) (sim.kinds b x y.0 y.2) ∙ off))
    where
      no_fault : (n : ℕ) (names : List ℕ) (k : Kind) → offered 1 (alternatives k) m ≡ Some (n, names) → (e : Error) → k ≢ K.Fault e
      no_fault n names (K.Select alts) off e q = cc
      no_fault n names _ off e q = absurd (cc)

      some : (y : T) (q : Option S) (a : S) (r : Option T) → q ≡ Some a → Both (R b) q r → (s : T) × (r ≡ Some s)
      some y q a None k t = absurd (rw k at t)
      some y q a (Some s) k t = (s, refl)

      on : (y : T) → R b x y → (n : ℕ) (names : List ℕ) (caller : Option ℕ) → offered 1 (alternatives (g.kind b x)) m ≡ Some (n, names) → (s : T) × (h.serving b y n m caller args ≡ Some s)
      on y r n names caller off =
          let s = serves n names caller off in
          some y (g.serving b x n m caller args) s.0 (h.serving b y n m caller args) s.1
          (sim.serving c b x y n m names caller args w (runs c b x w i (no_fault n names (g.kind b x) off)) r off called)

  has_wait : (e : Config T) (b : ℕ) (y : T) (k : ℕ) (v : Value) → Corresponds W R e → object_of e b ≡ Some y → h.kind b y ≡ K.Return k v
      → (x : T) × (m : ℕ) × (object_of e k ≡ Some x) × (h.kind k x ≡ K.Waits b m)
  has_wait e b y k v (c, w, z) i j =
      let t = twin c e b y z i in
      let q = law.has_wait c b t.0 k v w t.1 (sim.kinds b t.0 y t.2 ∙ j) in
      let o = other c e k q.0 z q.2 in (o.0, q.1, o.1, sym (sim.kinds k q.0 o.0 o.2) ∙ q.3)

  same_after : (o : ℕ) (x x' : S) (y y' : T) → R o x y → R o x' y' → (g.frames x' ≡ g.frames x) × (g.fault x' ≡ g.fault x) × (is_wait (g.kind o x') ≡ false)
      → (h.frames y' ≡ h.frames y) × (h.fault y' ≡ h.fault y) × (is_wait (h.kind o y') ≡ false)
  same_after o x x' y y' r s t = (
    sym (sim.frames o x' y' s) ∙ t.0 ∙ sim.frames o x y r,
    sym (sim.faults o x' y' s) ∙ t.1 ∙ sim.faults o x y r,
    ap is_wait (sym (sim.kinds o x' y' s)) ∙ t.2,
  )

  given_name : (e : Config T) (o : ℕ) (y : T) (k n : ℕ) → Corresponds W R e → object_of e o ≡ Some y → h.kind o y ≡ K.New k → object_of e n ≡ None
      → (h.frames (h.given y (V.Ref n)) ≡ h.frames y) × (h.fault (h.given y (V.Ref n)) ≡ h.fault y) × (is_wait (h.kind o (h.given y (V.Ref n))) ≡ false)
  given_name e o y k n (c, w, z) i j free =
      let t = twin c e o y z i in
      let q : g.kind o t.0 ≡ K.New k = sim.kinds o t.0 y t.2 ∙ j in
      let f = nobody c e n z free in
      same_after o t.0 (g.given t.0 (V.Ref n)) y (h.given y (V.Ref n)) t.2
      (sim.named c o t.0 y k n w (runs c o t.0 w t.1 (λ f u. let a = sym q ∙ u in cc)) f t.2 (rw (q, equals k) refl)) (law.given_name c o t.0 k n w t.1 q f)

  given_back : (e : Config T) (b o m : ℕ) (u y : T) (v : Value) → Corresponds W R e → object_of e b ≡ Some u → h.kind b u ≡ K.Return o v → object_of e o ≡ Some y → h.kind o y ≡ K.Waits b m
      → (h.frames (h.given y v) ≡ h.frames y) × (h.fault (h.given y v) ≡ h.fault y) × (is_wait (h.kind o (h.given y v)) ≡ false)
  given_back e b o m u y v (c, w, z) i j i' j' =
      let s = twin c e b u z i in
      let t = twin c e o y z i' in
      let q : g.kind b s.0 ≡ K.Return o v = sim.kinds b s.0 u s.2 ∙ j in
      let q' : g.kind o t.0 ≡ K.Waits b m = sim.kinds o t.0 y t.2 ∙ j' in
      let a = runs c b s.0 w s.1 (λ f k. let n = sym q ∙ k in cc) in
      let a' = runs c o t.0 w t.1 (λ f k. let n = sym q' ∙ k in cc) in
      let d : Config S = put_object (put_object c b (g.returned s.0)) o (g.given t.0 v) in
      let go : move g c (L.Return b o v) ≡ Some (put_object (put_object c b (g.returned s.0)) o (g.given t.0 v)) = rw (a, a', q, q', equals o, value_itself v, equals b) refl in
      same_after o t.0 (g.given t.0 v) y (h.given y v) t.2
      (sim.given c (put_object (put_object c b (g.returned s.0)) o (g.given t.0 v)) b o s.0 t.0 y v w (law.kept c _ (L.Return b o v) w go) a a' (find_put_same o (g.given t.0 v) (put_object c b (g.returned s.0)).objects) t.2
      (rw (q, equals o, value_itself v) refl) (rw (q', equals b) refl))
      (law.given_back c b o m s.0 t.0 v w s.1 q t.1 q')

  kept : (e f : Config T) (lab : Label) → Corresponds W R e → move h e lab ≡ Some f → Corresponds W R f
  kept e f lab (c, w, z) i = by (move g c lab) refl (subst (λ b. Both (Related R) (move g c lab) b) i (move_same g h W R sim law.kept c e w z lab))
    where
      by : (a : Option (Config S)) → move g c lab ≡ a → Both (Related R) (move g c lab) (Some f) → Corresponds W R f
      by None j r = absurd (rw j at r)
      by (Some d) j r = (d, law.kept c d lab w j, rw j at r)

  called_by : (c : Config S) (e : Config T) (o b m : ℕ) (args : List Value) (x : S) → object_of c o ≡ Some x → (calls (g.kind o x) b m args || posts (g.kind o x) b m args) ≡ true → IsCalled g c b m args
  called_by c e o b m args x i t = inl (o, x, i, t)

  pub lawful_across : Lawful h (Corresponds W R)
  lawful_across = record {
    sorted = λ e (c, w, z). sorted c.objects e.objects z.objects (law.sorted c w);
    kept = kept;
    fault_kind = λ e o y f (c, w, z) i j. let t = twin c e o y z i in sym (sim.kinds o t.0 y t.2) ∙ law.fault_kind c o t.0 f w t.1 (sim.faults o t.0 y t.2 ∙ j);
    can_make = λ e o y k (c, w, z) i j. let t = twin c e o y z i in let m = law.can_make c o t.0 k w t.1 (sim.kinds o t.0 y t.2 ∙ j) in made m.0 (g.made k) (h.made k) (R o) m.1 (sim.made o k);
    can_call = λ e o y b m args (c, w, z) i j.
        let t = twin c e o y z i in
        let q : g.kind o t.0 ≡ K.Send b m args = sim.kinds o t.0 y t.2 ∙ j in
        can c e b m args w z (called_by c e o b m args t.0 t.1 (rw (q, equals b, equals m, values_itself args) refl)) (law.can_call c o t.0 b m args w t.1 q);
    can_send = λ e o y b m args (c, w, z) i j.
        let t = twin c e o y z i in
        let q : g.kind o t.0 ≡ K.Async b m args = sim.kinds o t.0 y t.2 ∙ j in
        can c e b m args w z (called_by c e o b m args t.0 t.1 (rw (q, equals b, equals m, values_itself args) refl)) (law.can_send c o t.0 b m args w t.1 q);
    can_take = λ e names s r f (c, w, z) i.
        let q : first_message names (messages_of c s r) ≡ Some f = ap (first_message names) (messages_same R c e s r z) ∙ i in
        can c e r f.method f.args w z (inr (s, names, f, q, rw (equals f.method, values_itself f.args) refl)) (law.can_take c names s r f w q);
    has_wait = has_wait;
    given_name = given_name;
    given_back = given_back;
    waiting = λ e o y b m args (c, w, z) i j.
        let t = twin c e o y z i in
        let q : g.kind o t.0 ≡ K.Send b m args = sim.kinds o t.0 y t.2 ∙ j in
        let s = sim.waiting c o t.0 y b m args w (runs c o t.0 w t.1 (λ f k. let n = sym q ∙ k in cc)) t.2 (rw (q, equals b, equals m, values_itself args) refl) in
        sym (sim.frames o (g.waiting t.0 b m) (h.waiting y b m) s) ∙ law.waiting c o t.0 b m args w t.1 q ∙ sim.frames o t.0 y t.2;
  }
    where
      made : (a : S) (x : Option S) (y : Option T) (Q : S → T → Type 0) → x ≡ Some a → Both Q x y → (b : T) × (y ≡ Some b)
      made a x None Q i r = absurd (rw i at r)
      made a x (Some b) Q i r = (b, refl)
