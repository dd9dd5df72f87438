-- If objects correspond, every transition and every event of one machine is one of the other.
use Rattle.std.proofs.Common.{◌≡◌, inl, inr, refl, sym, ap, subst, ◌∙◌, ℕ, ◌==◌, List, [], ◌∷◌, ◌++◌, Option, Some, None, is_some, is_none, Bool, true, false, not, ◌&&◌}
use Rattle.std.specs.Ordering.{nat_cmp}
use Rattle.std.specs.declared.cmp.Ordering.{Ordering}
use Rattle.std.specs.declared.cmp.Ordering.TheVariants.{Less, Equal, Greater}
use Rattle.std.specs.FinMap.{find, put, nat_cmp-IsAntisymmetric}
use Rattle.run_types.specs.declared.types.Value.TheVariants as V
use Rattle.run_types.specs.declared.types.Error.{Error}
use Rattle.run_types.specs.declared.types.Label.{Label}
use Rattle.run_types.specs.declared.types.Label.TheVariants as L
use Rattle.run_types.specs.Message.{Message}
use Rattle.run_types.specs.Partial.{◌>>=◌, ◌>>◌, require}
use Rattle.run_types.specs.Same.{are_same}
use Rattle.run_types.proofs.Laws.{first, second, find_put_same}
use Rattle.mesh_semantics.specs.Kind as K
use Rattle.mesh_semantics.specs.Kind.{Kind, Alternative, is_local, makes, calls, posts, returns, waits_on, writes, fails, alternatives}
use Rattle.mesh_semantics.specs.Language.{Language}
use Rattle.mesh_semantics.specs.Config.{Config, object_of, put_object, messages_of, put_messages}
use Rattle.mesh_semantics.specs.Moves.{move, running, offered, numbered, can_pick, has_message, first_message, without_message}
use Rattle.mesh_semantics.specs.Simulates.{Both, Simulates, Zipped, Related}

module _ {S T : Type 0} (R : ℕ → S → T → Type 0) where
  -- lists that are zipped

  pub found : (o : ℕ) (es : List (ℕ × S)) (fs : List (ℕ × T)) → Zipped R es fs → Both (R o) (find nat_cmp o es) (find nat_cmp o fs)
  found o [] [] z = tt
  found o [] (f ∷ fs) z = absurd z
  found o (e ∷ es) [] z = absurd z
  found o (e ∷ es) (f ∷ fs) z = by (nat_cmp o e.0) refl (found o es fs z.2)
    where
      by : (r : Ordering) → nat_cmp o e.0 ≡ r → Both (R o) (find nat_cmp o es) (find nat_cmp o fs) → Both (R o) (find nat_cmp o (e ∷ es)) (find nat_cmp o (f ∷ fs))
      by Less i k = let j : nat_cmp o f.0 ≡ Less = subst (λ n. nat_cmp o n ≡ Less) z.0 i in rw (i, j) k
      by Equal i k = let j : nat_cmp o f.0 ≡ Equal = subst (λ n. nat_cmp o n ≡ Equal) z.0 i in rw (i, j) (subst (λ n. R n e.1 f.1) (sym (nat_cmp-IsAntisymmetric o e.0 i)) z.1)
      by Greater i k = let j : nat_cmp o f.0 ≡ Greater = subst (λ n. nat_cmp o n ≡ Greater) z.0 i in rw (i, j) k

  put_both : (o : ℕ) (x : S) (y : T) (es : List (ℕ × S)) (fs : List (ℕ × T)) → R o x y → Zipped R es fs → Zipped R (put nat_cmp o x es) (put nat_cmp o y fs)
  put_both o x y [] [] r z = (refl, r, tt)
  put_both o x y [] (f ∷ fs) r z = absurd z
  put_both o x y (e ∷ es) [] r z = absurd z
  put_both o x y (e ∷ es) (f ∷ fs) r z = by (nat_cmp o e.0) refl (put_both o x y es fs r z.2)
    where
      by : (q : Ordering) → nat_cmp o e.0 ≡ q → Zipped R (put nat_cmp o x es) (put nat_cmp o y fs) → Zipped R (put nat_cmp o x (e ∷ es)) (put nat_cmp o y (f ∷ fs))
      by Less i k = let j : nat_cmp o f.0 ≡ Less = subst (λ n. nat_cmp o n ≡ Less) z.0 i in rw (i, j) (refl, r, (z.0, z.1, z.2))
      by Equal i k = let j : nat_cmp o f.0 ≡ Equal = subst (λ n. nat_cmp o n ≡ Equal) z.0 i in rw (i, j) (z.0, subst (λ n. R n x y) (nat_cmp-IsAntisymmetric o e.0 i) r, z.2)
      by Greater i k = let j : nat_cmp o f.0 ≡ Greater = subst (λ n. nat_cmp o n ≡ Greater) z.0 i in rw (i, j) (z.0, z.1, k)

  pub put_related : (c : Config S) (e : Config T) (o : ℕ) (x : S) (y : T) → R o x y → Related R c e → Related R (put_object c o x) (put_object e o y)
  put_related c e o x y r z = record { objects = put_both o x y c.objects e.objects r z.objects; messages = z.messages }

  messages_related : (c : Config S) (e : Config T) (s r : ℕ) (ms ns : List Message) → ms ≡ ns → Related R c e → Related R (put_messages c s r ms) (put_messages e s r ns)
  messages_related c e s r ms ns i z = record { objects = z.objects; messages = λ t. (put_messages (record { objects = c.objects; messages = z.messages t }) s r (i t)).messages }

  pub messages_same : (c : Config S) (e : Config T) (s r : ℕ) → Related R c e → messages_of c s r ≡ messages_of e s r
  messages_same c e s r z = λ t. messages_of (record { objects = c.objects; messages = z.messages t }) s r

local_kind : (k : Kind) → is_local k ≡ true → k ≡ K.Local
local_kind K.Local h = refl
local_kind K.Finished h = absurd (let z : false ≡ true = h in cc)
local_kind _ h = absurd (let z : false ≡ true = h in cc)

-- an object that runs is there
pub there : {S : Type 0} (g : Language S) (c : Config S) (o : ℕ) (x : S) → running g c o ≡ Some x → object_of c o ≡ Some x
there {S} g c o x i = by (object_of c o) refl
  where
    on : (y : S) (f : Option Error) → object_of c o ≡ Some y → g.fault y ≡ f → object_of c o ≡ Some x
    on y None e k = e ∙ (let j : Some y ≡ Some x = rw (e, k) at i in j)
    on y (Some f) e k = absurd (let j : None ≡ Some x = rw (e, k) at i in cc)

    by : (z : Option S) → object_of c o ≡ z → object_of c o ≡ Some x
    by None e = absurd (let j : None ≡ Some x = rw e at i in cc)
    by (Some y) e = on y (g.fault y) e refl

nothing_there : {S : Type 0} (z : Option S) → is_none z ≡ true → z ≡ None
nothing_there None h = refl
nothing_there (Some x) h = absurd (let z : false ≡ true = h in cc)

module _ {S T : Type 0} (g : Language S) (h : Language T) (W : Config S → Type 0) (R : ℕ → S → T → Type 0) (sim : Simulates g h W R) (kept : (c d : Config S) (lab : Label) → W c → move g c lab ≡ Some d → W d) where
  -- neither is running, or both are
  data Runs (c : Config S) (e : Config T) (o : ℕ) : Type 0 where
    Out : running g c o ≡ None → running h e o ≡ None → Runs c e o
    In : (x : S) (y : T) → running g c o ≡ Some x → running h e o ≡ Some y → R o x y → Runs c e o

  runs : (c : Config S) (e : Config T) (o : ℕ) → Related R c e → Runs c e o
  runs c e o z = by (object_of c o) (object_of e o) refl refl (found R o c.objects e.objects z.objects)
    where
      on : (x : S) (y : T) → object_of c o ≡ Some x → object_of e o ≡ Some y → R o x y → (f : Option Error) → g.fault x ≡ f → Runs c e o
      on x y i j r None f = let f' : h.fault y ≡ None = sym (sim.faults o x y r) ∙ f in In x y (rw (i, f) refl) (rw (j, f') refl) r
      on x y i j r (Some q) f = let f' : h.fault y ≡ Some q = sym (sim.faults o x y r) ∙ f in Out (rw (i, f) refl) (rw (j, f') refl)

      by : (a : Option S) (b : Option T) → object_of c o ≡ a → object_of e o ≡ b → Both (R o) (object_of c o) (object_of e o) → Runs c e o
      by None None i j r = Out (rw i refl) (rw j refl)
      by None (Some y) i j r = absurd (rw (i, j) at r)
      by (Some x) None i j r = absurd (rw (i, j) at r)
      by (Some x) (Some y) i j r = on x y i j (rw (i, j) at r) (g.fault x) refl

  module _ (c : Config S) (e : Config T) (w : W c) (z : Related R c e) where
    -- a label of one object with one test
    one : (o : ℕ) (t : Kind → Bool) (F : S → S) (G : T → T)
        → ((x : S) (y : T) → running g c o ≡ Some x → R o x y → t (g.kind o x) ≡ true → R o (F x) (G y))
        → Both (Related R) (running g c o >>= λ x. require (t (g.kind o x)) >> Some (put_object c o (F x))) (running h e o >>= λ y. require (t (h.kind o y)) >> Some (put_object e o (G y)))
    one o t F G k = by (runs c e o z)
      where
        by : Runs c e o → Both (Related R) (running g c o >>= λ x. require (t (g.kind o x)) >> Some (put_object c o (F x))) (running h e o >>= λ y. require (t (h.kind o y)) >> Some (put_object e o (G y)))
        by (Out i j) = rw (i, j) tt
        by (In x y i j r) = rw (i, j) (on (t (g.kind o x)) refl)
          where
            on : (b : Bool) → t (g.kind o x) ≡ b → Both (Related R) (require (t (g.kind o x)) >> Some (put_object c o (F x))) (require (t (h.kind o y)) >> Some (put_object e o (G y)))
            on true m = let n : t (h.kind o y) ≡ true = ap t (sym (sim.kinds o x y r)) ∙ m in rw (m, n) (put_related R c e o (F x) (G y) (k x y i r m) z)
            on false m = let n : t (h.kind o y) ≡ false = ap t (sym (sim.kinds o x y r)) ∙ m in rw (m, n) tt

    some_same : (n : ℕ) → is_some (object_of c n) ≡ is_some (object_of e n)
    some_same n = by (object_of c n) (object_of e n) (found R n c.objects e.objects z.objects)
      where
        by : (a : Option S) (b : Option T) → Both (R n) a b → is_some a ≡ is_some b
        by None None r = refl
        by None (Some y) r = absurd r
        by (Some x) None r = absurd r
        by (Some x) (Some y) r = refl

    none_same : (n : ℕ) → is_none (object_of c n) ≡ is_none (object_of e n)
    none_same n = by (object_of c n) (object_of e n) (found R n c.objects e.objects z.objects)
      where
        by : (a : Option S) (b : Option T) → Both (R n) a b → is_none a ≡ is_none b
        by None None r = refl
        by None (Some y) r = absurd r
        by (Some x) None r = absurd r
        by (Some x) (Some y) r = refl

    -- a tested step, and what both give
    tested : (b : Bool) (p : Option (Config S)) (q : Option (Config T)) → (b ≡ true → Both (Related R) p q) → Both (Related R) (require b >> p) (require b >> q)
    tested true p q k = k refl
    tested false p q k = tt

    left : (a b : Bool) → (a && b) ≡ true → a ≡ true
    left a b m = first a b m

    then_both : (o : ℕ) (a : Option S) (b : Option T) (F : S → Option (Config S)) (G : T → Option (Config T)) → Both (R o) a b → ((x : S) (y : T) → R o x y → Both (Related R) (F x) (G y)) → Both (Related R) (a >>= F) (b >>= G)
    then_both o None None F G r k = tt
    then_both o None (Some y) F G r k = absurd r
    then_both o (Some x) None F G r k = absurd r
    then_both o (Some x) (Some y) F G r k = k x y r

    pub move_same : (lab : Label) → Both (Related R) (move g c lab) (move h e lab)
    move_same (L.Local o) = one o is_local (g.stepped o) (h.stepped o) (λ x y i r m. sim.stepped c o x y w i r m)
    move_same (L.Write o item) = one o (λ k. writes k item) g.done h.done (λ x y i r m. sim.wrote c o x y item w i r m)
    move_same (L.Fault o f) = one o (λ k. fails k f) (λ x. g.faulted x f) (λ y. h.faulted y f) (λ x y i r m. sim.faulted c o x y f w i r m)
    move_same (L.Pick o i) = one o (λ k. can_pick (numbered (alternatives k) i)) (λ x. g.picked o x i) (λ y. h.picked o y i) (λ x y j r m. sim.picked c o x y i w j r m)
    move_same (L.New o n k) = by (runs c e o z)
      where
        by : Runs c e o → Both (Related R) (move g c (L.New o n k)) (move h e (L.New o n k))
        by (Out i j) = rw (i, j) tt
        by (In x y i j r) = rw (i, j, sym (sim.kinds o x y r), sym (none_same n)) (tested (makes (g.kind o x) k.0 && is_none (object_of c n))
            (g.made k.0 >>= λ a. Some (put_object (put_object c o (g.given x (V.Ref n))) n a)) (h.made k.0 >>= λ b. Some (put_object (put_object e o (h.given y (V.Ref n))) n b))
            (λ m. then_both n (g.made k.0) (h.made k.0) (λ a. Some (put_object (put_object c o (g.given x (V.Ref n))) n a)) (λ b. Some (put_object (put_object e o (h.given y (V.Ref n))) n b)) (sim.made n k.0)
            (λ a b t. put_related R (put_object c o (g.given x (V.Ref n))) (put_object e o (h.given y (V.Ref n))) n a b t
            (put_related R c e o (g.given x (V.Ref n)) (h.given y (V.Ref n)) (sim.named c o x y k.0 n w i (nothing_there (object_of c n) (second (makes (g.kind o x) k.0) (is_none (object_of c n)) m)) r (left (makes (g.kind o x) k.0) (is_none (object_of c n)) m)) z))))
    move_same (L.Send o b m args) = by (runs c e o z)
      where
        by : Runs c e o → Both (Related R) (move g c (L.Send o b m args)) (move h e (L.Send o b m args))
        by (Out i j) = rw (i, j) tt
        by (In x y i j r) = rw (i, j, sym (sim.kinds o x y r), sym (some_same b)) (tested (posts (g.kind o x) b m.0 args && is_some (object_of c b)) _ _
            (λ t. messages_related R (put_object c o (g.done x)) (put_object e o (h.done y)) o b _ _ (ap (λ ms. ms ++ record { method = m.0; args = args } ∷ []) (messages_same R c e o b z))
            (put_related R c e o (g.done x) (h.done y) (sim.sent c o x y b m.0 args w i r (left (posts (g.kind o x) b m.0 args) (is_some (object_of c b)) t)) z)))
    move_same (L.Return b o v) = by (runs c e b z) (runs c e o z)
      where
        by : Runs c e b → Runs c e o → Both (Related R) (move g c (L.Return b o v)) (move h e (L.Return b o v))
        by (Out i j) k = rw (i, j) tt
        by (In y u i j r) (Out i' j') = rw (i, j, i', j') tt
        by (In y u i j r) (In x q i' j' r') = rw (i, j, i', j', sym (sim.kinds b y u r), sym (sim.kinds o x q r')) (tested (returns (g.kind b y) o v && waits_on (g.kind o x) b) _ _
            (λ t. put_related R (put_object c b (g.returned y)) (put_object e b (h.returned u)) o (g.given x v) (h.given q v) (sim.given c (put_object (put_object c b (g.returned y)) o (g.given x v)) b o y x q v w
            (kept c (put_object (put_object c b (g.returned y)) o (g.given x v)) (L.Return b o v) w (rw (i, i', t) refl)) i i' (find_put_same o (g.given x v) (put_object c b (g.returned y)).objects) r'
            (left (returns (g.kind b y) o v) (waits_on (g.kind o x) b) t) (second (returns (g.kind b y) o v) (waits_on (g.kind o x) b) t))
            (put_related R c e b (g.returned y) (h.returned u) (sim.returned c b y u o v w i r (left (returns (g.kind b y) o v) (waits_on (g.kind o x) b) t)) z)))
    move_same (L.Answer b o m args) = by (runs c e o z) (runs c e b z)
      where
        by : Runs c e o → Runs c e b → Both (Related R) (move g c (L.Answer b o m args)) (move h e (L.Answer b o m args))
        by (Out i j) k = rw (i, j) tt
        by (In x q i j r) (Out i' j') = rw (i, j, i', j') tt
        by (In x q i j r) (In y u i' j' r') = rw (i, j, i', j', sym (sim.kinds o x q r), sym (sim.kinds b y u r'), sym (messages_same R c e o b z)) (tested (calls (g.kind o x) b m.0 args) _ _ (λ t. on t (offered 1 (alternatives (g.kind b y)) m.0) refl))
          where
            on : calls (g.kind o x) b m.0 args ≡ true → (v : Option (ℕ × List ℕ)) → offered 1 (alternatives (g.kind b y)) m.0 ≡ v
                → Both (Related R) (offered 1 (alternatives (g.kind b y)) m.0 >>= λ v. require (not (has_message v.1 (messages_of c o b))) >> (g.serving b y v.0 m.0 (Some o) args >>= λ s. Some (put_object (put_object c o (g.waiting x b m.0)) b s)))
                (offered 1 (alternatives (g.kind b y)) m.0 >>= λ v. require (not (has_message v.1 (messages_of c o b))) >> (h.serving b u v.0 m.0 (Some o) args >>= λ s. Some (put_object (put_object e o (h.waiting q b m.0)) b s)))
            on t None f = rw f tt
            on t (Some v) f = rw f (tested (not (has_message v.1 (messages_of c o b))) _ _ (λ n. then_both b (g.serving b y v.0 m.0 (Some o) args) (h.serving b u v.0 m.0 (Some o) args)
                (λ s. Some (put_object (put_object c o (g.waiting x b m.0)) b s)) (λ s. Some (put_object (put_object e o (h.waiting q b m.0)) b s))
                (sim.serving c b y u v.0 m.0 v.1 (Some o) args w i' r' f (inl (o, x, there g c o x i, rw t refl)))
                (λ a d k. put_related R (put_object c o (g.waiting x b m.0)) (put_object e o (h.waiting q b m.0)) b a d k (put_related R c e o (g.waiting x b m.0) (h.waiting q b m.0) (sim.waiting c o x q b m.0 args w i r t) z))))
    move_same (L.Take b s m args) = by (runs c e b z)
      where
        by : Runs c e b → Both (Related R) (move g c (L.Take b s m args)) (move h e (L.Take b s m args))
        by (Out i j) = rw (i, j) tt
        by (In y u i j r) = rw (i, j, sym (sim.kinds b y u r), sym (messages_same R c e s b z)) (on (offered 1 (alternatives (g.kind b y)) m.0) refl)
          where
            on : (v : Option (ℕ × List ℕ)) → offered 1 (alternatives (g.kind b y)) m.0 ≡ v
                → Both (Related R) (offered 1 (alternatives (g.kind b y)) m.0 >>= λ v. first_message v.1 (messages_of c s b) >>= λ f. require (f.method == m.0 && are_same f.args args) >> (g.serving b y v.0 m.0 None args >>= λ q. Some (put_messages (put_object c b q) s b (without_message v.1 (messages_of c s b)))))
                (offered 1 (alternatives (g.kind b y)) m.0 >>= λ v. first_message v.1 (messages_of c s b) >>= λ f. require (f.method == m.0 && are_same f.args args) >> (h.serving b u v.0 m.0 None args >>= λ q. Some (put_messages (put_object e b q) s b (without_message v.1 (messages_of c s b)))))
            on None f = rw f tt
            on (Some v) f = rw f (at (first_message v.1 (messages_of c s b)) refl)
              where
                at : (a : Option Message) → first_message v.1 (messages_of c s b) ≡ a → Both (Related R) (a >>= λ f. require (f.method == m.0 && are_same f.args args) >> (g.serving b y v.0 m.0 None args >>= λ q. Some (put_messages (put_object c b q) s b (without_message v.1 (messages_of c s b)))))
                    (a >>= λ f. require (f.method == m.0 && are_same f.args args) >> (h.serving b u v.0 m.0 None args >>= λ q. Some (put_messages (put_object e b q) s b (without_message v.1 (messages_of c s b)))))
                at None fm = tt
                at (Some k) fm = tested (k.method == m.0 && are_same k.args args) _ _ (λ n. then_both b (g.serving b y v.0 m.0 None args) (h.serving b u v.0 m.0 None args)
                    (λ q. Some (put_messages (put_object c b q) s b (without_message v.1 (messages_of c s b)))) (λ q. Some (put_messages (put_object e b q) s b (without_message v.1 (messages_of c s b))))
                    (sim.serving c b y u v.0 m.0 v.1 None args w i r f (inr (s, v.1, k, fm, n)))
                    (λ a d k. messages_related R (put_object c b a) (put_object e b d) s b _ _ refl (put_related R c e b a d k z)))
