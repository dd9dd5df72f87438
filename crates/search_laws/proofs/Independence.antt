-- A step that is independent of every other label: its conditions, and that the step and a label lead to the same
-- configuration in either order.
use Rattle.std.proofs.Common.{◌≡◌, ◌≢◌, refl, sym, ap, ◌∙◌, subst, ℕ, List, [], ◌∷◌, ◌++◌, length, Option, Some, None, is_some, is_none, Bool, true, false, not, ◌&&◌, ◌==◌}
use Rattle.pool_syntax.specs.declared.tree.Named.{Named}
use Rattle.run_types.specs.declared.types.Value.TheVariants as V
use Rattle.run_types.specs.declared.types.Label.{Label}
use Rattle.run_types.specs.declared.types.Label.TheVariants as L
use Rattle.pool_syntax.specs.Terms as T
use Rattle.pool_syntax.specs.Terms.{ProgramTree}
use Rattle.pool_syntax.specs.Classes.{class_of}
use Rattle.run_types.specs.Message.{Message}
use Rattle.run_types.specs.Partial.{◌>>=◌, ◌>>◌, require}
use Rattle.run_types.specs.Same.{are_same}
use Rattle.pool_relation.specs.Reducible.{AsExpression, AsStatements}
use Rattle.pool_relation.specs.Action.{Object, method_of, action}
use Rattle.pool_relation.specs.Configuration.{Configuration, object_of, put_object, messages_of, put_messages}
use Rattle.pool_relation.specs.Progress.{agent}
use Rattle.pool_relation.specs.Transition.{without_fault, running, local_step, makes, calls, posts, returns, waits_on, writes, fails, picked, offer, has_message, first_message, without_first, refilled, done, returned, given, serving, new_object, transition}
use Rattle.search_laws.proofs.OneLabel.{partner}

-- a message that another takes
pub record Takes (Keeps : Configuration → Type 0) (change : Configuration → Configuration) (c : Configuration) (s r : ℕ) (names : List Named) (first : Message) : Type 0 where
  pub same : first_message names (messages_of (change c) s r) ≡ Some first
  pub keeps : Keeps (put_messages c s r (without_first names (messages_of c s r)))
  pub order : change (put_messages c s r (without_first names (messages_of c s r))) ≡ put_messages (change c) s r (without_first names (messages_of (change c) s r))

-- The step changes only the objects inside, the messages that they send, and the messages to receivers that are not
-- free. Nothing that other objects do prevents it.
pub record Apart (Keeps : Configuration → Type 0) (inside : ℕ → Bool) (free : ℕ → Bool) (change : Configuration → Configuration) : Type 0 where
  pub present : (c : Configuration) → Keeps c → (q : ℕ) → inside q ≡ true → is_some (object_of c q) ≡ true
  pub others : (c : Configuration) → Keeps c → (q : ℕ) → inside q ≡ false → object_of (change c) q ≡ object_of c q
  pub all : (c : Configuration) → Keeps c → (q : ℕ) → is_some (object_of (change c) q) ≡ is_some (object_of c q)
  pub put : (c : Configuration) → Keeps c → (q : ℕ) (z : Object) → inside q ≡ false → Keeps (put_object c q z) × (change (put_object c q z) ≡ put_object (change c) q z)
  pub sent : (c : Configuration) → Keeps c → (q r : ℕ) → inside q ≡ false → free r ≡ true → messages_of (change c) q r ≡ messages_of c q r
  pub send : (c : Configuration) → Keeps c → (q r : ℕ) (ms : List Message) → inside q ≡ false → free r ≡ true
      → Keeps (put_messages c q r ms) × (change (put_messages c q r ms) ≡ put_messages (change c) q r ms)
  pub take : (c : Configuration) → Keeps c → (s r : ℕ) (names : List Named) (first : Message) → free r ≡ true → first_message names (messages_of c s r) ≡ Some first
      → Takes Keeps change c s r names first

-- the receiver of the message of a label, or else the agent of the label
abbrev pub receiver : Label → ℕ
receiver (L.Send o b m args) = b
receiver l = agent l

module _ (p : ProgramTree) (Keeps : Configuration → Type 0) (inside free : ℕ → Bool) (change : Configuration → Configuration) (a : Apart Keeps inside free change) where
  -- what is possible before the step is possible after it, and leads to the same
  pub data Follows : Option Configuration → Option Configuration → Type 0 where
    Nothing : {b : Option Configuration} → Follows None b
    Beside : {d : Configuration} → Keeps d → Follows (Some d) (Some (change d))

  along : {X : Type 0} (o o' : Option X) (f f' : X → Option Configuration) → o' ≡ o → ((z : X) → o ≡ Some z → Follows (f z) (f' z)) → Follows (o >>= f) (o' >>= f')
  along None o' f f' e s = Nothing
  along (Some z) o' f f' e s = subst (λ q. Follows (f z) (q >>= f')) (sym e) (s z refl)

  wanted : (b b' : Bool) (f f' : Option Configuration) → b' ≡ b → (b ≡ true → Follows f f') → Follows (require b >> f) (require b' >> f')
  wanted true b' f f' e s = subst (λ q. Follows f (require q >> f')) (sym e) (s refl)
  wanted false b' f f' e s = Nothing

  last_of : (x y : Bool) → (x && y) ≡ true → y ≡ true
  last_of true y h = h
  last_of false y h = absurd (cc)

  module _ (c : Configuration) (h : Keeps c) where
    runs : (q : ℕ) → inside q ≡ false → running (change c) q ≡ running c q
    runs q n = ap (λ o. o >>= λ z. without_fault z z.fault) (a.others c h q n)

    one : (q : ℕ) (z : Object) → inside q ≡ false → Follows (Some (put_object c q z)) (Some (put_object (change c) q z))
    one q z n =
        let i = a.put c h q z n in
        subst (λ d. Follows (Some (put_object c q z)) (Some d)) i.1 (Beside i.0)

    two : (q r : ℕ) (z w : Object) → inside q ≡ false → inside r ≡ false → Follows (Some (put_object (put_object c q z) r w)) (Some (put_object (put_object (change c) q z) r w))
    two q r z w n m =
        let i = a.put c h q z n in
        let j = a.put (put_object c q z) i.0 r w m in
        subst (λ d. Follows (Some (put_object (put_object c q z) r w)) (Some d)) (j.1 ∙ ap (λ d. put_object d r w) i.1) (Beside j.0)

    -- a name that no object has is not inside
    fresh : (n : ℕ) → is_none (object_of c n) ≡ true → inside n ≡ false
    fresh n e = by (inside n) refl
      where
        none : (o : Option Object) → is_none o ≡ true → is_some o ≡ true → ⊥
        none None i j = absurd (cc)
        none (Some x) i j = absurd (cc)

        by : (b : Bool) → inside n ≡ b → inside n ≡ false
        by true i = absurd (none (object_of c n) e (a.present c h n i))
        by false i = i

    none_same : (n : ℕ) → is_none (object_of (change c) n) ≡ is_none (object_of c n)
    none_same n = by (object_of (change c) n) (object_of c n) (a.all c h n)
      where
        by : (x y : Option Object) → is_some x ≡ is_some y → is_none x ≡ is_none y
        by None None e = refl
        by (Some x) (Some y) e = refl
        by None (Some y) e = absurd (cc)
        by (Some x) None e = absurd (cc)

    posted : (q b : ℕ) (z : Object) (m : Message) → inside q ≡ false → free b ≡ true
        → Follows (Some (put_messages (put_object c q z) q b (messages_of c q b ++ m ∷ []))) (Some (put_messages (put_object (change c) q z) q b (messages_of (change c) q b ++ m ∷ [])))
    posted q b z m n w =
        let i = a.put c h q z n in
        let j = a.send (put_object c q z) i.0 q b (messages_of c q b ++ m ∷ []) n w in
        subst (λ d. Follows (Some (put_messages (put_object c q z) q b (messages_of c q b ++ m ∷ []))) (Some d))
        (j.1 ∙ ap (λ d. put_messages d q b (messages_of c q b ++ m ∷ [])) i.1 ∙ ap (λ ms. put_messages (put_object (change c) q z) q b (ms ++ m ∷ [])) (sym (a.sent c h q b n w)))
        (Beside j.0)

    taken_by : (s b : ℕ) (z : Object) (names : List Named) (first : Message) → first_message names (messages_of c s b) ≡ Some first → inside b ≡ false → free b ≡ true
        → Follows (Some (put_messages (put_object c b z) s b (without_first names (messages_of c s b))))
        (Some (put_messages (put_object (change c) b z) s b (without_first names (messages_of (change c) s b))))
    taken_by s b z names first e n w =
        let i = a.put c h b z n in
        let j = a.take (put_object c b z) i.0 s b names first w e in
        subst (λ d. Follows (Some (put_messages (put_object c b z) s b (without_first names (messages_of c s b)))) (Some d))
        (j.order ∙ ap (λ d. put_messages d s b (without_first names (messages_of d s b))) i.1)
        (Beside j.keeps)

    pub beside : (l : Label) → inside (agent l) ≡ false → inside (partner l) ≡ false → free (receiver l) ≡ true → Follows (transition p c l) (transition p (change c) l)
    beside (L.Local q) n m open_r = along (running c q) (running (change c) q) _ _ (runs q n) (λ z i. along (local_step z (action p q z)) (local_step z (action p q z)) _ _ refl (λ y j. one q y n))
    beside (L.New q new k) n m open_r =
        along (running c q) (running (change c) q) _ _ (runs q n)
        (λ z i. wanted (makes (action p q z) k.0 && is_none (object_of c new)) (makes (action p q z) k.0 && is_none (object_of (change c) new)) _ _
        (ap (λ b. makes (action p q z) k.0 && b) (none_same new))
        (λ t. along (class_of p k.0) (class_of p k.0) _ _ refl (λ class j. two q new (given z (V.Ref new)) (new_object class) n (fresh new (last_of (makes (action p q z) k.0) _ t)))))
    beside (L.Answer b q v args) n m open_r =
        along (running c q) (running (change c) q) _ _ (runs q m)
        (λ z i. along (running c b) (running (change c) b) _ _ (runs b n)
        (λ w j. wanted (calls (action p q z) b v.0 args) (calls (action p q z) b v.0 args) _ _ refl
        (λ t. along (offer (action p b w) v.0) (offer (action p b w) v.0) _ _ refl
        (λ off g. wanted (not (has_message off.names (messages_of c q b))) (not (has_message off.names (messages_of (change c) q b))) _ _
        (ap (λ ms. not (has_message off.names ms)) (a.sent c h q b m open_r))
        (λ u. along (method_of p w.class v.0 (length args)) (method_of p w.class v.0 (length args)) _ _ refl
        (λ method f. two q b (refilled z (AsExpression (T.Wait b v.0))) (serving w method (Some q) args off.work) m n))))))
    beside (L.Return b q v) n m open_r =
        along (running c b) (running (change c) b) _ _ (runs b n)
        (λ z i. along (running c q) (running (change c) q) _ _ (runs q m)
        (λ w j. wanted (returns (action p b z) q v && waits_on (action p q w) b) (returns (action p b z) q v && waits_on (action p q w) b) _ _ refl
        (λ t. two b q (returned z) (given w v) n m)))
    beside (L.Send q b v args) n m open_r =
        along (running c q) (running (change c) q) _ _ (runs q n)
        (λ z i. wanted (posts (action p q z) b v.0 args && is_some (object_of c b)) (posts (action p q z) b v.0 args && is_some (object_of (change c) b)) _ _
        (ap (λ t. posts (action p q z) b v.0 args && t) (a.all c h b))
        (λ t. posted q b (done z) (record { method = v.0; args = args }) n open_r))
    beside (L.Take b s v args) n m open_r =
        along (running c b) (running (change c) b) _ _ (runs b n)
        (λ z i. along (offer (action p b z) v.0) (offer (action p b z) v.0) _ _ refl
        (λ off g. took z off.names off.work (first_message off.names (messages_of c s b)) refl))
      where
        took : (z : Object) (names : List Named) (work : T.Statements) (o : Option Message) → first_message names (messages_of c s b) ≡ o
            → Follows (first_message names (messages_of c s b) >>= λ first. require (first.method == v.0 && are_same first.args args) >> (method_of p z.class v.0 (length args) >>= λ method.
            Some (put_messages (put_object c b (serving z method None args work)) s b (without_first names (messages_of c s b)))))
            (first_message names (messages_of (change c) s b) >>= λ first. require (first.method == v.0 && are_same first.args args) >> (method_of p z.class v.0 (length args) >>= λ method.
            Some (put_messages (put_object (change c) b (serving z method None args work)) s b (without_first names (messages_of (change c) s b)))))
        took z names work None e = subst (λ o. Follows (o >>= λ first. require (first.method == v.0 && are_same first.args args) >> (method_of p z.class v.0 (length args) >>= λ method.
            Some (put_messages (put_object c b (serving z method None args work)) s b (without_first names (messages_of c s b)))))
            (first_message names (messages_of (change c) s b) >>= λ first. require (first.method == v.0 && are_same first.args args) >> (method_of p z.class v.0 (length args) >>= λ method.
            Some (put_messages (put_object (change c) b (serving z method None args work)) s b (without_first names (messages_of (change c) s b)))))) (sym e) Nothing
        took z names work (Some first) e =
            along (first_message names (messages_of c s b)) (first_message names (messages_of (change c) s b)) _ _
            ((a.take c h s b names first open_r e).same ∙ sym e)
            (λ g i. wanted (g.method == v.0 && are_same g.args args) (g.method == v.0 && are_same g.args args) _ _ refl
            (λ t. along (method_of p z.class v.0 (length args)) (method_of p z.class v.0 (length args)) _ _ refl
            (λ method f. taken_by s b (serving z method None args work) names g i n open_r)))
    beside (L.Write q item) n m open_r =
        along (running c q) (running (change c) q) _ _ (runs q n)
        (λ z i. wanted (writes (action p q z) item) (writes (action p q z) item) _ _ refl (λ t. one q (done z) n))
    beside (L.Pick q i) n m open_r =
        along (running c q) (running (change c) q) _ _ (runs q n)
        (λ z g. along (picked (action p q z) i) (picked (action p q z) i) _ _ refl (λ work j. one q (refilled z (AsStatements work)) n))
    beside (L.Fault q e) n m open_r =
        along (running c q) (running (change c) q) _ _ (runs q n)
        (λ z i. wanted (fails (action p q z) e) (fails (action p q z) e) _ _ refl (λ t. one q (record z { fault = Some e }) n))

module _ (p : ProgramTree) (k : Label) (Keeps : Configuration → Type 0) (inside free : ℕ → Bool) (change : Configuration → Configuration) (a : Apart Keeps inside free change)
    (all_free : (r : ℕ) → free r ≡ true)
    (closed_agent : (c : Configuration) → Keeps c → (l : Label) → l ≢ k → inside (agent l) ≡ true → transition p c l ≡ None)
    (closed_partner : (c : Configuration) → Keeps c → (l : Label) → l ≢ k → inside (partner l) ≡ true → transition p c l ≡ None) where
  module _ (c : Configuration) (h : Keeps c) where
    pub follows : (l : Label) → l ≢ k → Follows p Keeps inside free change a (transition p c l) (transition p (change c) l)
    follows l n = by (inside (agent l)) refl (inside (partner l)) refl
      where
        by : (x : Bool) → inside (agent l) ≡ x → (y : Bool) → inside (partner l) ≡ y → Follows p Keeps inside free change a (transition p c l) (transition p (change c) l)
        by true i y j = subst (λ o. Follows p Keeps inside free change a o (transition p (change c) l)) (sym (closed_agent c h l n i)) Nothing
        by false i true j = subst (λ o. Follows p Keeps inside free change a o (transition p (change c) l)) (sym (closed_partner c h l n j)) Nothing
        by false i false j = beside p Keeps inside free change a c h l i j (all_free (receiver l))
