-- Local transitions, writes, asynchronous sends, errors and returns stay possible after any other label, and the two
-- commute.
use Rattle.std.proofs.Common.{◌≡◌, ◌≢◌, ◌⊎◌, inl, inr, refl, sym, ap, ◌∙◌, subst, ℕ, List, [], ◌∷◌, ◌++◌, Option, Some, None, is_some, Bool, true, false, ◌&&◌, ◌||◌, ◌==◌}
use Rattle.run_types.specs.declared.types.Value.{Value}
use Rattle.pool_syntax.specs.declared.tree.Named.{Named}
use Rattle.run_types.specs.declared.types.Label.{Label}
use Rattle.run_types.specs.declared.types.Label.TheVariants as L
use Rattle.pool_syntax.specs.Terms.{ProgramTree}
use Rattle.run_types.specs.Values.{is_same}
use Rattle.run_types.specs.Message.{Message}
use Rattle.run_types.specs.Partial.{◌>>=◌, ◌>>◌, require}
use Rattle.run_types.specs.Same.{are_same, is_same_item, error_number}
use Rattle.run_types.proofs.Laws.{first, second, both, equal, equals, decide, given_by, required, same_some, same_value, same_values, same_error, put_list_same, put_list_other, value_itself, values_itself, item_itself, neither}
use Rattle.pool_relation.specs.Action.{Object, action}
use Rattle.pool_relation.specs.Configuration.{Configuration, object_of, put_object, messages_of, put_messages}
use Rattle.pool_relation.specs.Progress.{agent}
use Rattle.pool_relation.specs.Transition.{without_fault, running, local_step, posts, returns, waits_on, writes, fails, names_method, first_message, without_first, done, returned, given, transition}
use Rattle.pool_relation.proofs.Laws.{running_is, Put, New, Old, put_cases}
use Rattle.reachability.specs.Search.{needs_no_choice, IsInOrder}
use Rattle.search_laws.proofs.RenamedTransition.{unequal}
use Rattle.search_laws.proofs.RenamedRun.{makes_none}
use Rattle.search_laws.proofs.OneLabel.{partner, Fits, same_item, agent_fits, partner_fits, local_own, writes_own, fails_own, posts_own, returns_own, waits_own}
use Rattle.search_laws.proofs.PutsCommute.{sorted_put, sorted_messages, at_another, still_there, either_order, either_messages, messages_twice}
use Rattle.search_laws.proofs.Independence.{Takes, Apart, Follows, Nothing, Beside, follows}

pub running_at : (c : Configuration) (o : ℕ) (x : Object) → object_of c o ≡ Some x → x.fault ≡ None → running c o ≡ Some x
running_at c o x e n = ap (λ q. q >>= λ z. without_fault z z.fault) e ∙ ap (without_fault x) n

there_after : (c : Configuration) (q b : ℕ) (z : Object) → is_some (object_of c b) ≡ true → is_some (object_of (put_object c q z) b) ≡ true
there_after c q b z t = by (put_cases c q z b)
  where
    by : Put c q z b → is_some (object_of (put_object c q z) b) ≡ true
    by (New e i) = ap is_some i
    by (Old n i) = ap is_some i ∙ t

-- one object changes
module _ (o : ℕ) (x y : Object) where
  abbrev pub OneKeeps : Configuration → Type 0
  OneKeeps d = (object_of d o ≡ Some x) × IsInOrder d

  abbrev pub one_inside : ℕ → Bool
  one_inside q = q == o

  abbrev pub one_change : Configuration → Configuration
  one_change d = put_object d o y

  pub one_apart : Apart OneKeeps one_inside (λ r. true) one_change
  one_apart = record {
    present = λ c h q e. ap is_some (ap (object_of c) (equal q o e) ∙ h.0);
    others = λ c h q n. at_another c o q y (unequal q o n);
    all = λ c h q. still_there c o y (ap is_some h.0) q;
    put = λ c h q z n. ((at_another c q o z (λ i. unequal q o n (sym i)) ∙ h.0, sorted_put c q z h.1), sym (either_order c o q y z h.1 (unequal q o n)));
    sent = λ c h q r n free. refl;
    send = λ c h q r ms n free. ((h.0, sorted_messages c q r ms h.1), refl);
    take = λ c h s r names first free e. record { same = e; keeps = (h.0, sorted_messages c s r (without_first names (messages_of c s r)) h.1); order = refl };
  }

-- one object changes and posts a message
first_longer : (names : List Named) (ms : List Message) (m f : Message) → first_message names ms ≡ Some f → first_message names (ms ++ m ∷ []) ≡ Some f
first_longer names [] m f e = absurd (cc)
first_longer names (k ∷ ms) m f e = by (names_method names k.method) refl e (first_longer names ms m f)
  where
    by : (b : Bool) → names_method names k.method ≡ b → first_message names (k ∷ ms) ≡ Some f → (first_message names ms ≡ Some f → first_message names (ms ++ m ∷ []) ≡ Some f)
        → first_message names (k ∷ (ms ++ m ∷ [])) ≡ Some f
    by true i h rest = rw i (rw i at h)
    by false i h rest = rw i (rest (rw i at h))

without_longer : (names : List Named) (ms : List Message) (m f : Message) → first_message names ms ≡ Some f → without_first names (ms ++ m ∷ []) ≡ without_first names ms ++ m ∷ []
without_longer names [] m f e = absurd (cc)
without_longer names (k ∷ ms) m f e = by (names_method names k.method) refl e (without_longer names ms m f)
  where
    by : (b : Bool) → names_method names k.method ≡ b → first_message names (k ∷ ms) ≡ Some f → (first_message names ms ≡ Some f → without_first names (ms ++ m ∷ []) ≡ without_first names ms ++ m ∷ [])
        → without_first names (k ∷ (ms ++ m ∷ [])) ≡ without_first names (k ∷ ms) ++ m ∷ []
    by true i h rest = rw i refl
    by false i h rest = let r = rest (rw i at h) in rw i (ap (λ z. k ∷ z) r)

module _ (o b : ℕ) (x y : Object) (m : Message) where
  abbrev PostKeeps : Configuration → Type 0
  PostKeeps d = (object_of d o ≡ Some x) × (is_some (object_of d b) ≡ true) × IsInOrder d

  abbrev post_change : Configuration → Configuration
  post_change d = put_messages (put_object d o y) o b (messages_of d o b ++ m ∷ [])

  other_pair : (c : Configuration) (s r : ℕ) → ¬ ((s ≡ o) × (r ≡ b)) → messages_of (post_change c) s r ≡ messages_of c s r
  other_pair c s r n = put_list_other (o, b) (messages_of c o b ++ m ∷ []) c.messages (s, r) (λ e. n (ap (λ (z : ℕ × ℕ). z.0) e, ap (λ (z : ℕ × ℕ). z.1) e))

  other_put : (c : Configuration) (s r : ℕ) (ms : List Message) → IsInOrder c → ¬ ((s ≡ o) × (r ≡ b)) → post_change (put_messages c s r ms) ≡ put_messages (post_change c) s r ms
  other_put c s r ms i n =
      ap (λ l. put_messages (put_messages (put_object c o y) s r ms) o b (l ++ m ∷ []))
      (put_list_other (s, r) ms c.messages (o, b) (λ e. n (ap (λ (z : ℕ × ℕ). z.0) (sym e), ap (λ (z : ℕ × ℕ). z.1) (sym e))))
      ∙ either_messages (put_object c o y) s r o b ms (messages_of c o b ++ m ∷ []) (sorted_put c o y i) (λ e. n (sym e.0, sym e.1))

  taken_here : (c : Configuration) (names : List Named) (first : Message) → PostKeeps c → first_message names (messages_of c o b) ≡ Some first → Takes PostKeeps post_change c o b names first
  taken_here c names first h e =
      let ms : List Message = messages_of c o b in
      let longer : messages_of (post_change c) o b ≡ messages_of c o b ++ m ∷ [] = put_list_same (o, b) (messages_of c o b ++ m ∷ []) c.messages in
      record {
        same = ap (first_message names) longer ∙ first_longer names (messages_of c o b) m first e;
        keeps = (h.0, h.1, sorted_messages c o b (without_first names (messages_of c o b)) h.2);
        order =
            ap (λ l. put_messages (put_messages (put_object c o y) o b (without_first names (messages_of c o b))) o b (l ++ m ∷ []))
            (put_list_same (o, b) (without_first names (messages_of c o b)) c.messages)
            ∙ messages_twice (put_object c o y) o b (without_first names (messages_of c o b)) (without_first names (messages_of c o b) ++ m ∷ []) (sorted_put c o y h.2)
            ∙ sym (ap (λ l. put_messages (post_change c) o b (without_first names l)) longer
            ∙ ap (put_messages (post_change c) o b) (without_longer names (messages_of c o b) m first e)
            ∙ messages_twice (put_object c o y) o b (messages_of c o b ++ m ∷ []) (without_first names (messages_of c o b) ++ m ∷ []) (sorted_put c o y h.2));
      }

  taken_there : (c : Configuration) (s r : ℕ) (names : List Named) (first : Message) → PostKeeps c → first_message names (messages_of c s r) ≡ Some first → ¬ ((s ≡ o) × (r ≡ b))
      → Takes PostKeeps post_change c s r names first
  taken_there c s r names first h e n =
      record {
        same = ap (first_message names) (other_pair c s r n) ∙ e;
        keeps = (h.0, h.1, sorted_messages c s r (without_first names (messages_of c s r)) h.2);
        order =
            other_put c s r (without_first names (messages_of c s r)) h.2 n
            ∙ ap (λ l. put_messages (post_change c) s r (without_first names l)) (sym (other_pair c s r n));
      }

  taken : (c : Configuration) (s r : ℕ) (names : List Named) (first : Message) → PostKeeps c → first_message names (messages_of c s r) ≡ Some first → Takes PostKeeps post_change c s r names first
  taken c s r names first h e = by (decide s o) (decide r b)
    where
      by : (s ≡ o) ⊎ (s ≢ o) → (r ≡ b) ⊎ (r ≢ b) → Takes PostKeeps post_change c s r names first
      by (inl i) (inl j) =
          let here : Takes PostKeeps post_change c o b names first
          = taken_here c names first h (ap (λ q. first_message names (messages_of c o q)) (sym j) ∙ ap (λ q. first_message names (messages_of c q r)) (sym i) ∙ e) in
          subst (λ (q : ℕ). Takes PostKeeps post_change c q r names first) (sym i) (subst (λ (q : ℕ). Takes PostKeeps post_change c o q names first) (sym j) here)
      by (inl i) (inr j) = taken_there c s r names first h e (λ g. j g.1)
      by (inr i) j = taken_there c s r names first h e (λ g. i g.0)

  post_apart : Apart PostKeeps (one_inside o x y) (λ r. true) post_change
  post_apart = record {
    present = λ c h q e. ap is_some (ap (object_of c) (equal q o e) ∙ h.0);
    others = λ c h q n. at_another c o q y (unequal q o n);
    all = λ c h q. still_there c o y (ap is_some h.0) q;
    put = λ c h q z n. (
      (at_another c q o z (λ i. unequal q o n (sym i)) ∙ h.0, there_after c q b z h.1, sorted_put c q z h.2),
      ap (λ d. put_messages d o b (messages_of c o b ++ m ∷ [])) (sym (either_order c o q y z h.2 (unequal q o n))),
    );
    sent = λ c h q r n free. other_pair c q r (λ e. unequal q o n e.0);
    send = λ c h q r ms n free. ((h.0, h.1, sorted_messages c q r ms h.2), other_put c q r ms h.2 (λ e. unequal q o n e.0));
    take = λ c h s r names first free e. taken c s r names first h e;
  }

-- two objects change
module _ (b o : ℕ) (y y' x x' : Object) where
  abbrev pub TwoKeep : Configuration → Type 0
  TwoKeep d = (object_of d b ≡ Some y) × (object_of d o ≡ Some x) × IsInOrder d

  abbrev pub two_inside : ℕ → Bool
  two_inside q = q == b || q == o

  abbrev pub two_change : Configuration → Configuration
  two_change d = put_object (put_object d b y') o x'

  two_there : (c : Configuration) → TwoKeep c → (q : ℕ) → two_inside q ≡ true → is_some (object_of c q) ≡ true
  two_there c h q e = by (q == b) refl (q == o) refl
    where
      by : (u : Bool) → (q == b) ≡ u → (v : Bool) → (q == o) ≡ v → is_some (object_of c q) ≡ true
      by true i v j = ap is_some (ap (object_of c) (equal q b i) ∙ h.0)
      by false i true j = ap is_some (ap (object_of c) (equal q o j) ∙ h.1)
      by false i false j = absurd (let z : (false || false) ≡ true = sym (ap (λ t. t || (q == o)) i ∙ ap (λ t. false || t) j) ∙ e in cc)

  pub two_apart : Apart TwoKeep two_inside (λ r. true) two_change
  two_apart = record {
    present = two_there;
    others = λ c h q n.
        let i = neither (q == b) (q == o) n in
        at_another (put_object c b y') o q x' (unequal q o i.1) ∙ at_another c b q y' (unequal q b i.0);
    all = λ c h q.
        let b_there : is_some (object_of c b) ≡ true = ap is_some h.0 in
        still_there (put_object c b y') o x' (still_there c b y' b_there o ∙ ap is_some h.1) q ∙ still_there c b y' b_there q;
    put = λ c h q z n.
        let i = neither (q == b) (q == o) n in
        let m : q ≢ b = unequal q b i.0 in
        let w : q ≢ o = unequal q o i.1 in (
          (at_another c q b z (λ e. m (sym e)) ∙ h.0, at_another c q o z (λ e. w (sym e)) ∙ h.1, sorted_put c q z h.2),
          sym (either_order (put_object c b y') o q x' z (sorted_put c b y' h.2) w ∙ ap (λ d. put_object d o x') (either_order c b q y' z h.2 m)),
        );
    sent = λ c h q r n free. refl;
    send = λ c h q r ms n free. ((h.0, h.1, sorted_messages c q r ms h.2), refl);
    take = λ c h s r names first free e. record { same = e; keeps = (h.0, h.1, sorted_messages c s r (without_first names (messages_of c s r)) h.2); order = refl };
  }

-- an object with one label of its own takes part in no other
refuted : (p : ProgramTree) (c : Configuration) (l : Label) → ((d : Configuration) → transition p c l ≡ Some d → ⊥) → transition p c l ≡ None
refuted p c l n = by (transition p c l) refl
  where
    by : (t : Option Configuration) → transition p c l ≡ t → transition p c l ≡ None
    by None e = e
    by (Some d) e = absurd (n d e)

module _ (p : ProgramTree) (c : Configuration) (o : ℕ) (x : Object) (there : object_of c o ≡ Some x) (sound : x.fault ≡ None) (l : Label) (d : Configuration) (t : transition p c l ≡ Some d) where
  pub agent_is : (agent l == o) ≡ true → Fits (action p o x) o l
  agent_is i =
      let e : agent l ≡ o = equal (agent l) o i in
      subst (λ (q : ℕ). Fits (action p q x) q l) e (agent_fits p c d l x t (ap (running c) e ∙ running_at c o x there sound))

  pub partner_is : (partner l == o) ≡ true → Fits (action p o x) o l
  partner_is i =
      let e : partner l ≡ o = equal (partner l) o i in
      subst (λ (q : ℕ). Fits (action p q x) q l) e (partner_fits p c d l x t (ap (running c) e ∙ running_at c o x there sound))

-- a step that needs no choice
pub record Alone (p : ProgramTree) (c : Configuration) (k : Label) : Type 0 where
  pub kind : needs_no_choice k ≡ true
  pub sorted : IsInOrder c

-- and what is told of it
abbrev Commutes : ProgramTree → Configuration → Configuration → Label → Label → Type 0
Commutes p d e k l = Alone p d k × ((x : Configuration) × (transition p d k ≡ Some x) × (transition p e l ≡ Some x))

module _ (p : ProgramTree) (k : Label) (Keeps : Configuration → Type 0) (inside : ℕ → Bool) (change : Configuration → Configuration) (a : Apart Keeps inside (λ r. true) change)
    (closed_agent : (c : Configuration) → Keeps c → (l : Label) → l ≢ k → inside (agent l) ≡ true → transition p c l ≡ None)
    (closed_partner : (c : Configuration) → Keeps c → (l : Label) → l ≢ k → inside (partner l) ≡ true → transition p c l ≡ None)
    (again : (d : Configuration) → Keeps d → transition p d k ≡ Some (change d)) (sorts : (d : Configuration) → Keeps d → IsInOrder d) (kind : needs_no_choice k ≡ true) where
  goes : (c d e : Configuration) (l : Label) → Keeps c → transition p c k ≡ Some e → transition p c l ≡ Some d → l ≢ k → Commutes p d e k l
  goes c d e l h i j n = by (transition p c l) (transition p (change c) l) j refl (follows p k Keeps inside (λ r. true) change a (λ r. refl) closed_agent closed_partner c h l n)
    where
      by : (u v : Option Configuration) → u ≡ Some d → v ≡ transition p (change c) l → Follows p Keeps inside (λ r. true) change a u v → Commutes p d e k l
      by u v g f Nothing = absurd (cc)
      by u v g f (Beside {d = b} keeps) =
          let is : change c ≡ e = same_some (sym (again c h) ∙ i) in
          let same : b ≡ d = same_some g in
          let there : Keeps d = subst Keeps same keeps in
          (record { kind = kind; sorted = sorts d there }, (change d, again d there, ap (λ z. transition p z l) (sym is) ∙ sym f ∙ ap (λ z. Some (change z)) same))

-- one object that makes its step
module _ (p : ProgramTree) (o : ℕ) (x : Object) (k : Label) (sound : x.fault ≡ None) (own : (l : Label) → Fits (action p o x) o l → l ≡ k) where
  no_agent : (c : Configuration) → object_of c o ≡ Some x → (l : Label) → l ≢ k → (agent l == o) ≡ true → transition p c l ≡ None
  no_agent c h l n i = refuted p c l (λ d t. n (own l (agent_is p c o x h sound l d t i)))

  no_partner : (c : Configuration) → object_of c o ≡ Some x → (l : Label) → l ≢ k → (partner l == o) ≡ true → transition p c l ≡ None
  no_partner c h l n i = refuted p c l (λ d t. n (own l (partner_is p c o x h sound l d t i)))

  one_goes : (y : Object) → ((d : Configuration) → object_of d o ≡ Some x → transition p d k ≡ Some (put_object d o y)) → needs_no_choice k ≡ true
      → (c d e : Configuration) (l : Label) → object_of c o ≡ Some x → IsInOrder c → transition p c k ≡ Some e → transition p c l ≡ Some d → l ≢ k → Commutes p d e k l
  one_goes y again kind c d e l at s i j n =
      goes p k (OneKeeps o x y) (one_inside o x y) (one_change o x y) (one_apart o x y) (λ c h l n i. no_agent c h.0 l n i) (λ c h l n i. no_partner c h.0 l n i)
      (λ d h. again d h.0) (λ d h. h.1) kind c d e l (at, s) i j n

pub commutes : (p : ProgramTree) (c d e : Configuration) (k l : Label) → Alone p c k → transition p c k ≡ Some e → transition p c l ≡ Some d → l ≢ k → Commutes p d e k l
commutes p c d e (L.Local o) l a i j n =
    let r = given_by (running c o) _ e i in
    let x = running_is c o r.0 r.1 in
    let y = given_by (local_step r.0 (action p o r.0)) _ e r.2 in
    one_goes p o r.0 (L.Local o) x.1 (local_own r.0 (action p o r.0) o y.0 y.1) y.0
    (λ d h. ap (λ q. q >>= λ z. local_step z (action p o z) >>= λ w. Some (put_object d o w)) (running_at d o r.0 h x.1) ∙ ap (λ q. q >>= λ w. Some (put_object d o w)) y.1)
    refl c d e l x.0 a.sorted i j n
commutes p c d e (L.Write o item) l a i j n =
    let r = given_by (running c o) _ e i in
    let x = running_is c o r.0 r.1 in
    let t = required (writes (action p o r.0) item) _ e r.2 in
    one_goes p o r.0 (L.Write o item) x.1 (writes_own (action p o r.0) o item t.0) (done r.0)
    (λ d h. ap (λ q. q >>= λ z. require (writes (action p o z) item) >> Some (put_object d o (done z))) (running_at d o r.0 h x.1) ∙ ap (λ q. require q >> Some (put_object d o (done r.0))) t.0)
    refl c d e l x.0 a.sorted i j n
commutes p c d e (L.Fault o f) l a i j n =
    let r = given_by (running c o) _ e i in
    let x = running_is c o r.0 r.1 in
    let t = required (fails (action p o r.0) f) _ e r.2 in
    one_goes p o r.0 (L.Fault o f) x.1 (fails_own (action p o r.0) o f t.0) (record r.0 { fault = Some f })
    (λ d h. ap (λ q. q >>= λ z. require (fails (action p o z) f) >> Some (put_object d o (record z { fault = Some f }))) (running_at d o r.0 h x.1)
    ∙ ap (λ q. require q >> Some (put_object d o (record r.0 { fault = Some f }))) t.0)
    refl c d e l x.0 a.sorted i j n
commutes p c d e (L.Send o b m args) l a i j n =
    let r = given_by (running c o) _ e i in
    let x = running_is c o r.0 r.1 in
    let t = required (posts (action p o r.0) b m.0 args && is_some (object_of c b)) _ e r.2 in
    let posts_it = first (posts (action p o r.0) b m.0 args) (is_some (object_of c b)) t.0 in
    let there = second (posts (action p o r.0) b m.0 args) (is_some (object_of c b)) t.0 in
    let own = posts_own (action p o r.0) o b m args posts_it in
    goes p (L.Send o b m args) (PostKeeps o b r.0 (done r.0) (record { method = m.0; args = args })) (one_inside o r.0 (done r.0))
    (post_change o b r.0 (done r.0) (record { method = m.0; args = args })) (post_apart o b r.0 (done r.0) (record { method = m.0; args = args }))
    (λ c h l n i. no_agent p o r.0 (L.Send o b m args) x.1 own c h.0 l n i) (λ c h l n i. no_partner p o r.0 (L.Send o b m args) x.1 own c h.0 l n i)
    (λ d h.
    ap (λ q. q >>= λ z. require (posts (action p o z) b m.0 args && is_some (object_of d b)) >> Some (put_messages (put_object d o (done z)) o b (messages_of d o b ++ record { method = m.0; args = args } ∷ [])))
    (running_at d o r.0 h.0 x.1)
    ∙ ap (λ q. require q >> Some (put_messages (put_object d o (done r.0)) o b (messages_of d o b ++ record { method = m.0; args = args } ∷ [])))
    (both (posts (action p o r.0) b m.0 args) (is_some (object_of d b)) posts_it h.1))
    (λ d h. h.2) refl c d e l (x.0, there, a.sorted) i j n
commutes p c d e (L.Return b o v) l a i j n =
    let s = given_by (running c b) _ e i in
    let r = given_by (running c o) _ e s.2 in
    let y = running_is c b s.0 s.1 in
    let x = running_is c o r.0 r.1 in
    let t = required (returns (action p b s.0) o v && waits_on (action p o r.0) b) _ e r.2 in
    let own = returns_own (action p b s.0) b o v (first (returns (action p b s.0) o v) (waits_on (action p o r.0) b) t.0) in
    let waits = waits_own (action p o r.0) o b (second (returns (action p b s.0) o v) (waits_on (action p o r.0) b) t.0) in
    goes p (L.Return b o v) (TwoKeep b o s.0 (returned s.0) r.0 (given r.0 v)) (two_inside b o s.0 (returned s.0) r.0 (given r.0 v)) (two_change b o s.0 (returned s.0) r.0 (given r.0 v))
    (two_apart b o s.0 (returned s.0) r.0 (given r.0 v))
    (λ c h l n i. refuted p c l (λ d t.
    either (agent l) i
    (λ g. n (own l (agent_is p c b s.0 h.0 y.1 l d t g)))
    (λ g. by_waiting s.0 y.1 own c h.0 l d t n (waits l (agent_is p c o r.0 h.1 x.1 l d t g)))))
    (λ c h l n i. refuted p c l (λ d t.
    either (partner l) i
    (λ g. n (own l (partner_is p c b s.0 h.0 y.1 l d t g)))
    (λ g. by_waiting s.0 y.1 own c h.0 l d t n (waits l (partner_is p c o r.0 h.1 x.1 l d t g)))))
    (λ d h.
    ap (λ q. q >>= λ y. running d o >>= λ x. require (returns (action p b y) o v && waits_on (action p o x) b) >> Some (put_object (put_object d b (returned y)) o (given x v))) (running_at d b s.0 h.0 y.1)
    ∙ ap (λ q. q >>= λ x. require (returns (action p b s.0) o v && waits_on (action p o x) b) >> Some (put_object (put_object d b (returned s.0)) o (given x v))) (running_at d o r.0 h.1 x.1)
    ∙ ap (λ q. require q >> Some (put_object (put_object d b (returned s.0)) o (given r.0 v))) t.0)
    (λ d h. h.2) refl c d e l (y.0, x.0, a.sorted) i j n
  where
    either : (q : ℕ) → (q == b || q == o) ≡ true → ((q == b) ≡ true → ⊥) → ((q == o) ≡ true → ⊥) → ⊥
    either q h f g = by (q == b) refl (q == o) refl
      where
        by : (u : Bool) → (q == b) ≡ u → (w : Bool) → (q == o) ≡ w → ⊥
        by true i w j = f i
        by false i true j = g j
        by false i false j = absurd (let z : (false || false) ≡ true = sym (ap (λ t. t || (q == o)) i ∙ ap (λ t. false || t) j) ∙ h in cc)

    by_waiting : (y : Object) → y.fault ≡ None → ((l : Label) → Fits (action p b y) b l → l ≡ L.Return b o v) → (c : Configuration) → object_of c b ≡ Some y → (l : Label) (d : Configuration)
        → transition p c l ≡ Some d → l ≢ L.Return b o v → (w : Value) × (l ≡ L.Return b o w) → ⊥
    by_waiting y sound own c at l d t n w = n (own l (agent_is p c b y at sound l d t (ap (λ q. agent q == b) w.1 ∙ equals b)))
commutes p c d e (L.New o m q) l a i j n = absurd (let z = a.kind in cc)
commutes p c d e (L.Answer b o m args) l a i j n = absurd (let z = a.kind in cc)
commutes p c d e (L.Take b s m args) l a i j n = absurd (let z = a.kind in cc)
commutes p c d e (L.Pick o q) l a i j n = absurd (let z = a.kind in cc)

pub alone_makes_none : (p : ProgramTree) (c : Configuration) (k : Label) → Alone p c k → makes_none k ≡ true
alone_makes_none p c k a = by k a.kind
  where
    by : (k : Label) → needs_no_choice k ≡ true → makes_none k ≡ true
    by (L.New o m q) h = absurd (cc)
    by _ h = refl

-- whether a label is this one
abbrev is_label : Label → Label → Bool
is_label (L.Local o) (L.Local q) = o == q
is_label (L.Return b o v) (L.Return c q w) = b == c && (o == q && is_same v w)
is_label (L.Send o b m args) (L.Send q c n values) = o == q && (b == c && (m.0 == n.0 && are_same args values))
is_label (L.Write o i) (L.Write q j) = o == q && is_same_item i j
is_label (L.Fault o e) (L.Fault q f) = o == q && error_number e == error_number f
is_label _ _ = false

same_is : (k l : Label) → is_label k l ≡ true → k ≡ l
same_is (L.Local o) (L.Local q) h = ap L.Local (equal o q h)
same_is (L.Return b o v) (L.Return c q w) h =
    let rest = second (b == c) (o == q && is_same v w) h in
    ap (λ z. L.Return z o v) (equal b c (first (b == c) (o == q && is_same v w) h)) ∙ ap (λ z. L.Return c z v) (equal o q (first (o == q) (is_same v w) rest))
    ∙ ap (L.Return c q) (same_value v w (second (o == q) (is_same v w) rest))
same_is (L.Send o b m args) (L.Send q c n values) h =
    let rest = second (o == q) (b == c && (m.0 == n.0 && are_same args values)) h in
    let last = second (b == c) (m.0 == n.0 && are_same args values) rest in
    ap (λ z. L.Send z b m args) (equal o q (first (o == q) (b == c && (m.0 == n.0 && are_same args values)) h))
    ∙ ap (λ z. L.Send q z m args) (equal b c (first (b == c) (m.0 == n.0 && are_same args values) rest))
    ∙ ap (λ (z : ℕ). L.Send q c (record { 0 = z }) args) (equal m.0 n.0 (first (m.0 == n.0) (are_same args values) last))
    ∙ ap (L.Send q c n) (same_values args values (second (m.0 == n.0) (are_same args values) last))
same_is (L.Write o i) (L.Write q j) h =
    ap (λ z. L.Write z i) (equal o q (first (o == q) (is_same_item i j) h)) ∙ ap (L.Write q) (same_item i j (second (o == q) (is_same_item i j) h))
same_is (L.Fault o e) (L.Fault q f) h =
    ap (λ z. L.Fault z e) (equal o q (first (o == q) (error_number e == error_number f) h)) ∙ ap (L.Fault q) (same_error e f (second (o == q) (error_number e == error_number f) h))
same_is _ _ h = absurd (cc)

is_itself : (k : Label) → needs_no_choice k ≡ true → is_label k k ≡ true
is_itself (L.Local o) h = equals o
is_itself (L.Return b o v) h = both (b == b) (o == o && is_same v v) (equals b) (both (o == o) (is_same v v) (equals o) (value_itself v))
is_itself (L.Send o b m args) h =
    both (o == o) (b == b && (m.0 == m.0 && are_same args args)) (equals o)
    (both (b == b) (m.0 == m.0 && are_same args args) (equals b) (both (m.0 == m.0) (are_same args args) (equals m.0) (values_itself args)))
is_itself (L.Write o i) h = both (o == o) (is_same_item i i) (equals o) (item_itself i)
is_itself (L.Fault o e) h = both (o == o) (error_number e == error_number e) (equals o) (equals (error_number e))
is_itself _ h = absurd (cc)

pub same_label : (p : ProgramTree) (c : Configuration) (k : Label) → Alone p c k → (l : Label) → (l ≡ k) ⊎ (l ≢ k)
same_label p c k a l = by (is_label k l) refl
  where
    by : (t : Bool) → is_label k l ≡ t → (l ≡ k) ⊎ (l ≢ k)
    by true e = inl (sym (same_is k l e))
    by false e = inr (λ i. absurd (let z : true ≡ false = sym (is_itself k a.kind) ∙ ap (is_label k) (sym i) ∙ e in cc))
