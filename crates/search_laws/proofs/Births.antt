-- A creation can come first. An object that is about to create an object stays so until it does. The creation and a
-- transition of another object lead to the same configuration in either order, and then new objects get other names.
use Rattle.std.proofs.Common.{◌≡◌, ◌≢◌, ◌⊎◌, ◌<◌, ◌≤◌, inl, inr, refl, sym, ap, ◌∙◌, subst, ℕ, suc, List, [], ◌∷◌, ◌++◌, length, map, Option, Some, None, is_some, is_none, Bool, true, false, not, ◌&&◌, ◌||◌, ◌==◌, append-nil, arith}
use Rattle.run_types.specs.declared.types.NameId.{NameId}
use Rattle.run_types.specs.declared.types.Value.TheVariants as V
use Rattle.run_types.specs.declared.types.Label.{Label}
use Rattle.run_types.specs.declared.types.Label.TheVariants as L
use Rattle.run_types.specs.Message.{Message}
use Rattle.run_types.specs.Partial.{◌>>=◌, ◌>>◌, require}
use Rattle.run_types.specs.Same.{are_same}
use Rattle.run_types.proofs.Laws.{first, second, both, equal, equals, given_by, required, same_some}
use Rattle.pool_syntax.specs.Terms as T
use Rattle.pool_syntax.specs.Terms.{ProgramTree, ClassTree}
use Rattle.pool_syntax.specs.Classes.{class_of}
use Rattle.pool_relation.specs.Reducible.{AsExpression, AsStatements}
use Rattle.pool_relation.specs.Action.{Object, method_of, action}
use Rattle.pool_relation.specs.Configuration.{Configuration, object_of, put_object, messages_of, put_messages}
use Rattle.pool_relation.specs.Progress.{agent}
use Rattle.pool_relation.specs.Transition.{without_fault, running, local_step, makes, calls, posts, returns, waits_on, writes, fails, picked, offer, has_message, first_message, without_first, refilled, done, returned, given, serving, new_object, transition, run}
use Rattle.pool_relation.proofs.Laws.{running_is}
use Rattle.reachability.specs.Search.{IsInOrder, after, names_next, in_order, needs_no_choice}
use Rattle.search_laws.specs.ClosedBeside.{after_all, IsReachedInOrder}
pub use Rattle.search_laws.specs.Births.{Advanced, Brought, Within, Behind}
use Rattle.search_laws.specs.Renamed.{Renaming, renamed_program, renamed_label, IsRenamed, IsNameless}
use Rattle.search_laws.specs.Stubborn.{are_others}
use Rattle.search_laws.proofs.OneLabel.{partner, Fits, makes_own}
use Rattle.search_laws.proofs.PutsCommute.{sorted_put, at_another, either_order}
use Rattle.search_laws.proofs.RenamedTransition.{Alike, Neither, Both, unequal}
use Rattle.search_laws.proofs.RenamedRun.{makes_none, Keeps, KeepsAll, Adds, AddsOne, others_keep, new_adds, run_renamed}
use Rattle.search_laws.proofs.NamesInOrder.{same_all, arranged}
use Rattle.search_laws.proofs.ReducedSearch.{first_of, joined_step}
use Rattle.search_laws.proofs.ChoiceFreeRuns.{sorted_after, start_sorted}
use Rattle.search_laws.proofs.Commutation.{running_at, OneKeeps, one_inside, one_change, one_apart, agent_is, partner_is}
use Rattle.search_laws.proofs.Guarded.{others_stay}
use Rattle.search_laws.proofs.Known.{Known, known_by, known_reached}
use Rattle.search_laws.proofs.Splits.{Split, split, joined}
use Rattle.search_laws.proofs.Enough.{by_apart}

-- a transition that needs no choice creates none
pub kind_makes_none : (l : Label) → needs_no_choice l ≡ true → makes_none l ≡ true
kind_makes_none (L.New o m k) h = absurd (cc)
kind_makes_none _ h = refl

-- and is no label that names a new object out of order
pub names_any : (n : ℕ) (l : Label) → makes_none l ≡ true → names_next n l ≡ true
names_any n (L.New o m k) h = absurd (cc)
names_any n _ h = refl

pub not_before : (n : ℕ) (l : Label) → n ≤ after n l
not_before n (L.New o m k) = omega arith
not_before n (L.Local o) = omega arith
not_before n (L.Answer b o m args) = omega arith
not_before n (L.Return b o v) = omega arith
not_before n (L.Send o b m args) = omega arith
not_before n (L.Take b s m args) = omega arith
not_before n (L.Write o item) = omega arith
not_before n (L.Pick o i) = omega arith
not_before n (L.Fault o e) = omega arith

-- the object o creates one
abbrev pub makes_by : ℕ → Label → Bool
makes_by o (L.New q m k) = q == o
makes_by o _ = false

-- a new object gets the name m
abbrev names_it : ℕ → Label → Bool
names_it m (L.New q n k) = n == m
names_it m _ = false

-- what is possible is possible beside one more object
module _ (p : ProgramTree) (m : ℕ) (y : Object) where
  data Beside : Option Configuration → Option Configuration → Type 0 where
    Nothing : {v : Option Configuration} → Beside None v
    More : {d : Configuration} → Beside (Some d) (Some (put_object d m y))

  along : {X : Type 0} (u v : Option X) (f g : X → Option Configuration) → ((z : X) → u ≡ Some z → (v ≡ Some z) × Beside (f z) (g z)) → Beside (u >>= f) (v >>= g)
  along None v f g s = Nothing
  along (Some z) v f g s = let r = s z refl in subst (λ w. Beside (f z) (w >>= g)) (sym r.0) r.1

  wanted : (b b' : Bool) (f g : Option Configuration) → (b ≡ true → (b' ≡ true) × Beside f g) → Beside (require b >> f) (require b' >> g)
  wanted true b' f g s = let r = s refl in subst (λ w. Beside f (require w >> g)) (sym r.0) r.1
  wanted false b' f g s = Nothing

  module _ (c : Configuration) (sorted : IsInOrder c) (new : object_of c m ≡ None) where
    apart : (q : ℕ) → is_some (object_of c q) ≡ true → q ≢ m
    apart q there e = absurd (let z : true ≡ false = sym there ∙ ap (λ n. is_some (object_of c n)) e ∙ ap is_some new in cc)

    runs_apart : (q : ℕ) (z : Object) → running c q ≡ Some z → q ≢ m
    runs_apart q z r = apart q (ap is_some (running_is c q z r).0)

    runs : (q : ℕ) (z : Object) → running c q ≡ Some z → running (put_object c m y) q ≡ Some z
    runs q z r = ap (λ o. o >>= λ z. without_fault z z.fault) (at_another c m q y (runs_apart q z r)) ∙ r

    one : (q : ℕ) (z : Object) → q ≢ m → Beside (Some (put_object c q z)) (Some (put_object (put_object c m y) q z))
    one q z n = subst (λ d. Beside (Some (put_object c q z)) (Some d)) (sym (either_order c m q y z sorted n)) More

    two : (q r : ℕ) (z w : Object) → q ≢ m → r ≢ m → Beside (Some (put_object (put_object c q z) r w)) (Some (put_object (put_object (put_object c m y) q z) r w))
    two q r z w n k =
        subst (λ d. Beside (Some (put_object (put_object c q z) r w)) (Some d))
        (sym (ap (λ d. put_object d r w) (either_order c m q y z sorted n) ∙ either_order (put_object c q z) m r y w (sorted_put c q z sorted) k)) More

    put : (q s r : ℕ) (z : Object) (ms : List Message) → q ≢ m → Beside (Some (put_messages (put_object c q z) s r ms)) (Some (put_messages (put_object (put_object c m y) q z) s r ms))
    put q s r z ms n =
        subst (λ d. Beside (Some (put_messages (put_object c q z) s r ms)) (Some (put_messages d s r ms))) (sym (either_order c m q y z sorted n)) More

    beside : (l : Label) → names_it m l ≡ false → Beside (transition p c l) (transition p (put_object c m y) l)
    beside (L.Local q) n =
        along (running c q) (running (put_object c m y) q) _ _
        (λ z i. (runs q z i, along (local_step z (action p q z)) (local_step z (action p q z)) _ _ (λ w j. (j, one q w (runs_apart q z i)))))
    beside (L.New q b k) n =
        along (running c q) (running (put_object c m y) q) _ _
        (λ z i. (
          runs q z i,
          wanted (makes (action p q z) k.0 && is_none (object_of c b)) (makes (action p q z) k.0 && is_none (object_of (put_object c m y) b)) _ _
              (λ t. (
                ap (λ o. makes (action p q z) k.0 && is_none o) (at_another c m b y (unequal b m n)) ∙ t,
                along (class_of p k.0) (class_of p k.0) _ _
                    (λ class j. (j, two q b (given z (V.Ref b)) (new_object class) (runs_apart q z i) (unequal b m n))),
              )),
        ))
    beside (L.Answer b q v args) n =
        along (running c q) (running (put_object c m y) q) _ _
        (λ z i. (
          runs q z i,
          along (running c b) (running (put_object c m y) b) _ _
              (λ w j. (
                runs b w j,
                wanted (calls (action p q z) b v.0 args) (calls (action p q z) b v.0 args) _ _
                    (λ t. (
                      t,
                      along (offer (action p b w) v.0) (offer (action p b w) v.0) _ _
                          (λ off g. (
                            g,
                            wanted (not (has_message off.names (messages_of c q b))) (not (has_message off.names (messages_of c q b))) _ _
                                (λ u. (
                                  u,
                                  along (method_of p w.class v.0 (length args)) (method_of p w.class v.0 (length args)) _ _
                                      (λ method f. (f, two q b (refilled z (AsExpression (T.Wait b v.0))) (serving w method (Some q) args off.work) (runs_apart q z i) (runs_apart b w j))),
                                )),
                          )),
                    )),
              )),
        ))
    beside (L.Return b q v) n =
        along (running c b) (running (put_object c m y) b) _ _
        (λ z i. (
          runs b z i,
          along (running c q) (running (put_object c m y) q) _ _
              (λ w j. (
                runs q w j,
                wanted (returns (action p b z) q v && waits_on (action p q w) b) (returns (action p b z) q v && waits_on (action p q w) b) _ _
                    (λ t. (t, two b q (returned z) (given w v) (runs_apart b z i) (runs_apart q w j))),
              )),
        ))
    beside (L.Send q b v args) n =
        along (running c q) (running (put_object c m y) q) _ _
        (λ z i. (
          runs q z i,
          wanted (posts (action p q z) b v.0 args && is_some (object_of c b)) (posts (action p q z) b v.0 args && is_some (object_of (put_object c m y) b)) _ _
              (λ t. (
                ap (λ o. posts (action p q z) b v.0 args && is_some o) (at_another c m b y (apart b (second (posts (action p q z) b v.0 args) (is_some (object_of c b)) t))) ∙ t,
                put q q b (done z) (messages_of c q b ++ record { method = v.0; args = args } ∷ []) (runs_apart q z i),
              )),
        ))
    beside (L.Take b s v args) n =
        along (running c b) (running (put_object c m y) b) _ _
        (λ z i. (
          runs b z i,
          along (offer (action p b z) v.0) (offer (action p b z) v.0) _ _
              (λ off g. (
                g,
                along (first_message off.names (messages_of c s b)) (first_message off.names (messages_of c s b)) _ _
                    (λ early h. (
                      h,
                      wanted (early.method == v.0 && are_same early.args args) (early.method == v.0 && are_same early.args args) _ _
                          (λ t. (
                            t,
                            along (method_of p z.class v.0 (length args)) (method_of p z.class v.0 (length args)) _ _
                                (λ method f. (f, put b s b (serving z method None args off.work) (without_first off.names (messages_of c s b)) (runs_apart b z i))),
                          )),
                    )),
              )),
        ))
    beside (L.Write q item) n =
        along (running c q) (running (put_object c m y) q) _ _
        (λ z i. (runs q z i, wanted (writes (action p q z) item) (writes (action p q z) item) _ _ (λ t. (t, one q (done z) (runs_apart q z i)))))
    beside (L.Pick q i) n =
        along (running c q) (running (put_object c m y) q) _ _
        (λ z g. (runs q z g, along (picked (action p q z) i) (picked (action p q z) i) _ _ (λ work j. (j, one q (refilled z (AsStatements work)) (runs_apart q z g)))))
    beside (L.Fault q e) n =
        along (running c q) (running (put_object c m y) q) _ _
        (λ z i. (runs q z i, wanted (fails (action p q z) e) (fails (action p q z) e) _ _ (λ t. (t, one q (record z { fault = Some e }) (runs_apart q z i)))))

  beside_one : (c d : Configuration) (l : Label) → IsInOrder c → object_of c m ≡ None → names_it m l ≡ false → transition p c l ≡ Some d → transition p (put_object c m y) l ≡ Some (put_object d m y)
  beside_one c d l s new n t = by (transition p c l) (transition p (put_object c m y) l) t refl (beside c s new l n)
    where
      by : (u v : Option Configuration) → u ≡ Some d → v ≡ transition p (put_object c m y) l → Beside u v → transition p (put_object c m y) l ≡ Some (put_object d m y)
      by u v i j Nothing = absurd (cc)
      by u v i j (More {d = e}) = sym j ∙ ap (λ (x : Configuration). Some (put_object x m y)) (same_some i)

-- a name that no object has after a label has none before it, and the label does not give it
unused : (p : ProgramTree) (c d : Configuration) (l : Label) (m : ℕ) → transition p c l ≡ Some d → is_some (object_of d m) ≡ false → (is_some (object_of c m) ≡ false) × (names_it m l ≡ false)
unused p c d l m t none = by l t
  where
    plain : (l : Label) → makes_none l ≡ true → transition p c l ≡ Some d → names_it m l ≡ false → (is_some (object_of c m) ≡ false) × (names_it m l ≡ false)
    plain l h t n =
        let keep : Keeps c (Some d) = subst (Keeps c) t (others_keep p c l h) in
        let all : (q : ℕ) → is_some (object_of d q) ≡ is_some (object_of c q) = elim keep [ KeepsAll k ↦ k ] in
        (sym (all m) ∙ none, n)

    neither : (a b : Bool) → (a || b) ≡ false → (a ≡ false) × (b ≡ false)
    neither true b h = absurd (cc)
    neither false b h = (refl, h)

    turned : (w : ℕ) → (m == w) ≡ false → (w == m) ≡ false
    turned w h = at (w == m) refl
      where
        at : (b : Bool) → (w == m) ≡ b → (w == m) ≡ false
        at false e = e
        at true e = absurd (unequal m w h (sym (equal w m e)))

    by : (l : Label) → transition p c l ≡ Some d → (is_some (object_of c m) ≡ false) × (names_it m l ≡ false)
    by (L.New q w k) t =
        let adds : Adds w c (Some d) = subst (Adds w c) t (new_adds p c q w k) in
        elim adds [ AddsOne u all ↦ (let e = neither (m == w) (is_some (object_of c m)) (sym (all m) ∙ none) in (e.1, turned w e.0)) ]
    by (L.Local q) t = plain (L.Local q) refl t refl
    by (L.Answer b q v args) t = plain (L.Answer b q v args) refl t refl
    by (L.Return b q v) t = plain (L.Return b q v) refl t refl
    by (L.Send q b v args) t = plain (L.Send q b v args) refl t refl
    by (L.Take b s v args) t = plain (L.Take b s v args) refl t refl
    by (L.Write q item) t = plain (L.Write q item) refl t refl
    by (L.Pick q i) t = plain (L.Pick q i) refl t refl
    by (L.Fault q e) t = plain (L.Fault q e) refl t refl

nobody : (o : Option Object) → is_some o ≡ false → o ≡ None
nobody None h = refl
nobody (Some x) h = absurd (cc)

others_first : (chosen : Label → Bool) (l : Label) (ls : List Label) → are_others chosen (l ∷ ls) ≡ true → (chosen l ≡ false) × (are_others chosen ls ≡ true)
others_first chosen l ls h = (no (chosen l) (first (not (chosen l)) (are_others chosen ls) h), second (not (chosen l)) (are_others chosen ls) h)
  where
    no : (u : Bool) → not u ≡ true → u ≡ false
    no true e = absurd (cc)
    no false e = refl

-- a run in two parts
record Parted (p : ProgramTree) (c d : Configuration) (ls ms : List Label) : Type 0 where
  here : Configuration
  leads : run p c ls ≡ Some here
  rest : run p here ms ≡ Some d

parted : (p : ProgramTree) (c d : Configuration) (ls ms : List Label) → run p c (ls ++ ms) ≡ Some d → Parted p c d ls ms
parted p c d [] ms r = record { here = c; leads = refl; rest = r }
parted p c d (l ∷ ls) ms r =
    let f = first_of p c d l (ls ++ ms) r in
    let t = parted p f.next d ls ms f.rest in
    record { here = t.here; leads = joined_step p c f.next t.here l ls f.step t.leads; rest = t.rest }

-- the object o is about to create an object
module _ (p : ProgramTree) (o : ℕ) (k : NameId) (x : Object) (class : ClassTree) (sound : x.fault ≡ None) (creates : makes (action p o x) k.0 ≡ true) (found : class_of p k.0 ≡ Some class) where
  -- it has created one of the name m
  abbrev created : Configuration → ℕ → Configuration
  created c m = put_object (put_object c o (given x (V.Ref m))) m (new_object class)

  can : (c : Configuration) (m : ℕ) → object_of c o ≡ Some x → object_of c m ≡ None → transition p c (L.New o m k) ≡ Some (created c m)
  can c m at none =
      ap (λ q. q >>= λ x. require (makes (action p o x) k.0 && is_none (object_of c m)) >> (class_of p k.0 >>= λ class. Some (put_object (put_object c o (given x (V.Ref m))) m (new_object class)))) (running_at c o x at sound)
      ∙ ap (λ q. require q >> (class_of p k.0 >>= λ class. Some (put_object (put_object c o (given x (V.Ref m))) m (new_object class))))
      (both (makes (action p o x) k.0) (is_none (object_of c m)) creates (ap is_none none))
      ∙ ap (λ q. q >>= λ class. Some (put_object (put_object c o (given x (V.Ref m))) m (new_object class))) found

  own : (c d : Configuration) (l : Label) → object_of c o ≡ Some x → transition p c l ≡ Some d → (agent l == o) ≡ true → (m : ℕ) × (l ≡ L.New o m k)
  own c d l at t i = makes_own (action p o x) o k creates l (agent_is p c o x at sound l d t i)

  apart_from : (c d : Configuration) (l : Label) → object_of c o ≡ Some x → makes_by o l ≡ false → transition p c l ≡ Some d → ((agent l == o) ≡ false) × ((partner l == o) ≡ false)
  apart_from c d l at n t = (by (agent l == o) (agent_is p c o x at sound l d t), by (partner l == o) (partner_is p c o x at sound l d t))
    where
      by : (u : Bool) → (u ≡ true → Fits (action p o x) o l) → u ≡ false
      by false f = refl
      by true f =
          let it = makes_own (action p o x) o k creates l (f refl) in
          absurd (let z : true ≡ false = sym (ap (makes_by o) it.1 ∙ equals o) ∙ n in cc)

  stays_able : (c d : Configuration) (l : Label) → object_of c o ≡ Some x → makes_by o l ≡ false → transition p c l ≡ Some d → object_of d o ≡ Some x
  stays_able c d l at n t =
      let a = apart_from c d l at n t in
      others_stay p c d l o t (λ e. unequal (agent l) o a.0 (sym e)) (λ e. unequal (partner l) o a.1 (sym e)) (ap is_some at) ∙ at

  all_able : (c d : Configuration) (ls : List Label) → object_of c o ≡ Some x → are_others (makes_by o) ls ≡ true → run p c ls ≡ Some d → object_of d o ≡ Some x
  all_able c d [] at others r = subst (λ (z : Configuration). object_of z o ≡ Some x) (same_some r) at
  all_able c d (l ∷ ls) at others r =
      let f = first_of p c d l ls r in
      let h = others_first (makes_by o) l ls others in
      all_able f.next d ls (stays_able c f.next l at h.0 f.step) h.1 f.rest

  over : (c d : Configuration) (l : Label) (m : ℕ) → IsInOrder c → object_of c o ≡ Some x → is_some (object_of d m) ≡ false → makes_by o l ≡ false → transition p c l ≡ Some d
      → transition p (created c m) l ≡ Some (created d m)
  over c d l m s at none n t =
      let a = apart_from c d l at n t in
      let u = unused p c d l m t none in
      let one = by_apart p (OneKeeps o x (given x (V.Ref m))) (one_inside o x (given x (V.Ref m))) (λ r. true) (one_change o x (given x (V.Ref m))) (one_apart o x (given x (V.Ref m))) c d l (at, s) a.0 a.1 refl t in
      let other : m ≢ o = λ e. absurd (let z : true ≡ false = sym (ap is_some at) ∙ ap (λ q. is_some (object_of c q)) (sym e) ∙ u.0 in cc) in
      let free : object_of (put_object c o (given x (V.Ref m))) m ≡ None = at_another c o m (given x (V.Ref m)) other ∙ nobody (object_of c m) u.0 in
      beside_one p m (new_object class) (put_object c o (given x (V.Ref m))) (put_object d o (given x (V.Ref m))) l (sorted_put c o (given x (V.Ref m)) s) free u.1 one

  over_all : (c d : Configuration) (ls : List Label) (m : ℕ) → IsInOrder c → object_of c o ≡ Some x → is_some (object_of d m) ≡ false → are_others (makes_by o) ls ≡ true → run p c ls ≡ Some d
      → (is_some (object_of c m) ≡ false) × (run p (created c m) ls ≡ Some (created d m))
  over_all c d [] m s at none others r =
      let is : c ≡ d = same_some r in
      (subst (λ (z : Configuration). is_some (object_of z m) ≡ false) (sym is) none, ap (λ (z : Configuration). Some (created z m)) is)
  over_all c d (l ∷ ls) m s at none others r =
      let f = first_of p c d l ls r in
      let h = others_first (makes_by o) l ls others in
      let w = over_all f.next d ls m (sorted_after p c f.next l s f.step) (stays_able c f.next l at h.0 f.step) none h.1 f.rest in
      ((unused p c f.next l m f.step w.0).0, joined_step p (created c m) (created f.next m) (created d m) l ls (over c f.next l m s at w.0 h.0 f.step) w.1)

  -- the creation of a run can come first
  advance : IsNameless p → (n : ℕ) (c d y : Configuration) (before behind : List Label) (m : ℕ) → Known n c → IsInOrder c → object_of c o ≡ Some x → transition p c (L.New o n k) ≡ Some y
      → are_others (makes_by o) before ≡ true → run p c (before ++ L.New o m k ∷ behind) ≡ Some d → Advanced p n d y (before ++ behind)
  advance less n c d y before behind m known s at step others r =
      let a = arranged p c d (L.New o m k ∷ (before ++ behind)) n same_all (record { there = known.there; free = known.free }) all in
      by a.names a.keeps a.orders (run p c (L.New o m k ∷ (before ++ behind))) (run (renamed_program a.names.to p) c (map (renamed_label a.names.to) (L.New o m k ∷ (before ++ behind)))) all refl
      (run_renamed a.names p c c (L.New o m k ∷ (before ++ behind)) (known.fixed a.names a.keeps))
    where
      all : run p c (L.New o m k ∷ (before ++ behind)) ≡ Some d
      all =
          let t = parted p c d before (L.New o m k ∷ behind) r in
          let f = first_of p t.here d (L.New o m k) behind t.rest in
          let here = all_able c t.here before at others t.leads in
          let none : is_some (object_of t.here m) ≡ false = elim (subst (Adds m t.here) f.step (new_adds p t.here o m k)) [ AddsOne u h ↦ u ] in
          let w = over_all c t.here before m s at none others t.leads in
          let is : created t.here m ≡ f.next = same_some (sym (can t.here m here (nobody (object_of t.here m) none)) ∙ f.step) in
          joined_step p c (created c m) d (L.New o m k) (before ++ behind) (can c m at (nobody (object_of c m) w.0))
          (joined p (created c m) (created t.here m) d before behind w.1 (subst (λ (z : Configuration). run p z behind ≡ Some d) (sym is) f.rest))

      by : (g : Renaming) → ((q : ℕ) → q < n → g.to q ≡ q) → in_order n (map (renamed_label g.to) (L.New o m k ∷ (before ++ behind))) ≡ true → (u v : Option Configuration) → u ≡ Some d
          → run (renamed_program g.to p) c (map (renamed_label g.to) (L.New o m k ∷ (before ++ behind))) ≡ v → Alike g.to u v → Advanced p n d y (before ++ behind)
      by g keeps orders u v i j Neither = absurd (cc)
      by g keeps orders u v i j (Both {c = b} {d = e} same) =
          let is : b ≡ d = same_some i in
          let leads : run p c (map (renamed_label g.to) (L.New o m k ∷ (before ++ behind))) ≡ Some e = ap (λ q. run q c (map (renamed_label g.to) (L.New o m k ∷ (before ++ behind)))) (sym (less g.to)) ∙ j in
          let named : g.to m ≡ n = equal (g.to m) n (first (g.to m == n) (in_order (suc n) (map (renamed_label g.to) (before ++ behind))) orders) in
          let it : g.to o ≡ o = keeps o (known.there o (ap is_some at)) in
          let h = first_of p c e (L.New (g.to o) (g.to m) k) (map (renamed_label g.to) (before ++ behind)) leads in
          let to : h.next ≡ y = same_some (sym h.step ∙ ap (λ z. transition p c (L.New z (g.to m) k)) it ∙ ap (λ z. transition p c (L.New o z k)) named ∙ step) in
          record {
            names = g;
            keeps = keeps;
            to = e;
            same = subst (λ (z : Configuration). IsRenamed g.to z e) is same;
            orders = second (g.to m == n) (in_order (suc n) (map (renamed_label g.to) (before ++ behind))) orders;
            leads = subst (λ (z : Configuration). run p z (map (renamed_label g.to) (before ++ behind)) ≡ Some e) to h.rest;
          }

pub brought : (p : ProgramTree) → IsNameless p → (n o : ℕ) (k : NameId) (c d y : Configuration) (ls : List Label) → Known n c → IsInOrder c → transition p c (L.New o n k) ≡ Some y → in_order n ls ≡ true → run p c ls ≡ Some d
    → Brought p n o k d y ls
brought p less n o k c d y ls known s step orders r =
    let a = given_by (running c o) _ y step in
    let w = required (makes (action p o a.0) k.0 && is_none (object_of c n)) _ y a.2 in
    let class = given_by (class_of p k.0) _ y w.1 in
    let here = running_is c o a.0 a.1 in
    go a.0 class.0 here.0 here.1 (first (makes (action p o a.0) k.0) (is_none (object_of c n)) w.0) class.1
  where
    go : (x : Object) (class : ClassTree) → object_of c o ≡ Some x → x.fault ≡ None → makes (action p o x) k.0 ≡ true → class_of p k.0 ≡ Some class → Brought p n o k d y ls
    go x class at sound creates found = by (split (makes_by o) ls)
      where
        its : (l : Label) → makes_by o l ≡ true → (agent l == o) ≡ true
        its (L.New q m j) h = h
        its _ h = absurd (cc)

        by : (are_others (makes_by o) ls ≡ true) ⊎ Split (makes_by o) ls → Brought p n o k d y ls
        by (inl others) =
            let known_d = known_by p less n c d ls known orders r in
            let able = all_able p o k x class sound creates found c d ls at others r in
            let m : ℕ = after_all n ls in
            let none : is_some (object_of d (after_all n ls)) ≡ false = not_there (is_some (object_of d (after_all n ls))) (λ h. let lt = known_d.there (after_all n ls) h in omega (arith, lt)) in
            let t = can p o k x class sound creates found d (after_all n ls) able (nobody (object_of d (after_all n ls)) none) in
            let all = joined p c d (created p o k x class sound creates found d (after_all n ls)) ls (L.New o (after_all n ls) k ∷ []) r
            (joined_step p d (created p o k x class sound creates found d (after_all n ls)) (created p o k x class sound creates found d (after_all n ls)) (L.New o (after_all n ls) k) [] t refl) in
            let more = advance p o k x class sound creates found less n c (created p o k x class sound creates found d (after_all n ls)) y ls [] (after_all n ls) known s at step others all in
            Behind (after_all n ls) (created p o k x class sound creates found d (after_all n ls)) t (subst (λ (ks : List Label). Advanced p n (created p o k x class sound creates found d (after_all n ls)) y ks) (append-nil ls) more)
          where
            not_there : (b : Bool) → (b ≡ true → ⊥) → b ≡ false
            not_there true h = absurd (h refl)
            not_there false h = refl
        by (inr f) =
            let t = parted p c d f.before (f.one ∷ f.behind) (ap (run p c) (sym f.is) ∙ r) in
            let g = first_of p t.here d f.one f.behind t.rest in
            let it = own p o k x class sound creates found t.here g.next f.one (all_able p o k x class sound creates found c t.here f.before at f.others t.leads) g.step (its f.one f.is_chosen) in
            let is : ls ≡ f.before ++ L.New o it.0 k ∷ f.behind = f.is ∙ ap (λ (l : Label). f.before ++ l ∷ f.behind) it.1 in
            Within f.before f.behind it.0 is
            (advance p o k x class sound creates found less n c d y f.before f.behind it.0 known s at step f.others (ap (run p c) (sym is) ∙ r))

-- the same of a configuration that labels reach that name new objects in order
pub brought_first : (p : ProgramTree) → IsNameless p → (n o : ℕ) (k : NameId) (c d y : Configuration) (ls : List Label) → IsReachedInOrder p n c → transition p c (L.New o n k) ≡ Some y → in_order n ls ≡ true → run p c ls ≡ Some d
    → Brought p n o k d y ls
brought_first p less n o k c d y ls reached step orders r =
    brought p less n o k c d y ls (known_reached p less n c reached) (sorted_by reached.first c reached.labels (start_sorted p reached.first reached.starts) reached.leads) step orders r
  where
    sorted_by : (b c : Configuration) (ls : List Label) → IsInOrder b → run p b ls ≡ Some c → IsInOrder c
    sorted_by b c [] s r = subst IsInOrder (same_some r) s
    sorted_by b c (l ∷ ls) s r = let f = first_of p b c l ls r in sorted_by f.next c ls (sorted_after p b f.next l s f.step) f.rest
