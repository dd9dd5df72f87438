-- The labels of an object at `answer` or `select` are a stubborn set, if only the objects that wait for it know its
-- name.
use Rattle.std.proofs.Common.{◌≡◌, ◌≢◌, ◌≤◌, ◌<◌, ◌+◌, ◌⊎◌, inl, inr, refl, sym, ap, ◌∙◌, subst, ℕ, suc, List, [], ◌∷◌, ◌++◌, length, Option, Some, None, is_some, is_none, Bool, true, false, not, ◌&&◌, ◌||◌, ◌==◌, arith}
use Rattle.run_types.specs.declared.types.Value.{Value}
use Rattle.run_types.specs.declared.types.NameId.{NameId}
use Rattle.run_types.specs.declared.types.Label.{Label}
use Rattle.run_types.specs.declared.types.Label.TheVariants as L
use Rattle.run_types.specs.Message.{Message}
use Rattle.run_types.specs.Partial.{◌>>=◌, ◌>>◌, require}
use Rattle.run_types.specs.Same.{are_same}
use Rattle.run_types.proofs.Laws.{first, second, equal, equals, differ, given_by, required, same_some, put_list_other}
use Rattle.pool_syntax.specs.Terms as T
use Rattle.pool_syntax.specs.Terms.{MethodTree, ProgramTree}
use Rattle.pool_syntax.specs.Classes.{class_of}
use Rattle.pool_relation.specs.Reducible.{AsExpression, AsStatements}
use Rattle.pool_relation.specs.Action.{Object, method_of, action}
use Rattle.pool_relation.specs.Configuration.{Configuration, object_of, put_object, messages_of, put_messages}
use Rattle.pool_relation.specs.Progress.{agent}
use Rattle.pool_relation.specs.Transition.{running, local_step, makes, calls, posts, returns, waits_on, writes, fails, picked, Offer, offer, has_message, first_message, without_first, refilled, serving, transition, run}
use Rattle.pool_relation.proofs.Laws.{running_is}
use Rattle.reachability.specs.Search.{after, names_next, in_order, IsInOrder}
use Rattle.search_laws.specs.Renamed.{IsNameless}
use Rattle.search_laws.specs.Stubborn.{are_others, makes_one, serves, waits_for, is_served, IsAwaited, IsStubborn}
use Rattle.search_laws.proofs.OneLabel.{partner}
use Rattle.search_laws.proofs.NamesInOrder.{swap_first, swap_kept, swapped, same_all}
use Rattle.search_laws.proofs.PutsCommute.{sorted_put, sorted_messages, at_another, still_there, either_order, either_messages}
use Rattle.search_laws.proofs.ReducedSearch.{first_of, joined_step}
use Rattle.search_laws.proofs.RenamedTransition.{unequal}
use Rattle.search_laws.proofs.ChoiceFreeRuns.{sorted_after}
use Rattle.search_laws.proofs.Independence.{Apart, Follows, Nothing, Beside, beside, receiver}
use Rattle.search_laws.proofs.Commutation.{running_at, OneKeeps, one_inside, one_change, one_apart, TwoKeep, two_inside, two_change, two_apart}
use Rattle.search_laws.proofs.Unknown.{calls_the_same, posts_the_same}
use Rattle.search_laws.proofs.Outside.{Outside, stays_outside, calls_says, posts_says}
use Rattle.search_laws.proofs.Guarded.{Guarded, takes_no_part, others_stay}

-- a label does not change the messages to other objects than its receiver
queues_stay : (p : ProgramTree) (c d : Configuration) (l : Label) (s r : ℕ) → transition p c l ≡ Some d → r ≢ receiver l → messages_of d s r ≡ messages_of c s r
queues_stay p c d (L.Local o) s r t n =
    let x = given_by (running c o) _ d t in
    let y = given_by (local_step x.0 (action p o x.0)) _ d x.2 in
    ap (λ z. messages_of z s r) (sym (same_some y.2))
queues_stay p c d (L.New o k class) s r t n =
    let x = given_by (running c o) _ d t in
    let w = required (makes (action p o x.0) class.0 && is_none (object_of c k)) _ d x.2 in
    let y = given_by (class_of p class.0) _ d w.1 in
    ap (λ z. messages_of z s r) (sym (same_some y.2))
queues_stay p c d (L.Answer b o m args) s r t n =
    let x = given_by (running c o) _ d t in
    let y = given_by (running c b) _ d x.2 in
    let w = required (calls (action p o x.0) b m.0 args) _ d y.2 in
    let v = given_by (offer (action p b y.0) m.0) _ d w.1 in
    let u = required _ _ d v.2 in
    let method = given_by (method_of p y.0.class m.0 (length args)) _ d u.1 in
    ap (λ z. messages_of z s r) (sym (same_some method.2))
queues_stay p c d (L.Return b o v) s r t n =
    let y = given_by (running c b) _ d t in
    let x = given_by (running c o) _ d y.2 in
    let w = required (returns (action p b y.0) o v && waits_on (action p o x.0) b) _ d x.2 in
    ap (λ z. messages_of z s r) (sym (same_some w.1))
queues_stay p c d (L.Send o b m args) s r t n =
    let x = given_by (running c o) _ d t in
    let w = required (posts (action p o x.0) b m.0 args && is_some (object_of c b)) _ d x.2 in
    ap (λ z. messages_of z s r) (sym (same_some w.1))
    ∙ put_list_other (o, b) (messages_of c o b ++ record { method = m.0; args = args } ∷ []) c.messages (s, r) (λ e. n (ap (λ (z : ℕ × ℕ). z.1) e))
queues_stay p c d (L.Take b q m args) s r t n =
    let y = given_by (running c b) _ d t in
    let v = given_by (offer (action p b y.0) m.0) _ d y.2 in
    let g = given_by (first_message v.0.names (messages_of c q b)) _ d v.2 in
    let w = required (g.0.method == m.0 && are_same g.0.args args) _ d g.2 in
    let method = given_by (method_of p y.0.class m.0 (length args)) _ d w.1 in
    ap (λ z. messages_of z s r) (sym (same_some method.2))
    ∙ put_list_other (q, b) (without_first v.0.names (messages_of c q b)) c.messages (s, r) (λ e. n (ap (λ (z : ℕ × ℕ). z.1) e))
queues_stay p c d (L.Write o item) s r t n =
    let x = given_by (running c o) _ d t in
    let w = required (writes (action p o x.0) item) _ d x.2 in
    ap (λ z. messages_of z s r) (sym (same_some w.1))
queues_stay p c d (L.Pick o i) s r t n =
    let x = given_by (running c o) _ d t in
    let w = given_by (picked (action p o x.0) i) _ d x.2 in
    ap (λ z. messages_of z s r) (sym (same_some w.2))
queues_stay p c d (L.Fault o e) s r t n =
    let x = given_by (running c o) _ d t in
    let w = required (fails (action p o x.0) e) _ d x.2 in
    ap (λ z. messages_of z s r) (sym (same_some w.1))

-- an object takes a message: it changes, and so do the messages to it from one sender
module _ (b s : ℕ) (x y : Object) (ms : List Message) where
  abbrev TakeKeeps : Configuration → Type 0
  TakeKeeps d = (object_of d b ≡ Some x) × IsInOrder d

  abbrev take_inside : ℕ → Bool
  take_inside q = q == b

  abbrev take_free : ℕ → Bool
  take_free r = not (r == b)

  abbrev take_change : Configuration → Configuration
  take_change d = put_messages (put_object d b y) s b ms

  another : (r : ℕ) → take_free r ≡ true → r ≢ b
  another r e g = absurd (let z : true ≡ false = sym e ∙ ap not (ap (λ q. q == b) g ∙ equals b) in cc)

  others_sent : (c : Configuration) (q r : ℕ) → take_free r ≡ true → messages_of (take_change c) q r ≡ messages_of c q r
  others_sent c q r e = put_list_other (s, b) ms c.messages (q, r) (λ g. another r e (ap (λ (z : ℕ × ℕ). z.1) g))

  others_put : (c : Configuration) (q r : ℕ) (ns : List Message) → IsInOrder c → take_free r ≡ true → take_change (put_messages c q r ns) ≡ put_messages (take_change c) q r ns
  others_put c q r ns i e = either_messages (put_object c b y) q r s b ns ms (sorted_put c b y i) (λ g. another r e (sym g.1))

  take_apart : Apart TakeKeeps take_inside take_free take_change
  take_apart = record {
    present = λ c h q e. ap is_some (ap (object_of c) (equal q b e) ∙ h.0);
    others = λ c h q n. at_another c b q y (unequal q b n);
    all = λ c h q. still_there c b y (ap is_some h.0) q;
    put = λ c h q z n. ((at_another c q b z (λ i. unequal q b n (sym i)) ∙ h.0, sorted_put c q z h.1), ap (λ d. put_messages d s b ms) (sym (either_order c b q y z h.1 (unequal q b n))));
    sent = λ c h q r n free. others_sent c q r free;
    send = λ c h q r ns n free. ((h.0, sorted_messages c q r ns h.1), others_put c q r ns h.1 free);
    take = λ c h q r names first free e. record {
      same = ap (first_message names) (others_sent c q r free) ∙ e;
      keeps = (h.0, sorted_messages c q r (without_first names (messages_of c q r)) h.1);
      order =
          others_put c q r (without_first names (messages_of c q r)) h.1 free
          ∙ ap (λ l. put_messages (take_change c) q r (without_first names l)) (sym (others_sent c q r free));
    };
  }

-- both orders of two transitions that are apart lead to the same configuration
pub by_apart : (p : ProgramTree) (Keeps : Configuration → Type 0) (round free : ℕ → Bool) (change : Configuration → Configuration) (a : Apart Keeps round free change) (d e : Configuration) (l : Label) → Keeps d
    → round (agent l) ≡ false → round (partner l) ≡ false → free (receiver l) ≡ true → transition p d l ≡ Some e → transition p (change d) l ≡ Some (change e)
by_apart p Keeps round free change a d e l h u v w t = by (transition p d l) (transition p (change d) l) t refl (beside p Keeps round free change a d h l u v w)
  where
    by : (r s : Option Configuration) → r ≡ Some e → s ≡ transition p (change d) l → Follows p Keeps round free change a r s → transition p (change d) l ≡ Some (change e)
    by r s g k Nothing = absurd (cc)
    by r s g k (Beside {d = x} keeps) = sym k ∙ ap (λ q. Some (change q)) (same_some g)

serves_one : (b : ℕ) (l : Label) → is_served b l ≡ true → makes_one l ≡ false
serves_one b (L.New o n k) e = absurd (cc)
serves_one b (L.Local o) e = refl
serves_one b (L.Answer r o m args) e = refl
serves_one b (L.Return r o v) e = refl
serves_one b (L.Send o r m args) e = refl
serves_one b (L.Take r s m args) e = refl
serves_one b (L.Write o item) e = refl
serves_one b (L.Pick r i) e = refl
serves_one b (L.Fault o e) g = refl

module _ (p : ProgramTree) (less : IsNameless p) (b : ℕ) (c : Configuration) (y : Object) (waiting : ℕ → Bool)
    (there : object_of c b ≡ Some y) (sound : y.fault ≡ None) (open_b : serves (action p b y) ≡ true)
    (waits : (q : ℕ) (x : Object) → waiting q ≡ true → object_of c q ≡ Some x → x.fault ≡ None → waits_for b (action p q x) ≡ true)
    (present : (q : ℕ) → waiting q ≡ true → is_some (object_of c q) ≡ true) where
  abbrev inside : ℕ → Bool
  inside q = q == b || waiting q

  b_inside : inside b ≡ true
  b_inside = ap (λ t. t || waiting b) (equals b)

  inside_present : (q : ℕ) → inside q ≡ true → is_some (object_of c q) ≡ true
  inside_present q e = by (q == b) refl
    where
      by : (t : Bool) → (q == b) ≡ t → is_some (object_of c q) ≡ true
      by true i = ap is_some (ap (object_of c) (equal q b i) ∙ there)
      by false i = present q (sym (ap (λ t. t || waiting q) i) ∙ e)

  outsider : (q r : ℕ) → inside q ≡ false → inside r ≡ true → r ≢ q
  outsider q r out e g = absurd (let w : true ≡ false = sym e ∙ ap inside g ∙ out in cc)

  module _ (z : ℕ) (apart : z ≢ b) where
    -- what labels of other objects keep
    record Held (d : Configuration) : Type 0 where
      outside : Outside (swapped same_all b z) p less inside d
      same : (q : ℕ) → inside q ≡ true → object_of d q ≡ object_of c q
      queue : (s : ℕ) → messages_of d s b ≡ messages_of c s b
      sorted : IsInOrder d

    moved_b : (swapped same_all b z).to b ≡ b → ⊥
    moved_b e = let g : (swapped same_all b z).to b ≡ z = swap_first b z in apart (sym g ∙ e)

    guarded : (d : Configuration) → Held d → Guarded p b inside d
    guarded d h = record { stand = stand }
      where
        stand : (q : ℕ) (x : Object) → inside q ≡ true → running d q ≡ Some x → ((q ≡ b) × (serves (action p q x) ≡ true)) ⊎ (waits_for b (action p q x) ≡ true)
        stand q x e r = by (q == b) refl
          where
            i : (object_of d q ≡ Some x) × (x.fault ≡ None)
            i = running_is d q x r

            at : object_of c q ≡ Some x
            at = sym (h.same q e) ∙ (running_is d q x r).0

            by : (t : Bool) → (q == b) ≡ t → ((q ≡ b) × (serves (action p q x) ≡ true)) ⊎ (waits_for b (action p q x) ≡ true)
            by true g =
                let is : q ≡ b = equal q b g in
                let one : y ≡ x = same_some (sym there ∙ ap (object_of c) (sym is) ∙ sym (h.same q e) ∙ (running_is d q x r).0) in
                inl (is, ap (λ w. serves (action p w x)) is ∙ ap (λ (w : Object). serves (action p b w)) (sym one) ∙ open_b)
            by false g = inr (waits q x (sym (ap (λ t. t || waiting q) g) ∙ e) (sym (h.same q e) ∙ (running_is d q x r).0) (running_is d q x r).1)

    caller_inside : (d : Configuration) (o m : ℕ) (args : List Value) (x : Object) → Held d → running d o ≡ Some x → calls (action p o x) b m args ≡ true → inside o ≡ true
    caller_inside d o m args x h r t = by (inside o) refl
      where
        by : (u : Bool) → inside o ≡ u → inside o ≡ true
        by true e = e
        by false e =
            let i = running_is d o x r in
            absurd (moved_b (calls_the_same (swapped same_all b z) p less o x (h.outside.names o x e i.0) (h.outside.objects o x e i.0) b m args (calls_says (action p o x) b m args t)).0)

    not_to_b : (d e : Configuration) (l : Label) → Held d → transition p d l ≡ Some e → inside (agent l) ≡ false → b ≢ receiver l
    not_to_b d e (L.Send o r m args) h t out =
        let x = given_by (running d o) _ e t in
        let w = required (posts (action p o x.0) r m.0 args && is_some (object_of d r)) _ e x.2 in
        let i = running_is d o x.0 x.1 in
        let same = (posts_the_same (swapped same_all b z) p less o x.0 (h.outside.names o x.0 out i.0) (h.outside.objects o x.0 out i.0) r m.0 args
        (posts_says (action p o x.0) r m.0 args (first (posts (action p o x.0) r m.0 args) (is_some (object_of d r)) w.0))).0 in
        λ g. moved_b (ap (swapped same_all b z).to g ∙ same ∙ sym g)
    not_to_b d e (L.Local o) h t out = outsider o b out b_inside
    not_to_b d e (L.New o n k) h t out = outsider o b out b_inside
    not_to_b d e (L.Answer r o m args) h t out = outsider r b out b_inside
    not_to_b d e (L.Return r o v) h t out = outsider r b out b_inside
    not_to_b d e (L.Take r s m args) h t out = outsider r b out b_inside
    not_to_b d e (L.Write o item) h t out = outsider o b out b_inside
    not_to_b d e (L.Pick o i) h t out = outsider o b out b_inside
    not_to_b d e (L.Fault o r) h t out = outsider o b out b_inside

    step : (n : ℕ) (d e : Configuration) (l : Label) → Held d → suc n ≤ z → names_next n l ≡ true → is_served b l ≡ false → transition p d l ≡ Some e → Held e
    step n d e l h low named other t =
        let part = takes_no_part p b inside d e l (guarded d h) other t in
        record {
          outside = stays_outside (swapped same_all b z) p less inside d e l h.outside part.0 part.1 (λ o k class g. kept o k class (ap (transition p d) (sym g) ∙ t) (ap (names_next n) (sym g) ∙ named)) t;
          same = λ q i.
              others_stay p d e l q t (outsider (agent l) q part.0 i) (outsider (partner l) q part.1 i) (ap is_some (h.same q i) ∙ inside_present q i) ∙ h.same q i;
          queue = λ s. queues_stay p d e l s b t (not_to_b d e l h t part.0) ∙ h.queue s;
          sorted = sorted_after p d e l h.sorted t;
        }
      where
        none : (w : Option Object) → is_none w ≡ true → w ≡ Some y → ⊥
        none None i j = absurd (cc)
        none (Some x) i j = absurd (cc)

        kept : (o k : ℕ) (class : NameId) → transition p d (L.New o k class) ≡ Some e → (k == n) ≡ true → (swapped same_all b z).to k ≡ k
        kept o k class t next =
            let x = given_by (running d o) _ e t in
            let w = required (makes (action p o x.0) class.0 && is_none (object_of d k)) _ e x.2 in
            let free = second (makes (action p o x.0) class.0) (is_none (object_of d k)) w.0 in
            let is : k ≡ n = equal k n next in
            swap_kept b z k (λ g. none (object_of d k) free (ap (object_of d) g ∙ h.same b b_inside ∙ there)) (λ g. absurd (omega arith))

    -- what a label of b does in each configuration where all this holds
    record Effect (t : Label) : Type 0 where
      change : Configuration → Configuration
      does : (v : Configuration) → Held v → transition p v t ≡ Some (change v)
      besides : (d e : Configuration) (l : Label) → Held d → inside (agent l) ≡ false → inside (partner l) ≡ false → b ≢ receiver l → transition p d l ≡ Some e
          → transition p (change d) l ≡ Some (change e)

    at_too : (u v : Configuration) (q : ℕ) (x : Object) → Held u → Held v → inside q ≡ true → running u q ≡ Some x → object_of v q ≡ Some x
    at_too u v q x h g i r = g.same q i ∙ sym (h.same q i) ∙ (running_is u q x r).0

    runs_too : (u v : Configuration) (q : ℕ) (x : Object) → Held u → Held v → inside q ≡ true → running u q ≡ Some x → running v q ≡ Some x
    runs_too u v q x h g i r = running_at v q x (at_too u v q x h g i r) (running_is u q x r).1

    free_of : (r : ℕ) → b ≢ r → not (r == b) ≡ true
    free_of r n = ap not (differ r b (λ g. n (sym g)))

    pick_effect : (u w : Configuration) (i : ℕ) → Held u → transition p u (L.Pick b i) ≡ Some w → Effect (L.Pick b i)
    pick_effect u w i h t =
        let x = given_by (running u b) _ w t in
        let work = given_by (picked (action p b x.0) i) _ w x.2 in
        let new : Object = refilled x.0 (AsStatements work.0) in
        record {
          change = one_change b x.0 (refilled x.0 (AsStatements work.0));
          does = λ v g.
              ap (λ q. q >>= λ x. picked (action p b x) i >>= λ k. Some (put_object v b (refilled x (AsStatements k)))) (runs_too u v b x.0 h g b_inside x.1)
              ∙ ap (λ q. q >>= λ k. Some (put_object v b (refilled x.0 (AsStatements k)))) work.1;
          besides = λ d e l g out also n s.
              by_apart p (OneKeeps b x.0 (refilled x.0 (AsStatements work.0))) (one_inside b x.0 (refilled x.0 (AsStatements work.0))) (λ r. true) (one_change b x.0 (refilled x.0 (AsStatements work.0)))
              (one_apart b x.0 (refilled x.0 (AsStatements work.0))) d e l (at_too u d b x.0 h g b_inside x.1, g.sorted)
              (differ (agent l) b (λ k. outsider (agent l) b out b_inside (sym k))) (differ (partner l) b (λ k. outsider (partner l) b also b_inside (sym k))) refl s;
        }

    answer_effect : (u w : Configuration) (o : ℕ) (m : NameId) (args : List Value) → Held u → transition p u (L.Answer b o m args) ≡ Some w → Effect (L.Answer b o m args)
    answer_effect u w o m args h t =
        let x = given_by (running u o) _ w t in
        let s = given_by (running u b) _ w x.2 in
        let called = required (calls (action p o x.0) b m.0 args) _ w s.2 in
        let v = given_by (offer (action p b s.0) m.0) _ w called.1 in
        let none = required (not (has_message v.0.names (messages_of u o b))) _ w v.2 in
        let method = given_by (method_of p s.0.class m.0 (length args)) _ w none.1 in
        let o_inside = caller_inside u o m.0 args x.0 h x.1 called.0 in
        answer_by o m args x.0 s.0 v.0 method.0 o_inside called.0 v.1 method.1
        (λ d g. at_too u d o x.0 h g o_inside x.1) (running_is u o x.0 x.1).1 (λ d g. at_too u d b s.0 h g b_inside s.1) (running_is u b s.0 s.1).1
        (λ d g. ap (λ ms. not (has_message v.0.names ms)) (g.queue o ∙ sym (h.queue o)) ∙ none.0)
      where
        answer_by : (o : ℕ) (m : NameId) (args : List Value) (x s : Object) (v : Offer) (method : MethodTree) → inside o ≡ true → calls (action p o x) b m.0 args ≡ true → offer (action p b s) m.0 ≡ Some v
            → method_of p s.class m.0 (length args) ≡ Some method → ((d : Configuration) → Held d → object_of d o ≡ Some x) → x.fault ≡ None → ((d : Configuration) → Held d → object_of d b ≡ Some s) → s.fault ≡ None
            → ((d : Configuration) → Held d → not (has_message v.names (messages_of d o b)) ≡ true) → Effect (L.Answer b o m args)
        answer_by o m args x s v method i called offered found at_o right_o at_b right_b none =
            record {
              change = two_change o b x (refilled x (AsExpression (T.Wait b m.0))) s (serving s method (Some o) args v.work);
              does = λ d g.
                  ap (λ q. q >>= λ x. running d b >>= λ s. require (calls (action p o x) b m.0 args) >> (offer (action p b s) m.0 >>= λ v. require (not (has_message v.names (messages_of d o b)))
                  >> (method_of p s.class m.0 (length args) >>= λ k. Some (put_object (put_object d o (refilled x (AsExpression (T.Wait b m.0)))) b (serving s k (Some o) args v.work)))))
                  (running_at d o x (at_o d g) right_o)
                  ∙ ap (λ q. q >>= λ s. require (calls (action p o x) b m.0 args) >> (offer (action p b s) m.0 >>= λ v. require (not (has_message v.names (messages_of d o b)))
                  >> (method_of p s.class m.0 (length args) >>= λ k. Some (put_object (put_object d o (refilled x (AsExpression (T.Wait b m.0)))) b (serving s k (Some o) args v.work)))))
                  (running_at d b s (at_b d g) right_b)
                  ∙ ap (λ q. require q >> (offer (action p b s) m.0 >>= λ v. require (not (has_message v.names (messages_of d o b)))
                  >> (method_of p s.class m.0 (length args) >>= λ k. Some (put_object (put_object d o (refilled x (AsExpression (T.Wait b m.0)))) b (serving s k (Some o) args v.work))))) called
                  ∙ ap (λ q. q >>= λ v. require (not (has_message v.names (messages_of d o b)))
                  >> (method_of p s.class m.0 (length args) >>= λ k. Some (put_object (put_object d o (refilled x (AsExpression (T.Wait b m.0)))) b (serving s k (Some o) args v.work)))) offered
                  ∙ ap (λ q. require q >> (method_of p s.class m.0 (length args) >>= λ k. Some (put_object (put_object d o (refilled x (AsExpression (T.Wait b m.0)))) b (serving s k (Some o) args v.work)))) (none d g)
                  ∙ ap (λ q. q >>= λ k. Some (put_object (put_object d o (refilled x (AsExpression (T.Wait b m.0)))) b (serving s k (Some o) args v.work))) found;
              besides = λ d e l g out also n t.
                  by_apart p (TwoKeep o b x (refilled x (AsExpression (T.Wait b m.0))) s (serving s method (Some o) args v.work))
                  (two_inside o b x (refilled x (AsExpression (T.Wait b m.0))) s (serving s method (Some o) args v.work)) (λ r. true)
                  (two_change o b x (refilled x (AsExpression (T.Wait b m.0))) s (serving s method (Some o) args v.work))
                  (two_apart o b x (refilled x (AsExpression (T.Wait b m.0))) s (serving s method (Some o) args v.work)) d e l (at_o d g, at_b d g, g.sorted)
                  (neither (agent l) o out i) (neither (partner l) o also i) refl t;
            }
          where
            neither : (q o : ℕ) → inside q ≡ false → inside o ≡ true → (q == o || q == b) ≡ false
            neither q o out i =
                ap (λ t. t || (q == b)) (differ q o (λ k. outsider q o out i (sym k))) ∙ ap (λ t. false || t) (differ q b (λ k. outsider q b out b_inside (sym k)))

    take_effect : (u w : Configuration) (s : ℕ) (m : NameId) (args : List Value) → Held u → transition p u (L.Take b s m args) ≡ Some w → Effect (L.Take b s m args)
    take_effect u w s m args h t =
        let x = given_by (running u b) _ w t in
        let v = given_by (offer (action p b x.0) m.0) _ w x.2 in
        let f = given_by (first_message v.0.names (messages_of u s b)) _ w v.2 in
        let is = required (f.0.method == m.0 && are_same f.0.args args) _ w f.2 in
        let method = given_by (method_of p x.0.class m.0 (length args)) _ w is.1 in
        take_by s m args x.0 v.0 f.0 method.0 (messages_of u s b) v.1 f.1 is.0 method.1
        (λ d g. at_too u d b x.0 h g b_inside x.1) (running_is u b x.0 x.1).1 (λ d g. g.queue s ∙ sym (h.queue s))
      where
        take_by : (s : ℕ) (m : NameId) (args : List Value) (x : Object) (v : Offer) (f : Message) (method : MethodTree) (ms : List Message) → offer (action p b x) m.0 ≡ Some v
            → first_message v.names ms ≡ Some f → (f.method == m.0 && are_same f.args args) ≡ true → method_of p x.class m.0 (length args) ≡ Some method
            → ((d : Configuration) → Held d → object_of d b ≡ Some x) → x.fault ≡ None → ((d : Configuration) → Held d → messages_of d s b ≡ ms) → Effect (L.Take b s m args)
        take_by s m args x v f method ms offered early is found at_b right_b queue =
            record {
              change = take_change b s x (serving x method None args v.work) (without_first v.names ms);
              does = λ d g.
                  ap (λ q. q >>= λ x. offer (action p b x) m.0 >>= λ v. first_message v.names (messages_of d s b) >>= λ f. require (f.method == m.0 && are_same f.args args)
                  >> (method_of p x.class m.0 (length args) >>= λ k. Some (put_messages (put_object d b (serving x k None args v.work)) s b (without_first v.names (messages_of d s b)))))
                  (running_at d b x (at_b d g) right_b)
                  ∙ ap (λ q. q >>= λ v. first_message v.names (messages_of d s b) >>= λ f. require (f.method == m.0 && are_same f.args args)
                  >> (method_of p x.class m.0 (length args) >>= λ k. Some (put_messages (put_object d b (serving x k None args v.work)) s b (without_first v.names (messages_of d s b))))) offered
                  ∙ ap (λ ns. first_message v.names ns >>= λ f. require (f.method == m.0 && are_same f.args args)
                  >> (method_of p x.class m.0 (length args) >>= λ k. Some (put_messages (put_object d b (serving x k None args v.work)) s b (without_first v.names ns)))) (queue d g)
                  ∙ ap (λ q. q >>= λ f. require (f.method == m.0 && are_same f.args args)
                  >> (method_of p x.class m.0 (length args) >>= λ k. Some (put_messages (put_object d b (serving x k None args v.work)) s b (without_first v.names ms)))) early
                  ∙ ap (λ q. require q >> (method_of p x.class m.0 (length args) >>= λ k. Some (put_messages (put_object d b (serving x k None args v.work)) s b (without_first v.names ms)))) is
                  ∙ ap (λ q. q >>= λ k. Some (put_messages (put_object d b (serving x k None args v.work)) s b (without_first v.names ms))) found;
              besides = λ d e l g out also n t.
                  by_apart p (TakeKeeps b s x (serving x method None args v.work) (without_first v.names ms)) (take_inside b s x (serving x method None args v.work) (without_first v.names ms))
                  (take_free b s x (serving x method None args v.work) (without_first v.names ms)) (take_change b s x (serving x method None args v.work) (without_first v.names ms))
                  (take_apart b s x (serving x method None args v.work) (without_first v.names ms)) d e l (at_b d g, g.sorted)
                  (differ (agent l) b (λ k. outsider (agent l) b out b_inside (sym k))) (differ (partner l) b (λ k. outsider (partner l) b also b_inside (sym k))) (free_of (receiver l) n) t;
            }

    effect : (u w : Configuration) (t : Label) → Held u → is_served b t ≡ true → transition p u t ≡ Some w → Effect t
    effect u w (L.Answer r o m args) h i t =
        let is : r ≡ b = equal r b i in
        subst (λ (k : ℕ). Effect (L.Answer k o m args)) (sym is) (answer_effect u w o m args h (ap (λ k. transition p u (L.Answer k o m args)) (sym is) ∙ t))
    effect u w (L.Take r s m args) h i t =
        let is : r ≡ b = equal r b i in
        subst (λ (k : ℕ). Effect (L.Take k s m args)) (sym is) (take_effect u w s m args h (ap (λ k. transition p u (L.Take k s m args)) (sym is) ∙ t))
    effect u w (L.Pick r k) h i t =
        let is : r ≡ b = equal r b i in
        subst (λ (q : ℕ). Effect (L.Pick q k)) (sym is) (pick_effect u w k h (ap (λ q. transition p u (L.Pick q k)) (sym is) ∙ t))
    effect u w (L.Local o) h i t = absurd (cc)
    effect u w (L.New o n k) h i t = absurd (cc)
    effect u w (L.Return r o v) h i t = absurd (cc)
    effect u w (L.Send o r m args) h i t = absurd (cc)
    effect u w (L.Write o item) h i t = absurd (cc)
    effect u w (L.Fault o e) h i t = absurd (cc)

    other : (l : Label) (ls : List Label) → are_others (is_served b) (l ∷ ls) ≡ true → (is_served b l ≡ false) × (are_others (is_served b) ls ≡ true)
    other l ls h = (no (is_served b l) (first (not (is_served b l)) (are_others (is_served b) ls) h), second (not (is_served b l)) (are_others (is_served b) ls) h)
      where
        no : (u : Bool) → not u ≡ true → u ≡ false
        no true e = absurd (cc)
        no false e = refl

    -- a label uses at most one new name
    not_far : (n : ℕ) (l : Label) → after n l ≤ suc n
    not_far n (L.New o m k) = omega arith
    not_far n (L.Local o) = omega arith
    not_far n (L.Answer r o m args) = omega arith
    not_far n (L.Return r o v) = omega arith
    not_far n (L.Send o r m args) = omega arith
    not_far n (L.Take r s m args) = omega arith
    not_far n (L.Write o item) = omega arith
    not_far n (L.Pick o i) = omega arith
    not_far n (L.Fault o e) = omega arith

    held_along : (n : ℕ) (d e : Configuration) (ls : List Label) → Held d → n + length ls ≤ z → are_others (is_served b) ls ≡ true → in_order n ls ≡ true → run p d ls ≡ Some e → Held e
    held_along n d e [] h low others o r = subst Held (same_some r) h
    held_along n d e (l ∷ ls) h low others o r =
        let f = first_of p d e l ls r in
        let k = other l ls others in
        let far = not_far n l in
        held_along (after n l) f.next e ls (step n d f.next l h (omega arith) (first (names_next n l) (in_order (after n l) ls) o) k.0 f.step) (omega arith) k.1
        (second (names_next n l) (in_order (after n l) ls) o) f.rest

    effect_along : (t : Label) (x : Effect t) (n : ℕ) (d e : Configuration) (ls : List Label) → Held d → n + length ls ≤ z → are_others (is_served b) ls ≡ true → in_order n ls ≡ true → run p d ls ≡ Some e
        → run p (x.change d) ls ≡ Some (x.change e)
    effect_along t x n d e [] h low others o r = ap (λ (q : Configuration). Some (x.change q)) (same_some r)
    effect_along t x n d e (l ∷ ls) h low others o r =
        let f = first_of p d e l ls r in
        let k = other l ls others in
        let far = not_far n l in
        let part = takes_no_part p b inside d f.next l (guarded d h) k.0 f.step in
        let held = step n d f.next l h (omega arith) (first (names_next n l) (in_order (after n l) ls) o) k.0 f.step in
        joined_step p (x.change d) (x.change f.next) (x.change e) l ls (x.besides d f.next l h part.0 part.1 (not_to_b d f.next l h f.step part.0) f.step)
        (effect_along t x (after n l) f.next e ls held (omega arith) k.1 (second (names_next n l) (in_order (after n l) ls) o) f.rest)

  -- so its labels are a stubborn set
  pub labels_of_one_are_enough : (n : ℕ) → IsInOrder c → b < n → ((z : ℕ) → n ≤ z → Outside (swapped same_all b z) p less inside c) → (t : Label) (w : Configuration) → is_served b t ≡ true
      → transition p c t ≡ Some w → (s : IsStubborn p n c (is_served b)) × (s.one ≡ t)
  labels_of_one_are_enough n sorted below unknown t w i s = (
    record {
      makes_none = serves_one b;
      one = t;
      is_chosen = i;
      stays = λ ls d others o r.
          let h = held (length ls) in
          let x = effect (n + length ls) (far (length ls)) c w t h i s in
          let g = held_along (n + length ls) (far (length ls)) n c d ls h (omega arith) others o r in
          (x.change d, x.does d g);
      first = λ ls d u l others o r j k.
          let h = held (length ls) in
          let g = held_along (n + length ls) (far (length ls)) n c d ls h (omega arith) others o r in
          let x = effect (n + length ls) (far (length ls)) d u l g j k in
          let is : x.change d ≡ u = same_some (sym (x.does d g) ∙ k) in
          (x.change c, x.does c h, effect_along (n + length ls) (far (length ls)) l x n c d ls h (omega arith) others o r ∙ ap Some is);
    },
    refl,
  )
    where
      far : (k : ℕ) → n + k ≢ b
      far k e = absurd (omega arith)

      held : (k : ℕ) → Held (n + k) (far k) c
      held k = record { outside = unknown (n + k) (omega arith); same = λ q e. refl; queue = λ s. refl; sorted = sorted }

-- the same by the definition, with the label that stays possible
pub who_is_awaited_is_enough : (p : ProgramTree) (n b : ℕ) (c : Configuration) → IsNameless p → (h : IsAwaited p n b c) → (s : IsStubborn p n c (is_served b)) × (s.one ≡ h.one)
who_is_awaited_is_enough p n b c less h =
    labels_of_one_are_enough p less b c h.object h.waiting h.there h.sound h.serving h.waits h.present n h.in_order h.below
    (λ z low. let u = h.unknown z low in record { objects = u.objects; names = u.names; messages = u.messages }) h.one h.to h.is_its h.possible
