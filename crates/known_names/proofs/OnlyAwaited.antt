-- If the tests succeed and a label of b is possible, b is awaited.
use Rattle.std.proofs.Common.{◌≡◌, refl, sym, ap, subst, ◌∙◌, ℕ, ◌<◌, ◌≤◌, List, [], ◌∷◌, map, Option, Some, None, is_some, is_none, Bool, true, false, ◌&&◌, ◌||◌, ◌==◌, nat_lt, cond, arith}
use Rattle.std.proofs.lemmas.Bool.{and_parts, ltb-true}
use Rattle.std.specs.List.{list_all}
use Rattle.std.specs.Option.{unwrap_or}
use Rattle.std.specs.Ordering.{nat_cmp, is_eq}
use Rattle.std.specs.declared.cmp.Ordering.{Ordering}
use Rattle.std.specs.declared.cmp.Ordering.TheVariants.{Less, Equal, Greater}
use Rattle.std.specs.FinMap.{nat_cmp-IsAntisymmetric}
use Rattle.std.specs.FinMap.Entries.{find}
use Rattle.run_types.specs.declared.types.Error.{Error}
use Rattle.run_types.specs.declared.types.Label.{Label}
use Rattle.run_types.specs.declared.types.Value.{Value}
use Rattle.run_types.specs.Message.{Message}
use Rattle.run_types.specs.Tables.{Each, Pair, pair_cmp}
use Rattle.run_types.proofs.Laws.{same_some, differ, neither, one_pair}
use Rattle.pool_syntax.specs.Terms.{ProgramTree}
use Rattle.pool_relation.specs.Action.{Object, action}
use Rattle.pool_relation.specs.Configuration.{Configuration, object_of}
use Rattle.pool_relation.specs.Transition.{transition}
use Rattle.reachability.specs.Search.{IsInOrder}
use Rattle.search_laws.specs.Renamed.{renamed_value, renamed_message, renamed_object}
use Rattle.search_laws.specs.Stubborn.{IsAwaited, exchanged, is_served, serves, waits_for}
use Rattle.stepper_objects.specs.declared.object_state.ObjectState.{ObjectState}
use Rattle.stepper_objects.specs.ObjectStates.{thing_object}
use Rattle.known_names.specs.OtherNames.{object_is_other, value_is_other}
use Rattle.known_names.specs.Awaited.{IsFit, awaits, is_message_other, is_queue_fit, is_serving, is_state_fit}
use Rattle.known_names.proofs.SameUnderNames.{object_same, value_same}

-- a disjunction whose first part fails
other_part : (a b : Bool) → (a || b) ≡ true → a ≡ false → b ≡ true
other_part false b h n = h
other_part true b h n = absurd (grind (arith, n))

no_fault : (f : Option Error) → is_none f ≡ true → f ≡ None
no_fault None h = refl
no_fault (Some e) h = absurd (grind (arith, h))

-- what holds of each entry of a map holds of a key and the value under it
entry_of : {K X : Type 0} (R : K → K → Ordering) → ((k j : K) → R k j ≡ Equal → k ≡ j) → (P : K → X → Type 0) (es : List (K × X)) → Each (λ (e : K × X). P e.0 e.1) es
    → (k : K) (x : X) → find R k es ≡ Some x → P k x
entry_of R one P [] h k x e = absurd (cc)
entry_of R one P (j ∷ es) h k x e = by (R k j.0) refl e (entry_of R one P es h.1 k x)
  where
    by : (r : Ordering) → R k j.0 ≡ r → cond (is_eq r) (Some j.1) (find R k es) ≡ Some x → (find R k es ≡ Some x → P k x) → P k x
    by Less t i rest = rest i
    by Greater t i rest = rest i
    by Equal t i rest = subst (λ q. P q x) (sym (one k j.0 t)) (subst (P j.0) (same_some i) h.0)

-- what is known of b
record IsThere (p : ProgramTree) (b : ℕ) (o : Option Object) : Type 0 where
  object : Object
  there : o ≡ Some object
  sound : object.fault ≡ None
  serving : serves (action p b object) ≡ true

is_there : (p : ProgramTree) (b : ℕ) (o : Option Object) → is_serving p b o ≡ true → IsThere p b o
is_there p b None h = absurd (grind (arith, h))
is_there p b (Some x) h =
    let both = and_parts (is_none x.fault) (serves (action p b x)) h in
    record { object = x; there = refl; sound = no_fault x.fault both.0; serving = both.1 }

-- what is known of an object that awaits b
is_present : (p : ProgramTree) (b q : ℕ) (o : Option Object) → awaits p b q o ≡ true → is_some o ≡ true
is_present p b q None h = absurd (grind (arith, h))
is_present p b q (Some x) h = refl

does_wait : (p : ProgramTree) (b q : ℕ) (o : Option Object) (x : Object) → awaits p b q o ≡ true → o ≡ Some x → x.fault ≡ None → waits_for b (action p q x) ≡ true
does_wait p b q o x h e f =
    let here : awaits p b q (Some x) ≡ true = ap (awaits p b q) (sym e) ∙ h in
    ap (λ g. is_some g || waits_for b (action p q x)) (sym f) ∙ here

-- an object and its name stay the same under other names
record StaysSame (g : ℕ → ℕ) (q : ℕ) (x : Object) : Type 0 where
  object : renamed_object g x ≡ x
  name : g q ≡ q

module _ (n b z : ℕ) (le : n ≤ z) where
  keeps : (q : ℕ) → q < n → (q == b) ≡ false → exchanged b z q ≡ q
  keeps q lt ne =
      let apart : (q == z) ≡ false = differ q z (λ e. omega (arith, e, lt, le)) in
      rw (ne, apart) refl

  args_same : (vs : List Value) → list_all (value_is_other n b) vs ≡ true → map (renamed_value (exchanged b z)) vs ≡ vs
  args_same [] h = refl
  args_same (v ∷ vs) h =
      let both = and_parts (value_is_other n b v) (list_all (value_is_other n b) vs) h in
      ap (λ w. w ∷ map (renamed_value (exchanged b z)) vs) (value_same (exchanged b z) n b keeps v both.0) ∙ ap (λ ws. v ∷ ws) (args_same vs both.1)

  message_same : (m : Message) → is_message_other n b m ≡ true → renamed_message (exchanged b z) m ≡ m
  message_same m h = ap (λ vs. record m { args = vs }) (args_same m.args h)

  messages_same : (ms : List Message) → list_all (is_message_other n b) ms ≡ true → map (renamed_message (exchanged b z)) ms ≡ ms
  messages_same [] h = refl
  messages_same (m ∷ ms) h =
      let both = and_parts (is_message_other n b m) (list_all (is_message_other n b) ms) h in
      ap (λ w. w ∷ map (renamed_message (exchanged b z)) ms) (message_same m both.0) ∙ ap (λ ws. m ∷ ws) (messages_same ms both.1)

  fit_same : (p : ProgramTree) (q : ℕ) (t : ObjectState) → is_state_fit p n b q t ≡ true → (q == b || awaits p b q (Some (thing_object t))) ≡ false
      → StaysSame (exchanged b z) q (thing_object t)
  fit_same p q t h out =
      let both = and_parts (nat_lt q n) (object_is_other n b t) (other_part (q == b || awaits p b q (Some (thing_object t))) (nat_lt q n && object_is_other n b t) h out) in
      record {
        object = object_same (exchanged b z) n b keeps t both.1;
        name = keeps q (ltb-true q n both.0) (neither (q == b) (awaits p b q (Some (thing_object t))) out).0;
      }

  module _ (p : ProgramTree) (c : Configuration) where
    object_stays : Each (λ (e : ℕ × Object). IsFit p n b e.0 e.1) c.objects → (q : ℕ) (x : Object) → (q == b || awaits p b q (object_of c q)) ≡ false → object_of c q ≡ Some x
        → StaysSame (exchanged b z) q x
    object_stays h q x out e =
        let fit = entry_of nat_cmp nat_cmp-IsAntisymmetric (IsFit p n b) c.objects h q x e in
        let here : object_of c q ≡ Some (thing_object fit.0) = e ∙ ap Some (sym fit.1) in
        subst (StaysSame (exchanged b z) q) fit.1 (fit_same p q fit.0 fit.2 (ap (λ o. q == b || awaits p b q o) (sym here) ∙ out))

    messages_stay : Each (λ (e : Pair × List Message). is_queue_fit p n b c e.0.1 e.1 ≡ true) c.messages → (s r : ℕ) → (r == b || awaits p b r (object_of c r)) ≡ false
        → (o : Option (List Message)) → find pair_cmp (s, r) c.messages ≡ o → map (renamed_message (exchanged b z)) (unwrap_or o []) ≡ unwrap_or o []
    messages_stay h s r out None e = refl
    messages_stay h s r out (Some ms) e =
        let fit = entry_of pair_cmp one_pair (λ k ms. is_queue_fit p n b c k.1 ms ≡ true) c.messages h (s, r) ms e in
        messages_same ms (other_part (r == b || awaits p b r (object_of c r)) (list_all (is_message_other n b) ms) fit out)

pub only_awaited : (p : ProgramTree) (n b : ℕ) (c : Configuration) → b < n → is_serving p b (object_of c b) ≡ true
    → Each (λ (e : ℕ × Object). IsFit p n b e.0 e.1) c.objects
    → Each (λ (e : Pair × List Message). is_queue_fit p n b c e.0.1 e.1 ≡ true) c.messages
    → IsInOrder c → (l : Label) (d : Configuration) → is_served b l ≡ true → transition p c l ≡ Some d
    → IsAwaited p n b c
only_awaited p n b c lt here objects queues sorted l d own step =
    let i = is_there p b (object_of c b) here in
    record {
      in_order = sorted;
      below = lt;
      object = i.object;
      there = i.there;
      sound = i.sound;
      serving = i.serving;
      waiting = λ q. awaits p b q (object_of c q);
      present = λ q h. is_present p b q (object_of c q) h;
      waits = λ q x h e f. does_wait p b q (object_of c q) x h e f;
      unknown = λ z le. record {
        objects = λ q x out e. (object_stays n b z le p c objects q x out e).object;
        names = λ q x out e. (object_stays n b z le p c objects q x out e).name;
        messages = λ t r out. messages_stay n b z le p c queues t r out (find pair_cmp (t, r) c.messages) refl;
      };
      one = l;
      to = d;
      is_its = own;
      possible = step;
    }
