-- Transitions that need no choice.
use Rattle.std.proofs.Common.{◌≡◌, refl, sym, ap, ◌∙◌, subst, ℕ, ◌==◌, List, Option, Some, None, is_some, Bool, true, false, ◌&&◌, [], ◌∷◌, ◌++◌}
use Rattle.std.specs.Prelude.{IfSome}
use Rattle.std.specs.Ordering.{nat_cmp}
use Rattle.std.specs.Option.{option_map}
use Rattle.std.specs.Map.{lookup}
use Rattle.std.specs.BTreeMap.{BTreeMap, is_at, get}
use Rattle.run_types.specs.declared.types.Label.{Label}
use Rattle.run_types.specs.declared.types.Label.TheVariants as L
use Rattle.run_types.specs.declared.types.Value.{Value}
use Rattle.run_types.specs.declared.types.Item.{Item}
use Rattle.run_types.specs.declared.types.Error.{Error}
use Rattle.pool_syntax.specs.Terms.{ProgramTree}
use Rattle.run_types.specs.Message.{Message}
use Rattle.run_types.specs.Same.{error_number}
use Rattle.run_types.specs.Tables.{Pair}
use Rattle.run_types.proofs.Laws.{first, equals, same_some, given_by, required, value_itself, values_itself, item_itself}
use Rattle.pool_relation.specs.Action as A
use Rattle.pool_relation.specs.Action.{Object, Action, action}
use Rattle.pool_relation.specs.Configuration.{Configuration, object_of, put_object, messages_of, put_messages}
use Rattle.pool_relation.specs.Transition.{running, local_step, posts, returns, waits_on, writes, fails, done, returned, given, transition}
use Rattle.pool_relation.specs.Typed.{CanTake, GoesWrong}
use Rattle.pool_relation.proofs.Laws.{running_is}
use Rattle.reachability.specs.Search.{needs_no_choice}
use Rattle.stepper_objects.specs.declared.object_state.ObjectState.{ObjectState}
use Rattle.stepper_objects.specs.ObjectStates.{thing_object}
use Rattle.pool_semantics.specs.Moving.{IsTheOne}
use Rattle.pool_semantics.specs.Sound.{Sound}
use Rattle.pool_semantics.specs.SearchQueries.{free_label, free_at}
use Rattle.pool_semantics.proofs.Labels.{with_objects}
use Rattle.pool_semantics.proofs.MapAbstraction.{things_lookup}
use Rattle.pool_semantics.proofs.TypedFacts.{nobody_goes_wrong}

-- an object of the configuration is in its map
pub is_there : (m : BTreeMap ℕ ObjectState) (ms : List (Pair × List Message)) (o : ℕ) (x : Object) → object_of (with_objects m ms) o ≡ Some x → is_some (lookup (is_at (nat_cmp o)) m.entries) ≡ true
is_there m ms o x e = by (get nat_cmp m o) refl
  where
    by : (w : Option ObjectState) → get nat_cmp m o ≡ w → is_some (get nat_cmp m o) ≡ true
    by (Some t) h = rw h refl
    by None h = absurd (let z : None ≡ Some x = sym (things_lookup o m.entries ∙ ap (option_map thing_object) h) ∙ e in cc)

-- what the object of this name does next needs no choice
abbrev pub GoesFree : ProgramTree → Configuration → ℕ → ℕ → Type 0
GoesFree p c o b = (b ≡ o) × (is_some (free_at p c o) ≡ true)

pub free_is_there : (p : ProgramTree) (m : BTreeMap ℕ ObjectState) (ms : List (Pair × List Message)) (o b : ℕ) → GoesFree p (with_objects m ms) o b → is_some (lookup (is_at (nat_cmp o)) m.entries) ≡ true
free_is_there p m ms o b h = by (running (with_objects m ms) o) refl
  where
    by : (r : Option Object) → running (with_objects m ms) o ≡ r → is_some (lookup (is_at (nat_cmp o)) m.entries) ≡ true
    by (Some x) e = is_there m ms o x (running_is (with_objects m ms) o x e).0
    by None e = absurd (let z : false ≡ true = rw e at h.1 in cc)

no_choice_of : (o : ℕ) (a : Action) (l : Label) → free_label o a ≡ Some l → needs_no_choice l ≡ true
no_choice_of o (A.Local term vars) l e = let s : L.Local o ≡ l = cc in ap needs_no_choice (sym s)
no_choice_of o (A.Fault r) l e = let s : L.Fault o r ≡ l = cc in ap needs_no_choice (sym s)
no_choice_of o (A.Async b m args) l e = let s : L.Send o b (record { 0 = m }) args ≡ l = cc in ap needs_no_choice (sym s)
no_choice_of o (A.Write item) l e = let s : L.Write o item ≡ l = cc in ap needs_no_choice (sym s)
no_choice_of o (A.Return k v) l e = let s : L.Return o k v ≡ l = cc in ap needs_no_choice (sym s)
no_choice_of o _ l e = absurd (cc)

-- such a transition is possible

module _ (p : ProgramTree) (c : Configuration) (sound : Sound p c) where
  -- who gets a message is there
  posted : (o b m : ℕ) (args : List Value) (x : Object) → running c o ≡ Some x → action p o x ≡ A.Async b m args → is_some (object_of c b) ≡ true
  posted o b m args x r i = by (object_of c b) refl
    where
      by : (y : Option Object) → object_of c b ≡ y → is_some (object_of c b) ≡ true
      by (Some y) e = rw e refl
      by None e = absurd (nobody_goes_wrong p c o x sound (running_is c o x r).0
          (subst (GoesWrong p c o) (sym i) (λ (t : CanTake p c b m _). let z : None ≡ Some t.0 = sym e ∙ t.2 in absurd (cc))))

  -- who is returned to waits
  awaited : (o k : ℕ) (v : Value) (x : Object) → running c o ≡ Some x → action p o x ≡ A.Return k v → (y : Object) × (running c k ≡ Some y) × (waits_on (action p k y) o ≡ true)
  awaited o k v x r i = by (running c k) refl
    where
      wrong : ¬ (¬ ((y : Object) × (m : ℕ) × (object_of c k ≡ Some y) × (action p k y ≡ A.Waits o m)))
      wrong n = nobody_goes_wrong p c o x sound (running_is c o x r).0 (subst (GoesWrong p c o) (sym i) n)

      runs : (y : Object) (m : ℕ) → object_of c k ≡ Some y → action p k y ≡ A.Waits o m → running c k ≡ Some y
      runs y m e a = at_rest y.fault refl
        where
          at_rest : (f : Option Error) → y.fault ≡ f → running c k ≡ Some y
          at_rest None j = rw (e, j) refl
          at_rest (Some f) j = absurd (let z : A.Waits o m ≡ A.Fault f = sym a ∙ sound.typed.fault k y f e j in cc)

      by : (w : Option Object) → running c k ≡ w → (y : Object) × (running c k ≡ Some y) × (waits_on (action p k y) o ≡ true)
      by None e = absurd (wrong (λ t. let z : None ≡ Some t.0 = sym e ∙ runs t.0 t.1 t.2 t.3 in absurd (cc)))
      by (Some y) e = on (waits_on (action p k y) o) refl
        where
          on : (b : Bool) → waits_on (action p k y) o ≡ b → (y : Object) × (running c k ≡ Some y) × (waits_on (action p k y) o ≡ true)
          on true h = (y, e, h)
          on false h = absurd (wrong (λ t.
              let same : t.0 ≡ y = same_some (sym (runs t.0 t.1 t.2 t.3) ∙ e) in
              let waits : waits_on (action p k y) o ≡ (o == o) = ap (λ a. waits_on a o) (ap (action p k) (sym same) ∙ t.3) in
              let z : false ≡ true = sym h ∙ waits ∙ equals o in absurd (cc)))

  possible : (o : ℕ) (x : Object) (a : Action) (l : Label) → running c o ≡ Some x → action p o x ≡ a → free_label o a ≡ Some l → (d : Configuration) × (transition p c l ≡ Some d)
  possible o x (A.Local term vars) l r i e =
      let s : L.Local o ≡ l = cc in (put_object c o (record x { term = term; vars = vars }), ap (transition p c) (sym s) ∙ rw (r, i) refl)
  possible o x (A.Fault f) l r i e =
      let s : L.Fault o f ≡ l = cc in (put_object c o (record x { fault = Some f }), ap (transition p c) (sym s) ∙ rw (r, i, equals (error_number f)) refl)
  possible o x (A.Async b m args) l r i e =
      let s : L.Send o b (record { 0 = m }) args ≡ l = cc in (
        put_messages (put_object c o (done x)) o b (messages_of c o b ++ record { method = m; args = args } ∷ []),
        ap (transition p c) (sym s) ∙ rw (r, i, equals b, equals m, values_itself args, posted o b m args x r i) refl,
      )
  possible o x (A.Write item) l r i e =
      let s : L.Write o item ≡ l = cc in (put_object c o (done x), ap (transition p c) (sym s) ∙ rw (r, i, item_itself item) refl)
  possible o x (A.Return k v) l r i e =
      let s : L.Return o k v ≡ l = cc in
      let y = awaited o k v x r i in
      (put_object (put_object c o (returned x)) k (given y.0 v), ap (transition p c) (sym s) ∙ rw (r, y.1, i, equals k, value_itself v, y.2) refl)
  possible o x _ l r i e = absurd (cc)

  on_free : (o : ℕ) (l : Label) → free_at p c o ≡ Some l → (needs_no_choice l ≡ true) × (d : Configuration) × (transition p c l ≡ Some d)
  on_free o l e = by (running c o) refl
    where
      by : (w : Option Object) → running c o ≡ w → (needs_no_choice l ≡ true) × (d : Configuration) × (transition p c l ≡ Some d)
      by None r = absurd (let z : None ≡ Some l = rw r at e in cc)
      by (Some x) r = let f : free_label o (action p o x) ≡ Some l = rw r at e in
          let d = possible o x (action p o x) l r refl f in (no_choice_of o (action p o x) l f, d.0, d.1)

  pub found_free : (o : ℕ) (r : Option Label) → r ≡ free_at p c o → IfSome r (λ l. needs_no_choice l ≡ true)
  found_free o None e = tt
  found_free o (Some l) e = (on_free o l (sym e)).0

  pub found_possible : (o : ℕ) (r : Option Label) → r ≡ free_at p c o → IfSome r (λ l. (d : Configuration) × (transition p c l ≡ Some d))
  found_possible o None e = tt
  found_possible o (Some l) e = let d = on_free o l (sym e) in (d.1, d.2)

-- an object without such a label
pub not_free : (p : ProgramTree) (c : Configuration) (o : ℕ) (r : Option Label) → r ≡ free_at p c o → is_some r ≡ false → IsTheOne (GoesFree p c o) None
not_free p c o r e n = record { holds = tt; only = λ b t. absurd (let z : false ≡ true = sym n ∙ (ap is_some e ∙ t.1) in cc) }

-- no other is

local_free : (o : ℕ) (x y : Object) (a : Action) → local_step x a ≡ Some y → is_some (free_label o a) ≡ true
local_free o x y (A.Local term vars) h = refl
local_free o x y _ h = absurd (cc)

return_free : (o k : ℕ) (v : Value) (a : Action) → returns a k v ≡ true → is_some (free_label o a) ≡ true
return_free o k v (A.Return j w) h = refl
return_free o k v _ h = absurd (let z : false ≡ true = h in cc)

post_free : (o b m : ℕ) (args : List Value) (a : Action) → posts a b m args ≡ true → is_some (free_label o a) ≡ true
post_free o b m args (A.Async r n vs) h = refl
post_free o b m args _ h = absurd (let z : false ≡ true = h in cc)

write_free : (o : ℕ) (item : Item) (a : Action) → writes a item ≡ true → is_some (free_label o a) ≡ true
write_free o item (A.Write i) h = refl
write_free o item _ h = absurd (let z : false ≡ true = h in cc)

fail_free : (o : ℕ) (e : Error) (a : Action) → fails a e ≡ true → is_some (free_label o a) ≡ true
fail_free o e (A.Fault d) h = refl
fail_free o e _ h = absurd (let z : false ≡ true = h in cc)

goes_free : (p : ProgramTree) (c d : Configuration) (l : Label) → needs_no_choice l ≡ true → transition p c l ≡ Some d → (o : ℕ) × (is_some (free_at p c o) ≡ true)
goes_free p c d l n t = by l n t
  where
    at : (o : ℕ) (x : Object) → running c o ≡ Some x → is_some (free_label o (action p o x)) ≡ true → (o : ℕ) × (is_some (free_at p c o) ≡ true)
    at o x r h = (o, rw r h)

    by : (l : Label) → needs_no_choice l ≡ true → transition p c l ≡ Some d → (o : ℕ) × (is_some (free_at p c o) ≡ true)
    by (L.Local o) n t =
        let x = given_by (running c o) _ d t in
        let y = given_by (local_step x.0 (action p o x.0)) _ d x.2 in
        at o x.0 x.1 (local_free o x.0 y.0 (action p o x.0) y.1)
    by (L.Return b o v) n t =
        let y = given_by (running c b) _ d t in
        let x = given_by (running c o) _ d y.2 in
        let w = required (returns (action p b y.0) o v && waits_on (action p o x.0) b) _ d x.2 in
        at b y.0 y.1 (return_free b o v (action p b y.0) (first (returns (action p b y.0) o v) (waits_on (action p o x.0) b) w.0))
    by (L.Send o b m args) n t =
        let x = given_by (running c o) _ d t in
        let w = required (posts (action p o x.0) b m.0 args && is_some (object_of c b)) _ d x.2 in
        at o x.0 x.1 (post_free o b m.0 args (action p o x.0) (first (posts (action p o x.0) b m.0 args) (is_some (object_of c b)) w.0))
    by (L.Write o item) n t =
        let x = given_by (running c o) _ d t in
        let w = required (writes (action p o x.0) item) _ d x.2 in
        at o x.0 x.1 (write_free o item (action p o x.0) w.0)
    by (L.Fault o e) n t =
        let x = given_by (running c o) _ d t in
        let w = required (fails (action p o x.0) e) _ d x.2 in
        at o x.0 x.1 (fail_free o e (action p o x.0) w.0)
    by (L.New o m k) n t = absurd (let z : false ≡ true = n in cc)
    by (L.Answer b o m args) n t = absurd (let z : false ≡ true = n in cc)
    by (L.Take b s m args) n t = absurd (let z : false ≡ true = n in cc)
    by (L.Pick o i) n t = absurd (let z : false ≡ true = n in cc)

pub none_free : (p : ProgramTree) (c : Configuration) → ((o b : ℕ) → ¬ (GoesFree p c o b)) → (l : Label) → needs_no_choice l ≡ true → transition p c l ≡ None
none_free p c none l n = by (transition p c l) refl
  where
    by : (t : Option Configuration) → transition p c l ≡ t → transition p c l ≡ None
    by None e = e
    by (Some d) e = let f = goes_free p c d l n e in absurd (none f.0 f.0 (refl, f.1))
