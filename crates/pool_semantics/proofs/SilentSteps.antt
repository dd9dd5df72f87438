-- Transitions that need no choice and write nothing.
use Rattle.std.proofs.Common.{◌≡◌, refl, sym, ap, ◌∙◌, subst, ℕ, List, Option, Some, None, is_some, true, false, ◌&&◌}
use Rattle.std.specs.Prelude.{IfSome}
use Rattle.std.specs.Ordering.{nat_cmp}
use Rattle.std.specs.Map.{lookup}
use Rattle.std.specs.BTreeMap.{BTreeMap, is_at}
use Rattle.run_types.specs.declared.types.Label.{Label}
use Rattle.run_types.specs.declared.types.Label.TheVariants as L
use Rattle.run_types.specs.declared.types.Value.{Value}
use Rattle.run_types.specs.declared.types.Error.{Error}
use Rattle.pool_syntax.specs.Terms.{ProgramTree}
use Rattle.run_types.specs.Message.{Message}
use Rattle.run_types.specs.Tables.{Pair}
use Rattle.run_types.proofs.Laws.{first, same_some, given_by, required}
use Rattle.pool_relation.specs.Action as A
use Rattle.pool_relation.specs.Action.{Object, Action, action}
use Rattle.pool_relation.specs.Configuration.{Configuration, object_of}
use Rattle.pool_relation.specs.Transition.{running, local_step, posts, returns, waits_on, fails, transition}
use Rattle.reachability.specs.Search.{needs_no_choice}
use Rattle.reachability.specs.Labels.{is_silent}
use Rattle.stepper_objects.specs.declared.object_state.ObjectState.{ObjectState}
use Rattle.pool_semantics.specs.Moving.{IsTheOne}
use Rattle.pool_semantics.specs.Sound.{Sound}
use Rattle.pool_semantics.specs.SearchQueries.{free_label, free_at, unless_write, silent_at}
use Rattle.pool_semantics.proofs.Labels.{with_objects}
use Rattle.pool_semantics.proofs.ChoiceFreeSteps.{free_is_there, found_free, found_possible}

-- what the object of this name does next needs no choice and writes nothing
abbrev pub GoesSilent : ProgramTree → Configuration → ℕ → ℕ → Type 0
GoesSilent p c o b = (b ≡ o) × (is_some (silent_at p c o) ≡ true)

is_free : (r : Option Label) → is_some (unless_write r) ≡ true → is_some r ≡ true
is_free None h = h
is_free (Some l) h = refl

pub silent_is_there : (p : ProgramTree) (m : BTreeMap ℕ ObjectState) (ms : List (Pair × List Message)) (o b : ℕ) → GoesSilent p (with_objects m ms) o b
    → is_some (lookup (is_at (nat_cmp o)) m.entries) ≡ true
silent_is_there p m ms o b h = free_is_there p m ms o b (h.0, is_free (free_at p (with_objects m ms) o) h.1)

-- a label that is left is the one that was there, and silent
left : (k l : Label) → unless_write (Some k) ≡ Some l → needs_no_choice k ≡ true → (k ≡ l) × (is_silent l ≡ true)
left k l e n = (is k e, subst (λ (m : Label). is_silent m ≡ true) (is k e) (silent k e n))
  where
    is : (k : Label) → unless_write (Some k) ≡ Some l → k ≡ l
    is (L.Local o) e = same_some e
    is (L.New o m k) e = same_some e
    is (L.Answer b o m args) e = same_some e
    is (L.Return b o v) e = same_some e
    is (L.Send o b m args) e = same_some e
    is (L.Take b o m args) e = same_some e
    is (L.Write o item) e = absurd (let z : None ≡ Some l = e in cc)
    is (L.Pick o i) e = same_some e
    is (L.Fault o r) e = same_some e

    silent : (k : Label) → unless_write (Some k) ≡ Some l → needs_no_choice k ≡ true → is_silent k ≡ true
    silent (L.Local o) e n = n
    silent (L.New o m k) e n = n
    silent (L.Answer b o m args) e n = n
    silent (L.Return b o v) e n = n
    silent (L.Send o b m args) e n = n
    silent (L.Take b o m args) e n = n
    silent (L.Write o item) e n = absurd (let z : None ≡ Some l = e in cc)
    silent (L.Pick o i) e n = n
    silent (L.Fault o r) e n = n

module _ (p : ProgramTree) (c : Configuration) (sound : Sound p c) where
  on_silent : (o : ℕ) (l : Label) → silent_at p c o ≡ Some l → (is_silent l ≡ true) × (d : Configuration) × (transition p c l ≡ Some d)
  on_silent o l e = by (free_at p c o) refl
    where
      by : (w : Option Label) → free_at p c o ≡ w → (is_silent l ≡ true) × (d : Configuration) × (transition p c l ≡ Some d)
      by None h = absurd (let z : None ≡ Some l = ap unless_write (sym h) ∙ e in cc)
      by (Some k) h =
          let same = left k l (ap unless_write (sym h) ∙ e) (found_free p c sound o (Some k) (sym h)) in
          let d = found_possible p c sound o (Some k) (sym h) in (same.1, d.0, ap (transition p c) (sym same.0) ∙ d.1)

  pub found_silent : (o : ℕ) (r : Option Label) → r ≡ silent_at p c o → IfSome r (λ l. is_silent l ≡ true)
  found_silent o None e = tt
  found_silent o (Some l) e = (on_silent o l (sym e)).0

  pub silent_possible : (o : ℕ) (r : Option Label) → r ≡ silent_at p c o → IfSome r (λ l. (d : Configuration) × (transition p c l ≡ Some d))
  silent_possible o None e = tt
  silent_possible o (Some l) e = let d = on_silent o l (sym e) in (d.1, d.2)

-- an object without such a label
pub not_silent : (p : ProgramTree) (c : Configuration) (o : ℕ) (r : Option Label) → r ≡ silent_at p c o → is_some r ≡ false → IsTheOne (GoesSilent p c o) None
not_silent p c o r e n = record { holds = tt; only = λ b t. absurd (let z : false ≡ true = sym n ∙ (ap is_some e ∙ t.1) in cc) }

-- no other is

local_silent : (o : ℕ) (x y : Object) (a : Action) → local_step x a ≡ Some y → is_some (unless_write (free_label o a)) ≡ true
local_silent o x y (A.Local term vars) h = refl
local_silent o x y _ h = absurd (cc)

return_silent : (o k : ℕ) (v : Value) (a : Action) → returns a k v ≡ true → is_some (unless_write (free_label o a)) ≡ true
return_silent o k v (A.Return j w) h = refl
return_silent o k v _ h = absurd (let z : false ≡ true = h in cc)

post_silent : (o b m : ℕ) (args : List Value) (a : Action) → posts a b m args ≡ true → is_some (unless_write (free_label o a)) ≡ true
post_silent o b m args (A.Async r n vs) h = refl
post_silent o b m args _ h = absurd (let z : false ≡ true = h in cc)

fail_silent : (o : ℕ) (e : Error) (a : Action) → fails a e ≡ true → is_some (unless_write (free_label o a)) ≡ true
fail_silent o e (A.Fault d) h = refl
fail_silent o e _ h = absurd (let z : false ≡ true = h in cc)

goes_silent : (p : ProgramTree) (c d : Configuration) (l : Label) → is_silent l ≡ true → transition p c l ≡ Some d → (o : ℕ) × (is_some (silent_at p c o) ≡ true)
goes_silent p c d l n t = by l n t
  where
    at : (o : ℕ) (x : Object) → running c o ≡ Some x → is_some (unless_write (free_label o (action p o x))) ≡ true → (o : ℕ) × (is_some (silent_at p c o) ≡ true)
    at o x r h = (o, rw r h)

    by : (l : Label) → is_silent l ≡ true → transition p c l ≡ Some d → (o : ℕ) × (is_some (silent_at p c o) ≡ true)
    by (L.Local o) n t =
        let x = given_by (running c o) _ d t in
        let y = given_by (local_step x.0 (action p o x.0)) _ d x.2 in
        at o x.0 x.1 (local_silent o x.0 y.0 (action p o x.0) y.1)
    by (L.Return b o v) n t =
        let y = given_by (running c b) _ d t in
        let x = given_by (running c o) _ d y.2 in
        let w = required (returns (action p b y.0) o v && waits_on (action p o x.0) b) _ d x.2 in
        at b y.0 y.1 (return_silent b o v (action p b y.0) (first (returns (action p b y.0) o v) (waits_on (action p o x.0) b) w.0))
    by (L.Send o b m args) n t =
        let x = given_by (running c o) _ d t in
        let w = required (posts (action p o x.0) b m.0 args && is_some (object_of c b)) _ d x.2 in
        at o x.0 x.1 (post_silent o b m.0 args (action p o x.0) (first (posts (action p o x.0) b m.0 args) (is_some (object_of c b)) w.0))
    by (L.Fault o e) n t =
        let x = given_by (running c o) _ d t in
        let w = required (fails (action p o x.0) e) _ d x.2 in
        at o x.0 x.1 (fail_silent o e (action p o x.0) w.0)
    by (L.Write o item) n t = absurd (let z : false ≡ true = n in cc)
    by (L.New o m k) n t = absurd (let z : false ≡ true = n in cc)
    by (L.Answer b o m args) n t = absurd (let z : false ≡ true = n in cc)
    by (L.Take b s m args) n t = absurd (let z : false ≡ true = n in cc)
    by (L.Pick o i) n t = absurd (let z : false ≡ true = n in cc)

pub none_silent : (p : ProgramTree) (c : Configuration) → ((o b : ℕ) → ¬ (GoesSilent p c o b)) → (l : Label) → is_silent l ≡ true → transition p c l ≡ None
none_silent p c none l n = by (transition p c l) refl
  where
    by : (t : Option Configuration) → transition p c l ≡ t → transition p c l ≡ None
    by None e = e
    by (Some d) e = let f = goes_silent p c d l n e in absurd (none f.0 f.0 (refl, f.1))
