-- Lists of a search for ends with stubborn sets, and which labels of one object are such a set.
use Rattle.std.specs.Prelude.{◌==◌, ◌||◌, ◌<◌, ◌≤◌, if◌then◌else◌, map, is_some, None, ◌≡◌, ℕ, suc, List, Some, Bool, true, false}
use Rattle.run_types.specs.declared.types.NameId.{NameId}
use Rattle.run_types.specs.declared.types.Label.{Label}
use Rattle.run_types.specs.declared.types.Label.TheVariants as L
use Rattle.pool_syntax.specs.Terms.{ProgramTree}
use Rattle.pool_relation.specs.Action as A
use Rattle.pool_relation.specs.Action.{Object, Action, action}
use Rattle.pool_relation.specs.Configuration.{Configuration, object_of, messages_of}
use Rattle.search_laws.specs.Renamed.{renamed_object, renamed_message}
pub use Rattle.search_laws.specs.StubbornSets.{are_others, makes_one, IsStubborn}
use Rattle.pool_relation.specs.Transition.{transition, start}
use Rattle.reachability.specs.Search.{IsIn, IsInOrder, after, names_next}
use Rattle.search_laws.specs.ClosedLists.{Settles}

-- if the label is possible, it leads into the list, after some transitions that need no choice
abbrev pub LeadsIn : ProgramTree → List (ℕ × Configuration) → ℕ → Configuration → Label → Type 0
LeadsIn p es n c l = (d : Configuration) → names_next n l ≡ true → transition p c l ≡ Some d → (e : Configuration) × Settles p d e × IsIn (after n l) e es

-- all labels lead into the list, or all labels of a stubborn set do, or a creation that one object is about to make does
pub data IsEnough (p : ProgramTree) (es : List (ℕ × Configuration)) (n : ℕ) (c : Configuration) : Type 0 where
  All : ((l : Label) → LeadsIn p es n c l) → IsEnough p es n c
  Some_of_them : (chosen : Label → Bool) → IsStubborn p n c chosen → ((l : Label) → chosen l ≡ true → LeadsIn p es n c l) → IsEnough p es n c
  Created : (o : ℕ) (k : NameId) (d e : Configuration) → transition p c (L.New o n k) ≡ Some d → Settles p d e → IsIn (suc n) e es → IsEnough p es n c

-- The start leads into the list, after some transitions that need no choice. In each configuration of the list, all
-- labels lead into the list, or all labels of a stubborn set do, or a creation does.
pub record IsWholeForEnds (p : ProgramTree) (es : List (ℕ × Configuration)) : Type 0 where
  pub in_order : (n : ℕ) (c : Configuration) → IsIn n c es → IsInOrder c
  pub begins : (c : Configuration) → start p 0 ≡ Some c → (e : Configuration) × Settles p c e × IsIn 1 e es
  pub enough : (n : ℕ) (c : Configuration) → IsIn n c es → IsEnough p es n c

-- the action is an answer or a select
abbrev pub serves : Action → Bool
serves (A.Answer names) = true
serves (A.Select choices) = true
serves _ = false

-- the object has finished, or its action is a call of b
abbrev pub waits_for : ℕ → Action → Bool
waits_for b A.Finished = true
waits_for b (A.Send r m args) = r == b
waits_for b _ = false

-- the labels of b at an answer or a select
abbrev pub is_served : ℕ → Label → Bool
is_served b (L.Answer r o m args) = r == b
is_served b (L.Take r s m args) = r == b
is_served b (L.Pick r i) = r == b
is_served b _ = false

-- the names a and b are exchanged
abbrev pub exchanged : ℕ → ℕ → ℕ → ℕ
exchanged a b q = if q == a then b else (if q == b then a else q)

-- No object outside knows the name b or the name z. If the two names are exchanged, each object outside, its name and
-- each message to it stay the same.
pub record IsUnknownTo (b z : ℕ) (inside : ℕ → Bool) (c : Configuration) : Type 0 where
  pub objects : (q : ℕ) (x : Object) → inside q ≡ false → object_of c q ≡ Some x → renamed_object (exchanged b z) x ≡ x
  pub names : (q : ℕ) (x : Object) → inside q ≡ false → object_of c q ≡ Some x → exchanged b z q ≡ q
  pub messages : (s r : ℕ) → inside r ≡ false → map (renamed_message (exchanged b z)) (messages_of c s r) ≡ messages_of c s r

-- The object b is at an answer or a select, and a label of it is possible. Only objects that wait for it know its name:
-- each of them has met an error, has finished, or is at a call of b.
pub record IsAwaited (p : ProgramTree) (n b : ℕ) (c : Configuration) : Type 0 where
  pub in_order : IsInOrder c
  pub below : b < n
  pub object : Object
  pub there : object_of c b ≡ Some object
  pub sound : object.fault ≡ None
  pub serving : serves (action p b object) ≡ true
  pub waiting : ℕ → Bool
  pub present : (q : ℕ) → waiting q ≡ true → is_some (object_of c q) ≡ true
  pub waits : (q : ℕ) (x : Object) → waiting q ≡ true → object_of c q ≡ Some x → x.fault ≡ None → waits_for b (action p q x) ≡ true
  pub unknown : (z : ℕ) → n ≤ z → IsUnknownTo b z (λ q. q == b || waiting q) c
  pub one : Label
  pub to : Configuration
  pub is_its : is_served b one ≡ true
  pub possible : transition p c one ≡ Some to
