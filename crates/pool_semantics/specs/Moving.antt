-- Objects that can make a transition: alone, by the answer of a call, or by the take of a message.
use Rattle.std.specs.Prelude.{◌≡◌, ◌⊎◌, ℕ, ◌≤◌, List, Option, Some, None, is_some, min, IfSome, IsSomeAnd, Bool, true, false, not}
use Rattle.std.specs.List.{list_any}
use Rattle.std.specs.Ordering.{nat_cmp}
use Rattle.std.specs.BTreeSet.{BTreeSet, contains}
use Rattle.run_types.specs.declared.types.Value.{Value}
use Rattle.pool_syntax.specs.Terms.{ProgramTree}
use Rattle.run_types.specs.Message.{Message}
use Rattle.run_types.specs.Partial.{◌>>=◌, require}
use Rattle.pool_relation.specs.Action as A
use Rattle.pool_relation.specs.Action.{Object, Action, action}
use Rattle.pool_relation.specs.Configuration.{Configuration, messages_of}
use Rattle.pool_relation.specs.Ready.{is_open_plain}
use Rattle.pool_relation.specs.Transition.{Offer, offer, running, has_message}

-- the object can make a transition without a message and without a caller
abbrev pub goes_alone : Action → Bool
goes_alone (A.Local term vars) = true
goes_alone (A.Fault e) = true
goes_alone (A.New c) = true
goes_alone (A.Async b m args) = true
goes_alone (A.Write item) = true
goes_alone (A.Return k v) = true
goes_alone (A.Select choices) = list_any is_open_plain choices
goes_alone _ = false

-- one of the messages is for a method that the object offers
abbrev pub is_offered : Action → List Message → Bool
is_offered a ms = list_any (λ m. is_some (offer a m.method)) ms

-- b can take one of these messages
pub record Takes (p : ProgramTree) (c : Configuration) (b : ℕ) (ms : List Message) : Type 0 where
  pub object : Object
  pub runs : running c b ≡ Some object
  pub offered : is_offered (action p b object) ms ≡ true

-- o is at a call of b, which offers the method, and no message from o to b is for an offered method
pub record Answers (p : ProgramTree) (c : Configuration) (o b : ℕ) : Type 0 where
  pub caller : Object
  pub waits : running c o ≡ Some caller
  pub method : ℕ
  pub args : List Value
  pub calls : action p o caller ≡ A.Send b method args
  pub object : Object
  pub runs : running c b ≡ Some object
  pub offers : Offer
  pub offered : offer (action p b object) method ≡ Some offers
  pub free : has_message offers.names (messages_of c o b) ≡ false

-- whether b answers o, if o is at a call of this method of b
abbrev pub would_answer : ProgramTree → Configuration → ℕ → ℕ → ℕ → Bool
would_answer p c o b m = is_some (running c b >>= λ y. offer (action p b y) m >>= λ v. require (not (has_message v.names (messages_of c o b))))

-- b can make a transition by the next action of o: alone, if b is o, or as the answer of o's call
pub data MovesBy (p : ProgramTree) (c : Configuration) (o b : ℕ) : Type 0 where
  alone : (x : Object) → running c o ≡ Some x → goes_alone (action p o x) ≡ true → o ≡ b → MovesBy p c o b
  answers : Answers p c o b → MovesBy p c o b

-- r is the only number with the property P, or None if there is none
pub record IsTheOne (P : ℕ → Type 0) (r : Option ℕ) : Type 0 where
  pub holds : IfSome r P
  pub only : (b : ℕ) → P b → r ≡ Some b

-- r is the least number with the property P, or None if there is none
pub record IsLeast (P : ℕ → Type 0) (r : Option ℕ) : Type 0 where
  pub holds : IfSome r P
  pub least : (b : ℕ) → P b → IsSomeAnd r (λ a. a ≤ b)

-- the lesser of two numbers, or the only one
abbrev pub lesser : Option ℕ → Option ℕ → Option ℕ
lesser None r = r
lesser (Some a) None = Some a
lesser (Some a) (Some b) = Some (min a b)

-- t has the numbers of s, those with the property P, and no others
pub record Adds (P : ℕ → Type 0) (s t : BTreeSet ℕ) : Type 0 where
  pub kept : (b : ℕ) → contains nat_cmp s b ≡ true → contains nat_cmp t b ≡ true
  pub added : (b : ℕ) → P b → contains nat_cmp t b ≡ true
  pub only : (b : ℕ) → contains nat_cmp t b ≡ true → (contains nat_cmp s b ≡ true) ⊎ P b
