-- What a table of moves knows: what some transitions make of states, by their numbers.
use Rattle.std.specs.Prelude.{◌≡◌, ◌<◌, ℕ, List, [], ◌∷◌, length, Option, Some, None, Bool, true, false, slice_index_or}
use Rattle.run_types.specs.declared.types.Label.{Label}
use Rattle.run_types.specs.declared.types.Value.{Value}
use Rattle.run_types.specs.declared.types.Label.TheVariants as L
use Rattle.pool_syntax.specs.Terms.{ProgramTree}
use Rattle.pool_relation.specs.Action.{Object}
use Rattle.run_types.specs.Message.{Message}
use Rattle.object_moves.specs.Roles.{after, after_local}
use Rattle.object_moves.specs.Rows.{no_object, AreWithin}
use Rattle.object_moves.specs.SameObjects.{same_one}
use Rattle.object_moves.specs.declared.known.Solo.{Solo}
use Rattle.object_moves.specs.declared.known.Solo.TheVariants as S
use Rattle.object_moves.specs.declared.known.Duo.{Duo}
use Rattle.object_moves.specs.declared.known.Parcel.{Parcel}
use Rattle.object_moves.specs.declared.known.One.{One}
use Rattle.object_moves.specs.declared.known.One.TheVariants as O
use Rattle.object_moves.specs.declared.known.Two.{Two}
use Rattle.object_moves.specs.declared.known.Two.TheVariants as W
use Rattle.object_moves.specs.declared.known.Birth.{Birth}
use Rattle.object_moves.specs.declared.known.KnownEdge.{KnownEdge}
use Rattle.object_moves.specs.declared.known.KnownRest.{KnownRest}

-- the label of a transition that the object o makes alone
abbrev pub solo_label : ℕ → Solo → Label
solo_label o (S.Write item) = L.Write o item
solo_label o (S.Pick i) = L.Pick o i
solo_label o (S.Fault e) = L.Fault o e

-- the label of an answer, or of the return of this value
abbrev pub labelled : ℕ → ℕ → Duo → Option Value → Label
labelled b o a None = L.Answer b o a.method a.args
labelled b o a (Some v) = L.Return b o v

-- the label of a transition of the receiver b and the caller o
abbrev pub duo_label : ℕ → ℕ → Duo → Label
duo_label b o a = labelled b o a a.returned

-- the message
abbrev pub parcel_message : Parcel → Message
parcel_message a = record { method = a.method.0; args = a.args }

-- the label of a take of the message by the object o, or of its send
abbrev pub moved_by : ℕ → Parcel → Bool → Label
moved_by o a true = L.Take o a.other a.method a.args
moved_by o a false = L.Send o a.other a.method a.args

-- the label of a transition in which the object o sends or takes the message
abbrev pub parcel_label : ℕ → Parcel → Label
parcel_label o a = moved_by o a a.takes

-- the label of the transition that makes the object
abbrev pub birth_label : Birth → Label
birth_label b = L.New b.object b.name b.class

-- the object with this number
abbrev pub state_at : List Object → ℕ → Object
state_at xs n = slice_index_or xs n no_object

-- the object that this tells
abbrev pub one_of : List Object → One → Option Object
one_of xs O.Impossible = None
one_of xs (O.To n) = Some (state_at xs n)

-- its number
abbrev pub numbers_of_one : One → List ℕ
numbers_of_one O.Impossible = []
numbers_of_one (O.To n) = n ∷ []

-- the receiver and the caller that this tells
abbrev pub two_of : List Object → Two → Option (Object × Object)
two_of xs W.Impossible = None
two_of xs (W.To n m) = Some (state_at xs n, state_at xs m)

-- their numbers
abbrev pub numbers_of_two : Two → List ℕ
numbers_of_two W.Impossible = []
numbers_of_two (W.To n m) = n ∷ m ∷ []

module _ (p : ProgramTree) (xs : List Object) where
  -- what is known of the part of an object is so
  pub record IsKnownEdge (k : KnownEdge) : Type 0 where
    pub state : k.state < length xs
    pub within : AreWithin xs (numbers_of_one k.to)
    pub is : same_one (after p k.object k.part (state_at xs k.state)) (one_of xs k.to) ≡ true

  -- local transitions lead there
  pub record IsKnownRest (k : KnownRest) : Type 0 where
    pub state : k.state < length xs
    pub within : k.to < length xs
    pub leads : same_one (after_local p k.object k.steps (state_at xs k.state)) (Some (state_at xs k.to)) ≡ true
