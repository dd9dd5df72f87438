-- The names of long answers, each once.
use Rattle.std.specs.Prelude.{◌≡◌, ◌<◌, ◌≤◌, ℕ, zero, suc, List, [], ◌∷◌, Option, Some, None, length, slice_get, false}
use Rattle.std.specs.declared.cmp.Ordering.{Ordering}
use Rattle.std.specs.declared.cmp.Ordering.TheVariants.{Less}
use Rattle.run_types.specs.Tables.{Each}
use Rattle.run_types.specs.declared.types.NameId.{NameId}
use Rattle.run_types.specs.declared.frames.CodeObject.{CodeObject}
use Rattle.code_semantics.specs.declared.unit.AltCode.{AltCode}
use Rattle.code_semantics.specs.declared.unit.Instr.{Instr}
use Rattle.code_semantics.specs.declared.unit.Instr.TheVariants as I
use Rattle.code_semantics.specs.declared.unit.Unit.{Unit as Code}
use Rattle.code_semantics.specs.Frames.{code_of}
use Rattle.node_heap.specs.Heaps.{top_in}
use Rattle.slot_queues.specs.Mail.{is_named}
use Rattle.node_state.specs.declared.long.AnswerPlace.{AnswerPlace}
use Rattle.node_state.specs.declared.long.LongAnswer.{LongAnswer}
use Rattle.node_state.specs.contracts.long.AnswerPlaceOrd.TheImpl as place_ord

abbrev pub answered : Option AltCode → Option (List NameId)
answered None = None
answered (Some a) = a.answer

-- the names of the alternative of this number, from 1
abbrev pub alternative_names : List AltCode → ℕ → Option (List NameId)
alternative_names alts zero = None
alternative_names alts (suc i) = answered (slice_get alts i)

-- an answer is the only alternative
abbrev pub only_names : List NameId → ℕ → Option (List NameId)
only_names names zero = None
only_names names (suc zero) = Some names
only_names names (suc (suc i)) = None

abbrev pub names_in : Option Instr → ℕ → Option (List NameId)
names_in (Some (I.Answer names)) alt = only_names names alt
names_in (Some (I.Select alts)) alt = alternative_names alts alt
names_in _ alt = None

abbrev pub instr_at : Code → AnswerPlace → Option Instr
instr_at u p = slice_get (code_of (slice_get u.classes p.class) p.method) p.at

-- the names of the answer at a place of a unit
abbrev pub names_at : Code → AnswerPlace → Option (List NameId)
names_at u p = names_in (instr_at u p) p.alt

-- the place of an alternative of the current instruction of an object
abbrev pub place_in : CodeObject → ℕ → AnswerPlace
place_in x alt = record { class = x.class; method = (top_in x.frames).method; at = (top_in x.frames).at; alt = alt }

-- each name is in both lists, or in none
abbrev pub HasSameNames : List NameId → List NameId → Type 0
HasSameNames xs ys = (m : NameId) → is_named xs m ≡ is_named ys m

-- no name is in the list twice
abbrev pub IsOnce : List NameId → Type 0
IsOnce [] = Unit {0}
IsOnce (x ∷ xs) = (is_named xs x ≡ false) × IsOnce xs

-- the same names, each once, and at most 64
pub record AreEachOnce (once names : List NameId) : Type 0 where
  pub same : HasSameNames once names
  pub each : IsOnce once
  pub few : length once ≤ 64

-- at most 64 of the names are different
abbrev pub HasFewNames : List NameId → Type 0
HasFewNames names = (once : List NameId) × HasSameNames once names × (length once ≤ 64)

-- at the place is an answer of more than 64 names, of which at most 64 are different
abbrev pub IsLongAt : Code → AnswerPlace → Type 0
IsLongAt u p = (names : List NameId) × (names_at u p ≡ Some names) × (64 < length names) × HasFewNames names

-- the places in their order: by class, by method after the body, by instruction, by alternative
abbrev pub place_order : AnswerPlace → AnswerPlace → Ordering
place_order = (place_ord.ghosts).cmp

-- at its place the unit has an answer of more than 64 names; it has each of them once, and they are at most 64
abbrev pub IsLongOf : Code → LongAnswer → Type 0
IsLongOf u a = (names : List NameId) × (names_at u a.place ≡ Some names) × (64 < length names) × AreEachOnce a.names names

abbrev pub IsListed : List LongAnswer → AnswerPlace → Type 0
IsListed answers p = (i : ℕ) × (a : LongAnswer) × (slice_get answers i ≡ Some a) × (a.place ≡ p)

-- each place is before those after it
abbrev pub IsInOrder : List LongAnswer → Type 0
IsInOrder [] = Unit {0}
IsInOrder (a ∷ answers) = Each (λ b. place_order a.place b.place ≡ Less) answers × IsInOrder answers

-- the long answers of the unit, in the order of their places
pub record AreLongOf (u : Code) (answers : List LongAnswer) : Type 0 where
  pub each : Each (IsLongOf u) answers
  pub all : (p : AnswerPlace) → IsLongAt u p → IsListed answers p
  pub in_order : IsInOrder answers

-- those at the places before this one
pub record AreLongBefore (u : Code) (p : AnswerPlace) (answers : List LongAnswer) : Type 0 where
  pub each : Each (IsLongOf u) answers
  pub before : Each (λ a. place_order a.place p ≡ Less) answers
  pub all : (q : AnswerPlace) → place_order q p ≡ Less → IsLongAt u q → IsListed answers q
  pub in_order : IsInOrder answers

-- both are the names of an alternative, or it has none
abbrev pub IsSameAnswer : Option (List NameId) → Option (List NameId) → Type 0
IsSameAnswer None None = Unit {0}
IsSameAnswer None (Some ys) = ⊥
IsSameAnswer (Some xs) None = ⊥
IsSameAnswer (Some xs) (Some ys) = HasSameNames xs ys
