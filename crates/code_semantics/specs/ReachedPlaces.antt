-- The operands that an instruction takes and leaves, the names that it requires, and the places that a code reaches with a number of operands.
use Rattle.std.specs.Prelude.{◌≡◌, ℕ, zero, suc, ◌+◌, ◌≤◌, ◌<◌, List, [], ◌∷◌, length, map, Option, Some, None, is_some, IsTrue, slice_get, ◌⊎◌}
use Rattle.run_types.specs.declared.types.NameId.{NameId}
use Rattle.code_semantics.specs.declared.unit.Instr.{Instr}
use Rattle.code_semantics.specs.declared.unit.Instr.TheVariants as I
use Rattle.code_semantics.specs.declared.unit.AltCode.{AltCode}
use Rattle.code_semantics.specs.declared.unit.ClassCode.{ClassCode}
use Rattle.code_semantics.specs.declared.unit.Unit.{Unit as Code}
use Rattle.code_semantics.specs.Kinds.{arity}
use Rattle.code_semantics.specs.Step.{Numbered, method_named, class_from}

abbrev pub params_of : Option Numbered → ℕ
params_of None = 0
params_of (Some m) = m.code.params

-- the number of operands that an instruction takes; an own call takes one for each parameter of its method
abbrev pub takes : Option ClassCode → Instr → ℕ
takes k (I.StoreI n) = 1
takes k (I.StoreT n) = 1
takes k (I.Oper op) = arity op
takes k I.Pop = 1
takes k (I.Branch a) = 1
takes k (I.Call m) = params_of (method_named k m)
takes k I.Ret = 1
takes k I.Post = 1
takes k (I.Send m n) = suc n
takes k (I.Async m n) = suc n
takes k I.Write = 1
takes k (I.Select alts) = length alts
takes k _ = 0

-- the number of operands that it leaves
abbrev pub leaves : Instr → ℕ
leaves (I.PushInt z) = 1
leaves (I.PushBool b) = 1
leaves I.PushNil = 1
leaves (I.LoadI n) = 1
leaves (I.LoadT n) = 1
leaves I.SelfRef = 1
leaves (I.Oper op) = 1
leaves (I.Call m) = 1
leaves (I.New c) = 1
leaves (I.Send m n) = 1
leaves I.Post = 1
leaves _ = 0

-- the places after an instruction
abbrev pub nexts : ℕ → Instr → List ℕ
nexts at (I.Jump a) = a ∷ []
nexts at (I.Branch a) = suc at ∷ a ∷ []
nexts at (I.Select alts) = map (λ a. a.at) alts
nexts at I.Ret = []
nexts at I.Halt = []
nexts at _ = suc at ∷ []

abbrev pub IsAmong : ℕ → List ℕ → Type 0
IsAmong n [] = ⊥
IsAmong n (m ∷ ms) = (m ≡ n) ⊎ IsAmong n ms

-- n instructions lead from place 0 to the place `at`, with `held` operands
abbrev pub ReachedBy : Option ClassCode → List Instr → ℕ → ℕ → ℕ → Type 0
ReachedBy k c zero at held = (at ≡ 0) × (held ≡ 0)
ReachedBy k c (suc n) at held =
    (b h : ℕ) × (i : Instr) × ReachedBy k c n b h × (slice_get c b ≡ Some i) × IsAmong at (nexts b i) × (held + takes k i ≡ h + leaves i)

abbrev pub Reached : Option ClassCode → List Instr → ℕ → ℕ → Type 0
Reached k c at held = (n : ℕ) × ReachedBy k c n at held

-- the place after an instruction that is silent in some frame
abbrev pub silent_to : ℕ → Option Instr → Option ℕ
silent_to at (Some (I.PushInt z)) = Some (suc at)
silent_to at (Some (I.PushBool b)) = Some (suc at)
silent_to at (Some I.PushNil) = Some (suc at)
silent_to at (Some (I.Jump a)) = Some a
silent_to at (Some I.Post) = Some (suc at)
silent_to at _ = None

-- a chain of n silent instructions
abbrev pub Chain : List Instr → ℕ → ℕ → ℕ → Type 0
Chain c zero a b = a ≡ b
Chain c (suc n) a b = (m : ℕ) × (silent_to a (slice_get c a) ≡ Some m) × Chain c n m b

-- the class has a method of each name
abbrev pub AreOwn : Option ClassCode → List NameId → Type 0
AreOwn k [] = Unit {0}
AreOwn k (m ∷ ms) = IsTrue (is_some (method_named k m)) × AreOwn k ms

abbrev pub AnswerOwn : Option ClassCode → Option (List NameId) → Type 0
AnswerOwn k None = Unit {0}
AnswerOwn k (Some ms) = AreOwn k ms

abbrev pub AltsExist : Option ClassCode → List Instr → List AltCode → Type 0
AltsExist k c [] = Unit {0}
AltsExist k c (a ∷ alts) = AnswerOwn k a.answer × (a.at < length c) × AltsExist k c alts

-- each name and place of an instruction exists
abbrev pub Exists : Code → Option ClassCode → ℕ → List Instr → Instr → Type 0
Exists u k temps c (I.Jump a) = a < length c
Exists u k temps c (I.Branch a) = a < length c
Exists u None temps c (I.LoadI n) = ⊥
Exists u (Some k) temps c (I.LoadI n) = n < k.vars
Exists u None temps c (I.StoreI n) = ⊥
Exists u (Some k) temps c (I.StoreI n) = n < k.vars
Exists u k temps c (I.LoadT n) = n < temps
Exists u k temps c (I.StoreT n) = n < temps
Exists u k temps c (I.Call m) = AreOwn k (m ∷ [])
Exists u k temps c (I.New n) = IsTrue (is_some (class_from 0 u.classes n))
Exists u k temps c (I.Send m n) = (m.0 < length u.names) × (n ≤ 8)
Exists u k temps c (I.Async m n) = (m.0 < length u.names) × (n ≤ 8)
Exists u k temps c (I.WriteText s) = s.0 < length u.names
Exists u k temps c (I.Answer ms) = AreOwn k ms
Exists u k temps c (I.Select alts) = AltsExist k c alts
Exists u k temps c _ = Unit {0}
