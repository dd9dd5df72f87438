-- The representation relation: the frames of an object of code represent the term of an object of the program.
use Rattle.run_types.specs.declared.frames.CodeObject.{CodeObject}
use Rattle.std.specs.Prelude.{◌≡◌, ℕ, zero, suc, List, [], ◌∷◌, ◌++◌, length, map, Option, Some, None, Bool, false, IsTrue, slice_get, ◌⊎◌}
use Rattle.run_types.specs.declared.types.Value.{Value}
use Rattle.run_types.specs.declared.types.Value.TheVariants as V
use Rattle.pool_syntax.specs.Terms.{Store, Expression, Literal, Me, Variable, Create, Prefix, Infix, Call, Send, Frame, Wait, Expressions, NoArgs, Arg, Statement, Assign, Write, WriteText, Do, Async}
use Rattle.pool_syntax.specs.Terms.{If, While, Answer, Select, Serve, Statements, Done, Then, Alternatives, NoAlts, Alt, ClassTree, ProgramTree}
use Rattle.pool_syntax.specs.Typing.{size}
use Rattle.pool_syntax.specs.Classes.{class_of}
use Rattle.pool_relation.specs.Reducible.{is_done}
use Rattle.pool_relation.specs.Action.{Object}
use Rattle.code_semantics.specs.declared.unit.Instr.{Instr}
use Rattle.code_semantics.specs.declared.unit.Instr.TheVariants as I
use Rattle.code_semantics.specs.declared.unit.AltCode.{AltCode}
use Rattle.run_types.specs.declared.types.Serves.{Serves}
use Rattle.run_types.specs.declared.types.Serves.TheVariants as S
use Rattle.code_semantics.specs.declared.unit.ClassCode.{ClassCode}
use Rattle.run_types.specs.declared.frames.Frame.{Frame as CodeFrame}
use Rattle.code_semantics.specs.Frames.{code_of}
use Rattle.code_semantics.specs.Step.{Numbered, method_named}
use Rattle.pool_compile.specs.Code.{Numbering, name, load, store, answer_names, names_of, class_code, code}

-- a point of a run: a place, the operands there, and the frames above, inner first
pub record Point : Type 0 where
  pub at : ℕ
  pub operands : List Value
  pub above : List CodeFrame

-- a frame's method, and the caller that it serves
pub record Head : Type 0 where
  pub method : Option ℕ
  pub serves : Serves

abbrev pub keys : Store → List ℕ
keys t = map (λ b. b.0) t

abbrev pub values : Store → List Value
values t = map (λ b. b.1) t

-- a frame with these temps
abbrev pub frame_of : Head → Store → Point → CodeFrame
frame_of h t s = record { method = h.method; at = s.at; temps = values t; operands = s.operands; serves = h.serves }

-- a frame and the frames above it
abbrev pub level : Head → Store → Point → List CodeFrame
level h t s = s.above ++ frame_of h t s ∷ []

-- nothing above these operands yet
abbrev pub fresh : ℕ → List Value → Point
fresh at base = record { at = at; operands = base; above = [] }

abbrev pub Fresh : List Value → Point → Type 0
Fresh base s = (s.operands ≡ base) × (s.above ≡ [])

-- n jumps lead from a place to another
abbrev pub Jumps : List Instr → ℕ → ℕ → ℕ → Type 0
Jumps c zero a b = a ≡ b
Jumps c (suc n) a b = (m : ℕ) × (slice_get c a ≡ Some (I.Jump m)) × Jumps c n m b

abbrev pub Leads : List Instr → ℕ → ℕ → Type 0
Leads c a b = (n : ℕ) × Jumps c n a b

-- the instruction at a place, and the place after it
abbrev pub Ends : List Instr → ℕ → Instr → ℕ → Type 0
Ends c a i b = (slice_get c a ≡ Some i) × (b ≡ suc a)

-- the value that an instruction pushes without a step
abbrev pub pushed : Instr → Option Value
pushed (I.PushInt z) = Some (V.Int z)
pushed (I.PushBool b) = Some (V.Bool b)
pushed I.PushNil = Some V.Nil
pushed _ = None

-- the instruction there pushes the value
abbrev pub Pushes : List Instr → ℕ → Value → Type 0
Pushes c a v = (i : Instr) × (slice_get c a ≡ Some i) × (pushed i ≡ Some v)

abbrev pub as_value : Expression → Option Value
as_value (Literal v p) = Some v
as_value _ = None

-- the points that represent a part, given the operands before it and the place after it
abbrev pub PointsOf : Type 1
PointsOf = List Value → Point → ℕ → Type 0

-- an expression and then a part: the first is under way, or it is a value and the second is under way
abbrev pub InTurn : PointsOf → Option Value → PointsOf → PointsOf
InTurn first value second base s end =
    ((m : ℕ) × first base s m × ((b : List Value) → second b (fresh m b) end))
    ⊎ ((v : Value) × (value ≡ Some v) × second (v ∷ base) s end)

-- a part, or a place from which jumps lead to it
abbrev pub Led : List Instr → PointsOf → PointsOf
Led c part base s end =
    part base s end ⊎ (Fresh base s × ((n a : ℕ) × Jumps c n s.at a × part base (fresh a base) end))

-- an expression under way and then an instruction
abbrev pub Before : List Instr → Instr → PointsOf → PointsOf
Before c i part base s end = (m : ℕ) × part base s m × Ends c m i end

-- a frame of the method m
abbrev pub IsOf : Option ClassCode → Head → ℕ → Type 0
IsOf k h m = (i : Numbered) × (method_named k (name m) ≡ Some i) × (h.method ≡ Some i.place)

-- after the value of a method: `Ret`, or `Post` and the post statements, which end at `Ret`
abbrev pub Behind : List Instr → Bool → PointsOf → ℕ → Type 0
Behind c over post q =
    (IsTrue over × (slice_get c q ≡ Some I.Ret))
    ⊎ ((over ≡ false) × (slice_get c q ≡ Some I.Post) × ((p : ℕ) × (slice_get c p ≡ Some I.Ret) × ((b : List Value) → post b (fresh (suc q) b) p)))

-- a method under way, for the caller or for no one: in its statements, in its value, or in its post statements; these
-- begin only after the return to a caller
abbrev pub InMethod : List Instr → Option ℕ → (Point → ℕ → Type 0) → Bool → (Point → ℕ → Type 0) → Option Value → PointsOf → Bool → Point → Type 0
InMethod c caller statements done value known post over s =
    ((q : ℕ) × Behind c over post q × (((r : ℕ) × statements s r × value (fresh r []) q) ⊎ (IsTrue done × value s q)))
    ⊎ ((v : Value) × IsTrue done × (known ≡ Some v) × (caller ≡ None) × ((p : ℕ) × (slice_get c p ≡ Some I.Ret) × post (v ∷ []) s p))

-- the frame serves this caller, or no one
abbrev pub IsServing : Option ℕ → Serves → Type 0
IsServing None w = w ≡ S.Sender
IsServing (Some k) w = (n : ℕ) × (w ≡ S.Caller k n)

-- a frame that is held at a place with these operands
abbrev pub Held : List Value → Point → ℕ → Type 0
Held base s end = (s.operands ≡ base) × (s.at ≡ end)

-- the values of operands, the first under all others
abbrev pub push_all : List Value → List Value → List Value
push_all [] base = base
push_all (v ∷ vs) base = push_all vs (v ∷ base)

-- in the class k and the code c, the point s represents a part; before the part the operands are `base`,
-- and after it the place is `end` and the value of an expression is on the operands
abbrev mutual
  pub Under : Option ClassCode → List Instr → Numbering → Expression → PointsOf
  Under k c g (Literal v p) base s end =
      (s.above ≡ []) × (((s.operands ≡ base) × Pushes c s.at v × (end ≡ suc s.at)) ⊎ ((s.operands ≡ v ∷ base) × (s.at ≡ end)))
  Under k c g (Me p) base s end = Fresh base s × Ends c s.at I.SelfRef end
  Under k c g (Variable x p) base s end = Fresh base s × Ends c s.at (load g x) end
  Under k c g (Create n p) base s end = Fresh base s × Ends c s.at (I.New (name n)) end
  Under k c g (Prefix op e p) base s end = Before c (I.Oper op) (Under k c g e) base s end
  Under k c g (Infix op l r p) base s end =
      Before c (I.Oper op) (InTurn (Under k c g l) (as_value l) (Under k c g r)) base s end
  Under k c g (Call m es p) base s end = Before c (I.Call (name m)) (UnderAll k c g es) base s end
  Under k c g (Send e m es p) base s end =
      Before c (I.Send (name m) (size es)) (InTurn (Under k c g e) (as_value e) (UnderAll k c g es)) base s end
  Under k c g (Frame m t ss e qs) base s end =
      Held base s end
      × ((h : Head) × (a : Point) × (names : List ℕ) × (s.above ≡ level h t a) × IsOf k h m × (h.serves ≡ S.Own) × (keys t ≡ names)
      × InMethod (code_of k h.method) None (UnderStatements k (code_of k h.method) (record g { temps = names }) ss []) (is_done ss)
      (Under k (code_of k h.method) (record g { temps = names }) e []) (as_value e)
      (UnderStatements k (code_of k h.method) (record g { temps = names }) qs) (is_done qs) a)
  Under k c g (Wait b m) base s end =
      (args : List Value) × (s.above ≡ []) × (s.operands ≡ push_all args (V.Ref b ∷ base)) × Ends c s.at (I.Send (name m) (length args)) end

  pub UnderAll : Option ClassCode → List Instr → Numbering → Expressions → PointsOf
  UnderAll k c g NoArgs base s end = Fresh base s × (s.at ≡ end)
  UnderAll k c g (Arg e es) base s end = InTurn (Under k c g e) (as_value e) (UnderAll k c g es) base s end

  pub UnderStatement : Option ClassCode → List Instr → Numbering → Statement → PointsOf
  UnderStatement k c g (Assign x p e) base s end = Before c (store g x) (Under k c g e) base s end
  UnderStatement k c g (Write e) base s end = Before c I.Write (Under k c g e) base s end
  UnderStatement k c g (WriteText t) base s end = Fresh base s × Ends c s.at (I.WriteText (name t)) end
  UnderStatement k c g (Do e) base s end = Before c I.Pop (Under k c g e) base s end
  UnderStatement k c g (Async e m p es) base s end =
      Before c (I.Async (name m) (size es)) (InTurn (Under k c g e) (as_value e) (UnderAll k c g es)) base s end
  UnderStatement k c g (If e these those) base s end =
      (n no : ℕ) × Under k c g e base s n × (slice_get c n ≡ Some (I.Branch no))
      × UnderStatements k c g these base (fresh (suc n) base) end × UnderStatements k c g those base (fresh no base) end
  UnderStatement k c g (While e ss) base s end =
      (n : ℕ) × Fresh base s × (slice_get c s.at ≡ Some I.Loop) × Under k c g e base (fresh (suc s.at) base) n
      × (slice_get c n ≡ Some (I.Branch end)) × UnderStatements k c g ss base (fresh (suc n) base) s.at
  UnderStatement k c g (Answer names) base s end = Fresh base s × Ends c s.at (I.Answer (map (λ n. n.name) names)) end
  UnderStatement k c g (Select alts) base s end =
      (n : ℕ) × (targets : List AltCode) × UnderGuards k c g alts base s n × (slice_get c n ≡ Some (I.Select targets)) × Works k c g alts base targets end
  UnderStatement k c g (Serve m w t ss e qs) base s end =
      Held base s end
      × ((h : Head) × (a : Point) × (names : List ℕ) × (s.above ≡ level h t a) × IsOf k h m × IsServing w h.serves × (keys t ≡ names)
      × InMethod (code_of k h.method) w (UnderStatements k (code_of k h.method) (record g { temps = names }) ss []) (is_done ss)
      (Under k (code_of k h.method) (record g { temps = names }) e []) (as_value e)
      (UnderStatements k (code_of k h.method) (record g { temps = names }) qs) (is_done qs) a)

  -- jumps may come before each statement, and at the end
  pub UnderStatements : Option ClassCode → List Instr → Numbering → Statements → PointsOf
  UnderStatements k c g Done base s end = Fresh base s × Leads c s.at end
  UnderStatements k c g (Then st ss) base s end =
      (m : ℕ) × Led c (UnderStatement k c g st) base s m × UnderStatements k c g ss base (fresh m base) end

  pub UnderGuards : Option ClassCode → List Instr → Numbering → Alternatives → PointsOf
  UnderGuards k c g NoAlts base s end = Fresh base s × (s.at ≡ end)
  UnderGuards k c g (Alt e names ss alts) base s end = InTurn (Under k c g e) (as_value e) (UnderGuards k c g alts) base s end

  -- the lists of the alternatives
  pub Works : Option ClassCode → List Instr → Numbering → Alternatives → List Value → List AltCode → ℕ → Type 0
  Works k c g NoAlts base [] end = Unit {0}
  Works k c g NoAlts base (a ∷ targets) end = ⊥
  Works k c g (Alt e names ss alts) base [] end = ⊥
  Works k c g (Alt e names ss alts) base (a ∷ targets) end =
      (a.answer ≡ answer_names names) × UnderStatements k c g ss base (fresh a.at base) end × Works k c g alts base targets end

-- the object of code y represents the object x, which has a term
pub record StandsFor (p : ProgramTree) (x : Object) (y : CodeObject) : Type 0 where
  pub tree : ClassTree
  pub is_class : class_of p x.class ≡ Some tree
  pub class : slice_get (code p) y.class ≡ Some (class_code tree)
  pub vars : y.vars ≡ values x.vars
  pub names : keys x.vars ≡ names_of tree.vars
  pub at : Point
  pub frames : y.frames ≡ level (record { method = None; serves = S.Sender }) [] at
  pub end : ℕ
  pub halt : slice_get (code_of (Some (class_code tree)) None) end ≡ Some I.Halt
  pub term : UnderStatements (Some (class_code tree)) (code_of (Some (class_code tree)) None) (record { temps = []; vars = names_of tree.vars }) x.term [] at end
