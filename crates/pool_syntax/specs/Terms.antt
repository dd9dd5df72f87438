-- The syntax trees of programs, and of the terms that objects execute. A term is what remains of a body, with the
-- methods that are being executed in it.
use Rattle.std.specs.Prelude.{ℕ, List, Option}
use Rattle.run_types.specs.declared.types.Value.{Value}
use Rattle.run_types.specs.declared.types.Op.{Op}
use Rattle.run_types.specs.declared.types.Kind.{Kind}
use Rattle.pool_syntax.specs.declared.tree.Named.{Named}
use Rattle.pool_syntax.specs.declared.tree.Var.{Var}

-- variables with their values, in the order of their declarations
abbrev pub Store : Type 0
Store = List (ℕ × Value)

-- expressions, statements and alternatives, and lists of them
mutual
  pub data Expression : Type 0 where
    -- a literal of the text, or, at the position 0, the value of an expression that was evaluated
    Literal : (value : Value) (pos : ℕ) → Expression
    Me : (pos : ℕ) → Expression
    Variable : (name pos : ℕ) → Expression
    Create : (class pos : ℕ) → Expression
    Prefix : (op : Op) (arg : Expression) (pos : ℕ) → Expression
    Infix : (op : Op) (left right : Expression) (pos : ℕ) → Expression
    Call : (method : ℕ) (args : Expressions) (pos : ℕ) → Expression
    Send : (to : Expression) (method : ℕ) (args : Expressions) (pos : ℕ) → Expression
    -- a method that the object called itself: its parameters and locals, its remaining statements, its value and its
    -- post statements
    Frame : (method : ℕ) (temps : Store) (rest : Statements) (value : Expression) (post : Statements) → Expression
    -- a call of this method, which the receiver is executing
    Wait : (receiver method : ℕ) → Expression

  pub data Expressions : Type 0 where
    NoArgs : Expressions
    Arg : (first : Expression) (rest : Expressions) → Expressions

  pub data Statement : Type 0 where
    Assign : (target pos : ℕ) (value : Expression) → Statement
    Write : (value : Expression) → Statement
    WriteText : (text : ℕ) → Statement
    Do : (value : Expression) → Statement
    Async : (to : Expression) (method pos : ℕ) (args : Expressions) → Statement
    If : (cond : Expression) (yes no : Statements) → Statement
    While : (cond : Expression) (body : Statements) → Statement
    Answer : (names : List Named) → Statement
    Select : (alts : Alternatives) → Statement
    -- a method that the object executes for a caller, or for a message without caller
    Serve : (method : ℕ) (caller : Option ℕ) (temps : Store) (rest : Statements) (value : Expression) (post : Statements) → Statement

  pub data Statements : Type 0 where
    Done : Statements
    Then : (first : Statement) (rest : Statements) → Statements

  pub data Alternatives : Type 0 where
    NoAlts : Alternatives
    Alt : (guard : Expression) (answer : Option (List Named)) (work : Statements) (rest : Alternatives) → Alternatives

-- a method
pub record MethodTree : Type 0 where
  pub name : Named
  pub params : List Var
  pub locals : List Var
  pub outcome : Option Kind
  pub outcome_pos : ℕ
  pub body : Statements
  pub value : Expression
  -- the statements that are executed after the value was given to the caller
  pub post : Statements

-- a class
pub record ClassTree : Type 0 where
  pub name : Named
  pub vars : List Var
  pub methods : List MethodTree
  pub body : Statements

-- a program: its classes in the order of the text
abbrev pub ProgramTree : Type 0
ProgramTree = List ClassTree

-- one list of statements, followed by another
abbrev pub append : Statements → Statements → Statements
append Done rest = rest
append (Then s ss) rest = Then s (append ss rest)
