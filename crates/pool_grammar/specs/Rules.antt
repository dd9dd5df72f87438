-- The phrases of the grammar, the trees that they give, and the form of a rule.
use Rattle.std.specs.Prelude.{ℕ, ℤ, List, Option}
use Rattle.run_types.specs.declared.types.NameId.{NameId}
use Rattle.run_types.specs.declared.types.Op.{Op}
use Rattle.text_scan.specs.declared.keywords.Keyword.{Keyword}
use Rattle.pool_syntax.specs.declared.token.Sign.{Sign}
use Rattle.run_types.specs.declared.types.Kind.{Kind}
use Rattle.pool_syntax.specs.declared.tree.Named.{Named}
use Rattle.pool_syntax.specs.declared.tree.Var.{Var}
use Rattle.pool_syntax.specs.Terms.{Expression, Expressions, Statement, Statements, Alternatives, MethodTree, ClassTree}

-- the levels of left-associative operators
pub data Group : Type 0 where
  disjunction : Group
  conjunction : Group
  addition : Group
  multiplication : Group

-- the levels of expressions
pub data Level : Type 0 where
  group : Group → Level
  comparison : Level
  factor : Level
  postfix : Level
  primary : Level

-- the phrases; a repeated part is a phrase of its own, with the tree of the part before it as argument
pub data Phrase : Type 0 where
  program : Phrase
  more_classes : List ClassTree → Phrase
  class : Phrase
  more_vars : List Var → Phrase
  names : Phrase
  more_names : List Named → Phrase
  kind : Phrase
  more_methods : List MethodTree → Phrase
  method : Phrase
  post : Phrase
  params : Phrase
  more_params : List Var → Phrase
  param : Phrase
  more_locals : List Var → Phrase
  stmts : Phrase
  more_stmts : Statements → Phrase
  stmt : Phrase
  invoke : Phrase
  alt : Phrase
  more_alts : Alternatives → Phrase
  list : Phrase
  expression : Level → Phrase
  more_operands : Group → Expression → Phrase
  more_sends : Expression → Phrase
  args : Phrase
  more_args : Expressions → Phrase

-- one alternative of a select: its guard, its answer list and its statements
abbrev pub OneAlternative : Type 0
OneAlternative = Expression × Option (List Named) × Statements

-- the type of the tree of a phrase
abbrev pub Tree : Phrase → Type 0
Tree program = List ClassTree
Tree (more_classes before) = List ClassTree
Tree class = ClassTree
Tree (more_vars before) = List Var
Tree names = List Named
Tree (more_names before) = List Named
Tree kind = Kind × ℕ
Tree (more_methods before) = List MethodTree
Tree method = MethodTree
Tree post = Statements
Tree params = List Var
Tree (more_params before) = List Var
Tree param = Var
Tree (more_locals before) = List Var
Tree stmts = Statements
Tree (more_stmts before) = Statements
Tree stmt = Statement
Tree invoke = Expression
Tree alt = OneAlternative
Tree (more_alts before) = Alternatives
Tree list = List Named
Tree (expression level) = Expression
Tree (more_operands g left) = Expression
Tree (more_sends to) = Expression
Tree args = Expressions
Tree (more_args before) = Expressions

-- a part of a rule: a token or a phrase
pub data Part : Type 0 where
  word : Keyword → Part
  sign : Sign → Part
  name : Part
  integer : Part
  string : Part
  end : Part
  operator : Level → Part
  phrase : Phrase → Part

-- the type of the semantic value of a part, from which the tree is made; the value of a token has its number, which
-- is its position
abbrev pub SemanticValue : Part → Type 0
SemanticValue (word k) = ℕ
SemanticValue (sign s) = ℕ
SemanticValue name = Named
SemanticValue integer = ℤ × ℕ
SemanticValue string = NameId
SemanticValue end = ℕ
SemanticValue (operator level) = Op × ℕ
SemanticValue (phrase p) = Tree p

-- the right side of a rule: it ends with its tree, continues after a part, or is one of two
pub data Rule (A : Type 0) : Type 0 where
  tree : A → Rule A
  then : (part : Part) → (SemanticValue part → Rule A) → Rule A
  either : Rule A → Rule A → Rule A

infixr 10 ◌*>=◌ ◌*>◌
infixr 5 ◌or◌
-- a part, followed by the rest of the rule, which gets the semantic value of the part
abbrev pub ◌*>=◌ : {A : Type 0} (part : Part) → (SemanticValue part → Rule A) → Rule A
part *>= rest = then part rest

-- a part whose semantic value the tree does not need
abbrev pub ◌*>◌ : {A : Type 0} (part : Part) → Rule A → Rule A
part *> rest = then part (λ x. rest)

-- one of two right sides
abbrev pub ◌or◌ : {A : Type 0} → Rule A → Rule A → Rule A
r or s = either r s
