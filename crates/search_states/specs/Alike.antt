-- When two parts of a work represent the same part of a term, in every context and with every content.
use Rattle.std.specs.Prelude.{◌≡◌, ℕ, List, Option}
use Rattle.pool_syntax.specs.Terms.{Store, Expression, Statements, Alternatives}
use Rattle.stepper_terms.specs.declared.contexts.ExpressionContext.{ExpressionContext}
use Rattle.stepper_terms.specs.declared.contexts.Guarded.{Guarded}
use Rattle.stepper_terms.specs.declared.contexts.StatementContext.{StatementContext}
use Rattle.stepper_terms.specs.declared.contexts.SuspendedCall.{SuspendedCall}
use Rattle.stepper_terms.specs.declared.contexts.Stage.{Stage}
use Rattle.stepper_terms.specs.declared.contexts.Activation.{Activation}
use Rattle.stepper_terms.specs.Parts.{placed, nested, guarded, slotted, caller_of, around, inside, wrapped, layers, Content}

-- one context of an expression, and nested contexts
abbrev pub AlikePlace : ExpressionContext → ExpressionContext → Type 0
AlikePlace k j = (e : Expression) → placed k e ≡ placed j e

abbrev pub AlikePlaces : List ExpressionContext → List ExpressionContext → Type 0
AlikePlaces ks js = (e : Expression) → nested ks e ≡ nested js e

-- alternatives with evaluated guards
abbrev pub AlikeGuards : List Guarded → List Guarded → Type 0
AlikeGuards gs hs = (alts : Alternatives) → guarded gs alts ≡ guarded hs alts

-- a statement with a slot
abbrev pub AlikeSlot : StatementContext → StatementContext → Type 0
AlikeSlot s t = (ss : Statements) (e : Expression) → slotted s ss e ≡ slotted t ss e

-- the suspended caller of a method, if the method serves the same caller
abbrev pub AlikeOuter : SuspendedCall → SuspendedCall → Type 0
AlikeOuter o q = (k : Option ℕ) (m : ℕ) (t : Store) (b : Statements × Expression × Statements) → around o k m t b ≡ around q k m t b

-- the stage of a method, if it serves the same caller
abbrev pub AlikeStage : Stage → Stage → Type 0
AlikeStage s t = (o q : SuspendedCall) → caller_of s o ≡ caller_of t q → (c : Content) → inside o s c ≡ inside q t c

-- the activation of a method
abbrev pub AlikeCall : Activation → Activation → Type 0
AlikeCall a b = (c : Content) → wrapped a c ≡ wrapped b c

-- nested activations
abbrev pub AlikeCalls : List Activation → List Activation → Type 0
AlikeCalls xs ys = (c : Content) → layers xs c ≡ layers ys c
