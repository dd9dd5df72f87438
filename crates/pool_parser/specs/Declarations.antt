-- The parsing of names, a colon and a type in the middle of any rule, and of a whole program.
use Rattle.std.specs.Prelude.{ℕ, ◌+◌, List, length, Result, Ok, Err}
use Rattle.pool_syntax.specs.declared.token.Token.{Token}
use Rattle.pool_syntax.specs.declared.token.Tok.{Tok}
use Rattle.pool_syntax.specs.declared.tree.Var.{Var}
use Rattle.pool_syntax.specs.declared.tree.Program.{Program}
use Rattle.pool_grammar.specs.Rules.{Phrase, program, Tree, Rule}
use Rattle.pool_grammar.specs.Grammar.{rule}
use Rattle.pool_syntax.specs.TreeOf.{program_of}
use Rattle.expression_parser.specs.declared.fault.SyntaxFault.{SyntaxFault}
use Rattle.expression_parser.specs.declared.fault.SyntaxFault.TheVariants.{Unexpected, TooDeep, Memory}
use Rattle.expression_parser.specs.Reads.{Outcome, read, refused, Reads, ReadsPhrase}
use Rattle.expression_parser.specs.Parses.{seen, Refuses}
use Rattle.pool_parser.specs.Tails.{declared_part}

-- the tokens from the number i up to the number j declare variables, which follow those before; this holds for any
-- rest of a rule
abbrev pub ReadsDeclared : List Tok → List Var → ℕ → List Var → ℕ → Type 0
ReadsDeclared ts before i all j = (p : Phrase) (rest : List Var → Rule (Tree p)) (o : Outcome (Tree p)) → Reads ts p (rest all) j o → Reads ts p (declared_part p before rest) i o

-- the tokens from the number i are refused as a declaration, unless memory ran out
abbrev pub RefusesDeclared : List Tok → List Var → ℕ → SyntaxFault → Type 0
RefusesDeclared ts before i (Unexpected u) = (p : Phrase) (rest : List Var → Rule (Tree p)) → Reads ts p (declared_part p before rest) i (refused u)
RefusesDeclared ts before i (TooDeep u) = ⊥
RefusesDeclared ts before i Memory = Unit {0}

-- the answer of a function that parses a declaration
abbrev pub ParsesDeclared : List Token → List Var → ℕ → Result (List Var × ℕ) SyntaxFault → Type 0
ParsesDeclared ts before i (Ok x) = ReadsDeclared (seen ts) before i x.0 x.1
ParsesDeclared ts before i (Err e) = RefusesDeclared (seen ts) before i e

-- the answer for a program: the tokens up to the number n are it, or the fault is the first unexpected token
abbrev pub AnswersProgram : List Tok → ℕ → Result Program SyntaxFault → Type 0
AnswersProgram ts n (Ok p) = ReadsPhrase ts program 0 (read (program_of p) n)
AnswersProgram ts n (Err e) = Refuses ts program (rule program) 0 e

-- the same for the tokens of a slice, followed by `End`
abbrev pub ParsesProgram : List Token → Result Program SyntaxFault → Type 0
ParsesProgram ts r = AnswersProgram (seen ts) (length ts + 1) r
