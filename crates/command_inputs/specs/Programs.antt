-- The texts that are programs without class faults, and the fault of every other text. The checks come in this order:
-- tokens, grammar, classes.
use Rattle.std.specs.Prelude.{◌+◌, List, ◌⊎◌}
use Rattle.pool_syntax.specs.declared.token.Tok.{Tok}
use Rattle.pool_syntax.specs.declared.token.Token.{Token}
use Rattle.text_scan.specs.Text.{Text}
use Rattle.pool_syntax.specs.Tokens.{HasTokens, IsFirstFault, toks}
use Rattle.pool_syntax.specs.Terms.{ProgramTree}
use Rattle.pool_grammar.specs.Rules.{program}
use Rattle.pool_grammar.specs.Grammar.{rule}
use Rattle.pool_grammar.specs.Derives.{Begins, IsFirstUnexpected}
use Rattle.pool_grammar.specs.Nesting.{IsFirstTooDeep}
use Rattle.pool_syntax.specs.Typing.{faults}
use Rattle.pool_grammar.specs.Programs.{HasProgram, IsShallowBelow}
pub use Rattle.pool_grammar.specs.Programs.{IsParsed, IsTextOf, IsTypedText}
use Rattle.expression_parser.specs.declared.fault.SyntaxFault.{SyntaxFault}
use Rattle.expression_parser.specs.declared.fault.SyntaxFault.TheVariants as Syntax
use Rattle.class_check.specs.Least.{IsLeastFault}
use Rattle.type_check.specs.PairOf.{pair_of}
use Rattle.command_inputs.specs.declared.fault.Fault.{Fault}
use Rattle.command_inputs.specs.declared.fault.Fault.TheVariants as F

-- the first fault of tokens that have no program
abbrev pub IsSyntaxFault : List Tok → SyntaxFault → Type 0
IsSyntaxFault ts (Syntax.Unexpected t) = IsFirstUnexpected ts t × IsShallowBelow ts t × ((p : ProgramTree) → HasProgram ts p → ⊥)
IsSyntaxFault ts (Syntax.TooDeep t) = IsFirstTooDeep ts t × Begins ts program (rule program) 0 (t + 1)
IsSyntaxFault ts Syntax.Memory = ⊥

-- the fault of a text that has no program
abbrev pub IsFaultOfText : Text → Fault → Type 0
IsFaultOfText s (F.Lex f) = IsFirstFault s f
IsFaultOfText s (F.Syntax f) = (names : List Text) × (ts : List Token) × HasTokens s names ts × IsSyntaxFault (toks ts) f
IsFaultOfText s _ = ⊥

-- the program's least class fault
abbrev pub IsFaultOfClasses : ProgramTree → Fault → Type 0
IsFaultOfClasses p (F.Class f) = IsLeastFault (faults p) (pair_of f)
IsFaultOfClasses p _ = ⊥

abbrev pub IsTypedProgram : Text → Type 0
IsTypedProgram s = (p : ProgramTree) × IsTypedText s p

abbrev pub HasTypedFault : Text → Fault → Type 0
HasTypedFault s f = IsFaultOfText s f ⊎ ((p : ProgramTree) × IsTextOf s p × IsFaultOfClasses p f)
