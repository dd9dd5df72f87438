use Rattle.std.proofs.Common.{◌≡◌, ◌∙◌, ℕ, ◌+◌, List, Err, refl, sym, ap, subst}
use Rattle.text_scan.specs.Text.{Text}
use Rattle.pool_syntax.specs.Tokens.{HasTokens, toks}
use Rattle.pool_syntax.specs.Terms.{ProgramTree}
use Rattle.pool_grammar.specs.Rules.{program}
use Rattle.pool_grammar.specs.Grammar.{rule}
use Rattle.pool_grammar.specs.Derives.{Begins, IsFirstUnexpected}
use Rattle.pool_grammar.specs.Nesting.{IsFirstTooDeep}
use Rattle.expression_parser.specs.declared.fault.SyntaxFault.{SyntaxFault}
use Rattle.expression_parser.specs.declared.fault.SyntaxFault.TheVariants as Syntax
use Rattle.command_inputs.specs.declared.fault.Fault.{Fault}
use Rattle.command_inputs.specs.declared.fault.Fault.TheVariants as F
use Rattle.command_inputs.specs.declared.fault.Input.{Input}
use Rattle.command_inputs.specs.declared.fault.Input.TheVariants as I
use Rattle.command_inputs.specs.declared.fault.InputError.TheVariants as T
use Rattle.command_inputs.specs.Programs.{IsFaultOfText}
use Rattle.pool_syntax.specs.declared.token.Token.{Token}
use Rattle.pool_grammar.specs.Programs.{HasProgram, IsShallowBelow}
use Rattle.command_inputs.specs.Readers.{stop_of_tokens, stop_of_grammar}
use Rattle.command_inputs.proofs.program.read_program.Goals as goal

pub returns-in-Ok-parse-clause-spelled : goal.returns-in-Ok-parse-clause-spelled
returns-in-Ok-parse-clause-spelled c =
    c.in-Ok-parse.ensures.spelled c.in-Ok.ensures.spelled

pub returns-in-Err-clause-only : goal.returns-in-Err-clause-only
returns-in-Err-clause-only c names p h = c.lex_stop.ensures ∙ ap stop_of_tokens (c.in-Err.ensures.only names h.0 h.1)

pub returns-in-Ok-parse-clause-only : goal.returns-in-Ok-parse-clause-only
returns-in-Ok-parse-clause-only c names p h =
    let same = c.in-Ok.ensures.only names h.0 h.1 in
    let has = subst (λ (ts : List Token). HasProgram (toks ts) p) (sym same.1) h.2 in
    (same.0, c.in-Ok-parse.ensures.only p has)

pub returns-in-Err-parse-clause-only : goal.returns-in-Err-parse-clause-only
returns-in-Err-parse-clause-only c names p h =
    let same = c.in-Ok.ensures.only names h.0 h.1 in
    let has = subst (λ (ts : List Token). HasProgram (toks ts) p) (sym same.1) h.2 in
    c.syntax_stop.ensures ∙ ap stop_of_grammar (c.in-Err-parse.ensures.only p has)

-- the fault of tokens that have no program
told : (bytes : Text) (names : List Text) (ts : List Token) (e : SyntaxFault) (i : Input) (f : Fault) → HasTokens bytes names ts
    → ((t : ℕ) → e ≡ Syntax.Unexpected t → IsFirstUnexpected (toks ts) t × IsShallowBelow (toks ts) t)
    → ((t : ℕ) → e ≡ Syntax.TooDeep t → IsFirstTooDeep (toks ts) t × Begins (toks ts) program (rule program) 0 (t + 1))
    → ((p : ProgramTree) → HasProgram (toks ts) p → e ≡ Syntax.Memory) → stop_of_grammar e ≡ T.Refused i f → (i ≡ I.Program) × IsFaultOfText bytes f
told bytes names ts (Syntax.Unexpected u) i f h a b m q =
    let e : F.Syntax (Syntax.Unexpected u) ≡ f = cc in
    ((cc), subst (IsFaultOfText bytes) e (names, ts, h, ((a u refl).0, (a u refl).1, λ p d. let w : Syntax.Unexpected u ≡ Syntax.Memory = m p d in cc)))
told bytes names ts (Syntax.TooDeep u) i f h a b m q =
    let e : F.Syntax (Syntax.TooDeep u) ≡ f = cc in ((cc), subst (IsFaultOfText bytes) e (names, ts, h, b u refl))
told bytes names ts Syntax.Memory i f h a b m q = cc

pub returns-in-Err-parse-clause-refused : goal.returns-in-Err-parse-clause-refused
returns-in-Err-parse-clause-refused c i f h =
    let r : c.syntax_stop.result ≡ T.Refused i f = cc in
    told c.args.bytes.now c.in-Ok.tokens.names c.in-Ok.tokens.list c.in-Err-parse.fault i f c.in-Ok.ensures.ok
    (λ t q. c.in-Err-parse.ensures.unexpected t (ap Err q)) (λ t q. c.in-Err-parse.ensures.too_deep t (ap Err q))
    (λ p d. c.in-Err-parse.ensures.only p d) (sym c.syntax_stop.ensures ∙ r)
