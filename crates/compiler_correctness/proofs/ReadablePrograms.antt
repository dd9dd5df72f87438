-- The record of a parsed program without class faults is readable: it has the lines of its code's record, and its code is spelled.
use Rattle.std.proofs.Common.{◌≡◌, refl, sym, subst, ℕ, ◌≤◌, List, [], length, true}
use Rattle.run_types.specs.declared.types.Event.{Event}
use Rattle.run_types.specs.declared.types.Line.{Line}
use Rattle.run_types.specs.declared.types.Placement.{Placement}
use Rattle.text_scan.specs.Text.{Text}
use Rattle.pool_syntax.specs.Terms.{ProgramTree}
use Rattle.pool_syntax.specs.Typing.{faults}
use Rattle.pool_syntax.specs.Tokens.{toks}
use Rattle.pool_grammar.specs.Programs.{IsParsed}
use Rattle.pool_syntax.specs.Spelled.{is_spelled}
use Rattle.pool_lexer.proofs.Laws.{spelled_of}
use Rattle.pool_parser.proofs.Laws.{program_spelled}
use Rattle.code_semantics.specs.declared.unit.Unit.{Unit as Code}
use Rattle.code_semantics.specs.Proper.{IsProper}
use Rattle.code_semantics.specs.Suits.{Suits}
use Rattle.pool_compile.specs.Code.{code}
use Rattle.mesh_semantics.specs.RecordOf.{record_of, record_on_wires}
use Rattle.run_types.specs.Tables.{Each}
use Rattle.mesh_of_terms.specs.Terms.{terms}
use Rattle.compiler_correctness.proofs.Records.{code_record, code_record_on_wires}
use Rattle.compiler_correctness.proofs.ParsedIsText.{parsed_checked}
use Rattle.compiler_correctness.proofs.SuitsImpliesFits.{suits_fits}
use Rattle.run_record.specs.Readable.{IsReadableEvent, IsRecord}
use Rattle.compiler_correctness.proofs.SpelledCode.{code_is_spelled, code_sends_names}
use Rattle.compiler_correctness.proofs.NamedCode.{code_reads, code_reads_on_wires}

-- the names of a parsed program are names, its strings strings, and its integers those of literals
pub parsed_spelled : (s : Text) (names : List Text) (p : ProgramTree) → IsParsed s names p → is_spelled names p ≡ true
parsed_spelled s names p h = program_spelled names (toks h.0) p (spelled_of s names h.0 h.1) h.2.0

pub program_reads : (s : Text) (names : List Text) (p : ProgramTree) (l : Placement) (q : ℕ) (es : List Event) → IsParsed s names p → faults p ≡ []
    → IsProper (record { names = names; classes = code p }) → Suits l (record { names = names; classes = code p }) → q ≤ 10000 → length es ≤ 2000000 → Each IsReadableEvent es
    → IsRecord names (record_of (terms p) l q es).lines
program_reads s names p l q es parsed none proper suits most few each =
    let u : Code = record { names = names; classes = code p } in
    let spelled = parsed_spelled s names p parsed in
    let same = code_record p u (parsed_checked s names p parsed none) refl l q es (suits_fits p u l refl suits) in
    subst (λ (ls : List Line). IsRecord names ls) (sym same.lines)
    (code_reads u proper (code_is_spelled u p refl spelled) (code_sends_names u p refl spelled) l suits q most es few each)

pub program_reads_on_wires : (s : Text) (names : List Text) (p : ProgramTree) (l : Placement) (q : ℕ) (es : List Event) → IsParsed s names p → faults p ≡ []
    → IsProper (record { names = names; classes = code p }) → Suits l (record { names = names; classes = code p }) → q ≤ 10000 → length es ≤ 2000000 → Each IsReadableEvent es
    → IsRecord names (record_on_wires (terms p) l q es).lines
program_reads_on_wires s names p l q es parsed none proper suits most few each =
    let u : Code = record { names = names; classes = code p } in
    let spelled = parsed_spelled s names p parsed in
    let same = code_record_on_wires p u (parsed_checked s names p parsed none) refl l q es (suits_fits p u l refl suits) in
    subst (λ (ls : List Line). IsRecord names ls) (sym same.lines)
    (code_reads_on_wires u proper (code_is_spelled u p refl spelled) (code_sends_names u p refl spelled) l suits q most es few each)
