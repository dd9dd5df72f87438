-- A parsed program without class faults is as the parser gives it: nothing in it is under way.
use Rattle.std.proofs.Common.{◌≡◌, List, []}
use Rattle.pool_syntax.specs.Terms.{ProgramTree}
use Rattle.text_scan.specs.Text.{Text}
use Rattle.pool_syntax.specs.Typing.{faults}
use Rattle.pool_syntax.specs.Tokens.{toks}
use Rattle.pool_grammar.specs.Programs.{IsParsed}
use Rattle.class_check.proofs.Laws.{derived_written}
use Rattle.compiler_correctness.specs.CheckedProgram.{IsCheckedProgram}
use Rattle.compiler_correctness.proofs.DerivedTexts.{derived_text}

pub parsed_checked : (s : Text) (names : List Text) (p : ProgramTree) → IsParsed s names p → faults p ≡ [] → IsCheckedProgram p
parsed_checked s names p h none = record { faultless = none; written = derived_written (toks h.0) p h.2.0; text = derived_text (toks h.0) p h.2.0 }
