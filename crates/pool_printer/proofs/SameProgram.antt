-- The canonical text of a program parses to the same program.
use Rattle.std.proofs.Common.{◌≡◌, sym, subst, true, List}
use Rattle.pool_grammar.specs.Derives.{IsProgram}
use Rattle.pool_grammar.specs.Grammatical.{IsGrammatical}
use Rattle.pool_syntax.specs.Spelled.{is_spelled}
use Rattle.pool_syntax.specs.Terms.{ProgramTree}
use Rattle.text_scan.specs.Text.{Text}
use Rattle.pool_syntax.specs.declared.token.Token.{Token}
use Rattle.pool_printer.specs.ReadBack.{number_in}
use Rattle.pool_printer.specs.SameProgram.{IsSameProgram}
use Rattle.pool_printer.proofs.DerivedProgram.{canonical_derives}
use Rattle.pool_printer.proofs.TokenRoundTrip.{canonical_tokens}

pub same_program : (names : List Text) (p : ProgramTree) → is_spelled names p ≡ true → IsGrammatical p
    → (other : List Text) × (ts : List Token) × (q : ProgramTree) × IsSameProgram names p other ts q
same_program names p h g =
    let read = canonical_tokens names p h in
    let derived = canonical_derives (number_in read.0 names) p g in (
      read.0,
      read.1,
      derived.0,
      record {
        read_back = read.2;
        program = subst (λ ts. IsProgram ts derived.0) (sym read.2.same) derived.1;
        same = derived.2;
      },
    )
