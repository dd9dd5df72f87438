use Rattle.std.proofs.Common.{arith, rules}
use Rattle.expression_parser.specs.Reads.{read, refused}
use Rattle.expression_parser.proofs.Laws.{passed_on}
use Rattle.statement_parser.proofs.SimpleStatements.{text_read, write_read}
use Rattle.statement_parser.proofs.statements.writing.Goals as goal

pub returns-in-Str-clause-parses : goal.returns-in-Str-clause-parses
returns-in-Str-clause-parses c = text_read c.requires.word c.in-Str.ensures

pub returns-in-Err : goal.returns-in-Err
returns-in-Err c = record {
  parses = passed_on (λ u. write_read (refused u) c.requires.word (λ s e. c.in_default.not-Str s (let p = c.peek.ensures in cc))) _ c.in-Err.ensures.parses;
  next = search rules;
}

pub returns-in-Ok : goal.returns-in-Ok
returns-in-Ok c = record {
  parses = write_read (read _ _) c.requires.word (λ s e. c.in_default.not-Str s (let p = c.peek.ensures in cc)) c.in-Ok.ensures.parses;
  next = (omega (arith, c.in-Ok.ensures.next), c.in-Ok.ensures.next.1);
}
