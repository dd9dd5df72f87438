use Rattle.std.proofs.Common.{◌≡◌, ◌+◌, ◌-◌, Ok, length, ap, arith}
use Rattle.pool_parser.proofs.TokenPrefix.{toks_length}
use Rattle.pool_parser.proofs.Results.{whole_answer, shallow_all, answer_ok, answer_unexpected, answer_only}
use Rattle.pool_parser.proofs.parser.parse_tokens.Goals as goal

pub returns-in-None-clause-ok : goal.returns-in-None-clause-ok
returns-in-None-clause-ok c =
    let l : length c.args.tokens.now - 1 + 1 ≡ length c.args.tokens.now = omega (arith, toks_length c.args.tokens.now, c.requires.ended.0) in
    answer_ok _ _ (whole_answer _ _ _ c.requires.ended l c.program_of_front.ensures) (shallow_all _ (c.in_ok-first_too_deep.ensures.shallow (ap Ok c.in-None.is)))

pub returns-in-None-clause-unexpected : goal.returns-in-None-clause-unexpected
returns-in-None-clause-unexpected c =
    let l : length c.args.tokens.now - 1 + 1 ≡ length c.args.tokens.now = omega (arith, toks_length c.args.tokens.now, c.requires.ended.0) in
    answer_unexpected _ _ (whole_answer _ _ _ c.requires.ended l c.program_of_front.ensures) (shallow_all _ (c.in_ok-first_too_deep.ensures.shallow (ap Ok c.in-None.is)))

pub returns-in-None-clause-only : goal.returns-in-None-clause-only
returns-in-None-clause-only c =
    let l : length c.args.tokens.now - 1 + 1 ≡ length c.args.tokens.now = omega (arith, toks_length c.args.tokens.now, c.requires.ended.0) in
    answer_only _ _ (whole_answer _ _ _ c.requires.ended l c.program_of_front.ensures)

pub returns-in-Some-clause-unexpected : goal.returns-in-Some-clause-unexpected
returns-in-Some-clause-unexpected c = λ t h.
    let a = c.fault_up_to.ensures.unexpected t cc in
    let d = rw c.in-Some.is at c.in_ok-first_too_deep.ensures.deep in
    (a.0, λ k l. d.1.1 k (omega (arith, a.1)))
