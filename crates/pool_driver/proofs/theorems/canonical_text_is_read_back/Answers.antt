use Rattle.pool_printer.proofs.Laws.{same_program}
use Rattle.pool_driver.proofs.theorems.canonical_text_is_read_back.Goals as goal

pub returns : goal.returns
returns c = λ names p spelled grammatical.
    let r = same_program names p spelled grammatical in
    (r.0, r.1, r.2, r.3, λ shallow. (r.1, r.3.read_back.tokens, (r.3.program, shallow)))
