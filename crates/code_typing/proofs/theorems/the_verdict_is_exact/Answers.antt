use Rattle.code_typing.proofs.FirstCodes.{code_is_first}
use Rattle.code_typing.proofs.FirstFaults.{header_is_first}
use Rattle.code_typing.proofs.UniqueFault.{first_is_code, first_is_header, no_class}
use Rattle.code_typing.proofs.WholeVerdict.{good_is_verified, verified_is_good}
use Rattle.code_typing.proofs.theorems.the_verdict_is_exact.Goals as goal

pub returns-clause-verified : goal.returns-clause-verified
returns-clause-verified c = λ f h. good_is_verified f h

pub returns-clause-good : goal.returns-clause-good
returns-clause-good c = λ f w. verified_is_good f w

pub returns-clause-header : goal.returns-clause-header
returns-clause-header c = λ f j h. header_is_first f j h

pub returns-clause-code : goal.returns-clause-code
returns-clause-code c = λ f j i h. code_is_first f j i h

pub returns-clause-no_class : goal.returns-clause-no_class
returns-clause-no_class c = λ f e. no_class f e

pub returns-clause-first_header : goal.returns-clause-first_header
returns-clause-first_header c = λ f j h. first_is_header f j h

pub returns-clause-first_code : goal.returns-clause-first_code
returns-clause-first_code c = λ f j i h. first_is_code f j i h
