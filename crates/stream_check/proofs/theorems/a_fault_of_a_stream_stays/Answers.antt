use Rattle.stream_check.proofs.StreamLaws.{ended_faultless, same_fault, same_lines}
use Rattle.stream_check.proofs.theorems.a_fault_of_a_stream_stays.Goals as goal

pub returns-clause-fault : goal.returns-clause-fault
returns-clause-fault c = λ s t f h. same_fault s t f h

pub returns-clause-ended : goal.returns-clause-ended
returns-clause-ended c = λ names s t h. same_lines names s t h

pub returns-clause-faultless : goal.returns-clause-faultless
returns-clause-faultless c = λ names s t h. ended_faultless names s t h
