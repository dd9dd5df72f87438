use Rattle.std.proofs.Common.{◌∙◌, sym, ⊎_elim}
use Rattle.pool_parser.proofs.Results.{front_read, front_unexpected, front_later, front_never}
use Rattle.pool_parser.proofs.parser.fault_up_to.Goals as goal
use Rattle.pool_parser.proofs.parser.fault_up_to.Goals.{in-Ok, in-Err}

pub returns-clause-unexpected : goal.returns-clause-unexpected
returns-clause-unexpected c = λ t h. elim c.match-program_of_front.branch [
  | in-Ok w ↦ let e = w.result-is in cc
  | in-Err w ↦ let a = w.unless_behind.ensures.unexpected t (sym w.result-is ∙ h) in
      (front_unexpected _ _ _ c.requires.ended c.requires.within c.min-end.ensures _ t w.in-Err.ensures a.0 a.1, a.1)
]

pub returns-clause-too_deep : goal.returns-clause-too_deep
returns-clause-too_deep c = λ t h. elim c.match-program_of_front.branch [
  | in-Ok w ↦ (let e = w.result-is in cc, front_read _ _ _ c.requires.ended c.requires.within c.min-end.ensures _ w.in-Ok.ensures)
  | in-Err w ↦ ⊎_elim
      (λ a. absurd (front_never _ _ _ c.requires.ended c.requires.within c.min-end.ensures _ t w.in-Err.ensures a))
      (λ a. (a.0, front_later _ _ _ c.requires.ended c.requires.within c.min-end.ensures _ a.1.0 w.in-Err.ensures a.1.1 a.1.2))
      (w.unless_behind.ensures.too_deep t (sym w.result-is ∙ h))
]
