use Rattle.pool_driver.proofs.SameFirstFault.{loads_stop, records_stop, stops_at_one}
use Rattle.pool_driver.proofs.theorems.what_is_built_is_refused_as_recorded.Goals as goal

pub returns-clause-refused : goal.returns-clause-refused
returns-clause-refused c = λ source bytes place plan input f b short few. loads_stop c.a_text_has_one_program.ensures source bytes b place plan input f short few

pub returns-clause-only : goal.returns-clause-only
returns-clause-only c = λ source bytes place plan input f b short few. records_stop c.a_text_has_one_program.ensures source bytes b place plan input f short few

pub returns-clause-one : goal.returns-clause-one
returns-clause-one c = λ source bytes place plan i j f g b short. stops_at_one c.a_text_has_one_program.ensures source bytes b place plan i j f g short
