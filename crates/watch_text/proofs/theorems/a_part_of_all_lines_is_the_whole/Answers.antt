use Rattle.watch_text.proofs.PartOfAll.{part_of_whole, whole_of_part}
use Rattle.watch_text.proofs.theorems.a_part_of_all_lines_is_the_whole.Goals as goal

pub returns-clause-whole : goal.returns-clause-whole
returns-clause-whole c = λ p names ls last text v small h. whole_of_part p names ls last text v small h

pub returns-clause-part : goal.returns-clause-part
returns-clause-part c = λ p names ls last text v small h. part_of_whole p names ls last text v small h
