use Rattle.watch_laws.proofs.LastOfRun.{watched_shows}
use Rattle.watch_laws.proofs.WrittenParts.{watched_parted, watched_written}
use Rattle.watch_laws.proofs.theorems.the_last_lines_show_the_configuration.Goals as goal

pub returns-clause-parts : goal.returns-clause-parts
returns-clause-parts c = λ names p from ls. watched_written names p from ls

pub returns-clause-fronts : goal.returns-clause-fronts
returns-clause-fronts c = λ names p from d front rest e. watched_parted names p from d front rest e

pub returns-clause-last : goal.returns-clause-last
returns-clause-last c = λ names p n from to d before front begins leads e. watched_shows names p n from to d before front begins leads e
