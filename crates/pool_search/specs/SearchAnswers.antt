-- When the result of a search, or of the look at one configuration, is correct.
use Rattle.pool_syntax.specs.Terms.{ProgramTree}
use Rattle.pool_relation.specs.Configuration.{Configuration}
use Rattle.pool_search.specs.declared.queries.Query.{Query}
use Rattle.pool_search.specs.declared.queries.SearchResult.{SearchResult}
use Rattle.pool_search.specs.declared.queries.SearchResult.TheVariants as F
use Rattle.pool_search.specs.CutOff.{IsCutOff}
use Rattle.pool_search.specs.SearchTargets.{IsWantedEnd, IsWantedDead, IsWantedFault, IsShownFault, LeadsInOrder, IsFinite}

-- the configuration is no end and has no run-time error that the query looks for
pub record IsPassedBy (p : ProgramTree) (q : Query) (c : Configuration) : Type 0 where
  pub not_end : ¬ (IsWantedEnd p q c)
  pub not_faulty : ¬ (IsWantedFault q c)

-- The run of a result leads to a configuration that the query looks
-- for. `Finite` says that no run does. `Over` says nothing about runs.
abbrev pub IsAnswer : ProgramTree → Query → SearchResult → Type 0
IsAnswer p q (F.Stuck ls) = LeadsInOrder p ls (IsWantedEnd p q)
IsAnswer p q (F.Dead ls names) = LeadsInOrder p ls (IsWantedDead p q names.items)
IsAnswer p q (F.Fault ls) = LeadsInOrder p ls (IsShownFault p q)
IsAnswer p q (F.Finite k) = IsFinite p q k
IsAnswer p q (F.Over k why) = IsCutOff q.most k why
