-- If no configuration of a list with states is faulty, no run meets an error.
use Rattle.std.proofs.Common.{◌≡◌, subst, ℕ, List, [], ◌∷◌, Some}
use Rattle.run_types.proofs.Laws.{same_some}
use Rattle.run_types.specs.declared.types.Item.{Item}
use Rattle.run_types.specs.declared.types.Label.{Label}
use Rattle.pool_syntax.specs.Terms.{ProgramTree}
use Rattle.pool_relation.specs.Configuration.{Configuration}
use Rattle.pool_relation.specs.Transition.{run}
use Rattle.reachability.specs.Search.{IsFaulty}
use Rattle.search_laws.specs.Renamed.{IsNameless}
use Rattle.search_laws.specs.Monitors.{Monitor, IgnoresNames, IsReachedWriting, Watched, IsWatched, IsWholeWatched}
use Rattle.search_laws.proofs.SearchCompleteness.{fault_kept}
use Rattle.search_laws.proofs.ReducedSearch.{first_of}
use Rattle.search_laws.proofs.ByChoices.{error_stays}
use Rattle.search_laws.proofs.LeadsOn.{leads_on_to}

stays_faulty : (p : ProgramTree) (c d : Configuration) (ls : List Label) → run p c ls ≡ Some d → IsFaulty c → IsFaulty d
stays_faulty p c d [] r h = subst IsFaulty (same_some r) h
stays_faulty p c d (l ∷ ls) r h =
    let f = first_of p c d l ls r in
    stays_faulty p f.next d ls f.rest (record { name = h.name; object = h.object; there = error_stays p c f.next h.name h.object h.there h.met l f.step; met = h.met })

pub never_faulty_watched : (S : Type 0) (p : ProgramTree) (m : Monitor S) (es : List (Watched S)) → IsNameless p → IgnoresNames S m → IsWholeWatched S p m es
    → ((n : ℕ) (q : S) (c : Configuration) → IsWatched S n q c es → ¬ (IsFaulty c)) → (w : List Item) (d : Configuration) → IsReachedWriting p w d → ¬ (IsFaulty d)
never_faulty_watched S p m es less ignores whole none w d reached faulty =
    let h = leads_on_to S p m es less ignores whole w d reached in
    none h.next _ h.seen h.is_in (stays_faulty p h.other h.seen h.labels h.leads (fault_kept h.names d h.other h.same faulty))
