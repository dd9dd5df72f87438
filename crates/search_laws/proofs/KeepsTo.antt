-- What a list with what is left of a pattern tells of all runs.
use Rattle.std.proofs.Common.{◌≡◌, ap, ◌∙◌, ℕ, List, ◌++◌, Some, true, false}
use Rattle.run_types.specs.declared.types.Item.{Item}
use Rattle.run_types.specs.declared.types.Label.{Label}
use Rattle.pool_syntax.specs.Terms.{ProgramTree}
use Rattle.pool_relation.specs.Configuration.{Configuration}
use Rattle.pool_relation.specs.Transition.{run}
use Rattle.reachability.specs.Outcomes.{written}
use Rattle.reachability.specs.Search.{IsAtEnd}
use Rattle.search_laws.specs.Renamed.{IsNameless}
use Rattle.search_laws.specs.Monitors.{reads, IsReachedWriting, Watched, IsWatched, IsWholeWatched, CanCome}
use Rattle.patterns.specs.Patterns.{Pattern, Matches, is_nullable, is_void, BeginsOne}
use Rattle.search_laws.specs.PatternMonitors.{left_of}
use Rattle.search_laws.proofs.SearchCompleteness.{at_end_kept}
use Rattle.search_laws.proofs.LeadsOn.{reads_joined, leads_on_to}
use Rattle.search_laws.proofs.Watching.{ends_are_watched, all_can_come}
use Rattle.search_laws.proofs.PatternMonitors.{begins_one, matches_whole, ignores_names}

module _ (p : ProgramTree) (r : Pattern) (es : List (Watched Pattern)) (less : IsNameless p) (whole : IsWholeWatched Pattern p (left_of r) es) where
  pub begins_by_list : ((n : ℕ) (q : Pattern) (c : Configuration) → IsWatched Pattern n q c es → is_void q ≡ false) → (w : List Item) (d : Configuration) → IsReachedWriting p w d → BeginsOne r w
  begins_by_list all w d reached =
      let h = leads_on_to Pattern p (left_of r) es less (ignores_names r) whole w d reached in
      begins_one r w (all h.next (reads Pattern (left_of r) r w) h.seen h.is_in)

  pub ends_by_list : ((n : ℕ) (q : Pattern) (c : Configuration) → IsWatched Pattern n q c es → IsAtEnd p c → is_nullable q ≡ true) → (w : List Item) (d : Configuration) → IsReachedWriting p w d → IsAtEnd p d → Matches r w
  ends_by_list all w d reached ended =
      let h = ends_are_watched Pattern p (left_of r) es less (ignores_names r) whole w d reached ended in
      matches_whole r w (all h.next (reads Pattern (left_of r) r w) h.seen h.is_in (at_end_kept h.names p d h.seen less h.same ended))

  pub can_by_list : ((n : ℕ) (q : Pattern) (c : Configuration) → IsWatched Pattern n q c es → CanCome Pattern p (left_of r) is_nullable q c) → (w : List Item) (d : Configuration) → IsReachedWriting p w d
      → (last : Configuration) × (ls : List Label) × (run p d ls ≡ Some last) × Matches r (w ++ written ls)
  can_by_list can w d reached =
      let x = all_can_come Pattern p (left_of r) is_nullable es less (ignores_names r) whole can w d reached in
      (x.last, x.labels, x.leads, matches_whole r (w ++ written x.labels) (ap is_nullable (reads_joined Pattern (left_of r) r w (written x.labels)) ∙ x.holds))
