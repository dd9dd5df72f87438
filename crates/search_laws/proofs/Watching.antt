-- What a list with the states of a monitor tells: how runs end, to which states they can still come, and to which ones they
-- never come again.
use Rattle.std.proofs.Common.{◌≡◌, refl, sym, ap, ◌∙◌, subst, ℕ, List, [], ◌∷◌, ◌++◌, map, Option, Some, None, Bool, true, false}
use Rattle.run_types.proofs.Laws.{same_some}
use Rattle.run_types.specs.declared.types.Item.{Item}
use Rattle.run_types.specs.declared.types.Label.{Label}
use Rattle.pool_syntax.specs.Terms.{ProgramTree}
use Rattle.pool_relation.specs.Configuration.{Configuration}
use Rattle.pool_relation.specs.Transition.{run}
use Rattle.pool_relation.proofs.Laws.{joined}
use Rattle.reachability.specs.Search.{IsAtEnd, in_order}
use Rattle.reachability.specs.Outcomes.{written}
use Rattle.search_laws.specs.Renamed.{Renaming, renamed_program, renamed_label, IsNameless}
use Rattle.search_laws.specs.Monitors.{Monitor, reads, IgnoresNames, IsReachedWriting, Watched, IsWatched, IsClosedWatched, IsWholeWatched, CanCome, IsKeptWatched}
use Rattle.search_laws.proofs.RenamedTransition.{Alike, Neither, Both}
use Rattle.search_laws.proofs.RenamedRun.{run_renamed}
use Rattle.search_laws.proofs.NamesInOrder.{same_all, arranged}
use Rattle.search_laws.proofs.SearchCompleteness.{at_end_kept}
use Rattle.search_laws.proofs.ReducedSearch.{first_of}
use Rattle.search_laws.proofs.Known.{Known}
use Rattle.search_laws.proofs.GoesOn.{back}
use Rattle.search_laws.proofs.Outcomes.{written_renamed}
use Rattle.search_laws.proofs.ChosenOutcomes.{written_joined}
use Rattle.search_laws.proofs.LeadsOn.{reads_renamed, each_continues, leads_on_to}

-- a run from where no label is possible has no label
stands_still : (p : ProgramTree) (c d : Configuration) (ls : List Label) → IsAtEnd p c → run p c ls ≡ Some d → c ≡ d
stands_still p c d [] ended r = same_some r
stands_still p c d (l ∷ ls) ended r = let f = first_of p c d l ls r in absurd (let z : None ≡ Some f.next = sym (ended l) ∙ f.step in cc)

-- the list has the end of each run, with the state in which the run leaves the monitor
pub ends_are_watched : (S : Type 0) (p : ProgramTree) (m : Monitor S) (es : List (Watched S)) → IsNameless p → IgnoresNames S m → IsWholeWatched S p m es → (w : List Item) (d : Configuration) → IsReachedWriting p w d → IsAtEnd p d
    → IsKeptWatched S es (reads S m m.first w) d
ends_are_watched S p m es less ignores whole w d reached ended =
    let h = leads_on_to S p m es less ignores whole w d reached in
    let is : h.seen ≡ h.other = sym (stands_still p h.other h.seen h.labels (at_end_kept h.names p d h.other less h.same ended) h.leads) in
    record { names = h.names; next = h.next; seen = h.other; is_in = subst (λ (x : Configuration). IsWatched S h.next (reads S m m.first w) x es) is h.is_in; same = h.same }

-- if each configuration of the list can come to a state with the property, so can each that is reached
pub all_can_come : (S : Type 0) (p : ProgramTree) (m : Monitor S) (wanted : S → Bool) (es : List (Watched S)) → IsNameless p → IgnoresNames S m → IsWholeWatched S p m es
    → ((n : ℕ) (q : S) (c : Configuration) → IsWatched S n q c es → CanCome S p m wanted q c)
    → (w : List Item) (d : Configuration) → IsReachedWriting p w d → CanCome S p m wanted (reads S m m.first w) d
all_can_come S p m wanted es less ignores whole can w d reached =
    let h = leads_on_to S p m es less ignores whole w d reached in
    let q : S = reads S m m.first w in
    let x = can h.next q h.seen h.is_in in
    let all : run p h.other (h.labels ++ x.labels) ≡ Some x.last = joined p h.other h.seen h.labels x.labels h.leads ∙ x.leads in
    let b = back h.names p d h.other less h.same x.last (h.labels ++ x.labels) all in
    let items : written (h.labels ++ x.labels) ≡ written x.labels = written_joined h.labels x.labels ∙ ap (λ v. v ++ written x.labels) h.silent in
    let state : reads S m q (written (map (renamed_label h.names.from) (h.labels ++ x.labels))) ≡ reads S m q (written x.labels) =
    ap (reads S m q) (written_renamed h.names.from (h.labels ++ x.labels)) ∙ reads_renamed S m ignores h.names.from q (written (h.labels ++ x.labels)) ∙ ap (reads S m q) items in
    record { last = b.to; labels = map (renamed_label h.names.from) (h.labels ++ x.labels); leads = b.leads; holds = ap wanted state ∙ x.holds }

-- if no state of a part that no label leaves has the property, no run from there comes to such a state
pub never_comes : (S : Type 0) (p : ProgramTree) (m : Monitor S) (wanted : S → Bool) (es : List (Watched S)) → IsNameless p → IgnoresNames S m → IsClosedWatched S p m es
    → ((n : ℕ) (q : S) (c : Configuration) → IsWatched S n q c es → wanted q ≡ false) → (n : ℕ) (q : S) (c : Configuration) → IsWatched S n q c es → Known n c → ¬ (CanCome S p m wanted q c)
never_comes S p m wanted es less ignores closed none n q c i known can =
    let a = arranged p c can.last can.labels n same_all (record { there = known.there; free = known.free }) can.leads in
    by a.names a.orders (run p c can.labels) (run (renamed_program a.names.to p) c (map (renamed_label a.names.to) can.labels)) can.leads refl
    (run_renamed a.names p c c can.labels (known.fixed a.names a.keeps))
  where
    by : (g : Renaming) → in_order n (map (renamed_label g.to) can.labels) ≡ true → (u v : Option Configuration) → u ≡ Some can.last
        → run (renamed_program g.to p) c (map (renamed_label g.to) can.labels) ≡ v → Alike g.to u v → ⊥
    by g orders u v j k Neither = absurd (cc)
    by g orders u v j k (Both {d = e} s) =
        let leads : run p c (map (renamed_label g.to) can.labels) ≡ Some e = ap (λ x. run x c (map (renamed_label g.to) can.labels)) (sym (less g.to)) ∙ k in
        let h = each_continues p S m es closed n q c e (map (renamed_label g.to) can.labels) i orders leads in
        let state : reads S m q (written can.labels) ≡ reads S m q (written (map (renamed_label g.to) can.labels)) =
        sym (ap (reads S m q) (written_renamed g.to can.labels) ∙ reads_renamed S m ignores g.to q (written can.labels)) in
        let not_so = none h.next (reads S m q (written (map (renamed_label g.to) can.labels))) h.seen h.is_in in
        absurd (let z : true ≡ false = sym can.holds ∙ ap wanted state ∙ not_so in cc)
