-- If each object that waits in a configuration of a whole list can go on, so can each object that waits in a reached
-- configuration.
use Rattle.std.proofs.Common.{◌≡◌, refl, sym, ap, ◌∙◌, subst, ℕ, List, [], ◌∷◌, ◌++◌, map, Option, Some, Bool, true, false, ◌||◌}
use Rattle.run_types.specs.declared.types.Label.{Label}
use Rattle.pool_syntax.specs.Terms.{ProgramTree}
use Rattle.pool_relation.specs.Configuration.{Configuration}
use Rattle.pool_relation.specs.Transition.{transition, run}
use Rattle.pool_relation.proofs.Laws.{joined}
use Rattle.search_laws.specs.Renamed.{Renaming, renamed_program, renamed_label, IsRenamed, IsNameless}
use Rattle.reachability.specs.Search.{IsReached, WaitsAt, IsIn}
use Rattle.search_laws.specs.ClosedLists.{IsClosedAfterSettling}
use Rattle.search_laws.specs.Dead.{some_changes, CanGoOn}
use Rattle.search_laws.proofs.RenamedTransition.{Alike, Neither, Both}
use Rattle.search_laws.proofs.RenamedRun.{run_renamed}
use Rattle.search_laws.proofs.NamesInOrder.{same_all}
use Rattle.search_laws.proofs.RenamedTwice.{composed, renamed_twice}
use Rattle.search_laws.proofs.Known.{known_start, known_by}
use Rattle.search_laws.proofs.ReducedSearch.{first_of, joined_step}
use Rattle.search_laws.proofs.Dead.{unchanged_by, some_renamed, labels_back, waits_kept}
use Rattle.search_laws.specs.PutOff.{IsWholeByChoices}
use Rattle.search_laws.proofs.ByChoices.{comes_in_order, found_by_choices, as_choices}

-- a run leads from x to y
pub record Toward (p : ProgramTree) (x y : Configuration) : Type 0 where
  pub labels : List Label
  pub leads : run p x labels ≡ Some y

-- a run leads from x to y, under other names
pub record TowardOther (p : ProgramTree) (x y : Configuration) : Type 0 where
  pub names : Renaming
  pub to : Configuration
  pub same : IsRenamed names.to to y
  pub toward : Toward p x to

-- from d, under other names, a run leads to a configuration that is in the list under other names
pub record LeadsIn (p : ProgramTree) (es : List (ℕ × Configuration)) (d : Configuration) : Type 0 where
  pub names : Renaming
  pub other : Configuration
  pub same : IsRenamed names.to d other
  pub next : ℕ
  pub seen : Configuration
  pub is_in : IsIn next seen es
  pub on : TowardOther p other seen

-- a run from d with the names mapped back, for a run from the renamed configuration to g
pub record Back (f : Renaming) (p : ProgramTree) (d g : Configuration) (ls : List Label) : Type 0 where
  pub to : Configuration
  pub leads : run p d (map (renamed_label f.from) ls) ≡ Some to
  pub same : IsRenamed f.to to g

module _ (f : Renaming) (p : ProgramTree) (d e : Configuration) (less : IsNameless p) (same : IsRenamed f.to d e) where
  pub back : (g : Configuration) (ls : List Label) → run p e ls ≡ Some g → Back f p d g ls
  back g ls r = by (run p d (map (renamed_label f.from) ls)) (run (renamed_program f.to p) e (map (renamed_label f.to) (map (renamed_label f.from) ls))) refl there (run_renamed f p d e (map (renamed_label f.from) ls) same)
    where
      there : run (renamed_program f.to p) e (map (renamed_label f.to) (map (renamed_label f.from) ls)) ≡ Some g
      there = ap (λ q. run q e (map (renamed_label f.to) (map (renamed_label f.from) ls))) (less f.to) ∙ ap (run p e) (labels_back f ls) ∙ r

      by : (u v : Option Configuration) → run p d (map (renamed_label f.from) ls) ≡ u → v ≡ Some g → Alike f.to u v → Back f p d g ls
      by u v i j Neither = absurd (cc)
      by u v i j (Both {c = c} {d = b} s) = let is : b ≡ g = cc in record { to = c; leads = i; same = subst (λ (y : Configuration). IsRenamed f.to c y) is s }

  on_back : (o : ℕ) → CanGoOn p e (f.to o) → CanGoOn p d o
  on_back o on =
      let b = back on.last on.labels on.leads in
      record { last = b.to; labels = map (renamed_label f.from) on.labels; leads = b.leads; changed = sym (some_renamed f o (map (renamed_label f.from) on.labels)) ∙ ap (some_changes (f.to o)) (labels_back f on.labels) ∙ on.changed }

one_more : (p : ProgramTree) (x c e : Configuration) (k : Label) → transition p c k ≡ Some e → Toward p x c → Toward p x e
one_more p x c e k t h = record { labels = h.labels ++ k ∷ []; leads = joined p x c h.labels (k ∷ []) h.leads ∙ joined_step p c e e k [] t refl }

other_more : (p : ProgramTree) → IsNameless p → (x c e : Configuration) (k : Label) → transition p c k ≡ Some e → TowardOther p x c → TowardOther p x e
other_more p less x c e k t h =
    let b = back h.names p h.to c less h.same e (k ∷ []) (joined_step p c e e k [] t refl) in
    let f = first_of p h.to b.to (renamed_label h.names.from k) [] b.leads in
    record { names = h.names; to = b.to; same = b.same; toward = one_more p x h.to b.to (renamed_label h.names.from k) (f.step ∙ f.rest) h.toward }

other_named : (p : ProgramTree) (x : Configuration) (g : Renaming) (c e : Configuration) → IsRenamed g.to c e → TowardOther p x c → TowardOther p x e
other_named p x g c e same h = record { names = composed h.names g; to = h.to; same = renamed_twice h.names g h.to c e h.same same; toward = h.toward }

pub leads_in : (p : ProgramTree) (es : List (ℕ × Configuration)) → IsNameless p → IsWholeByChoices p es → (d : Configuration) → IsReached p d → LeadsIn p es d
leads_in p es less whole d reached =
    let r = comes_in_order p less d reached in
    let known = known_by p less 1 r.first r.to r.labels (known_start p less r.first r.starts) r.orders r.leads in
    let s = found_by_choices (TowardOther p r.to) p less (λ c e k t h. other_more p less r.to c e k t h) (λ g c e same h. other_named p r.to g c e same h) es whole r.first r.to r.labels r.starts r.orders r.leads
    (record { names = same_all; to = r.to; same = known.fixed same_all (λ q lt. refl); toward = record { labels = []; leads = refl } }) in
    record { names = r.names; other = r.to; same = r.same; next = s.next; seen = s.seen; is_in = s.is_in; on = s.holds }

some_joined : (o : ℕ) (ls ms : List Label) → some_changes o ms ≡ true → some_changes o (ls ++ ms) ≡ true
some_joined o [] ms h = h
some_joined o (l ∷ ls) ms h = either _ _ (some_joined o ls ms h)
  where
    either : (a b : Bool) → b ≡ true → (a || b) ≡ true
    either true b i = refl
    either false b i = i

-- if each object that waits in the list can go on, so can each that waits in a reached configuration
pub all_go_on_by_choices : (p : ProgramTree) (es : List (ℕ × Configuration)) → IsNameless p → IsWholeByChoices p es → ((n : ℕ) (c : Configuration) (o : ℕ) → IsIn n c es → WaitsAt p c o → CanGoOn p c o)
    → (d : Configuration) (o : ℕ) → IsReached p d → WaitsAt p d o → CanGoOn p d o
all_go_on_by_choices p es less whole on d o reached waits =
    let h = leads_in p es less whole d reached in
    on_back h.names p d h.other less h.same o (by h.other h.names (waits_kept h.names p d h.other less h.same o waits) h.next h.seen h.is_in h.on)
  where
    by : (x : Configuration) (g : Renaming) → WaitsAt p x (g.to o) → (n : ℕ) (e : Configuration) → IsIn n e es → TowardOther p x e → CanGoOn p x (g.to o)
    by x g w n e i u = at (some_changes (g.to o) u.toward.labels) refl
      where
        at : (b : Bool) → some_changes (g.to o) u.toward.labels ≡ b → CanGoOn p x (g.to o)
        at true j = record { last = u.to; labels = u.toward.labels; leads = u.toward.leads; changed = j }
        at false j =
            let there = unchanged_by p x u.to u.toward.labels (g.to o) w.object w.there u.toward.leads j in
            let still = waits_kept u.names p u.to e less u.same (g.to o) (record { object = w.object; there = there; sound = w.sound; waits = w.waits }) in
            let r = on_back u.names p u.to e less u.same (g.to o) (on n e (u.names.to (g.to o)) i still) in
            record { last = r.last; labels = u.toward.labels ++ r.labels; leads = joined p x u.to u.toward.labels r.labels u.toward.leads ∙ r.leads; changed = some_joined (g.to o) u.toward.labels r.labels r.changed }

pub all_go_on : (p : ProgramTree) (es : List (ℕ × Configuration)) → IsNameless p → IsClosedAfterSettling p es → ((n : ℕ) (c : Configuration) (o : ℕ) → IsIn n c es → WaitsAt p c o → CanGoOn p c o)
    → (d : Configuration) (o : ℕ) → IsReached p d → WaitsAt p d o → CanGoOn p d o
all_go_on p es less whole = all_go_on_by_choices p es less (as_choices p es whole)
