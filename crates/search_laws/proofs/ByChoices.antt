-- What a list of a search tells that puts off no label for ever: that no object is faulty, that none is dead, and which
-- one is dead.
use Rattle.std.proofs.Common.{◌≡◌, ◌≢◌, ◌<◌, refl, sym, ap, ◌∙◌, subst, ℕ, suc, List, ◌∷◌, length, map, Option, Some, None, is_some, Bool, true, false, not, ◌||◌, ◌==◌, arith}
use Rattle.run_types.proofs.Laws.{differ, given_by, same_some}
use Rattle.run_types.specs.declared.types.Label.{Label}
use Rattle.run_types.specs.declared.types.Label.TheVariants as L
use Rattle.run_types.specs.Partial.{◌>>=◌}
use Rattle.pool_syntax.specs.Terms.{ProgramTree, ClassTree}
use Rattle.pool_relation.specs.Action.{Object}
use Rattle.pool_relation.specs.Configuration.{Configuration, object_of}
use Rattle.pool_relation.specs.Transition.{running, transition, run, last_class, start}
use Rattle.pool_relation.proofs.Laws.{running_is}
use Rattle.search_laws.specs.Renamed.{Renaming, renamed_program, renamed_label, IsRenamed, IsNameless}
use Rattle.reachability.specs.Search.{IsReached, WaitsAt, IsFaulty, IsIn, in_order}
use Rattle.search_laws.specs.ClosedLists as C
use Rattle.search_laws.specs.ClosedLists.{IsClosedAfterSettling}
use Rattle.search_laws.specs.ClosedBeside as D
use Rattle.search_laws.specs.Dead.{changes, some_changes, IsDead, HasDead, CanGoOn}
use Rattle.search_laws.specs.ClosedBeside.{SettlesFreely, beside}
use Rattle.search_laws.specs.PutOff as P
use Rattle.search_laws.specs.PutOff.{LeadsFreely, IsTriedInTheEnd, IsClosedByChoices, any, IsWholeByChoices}
use Rattle.search_laws.specs.Stubborn as E
use Rattle.search_laws.specs.Stubborn.{LeadsIn, IsEnough, IsWholeForEnds}
use Rattle.search_laws.proofs.RenamedTransition.{Alike, Neither, Both}
use Rattle.search_laws.proofs.RenamedRun.{run_renamed}
use Rattle.search_laws.proofs.NamesInOrder.{swap_first, swapped, same_all, arranged}
use Rattle.search_laws.proofs.SearchCompleteness.{lone, below_start, lone_renamed, fault_kept}
use Rattle.search_laws.proofs.ChoiceFreeRuns.{start_sorted}
use Rattle.search_laws.proofs.Dead.{unchanged, still_has_dead, dead_kept, some_renamed, not_dead}
use Rattle.search_laws.proofs.Known.{Known, known_start}
use Rattle.search_laws.proofs.PutOff.{all_still, known_settled, tells}

-- under other names, labels that name new objects in order lead to d
pub record ComesInOrder (p : ProgramTree) (d : Configuration) : Type 0 where
  pub names : Renaming
  pub to : Configuration
  pub same : IsRenamed names.to d to
  pub first : Configuration
  pub labels : List Label
  pub starts : start p 0 ≡ Some first
  pub orders : in_order 1 labels ≡ true
  pub leads : run p first labels ≡ Some to

pub comes_in_order : (p : ProgramTree) → IsNameless p → (d : Configuration) → IsReached p d → ComesInOrder p d
comes_in_order p less d reached = by (last_class p) refl reached.starts
  where
    go : (k : ClassTree) → last_class p ≡ Some k → run p (lone reached.root k) reached.labels ≡ Some d → ComesInOrder p d
    go k e r =
        let a = arranged p (lone reached.root k) d reached.labels 1 (swapped same_all reached.root 0) (below_start k reached.root) r in
        let z : (swapped same_all reached.root 0).to reached.root ≡ 0 = swap_first reached.root 0 in
        let first : a.names.to reached.root ≡ 0 = a.keeps reached.root (omega arith) ∙ z in
        let alike = run_renamed a.names p (lone reached.root k) (lone 0 k) reached.labels (lone_renamed a.names p k reached.root less e first) in
        let starts : start p 0 ≡ Some (lone 0 k) = ap (λ o. o >>= λ c. Some (lone 0 c)) e in
        there a.names a.orders starts (run p (lone reached.root k) reached.labels) r (run (renamed_program a.names.to p) (lone 0 k) (map (renamed_label a.names.to) reached.labels)) refl alike
      where
        there : (g : Renaming) → in_order 1 (map (renamed_label g.to) reached.labels) ≡ true → start p 0 ≡ Some (lone 0 k) → (u : Option Configuration) → u ≡ Some d → (v : Option Configuration)
            → run (renamed_program g.to p) (lone 0 k) (map (renamed_label g.to) reached.labels) ≡ v → Alike g.to u v → ComesInOrder p d
        there g orders starts u i v j Neither = absurd (cc)
        there g orders starts u i v j (Both {c = c} {d = x} same) =
            let is : c ≡ d = cc in
            record {
              names = g;
              to = x;
              same = subst (λ (y : Configuration). IsRenamed g.to y x) is same;
              first = lone 0 k;
              labels = map (renamed_label g.to) reached.labels;
              starts = starts;
              orders = orders;
              leads = ap (λ q. run q (lone 0 k) (map (renamed_label g.to) reached.labels)) (sym (less g.to)) ∙ j;
            }

    by : (o : Option ClassTree) → last_class p ≡ o → (o >>= λ k. Some (lone reached.root k)) ≡ Some reached.first → ComesInOrder p d
    by None i s = absurd (cc)
    by (Some k) i s =
        let is : lone reached.root k ≡ reached.first = cc in
        go k i (ap (λ c. run p c reached.labels) is ∙ reached.leads)

-- a configuration of the list has the property
pub record OneHas (Q : Configuration → Type 0) (es : List (ℕ × Configuration)) : Type 0 where
  pub next : ℕ
  pub seen : Configuration
  pub is_in : IsIn next seen es
  pub holds : Q seen

-- such a list has a property that every transition keeps, if labels that name new objects in order lead to it
pub found_by_choices : (Q : Configuration → Type 0) (p : ProgramTree) → IsNameless p → ((c e : Configuration) (k : Label) → transition p c k ≡ Some e → Q c → Q e)
    → ((g : Renaming) (d x : Configuration) → IsRenamed g.to d x → Q d → Q x) → (es : List (ℕ × Configuration)) → IsWholeByChoices p es
    → (first d : Configuration) (ls : List Label) → start p 0 ≡ Some first → in_order 1 ls ≡ true → run p first ls ≡ Some d → Q d → OneHas Q es
found_by_choices Q p less kept named es whole first d ls starts orders leads holds =
    let b = whole.begins first starts in
    let w = all_still p any (λ ks x. Q x) (λ t ks x f q. q) (λ l ks ms x y f q. f q) (λ t ks x y f i q. kept x y t i q) 1 first d b.0 ls (start_sorted p first starts) b.1 orders leads in
    let known = known_settled p any less 1 first b.0 (known_start p less first starts) b.1 in
    tells p any (λ ks x. Q x) (λ t ks x f q. q) (λ l ks ms x y f q. f q) (λ t ks x y f i q. kept x y t i q) less 0 (λ g ks x y keeps same q. named g x y same q) es whole.closed (OneHas Q es)
    (λ n c i q. record { next = n; seen = c; is_in = i; holds = q }) (length w.labels) 1 b.0 w.to w.labels (omega arith) (omega arith) known b.2 w.orders w.leads (w.holds holds)

-- so if names do not matter to the property and no configuration of the list has it, no run leads to one that has it
module _ (Q : Configuration → Type 0) (p : ProgramTree) (kept : (c e : Configuration) (k : Label) → transition p c k ≡ Some e → Q c → Q e)
    (named : (g : Renaming) (d x : Configuration) → IsRenamed g.to d x → Q d → Q x) where
  pub never_by_choices : (es : List (ℕ × Configuration)) → IsNameless p → IsWholeByChoices p es
      → ((n : ℕ) (c : Configuration) → IsIn n c es → ¬ (Q c)) → (d : Configuration) → IsReached p d → ¬ (Q d)
  never_by_choices es less whole none d reached holds =
      let r = comes_in_order p less d reached in
      let s = found_by_choices Q p less kept named es whole r.first r.to r.labels r.starts r.orders r.leads (named r.names d r.to r.same holds) in
      none s.next s.seen s.is_in s.holds

-- an error that an object has met stays
module _ (p : ProgramTree) (c e : Configuration) (q : ℕ) (z : Object) (there : object_of c q ≡ Some z) (met : z.fault ≢ None) where
  other : (o : ℕ) (x : Object) → running c o ≡ Some x → (o == q) ≡ false
  other o x r =
      let a = running_is c o x r in
      differ o q (λ i. let same : z ≡ x = same_some (sym there ∙ ap (object_of c) (sym i) ∙ a.0) in met (ap (λ y. y.fault) same ∙ a.1))

  two : (u v : Bool) → u ≡ false → v ≡ false → (u || v) ≡ false
  two u v i j = ap (λ t. t || v) i ∙ j

  not_changed : (k : Label) → transition p c k ≡ Some e → changes q k ≡ false
  not_changed (L.Local o) t = let r = given_by (running c o) _ e t in other o r.0 r.1
  not_changed (L.New o n k) t = let r = given_by (running c o) _ e t in other o r.0 r.1
  not_changed (L.Answer b o m args) t =
      let r = given_by (running c o) _ e t in
      let y = given_by (running c b) _ e r.2 in
      two (b == q) (o == q) (other b y.0 y.1) (other o r.0 r.1)
  not_changed (L.Return b o v) t =
      let y = given_by (running c b) _ e t in
      let r = given_by (running c o) _ e y.2 in
      two (b == q) (o == q) (other b y.0 y.1) (other o r.0 r.1)
  not_changed (L.Send o b m args) t = let r = given_by (running c o) _ e t in other o r.0 r.1
  not_changed (L.Take b s m args) t = let y = given_by (running c b) _ e t in other b y.0 y.1
  not_changed (L.Write o item) t = let r = given_by (running c o) _ e t in other o r.0 r.1
  not_changed (L.Pick o i) t = let r = given_by (running c o) _ e t in other o r.0 r.1
  not_changed (L.Fault o f) t = let r = given_by (running c o) _ e t in other o r.0 r.1

  pub error_stays : (k : Label) → transition p c k ≡ Some e → object_of e q ≡ Some z
  error_stays k t = unchanged p c q z there e k t (not_changed k t)

pub never_faulty_by_choices : (p : ProgramTree) (es : List (ℕ × Configuration)) → IsNameless p → IsWholeByChoices p es → ((n : ℕ) (c : Configuration) → IsIn n c es → ¬ (IsFaulty c))
    → (d : Configuration) → IsReached p d → ¬ (IsFaulty d)
never_faulty_by_choices p es less whole none d reached =
    never_by_choices IsFaulty p
    (λ c e k t faulty. record { name = faulty.name; object = faulty.object; there = error_stays p c e faulty.name faulty.object faulty.there faulty.met k t; met = faulty.met })
    fault_kept es less whole none d reached

pub never_dead_by_choices : (p : ProgramTree) (es : List (ℕ × Configuration)) → IsNameless p → IsWholeByChoices p es → ((n : ℕ) (c : Configuration) → IsIn n c es → ¬ (HasDead p c))
    → (d : Configuration) → IsReached p d → ¬ (HasDead p d)
never_dead_by_choices p es less whole none d reached =
    never_by_choices (HasDead p) p (λ c e k t. still_has_dead p c e k t) (λ g u x same. dead_kept g p u x less same) es less whole none d reached

pub nobody_dead_by_choices : (p : ProgramTree) (es : List (ℕ × Configuration)) → IsNameless p → IsWholeByChoices p es
    → ((n : ℕ) (c : Configuration) (o : ℕ) → IsIn n c es → WaitsAt p c o → CanGoOn p c o) → (d : Configuration) → IsReached p d → ¬ (HasDead p d)
nobody_dead_by_choices p es less whole on d reached =
    never_dead_by_choices p es less whole (λ n c i dead. not_dead p c dead.name (on n c dead.name i dead.dead.waits) dead.dead) d reached

-- if all labels of each configuration were tried, none is put off
pub as_choices : (p : ProgramTree) (es : List (ℕ × Configuration)) → IsClosedAfterSettling p es → IsWholeByChoices p es
as_choices p es whole =
    record {
      begins = λ c starts. let b = whole.begins c starts in (b.0, freely c b.0 b.1, b.2);
      closed = record { in_order = whole.in_order; in_the_end = λ n c i. P.Every (λ l d named step. let s = whole.closed n c d l i named step in (refl, (s.0, freely d s.0 s.1, s.2))) };
    }
  where
    freely : (c e : Configuration) → C.Settles p c e → SettlesFreely p any c e
    freely c e C.Settled = D.AtRest
    freely c e (C.Goes {d = d} l kind step rest) = D.GoesFreely l kind refl step (freely d e rest)

-- such a list is whole for ends as well
pub for_ends : (p : ProgramTree) (es : List (ℕ × Configuration)) → IsWholeByChoices p es → IsWholeForEnds p es
for_ends p es whole =
    record {
      in_order = whole.closed.in_order;
      begins = λ c starts. let b = whole.begins c starts in (b.0, settled c b.0 b.1, b.2);
      enough = λ n c i. by n c (whole.closed.in_the_end n c i);
    }
  where
    settled : (c e : Configuration) → SettlesFreely p any c e → C.Settles p c e
    settled c e D.AtRest = C.Settled
    settled c e (D.GoesFreely {d = d} l kind is_free step rest) = C.Goes l kind step (settled d e rest)

    into : (n : ℕ) (c : Configuration) (l : Label) → LeadsFreely p any es n c l → LeadsIn p es n c l
    into n c l leads d named step = let s = leads d named step in (s.1.0, settled d s.1.0 s.1.1, s.1.2)

    by : (n : ℕ) (c : Configuration) → IsTriedInTheEnd p any es n c → IsEnough p es n c
    by n c (P.Every leads) = E.All (λ l. into n c l (leads l))
    by n c (P.Created o k is_free d e step settles there rest) = E.Created o k d e step (settled d e settles) there
    by n c (P.Chosen chosen stubborn leads d e step settles there rest) = E.Some_of_them chosen stubborn (λ l h. into n c l (leads l h))

-- an object that waits, and that no label changes that was tried in a part of the list
module _ (p : ProgramTree) (o : ℕ) where
  is_beside : (t : Label) → beside o t ≡ true → changes o t ≡ false
  is_beside t h = by (changes o t) refl
    where
      by : (b : Bool) → changes o t ≡ b → changes o t ≡ false
      by false e = e
      by true e = absurd (let z : false ≡ true = sym (ap not e) ∙ h in cc)

  behind : (l : Label) (ls ms : List Label) → (some_changes o ls ≡ true → some_changes o ms ≡ true) → some_changes o (l ∷ ls) ≡ true → some_changes o (l ∷ ms) ≡ true
  behind l ls ms f h = by (changes o l) (some_changes o ls) (some_changes o ms) f h
    where
      by : (t u v : Bool) → (u ≡ true → v ≡ true) → (t || u) ≡ true → (t || v) ≡ true
      by true u v f h = refl
      by false u v f h = f h

  -- no run from the part changes it that names new objects in order
  pub never_beside_by_choices : IsNameless p → (es : List (ℕ × Configuration)) → IsClosedByChoices p (beside o) es → (n : ℕ) (c d : Configuration) (ls : List Label) → IsIn n c es → Known n c → o < n
      → in_order n ls ≡ true → run p c ls ≡ Some d → some_changes o ls ≡ false
  never_beside_by_choices less es closed n c d ls i known lower s r = by (some_changes o ls) refl
    where
      by : (b : Bool) → some_changes o ls ≡ b → some_changes o ls ≡ false
      by false e = e
      by true e =
          absurd (tells p (beside o) (λ ks x. some_changes o ks ≡ true) (λ t ks x f h. sym (ap (λ u. u || some_changes o ks) (is_beside t f)) ∙ h) (λ l ks ms x y f h. behind l ks ms f h) (λ t ks x y f j h. h) less (suc o)
          (λ g ks x y keeps same h. sym (ap (λ q. some_changes q (map (renamed_label g.to) ks)) (keeps o (omega arith))) ∙ some_renamed g o ks ∙ h) es closed ⊥
          (λ m x j h. absurd (let z : false ≡ true = h in cc)) (length ls) n c d ls (omega arith) lower known i s r e)

  pub dead_by_choices : IsNameless p → (n : ℕ) (es : List (ℕ × Configuration)) (c : Configuration) → IsClosedByChoices p (beside o) es → IsIn n c es → Known n c → WaitsAt p c o → IsDead p c o
  dead_by_choices less n es c closed i known waits = record { waits = waits; never = at_all }
    where
      there : o < n
      there = known.there o (ap is_some waits.there)

      at_all : (d : Configuration) (ls : List Label) → run p c ls ≡ Some d → some_changes o ls ≡ false
      at_all d ls r =
          let a = arranged p c d ls n same_all (record { there = known.there; free = known.free }) r in
          by a.names a.keeps a.orders (run p c ls) (run (renamed_program a.names.to p) c (map (renamed_label a.names.to) ls)) r refl (run_renamed a.names p c c ls (known.fixed a.names a.keeps))
        where
          by : (g : Renaming) → ((q : ℕ) → q < n → g.to q ≡ q) → in_order n (map (renamed_label g.to) ls) ≡ true → (u v : Option Configuration) → u ≡ Some d
              → run (renamed_program g.to p) c (map (renamed_label g.to) ls) ≡ v → Alike g.to u v → some_changes o ls ≡ false
          by g keeps orders u v j k Neither = absurd (cc)
          by g keeps orders u v j k (Both {d = e} s) =
              let leads : run p c (map (renamed_label g.to) ls) ≡ Some e = ap (λ q. run q c (map (renamed_label g.to) ls)) (sym (less g.to)) ∙ k in
              sym (some_renamed g o ls) ∙ ap (λ q. some_changes q (map (renamed_label g.to) ls)) (keeps o there)
              ∙ never_beside_by_choices less es closed n c e (map (renamed_label g.to) ls) i known there orders leads
