-- A list that is whole with what was written has the end of each run, with what the run wrote.
use Rattle.std.proofs.Common.{◌≡◌, ◌≢◌, ◌≤◌, ◌⊎◌, inl, inr, refl, sym, ap, ◌∙◌, subst, ℕ, zero, suc, List, [], ◌∷◌, ◌++◌, length, map, Option, Some, None, Bool, true, false, ◌==◌, append-nil, arith}
use Rattle.std.proofs.lemmas.List.{append_assoc}
use Rattle.run_types.proofs.Laws.{first, second, equal, equals, given_by, required, same_some}
use Rattle.run_types.specs.declared.types.Value.{Value}
use Rattle.run_types.specs.declared.types.Value.TheVariants as V
use Rattle.run_types.specs.declared.types.Item.{Item}
use Rattle.run_types.specs.declared.types.Item.TheVariants as I
use Rattle.run_types.specs.declared.types.Label.{Label}
use Rattle.run_types.specs.declared.types.Label.TheVariants as L
use Rattle.pool_syntax.specs.Terms.{ProgramTree, ClassTree}
use Rattle.run_types.specs.Partial.{◌>>=◌}
use Rattle.pool_relation.specs.Action as A
use Rattle.pool_relation.specs.Action.{Action, action}
use Rattle.pool_relation.specs.Configuration.{Configuration}
use Rattle.pool_relation.specs.Transition.{running, writes, transition, run, last_class, start}
use Rattle.search_laws.specs.Renamed.{Renaming, renamed_value, renamed_item, renamed_program, renamed_label, IsRenamed, IsNameless}
use Rattle.reachability.specs.Search.{IsAtEnd, needs_no_choice, after, names_next, in_order, IsIn, IsInOrder}
use Rattle.reachability.specs.Outcomes.{items_of, written, EndsWith, IsOneOf, names_none, name_none, all_name_none}
use Rattle.search_laws.specs.Outcomes.{needs_no_order, SettlesWith, Rests, GoesOn, Passed, IsPassed, IsWholeWith, IsKeptEnd, HasAllEnds}
use Rattle.search_laws.proofs.OneLabel.{same_item}
use Rattle.search_laws.proofs.RenamedTransition.{Alike, Neither, Both}
use Rattle.search_laws.proofs.RenamedRun.{run_renamed, makes_none}
use Rattle.search_laws.proofs.NamesInOrder.{swap_first, swapped, same_all, arranged}
use Rattle.search_laws.proofs.SearchCompleteness.{lone, below_start, lone_renamed, at_end_kept}
use Rattle.search_laws.proofs.ReducedSearch.{stays, both_hold, First, first_of, joined_step, Settles, Settled, Goes}
use Rattle.search_laws.proofs.Commutation.{Alone, alone_makes_none, same_label, commutes}
use Rattle.search_laws.proofs.ChoiceFreeRuns.{start_sorted, sorted_after}
use Rattle.search_laws.proofs.KeptOnTheWay.{found_in}

-- a label that makes no object names none
names_any : (n : ℕ) (l : Label) → makes_none l ≡ true → names_next n l ≡ true
names_any n (L.New o m k) t = absurd (cc)
names_any n (L.Local o) t = refl
names_any n (L.Answer b o m args) t = refl
names_any n (L.Return b o v) t = refl
names_any n (L.Send o b m args) t = refl
names_any n (L.Take b s m args) t = refl
names_any n (L.Write o item) t = refl
names_any n (L.Pick o i) t = refl
names_any n (L.Fault o e) t = refl

pub no_choice : (s : Option ℕ) (l : Label) → needs_no_order s l ≡ true → needs_no_choice l ≡ true
no_choice s (L.Local o) h = refl
no_choice s (L.Return b o v) h = refl
no_choice s (L.Send o b m args) h = refl
no_choice s (L.Write o i) h = refl
no_choice s (L.Fault o e) h = refl
no_choice None (L.New o m k) h = h
no_choice (Some w) (L.New o m k) h = h
no_choice None (L.Answer b o m args) h = h
no_choice (Some w) (L.Answer b o m args) h = h
no_choice None (L.Take b q m args) h = h
no_choice (Some w) (L.Take b q m args) h = h
no_choice None (L.Pick o i) h = h
no_choice (Some w) (L.Pick o i) h = h

-- an action writes one item
write_once : (a : Action) (i j : Item) → writes a i ≡ true → writes a j ≡ true → i ≡ j
write_once a i j h k = by a h k
  where
    by : (a : Action) → writes a i ≡ true → writes a j ≡ true → i ≡ j
    by (A.Write w) h k = sym (same_item w i h) ∙ same_item w j k
    by A.Finished h k = absurd (cc)
    by (A.Local term vars) h k = absurd (cc)
    by (A.Fault e) h k = absurd (cc)
    by (A.New c) h k = absurd (cc)
    by (A.Send b m args) h k = absurd (cc)
    by (A.Async b m args) h k = absurd (cc)
    by (A.Answer names) h k = absurd (cc)
    by (A.Select cs) h k = absurd (cc)
    by (A.Return r v) h k = absurd (cc)
    by (A.Waits b m) h k = absurd (cc)
    by A.Stuck h k = absurd (cc)

same_write : (p : ProgramTree) (c d e : Configuration) (o : ℕ) (i j : Item) → transition p c (L.Write o i) ≡ Some d → transition p c (L.Write o j) ≡ Some e → i ≡ j
same_write p c d e o i j h k =
    let a = given_by (running c o) _ d h in
    let b = given_by (running c o) _ e k in
    let x = required (writes (action p o a.0) i) _ d a.2 in
    let y = required (writes (action p o b.0) j) _ e b.2 in
    let same : a.0 ≡ b.0 = same_some (sym a.1 ∙ b.1) in
    write_once (action p o a.0) i j x.0 (ap (λ z. writes (action p o z) j) same ∙ y.0)

module _ (p : ProgramTree) (s : Option ℕ) where
  -- a transition whose order does not matter, in a configuration in order
  pub record Free (c : Configuration) (k : Label) : Type 0 where
    pub alone : Alone p c k
    pub free : needs_no_order s k ≡ true

  free_same : (c : Configuration) (k : Label) → Free c k → (l : Label) → (l ≡ k) ⊎ (l ≢ k)
  free_same c k a l = same_label p c k a.alone l

  free_none : (c : Configuration) (k : Label) → Free c k → makes_none k ≡ true
  free_none c k a = alone_makes_none p c k a.alone

  free_commutes : (c d e : Configuration) (k l : Label) → Free c k → transition p c k ≡ Some e → transition p c l ≡ Some d → l ≢ k
      → Free d k × ((x : Configuration) × (transition p d k ≡ Some x) × (transition p e l ≡ Some x))
  free_commutes c d e k l a i j n = let both = commutes p c d e k l a.alone i j n in (record { alone = both.0; free = a.free }, both.1)

  -- if there is a writer, no other object writes in any run from here that names new objects in order
  abbrev pub Only : ℕ → Configuration → Type 0
  Only n c = (w : ℕ) → s ≡ Some w → (ls : List Label) (d e : Configuration) (o : ℕ) (i : Item) → in_order n ls ≡ true → run p c ls ≡ Some d → transition p d (L.Write o i) ≡ Some e → o ≡ w

  pub only_after : (n : ℕ) (c d : Configuration) (l : Label) → Only n c → names_next n l ≡ true → transition p c l ≡ Some d → Only (after n l) d
  only_after n c d l only named i w is ls f g o item r leads writes_it =
      only w is (l ∷ ls) f g o item (both_hold (names_next n l) (in_order (after n l) ls) named r) (joined_step p c d f l ls i leads) writes_it

  only_free : (n : ℕ) (c d : Configuration) (k : Label) → Only n c → Free c k → transition p c k ≡ Some d → Only n d
  only_free n c d k only a i = subst (λ m. Only m d) (stays n k (free_none c k a)) (only_after n c d k only (names_any n k (free_none c k a)) i)

  -- both orders of two transitions write the same
  in_either_order : (n : ℕ) (c d e : Configuration) (k l : Label) → Only n c → Free c k → transition p c k ≡ Some e → transition p c l ≡ Some d → l ≢ k
      → items_of l ++ items_of k ≡ items_of k ++ items_of l
  in_either_order n c d e k l only a i j differ = by k l a.free i j differ
    where
      none : (w : List Item) → w ++ [] ≡ [] ++ w
      none w = append-nil w

      two : (o q : ℕ) (x y : Item) → needs_no_order s (L.Write o x) ≡ true → transition p c (L.Write o x) ≡ Some e → transition p c (L.Write q y) ≡ Some d
          → L.Write q y ≢ L.Write o x → y ∷ x ∷ [] ≡ x ∷ y ∷ []
      two o q x y h i j differ = of s refl h
        where
          of : (z : Option ℕ) → s ≡ z → needs_no_order z (L.Write o x) ≡ true → y ∷ x ∷ [] ≡ x ∷ y ∷ []
          of None is h = absurd (cc)
          of (Some w) is h =
              let same : q ≡ o = only w is [] c d q y refl refl j ∙ sym (equal o w h) in
              let once : y ≡ x = same_write p c d e o y x (ap (λ z. transition p c (L.Write z y)) (sym same) ∙ j) i in
              absurd (differ (ap (λ z. L.Write z y) same ∙ ap (L.Write o) once))

      by : (k l : Label) → needs_no_order s k ≡ true → transition p c k ≡ Some e → transition p c l ≡ Some d → l ≢ k → items_of l ++ items_of k ≡ items_of k ++ items_of l
      by (L.Write o x) (L.Write q y) h i j n = two o q x y h i j n
      by (L.Write o x) (L.Local q) h i j n = refl
      by (L.Write o x) (L.New q m r) h i j n = refl
      by (L.Write o x) (L.Answer b q m args) h i j n = refl
      by (L.Write o x) (L.Return b q v) h i j n = refl
      by (L.Write o x) (L.Send q b m args) h i j n = refl
      by (L.Write o x) (L.Take b q m args) h i j n = refl
      by (L.Write o x) (L.Pick q r) h i j n = refl
      by (L.Write o x) (L.Fault q r) h i j n = refl
      by (L.Local o) l h i j n = none (items_of l)
      by (L.New o m r) l h i j n = none (items_of l)
      by (L.Answer b o m args) l h i j n = none (items_of l)
      by (L.Return b o v) l h i j n = none (items_of l)
      by (L.Send o b m args) l h i j n = none (items_of l)
      by (L.Take b o m args) l h i j n = none (items_of l)
      by (L.Pick o r) l h i j n = none (items_of l)
      by (L.Fault o r) l h i j n = none (items_of l)

  -- a run from e to d, and the items before what it writes
  pub record Behind (n most : ℕ) (v : List Item) (whole : List Item) (e d : Configuration) : Type 0 where
    pub labels : List Label
    pub shorter : length labels ≤ most
    pub orders : in_order n labels ≡ true
    pub leads : run p e labels ≡ Some d
    pub writes : whole ≡ v ++ written labels

  behind : (n : ℕ) (c d e : Configuration) (k : Label) (ls : List Label) → Only n c → Free c k → transition p c k ≡ Some e → in_order n ls ≡ true → run p c ls ≡ Some d → IsAtEnd p d
      → Behind n (length ls) (items_of k) (written ls) e d
  behind n c d e k [] only a i o r ended = absurd (let is : c ≡ d = cc in let none : transition p c k ≡ None = subst (λ x. transition p x k ≡ None) (sym is) (ended k) in let z : Some e ≡ None = sym i ∙ none in cc)
  behind n c d e k (l ∷ ls) only a i o r ended =
      by (first_of p c d l ls r) (free_same c k a l) (λ c' e' only' a' i' r'. behind (after n l) c' d e' k ls only' a' i' (second (names_next n l) (in_order (after n l) ls) o) r' ended)
    where
      by : First p c d l ls → (l ≡ k) ⊎ (l ≢ k)
          → ((c' e' : Configuration) → Only (after n l) c' → Free c' k → transition p c' k ≡ Some e' → run p c' ls ≡ Some d → Behind (after n l) (length ls) (items_of k) (written ls) e' d)
          → Behind n (length (l ∷ ls)) (items_of k) (written (l ∷ ls)) e d
      by f (inl q) rest =
          let made : Some f.next ≡ Some e = sym f.step ∙ ap (transition p c) q ∙ i in
          let is : f.next ≡ e = cc in
          let still : after n l ≡ n = ap (after n) q ∙ stays n k (free_none c k a) in
          record {
            labels = ls;
            shorter = omega arith;
            orders = ap (λ m. in_order m ls) (sym still) ∙ second (names_next n l) (in_order (after n l) ls) o;
            leads = subst (λ x. run p x ls ≡ Some d) is f.rest;
            writes = ap (λ x. items_of x ++ written ls) q;
          }
      by f (inr q) rest =
          let named = first (names_next n l) (in_order (after n l) ls) o in
          let both = free_commutes c f.next e k l a i f.step q in
          let w = rest f.next both.1.0 (only_after n c f.next l only named f.step) both.0 both.1.1 f.rest in
          let few = w.shorter in
          record {
            labels = l ∷ w.labels;
            shorter = omega arith;
            orders = both_hold _ _ named w.orders;
            leads = joined_step p e both.1.0 d l w.labels both.1.2 w.leads;
            writes =
                ap (λ x. items_of l ++ x) w.writes ∙ sym (append_assoc (items_of l) (items_of k) (written w.labels))
                ∙ ap (λ x. x ++ written w.labels) (in_either_order n c f.next e k l only a i f.step q) ∙ append_assoc (items_of k) (items_of l) (written w.labels);
          }

  -- any number of such transitions, one after another, with what they write
  pub data SettlesFree : Configuration → List Item → Configuration → Type 0 where
    FreeRests : {c : Configuration} → SettlesFree c [] c
    FreeGoes : {c e f : Configuration} {v : List Item} {k : Label} → Free c k → transition p c k ≡ Some e → SettlesFree e v f → SettlesFree c (items_of k ++ v) f

  pub free_settles : (c e : Configuration) (v : List Item) → IsInOrder c → SettlesWith p s c v e → SettlesFree c v e
  free_settles c e v sorted Rests = FreeRests
  free_settles c e v sorted (GoesOn {d = d} {v = w} l h i rest) =
      FreeGoes (record { alone = record { kind = no_choice s l h; sorted = sorted }; free = h }) i (free_settles d e w (sorted_after p c d l sorted i) rest)

  bare_settles : (c e : Configuration) (v : List Item) → SettlesFree c v e → Settles p Free free_same free_none free_commutes c e
  bare_settles c e v FreeRests = Settled
  bare_settles c e v (FreeGoes {e = d} {v = w} a i rest) = Goes a i (bare_settles d e w rest)

  pub only_settled : (n : ℕ) (c f : Configuration) (v : List Item) → Only n c → SettlesFree c v f → Only n f
  only_settled n c f v only FreeRests = only
  only_settled n c f v only (FreeGoes {e = e} {v = w} {k = k} a i rest) = only_settled n e f w (only_free n c e k only a i) rest

  pub behind_all : (n : ℕ) (c d f : Configuration) (v : List Item) (ls : List Label) → Only n c → SettlesFree c v f → in_order n ls ≡ true → run p c ls ≡ Some d → IsAtEnd p d
      → Behind n (length ls) v (written ls) f d
  behind_all n c d f v ls only FreeRests o r ended = record { labels = ls; shorter = omega arith; orders = o; leads = r; writes = refl }
  behind_all n c d f v ls only (FreeGoes {e = e} {v = w} {k = k} a i rest) o r ended =
      let b = behind n c d e k ls only a i o r ended in
      let t = behind_all n e d f w b.labels (only_free n c e k only a i) rest b.orders b.leads ended in
      let one = b.shorter in
      let two = t.shorter in
      record {
        labels = t.labels;
        shorter = omega arith;
        orders = t.orders;
        leads = t.leads;
        writes = b.writes ∙ ap (λ x. items_of k ++ x) t.writes ∙ sym (append_assoc (items_of k) w (written t.labels));
      }

  -- from a configuration of the list the end of each run is in the list, with what was written before and what the run
  -- writes
  module _ (es : List Passed) (whole : IsWholeWith p s es) where
    ends_kept : (most n : ℕ) (w : List Item) (c d : Configuration) (ls : List Label) → length ls ≤ most → IsPassed n w c es → Only n c → in_order n ls ≡ true → run p c ls ≡ Some d
        → IsAtEnd p d → (m : ℕ) × IsPassed m (w ++ written ls) d es
    ends_kept most n w c d [] few i only o r ended = let is : c ≡ d = cc in (n, subst (λ (v : List Item). IsPassed n v d es) (sym (append-nil w)) (subst (λ (x : Configuration). IsPassed n w x es) is i))
    ends_kept zero n w c d (l ∷ ls) few i only o r ended = absurd (omega arith)
    ends_kept (suc most) n w c d (l ∷ ls) few i only o r ended =
        let f = first_of p c d l ls r in
        let named = first (names_next n l) (in_order (after n l) ls) o in
        let k = whole.closed n w c f.next l i named f.step in
        let settled = free_settles f.next k.0 k.1 (sorted_after p c f.next l (whole.in_order n w c i) f.step) k.2 in
        let still = only_after n c f.next l only named f.step in
        let b = behind_all (after n l) f.next d k.0 k.1 ls still settled (second (names_next n l) (in_order (after n l) ls) o) f.rest ended in
        let short = b.shorter in
        let t = ends_kept most (after n l) (w ++ (items_of l ++ k.1)) k.0 d b.labels (omega arith) k.3 (only_settled (after n l) f.next k.0 k.1 still settled) b.orders b.leads ended in
        let same : (w ++ (items_of l ++ k.1)) ++ written b.labels ≡ w ++ (items_of l ++ written ls) =
        append_assoc w (items_of l ++ k.1) (written b.labels) ∙ ap (λ x. w ++ x) (append_assoc (items_of l) k.1 (written b.labels)) ∙ ap (λ x. w ++ (items_of l ++ x)) (sym b.writes) in
        (t.0, subst (λ (v : List Item). IsPassed t.0 v d es) same t.1)

    -- the list without what was written
    abbrev bare : List Passed → List (ℕ × Configuration)
    bare [] = []
    bare (e ∷ es) = (e.next, e.configuration) ∷ bare es

    bare_in : (list : List Passed) (n : ℕ) (w : List Item) (c : Configuration) → IsPassed n w c list → IsIn n c (bare list)
    bare_in [] n w c i = i
    bare_in (e ∷ rest) n w c (inl h) = inl (h.0, h.2)
    bare_in (e ∷ rest) n w c (inr h) = inr (bare_in rest n w c h)

    from_bare : (list : List Passed) (n : ℕ) (c : Configuration) → IsIn n c (bare list) → (w : List Item) × IsPassed n w c list
    from_bare [] n c i = absurd i
    from_bare (e ∷ rest) n c (inl h) = (e.items, inl (h.0, refl, h.1))
    from_bare (e ∷ rest) n c (inr h) = let t = from_bare rest n c h in (t.0, inr t.1)

    -- an object other than the writer can write
    record Another (writer : ℕ) (c : Configuration) : Type 0 where
      name : ℕ
      item : Item
      to : Configuration
      writes : transition p c (L.Write name item) ≡ Some to
      differs : name ≢ writer

    still_another : (writer : ℕ) → s ≡ Some writer → (c e : Configuration) (k : Label) → Free c k → transition p c k ≡ Some e → Another writer c → Another writer e
    still_another writer is c e k a i other =
        let both = free_commutes c other.to e k (L.Write other.name other.item) a i other.writes (λ same. no s is (subst (λ x. needs_no_order s x ≡ true) (sym same) a.free)) in
        record { name = other.name; item = other.item; to = both.1.0; writes = both.1.2; differs = other.differs }
      where
        no : (z : Option ℕ) → z ≡ Some writer → needs_no_order z (L.Write other.name other.item) ≡ true → ⊥
        no None g h = absurd (cc)
        no (Some w) g h = let q : w ≡ writer = same_some g in other.differs (equal other.name w h ∙ q)

    only_at_start : (c : Configuration) → start p 0 ≡ Some c → Only 1 c
    only_at_start c starts writer is ls d e o i orders leads writes_it = by (o == writer) refl
      where
        by : (b : Bool) → (o == writer) ≡ b → o ≡ writer
        by true h = equal o writer h
        by false h =
            let begins = whole.begins c starts in
            let differs : o ≢ writer = λ g. absurd (let z : true ≡ false = sym (equals writer) ∙ ap (λ q. q == writer) (sym g) ∙ h in cc) in
            let t = found_in p Free free_same free_none free_commutes (Another writer) (still_another writer is) (bare es)
            (λ n x y l j named step.
            let v = from_bare es n x j in
            let k = whole.closed n v.0 x y l v.1 named step in
            (k.0, bare_settles y k.0 k.1 (free_settles y k.0 k.1 (sorted_after p x y l (whole.in_order n v.0 x v.1) step) k.2), bare_in es (after n l) (v.0 ++ (items_of l ++ k.1)) k.0 k.3))
            1 c d begins.0 ls (bare_settles c begins.0 begins.1 (free_settles c begins.0 begins.1 (start_sorted p c starts) begins.2))
            (bare_in es 1 begins.1 begins.0 begins.3) orders leads (record { name = o; item = i; to = e; writes = writes_it; differs = differs }) in
            let v = from_bare es t.next t.seen t.is_in in
            absurd (t.holds.differs (whole.alone writer is t.next v.0 t.seen t.holds.to t.holds.name t.holds.item v.1 t.holds.writes))

-- renamed labels write the renamed items
pub written_renamed : (f : ℕ → ℕ) (ls : List Label) → written (map (renamed_label f) ls) ≡ map (renamed_item f) (written ls)
written_renamed f [] = refl
written_renamed f (L.Write o i ∷ ls) = ap (λ w. renamed_item f i ∷ w) (written_renamed f ls)
written_renamed f (L.Local o ∷ ls) = written_renamed f ls
written_renamed f (L.New o n k ∷ ls) = written_renamed f ls
written_renamed f (L.Answer b o m args ∷ ls) = written_renamed f ls
written_renamed f (L.Return b o v ∷ ls) = written_renamed f ls
written_renamed f (L.Send o b m args ∷ ls) = written_renamed f ls
written_renamed f (L.Take b s m args ∷ ls) = written_renamed f ls
written_renamed f (L.Pick o i ∷ ls) = written_renamed f ls
written_renamed f (L.Fault o e ∷ ls) = written_renamed f ls

-- the list has the end of each run, with what the run wrote
pub every_end_is_kept : (p : ProgramTree) (s : Option ℕ) (es : List Passed) (w : List Item) (d : Configuration) → IsNameless p → IsWholeWith p s es → EndsWith p w d → IsKeptEnd p es w d
every_end_is_kept p s es w d less whole ends = by (last_class p) refl ends.starts
  where
    go : (k : ClassTree) → last_class p ≡ Some k → run p (lone ends.root k) ends.labels ≡ Some d → IsKeptEnd p es w d
    go k e r =
        let a = arranged p (lone ends.root k) d ends.labels 1 (swapped same_all ends.root 0) (below_start k ends.root) r in
        let z : (swapped same_all ends.root 0).to ends.root ≡ 0 = swap_first ends.root 0 in
        let first : a.names.to ends.root ≡ 0 = a.keeps ends.root (omega arith) ∙ z in
        let alike = run_renamed a.names p (lone ends.root k) (lone 0 k) ends.labels (lone_renamed a.names p k ends.root less e first) in
        let starts : start p 0 ≡ Some (lone 0 k) = ap (λ o. o >>= λ c. Some (lone 0 c)) e in
        let begins = whole.begins (lone 0 k) starts in
        let settled = free_settles p s (lone 0 k) begins.0 begins.1 (start_sorted p (lone 0 k) starts) begins.2 in
        let only = only_at_start p s es whole (lone 0 k) starts in
        there a.names (run p (lone ends.root k) ends.labels) r (run (renamed_program a.names.to p) (lone 0 k) (map (renamed_label a.names.to) ends.labels)) alike
        (λ x i h.
        let b = behind_all p s 1 (lone 0 k) x begins.0 begins.1 (map (renamed_label a.names.to) ends.labels) only settled a.orders
        (ap (λ q. run q (lone 0 k) (map (renamed_label a.names.to) ends.labels)) (sym (less a.names.to)) ∙ i) h in
        let t = ends_kept p s es whole (length b.labels) 1 begins.1 begins.0 x b.labels (omega arith) begins.3 (only_settled p s 1 (lone 0 k) begins.0 begins.1 only settled) b.orders b.leads h in
        let same : begins.1 ++ written b.labels ≡ map (renamed_item a.names.to) w = sym b.writes ∙ written_renamed a.names.to ends.labels ∙ ap (map (renamed_item a.names.to)) ends.writes in
        (t.0, subst (λ (v : List Item). IsPassed t.0 v x es) same t.1))
      where
        there : (g : Renaming) (u : Option Configuration) → u ≡ Some d → (v : Option Configuration) → Alike g.to u v
            → ((x : Configuration) → v ≡ Some x → IsAtEnd p x → (m : ℕ) × IsPassed m (map (renamed_item g.to) w) x es) → IsKeptEnd p es w d
        there g u i v Neither inside = absurd (cc)
        there g u i v (Both {c = c} {d = x} same) inside =
            let is : c ≡ d = cc in
            let named : IsRenamed g.to d x = subst (λ (y : Configuration). IsRenamed g.to y x) is same in
            let here = inside x refl (at_end_kept g p d x less named ends.at_end) in
            record { names = g; next = here.0; seen = x; is_in = here.1; same = named }

    by : (o : Option ClassTree) → last_class p ≡ o → (o >>= λ k. Some (lone ends.root k)) ≡ Some ends.first → IsKeptEnd p es w d
    by None i q = absurd (cc)
    by (Some k) i q =
        let is : lone ends.root k ≡ ends.first = cc in
        go k i (ap (λ c. run p c ends.labels) is ∙ ends.leads)

-- so no run writes anything else
pub nothing_else_is_written : (p : ProgramTree) (s : Option ℕ) (es : List Passed) (vs : List (List Item)) → IsNameless p → IsWholeWith p s es → HasAllEnds p es vs
    → (w : List Item) (d : Configuration) → EndsWith p w d → (f : Renaming) × IsOneOf (map (renamed_item f.to) w) vs
nothing_else_is_written p s es vs less whole all w d ends =
    let k = every_end_is_kept p s es w d less whole ends in
    (k.names, all k.next (map (renamed_item k.names.to) w) k.seen k.is_in (at_end_kept k.names p d k.seen less k.same ends.at_end))

-- an item that names no object under other names is the same under all names
value_is : (f : ℕ → ℕ) (v : Value) → names_none (I.Value (renamed_value f v)) ≡ true → renamed_value f v ≡ v
value_is f (V.Ref n) h = absurd (cc)
value_is f (V.Int z) h = refl
value_is f (V.Bool b) h = refl
value_is f V.Nil h = refl

item_is : (f : ℕ → ℕ) (i : Item) → names_none (renamed_item f i) ≡ true → renamed_item f i ≡ i
item_is f (I.Value v) h = ap I.Value (value_is f v h)
item_is f (I.Text t) h = refl

pub items_are : (f : ℕ → ℕ) (w : List Item) → name_none (map (renamed_item f) w) ≡ true → map (renamed_item f) w ≡ w
items_are f [] h = refl
items_are f (i ∷ is) h =
    ap (λ x. x ∷ map (renamed_item f) is) (item_is f i (first (names_none (renamed_item f i)) (name_none (map (renamed_item f) is)) h))
    ∙ ap (λ x. i ∷ x) (items_are f is (second (names_none (renamed_item f i)) (name_none (map (renamed_item f) is)) h))

pub named_none : (w : List Item) (vs : List (List Item)) → all_name_none vs ≡ true → IsOneOf w vs → name_none w ≡ true
named_none w [] h i = absurd i
named_none w (v ∷ vs) h (inl e) = ap name_none (sym e) ∙ first (name_none v) (all_name_none vs) h
named_none w (v ∷ vs) h (inr i) = named_none w vs (second (name_none v) (all_name_none vs) h) i

pub nothing_else_whatever_the_names : (p : ProgramTree) (s : Option ℕ) (es : List Passed) (vs : List (List Item)) → IsNameless p → IsWholeWith p s es → HasAllEnds p es vs
    → all_name_none vs ≡ true → (w : List Item) (d : Configuration) → EndsWith p w d → IsOneOf w vs
nothing_else_whatever_the_names p s es vs less whole all plain w d ends =
    let t = nothing_else_is_written p s es vs less whole all w d ends in
    subst (λ (x : List Item). IsOneOf x vs) (items_are t.0.to w (named_none (map (renamed_item t.0.to) w) vs plain t.1)) t.1
