-- The steps of the data-flow analysis, over the state of the verifier.
use Rattle.std.proofs.Common.{◌≡◌, refl, sym, ap, subst, ◌∙◌, ℕ, zero, suc, ◌+◌, ◌<◌, ◌≤◌, List, [], ◌∷◌, ◌++◌, length, map, drop, Option, Some, None, Bool, true, false, arith}
use Rattle.std.specs.Prelude.{is_none, nat_le, reverse, slice_get, slice_set, replicate, option_map, if◌then◌else◌}
use Rattle.std.specs.List.{list_all}
use Rattle.std.proofs.lemmas.List.{reverse-append, map-append, length-map}
use Rattle.run_types.specs.Partial.{◌>>=◌, ◌>>◌, require}
use Rattle.run_types.specs.Tables.{Each}
use Rattle.run_types.proofs.Laws.{same_some, each_both}
use Rattle.code_semantics.specs.declared.unit.Instr.{Instr}
use Rattle.code_semantics.specs.ReachedPlaces.{nexts}
use Rattle.code_typing.specs.Sorts.{CodeScope, Stack, left_by}
use Rattle.code_typing.specs.Verdict.{Table, Visit, followed, if_equal, if_taken, spread, stacks_equal, table_of, visited, visits}
use Rattle.code_typing.proofs.Laws.{all_unset, followed_is, next_count, set_less, unset}
use Rattle.code_typing.specs.declared.cell.Stacks.{Stacks}
use Rattle.code_verifier.specs.declared.spread.Visit.{Visit as AVisit}
use Rattle.code_verifier.specs.declared.spread.Spread.{Spread}
use Rattle.code_verifier.specs.Spreads.{SpreadInvariant, IsSeen, Outcome, gone, stepped, stepped_by, table_by, to_place, visit_of, visits_by}
use Rattle.code_typing.specs.StackEffects.{Holds, Keeps, stack_at, stack_of}

length_both : {X : Type 0} (xs ys : List X) → length (xs ++ ys) ≡ length xs + length ys
length_both [] ys = omega arith
length_both (x ∷ xs) ys = let h = length_both xs ys in omega (arith, h)

get_map : {A B : Type 0} (f : A → B) (xs : List A) (n : ℕ) → slice_get (map f xs) n ≡ option_map f (slice_get xs n)
get_map f [] n = refl
get_map f (x ∷ xs) zero = refl
get_map f (x ∷ xs) (suc n) = get_map f xs n

set_map : {A B : Type 0} (f : A → B) (xs : List A) (n : ℕ) (x : A) → map f (slice_set xs n x) ≡ slice_set (map f xs) n (f x)
set_map f [] n x = refl
set_map f (y ∷ xs) zero x = refl
set_map f (y ∷ xs) (suc n) x = ap (λ l. f y ∷ l) (set_map f xs n x)

-- nothing stands behind the end
pub none_far : (xs : List (Option ℕ)) (n : ℕ) → length xs ≤ n → true ≡ list_all is_none (drop n xs)
none_far [] zero h = refl
none_far [] (suc n) h = refl
none_far (x ∷ xs) zero h = absurd (omega (arith, h))
none_far (x ∷ xs) (suc n) h = none_far xs n (omega (arith, h))

-- goes on from where a visit has led
abbrev spread_on : ℕ → CodeScope → List Instr → Outcome → Option Table
spread_on n g c None = None
spread_on n g c (Some p) = spread n g c p.0 p.1

module _ (g : CodeScope) (c : List Instr) where
  spread_step : (n : ℕ) (t : Table) (v : Visit) (vs : List Visit) → spread (suc n) g c t (v ∷ vs) ≡ spread_on n g c (stepped g c t v vs)
  spread_step n t v vs = by (slice_get t v.0)
    where
      equally : (b : Bool) → if_equal b (λ u. spread n g c t vs) ≡ spread_on n g c (if b then Some (t, vs) else None)
      equally true = refl
      equally false = refl

      new : (o : Option (List Visit)) → if_taken o (λ ws. spread n g c (slice_set t v.0 (Some v.1)) (ws ++ vs))
          ≡ spread_on n g c (o >>= λ ws. Some (slice_set t v.0 (Some v.1), ws ++ vs))
      new None = refl
      new (Some ws) = refl

      by : (o : Option (Option Stack)) → visited o v.1 (λ u. spread n g c t vs) (followed g v.0 v.1 (slice_get c v.0)) (λ ws. spread n g c (slice_set t v.0 (Some v.1)) (ws ++ vs))
          ≡ spread_on n g c (stepped_by g c t v vs o)
      by None = refl
      by (Some (Some r)) = equally (stacks_equal r v.1)
      by (Some None) = new (followed g v.0 v.1 (slice_get c v.0))

  -- how many visits may still come
  abbrev pub remaining : Table → List Visit → ℕ
  remaining t vs = length vs + unset g c t c

  -- a visit leaves one less
  pub step_less : (t : Table) (v : Visit) (vs : List Visit) (p : Table × List Visit) → stepped g c t v vs ≡ Some p → remaining t (v ∷ vs) ≡ suc (remaining p.0 p.1)
  step_less t v vs p e = by (slice_get t v.0) refl e
    where
      known : (b : Bool) → (if b then Some (t, vs) else None) ≡ Some p → remaining t (v ∷ vs) ≡ suc (remaining p.0 p.1)
      known false h = absurd (let z : None ≡ Some p = h in cc)
      known true h = subst (λ (q : Table × List Visit). remaining t (v ∷ vs) ≡ suc (remaining q.0 q.1)) (same_some h) (let z : remaining t (v ∷ vs) ≡ suc (remaining t vs) = omega arith in z)

      new : slice_get t v.0 ≡ Some None → (o : Option (List Visit)) → followed g v.0 v.1 (slice_get c v.0) ≡ o
          → (o >>= λ ws. Some (slice_set t v.0 (Some v.1), ws ++ vs)) ≡ Some p → remaining t (v ∷ vs) ≡ suc (remaining p.0 p.1)
      new q None h k = absurd (let z : None ≡ Some p = k in cc)
      new q (Some ws) h k =
          let f = followed_is g c v.0 v.1 ws h in
          let l : length ws ≡ length (nexts v.0 f.0) = ap length (sym f.5) ∙ length-map (nexts v.0 f.0) (λ b. (b, f.1)) in
          let m = next_count g c v.0 f.0 in
          let u = set_less g c t c v.0 v.1 f.0 q f.2 in
          let b = length_both ws vs in
          subst (λ (q : Table × List Visit). remaining t (v ∷ vs) ≡ suc (remaining q.0 q.1)) (same_some k)
          (let z : remaining t (v ∷ vs) ≡ suc (remaining (slice_set t v.0 (Some v.1)) (ws ++ vs)) = omega (arith, l, m, u, b) in z)

      by : (o : Option (Option Stack)) → slice_get t v.0 ≡ o → stepped_by g c t v vs o ≡ Some p → remaining t (v ∷ vs) ≡ suc (remaining p.0 p.1)
      by None q h = absurd (let z : None ≡ Some p = h in cc)
      by (Some (Some r)) q h = known (stacks_equal r v.1) h
      by (Some None) q h = new q (followed g v.0 v.1 (slice_get c v.0)) refl h

  -- what is spread from here is what is spread from the front
  abbrev pub IsGoing : Table → List Visit → Type 0
  IsGoing t vs = spread (remaining t vs) g c t vs ≡ table_of g c

  pub begins : (t : Table) (vs : List Visit) → t ≡ replicate (length c) None → vs ≡ (0, []) ∷ [] → IsGoing t vs
  begins t vs e k =
      subst (λ l. IsGoing t l) (sym k) (subst (λ (u : Table). IsGoing u ((0, []) ∷ [])) (sym e)
      (ap (λ n. spread n g c (replicate (length c) None) ((0, []) ∷ [])) (let a = all_unset g c c in let z : remaining (replicate (length c) None) ((0, []) ∷ []) ≡ visits c = omega (arith, a) in z)))

  pub goes_on : (t : Table) (v : Visit) (vs : List Visit) (p : Table × List Visit) → stepped g c t v vs ≡ Some p → IsGoing t (v ∷ vs) → IsGoing p.0 p.1
  goes_on t v vs p e h =
      sym (ap (spread_on (remaining p.0 p.1) g c) e) ∙ sym (spread_step (remaining p.0 p.1) t v vs) ∙ sym (ap (λ n. spread n g c t (v ∷ vs)) (step_less t v vs p e)) ∙ h

  pub stops : (t : Table) (v : Visit) (vs : List Visit) → stepped g c t v vs ≡ None → IsGoing t (v ∷ vs) → table_of g c ≡ None
  stops t v vs e h =
      let n = length vs + unset g c t c in
      sym h ∙ ap (λ m. spread m g c t (v ∷ vs)) (let z : remaining t (v ∷ vs) ≡ suc n = omega arith in z) ∙ spread_step n t v vs ∙ ap (spread_on n g c) e

  pub is_done : (t : Table) → IsGoing t [] → table_of g c ≡ Some t
  is_done t h = sym h ∙ by (remaining t [])
    where
      by : (n : ℕ) → spread n g c t [] ≡ Some t
      by zero = refl
      by (suc n) = refl

-- stacks that were there keep their numbers
module _ (s t : Stacks) (keeps : Keeps s t) where
  table_kept : (os : List (Option ℕ)) → Each (IsSeen s) os → Each (IsSeen t) os × (map (stack_at t) os ≡ map (stack_at s) os)
  table_kept [] h = (tt, refl)
  table_kept (None ∷ os) h = let r = table_kept os h.1 in ((tt, r.0), ap (λ l. None ∷ l) r.1)
  table_kept (Some n ∷ os) h =
      let r = table_kept os h.1 in
      let k = keeps n h.0 in
      ((k.0, r.0), ap (λ x. Some x ∷ map (stack_at t) os) k.1 ∙ ap (λ l. Some (stack_of s n) ∷ l) r.1)

  visits_kept : (vs : List AVisit) → Each (λ v. Holds s v.stack) vs → Each (λ v. Holds t v.stack) vs × (map (visit_of t) vs ≡ map (visit_of s) vs)
  visits_kept [] h = (tt, refl)
  visits_kept (v ∷ vs) h =
      let r = visits_kept vs h.1 in
      let k = keeps v.stack h.0 in
      ((k.0, r.0), ap (λ x. (v.place, x) ∷ map (visit_of t) vs) k.1 ∙ ap (λ l. visit_of s v ∷ l) r.1)

set_each : {X : Type 0} (P : X → Type 0) (xs : List X) (n : ℕ) (x : X) → P x → Each P xs → Each P (slice_set xs n x)
set_each P [] n x p h = h
set_each P (y ∷ xs) zero x p h = (p, h.1)
set_each P (y ∷ xs) (suc n) x p h = (h.0, set_each P xs n x p h.1)

places_hold : (s : Stacks) (n : ℕ) (bs : List ℕ) → Holds s n → Each (λ v. Holds s v.stack) (map (to_place n) bs)
places_hold s n [] h = tt
places_hold s n (b ∷ bs) h = (h, places_hold s n bs h)

places_seen : (s : Stacks) (n : ℕ) (bs : List ℕ) → map (visit_of s) (map (to_place n) bs) ≡ map (λ b. (b, stack_of s n)) bs
places_seen s n [] = refl
places_seen s n (b ∷ bs) = ap (λ l. (b, stack_of s n) ∷ l) (places_seen s n bs)

-- a place by what the table has
module _ (g : CodeScope) (c : List Instr) (x : Spread) (v : AVisit) where
  by_table : (o : Option (Option ℕ)) → slice_get x.table.items v.place ≡ o
      → stepped g c (table_by x) (visit_of x.stacks v) (visits_by x) ≡ stepped_by g c (table_by x) (visit_of x.stacks v) (visits_by x) (option_map (stack_at x.stacks) o)
  by_table o e = ap (stepped_by g c (table_by x) (visit_of x.stacks v) (visits_by x)) (get_map (stack_at x.stacks) x.table.items v.place ∙ ap (option_map (stack_at x.stacks)) e)

  pub out_of_table : slice_get x.table.items v.place ≡ None → None ≡ stepped g c (table_by x) (visit_of x.stacks v) (visits_by x)
  out_of_table e = sym (by_table None e)

  pub known_place : (n : ℕ) (b : Bool) → slice_get x.table.items v.place ≡ Some (Some n) → b ≡ stacks_equal (stack_of x.stacks n) (stack_of x.stacks v.stack)
      → gone b x ≡ stepped g c (table_by x) (visit_of x.stacks v) (visits_by x)
  known_place n b e q = by b ∙ ap (λ z. if z then Some (table_by x, visits_by x) else None) q ∙ sym (by_table (Some (Some n)) e)
    where
      by : (b : Bool) → gone b x ≡ (if b then Some (table_by x, visits_by x) else None)
      by true = refl
      by false = refl

  pub new_place : slice_get x.table.items v.place ≡ Some None → slice_get (table_by x) v.place ≡ Some None
  new_place e = get_map (stack_at x.stacks) x.table.items v.place ∙ ap (option_map (stack_at x.stacks)) e

-- nothing is reached
pub none_seen : (s : Stacks) (n : ℕ) → (map (stack_at s) (replicate n None) ≡ replicate n None) × Each (IsSeen s) (replicate n None)
none_seen s zero = (refl, tt)
none_seen s (suc n) = let r = none_seen s n in (ap (λ l. None ∷ l) r.0, (tt, r.1))

pub one_more_none : (n : ℕ) → replicate n None ++ None ∷ [] ≡ replicate {A = Option ℕ} (n + 1) None
one_more_none zero = refl
one_more_none (suc n) = ap (λ l. None ∷ l) (one_more_none n) ∙ ap (λ m. replicate m None) (let z : suc (n + 1) ≡ suc n + 1 = omega arith in z)

-- a new place
module _ (g : CodeScope) (c : List Instr) (x : Spread) (v : AVisit) (new : slice_get (table_by x) v.place ≡ Some None) where
  pub by_new : stepped g c (table_by x) (visit_of x.stacks v) (visits_by x)
      ≡ (followed g v.place (stack_of x.stacks v.stack) (slice_get c v.place) >>= λ ws. Some (slice_set (table_by x) v.place (Some (stack_of x.stacks v.stack)), ws ++ visits_by x))
  by_new = ap (stepped_by g c (table_by x) (visit_of x.stacks v) (visits_by x)) new

  abbrev After : Option (List Visit) → Outcome
  After o = o >>= λ ws. Some (slice_set (table_by x) v.place (Some (stack_of x.stacks v.stack)), ws ++ visits_by x)

  -- without an instruction there
  pub no_instr : slice_get c v.place ≡ None → None ≡ stepped g c (table_by x) (visit_of x.stacks v) (visits_by x)
  no_instr e = sym (by_new ∙ ap (λ o. After (followed g v.place (stack_of x.stacks v.stack) o)) e)

  module _ (i : Instr) (at : slice_get c v.place ≡ Some i) where
    followed_by : followed g v.place (stack_of x.stacks v.stack) (slice_get c v.place)
        ≡ (require (nat_le (length (stack_of x.stacks v.stack)) 64) >> left_by g i (stack_of x.stacks v.stack) >>= λ r. Some (map (λ b. (b, r)) (nexts v.place i)))
    followed_by = ap (followed g v.place (stack_of x.stacks v.stack)) at

    abbrev Left : Bool → Option Stack → Option (List Visit)
    Left b o = require b >> o >>= λ r. Some (map (λ b. (b, r)) (nexts v.place i))

    pub too_deep : 64 < length (stack_of x.stacks v.stack) → None ≡ stepped g c (table_by x) (visit_of x.stacks v) (visits_by x)
    too_deep h =
        sym (by_new ∙ ap After (followed_by ∙ ap (λ b. Left b (left_by g i (stack_of x.stacks v.stack))) (is_more (length (stack_of x.stacks v.stack)) h)))
      where
        is_more : (n : ℕ) → 64 < n → nat_le n 64 ≡ false
        is_more n h = grind (arith, h)

    is_few : (n : ℕ) → n ≤ 64 → nat_le n 64 ≡ true
    is_few n h = grind (arith, h)

    pub not_taken : length (stack_of x.stacks v.stack) ≤ 64 → left_by g i (stack_of x.stacks v.stack) ≡ None → None ≡ stepped g c (table_by x) (visit_of x.stacks v) (visits_by x)
    not_taken h e =
        sym (by_new ∙ ap After (followed_by ∙ ap (λ b. Left b (left_by g i (stack_of x.stacks v.stack))) (is_few (length (stack_of x.stacks v.stack)) h) ∙ ap (Left true) e))

    module _ (y : Spread) (n : ℕ) (kept : SpreadInvariant x) (there : Holds x.stacks v.stack) (few : length (stack_of x.stacks v.stack) ≤ 64) (keeps : Keeps x.stacks y.stacks) (holds : Holds y.stacks n)
        (takes : left_by g i (stack_of x.stacks v.stack) ≡ Some (stack_of y.stacks n)) (table : y.table.items ≡ slice_set x.table.items v.place (Some v.stack))
        (visits : reverse y.visits.items ≡ map (to_place n) (nexts v.place i) ++ reverse x.visits.items) where
      table_is : table_by y ≡ slice_set (table_by x) v.place (Some (stack_of x.stacks v.stack))
      table_is =
          ap (map (stack_at y.stacks)) table ∙ set_map (stack_at y.stacks) x.table.items v.place (Some v.stack)
          ∙ ap (λ t. slice_set t v.place (Some (stack_of y.stacks v.stack))) (table_kept x.stacks y.stacks keeps x.table.items kept.0).1
          ∙ ap (λ ss. slice_set (table_by x) v.place (Some ss)) (keeps v.stack there).1

      visits_are : visits_by y ≡ map (λ b. (b, stack_of y.stacks n)) (nexts v.place i) ++ visits_by x
      visits_are =
          ap (map (visit_of y.stacks)) visits ∙ map-append (visit_of y.stacks) (map (to_place n) (nexts v.place i)) (reverse x.visits.items)
          ∙ ap (λ l. l ++ map (visit_of y.stacks) (reverse x.visits.items)) (places_seen y.stacks n (nexts v.place i))
          ∙ ap (λ l. map (λ b. (b, stack_of y.stacks n)) (nexts v.place i) ++ l) (visits_kept x.stacks y.stacks keeps (reverse x.visits.items) kept.1).1

      -- the place has the stack, and its next places are visited
      pub has_gone : Some (table_by y, visits_by y) ≡ stepped g c (table_by x) (visit_of x.stacks v) (visits_by x)
      has_gone =
          ap (λ (t : Table). Some (t, visits_by y)) table_is ∙ ap (λ (l : List Visit). Some (slice_set (table_by x) v.place (Some (stack_of x.stacks v.stack)), l)) visits_are
          ∙ sym (by_new ∙ ap After (followed_by ∙ ap (λ b. Left b (left_by g i (stack_of x.stacks v.stack))) (is_few (length (stack_of x.stacks v.stack)) few) ∙ ap (Left true) takes))

      pub stays_kept : SpreadInvariant y
      stays_kept = (
        subst (Each (IsSeen y.stacks)) (sym table) (set_each (IsSeen y.stacks) x.table.items v.place (Some v.stack) (keeps v.stack there).0 (table_kept x.stacks y.stacks keeps x.table.items kept.0).0),
        subst (Each (λ w. Holds y.stacks w.stack)) (sym visits)
            (each_both (λ w. Holds y.stacks w.stack) (map (to_place n) (nexts v.place i)) (reverse x.visits.items) (places_hold y.stacks n (nexts v.place i) holds)
            (visits_kept x.stacks y.stacks keeps (reverse x.visits.items) kept.1).0),
      )

-- the last visit is the next
pub popped : (vs rest : List AVisit) (v : AVisit) → vs ≡ rest ++ v ∷ [] → reverse vs ≡ v ∷ reverse rest
popped vs rest v e = ap reverse e ∙ reverse-append rest (v ∷ [])

pub drop_seen : (s : Stacks) (os : List (Option ℕ)) (n : ℕ) → list_all is_none (drop n os) ≡ list_all is_none (drop n (map (stack_at s) os))
drop_seen s [] zero = refl
drop_seen s [] (suc n) = refl
drop_seen s (None ∷ os) zero = drop_seen s os zero
drop_seen s (Some x ∷ os) zero = refl
drop_seen s (o ∷ os) (suc n) = drop_seen s os n
