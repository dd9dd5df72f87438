-- The iterations of the data-flow analysis.
use Rattle.std.proofs.Common.{◌≡◌, ◌≢◌, refl, sym, ap, subst, ◌∙◌, ℕ, ◌+◌, ◌-◌, ◌^◌, ◌==◌, ◌&&◌, ◌<◌, ◌≤◌, List, [], ◌∷◌, ◌++◌, length, drop, map, Option, Some, None, Bool, true, false, arith}
use Rattle.std.specs.Prelude.{is_none, nat_le, reverse, slice_get, slice_set}
use Rattle.std.specs.List.{list_all}
use Rattle.run_types.specs.Partial.{◌>>=◌, ◌>>◌, require}
use Rattle.run_types.specs.Tables.{Each}
use Rattle.run_types.proofs.Laws.{equal, equals}
use Rattle.code_semantics.specs.ReachedPlaces.{nexts}
use Rattle.code_semantics.specs.declared.unit.Instr.{Instr}
use Rattle.code_typing.specs.Sorts.{CodeScope, Stack, left_by}
use Rattle.code_typing.specs.Verdict.{Table, Visit, followed, most, table_of}
use Rattle.code_typing.specs.StackEffects.{Holds, stack_at, stack_of}
use Rattle.code_verifier.specs.declared.spread.Visit.{Visit as AVisit}
use Rattle.code_verifier.specs.declared.spread.Effect.{Effect}
use Rattle.code_verifier.specs.declared.spread.Spread.{Spread}
use Rattle.code_verifier.specs.Spreads.{HasEffect, IsEffect, SpreadInvariant, IsNext, IsNoted, IsSeen, Takes, fits_by, gone, stepped, table_by, visit_of, visits_by}
use Rattle.code_verifier.proofs.SpreadSteps.{IsGoing, by_new, drop_seen, goes_on, has_gone, is_done, popped, remaining, stays_kept, step_less, stops}

-- the last visit of the list is taken
module _ (x y : Spread) (stacks : y.stacks ≡ x.stacks) (table : y.table ≡ x.table) where
  pub none_left : x.visits.items ≡ [] → IsNext x None y
  none_left e = (
    ap (λ l. map (visit_of x.stacks) (reverse l)) e,
    ap (λ s. map (stack_at s) y.table.items) stacks ∙ ap (λ t. map (stack_at x.stacks) t.items) table,
  )

  pub one_taken : (v : AVisit) → SpreadInvariant x → x.visits.items ≡ y.visits.items ++ v ∷ [] → Takes x v y
  one_taken v kept e =
      let r : reverse x.visits.items ≡ v ∷ reverse y.visits.items = popped x.visits.items y.visits.items v e in
      let all : Each (λ w. Holds x.stacks w.stack) (v ∷ reverse y.visits.items) = subst (Each (λ w. Holds x.stacks w.stack)) r kept.1 in
      record {
        kept = (
          subst (λ s. Each (IsSeen s) y.table.items) (sym stacks) (subst (λ t. Each (IsSeen x.stacks) t.items) (sym table) kept.0),
          subst (λ s. Each (λ w. Holds s w.stack) (reverse y.visits.items)) (sym stacks) all.1,
        );
        there = subst (λ s. Holds s v.stack) (sym stacks) all.0;
        table = ap (λ s. map (stack_at s) y.table.items) stacks ∙ ap (λ t. map (stack_at x.stacks) t.items) table;
        visits = ap (map (visit_of x.stacks)) r ∙ ap (λ s. map (visit_of s) (v ∷ reverse y.visits.items)) (sym stacks);
      }

module _ (g : CodeScope) (c : List Instr) (x y z : Spread) (v : AVisit) (takes : Takes x v y) where
  from : IsGoing g c (table_by x) (visits_by x) → IsGoing g c (table_by y) (visit_of y.stacks v ∷ visits_by y)
  from h = subst (λ (t : Table). IsGoing g c t (visit_of y.stacks v ∷ visits_by y)) (sym takes.table) (subst (λ (l : List Visit). IsGoing g c (table_by x) l) takes.visits h)

  -- what is spread from here is the same
  pub turned : gone true z ≡ stepped g c (table_by y) (visit_of y.stacks v) (visits_by y) → IsGoing g c (table_by x) (visits_by x) → IsGoing g c (table_by z) (visits_by z)
  turned e h = goes_on g c (table_by y) (visit_of y.stacks v) (visits_by y) (table_by z, visits_by z) (sym e) (from h)

  pub turned_less : gone true z ≡ stepped g c (table_by y) (visit_of y.stacks v) (visits_by y)
      → remaining g c (table_by z) (visits_by z) < remaining g c (table_by x) (visits_by x)
  turned_less e =
      let less = step_less g c (table_by y) (visit_of y.stacks v) (visits_by y) (table_by z, visits_by z) (sym e) in
      subst (λ (t : Table). remaining g c (table_by z) (visits_by z) < remaining g c t (visits_by x)) takes.table
      (subst (λ (l : List Visit). remaining g c (table_by z) (visits_by z) < remaining g c (table_by y) l) (sym takes.visits) (omega (arith, less)))

  -- a place that cannot be visited so
  pub turned_out : gone false z ≡ stepped g c (table_by y) (visit_of y.stacks v) (visits_by y) → IsGoing g c (table_by x) (visits_by x) → None ≡ table_of g c
  turned_out e h = sym (stops g c (table_by y) (visit_of y.stacks v) (visits_by y) (sym e) (from h))

-- no visit is left
pub turned_all : (g : CodeScope) (c : List Instr) (x y : Spread) → IsNext x None y → IsGoing g c (table_by x) (visits_by x) → Some (table_by y) ≡ table_of g c
turned_all g c x y e h =
    ap Some e.1 ∙ sym (is_done g c (table_by x) (subst (λ (l : List Visit). IsGoing g c (table_by x) l) e.0 h))

-- the visits that follow from a place, where there is none
module _ (g : CodeScope) (c : List Instr) (at : ℕ) (ss : Stack) where
  pub followed_none : None ≡ slice_get c at → followed g at ss (slice_get c at) ≡ None
  followed_none e = ap (followed g at ss) (sym e)

  module _ (i : Instr) (there : Some i ≡ slice_get c at) where
    followed_by : followed g at ss (slice_get c at) ≡ (require (nat_le (length ss) 64) >> left_by g i ss >>= λ r. Some (map (λ b. (b, r)) (nexts at i)))
    followed_by = ap (followed g at ss) (sym there)

    pub followed_deep : 64 < length ss → followed g at ss (slice_get c at) ≡ None
    followed_deep h =
        followed_by ∙ ap (λ b. require b >> left_by g i ss >>= λ r. Some (map (λ b. (b, r)) (nexts at i))) (is_more (length ss) h)
      where
        is_more : (n : ℕ) → 64 < n → nat_le n 64 ≡ false
        is_more n h = grind (arith, h)

    pub followed_left : None ≡ left_by g i ss → followed g at ss (slice_get c at) ≡ None
    followed_left e = followed_by ∙ by (nat_le (length ss) 64) (left_by g i ss) (sym e)
      where
        by : (b : Bool) (o : Option Stack) → o ≡ None → (require b >> o >>= λ r. Some (map {B = Visit} (λ d. (d, r)) (nexts at i))) ≡ None
        by true None q = refl
        by false None q = refl
        by b (Some r) q = absurd (let z : Some r ≡ None = q in cc)

-- a place that is reached for the first time
module _ (g : CodeScope) (c : List Instr) (x : Spread) (v : AVisit) (new : slice_get (table_by x) v.place ≡ Some None) where
  pub no_effect : IsEffect g c x.stacks v None → None ≡ stepped g c (table_by x) (visit_of x.stacks v) (visits_by x)
  no_effect e =
      sym (by_new g c x v new ∙ ap (λ o. o >>= λ ws. Some (slice_set (table_by x) v.place (Some (stack_of x.stacks v.stack)), ws ++ visits_by x)) e)

  module _ (kept : SpreadInvariant x) (there : Holds x.stacks v.stack) (e : Effect) (y : Spread) (h : HasEffect g c x.stacks v e) (n : IsNoted x v e.instr.now e.left y) where
    pub has_effect : Some (table_by y, visits_by y) ≡ stepped g c (table_by x) (visit_of x.stacks v) (visits_by x)
    has_effect = has_gone g c x v new e.instr.now h.at y n.stack kept there h.few n.keeps n.holds (h.left ∙ ap Some (sym n.left)) n.table n.visits

    pub effect_kept : SpreadInvariant y
    effect_kept = stays_kept g c x v new e.instr.now h.at y n.stack kept there h.few n.keeps n.holds (h.left ∙ ap Some (sym n.left)) n.table n.visits

-- the words of a frame
differs : (a b : ℕ) → a ≢ b → (a == b) ≡ false
differs a b h = by (a == b) refl
  where
    by : (p : Bool) → (a == b) ≡ p → (a == b) ≡ false
    by false e = e
    by true e = absurd (h (equal a b e))

module _ (words temps : ℕ) (t : Table) where
  pub split_up_to_four : words < temps → false ≡ fits_by words temps t
  split_up_to_four h = sym (ap (λ b. b && list_all is_none (drop (2 ^ 32) t)) (differs words (temps + most t) (λ e. omega (arith, h, e))))

  module _ (enough : temps ≤ words) (held : ℕ) (is : held ≡ most t) where
    pub other_words : words - temps ≢ held → false ≡ fits_by words temps t
    other_words h =
        sym (ap (λ b. b && list_all is_none (drop (2 ^ 32) t))
        (differs words (temps + most t) (λ e. h (let z : words - temps ≡ held = omega (arith, e, enough, is) in z))))

pub same_words : (words temps : ℕ) (x : Spread) → temps ≤ words → (held : ℕ) → held ≡ most (table_by x) → words - temps ≡ held → (b : Bool)
    → b ≡ list_all is_none (drop (2 ^ 32) x.table.items) → b ≡ fits_by words temps (table_by x)
same_words words temps x enough held is h b e =
    let z : words ≡ temps + most (table_by x) = omega (arith, h, enough, is) in
    e ∙ drop_seen x.stacks x.table.items (2 ^ 32)
    ∙ sym (ap (λ b. b && list_all is_none (drop (2 ^ 32) (table_by x))) (subst (λ n. (words == n) ≡ true) z (equals words)))
