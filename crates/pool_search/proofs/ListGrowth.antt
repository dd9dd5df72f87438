-- A list that grew at its end keeps its items.
use Rattle.std.proofs.Common.{◌≡◌, ◌+◌, inl, inr, refl, sym, ap, ◌∙◌, subst, ℕ, zero, suc, List, [], ◌∷◌, ◌++◌, length, Some, None, arith, append_assoc}
use Rattle.std.specs.List.{filter, slice_get}
use Rattle.std.proofs.lemmas.List.{append-nil}
use Rattle.run_types.specs.declared.types.Item.{Item}
use Rattle.run_types.specs.declared.types.Label.{Label}
use Rattle.run_types.specs.declared.types.Label.TheVariants as L
use Rattle.pool_syntax.specs.Terms.{ProgramTree}
use Rattle.run_types.specs.Tables.{Each}
use Rattle.pool_relation.specs.Configuration.{Configuration}
use Rattle.reachability.specs.Search.{IsInOrder}
use Rattle.reachability.specs.Labels.{labels_to_try}
use Rattle.search_laws.specs.Outcomes.{Passed, IsPassed}
use Rattle.search_laws.specs.Stubborn.{is_served}
use Rattle.search_laws.specs.Tried.{Course, LeadsInto, IsLabelTried, AllLeadInto, LeadsAt, IsExpanded, Every, Those, ByBirth, AreTried}
use Rattle.pool_search.specs.Progress.{Entries, Grows}

pub in_grown : (n : ℕ) (w : List Item) (c : Configuration) (es fs : Entries) → IsPassed n w c es → IsPassed n w c (es ++ fs)
in_grown n w c [] fs i = absurd i
in_grown n w c (e ∷ es) fs (inl i) = inl i
in_grown n w c (e ∷ es) fs (inr i) = inr (in_grown n w c es fs i)

pub entry_grown : (es fs : Entries) (at : ℕ) (e : Passed) → slice_get es at ≡ Some e → slice_get (es ++ fs) at ≡ Some e
entry_grown [] fs at e g = absurd (let z : None ≡ Some e = g in cc)
entry_grown (x ∷ es) fs zero e g = g
entry_grown (x ∷ es) fs (suc at) e g = entry_grown es fs at e g

-- the last entry of a list that grew by it
pub entry_last : (es : Entries) (at : ℕ) (e : Passed) → at ≡ length es → slice_get (es ++ e ∷ []) at ≡ Some e
entry_last es at e i = subst (λ (n : ℕ). slice_get (es ++ e ∷ []) n ≡ Some e) (sym i) (by es)
  where
    by : (xs : Entries) → slice_get (xs ++ e ∷ []) (length xs) ≡ Some e
    by [] = refl
    by (x ∷ xs) = by xs

-- another property of each
pub each_weaker : {X : Type 0} (P Q : X → Type 0) → ((x : X) → P x → Q x) → (xs : List X) → Each P xs → Each Q xs
each_weaker P Q f [] h = tt
each_weaker P Q f (x ∷ xs) h = (f x h.0, each_weaker P Q f xs h.1)

-- the entry at a place
pub each_at : {X : Type 0} (P : X → Type 0) (xs : List X) (i : ℕ) (x : X) → Each P xs → slice_get xs i ≡ Some x → P x
each_at P [] i x h g = absurd (let z : None ≡ Some x = g in cc)
each_at P (y ∷ ys) zero x h g = let is : y ≡ x = cc in subst P is h.0
each_at P (y ∷ ys) (suc i) x h g = each_at P ys i x h.1 g

pub in_at : (es : Entries) (i : ℕ) (e : Passed) → slice_get es i ≡ Some e → IsPassed e.next e.items e.configuration es
in_at [] i e g = absurd (let z : None ≡ Some e = g in cc)
in_at (f ∷ es) zero e g =
    let is : f ≡ e = cc in
    inl (ap (λ (x : Passed). x.next) is, ap (λ (x : Passed). x.items) is, ap (λ (x : Passed). x.configuration) is)
in_at (f ∷ es) (suc i) e g = inr (in_at es i e g)

module _ (p : ProgramTree) (k : Course) where
  leads_grown : (es fs : Entries) (n : ℕ) (w : List Item) (c : Configuration) (l : Label) → LeadsInto p k es n w c l → LeadsInto p k (es ++ fs) n w c l
  leads_grown es fs n w c l h = record { next = h.next; step = h.step; to = h.to; follows = h.follows; is_in = in_grown _ _ h.to es fs h.is_in }

  pub label_grown : (es fs : Entries) (n : ℕ) (w : List Item) (c : Configuration) (l : Label) → IsLabelTried p k es n w c l → IsLabelTried p k (es ++ fs) n w c l
  label_grown es fs n w c l (inl h) = inl h
  label_grown es fs n w c l (inr h) = inr (leads_grown es fs n w c l h)

  pub labels_grown : (es fs : Entries) (n : ℕ) (w : List Item) (c : Configuration) (ls : List Label) → AllLeadInto p k es n w c ls → AllLeadInto p k (es ++ fs) n w c ls
  labels_grown es fs n w c [] h = tt
  labels_grown es fs n w c (l ∷ ls) h = (label_grown es fs n w c l h.0, labels_grown es fs n w c ls h.1)

  pub led_grown : (es fs : Entries) (n : ℕ) (w : List Item) (c : Configuration) (l : Label) (place : ℕ) → LeadsAt p k es n w c l place → LeadsAt p k (es ++ fs) n w c l place
  led_grown es fs n w c l place h = record { next = h.next; step = h.step; to = h.to; follows = h.follows; there = entry_grown es fs place _ h.there }

  pub expanded_grown : (es fs : Entries) (i n : ℕ) (w : List Item) (c : Configuration) → IsExpanded p k es i n w c → IsExpanded p k (es ++ fs) i n w c
  expanded_grown es fs i n w c (Every all) = Every (labels_grown es fs n w c (labels_to_try p n c) all)
  expanded_grown es fs i n w c (ByBirth o class leads) = ByBirth o class (leads_grown es fs n w c (L.New o n class) leads)
  expanded_grown es fs i n w c (Those b awaited some place later led) =
      Those b awaited (labels_grown es fs n w c (filter (is_served b) (labels_to_try p n c)) some) place later (led_grown es fs n w c awaited.one place led)

  pub tried_grown : (es fs : Entries) (i : ℕ) (rest : Entries) → AreTried p k es i rest → AreTried p k (es ++ fs) i rest
  tried_grown es fs i [] h = tt
  tried_grown es fs i (e ∷ rest) h = (h.0, expanded_grown es fs i e.next e.items e.configuration h.1, tried_grown es fs (suc i) rest h.2)

  -- one more entry was expanded
  pub tried_more : (es : Entries) (i : ℕ) (before : Entries) (e : Passed) → AreTried p k es i before → IsInOrder e.configuration
      → IsExpanded p k es (i + length before) e.next e.items e.configuration → AreTried p k es i (before ++ e ∷ [])
  tried_more es i [] e h o t = (o, subst (λ (m : ℕ). IsExpanded p k es m e.next e.items e.configuration) (omega arith) t, tt)
  tried_more es i (f ∷ fs) e h o t =
      let at : i + length (f ∷ fs) ≡ suc i + length fs = omega arith in
      (h.0, h.1, tried_more es (suc i) fs e h.2 o (subst (λ (m : ℕ). IsExpanded p k es m e.next e.items e.configuration) at t))

  -- a list grows by nothing, and by what it grew by before and after
  pub as_it_is : (most : ℕ) (es : Entries) → Grows p k most es es
  as_it_is most es = record { added = []; is = sym (append-nil es); in_order = λ h. h; reached = λ h. h; within = λ h. h }

  pub and_then : (most : ℕ) (es fs gs : Entries) → Grows p k most es fs → Grows p k most fs gs → Grows p k most es gs
  and_then most es fs gs a b =
      record {
        added = a.added ++ b.added;
        is = b.is ∙ ap (λ xs. xs ++ b.added) a.is ∙ append_assoc es a.added b.added;
        in_order = λ h. b.in_order (a.in_order h);
        reached = λ h. b.reached (a.reached h);
        within = λ h. b.within (a.within h);
      }
