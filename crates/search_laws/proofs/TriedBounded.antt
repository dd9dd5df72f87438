-- A list with bounds of which the labels were tried, all or those of one awaited object, is whole.
use Rattle.std.proofs.Common.{◌≡◌, ◌⊎◌, ◌≤◌, ◌+◌, inl, inr, sym, ap, ◌∙◌, subst, ℕ, suc, List, [], ◌∷◌, Some, None}
use Rattle.std.specs.List.{filter}
use Rattle.run_types.specs.declared.types.Label.{Label}
use Rattle.pool_syntax.specs.Terms.{ProgramTree}
use Rattle.run_types.proofs.Laws.{same_some}
use Rattle.pool_relation.specs.Configuration.{Configuration}
use Rattle.pool_relation.specs.Transition.{transition}
use Rattle.reachability.specs.Search.{IsInOrder, after}
use Rattle.reachability.specs.Labels.{IsAmong, labels_to_try}
use Rattle.search_laws.specs.Renamed.{IsNameless}
use Rattle.search_laws.specs.Stubborn.{is_served}
use Rattle.search_laws.specs.Bounded as B
use Rattle.search_laws.specs.Bounded.{Bounded, IsBounded, SettlesLower, LeadsLower, IsLowered, IsWholeBounded}
use Rattle.search_laws.specs.TriedBounded.{Lowers, AllLower, IsLoweredHere, EachTried, ThoseTried, AreLowered, IsTriedBounded}
use Rattle.search_laws.proofs.Enough.{who_is_awaited_is_enough}
use Rattle.search_laws.proofs.AllLabels.{all_labels}
use Rattle.search_laws.proofs.AllLabelsTried.{among_those}

module _ (p : ProgramTree) (cost : Label → ℕ) (es : List Bounded) (less : IsNameless p) where
  -- what is told of an entry
  record IsToldHere (n k v : ℕ) (c : Configuration) : Type 0 where
    sorted : IsInOrder c
    lowers : IsLoweredHere p cost es n k v c

  told : (xs : List Bounded) (n k v : ℕ) (c : Configuration) → AreLowered p cost es xs → IsBounded n k v c xs → IsToldHere n k v c
  told [] n k v c t i = absurd i
  told (e ∷ xs) n k v c t (inr i) = told xs n k v c t.2 i
  told (e ∷ xs) n k v c t (inl i) =
      let here : IsToldHere e.next e.length e.cost e.configuration = record { sorted = t.0; lowers = t.1 } in
      subst (λ (d : Configuration). IsToldHere n k v d) i.3
      (subst (λ (x : ℕ). IsToldHere n k x e.configuration) i.2 (subst (λ (x : ℕ). IsToldHere n x e.cost e.configuration) i.1 (subst (λ (x : ℕ). IsToldHere x e.length e.cost e.configuration) i.0 here)))

  lowers_at : (n k v : ℕ) (c d : Configuration) (l : Label) (ls : List Label) → transition p c l ≡ Some d → AllLower p cost es n k v c ls → IsAmong l ls → Lowers p cost es n k v c l
  lowers_at n k v c d l [] s t i = absurd i
  lowers_at n k v c d l (x ∷ ls) s t (inr i) = lowers_at n k v c d l ls s t.1 i
  lowers_at n k v c d l (x ∷ ls) s t (inl e) = by t.0
    where
      by : (transition p c x ≡ None) ⊎ Lowers p cost es n k v c x → Lowers p cost es n k v c l
      by (inl h) = absurd (let z : None ≡ Some d = sym h ∙ ap (transition p c) e ∙ s in cc)
      by (inr h) = subst (λ (y : Label). Lowers p cost es n k v c y) e h

  lower : (n k v : ℕ) (c d : Configuration) (l : Label) → transition p c l ≡ Some d → Lowers p cost es n k v c l → (j w : ℕ) × (suc j ≤ k) × (cost l + w ≤ v) × SettlesLower p cost es (after n l) j w d
  lower n k v c d l t h =
      let same : h.next ≡ d = same_some (sym h.step ∙ t) in
      (h.left, h.owed, h.shorter, h.cheaper, subst (λ (x : Configuration). SettlesLower p cost es (after n l) h.left h.owed x) same h.settles)

  is_lowered : (n k v : ℕ) (c : Configuration) → IsLoweredHere p cost es n k v c → IsLowered p cost es n k v c
  is_lowered n k v c (EachTried all) = B.EachLowers (λ l d next t. lower n k v c d l t (lowers_at n k v c d l (labels_to_try p n c) t all (all_labels p c d n l next t)))
  is_lowered n k v c (ThoseTried b awaited some) =
      B.SomeLower (is_served b) (who_is_awaited_is_enough p n b c less awaited).0
      (λ l its d next t. lower n k v c d l t (lowers_at n k v c d l (filter (is_served b) (labels_to_try p n c)) t some (among_those (is_served b) l (labels_to_try p n c) its (all_labels p c d n l next t))))

  pub whole_bounded_by_trying : (k v : ℕ) → IsTriedBounded p cost es k v → IsWholeBounded p cost es k v
  whole_bounded_by_trying k v all = record {
    begins = all.begins;
    in_order = λ n k v c i. (told es n k v c all.lowered i).sorted;
    lowered = λ n k v c i. is_lowered n k v c (told es n k v c all.lowered i).lowers;
  }
