-- The steps of a run whose first labels are local transitions of one object.
use Rattle.std.proofs.Common.{◌≡◌, ◌∙◌, ◌<◌, ◌==◌, ◌≢◌, ℕ, zero, suc, ◌+◌, List, [], ◌∷◌, ◌++◌, append_assoc, replicate, Some, None, Bool, true, false, cond, refl, sym, ap, arith}
use Rattle.std.specs.Prelude.{is_some}
use Rattle.std.proofs.lemmas.Bool.Decides.{nat_tests}
use Rattle.std.proofs.lemmas.List.{append-nil}
use Rattle.text_scan.specs.Text.{Text}
use Rattle.run_types.specs.declared.types.Label.{Label}
use Rattle.run_types.specs.declared.types.Label.TheVariants as L
use Rattle.label_list.specs.declared.part.Part.{Part}
use Rattle.label_list.specs.declared.part.Part.TheVariants as P
use Rattle.label_list.specs.Parts.{label_of, labels_of, times_of}
use Rattle.search_text.specs.AnswerText.{step_line, steps_text}
use Rattle.search_text.specs.OpenSteps.{open_labels, text_from}
use Rattle.search_text.specs.Steps.{are_one, is_same_object, local_of, other_than_local, steps, with_step}
use Rattle.search_text.specs.declared.steps.Locals.{Locals}

-- a label that is not one with the next has a step of its own
apart : (l m : Label) (ms : List Label) → are_one l m ≡ false → steps (l ∷ m ∷ ms) ≡ (l, 1) ∷ steps (m ∷ ms)
apart l m ms e = by (steps ms)
  where
    own : (k : ℕ) (ss : List (Label × ℕ)) → with_step l ((m, k) ∷ ss) ≡ (l, 1) ∷ (m, k) ∷ ss
    own k ss = ap (λ b. cond b ((l, suc k) ∷ ss) ((l, 1) ∷ (m, k) ∷ ss)) e

    by : (ss : List (Label × ℕ)) → with_step l (with_step m ss) ≡ (l, 1) ∷ with_step m ss
    by [] = own 1 []
    by (s ∷ rest) = by_test (are_one m s.0)
      where
        by_test : (b : Bool) → with_step l (cond b ((m, suc s.1) ∷ rest) ((m, 1) ∷ s ∷ rest)) ≡ (l, 1) ∷ cond b ((m, suc s.1) ∷ rest) ((m, 1) ∷ s ∷ rest)
        by_test true = own (suc s.1) rest
        by_test false = own 1 (s ∷ rest)

-- a label that is not local has a step of its own
alone : (m : Label) (ms : List Label) → local_of m ≡ None → steps (m ∷ ms) ≡ (m, 1) ∷ steps ms
alone m ms none = by (steps ms)
  where
    by : (ss : List (Label × ℕ)) → with_step m ss ≡ (m, 1) ∷ ss
    by [] = refl
    by (s ∷ rest) = ap (λ o. cond (is_same_object o (local_of s.0)) ((m, suc s.1) ∷ rest) ((m, 1) ∷ s ∷ rest)) none

module _ (names : List Text) (o : ℕ) where
  -- so many local transitions, before labels with steps of their own
  counted : (n : ℕ) (ms : List Label) → steps (L.Local o ∷ ms) ≡ (L.Local o, 1) ∷ steps ms → steps (replicate (suc n) (L.Local o) ++ ms) ≡ (L.Local o, suc n) ∷ steps ms
  counted zero ms own = own
  counted (suc n) ms own =
      let itself : (o == o) ≡ true = grind (arith, nat_tests) in
      ap (with_step (L.Local o)) (counted n ms own) ∙ ap (λ b. cond b ((L.Local o, suc (suc n)) ∷ steps ms) ((L.Local o, 1) ∷ (L.Local o, suc n) ∷ steps ms)) itself

  only : (n : ℕ) → steps (replicate (suc n) (L.Local o)) ≡ (L.Local o, suc n) ∷ []
  only n = ap steps (sym (append-nil (replicate (suc n) (L.Local o)))) ∙ counted n [] refl

  pub one_line : (n : ℕ) → 0 < n → step_line names (L.Local o, n) ≡ steps_text names (steps (replicate n (L.Local o)))
  one_line zero some = absurd (omega arith)
  one_line (suc n) some = sym (ap (steps_text names) (only n) ∙ append-nil (step_line names (L.Local o, suc n)))

  closed : (n : ℕ) (ms : List Label) → steps (L.Local o ∷ ms) ≡ (L.Local o, 1) ∷ steps ms
      → steps_text names (steps (replicate n (L.Local o) ++ ms)) ≡ steps_text names (steps (replicate n (L.Local o))) ++ steps_text names (steps ms)
  closed zero ms own = refl
  closed (suc n) ms own =
      ap (steps_text names) (counted n ms own) ∙ ap (λ (t : Text). t ++ steps_text names (steps ms)) (one_line (suc n) (omega arith))

more_locals : (l : Label) (n m : ℕ) (ls : List Label) → replicate (n + m) l ++ ls ≡ replicate n l ++ (replicate m l ++ ls)
more_locals l zero m ls = ap (λ k. replicate k l ++ ls) (let z : 0 + m ≡ m = omega arith in z)
more_locals l (suc n) m ls = ap (λ k. replicate k l ++ ls) (let z : suc n + m ≡ suc (n + m) = omega arith in z) ∙ ap (λ ms. l ∷ ms) (more_locals l n m ls)

module _ (names : List Text) (s : Locals) where
  -- the line of the local transitions is written before labels with steps of their own
  written_before : (old new : Text) (ls : List Label) → steps (L.Local s.object ∷ ls) ≡ (L.Local s.object, 1) ∷ steps ls → new ≡ old ++ steps_text names (steps (open_labels s))
      → new ++ steps_text names (steps ls) ≡ old ++ text_from names s ls
  written_before old new ls own wrote =
      ap (λ (t : Text). t ++ steps_text names (steps ls)) wrote ∙ append_assoc old (steps_text names (steps (open_labels s))) (steps_text names (steps ls))
      ∙ ap (λ (t : Text). old ++ t) (sym (closed names s.object s.times ls own))

  -- those of another object come next
  pub turned : (old new : Text) (q n : ℕ) (rest : List Label) → s.object ≢ q → 0 < n → new ≡ old ++ steps_text names (steps (open_labels s))
      → new ++ steps_text names (steps (replicate n (L.Local q) ++ rest)) ≡ old ++ text_from names s (replicate n (L.Local q) ++ rest)
  turned old new q zero rest other some wrote = absurd (omega arith)
  turned old new q (suc n) rest other some wrote =
      written_before old new (replicate (suc n) (L.Local q) ++ rest) (apart (L.Local s.object) (L.Local q) (replicate n (L.Local q) ++ rest) (let e : (s.object == q) ≡ false = grind (arith, nat_tests, other) in e)) wrote

  -- a part that is not local transitions comes next
  pub passed : (old mid new : Text) (p : Part) (rest : List Label) → local_of (label_of p) ≡ None → mid ≡ old ++ steps_text names (steps (open_labels s))
      → new ≡ mid ++ step_line names (label_of p, 1) → new ++ steps_text names (steps rest) ≡ old ++ text_from names s (labels_of p ++ rest)
  passed old mid new p rest none wrote more =
      let l = label_of p in
      ap (λ (t : Text). t ++ steps_text names (steps rest)) more ∙ append_assoc mid (step_line names (l, 1)) (steps_text names (steps rest))
      ∙ ap (λ (ss : List (Label × ℕ)). mid ++ steps_text names ss) (sym (alone l rest none))
      ∙ written_before old mid (l ∷ rest) (apart (L.Local s.object) l rest (ap (is_same_object (Some s.object)) none)) wrote
      ∙ ap (λ (n : ℕ). old ++ text_from names s (replicate n l ++ rest)) (sym (one_label p none))
    where
      one_label : (q : Part) → local_of (label_of q) ≡ None → times_of q ≡ 1
      one_label (P.Local o n) h = absurd (let z : Some o ≡ None = h in cc)
      one_label (P.Other m) h = refl

  -- local transitions of the same object come next
  pub added : (m : ℕ) (rest : List Label) → steps_text names (steps (replicate (s.times + m) (L.Local s.object) ++ rest)) ≡ text_from names s (replicate m (L.Local s.object) ++ rest)
  added m rest = ap (λ (ls : List Label). steps_text names (steps ls)) (more_locals (L.Local s.object) s.times m rest)

-- the labels of a part that are not local
pub counted_part : (p : Part) (ls : List Label) (b : Bool) → is_some (local_of (label_of p)) ≡ b → other_than_local (labels_of p ++ ls) ≡ cond b (other_than_local ls) (suc (other_than_local ls))
counted_part (P.Local o n) ls b is = by n ∙ ap (λ x. cond x (other_than_local ls) (suc (other_than_local ls))) is
  where
    by : (n : ℕ) → other_than_local (replicate n (L.Local o) ++ ls) ≡ other_than_local ls
    by zero = refl
    by (suc n) = by n
counted_part (P.Other l) ls b is = ap (λ x. cond x (other_than_local ls) (suc (other_than_local ls))) is
