-- What the labels of a part change, name and write.
use Rattle.std.proofs.Common.{◌≡◌, ◌∙◌, ◌<◌, ◌+◌, ℕ, zero, suc, List, [], ◌∷◌, ◌++◌, length, drop, get_or, replicate, Bool, true, false, ◌||◌, refl, ap, arith}
use Rattle.run_types.specs.declared.types.Label.{Label}
use Rattle.run_types.specs.declared.types.Label.TheVariants as L
use Rattle.label_list.specs.declared.part.Part.{Part}
use Rattle.label_list.specs.declared.part.Part.TheVariants as P
use Rattle.label_list.specs.Parts.{label_of, labels_in, labels_of, times_of}
use Rattle.label_list.proofs.Laws.{labels_left}
use Rattle.reachability.specs.Outcomes.{written}
use Rattle.reachability.specs.Search.{in_order}
use Rattle.search_laws.specs.ClosedBeside.{after_all}
use Rattle.search_laws.specs.Dead.{changes, some_changes}

pub or_true : (b : Bool) → (b || true) ≡ true
or_true true = refl
or_true false = refl

or_or : (a b d : Bool) → (a || (b || d)) ≡ ((a || b) || d)
or_or true b d = refl
or_or false b d = refl

or_same : (b : Bool) → (b || b) ≡ b
or_same true = refl
or_same false = refl

or_false : (b : Bool) → (b || false) ≡ b
or_false true = refl
or_false false = refl

-- what labels and other labels after them change
pub some_changes_in : (o : ℕ) (ls ms : List Label) → some_changes o (ls ++ ms) ≡ (some_changes o ls || some_changes o ms)
some_changes_in o [] ms = refl
some_changes_in o (l ∷ ls) ms = ap (λ b. changes o l || b) (some_changes_in o ls ms) ∙ or_or (changes o l) (some_changes o ls) (some_changes o ms)

-- what the parts that are left at a part change
pub changes_left : (o : ℕ) (ps : List Part) (at : ℕ) (p : Part) → at < length ps → p ≡ get_or ps at p
    → some_changes o (labels_in (drop at ps)) ≡ (some_changes o (labels_of p) || some_changes o (labels_in (drop (at + 1) ps)))
changes_left o ps at p inside is = ap (some_changes o) (labels_left ps at p inside is) ∙ some_changes_in o (labels_of p) (labels_in (drop (at + 1) ps))

-- a part changes what its label changes
changed_by_each : (o n : ℕ) (l : Label) → some_changes o (replicate (suc n) l) ≡ changes o l
changed_by_each o zero l = or_false (changes o l)
changed_by_each o (suc n) l = ap (λ b. changes o l || b) (changed_by_each o n l) ∙ or_same (changes o l)

pub part_changed : (o : ℕ) (p : Part) → 0 < times_of p → some_changes o (labels_of p) ≡ changes o (label_of p)
part_changed o p some = by (times_of p) some
  where
    by : (n : ℕ) → 0 < n → some_changes o (replicate n (label_of p)) ≡ changes o (label_of p)
    by zero h = absurd (omega arith)
    by (suc n) h = changed_by_each o n (label_of p)

-- the labels that are left at a part of local transitions
pub locals_left : (ps : List Part) (at : ℕ) (p : Part) (o n : ℕ) → at < length ps → p ≡ get_or ps at p → p ≡ P.Local o n
    → labels_in (drop at ps) ≡ replicate n (L.Local o) ++ labels_in (drop (at + 1) ps)
locals_left ps at p o n inside here is = labels_left ps at p inside here ∙ ap (λ (q : Part). labels_of q ++ labels_in (drop (at + 1) ps)) is

-- local transitions name no object, and write nothing
pub locals_in_order : (m n o : ℕ) (ls : List Label) → in_order m (replicate n (L.Local o) ++ ls) ≡ in_order m ls
locals_in_order m zero o ls = refl
locals_in_order m (suc n) o ls = locals_in_order m n o ls

pub after_locals : (m n o : ℕ) (ls : List Label) → after_all m (replicate n (L.Local o) ++ ls) ≡ after_all m ls
after_locals m zero o ls = refl
after_locals m (suc n) o ls = after_locals m n o ls

pub locals_write : (n o : ℕ) (ls : List Label) → written (replicate n (L.Local o) ++ ls) ≡ written ls
locals_write zero o ls = refl
locals_write (suc n) o ls = locals_write n o ls
