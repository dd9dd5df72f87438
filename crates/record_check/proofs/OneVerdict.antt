-- A record has at most one verdict.
-- A run has only `yes`, the first impossible label is unique, and so is the least object that moves.
use Rattle.std.proofs.Common.{◌≡◌, refl, sym, ap, ap₂, subst, ◌∙◌, ℕ, zero, suc, ◌<◌, List, [], ◌∷◌, ◌++◌, replicate, Some, None, append_assoc, arith}
use Rattle.pool_syntax.specs.Terms.{ProgramTree}
use Rattle.run_types.specs.declared.types.Label.{Label}
use Rattle.run_types.specs.declared.types.Line.{Line}
use Rattle.run_types.specs.declared.types.Line.TheVariants as R
use Rattle.run_types.specs.declared.types.What.TheVariants as W
use Rattle.pool_relation.specs.Configuration.{Configuration}
use Rattle.pool_relation.specs.Progress.{agent, HasOwnTransition}
use Rattle.pool_relation.specs.Transition.{transition, run, start}
use Rattle.pool_relation.proofs.Laws.{joined}
use Rattle.run_types.specs.Partial.{◌>>=◌}
use Rattle.mesh_semantics.specs.Record.{labels, labels_of}
use Rattle.run_types.proofs.Laws.{same_some}
use Rattle.pool_semantics.specs.Shown.{Shows, shown_at}
use Rattle.run_types.specs.declared.verdicts.Redex.{Redex}
use Rattle.run_types.specs.declared.verdicts.Verdict.{Verdict}
use Rattle.run_types.specs.declared.verdicts.Verdict.TheVariants as V
use Rattle.record_check.specs.RecordJudgement.{root, IsRunOf, LeadsTo, StopsAt, StillMoves, Judged}

pub labels_split : (xs ys : List Line) → labels (xs ++ ys) ≡ labels xs ++ labels ys
labels_split [] ys = refl
labels_split (x ∷ xs) ys = ap (λ ls. labels_of x ++ ls) (labels_split xs ys) ∙ sym (append_assoc (labels_of x) (labels xs) (labels ys))

-- fewer of a label, the label, and the rest of them
replicate_split : (lab : Label) (made times : ℕ) → made < times → (rest : List Label) × (replicate times lab ≡ replicate made lab ++ lab ∷ rest)
replicate_split lab made zero h = absurd (omega (arith, h))
replicate_split lab zero (suc times) h = (replicate times lab, refl)
replicate_split lab (suc made) (suc times) h = let r = replicate_split lab made times (omega (arith, h)) in (r.0, ap (λ ls. lab ∷ ls) r.1)

-- the labels of lines that stop, with any behind them, lead nowhere
no_further : (p : ProgramTree) (ls : List Line) (n : ℕ) (d : Configuration) (lab : Label) (s : StopsAt p ls n d lab) (rest : List Label) → run p s.from (labels s.before ++ (replicate s.times lab ++ rest)) ≡ None
no_further p ls n d lab s rest =
    let r = replicate_split lab s.made s.times s.fewer in
    let front = labels s.before ++ replicate s.made lab in
    let all : labels s.before ++ (replicate s.times lab ++ rest) ≡ front ++ lab ∷ (r.0 ++ rest) =
    ap (λ xs. labels s.before ++ (xs ++ rest)) r.1
    ∙ (ap (λ xs. labels s.before ++ xs) (append_assoc (replicate s.made lab) (lab ∷ r.0) rest) ∙ sym (append_assoc (labels s.before) (replicate s.made lab) (lab ∷ (r.0 ++ rest)))) in
    ap (run p s.from) all ∙ (joined p s.from d front (lab ∷ (r.0 ++ rest)) s.leads ∙ ap (λ o. o >>= λ e. run p e (r.0 ++ rest)) s.impossible)

pub no_run : (p : ProgramTree) (ls : List Line) (n : ℕ) (d : Configuration) (lab : Label) (s : StopsAt p ls n d lab) → run p s.from (labels ls) ≡ None
no_run p ls n d lab s = ap (run p s.from) (ap labels s.whole ∙ labels_split s.before _) ∙ no_further p ls n d lab s (labels s.behind)

-- the start is one
pub same_start : (p : ProgramTree) (n : ℕ) (c d : Configuration) → start p n ≡ Some c → start p n ≡ Some d → c ≡ d
same_start p n c d h k = same_some (sym h ∙ k)

only_run : (p : ProgramTree) (ls : List Line) (n : ℕ) (d e : Configuration) (lab : Label) → StopsAt p ls n d lab → LeadsTo p ls e → ⊥
only_run p ls n d e lab s t =
    let same = same_start p (root ls) t.from s.from t.starts s.starts in
    let both : Some e ≡ None = sym (subst (λ c. run p c (labels ls) ≡ Some e) same t.leads) ∙ no_run p ls n d lab s in cc

pub only_yes : (p : ProgramTree) (ls : List Line) (v : Verdict) → IsRunOf p ls → Judged p ls v → v ≡ V.Yes
only_yes p ls V.Yes r j = refl
only_yes p ls (V.No number redex) r (d, lab, s, shows) = absurd (only_run p ls number d r.last lab s r.run_to)
only_yes p ls (V.Moving o) r m =
    let same = same_start p (root ls) r.run_to.from m.run_to.from r.run_to.starts m.run_to.starts in
    let last : r.last ≡ m.last = same_some (sym (subst (λ c. run p c (labels ls) ≡ Some r.last) same r.run_to.leads) ∙ m.run_to.leads) in
    let none : transition p m.last m.can.0 ≡ None = subst (λ c. transition p c m.can.0 ≡ None) last (r.rests m.quiet m.can.0) in
    let both : Some m.can.2 ≡ None = sym m.can.3 ∙ none in absurd (cc)

-- a list parted at two places: they are one, or one is before the other
data Parted {A : Type 0} (xs ys : List A) (x y : A) : Type 0 where
  one_place : xs ≡ ys → x ≡ y → Parted xs ys x y
  before : (mid : List A) → ys ≡ xs ++ x ∷ mid → Parted xs ys x y
  behind : (mid : List A) → xs ≡ ys ++ y ∷ mid → Parted xs ys x y

parted : {A : Type 0} (xs ys us vs : List A) (x y : A) → xs ++ x ∷ us ≡ ys ++ y ∷ vs → Parted xs ys x y
parted [] [] us vs x y e = let k : x ∷ us ≡ y ∷ vs = e in let h : x ≡ y = cc in one_place refl h
parted [] (z ∷ ys) us vs x y e = let k : x ∷ us ≡ z ∷ (ys ++ y ∷ vs) = e in let h : z ≡ x = cc in before ys (ap (λ w. w ∷ ys) h)
parted (z ∷ xs) [] us vs x y e = let k : z ∷ (xs ++ x ∷ us) ≡ y ∷ vs = e in let h : z ≡ y = cc in behind xs (ap (λ w. w ∷ xs) h)
parted (z ∷ xs) (w ∷ ys) us vs x y e =
    let k : z ∷ (xs ++ x ∷ us) ≡ w ∷ (ys ++ y ∷ vs) = e in
    let h : z ≡ w = cc in let t : xs ++ x ∷ us ≡ ys ++ y ∷ vs = cc in on h (parted xs ys us vs x y t)
  where
    on : z ≡ w → Parted xs ys x y → Parted (z ∷ xs) (w ∷ ys) x y
    on h (one_place i j) = one_place (ap₂ (λ a l. a ∷ l) h i) j
    on h (before mid i) = before mid (ap₂ (λ a l. a ∷ l) (sym h) i)
    on h (behind mid i) = behind mid (ap₂ (λ a l. a ∷ l) h i)

equal_of : (k l : ℕ) → ¬ (k < l) → ¬ (l < k) → k ≡ l
equal_of zero zero f g = refl
equal_of zero (suc l) f g = absurd (f (omega arith))
equal_of (suc k) zero f g = absurd (g (omega arith))
equal_of (suc k) (suc l) f g = ap suc (equal_of k l (λ h. f (omega (arith, h))) (λ h. g (omega (arith, h))))

-- the line that stops is one
record SameStop (n m : ℕ) (d e : Configuration) (lab mab : Label) : Type 0 where
  number : n ≡ m
  at : d ≡ e
  label : lab ≡ mab

module _ (p : ProgramTree) (ls : List Line) where
  -- no line behind a line that stops is reached
  not_behind : (n m : ℕ) (d e : Configuration) (lab mab : Label) (s : StopsAt p ls n d lab) (t : StopsAt p ls m e mab) (mid : List Line)
      → t.before ≡ s.before ++ R.Event n s.event (W.Step lab s.times) ∷ mid → ⊥
  not_behind n m d e lab mab s t mid i =
      let same = same_start p (root ls) t.from s.from t.starts s.starts in
      let rest = labels mid ++ replicate t.made mab in
      let all : labels t.before ++ replicate t.made mab ≡ labels s.before ++ (replicate s.times lab ++ rest) =
      ap (λ xs. labels xs ++ replicate t.made mab) i
      ∙ (ap (λ xs. xs ++ replicate t.made mab) (labels_split s.before _)
      ∙ (append_assoc (labels s.before) (replicate s.times lab ++ labels mid) (replicate t.made mab)
      ∙ ap (λ xs. labels s.before ++ xs) (append_assoc (replicate s.times lab) (labels mid) (replicate t.made mab)))) in
      let both : Some e ≡ None = sym (subst (λ c. run p c (labels t.before ++ replicate t.made mab) ≡ Some e) same t.leads) ∙ (ap (run p s.from) all ∙ no_further p ls n d lab s rest) in cc

  -- of one label no more transitions were made than are possible
  no_more : (c d e : Configuration) (front : List Label) (lab : Label) (k l : ℕ) → run p c (front ++ replicate k lab) ≡ Some d → transition p d lab ≡ None → run p c (front ++ replicate l lab) ≡ Some e → k < l → ⊥
  no_more c d e front lab k l h none i lt =
      let r = replicate_split lab k l lt in
      let all : front ++ replicate l lab ≡ (front ++ replicate k lab) ++ lab ∷ r.0 = ap (λ xs. front ++ xs) r.1 ∙ sym (append_assoc front (replicate k lab) (lab ∷ r.0)) in
      let both : Some e ≡ None = sym i ∙ (ap (run p c) all ∙ (joined p c d (front ++ replicate k lab) (lab ∷ r.0) h ∙ ap (λ o. o >>= λ e. run p e r.0) none)) in cc

  same_stop : (n m : ℕ) (d e : Configuration) (lab mab : Label) → StopsAt p ls n d lab → StopsAt p ls m e mab → SameStop n m d e lab mab
  same_stop n m d e lab mab s t = by (parted s.before t.before s.behind t.behind _ _ (sym s.whole ∙ t.whole))
    where
      start_is : s.from ≡ t.from
      start_is = same_start p (root ls) s.from t.from s.starts t.starts

      one : s.before ≡ t.before → lab ≡ mab → d ≡ e
      one f l =
          let again : run p s.from (labels s.before ++ replicate t.made lab) ≡ Some e =
          subst (λ (c : Configuration). run p c (labels s.before ++ replicate t.made lab) ≡ Some e) (sym start_is)
          (subst (λ (x : Label). run p t.from (labels s.before ++ replicate t.made x) ≡ Some e) (sym l) (subst (λ (xs : List Line). run p t.from (labels xs ++ replicate t.made mab) ≡ Some e) (sym f) t.leads)) in
          let stuck : transition p e lab ≡ None = subst (λ (x : Label). transition p e x ≡ None) (sym l) t.impossible in
          let up : ¬ (s.made < t.made) = no_more s.from d e (labels s.before) lab s.made t.made s.leads s.impossible again in
          let down : ¬ (t.made < s.made) = no_more s.from e d (labels s.before) lab t.made s.made again stuck s.leads in
          let made : s.made ≡ t.made = equal_of s.made t.made up down in
          same_some (sym s.leads ∙ (ap (λ k. run p s.from (labels s.before ++ replicate k lab)) made ∙ again))

      by : Parted s.before t.before (R.Event n s.event (W.Step lab s.times)) (R.Event m t.event (W.Step mab t.times)) → SameStop n m d e lab mab
      by (one_place f i) = let number : n ≡ m = cc in let label : lab ≡ mab = cc in record { number = number; at = one f label; label = label }
      by (before mid i) = absurd (not_behind n m d e lab mab s t mid i)
      by (behind mid i) = absurd (not_behind m n e d mab lab t s mid i)

  same_redex : (n m : ℕ) (d e : Configuration) (lab mab : Label) (r q : Redex) → SameStop n m d e lab mab → Shows p d (agent lab) r → Shows p e (agent mab) q → V.No n r ≡ V.No m q
  same_redex n m d e lab mab r q s h k =
      let at : shown_at p d (agent lab) ≡ shown_at p e (agent mab) = ap₂ (λ c l. shown_at p c (agent l)) s.at s.label in
      let redex : r ≡ q = same_some (sym h ∙ (at ∙ k)) in ap₂ V.No s.number redex

  same_least : (o q : ℕ) → StillMoves p ls o → StillMoves p ls q → o ≡ q
  same_least o q m n =
      let same = same_start p (root ls) m.run_to.from n.run_to.from m.run_to.starts n.run_to.starts in
      let last : m.last ≡ n.last = same_some (sym (subst (λ c. run p c (labels ls) ≡ Some m.last) same m.run_to.leads) ∙ n.run_to.leads) in
      equal_of o q (λ h. n.least o h (subst (λ (c : Configuration). HasOwnTransition p c o) last m.can)) (λ h. m.least q h (subst (λ (c : Configuration). HasOwnTransition p c q) (sym last) n.can))

  pub one_verdict : (v w : Verdict) → Judged p ls v → Judged p ls w → v ≡ w
  one_verdict V.Yes w j k = sym (only_yes p ls w j k)
  one_verdict v V.Yes j k = only_yes p ls v k j
  one_verdict (V.No n r) (V.No m q) (d, lab, s, h) (e, mab, t, k) = same_redex n m d e lab mab r q (same_stop n m d e lab mab s t) h k
  one_verdict (V.No n r) (V.Moving o) (d, lab, s, h) m = absurd (only_run p ls n d m.last lab s m.run_to)
  one_verdict (V.Moving o) (V.No n r) m (d, lab, s, h) = absurd (only_run p ls n d m.last lab s m.run_to)
  one_verdict (V.Moving o) (V.Moving q) m n = ap V.Moving (same_least o q m n)
