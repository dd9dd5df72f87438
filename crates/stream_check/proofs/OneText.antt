-- The bytes of a stream determine what is written for them, and why the judge stops.
use Rattle.std.proofs.Common.{◌≡◌, ◌≢◌, refl, sym, ap, ap₂, subst, ◌∙◌, ℕ, zero, suc, List, [], ◌∷◌, ◌++◌, replicate, Option, Some, None, Bool, true, false, ◌||◌, arith}
use Rattle.std.proofs.lemmas.List.Folds.{list_any-append}
use Rattle.text_scan.specs.Text.{Text}
use Rattle.run_types.specs.declared.types.Label.{Label}
use Rattle.run_types.specs.declared.types.Line.{Line}
use Rattle.run_types.specs.declared.types.Line.TheVariants as R
use Rattle.run_types.specs.declared.types.What.TheVariants as W
use Rattle.run_types.specs.declared.verdicts.Verdict.{Verdict}
use Rattle.run_types.specs.declared.verdicts.Verdict.TheVariants as V
use Rattle.pool_syntax.specs.Terms.{ProgramTree}
use Rattle.pool_relation.specs.Configuration.{Configuration}
use Rattle.pool_relation.specs.Transition.{run, start}
use Rattle.pool_relation.proofs.Laws.{none_joined}
use Rattle.run_types.proofs.Laws.{same_some}
use Rattle.mesh_semantics.specs.Record.{labels}
use Rattle.record_writer.specs.WrittenText.{writes_text}
use Rattle.record_check.specs.RecordJudgement.{Judged, LeadsTo, StopsAt, root}
use Rattle.record_check.specs.VerdictText.{verdict_text}
use Rattle.record_check.proofs.Laws.{labels_split, no_run, same_start}
use Rattle.run_record.specs.declared.fault.RecordFault.{RecordFault}
use Rattle.run_record.specs.Records.{is_end}
use Rattle.stream_check.specs.declared.judge.Stop.{Stop}
use Rattle.stream_check.specs.declared.judge.Stop.TheVariants as S
use Rattle.stream_check.specs.Followed.{EndsWith, IsFollowed, IsFront, IsJudged}
use Rattle.stream_check.specs.Stream.{has_end, stream_fault, stream_lines, whole_lines}
use Rattle.stream_check.proofs.NextLine.{root_stays}
use Rattle.stream_check.proofs.StreamRows.{end_faultless}

-- lists that are cut before an item are equal if neither has that of the other
cut_same : {A : Type 0} (xs ys us vs : List A) (x y : A) → xs ++ x ∷ us ≡ ys ++ y ∷ vs → ((mid : List A) → ys ≡ xs ++ x ∷ mid → ⊥) → ((mid : List A) → xs ≡ ys ++ y ∷ mid → ⊥) → xs ≡ ys
cut_same [] [] us vs x y e f g = refl
cut_same [] (z ∷ ys) us vs x y e f g = let k : x ∷ us ≡ z ∷ (ys ++ y ∷ vs) = e in let h : z ≡ x = cc in absurd (f ys (ap (λ w. w ∷ ys) h))
cut_same (z ∷ xs) [] us vs x y e f g = let k : z ∷ (xs ++ x ∷ us) ≡ y ∷ vs = e in let h : z ≡ y = cc in absurd (g xs (ap (λ w. w ∷ xs) h))
cut_same (z ∷ xs) (w ∷ ys) us vs x y e f g =
    let k : z ∷ (xs ++ x ∷ us) ≡ w ∷ (ys ++ y ∷ vs) = e in
    let h : z ≡ w = cc in
    let t : xs ++ x ∷ us ≡ ys ++ y ∷ vs = cc in
    ap₂ (λ a l. a ∷ l) h (cut_same xs ys us vs x y t (λ mid i. f mid (ap₂ (λ a l. a ∷ l) (sym h) i)) (λ mid i. g mid (ap₂ (λ a l. a ∷ l) h i)))

front_same : {A : Type 0} (xs ys : List A) (x y : A) → xs ++ x ∷ [] ≡ ys ++ y ∷ [] → xs ≡ ys
front_same xs ys x y e = cut_same xs ys [] [] x y e (λ mid i. longer xs mid x y (sym (e ∙ ap (λ zs. zs ++ y ∷ []) i))) (λ mid i. longer ys mid y x (sym (ap (λ zs. zs ++ x ∷ []) i) ∙ e))
  where
    longer : {A : Type 0} (xs mid : List A) (x y : A) → (xs ++ x ∷ mid) ++ y ∷ [] ≡ xs ++ x ∷ [] → ⊥
    longer [] [] x y e = let k : x ∷ y ∷ [] ≡ x ∷ [] = e in cc
    longer [] (z ∷ mid) x y e = let k : x ∷ z ∷ (mid ++ y ∷ []) ≡ x ∷ [] = e in cc
    longer (z ∷ xs) mid x y e = let k : z ∷ ((xs ++ x ∷ mid) ++ y ∷ []) ≡ z ∷ (xs ++ x ∷ []) = e in longer xs mid x y (cc)

module _ (p : ProgramTree) (ls : List Line) where
  -- lines that stop lead nowhere
  not_both : (d : Configuration) → LeadsTo p ls d → (n : ℕ) (e : Configuration) (lab : Label) → StopsAt p ls n e lab → ⊥
  not_both d t n e lab s =
      let same = same_start p (root ls) t.from s.from t.starts s.starts in
      let both : Some d ≡ None = sym (subst (λ c. run p c (labels ls) ≡ Some d) same t.leads) ∙ no_run p ls n e lab s in cc

  -- a line that stops is not among the lines before the other
  not_before : (n m : ℕ) (d e : Configuration) (lab mab : Label) (s : StopsAt p ls n d lab) (t : StopsAt p ls m e mab) (mid : List Line)
      → t.before ≡ s.before ++ R.Event n s.event (W.Step lab s.times) ∷ mid → ⊥
  not_before n m d e lab mab s t mid i =
      let rest = R.Event m t.event (W.Step mab t.times) ∷ t.behind in
      let name : root t.before ≡ root ls = sym (ap root t.whole ∙ root_stays t.before rest some) in
      let stops : StopsAt p t.before n d lab =
      record {
        before = s.before;
        behind = mid;
        event = s.event;
        made = s.made;
        times = s.times;
        whole = i;
        fewer = s.fewer;
        from = s.from;
        starts = ap (start p) name ∙ s.starts;
        leads = s.leads;
        impossible = s.impossible;
      } in
      let same = same_start p (root ls) t.from s.from t.starts s.starts in
      let none : run p s.from (labels t.before ++ replicate t.made mab) ≡ None =
      none_joined p s.from (labels t.before) (replicate t.made mab) (no_run p t.before n d lab stops) in
      let both : Some e ≡ None = sym (subst (λ c. run p c (labels t.before ++ replicate t.made mab) ≡ Some e) same t.leads) ∙ none in cc
    where
      nonempty : (k : ℕ) (xs ys : List Label) → s.times ≡ k → xs ++ (replicate s.times lab ++ ys) ≢ []
      nonempty zero xs ys e z = omega (arith, s.fewer, e)
      nonempty (suc k) [] ys e z = let w : lab ∷ (replicate k lab ++ ys) ≡ [] = ap (λ j. replicate j lab ++ ys) (sym e) ∙ z in cc
      nonempty (suc k) (x ∷ xs) ys e z = let w : x ∷ (xs ++ (replicate s.times lab ++ ys)) ≡ [] = z in cc

      some : labels t.before ≢ []
      some z = nonempty s.times (labels s.before) (labels mid) refl (sym (ap labels i ∙ labels_split s.before (R.Event n s.event (W.Step lab s.times) ∷ mid)) ∙ z)

  same_before : (n m : ℕ) (d e : Configuration) (lab mab : Label) (s : StopsAt p ls n d lab) (t : StopsAt p ls m e mab) → s.before ≡ t.before
  same_before n m d e lab mab s t =
      cut_same s.before t.before s.behind t.behind _ _ (sym s.whole ∙ t.whole) (not_before n m d e lab mab s t) (not_before m n e d mab lab t s)

-- lines with an end have one
ended : (ls before : List Line) → EndsWith ls before → has_end ls ≡ true
ended ls before e = ap has_end e.whole ∙ (list_any-append is_end before (R.End e.end ∷ []) ∙ by (has_end before))
  where
    by : (b : Bool) → (b || true) ≡ true
    by true = refl
    by false = refl

module _ (p : ProgramTree) (names : List Text) (s : Text) where
  abbrev ls : List Line
  ls = stream_lines names s

  judged : (t : Text) (v : Verdict) → IsJudged p names ls t v → Judged p ls v
  judged t V.Yes h = h.0
  judged t (V.No n redex) h = (h.0, h.1, h.2, h.3)
  judged t (V.Moving o) h = h.0

  -- lines that are all possible and have no end are not judged
  unjudged : (t : Text) (v : Verdict) → has_end ls ≡ false → IsFront p ls → IsJudged p names ls t v → ⊥
  unjudged t V.Yes none front h = let z : true ≡ false = sym h.1 ∙ none in cc
  unjudged t (V.No n redex) none front h = not_both p ls front.0 front.1 n h.0 h.1 h.2
  unjudged t (V.Moving o) none front h = let z : true ≡ false = sym (ended ls h.1.0 h.1.1) ∙ none in cc

  -- nor are lines with a fault behind them
  unfaulty : (t : Text) (v : Verdict) (f : RecordFault) → stream_fault s ≡ Some f → IsFront p ls → IsJudged p names ls t v → ⊥
  unfaulty t V.Yes f fault front h = let z : Some f ≡ None = sym fault ∙ end_faultless names 0 (whole_lines s) h.1 in cc
  unfaulty t (V.No n redex) f fault front h = not_both p ls front.0 front.1 n h.0 h.1 h.2
  unfaulty t (V.Moving o) f fault front h = let z : Some f ≡ None = sym fault ∙ end_faultless names 0 (whole_lines s) (ended ls h.1.0 h.1.1) in cc

  same_text : (t u : Text) (v w : Verdict) → v ≡ w → IsJudged p names ls t v → IsJudged p names ls u w → t ≡ u
  same_text t u V.Yes V.Yes e h k = h.2 ∙ sym k.2
  same_text t u (V.No n r) (V.No m q) e h k =
      h.4
      ∙ (ap (λ v. writes_text names h.2.before ++ verdict_text names v) e
      ∙ (ap (λ xs. writes_text names xs ++ verdict_text names (V.No m q)) (same_before p ls n m h.0 k.0 h.1 k.1 h.2 k.2) ∙ sym k.4))
  same_text t u (V.Moving o) (V.Moving q) e h k =
      let same : h.1.0 ≡ k.1.0 = front_same h.1.0 k.1.0 _ _ (sym h.1.1.whole ∙ k.1.1.whole) in
      h.1.2 ∙ (ap (λ v. writes_text names h.1.0 ++ verdict_text names v) e ∙ (ap (λ xs. writes_text names xs ++ verdict_text names (V.Moving q)) same ∙ sym k.1.2))
  same_text t u V.Yes (V.No m q) e h k = absurd (cc)
  same_text t u V.Yes (V.Moving q) e h k = absurd (cc)
  same_text t u (V.No n r) V.Yes e h k = absurd (cc)
  same_text t u (V.No n r) (V.Moving q) e h k = absurd (cc)
  same_text t u (V.Moving o) V.Yes e h k = absurd (cc)
  same_text t u (V.Moving o) (V.No m q) e h k = absurd (cc)

  pub one_text : ((v w : Verdict) → Judged p ls v → Judged p ls w → v ≡ w) → (t u : Text) (a b : Option Stop) → IsFollowed p names s t a → IsFollowed p names s u b → (t ≡ u) × (a ≡ b)
  one_text one t u None None h k = (h.3 ∙ sym k.3, refl)
  one_text one t u None (Some (S.Faulty f)) h k = absurd (let z : None ≡ Some f = sym h.0 ∙ k.0 in cc)
  one_text one t u None (Some (S.Judged w)) h k = absurd (unjudged u w h.1 h.2 k)
  one_text one t u (Some (S.Faulty f)) None h k = absurd (let z : None ≡ Some f = sym k.0 ∙ h.0 in cc)
  one_text one t u (Some (S.Faulty f)) (Some (S.Faulty g)) h k = (h.2 ∙ sym k.2, ap (λ x. Some (S.Faulty x)) (same_some (sym h.0 ∙ k.0)))
  one_text one t u (Some (S.Faulty f)) (Some (S.Judged w)) h k = absurd (unfaulty u w f h.0 h.1 k)
  one_text one t u (Some (S.Judged v)) None h k = absurd (unjudged t v k.1 k.2 h)
  one_text one t u (Some (S.Judged v)) (Some (S.Faulty g)) h k = absurd (unfaulty t v g k.0 k.1 h)
  one_text one t u (Some (S.Judged v)) (Some (S.Judged w)) h k =
      let same = one v w (judged t v h) (judged u w k) in (same_text t u v w same h k, ap (λ x. Some (S.Judged x)) same)
