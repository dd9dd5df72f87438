-- A run is extended by one transition, and by the transitions of one line.
use Rattle.std.proofs.Common.{◌≡◌, refl, sym, ap, ◌∙◌, ℕ, zero, suc, ◌+◌, ◌<◌, List, [], ◌∷◌, ◌++◌, length, replicate, take, get_or, Some, append_assoc, append-nil, arith}
use Rattle.pool_syntax.specs.Terms.{ProgramTree}
use Rattle.run_types.specs.declared.types.Label.{Label}
use Rattle.run_types.specs.declared.types.Line.{Line}
use Rattle.pool_relation.specs.Configuration.{Configuration}
use Rattle.pool_relation.specs.Progress.{agent}
use Rattle.pool_relation.specs.Transition.{transition, run, start}
use Rattle.pool_relation.proofs.Laws.{joined}
use Rattle.mesh_semantics.specs.Record.{labels, labels_of}
use Rattle.run_types.proofs.Laws.{same_some, given_by}
use Rattle.pool_semantics.specs.Shown.{Shows}
use Rattle.run_types.specs.declared.verdicts.Redex.{Redex}
use Rattle.record_check.specs.RecordJudgement.{root, StopsAt}
use Rattle.record_check.specs.Verdicts.{StopsIn}

-- so often, and once more
pub one_more : (p : ProgramTree) (lab : Label) (k : ℕ) (c d e : Configuration) → run p c (replicate k lab) ≡ Some d → transition p d lab ≡ Some e → run p c (replicate (k + 1) lab) ≡ Some e
one_more p lab zero c d e h i = let same : c ≡ d = same_some h in let one : zero + 1 ≡ 1 = omega arith in ap (λ n. run p c (replicate n lab)) one ∙ rw same (rw i refl)
one_more p lab (suc k) c d e h i =
    let a = given_by (transition p c lab) (λ q. run p q (replicate k lab)) d h in
    let n : suc k + 1 ≡ suc (k + 1) = omega arith in
    ap (λ n. run p c (replicate n lab)) n ∙ rw a.1 (one_more p lab k a.0 d e a.2 i)

-- the labels of lines and one more
labels_more : (xs : List Line) (x : Line) → labels (xs ++ x ∷ []) ≡ labels xs ++ labels_of x
labels_more [] x = append-nil (labels_of x)
labels_more (y ∷ ys) x = ap (λ ls. labels_of y ++ ls) (labels_more ys x) ∙ sym (append_assoc (labels_of y) (labels ys) (labels_of x))

-- the first lines and the next
pub take_more : {A : Type 0} (xs : List A) (i : ℕ) (d : A) → i < length xs → take (i + 1) xs ≡ take i xs ++ get_or xs i d ∷ []
take_more [] i d h = absurd (omega arith)
take_more (x ∷ xs) zero d h = let one : zero + 1 ≡ 1 = omega arith in ap (λ n. take n (x ∷ xs)) one
take_more (x ∷ xs) (suc i) d h = let n : suc i + 1 ≡ suc (i + 1) = omega arith in ap (λ n. take n (x ∷ xs)) n ∙ ap (λ ys. x ∷ ys) (take_more xs i d (omega (arith, h)))

pub line_more : (p : ProgramTree) (ls : List Line) (i : ℕ) (x : Line) (c d e : Configuration) → i < length ls → get_or ls i x ≡ x → run p c (labels (take i ls)) ≡ Some d → run p d (labels_of x) ≡ Some e
    → run p c (labels (take (i + 1) ls)) ≡ Some e
line_more p ls i x c d e inside is h k =
    ap (λ xs. run p c (labels xs)) (take_more ls i x inside ∙ ap (λ y. take i ls ++ y ∷ []) is)
    ∙ (ap (run p c) (labels_more (take i ls) x) ∙ (joined p c d (labels (take i ls)) (labels_of x) h ∙ k))

-- lines that stop behind the start of their root
pub stops_of : (p : ProgramTree) (ls : List Line) (n : ℕ) (redex : Redex) (c d : Configuration) → start p (root ls) ≡ Some c → StopsIn p c ls n d redex
    → (e : Configuration) × (lab : Label) × StopsAt p ls n e lab × Shows p e (agent lab) redex
stops_of p ls n redex c d begins s = (
  d,
  s.stops.label,
  record {
    before = s.before;
    behind = s.behind;
    event = s.stops.event;
    made = s.stops.stops.made;
    times = s.stops.times;
    whole = s.whole ∙ ap (λ l. s.before ++ l ∷ s.behind) s.stops.is;
    fewer = s.stops.stops.fewer;
    from = c;
    starts = begins;
    leads = joined p c s.between (labels s.before) (replicate s.stops.stops.made s.stops.label) s.leads ∙ s.stops.stops.leads;
    impossible = s.stops.stops.impossible;
  },
  s.stops.stops.shows,
)
