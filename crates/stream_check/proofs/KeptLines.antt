-- Lines with other numbers, and without those of local transitions.
use Rattle.std.proofs.Common.{◌≡◌, refl, sym, ap, ◌∙◌, ℕ, List, [], ◌∷◌, ◌++◌, true, false, append_assoc}
use Rattle.run_types.specs.declared.types.Label.{Label}
use Rattle.run_types.specs.declared.types.Label.TheVariants as L
use Rattle.run_types.specs.declared.types.What.TheVariants as W
use Rattle.run_types.specs.declared.types.Event.{Event}
use Rattle.run_types.specs.declared.types.End.{End}
use Rattle.run_types.specs.declared.types.End.TheVariants as E
use Rattle.run_types.specs.declared.types.Line.{Line}
use Rattle.run_types.specs.declared.types.Line.TheVariants as R
use Rattle.mesh_semantics.specs.Record.{EndsOnce, ends_quiet, labels, labels_of}
use Rattle.run_record.specs.Records.{done_of}
use Rattle.record_check.proofs.Laws.{labels_split}
use Rattle.stream_check.specs.Filled.{AreNumbered, is_local, shows_local, unnumbered_end, without_local, without_local_of}
use Rattle.stream_check.specs.FillProgress.{number_after, own_labels, renumbered, with_done}

-- the number of an end line
same_end : (k : ℕ) (e : End) → unnumbered_end (with_done k e) ≡ unnumbered_end e
same_end k (E.Quiet done) = refl
same_end k (E.Schedule done) = refl
same_end k (E.Full kind node done) = refl

pub kept_end : (k : ℕ) (e : End) → without_local (R.End (with_done k e) ∷ []) ≡ without_local (R.End e ∷ [])
kept_end k e = ap (λ x. R.End x ∷ []) (same_end k e)

done_is : (k : ℕ) (e : End) → done_of (with_done k e) ≡ k
done_is k (E.Quiet done) = refl
done_is k (E.Schedule done) = refl
done_is k (E.Full kind node done) = refl

-- a line with another number
pub kept_renumbered : (last : ℕ) (l : Line) → without_local_of (renumbered last l) ≡ without_local_of l
kept_renumbered last (R.Event n e (W.Step (L.Local o) times)) = refl
kept_renumbered last (R.Event n e what) = refl
kept_renumbered last (R.End end) = ap (λ x. R.End x ∷ []) (same_end last end)

pub shown_renumbered : (last : ℕ) (l : Line) → labels_of (renumbered last l) ≡ labels_of l
shown_renumbered last (R.Event n e what) = refl
shown_renumbered last (R.End end) = refl

pub numbered_push : (last : ℕ) (l : Line) (more : List Line) → AreNumbered (number_after last l) more → AreNumbered last (renumbered last l ∷ more)
numbered_push last (R.Event n e what) more h = (refl, h)
numbered_push last (R.End end) more h = (done_is last end, h)

-- lines after others
pub without_split : (xs ys : List Line) → without_local (xs ++ ys) ≡ without_local xs ++ without_local ys
without_split [] ys = refl
without_split (x ∷ xs) ys = ap (λ zs. without_local_of x ++ zs) (without_split xs ys) ∙ sym (append_assoc (without_local_of x) (without_local xs) (without_local ys))

pub own_is : (ls : List Line) → own_labels ls ≡ labels (without_local ls)
own_is [] = refl
own_is (l ∷ ls) = ap (λ xs. labels (without_local_of l) ++ xs) (own_is ls) ∙ sym (labels_split (without_local_of l) (without_local ls))

-- the end
pub quiet_without : (ls : List Line) → ends_quiet (without_local ls) ≡ ends_quiet ls
quiet_without [] = refl
quiet_without (R.Event n e (W.Step (L.Local o) times) ∷ ls) = quiet_without ls
quiet_without (R.Event n e what ∷ ls) = quiet_without ls
quiet_without (R.End (E.Quiet done) ∷ ls) = refl
quiet_without (R.End (E.Schedule done) ∷ ls) = quiet_without ls
quiet_without (R.End (E.Full kind node done) ∷ ls) = quiet_without ls

pub none_behind : (e : End) (ls : List Line) → EndsOnce (R.End e ∷ ls) → ls ≡ []
none_behind e [] h = refl
none_behind e (l ∷ ls) h = absurd h

-- lines with and without local transitions
pub local_gone : (l : Line) → shows_local l ≡ true → without_local_of l ≡ []
local_gone (R.Event n e (W.Step (L.Local o) times)) h = refl
local_gone (R.Event n e what) h = absurd (cc)
local_gone (R.End end) h = absurd (cc)

pub own_kept : (n : ℕ) (e : Event) (lab : Label) (times : ℕ) → is_local lab ≡ false → without_local_of (R.Event n e (W.Step lab times)) ≡ R.Event 0 e (W.Step lab times) ∷ []
own_kept n e (L.Local o) times h = absurd (cc)
own_kept n e lab times h = refl
