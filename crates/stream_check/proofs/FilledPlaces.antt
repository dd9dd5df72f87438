-- Lines that were filled in are in place.
use Rattle.std.proofs.Common.{◌≡◌, refl, sym, subst, ℕ, List, [], ◌∷◌, ◌++◌, true, false}
use Rattle.run_types.specs.declared.types.Label.TheVariants as L
use Rattle.run_types.specs.declared.types.What.TheVariants as W
use Rattle.run_types.specs.declared.types.Line.{Line}
use Rattle.run_types.specs.declared.types.Line.TheVariants as R
use Rattle.stream_check.specs.Filled.{AreInPlace, HaveNoLocal, IsNeeded, shows_local}
use Rattle.stream_check.specs.FillProgress.{AreFillsOf, IsFillOf, IsNeededBy, renumbered}

pub fills_more : (P : ℕ → Type 0) (xs ys : List Line) → AreFillsOf P xs → AreFillsOf P ys → AreFillsOf P (xs ++ ys)
fills_more P [] ys a b = b
fills_more P (x ∷ xs) ys a b = (a.0, fills_more P xs ys a.1 b)

pub fills_weaker : (P Q : ℕ → Type 0) → ((q : ℕ) → P q → Q q) → (xs : List Line) → AreFillsOf P xs → AreFillsOf Q xs
fills_weaker P Q w [] a = tt
fills_weaker P Q w (x ∷ xs) a = (record { object = a.0.object; number = a.0.number; event = a.0.event; times = a.0.times; is = a.0.is; filled = a.0.filled; its = w a.0.object a.0.its }, fills_weaker P Q w xs a.1)

-- lines that were filled in do not hide what needs them
needed_behind : (P : ℕ → Type 0) (q : ℕ) (xs more : List Line) → AreFillsOf P xs → IsNeeded q more → IsNeeded q (xs ++ more)
needed_behind P q [] more a h = h
needed_behind P q (x ∷ xs) more a h = subst (λ (l : Line). IsNeeded q (l ∷ (xs ++ more))) (sym a.0.is) (needed_behind P q xs more a.1 h)

pub in_place_before : (P : ℕ → Type 0) (xs more : List Line) → AreFillsOf P xs → ((q : ℕ) → P q → IsNeeded q more) → AreInPlace more → AreInPlace (xs ++ more)
in_place_before P [] more a n h = h
in_place_before P (x ∷ xs) more a n h =
    let f : IsFillOf P x = a.0 in
    subst (λ (l : Line). AreInPlace (l ∷ (xs ++ more))) (sym f.is) (f.filled, needed_behind P f.object xs more a.1 (n f.object f.its), in_place_before P xs more a.1 n h)

-- what takes part in the transition of a line is needed before it
pub needed_at : (l : Line) (more : List Line) → shows_local l ≡ false → (q : ℕ) → IsNeededBy l q → IsNeeded q (l ∷ more)
needed_at (R.Event n e (W.Step (L.Local o) times)) more own q h = absurd (let z : true ≡ false = own in cc)
needed_at (R.Event n e (W.Step lab times)) more own q h = h
needed_at (R.Event n e what) more own q h = absurd h
needed_at (R.End end) more own q h = absurd h

needed_renumbered : (last : ℕ) (l : Line) (q : ℕ) → IsNeededBy l q → IsNeededBy (renumbered last l) q
needed_renumbered last (R.Event n e (W.Step lab times)) q h = h
needed_renumbered last (R.Event n e what) q h = absurd h
needed_renumbered last (R.End end) q h = absurd h

-- a line that is not of local transitions
pub own_in_place : (l : Line) (more : List Line) → shows_local l ≡ false → AreInPlace more → AreInPlace (l ∷ more)
own_in_place (R.Event n e (W.Step (L.Local o) times)) more own h = absurd (let z : true ≡ false = own in cc)
own_in_place (R.Event n e (W.Step lab times)) more own h = h
own_in_place (R.Event n e what) more own h = h
own_in_place (R.End end) more own h = h

pub own_renumbered : (last : ℕ) (l : Line) → shows_local l ≡ false → shows_local (renumbered last l) ≡ false
own_renumbered last (R.Event n e (W.Step lab times)) own = own
own_renumbered last (R.Event n e what) own = refl
own_renumbered last (R.End end) own = refl

pub needed_before : (l : Line) (last : ℕ) (more : List Line) → shows_local l ≡ false → (q : ℕ) → IsNeededBy l q → IsNeeded q (renumbered last l ∷ more)
needed_before l last more own q h = needed_at (renumbered last l) more (own_renumbered last l own) q (needed_renumbered last l q h)

-- lines without local transitions
pub all_own : (ls : List Line) → HaveNoLocal ls → AreInPlace ls
all_own [] h = tt
all_own (l ∷ ls) h = own_in_place l ls h.0 (all_own ls h.1)

pub own_more : (xs ys : List Line) → HaveNoLocal xs → HaveNoLocal ys → HaveNoLocal (xs ++ ys)
own_more [] ys a b = b
own_more (x ∷ xs) ys a b = (a.0, own_more xs ys a.1 b)
