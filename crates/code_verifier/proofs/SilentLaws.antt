-- A walk along silent instructions ends, or returns to a place that it has visited.
use Rattle.std.proofs.Common.{◌≡◌, ◌≢◌, ◌⊎◌, inl, inr, refl, sym, ap, subst, ◌∙◌, ℕ, zero, suc, ◌<◌, ◌≤◌, List, [], ◌∷◌, length, get_or, Option, Some, None, Bool, true, false, not, ◌==◌, arith}
use Rattle.std.specs.Prelude.{slice_get, slice_set}
use Rattle.std.specs.List.{sum_by}
use Rattle.std.proofs.lemmas.List.{length-set}
use Rattle.std.proofs.lemmas.List.Sums.{sum_by-set}
use Rattle.std.proofs.lemmas.Option.{get_or_from_slice_get, slice_get-get_or, slice_get_past, slice_get_within}
use Rattle.run_types.proofs.Laws.{equal, equals, same_some}
use Rattle.code_semantics.specs.declared.unit.Instr.{Instr}
use Rattle.code_semantics.specs.ReachedPlaces.{Chain, silent_to}
use Rattle.code_typing.specs.Sorts.{CodeScope}
use Rattle.code_typing.specs.Verdict.{has_no_circle, silence_ends}
use Rattle.code_typing.proofs.Laws.{chain_front, chain_goes_on, is_calm, no_circle_is, rounds, silent_within}
use Rattle.code_verifier.specs.Silent.{ChainEnds, IsMarked, IsWalked, MarkSays}
use Rattle.code_verifier.specs.declared.circles.Mark.{Mark}
use Rattle.code_verifier.specs.declared.circles.Mark.TheVariants as M

-- some place of code
nowhere : CodeScope
nowhere = record {
  file = record { unit = record { names = []; classes = [] }; kinds = record { classes = [] } };
  class = record { code = record { name = record { 0 = 0 }; vars = 0; methods = []; body = record { frame_words = 0; code = [] } }; kinds = record { vars = []; methods = [] } };
  temps = [];
  value = None;
}

-- from so many marks a walk goes on
abbrev pub steps : Mark → ℕ
steps (M.Next n) = 1
steps M.Ends = 0
steps (M.Walked w) = 0

abbrev pub steps_left : List Mark → ℕ
steps_left marks = sum_by steps marks

pub steps_less : (marks : List Mark) (at n w : ℕ) → slice_get marks at ≡ Some (M.Next n) → steps_left (slice_set marks at (M.Walked w)) < steps_left marks
steps_less marks at n w e =
    let one : steps (get_or marks at M.Ends) ≡ 1 = ap steps (get_or_from_slice_get marks at (M.Next n) M.Ends e) in
    omega (arith, one, sum_by-set steps marks at (M.Walked w) M.Ends (slice_get_within marks at (M.Next n) e))

past_marks : (marks : List Mark) (n : ℕ) → slice_get marks n ≡ None → length marks ≤ n
past_marks [] n e = omega arith
past_marks (m ∷ marks) zero e = absurd (cc)
past_marks (m ∷ marks) (suc n) e = let h = past_marks marks n e in omega (arith, h)

-- what is read after a write
read_back : (marks : List Mark) (n : ℕ) (x : Mark) (at : ℕ) (m : Mark) → slice_get (slice_set marks n x) at ≡ Some m → ((at ≢ n) × (slice_get marks at ≡ Some m)) ⊎ ((at ≡ n) × (x ≡ m))
read_back [] n x at m e = absurd (cc)
read_back (y ∷ marks) zero x zero m e = inr (refl, same_some e)
read_back (y ∷ marks) zero x (suc at) m e = inl ((λ q. omega (arith, q)), e)
read_back (y ∷ marks) (suc n) x zero m e = inl ((λ q. omega (arith, q)), e)
read_back (y ∷ marks) (suc n) x (suc at) m e = by (read_back marks n x at m e)
  where
    by : ((at ≢ n) × (slice_get marks at ≡ Some m)) ⊎ ((at ≡ n) × (x ≡ m)) → ((suc at ≢ suc n) × (slice_get marks at ≡ Some m)) ⊎ ((suc at ≡ suc n) × (x ≡ m))
    by (inl h) = inl ((λ q. h.0 (omega (arith, q))), h.1)
    by (inr h) = inr (ap suc h.0, h.1)

module _ (c : List Instr) where
  -- one more silent instruction
  chain_more : (n a b d : ℕ) → Chain c n a b → silent_to b (slice_get c b) ≡ Some d → Chain c (suc n) a d
  chain_more zero a b d h e = (d, ap (λ x. silent_to x (slice_get c x)) h ∙ e, refl)
  chain_more (suc n) a b d h e = (h.0, h.1, chain_more n h.0 b d h.2 e)

  ends_here : (a : ℕ) → silent_to a (slice_get c a) ≡ None → ChainEnds c a
  ends_here a e = (1, ap (silence_ends 0 c) e)

  ends_before : (n a b : ℕ) → Chain c n a b → ChainEnds c b → ChainEnds c a
  ends_before zero a b h e = subst (ChainEnds c) (sym h) e
  ends_before (suc n) a b h e = let r = ends_before n h.0 b h.2 e in (suc r.0, ap (silence_ends r.0 c) h.1 ∙ r.1)

  -- a chain that ends does not come back
  ends_once : (at n : ℕ) → ChainEnds c at → ¬ (Chain c (suc n) at at)
  ends_once at n e k =
      let r = rounds nowhere c n at k e.0 in
      let f = chain_front nowhere c e.0 r.0 at at r.1 in
      let z : true ≡ false = sym e.1 ∙ chain_goes_on nowhere c e.0 at f.0 f.1 in cc

  -- what a mark says while the walk from a start has come to a place
  abbrev pub OnWay : ℕ → ℕ → ℕ → Mark → Type 0
  OnWay start place at M.Ends = silent_to at (slice_get c at) ≡ None
  OnWay start place at (M.Next n) = (start ≤ at) × (at ≡ start → at ≡ place) × (silent_to at (slice_get c at) ≡ Some n)
  OnWay start place at (M.Walked w) = ((w < start) × ChainEnds c at) ⊎ ((w ≡ start) × (n : ℕ) × Chain c (suc n) at place)

  abbrev pub AreOnWay : ℕ → ℕ → List Mark → Type 0
  AreOnWay start place marks = (length marks ≡ length c) × ((at : ℕ) (m : Mark) → slice_get marks at ≡ Some m → OnWay start place at m)

  pub walk_begins : (start : ℕ) (marks : List Mark) → IsMarked c start marks → AreOnWay start start marks
  walk_begins start marks h = (h.0, λ at m e. by at m (h.1 at m e))
    where
      by : (at : ℕ) (m : Mark) → MarkSays c start at m → OnWay start start at m
      by at M.Ends k = k
      by at (M.Next n) k = (k.0, (λ q. q), k.1)
      by at (M.Walked w) k = inl k

  pub walk_more : (start place next : ℕ) (marks : List Mark) → slice_get marks place ≡ Some (M.Next next) → AreOnWay start place marks
      → AreOnWay start next (slice_set marks place (M.Walked start))
  walk_more start place next marks there h = (length-set marks place (M.Walked start) ∙ h.0, λ at m e. by at m (read_back marks place (M.Walked start) at m e))
    where
      goes : silent_to place (slice_get c place) ≡ Some next
      goes = (h.1 place (M.Next next) there).2

      kept : (at : ℕ) (m : Mark) → at ≢ place → OnWay start place at m → OnWay start next at m
      kept at M.Ends q k = k
      kept at (M.Next n) q k = (k.0, (λ p. absurd (q (k.1 p))), k.2)
      kept at (M.Walked w) q (inl k) = inl k
      kept at (M.Walked w) q (inr k) = inr (k.0, suc k.1, chain_more (suc k.1) at place next k.2 goes)

      by : (at : ℕ) (m : Mark) → ((at ≢ place) × (slice_get marks at ≡ Some m)) ⊎ ((at ≡ place) × (M.Walked start ≡ m)) → OnWay start next at m
      by at m (inl k) = kept at m k.0 (h.1 at m k.1)
      by at m (inr k) = subst (OnWay start next at) k.1 (inr (refl, 0, (next, ap (λ x. silent_to x (slice_get c x)) k.0 ∙ goes, refl)))

  abbrev can_go_on : Option Mark → Bool
  can_go_on (Some (M.Next n)) = true
  can_go_on _ = false

  -- the walk ends, and so do the chains of its places
  all_end : (start place : ℕ) (marks : List Mark) → can_go_on (slice_get marks place) ≡ false → ChainEnds c place → AreOnWay start place marks → IsMarked c (suc start) marks
  all_end start place marks over ends h = (h.0, λ at m e. by at m e (h.1 at m e))
    where
      by : (at : ℕ) (m : Mark) → slice_get marks at ≡ Some m → OnWay start place at m → MarkSays c (suc start) at m
      by at M.Ends e k = k
      by at (M.Next n) e k = (beyond at k.0 (λ q. let z : true ≡ false = sym (ap can_go_on (ap (slice_get marks) (sym (k.1 q)) ∙ e)) ∙ over in cc), k.2)
        where
          beyond : (at : ℕ) → start ≤ at → (at ≡ start → ⊥) → suc start ≤ at
          beyond at le q = omega (arith, le, q)
      by at (M.Walked w) e (inl k) = (let lt = k.0 in omega (arith, lt), k.1)
      by at (M.Walked w) e (inr k) = (let q = k.0 in omega (arith, q), ends_before (suc k.1) at place k.2 ends)

  pub walk_past : (start place : ℕ) (marks : List Mark) → slice_get marks place ≡ None → AreOnWay start place marks → IsMarked c (suc start) marks
  walk_past start place marks e h =
      let past = past_marks marks place e in
      let size = h.0 in
      all_end start place marks (ap can_go_on e) (ends_here place (ap (silent_to place) (slice_get_past c place (omega (arith, past, size))))) h

  pub walk_ends : (start place : ℕ) (marks : List Mark) → slice_get marks place ≡ Some M.Ends → AreOnWay start place marks → IsMarked c (suc start) marks
  walk_ends start place marks e h = all_end start place marks (ap can_go_on e) (ends_here place (h.1 place M.Ends e)) h

  -- the walk comes to a place that a walk has come by
  pub walk_meets : (start place w : ℕ) (marks : List Mark) → slice_get marks place ≡ Some (M.Walked w) → AreOnWay start place marks
      → IsWalked c start (not (w == start)) marks
  walk_meets start place w marks e h = by (w == start) refl (h.1 place (M.Walked w) e)
    where
      by : (b : Bool) → (w == start) ≡ b → ((w < start) × ChainEnds c place) ⊎ ((w ≡ start) × (n : ℕ) × Chain c (suc n) place place) → IsWalked c start (not b) marks
      by false q (inl k) = all_end start place marks (ap can_go_on e) k.1 h
      by true q (inl k) = absurd (let p = equal w start q in let lt = k.0 in omega (arith, p, lt))
      by false q (inr k) = absurd (let z : false ≡ true = sym q ∙ ap (λ n. n == start) k.0 ∙ equals start in cc)
      by true q (inr k) = (place, k.1, k.2)

  -- after all walks no chain comes back
  pub walks_over : (marks : List Mark) → IsMarked c (length c) marks → has_no_circle c c 0 ≡ true
  walks_over marks h = is_calm nowhere c (λ at n k. ends_once at n (ends at (silent_within nowhere c at k.0 k.1)) k) c 0
    where
      ends : (at : ℕ) → at < length c → ChainEnds c at
      ends at lt = by (get_or marks at M.Ends) (h.1 at (get_or marks at M.Ends) (slice_get-get_or marks at M.Ends (let size = h.0 in omega (arith, lt, size))))
        where
          by : (m : Mark) → MarkSays c (length c) at m → ChainEnds c at
          by M.Ends k = ends_here at k
          by (M.Next n) k = absurd (let le = k.0 in omega (arith, lt, le))
          by (M.Walked w) k = k.1

  pub comes_back : (at n : ℕ) → Chain c (suc n) at at → has_no_circle c c 0 ≡ false
  comes_back at n k = by (has_no_circle c c 0) refl
    where
      by : (b : Bool) → has_no_circle c c 0 ≡ b → has_no_circle c c 0 ≡ false
      by false e = e
      by true e = absurd (no_circle_is nowhere c e at n k)
