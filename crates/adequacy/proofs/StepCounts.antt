-- The transitions of a turn, counted from the last and from the first.
use Rattle.std.proofs.Common.{◌≡◌, refl, ap, ◌∙◌, ℕ, zero, suc, Option, Some, None, Bool, true, false, is_some, if◌then◌else◌}
use Rattle.run_types.specs.declared.types.Label.TheVariants as L
use Rattle.run_types.specs.declared.types.Placement.{Placement}
use Rattle.run_types.specs.Partial.{◌>>=◌}
use Rattle.mesh_semantics.specs.Language.{Language}
use Rattle.mesh_semantics.specs.Config.{Config}
use Rattle.mesh_semantics.specs.Moves.{move}
use Rattle.mesh_semantics.specs.Act.{greatest, local_steps, step_count, within_frames}
use Rattle.adequacy.specs.TurnSteps.{going_on, one_more}

-- a test of the numbers above 0 that is that of the numbers below each
counted : (t u : ℕ → Bool) → ((k : ℕ) → t (suc k) ≡ u k) → u 0 ≡ true → (n : ℕ) → greatest t (suc n) ≡ suc (greatest u n)
counted t u h z zero = rw (h 0, z) refl
counted t u h z (suc n) = rw (h (suc n)) (by (u (suc n)) (counted t u h z n))
  where
    by : (b : Bool) → greatest t (suc n) ≡ suc (greatest u n) → (if b then suc (suc n) else greatest t (suc n)) ≡ suc (if b then suc n else greatest u n)
    by true below = refl
    by false below = below

none_counted : (t : ℕ → Bool) → ((k : ℕ) → t (suc k) ≡ false) → (n : ℕ) → greatest t n ≡ 0
none_counted t h zero = refl
none_counted t h (suc n) = rw (h n) (none_counted t h n)

module _ {S : Type 0} (g : Language S) (l : Placement) (n o : ℕ) where
  -- one local transition that leaves the frames within the limit
  abbrev once : Config S → Option (Config S)
  once c = move g c (L.Local o) >>= within_frames g l n

  -- the first of them where one is made, and then the others
  after_one : (k : ℕ) (c e : Config S) → once c ≡ Some e → local_steps g l n o (suc k) c ≡ local_steps g l n o k e
  after_one zero c e h = h
  after_one (suc k) c e h = ap (λ z. z >>= once) (after_one k c e h)

  after_none : (k : ℕ) (c : Config S) → once c ≡ None → local_steps g l n o (suc k) c ≡ None
  after_none zero c h = h
  after_none (suc k) c h = ap (λ z. z >>= once) (after_none k c h)

  -- the count and the configuration are those of the first transition and of the rest
  abbrev pub Agrees : ℕ → Config S → ℕ × Config S → Type 0
  Agrees q c r = (step_count g l q n o c ≡ r.0) × (local_steps g l n o (step_count g l q n o c) c ≡ Some r.1)

  none_made : (q : ℕ) (c : Config S) → once c ≡ None → step_count g l q n o c ≡ 0
  none_made q c h = none_counted (λ k. is_some (local_steps g l n o k c)) (λ k. ap is_some (after_none k c h)) q

  one_made : (q : ℕ) (c e : Config S) → once c ≡ Some e → step_count g l (suc q) n o c ≡ suc (step_count g l q n o e)
  one_made q c e h = counted (λ k. is_some (local_steps g l n o k c)) (λ k. is_some (local_steps g l n o k e)) (λ k. ap is_some (after_one k c e h)) refl q

  pub agrees : (q : ℕ) (c : Config S) → Agrees q c (going_on g l n o q c)
  agrees zero c = (refl, refl)
  agrees (suc q) c = by (once c) refl (agrees q)
    where
      by : (r : Option (Config S)) → once c ≡ r → ((e : Config S) → Agrees q e (going_on g l n o q e))
          → Agrees (suc q) c (elim r as (λ e. ℕ × Config S) [ None ↦ (0, c) | Some e ↦ one_more (going_on g l n o q e) ])
      by None h rest = let i = none_made (suc q) c h in (i, rw i refl)
      by (Some e) h rest =
          let i = one_made q c e h in
          (i ∙ ap suc (rest e).0, ap (λ k. local_steps g l n o k c) i ∙ after_one (step_count g l q n o e) c e h ∙ (rest e).1)
