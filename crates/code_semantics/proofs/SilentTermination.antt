-- If no chain of silent instructions returns to its first place, every frame reaches a step instruction.
use Rattle.std.proofs.Common.{◌≡◌, ◌⊎◌, inl, inr, refl, sym, ap, ◌∙◌, subst, ℕ, zero, suc, ◌+◌, ◌<◌, List, length, Option, Some, None, arith}
use Rattle.std.specs.Prelude.{slice_get}
use Rattle.std.proofs.lemmas.Option.{slice_get_within}
use Rattle.run_types.specs.declared.types.Serves.{Serves}
use Rattle.run_types.specs.declared.types.Serves.TheVariants as S
use Rattle.code_semantics.specs.declared.unit.Instr.{Instr}
use Rattle.code_semantics.specs.declared.unit.Instr.TheVariants as I
use Rattle.run_types.specs.declared.frames.Frame.{Frame}
use Rattle.code_semantics.specs.Frames.{next, post_passed, silent, go_on_with, settled_within, settled}
use Rattle.code_semantics.specs.ReachedPlaces.{silent_to, Chain}
use Rattle.run_types.proofs.Laws.{pigeons, Meets}

pub same_some : {X : Type 0} (a b : X) → Some a ≡ Some b → a ≡ b
same_some a b e = ap (λ o. elim o as (λ _. _) [ None ↦ a | Some x ↦ x ]) e

-- a frame that passes the end of a method's value serves no caller, and goes on
pub passed_is : (f g : Frame) (s : Serves) → post_passed f s ≡ Some g → next f f.operands ≡ g
passed_is f g S.Own e = same_some _ _ e
passed_is f g S.Sender e = same_some _ _ e
passed_is f g (S.Caller k n) e = absurd (grind (arith, e))

-- the place after a silent instruction
abbrev place_or : ℕ → Option ℕ → ℕ
place_or a None = a
place_or a (Some b) = b

module _ (c : List Instr) where
  abbrev go : ℕ → ℕ
  go a = place_or a (silent_to a (slice_get c a))

  -- the place after n silent instructions
  abbrev walk : ℕ → ℕ → ℕ
  walk zero a = a
  walk (suc n) a = walk n (go a)

  -- a silent instruction stands there
  abbrev IsSilent : ℕ → Type 0
  IsSilent a = silent_to a (slice_get c a) ≡ Some (go a)

  is_silent : (a b : ℕ) → silent_to a (slice_get c a) ≡ Some b → (go a ≡ b) × IsSilent a
  is_silent a b e = let same : go a ≡ b = ap (place_or a) e in (same, e ∙ ap Some (sym same))

  walk_on : (d n a : ℕ) → walk (n + d) a ≡ walk d (walk n a)
  walk_on d zero a = ap (λ m. walk m a) (let e : 0 + d ≡ d = omega arith in e)
  walk_on d (suc n) a = ap (λ m. walk m a) (let e : suc n + d ≡ suc (n + d) = omega arith in e) ∙ walk_on d n (go a)

  chain : (d b : ℕ) → ((j : ℕ) → j < d → IsSilent (walk j b)) → Chain c d b (walk d b)
  chain zero b all = refl
  chain (suc d) b all = (go b, all 0 (omega arith), chain d (go b) (λ j lt. all (suc j) (omega (arith, lt))))

  within : (a : ℕ) (i : Option Instr) (b : ℕ) → slice_get c a ≡ i → silent_to a i ≡ Some b → a < length c
  within a None b e h = absurd (grind (arith, h))
  within a (Some i) b e h = slice_get_within c a i e

  module _ (straight : (a n : ℕ) → Chain c (suc n) a a → ⊥) where
    -- not as many silent instructions as the code has, and one more
    ends : (a : ℕ) → ((j : ℕ) → j < suc (length c) → IsSilent (walk j a)) → ⊥
    ends a all = by (pigeons (length c) (λ j. walk j a) (λ j lt. within (walk j a) (slice_get c (walk j a)) (go (walk j a)) refl (all j lt)))
      where
        by : Meets (λ j. walk j a) (suc (length c)) → ⊥
        by m =
            let b = walk m.first a in
            let on : (j : ℕ) → walk (m.first + j) a ≡ walk j b = λ j. walk_on j m.first a in
            let e : suc (m.first + m.between) ≡ m.first + suc m.between = omega arith in
            let back : walk (suc m.between) b ≡ b = sym (on (suc m.between)) ∙ ap (λ j. walk j a) (sym e) ∙ sym m.same in
            straight b m.between
            (subst (Chain c (suc m.between) b) back
            (chain (suc m.between) b (λ j lt. subst IsSilent (on j) (all (m.first + j) (omega (arith, lt, m.within))))))

    place_same : (f g : Frame) (i : Option Instr) → silent f i ≡ Some g → silent_to f.at i ≡ Some g.at
    place_same f g (Some (I.PushInt z)) e = ap (λ o. elim o as (λ _. Option ℕ) [ None ↦ None | Some x ↦ Some x.at ]) e
    place_same f g (Some (I.PushBool b)) e = ap (λ o. elim o as (λ _. Option ℕ) [ None ↦ None | Some x ↦ Some x.at ]) e
    place_same f g (Some I.PushNil) e = ap (λ o. elim o as (λ _. Option ℕ) [ None ↦ None | Some x ↦ Some x.at ]) e
    place_same f g (Some (I.Jump a)) e = ap (λ o. elim o as (λ _. Option ℕ) [ None ↦ None | Some x ↦ Some x.at ]) e
    place_same f g (Some I.Post) e = ap (λ x. Some x.at) (passed_is f g f.serves e)
    place_same f g _ e = absurd (grind (arith, e))

    -- it is at a step instruction, or this many silent ones stand there
    abbrev Goes : ℕ → Frame → Frame → Type 0
    Goes n f d = (silent d (slice_get c d.at) ≡ None) ⊎ ((j : ℕ) → j < suc n → IsSilent (walk j f.at))

    goes_by : (n : ℕ) (f : Frame) (go_on : Frame → Frame) (s : Option Frame) → silent f (slice_get c f.at) ≡ s
        → ((g : Frame) → silent f (slice_get c f.at) ≡ Some g → Goes n f (go_on g)) → Goes n f (go_on_with f go_on s)
    goes_by n f go_on None e more = inl e
    goes_by n f go_on (Some g) e more = more g e

    one_more : (n a b : ℕ) → silent_to a (slice_get c a) ≡ Some b → ((j : ℕ) → j < n → IsSilent (walk j b)) → (j : ℕ) → j < suc n → IsSilent (walk j a)
    one_more n a b e all zero lt = (is_silent a b e).1
    one_more n a b e all (suc j) lt = subst (λ m. IsSilent (walk j m)) (sym (is_silent a b e).0) (all j (omega (arith, lt)))

    goes_all : (n : ℕ) (f g d : Frame) → silent f (slice_get c f.at) ≡ Some g → Goes n g d → Goes (suc n) f d
    goes_all n f g d e (inl r) = inl r
    goes_all n f g d e (inr all) = inr (one_more (suc n) f.at g.at (place_same f g (slice_get c f.at) e) all)

    stays : (f : Frame) (s : Option Frame) → silent f (slice_get c f.at) ≡ s → Goes zero f f
    stays f None e = inl e
    stays f (Some g) e = inr (one_more 0 f.at g.at (place_same f g (slice_get c f.at) e) (λ j lt. absurd (omega (arith, lt))))

    goes : (n : ℕ) (f : Frame) → Goes n f (settled_within c n f)
    goes zero f = stays f (silent f (slice_get c f.at)) refl
    goes (suc n) f = goes_by (suc n) f (settled_within c n) (silent f (slice_get c f.at)) refl (λ g e. goes_all n f g (settled_within c n g) e (goes n g))

    rests : (d f : Frame) → Goes (length c) f d → silent d (slice_get c d.at) ≡ None
    rests d f (inl r) = r
    rests d f (inr all) = absurd (ends f.at all)

    pub settled_rests : (f : Frame) → silent (settled c f) (slice_get c (settled c f).at) ≡ None
    settled_rests f = rests (settled c f) f (goes (length c) f)
