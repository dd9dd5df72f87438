-- What a table of moves knows, as equations.
use Rattle.std.proofs.Common.{◌≡◌, refl, sym, ap, ap₂, subst, ◌∙◌, ℕ, ◌<◌, List, [], ◌∷◌, length, get_or, slice_get, Option, Some, None, Result, Ok, Err, true}
use Rattle.std.specs.Option.{IfSome}
use Rattle.std.specs.Result.{IfOk}
use Rattle.std.specs.List.{All}
use Rattle.std.proofs.lemmas.Option.{get_or_from_slice_get, slice_get_read, slice_get_within}
use Rattle.std.proofs.lemmas.List.Elements.{All-nil, All-cons}
use Rattle.run_types.specs.declared.types.Value.{Value}
use Rattle.pool_syntax.specs.Terms.{ProgramTree}
use Rattle.pool_relation.specs.Action.{Object}
use Rattle.pool_relation.specs.Progress.{agent}
use Rattle.object_moves.specs.Effects.{is_of_one, IsBetween}
use Rattle.object_moves.specs.Known.{IsKnownEdge, IsKnownRest, duo_label, labelled, numbers_of_one, one_of, solo_label, state_at}
use Rattle.object_moves.specs.Roles.{after, after_local}
use Rattle.object_moves.specs.Rows.{no_object, AreWithin}
use Rattle.object_moves.specs.declared.known.Solo.{Solo}
use Rattle.object_moves.specs.declared.known.Solo.TheVariants as S
use Rattle.object_moves.specs.declared.known.Duo.{Duo}
use Rattle.object_moves.specs.declared.known.KnownEdge.{KnownEdge}
use Rattle.object_moves.specs.declared.known.KnownRest.{KnownRest}
use Rattle.object_moves.specs.declared.parts.Part.{Part}
use Rattle.object_moves.proofs.SameObjects as SameObjects
use Rattle.object_moves.proofs.SameObjects.{one_is}

-- what holds of each holds of one of them
at_place : {X : Type 0} (P : X → Type 0) (ks : List X) (i : ℕ) (k : X) → All P ks → slice_get ks i ≡ Some k → P k
at_place P ks i k h at = subst P (get_or_from_slice_get ks i k k at) (h i k (slice_get_within ks i k at))

-- an element that a slice gave
pub read_at : {X : Type 0} (xs ys : List X) (i : ℕ) (x : X) → xs ≡ ys → i < length xs → x ≡ get_or xs i x → slice_get ys i ≡ Some x
read_at xs ys i x same l at = subst (λ zs. slice_get zs i ≡ Some x) same (slice_get_read xs (length xs) i x refl l at)

-- the state with a number that the table has
pub state_there : (xs : List Object) (n : ℕ) (x : Object) → slice_get xs n ≡ Some x → state_at xs n ≡ x
state_there xs n x at = get_or_from_slice_get xs n x no_object at

pub solo_is_of_one : (o : ℕ) (a : Solo) → is_of_one (solo_label o a) ≡ true
solo_is_of_one o (S.Write i) = refl
solo_is_of_one o (S.Pick i) = refl
solo_is_of_one o (S.Fault e) = refl

pub duo_is_between : (b o : ℕ) (a : Duo) → IsBetween (duo_label b o a) b o
duo_is_between b o a = by a.returned
  where
    by : (v : Option Value) → IsBetween (labelled b o a v) b o
    by None = (refl, refl)
    by (Some v) = (refl, refl)

module _ (p : ProgramTree) (xs : List Object) where
  pub edge_known : (ks : List KnownEdge) (i : ℕ) (k : KnownEdge) (o s : ℕ) (a : Part) → All (IsKnownEdge p xs) ks → slice_get ks i ≡ Some k → k.object ≡ o → k.state ≡ s → k.part ≡ a
      → (after p o a (state_at xs s) ≡ one_of xs k.to) × AreWithin xs (numbers_of_one k.to)
  edge_known ks i k o s a all at eo es ea =
      let h = at_place (IsKnownEdge p xs) ks i k all at in
      let is = one_is (after p k.object k.part (state_at xs k.state)) (one_of xs k.to) h.is in
      (ap₂ (λ q d. after p q d (state_at xs s)) (sym eo) (sym ea) ∙ ap (λ n. after p k.object k.part (state_at xs n)) (sym es) ∙ is, h.within)

  pub rest_known : (ks : List KnownRest) (i : ℕ) (k : KnownRest) (o s : ℕ) → All (IsKnownRest p xs) ks → slice_get ks i ≡ Some k → k.object ≡ o → k.state ≡ s
      → (after_local p o k.steps (state_at xs s) ≡ Some (state_at xs k.to)) × (k.to < length xs)
  rest_known ks i k o s all at eo es =
      let h = at_place (IsKnownRest p xs) ks i k all at in
      let is = one_is (after_local p k.object k.steps (state_at xs k.state)) (Some (state_at xs k.to)) h.leads in
      (ap₂ (λ q x. after_local p q k.steps x) (sym eo) (ap (state_at xs) (sym es)) ∙ is, h.within)

  pub rest_told : (k : KnownRest) (o s : ℕ) → IsKnownRest p xs k → k.object ≡ o → k.state ≡ s → after_local p o k.steps (state_at xs s) ≡ Some (state_at xs k.to)
  rest_told k o s h eo es =
      ap₂ (λ q x. after_local p q k.steps x) (sym eo) (ap (state_at xs) (sym es)) ∙ one_is (after_local p k.object k.steps (state_at xs k.state)) (Some (state_at xs k.to)) h.leads

  -- what is computed is put with what is known
  pub edge_computed : (k : KnownEdge) → k.state < length xs → AreWithin xs (numbers_of_one k.to) → after p k.object k.part (state_at xs k.state) ≡ one_of xs k.to → IsKnownEdge p xs k
  edge_computed k s w e = record { state = s; within = w; is = SameObjects.one_told (after p k.object k.part (state_at xs k.state)) (one_of xs k.to) e }

  pub rest_computed : (k : KnownRest) → k.state < length xs → k.to < length xs → after_local p k.object k.steps (state_at xs k.state) ≡ Some (state_at xs k.to) → IsKnownRest p xs k
  rest_computed k s t e = record { state = s; within = t; leads = SameObjects.one_told (after_local p k.object k.steps (state_at xs k.state)) (Some (state_at xs k.to)) e }

pub solo_agent : (o : ℕ) (a : Solo) → agent (solo_label o a) ≡ o
solo_agent o (S.Write i) = refl
solo_agent o (S.Pick i) = refl
solo_agent o (S.Fault e) = refl

-- an object of the stepper, and the number that the table gives it
pub told_as : (ys : List Object) (n : ℕ) (t : Object) → slice_get ys n ≡ Some t → Some t ≡ Some (state_at ys n)
told_as ys n t at = ap Some (sym (state_there ys n t at))

pub only_within : (xs : List Object) (n : ℕ) → n < length xs → AreWithin xs (n ∷ [])
only_within xs n l = All-cons (λ n. n < length xs) n [] l (All-nil (λ n. n < length xs))

pub both_within : (xs : List Object) (n m : ℕ) → n < length xs → m < length xs → AreWithin xs (n ∷ m ∷ [])
both_within xs n m l k = All-cons (λ n. n < length xs) n (m ∷ []) l (only_within xs m k)

-- what follows from each answer follows from what is told
pub each_told : {X E : Type 0} (P Q : X → Type 0) → ((m : X) → P m → Q m) → (r : Result (Option X) E) → IfOk r (λ o. IfSome o P) → IfOk r (λ o. IfSome o Q)
each_told P Q f (Ok None) h = tt
each_told P Q f (Ok (Some m)) h = f m h
each_told P Q f (Err e) h = tt
