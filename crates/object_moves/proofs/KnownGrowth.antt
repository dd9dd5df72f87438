-- If a table of object states grows, what is known of earlier numbers stays so.
use Rattle.std.proofs.Common.{◌≡◌, refl, ap, ap₂, ◌∙◌, ℕ, ◌<◌, List, [], ◌∷◌, ◌++◌, length, take, Some, Bool, true, false, cond, arith}
use Rattle.std.specs.List.{All}
use Rattle.std.proofs.lemmas.List.Elements.{All-head, All-push, All-weaker}
use Rattle.pool_syntax.specs.Terms.{ProgramTree}
use Rattle.pool_relation.specs.Action.{Object}
use Rattle.object_moves.specs.Roles.{after, after_local}
use Rattle.object_moves.specs.Known.{IsKnownEdge, IsKnownRest, numbers_of_one, one_of}
use Rattle.object_moves.specs.Rows.{AreWithin}
use Rattle.object_moves.specs.SameObjects.{same_one}
use Rattle.object_moves.specs.declared.known.KnownEdge.{KnownEdge}
use Rattle.object_moves.specs.declared.known.KnownRest.{KnownRest}
use Rattle.object_moves.specs.declared.known.One.{One}
use Rattle.object_moves.specs.declared.known.One.TheVariants as O
use Rattle.object_moves.proofs.StateGrowth.{no_shorter, state_still, within_still}

module _ (xs ys : List Object) (grown : take (length xs) ys ≡ xs) where
  number_still : (n : ℕ) → n < length xs → n < length ys
  number_still n l = let m = no_shorter xs ys grown in omega arith

  pub one_still : (m : One) → AreWithin xs (numbers_of_one m) → one_of ys m ≡ one_of xs m
  one_still O.Impossible w = refl
  one_still (O.To n) w = ap Some (state_still xs ys n grown (All-head (λ n. n < length xs) n [] w))

  module _ (p : ProgramTree) where
    edge_known : (k : KnownEdge) → IsKnownEdge p xs k → IsKnownEdge p ys k
    edge_known k h = record {
      state = number_still k.state h.state;
      within = within_still xs ys (numbers_of_one k.to) grown h.within;
      is = ap₂ (λ x m. same_one (after p k.object k.part x) m) (state_still xs ys k.state grown h.state) (one_still k.to h.within) ∙ h.is;
    }

    rest_known : (k : KnownRest) → IsKnownRest p xs k → IsKnownRest p ys k
    rest_known k h = record {
      state = number_still k.state h.state;
      within = number_still k.to h.within;
      leads = ap₂ (λ x y. same_one (after_local p k.object k.steps x) (Some y)) (state_still xs ys k.state grown h.state) (state_still xs ys k.to grown h.within) ∙ h.leads;
    }

    -- all of them
    pub edges_known : (ks : List KnownEdge) → All (IsKnownEdge p xs) ks → All (IsKnownEdge p ys) ks
    edges_known ks h = All-weaker (IsKnownEdge p xs) (IsKnownEdge p ys) edge_known ks h

    pub rests_known : (ks : List KnownRest) → All (IsKnownRest p xs) ks → All (IsKnownRest p ys) ks
    rests_known ks h = All-weaker (IsKnownRest p xs) (IsKnownRest p ys) rest_known ks h

-- a list to which an element was added, or was not
pub pushed : {X : Type 0} (P : X → Type 0) (b : Bool) (ks : List X) (k : X) → All P ks → P k → All P (cond b (ks ++ k ∷ []) ks)
pushed P true ks k h one = All-push P ks k h one
pushed P false ks k h one = h
