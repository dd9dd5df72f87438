-- Silent instructions do not change the term that frames represent.
use Rattle.run_types.specs.declared.frames.Frame.{Frame}
use Rattle.std.proofs.Common.{◌≡◌, refl, sym, ap, ◌∙◌, subst, ℕ, zero, suc, List, [], ◌∷◌, ◌++◌, length, Option, Some, None, is_some, IsTrue, Bool, true, false, inl, inr, arith}
use Rattle.std.specs.Prelude.{slice_get, if◌then◌else◌}
use Rattle.run_types.specs.declared.types.Value.{Value}
use Rattle.run_types.specs.declared.types.Item.TheVariants as Item
use Rattle.pool_syntax.specs.Terms.{Store, Statements}
use Rattle.pool_syntax.specs.Typing.{contains}
use Rattle.pool_relation.specs.Reducible as R
use Rattle.pool_relation.specs.Reducible.{Reducible, Contractum, fill_statements, assigned}
use Rattle.run_types.specs.declared.types.Serves.{Serves}
use Rattle.run_types.specs.declared.types.Serves.TheVariants as S
use Rattle.code_semantics.specs.declared.unit.Instr.{Instr}
use Rattle.code_semantics.specs.declared.unit.Instr.TheVariants as I
use Rattle.code_semantics.specs.declared.unit.ClassCode.{ClassCode}
use Rattle.code_semantics.specs.Frames.{code_of, post_passed, silent, go_on_with, settled_within, settled}
use Rattle.pool_compile.specs.Code.{Numbering, load, store, number_of}
use Rattle.pool_compile.specs.StandsFor.{Point, Head, frame_of, level, IsServing, UnderStatements}
use Rattle.pool_compile.specs.Follows.{AtRest}
use Rattle.pool_compile.proofs.Focus.{Focus, Spot, Stand, Ending, over, redex, idle}
use Rattle.pool_compile.proofs.MethodPositions.{SeenStatements}
use Rattle.pool_compile.proofs.CodePositions.{see_statements}

-- the first frame of two equal lists
head_same : (f g : Frame) (fs gs : List Frame) → f ∷ fs ≡ g ∷ gs → f ≡ g
head_same f g fs gs e = ap (λ l. elim l as (λ _. Frame) [ [] ↦ f | a ∷ more ↦ a ]) e

tail_same : (f g : Frame) (fs gs : List Frame) → f ∷ fs ≡ g ∷ gs → fs ≡ gs
tail_same f g fs gs e = ap (λ l. elim l as (λ _. List Frame) [ [] ↦ [] | a ∷ more ↦ more ]) e

passed_method : (f g : Frame) (s : Serves) → post_passed f s ≡ Some g → g.method ≡ f.method
passed_method f g S.Own e = ap (λ o. elim o as (λ _. Option ℕ) [ None ↦ f.method | Some a ↦ a.method ]) (sym e)
passed_method f g S.Sender e = ap (λ o. elim o as (λ _. Option ℕ) [ None ↦ f.method | Some a ↦ a.method ]) (sym e)
passed_method f g (S.Caller c n) e = absurd (grind (arith, e))

-- a frame that serves a caller stops before its post statements
caller_stops : (f : Frame) (w : Option ℕ) → IsServing w f.serves → IsTrue (is_some w) → post_passed f f.serves ≡ None
caller_stops f (Some c) s i = ap (post_passed f) s.1
caller_stops f None s i = absurd (grind (arith, i))

-- a silent instruction leaves the method
pub silent_method : (f g : Frame) (i : Option Instr) → silent f i ≡ Some g → g.method ≡ f.method
silent_method f g (Some (I.PushInt z)) e = ap (λ o. elim o as (λ _. Option ℕ) [ None ↦ f.method | Some a ↦ a.method ]) (sym e)
silent_method f g (Some (I.PushBool b)) e = ap (λ o. elim o as (λ _. Option ℕ) [ None ↦ f.method | Some a ↦ a.method ]) (sym e)
silent_method f g (Some I.PushNil) e = ap (λ o. elim o as (λ _. Option ℕ) [ None ↦ f.method | Some a ↦ a.method ]) (sym e)
silent_method f g (Some (I.Jump a)) e = ap (λ o. elim o as (λ _. Option ℕ) [ None ↦ f.method | Some a ↦ a.method ]) (sym e)
silent_method f g (Some I.Post) e = passed_method f g f.serves e
silent_method f g _ e = absurd (grind (arith, e))

load_still : (f : Frame) (g : Numbering) (n : ℕ) → silent f (Some (load g n)) ≡ None
load_still f g n = by (contains g.temps n)
  where
    by : (b : Bool) → silent f (Some (if b then I.LoadT (number_of g.temps n) else I.LoadI (number_of g.vars n))) ≡ None
    by true = refl
    by false = refl

store_still : (f : Frame) (g : Numbering) (n : ℕ) → silent f (Some (store g n)) ≡ None
store_still f g n = by (contains g.temps n)
  where
    by : (b : Bool) → silent f (Some (if b then I.StoreT (number_of g.temps n) else I.StoreI (number_of g.vars n))) ≡ None
    by true = refl
    by false = refl

module _ (k : Option ClassCode) (V : List ℕ) (L : List Frame) (T : List Frame → Contractum → Type 0) where
  still : (r : Reducible) (u : Store) (f : Focus k V L r u T) (vs : List Value) (i : Instr) (stop : ℕ) → f.over ≡ [] → Stand k f.host f.s vs i stop
      → silent (frame_of f.host f.own f.s) (Some i) ≡ None → AtRest k L
  still r u f vs i stop empty st q =
      subst (AtRest k) (sym (f.split ∙ ap (λ o. o ++ frame_of f.host f.own f.s ∷ f.rest) empty))
      (ap (silent (frame_of f.host f.own f.s)) st.1.0 ∙ q)

  ended : (r : Reducible) (u : Store) (f : Focus k V L r u T) (v : Value) (serves : Frame → Type 0) (e : Ending k f.over f.base f.s f.stop v u serves) → AtRest k L
  ended r u f v serves e =
      subst (AtRest k) (sym (f.split ∙ ap (λ o. o ++ frame_of f.host f.own f.s ∷ f.rest) e.1)) (ap (silent e.0) e.4)

  -- frames at a redex are at a step instruction
  pub at_rest : (r : Reducible) (u : Store) → Focus k V L r u T → AtRest k L
  at_rest R.OwnName u f = still R.OwnName u f _ _ _ f.spot.0 f.spot.2 refl
  at_rest (R.Read n) u f = still (R.Read n) u f _ _ _ f.spot.0 f.spot.2 (load_still (frame_of f.host f.own f.s) f.g n)
  at_rest (R.Make c) u f = still (R.Make c) u f _ _ _ f.spot.0 f.spot.2 refl
  at_rest (R.Unary op v) u f = still (R.Unary op v) u f _ _ _ f.spot.0 f.spot.2 refl
  at_rest (R.Binary op v w) u f = still (R.Binary op v w) u f _ _ _ f.spot.0 f.spot.2 refl
  at_rest (R.Invoke m args) u f = still (R.Invoke m args) u f _ _ _ f.spot.0 f.spot.2 refl
  at_rest (R.SynchronousSend v m args) u f = still (R.SynchronousSend v m args) u f _ _ _ f.spot.0 f.spot.2 refl
  at_rest (R.Leave v) u f = ended (R.Leave v) u f v _ f.spot
  at_rest (R.Waiting b m) u f = still (R.Waiting b m) u f _ _ _ f.spot.0 f.spot.2.1 refl
  at_rest (R.Set n v) u f = still (R.Set n v) u f _ _ _ f.spot.0 f.spot.2 (store_still (frame_of f.host f.own f.s) f.g n)
  at_rest (R.Print (Item.Value v)) u f = still (R.Print (Item.Value v)) u f _ _ _ f.spot.0 f.spot.2 refl
  at_rest (R.Print (Item.Text n)) u f = still (R.Print (Item.Text n)) u f _ _ _ f.spot.0 f.spot.2 refl
  at_rest (R.Drop v) u f = still (R.Drop v) u f _ _ _ f.spot.0 f.spot.2 refl
  at_rest (R.Post v m args) u f = still (R.Post v m args) u f _ _ _ f.spot.0 f.spot.2 refl
  at_rest (R.Branch v these those) u f = still (R.Branch v these those) u f _ _ _ f.spot.0 f.spot.2.1 refl
  at_rest (R.Loop e ss) u f = still (R.Loop e ss) u f _ _ _ f.spot.0 f.spot.2.0 refl
  at_rest (R.Accept names) u f = still (R.Accept names) u f _ _ _ f.spot.0 f.spot.2 refl
  at_rest (R.Choose cs) u f = still (R.Choose cs) u f _ _ _ f.spot.0 f.spot.2.1 refl
  at_rest (R.Finish w v work) u f = by f.spot
    where
      by : Spot k f.over f.host f.own f.g f.base f.s f.stop (R.Finish w v work) u → AtRest k L
      by (inl e) = ended (R.Finish w v work) u f v _ e.0
      by (inr e) =
          subst (AtRest k) (sym (f.split ∙ ap (λ o. o ++ frame_of f.host f.own f.s ∷ f.rest) e.1)) (ap (silent e.0) e.5 ∙ caller_stops e.0 w e.2 e.3)

-- the whole term, in the frame of the body
module _ (k : Option ClassCode) (h : Head) (g : Numbering) (none : g.temps ≡ []) (end : ℕ) (halt : slice_get (code_of k h.method) end ≡ Some I.Halt) where
  abbrev pub Whole : Statements → List Frame → Type 0
  Whole ss L = (z : Point) × (L ≡ level h [] z) × UnderStatements k (code_of k h.method) g ss [] z end

  -- one silent instruction
  one_silent : (ss : Statements) (f d : Frame) (rest : List Frame) → silent f (slice_get (code_of k f.method) f.at) ≡ Some d → Whole ss (f ∷ rest) → Whole ss (d ∷ rest)
  one_silent ss f d rest q w = by (see_statements k h [] g ss [] w.0 end (sym none) w.2)
    where
      L : List Frame
      L = level h [] w.0

      moved : (x : Frame) → f ≡ x → silent x (slice_get (code_of k x.method) x.at) ≡ Some d
      moved x e = subst (λ y. silent y (slice_get (code_of k y.method) y.at) ≡ Some d) e q

      no : AtRest k (level h [] w.0) → ⊥
      no a = grind (arith, subst (AtRest k) (sym w.1) a, q)

      by : SeenStatements k h [] g ss [] w.0 end → Whole ss (d ∷ rest)
      by (over a e fin) =
          absurd (no (subst (λ l. AtRest k (l ++ frame_of h [] w.0 ∷ [])) (sym fin.1)
          (ap (silent (frame_of h [] w.0)) (ap (slice_get (code_of k h.method)) fin.3 ∙ halt))))
      by (redex r u e x) = absurd (no (at_rest k g.vars (level h [] w.0) _ r u x))
      by (idle x) =
          let same : f ∷ rest ≡ x.f ∷ x.rest = w.1 ∙ x.split in
          let next : d ≡ x.g = grind (arith, moved x.f (head_same f x.f rest x.rest same), x.quiet) in
          let all : x.g ∷ x.rest ≡ d ∷ rest = λ i. sym next i ∷ sym (tail_same f x.f rest x.rest same) i in
          subst (Whole ss) all x.kept

  go_on_whole : (ss : Statements) (f : Frame) (rest : List Frame) (code : List Instr) (go : Frame → Frame) → code ≡ code_of k f.method → Whole ss (f ∷ rest)
      → ((d : Frame) → code ≡ code_of k d.method → Whole ss (d ∷ rest) → Whole ss (go d ∷ rest))
      → (s : Option Frame) → silent f (slice_get code f.at) ≡ s → Whole ss (go_on_with f go s ∷ rest)
  go_on_whole ss f rest code go e w more None q = w
  go_on_whole ss f rest code go e w more (Some d) q =
      more d (e ∙ ap (code_of k) (sym (silent_method f d (slice_get code f.at) q)))
      (one_silent ss f d rest (subst (λ c. silent f (slice_get c f.at) ≡ Some d) e q) w)

  settled_whole : (ss : Statements) (n : ℕ) (f : Frame) (rest : List Frame) (code : List Instr) → code ≡ code_of k f.method → Whole ss (f ∷ rest)
      → Whole ss (settled_within code n f ∷ rest)
  settled_whole ss zero f rest code e w = w
  settled_whole ss (suc n) f rest code e w =
      go_on_whole ss f rest code (settled_within code n) e w (λ d q x. settled_whole ss n d rest code q x) (silent f (slice_get code f.at)) refl

  -- what frames stand for stays where the innermost is brought to a step instruction
  pub settles : (ss : Statements) (f : Frame) (rest : List Frame) → Whole ss (f ∷ rest) → Whole ss (settled (code_of k f.method) f ∷ rest)
  settles ss f rest w = settled_whole ss (length (code_of k f.method)) f rest (code_of k f.method) refl w
