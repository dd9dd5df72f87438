-- The start of code on placed machines.
use Rattle.std.proofs.Common.{◌≡◌, ◌≢◌, ◌⊎◌, inl, inr, refl, sym, ap, subst, ◌∙◌, IsTrue, ℕ, zero, suc, ◌*◌, ◌<◌, ◌≤◌, ◌==◌, List, [], ◌∷◌, length, Option, Some, None, is_some, Bool, true, false, arith}
use Rattle.std.specs.Prelude.{slice_get}
use Rattle.std.specs.List.{All}
use Rattle.run_types.specs.declared.types.NameId.{NameId}
use Rattle.run_types.specs.declared.types.Place.{Place}
use Rattle.run_types.specs.declared.types.Place.TheVariants as Pl
use Rattle.run_types.specs.declared.types.Placement.{Placement}
use Rattle.code_semantics.specs.declared.unit.ClassCode.{ClassCode}
use Rattle.run_types.specs.declared.frames.CodeObject.{CodeObject}
use Rattle.code_semantics.specs.declared.unit.Unit.{Unit as Code}
use Rattle.code_semantics.specs.Step.{class_from, placed_of, placed_at, code_made}
use Rattle.code_semantics.specs.Proper.{IsProper}
use Rattle.code_semantics.specs.Suits.{IsOfMesh, Suits}
use Rattle.run_types.proofs.Laws.{equals, same_some, given_by}
use Rattle.mesh_semantics.proofs.Laws.{placed_start_sound}
use Rattle.mesh_semantics.specs.Act.{id}
use Rattle.run_types.specs.Partial.{◌>>=◌}
use Rattle.mesh_semantics.specs.Config.{Config, put_object}
use Rattle.mesh_semantics.specs.Delay.{no_delay}
use Rattle.mesh_semantics.specs.FitFor.{FitFor}
use Rattle.mesh_semantics.specs.Record.{root_name, with_root, start}
use Rattle.mesh_semantics.specs.Sound.{IsSound}
use Rattle.run_types.specs.PathFacts.{In}
use Rattle.mesh_of_code.specs.Coded.{Placed, placed, under_way, class_numbers, last_code, coded}
use Rattle.mesh_of_code.specs.CodeInvariant.{Names, IsOfCode}
use Rattle.mesh_of_code.proofs.Configs.{plain_names, one_more}
use Rattle.code_semantics.proofs.Laws.{made_is_of}
use Rattle.mesh_of_code.proofs.Inversions.{class_there}
use Rattle.mesh_of_code.proofs.Methods.{made_methods}

-- a configuration without objects
abbrev nothing : Config Placed
nothing = record { objects = []; messages = [] }

nothing_is_of_code : (u : Code) → IsOfCode u nothing
nothing_is_of_code u = record {
  in_order = refl;
  of_unit = λ o x e. absurd (cc);
  messages = λ s r. tt;
  fault = λ o x e h f. absurd (cc);
  waits = λ o b m x h f. absurd (cc);
  served = λ o b m ms y h f. absurd (cc);
}

pub root_is : (u : Code) (x : Placed) → (coded u).root ≡ Some x → (k : NameId) × (y : CodeObject) × (code_made u k ≡ Some y) × (placed y ≡ x)
root_is u x e =
    let a = given_by (last_code u.classes) (λ k. code_made u k.name >>= λ y. Some (placed y)) x e in
    let b = given_by (code_made u a.0.name) (λ y. Some (placed y)) x a.2 in
    (a.0.name, b.0, b.1, same_some b.2)

root_of_code : (u : Code) → IsProper u → (n : ℕ) (x : Placed) → (coded u).root ≡ Some x → IsOfCode u (put_object nothing n x)
root_of_code u proper n x e =
    let r = root_is u x e in
    subst (λ (z : Placed). IsOfCode u (put_object nothing n z)) r.3
    (one_more u nothing n (placed r.1) (nothing_is_of_code u) refl (made_is_of u proper (Names (put_object nothing n (placed r.1))) (plain_names (put_object nothing n (placed r.1))) r.0 r.1 r.2) refl refl
    (λ p. made_methods u p r.0 r.1 r.2))

pub start_of_code : (u : Code) → IsProper u → (l : Placement) (c : Config Placed) → start (coded u) l ≡ Some c → IsOfCode u c
start_of_code u proper l c e = by ((coded u).root) refl
  where
    by : (r : Option Placed) → (coded u).root ≡ r → IsOfCode u c
    by None i = absurd (let z : None ≡ Some c = sym (ap (with_root (root_name l)) i) ∙ e in cc)
    by (Some x) i =
        subst (IsOfCode u) (same_some (sym (ap (with_root (root_name l)) i) ∙ e)) (root_of_code u proper (root_name l) x i)

-- a class of the unit is found by its name

found : (n m : ℕ) (ks : List ClassCode) → In m (class_numbers ks) → IsTrue (is_some (class_from n ks (id m)))
found n m [] h = absurd h
found n m (k ∷ ks) h = by (k.name.0 == m) refl h (found (suc n) m ks)
  where
    by : (b : Bool) → (k.name.0 == m) ≡ b → (k.name.0 ≡ m) ⊎ In m (class_numbers ks) → (In m (class_numbers ks) → IsTrue (is_some (class_from (suc n) ks (id m))))
        → IsTrue (is_some (class_from n (k ∷ ks) (id m)))
    by true e i r = rw e refl
    by false e (inr i) r = rw e (r i)
    by false e (inl i) r = absurd (let z : (m == m) ≡ false = subst (λ j. (j == m) ≡ false) i e in let t : true ≡ false = sym (equals m) ∙ z in cc)

last_in : (ks : List ClassCode) (k : ClassCode) → last_code ks ≡ Some k → In k.name.0 (class_numbers ks)
last_in [] k e = absurd (cc)
last_in (j ∷ []) k e = inl (ap (λ (z : ClassCode). z.name.0) (same_some e))
last_in (j ∷ l ∷ ks) k e = inr (last_in (l ∷ ks) k e)

last_there : (ks : List ClassCode) → 0 < length ks → (k : ClassCode) × (last_code ks ≡ Some k)
last_there [] h = absurd (omega (arith, h))
last_there (j ∷ []) h = (j, refl)
last_there (j ∷ l ∷ ks) h = last_there (l ∷ ks) (omega arith)

pub can_be_made : (u : Code) (m : ℕ) → In m (class_numbers u.classes) → (y : CodeObject) × (code_made u (id m) ≡ Some y)
can_be_made u m h = by (class_from 0 u.classes (id m)) refl (found 0 m u.classes h)
  where
    of_class : (j : ℕ) (k : Option ClassCode) → IsTrue (is_some k) → (y : CodeObject) × (placed_of j k ≡ Some y)
    of_class j None t = absurd (let q : false ≡ true = t in cc)
    of_class j (Some k) t = there (placed_of j (Some k)) refl
      where
        there : (z : Option CodeObject) → IsTrue (is_some z) → (y : CodeObject) × (z ≡ Some y)
        there None t = absurd (let q : false ≡ true = t in cc)
        there (Some y) t = (y, refl)

    by : (z : Option ℕ) → class_from 0 u.classes (id m) ≡ z → IsTrue (is_some (class_from 0 u.classes (id m))) → (y : CodeObject) × (code_made u (id m) ≡ Some y)
    by None e t = absurd (let q : false ≡ true = rw e at t in cc)
    by (Some j) e t =
        let r = class_there 0 m u.classes j e in
        let i : r.0 ≡ j = let s = r.2 in omega (arith, s) in
        let at : slice_get u.classes j ≡ Some r.1 = subst (λ n. slice_get u.classes n ≡ Some r.1) i r.3 in
        let s = of_class j (slice_get u.classes j) (ap is_some at) in
        (s.0, ap (placed_at u) e ∙ s.1)

-- each class can be made
pub code_makes : (u : Code) (k : ℕ) → In k (coded u).classes → (coded u).made k ≢ None
code_makes u k h e =
    let t = can_be_made u k h in
    let z : (coded u).made k ≡ Some (placed t.0) = ap (λ (q : Option CodeObject). q >>= λ y. Some (placed y)) t.1 in
    let q : None ≡ Some (placed t.0) = sym e ∙ z in absurd (cc)

pub root_there : (u : Code) → IsProper u → (x : Placed) × ((coded u).root ≡ Some x)
root_there u proper =
    let a = last_there u.classes proper.classes.0 in
    let t = can_be_made u a.0.name.0 (last_in u.classes a.0 a.1) in
    (placed t.0, ap (λ (q : Option ClassCode). q >>= λ k. code_made u k.name >>= λ y. Some (placed y)) a.1 ∙ ap (λ (q : Option CodeObject). q >>= λ y. Some (placed y)) t.1)

pub start_there : (u : Code) → IsProper u → (l : Placement) → (c : Config Placed) × (start (coded u) l ≡ Some c)
start_there u proper l = let r = root_there u proper in (record { objects = (root_name l, r.0) ∷ []; messages = [] }, ap (with_root (root_name l)) r.1)

-- the root has no method under way
pub root_rests : (u : Code) (x : Placed) → (coded u).root ≡ Some x → (coded u).frames x ≡ 0
root_rests u x e = let r = root_is u x e in subst (λ (z : Placed). (coded u).frames z ≡ 0) r.3 (at (class_from 0 u.classes r.0) r.1 r.2)
  where
    of : (j : ℕ) (k : Option ClassCode) (y : CodeObject) → placed_of j k ≡ Some y → under_way y.frames ≡ 0
    of j None y h = absurd (cc)
    of j (Some k) y h = subst (λ (z : CodeObject). under_way z.frames ≡ 0) (same_some h) refl

    at : (j : Option ℕ) (y : CodeObject) → placed_at u j ≡ Some y → under_way y.frames ≡ 0
    at None y h = absurd (cc)
    at (Some j) y h = of j (slice_get u.classes j) y h

-- placements

count_is : (ks : List ClassCode) → length ks ≡ length (class_numbers ks)
count_is [] = refl
count_is (k ∷ ks) = ap suc (count_is ks)

place_is : (n : ℕ) (ps : List Place) (i k : ℕ) → All (IsOfMesh n) ps → slice_get ps i ≡ Some (Pl.At k) → k < n
place_is n [] i k a e = absurd (cc)
place_is n (p ∷ ps) zero k a e = subst (IsOfMesh n) (same_some e) (a zero p (omega arith))
place_is n (p ∷ ps) (suc i) k a e = place_is n ps i k (λ j d h. a (suc j) d (omega (arith, h))) e

some_nodes : (w h : ℕ) → 1 ≤ w → 1 ≤ h → 0 < w * h
some_nodes zero h a b = absurd (omega (arith, a))
some_nodes (suc w) zero a b = absurd (omega (arith, b))
some_nodes (suc w) (suc h) a b = grind arith

pub code_fits : (u : Code) (l : Placement) → Suits l u → FitFor (coded u) l
code_fits u l s = record {
  ways = s.ways;
  nodes = some_nodes l.width l.height s.width.0 s.height.0;
  objects = (s.objects.0, (let t = s.objects.1 in omega (arith, t)));
  frames = s.frames.0;
  count = s.places ∙ count_is u.classes;
  places = λ i k e. place_is (l.width * l.height) l.places i k s.each e;
}

pub code_start_sound : (u : Code) → IsProper u → (l : Placement) → FitFor (coded u) l → (c : Config Placed) → start (coded u) l ≡ Some c → IsSound (coded u) (IsOfCode u) l c no_delay
code_start_sound u proper l fit c e =
    let r = root_there u proper in
    placed_start_sound (coded u) (IsOfCode u) l fit r.0 c r.1 (root_rests u r.0 r.1) e (start_of_code u proper l c e)
