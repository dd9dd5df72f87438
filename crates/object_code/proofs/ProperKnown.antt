-- The names and strings of a proper unit are in its table.
use Rattle.std.proofs.Common.{◌≡◌, refl, IsTrue, ℕ, suc, ◌==◌, ◌<◌, List, [], ◌∷◌, length, get_or, Option, Some, None, is_some, Bool, true, false, arith}
use Rattle.std.specs.Prelude.{slice_get}
use Rattle.std.specs.List.{All}
use Rattle.std.proofs.lemmas.List.Elements.{All-nil, All-cons}
use Rattle.std.proofs.lemmas.Option.{slice_get-get_or}
use Rattle.run_types.specs.declared.types.NameId.{NameId}
use Rattle.code_semantics.specs.declared.unit.Instr.{Instr}
use Rattle.code_semantics.specs.declared.unit.Instr.TheVariants as I
use Rattle.code_semantics.specs.declared.unit.AltCode.{AltCode}
use Rattle.code_semantics.specs.declared.unit.MethodCode.{MethodCode}
use Rattle.code_semantics.specs.declared.unit.ClassCode.{ClassCode}
use Rattle.code_semantics.specs.declared.unit.Unit.{Unit as Code}
use Rattle.object_code.specs.Known.{IsKnown, AnswerIsKnown, AlternativeIsKnown, InstrIsKnown, MethodIsKnown, IsKnownUnit}
use Rattle.code_semantics.specs.Proper.{IsProperClass, IsProper}
use Rattle.code_semantics.specs.ReachedPlaces.{AreOwn, AnswerOwn, AltsExist, Exists}
use Rattle.code_semantics.specs.Step.{method_from, class_from}

same_number : (a b n : ℕ) → (a == b) ≡ true → a < n → b < n
same_number a b n e h = let i : a ≡ b = grind (arith, e) in omega (arith, i, h)

-- a name that finds a method is known where the methods' names are
method_known : (l n : ℕ) (ms : List MethodCode) (m : NameId) → ((j : ℕ) (k : MethodCode) → slice_get ms j ≡ Some k → k.name.0 < l) → IsTrue (is_some (method_from n ms m)) → m.0 < l
method_known l n [] m h t = absurd (grind (arith, t))
method_known l n (k ∷ ms) m h t = by (k.name.0 == m.0) refl (h 0 k refl) (method_known l (suc n) ms m (λ j x e. h (suc j) x e)) t
  where
    by : (b : Bool) → (k.name.0 == m.0) ≡ b → k.name.0 < l → (IsTrue (is_some (method_from (suc n) ms m)) → m.0 < l) → IsTrue (is_some (method_from n (k ∷ ms) m)) → m.0 < l
    by true e here more t = same_number k.name.0 m.0 l e here
    by false e here more t = more (rw e at t)

class_known : (l n : ℕ) (ks : List ClassCode) (c : NameId) → ((j : ℕ) (k : ClassCode) → slice_get ks j ≡ Some k → k.name.0 < l) → IsTrue (is_some (class_from n ks c)) → c.0 < l
class_known l n [] c h t = absurd (grind (arith, t))
class_known l n (k ∷ ks) c h t = by (k.name.0 == c.0) refl (h 0 k refl) (class_known l (suc n) ks c (λ j x e. h (suc j) x e)) t
  where
    by : (b : Bool) → (k.name.0 == c.0) ≡ b → k.name.0 < l → (IsTrue (is_some (class_from (suc n) ks c)) → c.0 < l) → IsTrue (is_some (class_from n (k ∷ ks) c)) → c.0 < l
    by true e here more t = same_number k.name.0 c.0 l e here
    by false e here more t = more (rw e at t)

module _ (u : Code) (proper : IsProper u) where
  names_known : (j : ℕ) (k : ClassCode) → slice_get u.classes j ≡ Some k → k.name.0 < length u.names
  names_known j k e = (proper.each j k e).name

  module _ (k : ClassCode) (fine : IsProperClass u k) where
    own_known : (ms : List NameId) → AreOwn (Some k) ms → All (IsKnown u.names) ms
    own_known [] o = All-nil (IsKnown u.names)
    own_known (m ∷ ms) o = All-cons (IsKnown u.names) m ms (method_known (length u.names) 0 k.methods m (λ j x e. (fine.methods j x e).0) o.0) (own_known ms o.1)

    answer_known : (ms : Option (List NameId)) → AnswerOwn (Some k) ms → AnswerIsKnown u.names ms
    answer_known None o = tt {0}
    answer_known (Some ms) o = own_known ms o

    alternatives_known : (c : List Instr) (alts : List AltCode) → AltsExist (Some k) c alts → All (AlternativeIsKnown u.names) alts
    alternatives_known c [] x = All-nil (AlternativeIsKnown u.names)
    alternatives_known c (a ∷ alts) x = All-cons (AlternativeIsKnown u.names) a alts (answer_known a.answer x.0) (alternatives_known c alts x.2)

    instr_known : (temps : ℕ) (c : List Instr) (i : Instr) → Exists u (Some k) temps c i → InstrIsKnown u.names i
    instr_known temps c (I.Call m) x = method_known (length u.names) 0 k.methods m (λ j y e. (fine.methods j y e).0) x.0
    instr_known temps c (I.New n) x = class_known (length u.names) 0 u.classes n names_known x
    instr_known temps c (I.Send m n) x = x.0
    instr_known temps c (I.Async m n) x = x.0
    instr_known temps c (I.WriteText s) x = x
    instr_known temps c (I.Answer ms) x = own_known ms x
    instr_known temps c (I.Select alts) x = alternatives_known c alts x
    instr_known temps c _ x = tt {0}

    code_known : (temps : ℕ) (c : List Instr) → ((at : ℕ) (i : Instr) → slice_get c at ≡ Some i → Exists u (Some k) temps c i) → All (InstrIsKnown u.names) c
    code_known temps c h = λ j d lt. instr_known temps c (get_or c j d) (h j (get_or c j d) (slice_get-get_or c j d lt))

  pub proper_known : IsKnownUnit u
  proper_known = λ j d lt.
      let k = get_or u.classes j d in
      let f = proper.each j k (slice_get-get_or u.classes j d lt) in
      let methods : All (MethodIsKnown u.names) k.methods =
      λ i e in_range. let m = get_or k.methods i e in let g = f.methods i m (slice_get-get_or k.methods i e in_range) in (g.0, code_known k f m.temps m.code g.4.exists) in
      (f.name, (methods, code_known k f 0 k.body.code f.body.exists))
