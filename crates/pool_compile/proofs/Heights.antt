-- In compiled code each place has one number of operands.
use Rattle.code_semantics.specs.declared.unit.ClassCode.{ClassCode}
use Rattle.std.proofs.Common.{◌≡◌, refl, sym, ap, ◌∙◌, subst, ℕ, zero, suc, ◌+◌, ◌-◌, ◌<◌, ◌≤◌, List, [], ◌∷◌, ◌++◌, length, Option, Some, Bool, true, false, arith, length-append}
use Rattle.std.specs.Prelude.{slice_get, map, nat_le, not, ◌&&◌, ◌==◌, if◌then◌else◌}
use Rattle.run_types.specs.declared.types.Value.{Value}
use Rattle.run_types.specs.declared.types.Value.TheVariants as V
use Rattle.run_types.specs.declared.types.Op.{Op}
use Rattle.pool_syntax.specs.Terms as T
use Rattle.pool_syntax.specs.Terms.{Expression, Expressions, Statement, Statements, Alternatives, NoAlts, Alt}
use Rattle.pool_syntax.specs.Typing.{size, contains}
use Rattle.run_types.specs.Values.{is_prefix}
use Rattle.pool_relation.specs.Typed.{has_room}
use Rattle.code_semantics.specs.declared.unit.Instr.{Instr}
use Rattle.code_semantics.specs.declared.unit.Instr.TheVariants as I
use Rattle.code_semantics.specs.declared.unit.AltCode.{AltCode}
use Rattle.code_semantics.specs.Kinds.{arity}
use Rattle.code_semantics.specs.Step.{method_named}
use Rattle.code_semantics.specs.ReachedPlaces.{takes, leaves, nexts, params_of}
use Rattle.pool_compile.specs.Code.{Numbering, name, push, load, store, number_of, expression_code, expressions_code, guards_code, statement_code, statements_code, alternatives_code, alternatives_at}
use Rattle.pool_compile.proofs.CodeAtStart.{Has, front, back, works_length}

-- an expression before which h operands are held: there is room for each, and each own call has as many arguments as parameters
abbrev mutual
  pub is_counted : Option ClassCode → ℕ → Expression → Bool
  is_counted k h (T.Literal v p) = has_room h
  is_counted k h (T.Me p) = has_room h
  is_counted k h (T.Variable x p) = has_room h
  is_counted k h (T.Create n p) = has_room h
  is_counted k h (T.Prefix op e p) = has_room h && is_prefix op && is_counted k h e
  is_counted k h (T.Infix op l r p) = has_room h && not (is_prefix op) && is_counted k h l && is_counted k (suc h) r
  is_counted k h (T.Call m es p) = has_room h && (size es == params_of (method_named k (name m))) && are_counted k h es
  is_counted k h (T.Send e m es p) = has_room h && is_counted k h e && are_counted k (suc h) es
  is_counted k h (T.Frame m t ss e qs) = false
  is_counted k h (T.Wait b m) = false

  pub are_counted : Option ClassCode → ℕ → Expressions → Bool
  are_counted k h T.NoArgs = true
  are_counted k h (T.Arg e es) = is_counted k h e && are_counted k (suc h) es

-- statements before which b operands are held
abbrev mutual
  pub is_counted_statement : Option ClassCode → ℕ → Statement → Bool
  is_counted_statement k b (T.Assign x p e) = is_counted k b e
  is_counted_statement k b (T.Write e) = is_counted k b e
  is_counted_statement k b (T.WriteText s) = true
  is_counted_statement k b (T.Do e) = is_counted k b e
  is_counted_statement k b (T.Async e m p es) = is_counted k b e && are_counted k (suc b) es
  is_counted_statement k b (T.If e these those) = is_counted k b e && are_counted_statements k b these && are_counted_statements k b those
  is_counted_statement k b (T.While e ss) = is_counted k b e && are_counted_statements k b ss
  is_counted_statement k b (T.Answer names) = true
  is_counted_statement k b (T.Select alts) = are_counted_guards k b alts && are_counted_works k b alts
  is_counted_statement k b (T.Serve m w t ss e qs) = false

  pub are_counted_statements : Option ClassCode → ℕ → Statements → Bool
  are_counted_statements k b T.Done = true
  are_counted_statements k b (T.Then s ss) = is_counted_statement k b s && are_counted_statements k b ss

  pub are_counted_guards : Option ClassCode → ℕ → Alternatives → Bool
  are_counted_guards k h T.NoAlts = true
  are_counted_guards k h (T.Alt e n ss alts) = is_counted k h e && are_counted_guards k (suc h) alts

  pub are_counted_works : Option ClassCode → ℕ → Alternatives → Bool
  are_counted_works k b T.NoAlts = true
  are_counted_works k b (T.Alt e n ss alts) = are_counted_statements k b ss && are_counted_works k b alts

-- the operands after these instructions, and before the one at a place, in the order of the list
abbrev pub moved : Option ClassCode → ℕ → Instr → ℕ
moved k h i = h + leaves i - takes k i

abbrev pub height : Option ClassCode → ℕ → List Instr → ℕ → ℕ
height k h [] q = h
height k h (i ∷ c) zero = h
height k h (i ∷ c) (suc q) = height k (moved k h i) c q

pub height_next : (k : Option ClassCode) (h : ℕ) (c : List Instr) (q : ℕ) (i : Instr) → slice_get c q ≡ Some i → height k h c (suc q) ≡ moved k (height k h c q) i
height_next k h [] q i e = absurd (grind (arith, e))
height_next k h (j ∷ c) (suc q) i e = height_next k (moved k h j) c q i e
height_next k h (j ∷ []) zero i e = let f : j ≡ i = grind (arith, e) in ap (moved k h) f
height_next k h (j ∷ l ∷ c) zero i e = let f : j ≡ i = grind (arith, e) in ap (moved k h) f

-- the number of alternatives
abbrev pub count : Alternatives → ℕ
count NoAlts = 0
count (Alt e names ss alts) = suc (count alts)

module _ (k : Option ClassCode) (c : List Instr) where
  abbrev pub H : ℕ → ℕ
  H q = height k 0 c q

  -- a place to which an instruction at q leads
  abbrev pub Led : ℕ → Instr → List ℕ → Type 0
  Led q i [] = Unit {0}
  Led q i (t ∷ ts) = (H t + takes k i ≡ H q + leaves i) × (t < length c) × Led q i ts

  abbrev pub Fine : ℕ → Instr → Type 0
  Fine q i = (takes k i ≤ H q) × (H q ≤ 64) × Led q i (nexts q i)

  abbrev pub AllFine : ℕ → List Instr → Type 0
  AllFine q [] = Unit {0}
  AllFine q (i ∷ is) = Fine q i × AllFine (suc q) is

  pub join : (at : ℕ) (a b : List Instr) → AllFine at a → AllFine (at + length a) b → AllFine at (a ++ b)
  join at [] b x y = subst (λ n. AllFine n b) (let e : at + 0 ≡ at = omega arith in e) y
  join at (i ∷ a) b x y =
      (x.0, join (suc at) a b x.1 (subst (λ n. AllFine n b) (let e : at + suc (length a) ≡ suc at + length a = omega arith in e) y))

  -- an instruction that goes on to the next place
  one : (q h : ℕ) (i : Instr) → slice_get c q ≡ Some i → H q ≡ h → h ≤ 64 → takes k i ≤ h → suc q < length c → nexts q i ≡ suc q ∷ [] → Fine q i × (H (suc q) ≡ h + leaves i - takes k i)
  one q h i e f le enough in_range next =
      let n = height_next k 0 c q i e in
      ((omega (arith, f, enough), omega (arith, f, le), subst (Led q i) (sym next) (omega (arith, n, f, enough), in_range, tt)), n ∙ ap (λ j. moved k j i) f)

  -- instructions at a place that lead from so many operands to so many
  abbrev pub Good : ℕ → List Instr → ℕ → ℕ → Type 0
  Good at l h m = Has c at l → H at ≡ h → at + length l < length c → AllFine at l × (H (at + length l) ≡ m)

  good_seq : (at : ℕ) (a b : List Instr) (h m n : ℕ) → Good at a h m → Good (at + length a) b m n → Good at (a ++ b) h n
  good_seq at a b h m n f g has e lt =
      let l = length-append a b in
      let x = f (front c at a b has) e (omega (arith, lt, l)) in
      let y = g (back c at a b has) x.1 (omega (arith, lt, l)) in
      (join at a b x.0 y.0, ap H (let q : at + length (a ++ b) ≡ at + length a + length b = omega (arith, l) in q) ∙ y.1)

  good_one : (at h x y : ℕ) (i : Instr) → h ≤ 64 → takes k i ≡ x → leaves i ≡ y → x ≤ h → nexts at i ≡ suc at ∷ [] → Good at (i ∷ []) h (h + y - x)
  good_one at h x y i le t l enough next has e lt =
      let f = one at h i has.0 e le (omega (arith, t, enough)) (omega (arith, lt)) next in
      ((f.0, tt), ap H (let q : at + 1 ≡ suc at = omega arith in q) ∙ f.1 ∙ (let q : h + leaves i - takes k i ≡ h + y - x = omega (arith, t, l) in q))

  good_nil : (at h : ℕ) → Good at [] h h
  good_nil at h has e lt = (tt, ap H (let q : at + 0 ≡ at = omega arith in q) ∙ e)

  -- with the number of operands in another form
  good_as : (at : ℕ) (l : List Instr) (h m n : ℕ) → m ≡ n → Good at l h m → Good at l h n
  good_as at l h m n e f has s lt = let x = f has s lt in (x.0, x.1 ∙ e)

  pub room : (h : ℕ) → has_room h ≡ true → h < 64
  room h q = by (nat_le 64 h) refl q
    where
      by : (b : Bool) → nat_le 64 h ≡ b → not b ≡ true → h < 64
      by true e i = absurd (grind (arith, i))
      by false e i = grind (arith, e)

  one_more : (at h : ℕ) (i : Instr) → has_room h ≡ true → takes k i ≡ 0 → leaves i ≡ 1 → nexts at i ≡ suc at ∷ [] → Good at (i ∷ []) h (suc h)
  one_more at h i q t l next =
      let r = room h q in
      good_as at (i ∷ []) h (h + 1 - 0) (suc h) (omega arith) (good_one at h 0 1 i (omega (arith, r)) t l (omega arith) next)

  load_more : (g : Numbering) (at h x : ℕ) → has_room h ≡ true → Good at (load g x ∷ []) h (suc h)
  load_more g at h x q = by (contains g.temps x)
    where
      by : (b : Bool) → Good at ((if b then I.LoadT (number_of g.temps x) else I.LoadI (number_of g.vars x)) ∷ []) h (suc h)
      by true = one_more at h (I.LoadT (number_of g.temps x)) q refl refl refl
      by false = one_more at h (I.LoadI (number_of g.vars x)) q refl refl refl

  push_more : (at h : ℕ) (v : Value) → has_room h ≡ true → Good at (push v ∷ []) h (suc h)
  push_more at h (V.Int z) q = one_more at h (I.PushInt z) q refl refl refl
  push_more at h (V.Bool b) q = one_more at h (I.PushBool b) q refl refl refl
  push_more at h _ q = one_more at h I.PushNil q refl refl refl

  arity_is : (op : Op) (b : Bool) → is_prefix op ≡ b → arity op ≡ (if b then 1 else 2)
  arity_is op b e = ap (λ q. if q then 1 else 2) e

  pub first_room : (e : Expression) (h : ℕ) → is_counted k h e ≡ true → has_room h ≡ true
  first_room (T.Literal v p) h q = q
  first_room (T.Me p) h q = q
  first_room (T.Variable x p) h q = q
  first_room (T.Create n p) h q = q
  first_room (T.Prefix op e p) h q = grind (arith, q)
  first_room (T.Infix op l r p) h q = grind (arith, q)
  first_room (T.Call m es p) h q = grind (arith, q)
  first_room (T.Send e m es p) h q = grind (arith, q)
  first_room (T.Frame m t ss e qs) h q = absurd (grind (arith, q))
  first_room (T.Wait b m) h q = absurd (grind (arith, q))

  module _ (g : Numbering) where
    mutual
      pub expression_good : (e : Expression) (at h : ℕ) → is_counted k h e ≡ true → Good at (expression_code g e) h (suc h)
      expression_good (T.Literal v p) at h q = push_more at h v q
      expression_good (T.Me p) at h q = one_more at h I.SelfRef q refl refl refl
      expression_good (T.Variable x p) at h q = load_more g at h x q
      expression_good (T.Create n p) at h q = one_more at h (I.New (name n)) q refl refl refl
      expression_good (T.Prefix op e p) at h q =
          let r = room h (grind (arith, q)) in
          good_seq at (expression_code g e) (I.Oper op ∷ []) h (suc h) (suc h) (expression_good e at h (grind (arith, q)))
          (good_as _ (I.Oper op ∷ []) (suc h) (suc h + 1 - 1) (suc h) (omega arith)
          (good_one _ (suc h) 1 1 (I.Oper op) (omega (arith, r)) (arity_is op true (grind (arith, q))) refl (omega arith) refl))
      expression_good (T.Infix op l n p) at h q =
          let r = room (suc h) (first_room n (suc h) (grind (arith, q))) in
          good_seq at (expression_code g l) (expression_code g n ++ I.Oper op ∷ []) h (suc h) (suc h) (expression_good l at h (grind (arith, q)))
          (good_seq _ (expression_code g n) (I.Oper op ∷ []) (suc h) (suc (suc h)) (suc h) (expression_good n _ (suc h) (grind (arith, q)))
          (good_as _ (I.Oper op ∷ []) (suc (suc h)) (suc (suc h) + 1 - 2) (suc h) (omega arith)
          (good_one _ (suc (suc h)) 2 1 (I.Oper op) (omega (arith, r)) (arity_is op false (grind (arith, q))) refl (omega arith) refl)))
      expression_good (T.Call m es p) at h q =
          let a = expressions_good es at h (grind (arith, q)) in
          let n : params_of (method_named k (name m)) ≡ size es = grind (arith, q) in
          good_seq at (expressions_code g es) (I.Call (name m) ∷ []) h (h + size es) (suc h) a.0
          (good_as _ (I.Call (name m) ∷ []) (h + size es) (h + size es + 1 - size es) (suc h) (omega arith)
          (good_one _ (h + size es) (size es) 1 (I.Call (name m)) (a.1 (let r = room h (grind (arith, q)) in omega (arith, r))) n refl (omega arith) refl))
      expression_good (T.Send e m es p) at h q =
          let a = expressions_good es (at + length (expression_code g e)) (suc h) (grind (arith, q)) in
          good_seq at (expression_code g e) (expressions_code g es ++ I.Send (name m) (size es) ∷ []) h (suc h) (suc h) (expression_good e at h (grind (arith, q)))
          (good_seq _ (expressions_code g es) (I.Send (name m) (size es) ∷ []) (suc h) (suc h + size es) (suc h) a.0
          (good_as _ (I.Send (name m) (size es) ∷ []) (suc h + size es) (suc h + size es + 1 - suc (size es)) (suc h) (omega arith)
          (good_one _ (suc h + size es) (suc (size es)) 1 (I.Send (name m) (size es)) (a.1 (let r = room h (grind (arith, q)) in omega (arith, r))) refl refl (omega arith) refl)))
      expression_good (T.Frame m t ss e qs) at h q = absurd (grind (arith, q))
      expression_good (T.Wait b m) at h q = absurd (grind (arith, q))

      expressions_good : (es : Expressions) (at h : ℕ) → are_counted k h es ≡ true → Good at (expressions_code g es) h (h + size es) × (h ≤ 64 → h + size es ≤ 64)
      expressions_good T.NoArgs at h q =
          (good_as at [] h h (h + 0) (omega arith) (good_nil at h), λ le. omega (arith, le))
      expressions_good (T.Arg e es) at h q =
          let r = room h (first_room e h (grind (arith, q))) in
          let a = expressions_good es (at + length (expression_code g e)) (suc h) (grind (arith, q)) in
          let b = a.1 (omega (arith, r)) in (
            good_seq at (expression_code g e) (expressions_code g es) h (suc h) (h + suc (size es)) (expression_good e at h (grind (arith, q)))
                (good_as _ (expressions_code g es) (suc h) (suc h + size es) (h + suc (size es)) (omega arith) a.0),
            λ le. omega (arith, b),
          )

    guards_good : (alts : Alternatives) (at h : ℕ) → are_counted_guards k h alts ≡ true → Good at (guards_code g alts) h (h + count alts) × (h ≤ 64 → h + count alts ≤ 64)
    guards_good T.NoAlts at h q = (good_as at [] h h (h + 0) (omega arith) (good_nil at h), λ le. omega (arith, le))
    guards_good (T.Alt e n ss alts) at h q =
        let r = room h (first_room e h (grind (arith, q))) in
        let a = guards_good alts (at + length (expression_code g e)) (suc h) (grind (arith, q)) in
        let b = a.1 (omega (arith, r)) in (
          good_seq at (expression_code g e) (guards_code g alts) h (suc h) (h + suc (count alts)) (expression_good e at h (grind (arith, q)))
              (good_as _ (guards_code g alts) (suc h) (suc h + count alts) (h + suc (count alts)) (omega arith) a.0),
          λ le. omega (arith, b),
        )

    count_at : (alts : Alternatives) (at : ℕ) → length (alternatives_at g at alts) ≡ count alts
    count_at T.NoAlts at = refl
    count_at (T.Alt e n ss alts) at = ap suc (count_at alts _)

    module _ (base : ℕ) (few : base ≤ 1) where
      -- places with the operands that are held
      abbrev Zeros : List AltCode → Type 0
      Zeros [] = Unit {0}
      Zeros (a ∷ alts) = (H a.at ≡ base) × (a.at < length c) × Zeros alts

      led_zeros : (q : ℕ) (i : Instr) (alts : List AltCode) → base + takes k i ≡ H q + leaves i → Zeros alts → Led q i (map (λ a. a.at) alts)
      led_zeros q i [] e z = tt
      led_zeros q i (a ∷ alts) e z = (omega (arith, few, e, z.0), z.1, led_zeros q i alts e z.2)

      less_one : (at : ℕ) (i : Instr) → takes k i ≡ 1 → leaves i ≡ 0 → nexts at i ≡ suc at ∷ [] → Good at (i ∷ []) (suc base) base
      less_one at i t l next =
          good_as at (i ∷ []) (suc base) (suc base + 0 - 1) base (omega (arith, few)) (good_one at (suc base) 1 0 i (omega (arith, few)) t l (omega (arith, few)) next)

      store_less : (at x : ℕ) → Good at (store g x ∷ []) (suc base) base
      store_less at x = by (contains g.temps x)
        where
          by : (b : Bool) → Good at ((if b then I.StoreT (number_of g.temps x) else I.StoreI (number_of g.vars x)) ∷ []) (suc base) base
          by true = less_one at (I.StoreT (number_of g.temps x)) refl refl refl
          by false = less_one at (I.StoreI (number_of g.vars x)) refl refl refl

      same_zero : (at : ℕ) (i : Instr) → takes k i ≡ 0 → leaves i ≡ 0 → nexts at i ≡ suc at ∷ [] → Good at (i ∷ []) base base
      same_zero at i t l next =
          good_as at (i ∷ []) base (base + 0 - 0) base (omega (arith, few)) (good_one at base 0 0 i (omega (arith, few)) t l (omega (arith, few)) next)

      mutual
        statement_good : (st : Statement) (at : ℕ) → is_counted_statement k base st ≡ true → Good at (statement_code g at st) base base
        statement_good (T.Assign x p e) at q = good_seq at (expression_code g e) (store g x ∷ []) base (suc base) base (expression_good e at base q) (store_less _ x)
        statement_good (T.Write e) at q = good_seq at (expression_code g e) (I.Write ∷ []) base (suc base) base (expression_good e at base q) (less_one _ I.Write refl refl refl)
        statement_good (T.WriteText n) at q = same_zero at (I.WriteText (name n)) refl refl refl
        statement_good (T.Do e) at q = good_seq at (expression_code g e) (I.Pop ∷ []) base (suc base) base (expression_good e at base q) (less_one _ I.Pop refl refl refl)
        statement_good (T.Async e m p es) at q =
            let a = expressions_good es (at + length (expression_code g e)) (suc base) (grind (arith, q)) in
            good_seq at (expression_code g e) (expressions_code g es ++ I.Async (name m) (size es) ∷ []) base (suc base) base (expression_good e at base (grind (arith, q)))
            (good_seq _ (expressions_code g es) (I.Async (name m) (size es) ∷ []) (suc base) (suc base + size es) base a.0
            (good_as _ (I.Async (name m) (size es) ∷ []) (suc base + size es) (suc base + size es + 0 - suc (size es)) base (omega (arith, few))
            (good_one _ (suc base + size es) (suc (size es)) 0 (I.Async (name m) (size es)) (a.1 (omega (arith, few))) refl refl (omega (arith, few)) refl)))
        statement_good (T.If e these those) at q = λ has z lt.
            let test = expression_code g e in
            let m = at + length test in
            let yes = suc m in
            let first = statements_code g yes these in
            let j = yes + length first in
            let other = suc j in
            let second = statements_code g other those in
            let branch = I.Branch other in
            let jump = I.Jump (other + length second) in
            let l1 = length-append test (branch ∷ (first ++ jump ∷ second)) in
            let l2 = length-append first (jump ∷ second) in
            let b = back c at test (branch ∷ (first ++ jump ∷ second)) has in
            let d = back c yes first (jump ∷ second) b.1 in
            let t = expression_good e at base (grind (arith, q)) (front c at test (branch ∷ (first ++ jump ∷ second)) has) z (omega (arith, few, lt, l1)) in
            let zy : H yes ≡ base = height_next k 0 c m branch b.0 ∙ ap (λ n. moved k n branch) t.1 ∙ (let w : suc base + 0 - 1 ≡ base = omega (arith, few) in w) in
            let f = statements_good these yes (grind (arith, q)) (front c yes first (jump ∷ second) b.1) zy (omega (arith, few, lt, l1, l2)) in
            let zo : H other ≡ base = height_next k 0 c j jump d.0 ∙ ap (λ n. moved k n jump) f.1 ∙ (let w : base + 0 - 0 ≡ base = omega (arith, few) in w) in
            let s = statements_good those other (grind (arith, q)) d.1 zo (omega (arith, few, lt, l1, l2)) in (
              join at test (branch ∷ (first ++ jump ∷ second)) t.0 (
                (omega (arith, few, t.1), omega (arith, few, t.1), (omega (arith, few, t.1, zy), omega (arith, few, lt, l1, l2), (omega (arith, few, t.1, zo), omega (arith, few, lt, l1, l2), tt))),
                join yes first (jump ∷ second) f.0 ((omega (arith, few, f.1), omega (arith, few, f.1), (omega (arith, few, f.1, s.1), omega (arith, few, lt, l1, l2), tt)), s.0),
              ),
              ap H (let w : at + length (test ++ branch ∷ (first ++ jump ∷ second)) ≡ other + length second = omega (arith, few, l1, l2) in w) ∙ s.1,
            )
        statement_good (T.While e ss) at q = λ has z lt.
            let test = expression_code g e in
            let m = suc at + length test in
            let go = suc m in
            let turn = statements_code g go ss in
            let j = go + length turn in
            let branch = I.Branch (suc j) in
            let jump = I.Jump at in
            let l1 = length-append test (branch ∷ (turn ++ jump ∷ [])) in
            let l2 = length-append turn (jump ∷ []) in
            let b = back c (suc at) test (branch ∷ (turn ++ jump ∷ [])) has.1 in
            let d = back c go turn (jump ∷ []) b.1 in
            let z1 : H (suc at) ≡ base = height_next k 0 c at I.Loop has.0 ∙ ap (λ n. moved k n I.Loop) z ∙ (let w : base + 0 - 0 ≡ base = omega (arith, few) in w) in
            let t = expression_good e (suc at) base (grind (arith, q)) (front c (suc at) test (branch ∷ (turn ++ jump ∷ [])) has.1) z1 (omega (arith, few, lt, l1)) in
            let zg : H go ≡ base = height_next k 0 c m branch b.0 ∙ ap (λ n. moved k n branch) t.1 ∙ (let w : suc base + 0 - 1 ≡ base = omega (arith, few) in w) in
            let f = statements_good ss go (grind (arith, q)) (front c go turn (jump ∷ []) b.1) zg (omega (arith, few, lt, l1, l2)) in
            let zj : H (suc j) ≡ base = height_next k 0 c j jump d.0 ∙ ap (λ n. moved k n jump) f.1 ∙ (let w : base + 0 - 0 ≡ base = omega (arith, few) in w) in (
              (
                (omega (arith, few), omega (arith, few, z), (omega (arith, few, z, z1), omega (arith, few, lt, l1), tt)),
                join (suc at) test (branch ∷ (turn ++ jump ∷ [])) t.0 (
                  (omega (arith, few, t.1), omega (arith, few, t.1), (omega (arith, few, t.1, zg), omega (arith, few, lt, l1, l2), (omega (arith, few, t.1, zj), omega (arith, few, lt, l1, l2), tt))),
                  join go turn (jump ∷ []) f.0 ((omega (arith, few, f.1), omega (arith, few, f.1), (omega (arith, few, f.1, z), omega (arith, few, lt, l1, l2), tt)), tt),
                ),
              ),
              ap H (let w : at + length (I.Loop ∷ (test ++ branch ∷ (turn ++ jump ∷ []))) ≡ suc j = omega (arith, few, l1, l2) in w) ∙ zj,
            )
        statement_good (T.Answer ns) at q = same_zero at (I.Answer (map (λ n. n.name) ns)) refl refl refl
        statement_good (T.Select alts) at q = λ has z lt.
            let gs = guards_code g alts in
            let m = at + length gs in
            let go = suc m in
            let last = go + length (alternatives_code g go 0 alts) in
            let works = alternatives_code g go last alts in
            let targets = alternatives_at g go alts in
            let i = I.Select targets in
            let l1 = length-append gs (i ∷ works) in
            let l2 = works_length k c g alts go 0 last in
            let b = back c at gs (i ∷ works) has in
            let a = guards_good alts at base (grind (arith, q)) in
            let s = a.0 (front c at gs (i ∷ works) has) z (omega (arith, few, lt, l1)) in
            let n = count_at alts go in
            let bound = a.1 (omega (arith, few)) in
            let zg : H go ≡ base = height_next k 0 c m i b.0 ∙ (let w : H m + leaves i - takes k i ≡ base = omega (arith, few, s.1, n) in w) in
            let e : H last ≡ base =
            ap H (let w : last ≡ go + length works = omega (arith, few, l2) in w) ∙ works_end alts go last (grind (arith, q)) b.1 zg (omega (arith, few, lt, l1)) in
            let w = works_good alts go last (grind (arith, q)) b.1 zg (omega (arith, few, lt, l1)) e (omega (arith, few, lt, l1, l2)) in (
              join at gs (i ∷ works) s.0
                  ((omega (arith, few, s.1, n), omega (arith, few, s.1, bound), led_zeros m i targets (omega (arith, few, s.1, n)) w.1), w.0),
              ap H (let v : at + length (gs ++ i ∷ works) ≡ last = omega (arith, few, l1, l2) in v) ∙ e,
            )
        statement_good (T.Serve m w t ss e qs) at q = absurd (grind (arith, q))

        pub statements_good : (ss : Statements) (at : ℕ) → are_counted_statements k base ss ≡ true → Good at (statements_code g at ss) base base
        statements_good T.Done at q = good_nil at base
        statements_good (T.Then st ss) at q =
            good_seq at (statement_code g at st) (statements_code g (at + length (statement_code g at st)) ss) base base base
            (statement_good st at (grind (arith, q))) (statements_good ss (at + length (statement_code g at st)) (grind (arith, q)))

        -- after the lists no operand is left
        works_end : (alts : Alternatives) (at last : ℕ) → are_counted_works k base alts ≡ true → Has c at (alternatives_code g at last alts) → H at ≡ base
            → at + length (alternatives_code g at last alts) < length c → H (at + length (alternatives_code g at last alts)) ≡ base
        works_end T.NoAlts at last q has z lt = ap H (let w : at + 0 ≡ at = omega (arith, few) in w) ∙ z
        works_end (T.Alt e n ss alts) at last q has z lt =
            let w = statements_code g at ss in
            let j = at + length w in
            let rest = alternatives_code g (suc j) last alts in
            let l1 = length-append w (I.Jump last ∷ rest) in
            let b = back c at w (I.Jump last ∷ rest) has in
            let f = statements_good ss at (grind (arith, q)) (front c at w (I.Jump last ∷ rest) has) z (omega (arith, few, lt, l1)) in
            let zj : H (suc j) ≡ base = height_next k 0 c j (I.Jump last) b.0 ∙ ap (λ x. moved k x (I.Jump last)) f.1 ∙ (let w : base + 0 - 0 ≡ base = omega (arith, few) in w) in
            ap H (let v : at + length (w ++ I.Jump last ∷ rest) ≡ suc j + length rest = omega (arith, few, l1) in v)
            ∙ works_end alts (suc j) last (grind (arith, q)) b.1 zj (omega (arith, few, lt, l1))

        works_good : (alts : Alternatives) (at last : ℕ) → are_counted_works k base alts ≡ true → Has c at (alternatives_code g at last alts) → H at ≡ base
            → at + length (alternatives_code g at last alts) < length c → H last ≡ base → last < length c
            → AllFine at (alternatives_code g at last alts) × Zeros (alternatives_at g at alts)
        works_good T.NoAlts at last q has z lt e in_range = (tt, tt)
        works_good (T.Alt a n ss alts) at last q has z lt e in_range =
            let w = statements_code g at ss in
            let j = at + length w in
            let rest = alternatives_code g (suc j) last alts in
            let l1 = length-append w (I.Jump last ∷ rest) in
            let b = back c at w (I.Jump last ∷ rest) has in
            let f = statements_good ss at (grind (arith, q)) (front c at w (I.Jump last ∷ rest) has) z (omega (arith, few, lt, l1)) in
            let zj : H (suc j) ≡ base = height_next k 0 c j (I.Jump last) b.0 ∙ ap (λ x. moved k x (I.Jump last)) f.1 ∙ (let w : base + 0 - 0 ≡ base = omega (arith, few) in w) in
            let r = works_good alts (suc j) last (grind (arith, q)) b.1 zj (omega (arith, few, lt, l1)) e in_range in (
              join at w (I.Jump last ∷ rest) f.0 ((omega (arith, few, f.1), omega (arith, few, f.1), (omega (arith, few, f.1, e), in_range, tt)), r.0),
              (z, omega (arith, few, lt), r.1),
            )
