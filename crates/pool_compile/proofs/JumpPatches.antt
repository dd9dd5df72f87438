-- Forward jumps are patched after the code that they skip is emitted.
use Rattle.std.proofs.Common.{◌≡◌, refl, sym, ap, ◌∙◌, subst, ℕ, suc, ◌+◌, ◌<◌, ◌≤◌, List, [], ◌∷◌, ◌++◌, length, drop, get_or, append_assoc, length-append, arith}
use Rattle.std.specs.Prelude.{slice_set, Option}
use Rattle.std.specs.List.{All}
use Rattle.std.proofs.Math.Seq.{set-append_seam}
use Rattle.std.proofs.lemmas.List.{at_drop_more, length-set}
use Rattle.std.proofs.lemmas.List.Elements.{All-nil, All-cons}
use Rattle.run_types.specs.declared.types.NameId.{NameId}
use Rattle.pool_syntax.specs.declared.tree.Stmt.{Stmt}
use Rattle.pool_syntax.specs.declared.tree.Alt.{Alt, out-Alt}
use Rattle.pool_syntax.specs.Terms.{Alternatives, NoAlts, Alt as OneAlt, Select}
use Rattle.pool_syntax.specs.TreeOf.{expression_of, statement_of, statements_of, alternatives_of}
use Rattle.code_semantics.specs.declared.unit.Instr.{Instr}
use Rattle.code_semantics.specs.declared.unit.Instr.TheVariants as I
use Rattle.code_semantics.specs.declared.unit.AltCode.{AltCode}
use Rattle.pool_compile.specs.Code.{Numbering, statement_code, statements_code, guards_code, alternatives_code, alternatives_at, answer_names, if_code, while_code}
use Rattle.pool_compile.specs.Jumps.{filled, jumps_at}

-- a statement more
pub put_statement : (g : Numbering) (base now new all : List Instr) (ss : List Stmt) (i : ℕ) (s : Stmt) → i < length ss → s ≡ get_or ss i s
    → new ≡ now ++ statement_code g (length now) (statement_of s)
    → now ++ statements_code g (length now) (statements_of (drop i ss)) ≡ base ++ all
    → new ++ statements_code g (length new) (statements_of (drop (i + 1) ss)) ≡ base ++ all
put_statement g base now new all ss i s within at e h =
    let part = statement_code g (length now) (statement_of s) in
    let after = statements_of (drop (i + 1) ss) in
    let n : length new ≡ length now + length part = ap length e ∙ length-append now part in
    let rest : statements_code g (length now) (statements_of (drop i ss)) ≡ part ++ statements_code g (length now + length part) after =
    at_drop_more (λ xs. statements_code g (length now) (statements_of xs)) ss i s within
    ∙ ap (λ y. statements_code g (length now) (statements_of (y ∷ drop (i + 1) ss))) (sym at) in
    ap (λ x. x ++ statements_code g (length new) after) e
    ∙ ap (λ m. (now ++ part) ++ statements_code g m after) n
    ∙ append_assoc now part (statements_code g (length now + length part) after)
    ∙ ap (λ x. now ++ x) (sym rest) ∙ h

two_writes : (c a b : List Instr) (x y i j : Instr) → slice_set (slice_set (c ++ x ∷ (a ++ y ∷ b)) (length c) i) (length (c ++ i ∷ a)) j ≡ c ++ i ∷ (a ++ j ∷ b)
two_writes c a b x y i j =
    ap (λ l. slice_set l (length (c ++ i ∷ a)) j) (set-append_seam c x (a ++ y ∷ b) i ∙ sym (append_assoc c (i ∷ a) (y ∷ b)))
    ∙ set-append_seam (c ++ i ∷ a) y b j
    ∙ append_assoc c (i ∷ a) (j ∷ b)

pub patch_if : (base test : List Instr) (these those : ℕ → List Instr) (c1 c2 c3 c4 c5 : List Instr) (x y : Instr) (n1 n2 n3 : ℕ)
    → c1 ≡ base ++ test → n1 ≡ length c1 → c2 ≡ c1 ++ x ∷ [] → c3 ≡ c2 ++ these (length c2) → n2 ≡ length c3 → c4 ≡ c3 ++ y ∷ [] → c5 ≡ c4 ++ those (length c4)
    → n3 ≡ length c5
    → slice_set (slice_set c5 n1 (I.Branch (n2 + 1))) n2 (I.Jump n3) ≡ base ++ if_code (length base) test these those
patch_if base test these those c1 c2 c3 c4 c5 x y n1 n2 n3 e1 m1 e2 e3 m2 e4 e5 m3 =
    let yes = suc (length base + length test) in
    let l1 : length c1 ≡ length base + length test = ap length e1 ∙ length-append base test in
    let l2 : length c2 ≡ yes = omega (arith, ap length e2, length-append c1 (x ∷ []), l1) in
    let first = these yes in
    let f : c3 ≡ c2 ++ first = e3 ∙ ap (λ n. c2 ++ these n) l2 in
    let no = suc (yes + length first) in
    let l3 : length c3 ≡ yes + length first = omega (arith, ap length f, length-append c2 first, l2) in
    let l4 : length c4 ≡ no = omega (arith, ap length e4, length-append c3 (y ∷ []), l3) in
    let second = those no in
    let s : c5 ≡ c4 ++ second = e5 ∙ ap (λ n. c4 ++ those n) l4 in
    let l5 : length c5 ≡ no + length second = omega (arith, ap length s, length-append c4 second, l4) in
    let i = I.Branch (n2 + 1) in
    let j = I.Jump n3 in
    let d1 : n2 + 1 ≡ no = omega (arith, m2, l3) in
    let d2 : n3 ≡ no + length second = m3 ∙ l5 in
    let at2 : n2 ≡ length (c1 ++ i ∷ first) = omega (arith, length-append c1 (i ∷ first), m2, l3, l1) in
    let all : c5 ≡ (((c1 ++ x ∷ []) ++ first) ++ y ∷ []) ++ second = cc in
    let flat : (((c1 ++ x ∷ []) ++ first) ++ y ∷ []) ++ second ≡ c1 ++ x ∷ (first ++ y ∷ second) = simp append_assoc in
    ap (λ l. slice_set (slice_set l n1 i) n2 j) (all ∙ flat)
    ∙ ap (λ n. slice_set (slice_set (c1 ++ x ∷ (first ++ y ∷ second)) n i) n2 j) m1
    ∙ ap (λ n. slice_set (slice_set (c1 ++ x ∷ (first ++ y ∷ second)) (length c1) i) n j) at2
    ∙ two_writes c1 first second x y i j
    ∙ ap (λ l. l ++ i ∷ (first ++ j ∷ second)) e1
    ∙ append_assoc base test (i ∷ (first ++ j ∷ second))
    ∙ ap (λ n. base ++ (test ++ I.Branch n ∷ (first ++ j ∷ second))) d1
    ∙ ap (λ n. base ++ (test ++ I.Branch no ∷ (first ++ I.Jump n ∷ second))) d2

pub patch_while : (base test : List Instr) (body : ℕ → List Instr) (c1 c2 c3 c4 c5 : List Instr) (x : Instr) (n0 n1 n2 : ℕ)
    → n0 ≡ length base → c1 ≡ base ++ I.Loop ∷ [] → c2 ≡ c1 ++ test → n1 ≡ length c2 → c3 ≡ c2 ++ x ∷ [] → c4 ≡ c3 ++ body (length c3) → c5 ≡ c4 ++ I.Jump n0 ∷ [] → n2 ≡ length c5
    → slice_set c5 n1 (I.Branch n2) ≡ base ++ while_code (length base) test body
patch_while base test body c1 c2 c3 c4 c5 x n0 n1 n2 m0 e1 e2 m1 e3 e4 e5 m2 =
    let l1 : length c1 ≡ suc (length base) = omega (arith, ap length e1, length-append base (I.Loop ∷ [])) in
    let l2 : length c2 ≡ suc (length base) + length test = omega (arith, ap length e2, length-append c1 test, l1) in
    let go = suc (suc (length base) + length test) in
    let l3 : length c3 ≡ go = omega (arith, ap length e3, length-append c2 (x ∷ []), l2) in
    let turn = body go in
    let f : c4 ≡ c3 ++ turn = e4 ∙ ap (λ n. c3 ++ body n) l3 in
    let l4 : length c4 ≡ go + length turn = omega (arith, ap length f, length-append c3 turn, l3) in
    let l5 : n2 ≡ suc (go + length turn) = omega (arith, m2, ap length e5, length-append c4 (I.Jump n0 ∷ []), l4) in
    let i = I.Branch n2 in
    let j = I.Jump n0 in
    let all : c5 ≡ ((c2 ++ x ∷ []) ++ turn) ++ j ∷ [] = cc in
    let flat : ((c2 ++ x ∷ []) ++ turn) ++ j ∷ [] ≡ c2 ++ x ∷ (turn ++ j ∷ []) = simp append_assoc in
    let front : c2 ≡ base ++ I.Loop ∷ test = e2 ∙ ap (λ l. l ++ test) e1 ∙ append_assoc base (I.Loop ∷ []) test in
    ap (λ l. slice_set l n1 i) (all ∙ flat)
    ∙ ap (λ n. slice_set (c2 ++ x ∷ (turn ++ j ∷ [])) n i) m1
    ∙ set-append_seam c2 x (turn ++ j ∷ []) i
    ∙ ap (λ l. l ++ i ∷ (turn ++ j ∷ [])) front
    ∙ append_assoc base (I.Loop ∷ test) (i ∷ (turn ++ j ∷ []))
    ∙ ap (λ n. base ++ I.Loop ∷ (test ++ I.Branch n ∷ (turn ++ j ∷ []))) l5
    ∙ ap (λ n. base ++ I.Loop ∷ (test ++ I.Branch (suc (go + length turn)) ∷ (turn ++ I.Jump n ∷ []))) m0

-- all jumps filled
fill_all : (g : Numbering) (alts : Alternatives) (base : List Instr) (at end : ℕ) → at ≡ length base
    → filled (base ++ alternatives_code g at 0 alts) (jumps_at g at alts) end ≡ base ++ alternatives_code g at end alts
fill_all g NoAlts base at end e = refl
fill_all g (OneAlt q ns ss alts) base at end e =
    let w = statements_code g at ss in
    let next = suc (at + length w) in
    let js = jumps_at g next alts in
    let r = alternatives_code g next 0 alts in
    let front = base ++ w in
    let here : at + length w ≡ length front = omega (arith, e, length-append base w) in
    let behind : next ≡ length (front ++ I.Jump end ∷ []) = omega (arith, here, length-append front (I.Jump end ∷ [])) in
    ap (λ c. filled (slice_set c (at + length w) (I.Jump end)) js end) (sym (append_assoc base w (I.Jump 0 ∷ r)))
    ∙ ap (λ n. filled (slice_set (front ++ I.Jump 0 ∷ r) n (I.Jump end)) js end) here
    ∙ ap (λ c. filled c js end) (set-append_seam front (I.Jump 0) r (I.Jump end) ∙ sym (append_assoc front (I.Jump end ∷ []) r))
    ∙ fill_all g alts (front ++ I.Jump end ∷ []) next end behind
    ∙ append_assoc front (I.Jump end ∷ []) (alternatives_code g next end alts)
    ∙ append_assoc base w (I.Jump end ∷ alternatives_code g next end alts)

jumps_within : (g : Numbering) (alts : Alternatives) (at n : ℕ) → at + length (alternatives_code g at 0 alts) ≤ n → All (λ p. p < n) (jumps_at g at alts)
jumps_within g NoAlts at n h = All-nil (λ p. p < n)
jumps_within g (OneAlt q ns ss alts) at n h =
    let w = statements_code g at ss in
    let next = suc (at + length w) in
    let l = length-append w (I.Jump 0 ∷ alternatives_code g next 0 alts) in
    All-cons (λ p. p < n) (at + length w) (jumps_at g next alts) (omega (arith, h, l)) (jumps_within g alts next n (omega (arith, h, l)))

pub jumps_are_there : (g : Numbering) (alts : Alternatives) (c2 c3 : List Instr) (js : List ℕ) → c3 ≡ c2 ++ alternatives_code g (length c2) 0 alts → js ≡ [] ++ jumps_at g (length c2) alts
    → All (λ p. p < length c3) js
jumps_are_there g alts c2 c3 js e f =
    subst (All (λ p. p < length c3)) (sym f) (jumps_within g alts (length c2) (length c3) (omega (arith, ap length e, length-append c2 (alternatives_code g (length c2) 0 alts))))

filled_length : (c : List Instr) (ps : List ℕ) (end : ℕ) → length (filled c ps end) ≡ length c
filled_length c [] end = refl
filled_length c (p ∷ ps) end = filled_length (slice_set c p (I.Jump end)) ps end ∙ length-set c p (I.Jump end)

pub select_is_there : (c1 c2 c3 : List Instr) (more : List Instr) (x : Instr) (js : List ℕ) (n1 end : ℕ) → n1 ≡ length c1 → c2 ≡ c1 ++ x ∷ [] → c3 ≡ c2 ++ more → n1 < length (filled c3 js end)
select_is_there c1 c2 c3 more x js n1 end m1 e2 e3 =
    omega (arith, m1, ap length e2, length-append c1 (x ∷ []), ap length e3, length-append c2 more, filled_length c3 js end)

pub patch_select : (g : Numbering) (alts : Alternatives) (base c1 c2 c3 : List Instr) (x : Instr) (targets : List AltCode) (js : List ℕ) (n1 n2 : ℕ)
    → c1 ≡ base ++ guards_code g alts → n1 ≡ length c1 → c2 ≡ c1 ++ x ∷ [] → c3 ≡ c2 ++ alternatives_code g (length c2) 0 alts
    → targets ≡ [] ++ alternatives_at g (length c2) alts → js ≡ [] ++ jumps_at g (length c2) alts → n2 ≡ length c3
    → slice_set (filled c3 js n2) n1 (I.Select targets) ≡ base ++ statement_code g (length base) (Select alts)
patch_select g alts base c1 c2 c3 x targets js n1 n2 e1 m1 e2 e3 t j m2 =
    let gs = guards_code g alts in
    let go = suc (length base + length gs) in
    let l1 : length c1 ≡ length base + length gs = ap length e1 ∙ length-append base gs in
    let l2 : length c2 ≡ go = omega (arith, ap length e2, length-append c1 (x ∷ []), l1) in
    let l3 : n2 ≡ go + length (alternatives_code g go 0 alts) =
    m2 ∙ ap length (e3 ∙ ap (λ n. c2 ++ alternatives_code g n 0 alts) l2) ∙ length-append c2 (alternatives_code g go 0 alts)
    ∙ ap (λ n. n + length (alternatives_code g go 0 alts)) l2 in
    let works = alternatives_code g go n2 alts in
    ap (λ c. slice_set (filled c js n2) n1 (I.Select targets)) e3
    ∙ ap (λ l. slice_set (filled (c2 ++ alternatives_code g (length c2) 0 alts) l n2) n1 (I.Select targets)) j
    ∙ ap (λ c. slice_set c n1 (I.Select targets)) (fill_all g alts c2 (length c2) n2 refl)
    ∙ ap (λ n. slice_set (c2 ++ alternatives_code g n n2 alts) n1 (I.Select targets)) l2
    ∙ ap (λ c. slice_set (c ++ works) n1 (I.Select targets)) e2
    ∙ ap (λ c. slice_set c n1 (I.Select targets)) (append_assoc c1 (x ∷ []) works)
    ∙ ap (λ n. slice_set (c1 ++ x ∷ works) n (I.Select targets)) m1
    ∙ set-append_seam c1 x works (I.Select targets)
    ∙ ap (λ c. c ++ I.Select targets ∷ works) e1
    ∙ append_assoc base gs (I.Select targets ∷ works)
    ∙ ap (λ l. base ++ (gs ++ I.Select l ∷ works)) (t ∙ ap (λ n. alternatives_at g n alts) l2)
    ∙ ap (λ n. base ++ (gs ++ I.Select (alternatives_at g go alts) ∷ alternatives_code g go n alts)) l3

-- an alternative more
module _ (g : Numbering) (now c1 new : List Instr) (xs : List Alt) (i : ℕ) (a : Alt) (within : i < length xs) (at : a ≡ get_or xs i a)
    (e1 : c1 ≡ now ++ statements_code g (length now) (statements_of (out-Alt a).work)) (e2 : new ≡ c1 ++ I.Jump 0 ∷ []) where
  abbrev work : List Instr
  work = statements_code g (length now) (statements_of (out-Alt a).work)

  abbrev after : Alternatives
  after = alternatives_of (drop (i + 1) xs)

  behind : length new ≡ suc (length now + length work)
  behind = omega (arith, ap length e2, length-append c1 (I.Jump 0 ∷ []), ap length e1, length-append now work)

  left_at : {A : Type 0} (all : Alternatives → A) → all (alternatives_of (drop i xs)) ≡ all (OneAlt (expression_of (out-Alt a).guard) (out-Alt a).answer (statements_of (out-Alt a).work) after)
  left_at all =
      at_drop_more (λ ys. all (alternatives_of ys)) xs i a within ∙ ap (λ y. all (alternatives_of (y ∷ drop (i + 1) xs))) (sym at)

  pub put_work : (base all : List Instr) → now ++ alternatives_code g (length now) 0 (alternatives_of (drop i xs)) ≡ base ++ all
      → new ++ alternatives_code g (length new) 0 after ≡ base ++ all
  put_work base all h =
      ap (λ n. new ++ alternatives_code g n 0 after) behind
      ∙ ap (λ c. c ++ alternatives_code g (suc (length now + length work)) 0 after) (e2 ∙ ap (λ c. c ++ I.Jump 0 ∷ []) e1 ∙ append_assoc now work (I.Jump 0 ∷ []))
      ∙ append_assoc now (work ++ I.Jump 0 ∷ []) (alternatives_code g (suc (length now + length work)) 0 after)
      ∙ ap (λ c. now ++ c) (append_assoc work (I.Jump 0 ∷ []) (alternatives_code g (suc (length now + length work)) 0 after) ∙ sym (left_at (alternatives_code g (length now) 0)))
      ∙ h

  pub put_target : (old new_targets base all : List AltCode) (names : Option (List NameId)) (n : ℕ) → names ≡ answer_names (out-Alt a).answer → n ≡ length now
      → new_targets ≡ old ++ record { answer = names; at = n } ∷ []
      → old ++ alternatives_at g (length now) (alternatives_of (drop i xs)) ≡ base ++ all
      → new_targets ++ alternatives_at g (length new) after ≡ base ++ all
  put_target old new_targets base all names n e f t h =
      let one : Option (List NameId) → ℕ → AltCode = λ o m. record { answer = o; at = m } in
      ap (λ m. new_targets ++ alternatives_at g m after) behind
      ∙ ap (λ c. c ++ alternatives_at g (suc (length now + length work)) after) (t ∙ ap (λ o. old ++ one o n ∷ []) e ∙ ap (λ m. old ++ one (answer_names (out-Alt a).answer) m ∷ []) f)
      ∙ append_assoc old (one (answer_names (out-Alt a).answer) (length now) ∷ []) (alternatives_at g (suc (length now + length work)) after)
      ∙ ap (λ c. old ++ c) (sym (left_at (alternatives_at g (length now))))
      ∙ h

  pub put_jump : (old new_jumps base all : List ℕ) (n : ℕ) → n ≡ length c1 → new_jumps ≡ old ++ n ∷ []
      → old ++ jumps_at g (length now) (alternatives_of (drop i xs)) ≡ base ++ all
      → new_jumps ++ jumps_at g (length new) after ≡ base ++ all
  put_jump old new_jumps base all n f t h =
      let place : n ≡ length now + length work = f ∙ ap length e1 ∙ length-append now work in
      ap (λ m. new_jumps ++ jumps_at g m after) behind
      ∙ ap (λ c. c ++ jumps_at g (suc (length now + length work)) after) (t ∙ ap (λ m. old ++ m ∷ []) place)
      ∙ append_assoc old ((length now + length work) ∷ []) (jumps_at g (suc (length now + length work)) after)
      ∙ ap (λ c. old ++ c) (sym (left_at (jumps_at g (length now))))
      ∙ h
