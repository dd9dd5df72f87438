-- The code of a body and of a method without class faults is well sorted.
use Rattle.std.proofs.Common.{◌≡◌, ◌⊎◌, inl, inr, refl, sym, ap, subst, ◌∙◌, IsTrue, ℕ, zero, suc, ◌+◌, ◌<◌, ◌≤◌, List, [], ◌∷◌, ◌++◌, length, Option, Some, None, is_some, true, false, arith, length-append, append_assoc}
use Rattle.std.specs.Prelude.{slice_get, ◌^◌, if◌then◌else◌}
use Rattle.text_scan.specs.Text.{Text}
use Rattle.run_types.specs.declared.types.Value.TheVariants as V
use Rattle.pool_syntax.specs.declared.tree.Var.{Var}
use Rattle.run_types.specs.declared.types.Kind.{Kind}
use Rattle.pool_syntax.specs.Terms as T
use Rattle.pool_syntax.specs.Terms.{Expression, Statements, MethodTree, ClassTree, ProgramTree}
use Rattle.pool_syntax.specs.Classes.{class_of}
use Rattle.pool_syntax.specs.Spelled.{are_spelled_statements}
use Rattle.pool_syntax.specs.Typing as Typing
use Rattle.run_types.specs.Sorts.{Sort, NilSort}
use Rattle.pool_syntax.specs.Typing.{sort_of, behind_value}
use Rattle.pool_syntax.specs.SourceParts.{is_value_for}
use Rattle.pool_relation.proofs.Laws.{is_broken, Nothing, TypedExpression, TypedStatements, AllKnown, OutcomeKnown, Known, fits_outcome, gives}
use Rattle.run_types.proofs.Laws.{same_some, there_at}
use Rattle.code_semantics.specs.declared.unit.Instr.{Instr}
use Rattle.code_semantics.specs.declared.unit.Instr.TheVariants as I
use Rattle.code_semantics.specs.declared.file.MethodKinds.{MethodKinds}
use Rattle.code_semantics.specs.Proper.{IsProperCode}
use Rattle.code_semantics.specs.ReachedPlaces.{Exists, Chain}
use Rattle.pool_compile.specs.Code.{Numbering, more, expression_words, statements_words, class_code, names_of, method_code_of, statements_code, expression_code, post_code, method_instrs, body_instrs}
use Rattle.pool_compile.proofs.Laws.{Has, front, back, has_all}
use Rattle.code_typing.specs.Sorts.{Stack, CodeScope, value_sort, fits_sort, left_by}
use Rattle.code_typing.specs.Verified.{IsText, last_instr, EndsRight, IsWellSorted}
use Rattle.compiler_correctness.specs.ReachedCode.{EachIsReached}
use Rattle.compiler_correctness.specs.DeclaredKinds.{kinds_of, method_kinds, file_of}
use Rattle.run_types.specs.Partial.{◌>>=◌}
use Rattle.compiler_correctness.proofs.Stacks.{S, AllFine, join, fine_here, reached_is, after_one, Good, good_seq, good_one, good_nil}
use Rattle.compiler_correctness.proofs.OperandDepth.{more_is, Comes, comes_stack, AllAtMost, AllCome, come_at, join_at_most, join_come, at_most_at, Met, Span, span_nil, span_seq, span_one}
use Rattle.compiler_correctness.proofs.DeclarationLookup.{known_sort}
use Rattle.compiler_correctness.proofs.PlainCode.{IsPlain, ArePlain, plain_at, statements_plain, expression_plain}
use Rattle.compiler_correctness.proofs.CompiledStacks.{G, CG, num, whole, fits_of_need, have_choices, expression_good, statements_good, expression_span, statements_span}

-- the end of a list
last_of : (a : List Instr) (i : Instr) → last_instr (a ++ i ∷ []) ≡ Some i
last_of [] i = refl
last_of (x ∷ []) i = refl
last_of (x ∷ y ∷ a) i = last_of (y ∷ a) i

-- a place of two lists
in_parts : (a b : List Instr) (n : ℕ) (j : Instr) → slice_get (a ++ b) n ≡ Some j → (slice_get a n ≡ Some j) ⊎ ((m : ℕ) × (slice_get b m ≡ Some j))
in_parts [] b n j e = inr (n, e)
in_parts (x ∷ a) b zero j e = inl e
in_parts (x ∷ a) b (suc n) j e = in_parts a b n j e

-- a place of a list and one more
at_of : (a : List Instr) (i : Instr) (n : ℕ) (j : Instr) → slice_get (a ++ i ∷ []) n ≡ Some j → (slice_get a n ≡ Some j) ⊎ (i ≡ j)
at_of [] i zero j e = inr (same_some e)
at_of [] i (suc n) j e = absurd (let z : None ≡ Some j = e in cc)
at_of (x ∷ a) i zero j e = inl e
at_of (x ∷ a) i (suc n) j e = at_of a i n j e

module _ (g : CodeScope) (c : List Instr) (ok : AllFine g c 0 c) (some : 0 < length c) where
  -- well sorted, where the most operands are known
  sorted_code : (n words : ℕ) → AllAtMost g c ok some n 0 c → Met g c ok some n → words ≡ length g.temps + n → length c ≤ 2 ^ 32
      → ((at : ℕ) (i : Instr) → slice_get c at ≡ Some i → Exists g.file.unit (Some g.class.code) (length g.temps) c i × IsText g.file i) → EndsRight g.value c
      → ((at n : ℕ) → ¬ (Chain c (suc n) at at)) → IsWellSorted g words c
  sorted_code n words all met is short exists ends calm = record {
    exists = exists;
    ends = ends;
    one_stack = λ at s t x y. same_some (sym (reached_is g c ok some x.0 at s x.1).0 ∙ (reached_is g c ok some y.0 at t y.1).0);
    taken = λ at s x.
        let r = reached_is g c ok some x.0 at s x.1 in
        let i = there_at c at r.1 in
        let f = fine_here g c at i.0 ok i.1 in
        let same : f.before ≡ s = same_some (sym f.is_before ∙ r.0) in (
          subst (λ (z : Stack). length z ≤ 64) same f.few,
          (let lt = r.1 in omega (arith, lt, short)),
          (i.0, i.1, subst (λ z. IsTrue (is_some z)) (sym (subst (λ z. left_by g i.0 z ≡ Some f.after) same f.is_after)) refl),
        );
    longest = (
      n,
      record {
        bound = λ at s x.
            let r = reached_is g c ok some x.0 at s x.1 in
            let y = at_most_at g c ok some n 0 c at r.1 all in
            y s (ap (S g c) (let z : 0 + at ≡ at = omega arith in z) ∙ r.0);
        met = (met.0, met.1.0, met.1.1, met.2);
      },
      is,
    );
    no_circle = calm;
  }

  -- each place is reached, if this is so of the code as a piece
  each_reached : AllCome g c ok some 0 c → EachIsReached g c
  each_reached h at lt = subst (Comes g c ok some) (let z : 0 + at ≡ at = omega arith in z) (come_at g c ok some 0 c at lt h)

  -- with nothing below
  counted : (at : ℕ) (l : List Instr) (n : ℕ) → Span g c ok some at l (0 + n) → Span g c ok some at l n
  counted at l n x = subst (Span g c ok some at l) (let z : 0 + n ≡ n = omega arith in z) x

module _ (names : List Text) (p : ProgramTree) (known : (c : ℕ) → Known p (class_of p c)) (kt : ClassTree) (own : Known p (Some kt)) where
  -- what an instruction names, where it is plain
  text_of : (i : Instr) → IsPlain names i → IsText (file_of names p) i
  text_of (I.WriteText s) h = h
  text_of (I.PushInt z) h = tt
  text_of (I.PushBool b) h = tt
  text_of I.PushNil h = tt
  text_of (I.Jump a) h = tt
  text_of (I.LoadI n) h = tt
  text_of (I.LoadT n) h = tt
  text_of I.SelfRef h = tt
  text_of (I.StoreI n) h = tt
  text_of (I.StoreT n) h = tt
  text_of (I.Oper op) h = tt
  text_of I.Pop h = tt
  text_of (I.Branch a) h = tt
  text_of I.Loop h = tt
  text_of (I.Call m) h = tt
  text_of I.Ret h = absurd h
  text_of (I.New k) h = tt
  text_of (I.Send m n) h = tt
  text_of (I.Async m n) h = tt
  text_of I.Write h = tt
  text_of (I.Answer ns) h = tt
  text_of (I.Select alts) h = tt
  text_of I.Halt h = absurd h
  text_of I.Post h = absurd h

  first_stack : (g : CodeScope) (c : List Instr) → S g c 0 ≡ Some []
  first_stack g [] = refl
  first_stack g (i ∷ c) = refl

  -- plain code, and its last instruction
  text_at : (a : List Instr) (i j : Instr) (at : ℕ) → ArePlain names a → IsText (file_of names p) i → (slice_get a at ≡ Some j) ⊎ (i ≡ j) → IsText (file_of names p) j
  text_at a i j at x y (inl e) = text_of j (plain_at names a at j x e)
  text_at a i j at x y (inr e) = subst (IsText (file_of names p)) e y

  never_at : (a : List Instr) (i j : Instr) (at : ℕ) → ArePlain names a → (IsPlain names j → ⊥) → (i ≡ j → ⊥) → (slice_get a at ≡ Some j) ⊎ (i ≡ j) → ⊥
  never_at a i j at x n m (inl e) = n (plain_at names a at j x e)
  never_at a i j at x n m (inr e) = m e

  -- the code of a body
  pub body_sorted : TypedStatements Nothing (G names p known kt own [] tt None refl [] (omega arith)) kt.body → IsTrue (have_choices kt.body) → are_spelled_statements names kt.body ≡ true
      → length (class_code kt).body.code ≤ 2 ^ 32 → IsProperCode (file_of names p).unit (Some (class_code kt)) 0 (class_code kt).body.code
      → IsWellSorted (CG names p known kt own [] tt None refl [] (omega arith)) (class_code kt).body.frame_words (class_code kt).body.code
      × EachIsReached (CG names p known kt own [] tt None refl [] (omega arith)) (class_code kt).body.code
  body_sorted t k s short proper =
      let n = num names p known kt own [] tt None refl [] (omega arith) in
      let cg = CG names p known kt own [] tt None refl [] (omega arith) in
      let first = statements_code n 0 kt.body in
      let c = body_instrs n kt.body in
      let l = length-append first (I.Halt ∷ []) in
      let ff = front c 0 first (I.Halt ∷ []) (has_all c) in
      let z0 = first_stack cg c in
      let f = statements_good names p known kt own [] tt None refl [] (omega arith) c kt.body 0 t ff z0 (omega (arith, l)) in
      let ok : AllFine cg c 0 c =
      join cg c 0 first (I.Halt ∷ []) f.0 (record { before = []; is_before = f.1; few = omega arith; after = []; is_after = refl; led = tt }, tt) in
      let some : 0 < length c = omega (arith, l) in
      let x0 = statements_span names p known kt own [] tt None refl [] (omega arith) c ok some kt.body 0 t k ff z0 (omega (arith, l)) ([], (0, (refl, refl))) in
      let x = counted cg c ok some 0 first (statements_words kt.body) x0 in
      let plain = statements_plain names n kt.body 0 s in (
        sorted_code cg c ok some (statements_words kt.body) (class_code kt).body.frame_words
            (join_at_most cg c ok some (statements_words kt.body) 0 first (I.Halt ∷ []) x.within (x.last, tt)) x.met (omega arith) short
            (λ at i e. (proper.exists at i e, text_at first I.Halt i at plain tt (at_of first I.Halt at i e))) (
              last_of first I.Halt,
              λ at e. never_at first I.Halt I.Ret at plain (λ h. h) (λ i. let z : I.Halt ≡ I.Ret = i in cc) (at_of first I.Halt at I.Ret e),
              λ at e. never_at first I.Halt I.Post at plain (λ h. h) (λ i. let z : I.Halt ≡ I.Post = i in cc) (at_of first I.Halt at I.Post e),
            )
            proper.no_circle,
        each_reached cg c ok some (join_come cg c ok some 0 first (I.Halt ∷ []) x.each (x.ends, tt)),
      )

  -- the value of a method stands alone before its Ret
  value_fits : (mt : MethodTree) (s : Sort) (e : Expression) (g : Typing.Scope) → g.program ≡ p → OutcomeKnown p mt.outcome → is_broken (sort_of g e) ≡ false
      → IsTrue (gives p (Some mt) (sort_of g e)) → IsTrue (is_value_for mt.outcome e) → fits_sort (sort_of g e) (value_sort mt.outcome) ≡ true
  unfolding fits_outcome gives
  value_fits mt s e g same kn whole_it it valued = by mt.outcome kn it valued
    where
      by : (o : Option Kind) → OutcomeKnown p o → IsTrue (fits_outcome p o (sort_of g e)) → IsTrue (is_value_for o e) → fits_sort (sort_of g e) (value_sort o) ≡ true
      by None k i v = nil e v
        where
          nil : (e : Expression) → IsTrue (is_value_for None e) → fits_sort (sort_of g e) NilSort ≡ true
          nil (T.Literal V.Nil o) h = refl
          nil _ h = absurd (let z : false ≡ true = h in cc)
      by (Some k) kk i v = ap (fits_sort (sort_of g e)) (sym (known_sort p k kk)) ∙ fits_of_need (sort_of g e) (Typing.kind_sort p k) whole_it kk i

  -- the code of a method
  module _ (mt : MethodTree) (tk : AllKnown p (mt.params ++ mt.locals)) where
    abbrev temps : List Var
    temps = mt.params ++ mt.locals

    abbrev q : Option MethodKinds
    q = Some (method_kinds mt)

    kinds_length : (vs : List Var) → length (kinds_of vs) ≡ length vs
    kinds_length [] = refl
    kinds_length (v ∷ vs) = ap suc (kinds_length vs)

    abbrev n : Numbering
    n = num names p known kt own temps tk q refl [] (omega arith)

    abbrev cg : CodeScope
    cg = CG names p known kt own temps tk q refl [] (omega arith)

    abbrev g : Typing.Scope
    g = G names p known kt own temps tk q refl [] (omega arith)

    -- the sort of its value
    abbrev given : Sort
    given = sort_of g mt.value

    -- post statements, with the instruction in front of them
    abbrev posted : ℕ → Statements → List Instr
    posted at T.Done = []
    posted at (T.Then s qs) = I.Post ∷ statements_code n (suc at) (T.Then s qs)

    -- a method's code in pieces
    abbrev first : List Instr
    first = statements_code n 0 mt.body

    abbrev value : List Instr
    value = expression_code n mt.value

    abbrev last_part : List Instr
    last_part = posted (0 + length first + length value) mt.post

    abbrev parts : List Instr
    parts = first ++ (value ++ last_part)

    ends_in_ret : (at : ℕ) (qs : Statements) → post_code n at qs ≡ posted at qs ++ I.Ret ∷ []
    ends_in_ret at T.Done = refl
    ends_in_ret at (T.Then s qs) = refl

    in_pieces : method_instrs n mt.body mt.value mt.post ≡ parts ++ I.Ret ∷ []
    in_pieces =
        ap (λ z. first ++ (value ++ z)) (ends_in_ret (0 + length first + length value) mt.post)
        ∙ ap (λ z. first ++ z) (sym (append_assoc value last_part (I.Ret ∷ []))) ∙ sym (append_assoc first (value ++ last_part) (I.Ret ∷ []))

    -- an instruction of these pieces is plain, or the one in front of post statements
    abbrev IsPiece : Instr → Type 0
    IsPiece i = IsPlain names i ⊎ (I.Post ≡ i)

    posted_piece : (at : ℕ) (qs : Statements) (m : ℕ) (i : Instr) → are_spelled_statements names qs ≡ true → slice_get (posted at qs) m ≡ Some i → IsPiece i
    posted_piece at T.Done m i s e = absurd (let z : None ≡ Some i = e in cc)
    posted_piece at (T.Then x qs) zero i s e = inr (same_some e)
    posted_piece at (T.Then x qs) (suc m) i s e = inl (plain_at names (statements_code n (suc at) (T.Then x qs)) m i (statements_plain names n (T.Then x qs) (suc at) s) e)

    piece_at : (m : ℕ) (i : Instr) → are_spelled_statements names mt.body ≡ true → are_spelled_statements names mt.post ≡ true → slice_get parts m ≡ Some i → IsPiece i
    piece_at m i s r e = by (in_parts first (value ++ last_part) m i e)
      where
        behind : (j : ℕ) → (slice_get value j ≡ Some i) ⊎ ((k : ℕ) × (slice_get last_part k ≡ Some i)) → IsPiece i
        behind j (inl e) = inl (plain_at names value j i (expression_plain names n mt.value) e)
        behind j (inr e) = posted_piece (0 + length first + length value) mt.post e.0 i r e.1

        by : (slice_get first m ≡ Some i) ⊎ ((k : ℕ) × (slice_get (value ++ last_part) k ≡ Some i)) → IsPiece i
        by (inl e) = inl (plain_at names first m i (statements_plain names n mt.body 0 s) e)
        by (inr e) = behind e.0 (in_parts value last_part e.0 i e.1)

    piece_text : (i j : Instr) → IsText (file_of names p) j → IsPiece i ⊎ (j ≡ i) → IsText (file_of names p) i
    piece_text i j x (inl (inl a)) = text_of i a
    piece_text i j x (inl (inr e)) = subst (IsText (file_of names p)) e tt
    piece_text i j x (inr e) = subst (IsText (file_of names p)) e x

    no_halt : IsPiece I.Halt ⊎ (I.Ret ≡ I.Halt) → ⊥
    no_halt (inl (inl a)) = a
    no_halt (inl (inr e)) = let z : I.Post ≡ I.Halt = e in cc
    no_halt (inr e) = let z : I.Ret ≡ I.Halt = e in cc

    either_piece : (m : ℕ) (i : Instr) → are_spelled_statements names mt.body ≡ true → are_spelled_statements names mt.post ≡ true → slice_get (parts ++ I.Ret ∷ []) m ≡ Some i
        → IsPiece i ⊎ (I.Ret ≡ i)
    either_piece m i s r e = by (at_of parts I.Ret m i e)
      where
        by : (slice_get parts m ≡ Some i) ⊎ (I.Ret ≡ i) → IsPiece i ⊎ (I.Ret ≡ i)
        by (inl x) = inl (piece_at m i s r x)
        by (inr x) = inr x

    -- the post statements leave the value that stands below them
    module _ (c : List Instr) (fit : fits_sort given (value_sort mt.outcome) ≡ true) where
      abbrev behind_post : Option Stack → Option Stack
      behind_post o = o >>= λ rest. Some (given ∷ [])

      post_left : left_by cg I.Post (given ∷ []) ≡ Some (given ∷ [])
      post_left = ap (λ b. behind_post (if b then Some [] else None)) fit

      posted_good : (at : ℕ) (qs : Statements) → TypedStatements Nothing (behind_value g) qs → Good cg c at (posted at qs) (given ∷ []) (given ∷ [])
      posted_good at T.Done t = good_nil cg c at (given ∷ [])
      posted_good at (T.Then x qs) t =
          good_seq cg c at (I.Post ∷ []) (statements_code n (suc at) (T.Then x qs)) (given ∷ []) (given ∷ []) (given ∷ [])
          (good_one cg c at I.Post (given ∷ []) (given ∷ []) (omega arith) post_left refl)
          (subst (λ z. Good cg c z (statements_code n (suc at) (T.Then x qs)) (given ∷ []) (given ∷ [])) (let z : suc at ≡ at + 1 = omega arith in z)
          (statements_good names p known kt own temps tk q refl (given ∷ []) (omega arith) c (T.Then x qs) (suc at) t))

      module _ (ok : AllFine cg c 0 c) (some : 0 < length c) where
        posted_span : (at : ℕ) (qs : Statements) → TypedStatements Nothing (behind_value g) qs → IsTrue (have_choices qs) → Has c at (posted at qs) → S cg c at ≡ Some (given ∷ [])
            → at + length (posted at qs) < length c → Comes cg c ok some at → Span cg c ok some at (posted at qs) (suc (statements_words qs))
        posted_span at T.Done t k has z lt a =
            subst (Span cg c ok some at []) (ap (λ (y : Stack). length y) (same_some (sym (comes_stack cg c ok some at a) ∙ z)) ∙ (let u : length (given ∷ []) ≡ suc (statements_words T.Done) = omega arith in u)) (span_nil cg c ok some at a)
        posted_span at (T.Then x qs) t k has z lt a =
            let code = statements_code n (suc at) (T.Then x qs) in
            let w = statements_words (T.Then x qs) in
            let zp = after_one cg c at I.Post (given ∷ []) (given ∷ []) has.0 z post_left in
            let e : suc at ≡ at + 1 = omega arith in
            let y = span_one cg c ok some at I.Post (given ∷ []) (given ∷ []) 1 has.0 refl z zp a (omega arith) (omega arith) (inl (let u : 1 ≡ length (given ∷ []) = omega arith in u)) in
            let s = statements_span names p known kt own temps tk q refl (given ∷ []) (omega arith) c ok some (T.Then x qs) (suc at) t k has.1 zp (omega (arith, lt)) (subst (Comes cg c ok some) (sym e) y.ends) in
            let s1 = subst (λ j. Span cg c ok some j code (length (given ∷ []) + w)) e s in
            span_seq cg c ok some at (I.Post ∷ []) code 1 (length (given ∷ []) + w) (suc w) y s1 (omega arith) (omega arith) (inr (let u : suc w ≡ length (given ∷ []) + w = omega arith in u))

    -- a method's code, in pieces
    pieces_sorted : TypedStatements Nothing g mt.body → TypedExpression Nothing g 0 mt.value → TypedStatements Nothing (behind_value g) mt.post → OutcomeKnown p mt.outcome
        → IsTrue (gives p (Some mt) given) → IsTrue (is_value_for mt.outcome mt.value) → IsTrue (have_choices mt.body) → IsTrue (have_choices mt.post)
        → are_spelled_statements names mt.body ≡ true → are_spelled_statements names mt.post ≡ true → length (parts ++ I.Ret ∷ []) ≤ 2 ^ 32
        → IsProperCode (file_of names p).unit (Some (class_code kt)) (length temps) (parts ++ I.Ret ∷ [])
        → IsWellSorted cg (method_code_of (names_of kt.vars) mt).frame_words (parts ++ I.Ret ∷ []) × EachIsReached cg (parts ++ I.Ret ∷ [])
    pieces_sorted t v r kn it valued k kr s sr short proper =
        let c = parts ++ I.Ret ∷ [] in
        let l = length-append parts (I.Ret ∷ []) in
        let l1 = length-append first (value ++ last_part) in
        let l2 = length-append value last_part in
        let middle = 0 + length first in
        let behind = middle + length value in
        let fit = value_fits mt given mt.value g refl kn (whole names p known kt own temps tk q refl [] (omega arith) mt.value 0 v) it valued in
        let has = front c 0 parts (I.Ret ∷ []) (has_all c) in
        let hf = front c 0 first (value ++ last_part) has in
        let hb = back c 0 first (value ++ last_part) has in
        let hv = front c middle value last_part hb in
        let hp = back c middle value last_part hb in
        let z0 = first_stack cg c in
        let gb = statements_good names p known kt own temps tk q refl [] (omega arith) c mt.body 0 t in
        let gv = expression_good names p known kt own temps tk q refl [] (omega arith) c mt.value middle 0 [] refl v in
        let gp = posted_good c fit behind mt.post r in
        let all = good_seq cg c 0 first (value ++ last_part) [] [] (given ∷ []) gb (good_seq cg c middle value last_part [] (given ∷ []) (given ∷ []) gv gp) has z0 (omega (arith, l)) in
        let ends : left_by cg I.Ret (given ∷ []) ≡ Some [] = ap (λ b. if b then Some [] else None) fit in
        let ok : AllFine cg c 0 c =
        join cg c 0 parts (I.Ret ∷ []) all.0 (record { before = given ∷ []; is_before = all.1; few = omega arith; after = []; is_after = ends; led = tt }, tt) in
        let some : 0 < length c = omega (arith, l) in
        let zv = (gb hf z0 (omega (arith, l, l1))).1 in
        let zp = (gv hv zv (omega (arith, l, l1, l2))).1 in
        let x = counted cg c ok some 0 first (statements_words mt.body) (statements_span names p known kt own temps tk q refl [] (omega arith) c ok some mt.body 0 t k hf z0 (omega (arith, l, l1)) ([], (0, (refl, refl)))) in
        let y = counted cg c ok some middle value (expression_words mt.value) (expression_span names p known kt own temps tk q refl [] (omega arith) c ok some mt.value middle 0 [] refl v hv zv (omega (arith, l, l1, l2)) x.ends) in
        let w = posted_span c fit ok some behind mt.post r kr hp zp (omega (arith, l, l1, l2)) y.ends in
        let held = suc (statements_words mt.post) in
        let o2 = more_is (expression_words mt.value) held in
        let o1 = more_is (statements_words mt.body) (more (expression_words mt.value) held) in
        let m = more (statements_words mt.body) (more (expression_words mt.value) held) in
        let both = span_seq cg c ok some middle value last_part (expression_words mt.value) held (more (expression_words mt.value) held) y w o2.0 o2.1 o2.2 in
        let whole_span = span_seq cg c ok some 0 first (value ++ last_part) (statements_words mt.body) (more (expression_words mt.value) held) m x both o1.0 o1.1 o1.2 in
        let kl = kinds_length temps in (
          sorted_code cg c ok some m (method_code_of (names_of kt.vars) mt).frame_words (join_at_most cg c ok some m 0 parts (I.Ret ∷ []) whole_span.within (whole_span.last, tt)) whole_span.met
              (ap (λ z. z + m) (sym kl)) short
              (λ at i e. (
                subst (λ z. Exists (file_of names p).unit (Some (class_code kt)) z c i) (sym kl) (proper.exists at i e),
                piece_text i I.Ret tt (either_piece at i s sr e),
              )) (
                last_of parts I.Ret,
                λ at e. no_halt (either_piece at I.Halt s sr e),
              )
              proper.no_circle,
          each_reached cg c ok some (join_come cg c ok some 0 parts (I.Ret ∷ []) whole_span.each (whole_span.ends, tt)),
        )

    -- the code of a method
    pub method_sorted : TypedStatements Nothing g mt.body → TypedExpression Nothing g 0 mt.value → TypedStatements Nothing (behind_value g) mt.post → OutcomeKnown p mt.outcome
        → IsTrue (gives p (Some mt) given) → IsTrue (is_value_for mt.outcome mt.value) → IsTrue (have_choices mt.body) → IsTrue (have_choices mt.post)
        → are_spelled_statements names mt.body ≡ true → are_spelled_statements names mt.post ≡ true → length (method_code_of (names_of kt.vars) mt).code ≤ 2 ^ 32
        → IsProperCode (file_of names p).unit (Some (class_code kt)) (length temps) (method_code_of (names_of kt.vars) mt).code
        → IsWellSorted cg (method_code_of (names_of kt.vars) mt).frame_words (method_code_of (names_of kt.vars) mt).code × EachIsReached cg (method_code_of (names_of kt.vars) mt).code
    method_sorted t v r kn it valued k kr s sr short proper =
        subst (λ (z : List Instr). IsWellSorted cg (method_code_of (names_of kt.vars) mt).frame_words z × EachIsReached cg z) (sym in_pieces)
        (pieces_sorted t v r kn it valued k kr s sr (subst (λ z. length z ≤ 2 ^ 32) in_pieces short)
        (subst (IsProperCode (file_of names p).unit (Some (class_code kt)) (length temps)) in_pieces proper))
