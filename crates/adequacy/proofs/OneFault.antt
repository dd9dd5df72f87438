-- A text that is no program has one fault: in its tokens, in its grammar, or a class fault.
use Rattle.std.proofs.Common.{◌≡◌, refl, sym, ap, subst, ◌∙◌, ℕ, suc, ◌+◌, ◌<◌, ◌≤◌, inl, inr, List, [], ◌∷◌, length, reverse, Some, Contains, slice_get, arith}
use native.Mathlib.Decide.{dec_le}
use Rattle.std.proofs.lemmas.List.{take_all}
use Rattle.text_scan.specs.Text.{Text}
use Rattle.run_types.proofs.Laws.{same_some}
use Rattle.pool_syntax.specs.declared.token.LexFault.{LexFault}
use Rattle.pool_syntax.specs.declared.token.Tok.{Tok}
use Rattle.pool_syntax.specs.declared.token.Token.{Token}
use Rattle.pool_grammar.specs.Rules.{Phrase, program}
use Rattle.pool_grammar.specs.Grammar.{rule}
use Rattle.pool_grammar.specs.Derives.{Begins}
use Rattle.pool_grammar.specs.Nesting.{nesting, depth, IsFirstTooDeep}
use Rattle.pool_syntax.specs.Terms.{ProgramTree}
use Rattle.pool_syntax.specs.Tokens.{HasTokens, IsFirstFault, toks}
use Rattle.pool_syntax.specs.Typing as T
use Rattle.pool_syntax.specs.Typing.{faults}
use Rattle.pool_lexer.proofs.Laws.{same_tokens, same_first_fault, not_both}
use Rattle.expression_parser.specs.declared.fault.SyntaxFault.{SyntaxFault}
use Rattle.expression_parser.specs.declared.fault.SyntaxFault.TheVariants as Syntax
use Rattle.class_check.specs.Least.{IsBelow, IsLeastFault}
use Rattle.type_check.specs.PairOf.{pair_of}
use Rattle.type_check.specs.declared.fault.ClassFault.{ClassFault}
use Rattle.type_check.specs.declared.fault.ClassFault.TheVariants as C
use Rattle.command_inputs.specs.declared.fault.Fault.{Fault}
use Rattle.command_inputs.specs.declared.fault.Fault.TheVariants as F
use Rattle.pool_grammar.specs.Programs.{HasProgram, IsParsed, IsTextOf}
use Rattle.command_inputs.specs.Programs.{IsFaultOfClasses, IsFaultOfText, IsSyntaxFault, HasTypedFault, IsTypedProgram}

-- class faults

same_pair : (x y : T.FaultAt) → x.0 ≡ y.0 → x.1 ≡ y.1 → x ≡ y
same_pair (a, b) (c, d) h k = cc

same_token : (x y : T.FaultAt) → (IsBelow x y → ⊥) → (IsBelow y x → ⊥) → x.0 ≡ y.0
same_token x y m n = elim (dec_le (suc x.0) y.0) [
  | yes h ↦ absurd (m (inl (omega arith)))
  | no h ↦ elim (dec_le (suc y.0) x.0) [
    | yes k ↦ absurd (n (inl (omega arith)))
    | no k ↦ omega arith
  ]
]

same_number : (x y : T.FaultAt) → x.0 ≡ y.0 → (IsBelow x y → ⊥) → (IsBelow y x → ⊥) → x.1 ≡ y.1
same_number x y e m n = elim (dec_le (suc x.1) y.1) [
  | yes h ↦ absurd (m (inr (e, omega arith)))
  | no h ↦ elim (dec_le (suc y.1) x.1) [
    | yes k ↦ absurd (n (inr (sym e, omega arith)))
    | no k ↦ omega arith
  ]
]

least_one : (fs : List T.FaultAt) (x y : T.FaultAt) → IsLeastFault fs x → IsLeastFault fs y → x ≡ y
least_one fs x y h k =
    let e = same_token x y (k.1 x h.0) (h.1 y k.0) in
    same_pair x y e (same_number x y e (k.1 x h.0) (h.1 y k.0))

-- the fault of a number at a token
abbrev numbered : ℕ → List ClassFault
numbered t =
    C.Memory ∷ C.ClassTwice t ∷ C.UnknownClass t ∷ C.VariableTwice t ∷ C.MethodTwice t ∷ C.LocalTwice t ∷ C.UnknownVariable t ∷ C.UnknownMethod t ∷ C.ArgumentCount t
    ∷ C.TypeDiffers t ∷ C.NoResult t ∷ C.AnswerName t ∷ C.Limit t ∷ C.Memory ∷ []

told : (f : ClassFault) → slice_get (numbered (pair_of f).0) (pair_of f).1 ≡ Some f
told (C.ClassTwice t) = refl
told (C.UnknownClass t) = refl
told (C.VariableTwice t) = refl
told (C.MethodTwice t) = refl
told (C.LocalTwice t) = refl
told (C.UnknownVariable t) = refl
told (C.UnknownMethod t) = refl
told (C.ArgumentCount t) = refl
told (C.TypeDiffers t) = refl
told (C.NoResult t) = refl
told (C.AnswerName t) = refl
told (C.Limit t) = refl
told C.Memory = refl

pair_one : (f g : ClassFault) → pair_of f ≡ pair_of g → f ≡ g
pair_one f g e = same_some (sym (told f) ∙ ap (λ (x : T.FaultAt). slice_get (numbered x.0) x.1) e ∙ told g)

-- too deep

beyond : (ts : List Tok) (n : ℕ) → length ts ≤ n + 1 → nesting ts n ≡ depth (reverse ts)
beyond ts n h = ap (λ (us : List Tok). depth (reverse us)) (take_all (n + 1) ts h)

past : (ts : List Tok) (t : ℕ) → IsFirstTooDeep ts t → length ts ≤ t → ⊥
past [] t h l = let e : nesting [] t ≡ 0 = beyond [] t (omega arith) in omega (arith, h.0, e)
past (x ∷ ts) t h l =
    let a = beyond (x ∷ ts) t (omega arith) in
    let b = beyond (x ∷ ts) (length ts) (omega arith) in
    let c = h.1 (length ts) (omega arith) in
    omega (arith, h.0, a, b, c)

within : (ts : List Tok) (t : ℕ) → IsFirstTooDeep ts t → t < length ts
within ts t h = elim (dec_le (suc t) (length ts)) [ yes l ↦ omega arith | no l ↦ absurd (past ts t h (omega arith)) ]

not_before : (ts : List Tok) (t u : ℕ) → IsFirstTooDeep ts t → IsFirstTooDeep ts u → t ≤ u
not_before ts t u h k = elim (dec_le t u) [ yes l ↦ l | no l ↦ absurd (let a = h.1 u (omega arith) in omega (arith, a, k.0)) ]

-- a program has no fault of the grammar
no_syntax_fault : (ts : List Tok) (f : SyntaxFault) (p : ProgramTree) → IsSyntaxFault ts f → HasProgram ts p → ⊥
no_syntax_fault ts (Syntax.Unexpected t) p h k = h.2 p k
no_syntax_fault ts (Syntax.TooDeep t) p h k = let a = k.1 t (within ts t h.0) in omega (arith, a, h.0.0)
no_syntax_fault ts Syntax.Memory p h k = h

-- every front of tokens that begin a phrase begins it
abbrev pub Shortens : Type 0
Shortens = (ts : List Tok) (p : Phrase) (i j k : ℕ) → Begins ts p (rule p) i j → i ≤ k → k ≤ j → Begins ts p (rule p) i k

-- a text has one program
abbrev pub HasOne : Type 0
HasOne = (s : Text) (names others : List Text) (p q : ProgramTree) → IsParsed s names p → IsParsed s others q → (names ≡ others) × (p ≡ q)

-- why a text is no program
data Why (s : Text) (fault : Fault) : Type 0 where
  of_tokens : (f : LexFault) → fault ≡ F.Lex f → IsFirstFault s f → Why s fault
  of_grammar : (f : SyntaxFault) (names : List Text) (ts : List Token) → fault ≡ F.Syntax f → HasTokens s names ts → IsSyntaxFault (toks ts) f → Why s fault
  of_classes : (f : ClassFault) (p : ProgramTree) → fault ≡ F.Class f → IsTextOf s p → IsLeastFault (faults p) (pair_of f) → Why s fault

why_text : (s : Text) (f : Fault) → IsFaultOfText s f → Why s f
why_text s F.TooLong h = absurd h
why_text s (F.Lex f) h = of_tokens f refl h
why_text s (F.Syntax f) h = of_grammar f h.0 h.1 refl h.2 h.3
why_text s (F.Class f) h = absurd h
why_text s (F.Placement f) h = absurd h
why_text s (F.Schedule f) h = absurd h
why_text s (F.Record f) h = absurd h
why_text s (F.Unit f) h = absurd h

why_classes : (s : Text) (f : Fault) (p : ProgramTree) → IsTextOf s p → IsFaultOfClasses p f → Why s f
why_classes s F.TooLong p t h = absurd h
why_classes s (F.Lex f) p t h = absurd h
why_classes s (F.Syntax f) p t h = absurd h
why_classes s (F.Class f) p t h = of_classes f p refl t h
why_classes s (F.Placement f) p t h = absurd h
why_classes s (F.Schedule f) p t h = absurd h
why_classes s (F.Record f) p t h = absurd h
why_classes s (F.Unit f) p t h = absurd h

why : (s : Text) (f : Fault) → HasTypedFault s f → Why s f
why s f (inl h) = why_text s f h
why s f (inr h) = why_classes s f h.0 h.1 h.2

-- a text with a program has tokens, and no fault of these or of the grammar

no_lex : (s : Text) (f : LexFault) (p : ProgramTree) → IsFirstFault s f → IsTextOf s p → ⊥
no_lex s f p h t = not_both s t.0 t.1.0 f t.1.1 h

no_grammar : (s : Text) (f : SyntaxFault) (names : List Text) (ts : List Token) (p : ProgramTree) → HasTokens s names ts → IsSyntaxFault (toks ts) f → IsTextOf s p → ⊥
no_grammar s f names ts p k h t =
    let same = same_tokens s names t.0 ts t.1.0 k t.1.1 in
    no_syntax_fault (toks t.1.0) f p (subst (λ (us : List Token). IsSyntaxFault (toks us) f) same.1 h) t.1.2

no_contained : (x : T.FaultAt) → Contains [] x → ⊥
no_contained x h = omega (arith, h.1)

module _ (shorter : Shortens) (one : HasOne) where
  not_past : (ts : List Tok) (t u : ℕ) → Begins ts program (rule program) 0 u → (Begins ts program (rule program) 0 (t + 1) → ⊥) → u ≤ t
  not_past ts t u b n = elim (dec_le u t) [ yes h ↦ h | no h ↦ absurd (n (shorter ts program 0 u (t + 1) b (omega arith) (omega arith))) ]

  syntax_one : (ts : List Tok) (f g : SyntaxFault) → IsSyntaxFault ts f → IsSyntaxFault ts g → f ≡ g
  syntax_one ts (Syntax.Unexpected t) (Syntax.Unexpected u) h k =
      let a = not_past ts u t h.0.0 k.0.1 in
      let b = not_past ts t u k.0.0 h.0.1 in
      let e : t ≡ u = omega arith in
      ap Syntax.Unexpected e
  syntax_one ts (Syntax.Unexpected t) (Syntax.TooDeep u) h k =
      absurd (let a = not_past ts t (u + 1) k.1 h.0.1 in let b = h.1 u (omega arith) in omega (arith, b, k.0.0))
  syntax_one ts (Syntax.TooDeep t) (Syntax.Unexpected u) h k =
      absurd (let a = not_past ts u (t + 1) h.1 k.0.1 in let b = k.1 t (omega arith) in omega (arith, b, h.0.0))
  syntax_one ts (Syntax.TooDeep t) (Syntax.TooDeep u) h k =
      let a = not_before ts t u h.0 k.0 in
      let b = not_before ts u t k.0 h.0 in
      let e : t ≡ u = omega arith in
      ap Syntax.TooDeep e
  syntax_one ts Syntax.Memory g h k = absurd h
  syntax_one ts f Syntax.Memory h k = absurd k

  same_program : (s : Text) (p q : ProgramTree) → IsTextOf s p → IsTextOf s q → p ≡ q
  same_program s p q h k = (one s h.0 k.0 p q h.1 k.1).1

  class_one : (s : Text) (f g : ClassFault) (p q : ProgramTree) → IsTextOf s p → IsTextOf s q → IsLeastFault (faults p) (pair_of f) → IsLeastFault (faults q) (pair_of g) → f ≡ g
  class_one s f g p q t u h k =
      let same = same_program s q p u t in
      pair_one f g (least_one (faults p) (pair_of f) (pair_of g) h (subst (λ (r : ProgramTree). IsLeastFault (faults r) (pair_of g)) same k))

  same_why : (s : Text) (f g : Fault) → Why s f → Why s g → f ≡ g
  same_why s f g (of_tokens a e h) (of_tokens b d k) = let same = same_first_fault s a b h k in e ∙ ap F.Lex same ∙ sym d
  same_why s f g (of_tokens a e h) (of_grammar b names ts d t k) = absurd (not_both s names ts a t h)
  same_why s f g (of_tokens a e h) (of_classes b p d t k) = absurd (no_lex s a p h t)
  same_why s f g (of_grammar a names ts e u h) (of_tokens b d k) = absurd (not_both s names ts b u k)
  same_why s f g (of_grammar a names ts e u h) (of_grammar b others us d t k) =
      let tokens = same_tokens s others names us ts t u in
      e ∙ ap F.Syntax (syntax_one (toks ts) a b h (subst (λ (vs : List Token). IsSyntaxFault (toks vs) b) tokens.1 k)) ∙ sym d
  same_why s f g (of_grammar a names ts e u h) (of_classes b p d t k) = absurd (no_grammar s a names ts p u h t)
  same_why s f g (of_classes a p e t h) (of_tokens b d k) = absurd (no_lex s b p k t)
  same_why s f g (of_classes a p e t h) (of_grammar b names ts d u k) = absurd (no_grammar s b names ts p u k t)
  same_why s f g (of_classes a p e t h) (of_classes b q d u k) = e ∙ ap F.Class (class_one s a b p q t u h k) ∙ sym d

  pub one_fault : (s : Text) (f g : Fault) → HasTypedFault s f → HasTypedFault s g → f ≡ g
  one_fault s f g h k = same_why s f g (why s f h) (why s g k)

  none : (s : Text) (f : Fault) → Why s f → IsTypedProgram s → ⊥
  none s f (of_tokens a e h) w = no_lex s a w.0 h w.1.0
  none s f (of_grammar a names ts e t h) w = no_grammar s a names ts w.0 t h w.1.0
  none s f (of_classes a p e t h) w =
      let same = same_program s p w.0 t w.1.0 in
      no_contained (pair_of a) (subst (λ (fs : List T.FaultAt). Contains fs (pair_of a)) (ap faults same ∙ w.1.1) h.0)

  pub no_fault : (s : Text) (f : Fault) → IsTypedProgram s → HasTypedFault s f → ⊥
  no_fault s f w h = none s f (why s f h) w
