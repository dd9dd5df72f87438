-- The grammar derives an expression from its tokens, up to positions and numbering.
use Rattle.std.proofs.Common.{◌≡◌, refl, sym, ap, ℕ, zero, suc, ◌+◌, ◌-◌, ◌≤◌, List, [], ◌∷◌, ◌++◌, slice_get, Bool, true, false, Some, if◌then◌else◌, nat_le, subst, arith}
use Rattle.std.proofs.lemmas.Bool.{leb-true}
use Rattle.pool_syntax.specs.declared.token.Tok.{Tok}
use Rattle.pool_syntax.specs.declared.token.Tok.TheVariants as tok
use Rattle.text_scan.specs.declared.keywords.Keyword.TheVariants as word
use Rattle.pool_syntax.specs.declared.token.Sign.TheVariants as sign
use Rattle.run_types.specs.declared.types.Value.TheVariants as value
use Rattle.run_types.specs.declared.types.Op.{Op}
use Rattle.run_types.specs.declared.types.Op.TheVariants as op
use Rattle.pool_syntax.specs.Terms.{Expression, Literal, Me, Variable, Create, Prefix, Infix, Call, Send, Frame, Wait, Expressions, NoArgs, Arg}
use Rattle.pool_grammar.specs.Rules.{Group, disjunction, conjunction, addition, multiplication, Level, group, comparison, factor, postfix, primary, expression, more_operands, more_sends, args, more_args}
use Rattle.pool_grammar.specs.Grammar.{rule, operator_of, operand, arg_last}
use Rattle.pool_grammar.specs.Derives.{Derives, nothing, token, inner, first, second}
use Rattle.pool_printer.specs.Canonical.{operator_token, level, bare_tokens, argument_tokens, expression_tokens, separated_by, led_by}
use Rattle.pool_printer.specs.Renumbered.{token_by}
use Rattle.pool_printer.specs.Renamed.{renamed_expression, renamed_expressions}
use Rattle.pool_printer.proofs.DerivedForm.{is_prefix, ExpressionForm, ArgumentsForm}
use Rattle.pool_printer.proofs.DerivedParts.{Stands, split, Parsed, Ongoing, ended, derives_as, named}

-- arguments, and then more
abbrev pub arguments_then : Expressions → Expressions → Expressions
arguments_then NoArgs es = es
arguments_then (Arg x xs) es = Arg x (arguments_then xs es)

arguments_end : (xs : Expressions) → arguments_then xs NoArgs ≡ xs
arguments_end NoArgs = refl
arguments_end (Arg x xs) = ap (Arg x) (arguments_end xs)

arguments_next : (xs : Expressions) (e : Expression) (es : Expressions) → arguments_then (arg_last xs e) es ≡ arguments_then xs (Arg e es)
arguments_next NoArgs e es = refl
arguments_next (Arg x xs) e es = ap (Arg x) (arguments_next xs e es)

-- an expression at a level
abbrev pub Expressed : (ℕ → ℕ) → List Tok → Level → ℕ → ℕ → Expression → Type 0
Expressed f ts l i k e = Parsed ts (expression l) i k (λ x. renamed_expression f e ≡ renamed_expression (λ n. n) x)

-- operands of a level up to number k, with which more operands can go on
abbrev OpenGroup : (ℕ → ℕ) → List Tok → Group → ℕ → ℕ → Expression → Type 0
OpenGroup f ts g i k e = Ongoing (λ x. renamed_expression f e ≡ renamed_expression (λ n. n) x) (λ x. (j : ℕ) (y : Expression)
    → Derives ts (more_operands g x) (rule (more_operands g x)) k j y → Derives ts (expression (group g)) (rule (expression (group g))) i j y)

-- sends up to number k, with which more sends can go on
abbrev OpenSends : (ℕ → ℕ) → List Tok → ℕ → ℕ → Expression → Type 0
OpenSends f ts i k e = Ongoing (λ x. renamed_expression f e ≡ renamed_expression (λ n. n) x) (λ x. (j : ℕ) (y : Expression)
    → Derives ts (more_sends x) (rule (more_sends x)) k j y → Derives ts (expression postfix) (rule (expression postfix)) i j y)

-- an expression at a level, with which more of the level can go on
abbrev Opened : (ℕ → ℕ) → List Tok → Level → ℕ → ℕ → Expression → Type 0
Opened f ts (group g) i k e = OpenGroup f ts g i k e
Opened f ts postfix i k e = OpenSends f ts i k e
Opened f ts comparison i k e = Expressed f ts comparison i k e
Opened f ts factor i k e = Expressed f ts factor i k e
Opened f ts primary i k e = Expressed f ts primary i k e

-- the level of a number
abbrev of_number : ℕ → Level
of_number zero = group disjunction
of_number (suc zero) = group disjunction
of_number (suc (suc zero)) = group conjunction
of_number (suc (suc (suc zero))) = comparison
of_number (suc (suc (suc (suc zero)))) = group addition
of_number (suc (suc (suc (suc (suc zero))))) = group multiplication
of_number (suc (suc (suc (suc (suc (suc zero)))))) = factor
of_number (suc (suc (suc (suc (suc (suc (suc zero))))))) = postfix
of_number (suc (suc (suc (suc (suc (suc (suc (suc n)))))))) = primary

-- what the tokens of an expression are to derive
abbrev IsOpened : (ℕ → ℕ) → List Tok → Expression → Type 0
IsOpened f ts e = (i k : ℕ) → Stands f ts (bare_tokens e) i k → Opened f ts (of_number (level e)) i k e

-- each argument is derived
abbrev pub EachArgument : (ℕ → ℕ) → List Tok → Expressions → Type 0
EachArgument f ts NoArgs = Unit {0}
EachArgument f ts (Arg e es) =
    ((i k : ℕ) → Stands f ts (expression_tokens 1 e) i k → Expressed f ts (group disjunction) i k e) × EachArgument f ts es

-- arguments behind others
abbrev MoreArguments : (ℕ → ℕ) → List Tok → ℕ → ℕ → Expressions → Type 0
MoreArguments f ts i k es = Ongoing (λ xs. renamed_expressions f es ≡ renamed_expressions (λ n. n) xs)
    (λ xs. (before : Expressions) → Derives ts (more_args before) (rule (more_args before)) i k (arguments_then before xs))

-- arguments in parentheses
abbrev pub Listed : (ℕ → ℕ) → List Tok → ℕ → ℕ → Expressions → Type 0
Listed f ts i k es = Parsed ts args i k (λ xs. renamed_expressions f es ≡ renamed_expressions (λ n. n) xs)

module _ (f : ℕ → ℕ) (ts : List Tok) where
  -- nothing more of the level
  closed : (l : Level) (i k : ℕ) (e : Expression) → Opened f ts l i k e → Expressed f ts l i k e
  unfolding rule
  closed (group g) i k e o = record { found = o.found; derives = o.goes_on k o.found (second nothing); same = o.same }
  closed postfix i k e o = record { found = o.found; derives = o.goes_on k o.found (second nothing); same = o.same }
  closed comparison i k e o = o
  closed factor i k e o = o
  closed primary i k e o = o

  first_operand : (g : Group) (i k : ℕ) (e : Expression) → Expressed f ts (operand g) i k e → OpenGroup f ts g i k e
  unfolding rule
  first_operand g i k e o = record { found = o.found; same = o.same; goes_on = λ j y d. inner o.found o.derives (inner y d nothing) }

  first_destination : (i k : ℕ) (e : Expression) → Expressed f ts primary i k e → OpenSends f ts i k e
  unfolding rule
  first_destination i k e o = record { found = o.found; same = o.same; goes_on = λ j y d. inner o.found o.derives (inner y d nothing) }

  lone_operand : (i k : ℕ) (e : Expression) → Expressed f ts (group addition) i k e → Expressed f ts comparison i k e
  unfolding rule
  lone_operand i k e o = record { found = o.found; derives = inner o.found o.derives (second nothing); same = o.same }

  lone_factor : (i k : ℕ) (e : Expression) → Expressed f ts postfix i k e → Expressed f ts factor i k e
  unfolding rule
  lone_factor i k e o = record { found = o.found; derives = second (inner o.found o.derives nothing); same = o.same }

  -- at the level below
  lower : (n i k : ℕ) (e : Expression) → Opened f ts (of_number (suc n)) i k e → Opened f ts (of_number n) i k e
  lower zero i k e o = o
  lower (suc zero) i k e o = first_operand disjunction i k e (closed (group conjunction) i k e o)
  lower (suc (suc zero)) i k e o = first_operand conjunction i k e o
  lower (suc (suc (suc zero))) i k e o = lone_operand i k e (closed (group addition) i k e o)
  lower (suc (suc (suc (suc zero)))) i k e o = first_operand addition i k e (closed (group multiplication) i k e o)
  lower (suc (suc (suc (suc (suc zero))))) i k e o = first_operand multiplication i k e o
  lower (suc (suc (suc (suc (suc (suc zero)))))) i k e o = lone_factor i k e (closed postfix i k e o)
  lower (suc (suc (suc (suc (suc (suc (suc zero))))))) i k e o = first_destination i k e o
  lower (suc (suc (suc (suc (suc (suc (suc (suc n)))))))) i k e o = o

  lowered : (d n m i k : ℕ) (e : Expression) → d + n ≡ m → Opened f ts (of_number m) i k e → Opened f ts (of_number n) i k e
  lowered zero n m i k e h o = let g : m ≡ n = omega arith in subst (λ (l : ℕ). Opened f ts (of_number l) i k e) g o
  lowered (suc d) n m i k e h o = lower n i k e (lowered d (suc n) m i k e (omega arith) o)

  in_parentheses : (i k : ℕ) (e : Expression) → IsOpened f ts e
      → Stands f ts (tok.Sign sign.LeftParen ∷ (bare_tokens e ++ tok.Sign sign.RightParen ∷ [])) i k → Expressed f ts primary i k e
  unfolding rule
  in_parentheses i k e opens s =
      let c = split (bare_tokens e) (tok.Sign sign.RightParen ∷ []) s.1 in
      let o = closed (group disjunction) (i + 1) c.middle e (lowered (level e) 0 (level e) (i + 1) c.middle e (omega arith) (opens (i + 1) c.middle c.front)) in
      record {
        found = o.found;
        derives = second (second (second (second (second (second (second (second (token i (s.0, refl) (inner o.found o.derives (token c.middle (c.back.0, refl) (ended c.back.1)))))))))));
        same = o.same;
      }

  placed_by : (n : ℕ) → n ≤ 8 → (e : Expression) → IsOpened f ts e → (i k : ℕ) (b : Bool) → nat_le n (level e) ≡ b
      → Stands f ts (if b then bare_tokens e else tok.Sign sign.LeftParen ∷ (bare_tokens e ++ tok.Sign sign.RightParen ∷ [])) i k
      → Opened f ts (of_number n) i k e
  placed_by n l e opens i k true h s = let m : n ≤ level e = leb-true n (level e) h in lowered (level e - n) n (level e) i k e (omega arith) (opens i k s)
  placed_by n l e opens i k false h s = lowered (8 - n) n 8 i k e (omega arith) (in_parentheses i k e opens s)

  -- an expression in a place that needs a level
  placed : (n : ℕ) → n ≤ 8 → (e : Expression) → IsOpened f ts e → (i k : ℕ) → Stands f ts (expression_tokens n e) i k → Opened f ts (of_number n) i k e
  placed n l e opens i k s = placed_by n l e opens i k (nat_le n (level e)) refl s

  -- arguments

  more_arguments : (es : Expressions) → EachArgument f ts es → (i k : ℕ) → Stands f ts (led_by (tok.Sign sign.Comma) (argument_tokens es)) i k → MoreArguments f ts i k es
  unfolding rule
  more_arguments NoArgs each i k s = record { found = NoArgs; same = refl; goes_on = λ before. second (derives_as (sym (arguments_end before)) (ended s)) }
  more_arguments (Arg e es) each i k s =
      let c = split (expression_tokens 1 e) (led_by (tok.Sign sign.Comma) (argument_tokens es)) s.1 in
      let a = each.0 (i + 1) c.middle c.front in
      let b = more_arguments es each.1 c.middle k c.back in
      record {
        found = Arg a.found b.found;
        same = λ d. Arg (a.same d) (b.same d);
        goes_on = λ before. derives_as (arguments_next before a.found b.found)
            (first (token i (s.0, refl) (inner a.found a.derives (inner _ (b.goes_on (arg_last before a.found)) nothing))));
      }

  pub listed : (es : Expressions) → EachArgument f ts es → (i k : ℕ)
      → Stands f ts (tok.Sign sign.LeftParen ∷ (separated_by (tok.Sign sign.Comma) (argument_tokens es) ++ tok.Sign sign.RightParen ∷ [])) i k → Listed f ts i k es
  unfolding rule
  listed NoArgs each i k s = record { found = NoArgs; derives = token i (s.0, refl) (second (token (i + 1) (s.1.0, refl) (ended s.1.1))); same = refl }
  listed (Arg e es) each i k s =
      let p = split (separated_by (tok.Sign sign.Comma) (argument_tokens (Arg e es))) (tok.Sign sign.RightParen ∷ []) s.1 in
      let c = split (expression_tokens 1 e) (led_by (tok.Sign sign.Comma) (argument_tokens es)) p.front in
      let a = each.0 (i + 1) c.middle c.front in
      let b = more_arguments es each.1 c.middle p.middle c.back in
      record {
        found = Arg a.found b.found;
        derives = token i (s.0, refl) (first (inner a.found a.derives (inner _ (b.goes_on (Arg a.found NoArgs)) (token p.middle (p.back.0, refl) (ended p.back.1)))));
        same = λ d. Arg (a.same d) (b.same d);
      }

  -- operators

  prefixed : (o : Op) (e : Expression) (p i k : ℕ) → is_prefix o ≡ true → slice_get ts i ≡ Some (token_by f (operator_token o))
      → Expressed f ts factor (i + 1) k e → Expressed f ts factor i k (Prefix o e p)
  unfolding rule
  prefixed op.Neg e p i k h t x = record { found = Prefix op.Neg x.found i; derives = first (token (op.Neg, i) (tok.Sign sign.Minus, t, refl, refl) (inner x.found x.derives nothing)); same = λ d. Prefix op.Neg (x.same d) 0 }
  prefixed op.Not e p i k h t x = record { found = Prefix op.Not x.found i; derives = first (token (op.Not, i) (tok.Word word.Not, t, refl, refl) (inner x.found x.derives nothing)); same = λ d. Prefix op.Not (x.same d) 0 }
  prefixed _ e p i k h t x = cc h

  -- an operator that groups to the left, and its right operand
  joined : (g : Group) (o : Op) (t : Tok) (l r : Expression) (p i m k : ℕ) → operator_of (group g) t ≡ Some o → slice_get ts m ≡ Some t
      → OpenGroup f ts g i m l → Expressed f ts (operand g) (m + 1) k r → OpenGroup f ts g i k (Infix o l r p)
  unfolding rule
  joined g o t l r p i m k h s a b = record {
    found = Infix o a.found b.found m;
    same = λ d. Infix o (a.same d) (b.same d) 0;
    goes_on = λ j y d. a.goes_on j y (first (token (o, m) (t, s, h, refl) (inner b.found b.derives (inner y d nothing))));
  }

  compared : (o : Op) (t : Tok) (l r : Expression) (p i m k : ℕ) → operator_of comparison t ≡ Some o → slice_get ts m ≡ Some t
      → Expressed f ts (group addition) i m l → Expressed f ts (group addition) (m + 1) k r → Expressed f ts comparison i k (Infix o l r p)
  unfolding rule
  compared o t l r p i m k h s a b = record {
    found = Infix o a.found b.found m;
    derives = inner a.found a.derives (first (token (o, m) (t, s, h, refl) (inner b.found b.derives nothing)));
    same = λ d. Infix o (a.same d) (b.same d) 0;
  }

  grouped : (g : Group) (o : Op) (t : Tok) (n : ℕ) → n + 1 ≤ 8 → (l r : Expression) (p : ℕ) → IsOpened f ts l → IsOpened f ts r
      → of_number n ≡ group g → of_number (n + 1) ≡ operand g → operator_of (group g) (token_by f t) ≡ Some o → (i k : ℕ)
      → Stands f ts (expression_tokens n l ++ t ∷ expression_tokens (n + 1) r) i k → OpenGroup f ts g i k (Infix o l r p)
  grouped g o t n h l r p a b u v w i k s =
      let c = split (expression_tokens n l) (t ∷ expression_tokens (n + 1) r) s in
      joined g o (token_by f t) l r p i c.middle k w c.back.0
      (subst (λ (z : Level). Opened f ts z i c.middle l) u (placed n (omega arith) l a i c.middle c.front))
      (subst (λ (z : Level). Expressed f ts z (c.middle + 1) k r) v (closed (of_number (n + 1)) (c.middle + 1) k r (placed (n + 1) h r b (c.middle + 1) k c.back.1)))

  ordered : (o : Op) (t : Tok) (l r : Expression) (p : ℕ) → IsOpened f ts l → IsOpened f ts r → operator_of comparison (token_by f t) ≡ Some o → (i k : ℕ)
      → Stands f ts (expression_tokens 4 l ++ t ∷ expression_tokens 4 r) i k → Expressed f ts comparison i k (Infix o l r p)
  ordered o t l r p a b w i k s =
      let c = split (expression_tokens 4 l) (t ∷ expression_tokens 4 r) s in
      compared o (token_by f t) l r p i c.middle k w c.back.0 (closed (group addition) i c.middle l (placed 4 (omega arith) l a i c.middle c.front))
      (closed (group addition) (c.middle + 1) k r (placed 4 (omega arith) r b (c.middle + 1) k c.back.1))

  infixed : (o : Op) (l r : Expression) (p : ℕ) → is_prefix o ≡ false → IsOpened f ts l → IsOpened f ts r → IsOpened f ts (Infix o l r p)
  infixed op.Or l r p h a b i k s = grouped disjunction op.Or (tok.Word word.Or) 1 (omega arith) l r p a b refl refl refl i k s
  infixed op.And l r p h a b i k s = grouped conjunction op.And (tok.Word word.And) 2 (omega arith) l r p a b refl refl refl i k s
  infixed op.Same l r p h a b i k s = ordered op.Same (tok.Sign sign.Equal) l r p a b refl i k s
  infixed op.Differs l r p h a b i k s = ordered op.Differs (tok.Sign sign.Differs) l r p a b refl i k s
  infixed op.Less l r p h a b i k s = ordered op.Less (tok.Sign sign.Less) l r p a b refl i k s
  infixed op.LessEq l r p h a b i k s = ordered op.LessEq (tok.Sign sign.LessEq) l r p a b refl i k s
  infixed op.More l r p h a b i k s = ordered op.More (tok.Sign sign.More) l r p a b refl i k s
  infixed op.MoreEq l r p h a b i k s = ordered op.MoreEq (tok.Sign sign.MoreEq) l r p a b refl i k s
  infixed op.Add l r p h a b i k s = grouped addition op.Add (tok.Sign sign.Plus) 4 (omega arith) l r p a b refl refl refl i k s
  infixed op.Sub l r p h a b i k s = grouped addition op.Sub (tok.Sign sign.Minus) 4 (omega arith) l r p a b refl refl refl i k s
  infixed op.Mul l r p h a b i k s = grouped multiplication op.Mul (tok.Sign sign.Star) 5 (omega arith) l r p a b refl refl refl i k s
  infixed op.Div l r p h a b i k s = grouped multiplication op.Div (tok.Sign sign.Slash) 5 (omega arith) l r p a b refl refl refl i k s
  infixed op.Rem l r p h a b i k s = grouped multiplication op.Rem (tok.Sign sign.Percent) 5 (omega arith) l r p a b refl refl refl i k s
  infixed op.Neg l r p h a b i k s = cc h
  infixed op.Not l r p h a b i k s = cc h

  -- sends

  sent : (e : Expression) (m : ℕ) (es : Expressions) (p i j k : ℕ) → OpenSends f ts i j e → EachArgument f ts es
      → Stands f ts (tok.Sign sign.Bang ∷ tok.Name (record { 0 = m }) ∷ tok.Sign sign.LeftParen ∷ (separated_by (tok.Sign sign.Comma) (argument_tokens es) ++ tok.Sign sign.RightParen ∷ [])) j k
      → OpenSends f ts i k (Send e m es p)
  unfolding rule
  sent e m es p i j k o each s =
      let a = listed es each (j + 1 + 1) k s.1.1 in
      record {
        found = Send o.found (f m) a.found (j + 1);
        same = λ d. Send (o.same d) (f m) (a.same d) 0;
        goes_on = λ l y d. o.goes_on l y (first (token j (s.0, refl) (token (named (f m) (j + 1)) (s.1.0, refl) (inner a.found a.derives (inner y d nothing)))));
      }

  called : (m : ℕ) (es : Expressions) (p : ℕ) → EachArgument f ts es → IsOpened f ts (Call m es p)
  unfolding rule
  called m es p each i k s =
      let a = listed es each (i + 1) k s.1 in
      record {
        found = Call (f m) a.found i;
        derives = second (second (second (second (second (second (first (token (named (f m) i) (s.0, refl) (inner a.found a.derives nothing))))))));
        same = λ d. Call (f m) (a.same d) 0;
      }

  -- what has no parts

  literal : (v : _) (p : ℕ) → ExpressionForm (Literal v p) → IsOpened f ts (Literal v p)
  unfolding rule
  literal (value.Int z) p w i k s = record { found = Literal (value.Int z) i; derives = first (token (z, i) (s.0, refl) (ended s.1)); same = refl }
  literal (value.Bool true) p w i k s = record { found = Literal (value.Bool true) i; derives = second (first (token i (s.0, refl) (ended s.1))); same = refl }
  literal (value.Bool false) p w i k s = record { found = Literal (value.Bool false) i; derives = second (second (first (token i (s.0, refl) (ended s.1)))); same = refl }
  literal (value.Ref n) p w i k s = absurd w
  literal value.Nil p w i k s = record { found = Literal value.Nil i; derives = second (second (second (first (token i (s.0, refl) (ended s.1))))); same = refl }

  me : (p : ℕ) → IsOpened f ts (Me p)
  unfolding rule
  me p i k s = record { found = Me i; derives = second (second (second (second (first (token i (s.0, refl) (ended s.1)))))); same = refl }

  variable : (x p : ℕ) → IsOpened f ts (Variable x p)
  unfolding rule
  variable x p i k s = record { found = Variable (f x) i; derives = second (second (second (second (second (first (token (named (f x) i) (s.0, refl) (ended s.1))))))); same = refl }

  create : (c p : ℕ) → IsOpened f ts (Create c p)
  unfolding rule
  create c p i k s = record {
    found = Create (f c) (i + 1);
    derives = second (second (second (second (second (second (second (first (token i (s.0, refl) (token (named (f c) (i + 1)) (s.1.0, refl) (ended s.1.1))))))))));
    same = refl;
  }

  mutual
    opened : (e : Expression) → ExpressionForm e → IsOpened f ts e
    opened (Literal v p) w = literal v p w
    opened (Me p) w = me p
    opened (Variable x p) w = variable x p
    opened (Create c p) w = create c p
    opened (Prefix o e p) w = λ i k s. prefixed o e p i k w.0 s.0 (placed 6 (omega arith) e (opened e w.1) (i + 1) k s.1)
    opened (Infix o l r p) w = infixed o l r p w.0 (opened l w.1) (opened r w.2)
    opened (Call m es p) w = called m es p (each_argument es w)
    opened (Send e m es p) w = λ i k s.
        let c = split (expression_tokens 7 e) (tok.Sign sign.Bang ∷ tok.Name (record { 0 = m }) ∷ tok.Sign sign.LeftParen ∷ (separated_by (tok.Sign sign.Comma) (argument_tokens es) ++ tok.Sign sign.RightParen ∷ [])) s in
        sent e m es p i c.middle k (placed 7 (omega arith) e (opened e w.0) i c.middle c.front) (each_argument es w.1) c.back
    opened (Frame m t ss e qs) w = absurd w
    opened (Wait b m) w = absurd w

    pub each_argument : (es : Expressions) → ArgumentsForm es → EachArgument f ts es
    each_argument NoArgs w = tt
    each_argument (Arg e es) w = ((λ i k s. closed (group disjunction) i k e (placed 1 (omega arith) e (opened e w.0) i k s)), each_argument es w.1)

  -- an expression
  pub expressed : (e : Expression) → ExpressionForm e → (i k : ℕ) → Stands f ts (expression_tokens 1 e) i k → Expressed f ts (group disjunction) i k e
  expressed e w i k s = closed (group disjunction) i k e (placed 1 (omega arith) e (opened e w) i k s)

  -- the destination of a send
  pub destination : (e : Expression) → ExpressionForm e → (i k : ℕ) → Stands f ts (expression_tokens 7 e) i k → Expressed f ts postfix i k e
  destination e w i k s = closed postfix i k e (placed 7 (omega arith) e (opened e w) i k s)
