-- Programs as the parser gives them: nothing in them is under way, and no literal names an object.
use Rattle.std.proofs.Common.{Bool, true, false, List, [], ◌∷◌}
use Rattle.std.specs.Prelude.{◌&&◌}
use Rattle.run_types.specs.declared.types.Value.TheVariants as V
use Rattle.pool_syntax.specs.Terms as T
use Rattle.pool_syntax.specs.Terms.{Expression, Expressions, Statement, Statements, Alternatives, MethodTree, ProgramTree}

-- a part of a program text: no method is under way in it, no call is served, and no literal is the name of an object
abbrev mutual
  pub is_text : Expression → Bool
  is_text (T.Literal (V.Ref n) p) = false
  is_text (T.Literal v p) = true
  is_text (T.Me p) = true
  is_text (T.Variable x p) = true
  is_text (T.Create c p) = true
  is_text (T.Prefix op e p) = is_text e
  is_text (T.Infix op l r p) = is_text l && is_text r
  is_text (T.Call m es p) = are_text es
  is_text (T.Send e m es p) = is_text e && are_text es
  is_text (T.Frame m t ss e qs) = false
  is_text (T.Wait b m) = false

  pub are_text : Expressions → Bool
  are_text T.NoArgs = true
  are_text (T.Arg e es) = is_text e && are_text es

abbrev mutual
  pub is_text_statement : Statement → Bool
  is_text_statement (T.Assign x p e) = is_text e
  is_text_statement (T.Write e) = is_text e
  is_text_statement (T.WriteText s) = true
  is_text_statement (T.Do e) = is_text e
  is_text_statement (T.Async e m p es) = is_text e && are_text es
  is_text_statement (T.If e these those) = is_text e && are_text_statements these && are_text_statements those
  is_text_statement (T.While e ss) = is_text e && are_text_statements ss
  is_text_statement (T.Answer names) = true
  is_text_statement (T.Select alts) = are_text_alternatives alts
  is_text_statement (T.Serve m k t ss e qs) = false

  pub are_text_statements : Statements → Bool
  are_text_statements T.Done = true
  are_text_statements (T.Then s ss) = is_text_statement s && are_text_statements ss

  pub are_text_alternatives : Alternatives → Bool
  are_text_alternatives T.NoAlts = true
  are_text_alternatives (T.Alt e names ss alts) = is_text e && are_text_statements ss && are_text_alternatives alts

abbrev pub is_text_method : MethodTree → Bool
is_text_method m = are_text_statements m.body && is_text m.value && are_text_statements m.post

abbrev pub are_text_methods : List MethodTree → Bool
are_text_methods [] = true
are_text_methods (m ∷ ms) = is_text_method m && are_text_methods ms

-- a program as the parser gives it
abbrev pub is_text_program : ProgramTree → Bool
is_text_program [] = true
is_text_program (k ∷ ks) = are_text_statements k.body && are_text_methods k.methods && is_text_program ks
