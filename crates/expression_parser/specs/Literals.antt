-- The expressions and declared types that consist of one token.
use Rattle.std.specs.Prelude.{ℕ, Option, Some, None, true, false}
use Rattle.pool_syntax.specs.declared.token.Tok.{Tok}
use Rattle.pool_syntax.specs.declared.token.Tok.TheVariants as tok
use Rattle.text_scan.specs.declared.keywords.Keyword.TheVariants as kw
use Rattle.run_types.specs.declared.types.Value.TheVariants as value
use Rattle.run_types.specs.declared.types.Kind.{Kind}
use Rattle.run_types.specs.declared.types.Kind.TheVariants as kind
use Rattle.pool_syntax.specs.Terms.{Expression, Literal, Me}

-- the literal or `self` that the token is, with its position
abbrev pub literal_of : Tok → ℕ → Option Expression
literal_of (tok.Int z) p = Some (Literal (value.Int z) p)
literal_of (tok.Word kw.True) p = Some (Literal (value.Bool true) p)
literal_of (tok.Word kw.False) p = Some (Literal (value.Bool false) p)
literal_of (tok.Word kw.Nil) p = Some (Literal value.Nil p)
literal_of (tok.Word kw.SelfWord) p = Some (Me p)
literal_of _ p = None

-- the declared type that the token is
abbrev pub kind_of : Tok → Option Kind
kind_of (tok.Word kw.Int) = Some kind.Int
kind_of (tok.Word kw.Bool) = Some kind.Bool
kind_of (tok.Name n) = Some (kind.Class n)
kind_of _ = None
