-- The text of each sign of the language.
use Rattle.std.specs.Prelude.{ℕ, List, codes}
use Rattle.pool_syntax.specs.declared.token.Sign.{Sign}
use Rattle.pool_syntax.specs.declared.token.Sign.TheVariants as sign

abbrev pub sign_text : Sign → List ℕ
sign_text sign.Becomes = codes ":="
sign_text sign.Colon = codes ":"
sign_text sign.Semicolon = codes ";"
sign_text sign.Comma = codes ","
sign_text sign.LeftParen = codes "("
sign_text sign.RightParen = codes ")"
sign_text sign.Bang = codes "!"
sign_text sign.BangBang = codes "!!"
sign_text sign.Equal = codes "=="
sign_text sign.Differs = codes "!="
sign_text sign.Less = codes "<"
sign_text sign.LessEq = codes "<="
sign_text sign.More = codes ">"
sign_text sign.MoreEq = codes ">="
sign_text sign.Plus = codes "+"
sign_text sign.Minus = codes "-"
sign_text sign.Star = codes "*"
sign_text sign.Slash = codes "/"
sign_text sign.Percent = codes "%"
