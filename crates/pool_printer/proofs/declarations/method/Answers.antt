use Rattle.std.proofs.Common.{ap, ◌∙◌, List, map}
use Rattle.pool_syntax.specs.declared.token.Tok.{Tok}
use Rattle.pool_syntax.specs.declared.token.Tok.TheVariants.{Sign}
use Rattle.text_scan.specs.declared.keywords.Keyword.TheVariants as word
use Rattle.pool_syntax.specs.declared.token.Sign.TheVariants as sign
use Rattle.pool_syntax.specs.declared.tree.Stmt.{Stmt}
use Rattle.pool_syntax.specs.declared.tree.Var.{Var}
use Rattle.pool_syntax.specs.TreeOf.{method_tree, statements_of}
use Rattle.pool_printer.specs.Canonical.{declarations_tokens, separated_by, statements_tokens, variable_tokens, post_tokens}
use Rattle.pool_printer.specs.Known.{are_known}
use Rattle.pool_printer.proofs.DeclarationParts.{known_method}
use Rattle.pool_printer.proofs.SequentialOutput.{prints_append, prints_more, prints_same}
use Rattle.pool_printer.proofs.declarations.method.Goals as goal

abbrev params_of : List Var → List Tok
params_of vs = separated_by (Sign sign.Comma) (map variable_tokens vs)

abbrev locals_of : List Var → List Tok
locals_of vs = declarations_tokens word.Local vs

abbrev body_of : List Stmt → List Tok
body_of ss = statements_tokens (statements_of ss)

abbrev post_of : List Stmt → List Tok
post_of ss = post_tokens (statements_of ss)

pub params-requires : goal.params-requires
params-requires g c = ap (λ vs. are_known c.args.names.now (params_of vs)) c.items.ensures ∙ (known_method c.args.names.now (method_tree c.args.method.now) c.requires).1

pub outcome-requires : goal.outcome-requires
outcome-requires g c = (known_method c.args.names.now (method_tree c.args.method.now) c.requires).2

pub variables-requires : goal.variables-requires
variables-requires g c = ap (λ vs. are_known c.args.names.now (locals_of vs)) c.items-2.ensures ∙ (known_method c.args.names.now (method_tree c.args.method.now) c.requires).3

pub statements-requires : goal.statements-requires
statements-requires g c = ap (λ ss. are_known c.args.names.now (body_of ss)) c.items-3.ensures ∙ (known_method c.args.names.now (method_tree c.args.method.now) c.requires).4

pub value-requires : goal.value-requires
value-requires g c = (known_method c.args.names.now (method_tree c.args.method.now) c.requires).5

pub post-requires : goal.post-requires
post-requires g c = ap (λ ss. are_known c.args.names.now (post_of ss)) c.items-4.ensures ∙ (known_method c.args.names.now (method_tree c.args.method.now) c.requires).6

pub returns : goal.returns
returns g c =
    prints_more _ _ _ _ _ _ c.say.ensures
    (prints_more _ _ _ _ _ _ c.say-2.ensures
    (prints_more _ _ _ _ _ _ c.say-3.ensures
    (prints_append _ _ _ _ _ _ (prints_same _ _ _ _ _ (ap params_of c.items.ensures) c.params.ensures)
    (prints_more _ _ _ _ _ _ c.say-4.ensures
    (prints_append _ _ _ _ _ _ c.outcome.ensures
    (prints_append _ _ _ _ _ _ (prints_same _ _ _ _ _ (ap locals_of c.items-2.ensures) c.variables.ensures)
    (prints_more _ _ _ _ _ _ c.say-5.ensures
    (prints_append _ _ _ _ _ _ (prints_same _ _ _ _ _ (ap body_of c.items-3.ensures) c.statements.ensures)
    (prints_append _ _ _ _ _ _ c.value.ensures
    (prints_append _ _ _ _ _ _ (prints_same _ _ _ _ _ (ap post_of c.items-4.ensures) c.post.ensures) c.say-6.ensures))))))))))
