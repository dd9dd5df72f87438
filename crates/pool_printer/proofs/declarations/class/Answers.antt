use Rattle.std.proofs.Common.{ap, ◌∙◌, List, map}
use Rattle.pool_syntax.specs.declared.token.Tok.{Tok}
use Rattle.text_scan.specs.declared.keywords.Keyword.TheVariants as word
use Rattle.pool_syntax.specs.declared.tree.Method.{Method}
use Rattle.pool_syntax.specs.declared.tree.Stmt.{Stmt}
use Rattle.pool_syntax.specs.declared.tree.Var.{Var}
use Rattle.pool_syntax.specs.TreeOf.{class_tree, method_tree, statements_of}
use Rattle.pool_printer.specs.Canonical.{declarations_tokens, methods_tokens, statements_tokens}
use Rattle.pool_printer.specs.Known.{are_known}
use Rattle.pool_printer.proofs.DeclarationParts.{known_class}
use Rattle.pool_printer.proofs.SequentialOutput.{prints_append, prints_more, prints_same}
use Rattle.pool_printer.proofs.declarations.class.Goals as goal

abbrev vars_of : List Var → List Tok
vars_of vs = declarations_tokens word.Var vs

abbrev methods_of : List Method → List Tok
methods_of ms = methods_tokens (map method_tree ms)

abbrev body_of : List Stmt → List Tok
body_of ss = statements_tokens (statements_of ss)

pub variables-requires : goal.variables-requires
variables-requires g c = ap (λ vs. are_known c.args.names.now (vars_of vs)) c.items.ensures ∙ (known_class c.args.names.now (class_tree c.args.class.now) c.requires).1

pub methods-requires : goal.methods-requires
methods-requires g c = ap (λ ms. are_known c.args.names.now (methods_of ms)) c.items-2.ensures ∙ (known_class c.args.names.now (class_tree c.args.class.now) c.requires).2

pub statements-requires : goal.statements-requires
statements-requires g c = ap (λ ss. are_known c.args.names.now (body_of ss)) c.items-3.ensures ∙ (known_class c.args.names.now (class_tree c.args.class.now) c.requires).3

pub returns : goal.returns
returns g c =
    prints_more _ _ _ _ _ _ c.say.ensures
    (prints_more _ _ _ _ _ _ c.say-2.ensures
    (prints_append _ _ _ _ _ _ (prints_same _ _ _ _ _ (ap vars_of c.items.ensures) c.variables.ensures)
    (prints_append _ _ _ _ _ _ (prints_same _ _ _ _ _ (ap methods_of c.items-2.ensures) c.methods.ensures)
    (prints_more _ _ _ _ _ _ c.say-3.ensures
    (prints_append _ _ _ _ _ _ (prints_same _ _ _ _ _ (ap body_of c.items-3.ensures) c.statements.ensures) c.say-4.ensures)))))
