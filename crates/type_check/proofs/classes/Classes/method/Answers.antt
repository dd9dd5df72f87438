use Rattle.std.proofs.Common.{sym, ap, ◌∙◌}
use Rattle.pool_syntax.specs.Classes.{named_method}
use Rattle.pool_syntax.specs.Typing.{methods_of_class}
use Rattle.type_check.proofs.IndexLaws.{found_within}
use Rattle.type_check.proofs.NameLookup.{class_of_at, class_of_nowhere}
use Rattle.type_check.proofs.classes.Classes.method.Goals as goal

pub method_at-requires : goal.method_at-requires
method_at-requires c = found_within (λ k. k.name.name.0) c.args.self.now.list.now c.args.class.0 c.in-Some.place (cc)

pub returns-in-Some : goal.returns-in-Some
returns-in-Some c = c.method_at.ensures ∙ ap (λ k. named_method (methods_of_class k) c.args.name.0) (sym (class_of_at c.args.self.now.list.now c.args.class.0 c.in-Some.place (cc)))

pub returns-in-None : goal.returns-in-None
returns-in-None c = ap (λ k. named_method (methods_of_class k) c.args.name.0) (sym (class_of_nowhere c.args.self.now.list.now c.args.class.0 (cc)))
