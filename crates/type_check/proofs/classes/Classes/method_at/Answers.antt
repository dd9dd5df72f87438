use Rattle.std.proofs.Common.{◌≡◌, refl, sym, ap, ◌∙◌, length, map, option_map, slice_get, List, Some}
use Rattle.std.proofs.lemmas.Option.{slice_get_read}
use Rattle.pool_syntax.specs.declared.tree.Method.{Method}
use Rattle.pool_syntax.specs.declared.tree.ClassDecl.{ClassDecl}
use Rattle.pool_syntax.specs.Classes.{named_method}
use Rattle.pool_syntax.specs.TreeOf.{class_tree, method_tree}
use Rattle.pool_syntax.specs.Typing.{methods_of_class}
use Rattle.type_check.proofs.NameLookup.{named_method_found}
use Rattle.type_check.proofs.classes.Classes.method_at.Goals as goal

pub returns : goal.returns
returns c =
    let ks = c.args.self.now.list.now in
    let k = c.index-self-place.result in
    let ms = c.items.result.now in
    let n = c.args.name.0 in
    let same : ms ≡ k.methods = c.items.ensures ∙ ap (λ (x : ClassDecl). x.methods) (sym c.index-self-place.is) in
    let read : slice_get ks c.args.place ≡ Some k = slice_get_read ks (length ks) c.args.place k refl c.requires c.index-self-place.is in
    ap (option_map method_tree) c.first.ensures
    ∙ sym (named_method_found ms n)
    ∙ ap (λ (xs : List Method). named_method (map method_tree xs) n) same
    ∙ ap (λ o. named_method (methods_of_class (option_map class_tree o)) n) (sym read)
