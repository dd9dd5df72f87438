use Rattle.std.proofs.Common.{◌≡◌, ◌∙◌, ◌-◌, ◌+◌, ◌++◌, ◌∷◌, [], List, length, Option, Some, ap, sym, subst, replicate, append_assoc, arith}
use Rattle.std.specs.Prelude.{option_to_list, vec_len}
use Rattle.std.specs.List.{slice_get}
use Rattle.std.proofs.lemmas.Grind.{replicate_next}
use Rattle.std.proofs.lemmas.Option.{slice_get_within, get_or_from_slice_get}
use Rattle.run_types.specs.declared.types.Label.{Label}
use Rattle.run_types.specs.declared.types.Label.TheVariants as L
use Rattle.label_list.specs.declared.part.Part.{Part}
use Rattle.label_list.specs.declared.part.Part.TheVariants as P
use Rattle.label_list.specs.Parts.{labels_in, labels_of}
use Rattle.label_list.proofs.Lists.{labels_push}
use Rattle.label_list.proofs.list.LabelList.count.Goals as goal

pub returns-clause-counted : goal.returns-clause-counted
returns-clause-counted c = λ _.
    let parts = c.self.inside.parts.items in
    let at = vec_len c.self.inside.parts - 1 in
    let rest = c.pop-last.new.self.items in
    let times = c.in-Some-has_room.times in
    let last = c.in-Some.last.now in
    let one = L.Local c.args.object in
    let counted : Part = P.Local c.args.object times in
    let more : Part = P.Local c.args.object (times + 1) in
    let slice = c.as_slice.ensures in
    let place : length c.as_slice.result.now - 1 ≡ at = ap (λ n. n - 1) slice.len in
    let there : slice_get parts at ≡ Some last =
    subst (λ n. slice_get parts n ≡ Some last) place (subst (λ (xs : List Part). slice_get xs (length c.as_slice.result.now - 1) ≡ Some last) slice.value (sym c.in-Some.ensures.value)) in
    let inside = slice_get_within parts at last there in
    let popped : c.pop-last.result ≡ Some counted = c.pop-last.ensures.value last (omega (arith, slice.len, ap (λ (xs : List Part). length xs) slice.value)) ∙ ap Some (get_or_from_slice_get parts at last last there ∙ c.in-Some-has_room.ensures.0) in
    let before : labels_in rest ++ labels_of counted ≡ c.args.self.now =
    sym (labels_push rest counted) ∙ sym (ap labels_in (c.pop-last.ensures.items ∙ ap (λ (o : Option Part). rest ++ option_to_list o) popped)) ∙ c.self.view_is in
    ap labels_in c.push_reserved.ensures.items ∙ labels_push rest more ∙ ap (λ (ls : List Label). labels_in rest ++ ls) (replicate_next times one)
    ∙ sym (append_assoc (labels_in rest) (replicate times one) (one ∷ [])) ∙ ap (λ (ls : List Label). ls ++ one ∷ []) before
