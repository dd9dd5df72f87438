use Rattle.std.proofs.Common.{◌≡◌, ◌∙◌, ◌∷◌, [], ◌++◌, List, ap, sym}
use Rattle.run_types.specs.declared.types.Label.{Label}
use Rattle.run_types.specs.declared.types.Label.TheVariants as L
use Rattle.label_list.specs.declared.part.Part.{Part}
use Rattle.label_list.specs.Parts.{labels_in, labels_of}
use Rattle.label_list.proofs.Lists.{labels_push}
use Rattle.label_list.proofs.list.LabelList.push.Goals as goal
use Rattle.label_list.proofs.list.LabelList.push.Goals.{in-Local+else-count, in_default}

pub returns-clause-ok : goal.returns-clause-ok
returns-clause-ok c =
    let before = c.match-label.self in
    let pushed : labels_in c.push.new.self.items ≡ before ++ labels_of c.match-label.part =
    ap labels_in c.in_ok-push.ensures.items ∙ labels_push c.self.inside.parts.items c.match-label.part ∙ ap (λ ls. ls ++ labels_of c.match-label.part) c.self.view_is in
    pushed ∙ elim c.match-label.branch [
      | in-Local+else-count w ↦
          ap (λ (p : Part). before ++ labels_of p) w.part-is ∙ ap (λ (ls : List Label). ls ++ L.Local w.in-Local.object ∷ []) (w.self-is ∙ w.count.ensures.unchanged w.if-count.false)
          ∙ ap (λ (l : Label). c.args.self.now ++ l ∷ []) (sym w.in-Local.is)
      | in_default w ↦ ap (λ (p : Part). before ++ labels_of p) w.part-is ∙ ap (λ (ls : List Label). ls ++ c.args.label.now ∷ []) w.self-is
    ]
