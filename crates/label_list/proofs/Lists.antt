-- The labels of parts, one part after another.
use Rattle.std.proofs.Common.{◌≡◌, ◌∙◌, ◌<◌, ◌+◌, ℕ, List, [], ◌∷◌, ◌++◌, length, drop, get_or, refl, sym, ap, append_assoc}
use Rattle.std.proofs.lemmas.List.{append-nil, drop_more}
use Rattle.label_list.specs.declared.part.Part.{Part}
use Rattle.label_list.specs.Parts.{labels_in, labels_of}

labels_append : (ps qs : List Part) → labels_in (ps ++ qs) ≡ labels_in ps ++ labels_in qs
labels_append [] qs = refl
labels_append (p ∷ ps) qs = ap (λ ls. labels_of p ++ ls) (labels_append ps qs) ∙ sym (append_assoc (labels_of p) (labels_in ps) (labels_in qs))

-- one more part at the end
pub labels_push : (ps : List Part) (p : Part) → labels_in (ps ++ p ∷ []) ≡ labels_in ps ++ labels_of p
labels_push ps p = labels_append ps (p ∷ []) ∙ ap (λ ls. labels_in ps ++ ls) (append-nil (labels_of p))

-- the labels that are left at a part are its own and those after it
pub labels_left : (ps : List Part) (at : ℕ) (p : Part) → at < length ps → p ≡ get_or ps at p → labels_in (drop at ps) ≡ labels_of p ++ labels_in (drop (at + 1) ps)
labels_left ps at p inside is = ap labels_in (drop_more ps at p inside ∙ ap (λ x. x ∷ drop (at + 1) ps) (sym is))
