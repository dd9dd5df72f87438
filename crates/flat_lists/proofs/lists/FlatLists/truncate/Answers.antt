use Rattle.std.proofs.Common.{◌≡◌, ◌≤◌, ◌∷◌, ap, ap₂, ◌∙◌, sym, subst, ℕ, List, length, take, get_or, arith}
use Rattle.std.proofs.lemmas.List.{take_all, length-take-le}
use Rattle.flat_lists.specs.Ends.{AreEnds, lists_from}
use Rattle.flat_lists.proofs.Flat.{ends_cut, length_lists, lists_cut, start_within}
use Rattle.flat_lists.proofs.lists.FlatLists.truncate.Goals as goal

-- the fields after the cut
cut : {X : Type 0} (es fs gs : List ℕ) (xs ys : List X) (count end : ℕ) → AreEnds 0 es (length xs) → count ≤ length es → fs ≡ es → end ≡ get_or (0 ∷ fs) count 0
    → gs ≡ take count es → ys ≡ take end xs → AreEnds 0 gs (length ys) × (lists_from 0 gs ys ≡ take count (lists_from 0 es xs))
cut es fs gs xs ys count end h l same is cut_ends cut_items = (
  subst (λ ks. AreEnds 0 ks (length ys)) (sym cut_ends) (subst (AreEnds 0 (take count es)) (sym last) (ends_cut 0 es (length xs) count h l)),
  ap₂ (lists_from 0) cut_ends cut_items ∙ lists_cut es xs count end h l at,
)
  where
    at : end ≡ get_or (0 ∷ es) count 0
    at = is ∙ ap (λ ks. get_or (0 ∷ ks) count 0) same

    last : length ys ≡ get_or (0 ∷ es) count 0
    last = ap length cut_items ∙ length-take-le end xs (omega (arith, at, start_within 0 es (length xs) count h l)) ∙ at

pub invariant_of-self : goal.invariant_of-self
invariant_of-self g c =
    (cut c.self.inside.ends.items c.as_slice.result.now c.truncate-then-count-len.new.self.items c.self.inside.items.items c.truncate.new.self.items c.args.count c.start-end.result c.self.invariant
    (omega (arith, c.if-count-len.true, c.len.ensures, c.self.inside.ends.ok.0)) c.as_slice.ensures.value c.start-end.ensures c.truncate-then-count-len.ensures.items c.truncate.ensures.items).0

pub returns-then-count-len : goal.returns-then-count-len
returns-then-count-len g c =
    (cut c.self.inside.ends.items c.as_slice.result.now c.truncate-then-count-len.new.self.items c.self.inside.items.items c.truncate.new.self.items c.args.count c.start-end.result c.self.invariant
    (omega (arith, c.if-count-len.true, c.len.ensures, c.self.inside.ends.ok.0)) c.as_slice.ensures.value c.start-end.ensures c.truncate-then-count-len.ensures.items c.truncate.ensures.items).1
    ∙ ap (take c.args.count) c.self.view_is

pub returns-else-count-len : goal.returns-else-count-len
returns-else-count-len g c =
    sym
    (take_all c.args.count c.args.self.now
    (omega (arith, c.if-count-len.false, c.len.ensures, c.self.inside.ends.ok.0, length_lists 0 c.self.inside.ends.items c.self.inside.items.items, ap length c.self.view_is)))
