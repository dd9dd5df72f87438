use Rattle.std.proofs.Common.{◌≡◌, ◌+◌, ◌∷◌, ◌++◌, [], ap, ap₂, ◌∙◌, sym, subst, ℕ, List, length, arith, length-append}
use Rattle.flat_lists.specs.Ends.{AreEnds, lists_from}
use Rattle.flat_lists.proofs.Flat.{ends_push, lists_push}
use Rattle.flat_lists.proofs.lists.FlatLists.push.Goals as goal

-- the fields after the push
pushed : {X : Type 0} (es fs gs : List ℕ) (xs zs ys : List X) (end : ℕ) → AreEnds 0 es (length xs) → end ≡ length xs + length ys → fs ≡ es → gs ≡ fs ++ end ∷ [] → zs ≡ xs ++ ys
    → AreEnds 0 gs (length zs) × (lists_from 0 gs zs ≡ lists_from 0 es xs ++ ys ∷ [])
pushed es fs gs xs zs ys end h is same new_ends new_items = (
  subst (λ ks. AreEnds 0 ks (length zs)) (sym ends) (ends_push 0 es (length xs) (length zs) end h (omega (arith, is, long)) (omega (arith, long))),
  ap₂ (lists_from 0) ends new_items ∙ lists_push 0 es xs ys end h is,
)
  where
    ends : gs ≡ es ++ end ∷ []
    ends = new_ends ∙ ap (λ ks. ks ++ end ∷ []) same

    long : length zs ≡ length xs + length ys
    long = ap length new_items ∙ length-append xs ys

pub invariant_of-self-2 : goal.invariant_of-self-2
invariant_of-self-2 g c =
    (pushed c.self.inside.ends.items c.reserve.new.self.items c.push_reserved.new.self.items c.self.inside.items.items c.extend_from_slice.new.self.items c.args.list.now c.in-Ok.end c.self.invariant
    (omega (arith, c.in-Ok.ensures, c.saturating_add.ensures, c.len.ensures, c.self.inside.items.ok.0)) c.reserve.ensures.items c.push_reserved.ensures.items c.in_ok-extend_from_slice.ensures.items).0

pub returns-clause-ok : goal.returns-clause-ok
returns-clause-ok g c =
    (pushed c.self.inside.ends.items c.reserve.new.self.items c.push_reserved.new.self.items c.self.inside.items.items c.extend_from_slice.new.self.items c.args.list.now c.in-Ok.end c.self.invariant
    (omega (arith, c.in-Ok.ensures, c.saturating_add.ensures, c.len.ensures, c.self.inside.items.ok.0)) c.reserve.ensures.items c.push_reserved.ensures.items c.in_ok-extend_from_slice.ensures.items).1
    ∙ ap (λ ls. ls ++ c.args.list.now ∷ []) c.self.view_is
