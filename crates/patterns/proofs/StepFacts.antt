-- What is left of a pattern after an item, of its parts in a table that grows.
use Rattle.std.proofs.Common.{◌≡◌, refl, sym, ap, ap₂, ◌∙◌, subst, ℕ, List, length, true}
use Rattle.run_types.specs.declared.types.Item.{Item}
use Rattle.patterns.specs.Patterns.{Pattern, Either, Both, with_one, alternatives, mixed, after_item, are_same_patterns}
use Rattle.patterns.specs.Rows.{numbered, node_pattern, is_within, IsGrown, HasPattern}
use Rattle.patterns.specs.declared.node.Node.{Node}
use Rattle.patterns.specs.declared.node.Node.TheVariants as N
use Rattle.patterns.proofs.Derivatives.{pattern_itself}
use Rattle.patterns.proofs.RowFacts.{grown_more, grown_still, one_below, other_below}

-- a pattern with the same number is written alike
pub alike_itself : (ps : List Pattern) (m n : ℕ) → m ≡ n → true ≡ are_same_patterns (numbered ps m) (numbered ps n)
alike_itself ps m n e = subst (λ k. true ≡ are_same_patterns (numbered ps m) (numbered ps k)) e (sym (pattern_itself (numbered ps m)))

-- a pattern that is no alternative of others is the one alternative
no_alternatives : (ps : List Pattern) (x : Node) (t : Pattern) → (x ≡ N.Never → ⊥) → ((a b : ℕ) → x ≡ N.Either a b → ⊥) → with_one (node_pattern ps x) t ≡ alternatives (node_pattern ps x) t
no_alternatives ps N.Never t f g = absurd (f refl)
no_alternatives ps N.Nothing t f g = refl
no_alternatives ps (N.One i) t f g = refl
no_alternatives ps N.Any t f g = refl
no_alternatives ps (N.Either a b) t f g = absurd (g a b refl)
no_alternatives ps (N.Then a b) t f g = refl
no_alternatives ps (N.Both a b) t f g = refl
no_alternatives ps (N.Repeated a) t f g = refl

pub one_alternative : (ps : List Pattern) (x : Node) (w t : Pattern) → node_pattern ps x ≡ w → (x ≡ N.Never → ⊥) → ((a b : ℕ) → x ≡ N.Either a b → ⊥) → with_one w t ≡ alternatives w t
one_alternative ps x w t e f g = ap (λ v. with_one v t) (sym e) ∙ no_alternatives ps x t f g ∙ ap (λ v. alternatives v t) e

pub after_either : (p0 p1 p2 : List Pattern) (x : Node) (of one other a b : ℕ) (i : Item) → IsGrown p0 p1 → IsGrown p1 p2 → node_pattern p0 x ≡ numbered p0 of → is_within (length p0) x ≡ true
    → x ≡ N.Either one other → HasPattern p1 a (after_item (numbered p0 one) i) → HasPattern p2 b (after_item (numbered p1 other) i)
    → alternatives (numbered p2 a) (numbered p2 b) ≡ after_item (numbered p0 of) i
after_either p0 p1 p2 x of one other a b i g h e within is first second =
    let inside = subst (λ y. is_within (length p0) y ≡ true) is within in
    let whole : Either (numbered p0 one) (numbered p0 other) ≡ numbered p0 of = ap (node_pattern p0) (sym is) ∙ e in
    let left : numbered p2 a ≡ after_item (numbered p0 one) i = grown_still p1 p2 a h first.within ∙ first.is in
    let right : numbered p2 b ≡ after_item (numbered p0 other) i = second.is ∙ ap (λ v. after_item v i) (grown_still p0 p1 other g (other_below one other (length p0) inside)) in
    ap₂ alternatives left right ∙ ap (λ v. after_item v i) whole

pub after_both : (p0 p1 p2 p3 p4 : List Pattern) (x : Node) (of one other a f b g : ℕ) (i : Item) → IsGrown p0 p1 → IsGrown p1 p2 → IsGrown p2 p3 → IsGrown p3 p4 → node_pattern p0 x ≡ numbered p0 of
    → is_within (length p0) x ≡ true → x ≡ N.Both one other → HasPattern p1 a (after_item (numbered p0 one) i) → HasPattern p2 f (mixed (numbered p1 a) (numbered p1 other))
    → HasPattern p3 b (after_item (numbered p2 other) i) → HasPattern p4 g (mixed (numbered p3 one) (numbered p3 b))
    → alternatives (numbered p4 f) (numbered p4 g) ≡ after_item (numbered p0 of) i
after_both p0 p1 p2 p3 p4 x of one other a f b g i g1 g2 g3 g4 e within is at_a at_f at_b at_g =
    let inside = subst (λ y. is_within (length p0) y ≡ true) is within in
    let low = one_below one other (length p0) inside in
    let high = other_below one other (length p0) inside in
    let to2 = grown_more p0 p1 p2 g1 g2 in
    let to3 = grown_more p0 p2 p3 to2 g3 in
    let two = grown_more p2 p3 p4 g3 g4 in
    let whole : Both (numbered p0 one) (numbered p0 other) ≡ numbered p0 of = ap (node_pattern p0) (sym is) ∙ e in
    let left : numbered p4 f ≡ mixed (after_item (numbered p0 one) i) (numbered p0 other) = grown_still p2 p4 f two at_f.within ∙ at_f.is ∙ ap₂ mixed at_a.is (grown_still p0 p1 other g1 high) in
    let right : numbered p4 g ≡ mixed (numbered p0 one) (after_item (numbered p0 other) i) =
    at_g.is ∙ ap₂ mixed (grown_still p0 p3 one to3 low) (at_b.is ∙ ap (λ v. after_item v i) (grown_still p0 p2 other to2 high))
    in
    ap₂ alternatives left right ∙ ap (λ v. after_item v i) whole
