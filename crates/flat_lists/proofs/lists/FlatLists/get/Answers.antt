use Rattle.std.proofs.Common.{◌≡◌, ◌<◌, ◌≤◌, ◌-◌, ◌∷◌, sym, ap, ◌∙◌, ℕ, List, length, get_or, take, drop, Some, arith}
use Rattle.std.specs.List.{between, slice_get}
use Rattle.std.proofs.lemmas.List.{get_or_read}
use Rattle.flat_lists.specs.Ends.{AreEnds, lists_from}
use Rattle.flat_lists.proofs.Flat.{length_lists, list_at, start_le_end, end_within}
use Rattle.flat_lists.proofs.lists.FlatLists.get.Goals as goal

-- the places of a list that is read
module _ {X : Type 0} (now : List (List X)) (es : List ℕ) (xs : List X) (at : ℕ) (view : lists_from 0 es xs ≡ now) (h : AreEnds 0 es (length xs)) (l : at < length now) where
  inside : at < length es
  inside = let is : length now ≡ length es = sym (ap length view) ∙ length_lists 0 es xs in omega (arith, is, l)

  module _ (fs : List ℕ) (from to : ℕ) (ends : fs ≡ es) (begins : from ≡ get_or (0 ∷ fs) at 0) (read : to ≡ get_or es at to) where
    begin : from ≡ get_or (0 ∷ es) at 0
    begin = begins ∙ ap (λ gs. get_or (0 ∷ gs) at 0) ends

    end : to ≡ get_or es at 0
    end = get_or_read es at to inside read 0

    rises : from ≤ to
    rises = omega (arith, begin, end, start_le_end 0 es (length xs) at h inside)

    ends_within : (ys : List X) → ys ≡ xs → to ≤ length ys
    ends_within ys same = omega (arith, end, end_within 0 es (length xs) at h inside, ap length same)

    begins_within : (ys : List X) → ys ≡ xs → from ≤ length ys
    begins_within ys same = omega (arith, rises, ends_within ys same)

    there : (ys : List X) → ys ≡ xs → slice_get now at ≡ Some (take (to - from) (drop from ys))
    there ys same =
        sym (ap (λ ls. slice_get ls at) view) ∙ list_at 0 es xs at inside
        ∙ ap (λ n. Some (between n (get_or es at 0) xs)) (sym begin) ∙ ap (λ n. Some (between from n xs)) (sym end) ∙ ap (λ zs. Some (between from to zs)) (sym same)

pub start-from-requires : goal.start-from-requires
start-from-requires g c = omega (arith, inside c.args.self.now c.self.inside.ends.items c.self.inside.items.items c.args.at c.self.view_is c.self.invariant c.requires, ap length c.as_slice.ensures.value)

pub index-requires : goal.index-requires
index-requires g c = omega (arith, inside c.args.self.now c.self.inside.ends.items c.self.inside.items.items c.args.at c.self.view_is c.self.invariant c.requires, c.self.inside.ends.ok.0)

pub offset_bounds-as_slice-from : goal.offset_bounds-as_slice-from
offset_bounds-as_slice-from g c = begins_within c.args.self.now c.self.inside.ends.items c.self.inside.items.items c.args.at c.self.view_is c.self.invariant c.requires c.as_slice.result.now c.start-from.result c.index.result.now c.as_slice.ensures.value c.start-from.ensures c.index.ensures c.as_slice-2.result.now c.as_slice-2.ensures.value

pub slice_bounds-result-count : goal.slice_bounds-result-count
slice_bounds-result-count g c = rises c.args.self.now c.self.inside.ends.items c.self.inside.items.items c.args.at c.self.view_is c.self.invariant c.requires c.as_slice.result.now c.start-from.result c.index.result.now c.as_slice.ensures.value c.start-from.ensures c.index.ensures

pub slice_bounds-result-start : goal.slice_bounds-result-start
slice_bounds-result-start g c = rises c.args.self.now c.self.inside.ends.items c.self.inside.items.items c.args.at c.self.view_is c.self.invariant c.requires c.as_slice.result.now c.start-from.result c.index.result.now c.as_slice.ensures.value c.start-from.ensures c.index.ensures

pub slice_bounds-result-end : goal.slice_bounds-result-end
slice_bounds-result-end g c = ends_within c.args.self.now c.self.inside.ends.items c.self.inside.items.items c.args.at c.self.view_is c.self.invariant c.requires c.as_slice.result.now c.start-from.result c.index.result.now c.as_slice.ensures.value c.start-from.ensures c.index.ensures c.as_slice-2.result.now c.as_slice-2.ensures.value

pub returns : goal.returns
returns g c = there c.args.self.now c.self.inside.ends.items c.self.inside.items.items c.args.at c.self.view_is c.self.invariant c.requires c.as_slice.result.now c.start-from.result c.index.result.now c.as_slice.ensures.value c.start-from.ensures c.index.ensures c.as_slice-2.result.now c.as_slice-2.ensures.value
