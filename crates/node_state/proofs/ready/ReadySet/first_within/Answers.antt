use Rattle.std.proofs.Common.{◌≡◌, ◌≤◌, ◌*◌, ap, subst, ◌∙◌, ℕ, take, length, List, Bool, arith}
use Rattle.node_state.specs.Bits.{first_bit_from}
use Rattle.node_state.specs.Words.{AreClear, IsFirstSet}
use Rattle.node_state.proofs.FirstSetBit.{past_end}
use Rattle.node_state.proofs.BitWords.{none_within, first_within, has_room}
use Rattle.node_state.proofs.ready.ReadySet.first_within.Goals as goal

pub returns-then-from-end : goal.returns-then-from-end
returns-then-from-end c = past_end c.args.self.now c.args.from c.args.end c.if-from-end.true

pub first_from-requires-clause-end : goal.first_from-requires-clause-end
first_from-requires-clause-end c =
    let room : c.args.end ≤ c.self.inside.slots = has_room c.self.inside.words.items c.self.inside.slots c.args.end c.args.self.now c.self.view_is c.requires in
    let words : length c.as_slice.result.now ≡ length c.self.inside.words.items = ap (λ (ws : List ℕ). length ws) c.as_slice.ensures.value in
    omega (arith, room, words, c.self.invariant, c.div_ceil.ensures)

pub returns-in-Some : goal.returns-in-Some
returns-in-Some c =
    let words = c.self.inside.words.items in
    let room : c.args.end ≤ c.self.inside.slots = has_room words c.self.inside.slots c.args.end c.args.self.now c.self.view_is c.requires in
    let first : IsFirstSet words c.args.from c.in-Some.slot = subst (λ (ws : List ℕ). IsFirstSet ws c.args.from c.in-Some.slot) c.as_slice.ensures.value c.in-Some.ensures in
    first_within words c.args.from c.args.end c.self.inside.slots room c.in-Some.slot first c.if-slot-end.true
    ∙ ap (λ (bs : List Bool). first_bit_from c.args.from (take c.args.end bs)) c.self.view_is

pub returns-in_default : goal.returns-in_default
returns-in_default c =
    let words = c.self.inside.words.items in
    let room : c.args.end ≤ c.self.inside.slots = has_room words c.self.inside.slots c.args.end c.args.self.now c.self.view_is c.requires in
    let first : IsFirstSet words c.args.from c.in-Some.slot = subst (λ (ws : List ℕ). IsFirstSet ws c.args.from c.in-Some.slot) c.as_slice.ensures.value c.in-Some.ensures in
    none_within words c.args.from c.args.end c.self.inside.slots room (λ place a b. first.passed place a (omega (arith, b, c.if-slot-end.false)))
    ∙ ap (λ (bs : List Bool). first_bit_from c.args.from (take c.args.end bs)) c.self.view_is

pub returns-in_default-2 : goal.returns-in_default-2
returns-in_default-2 c =
    let words = c.self.inside.words.items in
    let room : c.args.end ≤ c.self.inside.slots = has_room words c.self.inside.slots c.args.end c.args.self.now c.self.view_is c.requires in
    let clear : AreClear words c.args.from (c.div_ceil.result * 64) = subst (λ (ws : List ℕ). AreClear ws c.args.from (c.div_ceil.result * 64)) c.as_slice.ensures.value c.in_default.ensures in
    none_within words c.args.from c.args.end c.self.inside.slots room (λ place a b. clear place a (omega (arith, b, c.div_ceil.ensures)))
    ∙ ap (λ (bs : List Bool). first_bit_from c.args.from (take c.args.end bs)) c.self.view_is
