use Rattle.std.proofs.Common.{◌≡◌, suc, ◌<◌, ◌/◌, ap, ◌∙◌, ℕ, set, get_or, length, List, Bool, arith}
use Rattle.std.specs.Int.{bit_at}
use Rattle.std.proofs.lemmas.List.{get_or_read}
use Rattle.node_state.proofs.BitWords.{bits_changed, has_word, has_room}
use Rattle.node_state.proofs.ready.ReadySet.set.Goals as goal

pub index-requires : goal.index-requires
index-requires c =
    let there : c.args.slot / 64 < length c.self.inside.words.items = has_word c.self.inside.words.items c.self.inside.slots c.args.slot c.args.self.now c.self.invariant c.self.view_is c.requires in
    omega (arith, there, c.self.inside.words.ok)

pub index_mut-requires : goal.index_mut-requires
index_mut-requires c =
    let there : c.args.slot / 64 < length c.self.inside.words.items = has_word c.self.inside.words.items c.self.inside.slots c.args.slot c.args.self.now c.self.invariant c.self.view_is c.requires in
    omega (arith, there, c.self.inside.words.ok)

pub returns : goal.returns
returns c =
    let words = c.self.inside.words.items in
    let there : c.args.slot / 64 < length words = has_word words c.self.inside.slots c.args.slot c.args.self.now c.self.invariant c.self.view_is c.requires in
    let word : c.index.result.now ≡ get_or words (c.args.slot / 64) 0 = get_or_read words (c.args.slot / 64) c.index.result.now there c.index.ensures 0 in
    bits_changed words c.self.inside.slots c.args.slot c.with_bit.result c.args.ready c.self.invariant
    (has_room words c.self.inside.slots (suc c.args.slot) c.args.self.now c.self.view_is c.requires) c.with_bit.ensures.same
    (λ i l n. c.with_bit.ensures.others i l n ∙ ap (λ (w : ℕ). bit_at w i) word)
    ∙ ap (λ (bs : List Bool). set bs c.args.slot c.args.ready) c.self.view_is
