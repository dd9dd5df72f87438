use Rattle.std.proofs.Common.{rules, ◌≡◌, ap, ◌∙◌, ℕ, replicate, List}
use Rattle.node_state.specs.Words.{bits_of}
use Rattle.node_state.proofs.BitWords.{bits_made}
use Rattle.node_state.proofs.ready.ReadySet.make.Goals as goal

pub returns : goal.returns
returns c =
    let words : c.in_ok-words.words.items ≡ replicate c.div_ceil.result 0 = search rules in
    ap (λ (ws : List ℕ). bits_of ws c.args.slots) words ∙ bits_made c.div_ceil.result c.args.slots
