use Rattle.std.proofs.Common.{rules, ◌≡◌, ◌++◌, ◌∙◌, codes, decimal}
use Rattle.pool_gen.specs.Ring.{before_count, between_counts}
use Rattle.pool_gen.proofs.DrawnLaws.{five_pieces}
use Rattle.pool_gen.proofs.cells.program.Goals as goal

pub returns : goal.returns
returns c =
    let one : c.push_piece.new.text ≡ before_count = search rules in
    let two : c.push_number.new.text ≡ before_count ++ decimal c.args.k = search rules in
    let three : c.push_piece-2.new.text ≡ (before_count ++ decimal c.args.k) ++ between_counts = search rules in
    let four : c.push_number-2.new.text ≡ ((before_count ++ decimal c.args.k) ++ between_counts) ++ decimal c.args.k = search rules in
    let five : c.push_piece-3.new.text ≡ (((before_count ++ decimal c.args.k) ++ between_counts) ++ decimal c.args.k) ++ codes ") end\n" = search rules in
    five ∙ five_pieces before_count (decimal c.args.k) between_counts (decimal c.args.k) (codes ") end\n")
