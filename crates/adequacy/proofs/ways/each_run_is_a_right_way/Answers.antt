use Rattle.adequacy.proofs.RunPrefixes.{run_is}
use Rattle.adequacy.proofs.ways.each_run_is_a_right_way.Goals as goal

pub returns : goal.returns
returns c = λ p d z ls none written t h. run_is p none written ls d z t h
