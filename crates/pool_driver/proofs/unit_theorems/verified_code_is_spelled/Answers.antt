use Rattle.pool_driver.proofs.SpelledFiles.{verified_spelled}
use Rattle.pool_driver.proofs.unit_theorems.verified_code_is_spelled.Goals as goal

pub returns : goal.returns
returns c = verified_spelled
