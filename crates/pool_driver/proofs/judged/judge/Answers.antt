use Rattle.std.proofs.Common.{refl}
use Rattle.pool_driver.specs.Readers as R
use Rattle.pool_driver.proofs.judged.judge.Goals as goal

pub returns-in-Ok-verdict_line : goal.returns-in-Ok-verdict_line
returns-in-Ok-verdict_line c =
    let v = c.in-Ok.verdict in
    R.decides _ v refl c.in-Ok.ensures (λ w h. c.a_record_has_one_verdict.ensures _ _ w v h c.in-Ok.ensures) c.in-Ok-verdict_line.ensures c.status_of_verdict.ensures tt
