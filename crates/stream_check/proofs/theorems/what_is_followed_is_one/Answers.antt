use Rattle.stream_check.specs.Stream.{stream_lines}
use Rattle.stream_check.proofs.OneText.{one_text}
use Rattle.stream_check.proofs.theorems.what_is_followed_is_one.Goals as goal

pub returns : goal.returns
returns c = λ p names s t u a b h k. one_text p names s (λ v w. c.a_record_has_one_verdict.ensures p (stream_lines names s) v w) t u a b h k
