use Rattle.std.proofs.Common.{◌≡◌, ◌∙◌, ◌++◌, ℕ, List, subst}
use Rattle.std.specs.Prelude.{OnOk}
use Rattle.station_text.specs.AnswerText.{to_line}
use Rattle.station_text.proofs.frames.push_frame.Goals as goal

pub returns : goal.returns
returns c =
    subst (λ (bs : List ℕ). OnOk c.push_to.result (c.push_to.new.text.items ≡ c.args.text.now.items ++ to_line c.args.to bs)) (c.as_slice.ensures.value ∙ c.encode-bytes.ensures.items) c.push_to.ensures
