use Rattle.std.proofs.Common.{ap, ◌∙◌}
use Rattle.object_code.specs.FileBytes.{code_bytes, kind_bytes, list_bytes, method_bytes}
use Rattle.code_semantics.specs.Pairs.{pairs}
use Rattle.object_code.proofs.SequentialWrites.{same, then}
use Rattle.object_code.proofs.file_writer.put_class.Goals as goal

pub returns : goal.returns
returns g c =
    then _ _ _ _ _ c.put_four.ensures
    (then _ _ _ _ _ (same _ _ _ _ (ap (list_bytes kind_bytes) c.items.ensures) c.put_list.ensures)
    (then _ _ _ _ _ (same _ _ _ _ (
    ap (λ ms. list_bytes method_bytes (pairs ms c.items-3.result.now)) c.items-2.ensures
    ∙ ap (λ ss. list_bytes method_bytes (pairs c.args.class.now.methods ss)) c.items-3.ensures
    ) c.put_methods.ensures) (same _ _ _ _ (ap (code_bytes c.args.class.now.body.frame_words) c.items-4.ensures) c.put_code.ensures)))
