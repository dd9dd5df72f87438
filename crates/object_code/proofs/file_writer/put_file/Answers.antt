use Rattle.std.proofs.Common.{ap, ◌∙◌}
use Rattle.object_code.specs.FileBytes.{class_bytes, list_bytes}
use Rattle.code_semantics.specs.Pairs.{pairs}
use Rattle.object_code.proofs.SequentialWrites.{same, then}
use Rattle.object_code.proofs.file_writer.put_file.Goals as goal

pub returns : goal.returns
returns g c =
    then _ _ _ _ _ c.put.ensures
    (then _ _ _ _ _ c.put_names.ensures (same _ _ _ _ (
    ap (λ ks. list_bytes class_bytes (pairs ks c.items-2.result.now)) c.items.ensures
    ∙ ap (λ qs. list_bytes class_bytes (pairs c.args.file.now.unit.classes qs)) c.items-2.ensures
    ) c.put_classes.ensures))
