use Rattle.std.proofs.Common.{sym, ap, subst, ◌∙◌, ◌∷◌}
use Rattle.object_code.specs.FileBytes.{list_bytes, name_bytes, option_bytes}
use Rattle.code_semantics.specs.Shaped.{IsListOf, IsOptionOf, IsShortList}
use Rattle.object_code.proofs.SequentialWrites.{each_any, same}
use Rattle.object_code.proofs.file_writer.put_answered.Goals as goal

pub put_listed-requires : goal.put_listed-requires
put_listed-requires g c =
    let short : IsShortList c.in-Some.names = subst (IsOptionOf IsShortList) c.in-Some.is c.requires in
    subst (IsListOf (λ n. Unit {0})) (sym c.items.ensures) (short, each_any c.in-Some.names)

pub returns-in-None : goal.returns-in-None
returns-in-None g c = same _ _ _ _ (ap (option_bytes (list_bytes name_bytes)) (sym c.in-None.is)) c.put_byte.ensures

pub returns-in-Some : goal.returns-in-Some
returns-in-Some g c =
    same _ _ _ _ (ap (λ ns. 1 ∷ list_bytes name_bytes ns) c.items.ensures ∙ ap (option_bytes (list_bytes name_bytes)) (sym c.in-Some.is)) c.put_listed.ensures
