use Rattle.std.proofs.Common.{◌∙◌, refl, subst}
use Rattle.command_shell.specs.Writing.{Wrote, WroteFront}
use Rattle.command_shell.specs.Writing as R
use Rattle.run_loop.proofs.DriveLaws.{front_of_first, then_writes}
use Rattle.run_loop.proofs.run.write_counts.Goals as goal

pub returns-in-Ok-write_all_of : goal.returns-in-Ok-write_all_of
returns-in-Ok-write_all_of g c =
    R.written (then_writes _ _ _ _ _ _ (refl, refl)
    (subst (Wrote _) (c.deref.ensures.value ∙ c.in-Ok.ensures) (c.in-Ok-write_all_of.ensures.whole, c.in-Ok-write_all_of.ensures.no_fault)) c.finish.ensures)

pub returns : goal.returns
returns g c =
    let h = c.in-Err-write_all_of.ensures in
    R.written (R.cut (front_of_first _ _ _
    (subst (WroteFront _) (c.deref.ensures.value ∙ c.in-Ok.ensures) (record { front = h.front; rose = h.failed }))) refl)
