use Rattle.std.proofs.Common.{◌≡◌, ◌+◌, drop, None, sym, ap, subst, ◌∙◌, arith}
use Rattle.text_scan.specs.Lines.{lines, words}
use Rattle.std.specs.Prelude.{slice_range}
use Rattle.text_scan.specs.ContentLines.{Kept, kept_from}
use Rattle.placement_reader.specs.Forms.{fault_or_bad, form_of}
use Rattle.placement_reader.specs.ReaderFacts.{AreWellFormed}
use Rattle.placement_reader.specs.Placements.{first_fault, forms_of}
use Rattle.placement_reader.proofs.FaultlessForms.{fine_push, step_fault, step_forms}
use Rattle.placement_reader.proofs.read.gather.Goals as goal

pub loop-found-preserved : goal.loop-found-preserved
loop-found-preserved c =
    let u = c.args.unit.now in
    let nodes = c.args.nodes in
    let found = c.in-Some.found in
    let forms = c.loop-found.forms.items in
    let k : Kept = record { line = found.line; words = words (slice_range c.args.bytes.now found.start found.end) } in
    let left = kept_from (found.line + 1) (lines (drop found.next c.args.bytes.now)) in
    let i = c.loop-found.invariant in
    let f = c.in_ok-form.form in
    let ok : fault_or_bad c.args.width nodes found.line forms (form_of u k.words) ≡ None =
    subst (λ es. fault_or_bad c.args.width nodes found.line es (form_of u k.words) ≡ None) c.as_slice.ensures.value c.in_ok-form.ensures.ok in
    record {
      within = c.in-Some.ensures.ordered.2;
      few = omega (arith, c.in-Some.ensures.few);
      fine = subst (AreWellFormed nodes) (sym c.in-Ok.ensures.items) (fine_push nodes forms f i.fine c.in_ok-form.ensures.fine);
      fault =
          i.fault ∙ (ap (first_fault u c.args.width nodes forms) c.in-Some.ensures.line ∙ (step_fault u c.args.width nodes forms k f left c.in_ok-form.ensures.form ok
          ∙ ap (λ fs. first_fault u c.args.width nodes fs left) (sym c.in-Ok.ensures.items)));
      forms =
          i.forms ∙ (ap (forms_of u forms) c.in-Some.ensures.line ∙ (step_forms u forms k f left c.in_ok-form.ensures.form
          ∙ ap (λ fs. forms_of u fs left) (sym c.in-Ok.ensures.items)));
    }
