use Rattle.std.proofs.Common.{◌∙◌, refl}
use Rattle.pool_gen.specs.Ring.{ring_placement, ring_program, ring_schedule}
use Rattle.pool_driver.specs.declared.outputs.Output.TheVariants as O
use Rattle.pool_driver.specs.Readers as R
use Rattle.pool_driver.proofs.OutputLaws.{loads_of, ring_stops, was_loaded}
use Rattle.pool_driver.proofs.RunLaws.{counts_are, loaded, means, same_status, shows}
use Rattle.pool_driver.proofs.outputs.ring_output.Goals as goal

pub returns-in-Ok-load_texts : goal.returns-in-Ok-load_texts
returns-in-Ok-load_texts c =
    let k = c.args.cells in
    let r = c.in-Ok-load_texts.loaded in
    let h = was_loaded (ring_program k) ring_placement (ring_schedule k) r (loads_of _ _ _ _ _ _ _ (c.items.ensures ∙ c.in-Ok.ensures.program) (c.items-2.ensures ∙ c.in-Ok.ensures.placement) (c.items-3.ensures ∙ c.in-Ok.ensures.schedule) c.in-Ok-load_texts.ensures) in
    R.rings (O.Ring r) refl (record {
      meaning = means (ring_program k) ring_placement (ring_schedule k) r.unit r.placement r.schedule h.0 h.1 h.2;
      written = counts_are (ring_program k) ring_placement (ring_schedule k) r.unit r.placement r.schedule h.0 h.1 h.2;
      ended = same_status (ring_program k) ring_placement (ring_schedule k) r.unit r.placement r.schedule h.0 h.1 h.2;
      run = shows (ring_program k) ring_placement (ring_schedule k) r.unit r.placement r.schedule h.0 h.1 h.2;
    }) (loaded (ring_program k) ring_placement (ring_schedule k) r.unit r.placement r.schedule h.0 h.1 h.2)

pub returns : goal.returns
returns c = ring_stops c.args.cells c.in-Err-load_texts.stop (loads_of _ _ _ _ _ _ _ (c.items.ensures ∙ c.in-Ok.ensures.program) (c.items-2.ensures ∙ c.in-Ok.ensures.placement) (c.items-3.ensures ∙ c.in-Ok.ensures.schedule) c.in-Err-load_texts.ensures)
