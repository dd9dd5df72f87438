use Rattle.std.proofs.Common.{◌+◌, ◌<◌, ◌≤◌, ℕ, length, ap, Err, refl, subst, sym}
use Rattle.command_inputs.specs.declared.fault.Fault.TheVariants as F
use Rattle.command_inputs.specs.Inputs.{too_long}
use Rattle.command_inputs.specs.Readers as R
use Rattle.command_inputs.proofs.inputs.read_input.Goals as goal

pub returns-in-Ok : goal.returns-in-Ok
returns-in-Ok g c =
    let h = c.in-Ok.ensures in
    let within = subst (λ (n : ℕ). length c.in-Ok.text.items ≤ n) c.limit_of.ensures h.within in
    record {
      reads = R.read c.in-Ok.text.items c.in-Ok.text refl ((h.whole, within), sym h.counted, h.ended) refl h.no_fault;
      opened_once = h.opened_once;
      unread_within = subst (λ (n : ℕ). g.F.Files.given c.read_whole.new.files ≤ n + 65536) c.limit_of.ensures h.stops;
      same_texts = h.same_texts;
      same_leave = h.same_leave;
    }

pub returns-in-Err-TooLong : goal.returns-in-Err-TooLong
returns-in-Err-TooLong g c =
    let h = c.in-Err-TooLong.ensures in
    let is = ap Err c.in-Err-TooLong.field-0-is in
    let above = subst (λ (n : ℕ). n < g.F.Files.given c.read_whole.new.files) c.limit_of.ensures (h.too_long.0 is) in
    record {
      reads = R.refused F.TooLong refl (too_long refl above (h.stops_there is) h.no_more_than_told) (h.no_fault_too_long is);
      opened_once = h.opened_once;
      unread_within = subst (λ (n : ℕ). g.F.Files.given c.read_whole.new.files ≤ n + 65536) c.limit_of.ensures h.stops;
      same_texts = h.same_texts;
      same_leave = h.same_leave;
    }
