-- The text is the part that was read, followed by the rest.
use Rattle.std.proofs.Common.{◌≡◌, ◌+◌, ◌-◌, ◌≤◌, ◌++◌, true, length, option_map}
use Rattle.pool_outside.proofs.calls.read_whole.Given as goal

abbrev pub invariant-loop-taken : goal.invariant-loop-taken
invariant-loop-taken g l =
    let files = g.F.Files in
    record {
      so_far : files.told l.fn.files l.name ≡ option_map (λ r. l.text.items ++ r) (files.rest l.files);
      given : files.given l.files ≡ length l.text.items;
      within : length l.text.items ≤ l.limit;
      live : files.live l.files ≡ true;
      room : length l.piece.items ≡ 65536;
      opens : files.opens l.files ≡ files.opens l.fn.files + 1;
      faults : files.faults l.files ≡ files.faults l.fn.files;
      told : files.told l.files ≡ files.told l.fn.files;
      may : files.may l.files ≡ files.may l.fn.files;
    }

abbrev pub decreases-loop-taken : goal.decreases-loop-taken
decreases-loop-taken g l = l.limit - length l.text.items
