-- The reported cycles are the cycles.
use Rattle.std.proofs.Common.{◌≡◌, inl, inr, refl, sym, ap, ◌∙◌, ℕ, ◌==◌, List, [], ◌∷◌, Some, Bool, true, false, cond}
use Rattle.mesh_semantics.proofs.Laws.{every_cycle_among, is_cycle_among}
use Rattle.run_types.specs.PathFacts.{In}
use Rattle.mesh_semantics.specs.Cycles.{IsCycle, Contained}
use Rattle.run_types.proofs.Laws.{equal}
use Rattle.wait_report.specs.declared.rows.ObjectRow.{ObjectRow}
use Rattle.wait_report.specs.Calls.{names_of}
use Rattle.wait_report.specs.Report.{called_in, cycles_in, called}

-- who calls has a row
caller_there : (rows : List ObjectRow) (o b : ℕ) → called_in rows o ≡ Some b → In o (names_of rows)
caller_there [] o b h = absurd (cc)
caller_there (x ∷ rows) o b h = by (x.name == o) refl (caller_there rows o b)
  where
    by : (t : Bool) → (x.name == o) ≡ t → (called_in rows o ≡ Some b → In o (names_of rows)) → In o (names_of (x ∷ rows))
    by true e go = inl (equal x.name o e)
    by false e go = inr (go (sym (ap (λ t. cond t (called x.standing) (called_in rows o)) e) ∙ h))

module _ (rows : List ObjectRow) where
  pub every_cycle : (ns : List ℕ) → IsCycle (called_in rows) ns → Contained ns (cycles_in rows)
  every_cycle ns z = every_cycle_among (called_in rows) (λ (r : ObjectRow). r.name) rows (caller_there rows) ns z

  pub is_cycle : (ns : List ℕ) → Contained ns (cycles_in rows) → IsCycle (called_in rows) ns
  is_cycle ns i = is_cycle_among (called_in rows) (λ (r : ObjectRow). r.name) rows (caller_there rows) ns i
