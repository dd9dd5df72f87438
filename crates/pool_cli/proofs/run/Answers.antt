-- The results of `run` follow from those of `pool`, with the exit status of each.
use Rattle.std.proofs.Common.{◌≡◌, ◌∙◌, ◌⊎◌, ◌≤◌, ℕ, arith, inl, inr, refl, ap, subst, sym}
use Rattle.command_shell.specs.declared.status.Status.{Status}
use Rattle.command_shell.specs.declared.status.Status.TheVariants as S
use Rattle.command_shell.specs.Statuses.{code_of}
use Rattle.command_shell.specs.Ends.{WholeTextWritten}
use Rattle.pool_cli.proofs.run.Goals as goal

pub returns-clause-ends : goal.returns-clause-ends
returns-clause-ends g c = (c.pool.result, c.from.ensures ∙ c.code.ensures, c.pool.ensures.ends)

pub returns-clause-complete : goal.returns-clause-complete
returns-clause-complete g c r words served read out err =
    elim (c.pool.ensures.complete r words served read out err) [
      | inl whole ↦ inl (c.pool.result, whole, c.from.ensures ∙ c.code.ensures)
      | inr memory ↦ inr (c.from.ensures ∙ c.code.ensures ∙ ap code_of memory)
    ]

-- the numbers of the statuses of a text that was written whole
abbrev IsWholeNumber : ℕ → Type 0
IsWholeNumber n = (n ≡ 0) ⊎ ((n ≡ 1) ⊎ ((n ≡ 3) ⊎ (n ≡ 4)))

number_of : (s : Status) → WholeTextWritten s → IsWholeNumber (code_of s)
number_of s (inl e) = inl (ap code_of e)
number_of s (inr (inl e)) = inr (inl (ap code_of e))
number_of s (inr (inr (inl e))) = inr (inr (inl (ap code_of e)))
number_of s (inr (inr (inr e))) = inr (inr (inr (ap code_of e)))

no_other : (n : ℕ) → (n ≡ 2) ⊎ (5 ≤ n) → IsWholeNumber n → ⊥
no_other n (inl k) (inl e) = omega (arith, k, e)
no_other n (inl k) (inr (inl e)) = omega (arith, k, e)
no_other n (inl k) (inr (inr (inl e))) = omega (arith, k, e)
no_other n (inl k) (inr (inr (inr e))) = omega (arith, k, e)
no_other n (inr k) (inl e) = omega (arith, k, e)
no_other n (inr k) (inr (inl e)) = omega (arith, k, e)
no_other n (inr k) (inr (inr (inl e))) = omega (arith, k, e)
no_other n (inr k) (inr (inr (inr e))) = omega (arith, k, e)

whole_by : (s : Status) → IsWholeNumber (code_of s) → WholeTextWritten s
whole_by S.Done h = inl refl
whole_by S.DoneFaulted h = inr (inl refl)
whole_by S.ScheduleOver h = inr (inr (inl refl))
whole_by S.Full h = inr (inr (inr refl))
whole_by S.Refused h = absurd (no_other 2 (inl refl) h)
whole_by S.ReadFault h = absurd (no_other 5 (inr (omega arith)) h)
whole_by S.WriteFault h = absurd (no_other 6 (inr (omega arith)) h)
whole_by S.Memory h = absurd (no_other 7 (inr (omega arith)) h)
whole_by S.Usage h = absurd (no_other 64 (inr (omega arith)) h)

pub returns-clause-headline : goal.returns-clause-headline
returns-clause-headline g c p l s words status whole number =
    let same : code_of c.pool.result ≡ code_of status = sym (c.from.ensures ∙ c.code.ensures) ∙ number in
    c.pool.ensures.headline p l s words (whole_by c.pool.result (subst IsWholeNumber (sym same) (number_of status whole)))
