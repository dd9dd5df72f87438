use Rattle.std.proofs.Common.{◌≡◌, Err, inl, inr, sym, subst, ap, ◌∙◌, arith}
use Rattle.std.proofs.lemmas.Result.{err_from_is_err_and}
use Rattle.pool_syntax.specs.Tokens.{HasTokens, IsFirstFault}
use Rattle.pool_lexer.proofs.TokenListInvariant.{ended_of, placed_of, count_of}
use Rattle.pool_lexer.proofs.RestToWhole.{read_more, room_more, read_all, read_fault, only_memory, no_other}
use Rattle.pool_lexer.proofs.SpelledTokens.{spelled_of}
use Rattle.pool_lexer.proofs.TokensOrFault.{same_tokens, not_both}
use Rattle.pool_lexer.proofs.lexer.tokens.Goals as goal
use Rattle.pool_lexer.proofs.lexer.tokens.Goals.{In_ok-push}

pub read_piece-requires-clause-room : goal.read_piece-requires-clause-room
read_piece-requires-clause-room c = omega (arith, c.loop-at.invariant.room)

pub loop-at-preserved : goal.loop-at-preserved
loop-at-preserved c =
    let step = c.in_ok-at.ensures in
    record {
      within = step.within;
      room = room_more _ _ _ _ _ step c.loop-at.invariant.read c.loop-at.invariant.room;
      read = read_more _ _ _ _ _ step c.loop-at.invariant.read;
    }

pub returns-in_err-at-clause-fault : goal.returns-in_err-at-clause-fault
returns-in_err-at-clause-fault c =
    let p = err_from_is_err_and c.from_residual.result c.from_residual.ensures.1 in
    rw (p.1, p.2) (λ f same some.
    let told : c.in_err-at.field-0.0 ≡ f = cc in
    subst (λ g. IsFirstFault c.args.bytes.now g) told (read_fault _ _ _ _ c.loop-at.invariant.read _ c.in_err-at.ensures (λ memory. some (sym told ∙ memory))))

pub returns-in_err-at-clause-only : goal.returns-in_err-at-clause-only
returns-in_err-at-clause-only c =
    let p = err_from_is_err_and c.from_residual.result c.from_residual.ensures.1 in
    rw (p.1, p.2) (only_memory _ _ _ _ c.loop-at.invariant.read _ c.in_err-at.ensures)

pub returns-in_err-at-clause-first : goal.returns-in_err-at-clause-first
returns-in_err-at-clause-first c =
    let p = err_from_is_err_and c.from_residual.result c.from_residual.ensures.1 in
    rw (p.1, p.2) (λ f h. elim (no_other _ _ _ _ c.loop-at.invariant.read _ c.in_err-at.ensures f h) [ inl same ↦ inl (ap (λ e. Err e) same) | inr memory ↦ inr (ap (λ e. Err e) memory) ])

-- the tokens behind the loop
whole : (c : In_ok-push) → HasTokens c.args.bytes.now c.push.new.tokens.names c.push.new.tokens.list
whole c = rw (c.in_ok-push.ensures.names, c.in_ok-push.ensures.list) (read_all _ _ _ _ c.loop-at.invariant.read (omega arith))

pub returns-clause-ok : goal.returns-clause-ok
returns-clause-ok c = whole c

pub returns-clause-only : goal.returns-clause-only
returns-clause-only c = λ names ts h. same_tokens c.args.bytes.now _ _ _ _ (whole c) h

pub returns-clause-first : goal.returns-clause-first
returns-clause-first c = λ f h. absurd (not_both c.args.bytes.now _ _ f (whole c) h)

pub returns-clause-ended : goal.returns-clause-ended
returns-clause-ended c = ended_of c.args.bytes.now _ _ (whole c)

pub returns-clause-placed : goal.returns-clause-placed
returns-clause-placed c = placed_of c.args.bytes.now _ _ (whole c)

pub returns-clause-spelled : goal.returns-clause-spelled
returns-clause-spelled c = spelled_of c.args.bytes.now _ _ (whole c)

pub returns-clause-count : goal.returns-clause-count
returns-clause-count c = count_of c.args.bytes.now _ _ (whole c)
