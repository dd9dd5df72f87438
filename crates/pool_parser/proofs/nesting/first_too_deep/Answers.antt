use Rattle.std.proofs.Common.{◌≡◌, ◌≤◌, ◌<◌, ◌∷◌, length, take, reverse, arith, true, false}
use Rattle.pool_syntax.specs.Tokens.{toks}
use Rattle.pool_grammar.specs.Nesting.{depth, nesting}
use Rattle.pool_parser.specs.Depths.{depth_at}
use Rattle.pool_parser.proofs.TokenPrefix.{toks_length}
use Rattle.pool_parser.proofs.Depths.{open_shallow, depth_counted, depth_bounded, before_next, shallow_next, nesting_next, shallow_below}
use Rattle.pool_parser.proofs.nesting.first_too_deep.Goals as goal

pub depth-requires : goal.depth-requires
depth-requires c = let i = c.tokens.invariant in omega (arith, open_shallow _ i.1 true 0, i.2 true 0)

pub returns-then-depth-gt-DEEPEST-clause-deep : goal.returns-then-depth-gt-DEEPEST-clause-deep
returns-then-depth-gt-DEEPEST-clause-deep c =
    let i = c.tokens.invariant in
    let e = depth_counted c.token_role-role.result c.tokens.level _ _ _ c.token_role-role.ensures i.2 in
    let ts = toks c.args.tokens.now in
    let n : nesting ts c.tokens.at ≡ depth (c.token_at.result ∷ reverse (take c.tokens.at ts)) = nesting_next ts c.tokens.at c.token_at.result c.token_at.ensures in
    let held : c.tokens.level.held ≤ 200 = omega (arith, open_shallow _ i.1 true 0, i.2 true 0) in
    let parted : c.tokens.level.parted ≤ 200 = omega (arith, open_shallow _ i.1 false 0, i.2 false 0) in
    let b : depth_at c.token_role-role.result c.tokens.level ≤ 201 = depth_bounded _ _ held parted in
    let s : 200 < c.depth.result = c.if-depth-gt-DEEPEST.true in
    let j : c.tokens.at ≤ length ts = omega (arith, toks_length c.args.tokens.now, c.tokens-test.true) in
    (c.tokens-test.true, (omega (arith, e, n, b, s, c.depth.ensures), shallow_below ts c.tokens.at j i.1))

pub level_after-requires : goal.level_after-requires
level_after-requires c = let i = c.tokens.invariant in omega (arith, open_shallow _ i.1 true 0, i.2 true 0)

pub tokens-preserved : goal.tokens-preserved
tokens-preserved c =
    let i = c.tokens.invariant in
    let e = depth_counted c.token_role-role.result c.tokens.level _ _ _ c.token_role-role.ensures i.2 in
    let ts = toks c.args.tokens.now in
    let s : c.depth.result ≤ 200 = c.if-depth-gt-DEEPEST.false in
    let d : depth (c.token_at.result ∷ reverse (take c.tokens.at ts)) ≤ 200 = omega (arith, e, s, c.depth.ensures) in (
      omega (arith, c.tokens-test.true),
      shallow_next ts c.tokens.at c.token_at.result c.token_at.ensures i.1 d,
      rw (before_next _ _ _ c.token_at.ensures) (c.in_ok-level.ensures.ok _ _ c.token_role-role.ensures i.2),
    )

pub returns-clause-shallow : goal.returns-clause-shallow
returns-clause-shallow c = λ h k l.
    let i = c.tokens.invariant in let ts = toks c.args.tokens.now in
    let j : c.tokens.at ≤ length ts = omega (arith, toks_length c.args.tokens.now) in
    shallow_below ts c.tokens.at j i.1 k (omega (arith, c.tokens-test.false))
