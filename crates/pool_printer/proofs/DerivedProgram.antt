-- The grammar derives the program from the tokens of its canonical text, up to positions and numbering.
use Rattle.std.proofs.Common.{◌≡◌, refl, ap, ℕ, suc, ◌+◌, List, [], ◌∷◌, ◌++◌, length, map, slice_get, Some, subst, arith}
use Rattle.pool_syntax.specs.declared.token.Tok.{Tok}
use Rattle.pool_syntax.specs.declared.token.Tok.TheVariants.{End}
use Rattle.pool_syntax.specs.Terms.{ProgramTree}
use Rattle.pool_grammar.specs.Rules.{program, tree}
use Rattle.pool_grammar.specs.Grammar.{rule}
use Rattle.pool_grammar.specs.Derives.{Derives, nothing, token, inner, IsProgram}
use Rattle.pool_grammar.specs.Grammatical.{IsGrammatical}
use Rattle.pool_printer.specs.Canonical.{class_tokens, program_tokens}
use Rattle.pool_printer.specs.Renumbered.{token_by}
use Rattle.pool_printer.specs.Renamed.{renamed}
use Rattle.pool_printer.proofs.DerivedForm.{ProgramForm, grammatical_formed}
use Rattle.pool_printer.proofs.DerivedParts.{Stands, split}
use Rattle.pool_printer.proofs.DerivedDeclarations.{class_derived, more_classes_derived}

-- behind one token more
later : (f : ℕ → ℕ) (t : Tok) (ts us : List Tok) (i j : ℕ) → Stands f ts us i j → Stands f (t ∷ ts) us (suc i) (suc j)
later f t ts [] i j s = ap suc s
later f t ts (u ∷ us) i j s =
    let e : suc (i + 1) ≡ suc i + 1 = omega arith in
    (s.0, subst (λ (n : ℕ). Stands f (t ∷ ts) us n (suc j)) e (later f t ts us (i + 1) j s.1))

-- tokens stand where they are
in_front : (f : ℕ → ℕ) (us after : List Tok) → Stands f (map (token_by f) us ++ after) us 0 (length us)
in_front f [] after = refl
in_front f (u ∷ us) after = (refl, later f (token_by f u) (map (token_by f) us ++ after) us 0 (length us) (in_front f us after))

end_behind : (us : List Tok) (f : ℕ → ℕ) → slice_get (map (token_by f) us ++ End ∷ []) (length us) ≡ Some End
end_behind [] f = refl
end_behind (u ∷ us) f = end_behind us f

one_longer : (us : List Tok) (f : ℕ → ℕ) → length us + 1 ≡ length (map (token_by f) us ++ End ∷ [])
one_longer [] f = refl
one_longer (u ∷ us) f = let e : length us + 1 ≡ length (map (token_by f) us ++ End ∷ []) = one_longer us f in omega arith

formed_derives : (f : ℕ → ℕ) (p : ProgramTree) → ProgramForm p
    → (q : ProgramTree) × IsProgram (map (token_by f) (program_tokens p) ++ End ∷ []) q × (renamed f p ≡ renamed (λ n. n) q)
unfolding rule
formed_derives f [] w = absurd w.0
formed_derives f (c ∷ cs) w =
    let us = program_tokens (c ∷ cs) in
    let ts = map (token_by f) us ++ End ∷ [] in
    let l = split {f = f} {ts = ts} (class_tokens c) (program_tokens cs) {i = 0} {j = length us} (in_front f us (End ∷ [])) in
    let a = class_derived f ts c w.1.0 0 l.middle l.front in
    let b = more_classes_derived f ts cs w.1.1 l.middle (length us) l.back in (
      a.found ∷ b.found,
      inner a.found a.derives (inner (a.found ∷ b.found) (b.goes_on (a.found ∷ []))
          (token (length us) (end_behind us f, refl) (subst (λ (n : ℕ). Derives ts program (tree (a.found ∷ b.found)) (length us + 1) n (a.found ∷ b.found)) (one_longer us f) nothing))),
      λ d. a.same d ∷ b.same d,
    )

-- The tokens of a program, with any numbers for its names and strings, derive it but for positions.
pub canonical_derives : (f : ℕ → ℕ) (p : ProgramTree) → IsGrammatical p
    → (q : ProgramTree) × IsProgram (map (token_by f) (program_tokens p) ++ End ∷ []) q × (renamed f p ≡ renamed (λ n. n) q)
canonical_derives f p g = formed_derives f p (grammatical_formed p g)
