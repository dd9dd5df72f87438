-- Each configuration that a run of a program reaches has a corresponding configuration of the code, which is of the unit.
use Rattle.std.proofs.Common.{◌≡◌, refl, sym, ap, subst, ◌∙◌, List, [], ◌∷◌, Option, Some, None}
use Rattle.run_types.specs.declared.types.Label.{Label}
use Rattle.run_types.specs.declared.types.Placement.{Placement}
use Rattle.pool_syntax.specs.Terms.{ProgramTree}
use Rattle.pool_relation.specs.Action.{Object}
use Rattle.pool_relation.specs.Configuration.{Configuration}
use Rattle.pool_relation.specs.Transition as X
use Rattle.pool_relation.specs.Transition.{run}
use Rattle.pool_relation.proofs.Laws.{start_typed}
use Rattle.code_semantics.specs.declared.unit.Unit.{Unit as Code}
use Rattle.code_semantics.specs.Proper.{IsProper}
use Rattle.pool_compile.specs.Code.{code}
use Rattle.mesh_semantics.specs.Config.{Config}
use Rattle.mesh_semantics.specs.Moves.{move, moves}
use Rattle.mesh_semantics.specs.Record.{root_name, start}
use Rattle.mesh_semantics.specs.Simulates.{Both, Related}
use Rattle.run_types.proofs.Laws.{same_some, given_by}
use Rattle.mesh_semantics.proofs.Laws.{move_same, sound_across}
use Rattle.mesh_of_terms.specs.Terms.{terms, plain}
use Rattle.mesh_of_terms.specs.OneEvent.{as_plain}
use Rattle.mesh_of_terms.specs.TypedTerms.{TypedTerms}
use Rattle.mesh_of_terms.proofs.Laws.{moves_are_run, lawful, starts_plain}
use Rattle.mesh_of_code.specs.Coded.{Placed, coded}
use Rattle.mesh_of_code.specs.CodeInvariant.{IsOfCode}
use Rattle.mesh_of_code.proofs.Laws.{code_lawful, start_of_code}
use Rattle.compiler_correctness.specs.CheckedProgram.{IsCheckedProgram}
use Rattle.compiler_correctness.specs.HasCode.{HasCode}
use Rattle.compiler_correctness.specs.Matches.{Matches}
use Rattle.compiler_correctness.proofs.Records.{code_simulates, code_start}

-- a run of the relation is one of the language of terms

abbrev config_of : Configuration → Config Object
config_of c = record { objects = c.objects; messages = c.messages }

led : (p : ProgramTree) (labs : List Label) (a c : Config Object) → run p (plain a) labs ≡ Some (plain c) → moves (terms p) a labs ≡ Some c
led p labs a c h = by (moves (terms p) a labs) refl (moves_are_run p a labs ∙ h)
  where
    by : (z : Option (Config Object)) → moves (terms p) a labs ≡ z → as_plain (moves (terms p) a labs) ≡ Some (plain c) → moves (terms p) a labs ≡ Some c
    by None i k = absurd (let q : None ≡ Some (plain c) = rw i at k in cc)
    by (Some b) i k = let same : plain b ≡ plain c = same_some (rw i at k) in i ∙ ap (λ (z : Configuration). Some (config_of z)) same

module _ (p : ProgramTree) (u : Code) (checked : IsCheckedProgram p) (unit : u.classes ≡ code p) (proper : IsProper u) where
  -- a typed configuration, with code of the unit that corresponds to it
  pub record Beside (c : Config Object) : Type 0 where
    pub typed : TypedTerms p c
    pub config : Config Placed
    pub of_code : IsOfCode u config
    pub corresponds : Related (Matches p u) c config

  -- a transition more
  one_more : (c d : Config Object) (lab : Label) → move (terms p) c lab ≡ Some d → Beside c → Beside d
  one_more c d lab h b =
      by (move (coded u) b.config lab) refl
      (subst (λ a. Both (Related (Matches p u)) a (move (coded u) b.config lab)) h
      (move_same (terms p) (coded u) (TypedTerms p) (Matches p u) (code_simulates p u checked unit) (lawful p checked.faultless checked.written).kept c b.config b.typed b.corresponds lab))
    where
      by : (z : Option (Config Placed)) → move (coded u) b.config lab ≡ z → Both (Related (Matches p u)) (Some d) (move (coded u) b.config lab) → Beside d
      by None i r = absurd (rw i at r)
      by (Some f) i r = record {
        typed = (lawful p checked.faultless checked.written).kept c d lab b.typed h;
        config = f;
        of_code = (code_lawful u proper).kept b.config f lab b.of_code i;
        corresponds = rw i at r;
      }

  reached : (labs : List Label) (c d : Config Object) → moves (terms p) c labs ≡ Some d → Beside c → Beside d
  reached [] c d h b = subst Beside (same_some h) b
  reached (x ∷ xs) c d h b = let a = given_by (move (terms p) c x) (λ e. moves (terms p) e xs) d h in reached xs a.0 d a.2 (one_more c a.0 x a.1 b)

  begins : (l : Placement) (c : Config Object) → start (terms p) l ≡ Some c → Beside c
  begins l c h =
      let s = code_start p u checked unit l c h in
      record {
        typed = start_typed p checked.faultless checked.written (root_name l) (plain c) (sym (starts_plain p l) ∙ ap as_plain h);
        config = s.0;
        of_code = start_of_code u proper l s.0 s.1;
        corresponds = s.2;
      }

  -- whatever a run reaches
  pub has_code : (l : Placement) (first : Configuration) (labs : List Label) (c : Config Object) → X.start p (root_name l) ≡ Some first → run p first labs ≡ Some (plain c) → HasCode p u l c
  has_code l first labs c starts leads = by (start (terms p) l) refl (starts_plain p l ∙ starts)
    where
      told : Beside c → HasCode p u l c
      told b = record {
        config = b.config;
        of_code = b.of_code;
        corresponds = b.corresponds;
        sound = λ d s.
            sound_across (terms p) (coded u) (TypedTerms p) (Matches p u) (code_simulates p u checked unit) (lawful p checked.faultless checked.written).kept
            c b.config b.corresponds (IsOfCode u) l d b.of_code s;
      }

      by : (z : Option (Config Object)) → start (terms p) l ≡ z → as_plain (start (terms p) l) ≡ Some first → HasCode p u l c
      by None i k = absurd (let j : None ≡ Some first = rw i at k in cc)
      by (Some a) i k =
          let same : plain a ≡ first = same_some (rw i at k) in
          told (reached labs a c (led p labs a c (subst (λ (z : Configuration). run p z labs ≡ Some (plain c)) (sym same) leads)) (begins l a i))
