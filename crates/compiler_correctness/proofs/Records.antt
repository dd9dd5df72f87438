-- The placed machine over the code of a program starts and continues as over its terms, and its objects have the same status.
use Rattle.std.proofs.Common.{◌≡◌, refl, subst, ℕ, List, [], Option, Some, None}
use Rattle.run_types.specs.declared.types.Event.{Event}
use Rattle.run_types.specs.declared.types.Placement.{Placement}
use Rattle.pool_syntax.specs.Terms.{ProgramTree}
use Rattle.pool_relation.specs.Action.{Object}
use Rattle.code_semantics.specs.declared.unit.Unit.{Unit as Code}
use Rattle.pool_compile.specs.Code.{code}
use Rattle.mesh_semantics.specs.Config.{Config, object_of}
use Rattle.mesh_semantics.specs.Delay.{Delay, no_delay, no_delay_on_wires}
use Rattle.mesh_semantics.specs.FitFor.{FitFor}
use Rattle.mesh_semantics.specs.Record.{root_name, start, with_root, record_at}
use Rattle.mesh_semantics.specs.RecordOf.{record_of, record_on_wires}
use Rattle.mesh_semantics.specs.Sound.{IsSound}
use Rattle.mesh_semantics.specs.Simulates.{Both, Simulates, Related, SameRecord}
use Rattle.mesh_semantics.specs.Cycles.{cycles}
use Rattle.mesh_semantics.proofs.Laws.{found, fit_of, with_wires, records_agree, standing_same, cycles_same}
use Rattle.mesh_of_terms.specs.Terms.{terms}
use Rattle.mesh_of_terms.specs.RunOf.{TypedTerms}
use Rattle.mesh_of_terms.proofs.Laws.{lawful, start_is_sound}
use Rattle.mesh_of_code.specs.Coded.{Placed, coded}
use Rattle.compiler_correctness.specs.CheckedProgram.{IsCheckedProgram}
use Rattle.compiler_correctness.specs.Matches.{Matches}
use Rattle.compiler_correctness.specs.StandsAlike.{StandsAlike}
use Rattle.compiler_correctness.proofs.Simulation.{simulates}

module _ (p : ProgramTree) (u : Code) (checked : IsCheckedProgram p) (unit : u.classes ≡ code p) where
  pub code_simulates : Simulates (terms p) (coded u) (TypedTerms p) (Matches p u)
  code_simulates = simulates p u checked.faultless checked.written checked.text unit

  -- one object each
  with_roots : (n : ℕ) (a : Option Object) (b : Option Placed) → Both (Matches p u n) a b → Both (Related (Matches p u)) (with_root n a) (with_root n b)
  with_roots n None None r = tt
  with_roots n None (Some y) r = absurd r
  with_roots n (Some x) None r = absurd r
  with_roots n (Some x) (Some y) r = record { objects = (refl, r, tt); messages = refl }

  starts : (l : Placement) → Both (Related (Matches p u)) (start (terms p) l) (start (coded u) l)
  starts l = with_roots (root_name l) (terms p).root (coded u).root (code_simulates.root (root_name l))

  pub code_start : (l : Placement) (c : Config Object) → start (terms p) l ≡ Some c → (e : Config Placed) × (start (coded u) l ≡ Some e) × Related (Matches p u) c e
  code_start l c h = by (start (coded u) l) refl (subst (λ a. Both (Related (Matches p u)) a (start (coded u) l)) h (starts l))
    where
      by : (b : Option (Config Placed)) → start (coded u) l ≡ b → Both (Related (Matches p u)) (Some c) (start (coded u) l) → (e : Config Placed) × (start (coded u) l ≡ Some e) × Related (Matches p u) c e
      by None i r = absurd (rw i at r)
      by (Some e) i r = (e, i, rw i at r)

  records_at : (l : Placement) (q : ℕ) (d : Delay) (es : List Event) → FitFor (terms p) l → ((c : Config Object) → start (terms p) l ≡ Some c → IsSound (terms p) (TypedTerms p) l c d)
      → SameRecord (Matches p u) (record_at (terms p) l q (start (terms p) l) d es) (record_at (coded u) l q (start (coded u) l) d es)
  records_at l q d es fit sound = by (start (terms p) l) (start (coded u) l) refl (starts l)
    where
      by : (a : Option (Config Object)) (b : Option (Config Placed)) → start (terms p) l ≡ a → Both (Related (Matches p u)) a b
          → SameRecord (Matches p u) (record_at (terms p) l q a d es) (record_at (coded u) l q b d es)
      by None None i r = record { lines = refl; last = record { objects = tt; messages = refl }; delay = refl }
      by None (Some e) i r = absurd r
      by (Some c) None i r = absurd r
      by (Some c) (Some e) i r =
          records_agree (terms p) (coded u) (TypedTerms p) (Matches p u) (lawful p checked.faultless checked.written) code_simulates l (fit_of (terms p) l fit) q es c e d 0 (sound c i) r

  pub code_record : (l : Placement) (q : ℕ) (es : List Event) → FitFor (terms p) l → SameRecord (Matches p u) (record_of (terms p) l q es) (record_of (coded u) l q es)
  code_record l q es fit = records_at l q no_delay es fit (start_is_sound p checked.faultless checked.written l fit)

  pub code_record_on_wires : (l : Placement) (q : ℕ) (es : List Event) → FitFor (terms p) l → SameRecord (Matches p u) (record_on_wires (terms p) l q es) (record_on_wires (coded u) l q es)
  code_record_on_wires l q es fit =
      records_at l q no_delay_on_wires es fit (λ c e. with_wires (terms p) (TypedTerms p) l c no_delay [] (start_is_sound p checked.faultless checked.written l fit c e))

  pub code_standing : (c : Config Object) (e : Config Placed) (d : Delay) (o : ℕ) → Related (Matches p u) c e → Both (StandsAlike p u d o) (object_of c o) (object_of e o)
  code_standing c e d o z = by (object_of c o) (object_of e o) (found (Matches p u) o c.objects e.objects z.objects)
    where
      by : (a : Option Object) (b : Option Placed) → Both (Matches p u o) a b → Both (StandsAlike p u d o) a b
      by None None r = tt
      by None (Some y) r = absurd r
      by (Some x) None r = absurd r
      by (Some x) (Some y) r = (code_simulates.class o x y r, standing_same (terms p) (coded u) (TypedTerms p) (Matches p u) code_simulates d o x y r)

  pub code_cycles : (c : Config Object) (e : Config Placed) (d : Delay) → Related (Matches p u) c e → cycles (terms p) c d ≡ cycles (coded u) e d
  code_cycles c e d z = cycles_same (terms p) (coded u) (TypedTerms p) (Matches p u) code_simulates c e d z
