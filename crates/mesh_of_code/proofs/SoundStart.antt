-- The start of code is sound, and has only values that the unit's code can make.
use Rattle.std.proofs.Common.{◌≡◌, refl, sym, ap, subst, ◌∙◌, ℕ, [], ◌∷◌, Some, None}
use Rattle.std.specs.Ordering.{nat_cmp}
use Rattle.std.specs.FinMap.{find}
use Rattle.std.specs.declared.cmp.Ordering.{Ordering}
use Rattle.std.specs.declared.cmp.Ordering.TheVariants.{Less, Equal, Greater}
use Rattle.run_types.specs.declared.types.Placement.{Placement}
use Rattle.code_semantics.specs.declared.unit.Unit.{Unit as Code}
use Rattle.code_semantics.specs.Proper.{IsProper}
use Rattle.run_types.proofs.Laws.{same_some}
use Rattle.mesh_semantics.proofs.Laws.{placed_start_sound}
use Rattle.mesh_semantics.specs.Config.{Config, object_of, messages_of}
use Rattle.mesh_semantics.specs.Delay.{no_delay}
use Rattle.mesh_semantics.specs.FitFor.{FitFor}
use Rattle.mesh_semantics.specs.Record.{root_name, with_root, start}
use Rattle.run_types.specs.Tables.{Each}
use Rattle.mesh_semantics.specs.Sound.{IsSound}
use Rattle.code_semantics.specs.OfUnit.{IsObjectOf}
use Rattle.code_semantics.proofs.Laws.{made_is_of}
use Rattle.mesh_of_code.specs.Coded.{Placed, coded}
use Rattle.mesh_of_code.proofs.MadeLabels.{IsMadeValue, IsMadeMessage, HasMade}
use Rattle.mesh_of_code.proofs.StartOfCode.{root_is, root_rests, root_there, start_of_code}
use Rattle.mesh_of_code.proofs.MadeValueInvariant.{plain_made}

module _ (u : Code) (proper : IsProper u) (l : Placement) where
  root_made : (x : Placed) → (coded u).root ≡ Some x → IsObjectOf u (IsMadeValue u) x.object
  root_made x e = let r = root_is u x e in subst (λ (z : Placed). IsObjectOf u (IsMadeValue u) z.object) r.3 (made_is_of u proper (IsMadeValue u) (plain_made u) r.0 r.1 r.2)

  only_root : (n o : ℕ) (x y : Placed) → find nat_cmp o ((n, x) ∷ []) ≡ Some y → x ≡ y
  only_root n o x y e = by (nat_cmp o n) refl
    where
      by : (r : Ordering) → nat_cmp o n ≡ r → x ≡ y
      by Less i = absurd (let z : None ≡ Some y = rw i at e in cc)
      by Equal i = same_some (rw i at e)
      by Greater i = absurd (let z : None ≡ Some y = rw i at e in cc)

  start_made : (c : Config Placed) → start (coded u) l ≡ Some c → HasMade u c
  start_made c e =
      let r = root_there u proper in
      let is : record { objects = (root_name l, r.0) ∷ []; messages = [] } ≡ c = same_some (sym (ap (with_root (root_name l)) r.1) ∙ e) in
      record {
        of_code = start_of_code u proper l c e;
        objects = subst (λ (z : Config Placed). (o : ℕ) (x : Placed) → object_of z o ≡ Some x → IsObjectOf u (IsMadeValue u) x.object) is
            (λ o x h. subst (λ (z : Placed). IsObjectOf u (IsMadeValue u) z.object) (only_root (root_name l) o r.0 x h) (root_made r.0 r.1));
        messages = subst (λ (z : Config Placed). (s t : ℕ) → Each (IsMadeMessage u) (messages_of z s t)) is (λ s t. tt);
      }

  -- the start on a fitting placement
  pub made_start_sound : FitFor (coded u) l → (c : Config Placed) → start (coded u) l ≡ Some c → IsSound (coded u) (HasMade u) l c no_delay
  made_start_sound fit c e = let r = root_there u proper in placed_start_sound (coded u) (HasMade u) l fit r.0 c r.1 (root_rests u r.0 r.1) e (start_made c e)
