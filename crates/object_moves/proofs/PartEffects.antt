-- The effects of transitions, from the parts of the objects in them.
use Rattle.std.proofs.Common.{◌≡◌, refl, sym, ap, ap₂, ◌∙◌, ℕ, ◌<◌, List, length, take, Option, Some, None, Bool, true, false, ◌&&◌}
use Rattle.run_types.specs.declared.types.Label.TheVariants as L
use Rattle.run_types.specs.declared.types.NameId.{NameId}
use Rattle.run_types.specs.declared.types.Value.{Value}
use Rattle.run_types.specs.declared.types.Value.TheVariants as V
use Rattle.run_types.specs.Partial.{◌>>=◌, ◌>>◌, require}
use Rattle.pool_syntax.specs.Classes.{class_of}
use Rattle.pool_syntax.specs.Terms as T
use Rattle.pool_syntax.specs.Terms.{ProgramTree}
use Rattle.pool_relation.specs.Reducible.{AsExpression}
use Rattle.pool_relation.specs.Action.{Object, action, method_of}
use Rattle.pool_relation.specs.Transition.{without_fault, makes, calls, returns, waits_on, offer, refilled, returned, given, serving, new_object}
use Rattle.object_moves.specs.Effects.{effect_mail, effect_new, effect_one, effect_two}
use Rattle.object_moves.specs.Known.{duo_label, labelled, moved_by, parcel_label, solo_label, state_at}
use Rattle.object_moves.specs.Roles.{after, asking_role, does, mail_role, newborn, serving_role, solo_role}
use Rattle.object_moves.specs.declared.known.Duo.{Duo}
use Rattle.object_moves.specs.declared.known.Parcel.{Parcel}
use Rattle.object_moves.specs.declared.known.Solo.{Solo}
use Rattle.object_moves.specs.declared.known.Solo.TheVariants as S
use Rattle.object_moves.specs.declared.parts.Part.{Part}
use Rattle.object_moves.specs.declared.parts.Role.TheVariants as R
use Rattle.object_moves.proofs.OptionalSteps.{assoc, alike, none_after}
use Rattle.object_moves.proofs.StateGrowth.{state_still}

-- none of two objects, and both
abbrev neither : Option (Object × Object)
neither = None

abbrev both : Object → Object → Option (Object × Object)
both y z = Some (y, z)

solo_does : (p : ProgramTree) (o : ℕ) (a : Solo) (args : List Value) (x : Object) → effect_one p (solo_label o a) x ≡ does p o (solo_role a) args x
solo_does p o (S.Write i) args x = refl
solo_does p o (S.Pick i) args x = refl
solo_does p o (S.Fault e) args x = refl

pub solo_part : (p : ProgramTree) (o : ℕ) (a : Solo) (part : Part) (x : Object) → part.role ≡ solo_role a → effect_one p (solo_label o a) x ≡ after p o part x
solo_part p o a part x e = solo_does p o a part.args x ∙ ap (λ r. does p o r part.args x) (sym e)

mail_does : (p : ProgramTree) (o : ℕ) (a : Parcel) (t : Bool) (x : Object) → effect_mail p (moved_by o a t) x ≡ does p o (mail_role a t) a.args x
mail_does p o a true x = refl
mail_does p o a false x = refl

pub mail_part : (p : ProgramTree) (o : ℕ) (a : Parcel) (part : Part) (x : Object) → part.role ≡ mail_role a a.takes → part.args ≡ a.args → effect_mail p (parcel_label o a) x ≡ after p o part x
mail_part p o a part x e f = mail_does p o a a.takes x ∙ ap₂ (λ r args. does p o r args x) (sym e) (sym f)

-- an object that is made, and its maker
module _ (p : ProgramTree) (o n : ℕ) (k : NameId) where
  new_does : (args : List Value) (x : Object) → effect_new p (L.New o n k) x ≡ (does p o (R.Makes k n) args x >>= λ y. newborn p k >>= λ z. Some (y, z))
  new_does args x = by (without_fault x x.fault)
    where
      tested : (a : Object) (b : Bool) → (require b >> (class_of p k.0 >>= λ class. both (given a (V.Ref n)) (new_object class)))
          ≡ ((require b >> Some (given a (V.Ref n))) >>= λ y. newborn p k >>= λ z. Some (y, z))
      tested a true = sym (assoc (class_of p k.0) (λ class. Some (new_object class)) (λ z. Some (given a (V.Ref n), z)))
      tested a false = refl

      by : (m : Option Object) → (m >>= λ a. require (makes (action p o a) k.0) >> (class_of p k.0 >>= λ class. both (given a (V.Ref n)) (new_object class)))
          ≡ ((m >>= λ a. require (makes (action p o a) k.0) >> Some (given a (V.Ref n))) >>= λ y. newborn p k >>= λ z. Some (y, z))
      by None = refl
      by (Some a) = tested a (makes (action p o a) k.0)

  new_parts : (part : Part) (x : Object) → part.role ≡ R.Makes k n → effect_new p (L.New o n k) x ≡ (after p o part x >>= λ y. newborn p k >>= λ z. Some (y, z))
  new_parts part x e = new_does part.args x ∙ ap (λ r. does p o r part.args x >>= λ y. newborn p k >>= λ z. Some (y, z)) (sym e)

  pub no_maker : (part : Part) (x : Object) → part.role ≡ R.Makes k n → after p o part x ≡ None → effect_new p (L.New o n k) x ≡ None
  no_maker part x e f = new_parts part x e ∙ ap (λ m. m >>= λ y. newborn p k >>= λ z. Some (y, z)) f

  pub no_newborn : (part : Part) (x y : Object) → part.role ≡ R.Makes k n → after p o part x ≡ Some y → newborn p k ≡ None → effect_new p (L.New o n k) x ≡ None
  no_newborn part x y e f g = new_parts part x e ∙ ap (λ m. m >>= λ y. newborn p k >>= λ z. Some (y, z)) f ∙ ap (λ m. m >>= λ z. Some (y, z)) g

  pub both_made : (part : Part) (x y z : Object) → part.role ≡ R.Makes k n → after p o part x ≡ Some y → newborn p k ≡ Some z → effect_new p (L.New o n k) x ≡ Some (y, z)
  both_made part x y z e f g = new_parts part x e ∙ ap (λ m. m >>= λ y. newborn p k >>= λ z. Some (y, z)) f ∙ ap (λ m. m >>= λ z. Some (y, z)) g

-- an answer or a return
module _ (p : ProgramTree) (b o : ℕ) (a : Duo) where
  answer_does : (y x : Object) → effect_two p (labelled b o a None) y x ≡ (does p o (asking_role b a None) a.args x >>= λ w. does p b (serving_role o a None) a.args y >>= λ z. Some (z, w))
  answer_does y x = by (without_fault x x.fault) (without_fault y y.fault)
    where
      asks : Object → Object
      asks e = refilled e (AsExpression (T.Wait b a.method.0))

      serves : Object → Option Object
      serves d = offer (action p b d) a.method.0 >>= λ v. method_of p d.class a.method.0 (length a.args) >>= λ method. Some (serving d method (Some o) a.args v.work)

      serves_with : Object → Object → Option (Object × Object)
      serves_with w d = offer (action p b d) a.method.0 >>= λ v. method_of p d.class a.method.0 (length a.args) >>= λ method. Some (serving d method (Some o) a.args v.work, w)

      served : (w d : Object) → serves_with w d ≡ (serves d >>= λ z. Some (z, w))
      served w d =
          alike (offer (action p b d) a.method.0) _ _ (λ v. sym (assoc (method_of p d.class a.method.0 (length a.args)) (λ method. Some (serving d method (Some o) a.args v.work)) (λ z. Some (z, w))))
          ∙ sym (assoc (offer (action p b d) a.method.0) (λ v. method_of p d.class a.method.0 (length a.args) >>= λ method. Some (serving d method (Some o) a.args v.work)) (λ z. Some (z, w)))

      tested : (e : Object) (n : Option Object) (t : Bool) → (n >>= λ d. require t >> serves_with (asks e) d) ≡ ((require t >> Some (asks e)) >>= λ w. (n >>= serves) >>= λ z. Some (z, w))
      tested e n true = alike n _ _ (λ d. served (asks e) d) ∙ sym (assoc n serves (λ z. Some (z, asks e)))
      tested e n false = none_after n (λ d. None) (λ d. refl)

      by : (m n : Option Object) → (m >>= λ e. n >>= λ d. require (calls (action p o e) b a.method.0 a.args) >> serves_with (asks e) d)
          ≡ ((m >>= λ e. require (calls (action p o e) b a.method.0 a.args) >> Some (asks e)) >>= λ w. (n >>= serves) >>= λ z. Some (z, w))
      by None n = refl
      by (Some e) n = tested e n (calls (action p o e) b a.method.0 a.args)

  return_does : (v : Value) (y x : Object) → effect_two p (labelled b o a (Some v)) y x
      ≡ (does p o (asking_role b a (Some v)) a.args x >>= λ w. does p b (serving_role o a (Some v)) a.args y >>= λ z. Some (z, w))
  return_does v y x = by (without_fault y y.fault) (without_fault x x.fault)
    where
      tested : (d e : Object) (s t : Bool) → (require (s && t) >> both (returned d) (given e v)) ≡ ((require t >> Some (given e v)) >>= λ w. (require s >> Some (returned d)) >>= λ z. Some (z, w))
      tested d e true true = refl
      tested d e true false = refl
      tested d e false true = refl
      tested d e false false = refl

      alone : (e : Object) (t : Bool) → neither ≡ ((require t >> Some (given e v)) >>= λ w. neither)
      alone e true = refl
      alone e false = refl

      by : (n m : Option Object) → (n >>= λ d. m >>= λ e. require (returns (action p b d) o v && waits_on (action p o e) b) >> both (returned d) (given e v))
          ≡ ((m >>= λ e. require (waits_on (action p o e) b) >> Some (given e v)) >>= λ w. (n >>= λ d. require (returns (action p b d) o v) >> Some (returned d)) >>= λ z. Some (z, w))
      by None None = refl
      by (Some d) None = refl
      by None (Some e) = alone e (waits_on (action p o e) b)
      by (Some d) (Some e) = tested d e (returns (action p b d) o v) (waits_on (action p o e) b)

  two_does : (v : Option Value) (y x : Object) → effect_two p (labelled b o a v) y x ≡ (does p o (asking_role b a v) a.args x >>= λ w. does p b (serving_role o a v) a.args y >>= λ z. Some (z, w))
  two_does None y x = answer_does y x
  two_does (Some v) y x = return_does v y x

  module _ (asking serving : Part) (ra : asking.role ≡ asking_role b a a.returned) (aa : asking.args ≡ a.args) (rs : serving.role ≡ serving_role o a a.returned) (sa : serving.args ≡ a.args) where
    two_parts : (y x : Object) → effect_two p (duo_label b o a) y x ≡ (after p o asking x >>= λ w. after p b serving y >>= λ z. Some (z, w))
    two_parts y x =
        two_does a.returned y x ∙ ap₂ (λ r args. does p o r args x >>= λ w. does p b (serving_role o a a.returned) a.args y >>= λ z. Some (z, w)) (sym ra) (sym aa)
        ∙ ap₂ (λ r args. after p o asking x >>= λ w. does p b r args y >>= λ z. Some (z, w)) (sym rs) (sym sa)

    pub no_asking : (y x : Object) → after p o asking x ≡ None → effect_two p (duo_label b o a) y x ≡ None
    no_asking y x f = two_parts y x ∙ ap (λ m. m >>= λ w. after p b serving y >>= λ z. Some (z, w)) f

    pub no_serving : (y x w : Object) → after p o asking x ≡ Some w → after p b serving y ≡ None → effect_two p (duo_label b o a) y x ≡ None
    no_serving y x w f g = two_parts y x ∙ ap (λ m. m >>= λ w. after p b serving y >>= λ z. Some (z, w)) f ∙ ap (λ m. m >>= λ z. Some (z, w)) g

    pub both_do : (y x z w : Object) → after p o asking x ≡ Some w → after p b serving y ≡ Some z → effect_two p (duo_label b o a) y x ≡ Some (z, w)
    both_do y x z w f g = two_parts y x ∙ ap (λ m. m >>= λ w. after p b serving y >>= λ z. Some (z, w)) f ∙ ap (λ m. m >>= λ z. Some (z, w)) g

    -- by numbers, where the table grows from xs to ys, and then to zs
    module _ (xs ys zs : List Object) (grown : take (length xs) ys ≡ xs) (more : take (length ys) zs ≡ ys) (s t : ℕ) (there : s < length xs) where
      pub served_none : (m : ℕ) → after p o asking (state_at xs t) ≡ Some (state_at ys m) → after p b serving (state_at ys s) ≡ None → effect_two p (duo_label b o a) (state_at xs s) (state_at xs t) ≡ None
      served_none m f g = no_serving (state_at xs s) (state_at xs t) (state_at ys m) f (ap (after p b serving) (sym (state_still xs ys s grown there)) ∙ g)

      pub served_both : (n m : ℕ) → m < length ys → after p o asking (state_at xs t) ≡ Some (state_at ys m) → after p b serving (state_at ys s) ≡ Some (state_at zs n)
          → effect_two p (duo_label b o a) (state_at xs s) (state_at xs t) ≡ Some (state_at zs n, state_at zs m)
      served_both n m l f g =
          both_do (state_at xs s) (state_at xs t) (state_at zs n) (state_at zs m) (f ∙ ap Some (sym (state_still ys zs m more l)))
          (ap (after p b serving) (sym (state_still xs ys s grown there)) ∙ g)
