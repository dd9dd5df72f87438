-- In a typed configuration of code no object goes wrong. The start is typed, and a record of a verified file is a run of the relation over its objects.
use Rattle.std.proofs.Common.{◌≡◌, ◌≢◌, ◌⊎◌, inl, inr, refl, sym, ap, subst, ◌∙◌, IsTrue, ℕ, suc, List, [], ◌∷◌, ◌++◌, length, Option, Some, None, is_some}
use Rattle.std.specs.Prelude.{slice_get}
use Rattle.run_types.specs.declared.types.NameId.{NameId}
use Rattle.run_types.specs.declared.types.Value.{Value}
use Rattle.run_types.specs.declared.types.Event.{Event}
use Rattle.run_types.specs.declared.types.Label.{Label}
use Rattle.run_types.specs.declared.types.Placement.{Placement}
use Rattle.run_types.specs.declared.types.Kind.{Kind as DeclaredKind}
use Rattle.code_semantics.specs.declared.unit.ClassCode.{ClassCode}
use Rattle.run_types.specs.declared.frames.Frame.{Frame}
use Rattle.code_semantics.specs.declared.file.UnitFile.{UnitFile}
use Rattle.code_semantics.specs.Kinds as C
use Rattle.code_semantics.specs.Kinds.{code_kind}
use Rattle.code_semantics.specs.Shaped.{IsShaped}
use Rattle.code_semantics.specs.Step.{code_made}
use Rattle.run_types.proofs.Laws.{decide, same_some, given_by, find_put_same, find_put_other}
use Rattle.mesh_semantics.proofs.Laws.{record_shows, fit_of, lines_made, no_wires_kept, placed_start_sound, with_wires}
use Rattle.run_types.specs.Partial.{◌>>=◌}
use Rattle.mesh_semantics.specs.Config.{Config, object_of, messages_of, put_object}
use Rattle.mesh_semantics.specs.Delay.{Delay, no_delay, no_delay_on_wires}
use Rattle.mesh_semantics.specs.FitFor.{FitFor}
use Rattle.mesh_semantics.specs.EventSoundness.{ShowsRun}
use Rattle.mesh_semantics.specs.MadeLines.{AreMade, LabelsLead}
use Rattle.mesh_semantics.specs.Moves.{move, moves}
use Rattle.mesh_semantics.specs.Record.{Record, start, root_name, with_root, record_from}
use Rattle.mesh_semantics.specs.RecordOf.{record_of, record_on_wires}
use Rattle.run_types.specs.Tables.{Each}
use Rattle.mesh_semantics.specs.Sound.{IsSound}
use Rattle.mesh_semantics.specs.Wired.{KeepsWires}
use Rattle.code_semantics.specs.OfUnit.{AreFramesOf}
use Rattle.mesh_of_code.specs.Coded.{Placed, placed, kind_of, unless_served, class_number, last_code, coded}
use Rattle.mesh_of_code.specs.CodeInvariant.{Names}
use Rattle.mesh_of_code.proofs.Laws.{start_of_code, start_there, root_rests}
use Rattle.code_typing.specs.Sorts.{Signature}
use Rattle.code_typing.specs.Verified.{IsVerified}
use Rattle.compiler_correctness.specs.TypedCode.{Classes, AreOfKinds, frame_scope, AreSortedFrames, IsSortedObject, class_in, FitInstr, FitFrames, TakesOperands, HasMethod, IsMessageFor, DoesWrong, GoesWrong, IsTypedCode}
use Rattle.compiler_correctness.specs.CodeRun.{IsRightCode, GoesBy, IsCodeRun}
use Rattle.compiler_correctness.proofs.SendDestination.{Asks}
use Rattle.compiler_correctness.proofs.Frames.{instr_there, leaves_stack}
use Rattle.compiler_correctness.proofs.ProperUnits.{verified_is_proper}
use Rattle.compiler_correctness.proofs.Objects.{kept_of, made_sorted}
use Rattle.compiler_correctness.proofs.TypePreservation.{asked_class, typed_kept, verified_lawful}

-- values and kinds are as many
lengths_of : (at : Classes) (vs : List Value) (ks : List DeclaredKind) → AreOfKinds at vs ks → length ks ≡ length vs
lengths_of at [] [] h = refl
lengths_of at (v ∷ vs) (k ∷ ks) h = ap suc (lengths_of at vs ks h.1)
lengths_of at [] (k ∷ ks) h = absurd h
lengths_of at (v ∷ vs) [] h = absurd h

module _ (f : UnitFile) (shaped : IsShaped f) (good : IsVerified f) where
  module _ (c : Config Placed) (w : IsTypedCode f c) where
    takes : (o : ℕ) (x : Placed) → object_of c o ≡ Some x → TakesOperands f (class_in f c) x.object
    takes o x e =
        let h = w.objects o x e in
        let u = w.of_code.of_unit o x e in
        subst (λ k. FitFrames f (class_in f c) k x.object.frames) (sym h.is_class) (by x.object.frames h.frames (of u.class x.object.frames u.frames))
      where
        of : (k : ClassCode) (fs : List Frame) → AreFramesOf k (Names c) None fs → (fs ≡ []) → ⊥
        of k [] h e = h
        of k (a ∷ fs) h e = let z : a ∷ fs ≡ [] = e in cc

        by : (fs : List Frame) → AreSortedFrames f (class_in f c) (w.objects o x e).class None fs → (fs ≡ [] → ⊥) → FitFrames f (class_in f c) (Some (w.objects o x e).class) fs
        by [] h n = n refl
        by (a ∷ fs) h n =
            let k = w.objects o x e in
            let i = instr_there f shaped good x.object.class k.class k.is_class (class_in f c) [] a h.0 in
            let l = leaves_stack f shaped good x.object.class k.class k.is_class (class_in f c) [] a h.0 i.0 i.1 in
            subst (λ z. FitInstr (frame_scope f k.class a.method) (class_in f c) z a.operands) (sym i.1) (h.0.stack, h.0.operands, subst (λ z. IsTrue (is_some z)) (sym l.1) refl)

    has_method : (b : ℕ) (m : NameId) (args : List Value) (s : Signature) → Asks f (class_in f c) b m args s → HasMethod f c b m.0 (length args)
    has_method b m args s a =
        let t = given_by (object_of c b) (λ (x : Placed). Some (class_number (slice_get f.unit.classes x.object.class))) a.class a.is_there in
        let k = w.objects b t.0 t.1 in
        (t.0, k.class, s, t.1, k.is_class, asked_class f shaped good c w b m args s t.0 t.1 a, lengths_of (class_in f c) args s.params a.fitting)

    not_wrong_kind : (o : ℕ) (x : Placed) (e : object_of c o ≡ Some x) (s : Option (ℕ × ℕ)) (q : C.Kind) → x.served ≡ s → code_kind f.unit x.object ≡ q
        → DoesWrong f c o (unless_served s (kind_of q)) → ⊥
    not_wrong_kind o x e (Some v) q i j h = h
    not_wrong_kind o x e None (C.Send b m args) i j h =
        let k = kept_of f shaped good (class_in f c) x.object (w.objects o x e) (C.Send b m args) j in h (has_method b m args k.0 k.1)
    not_wrong_kind o x e None (C.Async b m args) i j h =
        let k = kept_of f shaped good (class_in f c) x.object (w.objects o x e) (C.Async b m args) j in h (has_method b m args k.0 k.1)
    not_wrong_kind o x e None (C.Return a n v) i j h =
        h ((verified_lawful f shaped good).has_wait c o x a v w e (ap (λ s. unless_served s (kind_of (code_kind f.unit x.object))) i ∙ ap kind_of j))
    not_wrong_kind o x e None C.Finished i j h = h
    not_wrong_kind o x e None C.Local i j h = h
    not_wrong_kind o x e None (C.Fault t) i j h = h
    not_wrong_kind o x e None (C.New k) i j h = h
    not_wrong_kind o x e None (C.Write t) i j h = h
    not_wrong_kind o x e None (C.Answer ns) i j h = h
    not_wrong_kind o x e None (C.Select alts) i j h = h

    -- nobody goes wrong
    pub nobody_goes_wrong : (o : ℕ) (x : Placed) → object_of c o ≡ Some x → ¬ (GoesWrong f c o x)
    nobody_goes_wrong o x e g = by g.1
      where
        by : ¬ (TakesOperands f (class_in f c) x.object) ⊎ DoesWrong f c o ((coded f.unit).kind o x) → ⊥
        by (inl n) = n (takes o x e)
        by (inr d) = not_wrong_kind o x e x.served (code_kind f.unit x.object) refl refl d

  pub right : (c : Config Placed) → IsTypedCode f c → IsRightCode f c
  right c w = record { typed = w; nobody = nobody_goes_wrong c w }

  -- a run keeps it typed
  pub run_typed : (ls : List Label) (c e : Config Placed) → IsTypedCode f c → moves (coded f.unit) c ls ≡ Some e → IsTypedCode f e
  run_typed [] c e w h = subst (IsTypedCode f) (same_some h) w
  run_typed (x ∷ ls) c e w h =
      let a = given_by (move (coded f.unit) c x) (λ d. moves (coded f.unit) d ls) e h in run_typed ls a.0 e (typed_kept f shaped good c w a.0 x a.1) a.2

  -- the start is typed
  pub start_typed : (l : Placement) (c : Config Placed) → start (coded f.unit) l ≡ Some c → IsTypedCode f c
  start_typed l c h = by ((coded f.unit).root) refl h
    where
      by : (z : Option Placed) → (coded f.unit).root ≡ z → with_root (root_name l) z ≡ Some c → IsTypedCode f c
      by None e i = absurd (let t : None ≡ Some c = i in cc)
      by (Some x) e i =
          let k = given_by (last_code f.unit.classes) (λ k. code_made f.unit k.name >>= λ y. Some (placed y)) x e in
          let y = given_by (code_made f.unit k.0.name) (λ y. Some (placed y)) x k.2 in
          let same : record { objects = (root_name l, x) ∷ []; messages = [] } ≡ c = same_some i in
          let fits = λ (at : Classes). subst (λ (z : Placed). IsSortedObject f at z.object) (same_some y.2) (made_sorted f shaped good at k.0.name y.0 y.1).0 in
          record {
            of_code = start_of_code f.unit (verified_is_proper f shaped good) l c h;
            objects = λ o z q. only (class_in f c) o z x fits (subst (λ (d : Config Placed). object_of d o ≡ Some z) (sym same) q);
            messages = λ s r. subst (λ (d : Config Placed). Each (IsMessageFor f c r) (messages_of d s r)) same tt;
          }
        where
          only : (at : Classes) (o : ℕ) (z x : Placed) → ((at : Classes) → IsSortedObject f at x.object)
              → object_of (put_object (record { objects = []; messages = [] }) (root_name l) x) o ≡ Some z → IsSortedObject f at z.object
          only at o z x fits q = one (decide o (root_name l))
            where
              one : (o ≡ root_name l) ⊎ (o ≢ root_name l) → IsSortedObject f at z.object
              one (inl i) =
                  subst (λ (v : Placed). IsSortedObject f at v.object)
                  (same_some (sym (find_put_same (root_name l) x []) ∙ ap (object_of (put_object (record { objects = []; messages = [] }) (root_name l) x)) (sym i) ∙ q)) (fits at)
              one (inr n) = absurd (let t : None ≡ Some z = sym (find_put_other o (root_name l) x [] n) ∙ q in cc)

  -- a run of joined labels goes by way of where the first lead
  by_way : (c z : Config Placed) (xs ys : List Label) → moves (coded f.unit) c (xs ++ ys) ≡ Some z
      → (e : Config Placed) × (moves (coded f.unit) c xs ≡ Some e) × (moves (coded f.unit) e ys ≡ Some z)
  by_way c z [] ys h = (c, refl, h)
  by_way c z (x ∷ xs) ys h =
      let a = given_by (move (coded f.unit) c x) (λ d. moves (coded f.unit) d (xs ++ ys)) z h in
      let r = by_way a.0 z xs ys a.2 in (r.0, subst (λ (m : Option (Config Placed)). (m >>= λ d. moves (coded f.unit) d xs) ≡ Some r.0) (sym a.1) r.1, r.2)

  runs : (l : Placement) (q : ℕ) (c : Config Placed) (d : Delay) (r : Record Placed) → IsTypedCode f c → ShowsRun (coded f.unit) (IsTypedCode f) l c r
      → AreMade (coded f.unit) (IsTypedCode f) l q (LabelsLead (coded f.unit) c) c d r.lines → IsCodeRun f l q c d r
  runs l q c d r w t made = record {
    lines = t.lines;
    leads = t.leads;
    sound = t.sound;
    fronts = λ front rest e. way front rest (ap (moves (coded f.unit) c) e ∙ t.leads);
    made = made;
    rests = t.rests;
  }
    where
      way : (front rest : List Label) → moves (coded f.unit) c (front ++ rest) ≡ Some r.last → GoesBy f c r.last front rest
      way front rest h =
          let b = by_way c r.last front rest h in record { between = b.0; to = b.1; from = b.2; right = right b.0 (run_typed front c b.0 w b.1) }

  pub start_is_sound : (l : Placement) (c : Config Placed) → FitFor (coded f.unit) l → start (coded f.unit) l ≡ Some c → IsSound (coded f.unit) (IsTypedCode f) l c no_delay
  start_is_sound l c fit h = by ((coded f.unit).root) refl h
    where
      by : (z : Option Placed) → (coded f.unit).root ≡ z → with_root (root_name l) z ≡ Some c → IsSound (coded f.unit) (IsTypedCode f) l c no_delay
      by None e i = absurd (let t : None ≡ Some c = i in cc)
      by (Some x) e i = placed_start_sound (coded f.unit) (IsTypedCode f) l fit x c e (root_rests f.unit x e) h (start_typed l c h)

  -- the record from a sound configuration over code is a run of its relation, right all the way, and where it ends quiet there is no transition
  runs_from : (l : Placement) (q : ℕ) (es : List Event) (c : Config Placed) (d : Delay) → FitFor (coded f.unit) l → IsSound (coded f.unit) (IsTypedCode f) l c d → KeepsWires d
      → IsCodeRun f l q c d (record_from (coded f.unit) l q c d 0 es)
  runs_from l q es c d fit sound wired =
      let law = verified_lawful f shaped good in
      let fits = fit_of (coded f.unit) l fit in
      runs l q c d (record_from (coded f.unit) l q c d 0 es) sound.state.typed (record_shows (coded f.unit) (IsTypedCode f) law l fits q es c d 0 sound)
      (lines_made (coded f.unit) (IsTypedCode f) law l fits q es c d 0 sound wired)

  pub record_is_code_run : (l : Placement) (q : ℕ) (es : List Event) → FitFor (coded f.unit) l
      → (c : Config Placed) × (start (coded f.unit) l ≡ Some c) × IsCodeRun f l q c no_delay (record_of (coded f.unit) l q es)
  record_is_code_run l q es fit =
      let s = start_there f.unit (verified_is_proper f shaped good) l in
      (s.0, s.1, rw s.1 (runs_from l q es s.0 no_delay fit (start_is_sound l s.0 fit s.1) tt))

  pub record_is_code_run_on_wires : (l : Placement) (q : ℕ) (es : List Event) → FitFor (coded f.unit) l
      → (c : Config Placed) × (start (coded f.unit) l ≡ Some c) × IsCodeRun f l q c no_delay_on_wires (record_on_wires (coded f.unit) l q es)
  record_is_code_run_on_wires l q es fit =
      let s = start_there f.unit (verified_is_proper f shaped good) l in
      (s.0, s.1, rw s.1 (runs_from l q es s.0 no_delay_on_wires fit (with_wires (coded f.unit) (IsTypedCode f) l s.0 no_delay [] (start_is_sound l s.0 fit s.1)) no_wires_kept))
