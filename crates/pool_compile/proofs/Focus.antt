-- The redex of a term that frames represent, and the replacement of that redex by another part in the term and in the frames.
use Rattle.run_types.specs.declared.frames.Frame.{Frame}
use Rattle.std.proofs.Common.{◌≡◌, ap, ◌∙◌, subst, ℕ, suc, List, [], ◌∷◌, ◌++◌, length, Option, Some, is_some, IsTrue, Bool, true, false, ◌⊎◌, append_assoc}
use Rattle.std.specs.Prelude.{slice_get, map}
use Rattle.run_types.specs.declared.types.Value.{Value}
use Rattle.run_types.specs.declared.types.Value.TheVariants as V
use Rattle.run_types.specs.declared.types.Item.TheVariants as Item
use Rattle.pool_syntax.specs.Terms as T
use Rattle.pool_syntax.specs.Terms.{Store, Expression, Expressions, Statement, Statements, Alternatives, append}
use Rattle.pool_relation.specs.Reducible as R
use Rattle.pool_relation.specs.Reducible.{Choice, Reducible, Found, Evaluated, At, Contractum, AsExpression, AsStatements, as_expression, as_statements, set_value, assigned, fill_expression, fill_expressions, fill_statement, fill_statements, fill_guards}
use Rattle.code_semantics.specs.declared.unit.Instr.{Instr}
use Rattle.code_semantics.specs.declared.unit.Instr.TheVariants as I
use Rattle.code_semantics.specs.declared.unit.AltCode.{AltCode}
use Rattle.run_types.specs.declared.types.Serves.TheVariants as S
use Rattle.code_semantics.specs.declared.unit.ClassCode.{ClassCode}
use Rattle.code_semantics.specs.Frames.{code_of, next, silent}
use Rattle.pool_compile.specs.Code.{Numbering, name, load, store, answer_names}
use Rattle.pool_compile.specs.StandsFor.{Point, Head, keys, frame_of, fresh, Ends, PointsOf, IsServing, push_all, Under, UnderStatement, UnderStatements}

-- whether a redex is an expression
abbrev pub is_inner : Reducible → Bool
is_inner R.OwnName = true
is_inner (R.Read n) = true
is_inner (R.Make c) = true
is_inner (R.Unary op v) = true
is_inner (R.Binary op v w) = true
is_inner (R.Invoke m args) = true
is_inner (R.SynchronousSend v m args) = true
is_inner (R.Leave v) = true
is_inner (R.Waiting b m) = true
is_inner _ = false

-- the temps after the redex
abbrev pub after : Reducible → Store → Store
after (R.Set x v) t = set_value t x v
after _ t = t

abbrev pub UnderPart : Bool → Option ClassCode → List Instr → Numbering → Contractum → PointsOf
UnderPart true k c g (AsExpression e) = Under k c g e
UnderPart false k c g (AsStatements ss) = UnderStatements k c g ss
UnderPart _ k c g part = λ base s end. ⊥

-- an instruction at hand, with these operands
abbrev pub Stand : Option ClassCode → Head → Point → List Value → Instr → ℕ → Type 0
Stand k h s vs i stop = (s.operands ≡ vs) × Ends (code_of k h.method) s.at i stop

-- a frame over a held one, at its end
abbrev pub Ending : Option ClassCode → List Frame → List Value → Point → ℕ → Value → Store → (Frame → Type 0) → Type 0
Ending k over base s stop v u serves =
    (f : Frame) × (over ≡ f ∷ []) × serves f × (f.operands ≡ v ∷ []) × (slice_get (code_of k f.method) f.at ≡ Some I.Ret)
    × (s.operands ≡ base) × (s.at ≡ stop)

-- a frame that serves a caller over a held one, before its post statements, and what is left of the served method once it has returned
abbrev pub Returning : Option ClassCode → List Frame → Head → Numbering → List Value → Point → ℕ → Option ℕ → Value → Statements → Type 0
Returning k over h g base s stop w v work =
    (f : Frame) × (over ≡ f ∷ []) × IsServing w f.serves × IsTrue (is_some w) × (f.operands ≡ v ∷ []) × (slice_get (code_of k f.method) f.at ≡ Some I.Post)
    × UnderStatements k (code_of k h.method) g work base (record s { above = next (record f { serves = S.Sender }) f.operands ∷ [] }) stop

-- the lists of a select's alternatives
abbrev pub Lists : Option ClassCode → List Instr → Numbering → List Choice → List Value → List AltCode → ℕ → Type 0
Lists k c g [] base [] stop = Unit {0}
Lists k c g [] base (a ∷ targets) stop = ⊥
Lists k c g (x ∷ cs) base [] stop = ⊥
Lists k c g (x ∷ cs) base (a ∷ targets) stop =
    (a.answer ≡ answer_names x.answer) × UnderStatements k c g x.work base (fresh a.at base) stop × Lists k c g cs base targets stop

abbrev pub guards_of : List Choice → List Value
guards_of cs = map (λ c. c.guard) cs

-- what stands at a redex in the frame of h, whose temps are t, where the nearest temps are u
abbrev pub Here : List Frame → Store → Store → Type 0 → Type 0
Here over t u X = (over ≡ []) × (u ≡ t) × X

abbrev pub Spot : Option ClassCode → List Frame → Head → Store → Numbering → List Value → Point → ℕ → Reducible → Store → Type 0
Spot k over h t g base s stop R.OwnName u = Here over t u (Stand k h s base I.SelfRef stop)
Spot k over h t g base s stop (R.Read n) u = Here over t u (Stand k h s base (load g n) stop)
Spot k over h t g base s stop (R.Make c) u = Here over t u (Stand k h s base (I.New (name c)) stop)
Spot k over h t g base s stop (R.Unary op v) u = Here over t u (Stand k h s (v ∷ base) (I.Oper op) stop)
Spot k over h t g base s stop (R.Binary op v w) u = Here over t u (Stand k h s (w ∷ v ∷ base) (I.Oper op) stop)
Spot k over h t g base s stop (R.Invoke m args) u = Here over t u (Stand k h s (push_all args base) (I.Call (name m)) stop)
Spot k over h t g base s stop (R.SynchronousSend v m args) u =
    Here over t u (Stand k h s (push_all args (v ∷ base)) (I.Send (name m) (length args)) stop)
Spot k over h t g base s stop (R.Leave v) u = Ending k over base s stop v u (λ f. f.serves ≡ S.Own)
Spot k over h t g base s stop (R.Waiting b m) u =
    Here over t u ((args : List Value) × Stand k h s (push_all args (V.Ref b ∷ base)) (I.Send (name m) (length args)) stop)
Spot k over h t g base s stop (R.Set x v) u = Here over t u (Stand k h s (v ∷ base) (store g x) stop)
Spot k over h t g base s stop (R.Print (Item.Value v)) u = Here over t u (Stand k h s (v ∷ base) I.Write stop)
Spot k over h t g base s stop (R.Print (Item.Text n)) u = Here over t u (Stand k h s base (I.WriteText n) stop)
Spot k over h t g base s stop (R.Drop v) u = Here over t u (Stand k h s (v ∷ base) I.Pop stop)
Spot k over h t g base s stop (R.Post v m args) u =
    Here over t u (Stand k h s (push_all args (v ∷ base)) (I.Async (name m) (length args)) stop)
Spot k over h t g base s stop (R.Branch v these those) u =
    Here over t u ((no : ℕ) × Stand k h s (v ∷ base) (I.Branch no) (suc s.at)
    × UnderStatements k (code_of k h.method) g these base (fresh (suc s.at) base) stop
    × UnderStatements k (code_of k h.method) g those base (fresh no base) stop)
Spot k over h t g base s stop (R.Loop e ss) u =
    Here over t u (Stand k h s base I.Loop (suc s.at) × UnderStatement k (code_of k h.method) g (T.While e ss) base (fresh s.at base) stop)
Spot k over h t g base s stop (R.Accept names) u = Here over t u (Stand k h s base (I.Answer (map (λ n. n.name) names)) stop)
Spot k over h t g base s stop (R.Choose choices) u =
    Here over t u ((targets : List AltCode) × Stand k h s (push_all (guards_of choices) base) (I.Select targets) (suc s.at)
    × Lists k (code_of k h.method) g choices base targets stop)
Spot k over h t g base s stop (R.Finish w v work) u =
    (Ending k over base s stop v u (λ f. IsServing w f.serves) × (work ≡ T.Done)) ⊎ Returning k over h g base s stop w v work

-- the redex r, its frames, and what becomes of all frames where another part takes its place
pub record Focus (k : Option ClassCode) (V : List ℕ) (L : List Frame) (r : Reducible) (u : Store) (Target : List Frame → Contractum → Type 0) : Type 0 where
  pub host : Head
  pub own : Store
  pub g : Numbering
  pub base : List Value
  pub s : Point
  pub stop : ℕ
  pub over : List Frame
  pub rest : List Frame
  pub split : L ≡ over ++ frame_of host own s ∷ rest
  pub names : keys own ≡ g.temps
  -- the numbers of the object's variables are the same in all its frames
  pub vars : g.vars ≡ V
  pub spot : Spot k over host own g base s stop r u
  pub rebuild : (part : Contractum) (z : Point) → UnderPart (is_inner r) k (code_of k host.method) g part base z stop → Target (z.above ++ frame_of host (after r own) z ∷ rest) part

-- a silent instruction at hand
pub record Idle (k : Option ClassCode) (L : List Frame) (Same : List Frame → Type 0) : Type 0 where
  pub f : Frame
  pub g : Frame
  pub rest : List Frame
  pub split : L ≡ f ∷ rest
  pub quiet : silent f (slice_get (code_of k f.method) f.at) ≡ Some g
  pub kept : Same (g ∷ rest)

-- what is seen of a part: its value, its redex, or a silent instruction
pub data Sight (k : Option ClassCode) (V : List ℕ) (L : List Frame) {A : Type 0} (found : Found A) (Finished : A → Type 0) (Target : List Frame → Contractum → Type 0) (Same : List Frame → Type 0) : Type 0 where
  over : (a : A) → found ≡ Evaluated a → Finished a → Sight k V L found Finished Target Same
  redex : (r : Reducible) (u : Store) → found ≡ At r u → Focus k V L r u Target → Sight k V L found Finished Target Same
  idle : Idle k L Same → Sight k V L found Finished Target Same

-- the same redex in a larger part
pub within : (k : Option ClassCode) (V : List ℕ) (L : List Frame) (r : Reducible) (u : Store) (T T' : List Frame → Contractum → Type 0) → Focus k V L r u T
    → ((fs : List Frame) (part : Contractum) → T fs part → T' fs part) → Focus k V L r u T'
within k V L r u T T' x f = record {
  host = x.host;
  own = x.own;
  g = x.g;
  base = x.base;
  s = x.s;
  stop = x.stop;
  over = x.over;
  rest = x.rest;
  split = x.split;
  names = x.names;
  vars = x.vars;
  spot = x.spot;
  rebuild = λ part z h. f _ part (x.rebuild part z h);
}

-- the same in a frame over another one
pub beneath : (k : Option ClassCode) (V : List ℕ) (L : List Frame) (r : Reducible) (u : Store) (T T' : List Frame → Contractum → Type 0) (f : Frame) → Focus k V L r u T
    → ((fs : List Frame) (part : Contractum) → T fs part → T' (fs ++ f ∷ []) part) → Focus k V (L ++ f ∷ []) r u T'
beneath k V L r u T T' f x go = record {
  host = x.host;
  own = x.own;
  g = x.g;
  base = x.base;
  s = x.s;
  stop = x.stop;
  over = x.over;
  rest = x.rest ++ f ∷ [];
  split = ap (λ l. l ++ f ∷ []) x.split ∙ append_assoc x.over _ _;
  names = x.names;
  vars = x.vars;
  spot = x.spot;
  rebuild = λ part z h. subst (λ l. T' l part) (append_assoc z.above _ _) (go _ part (x.rebuild part z h));
}

pub idle_within : (k : Option ClassCode) (L : List Frame) (S S' : List Frame → Type 0) → Idle k L S → ((fs : List Frame) → S fs → S' fs) → Idle k L S'
idle_within k L S S' x f = record { f = x.f; g = x.g; rest = x.rest; split = x.split; quiet = x.quiet; kept = f _ x.kept }

pub idle_beneath : (k : Option ClassCode) (L : List Frame) (S S' : List Frame → Type 0) (f : Frame) → Idle k L S
    → ((fs : List Frame) → S fs → S' (fs ++ f ∷ [])) → Idle k (L ++ f ∷ []) S'
idle_beneath k L S S' f x go = record {
  f = x.f;
  g = x.g;
  rest = x.rest ++ f ∷ [];
  split = ap (λ l. l ++ f ∷ []) x.split;
  quiet = x.quiet;
  kept = go _ x.kept;
}
