-- The rows that a machine reports, node by node and slot by slot.
use Rattle.std.proofs.Common.{◌≡◌, ◌∙◌, ◌+◌, ◌*◌, ◌<◌, ◌≤◌, ◌-◌, ◌/◌, ◌%◌, ◌++◌, ℕ, List, [], ◌∷◌, Option, Some, None, refl, sym, ap, subst, arith}
use Rattle.std.specs.Option.{option_map}
use Rattle.std.proofs.lemmas.List.{map-append}
use Rattle.run_types.specs.declared.types.NameId.{NameId}
use Rattle.run_types.specs.declared.types.Placement.{Placement}
use Rattle.run_types.specs.declared.types.Standing.{Standing}
use Rattle.run_types.specs.declared.types.Standing.TheVariants as Z
use Rattle.code_semantics.specs.declared.unit.Unit.{Unit as Code}
use Rattle.mesh_semantics.specs.Act.{id, object_count}
use Rattle.mesh_semantics.specs.Config.{Config, object_of}
use Rattle.mesh_semantics.specs.Delay.{Delay}
use Rattle.run_types.specs.ObjectNames.{node_of, slot_of}
use Rattle.run_types.specs.Partial.{◌>>=◌}
use Rattle.mesh_semantics.specs.Sound.{IsSound}
use Rattle.mesh_semantics.specs.Standing as T
use Rattle.mesh_semantics.specs.Standing.{standing}
use Rattle.run_types.proofs.Laws.{same_some}
use Rattle.mesh_of_code.specs.Coded.{Placed, coded}
use Rattle.mesh_of_code.specs.CodeInvariant.{IsOfCode}
use Rattle.pool_node.specs.Standings.{told_standing}
use Rattle.pool_machine.specs.Answers.{class_at, standing_at}
use Rattle.wait_report.specs.declared.rows.ObjectRow.{ObjectRow}
use Rattle.run_loop.specs.Reports.{row_in, standing_word}
use Rattle.run_loop.specs.ReportRows.{below, row_at, rows_below, rows_in}
use Rattle.run_loop.proofs.RowLaws.{DoRise, below_all_of, below_gap, below_none, below_one, rises}

-- a standing that is told, and the other way round

pub word_of_told : (s : Standing) → standing_word (told_standing s) ≡ s
word_of_told Z.Ready = refl
word_of_told Z.Finished = refl
word_of_told (Z.Faulted e) = refl
word_of_told (Z.Calls b m) = refl
word_of_told (Z.Creates k node) = refl
word_of_told Z.Due = refl
word_of_told Z.Awaits = refl

module _ (u : Code) (c : Config Placed) (d : Delay) where
  -- the row of a name, by the machine's answers

  pub row_none : (o : ℕ) (k : Option NameId) → option_map (λ (n : NameId). n.0) k ≡ class_at u c o → k ≡ None → row_at u c d o ≡ None
  row_none o k h e = by (object_of c o) refl
    where
      by : (x : Option Placed) → object_of c o ≡ x → row_at u c d o ≡ None
      by None i = ap (λ (z : Option Placed). z >>= λ x. Some (row_in (coded u) d (o, x))) i
      by (Some x) i =
          absurd (let z : None ≡ Some ((coded u).class x) = ap (option_map (λ (n : NameId). n.0)) (sym e) ∙ h ∙ ap (λ (y : Option Placed). y >>= λ x. Some ((coded u).class x)) i in cc)

  pub row_still_none : (o : ℕ) (s : Option Standing) → option_map told_standing s ≡ standing_at u c d o → s ≡ None → row_at u c d o ≡ None
  row_still_none o s h e = by (object_of c o) refl
    where
      by : (x : Option Placed) → object_of c o ≡ x → row_at u c d o ≡ None
      by None i = ap (λ (z : Option Placed). z >>= λ x. Some (row_in (coded u) d (o, x))) i
      by (Some x) i =
          absurd (let z : None ≡ Some (standing (coded u) d o x) = ap (option_map told_standing) (sym e) ∙ h ∙ ap (λ (y : Option Placed). y >>= λ x. Some (standing (coded u) d o x)) i in cc)

  pub row_some : (o : ℕ) (k : NameId) (s : Standing) → Some k.0 ≡ class_at u c o → Some (told_standing s) ≡ standing_at u c d o
      → Some (record { name = o; class = k; standing = s }) ≡ row_at u c d o
  row_some o k s h e = by (object_of c o) refl
    where
      by : (x : Option Placed) → object_of c o ≡ x → Some (record { name = o; class = k; standing = s }) ≡ row_at u c d o
      by None i = absurd (let z : Some k.0 ≡ None = h ∙ ap (λ (y : Option Placed). y >>= λ x. Some ((coded u).class x)) i in cc)
      by (Some x) i =
          let class : k.0 ≡ (coded u).class x = same_some (h ∙ ap (λ (y : Option Placed). y >>= λ x. Some ((coded u).class x)) i) in
          let stand : told_standing s ≡ standing (coded u) d o x = same_some (e ∙ ap (λ (y : Option Placed). y >>= λ x. Some (standing (coded u) d o x)) i) in
          ap (λ (n : ℕ). Some (record { name = o; class = id n; standing = s })) class
          ∙ ap (λ (z : Standing). Some (record { name = o; class = id ((coded u).class x); standing = z })) (sym (word_of_told s) ∙ ap standing_word stand)
          ∙ sym (ap (λ (z : Option Placed). z >>= λ x. Some (row_in (coded u) d (o, x))) i)

  -- the rows below the next name

  pub rows_one : (n : ℕ) (row : ObjectRow) → DoRise c.objects → Some row ≡ row_at u c d n → rows_below u c d (n + 1) ≡ rows_below u c d n ++ row ∷ []
  rows_one n row r h = by (object_of c n) refl
    where
      by : (x : Option Placed) → object_of c n ≡ x → rows_below u c d (n + 1) ≡ rows_below u c d n ++ row ∷ []
      by None i = absurd (let z : Some row ≡ None = h ∙ ap (λ (z : Option Placed). z >>= λ x. Some (row_in (coded u) d (n, x))) i in cc)
      by (Some x) i =
          let is : row ≡ row_in (coded u) d (n, x) = same_some (h ∙ ap (λ (z : Option Placed). z >>= λ x. Some (row_in (coded u) d (n, x))) i) in
          ap (rows_in (coded u) d) (below_one n x c.objects r i) ∙ map-append (row_in (coded u) d) (below n c.objects) ((n, x) ∷ [])
          ∙ ap (λ (z : ObjectRow). rows_below u c d n ++ z ∷ []) (sym is)

  pub rows_same : (n : ℕ) → None ≡ row_at u c d n → rows_below u c d (n + 1) ≡ rows_below u c d n
  rows_same n h = by (object_of c n) refl
    where
      by : (x : Option Placed) → object_of c n ≡ x → rows_below u c d (n + 1) ≡ rows_below u c d n
      by None i = ap (rows_in (coded u) d) (below_none n c.objects i)
      by (Some x) i = absurd (let z : None ≡ Some (row_in (coded u) d (n, x)) = h ∙ ap (λ (z : Option Placed). z >>= λ x. Some (row_in (coded u) d (n, x))) i in cc)

  pub next_same : (rows new : List ObjectRow) (n m : ℕ) → m ≡ n + 1 → rows ≡ rows_below u c d n → new ≡ rows → None ≡ row_at u c d n → new ≡ rows_below u c d m
  next_same rows new n m e h p is = p ∙ h ∙ sym (rows_same n is) ∙ ap (rows_below u c d) (sym e)

  module _ (l : Placement) (sound : IsSound (coded u) (IsOfCode u) l c d) where
    pub do_rise : DoRise c.objects
    do_rise = rises c.objects sound.state.typed.in_order

    -- the rows below the next name, by what was put
    pub next_one : (rows new : List ObjectRow) (n m : ℕ) (row : ObjectRow) → m ≡ n + 1 → rows ≡ rows_below u c d n → new ≡ rows ++ row ∷ [] → Some row ≡ row_at u c d n → new ≡ rows_below u c d m
    next_one rows new n m row e h p is =
        p ∙ ap (λ (z : List ObjectRow). z ++ row ∷ []) h ∙ sym (rows_one n row do_rise is) ∙ ap (rows_below u c d) (sym e)

    node_is : (o node : ℕ) → node * 65536 ≤ o → o < node * 65536 + 65536 → o / 65536 ≡ node
    node_is o node a b = omega (arith, a, b)

    slot_is : (o node count : ℕ) → node * 65536 + count ≤ o → o < node * 65536 + 65536 → o % 65536 < count → ⊥
    slot_is o node count a b h = omega (arith, a, b, h)

    -- no object of a node is behind as many slots as it has objects
    no_more : (node count o : ℕ) → count ≡ object_count c node → node * 65536 + count ≤ o → o < node * 65536 + 65536 → object_of c o ≡ None
    no_more node count o e a b = by (object_of c o) refl
      where
        by : (x : Option Placed) → object_of c o ≡ x → object_of c o ≡ None
        by None i = i
        by (Some x) i =
            let there = (sound.state.names o (x, i)).1 in
            let at : node_of o ≡ node = node_is o node (omega (arith, a)) b in
            let few : slot_of o < count = subst (λ (k : ℕ). slot_of o < k) (ap (object_count c) at ∙ sym e) there in
            absurd (slot_is o node count a b few)

    pub rows_node : (node count : ℕ) → count ≡ object_count c node → count ≤ 4096 → rows_below u c d (node * 65536 + count) ≡ rows_below u c d ((node + 1) * 65536)
    rows_node node count e few =
        ap (rows_in (coded u) d)
        (sym (below_gap rest (node * 65536 + count) c.objects (λ o a b. no_more node count o e a (reach o b))) ∙ ap (λ (n : ℕ). below n c.objects) all)
      where
        rest : ℕ
        rest = 65536 - count

        all : (node * 65536 + count) + rest ≡ (node + 1) * 65536
        all = omega (arith, few)

        reach : (o : ℕ) → o < (node * 65536 + count) + rest → o < node * 65536 + 65536
        reach o b = omega (arith, few, b)

    pub rows_all : (n : ℕ) → l.width * l.height ≤ n → rows_below u c d (n * 65536) ≡ rows_in (coded u) d c.objects
    rows_all n h = ap (rows_in (coded u) d) (below_all_of (n * 65536) c.objects (λ o x i. within o (l.width * l.height) (sound.state.names o (x, i)).0 h) do_rise)
      where
        within : (o k : ℕ) → node_of o < k → k ≤ n → o < n * 65536
        within o k a b = omega (arith, a, b)
