-- The file of a program is decoded from its encoding, is verified, and has the program's records.
use Rattle.std.proofs.Common.{◌≡◌, ◌≢◌, refl, sym, ap, ◌∙◌, ℕ, suc, List, [], ◌∷◌, Some, None, Bool, true, false, not, ◌||◌}
use Rattle.std.proofs.Math.Logic.{∥∥₁_elim}
use denote.Struct.Props.{props}
use Rattle.std.specs.Prelude.{bytes_eq, if◌then◌else◌}
use Rattle.std.proofs.lemmas.Slice.Eq.{bytes_eq-Decides}
use Rattle.text_scan.specs.Text.{Text}
use Rattle.run_types.specs.Table.{is_among, is_distinct}
use Rattle.pool_syntax.specs.Terms.{ProgramTree}
use Rattle.pool_grammar.specs.Grammatical.{IsGrammatical}
use Rattle.pool_syntax.specs.Spelled.{is_spelled}
use Rattle.run_types.specs.declared.types.Event.{Event}
use Rattle.run_types.specs.declared.types.Placement.{Placement}
use Rattle.run_types.proofs.Laws.{first, second, not_true, neither}
use Rattle.mesh_semantics.specs.Config.{Config}
use Rattle.mesh_semantics.specs.Delay.{no_delay}
use Rattle.mesh_semantics.specs.Record.{start}
use Rattle.mesh_semantics.specs.RecordOf.{record_of, record_on_wires}
use Rattle.code_semantics.specs.declared.file.UnitFile.{UnitFile}
use Rattle.object_code.specs.FileBytes.{file_bytes}
use Rattle.object_code.specs.Decode.{first_twice, Says, unless_twice, decode}
use Rattle.code_semantics.specs.Shaped.{IsWritable}
use Rattle.code_semantics.specs.Suits.{Suits}
use Rattle.object_code.proofs.Laws.{decode_encode}
use Rattle.mesh_of_terms.specs.Terms.{terms}
use Rattle.pool_compile.specs.Code.{code}
use Rattle.pool_compile.specs.Small.{AreShort}
use Rattle.mesh_of_code.specs.Coded.{Placed, coded}
use Rattle.mesh_of_code.proofs.Laws.{code_fits}
use Rattle.compiler_correctness.specs.CheckedProgram.{IsCheckedProgram}
use Rattle.compiler_correctness.proofs.Records.{code_record, code_record_on_wires}
use Rattle.compiler_correctness.proofs.SuitsImpliesFits.{suits_fits}
use Rattle.compiler_correctness.proofs.DerivedTexts.{derived_text}
use Rattle.pool_compile.proofs.Laws.{written, some_class}
use Rattle.pool_syntax.specs.Typing.{faults}
use Rattle.compiler_correctness.proofs.DerivedChoices.{derived_choices}
use Rattle.compiler_correctness.specs.CodeRun.{IsCodeRun}
use Rattle.compiler_correctness.specs.DeclaredKinds.{file_of}
use Rattle.compiler_correctness.specs.ReachedCode.{IsReachedWhole}
use Rattle.code_typing.specs.Sorts.{Declared, declared_at}
use Rattle.code_typing.specs.Verified.{IsVerified}
use Rattle.compiler_correctness.proofs.CompiledFiles.{program_has_choices, file_is_reached, file_is_shaped, file_is_verified}
use Rattle.compiler_correctness.proofs.TypeSafety.{record_is_code_run}

-- a table of distinct texts has none twice
differ_too : (x y : Text) → bytes_eq y x ≡ false → bytes_eq x y ≡ false
differ_too x y h = by (bytes_eq x y) refl
  where
    by : (b : Bool) → bytes_eq x y ≡ b → bytes_eq x y ≡ false
    by false e = e
    by true e = absurd (let z : true ≡ false = sym ((bytes_eq-Decides y x).1 (sym ((bytes_eq-Decides x y).0 e))) ∙ h in cc)

-- none of the texts stands before
abbrev Apart : List Text → List Text → Type 0
Apart before [] = Unit {0}
Apart before (x ∷ xs) = (is_among before x ≡ false) × Apart before xs

apart_more : (before xs : List Text) (w : Text) → is_among xs w ≡ false → Apart before xs → Apart (w ∷ before) xs
apart_more before [] w h a = tt
apart_more before (x ∷ xs) w h a =
    let o = neither (bytes_eq x w) (is_among xs w) h in
    (ap (λ b. b || is_among before x) (differ_too w x o.0) ∙ a.0, apart_more before xs w o.1 a.1)

no_text_twice : (n : ℕ) (before xs : List Text) → Apart before xs → is_distinct xs ≡ true → first_twice n before xs ≡ None
no_text_twice n before [] a h = refl
no_text_twice n before (x ∷ xs) a h =
    let d = not_true (is_among xs x) (first (not (is_among xs x)) (is_distinct xs) h) in
    ap (λ b. if b then Some n else first_twice (suc n) (x ∷ before) xs) a.0
    ∙ no_text_twice (suc n) (x ∷ before) xs (apart_more before xs x d a.1) (second (not (is_among xs x)) (is_distinct xs) h)

apart_nothing : (xs : List Text) → Apart [] xs
apart_nothing [] = tt
apart_nothing (x ∷ xs) = (refl, apart_nothing xs)

-- the bytes of a file whose names are distinct say it
pub read_back : (f : UnitFile) → IsWritable f → is_distinct f.unit.names ≡ true → decode (file_bytes f) ≡ Says f
read_back f w d = decode_encode f w ∙ ap (unless_twice f) (no_text_twice 0 [] f.unit.names (apart_nothing f.unit.names) d)

-- the file of a checked program is verified
pub program_verified : (names : List Text) (p : ProgramTree) → IsCheckedProgram p → p ≢ [] → is_spelled names p ≡ true → AreShort (code p) → program_has_choices p ≡ true
    → IsVerified (file_of names p)
program_verified names p c some spelled short chosen = file_is_verified names p some c.faultless c.written spelled short chosen

-- each place of its codes is reached
program_reached : (names : List Text) (p : ProgramTree) → IsCheckedProgram p → p ≢ [] → is_spelled names p ≡ true → AreShort (code p) → program_has_choices p ≡ true
    → (j : ℕ) (k : Declared) → declared_at (file_of names p) j ≡ Some k → IsReachedWhole (file_of names p) k
program_reached names p c some spelled short chosen = file_is_reached names p some c.faultless c.written spelled short chosen

-- the record of its code has the lines of the program's, and is a run of the relation over code
pub loads_as_recorded : (names : List Text) (p : ProgramTree) (l : Placement) (q : ℕ) (es : List Event) → IsCheckedProgram p → p ≢ [] → is_spelled names p ≡ true → AreShort (code p)
    → program_has_choices p ≡ true → Suits l (file_of names p).unit
    → ((record_of (terms p) l q es).lines ≡ (record_of (coded (file_of names p).unit) l q es).lines)
    × ((c : Config Placed) × (start (coded (file_of names p).unit) l ≡ Some c) × IsCodeRun (file_of names p) l q c no_delay (record_of (coded (file_of names p).unit) l q es))
loads_as_recorded names p l q es c some spelled short chosen suits =
    let good = program_verified names p c some spelled short chosen in (
      (code_record p (file_of names p).unit c refl l q es (suits_fits p (file_of names p).unit l refl suits)).lines,
      record_is_code_run (file_of names p) (file_is_shaped names p) good l q es (code_fits (file_of names p).unit l suits),
    )

-- a program of the grammar without class faults is as a text gives it, and each select of it has an alternative
pub grammatical_checked : (p : ProgramTree) → ∥ IsGrammatical p ∥₁ → faults p ≡ [] → IsCheckedProgram p
grammatical_checked p m none = record { faultless = none; written = written p m; text = ∥∥₁_elim m (hlevel props) (λ g. derived_text g.0 p g.2) }

grammatical_choices : (p : ProgramTree) → ∥ IsGrammatical p ∥₁ → program_has_choices p ≡ true
grammatical_choices p m = ∥∥₁_elim m (hlevel props) (λ g. derived_choices g.0 p g.2)

-- the same of a program of the grammar without class faults
pub grammatical_verified : (names : List Text) (p : ProgramTree) → ∥ IsGrammatical p ∥₁ → faults p ≡ [] → is_spelled names p ≡ true → AreShort (code p) → IsVerified (file_of names p)
grammatical_verified names p m none spelled short =
    program_verified names p (grammatical_checked p m none) (some_class p m) spelled short (grammatical_choices p m)

pub grammatical_reached : (names : List Text) (p : ProgramTree) → ∥ IsGrammatical p ∥₁ → faults p ≡ [] → is_spelled names p ≡ true → AreShort (code p)
    → (j : ℕ) (k : Declared) → declared_at (file_of names p) j ≡ Some k → IsReachedWhole (file_of names p) k
grammatical_reached names p m none spelled short =
    program_reached names p (grammatical_checked p m none) (some_class p m) spelled short (grammatical_choices p m)

pub grammatical_loads : (names : List Text) (p : ProgramTree) (l : Placement) (q : ℕ) (es : List Event) → ∥ IsGrammatical p ∥₁ → faults p ≡ []
    → Suits l (file_of names p).unit → (record_of (terms p) l q es).lines ≡ (record_of (coded (file_of names p).unit) l q es).lines
grammatical_loads names p l q es m none suits =
    (code_record p (file_of names p).unit (grammatical_checked p m none) refl l q es (suits_fits p (file_of names p).unit l refl suits)).lines

-- the same lines where links are wires
pub grammatical_loads_on_wires : (names : List Text) (p : ProgramTree) (l : Placement) (q : ℕ) (es : List Event) → ∥ IsGrammatical p ∥₁ → faults p ≡ []
    → Suits l (file_of names p).unit → (record_on_wires (terms p) l q es).lines ≡ (record_on_wires (coded (file_of names p).unit) l q es).lines
grammatical_loads_on_wires names p l q es m none suits =
    (code_record_on_wires p (file_of names p).unit (grammatical_checked p m none) refl l q es (suits_fits p (file_of names p).unit l refl suits)).lines
