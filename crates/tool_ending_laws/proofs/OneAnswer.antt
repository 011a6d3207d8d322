-- A model has one verdict, a text one program or file or one error, and what is asked for comes to one status.
use Rattle.std.proofs.Common.{◌≡◌, ◌⊎◌, ℕ, inl, inr, List, [], ◌∷◌, map, refl, sym, ap, subst, ◌∙◌, arith}
use Rattle.std.specs.Prelude.{Option, Some, None, IsSomeAnd}
use Rattle.base_refusals.specs.Refusals.{PlainRefusal}
use Rattle.base_fixed_point.specs.declared.types.FixType.{FixType}
use Rattle.base_host.specs.Files.{File, lookup}
use Rattle.diagram_meaning.specs.Diagram.{Diagram}
use Rattle.diagram_meaning.specs.ResolvedTable.{ResolvedTable, diagram_of_table}
use Rattle.c_syntax.specs.declared.fault.CFault.{CFault}
use Rattle.c_syntax.specs.Tree.{ParamTree, ProcedureTree, ProgramTree}
use Rattle.c_semantics.specs.Machine.{Outcome, done, stuck}
use Rattle.c_semantics.specs.Rows.{start_run}
use Rattle.c_syntax.specs.Lawful.{IsLawful, AreDistinct, procedure_names, pure_names}
use Rattle.c_reading_laws.specs.Agreement.{ReadingsAgree}
use Rattle.c_syntax.proofs.lemmas.NameFacts.{AreDistinct-back}
use Rattle.c_checked.specs.Checked.{fix_type}
use Rattle.diagram_verdict.specs.Verdict.{Verdict, HasVerdict, Accepted, Refused as IsRefused, HasOneVerdict}
use Rattle.lustre_syntax.specs.Tree.{FileTree}
use Rattle.lustre_rules.specs.Reading.{LustreText, LustreFaultOf}
use Rattle.lustre_reading_laws.specs.ReadingLaws.{HasOneReading, HasOneFault, TextsAreJudged}
use Rattle.lustre_right.specs.LongDelays.{long_delay}
use Rattle.tool_compiled.specs.Compilation.{root_types}
use Rattle.tool_generator.specs.Models.{model_text}
use Rattle.tool_driver.specs.Shapes.{Shape}
use Rattle.tool_system_driver.specs.SystemShapes.{ShapesAreOne}
use Rattle.tool_system_driver.specs.Words.{system_named}
use Rattle.tool_script_runner.specs.ScriptEnds.{script_end}
use Rattle.tool_words.specs.Words.{Asked, Compile, Run, Exec, Profile, Drive, Gen, Lustre, Flow}
use Rattle.tool_endings.specs.Runs.{HasStepTypes, bad_line}
use Rattle.tool_endings.specs.Statuses.{ModelComes, ProgramComes, CodeComes, Comes, run_status, status_over, status_at, SystemComes, DriveComes, lustre_status, flow_status_over, FlowComes}
use Rattle.tool_endings.proofs.lemmas.StepTypes.{one_place}

-- ---- Verdicts

abbrev pub OneVerdict : Type 0
OneVerdict = (bytes : List ℕ) → HasOneVerdict bytes

one_only : OneVerdict → (model : List ℕ) (v w : Verdict) → HasVerdict model v → HasVerdict model w → v ≡ w
one_only one model v w is_v is_w = let only = (one model).2 in only v is_v ∙ sym (only w is_w)

pub accepted_only : OneVerdict → (model : List ℕ) (d : ResolvedTable) (refusal : PlainRefusal) →
    HasVerdict model (Accepted d) → HasVerdict model (IsRefused refusal) → ⊥
accepted_only one model d refusal a r =
    let e : Accepted d ≡ IsRefused refusal = one_only one model (Accepted d) (IsRefused refusal) a r in cc

pub same_resolution : OneVerdict → (model : List ℕ) (d other : ResolvedTable) → HasVerdict model (Accepted d) →
    HasVerdict model (Accepted other) → d ≡ other
same_resolution one model d other a b =
    let e : Accepted d ≡ Accepted other = one_only one model (Accepted d) (Accepted other) a b in cc

pub same_refusal : OneVerdict → (model : List ℕ) (r q : PlainRefusal) → HasVerdict model (IsRefused r) →
    HasVerdict model (IsRefused q) → r ≡ q
same_refusal one model r q a b =
    let e : IsRefused r ≡ IsRefused q = one_only one model (IsRefused r) (IsRefused q) a b in cc

-- ---- The types of `root_step`

somes-same : (a b : List FixType) → map Some a ≡ map Some b → a ≡ b
somes-same [] [] e = refl
somes-same [] (y ∷ ys) e = absurd (cc)
somes-same (x ∷ xs) [] e = absurd (cc)
somes-same (x ∷ xs) (y ∷ ys) e =
    let first : Some x ≡ Some y = cc in
    let same : x ≡ y = cc in
    let rest : map Some xs ≡ map Some ys = cc in
    let more : xs ≡ ys = somes-same xs ys rest in
    cc

pub same_types : (p : ProgramTree) (a b : List FixType) → IsLawful p → HasStepTypes p a → HasStepTypes p b → a ≡ b
same_types p a b lawful h k =
    let distinct : AreDistinct (procedure_names p.procedures) =
    AreDistinct-back (pure_names p.pures) (procedure_names p.procedures) lawful.functions in
    let same : h.step ≡ k.step = one_place p.procedures h.place k.place h.step k.step distinct h.there k.there (h.named ∙ sym k.named) in
    somes-same a b (sym h.inputs ∙ ap (λ (q : ProcedureTree). map (λ (x : ParamTree). fix_type x.type) q.params) same ∙ k.inputs)

-- ---- Files of Lustre

module _ (judged : TextsAreJudged) (bytes : List ℕ) where
  pub same_file : (f g : FileTree) → LustreText bytes f → LustreText bytes g → f ≡ g
  same_file f g a b = by (judged bytes)
    where
      by : HasOneReading bytes ⊎ HasOneFault bytes → f ≡ g
      by (inl r) = r.one f a ∙ sym (r.one g b)
      by (inr r) = absurd (r.unread f a)

  pub same_fault : (fault other : CFault) → LustreFaultOf bytes fault → LustreFaultOf bytes other → fault ≡ other
  same_fault fault other a b = by (judged bytes)
    where
      by : HasOneReading bytes ⊎ HasOneFault bytes → fault ≡ other
      by (inl r) = absurd (r.faultless fault a)
      by (inr r) = r.one fault a ∙ sym (r.one other b)

  pub read_only : (f : FileTree) (fault : CFault) → LustreText bytes f → LustreFaultOf bytes fault → ⊥
  read_only f fault a b = by (judged bytes)
    where
      by : HasOneReading bytes ⊎ HasOneFault bytes → ⊥
      by (inl r) = r.faultless fault b
      by (inr r) = r.unread f a

-- ---- Statuses

model-one : OneVerdict → (model : List ℕ) (n m : ℕ) {P Q : Diagram → Type 0} → ((d : Diagram) → P d → Q d → n ≡ m) →
    ModelComes model n P → ModelComes model m Q → n ≡ m
model-one one model n m both (inl (r, is, n-is)) (inl (q, also, m-is)) = n-is ∙ sym m-is
model-one one model n m both (inl (r, is, n-is)) (inr (d, also, m-is)) = absurd (accepted_only one model d r also is)
model-one one model n m both (inr (d, is, n-is)) (inl (r, also, m-is)) = absurd (accepted_only one model d r is also)
model-one one model n m {P} {Q} both (inr (d, is, n-is)) (inr (other, also, m-is)) =
    both (diagram_of_table d) n-is (subst (λ (x : ResolvedTable). Q (diagram_of_table x)) (same_resolution one model other d also is) m-is)

some-one : (o : Option (List ℕ)) (n m : ℕ) {P Q : List ℕ → Type 0} → IsSomeAnd o P → IsSomeAnd o Q →
    ((bytes : List ℕ) → P bytes → Q bytes → n ≡ m) → n ≡ m
some-one None n m h k both = absurd h
some-one (Some bytes) n m h k both = both bytes h k

outcome-one : (p : ProgramTree) (o : Outcome) (trace : Option (List ℕ)) (n m : ℕ) → IsLawful p →
    ProgramComes p o trace n → ProgramComes p o trace m → n ≡ m
outcome-one p (stuck at cells) trace n m lawful h k = h ∙ sym k
outcome-one p (done after) trace n m lawful (a, is, h) (b, also, k) =
    some-one trace n m h k (λ bytes x y. x
    ∙ ap (λ (types : List FixType). status_over p types bytes) (same_types p a b lawful is also) ∙ sym y)

code-one : ReadingsAgree → (code : List ℕ) (trace : Option (List ℕ)) (n m : ℕ) → CodeComes code trace n → CodeComes code trace m → n ≡ m
code-one agree code trace n m (inl (long, h)) (inl (also, k)) = h ∙ sym k
code-one agree code trace n m (inl (long, h)) (inr (inl (fits, k))) = absurd (omega (arith, long, fits))
code-one agree code trace n m (inl (long, h)) (inr (inr (fits, k))) = absurd (omega (arith, long, fits))
code-one agree code trace n m (inr (inl (fits, h))) (inl (long, k)) = absurd (omega (arith, long, fits))
code-one agree code trace n m (inr (inr (fits, h))) (inl (long, k)) = absurd (omega (arith, long, fits))
code-one agree code trace n m (inr (inl (fits, (f, is, h)))) (inr (inl (also, (g, too, k)))) = h ∙ sym k
code-one agree code trace n m (inr (inl (fits, (f, is, h)))) (inr (inr (also, (p, text, k)))) = absurd (agree.apart code p f text is)
code-one agree code trace n m (inr (inr (fits, (p, text, h)))) (inr (inl (also, (f, is, k)))) = absurd (agree.apart code p f text is)
code-one agree code trace n m (inr (inr (fits, (p, text, h)))) (inr (inr (also, (q, too, k)))) =
    let same : q ≡ p = agree.one code q p too text in
    outcome-one p (start_run p) trace n m (agree.lawful code p text) h
    (subst (λ (x : ProgramTree). ProgramComes x (start_run x) trace m) same k)

system-one : ShapesAreOne → (r : ResolvedTable) (system : Option (Option ℕ)) (script : Option (List ℕ)) (n m : ℕ) →
    SystemComes r system script n → SystemComes r system script m → n ≡ m
system-one shapes r None script n m h k = h ∙ sym k
system-one shapes r (Some system) script n m (a, is, h) (b, also, k) =
    some-one script n m h k (λ lines x y.
    x ∙ ap (λ (shape : Shape). status_at (script_end shape lines)) (shapes.one r system a b is also) ∙ sym y)

drive-one : OneVerdict → ShapesAreOne → (model word : List ℕ) (script : Option (List ℕ)) (n m : ℕ) →
    DriveComes model word script n → DriveComes model word script m → n ≡ m
drive-one one shapes model word script n m (inl (r, is, n-is)) (inl (q, also, m-is)) = n-is ∙ sym m-is
drive-one one shapes model word script n m (inl (q, is, n-is)) (inr (r, also, h)) = absurd (accepted_only one model r q also is)
drive-one one shapes model word script n m (inr (r, is, h)) (inl (q, also, m-is)) = absurd (accepted_only one model r q is also)
drive-one one shapes model word script n m (inr (r, is, h)) (inr (other, also, k)) =
    system-one shapes r (system_named r.table.rows word) script n m h
    (subst (λ (x : ResolvedTable). SystemComes x (system_named x.table.rows word) script m) (same_resolution one model other r also is) k)

flow-one : TextsAreJudged → (bytes : List ℕ) (trace : Option (List ℕ)) (n m : ℕ) → FlowComes bytes trace n → FlowComes bytes trace m →
    n ≡ m
flow-one judged bytes trace n m (inl (long, h)) (inl (also, k)) = h ∙ sym k
flow-one judged bytes trace n m (inl (long, h)) (inr (inl (fits, k))) = absurd (omega (arith, long, fits))
flow-one judged bytes trace n m (inl (long, h)) (inr (inr (y, k))) = let fits = y.fits in absurd (omega (arith, long, fits))
flow-one judged bytes trace n m (inr (inl (fits, h))) (inl (long, k)) = absurd (omega (arith, long, fits))
flow-one judged bytes trace n m (inr (inr (x, h))) (inl (long, k)) = let fits = x.fits in absurd (omega (arith, long, fits))
flow-one judged bytes trace n m (inr (inl (fits, (f, is, h)))) (inr (inl (also, (g, too, k)))) = h ∙ sym k
flow-one judged bytes trace n m (inr (inl (fits, (f, is, h)))) (inr (inr (y, k))) = absurd (read_only judged bytes y.tree f y.reading is)
flow-one judged bytes trace n m (inr (inr (x, h))) (inr (inl (also, (g, is, k)))) = absurd (read_only judged bytes x.tree g x.reading is)
flow-one judged bytes trace n m (inr (inr (x, h))) (inr (inr (y, k))) =
    some-one trace n m h k (λ lines u v.
    u ∙ ap (λ (f : FileTree). flow_status_over f lines) (same_file judged bytes x.tree y.tree x.reading y.reading) ∙ sym v)

-- the status of a run of a diagram's code over the trace of this name
abbrev RunComes : List ℕ → List File → ℕ → Diagram → Type 0
RunComes trace fs n d = IsSomeAnd (lookup trace fs) (λ lines. n ≡ run_status None (bad_line (root_types d) lines))

-- what is asked for comes to one status
pub comes-one : OneVerdict → ReadingsAgree → TextsAreJudged → ShapesAreOne → (a : Asked) (fs : List File) (n m : ℕ) → Comes a fs n →
    Comes a fs m → n ≡ m
comes-one one agree judged shapes (Compile model code) fs n m h k =
    some-one (lookup model fs) n m h k (λ bytes x y. model-one one bytes n m {P = λ d. n ≡ 0} {Q = λ d. m ≡ 0} (λ d p q. p ∙ sym q) x y)
comes-one one agree judged shapes (Run model code trace) fs n m h k =
    some-one (lookup model fs) n m h k
    (λ bytes x y. model-one one bytes n m {P = RunComes trace fs n} {Q = RunComes trace fs m}
    (λ d p q. some-one (lookup trace fs) n m p q (λ lines u v. u ∙ sym v)) x y)
comes-one one agree judged shapes (Exec code trace) fs n m h k =
    some-one (lookup code fs) n m h k (λ bytes x y. code-one agree bytes (lookup trace fs) n m x y)
comes-one one agree judged shapes (Profile model) fs n m h k =
    some-one (lookup model fs) n m h k (λ bytes x y. model-one one bytes n m {P = λ d. n ≡ 0} {Q = λ d. m ≡ 0} (λ d p q. p ∙ sym q) x y)
comes-one one agree judged shapes (Drive model code word script) fs n m h k =
    some-one (lookup model fs) n m h k (λ bytes x y. drive-one one shapes bytes word (lookup script fs) n m x y)
comes-one one agree judged shapes (Gen start size model code) fs n m h k =
    model-one one (model_text start size) n m {P = λ d. n ≡ 0} {Q = λ d. m ≡ 0} (λ d p q. p ∙ sym q) h k
comes-one one agree judged shapes (Lustre model file) fs n m h k =
    some-one (lookup model fs) n m h k (λ bytes x y.
    model-one one bytes n m {P = λ d. n ≡ lustre_status (long_delay d)} {Q = λ d. m ≡ lustre_status (long_delay d)}
    (λ d p q. p ∙ sym q) x y)
comes-one one agree judged shapes (Flow file trace) fs n m h k =
    some-one (lookup file fs) n m h k (λ bytes x y. flow-one judged bytes (lookup trace fs) n m x y)
