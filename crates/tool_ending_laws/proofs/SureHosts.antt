-- A host that doesn't fail is sure of each file that is read where what is asked for can be done.
use Rattle.std.proofs.Common.{◌≡◌, ℕ, List, refl, ap, ◌∙◌}
use Rattle.std.specs.Prelude.{true, Option, Some, None, IfSome, IsSomeAnd, is_some}
use Rattle.base_host.specs.Fakes.{SureHostState}
use Rattle.base_host.specs.Files.{File, lookup}
use Rattle.diagram_meaning.specs.ResolvedTable.{ResolvedTable}
use Rattle.tool_system_driver.specs.Words.{system_named}
use Rattle.tool_words.specs.Words.{Asked, Compile, Run, Exec, Profile, Drive, Gen, Lustre, Flow}
use Rattle.tool_endings.specs.Completeness.{CanDrive, CanDo, first_file, second_file, IsSureOf}
use Rattle.tool_ending_laws.specs.Laws.{told_files, has_file}

is-there : (o : Option (List ℕ)) (P : List ℕ → Type 0) → IsSomeAnd o P → is_some o ≡ true
is-there None P h = absurd h
is-there (Some bytes) P h = refl

inside : (o : Option (List ℕ)) {P : List ℕ → Type 0} {Q : Type 0} → IsSomeAnd o P → ((bytes : List ℕ) → P bytes → Q) → Q
inside None h q = absurd h
inside (Some bytes) h q = q bytes h

first-there : (a : Asked) (fs : List File) → CanDo a fs → IfSome (first_file a) (λ name. is_some (lookup name fs) ≡ true)
first-there (Compile model code) fs can = is-there (lookup model fs) _ can
first-there (Run model code trace) fs can = is-there (lookup model fs) _ can
first-there (Exec code trace) fs can = is-there (lookup code fs) _ can
first-there (Profile model) fs can = is-there (lookup model fs) _ can
first-there (Drive model code word script) fs can = is-there (lookup model fs) _ can
first-there (Gen start size model code) fs can = tt
first-there (Lustre model file) fs can = is-there (lookup model fs) _ can
first-there (Flow file trace) fs can = is-there (lookup file fs) _ can

script-there : (r : ResolvedTable) (system : Option (Option ℕ)) (script : Option (List ℕ)) → CanDrive r system script →
    is_some script ≡ true
script-there r None script can = absurd can
script-there r (Some system) script can = is-there script _ can.2

second-there : (a : Asked) (fs : List File) → CanDo a fs → IfSome (second_file a) (λ name. is_some (lookup name fs) ≡ true)
second-there (Compile model code) fs can = tt
second-there (Run model code trace) fs can = inside (lookup model fs) can (λ bytes x. is-there (lookup trace fs) _ x.2)
second-there (Exec code trace) fs can = inside (lookup code fs) can (λ bytes x. is-there (lookup trace fs) _ x.runs)
second-there (Profile model) fs can = tt
second-there (Drive model code word script) fs can =
    inside (lookup model fs) can (λ bytes x. script-there x.0 (system_named x.0.table.rows word) (lookup script fs) x.2)
second-there (Gen start size model code) fs can = tt
second-there (Lustre model file) fs can = tt
second-there (Flow file trace) fs can = inside (lookup file fs) can (λ bytes x. is-there (lookup trace fs) _ x.runs)

pub sure-of : (h : SureHostState) (a : Asked) → CanDo a h.files → IsSureOf told_files has_file h a
sure-of h a can = record { first = first-there a h.files can; second = by (second_file a) (second-there a h.files can) }
  where
    same : (later : SureHostState) → Some later.files ≡ Some h.files → later.files ≡ h.files
    same later e = cc

    by : (o : Option (List ℕ)) → IfSome o (λ name. is_some (lookup name h.files) ≡ true) →
        IfSome o (λ name. (later : SureHostState) → Some later.files ≡ Some h.files →
        is_some (lookup name later.files) ≡ true)
    by None there = tt
    by (Some name) there = λ later e. ap (λ (fs : List File). is_some (lookup name fs)) (same later e) ∙ there
