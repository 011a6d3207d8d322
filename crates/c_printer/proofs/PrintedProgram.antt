-- The text of a lawful program spells it.
use Rattle.std.proofs.Common.{◌≡◌, refl, sym, ◌∙◌, ap, subst, ℕ, zero, suc, ◌+◌, ◌<◌, ◌≤◌, List, [], ◌∷◌, ◌++◌, length, map, true, Some, unwrap_or, slice_get, arith}
use Rattle.std.specs.List.{flat_map, enumerate_from, AllByRecursion}
use Rattle.std.proofs.lemmas.List.{append_assoc, append-nil, map-append, length-append, length-map}
use Rattle.c_syntax.specs.declared.program.FieldKind.{FieldKind}
use Rattle.c_syntax.specs.declared.program.FieldKind.TheVariants.{Number, Array, Struct}
use Rattle.c_syntax.specs.Tree.{FieldTree, StructTree, struct_fields, PureTree, ProcedureTree, ProgramTree}
use Rattle.c_syntax.specs.Names.{is_name}
use Rattle.c_grammar.specs.Tokens.{has_header, tokens_of}
use Rattle.c_grammar.specs.Grammar.{pure_spelling, all_spelling, some_spelling, struct_spelling, procedure_spelling, program_spelling, Spells}
use Rattle.c_syntax.specs.Lawful.{AreDistinct, ArePures, AreStructs, IsLawfulKind, AreLawfulStmts, AreProcedures, IsLawfulProcedure, IsLawful, pure_names, procedure_names, param_names}
use Rattle.c_printer.specs.Notes.{Notes}
use Rattle.c_printer.specs.Printing.{struct_name, pure_bytes, noted_struct_bytes, noted_procedure_bytes, noted_bytes}
use Rattle.c_syntax.proofs.lemmas.NamePlaces.{AreDistinct-name}
use Rattle.c_syntax.proofs.lemmas.NameFacts.{AreDistinct-front, AreDistinct-back}
use Rattle.c_printer.proofs.TextReading.{Reads, ◌▸◌, along, ending, reads-nothing}
use Rattle.c_printer.proofs.PrintedTrees.{pure_lines, written_pures, pures_lines, struct_lines, written_structs, structs_lines, procedure_lines, written_procedures, procedures_lines, structs_line, procedures_line, written_program}
use Rattle.c_printer.proofs.PrintedHeads.{AreKinds, pure-read, struct-read, procedure-read}
use Rattle.c_printer.proofs.PrintedScopes.{pure-speaks, procedure-speaks}

-- what is in the front of a list is in the list
pub slice_get-front : {A : Type 0} (xs ys : List A) (k : ℕ) (x : A) → slice_get xs k ≡ Some x → slice_get (xs ++ ys) k ≡ Some x
slice_get-front [] ys k x there = cc
slice_get-front (y ∷ xs) ys zero x there = there
slice_get-front (y ∷ xs) ys (suc k) x there = slice_get-front xs ys k x there

-- each pure function of a lawful program has a parameter
pub pures-some : (earlier ps : List PureTree) → ArePures earlier ps → (k : ℕ) (q : PureTree) → slice_get ps k ≡ Some q → 0 < length q.params
pures-some earlier [] h k q there = cc
pures-some earlier (p ∷ ps) h zero q there = subst (λ x. 0 < length x.params) (some_same p q there) h.0.some
  where
    some_same : {A : Type 0} (a b : A) → Some a ≡ Some b → a ≡ b
    some_same a b e = ap (λ o. unwrap_or o a) e
pures-some earlier (p ∷ ps) h (suc k) q there = pures-some (earlier ++ p ∷ []) ps h.1 k q there

-- the first of the later names is a name
later-name : (xs : List (List ℕ)) (n : List ℕ) (ys : List (List ℕ)) → AreDistinct (xs ++ n ∷ ys) → is_name n ≡ true
later-name xs n ys h = (AreDistinct-back xs (n ∷ ys) h).0

-- one element moved from the later to the earlier ones
pub moved : {A : Type 0} (whole xs : List A) (y : A) (ys : List A) → whole ≡ xs ++ y ∷ ys → whole ≡ (xs ++ y ∷ []) ++ ys
moved whole xs y ys e = e ∙ sym (append_assoc xs (y ∷ []) ys)

pures-read : (p : ProgramTree) → AreDistinct (pure_names p.pures) →
    ((k : ℕ) (q : PureTree) → slice_get p.pures k ≡ Some q → 0 < length q.params) → (earlier later : List PureTree) →
    p.pures ≡ earlier ++ later → ArePures earlier later → (l : ℕ) (rest : List ℕ) →
    Reads (all_spelling pure_spelling (written_pures p l later)) l (flat_map (pure_bytes p) later ++ rest)
    (l + pures_lines later) rest
pures-read p distinct some earlier [] whole h l rest = ending (omega arith) reads-nothing
pures-read p distinct some earlier (q ∷ qs) whole h l rest =
    let front : (k : ℕ) (x : PureTree) → slice_get earlier k ≡ Some x → 0 < length x.params =
    λ k x there.
    some k x (subst (λ ps. slice_get ps k ≡ Some x) (sym whole) (slice_get-front earlier (q ∷ qs) k x there)) in
    let name : is_name q.name ≡ true =
    later-name (pure_names earlier) q.name (pure_names qs)
    (subst AreDistinct (ap pure_names whole ∙ map-append (λ x. x.name) earlier (q ∷ qs)) distinct) in
    along (append_assoc (pure_bytes p q) (flat_map (pure_bytes p) qs) rest)
    (ending (omega arith)
    (pure-read p _ q (pure-speaks p q.params earlier (q ∷ qs) whole distinct front h.0.params) name h.0.params
    h.0.some h.0.body l (flat_map (pure_bytes p) qs ++ rest) ▸ pures-read p distinct some (earlier ++ q ∷ []) qs
    (moved p.pures earlier q qs whole) h.1 (l + pure_lines) rest))

-- the kinds of a struct's fields are lawful among more structs
more-kinds : (count total : ℕ) (fs : List FieldTree) → count ≤ total →
    AllByRecursion (λ f. IsLawfulKind count f.kind) fs → AreKinds total fs
more-kinds count total [] within h = tt
more-kinds count total (f ∷ fs) within h = (by f.kind h.0, more-kinds count total fs within h.1)
  where
    by : (kind : FieldKind) → IsLawfulKind count kind → IsLawfulKind total kind
    by (Number type) k = tt
    by (Array type many) k = k
    by (Struct n) k = omega (arith, k, within)

structs-read : (p : ProgramTree) (notes : Notes) → AreDistinct (map (λ d. d.name) p.structs) → (earlier later : List StructTree) →
    p.structs ≡ earlier ++ later → AreStructs (length earlier) later → (n l : ℕ) (rest : List ℕ) →
    Reads (all_spelling struct_spelling (written_structs p notes n l later)) l
    (flat_map (noted_struct_bytes p notes) (enumerate_from n later) ++ rest) (l + structs_lines p notes n later) rest
structs-read p notes distinct earlier [] whole h n l rest = ending (omega arith) reads-nothing
structs-read p notes distinct earlier (d ∷ ds) whole h n l rest =
    let behind : List ℕ = flat_map (noted_struct_bytes p notes) (enumerate_from (n + 1) ds) in
    let named : (k : ℕ) → k < length p.structs → is_name (struct_name p k) ≡ true =
    λ k within. AreDistinct-name (map (λ x. x.name) p.structs) k distinct
    (subst (λ n. k < n) (sym (length-map p.structs (λ x. x.name))) within) in
    let name : is_name d.name ≡ true =
    later-name (map (λ x. x.name) earlier) d.name (map (λ x. x.name) ds)
    (subst AreDistinct (ap (map (λ x. x.name)) whole ∙ map-append (λ x. x.name) earlier (d ∷ ds)) distinct) in
    let within : length earlier ≤ length p.structs = rw whole (omega (arith, length-append earlier (d ∷ ds))) in
    along (append_assoc (noted_struct_bytes p notes (n, d)) behind rest)
    (ending (omega arith)
    (struct-read p notes d named name h.0.some h.0.fields
    (more-kinds (length earlier) (length p.structs) d.fields within h.0.kinds) n l
    (behind ++ rest) ▸ structs-read p notes distinct (earlier ++ d ∷ []) ds
    (moved p.structs earlier d ds whole) (subst (λ n. AreStructs n ds) (sym (length-append earlier (d ∷ []))) h.1)
    (n + 1) (l + struct_lines p notes n d) rest))

module _ (p : ProgramTree) (lawful : IsLawful p) where
  pub pures-distinct : AreDistinct (pure_names p.pures)
  pures-distinct = AreDistinct-front (pure_names p.pures) (procedure_names p.procedures) lawful.functions

  pub procedures-distinct : AreDistinct (procedure_names p.procedures)
  procedures-distinct = AreDistinct-back (pure_names p.pures) (procedure_names p.procedures) lawful.functions

  struct-named : (k : ℕ) → k < length p.structs → is_name (struct_name p k) ≡ true
  struct-named k within =
      AreDistinct-name (map (λ x. x.name) p.structs) k lawful.struct_names
      (subst (λ n. k < n) (sym (length-map p.structs (λ x. x.name))) within)

  -- the body of a procedure, with its parameters counted by their names
  pub procedure-body : (earlier : List ProcedureTree) (q : ProcedureTree) →
      IsLawfulProcedure p.pures p.structs earlier q →
      AreLawfulStmts
      (record {
        pures = p.pures;
        structs = p.structs;
        procedures = earlier;
        fields = struct_fields p.structs q.of;
        params = length (param_names q.params);
        of = q.of;
      }) q.body
  procedure-body earlier q h =
      subst (λ n.
      AreLawfulStmts
      (record {
        pures = p.pures;
        structs = p.structs;
        procedures = earlier;
        fields = struct_fields p.structs q.of;
        params = n;
        of = q.of;
      }) q.body) (sym (length-map q.params (λ x. x.name))) h.body

  module _ (notes : Notes) where
    procedures-read : (earlier later : List ProcedureTree) → p.procedures ≡ earlier ++ later →
        AreProcedures p.pures p.structs earlier later → (n l : ℕ) (rest : List ℕ) →
        Reads (all_spelling procedure_spelling (written_procedures p notes n l later)) l
        (flat_map (noted_procedure_bytes p notes) (enumerate_from n later) ++ rest)
        (l + procedures_lines p notes n later) rest
    procedures-read earlier [] whole h n l rest = ending (omega arith) reads-nothing
    procedures-read earlier (q ∷ qs) whole h n l rest =
        let behind : List ℕ = flat_map (noted_procedure_bytes p notes) (enumerate_from (n + 1) qs) in
        let name : is_name q.name ≡ true =
        later-name (procedure_names earlier) q.name (procedure_names qs)
        (subst AreDistinct (ap procedure_names whole ∙ map-append (λ x. x.name) earlier (q ∷ qs))
        procedures-distinct) in
        along (append_assoc (noted_procedure_bytes p notes (n, q)) behind rest)
        (ending (omega arith)
        (procedure-read p notes _ q
        (procedure-speaks p q.of (param_names q.params) earlier (q ∷ qs) whole pures-distinct procedures-distinct
        lawful.structs (pures-some [] p.pures lawful.pures) h.0.params) name (struct-named q.of h.0.of) h.0.params
        (procedure-body earlier q h.0) n l (behind ++ rest) ▸ procedures-read
        (earlier ++ q ∷ []) qs (moved p.procedures earlier q qs whole) h.1 (n + 1) (l + procedure_lines p notes n q) rest))

    some-structs : (ds : List StructTree) (k : ℕ) (d : StructTree) (n l m : ℕ) (x z : List ℕ) → slice_get ds k ≡ Some d →
        Reads (all_spelling struct_spelling (written_structs p notes n l ds)) l x m z →
        Reads (some_spelling struct_spelling (written_structs p notes n l ds)) l x m z
    some-structs [] k d n l m x z there reads = cc
    some-structs (e ∷ ds) k d n l m x z there reads = record { is = reads.is }

    some-procedures : (qs : List ProcedureTree) (k : ℕ) (q : ProcedureTree) (n l m : ℕ) (x z : List ℕ) →
        slice_get qs k ≡ Some q → Reads (all_spelling procedure_spelling (written_procedures p notes n l qs)) l x m z →
        Reads (some_spelling procedure_spelling (written_procedures p notes n l qs)) l x m z
    some-procedures [] k q n l m x z there reads = cc
    some-procedures (r ∷ qs) k q n l m x z there reads = record { is = reads.is }

    pub program-read : Spells (tokens_of (noted_bytes notes p)) (written_program p notes)
    program-read =
        let a : List ℕ = flat_map (pure_bytes p) p.pures in
        let b : List ℕ = flat_map (noted_struct_bytes p notes) (enumerate_from 0 p.structs) in
        let c : List ℕ = flat_map (noted_procedure_bytes p notes) (enumerate_from 0 p.procedures) in
        let structs : ℕ = structs_line p notes in
        let procedures : ℕ = procedures_line p notes in
        let all : Reads (program_spelling (written_program p notes)) 2 ((a ++ b) ++ c)
        (procedures + procedures_lines p notes 0 p.procedures) [] =
        along (append_assoc a b c ∙ ap (λ x. a ++ (b ++ x)) (sym (append-nil c)))
        (pures-read p pures-distinct (pures-some [] p.pures lawful.pures) [] p.pures refl lawful.pures 2
        (b ++ (c ++ [])) ▸ some-structs p.structs lawful.root.of lawful.root.struct 0 structs
        procedures (b ++ (c ++ [])) (c ++ []) lawful.root.struct_there
        (structs-read p notes lawful.struct_names [] p.structs refl lawful.structs 0 structs (c ++ [])) ▸
        some-procedures p.procedures lawful.root.start lawful.root.start_procedure 0 procedures
        (procedures + procedures_lines p notes 0 p.procedures) (c ++ []) [] lawful.root.start_there
        (procedures-read [] p.procedures refl lawful.procedures 0 procedures [])) in
        all.is

    pub program-header : has_header (noted_bytes notes p) ≡ true
    program-header = refl
