-- The texts of definitions spell what they are printed from.
use Rattle.std.proofs.Common.{◌≡◌, refl, ap, ℕ, ◌+◌, ◌<◌, List, [], ◌∷◌, ◌++◌, length, map, Bool, true, false, codes, decimal, arith}
use Rattle.std.specs.List.{flat_map, enumerate_from}
use Rattle.std.proofs.lemmas.List.{append_assoc}
use Rattle.base_core.specs.Numbers.{reported_number}
use Rattle.c_syntax.specs.declared.code.CType.TheVariants.{I64}
use Rattle.c_syntax.specs.declared.program.FieldKind.{FieldKind}
use Rattle.c_syntax.specs.declared.program.FieldKind.TheVariants.{Number, Array, Struct}
use Rattle.c_syntax.specs.Tree.{FieldTree, StructTree, PureTree, ParamTree, ProcedureTree, ProgramTree}
use Rattle.c_syntax.specs.Names.{is_name}
use Rattle.c_grammar.specs.Grammar.{at_line, type_text, more_params_spelling, pure_param_spelling, more_pure_params_spelling, pure_params_spelling, pure_spelling, kind_spelling, length_spelling, field_spelling, all_spelling, some_spelling, struct_spelling, private_spelling, procedure_spelling}
use Rattle.c_syntax.specs.Lawful.{Reach, IsLawfulExpr, AreLawfulStmts, AreDistinct, IsLawfulKind}
use Rattle.c_printer.specs.Lines.{ended, note_line}
use Rattle.c_printer.specs.Notes.{Notes, note_at, notes_on}
use Rattle.c_printer.specs.Printing.{struct_name, later_pure_params_bytes, pure_params_bytes, pure_bytes, kind_bytes, length_bytes, field_bytes, noted_field_bytes, noted_struct_bytes, private_bytes, param_bytes, noted_procedure_bytes, expr_bytes, noted_stmts_bytes, Vocabulary}
use Rattle.c_printer.proofs.Lexing.{IsTokenBefore}
use Rattle.c_printer.proofs.TextReading.{Reads, ◌▸◌, along, ending, reads-nothing, spaced, lined, line_ended, reads-word, reads-line, reads-name, reads-literal, comma, semicolon, star, sign, parens, brackets, braces, type-token_space}
use Rattle.c_printer.proofs.NotedLines.{note-read, noted-read}
use Rattle.c_printer.proofs.PrintedTrees.{written_pure, written_kind, field_above, written_fields, fields_lines, head_line, written_struct, struct_lines, written_param, body_vocabulary, written_procedure, procedure_lines, pure_lines}
use Rattle.c_printer.proofs.PrintedBodies.{Speaks, Ends, s-ends, expr-read, stmts-read}

-- texts one after the other
six : (a b c d e f z : List ℕ) → (((((a ++ b) ++ c) ++ d) ++ e) ++ f) ++ z ≡ a ++ (b ++ (c ++ (d ++ (e ++ (f ++ z)))))
six a b c d e f z = simp append_assoc

nine : (a b c d e f g h i z : List ℕ) → ((((((((a ++ b) ++ c) ++ d) ++ e) ++ f) ++ g) ++ h) ++ i) ++ z ≡ a
    ++ (b ++ (c ++ (d ++ (e ++ (f ++ (g ++ (h ++ (i ++ z))))))))
nine a b c d e f g h i z = simp append_assoc

ten : (a b c d e f g h i j z : List ℕ) → (((((((((a ++ b) ++ c) ++ d) ++ e) ++ f) ++ g) ++ h) ++ i) ++ j) ++ z ≡ a
    ++ (b ++ (c ++ (d ++ (e ++ (f ++ (g ++ (h ++ (i ++ (j ++ z)))))))))
ten a b c d e f g h i j z = simp append_assoc

static-token : (rest : List ℕ) → IsTokenBefore (codes "static") (32 ∷ rest)
static-token rest = record { first = 115; later = codes "tatic"; list = refl; piece = refl; one_line = λ line. refl }

void-token : (rest : List ℕ) → IsTokenBefore (codes "void") (32 ∷ rest)
void-token rest = record { first = 118; later = codes "oid"; list = refl; piece = refl; one_line = λ line. refl }

return-token : (rest : List ℕ) → IsTokenBefore (codes "return") (32 ∷ rest)
return-token rest = record { first = 114; later = codes "eturn"; list = refl; piece = refl; one_line = λ line. refl }

struct-token : (rest : List ℕ) → IsTokenBefore (codes "struct") (32 ∷ rest)
struct-token rest = record { first = 115; later = codes "truct"; list = refl; piece = refl; one_line = λ line. refl }

-- a parameter of a pure function
pure_param-read : (l : ℕ) (name rest : List ℕ) → is_name name ≡ true → Ends rest →
    Reads (pure_param_spelling (record { line = reported_number l; name = name })) l
    (codes "int64_t " ++ (name ++ rest)) l rest
pure_param-read l name rest named ends =
    reads-line (codes "int64_t") (32 ∷ (name ++ rest)) (type-token_space I64 (name ++ rest))
    (reads-word (codes "int64_t") (32 ∷ (name ++ rest)) (type-token_space I64 (name ++ rest))) ▸ spaced
    (reads-name name rest named ends)

later_pure_params-ends : (names : List (List ℕ)) (z : List ℕ) → Ends (later_pure_params_bytes names ++ 41 ∷ z)
later_pure_params-ends [] z = refl
later_pure_params-ends (n ∷ ns) z = refl

listed : (a n f z : List ℕ) → ((a ++ n) ++ f) ++ z ≡ a ++ (n ++ (f ++ z))
listed a n f z = simp append_assoc

later_pure_params-read : (l : ℕ) (names : List (List ℕ)) (z : List ℕ) → AreDistinct names →
    Reads (more_pure_params_spelling (map (λ name. record { line = reported_number l; name = name }) names)) l
    (later_pure_params_bytes names ++ 41 ∷ z) l (41 ∷ z)
later_pure_params-read l [] z h = reads-nothing
later_pure_params-read l (n ∷ ns) z h =
    along (listed (codes ", int64_t ") n (later_pure_params_bytes ns) (41 ∷ z))
    (sign comma ▸ spaced
    (pure_param-read l n (later_pure_params_bytes ns ++ 41 ∷ z) h.0 (later_pure_params-ends ns z)) ▸
    later_pure_params-read l ns z h.2)

pure_params-read : (l : ℕ) (names : List (List ℕ)) (z : List ℕ) → 0 < length names → AreDistinct names →
    Reads (pure_params_spelling (map (λ name. record { line = reported_number l; name = name }) names)) l
    (pure_params_bytes names ++ 41 ∷ z) l (41 ∷ z)
pure_params-read l [] z some h = absurd (omega (arith, some))
pure_params-read l (n ∷ ns) z some h =
    along (listed (codes "int64_t ") n (later_pure_params_bytes ns) (41 ∷ z))
    (pure_param-read l n (later_pure_params_bytes ns ++ 41 ∷ z) h.0
    (later_pure_params-ends ns z) ▸ later_pure_params-read l ns z h.2)

pure_shape : (n p e z : List ℕ) →
    (((((((ended [] ++ codes "static int64_t ") ++ n) ++ codes "(") ++ p) ++ ended (codes ") {"))
    ++ codes "    return ") ++ e) ++ ended (codes ";") ++ ended (codes "}") ++ z
    ≡ 10 ∷ (codes "static" ++ 32
    ∷ (codes "int64_t" ++ 32
    ∷ (n ++ 40
    ∷ (p ++ 41 ∷ 32 ∷ 123 ∷ 10 ∷ 32 ∷ 32 ∷ 32 ∷ 32 ∷ (codes "return" ++ 32 ∷ (e ++ 59 ∷ 10 ∷ 125 ∷ 10 ∷ z))))))
pure_shape n p e z =
    nine (ended [] ++ codes "static int64_t ") n (codes "(") p (ended (codes ") {")) (codes "    return ") e
    (ended (codes ";")) (ended (codes "}")) z

pub pure-read : (p : ProgramTree) (reach : Reach) (q : PureTree) →
    Speaks (record { program = p; fields = []; params = q.params }) reach → is_name q.name ≡ true →
    AreDistinct q.params → 0 < length q.params → IsLawfulExpr reach q.body → (l : ℕ) (rest : List ℕ) →
    Reads (pure_spelling (written_pure p l q)) l (pure_bytes p q ++ rest) (l + pure_lines) rest
pure-read p reach q speaks named distinct some body l rest =
    let v : Vocabulary = record { program = p; fields = []; params = q.params } in
    let e : List ℕ = expr_bytes v q.body in
    let behind_return : List ℕ = e ++ 59 ∷ 10 ∷ 125 ∷ 10 ∷ rest in
    let behind_open : List ℕ = 32 ∷ 123 ∷ 10 ∷ 32 ∷ 32 ∷ 32 ∷ 32 ∷ (codes "return" ++ 32 ∷ behind_return) in
    let behind_name : List ℕ = 40 ∷ (pure_params_bytes q.params ++ 41 ∷ behind_open) in
    along (pure_shape q.name (pure_params_bytes q.params) e rest)
    (ending (omega arith)
    (lined (line_ended (reads-line (codes "static") (32 ∷ (codes "int64_t" ++ 32 ∷ (q.name ++ behind_name)))
    (static-token (codes "int64_t" ++ 32 ∷ (q.name ++ behind_name)))
    (reads-word (codes "static") (32 ∷ (codes "int64_t" ++ 32 ∷ (q.name ++ behind_name)))
    (static-token (codes "int64_t" ++ 32 ∷ (q.name ++ behind_name)))) ▸ spaced
    (reads-word (codes "int64_t") (32 ∷ (q.name ++ behind_name)) (type-token_space I64 (q.name ++ behind_name))) ▸
    spaced (reads-name q.name behind_name named refl) ▸ parens
    (pure_params-read (l + 1) q.params behind_open some distinct) ▸ spaced
    (braces (lined
    (spaced (spaced
    (spaced (spaced
    (line_ended (reads-line (codes "return") (32 ∷ behind_return) (return-token behind_return)
    (reads-word (codes "return") (32 ∷ behind_return) (return-token behind_return)) ▸ spaced
    (expr-read v reach speaks (l + 1 + 1) q.body (59 ∷ 10 ∷ 125 ∷ 10 ∷ rest) body refl) ▸ sign semicolon))))))))))))

-- what a field is declared as, with its line
kind-read : (p : ProgramTree) (l : ℕ) (kind : FieldKind) (rest : List ℕ) →
    ((k : ℕ) → k < length p.structs → is_name (struct_name p k) ≡ true) → IsLawfulKind (length p.structs) kind →
    Reads (at_line (reported_number l) (kind_spelling (written_kind p kind))) l (kind_bytes p kind ++ 32 ∷ rest) l
    (32 ∷ rest)
kind-read p l (Number type) rest named h =
    reads-line (type_text type) (32 ∷ rest) (type-token_space type rest)
    (reads-word (type_text type) (32 ∷ rest) (type-token_space type rest))
kind-read p l (Array type count) rest named h =
    reads-line (type_text type) (32 ∷ rest) (type-token_space type rest)
    (reads-word (type_text type) (32 ∷ rest) (type-token_space type rest))
kind-read p l (Struct k) rest named h =
    let behind : List ℕ = struct_name p k ++ 32 ∷ rest in
    reads-line (codes "struct") (32 ∷ behind) (struct-token behind)
    (reads-word (codes "struct") (32 ∷ behind) (struct-token behind) ▸ spaced
    (reads-name (struct_name p k) (32 ∷ rest) (named k h) refl))

-- the length of an array after the name of a field, and what comes after a name
length-read : (p : ProgramTree) (l count : ℕ) (kind : FieldKind) (rest : List ℕ) → IsLawfulKind count kind →
    Reads (length_spelling (written_kind p kind)) l (length_bytes kind ++ 59 ∷ rest) l (59 ∷ rest)
length-read p l count (Number type) rest h = reads-nothing
length-read p l count (Array type many) rest h =
    along (ap (λ x. 91 ∷ x) (append_assoc (decimal many) (codes "]") (59 ∷ rest)))
    (brackets (reads-literal many (93 ∷ 59 ∷ rest) (omega (arith, h.1)) refl))
length-read p l count (Struct k) rest h = reads-nothing

length-ends : (kind : FieldKind) (rest : List ℕ) → Ends (length_bytes kind ++ 59 ∷ rest)
length-ends (Number type) rest = refl
length-ends (Array type many) rest = refl
length-ends (Struct k) rest = refl

field_shape : (k n m z : List ℕ) → ((((k ++ codes " ") ++ n) ++ m) ++ codes ";") ++ z ≡ k ++ 32 ∷ (n ++ (m ++ 59 ∷ z))
field_shape k n m z = simp append_assoc

-- each field's kind, where the structs that it may name are the program's
abbrev pub AreKinds : ℕ → List FieldTree → Type 0
AreKinds count [] = Unit {0}
AreKinds count (f ∷ fs) = IsLawfulKind count f.kind × AreKinds count fs

module _ (p : ProgramTree) (named : (k : ℕ) → k < length p.structs → is_name (struct_name p k) ≡ true) where
  -- a declaration, whatever follows it
  field-read : (f : FieldTree) → is_name f.name ≡ true → IsLawfulKind (length p.structs) f.kind → (l : ℕ) (z : List ℕ) →
      Reads (field_spelling (record { line = reported_number l; kind = written_kind p f.kind; name = f.name })) l
      (field_bytes p f ++ z) l z
  field-read f name kind l z =
      along (field_shape (kind_bytes p f.kind) f.name (length_bytes f.kind) z)
      (kind-read p l f.kind (f.name ++ (length_bytes f.kind ++ 59 ∷ z)) named kind ▸ spaced
      (reads-name f.name (length_bytes f.kind ++ 59 ∷ z) name (length-ends f.kind z)) ▸
      length-read p l (length p.structs) f.kind z kind ▸ sign semicolon)

  module _ (on : List (List ℕ)) where
    fields-read : (k l : ℕ) (fs : List FieldTree) (rest : List ℕ) → AreDistinct (map (λ f. f.name) fs) →
        AreKinds (length p.structs) fs →
        Reads (all_spelling field_spelling (written_fields p on k l fs)) l
        (flat_map (noted_field_bytes p on) (enumerate_from k fs) ++ rest) (l + fields_lines p on k fs) rest
    fields-read k l [] rest distinct kinds = ending (omega arith) reads-nothing
    fields-read k l (f ∷ fs) rest distinct kinds =
        let later : List ℕ = flat_map (noted_field_bytes p on) (enumerate_from (k + 1) fs) in
        along (append_assoc (noted_field_bytes p on (k, f)) later rest)
        (ending (omega arith)
        (noted-read (λ n. field_spelling (record { line = reported_number n; kind = written_kind p f.kind; name = f.name }))
        4 (field_bytes p f) (field-read f distinct.0 kinds.0) (note_at on k) l (later ++ rest) ▸ fields-read (k + 1)
        (l + field_above p on k f + 1) fs rest distinct.2 kinds.1))

    some_fields-read : (k l : ℕ) (fs : List FieldTree) (rest : List ℕ) → 0 < length fs → AreDistinct (map (λ f. f.name) fs) →
        AreKinds (length p.structs) fs →
        Reads (some_spelling field_spelling (written_fields p on k l fs)) l
        (flat_map (noted_field_bytes p on) (enumerate_from k fs) ++ rest) (l + fields_lines p on k fs) rest
    some_fields-read k l [] rest some distinct kinds = absurd (omega (arith, some))
    some_fields-read k l (f ∷ fs) rest some distinct kinds = record { is = (fields-read k l (f ∷ fs) rest distinct kinds).is }

struct_shape : (a n f z : List ℕ) → (((((ended [] ++ a) ++ codes "struct ") ++ n) ++ ended (codes " {")) ++ f)
    ++ ended (codes "};") ++ z ≡ 10 ∷ (a ++ (codes "struct" ++ 32 ∷ (n ++ 32 ∷ 123 ∷ 10 ∷ (f ++ 125 ∷ 59 ∷ 10 ∷ z))))
struct_shape a n f z = six (ended [] ++ a) (codes "struct ") n (ended (codes " {")) f (ended (codes "};")) z

pub struct-read : (p : ProgramTree) (notes : Notes) (d : StructTree) →
    ((k : ℕ) → k < length p.structs → is_name (struct_name p k) ≡ true) → is_name d.name ≡ true → 0 < length d.fields →
    AreDistinct (map (λ f. f.name) d.fields) → AreKinds (length p.structs) d.fields → (k l : ℕ) (rest : List ℕ) →
    Reads (struct_spelling (written_struct p notes k l d)) l (noted_struct_bytes p notes (k, d) ++ rest)
    (l + struct_lines p notes k d) rest
struct-read p notes d named name some distinct kinds k l rest =
    let above : List ℕ = (notes_on notes k).above in
    let on : List (List ℕ) = (notes_on notes k).fields in
    let head : ℕ = head_line above l in
    let fields : List ℕ = flat_map (noted_field_bytes p on) (enumerate_from 0 d.fields) in
    let behind_name : List ℕ = 32 ∷ 123 ∷ 10 ∷ (fields ++ 125 ∷ 59 ∷ 10 ∷ rest) in
    along (struct_shape (note_line 0 above) d.name fields rest)
    (ending (omega arith)
    (lined (note-read above (line_ended
    (reads-line (codes "struct") (32 ∷ (d.name ++ behind_name)) (struct-token (d.name ++ behind_name))
    (reads-word (codes "struct") (32 ∷ (d.name ++ behind_name)) (struct-token (d.name ++ behind_name))) ▸ spaced
    (reads-name d.name behind_name name refl) ▸ spaced
    (braces (lined (some_fields-read p named on 0 (head + 1) d.fields (125 ∷ 59 ∷ 10 ∷ rest) some distinct kinds))) ▸
    sign semicolon)))))

-- `static void` or `void`, with its line
private-read : (private : Bool) (l : ℕ) (rest : List ℕ) →
    Reads (at_line (reported_number l) (private_spelling private)) l (private_bytes private ++ rest) l (32 ∷ rest)
private-read true l rest =
    reads-line (codes "static") (32 ∷ (codes "void" ++ 32 ∷ rest)) (static-token (codes "void" ++ 32 ∷ rest))
    (reads-word (codes "static") (32 ∷ (codes "void" ++ 32 ∷ rest)) (static-token (codes "void" ++ 32 ∷ rest)) ▸ spaced
    (reads-word (codes "void") (32 ∷ rest) (void-token rest)))
private-read false l rest =
    reads-line (codes "void") (32 ∷ rest) (void-token rest) (reads-word (codes "void") (32 ∷ rest) (void-token rest))

params-ends : (ps : List ParamTree) (z : List ℕ) → Ends (flat_map param_bytes ps ++ 41 ∷ z)
params-ends [] z = refl
params-ends (q ∷ qs) z = refl

param_shape : (t n f z : List ℕ) → ((((codes ", " ++ t) ++ codes " ") ++ n) ++ f) ++ z ≡ 44 ∷ 32 ∷ (t ++ 32 ∷ (n ++ (f ++ z)))
param_shape t n f z = simp append_assoc

params-read : (l : ℕ) (ps : List ParamTree) (z : List ℕ) → AreDistinct (map (λ q. q.name) ps) →
    Reads (more_params_spelling (map (written_param (reported_number l)) ps)) l (flat_map param_bytes ps ++ 41 ∷ z) l
    (41 ∷ z)
params-read l [] z h = reads-nothing
params-read l (q ∷ qs) z h =
    let later : List ℕ = flat_map param_bytes qs ++ 41 ∷ z in
    along (param_shape (type_text q.type) q.name (flat_map param_bytes qs) (41 ∷ z))
    (sign comma ▸ spaced
    (reads-line (type_text q.type) (32 ∷ (q.name ++ later)) (type-token_space q.type (q.name ++ later))
    (reads-word (type_text q.type) (32 ∷ (q.name ++ later)) (type-token_space q.type (q.name ++ later))) ▸ spaced
    (reads-name q.name later h.0 (params-ends qs z))) ▸ params-read l qs z h.2)

procedure_shape : (a r n o p b z : List ℕ) →
    (((((((((ended [] ++ a) ++ r) ++ n) ++ codes "(struct ") ++ o) ++ codes " *s") ++ p) ++ ended (codes ") {")) ++ b)
    ++ ended (codes "}") ++ z
    ≡ 10 ∷ (a ++ (r
    ++ (n ++ 40 ∷ (codes "struct" ++ 32 ∷ (o ++ 32 ∷ 42 ∷ 115 ∷ (p ++ 41 ∷ 32 ∷ 123 ∷ 10 ∷ (b ++ 125 ∷ 10 ∷ z)))))))
procedure_shape a r n o p b z =
    ten (ended [] ++ a) r n (codes "(struct ") o (codes " *s") p (ended (codes ") {")) b (ended (codes "}")) z

pub procedure-read : (p : ProgramTree) (notes : Notes) (reach : Reach) (q : ProcedureTree) → Speaks (body_vocabulary p q) reach →
    is_name q.name ≡ true → is_name (struct_name p q.of) ≡ true → AreDistinct (map (λ x. x.name) q.params) →
    AreLawfulStmts reach q.body → (k l : ℕ) (rest : List ℕ) →
    Reads (procedure_spelling (written_procedure p notes k l q)) l (noted_procedure_bytes p notes (k, q) ++ rest)
    (l + procedure_lines p notes k q) rest
procedure-read p notes reach q speaks named of distinct body k l rest =
    let above : List ℕ = note_at notes.procedures k in
    let on : List (List ℕ) = (notes_on notes q.of).fields in
    let head : ℕ = head_line above l in
    let v : Vocabulary = body_vocabulary p q in
    let b : List ℕ = noted_stmts_bytes on v 4 q.body in
    let behind_params : List ℕ = 32 ∷ 123 ∷ 10 ∷ (b ++ 125 ∷ 10 ∷ rest) in
    let behind_of : List ℕ = 32 ∷ 42 ∷ 115 ∷ (flat_map param_bytes q.params ++ 41 ∷ behind_params) in
    let behind_name : List ℕ = 40 ∷ (codes "struct" ++ 32 ∷ (struct_name p q.of ++ behind_of)) in
    along (procedure_shape (note_line 0 above) (private_bytes q.private) q.name (struct_name p q.of)
    (flat_map param_bytes q.params) b rest)
    (ending (omega arith)
    (lined (note-read above (line_ended
    (private-read q.private head (q.name ++ behind_name) ▸ spaced (reads-name q.name behind_name named refl) ▸
    parens (reads-word (codes "struct") (32 ∷ (struct_name p q.of ++ behind_of))
    (struct-token (struct_name p q.of ++ behind_of)) ▸ spaced (reads-name (struct_name p q.of) behind_of of refl) ▸
    spaced (sign star) ▸ reads-word (codes "s") (flat_map param_bytes q.params ++ 41 ∷ behind_params)
    (s-ends (flat_map param_bytes q.params ++ 41 ∷ behind_params) (params-ends q.params behind_params)) ▸
    params-read head q.params behind_params distinct) ▸ spaced
    (braces (lined (stmts-read v reach speaks on (head + 1) 4 q.body (125 ∷ 10 ∷ rest) body))))))))
