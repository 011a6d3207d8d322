-- The fields of a struct, one after another, and the struct from its fields.
use Rattle.std.proofs.Common.{◌≡◌, refl, sym, ◌∙◌, ap, ℕ, Bool, false, true, not, ◌||◌, List, [], ◌∷◌, ◌++◌, map, filter_map, reverse, Result, Ok, Err, append_assoc, bytes_eq, codes}
use Rattle.c_syntax.specs.declared.fault.CFault.{CFault}
use Rattle.c_syntax.specs.declared.fault.CKind.{CKind}
use Rattle.c_syntax.specs.declared.fault.CKind.TheVariants.{Name, TypeRule}
use Rattle.c_syntax.specs.declared.program.FieldKind.{FieldKind}
use Rattle.c_syntax.specs.declared.program.Field.{Field}
use Rattle.c_syntax.specs.PlainField.{field_trees}
use Rattle.c_syntax.specs.Tree.{FieldTree, StructTree}
use Rattle.c_grammar.specs.Written.{WrittenField, WrittenStruct}
use Rattle.c_syntax.specs.Outputs.{has_name, may_be_named}
use Rattle.base_core.specs.Results.{◌>>=◌, ◌>>◌}
use Rattle.c_rules.specs.Resolve.{Known, on_line, unless_fault, is_number_written, number_name, resolve_kind, resolve_field, resolve_fields, resolve_struct}
use Rattle.c_rules.proofs.lemmas.Resolved.{then-parts, unless-ok}
use Rattle.c_grammar.specs.declared.fault.ReadCFault.{ReadCFault}
use Rattle.c_resolver.specs.Fields.{named_kind, fields_behind}
use Rattle.c_rules.specs.Gives.{Fails}
use Rattle.c_rules.proofs.lemmas.Each.{bind_ok, bind_err}
use Rattle.c_rules.proofs.lemmas.Fails.{fails-bind}
use Rattle.c_rules.proofs.lemmas.ParamLaws.{reverse-push, has_name-reverse}

not-true : (b : Bool) → not b ≡ true → b ≡ false
not-true false h = refl
not-true true h = cc

-- a rule and its line, of a kind and of a field
pub named-ok : (line : ℕ) (name : List ℕ) (r : Result FieldKind CKind) (kind : FieldKind) → on_line line r ≡ Ok kind → r ≡ Ok kind
named-ok line name (Ok k) kind h = ap (by k) h
  where
    by : FieldKind → Result FieldKind CFault → Result FieldKind CKind
    by default (Ok z) = Ok z
    by default (Err fault) = Ok default
named-ok line name (Err k) kind h = cc

pub named-err : (line : ℕ) (name : List ℕ) (r : Result FieldKind CKind) (fault : CFault) → on_line line r ≡ Err fault →
    on_line line (named_kind name r) ≡ Err fault
named-err line name (Ok k) fault h = cc
named-err line name (Err k) fault h = ap (by (Err k)) h
  where
    by : Result FieldKind CKind → Result FieldKind CFault → Result FieldTree CFault
    by r (Ok z) = on_line line (named_kind name r)
    by r (Err f) = Err f

module _ (known : Known) (is_root : Bool) (numbers : List (List ℕ)) where
  -- a field that passes has a new name
  pub new-field : (names : List (List ℕ)) (f : WrittenField) (x : FieldTree) →
      resolve_field known is_root numbers names f ≡ Ok x → has_name names f.name ≡ false
  new-field names f x h =
      let parts : _ =
      then-parts (unless_fault (not (has_name names f.name)) Name)
      (resolve_kind known f.kind
      >>= (λ kind. unless_fault (not is_root || may_be_named numbers (is_number_written f.kind) f.name) TypeRule >>
      Ok (record { name = f.name; kind = kind }))) x h in
      not-true (has_name names f.name) (unless-ok (not (has_name names f.name)) Name parts.0 parts.1)

  flip-field : (names : List (List ℕ)) (f : WrittenField) →
      resolve_field known is_root numbers (reverse names) f ≡ resolve_field known is_root numbers names f
  flip-field names f =
      ap (λ b.
      unless_fault (not b) Name >>
      (resolve_kind known f.kind
      >>= (λ kind. unless_fault (not is_root || may_be_named numbers (is_number_written f.kind) f.name) TypeRule >> Ok
      (record { name = f.name; kind = kind })))) (has_name-reverse names f.name)

  pub field-passes : (done : List FieldTree) (names : List (List ℕ)) (f : WrittenField) (fs : List WrittenField)
      (x : FieldTree) → on_line f.line (resolve_field known is_root numbers names f) ≡ Ok x →
      fields_behind known is_root numbers done names (f ∷ fs)
      ≡ fields_behind known is_root numbers (done ++ x ∷ []) (names ++ f.name ∷ []) fs
  field-passes done names f fs x h =
      let later : Result (List FieldTree) CFault = resolve_fields known is_root numbers (f.name ∷ reverse names) fs in
      ap (λ r. r >>= (λ xs. Ok (done ++ xs)))
      (bind_ok (on_line f.line (resolve_field known is_root numbers (reverse names) f))
      (λ y. resolve_fields known is_root numbers (f.name ∷ reverse names) fs >>= (λ xs. Ok (y ∷ xs))) x
      (ap (on_line f.line) (flip-field names f) ∙ h)) ∙ by later
      ∙ ap (λ e. resolve_fields known is_root numbers e fs >>= (λ xs. Ok ((done ++ x ∷ []) ++ xs)))
      (sym (reverse-push names f.name))
    where
      by : (r : Result (List FieldTree) CFault) →
          ((r >>= (λ xs. Ok (x ∷ xs))) >>= (λ xs. Ok (done ++ xs))) ≡ (r >>= (λ xs. Ok ((done ++ x ∷ []) ++ xs)))
      by (Ok xs) = ap Ok (sym (append_assoc done (x ∷ []) xs))
      by (Err fault) = refl

  pub field-fails : (done : List FieldTree) (names : List (List ℕ)) (f : WrittenField) (fs : List WrittenField)
      (fault : CFault) → on_line f.line (resolve_field known is_root numbers names f) ≡ Err fault →
      fields_behind known is_root numbers done names (f ∷ fs) ≡ Err fault
  field-fails done names f fs fault h =
      ap (λ r. r >>= (λ xs. Ok (done ++ xs)))
      (bind_err (on_line f.line (resolve_field known is_root numbers (reverse names) f))
      (λ y. resolve_fields known is_root numbers (f.name ∷ reverse names) fs >>= (λ xs. Ok (y ∷ xs))) fault
      (ap (on_line f.line) (flip-field names f) ∙ h))

  -- after no fields come those of the rules
  pub behind_none : (fields : List Field) (fs : List WrittenField) → fields ≡ [] →
      fields_behind known is_root numbers (field_trees fields) (map (λ (f : Field). f.name) fields) fs
      ≡ resolve_fields known is_root numbers [] fs
  behind_none fields fs none =
      ap (λ (done : List Field). fields_behind known is_root numbers (field_trees done) (map (λ (f : Field). f.name) done) fs) none
      ∙ by (resolve_fields known is_root numbers [] fs)
    where
      by : (r : Result (List FieldTree) CFault) → (r >>= (λ xs. Ok ([] ++ xs))) ≡ r
      by (Ok xs) = refl
      by (Err fault) = refl

  pub fields-end : (done : List FieldTree) (names : List (List ℕ)) → fields_behind known is_root numbers done names [] ≡ Ok done
  fields-end done names = ap Ok (by done)
    where
      by : (xs : List FieldTree) → xs ++ [] ≡ xs
      by [] = refl
      by (x ∷ xs) = ap (λ ys. x ∷ ys) (by xs)

abbrev struct_with : WrittenStruct → List FieldTree → Result StructTree CFault
struct_with d fields = Ok (record { name = d.name; fields = fields })

-- a struct of a new name
module _ (known : Known) (d : WrittenStruct)
    (free : has_name (map (λ (e : StructTree). e.name) known.structs) d.name ≡ false) where
  abbrev fields_of : Result (List FieldTree) CFault
  fields_of = resolve_fields known (bytes_eq d.name (codes "root")) (filter_map number_name d.fields) [] d.fields

  behind_name : resolve_struct known d ≡ (fields_of >>= struct_with d)
  behind_name = λ i. on_line d.line (unless_fault (not (free i)) Name) >> (fields_of >>= struct_with d)

  pub fails_fields : (e : ReadCFault) → Fails e fields_of → Fails e (resolve_struct known d)
  fails_fields e h = fails-bind e fields_of (struct_with d) (resolve_struct known d) behind_name h

  pub gives_struct : (fields : List FieldTree) → fields_of ≡ Ok fields → resolve_struct known d ≡ struct_with d fields
  gives_struct fields h = behind_name ∙ bind_ok fields_of (struct_with d) fields h
