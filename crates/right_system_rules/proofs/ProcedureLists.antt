-- Lists of procedures, each lawful after those before it, and what their heads are.
use Rattle.std.specs.Prelude.{◌≡◌, ℕ, ◌≤◌, true, List, [], ◌∷◌, ◌++◌, map, flat_map, length, Contains, Option, Some, None}
use Rattle.std.specs.List.{AllByRecursion, range_with_len}
use Rattle.std.proofs.Common.{refl, sym, subst}
use Rattle.std.proofs.lemmas.List.{append_assoc, append-nil}
use Rattle.modules_profile.specs.SystemHeader.{SystemHeader}
use Rattle.modules_profile.specs.Headers.{header_functions}
use Rattle.modules_profile.proofs.lemmas.Members.{in-first, in-rest}
use Rattle.c_syntax.specs.Tree.{PureTree, ParamTree, StructTree, ProcedureTree}
use Rattle.c_syntax.specs.Lawful.{procedure_names, IsLawfulProcedure, AreProcedures}
use Rattle.emit_shape.specs.Heads.{Head, out_head, update_head, start_head, reset_head, public_heads}
use Rattle.emit_shape.specs.Names.{out_name, update_name, start_name, reset_name, group_name}
use Rattle.right_system_rules.proofs.Lists.{each-mapped}
use Rattle.right_system_rules.proofs.Different.{all-append}
use Rattle.right_system_rules.proofs.ParamNames.{is_far, AreLawfulParams, no-params, update-params, out-params}
use Rattle.right_system_rules.proofs.Reaches.{structs}

-- ---- Lists of procedures

-- a procedure whose name is far from those of parameters
abbrev pub IsFar : ProcedureTree → Type 0
IsFar p = is_far p.name ≡ true

abbrev pub AreFar : List ProcedureTree → Type 0
AreFar ps = AllByRecursion IsFar ps

pub far-names : (ps : List ProcedureTree) → AreFar ps → AllByRecursion (λ b. is_far b ≡ true) (procedure_names ps)
far-names [] all = tt
far-names (p ∷ ps) all = (all.0, far-names ps all.1)

pub procedures-append : (pures : List PureTree) (structs : List StructTree) (earlier ps qs : List ProcedureTree) →
    AreProcedures pures structs earlier ps →
    AreProcedures pures structs (earlier ++ ps) qs → AreProcedures pures structs earlier (ps ++ qs)
procedures-append pures structs earlier [] qs first second = subst (λ l. AreProcedures pures structs l qs) (append-nil earlier) second
procedures-append pures structs earlier (p ∷ ps) qs first second = (
  first.0,
  procedures-append pures structs (earlier ++ p ∷ []) ps qs first.1
      (subst (λ l. AreProcedures pures structs l qs) (sym (append_assoc earlier (p ∷ []) ps)) second),
)

-- each is lawful, whatever procedures with far names come between
procedures-behind : (pures : List PureTree) (structs : List StructTree) (earlier more ps : List ProcedureTree) → AreFar more → AreFar ps →
    ((p : ProcedureTree) (between : List ProcedureTree) → Contains ps p → AreFar between → IsLawfulProcedure pures structs
    (earlier ++ between) p) →
    AreProcedures pures structs (earlier ++ more) ps
procedures-behind pures structs earlier more [] far names holds = tt
procedures-behind pures structs earlier more (p ∷ ps) far names holds = (
  holds p more (in-first p ps) far,
  subst (λ l. AreProcedures pures structs l ps) (sym (append_assoc earlier more (p ∷ [])))
      (procedures-behind pures structs earlier (more ++ p ∷ []) ps (all-append IsFar more (p ∷ []) far (names.0, tt)) names.1
      (λ q between h. holds q between (in-rest p q ps h))),
)

pub procedures-from : (pures : List PureTree) (structs : List StructTree) (earlier ps : List ProcedureTree) → AreFar ps →
    ((p : ProcedureTree) (between : List ProcedureTree) → Contains ps p → AreFar between → IsLawfulProcedure pures structs
    (earlier ++ between) p) →
    AreProcedures pures structs earlier ps
procedures-from pures structs earlier ps names holds =
    subst (λ l. AreProcedures pures structs l ps) (append-nil earlier) (procedures-behind pures structs earlier [] ps tt names holds)

-- ---- Names

pub out-far : (s : Option ℕ) (j : ℕ) → is_far (out_name s j) ≡ true
out-far None j = refl
out-far (Some e) j = refl

pub group-far : (s : Option ℕ) (g : ℕ) → is_far (group_name s g) ≡ true
group-far None g = refl
group-far (Some e) g = refl

pub update-far : (s : Option ℕ) → is_far (update_name s) ≡ true
update-far None = refl
update-far (Some e) = refl

pub start-far : (s : Option ℕ) → is_far (start_name s) ≡ true
start-far None = refl
start-far (Some e) = refl

pub reset-far : (s : Option ℕ) → is_far (reset_name s) ≡ true
reset-far None = refl
reset-far (Some e) = refl

-- ---- Heads

pub record IsLawfulHead (name : List ℕ) (params : List ParamTree) : Type 0 where
  pub far : is_far name ≡ true
  pub lawful : AreLawfulParams params

pub heads-lawful : (h : SystemHeader) → length h.inputs ≤ 32 →
    AllByRecursion (λ (head : Head). IsLawfulHead head.name head.params) (public_heads h)
heads-lawful h few =
    all-append (λ (head : Head). IsLawfulHead head.name head.params) (map (out_head h) (range_with_len 1 (length (header_functions h))))
    (update_head h ∷ start_head h ∷ reset_head h ∷ [])
    (each-mapped (λ (head : Head). IsLawfulHead head.name head.params) (out_head h) (range_with_len 1 (length (header_functions h)))
    (λ j k. record { far = out-far h.row j; lawful = out-params h few j })) (
      record { far = update-far h.row; lawful = update-params h few },
      (record { far = start-far h.row; lawful = no-params }, (record { far = reset-far h.row; lawful = no-params }, tt)),
    )

pub all-flat : {A B : Type 0} (P : B → Type 0) (f : A → List B) (xs : List A) → ((x : A) → Contains xs x → AllByRecursion P (f x)) →
    AllByRecursion P (flat_map f xs)
all-flat P f [] holds = tt
all-flat P f (x ∷ xs) holds =
    all-append P (f x) (flat_map f xs) (holds x (in-first x xs)) (all-flat P f xs (λ y h. holds y (in-rest x y xs h)))

pub all-weaker : {A : Type 0} (P Q : A → Type 0) → ((x : A) → P x → Q x) → (xs : List A) → AllByRecursion P xs → AllByRecursion Q xs
all-weaker P Q gives [] all = tt
all-weaker P Q gives (x ∷ xs) all = (gives x all.0, all-weaker P Q gives xs all.1)
