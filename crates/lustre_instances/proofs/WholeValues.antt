-- Instances whose values and calls are whole.
use Rattle.std.specs.Prelude.{◌≡◌, ℕ, zero, suc, ◌<◌, ◌≤◌, ℤ, true, List, [], ◌∷◌, map, flat_map, take, drop, length, slice_get, Option, Some, refl}
use Rattle.std.specs.List.{AllByRecursion, list_all}
use Rattle.std.proofs.Common.{sym, ap, subst, ◌∙◌, arith, take-append-drop, take_all, length-drop}
use Rattle.std.proofs.lemmas.Bool.{and_from, and_parts}
use Rattle.std.proofs.lemmas.List.Folds.{list_all-append}
use Rattle.diagram_meaning.proofs.lemmas.Agreement.{All-append_left, All-append_right}
use Rattle.lustre_syntax.specs.Tree.{FileTree, node_texts}
use Rattle.lustre_flows.specs.Values.{value_at}
use Rattle.lustre_flows.specs.Instances.{Instance, instance, values_in, calls_in, outputs_of, has_value, is_complete, are_complete}
use Rattle.lustre_system.specs.Functions.{function_node}
use Rattle.lustre_instances.proofs.NamedValues.{names-count}
use Rattle.lustre_instances.proofs.Calls.{complete-calls}
use Rattle.lustre_instances.proofs.FunctionNodes.{tree_at, function_at}
use Rattle.lustre_instances.proofs.Opened.{placed, IsOpened}

-- ---- Lists

pub all-at : {A : Type 0} (P : A → Type 0) (xs : List A) (k : ℕ) (x : A) → AllByRecursion P xs → slice_get xs k ≡ Some x → P x
all-at P [] k x all at = absurd (let wrong : ⊥ = cc at in wrong)
all-at P (y ∷ ys) zero x all at = let same : y ≡ x = cc at in subst P same all.0
all-at P (y ∷ ys) (suc k) x all at = all-at P ys k x all.1 at

pub all-joined-at : {A B : Type 0} (P : B → Type 0) (g : A → List B) (xs : List A) (k : ℕ) (x : A) → AllByRecursion P (flat_map g xs) →
    slice_get xs k ≡ Some x → AllByRecursion P (g x)
all-joined-at P g [] k x all at = absurd (let wrong : ⊥ = cc at in wrong)
all-joined-at P g (y ∷ ys) zero x all at =
    let same : y ≡ x = cc at in subst (λ z. AllByRecursion P (g z)) same (All-append_left P (g y) (flat_map g ys) all)
all-joined-at P g (y ∷ ys) (suc k) x all at = all-joined-at P g ys k x (All-append_right P (g y) (flat_map g ys) all) at

-- a list is whole where its parts are
pub whole-parts : (n : ℕ) (vs : List (Option ℤ)) → list_all has_value (take n vs) ≡ true → list_all has_value (drop n vs) ≡ true →
    list_all has_value vs ≡ true
whole-parts n vs first rest =
    ap (list_all has_value) (sym (take-append-drop n vs)) ∙ list_all-append has_value (take n vs) (drop n vs)
    ∙ and_from (list_all has_value (take n vs)) (list_all has_value (drop n vs)) first rest

value-there : (vs : List (Option ℤ)) (k : ℕ) → list_all has_value vs ≡ true → k < length vs → has_value (value_at vs k) ≡ true
value-there [] k whole below = absurd (omega arith)
value-there (v ∷ vs) zero whole below = (and_parts (has_value v) (list_all has_value vs) whole).0
value-there (v ∷ vs) (suc k) whole below = value-there vs k (and_parts (has_value v) (list_all has_value vs) whole).1 (omega arith)

pub whole-at : (vs : List (Option ℤ)) (ks : List ℕ) (n : ℕ) → list_all has_value vs ≡ true → length vs ≡ n →
    AllByRecursion (λ k. k < n) ks → list_all has_value (map (value_at vs) ks) ≡ true
whole-at vs [] n whole many within = refl
whole-at vs (k ∷ ks) n whole many within =
    let below = within.0 in
    and_from (has_value (value_at vs k)) (list_all has_value (map (value_at vs) ks)) (value-there vs k whole (omega arith))
    (whole-at vs ks n whole many within.1)

-- ---- Instances

pub complete-parts : (i : Instance) → list_all has_value (values_in i) ≡ true → are_complete (calls_in i) ≡ true → is_complete i ≡ true
complete-parts (instance vs cs) values calls = and_from (list_all has_value vs) (are_complete cs) values calls

-- an instance of a function is whole where its inputs and its output are
pub function-complete : (f : FileTree) (k : ℕ) (before : Option Instance) (inputs : List (Option ℤ)) (i : Instance) →
    IsOpened f (function_node (tree_at k)) before inputs i → list_all has_value inputs ≡ true →
    list_all has_value (outputs_of (function_at (node_texts f.nodes) k) i) ≡ true → is_complete i ≡ true
function-complete f k before inputs i o first last =
    let n = function_node (tree_at k) in
    let vs = values_in i in
    let rest = length-drop (length n.inputs) vs in
    let all = names-count n in
    let names = o.names in
    let one : length (drop (length n.inputs) vs) ≤ 1 = omega arith in
    complete-parts i
    (whole-parts (length n.inputs) vs (ap (list_all has_value) o.takes ∙ first)
    (ap (list_all has_value) (sym (take_all 1 (drop (length n.inputs) vs) one)) ∙ last))
    (complete-calls f.nodes (placed f n).equations (calls_in i) o.forms (λ j low. absurd (omega arith)))
