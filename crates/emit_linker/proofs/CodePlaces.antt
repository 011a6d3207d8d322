-- Codes at their places.
use Rattle.std.proofs.Common.{◌≡◌, refl, sym, ap, ap₂, ◌∙◌, ℕ, zero, suc, ◌+◌, ◌<◌, ◌≤◌, cond, Bor, List, [], ◌∷◌, length, map, drop, get_or, slice_get, Option, Some, None, bytes_eq, inl, inr, arith}
use Rattle.std.specs.Prelude.{slice_index, slice_index_or}
use Rattle.std.specs.List.{position_from, range_with_len, sum_by, flat_map}
use Rattle.std.proofs.lemmas.Bool.{cases_lt}
use Rattle.std.proofs.lemmas.List.{drop_more, length-map}
use Rattle.std.proofs.lemmas.List.Sums.{sum_by-cons}
use Rattle.std.proofs.lemmas.List.FromFn.{get_or-map-range_with_len}
use Rattle.std.proofs.lemmas.Map.Text.{hash_map_updates_str}
use Rattle.indexmap.specs.IndexMap.{IndexMap, UpdatesBy}
use Rattle.c_syntax.specs.Tree.{FieldTree}
use Rattle.c_syntax.specs.Plain.{procedure_tree}
use Rattle.emit_shape.specs.declared.code.SystemCode.{SystemCode}
use Rattle.emit_shape.specs.SystemTree.{SystemTree, system_tree}
use Rattle.emit_shape.specs.Assembled.{no_code, code_at, code_named, first_procedure, struct_position, public_positions, child_names, relocation_of}
use Rattle.emit_linker.specs.declared.links.Links.{Links}
use Rattle.emit_linker.specs.Linked.{relocation}
use Rattle.emit_linker.specs.Places.{trees, place_in, TellsCodes, IsNoCode}

pub code-there : (codes : List SystemCode) (i : ℕ) (code : SystemCode) → slice_get codes i ≡ Some code →
    system_tree code ≡ code_at (trees codes) i
code-there [] i code there = cc
code-there (c ∷ codes) zero code there = ap (λ o. system_tree (unwrap o)) (sym there)
  where
    unwrap : Option SystemCode → SystemCode
    unwrap None = c
    unwrap (Some x) = x
code-there (c ∷ codes) (suc i) code there = code-there codes i code there

none-of : {A B : Type 0} (f : A → B) (xs : List A) → length xs ≡ 0 → map f xs ≡ []
none-of f [] e = refl
none-of f (x ∷ xs) e = absurd (omega (arith, e))

-- the code of nothing
pub no-code-is : (code : SystemCode) → IsNoCode code → system_tree code ≡ no_code
no-code-is code h = λ i. record {
  structure = h.structure i;
  outputs = h.outputs i;
  procedures =
      none-of procedure_tree code.procedures.items h.procedures i;
}

pub code-missing : (codes : List SystemCode) (i : ℕ) → slice_get codes i ≡ None → no_code ≡ code_at (trees codes) i
code-missing [] zero missing = refl
code-missing [] (suc i) missing = refl
code-missing (c ∷ codes) zero missing = cc
code-missing (c ∷ codes) (suc i) missing = code-missing codes i missing

-- ---- First procedures

none-left : (all : List SystemTree) (i : ℕ) → length all ≤ i → sum_by (λ c. length c.procedures) (drop i all) ≡ 0
none-left [] zero past = refl
none-left [] (suc i) past = refl
none-left (c ∷ all) zero past = absurd (omega (arith, past))
none-left (c ∷ all) (suc i) past = none-left all i (omega (arith, past))

past-end : (xs : List ℕ) (i : ℕ) → length xs ≤ i → get_or xs i 0 ≡ 0
past-end [] zero past = refl
past-end [] (suc i) past = refl
past-end (x ∷ xs) zero past = absurd (omega (arith, past))
past-end (x ∷ xs) (suc i) past = past-end xs i (omega (arith, past))

range-length : (a n : ℕ) → length (range_with_len a n) ≡ n
range-length a zero = refl
range-length a (suc n) = ap suc (range-length (a + 1) n)

pub first-at : (codes : List SystemCode) (firsts : List ℕ) (i : ℕ) →
    firsts ≡ map (first_procedure (trees codes)) (range_with_len 0 (length codes)) →
    slice_index firsts i ≡ first_procedure (trees codes) i
first-at codes firsts i are = ap (λ l. get_or l i 0) are ∙ elim (cases_lt i (length codes)) [
  | inl low ↦ get_or-map-range_with_len (first_procedure (trees codes)) 0 (length codes) i i 0 low (omega arith)
  | inr past ↦ outside past
]
  where
    outside : length codes ≤ i → get_or (map (first_procedure (trees codes)) (range_with_len 0 (length codes))) i 0
        ≡ first_procedure (trees codes) i
    outside past =
        let n = length-map (range_with_len 0 (length codes)) (first_procedure (trees codes)) in
        let m = range-length 0 (length codes) in
        let k = length-map codes system_tree in
        past-end (map (first_procedure (trees codes)) (range_with_len 0 (length codes))) i (omega (arith, past, n, m))
        ∙ sym (none-left (trees codes) (i + 1) (omega (arith, past, k)))

drop-trees : (codes : List SystemCode) (i : ℕ) → drop i (trees codes) ≡ trees (drop i codes)
drop-trees [] zero = refl
drop-trees [] (suc i) = refl
drop-trees (c ∷ codes) zero = refl
drop-trees (c ∷ codes) (suc i) = drop-trees codes i

-- one code fewer
pub count-fewer : (codes : List SystemCode) (i : ℕ) (code : SystemCode) → i < length codes → code ≡ get_or codes i code →
    sum_by (λ c. length c.procedures) (drop i (trees codes))
    ≡ length code.procedures.items + sum_by (λ c. length c.procedures) (drop (i + 1) (trees codes))
count-fewer codes i code inside read =
    ap (sum_by (λ (c : SystemTree). length c.procedures))
    (drop-trees codes i ∙ ap trees (drop_more codes i code inside)
    ∙ ap₂ (λ (c : SystemCode) (l : List SystemTree). system_tree c ∷ l) (sym read) (sym (drop-trees codes (i + 1))))
    ∙ sum_by-cons (λ (c : SystemTree). length c.procedures) (system_tree code) (drop (i + 1) (trees codes))
    ∙ ap (λ n. n + sum_by (λ (c : SystemTree). length c.procedures) (drop (i + 1) (trees codes)))
    (length-map code.procedures.items procedure_tree)

-- ---- Names

pub names-more : {S : Type 0} (codes : List SystemCode) (j i v : ℕ) (code : SystemCode) (name : List ℕ)
    (before after : IndexMap (Bor (List ℕ)) ℕ S) → j ≡ i + 1 → v ≡ i → i < length codes → code ≡ get_or codes i code →
    name ≡ code.structure.name →
    TellsCodes j (drop j codes) (place_in before) →
    UpdatesBy (λ x y. bytes_eq x.now y.now) (λ k. bytes_eq name k.now) before after (Some v) →
    TellsCodes i (drop i codes) (place_in after)
names-more codes j i v code name before after next value inside read named told updates other =
    hash_map_updates_str name before after (Some v) updates other
    ∙ (λ k. cond (bytes_eq ((named ∙ ap (λ (c : SystemCode). c.structure.name) read) k) other) (Some (value k))
    ((told other ∙ ap (λ n. position_from (λ (c : SystemTree). bytes_eq c.structure.name other) n (trees (drop n codes))) next) k))
    ∙ ap (λ l. position_from (λ (c : SystemTree). bytes_eq c.structure.name other) i (trees l)) (sym (drop_more codes i code inside))

-- ---- Where what a code names goes

outputs-at : (outs : List ℕ → List ℕ) (fields : List FieldTree) (f : ℕ) →
    slice_index_or (map (λ (x : FieldTree). outs x.name) fields) f (outs [])
    ≡ outs (slice_index_or (map (λ (x : FieldTree). x.name) fields) f [])
outputs-at outs [] zero = refl
outputs-at outs [] (suc f) = refl
outputs-at outs (x ∷ fields) zero = refl
outputs-at outs (x ∷ fields) (suc f) = outputs-at outs fields f

pub links-are : (all : List SystemTree) (i : ℕ) (links : Links) → links.own ≡ length (code_at all i).procedures →
    links.first ≡ first_procedure all i →
    links.offered.items ≡ flat_map (λ name. public_positions all (code_named all name)) (child_names (code_at all i)) →
    map (λ x. x.now) links.outputs.items ≡ map (λ f. (code_at all (code_named all f.name)).outputs) (code_at all i).structure.fields →
    links.beyond.now ≡ (code_at all (code_named all [])).outputs → links.of ≡ struct_position all i → relocation links ≡ relocation_of all i
links-are all i links own first offered outputs beyond of =
    let outs : List ℕ → List ℕ = λ name. (code_at all (code_named all name)).outputs in
    let found : (f : ℕ) → slice_index_or (map (λ x. x.now) links.outputs.items) f links.beyond.now
    ≡ outs (slice_index_or (map (λ (x : FieldTree). x.name) (code_at all i).structure.fields) f []) =
    λ f. (λ j. slice_index_or (outputs j) f (beyond j)) ∙ outputs-at outs (code_at all i).structure.fields f in
    λ j. record {
      own = own j;
      first = first j;
      offered = λ k. slice_index (offered j) k;
      output = λ f o. slice_index (found f j) o;
      of =
          of j;
    }
