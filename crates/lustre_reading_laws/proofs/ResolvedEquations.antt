-- What equations stand for keeps the rules on equations.
use Rattle.std.proofs.Common.{◌≡◌, ◌⊎◌, inl, inr, refl, sym, ◌∙◌, ap, subst, ℕ, ◌<◌, ◌≤◌, ◌↔◌, List, [], ◌∷◌, ◌++◌, length, flat_map, Some, Ok, true, bytes_eq, slice_get, arith, append_assoc, append-nil}
use Rattle.std.specs.List.{AllByRecursion, position_from, list_all}
use Rattle.std.proofs.lemmas.Bool.{or_cases}
use Rattle.c_syntax.specs.declared.fault.CKind.TheVariants.{TypeRule}
use Rattle.c_syntax.specs.Outputs.{has_name}
use Rattle.c_syntax.proofs.lemmas.NameFacts.{has_name-append}
use Rattle.base_core.specs.Results.{◌>>=◌, ◌>>◌}
use Rattle.c_rules.specs.Resolve.{unless_fault, on_line, or_unnamed}
use Rattle.c_rules.proofs.lemmas.Resolved.{ok-same, bind-parts, then-parts, on_line-ok, unless-ok, named-ok}
use Rattle.lustre_syntax.specs.Tree.{Declared, texts_of, types_of, EquationTree, set, call, NodeTree, node_texts, names_read, given_by, expressions_of}
use Rattle.lustre_syntax.specs.Typing.{type_at, fits, all_fit, have_types, input_types, output_types, meet, known, no_clash}
use Rattle.lustre_syntax.specs.Lawful.{HasLiterals, Agrees}
use Rattle.lustre_grammar.specs.Written.{WrittenExpr, WrittenEquation}
use Rattle.lustre_rules.specs.Resolve.{Scope, place_named, word_type, node_named, resolve_given, resolve_all_given, resolve_set, resolve_callee, resolve_call, resolve_expr, resolve_exprs, resolve_equation, resolve_equations, written_given}
use Rattle.lustre_rules.specs.Reading.{IsShallow}
use Rattle.lustre_reading_laws.proofs.Depths.{equation_within, value-limit, both-hold}
use Rattle.lustre_reading_laws.proofs.WellWritten.{HasSmall}
use Rattle.lustre_reading_laws.proofs.ResolvedValues.{all-both, ResolvedExpr, expr-resolved, ResolvedExprs, exprs-resolved}
use Rattle.lustre_reading_laws.proofs.GivenNames.{times, times-append, IsGiven, one-given, all-given}

-- a node with these names, of which nothing else matters
abbrev pub node_with : List Declared → NodeTree
node_with names = record { text = []; line = 0; inputs = 0; outputs = 0; names = names; equations = [] }

-- what the expressions of an equation read is there
abbrev pub ReadsWithin : List Declared → EquationTree → Type 0
ReadsWithin names x = AllByRecursion (λ v. AllByRecursion (λ k. k < length names) (names_read v)) (expressions_of x)

pub record ResolvedEquation (scope : Scope) (w : WrittenEquation) (x : EquationTree) : Type 0 where
  pub given : IsGiven scope (written_given w) (given_by x)
  pub agrees : Agrees scope.earlier (node_with scope.names) x
  pub reads : ReadsWithin scope.names x
  pub literals : HasSmall w → AllByRecursion HasLiterals (expressions_of x)
  pub shallow : (equation_within w ≡ true) ↔ IsShallow x

record ResolvedSet (scope : Scope) (text : List ℕ) (value : WrittenExpr) (k : ℕ) : Type 0 where
  given : resolve_given scope text ≡ Ok k
  fit : fits (word_type scope.names) value (type_at (types_of scope.names) k) ≡ true

set-done : (scope : Scope) (text : List ℕ) (value : WrittenExpr) (k : ℕ) → resolve_set scope text value ≡ Ok k →
    ResolvedSet scope text value k
set-done scope text value k e =
    let p : _ =
    bind-parts (resolve_given scope text)
    (λ j. unless_fault (fits (word_type scope.names) value (type_at (types_of scope.names) j)) TypeRule >> Ok j) k e in
    let q : _ =
    then-parts (unless_fault (fits (word_type scope.names) value (type_at (types_of scope.names) p.0)) TypeRule) (Ok p.0)
    k p.2 in
    subst (ResolvedSet scope text value) (ok-same p.0 k q.2)
    (record {
      given = p.1;
      fit = unless-ok (fits (word_type scope.names) value (type_at (types_of scope.names) p.0)) TypeRule q.0 q.1;
    })

record ResolvedCall (scope : Scope) (texts : List (List ℕ)) (values : List WrittenExpr) (ks : List ℕ) (callee : ℕ) : Type 0 where
  given : resolve_all_given scope texts ≡ Ok ks
  of : NodeTree
  there : slice_get scope.earlier callee ≡ Some of
  outputs : have_types (types_of scope.names) ks (output_types of) ≡ true
  fit : all_fit (word_type scope.names) values (input_types of) ≡ true

node-done : (earlier : List NodeTree) (text : List ℕ) (of : ℕ × NodeTree) → node_named earlier text ≡ Ok of →
    slice_get earlier of.0 ≡ Some of.1
node-done earlier text of e =
    let p : _ =
    bind-parts (place_named (node_texts earlier) text) (λ k. or_unnamed (slice_get earlier k) >>= λ n. Ok (k, n)) of e in
    let q : _ = bind-parts (or_unnamed (slice_get earlier p.0)) (λ n. Ok (p.0, n)) of p.2 in
    subst (λ found. slice_get earlier found.0 ≡ Some found.1) (ok-same (p.0, q.0) of q.2)
    (named-ok (slice_get earlier p.0) q.0 q.1)

call-done : (scope : Scope) (texts : List (List ℕ)) (callee : List ℕ) (values : List WrittenExpr) (head : List ℕ × ℕ) →
    resolve_call scope texts callee values ≡ Ok head → ResolvedCall scope texts values head.0 head.1
call-done scope texts callee values head e =
    let types : _ = types_of scope.names in
    let typed : _ = word_type scope.names in
    let p : _ =
    bind-parts (resolve_all_given scope texts) (λ ks. resolve_callee scope ks callee values >>= λ k. Ok (ks, k)) head e in
    let n : _ = bind-parts (resolve_callee scope p.0 callee values) (λ k. Ok (p.0, k)) head p.2 in
    let q : _ =
    bind-parts (node_named scope.earlier callee)
    (λ of. unless_fault (have_types types p.0 (output_types of.1)) TypeRule
    >> (unless_fault (all_fit typed values (input_types of.1)) TypeRule >> Ok of.0)) n.0 n.1 in
    let r : _ =
    then-parts (unless_fault (have_types types p.0 (output_types q.0.1)) TypeRule)
    (unless_fault (all_fit typed values (input_types q.0.1)) TypeRule >> Ok q.0.0) n.0 q.2 in
    let s : _ = then-parts (unless_fault (all_fit typed values (input_types q.0.1)) TypeRule) (Ok q.0.0) n.0 r.2 in
    subst (λ (h : List ℕ × ℕ). ResolvedCall scope texts values h.0 h.1) (ok-same (p.0, n.0) head n.2)
    (record {
      given = p.1;
      of = q.0.1;
      there = subst (λ k. slice_get scope.earlier k ≡ Some q.0.1) (ok-same q.0.0 n.0 s.2)
          (node-done scope.earlier callee q.0 q.1);
      outputs = unless-ok (have_types types p.0 (output_types q.0.1)) TypeRule r.0 r.1;
      fit = unless-ok (all_fit typed values (input_types q.0.1)) TypeRule s.0 s.1;
    })

pub equation-resolved : (scope : Scope) (w : WrittenEquation) (x : EquationTree) → resolve_equation scope w ≡ Ok x →
    ResolvedEquation scope w x
equation-resolved scope (WrittenEquation.set line text value) x e =
    let p : _ =
    bind-parts (on_line line (resolve_set scope text value)) (λ k. resolve_expr (texts_of scope.names) value
    >>= λ v. Ok (set line k v)) x e in
    let q : _ = bind-parts (resolve_expr (texts_of scope.names) value) (λ v. Ok (set line p.0 v)) x p.2 in
    let done : ResolvedSet scope text value p.0 =
    set-done scope text value p.0 (on_line-ok line (resolve_set scope text value) p.0 p.1) in
    let r : ResolvedExpr scope.names value q.0 = expr-resolved scope.names value q.0 q.1 in
    subst (ResolvedEquation scope (WrittenEquation.set line text value)) (ok-same (set line p.0 q.0) x q.2)
    (record {
      given = one-given scope text p.0 done.given;
      agrees = ap (λ t. no_clash (meet (known (type_at (types_of scope.names) p.0)) t)) (sym r.typed) ∙ done.fit;
      reads = (r.reads, tt);
      literals = λ h. (r.literals h, tt);
      shallow = (λ h. ((value-limit value q.0 r.depth).0 h, tt), λ h. (value-limit value q.0 r.depth).1 h.0);
    })
equation-resolved scope (WrittenEquation.call line texts callee values) x e =
    let p : _ =
    bind-parts (on_line line (resolve_call scope texts callee values))
    (λ head. resolve_exprs (texts_of scope.names) values >>= λ xs. Ok (call line head.0 head.1 xs)) x e in
    let q : _ =
    bind-parts (resolve_exprs (texts_of scope.names) values) (λ xs. Ok (call line p.0.0 p.0.1 xs)) x p.2 in
    let done : ResolvedCall scope texts values p.0.0 p.0.1 =
    call-done scope texts callee values p.0 (on_line-ok line (resolve_call scope texts callee values) p.0 p.1) in
    let r : ResolvedExprs scope.names values q.0 = exprs-resolved scope.names values q.0 q.1 in
    subst (ResolvedEquation scope (WrittenEquation.call line texts callee values))
    (ok-same (call line p.0.0 p.0.1 q.0) x q.2)
    (record {
      given = all-given scope texts p.0.0 done.given;
      agrees = (done.of, done.there, done.outputs, sym (r.fit (input_types done.of)) ∙ done.fit);
      reads = r.reads;
      literals = r.literals;
      shallow = r.shallow;
    })

pub record ResolvedEquations (scope : Scope) (ws : List WrittenEquation) (xs : List EquationTree) : Type 0 where
  pub given : IsGiven scope (flat_map written_given ws) (flat_map given_by xs)
  pub agree : AllByRecursion (Agrees scope.earlier (node_with scope.names)) xs
  pub reads : AllByRecursion (ReadsWithin scope.names) xs
  pub literals : AllByRecursion HasSmall ws → AllByRecursion (λ x. AllByRecursion HasLiterals (expressions_of x)) xs
  pub shallow : (list_all equation_within ws ≡ true) ↔ AllByRecursion IsShallow xs

-- names that are given first, and those that are given after them
given-then : (scope : Scope) (texts : List (List ℕ)) (ks : List ℕ) (others : List (List ℕ)) (js : List ℕ) →
    IsGiven scope texts ks → IsGiven (record scope { given = scope.given ++ ks }) others js →
    IsGiven scope (texts ++ others) (ks ++ js)
given-then scope texts ks others js first later =
    record {
      within = all-both (λ k. k < length scope.names) ks js first.within later.within;
      behind = all-both (λ k. scope.inputs ≤ k) ks js first.behind later.behind;
      once = λ h k. subst (λ is. times k is ≤ 1) (append_assoc scope.given ks js) (later.once (first.once h) k);
      covers = λ text h. covers text
          (or_cases (has_name texts text) (has_name others text) (sym (has_name-append texts others text) ∙ h));
    }
  where
    covers : (text : List ℕ) → (has_name texts text ≡ true) ⊎ (has_name others text ≡ true) →
        (k : ℕ) × (position_from (bytes_eq text) 0 (texts_of scope.names) ≡ Some k) × (1 ≤ times k (ks ++ js))
    covers text (inl h) =
        let c : _ = first.covers text h in
        let at : 1 ≤ times c.0 ks = c.2 in
        (c.0, c.1, omega (arith, times-append c.0 ks js))
    covers text (inr h) =
        let c : _ = later.covers text h in
        let at : 1 ≤ times c.0 js = c.2 in
        (c.0, c.1, omega (arith, times-append c.0 ks js))

pub equations-resolved : (scope : Scope) (ws : List WrittenEquation) (xs : List EquationTree) →
    resolve_equations scope ws ≡ Ok xs → ResolvedEquations scope ws xs
equations-resolved scope [] xs e =
    subst (ResolvedEquations scope []) (ok-same [] xs e)
    (record {
      given = record {
        within = tt;
        behind = tt;
        once = λ h k. subst (λ js. times k js ≤ 1) (sym (append-nil scope.given)) (h k);
        covers = λ text h. cc;
      };
      agree = tt;
      reads = tt;
      literals = λ h. tt;
      shallow = (λ h. tt, λ h. refl);
    })
equations-resolved scope (w ∷ ws) xs e =
    let p : _ =
    bind-parts (resolve_equation scope w)
    (λ x. resolve_equations (record scope { given = scope.given ++ given_by x }) ws >>= λ ys. Ok (x ∷ ys)) xs e in
    let next : Scope = record scope { given = scope.given ++ given_by p.0 } in
    let q : _ = bind-parts (resolve_equations next ws) (λ ys. Ok (p.0 ∷ ys)) xs p.2 in
    let one : ResolvedEquation scope w p.0 = equation-resolved scope w p.0 p.1 in
    let later : ResolvedEquations next ws q.0 = equations-resolved next ws q.0 q.1 in
    subst (ResolvedEquations scope (w ∷ ws)) (ok-same (p.0 ∷ q.0) xs q.2)
    (record {
      given = given-then scope (written_given w) (given_by p.0) (flat_map written_given ws) (flat_map given_by q.0)
          one.given later.given;
      agree = (one.agrees, later.agree);
      reads = (one.reads, later.reads);
      literals = λ h. (one.literals h.0, later.literals h.1);
      shallow = both-hold (equation_within w) (list_all equation_within ws) (IsShallow p.0) (AllByRecursion IsShallow q.0)
          one.shallow later.shallow;
    })
