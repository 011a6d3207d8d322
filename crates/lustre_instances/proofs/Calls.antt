-- The equations that hold of an instance, and the instances of its calls, each by its place.
use Rattle.std.specs.Prelude.{◌≡◌, ℕ, zero, suc, ◌+◌, ◌<◌, ◌≤◌, ℤ, ◌==◌, true, List, [], ◌∷◌, map, flat_map, length, slice_get, Option, Some, None, option_map, unwrap_or, refl}
use Rattle.std.proofs.Common.{sym, ap, subst, ◌∙◌, arith}
use Rattle.std.proofs.lemmas.Bool.{and_from, eqb-true, eq-eqb}
use Rattle.lustre_syntax.specs.Tree.{ExprTree, EquationTree, set, call, NodeTree, node_at}
use Rattle.lustre_flows.specs.Values.{value_at, value_of, evaluate}
use Rattle.lustre_flows.specs.Instances.{Instance, Instances, no_calls, more_calls, first_call, later_calls, call_at, outputs_of, is_complete, are_complete}
use Rattle.lustre_settling.specs.Solutions.{EquationsHold, holding_at, holdings_of}
use Rattle.lustre_settling.proofs.lemmas.Forms.{HasForm, HaveForms}
use Rattle.lustre_settling.proofs.lemmas.Given.{times, times-same, times-append}
use Rattle.lustre_right.specs.Paths.{callee_of, callees, call_place}
use Rattle.lustre_rows.proofs.lemmas.NamePlaces.{found}

first-one : (cb : Option Instances) → option_map first_call cb ≡ option_map (λ c. call_at c 0) cb
first-one None = refl
first-one (Some no_calls) = refl
first-one (Some (more_calls c cs)) = refl

one-later : (j : ℕ) (cb : Option Instances) →
    option_map (λ c. call_at c j) (option_map later_calls cb) ≡ option_map (λ c. call_at c (suc j)) cb
one-later j None = refl
one-later j (Some no_calls) = refl
one-later j (Some (more_calls c cs)) = refl

module _ (nodes : List NodeTree) (before : Option (List (Option ℤ))) (vs : List (Option ℤ)) where
  abbrev pub Hold : Option Instances → Instances → List EquationTree → Type 0
  Hold cb cs es = EquationsHold nodes (holdings_of nodes) before vs cb cs es

  -- the call at a place takes the outputs of its instance, and gives that its inputs
  pub record IsCallAt (cb : Option Instances) (cs : Instances) (given : List ℕ) (callee : ℕ) (arguments : List ExprTree)
      (j : ℕ) : Type 0 where
    pub outputs : map (value_at vs) given ≡ outputs_of (node_at nodes callee) (call_at cs j)
    pub holds : holding_at (holdings_of nodes) callee (option_map (λ c. call_at c j) cb)
        (map (λ e. value_of (evaluate before vs e)) arguments) (call_at cs j)
    pub form : HasForm nodes callee (call_at cs j)

  pub set-found : (cb : Option Instances) (cs : Instances) (es : List EquationTree) (m line given : ℕ) (value : ExprTree) →
      Hold cb cs es → slice_get es m ≡ Some (set line given value) → value_at vs given ≡ value_of (evaluate before vs value)
  set-found cb cs [] m line given value hold at = absurd (let wrong : ⊥ = cc at in wrong)
  set-found cb cs (set l g x ∷ es) zero line given value hold at =
      let name : g ≡ given = cc at in
      let same : x ≡ value = cc at in
      ap (value_at vs) (sym name) ∙ hold.0 ∙ ap (λ e. value_of (evaluate before vs e)) same
  set-found cb cs (set l g x ∷ es) (suc m) line given value hold at = set-found cb cs es m line given value hold.1 at
  set-found cb cs (call l g c xs ∷ es) zero line given value hold at = absurd (let wrong : ⊥ = cc at in wrong)
  set-found cb cs (call l g c xs ∷ es) (suc m) line given value hold at =
      set-found (option_map later_calls cb) (later_calls cs) es m line given value hold.2 at

  -- the place of a call among the calls
  abbrev pub CallFound : Option Instances → Instances → List EquationTree → List ℕ → ℕ → List ExprTree → Type 0
  CallFound cb cs es given callee arguments =
      (j : ℕ) × (slice_get (flat_map callee_of es) j ≡ Some callee) × IsCallAt cb cs given callee arguments j

  first-call : (cb : Option Instances) (i : Instance) (is : Instances) (g given : List ℕ) (c callee : ℕ)
      (xs arguments : List ExprTree) → g ≡ given → c ≡ callee → xs ≡ arguments →
      map (value_at vs) g ≡ outputs_of (node_at nodes c) i →
      holding_at (holdings_of nodes) c (option_map first_call cb) (map (λ e. value_of (evaluate before vs e)) xs) i →
      HasForm nodes c i → IsCallAt cb (more_calls i is) given callee arguments 0
  first-call cb i is g given c callee xs arguments names node same outputs holds form =
      subst (λ ys. IsCallAt cb (more_calls i is) given callee ys 0) same
      (subst (λ k. IsCallAt cb (more_calls i is) given k xs 0) node
      (subst (λ ks. IsCallAt cb (more_calls i is) ks c xs 0) names
      (record {
        outputs = outputs;
        holds = subst (λ b. holding_at (holdings_of nodes) c b (map (λ e. value_of (evaluate before vs e)) xs) i) (first-one cb) holds;
        form = form;
      })))

  later-call : (cb : Option Instances) (i : Instance) (is : Instances) (given : List ℕ) (callee : ℕ) (arguments : List ExprTree)
      (j : ℕ) → IsCallAt (option_map later_calls cb) is given callee arguments j →
      IsCallAt cb (more_calls i is) given callee arguments (suc j)
  later-call cb i is given callee arguments j found = record {
    outputs = found.outputs;
    holds = subst (λ b. holding_at (holdings_of nodes) callee b (map (λ e. value_of (evaluate before vs e)) arguments) (call_at is j))
        (one-later j cb) found.holds;
    form = found.form;
  }

  pub call-found : (cb : Option Instances) (cs : Instances) (es : List EquationTree) (m line : ℕ) (given : List ℕ) (callee : ℕ)
      (arguments : List ExprTree) → Hold cb cs es → HaveForms nodes es cs → slice_get es m ≡ Some (call line given callee arguments) →
      CallFound cb cs es given callee arguments
  call-found cb cs [] m line given callee arguments hold form at = absurd (let wrong : ⊥ = cc at in wrong)
  call-found cb cs (set l g x ∷ es) zero line given callee arguments hold form at = absurd (let wrong : ⊥ = cc at in wrong)
  call-found cb cs (set l g x ∷ es) (suc m) line given callee arguments hold form at =
      call-found cb cs es m line given callee arguments hold.1 form at
  call-found cb no_calls (call l g c xs ∷ es) m line given callee arguments hold form at = absurd form
  call-found cb (more_calls i is) (call l g c xs ∷ es) zero line given callee arguments hold form at =
      let names : g ≡ given = cc at in
      let node : c ≡ callee = cc at in
      let same : xs ≡ arguments = cc at in
      (0, ap Some node, first-call cb i is g given c callee xs arguments names node same hold.0 hold.1 form.0)
  call-found cb (more_calls i is) (call l g c xs ∷ es) (suc m) line given callee arguments hold form at =
      let rest = call-found (option_map later_calls cb) is es m line given callee arguments hold.2 form.1 at in
      (suc rest.0, rest.1, later-call cb i is given callee arguments rest.0 rest.2)

  -- the call at a place among the calls is an equation
  pub record CallBehind (cb : Option Instances) (cs : Instances) (es : List EquationTree) (j : ℕ) : Type 0 where
    pub place : ℕ
    pub line : ℕ
    pub given : List ℕ
    pub callee : ℕ
    pub arguments : List ExprTree
    pub equation : slice_get es place ≡ Some (call line given callee arguments)
    pub named : slice_get (flat_map callee_of es) j ≡ Some callee
    pub is_call : IsCallAt cb cs given callee arguments j

  -- the same call, among the equations after another one
  moved : (cb cb' : Option Instances) (cs cs' : Instances) (e : EquationTree) (es : List EquationTree) (j k : ℕ)
      (rest : CallBehind cb' cs' es k) → slice_get (flat_map callee_of (e ∷ es)) j ≡ Some rest.callee →
      IsCallAt cb cs rest.given rest.callee rest.arguments j → CallBehind cb cs (e ∷ es) j
  moved cb cb' cs cs' e es j k rest named is_call = record {
    place = suc rest.place;
    line = rest.line;
    given = rest.given;
    callee = rest.callee;
    arguments = rest.arguments;
    equation = rest.equation;
    named = named;
    is_call = is_call;
  }

  pub call-behind : (cb : Option Instances) (cs : Instances) (es : List EquationTree) (j : ℕ) → Hold cb cs es → HaveForms nodes es cs →
      j < length (flat_map callee_of es) → CallBehind cb cs es j
  call-behind cb cs [] j hold form low = absurd (omega arith)
  call-behind cb cs (set l g x ∷ es) j hold form low =
      let rest = call-behind cb cs es j hold.1 form low in moved cb cb cs cs (set l g x) es j j rest rest.named rest.is_call
  call-behind cb no_calls (call l g c xs ∷ es) j hold form low = absurd form
  call-behind cb (more_calls i is) (call l g c xs ∷ es) zero hold form low = record {
    place = 0;
    line = l;
    given = g;
    callee = c;
    arguments = xs;
    equation = refl;
    named = refl;
    is_call = first-call cb i is g g c c xs xs refl refl refl hold.0 hold.1 form.0;
  }
  call-behind cb (more_calls i is) (call l g c xs ∷ es) (suc j) hold form low =
      let rest = call-behind (option_map later_calls cb) is es j hold.2 form.1 (omega arith) in
      moved cb (option_map later_calls cb) (more_calls i is) is (call l g c xs) es (suc j) j rest rest.named
      (later-call cb i is rest.given rest.callee rest.arguments j rest.is_call)

-- calls are complete where each is
pub complete-calls : (nodes : List NodeTree) (es : List EquationTree) (cs : Instances) → HaveForms nodes es cs →
    ((j : ℕ) → j < length (flat_map callee_of es) → is_complete (call_at cs j) ≡ true) → are_complete cs ≡ true
complete-calls nodes [] no_calls form each = refl
complete-calls nodes [] (more_calls c cs) form each = absurd form
complete-calls nodes (set l g x ∷ es) cs form each = complete-calls nodes es cs form each
complete-calls nodes (call l g c xs ∷ es) no_calls form each = absurd form
complete-calls nodes (call l g c xs ∷ es) (more_calls i is) form each =
    and_from (is_complete i) (are_complete is) (each 0 (omega arith))
    (complete-calls nodes es is form.1 (λ j low. each (suc j) (omega arith)))

-- ---- A node that is called once

times-there : (k : ℕ) (xs : List ℕ) (i : ℕ) → slice_get xs i ≡ Some k → 1 ≤ times k xs
times-there k [] i at = absurd (let wrong : ⊥ = cc at in wrong)
times-there k (x ∷ xs) zero at =
    let same : x ≡ k = cc at in
    let one = times-same k xs in
    subst (λ y. 1 ≤ times k (y ∷ xs)) (sym same) (omega arith)
times-there k (x ∷ xs) (suc i) at =
    let all = times-append k (x ∷ []) xs in
    let rest = times-there k xs i at in omega arith

first-only : (k x : ℕ) (xs : List ℕ) (j : ℕ) → times k (x ∷ xs) ≤ 1 → Some x ≡ Some k → slice_get xs j ≡ Some k → ⊥
first-only k x xs j once one two =
    let same : x ≡ k = cc one in
    let more = times-there k xs j two in
    let all = times-same k xs in
    let few : times k (k ∷ xs) ≤ 1 = subst (λ y. times k (y ∷ xs) ≤ 1) same once in omega arith

once-place : (k : ℕ) (xs : List ℕ) (i j : ℕ) → times k xs ≤ 1 → slice_get xs i ≡ Some k → slice_get xs j ≡ Some k → i ≡ j
once-place k [] i j once one two = absurd (let wrong : ⊥ = cc one in wrong)
once-place k (x ∷ xs) zero zero once one two = refl
once-place k (x ∷ xs) zero (suc j) once one two = absurd (first-only k x xs j once one two)
once-place k (x ∷ xs) (suc i) zero once one two = absurd (first-only k x xs i once two one)
once-place k (x ∷ xs) (suc i) (suc j) once one two =
    let all = times-append k (x ∷ []) xs in
    ap suc (once-place k xs i j (omega arith) one two)

pub called-place : (n : NodeTree) (j callee : ℕ) → times callee (callees n) ≤ 1 → slice_get (callees n) j ≡ Some callee →
    call_place n callee ≡ j
called-place n j callee once at =
    let (i, y, is, there, holds) = found (λ k. k == callee) 0 (callees n) j callee at (eq-eqb callee callee refl) in
    let same : y ≡ callee = eqb-true y callee holds in
    ap (λ (o : Option ℕ). unwrap_or o (length (callees n))) is ∙ (let none_before : 0 + i ≡ i = omega arith in none_before)
    ∙ once-place callee (callees n) i j once (there ∙ ap Some same) at
