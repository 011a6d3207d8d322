-- A path of least steps, row by row.
use Rattle.std.specs.Prelude.{◌≡◌, ℕ, suc, ◌<◌, ◌≤◌, IsTrue, List, [], ◌∷◌, ◌++◌, length, get_or, replicate, Contains, Option, Some, None, refl}
use Rattle.std.specs.Ordering.{nat_cmp, is_le, ordering_then}
use Rattle.std.specs.Cmp.{nat_cmp_is}
use Rattle.std.specs.declared.cmp.Ordering.TheVariants.{Less, Equal}
use Rattle.std.specs.Cmp.Lexicographic.{slice_cmp}
use Rattle.std.proofs.Common.{arith, sym, ap, subst, ◌∙◌, inl, inr, append_assoc, set, length-set, get_or-set_same, get_or-set_other}
use Rattle.std.proofs.lemmas.List.{append-nil, get_or-replicate, length-replicate, get_or_past}
use native.Mathlib.Decide.{ℕ_discrete}
use Rattle.diagram_meaning.specs.Walk.{Walk}
use Rattle.std.proofs.lemmas.List.{get_or_default}
use Rattle.base_graph.specs.NeedsGraph.{NeedsGraph}
use Rattle.base_graph.specs.EdgeChains.{from, to}
use Rattle.diagram_needs.specs.Needed.{needed}
use Rattle.diagram_needs.proofs.NeededSteps.{needed-edge, edge-needed}
use Rattle.diagram_needs.specs.Least.{IsLeastOf, lesser_of}
use Rattle.diagram_needs.proofs.LeastSteps.{IsAmong, least-init, least-take, least-pass, least-same}
use Rattle.diagram_needs.specs.Levels.{AreLevels}
use Rattle.diagram_needs.specs.LeastPaths.{IsLeastPath, IsNextOn, AreNextOn}
use Rattle.diagram_needs.proofs.Comparing.{le-or-above}

-- lists with these first items, in order
pub first-less : (a b : ℕ) (xs ys : List ℕ) → a ≤ b → (a ≡ b → IsTrue (is_le (slice_cmp nat_cmp xs ys))) →
    IsTrue (is_le (slice_cmp nat_cmp (a ∷ xs) (b ∷ ys)))
first-less a b xs ys le rest = elim (le-or-above b a) [
  | inl same ↦
      subst (λ o. IsTrue (is_le (ordering_then o (slice_cmp nat_cmp xs ys)))) (nat_cmp_is a b Equal (omega arith))
      (rest (omega arith))
  | inr less ↦ subst (λ o. IsTrue (is_le (ordering_then o (slice_cmp nat_cmp xs ys)))) (nat_cmp_is a b Less less) refl
]

module _ (needs : ℕ → List ℕ) (z k : ℕ) (steps : List ℕ) (levels : AreLevels needs z k steps) where
  -- the first row of a path of least steps is one step nearer
  next-is : (a c : ℕ) (path : List ℕ) → Contains (needs a) c → Walk needs c path z →
      suc (suc (length path)) ≡ get_or steps a 0 → IsNextOn needs steps a c
  next-is a c path need w e =
      let within = (levels.walks a (omega arith)).0 in
      let r = levels.least c path w (omega arith) in
      let way = (levels.walks c r.0).1 in
      let back = levels.least a (c ∷ way.0) (need, way.1) (let q = way.2 in let l = r.1 in omega arith) in
      record { needs_it = need; on_way = r.0; shorter = let q = way.2 in let l = r.1 in let m = back.1 in omega arith }

  -- without a next row the walk ends
  pub path-end : (a : ℕ) → 0 < get_or steps a 0 → IsLeastOf (IsNextOn needs steps a) None → IsLeastPath needs z steps a []
  path-end a counted none = by ((levels.walks a counted).1.0) ((levels.walks a counted).1.1) ((levels.walks a counted).1.2)
    where
      only : (other : List ℕ) → length other ≡ 0 → IsTrue (is_le (slice_cmp nat_cmp [] other))
      only [] e = refl
      only (b ∷ other) e = absurd (omega arith)

      by : (path : List ℕ) → Walk needs a path z → suc (length path) ≡ get_or steps a 0 → IsLeastPath needs z steps a []
      by [] w e = record { walk = w; steps_taken = e; first = λ other v l. only other l }
      by (c ∷ path) w e = absurd (none c (next-is a c path w.0 w.1 e))

  -- the least next row goes on
  pub path-cons : (a c : ℕ) (rest : List ℕ) → IsLeastOf (IsNextOn needs steps a) (Some c) →
      IsLeastPath needs z steps c rest → IsLeastPath needs z steps a (c ∷ rest)
  path-cons a c rest next way = record {
    walk = (next.0.needs_it, way.walk);
    steps_taken = let e = way.steps_taken in let s = next.0.shorter in omega arith;
    first = λ other w l. compare other w l;
  }
    where
      compare : (other : List ℕ) → Walk needs a other z → length other ≡ length (c ∷ rest) →
          IsTrue (is_le (slice_cmp nat_cmp (c ∷ rest) other))
      compare [] w l = absurd (omega arith)
      compare (b ∷ other) w l =
          let e = way.steps_taken in let s = next.0.shorter in
          let same : length other ≡ length rest = omega arith in
          let near = next-is a b other w.0 w.1 (omega (arith, e, s)) in
          first-less c b rest other (next.1 b near) (λ q. way.first other (subst (λ n. Walk needs n other z) (sym q) w.1) same)

-- the rows after the first, on the way from s to the row that was reached
pub record IsOnWay (needs : ℕ → List ℕ) (z : ℕ) (steps : List ℕ) (s at : ℕ) (list : List ℕ) : Type 0 where
  pub behind : List ℕ
  pub begins : list ≡ s ∷ behind
  pub counted : 0 < get_or steps at 0
  pub leads : (rest : List ℕ) → IsLeastPath needs z steps at rest → IsLeastPath needs z steps s (behind ++ rest)

module _ (needs : ℕ → List ℕ) (z : ℕ) (steps : List ℕ) (s k : ℕ) (levels : AreLevels needs z k steps) where
  pub way-step : (at c : ℕ) (list later : List ℕ) → later ≡ list ++ c ∷ [] →
      IsLeastOf (IsNextOn needs steps at) (Some c) → IsOnWay needs z steps s at list → IsOnWay needs z steps s c later
  way-step at c list later e next on = record {
    behind = on.behind ++ c ∷ [];
    begins = e ∙ ap (λ l. l ++ c ∷ []) on.begins;
    counted = next.0.on_way;
    leads = λ rest way. subst (λ l. IsLeastPath needs z steps s l) (sym (append_assoc on.behind (c ∷ []) rest))
        (on.leads (c ∷ rest) (path-cons needs z k steps levels at c rest next way));
  }

  pub way-done : (at : ℕ) (list : List ℕ) → IsLeastOf (IsNextOn needs steps at) None → IsOnWay needs z steps s at list →
      (path : List ℕ) × (list ≡ s ∷ path) × IsLeastPath needs z steps s path
  way-done at list none on = (
    on.behind,
    on.begins,
    subst (λ l. IsLeastPath needs z steps s l) (append-nil on.behind) (on.leads [] (path-end needs z k steps levels at on.counted none)),
  )

-- an edge along which the way goes on
abbrev pub LeadsOn : List (ℕ × ℕ) → List ℕ → ℕ → ℕ → Type 0
LeadsOn edges steps at e =
    (to edges e ≡ at)
    × ((0 < get_or steps (from edges e) 0) × (suc (get_or steps (from edges e) 0) ≡ get_or steps at 0))

-- for each row the least one along the first i edges
pub record NextLoop (edges : List (ℕ × ℕ)) (steps : List ℕ) (next : List (Option ℕ)) (i : ℕ) : Type 0 where
  pub len : length next ≡ length steps
  pub least : (at : ℕ) → at < length steps → IsLeastOf (IsAmong (LeadsOn edges steps at) (from edges) i) (get_or next at None)

module _ (edges : List (ℕ × ℕ)) (steps : List ℕ) where
  pub next_begins : (n : ℕ) (next : List (Option ℕ)) → next ≡ replicate n None → length steps ≡ n → NextLoop edges steps next 0
  next_begins n next e len = subst (λ xs. NextLoop edges steps xs 0) (sym e) (record {
    len = length-replicate n None ∙ sym len;
    least = λ at below. subst (IsLeastOf (IsAmong (LeadsOn edges steps at) (from edges) 0))
        (sym (get_or-replicate n at None None (omega arith)))
        (least-init (LeadsOn edges steps at) (from edges));
  })

  module _ (i j a b : ℕ) (one_more : j ≡ suc i) (from_is : a ≡ from edges i) (to_is : b ≡ to edges i)
      (next : List (Option ℕ)) (loop : NextLoop edges steps next i) where
    -- the way goes on from b to a
    abbrev Given : Type 0
    Given = (0 < get_or steps a 0) × (suc (get_or steps a 0) ≡ get_or steps b 0)

    -- what edge i says of row b
    here : Given → LeadsOn edges steps b i
    here given = (sym to_is, subst (λ n. (0 < get_or steps n 0) × (suc (get_or steps n 0) ≡ get_or steps b 0)) from_is given)

    -- it says nothing of another row
    not-here : (at : ℕ) → (at ≡ b → ⊥) → LeadsOn edges steps at i → ⊥
    not-here at differ leads = differ (sym leads.0 ∙ sym to_is)

    pub next_take : b < length steps → Given → (later : List (Option ℕ)) →
        later ≡ set next b (Some (lesser_of (get_or next b None) a)) → NextLoop edges steps later j
    next_take inside given later e =
        subst (λ xs. NextLoop edges steps xs j) (sym e)
        (subst (λ n. NextLoop edges steps (set next b (Some (lesser_of (get_or next b None) a))) n) (sym one_more)
        (record {
          len = length-set next b (Some (lesser_of (get_or next b None) a)) ∙ loop.len;
          least = λ at below. elim (ℕ_discrete at b) [
            | yes same ↦
                subst (λ n. IsLeastOf (IsAmong (LeadsOn edges steps n) (from edges) (suc i))
                (get_or (set next b (Some (lesser_of (get_or next b None) a))) n None)) (sym same)
                (subst (IsLeastOf (IsAmong (LeadsOn edges steps b) (from edges) (suc i)))
                (sym (get_or-set_same next b (Some (lesser_of (get_or next b None) a)) None (let l = loop.len in omega arith)))
                (subst (λ n. IsLeastOf (IsAmong (LeadsOn edges steps b) (from edges) (suc i))
                (Some (lesser_of (get_or next b None) n))) (sym from_is)
                (least-take (LeadsOn edges steps b) (from edges) i (get_or next b None) (here given) (loop.least b inside))))
            | no differ ↦
                subst (IsLeastOf (IsAmong (LeadsOn edges steps at) (from edges) (suc i)))
                (sym (get_or-set_other next b at (Some (lesser_of (get_or next b None) a)) None differ))
                (least-pass (LeadsOn edges steps at) (from edges) i (get_or next at None) (not-here at differ) (loop.least at below))
          ];
        }))

    pub next_pass : (Given → ⊥) → NextLoop edges steps next j
    next_pass fails = subst (NextLoop edges steps next) (sym one_more) (record {
      len = loop.len;
      least = λ at below. least-pass (LeadsOn edges steps at) (from edges) i (get_or next at None)
          (λ leads. fails (subst (λ n. (0 < get_or steps n 0) × (suc (get_or steps n 0) ≡ get_or steps b 0)) (sym from_is)
          (subst (λ n. (0 < get_or steps (from edges i) 0) × (suc (get_or steps (from edges i) 0) ≡ get_or steps n 0))
          (sym leads.0 ∙ sym to_is) leads.1)))
          (loop.least at below);
    })

module _ (g : NeedsGraph) (steps : List ℕ) where
  next-of-row : (at : ℕ) (found : Option ℕ) →
      IsLeastOf (IsAmong (LeadsOn g.edges steps at) (from g.edges) (length g.edges)) found →
      IsLeastOf (IsNextOn (needed g) steps at) found
  next-of-row at found h =
      least-same (IsAmong (LeadsOn g.edges steps at) (from g.edges) (length g.edges))
      (IsNextOn (needed g) steps at) found
      (λ c m. record {
        needs_it = edge-needed at c g.edges (
          m.0,
          m.1,
          get_or_default g.edges m.0 (c, at) (0, 0) m.1 ∙ λ i. (sym m.3 i, m.2.0 i),
        );
        on_way = subst (λ n. 0 < get_or steps n 0) (sym m.3) m.2.1.0;
        shorter = subst (λ n. suc (get_or steps n 0) ≡ get_or steps at 0) (sym m.3) m.2.1.1;
      })
      (λ c n.
      let e = needed-edge at c g.edges n.needs_it in
      let read : get_or g.edges e.0 (0, 0) ≡ (c, at) = get_or_default g.edges e.0 (0, 0) (c, at) e.1 ∙ e.2 in
      let first : c ≡ from g.edges e.0 = sym (ap (λ (x : ℕ × ℕ). x.0) read) in (
        e.0,
        e.1,
        (
          ap (λ (x : ℕ × ℕ). x.1) read,
          subst (λ n. (0 < get_or steps n 0) × (suc (get_or steps n 0) ≡ get_or steps at 0)) first
              (n.on_way, n.shorter),
        ),
        first,
      ))
      h

  pub next_ends : (i : ℕ) (next : List (Option ℕ)) → i ≡ length g.edges → NextLoop g.edges steps next i → AreNextOn (needed g) steps next
  next_ends i next all loop = record {
    len = loop.len;
    least = λ at below. next-of-row at (get_or next at None)
        (subst (λ n. IsLeastOf (IsAmong (LeadsOn g.edges steps at) (from g.edges) n) (get_or next at None)) all (loop.least at below));
  }

-- what is read of a row from which steps are counted
pub next-read : (needs : ℕ → List ℕ) (steps : List ℕ) (next : List (Option ℕ)) (at : ℕ) (found : Option ℕ) →
    AreNextOn needs steps next → 0 < get_or steps at 0 →
    found ≡ get_or next at found → IsLeastOf (IsNextOn needs steps at) found
next-read needs steps next at found are counted read = elim (le-or-above (length steps) at) [
  | inl past ↦ absurd (let none = get_or_past steps at 0 past in omega arith)
  | inr inside ↦
      subst (IsLeastOf (IsNextOn needs steps at))
      (sym (read ∙ get_or_default next at found None (let l = are.len in omega arith))) (are.least at inside)
]
