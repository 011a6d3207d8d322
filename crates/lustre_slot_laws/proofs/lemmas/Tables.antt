-- Each slot of a lawful file has one source.
use Rattle.std.proofs.Common.{◌≡◌, ◌≢◌, refl, sym, ◌∙◌, ap, ap₂, subst, ℕ, zero, suc, ◌+◌, ◌-◌, ◌<◌, ◌≤◌, List, [], ◌∷◌, ◌++◌, length, arith, slice_index, replicate, ◌⊎◌, inl, inr}
use Rattle.std.specs.Prelude.{if◌then◌else◌, nat_lt, ◌==◌, cond}
use Rattle.std.specs.List.{AllByRecursion, flat_map, filter, range_with_len, slice_set}
use Rattle.std.proofs.lemmas.Grind.{flat_map-append}
use Rattle.std.proofs.lemmas.List.{get_or-set_same, get_or-set_other, length-set, set_past, length-replicate}
use Rattle.std.proofs.lemmas.Bool.Decides.{nat_tests}
use Rattle.lustre_syntax.specs.Lawful.{IsLawful}
use Rattle.lustre_syntax.specs.Tree.{ExprTree, EquationTree, set, call, node_at, FileTree, given_by}
use Rattle.lustre_flows.specs.Ticks.{last_place}
use Rattle.lustre_settling.proofs.lemmas.Unfolded.{AreCallsFrom, calls-from, lawful-at}
use Rattle.lustre_slots.specs.declared.placed.Placed.{Placed}
use Rattle.lustre_slots.specs.declared.placed.Source.{Source}
use Rattle.lustre_slots.specs.declared.placed.Source.TheVariants.{Row}
use Rattle.lustre_slots.specs.Layout.{calls_size, sizes_of, calls_from, calls_in, IsThere, with_inside, root_of, instances_of}
use Rattle.lustre_slots.specs.Sources.{Link, argument_links, output_links, equation_links, links_of, linked, sources_of}
use Rattle.lustre_slots.proofs.lemmas.Layouts.{size-is, inside-is, root-there}
use Rattle.lustre_slot_laws.specs.Outcomes.{source_at}

-- ---- How often a slot is given

-- 1 for the number itself, else 0
abbrev pub same : ℕ → ℕ → ℕ
same s t = if s == t then 1 else 0

same-yes : (s t : ℕ) → s ≡ t → same s t ≡ 1
same-yes s t is = grind (arith, nat_tests)

same-no : (s t : ℕ) → s ≢ t → same s t ≡ 0
same-no s t other = grind (arith, nat_tests)

-- how many links give a slot
abbrev pub hits : ℕ → List Link → ℕ
hits s [] = 0
hits s (l ∷ ls) = same s l.slot + hits s ls

-- how often a number is one of n numbers from a on
abbrev pub within : (a n : ℕ) → ℕ → ℕ
within a zero s = 0
within a (suc n) s = same s a + within (a + 1) n s

-- how often a slot is one of these names of an instance
abbrev pub named : (base : ℕ) → ℕ → List ℕ → ℕ
named base s [] = 0
named base s (k ∷ ks) = same s (base + k) + named base s ks

hits-append : (s : ℕ) (xs ys : List Link) → hits s (xs ++ ys) ≡ hits s xs + hits s ys
hits-append s [] ys = omega arith
hits-append s (x ∷ xs) ys = omega (arith, hits-append s xs ys)

named-append : (base s : ℕ) (xs ys : List ℕ) → named base s (xs ++ ys) ≡ named base s xs + named base s ys
named-append base s [] ys = omega arith
named-append base s (x ∷ xs) ys = omega (arith, named-append base s xs ys)

within-add : (a n m s : ℕ) → within a (n + m) s ≡ within a n s + within (a + n) m s
within-add a zero m s =
    let left : zero + m ≡ m = omega arith in
    let right : a + zero ≡ a = omega arith in
    ap (λ k. within a k s) left ∙ ap (λ b. within b m s) (sym right) ∙ omega arith
within-add a (suc n) m s =
    let left : suc n + m ≡ suc (n + m) = omega arith in
    let right : (a + 1) + n ≡ a + suc n = omega arith in
    ap (λ k. within a k s) left ∙ omega (arith, within-add (a + 1) n m s, ap (λ b. within b m s) right)

within-before : (a n s : ℕ) → s < a → within a n s ≡ 0
within-before a zero s before = refl
within-before a (suc n) s before = omega (arith, same-no s a (omega arith), within-before (a + 1) n s (omega arith))

less-or-same : (x y : ℕ) → x ≤ y → (x ≡ y) ⊎ (x < y)
less-or-same x y le = grind arith

within-in : (a n s : ℕ) → a ≤ s → s < a + n → within a n s ≡ 1
within-in a zero s from to = absurd (omega arith)
within-in a (suc n) s from to =
    elim (less-or-same a s from) as (λ v. within a (suc n) s ≡ 1) [
      | inl is ↦ omega (arith, same-yes s a (sym is), within-before (a + 1) n s (omega arith))
      | inr less ↦ omega (arith, same-no s a (omega arith), within-in (a + 1) n s (omega arith) (omega arith))
    ]

within-after : (a n s : ℕ) → a + n ≤ s → within a n s ≡ 0
within-after a zero s after = refl
within-after a (suc n) s after = omega (arith, same-no s a (omega arith), within-after (a + 1) n s (omega arith))

-- ---- The names that the equations of a node give

one-more : (k x : ℕ) (rest : List ℕ) → length (cond (k == x) (k ∷ rest) rest) ≡ same x k + length rest
one-more k x rest = grind (arith, nat_tests)

same-shifted : (base x k : ℕ) → same (base + x) (base + k) ≡ same x k
same-shifted base x k = grind (arith, nat_tests)

named-of : (base x : ℕ) (ks : List ℕ) → named base (base + x) ks ≡ length (filter (λ j. j == x) ks)
named-of base x [] = refl
named-of base x (k ∷ ks) =
    ap₂ (λ a b. a + b) (same-shifted base x k) (named-of base x ks) ∙ sym (one-more k x (filter (λ j. j == x) ks))

named-before : (base s : ℕ) (ks : List ℕ) → s < base → named base s ks ≡ 0
named-before base s [] before = refl
named-before base s (k ∷ ks) before = omega (arith, same-no s (base + k) (omega arith), named-before base s ks before)

named-past : (base s m : ℕ) (ks : List ℕ) → AllByRecursion (λ k. k < m) ks → base + m ≤ s → named base s ks ≡ 0
named-past base s m [] small past = refl
named-past base s m (k ∷ ks) small past =
    let less = small.0 in
    omega (arith, same-no s (base + k) (omega arith), named-past base s m ks small.1 past)

in-range : (P : ℕ → Type 0) (a n x : ℕ) → AllByRecursion P (range_with_len a n) → x < n → P (a + x)
in-range P a zero x all less = absurd (omega arith)
in-range P a (suc n) zero all less = let e : a + 0 ≡ a = omega arith in subst P (sym e) all.0
in-range P a (suc n) (suc x) all less =
    let e : (a + 1) + x ≡ a + suc x = omega arith in
    subst P e (in-range P (a + 1) n x all.1 (omega arith))

-- an input is given by no equation, each other name by one
abbrev wanted : ℕ → ℕ → ℕ
wanted x i = if nat_lt x i then 0 else 1

wanted-before : (x i : ℕ) → x < i → wanted x i ≡ 0
wanted-before x i less = grind (arith, nat_tests)

wanted-after : (x i : ℕ) → i ≤ x → wanted x i ≡ 1
wanted-after x i less = grind (arith, nat_tests)

less-or-not : (x y : ℕ) → (x < y) ⊎ (y ≤ x)
less-or-not x y = grind arith

-- of the names of an instance, equations give those that are no inputs, each once
named-lawful : (base m i s : ℕ) (ks : List ℕ) → AllByRecursion (λ k. k < m) ks →
    AllByRecursion (λ k. length (filter (λ j. j == k) ks) ≡ wanted k i) (range_with_len 0 m) → i ≤ m →
    named base s ks ≡ within (base + i) (m - i) s
named-lawful base m i s ks small given ports =
    let x = s - base in
    let goal : Type 0 = named base s ks ≡ within (base + i) (m - i) s in
    elim (less-or-not s base) as (λ v. goal) [
      | inl before ↦ named-before base s ks before ∙ sym (within-before (base + i) (m - i) s (omega arith))
      | inr from ↦
          let at : s ≡ base + x = omega arith in
          elim (less-or-not x m) as (λ v. goal) [
            | inl less ↦
                let zero-more : 0 + x ≡ x = omega arith in
                let count : length (filter (λ j. j == x) ks) ≡ wanted x i =
                subst (λ y. length (filter (λ j. j == y) ks) ≡ wanted y i) zero-more
                (in-range (λ k. length (filter (λ j. j == k) ks) ≡ wanted k i) 0 m x given less) in
                let found : named base s ks ≡ wanted x i = ap (λ t. named base t ks) at ∙ named-of base x ks ∙ count in
                elim (less-or-not x i) as (λ v. goal) [
                  | inl before ↦ found ∙ wanted-before x i before ∙ sym (within-before (base + i) (m - i) s (omega arith))
                  | inr after ↦ found ∙ wanted-after x i after ∙ sym (within-in (base + i) (m - i) s (omega arith) (omega arith))
                ]
            | inr past ↦ named-past base s m ks small (omega arith) ∙ sym (within-after (base + i) (m - i) s (omega arith))
          ]
    ]

-- ---- How often the links of a file give a slot

argument-hits : (s : ℕ) (p : Placed) (i at k : ℕ) (es : List ExprTree) → hits s (argument_links p i at k es) ≡ within at (length es) s
argument-hits s p i at k [] = refl
argument-hits s p i at k (e ∷ es) = ap (λ n. same s at + n) (argument-hits s p i (at + 1) (k + 1) es)

output-hits : (s : ℕ) (p : Placed) (at : ℕ) (ks : List ℕ) → hits s (output_links p at ks) ≡ named p.base s ks
output-hits s p at [] = refl
output-hits s p at (k ∷ ks) = ap (λ n. same s (p.base + k) + n) (output-hits s p (at + 1) ks)

module _ (f : FileTree) (lawful : IsLawful f) (s : ℕ) where
  -- those of an instance and of those inside it give all its slots but its inputs, each once
  abbrev pub GivesOnce : Placed → Type 0
  GivesOnce p = hits s (flat_map (links_of f) (with_inside f p))
      ≡ within (p.base + (node_at f.nodes p.node).inputs) (slice_index (sizes_of f) p.node - (node_at f.nodes p.node).inputs) s

  module _ (p : Placed) (there : IsThere f p) (inner : (q : Placed) → q.node < p.node → IsThere f q → GivesOnce q) where
    equation-hits : (i at : ℕ) (es : List EquationTree) → AreCallsFrom f.nodes p.node es →
        hits s (equation_links f p i at es) + hits s (flat_map (links_of f) (flat_map (with_inside f) (calls_from (sizes_of f) at es)))
        ≡ named p.base s (flat_map given_by es) + within at (calls_size (sizes_of f) es) s
    equation-hits i at [] calls = refl
    equation-hits i at (set line given value ∷ es) calls = omega (arith, equation-hits (i + 1) at es calls)
    equation-hits i at (call line given callee arguments ∷ es) calls =
        let q : Placed = record { node = callee; base = at } in
        let n = node_at f.nodes callee in
        let size = slice_index (sizes_of f) callee in
        let facts = calls.0 in
        let ports = (lawful-at f.nodes callee lawful.nodes facts.there).ports in
        let whole = size-is f callee lawful facts.there in
        let arguments-give = argument-hits s p i at 0 arguments ∙ ap (λ k. within at k s) facts.inputs in
        let outputs-give = output-hits s p (at + n.inputs) given in
        let child = inner q facts.earlier facts.there in
        let rest = equation-hits (i + 1) (at + size) es calls.1 in
        let own = hits-append s (argument_links p i at 0 arguments)
        (output_links p (at + n.inputs) given ++ equation_links f p (i + 1) (at + size) es) in
        let own-later = hits-append s (output_links p (at + n.inputs) given) (equation_links f p (i + 1) (at + size) es) in
        let inside = ap (hits s) (flat_map-append (links_of f) (with_inside f q)
        (flat_map (with_inside f) (calls_from (sizes_of f) (at + size) es)))
        ∙ hits-append s (flat_map (links_of f) (with_inside f q))
        (flat_map (links_of f) (flat_map (with_inside f) (calls_from (sizes_of f) (at + size) es))) in
        let names = named-append p.base s given (flat_map given_by es) in
        let parts : size ≡ n.inputs + (size - n.inputs) = omega arith in
        let child-all : within at size s ≡ within at n.inputs s + within (at + n.inputs) (size - n.inputs) s =
        ap (λ k. within at k s) parts ∙ within-add at n.inputs (size - n.inputs) s in
        let all = within-add at size (calls_size (sizes_of f) es) s in
        omega arith

    node-hits : GivesOnce p
    node-hits =
        let n = node_at f.nodes p.node in
        let size = slice_index (sizes_of f) p.node in
        let good = lawful-at f.nodes p.node lawful.nodes there in
        let ports = good.ports in
        let whole = size-is f p.node lawful there in
        let calls = calls_size (sizes_of f) n.equations in
        let links = ap (λ ps. hits s (flat_map (links_of f) ps)) (inside-is f p lawful there)
        ∙ hits-append s (links_of f p) (flat_map (links_of f) (flat_map (with_inside f) (calls_in f p))) in
        let given = equation-hits 0 (p.base + length n.names) n.equations (calls-from f.nodes p.node lawful.nodes there) in
        let names = named-lawful p.base (length n.names) n.inputs s (flat_map given_by n.equations) good.within good.given (omega arith) in
        let parts : size - n.inputs ≡ (length n.names - n.inputs) + calls = omega arith in
        let start : (p.base + n.inputs) + (length n.names - n.inputs) ≡ p.base + length n.names = omega arith in
        let all = ap (λ k. within (p.base + n.inputs) k s) parts
        ∙ within-add (p.base + n.inputs) (length n.names - n.inputs) calls s
        ∙ ap (λ a. within (p.base + n.inputs) (length n.names - n.inputs) s + within a calls s) start in
        links ∙ given ∙ ap (λ k. k + within (p.base + length n.names) calls s) names ∙ sym all

  gives-once-below : (k : ℕ) (p : Placed) → p.node < k → IsThere f p → GivesOnce p
  gives-once-below zero p less there = absurd (omega arith)
  gives-once-below (suc k) p less there = node-hits p there (λ q smaller. gives-once-below k q (omega arith))

  pub gives-once : (p : Placed) → IsThere f p → GivesOnce p
  gives-once p there = gives-once-below (suc p.node) p (omega arith) there

-- the links of a file give no slot twice, and no slot past the end
hits-few : (f : FileTree) (s : ℕ) → IsLawful f → hits s (flat_map (links_of f) (instances_of f)) ≤ 1
hits-few f s lawful =
    let n = node_at f.nodes (last_place f) in
    let size = slice_index (sizes_of f) (last_place f) in
    few (0 + n.inputs) (size - n.inputs) (gives-once f lawful s (root_of f) (root-there f lawful))
  where
    few : (a n : ℕ) → hits s (flat_map (links_of f) (instances_of f)) ≡ within a n s → hits s (flat_map (links_of f) (instances_of f)) ≤ 1
    few a n is = by (less-or-not s a)
      where
        by : (s < a) ⊎ (a ≤ s) → hits s (flat_map (links_of f) (instances_of f)) ≤ 1
        by (inl before) = omega (arith, is, within-before a n s before)
        by (inr from) = inside (less-or-not s (a + n))
          where
            inside : (s < a + n) ⊎ (a + n ≤ s) → hits s (flat_map (links_of f) (instances_of f)) ≤ 1
            inside (inl to) = omega (arith, is, within-in a n s from to)
            inside (inr past) = omega (arith, is, within-after a n s past)

hits-below : (f : FileTree) (s : ℕ) → IsLawful f → 1 ≤ hits s (flat_map (links_of f) (instances_of f)) →
    s < slice_index (sizes_of f) (last_place f)
hits-below f s lawful some =
    let n = node_at f.nodes (last_place f) in
    let size = slice_index (sizes_of f) (last_place f) in
    let whole = size-is f (last_place f) lawful (root-there f lawful) in
    let ports = (lawful-at f.nodes (last_place f) lawful.nodes (root-there f lawful)).ports in
    by n.inputs size (gives-once f lawful s (root_of f) (root-there f lawful)) (omega arith) (less-or-not s size)
  where
    by : (i size : ℕ) → hits s (flat_map (links_of f) (instances_of f)) ≡ within (0 + i) (size - i) s → i ≤ size →
        (s < size) ⊎ (size ≤ s) → s < size
    by i size is fit (inl less) = less
    by i size is fit (inr past) = absurd (omega (arith, is, some, within-after (0 + i) (size - i) s (omega arith)))

-- ---- Tables

linked-length : (sources : List Source) (links : List Link) → length (linked sources links) ≡ length sources
linked-length sources [] = refl
linked-length sources (l ∷ ls) = linked-length (slice_set sources l.slot l.source) ls ∙ length-set sources l.slot l.source

linked-other : (sources : List Source) (links : List Link) (s : ℕ) → hits s links ≡ 0 →
    source_at (linked sources links) s ≡ source_at sources s
linked-other sources [] s none = refl
linked-other sources (l ∷ ls) s none =
    let other : s ≢ l.slot = λ is. omega (arith, same-yes s l.slot is) in
    linked-other (slice_set sources l.slot l.source) ls s (omega arith) ∙ get_or-set_other sources l.slot s l.source Row other

linked-finds : (links : List Link) (sources : List Source) → ((s : ℕ) → hits s links ≤ 1) →
    AllByRecursion (λ (l : Link). l.slot < length sources → source_at (linked sources links) l.slot ≡ l.source) links
linked-finds [] sources few = tt
linked-finds (l ∷ ls) sources few =
    let more = slice_set sources l.slot l.source in
    let size : length more ≡ length sources = length-set sources l.slot l.source in (
      λ small. linked-other more ls l.slot (omega (arith, few l.slot, same-yes l.slot l.slot refl))
          ∙ get_or-set_same sources l.slot l.source Row small,
      subst (λ n. AllByRecursion (λ (k : Link). k.slot < n → source_at (linked more ls) k.slot ≡ k.source) ls) size
          (linked-finds ls more (λ s. omega (arith, few s))),
    )

links-below : (n : ℕ) (links : List Link) → ((s : ℕ) → 1 ≤ hits s links → s < n) → AllByRecursion (λ (l : Link). l.slot < n) links
links-below n [] small = tt
links-below n (l ∷ ls) small =
    (small l.slot (omega (arith, same-yes l.slot l.slot refl)), links-below n ls (λ s some. small s (omega arith)))

-- what holds of each slot and its source holds of each link
module _ (Q : ℕ → Source → Type 0) where
  links-hold : (n : ℕ) (table : List Source) (links : List Link) → ((s : ℕ) → Q s (source_at table s)) →
      AllByRecursion (λ (l : Link). l.slot < n) links →
      AllByRecursion (λ (l : Link). l.slot < n → source_at table l.slot ≡ l.source) links → AllByRecursion (λ (l : Link). Q l.slot l.source) links
  links-hold n table [] holds small finds = tt
  links-hold n table (l ∷ ls) holds small finds =
      (subst (Q l.slot) (finds.0 small.0) (holds l.slot), links-hold n table ls holds small.1 finds.1)

  table-holds : (links : List Link) (sources : List Source) → ((s : ℕ) → Q s (source_at sources s)) →
      AllByRecursion (λ (l : Link). Q l.slot l.source) links → (s : ℕ) → Q s (source_at (linked sources links) s)
  table-holds [] sources holds links = holds
  table-holds (l ∷ ls) sources holds links =
      table-holds ls (slice_set sources l.slot l.source) (λ s. by s (less-or-not l.slot (length sources)) (equal-or-not s l.slot)) links.1
    where
      equal-or-not : (x y : ℕ) → (x ≡ y) ⊎ (x ≢ y)
      equal-or-not x y = grind arith

      by : (s : ℕ) → (l.slot < length sources) ⊎ (length sources ≤ l.slot) → (s ≡ l.slot) ⊎ (s ≢ l.slot) →
          Q s (source_at (slice_set sources l.slot l.source) s)
      by s (inl small) (inl is) =
          subst (λ k. Q k (source_at (slice_set sources l.slot l.source) k)) (sym is)
          (subst (Q l.slot) (sym (get_or-set_same sources l.slot l.source Row small)) links.0)
      by s (inr past) (inl is) = subst (λ table. Q s (source_at table s)) (sym (set_past sources l.slot l.source past)) (holds s)
      by s room (inr other) = subst (Q s) (sym (get_or-set_other sources l.slot s l.source Row other)) (holds s)

  pub rows-hold : (n s : ℕ) → ((s : ℕ) → Q s Row) → Q s (source_at (replicate n Row) s)
  rows-hold n s rows = subst (Q s) (sym (row-at n s)) (rows s)
    where
      row-at : (n s : ℕ) → source_at (replicate n Row) s ≡ Row
      row-at zero s = refl
      row-at (suc n) zero = refl
      row-at (suc n) (suc s) = row-at n s

  -- what holds of each slot of a lawful file and its source, where it holds of rows, is what holds of each link
  pub slots-of-links : (f : FileTree) → ((s : ℕ) → Q s Row) → AllByRecursion (λ (l : Link). Q l.slot l.source) (flat_map (links_of f) (instances_of f)) →
      (s : ℕ) → Q s (source_at (sources_of f) s)
  slots-of-links f rows links =
      table-holds (flat_map (links_of f) (instances_of f)) (replicate (slice_index (sizes_of f) (last_place f)) Row)
      (λ s. rows-hold (slice_index (sizes_of f) (last_place f)) s rows) links

  pub links-of-slots : (f : FileTree) → IsLawful f → ((s : ℕ) → Q s (source_at (sources_of f) s)) →
      AllByRecursion (λ (l : Link). Q l.slot l.source) (flat_map (links_of f) (instances_of f))
  links-of-slots f lawful slots =
      let size = slice_index (sizes_of f) (last_place f) in
      let links = flat_map (links_of f) (instances_of f) in
      let rows : List Source = replicate size Row in
      links-hold size (sources_of f) links slots (links-below size links (λ s some. hits-below f s lawful some))
      (subst (λ n. AllByRecursion (λ (l : Link). l.slot < n → source_at (sources_of f) l.slot ≡ l.source) links) (length-replicate size Row)
      (linked-finds links rows (λ s. hits-few f s lawful)))

-- a source for each slot
pub sources-count : (f : FileTree) → length (sources_of f) ≡ slice_index (sizes_of f) (last_place f)
sources-count f =
    linked-length (replicate (slice_index (sizes_of f) (last_place f)) Row) (flat_map (links_of f) (instances_of f))
    ∙ length-replicate (slice_index (sizes_of f) (last_place f)) Row

-- the inputs of the last node are given by rows
pub inputs-are-rows : (f : FileTree) (s : ℕ) → IsLawful f → s < (node_at f.nodes (last_place f)).inputs → source_at (sources_of f) s ≡ Row
inputs-are-rows f s lawful small =
    let n = node_at f.nodes (last_place f) in
    let size = slice_index (sizes_of f) (last_place f) in
    let none : hits s (flat_map (links_of f) (instances_of f)) ≡ 0 =
    gives-once f lawful s (root_of f) (root-there f lawful) ∙ within-before (0 + n.inputs) (size - n.inputs) s (omega arith) in
    linked-other (replicate size Row) (flat_map (links_of f) (instances_of f)) s none
    ∙ rows-hold (λ k source. source ≡ Row) size s (λ k. refl)
