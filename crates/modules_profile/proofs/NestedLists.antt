-- The systems directly inside one, as a list, and what a nested system has from the table.
use Rattle.std.proofs.Common.{◌≡◌, ℕ, zero, suc, ◌+◌, ◌<◌, List, [], ◌∷◌, map, length, get_or, slice_get, All, Option, None, Some, refl, sym, ap, subst, ◌∙◌, arith}
use Rattle.std.specs.List.{range_with_len}
use Rattle.std.proofs.lemmas.List.{length-map, get_or-map}
use Rattle.std.proofs.lemmas.List.Elements.{All-filter}
use Rattle.std.proofs.lemmas.List.FromFn.{length-range_with_len, get_or-range_with_len}
use Rattle.diagram_meaning.specs.declared.table.Row.{Row}
use Rattle.diagram_meaning.specs.declared.subsystem.Subsystem.{Subsystem}
use Rattle.diagram_meaning.specs.declared.subsystem.Subsystem.TheViews.{out-Subsystem}
use Rattle.diagram_meaning.specs.declared.subsystem.Subsystem.TheFolds.{fold_out-Subsystem}
use Rattle.diagram_meaning.specs.Nested.{System, Systems, system, no_more, next, system_from, systems_from, system_of, row_of, heads, HasPlace, Agrees, AllAgree}
use Rattle.diagram_meaning.specs.Rows.{row_at, rows_of, subsystems_of, same_system, system_control}
use Rattle.diagram_blocks.specs.Kinds.{is_subsystem}
use Rattle.modules_profile.specs.Systems.{listed, children_of, own_of, control_of_system, IsInTable}

listed-from : (xs : List System) → listed (systems_from xs) ≡ xs
listed-from [] = refl
listed-from (x ∷ xs) = ap (λ ys. x ∷ ys) (listed-from xs)

pub children-are : (s : Subsystem) → children_of (system_of s) ≡ map system_of (out-Subsystem s).children.items
children-are s = ap children_of (fold_out-Subsystem System system_from s) ∙ listed-from (map system_of (out-Subsystem s).children.items)

pub got-mapped : {A B : Type 0} (f : A → B) (xs : List A) (i : ℕ) (y : A) → i < length xs → y ≡ get_or xs i y →
    slice_get (map f xs) i ≡ Some (f y)
got-mapped f [] i y below e = absurd (omega arith)
got-mapped f (x ∷ xs) zero y below e = ap (λ z. Some (f z)) (sym e)
got-mapped f (x ∷ xs) (suc i) y below e = got-mapped f xs i y (omega arith) e

-- ---- A nested system agrees with its table

pub agreed-own : (rows : List Row) (s : System) → Agrees rows s → own_of s ≡ rows_of rows (row_of s)
agreed-own rows (system row line control own children) a = a.1

pub agreed-control : (rows : List Row) (s : System) → Agrees rows s → control_of_system s ≡ system_control rows (row_of s)
agreed-control rows (system row line control own children) a = by row a.0
  where
    by : (row : Option ℕ) → HasPlace rows row line control → control ≡ system_control rows row
    by None h = h
    by (Some e) h = h.1

heads-listed : (cs : Systems) → heads cs ≡ map row_of (listed cs)
heads-listed no_more = refl
heads-listed (next c cs) = ap (λ ys. row_of c ∷ ys) (heads-listed cs)

pub agreed-heads : (rows : List Row) (s : System) → Agrees rows s → map row_of (children_of s) ≡ map Some (subsystems_of rows (row_of s))
agreed-heads rows (system row line control own children) a = sym (heads-listed children) ∙ a.2

all-agree : (rows : List Row) (cs : Systems) (i : ℕ) (c : System) → AllAgree rows cs → slice_get (listed cs) i ≡ Some c → Agrees rows c
all-agree rows no_more i c a e = absurd (let wrong : ⊥ = cc e in wrong)
all-agree rows (next d cs) zero c a e = subst (Agrees rows) (let same : d ≡ c = cc e in same) a.0
all-agree rows (next d cs) (suc i) c a e = all-agree rows cs i c a.1 e

pub agreed-child : (rows : List Row) (s : System) (i : ℕ) (c : System) → Agrees rows s →
    slice_get (children_of s) i ≡ Some c → Agrees rows c
agreed-child rows (system row line control own children) i c a e = all-agree rows children i c a.3 e

-- ---- Rows of a system are rows of the table

all-range : (n : ℕ) → All (λ b. b < n) (range_with_len 0 n)
all-range n k d h =
    let inside : k < n = (let l = length-range_with_len 0 n in omega (arith, h, l)) in
    let here : 0 + k ≡ k = omega arith in
    let e : get_or (range_with_len 0 n) k d ≡ k = get_or-range_with_len 0 n k d inside ∙ here in
    subst (λ b. b < n) (sym e) inside

pub rows-inside : (rows : List Row) (o : Option ℕ) → All (λ b. b < length rows) (rows_of rows o)
rows-inside rows o =
    All-filter (λ b. same_system (row_at rows b).owner o) (λ b. b < length rows) (range_with_len 0 (length rows))
    (all-range (length rows))

pub subsystems-inside : (rows : List Row) (o : Option ℕ) → All (λ b. b < length rows) (subsystems_of rows o)
subsystems-inside rows o = All-filter (λ b. is_subsystem (row_at rows b).kind) (λ b. b < length rows) (rows_of rows o) (rows-inside rows o)

-- ---- What belongs to the children

got-at : {A : Type 0} (xs : List A) (i : ℕ) (x d : A) → slice_get xs i ≡ Some x → get_or xs i d ≡ x
got-at [] i x d e = absurd (let wrong : ⊥ = cc e in wrong)
got-at (y ∷ xs) zero x d e = cc e
got-at (y ∷ xs) (suc i) x d e = got-at xs i x d e

-- values for the children, each with the row of its own
module _ {A : Type 0} (row : A → Option ℕ) (rows : List Row) (s : System) (agrees : Agrees rows s) (values : List A)
    (same : map row values ≡ map Some (subsystems_of rows (row_of s))) where
  both : map row_of (children_of s) ≡ map row values
  both = agreed-heads rows s agrees ∙ sym same

  pub as_many : length (children_of s) ≡ length values
  as_many = sym (length-map (children_of s) row_of) ∙ ap length both ∙ length-map values row

  pub row-of : (i : ℕ) (c : System) (x : A) → i < length values → x ≡ get_or values i x →
      slice_get (children_of s) i ≡ Some c → row x ≡ row_of c
  row-of i c x below read e =
      ap row read ∙ sym (get_or-map row values i x None below) ∙ ap (λ (xs : List (Option ℕ)). get_or xs i None) (sym both)
      ∙ get_or-map row_of (children_of s) i c None (let m = as_many in omega arith) ∙ ap row_of (got-at (children_of s) i c c e)

  pub row-inside : (i : ℕ) (x : A) → i < length values → x ≡ get_or values i x → IsInTable rows (row x)
  row-inside i x below read = subst (IsInTable rows) (sym here) (subsystems-inside rows (row_of s) i 0 few)
    where
      few : i < length (subsystems_of rows (row_of s))
      few = let m : length values ≡ length (subsystems_of rows (row_of s)) = sym (length-map values row)
          ∙ ap length same ∙ length-map (subsystems_of rows (row_of s)) Some in omega arith

      here : row x ≡ Some (get_or (subsystems_of rows (row_of s)) i 0)
      here = ap row read ∙ sym (get_or-map row values i x None below)
          ∙ ap (λ (xs : List (Option ℕ)). get_or xs i None) same
          ∙ get_or-map Some (subsystems_of rows (row_of s)) i 0 None few
