-- Lists by row.
use Rattle.std.specs.Prelude.{◌≡◌, ℕ, zero, suc, ◌+◌, ◌<◌, List, [], ◌∷◌, map, length, slice_index_or, ℤ, pos}
use Rattle.std.specs.List.{range_with_len, AllByRecursion}
use Rattle.std.proofs.Common.{refl, ap, ap₂, subst, arith}
use mathlib.Core.Path.{fun_ext}
use Rattle.diagram_meaning.specs.declared.table.Row.{Row}
use Rattle.diagram_meaning.specs.Rows.{by_row}
use Rattle.diagram_meaning.specs.Run.{value_at}

-- what two functions give at one number, if they agree there
pub map_range-agree : {A : Type 0} (f h : ℕ → A) (n a i : ℕ) (d : A) → ((b : ℕ) → b ≡ a + i → f b ≡ h b) →
    slice_index_or (map f (range_with_len a n)) i d ≡ slice_index_or (map h (range_with_len a n)) i d
map_range-agree f h zero a i d e = refl
map_range-agree f h (suc n) a zero d e = e a (omega arith)
map_range-agree f h (suc n) a (suc i) d e = map_range-agree f h n (a + 1) i d (λ b q. e b (omega arith))

pub by_row-agree : (rows : List Row) (f h : ℕ → ℤ) (b : ℕ) → f b ≡ h b → value_at (by_row rows f) b ≡ value_at (by_row rows h) b
by_row-agree rows f h b e = map_range-agree f h (length rows) 0 b (pos 0) (λ c q. let same : b ≡ c = omega arith in
    subst (λ k. f k ≡ h k) same e)

-- equal everywhere, so equal lists
pub by_row-equal : {A : Type 0} (rows : List Row) (f h : ℕ → A) → ((b : ℕ) → f b ≡ h b) → by_row rows f ≡ by_row rows h
by_row-equal rows f h e = ap (by_row rows) (fun_ext e)

pub map-agree : {A B : Type 0} (f h : A → B) (xs : List A) → AllByRecursion (λ x. f x ≡ h x) xs → map f xs ≡ map h xs
map-agree f h [] e = refl
map-agree f h (x ∷ xs) e = ap₂ ◌∷◌ e.0 (map-agree f h xs e.1)

-- what a function gives at a number of the table
pub map_range-at : {A : Type 0} (f : ℕ → A) (n a i : ℕ) (d : A) → i < n →
    ((b : ℕ) → b ≡ a + i → slice_index_or (map f (range_with_len a n)) i d ≡ f b)
map_range-at f zero a i d h b e = absurd (omega arith)
map_range-at f (suc n) a zero d h b e = let same : a ≡ b = omega arith in ap f same
map_range-at f (suc n) a (suc i) d h b e = map_range-at f n (a + 1) i d (omega arith) b (omega arith)

pub by_row-at : {A : Type 0} (rows : List Row) (f : ℕ → A) (b : ℕ) (d : A) → b < length rows → slice_index_or (by_row rows f) b d ≡ f b
by_row-at rows f b d h = map_range-at f (length rows) 0 b d h b (omega arith)

length-map_range : {A : Type 0} (f : ℕ → A) (n a : ℕ) → length (map f (range_with_len a n)) ≡ n
length-map_range f zero a = refl
length-map_range f (suc n) a = ap suc (length-map_range f n (a + 1))

-- one item for each row
pub length-by_row : {A : Type 0} (rows : List Row) (f : ℕ → A) → length (by_row rows f) ≡ length rows
length-by_row rows f = length-map_range f (length rows) 0
