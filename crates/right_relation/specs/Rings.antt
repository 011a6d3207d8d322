-- The ring of a delay of several samples: an array of so many items, the place of the oldest, and
-- how many samples were taken since the start. Where fewer were taken than it has items, the others
-- count as the start, whatever is in them.
use Rattle.std.specs.Prelude.{◌≡◌, ℕ, ◌+◌, ◌-◌, ◌%◌, ◌<◌, ◌≤◌, nat_lt, if◌then◌else◌, List, map, length, replicate, slice_index_or, ℤ, pos}
use Rattle.std.specs.List.{range_with_len}
use Rattle.diagram_meaning.specs.Run.{moved_on}
use Rattle.c_semantics.specs.Cells.{set_item}

pub record Ring : Type 0 where
  pub items : List ℤ
  pub place : ℕ
  pub taken : ℕ

-- ---- What a ring of n items holds, where this is the start

-- the k-th of its numbers from the oldest on
abbrev pub ring_item : (n : ℕ) (start : ℤ) → Ring → ℕ → ℤ
ring_item n start ring k =
    if nat_lt k (n - ring.taken) then start else slice_index_or ring.items ((ring.place + k) % n)
    (pos 0)

abbrev pub ring_list : (n : ℕ) (start : ℤ) → Ring → List ℤ
ring_list n start ring = map (ring_item n start ring) (range_with_len 0 n)

-- a ring of n items holds this memory
pub record IsRing (n : ℕ) (start : ℤ) (ring : Ring) (memory : List ℤ) : Type 0 where
  pub place : ring.place < n
  pub taken : ring.taken ≤ n
  pub long : length ring.items ≡ n
  pub holds : memory ≡ ring_list n start ring

-- ---- How it moves

-- after the start, which leaves the items as they are
abbrev pub begun_ring : List ℤ → Ring
begun_ring items = record { items = items; place = 0; taken = 0 }

-- the start again; the items stay
abbrev pub emptied_ring : Ring → Ring
emptied_ring ring = begun_ring ring.items

-- a number takes the place of the oldest
abbrev pub moved_ring : ℕ → Ring → ℤ → Ring
moved_ring n ring v = record {
  items = set_item ring.items ring.place v;
  place = (ring.place + 1) % n;
  taken = if nat_lt ring.taken n then ring.taken + 1 else ring.taken;
}

-- ---- Laws

-- a ring that was begun, and an emptied one, hold the start so many times
abbrev pub BegunIsRing : Type 0
BegunIsRing = (n : ℕ) (start : ℤ) (items : List ℤ) → 0 < n → length items ≡ n →
    IsRing n start (begun_ring items) (replicate n start)

abbrev pub EmptiedIsRing : Type 0
EmptiedIsRing = (n : ℕ) (start : ℤ) (ring : Ring) (memory : List ℤ) → IsRing n start ring memory →
    IsRing n start (emptied_ring ring) (replicate n start)

-- a ring that moves holds the memory that moves
abbrev pub MovedIsRing : Type 0
MovedIsRing = (n : ℕ) (start v : ℤ) (ring : Ring) (memory : List ℤ) → IsRing n start ring memory →
    IsRing n start (moved_ring n ring v) (moved_on memory v)
