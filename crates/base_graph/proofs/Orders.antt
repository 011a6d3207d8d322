-- The order is one: two lists that take the least node that may be at each place are equal.
use Rattle.std.proofs.Common.{◌≡◌, ℕ, ◌<◌, List, [], ◌∷◌, ◌++◌, Contains, refl, sym, ap₂, subst, arith, append_assoc, append-nil}
use Rattle.base_graph.specs.NeedsGraph.{NeedsGraph}
use Rattle.base_graph.specs.OneOrder.{IsNext, Follows, IsOrder}

-- every node is among the placed ones or in the list
abbrev pub HasAll : NeedsGraph → List ℕ → List ℕ → Type 0
HasAll g placed list = (b : ℕ) → b < g.n → Contains (placed ++ list) b

all-on : (g : NeedsGraph) (placed : List ℕ) (b : ℕ) (list : List ℕ) → HasAll g placed (b ∷ list) → HasAll g (placed ++ b ∷ []) list
all-on g placed b list all c below = rw append_assoc (all c below)

-- where all is placed, nothing may be next
none-left : (g : NeedsGraph) (placed : List ℕ) (b : ℕ) → HasAll g placed [] → IsNext g placed b → ⊥
none-left g placed b all next = next.may_stand.is_new (subst (λ xs. Contains xs b) (append-nil placed) (all b next.may_stand.is_node))

next-is_one : (g : NeedsGraph) (placed : List ℕ) (b c : ℕ) → IsNext g placed b → IsNext g placed c → b ≡ c
next-is_one g placed b c p q = let low = p.is_least c q.may_stand in let high = q.is_least b p.may_stand in omega arith

pub follows-is_one : (g : NeedsGraph) (placed xs ys : List ℕ) → HasAll g placed xs → HasAll g placed ys →
    Follows g placed xs → Follows g placed ys → xs ≡ ys
follows-is_one g placed [] [] p q f h = refl
follows-is_one g placed [] (y ∷ ys) p q f h = absurd (none-left g placed y p h.0)
follows-is_one g placed (x ∷ xs) [] p q f h = absurd (none-left g placed x q f.0)
follows-is_one g placed (x ∷ xs) (y ∷ ys) p q f h =
    let same : x ≡ y = next-is_one g placed x y f.0 h.0 in
    ap₂ (λ z zs. z ∷ zs) same
    (follows-is_one g (placed ++ x ∷ []) xs ys (all-on g placed x xs p)
    (subst (λ z. HasAll g (placed ++ z ∷ []) ys) (sym same) (all-on g placed y ys q)) f.1
    (subst (λ z. Follows g (placed ++ z ∷ []) ys) (sym same) h.1))

pub order_is_one : (g : NeedsGraph) (xs ys : List ℕ) → IsOrder g xs → IsOrder g ys → xs ≡ ys
order_is_one g xs ys p q = follows-is_one g [] xs ys p.has_all q.has_all p.is_least_first q.is_least_first

-- one more node at the end
pub follows-push : (g : NeedsGraph) (placed list : List ℕ) (b : ℕ) → Follows g placed list →
    IsNext g (placed ++ list) b → Follows g placed (list ++ b ∷ [])
follows-push g placed [] b f next = (subst (λ xs. IsNext g xs b) (append-nil placed) next, tt)
follows-push g placed (x ∷ list) b f next = (f.0, follows-push g (placed ++ x ∷ []) list b f.1 (rw append_assoc next))
