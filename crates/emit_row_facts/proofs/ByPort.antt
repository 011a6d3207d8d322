-- Inports and Outports by their ports.
use Rattle.std.proofs.Common.{◌≡◌, ◌==◌, ℕ, Bool, true, false, cond, List, [], ◌∷◌, map, filter, find, length, Option, Some, None, refl, ap, ap₂, ◌∙◌}
use Rattle.std.specs.List.{range_with_len, filter_map, cons_option}
use Rattle.std.specs.Option.{option_map}
use Rattle.std.proofs.lemmas.List.{length-map}
use Rattle.diagram_blocks.specs.declared.kind.Kind.{Kind}
use Rattle.diagram_blocks.specs.Kinds.{port_of}
use Rattle.modules_profile.specs.declared.local.LocalRow.{LocalRow}
use Rattle.modules_profile.specs.LocalSystem.{LocalSystem}
use Rattle.modules_profile.specs.Locals.{rows_by_port}
use Rattle.emit_row_facts.specs.declared.ported.Ported.{Ported}
use Rattle.emit_row_facts.specs.Ported.{by_port, ported_among, ported_of}

find-map : {A B : Type 0} (p : B → Bool) (f : A → B) (xs : List A) → find p (map f xs) ≡ option_map f (find (λ x. p (f x)) xs)
find-map p f [] = refl
find-map p f (x ∷ xs) = by (p (f x)) (find-map p f xs)
  where
    by : (b : Bool) → find p (map f xs) ≡ option_map f (find (λ x. p (f x)) xs) →
        cond b (Some (f x)) (find p (map f xs)) ≡ option_map f (cond b (Some x) (find (λ x. p (f x)) xs))
    by true later = refl
    by false later = later

kept-map : {A B : Type 0} (f : A → B) (g : ℕ → Option A) (ks : List ℕ) → filter_map (λ k. option_map f (g k)) ks ≡ map f (filter_map g ks)
kept-map f g [] = refl
kept-map f g (k ∷ ks) = by (g k) (kept-map f g ks)
  where
    by : (o : Option _) → filter_map (λ k. option_map f (g k)) ks ≡ map f (filter_map g ks) →
        cons_option (option_map f o) (filter_map (λ k. option_map f (g k)) ks) ≡ map f (cons_option o (filter_map g ks))
    by None later = later
    by (Some x) later = ap (λ ys. f x ∷ ys) later

kept-same : {B : Type 0} (f g : ℕ → Option B) → ((k : ℕ) → f k ≡ g k) → (ks : List ℕ) → filter_map f ks ≡ filter_map g ks
kept-same f g same [] = refl
kept-same f g same (k ∷ ks) = ap₂ cons_option (same k) (kept-same f g same ks)

pub by-port-is : (local : LocalSystem) (test : Kind → Bool) →
    by_port (ported_among test local.rows) ≡ map ported_of (rows_by_port local test)
by-port-is local test =
    let rows : List LocalRow = filter (λ r. test r.kind) local.rows in
    ap (λ n. filter_map (λ k. find (λ (e : Ported). e.port == k) (map ported_of rows)) (range_with_len 1 n)) (length-map rows ported_of)
    ∙ kept-same (λ k. find (λ (e : Ported). e.port == k) (map ported_of rows))
    (λ k. option_map ported_of (find (λ (r : LocalRow). port_of r.kind == k) rows))
    (λ k. find-map (λ (e : Ported). e.port == k) ported_of rows) (range_with_len 1 (length rows))
    ∙ kept-map ported_of (λ k. find (λ (r : LocalRow). port_of r.kind == k) rows) (range_with_len 1 (length rows))
