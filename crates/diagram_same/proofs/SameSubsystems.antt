-- Being the same is an equivalence.
use Rattle.std.specs.Prelude.{◌≡◌, ℕ, ◌+◌, Bool, true, false, ◌==◌, ◌&&◌, MatchBool, List, [], ◌∷◌, Option, Some, None, ⊤}
use Rattle.std.specs.List.{AllZip}
use Rattle.std.proofs.Common.{refl, sym, ◌∙◌, ap, subst, arith, true-eqb, eq-eqb}
use Rattle.diagram_blocks.specs.declared.Kind.{Kind}
use Rattle.diagram_blocks.specs.declared.Kind.TheVariants.{Inport, Outport, SubSystem}
use Rattle.diagram_blocks.specs.Kinds.{is_inport}
use Rattle.diagram_meaning.specs.Rows.{row_at, same_system, is_inport_of}
use Rattle.diagram_meaning.specs.Diagram.{Diagram}
use Rattle.diagram_same.specs.Same.{role_of, IsMoved, IsMovedOwner, AreAlike, AreSame, rows_inside}
use Rattle.diagram_same.specs.declared.role.Role.{Role}
use Rattle.diagram_same.specs.declared.role.Role.TheVariants.{Input}
use Rattle.diagram_same.specs.Laws.{SameIsEquivalence}

-- ---- Two lists, place by place

zip-itself : {A : Type 0} (R : A → A → Type 0) → ((x : A) → R x x) → (xs : List A) → AllZip R xs xs
zip-itself R each [] = tt
zip-itself R each (x ∷ xs) = (each x, zip-itself R each xs)

zip-turned : {A : Type 0} (R S : A → A → Type 0) → ((x y : A) → R x y → S y x) → (xs ys : List A) → AllZip R xs ys → AllZip S ys xs
zip-turned R S each [] [] h = tt
zip-turned R S each [] (y ∷ ys) h = absurd h
zip-turned R S each (x ∷ xs) [] h = absurd h
zip-turned R S each (x ∷ xs) (y ∷ ys) h = (each x y h.0, zip-turned R S each xs ys h.1)

zip-through : {A : Type 0} (R S T : A → A → Type 0) → ((x y z : A) → R x y → S y z → T x z) → (xs ys zs : List A) →
    AllZip R xs ys → AllZip S ys zs → AllZip T xs zs
zip-through R S T each [] [] [] a b = tt
zip-through R S T each [] [] (z ∷ zs) a b = absurd b
zip-through R S T each [] (y ∷ ys) zs a b = absurd a
zip-through R S T each (x ∷ xs) [] zs a b = absurd a
zip-through R S T each (x ∷ xs) (y ∷ ys) [] a b = absurd b
zip-through R S T each (x ∷ xs) (y ∷ ys) (z ∷ zs) a b = (each x y z a.0 b.0, zip-through R S T each xs ys zs a.1 b.1)

-- ---- Own inputs

abbrev is_input : Role → Bool
is_input (Input port) = true
is_input _ = false

input-role : (kind : Kind) → is_inport kind ≡ is_input (role_of kind)
input-role (Inport port) = refl
input-role (Outport port reset initial) = refl
input-role (SubSystem control) = refl
input-role _ = refl

same-test : (s t : Bool) → (s ≡ true → t ≡ true) → (t ≡ true → s ≡ true) → s ≡ t
same-test true t to from = sym (to refl)
same-test false true to from = from refl
same-test false false to from = refl

pub moved-tests : (b c o p e f : ℕ) → b + f ≡ c + e → o + f ≡ p + e → (b == o) ≡ (c == p)
moved-tests b c o p e f one two =
    same-test (b == o) (c == p)
    (λ is. let same = true-eqb b o (sym is) in eq-eqb c p (omega (arith, same, one, two)))
    (λ is. let same = true-eqb c p (sym is) in eq-eqb b o (omega (arith, same, one, two)))

owner-test : (e f : ℕ) (o p : Option ℕ) → IsMovedOwner e f o p → same_system o (Some e) ≡ same_system p (Some f)
owner-test e f None None moved = refl
owner-test e f None (Some c) moved = absurd moved
owner-test e f (Some b) None moved = absurd moved
owner-test e f (Some b) (Some c) moved = moved-tests e f b c e f (omega arith) moved

-- ---- Owners

owner-itself : (e : ℕ) (o : Option ℕ) → IsMovedOwner e e o o
owner-itself e None = tt
owner-itself e (Some b) = refl

owner-turned : (e f : ℕ) (o p : Option ℕ) → IsMovedOwner e f o p → IsMovedOwner f e p o
owner-turned e f None None moved = tt
owner-turned e f None (Some c) moved = absurd moved
owner-turned e f (Some b) None moved = absurd moved
owner-turned e f (Some b) (Some c) moved = sym moved

moved-through : (e f g b c a : ℕ) → IsMoved e f b c → IsMoved f g c a → IsMoved e g b a
moved-through e f g b c a one two = omega (arith, one, two)

owner-through : (e f g : ℕ) (o p q : Option ℕ) → IsMovedOwner e f o p → IsMovedOwner f g p q → IsMovedOwner e g o q
owner-through e f g None None None one two = tt
owner-through e f g None None (Some a) one two = absurd two
owner-through e f g None (Some c) q one two = absurd one
owner-through e f g (Some b) None q one two = absurd one
owner-through e f g (Some b) (Some c) None one two = absurd two
owner-through e f g (Some b) (Some c) (Some a) one two = moved-through e f g b c a one two

-- ---- Rows

module _ (d : Diagram) where
  -- rows that are alike are own inputs of both or of none
  pub both-inputs : (e f b c : ℕ) → AreAlike d e f b c → is_inport_of d.rows (Some e) b ≡ is_inport_of d.rows (Some f) c
  both-inputs e f b c alike =
      ap (λ t. t && same_system (row_at d.rows b).owner (Some e))
      (input-role (row_at d.rows b).kind ∙ ap is_input alike.role ∙ sym (input-role (row_at d.rows c).kind))
      ∙ ap (λ t. is_inport (row_at d.rows c).kind && t)
      (owner-test e f (row_at d.rows b).owner (row_at d.rows c).owner alike.owner)

  inputs-itself : (e : ℕ) (t : Bool) (xs : List ℕ) → MatchBool t ⊤ (AllZip (IsMoved e e) xs xs)
  inputs-itself e true xs = tt
  inputs-itself e false xs = zip-itself (IsMoved e e) (λ x. refl) xs

  alike-itself : (e b : ℕ) → AreAlike d e e b b
  alike-itself e b = record {
    op = refl;
    role = refl;
    type = refl;
    time = record { period = refl; offset = refl };
    inputs = inputs-itself e (is_inport_of d.rows (Some e) b) (row_at d.rows b).inputs;
    owner = owner-itself e (row_at d.rows b).owner;
  }

  inputs-turned : (e f : ℕ) (t s : Bool) (xs ys : List ℕ) → t ≡ s → MatchBool t ⊤ (AllZip (IsMoved e f) xs ys) →
      MatchBool s ⊤ (AllZip (IsMoved f e) ys xs)
  inputs-turned e f t true xs ys same h = tt
  inputs-turned e f t false xs ys same h =
      zip-turned (IsMoved e f) (IsMoved f e) (λ x y moved. sym moved) xs ys
      (subst (λ t. MatchBool t ⊤ (AllZip (IsMoved e f) xs ys)) same h)

  alike-turned : (e f b c : ℕ) → AreAlike d e f b c → AreAlike d f e c b
  alike-turned e f b c alike = record {
    op = sym alike.op;
    role = sym alike.role;
    type = sym alike.type;
    time = record { period = sym alike.time.period; offset = sym alike.time.offset };
    inputs = inputs-turned e f (is_inport_of d.rows (Some e) b) (is_inport_of d.rows (Some f) c) (row_at d.rows b).inputs
        (row_at d.rows c).inputs (both-inputs e f b c alike) alike.inputs;
    owner = owner-turned e f (row_at d.rows b).owner (row_at d.rows c).owner alike.owner;
  }

  inputs-through : (e f g : ℕ) (t s : Bool) (xs ys zs : List ℕ) → t ≡ s → MatchBool t ⊤ (AllZip (IsMoved e f) xs ys) →
      MatchBool s ⊤ (AllZip (IsMoved f g) ys zs) → MatchBool t ⊤ (AllZip (IsMoved e g) xs zs)
  inputs-through e f g true s xs ys zs same one two = tt
  inputs-through e f g false s xs ys zs same one two =
      zip-through (IsMoved e f) (IsMoved f g) (IsMoved e g) (λ x y z a b. moved-through e f g x y z a b) xs ys zs one
      (subst (λ t. MatchBool t ⊤ (AllZip (IsMoved f g) ys zs)) (sym same) two)

  alike-through : (e f g b c a : ℕ) → AreAlike d e f b c → AreAlike d f g c a → AreAlike d e g b a
  alike-through e f g b c a one two = record {
    op = one.op ∙ two.op;
    role = one.role ∙ two.role;
    type = one.type ∙ two.type;
    time = record { period = one.time.period ∙ two.time.period; offset = one.time.offset ∙ two.time.offset };
    inputs = inputs-through e f g (is_inport_of d.rows (Some e) b) (is_inport_of d.rows (Some f) c) (row_at d.rows b).inputs
        (row_at d.rows c).inputs (row_at d.rows a).inputs (both-inputs e f b c one) one.inputs two.inputs;
    owner = owner-through e f g (row_at d.rows b).owner (row_at d.rows c).owner (row_at d.rows a).owner one.owner two.owner;
  }

  pub same-itself : (e : ℕ) → AreSame d e e
  same-itself e = record {
    rows = zip-itself (AreAlike d e e) (alike-itself e) (rows_inside d.rows e);
    control = refl;
    control_types = refl;
  }

  pub same-turned : (e f : ℕ) → AreSame d e f → AreSame d f e
  same-turned e f same = record {
    rows = zip-turned (AreAlike d e f) (AreAlike d f e) (alike-turned e f) (rows_inside d.rows e) (rows_inside d.rows f) same.rows;
    control = sym same.control;
    control_types = sym same.control_types;
  }

  pub same-through : (e f g : ℕ) → AreSame d e f → AreSame d f g → AreSame d e g
  same-through e f g one two = record {
    rows = zip-through (AreAlike d e f) (AreAlike d f g) (AreAlike d e g) (alike-through e f g) (rows_inside d.rows e)
        (rows_inside d.rows f) (rows_inside d.rows g) one.rows two.rows;
    control = one.control ∙ two.control;
    control_types = one.control_types ∙ two.control_types;
  }

pub same_is_equivalence : SameIsEquivalence
same_is_equivalence = record {
  itself = same-itself;
  turned = same-turned;
  through = same-through;
}
