-- What is inside at one place of two subsystems that are the same is the same.
use Rattle.std.specs.Prelude.{◌≡◌, ℕ, zero, suc, ◌+◌, ◌-◌, ◌≤◌, ◌<◌, Bool, true, false, ◌==◌, ◌||◌, ◌&&◌, MatchBool, List, [], ◌∷◌, map, length, slice_get, Option, Some, None, ◌⊎◌, ⊤}
use Rattle.std.specs.List.{AllZip, AllByRecursion, range_with_len}
use Rattle.std.proofs.Common.{refl, sym, ◌∙◌, ap, subst, arith, inl, inr, true≢false, true-eqb}
use Rattle.std.proofs.lemmas.Bool.{and_right, cases_lt, false_from_ne_true}
use Rattle.base_core.specs.declared.Control.{Control}
use Rattle.base_core.specs.declared.Control.TheVariants.{Plain}
use Rattle.base_fixed_point.specs.declared.FixType.{FixType}
use Rattle.diagram_blocks.specs.declared.Kind.{Kind}
use Rattle.diagram_blocks.specs.declared.Kind.TheVariants.{Inport, Outport, SubSystem}
use Rattle.diagram_blocks.specs.Kinds.{control_of, is_inport, is_subsystem}
use Rattle.diagram_meaning.specs.declared.table.Row.{Row}
use Rattle.diagram_meaning.specs.Rows.{row_at, same_system, is_inside, is_inport_of}
use Rattle.diagram_meaning.specs.WellFormed.{IsNested, IsOwner, IsWired, IsWireIn, reading_system}
use Rattle.diagram_meaning.specs.Diagram.{Diagram, type_at}
use Rattle.diagram_meaning.specs.ResolvedTree.{diagram_of}
use Rattle.diagram_same.specs.Same.{role_of, IsMoved, IsMovedOwner, AreAlike, AreSame, rows_inside}
use Rattle.diagram_same.specs.declared.role.Role.{Role}
use Rattle.diagram_same.specs.declared.role.Role.TheVariants.{Subsystem}
use Rattle.diagram_same.specs.Laws.{InnerAreSame}
use Rattle.diagram_same.proofs.SameSubsystems.{moved-tests}
use Rattle.diagram_same.proofs.lemmas.Interiors as interiors
use Rattle.diagram_same.proofs.lemmas.Zips.{zip-at, zip-each, long-zip, range-at, kept-at}

-- ---- Controls

abbrev role_control : Role → Control
role_control (Subsystem control) = control
role_control _ = Plain

control-role : (kind : Kind) → control_of kind ≡ role_control (role_of kind)
control-role (Inport port) = refl
control-role (Outport port reset initial) = refl
control-role (SubSystem control) = refl
control-role _ = refl

no-input : (kind : Kind) → is_subsystem kind ≡ true → is_inport kind ≡ false
no-input (SubSystem control) is = refl
no-input _ is = absurd (true≢false (sym is))

reads-own : (rows : List Row) (kind : Kind) (o : Option ℕ) → is_subsystem kind ≡ true → reading_system rows kind o ≡ o
reads-own rows (SubSystem control) o is = refl
reads-own rows _ o is = absurd (true≢false (sym is))

-- ---- Moved numbers

moved-inputs : (e f b c : ℕ) → b + f ≡ c + e → (xs ys : List ℕ) → AllZip (IsMoved e f) xs ys → AllZip (IsMoved b c) xs ys
moved-inputs e f b c moved [] [] zip = tt
moved-inputs e f b c moved [] (y ∷ ys) zip = absurd zip
moved-inputs e f b c moved (x ∷ xs) [] zip = absurd zip
moved-inputs e f b c moved (x ∷ xs) (y ∷ ys) zip =
    let here : x + f ≡ y + e = zip.0 in
    (omega (arith, here, moved), moved-inputs e f b c moved xs ys zip.1)

moved-owner : (e f b c : ℕ) → b + f ≡ c + e → (o p : Option ℕ) → IsMovedOwner e f o p → IsMovedOwner b c o p
moved-owner e f b c moved None None one = tt
moved-owner e f b c moved None (Some p) one = absurd one
moved-owner e f b c moved (Some o) None one = absurd one
moved-owner e f b c moved (Some o) (Some p) one = let here : o + f ≡ p + e = one in omega (arith, here, moved)

same-types : (t : ℕ → FixType) (e f : ℕ) (P : ℕ → Type 0) → ((x y : ℕ) → P x → x + f ≡ y + e → t x ≡ t y) → (xs ys : List ℕ) →
    AllByRecursion P xs → AllZip (IsMoved e f) xs ys → map t xs ≡ map t ys
same-types t e f P each [] [] all zip = refl
same-types t e f P each [] (y ∷ ys) all zip = absurd zip
same-types t e f P each (x ∷ xs) [] all zip = absurd zip
same-types t e f P each (x ∷ xs) (y ∷ ys) all zip =
    ap (λ u. u ∷ map t xs) (each x y all.0 zip.0) ∙ ap (λ us. t y ∷ us) (same-types t e f P each xs ys all.1 zip.1)

all-to : {X : Type 0} (P Q : X → Type 0) → ((x : X) → P x → Q x) → (xs : List X) → AllByRecursion P xs → AllByRecursion Q xs
all-to P Q each [] all = tt
all-to P Q each (x ∷ xs) all = (each x all.0, all-to P Q each xs all.1)

-- ---- Two subsystems that are the same

module _ (d : Diagram) (nested : IsNested d.rows) (wired : IsWired d.rows) (e f : ℕ) (same : AreSame d e f) (e_in : e < length d.rows)
    (f_in : f < length d.rows) where
  abbrev Within : ℕ → ℕ → Type 0
  Within s b = is_inside d.rows (Some s) b ≡ true

  abbrev inside_e : interiors.Interior d.rows nested e
  inside_e = interiors.interior-of d.rows nested e e_in

  abbrev inside_f : interiors.Interior d.rows nested f
  inside_f = interiors.interior-of d.rows nested f f_in

  rows-of-e : rows_inside d.rows e ≡ range_with_len (e + 1) (inside_e.last - (e + 1))
  rows-of-e = interiors.interior d.rows nested e inside_e.last inside_e.late inside_e.within inside_e.all inside_e.ends

  rows-of-f : rows_inside d.rows f ≡ range_with_len (f + 1) (inside_f.last - (f + 1))
  rows-of-f = interiors.interior d.rows nested f inside_f.last inside_f.late inside_f.within inside_f.all inside_f.ends

  zipped : AllZip (AreAlike d e f) (range_with_len (e + 1) (inside_e.last - (e + 1))) (range_with_len (f + 1) (inside_f.last - (f + 1)))
  zipped = subst (λ xs. AllZip (AreAlike d e f) xs (range_with_len (f + 1) (inside_f.last - (f + 1)))) rows-of-e
      (subst (λ ys. AllZip (AreAlike d e f) (rows_inside d.rows e) ys) rows-of-f same.rows)

  lasts-moved : inside_e.last + f ≡ inside_f.last + e
  lasts-moved =
      let long = long-zip (AreAlike d e f) (e + 1) (f + 1) (inside_e.last - (e + 1)) (inside_f.last - (f + 1)) zipped in
      let a = inside_e.late in let b = inside_f.late in omega (arith, long, a, b)

  alike-at : (x y : ℕ) → e < x → x < inside_e.last → x + f ≡ y + e → AreAlike d e f x y
  alike-at x y past below moved =
      zip-at (AreAlike d e f) (e + 1) (f + 1) (inside_e.last - (e + 1)) (inside_f.last - (f + 1)) x y zipped (omega (arith, past))
      (omega (arith, past, below)) (omega (arith, moved))

  -- rows inside e come before its last
  before-last : (x : ℕ) → x < length d.rows → Within e x → x < inside_e.last
  before-last x below inside = by (cases_lt x inside_e.last)
    where
      by : (x < inside_e.last) ⊎ (inside_e.last ≤ x) → x < inside_e.last
      by (inl less) = less
      by (inr past) = absurd (true≢false (sym inside ∙ interiors.none-behind d.rows nested e inside_e.last (x - inside_e.last) x inside_e.late
          (omega (arith, past)) below (inside_e.ends (omega (arith, past, below)))))

  -- what encloses row x inside e encloses row y inside f at the same place
  moved-inside : (n b c x y : ℕ) → x < n → b + f ≡ c + e → Within e b → b < length d.rows → e < x → x < inside_e.last →
      x + f ≡ y + e → y < length d.rows → is_inside d.rows (Some b) x ≡ is_inside d.rows (Some c) y
  moved-inside zero b c x y less outer in_e b_in past below moved y_in = absurd (omega (arith, less))
  moved-inside (suc n) b c x y less outer in_e b_in past below moved y_in =
      by (λ o p late less_o below_o owners o_in. moved-inside n b c o p less_o outer in_e b_in late below_o owners o_in)
      (interiors.owned d.rows nested e x x_in (inside_e.all x past below)) (row_at d.rows y).owner refl
    where
      x_in : x < length d.rows
      x_in = let w = inside_e.within in omega (arith, below, w)

      b_past : e < b
      b_past = interiors.after d.rows nested e b b_in in_e

      by : ((o p : ℕ) → e < o → o < n → o < inside_e.last → o + f ≡ p + e → p < length d.rows →
          is_inside d.rows (Some b) o ≡ is_inside d.rows (Some c) p) → interiors.Owned d.rows nested e x → (q : Option ℕ) → (row_at d.rows y).owner ≡ q →
          is_inside d.rows (Some b) x ≡ is_inside d.rows (Some c) y
      by earlier it q is = found q is (subst (λ o. IsMovedOwner e f o q) it.is_owner
          (subst (IsMovedOwner e f (row_at d.rows x).owner) is (alike-at x y past below moved).owner))
        where
          before : it.owner < x
          before = it.before

          found : (q : Option ℕ) → (row_at d.rows y).owner ≡ q → IsMovedOwner e f (Some it.owner) q →
              is_inside d.rows (Some b) x ≡ is_inside d.rows (Some c) y
          found None is owner = absurd owner
          found (Some p) is owner =
              interiors.by-owner d.rows nested b x it.owner x_in it.is_owner
              ∙ ap (λ t. t || is_inside d.rows (Some b) it.owner) (moved-tests b c it.owner p e f outer owner)
              ∙ ap (λ t. (c == p) || t) (rest it.of)
              ∙ sym (interiors.by-owner d.rows nested c y p y_in is)
            where
              owners : it.owner + f ≡ p + e
              owners = owner

              rest : (e ≡ it.owner) ⊎ Within e it.owner → is_inside d.rows (Some b) it.owner ≡ is_inside d.rows (Some c) p
              rest (inl here) =
                  false_from_ne_true (is_inside d.rows (Some b) it.owner)
                  (λ inside. let late = interiors.after d.rows nested b it.owner (omega (arith, before, x_in)) inside in
                  omega (arith, late, here, b_past))
                  ∙ sym (false_from_ne_true (is_inside d.rows (Some c) p)
                  (λ inside. let late = interiors.after d.rows nested c p (omega (arith, f_in, here, owners)) inside in
                  omega (arith, late, here, b_past, owners, outer)))
              rest (inr there) =
                  let late = interiors.after d.rows nested e it.owner (omega (arith, before, x_in)) there in
                  earlier it.owner p late (omega (arith, before, less)) (omega (arith, before, below)) owners
                  (let w = inside_f.within in let ends = lasts-moved in omega (arith, owners, before, below, w, ends))

  -- ---- A subsystem inside the first, and that at its place inside the second

  module _ (b c : ℕ) (outer : b + f ≡ c + e) (b_past : e < b) (b_below : b < inside_e.last)
      (kind : is_subsystem (row_at d.rows b).kind ≡ true) where
    b_in : b < length d.rows
    b_in = let w = inside_e.within in omega (arith, b_below, w)

    c_below : c < inside_f.last
    c_below = let ends = lasts-moved in omega (arith, b_below, ends, outer)

    c_in : c < length d.rows
    c_in = let w = inside_f.within in omega (arith, c_below, w)

    in_e : Within e b
    in_e = inside_e.all b b_past b_below

    in_f : Within f c
    in_f = inside_f.all c (omega (arith, b_past, outer)) c_below

    inner : interiors.Interior d.rows nested b
    inner = interiors.interior-of d.rows nested b b_in

    -- rows inside b are inside e
    inner-within : inner.last ≤ inside_e.last
    inner-within = by (cases_lt inside_e.last inner.last)
      where
        by : (inside_e.last < inner.last) ⊎ (inner.last ≤ inside_e.last) → inner.last ≤ inside_e.last
        by (inr fine) = fine
        by (inl past) =
            let w = inner.within in
            let below : inside_e.last < length d.rows = omega (arith, past, w) in
            let inside = inner.all inside_e.last (omega (arith, b_below)) past in
            let whole = interiors.through d.rows nested e b inside_e.last below in_e inside in
            absurd (true≢false (sym whole ∙ inside_e.ends below))

    -- the row of f's at the place of row x of e's
    abbrev across : ℕ → ℕ
    across x = x + f - e

    abbrev last_c : ℕ
    last_c = across inner.last

    alike-inside : (x y : ℕ) → b < x → x < inner.last → x + f ≡ y + e → AreAlike d b c x y
    alike-inside x y past below moved = record {
      op = alike.op;
      role = alike.role;
      type = alike.type;
      time = alike.time;
      inputs = inputs (is_inport_of d.rows (Some b) x) (subst (λ t. MatchBool t ⊤ (AllZip (IsMoved e f) (row_at d.rows x).inputs (row_at d.rows y).inputs))
          not-own alike.inputs);
      owner = moved-owner e f b c outer (row_at d.rows x).owner (row_at d.rows y).owner alike.owner;
    }
      where
        x_in : x < length d.rows
        x_in = let w = inner.within in omega (arith, below, w)

        alike : AreAlike d e f x y
        alike = alike-at x y (omega (arith, past, b_past)) (let w = inner-within in omega (arith, below, w)) moved

        inputs : (t : Bool) → AllZip (IsMoved e f) (row_at d.rows x).inputs (row_at d.rows y).inputs →
            MatchBool t ⊤ (AllZip (IsMoved b c) (row_at d.rows x).inputs (row_at d.rows y).inputs)
        inputs true zip = tt
        inputs false zip = moved-inputs e f b c outer (row_at d.rows x).inputs (row_at d.rows y).inputs zip

        not-own : is_inport_of d.rows (Some e) x ≡ false
        not-own = by (interiors.owned d.rows nested b x x_in (inner.all x past below))
          where
            by : interiors.Owned d.rows nested b x → is_inport_of d.rows (Some e) x ≡ false
            by it =
                let late = interiors.owner-from d.rows nested b x it.owner x_in (inner.all x past below) it.is_owner in
                and_right (is_inport (row_at d.rows x).kind) (same_system (row_at d.rows x).owner (Some e))
                (ap (λ o. same_system o (Some e)) it.is_owner
                ∙ false_from_ne_true (e == it.owner) (λ is. let same = true-eqb e it.owner (sym is) in omega (arith, same, late, b_past)))

    rows-of-b : rows_inside d.rows b ≡ range_with_len (b + 1) (inner.last - (b + 1))
    rows-of-b = interiors.interior d.rows nested b inner.last inner.late inner.within inner.all inner.ends

    moved-last : inner.last + f ≡ last_c + e
    moved-last = let late = inner.late in omega (arith, late, b_past)

    -- a row is inside c where that at its place is inside b
    moved-at : (x y : ℕ) → e < x → x < inside_e.last → x + f ≡ y + e → is_inside d.rows (Some b) x ≡ is_inside d.rows (Some c) y
    moved-at x y past below moved =
        moved-inside (suc x) b c x y (omega arith) outer in_e b_in past below moved
        (let w = inside_f.within in let ends = lasts-moved in omega (arith, moved, below, w, ends))

    rows-of-c : rows_inside d.rows c ≡ range_with_len (c + 1) (last_c - (c + 1))
    rows-of-c =
        interiors.interior d.rows nested c last_c (let late = inner.late in let last = moved-last in omega (arith, late, last, outer))
        (let w = inside_f.within in omega (arith, w, last-within)) all ends
      where
        last-within : last_c ≤ inside_f.last
        last-within = let last = moved-last in let moved = lasts-moved in let w = inner-within in omega (arith, last, moved, w)

        all : interiors.AllWithin d.rows c last_c
        all y past below =
            let last = moved-last in
            let x_past : b < y + e - f = omega (arith, past, outer, b_past) in
            let x_below : y + e - f < inner.last = omega (arith, past, below, last, outer, b_past) in
            let w = inner-within in
            sym (moved-at (y + e - f) y (omega (arith, x_past, b_past)) (omega (arith, x_below, w)) (omega (arith, past, outer, b_past)))
            ∙ inner.all (y + e - f) x_past x_below

        ends : last_c < length d.rows → is_inside d.rows (Some c) last_c ≡ false
        ends below = by (cases_lt inner.last inside_e.last)
          where
            by : (inner.last < inside_e.last) ⊎ (inside_e.last ≤ inner.last) → is_inside d.rows (Some c) last_c ≡ false
            by (inl within) =
                let late = inner.late in
                sym (moved-at inner.last last_c (omega (arith, late, b_past)) within moved-last)
                ∙ inner.ends (let w = inside_e.within in omega (arith, within, w))
            by (inr past) =
                let w = inner-within in let last = moved-last in let moved = lasts-moved in
                let here : last_c ≡ inside_f.last = omega (arith, past, w, last, moved) in
                let out = inside_f.ends (subst (λ n. n < length d.rows) here below) in
                false_from_ne_true (is_inside d.rows (Some c) last_c)
                (λ inside. true≢false (sym (subst (Within f) here (interiors.through d.rows nested f c last_c below in_f inside)) ∙ out))

    -- the types of the wires of a row of e's that is no input of it, and of that at its place
    wires-within : AllByRecursion (λ w. (w < length d.rows) × Within e w) (row_at d.rows b).inputs
    wires-within = by (interiors.owned d.rows nested e b b_in in_e)
      where
        by : interiors.Owned d.rows nested e b → AllByRecursion (λ w. (w < length d.rows) × Within e w) (row_at d.rows b).inputs
        by it =
            all-to (IsWireIn d.rows (reading_system d.rows (row_at d.rows b).kind (row_at d.rows b).owner))
            (λ w. (w < length d.rows) × Within e w)
            (λ w wire. inside w (subst (λ o. IsWireIn d.rows o w)
            (reads-own d.rows (row_at d.rows b).kind (row_at d.rows b).owner kind ∙ it.is_owner) wire))
            (row_at d.rows b).inputs (wired.wires b b_in)
          where
            inside : (w : ℕ) → IsWireIn d.rows (Some it.owner) w → (w < length d.rows) × Within e w
            inside w wire = (
              wire.0,
              elim wire.1 [
                | inl own ↦ interiors.inside-by d.rows nested e w it.owner wire.0 own.0 it.of
                | inr port ↦
                    let s = port.1.0 in
                    let (less, is_sub) = subst (IsOwner d.rows w) port.1.1 (nested.owned w wire.0) in
                    let below = wire.0 in
                    interiors.inside-by d.rows nested e w s wire.0 port.1.1
                    (inr (interiors.inside-by d.rows nested e s it.owner (omega (arith, less, below)) port.1.2 it.of))
              ],
            )

    same-controls : map (type_at d.types) (row_at d.rows b).inputs ≡ map (type_at d.types) (row_at d.rows c).inputs
    same-controls =
        same-types (type_at d.types) e f (λ w. (w < length d.rows) × Within e w)
        (λ x y within moved. (alike-at x y (interiors.after d.rows nested e x within.0 within.1) (before-last x within.0 within.1) moved).type)
        (row_at d.rows b).inputs (row_at d.rows c).inputs wires-within
        (subst (λ t. MatchBool t ⊤ (AllZip (IsMoved e f) (row_at d.rows b).inputs (row_at d.rows c).inputs))
        (ap (λ t. t && same_system (row_at d.rows b).owner (Some e)) (no-input (row_at d.rows b).kind kind))
        (alike-at b c b_past b_below outer).inputs)

    inner-same : AreSame d b c
    inner-same = record {
      rows = subst (λ xs. AllZip (AreAlike d b c) xs (rows_inside d.rows c)) (sym rows-of-b)
          (subst (λ ys. AllZip (AreAlike d b c) (range_with_len (b + 1) (inner.last - (b + 1))) ys) (sym rows-of-c)
          (subst (λ n. AllZip (AreAlike d b c) (range_with_len (b + 1) (inner.last - (b + 1))) (range_with_len (c + 1) n)) counts
          (zip-each (AreAlike d b c) (b + 1) (c + 1) (inner.last - (b + 1))
          (λ i below. alike-inside (b + 1 + i) (c + 1 + i) (omega arith) (omega (arith, below)) (omega (arith, outer))))));
      control = control-role (row_at d.rows b).kind ∙ ap role_control (alike-at b c b_past b_below outer).role
          ∙ sym (control-role (row_at d.rows c).kind);
      control_types = same-controls;
    }
      where
        counts : inner.last - (b + 1) ≡ last_c - (c + 1)
        counts = let last = moved-last in let late = inner.late in omega (arith, last, late, outer)

-- what is at a place inside a subsystem
inside-at : (rows : List Row) (nested : IsNested rows) (e k b : ℕ) → slice_get (rows_inside rows e) k ≡ Some b →
    (b < length rows) × (is_inside rows (Some e) b ≡ true)
inside-at rows nested e k b at =
    let it = kept-at (λ b. is_inside rows (Some e) b) 0 (length rows) k b at in
    let below = it.1 in
    (omega (arith, below), it.2)

place-of : (rows : List Row) (nested : IsNested rows) (e : ℕ) (it : interiors.Interior rows nested e) (k b : ℕ) →
    slice_get (rows_inside rows e) k ≡ Some b → (b ≡ e + 1 + k) × (k < it.last - (e + 1))
place-of rows nested e it k b at =
    range-at (e + 1) (it.last - (e + 1)) k b
    (subst (λ l. slice_get l k ≡ Some b) (interiors.interior rows nested e it.last it.late it.within it.all it.ends) at)

pub inner_are_same : InnerAreSame
inner_are_same r e f place b c is same at_e at_f kind =
    let d : Diagram = diagram_of r in
    let nested : IsNested d.rows = is.tree.table.nested in
    let in_e = inside-at d.rows nested e place b at_e in
    let in_f = inside-at d.rows nested f place c at_f in
    let b_in = in_e.0 in
    let c_in = in_f.0 in
    let b_past = interiors.after d.rows nested e b b_in in_e.1 in
    let c_past = interiors.after d.rows nested f c c_in in_f.1 in
    let e_in : e < length d.rows = omega (arith, b_in, b_past) in
    let f_in : f < length d.rows = omega (arith, c_in, c_past) in
    let inside_e = interiors.interior-of d.rows nested e e_in in
    let inside_f = interiors.interior-of d.rows nested f f_in in
    let at_b = place-of d.rows nested e inside_e place b at_e in
    let at_c = place-of d.rows nested f inside_f place c at_f in
    let b_is = at_b.0 in
    let c_is = at_c.0 in
    let few = at_b.1 in
    inner-same d nested is.tree.table.wired e f same e_in f_in b c (omega (arith, b_is, c_is)) b_past (omega (arith, b_is, few)) kind
