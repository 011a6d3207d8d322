-- Codes of a nested system and of all systems inside it, from those of its children.
use Rattle.std.specs.Prelude.{◌≡◌, ℕ, ◌+◌, ◌<◌, ◌≤◌, List, [], ◌∷◌, ◌++◌, map, flat_map, length, slice_get, take, All, Contains, Option, None, Some, true, ◌&&◌, refl}
use Rattle.std.specs.List.{AllZip}
use Rattle.std.proofs.Common.{sym, ap, ap₂, subst, ◌∙◌, arith, get_or}
use Rattle.std.proofs.lemmas.List.{length-map, map-append, take_all, take_more, append-nil, append_assoc}
use Rattle.std.proofs.lemmas.List.Concat.{flat_map-append}
use Rattle.std.proofs.lemmas.List.Elements.{All-push, All-append, All-contains}
use Rattle.std.proofs.lemmas.Option.{get_or_from_slice_get}
use Rattle.diagram_meaning.specs.declared.subsystem.Subsystem.{Subsystem}
use Rattle.diagram_meaning.specs.declared.subsystem.Subsystem.TheViews.{out-Subsystem}
use Rattle.diagram_meaning.specs.declared.table.Row.{Row}
use Rattle.diagram_meaning.specs.Diagram.{Diagram}
use Rattle.diagram_meaning.specs.Rows.{subsystems_of, row_at, row_numbers, is_inside}
use Rattle.diagram_blocks.specs.Kinds.{is_subsystem}
use Rattle.diagram_meaning.specs.Nested.{System, Systems, system, no_more, next, system_of, row_of, Agrees}
use Rattle.diagram_meaning.specs.ResolvedTree.{ResolvedTree, diagram_of}
use Rattle.modules_profile.specs.SystemProfile.{SystemProfile}
use Rattle.modules_profile.specs.Functions.{IsProfileOf}
use Rattle.modules_profile.specs.NodeFacts.{AreProfiles}
use Rattle.modules_profile.specs.Systems.{listed, children_of, systems, systems_inside}
use Rattle.modules_profile.specs.TreeProfiles.{rows_inside, rows_of_all, AreProfilesInside}
use Rattle.modules_profile.proofs.lemmas.Members.{in-at, at-below, in-rest, in-map, of-map, in-filter, in-range}
use Rattle.modules_profile.proofs.lemmas.PortRows.{of-subsystems}
use Rattle.modules_profile.proofs.lemmas.SystemsInside.{children-are, agreed-heads, got-mapped}
use Rattle.right_claim.specs.Assembly.{IsCodeOf}
use Rattle.emit_shape.specs.declared.code.SystemCode.{SystemCode}
use Rattle.emit_shape.specs.SystemTree.{SystemTree, system_tree}
use Rattle.emit_systems.specs.ChildProfiles.{AreProfilesUnder, AreProfilesBelow}

-- ---- Systems

-- a system directly inside one is among all systems
pub child-listed : (rows : List Row) (s : System) (i : ℕ) (c : System) → Agrees rows s → slice_get (children_of s) i ≡ Some c →
    Contains (systems rows) (row_of c)
child-listed rows s i c agrees at =
    let heads : Contains (map Some (subsystems_of rows (row_of s))) (row_of c) =
    subst (λ os. Contains os (row_of c)) (agreed-heads rows s agrees) (in-map row_of (children_of s) c (in-at (children_of s) i c at)) in
    let m = of-map Some (subsystems_of rows (row_of s)) (row_of c) heads in
    let e = of-subsystems rows (row_of s) m.0 m.1 in
    let below = e.0 in
    in-rest None (row_of c) (map Some (systems_inside rows None)) (subst (Contains (map Some (systems_inside rows None))) m.2
    (in-map Some (systems_inside rows None) m.0
    (in-filter (λ b. is_subsystem (row_at rows b).kind && is_inside rows None b) (row_numbers rows) m.0
    (in-range 0 (length rows) m.0 (omega arith) (omega (arith, below))) (ap (λ b. b && true) e.2))))

-- the child that a walk over the children has, and the end of the walk
module _ (s : Subsystem) (items : List Subsystem) (are : items ≡ (out-Subsystem s).children.items) where
  children-listed : children_of (system_of s) ≡ map system_of items
  children-listed = children-are s ∙ ap (map system_of) (sym are)

  pub child-at : (i : ℕ) (child : Subsystem) → i < length items → child ≡ get_or items i child →
      slice_get (children_of (system_of s)) i ≡ Some (system_of child)
  child-at i child below is = ap (λ xs. slice_get xs i) children-listed ∙ got-mapped system_of items i child below is

  pub child-in : (i : ℕ) (child : Subsystem) → i < length items → child ≡ get_or items i child →
      Contains (children_of (system_of s)) (system_of child)
  child-in i child below is = in-at (children_of (system_of s)) i (system_of child) (child-at i child below is)

  pub all-children : (i : ℕ) → length items ≤ i → take i (children_of (system_of s)) ≡ children_of (system_of s)
  all-children i past =
      let many = ap length children-listed ∙ length-map items system_of in
      take_all i (children_of (system_of s)) (omega (arith, many, past))

all-listed : (cs : Systems) → flat_map rows_inside (listed cs) ≡ rows_of_all cs
all-listed no_more = refl
all-listed (next c rest) = ap (λ rows. rows_inside c ++ rows) (all-listed rest)

row-first : (s : System) → rows_inside s ≡ row_of s ∷ flat_map rows_inside (children_of s)
row-first (system row line control own children) = ap (λ rows. row ∷ rows) (sym (all-listed children))

zip-append : {A B : Type 0} (R : A → B → Type 0) (xs : List A) (ys : List B) (vs : List A) (ws : List B) → AllZip R xs ys →
    AllZip R vs ws → AllZip R (xs ++ vs) (ys ++ ws)
zip-append R [] [] vs ws first second = second
zip-append R [] (y ∷ ys) vs ws first second = absurd first
zip-append R (x ∷ xs) [] vs ws first second = absurd first
zip-append R (x ∷ xs) (y ∷ ys) vs ws first second = (first.0, zip-append R xs ys vs ws first.1 second)

-- the profiles of the first children, and the codes of these and of all systems inside them
pub record AreCoded (r : ResolvedTree) (s : System) (i : ℕ) (children : List SystemProfile) (codes : List SystemTree) : Type 0 where
  pub rows : map (λ p. p.row) children ≡ map row_of (take i (children_of s))
  pub each : All (λ p. IsProfileOf (diagram_of r) p.row p) children
  pub are_codes : AllZip (IsCodeOf r) (flat_map rows_inside (take i (children_of s))) codes

module _ (r : ResolvedTree) (s : System) where
  abbrev d : Diagram
  d = diagram_of r

  abbrev IsOwn : SystemProfile → Type 0
  IsOwn p = IsProfileOf d p.row p

  one-more : (i : ℕ) (c : System) → slice_get (children_of s) i ≡ Some c →
      take (i + 1) (children_of s) ≡ take i (children_of s) ++ c ∷ []
  one-more i c at = take_more (children_of s) i c (at-below (children_of s) i c at)
      ∙ ap (λ x. take i (children_of s) ++ x ∷ []) (get_or_from_slice_get (children_of s) i c c at)

  inside-more : (i : ℕ) (c : System) → slice_get (children_of s) i ≡ Some c →
      flat_map rows_inside (take (i + 1) (children_of s)) ≡ flat_map rows_inside (take i (children_of s)) ++ rows_inside c
  inside-more i c at = ap (flat_map rows_inside) (one-more i c at) ∙ flat_map-append rows_inside (take i (children_of s)) (c ∷ [])
      ∙ ap (λ rows. flat_map rows_inside (take i (children_of s)) ++ rows) (append-nil (rows_inside c))

  -- ---- Profiles of the systems inside

  pub under-none : AreProfilesUnder d [] []
  under-none = record { rows = refl; each = λ k p below. absurd (omega arith) }

  -- one child more: its profile, and then those of the systems inside it
  pub under-next : (i : ℕ) (c : System) (p : SystemProfile) (below one deeper all : List SystemProfile) →
      slice_get (children_of s) i ≡ Some c → IsProfileOf d (row_of c) p → AreProfilesBelow d c deeper → one ≡ below ++ p ∷ [] →
      all ≡ one ++ deeper → AreProfilesUnder d (take i (children_of s)) below → AreProfilesUnder d (take (i + 1) (children_of s)) all
  under-next i c p below one deeper all at is inside made more before =
      let row : SystemProfile → Option ℕ = λ q. q.row in
      subst (AreProfilesUnder d (take (i + 1) (children_of s))) (sym (more ∙ ap (λ ps. ps ++ deeper) made)) (record {
        rows = map-append row (below ++ p ∷ []) deeper ∙ ap (λ rows. rows ++ map row deeper) (map-append row below (p ∷ []))
            ∙ append_assoc (map row below) (p.row ∷ []) (map row deeper)
            ∙ ap₂ (λ (front back : List (Option ℕ)). front ++ back) before.rows
            (ap₂ (λ (o : Option ℕ) (rows : List (Option ℕ)). o ∷ rows) is.row inside.rows ∙ sym (row-first c)) ∙ sym (inside-more i c at);
        each = All-append IsOwn (below ++ p ∷ []) deeper
            (All-push IsOwn below p before.each (subst (λ o. IsProfileOf d o p) (sym is.row) is)) inside.each;
      })

  pub all-under : (i : ℕ) (below : List SystemProfile) → take i (children_of s) ≡ children_of s →
      AreProfilesUnder d (take i (children_of s)) below → AreProfilesBelow d s below
  all-under i below all are = subst (λ cs. AreProfilesUnder d cs below) all are

  -- the own profile comes first, and then those of the systems inside
  pub profiles-whole : (p : SystemProfile) (below none first all : List SystemProfile) → none ≡ [] → first ≡ none ++ p ∷ [] →
      all ≡ first ++ below → IsProfileOf d (row_of s) p → AreProfilesBelow d s below → AreProfilesInside d s all
  profiles-whole p below none first all empty one made is are =
      let same : all ≡ p ∷ below = made ∙ ap (λ ps. ps ++ below) (one ∙ ap (λ ps. ps ++ p ∷ []) empty) in
      subst (AreProfilesInside d s) (sym same) (record {
        rows = ap₂ (λ (o : Option ℕ) (rows : List (Option ℕ)). o ∷ rows) is.row are.rows ∙ sym (row-first s);
        each = All-append IsOwn (p ∷ []) below
            (All-push IsOwn [] p (λ k q below. absurd (omega arith)) (subst (λ o. IsProfileOf d o p) (sym is.row) is)) are.each;
      })

  -- ---- Codes

  pub coded-none : AreCoded r s 0 [] []
  coded-none = record { rows = refl; each = λ k p below. absurd (omega arith); are_codes = tt }

  coded-more : (i : ℕ) (c : System) (children : List SystemProfile) (p : SystemProfile) (codes more : List SystemTree) →
      slice_get (children_of s) i ≡ Some c → IsProfileOf d (row_of c) p → AllZip (IsCodeOf r) (rows_inside c) more →
      AreCoded r s i children codes → AreCoded r s (i + 1) (children ++ p ∷ []) (codes ++ more)
  coded-more i c children p codes more at is inside before =
      let longer = one-more i c at in
      let all = inside-more i c at in
      record {
        rows = map-append (λ (q : SystemProfile). q.row) children (p ∷ [])
            ∙ ap₂ (λ (rows : List (Option ℕ)) (row : Option ℕ). rows ++ row ∷ []) before.rows is.row
            ∙ sym (ap (map row_of) longer ∙ map-append row_of (take i (children_of s)) (c ∷ []));
        each = All-push IsOwn children p before.each (subst (λ o. IsProfileOf d o p) (sym is.row) is);
        are_codes = subst (λ rows. AllZip (IsCodeOf r) rows (codes ++ more)) (sym all)
            (zip-append (IsCodeOf r) (flat_map rows_inside (take i (children_of s))) codes (rows_inside c) more before.are_codes inside);
      }

  -- one child more, with what the walk adds
  pub coded-next : (i : ℕ) (c : System) (children made : List SystemProfile) (p : SystemProfile) (inner below all : List SystemCode) →
      slice_get (children_of s) i ≡ Some c → IsProfileOf d (row_of c) p → AllZip (IsCodeOf r) (rows_inside c) (map system_tree below) →
      made ≡ children ++ p ∷ [] → all ≡ inner ++ below → AreCoded r s i children (map system_tree inner) →
      AreCoded r s (i + 1) made (map system_tree all)
  coded-next i c children made p inner below all at is inside one more before =
      subst (λ ps. AreCoded r s (i + 1) ps (map system_tree all)) (sym one)
      (subst (AreCoded r s (i + 1) (children ++ p ∷ [])) (sym (ap (map system_tree) more ∙ map-append system_tree inner below))
      (coded-more i c children p (map system_tree inner) (map system_tree below) at is inside before))

  pub all-profiles : (children given : List SystemProfile) (codes : List SystemTree) (i : ℕ) → Agrees d.rows s →
      take i (children_of s) ≡ children_of s → given ≡ children → AreCoded r s i children codes → AreProfiles d (row_of s) given
  all-profiles children given codes i agrees all same are = subst (AreProfiles d (row_of s)) (sym same) (record {
    rows = are.rows ∙ ap (map row_of) all ∙ agreed-heads d.rows s agrees;
    each = λ p m. All-contains IsOwn children p are.each m;
  })

  -- the own code comes first, and then those of the systems inside
  pub whole : (children : List SystemProfile) (code : SystemCode) (inner none first all : List SystemCode) (i : ℕ) →
      take i (children_of s) ≡ children_of s → none ≡ [] → first ≡ none ++ code ∷ [] → all ≡ first ++ inner →
      IsCodeOf r (row_of s) (system_tree code) → AreCoded r s i children (map system_tree inner) →
      AllZip (IsCodeOf r) (rows_inside s) (map system_tree all)
  whole children code inner none first all i past empty one made is are =
      let same : all ≡ code ∷ inner = made ∙ ap (λ codes. codes ++ inner) (one ∙ ap (λ codes. codes ++ code ∷ []) empty) in
      subst (λ codes. AllZip (IsCodeOf r) (rows_inside s) (map system_tree codes)) (sym same)
      (subst (λ rows. AllZip (IsCodeOf r) rows (map system_tree (code ∷ inner))) (sym (row-first s))
      (is, subst (λ cs. AllZip (IsCodeOf r) (flat_map rows_inside cs) (map system_tree inner)) past are.are_codes))
