-- The code of each system is found by the system, and the header that a child has is that of its own rows.
use Rattle.std.specs.Prelude.{◌≡◌, ℕ, zero, suc, ◌<◌, Bool, true, false, if◌then◌else◌, List, [], ◌∷◌, map, slice_get, Contains, Option, Some, None, refl}
use Rattle.std.specs.List.{AllByRecursion, AllZip}
use Rattle.std.proofs.Common.{sym, ap, ap₂, subst, ◌∙◌, arith, eq-eqb}
use Rattle.std.proofs.lemmas.Bool.{eqb-true}
use Rattle.diagram_meaning.specs.Rows.{same_system, subsystems_of}
use Rattle.diagram_meaning.specs.ResolvedTree.{ResolvedTree}
use Rattle.modules_profile.specs.SystemHeader.{SystemHeader}
use Rattle.modules_profile.specs.SystemProfile.{SystemProfile}
use Rattle.modules_profile.specs.Functions.{IsProfileOf}
use Rattle.modules_profile.specs.Headers.{header_of}
use Rattle.modules_profile.specs.Locals.{child_use, own_header}
use Rattle.modules_profile.specs.NodeFacts.{AreHeaders, ProfilesAreOne, HeaderIsOfOwnRows}
use Rattle.modules_profile.specs.Systems.{systems_inside}
use Rattle.emit_shape.specs.SystemTree.{SystemTree}
use Rattle.emit_shape.specs.ProgramShape.{viewed}
use Rattle.right_claim.specs.Assembly.{IsCodeOf}
use Rattle.modules_profile.proofs.lemmas.Members.{in-first, in-rest, number-of}
use Rattle.right_linking.specs.Parts.{Parts, diagram, all_systems, CodedSystem, coded_header, IsCodedAs, IsChildBehind, CodesHaveViews}
use Rattle.right_linking.proofs.SystemOrder.{stands-once, child-later}

same_system-refl : (s : Option ℕ) → same_system s s ≡ true
same_system-refl None = refl
same_system-refl (Some e) = eq-eqb e e refl

same_system-equal : (s t : Option ℕ) → same_system s t ≡ true → s ≡ t
same_system-equal None None same = refl
same_system-equal None (Some e) same = absurd (let wrong : ⊥ = cc same in wrong)
same_system-equal (Some f) None same = absurd (let wrong : ⊥ = cc same in wrong)
same_system-equal (Some f) (Some e) same = ap Some (sym (eqb-true e f same))

each-made : {A B : Type 0} (P : B → Type 0) (f : A → B) (xs : List A) → ((x : A) → Contains xs x → P (f x)) → AllByRecursion P (map f xs)
each-made P f [] all = tt
each-made P f (x ∷ xs) all = (all x (in-first x xs), each-made P f xs (λ y at. all y (in-rest x y xs at)))

module _ (r : ResolvedTree) where
  abbrev coded : (s : Option ℕ) (code : SystemTree) → IsCodeOf r s code → CodedSystem
  coded s code is_code = record { local = viewed is_code.view; profile = is_code.view.profile; slots = is_code.ok.slots; code = code }

  -- the first is that of the root
  abbrev first_coded : (ss : List (Option ℕ)) (codes : List SystemTree) → AllZip (IsCodeOf r) (None ∷ ss) codes → CodedSystem
  first_coded ss [] all = absurd all
  first_coded ss (c ∷ codes) all = coded None c all.0

  -- the first that is of this system, else another
  abbrev found : (ss : List (Option ℕ)) (codes : List SystemTree) → AllZip (IsCodeOf r) ss codes → CodedSystem → Option ℕ → CodedSystem
  found [] [] all other s = other
  found [] (c ∷ codes) all other s = other
  found (t ∷ ss) [] all other s = other
  found (t ∷ ss) (c ∷ codes) all other s = if same_system t s then coded t c all.0 else found ss codes all.1 other s

  -- what is found of a system at a place
  record IsFound (codes : List SystemTree) (place : ℕ) (s : Option ℕ) (c : CodedSystem) : Type 0 where
    pub code : SystemTree
    pub stands : slice_get codes place ≡ Some code
    pub is_code : IsCodeOf r s code
    pub is : c ≡ coded s code is_code

  found-at : (ss : List (Option ℕ)) (codes : List SystemTree) (all : AllZip (IsCodeOf r) ss codes) (other : CodedSystem)
      (place : ℕ) (s : Option ℕ) →
      slice_get ss place ≡ Some s → ((i : ℕ) (t : Option ℕ) → i < place → slice_get ss i ≡ Some t → same_system t s ≡ false) →
      IsFound codes place s (found ss codes all other s)
  found-at [] codes all other place s at differ = absurd (let wrong : ⊥ = cc at in wrong)
  found-at (t ∷ ss) [] all other place s at differ = absurd all
  found-at (t ∷ ss) (c ∷ codes) all other zero s at differ =
      let same : t ≡ s = cc at in
      subst (λ o. IsFound (c ∷ codes) zero o (found (t ∷ ss) (c ∷ codes) all other o)) same
      (record {
        code = c;
        stands = refl;
        is_code = all.0;
        is = ap (λ b. if b then coded t c all.0 else found ss codes all.1 other t) (same_system-refl t);
      })
  found-at (t ∷ ss) (c ∷ codes) all other (suc place) s at differ =
      let later = found-at ss codes all.1 other place s at (λ i u below stands. differ (suc i) u (omega arith) stands) in
      record {
        code = later.code;
        stands = later.stands;
        is_code = later.is_code;
        is = ap (λ b. if b then coded t c all.0 else found ss codes all.1 other s) (differ zero t (omega arith) refl) ∙ later.is;
      }

module _ (profiles : ProfilesAreOne) (headers_are : HeaderIsOfOwnRows) (a : Parts) where
  abbrev at : Option ℕ → CodedSystem
  at = found a.model (all_systems a) a.codes a.can.each
      (first_coded a.model (map Some (systems_inside (diagram a).rows None)) a.codes a.can.each)

  earlier-differ : (place : ℕ) (s : Option ℕ) → slice_get (all_systems a) place ≡ Some s → (i : ℕ) (t : Option ℕ) → i < place →
      slice_get (all_systems a) i ≡ Some t → same_system t s ≡ false
  earlier-differ place s stands i t below first = by (same_system t s) refl
    where
      by : (b : Bool) → same_system t s ≡ b → b ≡ false
      by false e = refl
      by true e =
          absurd (let same = stands-once (diagram a).rows i place s (first ∙ ap Some (same_system-equal t s e))
          stands in omega arith)

  each : (place : ℕ) (s : Option ℕ) → slice_get (all_systems a) place ≡ Some s → IsCodedAs a place s (at s)
  each place s stands =
      let f = found-at a.model (all_systems a) a.codes a.can.each
      (first_coded a.model (map Some (systems_inside (diagram a).rows None)) a.codes a.can.each) place s stands
      (earlier-differ place s stands) in
      subst (IsCodedAs a place s) (sym f.is)
      (record {
        stands = f.stands;
        local = record { headers = f.is_code.view.headers; are_headers = f.is_code.view.are_headers; is_local = refl };
        profile = f.is_code.view.is_profile;
        shape = f.is_code.ok.shape;
        behaves = f.is_code.ok.behaves;
        lawful = f.is_code.ok.lawful;
        chains = f.is_code.ok.chains;
      })

  -- the header of a child is that of its own rows
  child-header : (e : Option ℕ) (h : SystemHeader) (c : CodedSystem) (k : ℕ) → IsCodedAs a k e c → h.row ≡ e →
      h ≡ header_of (diagram a) h.row h.profile →
      ((p : SystemProfile) → IsProfileOf (diagram a) e p → p ≡ h.profile) → h ≡ coded_header c
  child-header e h c k known row own one =
      own ∙ ap₂ (header_of (diagram a)) row (sym (one c.profile known.profile))
      ∙ sym (headers_are (diagram a) a.model.times.delays e known.local.headers c.profile)
      ∙ ap (λ l. own_header l c.profile) (sym known.local.is_local)

  child-behind : (place : ℕ) (s : Option ℕ) (headers : List SystemHeader) (h : SystemHeader) → slice_get (all_systems a) place ≡ Some s →
      AreHeaders (diagram a) s headers → Contains headers h → IsChildBehind a at place (child_use (diagram a) h)
  child-behind place s headers h stands are has =
      let one = number-of (λ (x : SystemHeader). x.row) headers (subsystems_of (diagram a).rows s) h are.rows has in
      let later = child-later (diagram a).rows place s one.0 a.can.resolved.tree.table.nested stands one.1 in
      let row : slice_get (all_systems a) later.0 ≡ Some h.row = later.2 ∙ ap Some (sym one.2) in
      record {
        header = child-header h.row h (at h.row) later.0 (each later.0 h.row row) refl (are.each h has).0
            (λ p is. profiles (diagram a) h.row p h.profile is (are.each h has).1);
        inner_place = later.0;
        later = later.1;
        stands = row;
      }

  children : (place : ℕ) (s : Option ℕ) → slice_get (all_systems a) place ≡ Some s →
      AllByRecursion (IsChildBehind a at place) (at s).local.children
  children place s stands =
      let local = (each place s stands).local in
      subst (λ l. AllByRecursion (IsChildBehind a at place) l.children) (sym local.is_local)
      (each-made (IsChildBehind a at place) (child_use (diagram a)) local.headers
      (λ h has. child-behind place s local.headers h stands local.are_headers has))

pub codes_have_views : ProfilesAreOne → HeaderIsOfOwnRows → CodesHaveViews
codes_have_views profiles headers_are a =
    record {
      at = at profiles headers_are a;
      each = each profiles headers_are a;
      children = children profiles headers_are a;
    }
