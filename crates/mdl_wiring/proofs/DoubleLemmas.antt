-- Sets of the ports of blocks, block by block.
use Rattle.std.proofs.Common.{◌≡◌, refl, sym, ◌∙◌, ap₂, subst, ℕ, ◌+◌, ◌<◌, Bool, true, false, ◌||◌, List, [], ◌∷◌, ◌++◌, length, take, slice_index_or, Option, None, Some}
use Rattle.std.specs.List.{list_any}
use Rattle.std.specs.Option.{option_map_or}
use Rattle.std.proofs.lemmas.List.{take-map}
use Rattle.std.proofs.lemmas.List.Folds.{list_any-append}
use Rattle.indexmap.specs.IndexSet.{IndexSet}
use Rattle.mdl_wiring.specs.declared.doubles.Side.{Side}
use Rattle.mdl_wiring.specs.declared.member.Member as held
use Rattle.mdl_wiring.specs.Members.{Member, member_seen, members_seen}
use Rattle.mdl_wiring.specs.Refusals.{port_on, has_port, same_port}
use Rattle.mdl_wiring.specs.Doubles.{is_port, ArePortsOf, is_taken, Takes}
use Rattle.mdl_wiring.proofs.PassLemmas.{items-more}

any-none : {X : Type 0} (xs : List X) → list_any (λ (x : X). false) xs ≡ false
any-none [] = refl
any-none (x ∷ xs) = any-none xs

-- the port of a block is among those of some blocks where one of them has it
pub port-among : {S : Type 0} (side : Side) (m : Member) (before : List Member) (ports : IndexSet ℕ S) → ArePortsOf side before ports →
    is_taken ports (port_on side m.shape) ≡ list_any (same_port side m) before
port-among side m before ports are = by (port_on side m.shape)
  where
    by : (port : Option ℕ) → is_taken ports port ≡ list_any (λ other. option_map_or (λ port. has_port side port other) port false) before
    by None = sym (any-none before)
    by (Some port) = are port

or-none : (t : Bool) → t ≡ (t || false)
or-none true = refl
or-none false = refl

-- the port of one block more
ports-more : {S : Type 0} (side : Side) (m : Member) (before : List Member) (ports wider : IndexSet ℕ S) → ArePortsOf side before ports →
    Takes ports wider (port_on side m.shape) →
    ArePortsOf side (before ++ m ∷ []) wider
ports-more side m before ports wider are takes port =
    takes port ∙ ap₂ ◌||◌ (are port) (or-none (is_port (port_on side m.shape) port))
    ∙ sym (list_any-append (has_port side port) before (m ∷ []))

-- the same of the block at a place
pub ports-next : {S : Type 0} (side : Side) (ms : List held.Member) (i : ℕ) (d : held.Member) (ports wider : IndexSet ℕ S) →
    i < length ms → ArePortsOf side (take i (members_seen ms)) ports →
    Takes ports wider (port_on side (slice_index_or ms i d).shape) → ArePortsOf side (take (i + 1) (members_seen ms)) wider
ports-next side ms i d ports wider h are takes =
    subst (λ xs. ArePortsOf side xs wider) (items-more member_seen ms i d h ∙ sym (take-map member_seen (i + 1) ms))
    (ports-more side (member_seen (slice_index_or ms i d)) (members_seen (take i ms)) ports wider
    (subst (λ xs. ArePortsOf side xs ports) (take-map member_seen i ms) are) takes)
