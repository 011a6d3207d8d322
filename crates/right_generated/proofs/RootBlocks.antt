-- The blocks of the root of a generated model: its input first, and no further Inport.
use Rattle.std.proofs.Common.{◌≡◌, refl, sym, ◌∙◌, ap, ap₂, ℕ, zero, suc, ◌+◌, ◌==◌, Bool, true, false, true≢false, List, [], ◌∷◌, Option, Some, None, is_some, codes, filter_map, option_map, unwrap_or}
use Rattle.std.specs.Prelude.{⊤}
use Rattle.std.specs.List.{AllByRecursion, cons_option}
use Rattle.std.specs.Result.{result_ok}
use Rattle.std.specs.Fmt.{digits}
use Rattle.base_core.specs.Numbers.{reported_number}
use Rattle.mdl_type_texts.specs.TypeTexts.{integer_format, Fixed}
use Rattle.mdl_tree.specs.Spelling.{Items}
use Rattle.mdl_tree.specs.Walks.{SectionTree}
use Rattle.mdl_params.specs.declared.BlockType.{BlockType}
use Rattle.mdl_params.specs.declared.BlockType.TheVariants.{Inport, Outport}
use Rattle.mdl_blocks.specs.declared.peers.Peers.{Peers}
use Rattle.mdl_blocks.specs.Peers.{count_in, peers_in}
use Rattle.mdl_blocks.specs.Blocks.{BlockText, inport, typed, untimed}
use Rattle.mdl_blocks.specs.Meanings.{known_type}
use Rattle.mdl_systems.specs.Outlines.{Outline, outlines_in, outlines_of}
use Rattle.mdl_systems.specs.Held.{blocks_held}
use Rattle.mdl_systems.specs.Refusals.{read}
use Rattle.mdl_rows.specs.Models.{Block, block_read, kind_of}
use Rattle.mdl_rows.specs.Interiors.{inport_number}
use Rattle.right_generated.proofs.Words.{block_head}
use Rattle.right_generated.proofs.Plans.{Plan, Part, plan_items, all_append}
use Rattle.right_generated.proofs.ModelPlans.{drawn_inside, outport_inside, outport_plan, drawn_plan, groups_plan, entering_plan, all_entering_plan, last_plan, after_groups_plan, root_plan}
use Rattle.right_generated.proofs.OwnedBlocks.{IsOwned, inner_owned}

-- ---- How many blocks of a type there are

-- the tree has so many blocks of this type, whatever its line
abbrev HasCount : BlockType → ℕ → Plan → Type 0
HasCount type count p = (n : ℕ) → count_in type (plan_items n p) ≡ count

groups_count : (type : BlockType) (count : ℕ) (rest : Plan) →
    ((start k : ℕ) (after : Plan) → HasCount type count after → HasCount type count (drawn_plan start k after)) →
    HasCount type count rest → (start k many : ℕ) → HasCount type count (groups_plan start k many rest)
groups_count type count rest skip h start k zero = h
groups_count type count rest skip h start k (suc n) = skip start k (groups_plan start (k + 1) n rest)
    (groups_count type count rest skip h start (k + 1) n)

entering_count : (type : BlockType) (count : ℕ) (t : Bool) (k : ℕ) (rest : Plan) →
    HasCount type count rest → HasCount type count (entering_plan t k rest)
entering_count type count true k rest h n = h _
entering_count type count false k rest h n = h _

all_entering_count : (type : BlockType) (count : ℕ) (rest : Plan) → HasCount type count rest →
    (k many : ℕ) → HasCount type count (all_entering_plan k many rest)
all_entering_count type count rest h k zero = h
all_entering_count type count rest h k (suc n) = entering_count type count (k == 1) k _ (all_entering_count type count rest h (k + 1) n)

root_inports : (start size : ℕ) → HasCount Inport 1 (root_plan start size)
root_inports start size n =
    ap suc (groups_count Inport 0 (after_groups_plan size) (λ s k after h m. h _)
    (λ m. all_entering_count Inport 0 (last_plan size) (λ j. refl) 1 size _) start 1 size _)

root_outports : (start size : ℕ) → HasCount Outport 2 (root_plan start size)
root_outports start size n =
    groups_count Outport 2 (after_groups_plan size) (λ s k after h m. h _)
    (λ m. ap (λ c. suc (suc c)) (all_entering_count Outport 0 (last_plan size) (λ j. refl) 1 size _)) start 1 size _

-- one input and two outputs
abbrev pub root_peers : Peers
root_peers = record { inports = 1; outports = 2 }

peers_are : (start size n : ℕ) → peers_in (plan_items n (root_plan start size)) ≡ root_peers
peers_are start size n =
    ap₂ (λ (i o : ℕ). record { inports = reported_number i; outports = reported_number o })
    (root_inports start size n) (root_outports start size n)

-- ---- Blocks that aren't inputs of the root

-- a block that is no Inport, where it is one of the root
abbrev pub IsNoInput : Block → Type 0
IsNoInput b = b.owner ≡ None → inport_number (kind_of b) ≡ None

-- the same of a block that is still to be read
abbrev HasNoInput : Outline → Type 0
HasNoInput o = (b : Block) → block_read [] o ≡ Some b → IsNoInput b

some_same : {A : Type 0} (a b : A) → Some a ≡ Some b → a ≡ b
some_same a b e = ap (λ o. unwrap_or o a) e

owned_none : (o : Outline) → IsOwned o → HasNoInput o
owned_none o own b e none = by (result_ok (read [] o)) e
  where
    by : (t : Option BlockText) → option_map (λ text. record { number = o.number; owner = o.owner; text = text }) t ≡ Some b →
        inport_number (kind_of b) ≡ None
    by None e = absurd (true≢false (sym (ap is_some e)))
    by (Some text) e =
        let same : o.owner ≡ b.owner = ap (λ (b : Block). b.owner) (some_same _ _ e) in
        absurd (true≢false (sym own ∙ ap is_some (same ∙ none)))

all_owned_none : (os : List Outline) → AllByRecursion IsOwned os → AllByRecursion HasNoInput os
all_owned_none [] all = tt
all_owned_none (o ∷ os) all = (owned_none o all.0, all_owned_none os all.1)

-- what is read, if anything, is no Inport
abbrev ReadsNoInput : Option Block → Type 0
ReadsNoInput None = ⊤
ReadsNoInput (Some r) = inport_number (kind_of r) ≡ None

read_none : (o : Outline) → ReadsNoInput (block_read [] o) → HasNoInput o
read_none o h b e own = by (block_read [] o) h e
  where
    by : (t : Option Block) → ReadsNoInput t → t ≡ Some b → inport_number (kind_of b) ≡ None
    by None h e = absurd (true≢false (sym (ap is_some e)))
    by (Some r) h e = ap (λ (b : Block). inport_number (kind_of b)) (sym (some_same r b e)) ∙ h

-- ---- The root's blocks after its input

-- no block of the tree, in the root, is an Inport
abbrev HasNoInputs : Plan → Type 0
HasNoInputs p = (n next : ℕ) → AllByRecursion HasNoInput (outlines_in next None 0 root_peers (plan_items n p))

-- a block of the root with these items, whatever its number and its line
abbrev root_block : (next line : ℕ) → Items → Outline
root_block next line items =
    record {
      number = next;
      owner = None;
      depth = 0;
      peers = root_peers;
      section = record { name = codes "Block"; line = line; items = items };
    }

block_none : (inside rest : Plan) →
    ((n next : ℕ) → ReadsNoInput (block_read [] (root_block next (reported_number n) (plan_items (n + 1) inside)))) → HasNoInputs rest →
    HasNoInputs (Part (codes "Block {") (codes "Block") block_head inside rest)
block_none inside rest h more n next = (
  read_none (root_block next (reported_number n) (plan_items (n + 1) inside)) (h n next),
  all_append HasNoInput (blocks_held next 0 (plan_items (n + 1) inside)) _
      (all_owned_none _ (inner_owned next 0 (plan_items (n + 1) inside))) (more _ _),
)

groups_none : (start k many : ℕ) (rest : Plan) → HasNoInputs rest → HasNoInputs (groups_plan start k many rest)
groups_none start k zero rest h = h
groups_none start k (suc m) rest h =
    block_none (drawn_inside start k) (groups_plan start (k + 1) m rest) (λ n next. refl) (groups_none start (k + 1) m rest h)

entering_none : (t : Bool) (k : ℕ) (rest : Plan) → HasNoInputs rest → HasNoInputs (entering_plan t k rest)
entering_none true k rest h n next = h _ next
entering_none false k rest h n next = h _ next

all_entering_none : (k many : ℕ) (rest : Plan) → HasNoInputs rest → HasNoInputs (all_entering_plan k many rest)
all_entering_none k zero rest h = h
all_entering_none k (suc m) rest h = entering_none (k == 1) k _ (all_entering_none (k + 1) m rest h)

after_groups_none : (size : ℕ) → HasNoInputs (after_groups_plan size)
unfolding digits
after_groups_none size =
    let entering = all_entering_plan 1 size (last_plan size) in
    block_none (outport_inside (codes "Out1") refl 1) (outport_plan (codes "Out2") refl 2 entering) (λ n next. refl)
    (block_none (outport_inside (codes "Out2") refl 2) entering (λ n next. refl) (all_entering_none 1 size (last_plan size) (λ n next. tt)))

blocks_none : (os : List Outline) → AllByRecursion HasNoInput os → AllByRecursion IsNoInput (filter_map (block_read []) os)
blocks_none [] all = tt
blocks_none (o ∷ os) all = by (block_read [] o) all.0 (blocks_none os all.1)
  where
    by : (b : Option Block) → ((r : Block) → b ≡ Some r → IsNoInput r) → AllByRecursion IsNoInput (filter_map (block_read []) os) →
        AllByRecursion IsNoInput (cons_option b (filter_map (block_read []) os))
    by None h more = more
    by (Some r) h more = (h r refl, more)

-- ---- All blocks

-- the input of the root, at this line
abbrev pub input_block : (line : ℕ) → Block
input_block line =
    record {
      number = 0;
      owner = None;
      text = record { name = codes "In1"; line = line; body = typed (inport 1) (known_type (Fixed (integer_format true 32))) untimed };
    }

-- the blocks after it
abbrev pub further_blocks : (start size : ℕ) → List Block
further_blocks start size = filter_map (block_read [])
    (outlines_in 1 None 0 root_peers (plan_items 10 (groups_plan start 1 size (after_groups_plan size))))

pub root_blocks : (start size : ℕ) (section : SectionTree) → section.items ≡ plan_items 4 (root_plan start size) →
    filter_map (block_read []) (outlines_of section) ≡ input_block 4 ∷ further_blocks start size
root_blocks start size section is =
    ap (λ items. filter_map (block_read []) (outlines_in 0 None 0 (peers_in items) items)) is
    ∙ ap (λ peers. filter_map (block_read []) (outlines_in 0 None 0 peers (plan_items 4 (root_plan start size)))) (peers_are start size 4)

pub further_none : (start size : ℕ) → AllByRecursion IsNoInput (further_blocks start size)
further_none start size = blocks_none _ (groups_none start 1 size (after_groups_plan size) (after_groups_none size) 10 1)
