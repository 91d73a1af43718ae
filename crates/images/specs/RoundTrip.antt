-- The round trip: what load answers on the image of a fit machine, and on the image of some pairs. Assumes nothing.
use Rattle.std.specs.Prelude.{◌≡◌, ℕ, ◌+◌, ◌*◌, ◌/◌, ◌^◌, ◌<◌, ◌≤◌, List, ◌++◌, length, take, drop}
use Rattle.outputs.specs.Bits.{value, spread}
use Rattle.outputs.specs.Kinds.{Kind}
use Rattle.machines.specs.Machines.{Machine, count_arcs}
use Rattle.machines.specs.Pairs.{Pairs, Proper, ShortKeys}
use Rattle.machines.specs.Minimal.{minimal, key_counts}
use Rattle.images.specs.Images.{image_bits, image_of, image}
use Rattle.images.specs.Steps.{reads, refuses, refusal_at}
use Rattle.images.specs.Loads.{load}
use Rattle.images.specs.Fits.{Fit}

-- What load answers on the image of a machine, whatever bytes follow it.
pub record LoadsBack (k : Kind) (m : Machine k.Ideal) (counts : List ℕ) (keys : ℕ) : Type 0 where
  -- with a working byte for each state, that machine, and the place behind the image's last byte
  pub taken : (working : ℕ) → length m.states ≤ working → (more : List ℕ)
      → load k working (image_of k m counts keys ++ more) ≡ reads m (8 * length (image_of k m counts keys))
  -- with fewer, refusal 20 at the field with the number of states
  pub refused : (working : ℕ) → working < length m.states → (more : List ℕ)
      → load k working (image_of k m counts keys ++ more) ≡ refuses (refusal_at 20 24)
  -- the numbers in the head are those of the machine
  pub states_held : (more : List ℕ) → value (take 16 (drop 24 (spread (image_of k m counts keys ++ more)))) ≡ length m.states
  pub arcs_held : (more : List ℕ) → value (take 17 (drop 40 (spread (image_of k m counts keys ++ more)))) ≡ count_arcs m.states
  pub keys_held : (more : List ℕ) → value (take 20 (drop 57 (spread (image_of k m counts keys ++ more)))) ≡ keys
  -- as many bytes as the bits need, and every place fits an index entry
  pub size : length (image_of k m counts keys) ≡ (length (image_bits k m counts keys) + 7) / 8
  pub small : length (image_bits k m counts keys) < 2 ^ 26

-- load takes every fit machine back from its image
abbrev pub FitLoadsBack : Kind → Type 0
FitLoadsBack k = (m : Machine k.Ideal) (counts : List ℕ) (keys : ℕ) → Fit k m counts keys → LoadsBack k m counts keys

-- Pairs of a dictionary within the limits.
pub record Within (k : Kind) (P : Pairs k.Ideal) : Type 0 where
  pub proper : Proper k P
  pub short : ShortKeys P
  pub few_keys : length P ≤ 1048575
  pub few_states : length (minimal k P).states ≤ 65535
  pub few_arcs : count_arcs (minimal k P).states ≤ 131071

-- the minimal machine of pairs within the limits is fit for an image
abbrev pub PairsFit : Kind → Type 0
PairsFit k = (P : Pairs k.Ideal) → Within k P → Fit k (minimal k P) (key_counts k P) (length P)

-- load takes the minimal machine of pairs within the limits back from their image
abbrev pub PairsLoadBack : Kind → Type 0
PairsLoadBack k = (P : Pairs k.Ideal) → Within k P → LoadsBack k (minimal k P) (key_counts k P) (length P)

-- only equal pairs have equal images
abbrev pub ImagesDiffer : Kind → Type 0
ImagesDiffer k = (P Q : Pairs k.Ideal) → Within k P → Within k Q → image k P ≡ image k Q → P ≡ Q
