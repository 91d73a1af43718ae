-- What it means that a transducer realizes some pairs, and what minimality says of every such transducer. Assumes nothing.
use Rattle.std.specs.Prelude.{◌≡◌, ℕ, ◌<◌, ◌≤◌, true, List, ◌++◌, length}
use Rattle.std.proofs.Math.Option.{none, some}
use Rattle.outputs.specs.Kinds.{Kind, PrefixOf}
use Rattle.outputs.specs.Texts.{all_bytes}
use Rattle.machines.specs.Lists.{Each}
use Rattle.machines.specs.Keys.{Key}
use Rattle.machines.specs.Machines.{State, Machine, count_arcs, answer, reach}
use Rattle.machines.specs.Pairs.{Pairs, output_of, KeyPrefix}
use Rattle.machines.specs.Residuals.{greatest_common}
use Rattle.machines.specs.Minimal.{minimal}

-- A transducer realizes the pairs if it answers each key with its output, and absent for every other byte string. It is any machine: circles, states that are never reached, several arcs on one byte and targets that are not there are allowed, and counted.
abbrev pub Realizes : (k : Kind) → Pairs k.Ideal → Machine k.Ideal → Type 0
Realizes k P m = (w : Key) → all_bytes w ≡ true → answer k m w ≡ output_of P w

-- x is the greatest common prefix of the outputs whose keys begin with u
pub record IsGreatestCommon (k : Kind) (P : Pairs k.Ideal) (u : Key) (x : k.Ideal) : Type 0 where
  pub common : (w : Key) (z : k.Ideal) → output_of P (u ++ w) ≡ some z → PrefixOf k x z
  pub greatest : (b : k.Ideal) → ((w : Key) (z : k.Ideal) → output_of P (u ++ w) ≡ some z → PrefixOf k b z) → PrefixOf k b x

-- what a machine has put out after u is a prefix of x
abbrev pub NotBeyond : (k : Kind) → Machine k.Ideal → Key → k.Ideal → Type 0
NotBeyond k m u x = (q : ℕ) × (y : k.Ideal) × (reach k m u ≡ some (q, y)) × PrefixOf k y x

-- every arc carries a byte
abbrev pub ByteArcs : {A : Type 0} → List (State A) → Type 0
ByteArcs states = Each (λ s. Each (λ arc. arc.byte < 256) s.arcs) states

-- What the minimal machine answers.
pub record RightAnswers (k : Kind) (P : Pairs k.Ideal) : Type 0 where
  -- each key's output for the key, and absent for every other string
  pub answers : (w : Key) → answer k (minimal k P) w ≡ output_of P w
  pub realizes : Realizes k P (minimal k P)
  pub on_bytes : ByteArcs (minimal k P).states
  -- after a prefix of a key, what is put out is all that the outputs under it have in common
  pub so_far : (u : Key) → KeyPrefix P u → (q : ℕ) × (reach k (minimal k P) u ≡ some (q, greatest_common k P u))
  pub in_common : (u : Key) → KeyPrefix P u → IsGreatestCommon k P u (greatest_common k P u)
  -- an arc is missing on the way along every other string
  pub nowhere : (u : Key) → (KeyPrefix P u → ⊥) → reach k (minimal k P) u ≡ none

-- No transducer that realizes the pairs is smaller, or puts out earlier.
pub record Minimality (k : Kind) (P : Pairs k.Ideal) : Type 0 where
  pub fewest_states : (m : Machine k.Ideal) → Realizes k P m → length (minimal k P).states ≤ length m.states
  pub fewest_arcs : (m : Machine k.Ideal) → Realizes k P m → count_arcs (minimal k P).states ≤ count_arcs m.states
  pub earliest : (m : Machine k.Ideal) → Realizes k P m → (u : Key) → KeyPrefix P u → NotBeyond k m u (greatest_common k P u)
