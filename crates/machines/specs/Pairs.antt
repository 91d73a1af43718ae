-- Pairs of a key and an output: their order, what stands under a prefix, and the prefixes of all keys in postorder. Assumes nothing.
use Rattle.std.specs.Prelude.{◌≡◌, ℕ, ◌<◌, ◌≤◌, true, false, List, [], ◌∷◌, ◌++◌, length, ◌==◌}
use Rattle.std.proofs.Math.Option.{Option, none, some}
use Rattle.outputs.specs.Kinds.{Kind}
use Rattle.outputs.specs.Texts.{all_bytes}
use Rattle.machines.specs.Lists.{Each}
use Rattle.machines.specs.Keys.{Key, lower, same_key, past, postorder, prefixes}

-- keys with their outputs
abbrev pub Pairs : Type 0 → Type 0
Pairs A = List (Key × A)

-- the output of a key
abbrev pub output_of : {A : Type 0} → Pairs A → Key → Option A
output_of [] u = none
output_of (p ∷ P) u = elim (same_key p.0 u) [ true ↦ some p.1 | false ↦ output_of P u ]

-- the pairs whose keys begin with u, each key without u in front
abbrev pub under : {A : Type 0} → Pairs A → Key → Pairs A
under [] u = []
under (p ∷ P) u = elim (past u p.0) [ none ↦ under P u | some w ↦ (w, p.1) ∷ under P u ]

-- u is a prefix of a key
abbrev pub KeyPrefix : {A : Type 0} → Pairs A → Key → Type 0
KeyPrefix {A} P u = (w : Key) × (z : A) × (output_of P (u ++ w) ≡ some z)

-- u put into a list in postorder, unless it is there
abbrev pub put : Key → List Key → List Key
put u [] = u ∷ []
put u (v ∷ vs) = elim (postorder u v) [ true ↦ u ∷ v ∷ vs | false ↦ elim (same_key u v) [ true ↦ v ∷ vs | false ↦ v ∷ put u vs ] ]

-- each of some strings put into a list in postorder
abbrev pub put_all : List Key → List Key → List Key
put_all [] vs = vs
put_all (u ∷ us) vs = put u (put_all us vs)

-- the prefixes of all keys in postorder, each once
abbrev pub key_prefixes : {A : Type 0} → Pairs A → List Key
key_prefixes [] = []
key_prefixes (p ∷ P) = put_all (prefixes p.0) (key_prefixes P)

-- a in front of some bytes, unless it is the first of them
abbrev pub in_front : ℕ → List ℕ → List ℕ
in_front a [] = a ∷ []
in_front a (b ∷ bs) = elim (a == b) [ true ↦ b ∷ bs | false ↦ a ∷ b ∷ bs ]

-- the different first bytes of keys in their order
abbrev pub first_bytes : {A : Type 0} → Pairs A → List ℕ
first_bytes [] = []
first_bytes (p ∷ P) = elim p.0 [ [] ↦ first_bytes P | a ∷ w ↦ in_front a (first_bytes P) ]

-- every key is above u
abbrev pub Above : {A : Type 0} → Key → Pairs A → Type 0
Above u P = Each (λ p. lower u p.0 ≡ true) P

-- each key is above the one before it
abbrev pub Ascending : {A : Type 0} → Pairs A → Type 0
Ascending [] = Unit {0}
Ascending (p ∷ P) = Above p.0 P × Ascending P

-- every key is a byte string
abbrev pub ByteKeys : {A : Type 0} → Pairs A → Type 0
ByteKeys P = Each (λ p. all_bytes p.0 ≡ true) P

-- no key is longer than 64 bytes
abbrev pub ShortKeys : {A : Type 0} → Pairs A → Type 0
ShortKeys P = Each (λ p. length p.0 ≤ 64) P

-- an image can hold every output
abbrev pub AllStorable : (k : Kind) → Pairs k.Ideal → Type 0
AllStorable k P = Each (λ p. k.storable p.1 ≡ true) P

-- Pairs that a dictionary is made of: at least one, by ascending keys of bytes, with storable outputs.
pub record Proper (k : Kind) (P : Pairs k.Ideal) : Type 0 where
  pub nonempty : 0 < length P
  pub ascending : Ascending P
  pub bytes : ByteKeys P
  pub storable : AllStorable k P
