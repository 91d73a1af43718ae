-- What who answers of the machines that a loaded image may hold, and what it writes. Assumes nothing.
use Rattle.std.specs.Prelude.{◌≡◌, ℕ, ◌+◌, ◌<◌, ◌≤◌, List, ◌++◌, length, take, drop, Some, None, Ok, Err, Option, Result, ◌≢◌}
use Rattle.std.proofs.Math.Option as Maybe
use Rattle.outputs.specs.Kinds.{Kind, PrefixOf}
use Rattle.machines.specs.Keys.{Key}
use Rattle.machines.specs.Machines.{State, Machine, answer_from}
use Rattle.machines.specs.Pairs.{Pairs, output_of}
use Rattle.machines.specs.Asked.{Who}
use Rattle.searching.specs.declared.refusal.WhoRefusal.{WhoRefusal}
use Rattle.searching.specs.declared.refusal.WhoRefusal.TheVariants.{ShortBuffer}

-- what follows x in z, or that x is no prefix of z
abbrev pub Left : {O : Type 0} (k : Kind) → (O → k.Ideal) → k.Ideal → k.Ideal → Option O → Type 0
Left k meaning x z None = PrefixOf k x z → ⊥
Left k meaning x z (Some y) = k.join x (meaning y) ≡ z

-- no string of at most 64 - d bytes puts out x from state q on
abbrev pub Nowhere : (k : Kind) → List (State k.Ideal) → ℕ → k.Ideal → ℕ → Type 0
Nowhere k states q x d = (w : Key) → length w + d ≤ 64 → answer_from k states q w ≢ Maybe.some x

-- a buffer with w written from place d on
abbrev pub written : ℕ → Key → List ℕ → List ℕ
written d w buffer = take d buffer ++ (w ++ drop (d + length w) buffer)

-- What a search from state q on answers for an output x, d bytes deep: a string that puts out x is written from place d on, and its end is told; or there is none, and nothing is written.
abbrev pub Sought : (k : Kind) → (Machine k.Ideal → Type 0) → ℕ → k.Ideal → ℕ → List ℕ → List ℕ → Option ℕ → Type 0
Sought k Held q x d before after None = (after ≡ before) × ((m : Machine k.Ideal) → Held m → Nowhere k m.states q x d)
Sought k Held q x d before after (Some n) =
    (w : Key) × (n ≡ d + length w) × (n ≤ 64) × (after ≡ written d w before)
    × ((m : Machine k.Ideal) → Held m → answer_from k m.states q w ≡ Maybe.some x)

-- A key with the output x is written at the buffer's start, and its length is told; or there is none, and nothing is written.
abbrev pub KeyWritten : (k : Kind) → (Machine k.Ideal → Type 0) → k.Ideal → List ℕ → List ℕ → Option ℕ → Type 0
KeyWritten k Held x before after None = (after ≡ before) × ((m : Machine k.Ideal) → Held m → Who k m x Maybe.none)
KeyWritten k Held x before after (Some n) =
    (n ≤ 64) × ((w : Key) × (length w ≡ n) × (after ≡ w ++ drop n before) × ((m : Machine k.Ideal) → Held m → Who k m x (Maybe.some w)))

-- What that says of a dictionary's pairs: the key that is written has the output x, and without one no key has it.
abbrev pub KeyOf : {A : Type 0} → Pairs A → A → List ℕ → List ℕ → Option ℕ → Type 0
KeyOf P x before after None = (w : Key) → output_of P w ≢ Maybe.some x
KeyOf P x before after (Some n) = (w : Key) × (length w ≡ n) × (after ≡ w ++ drop n before) × (output_of P w ≡ Maybe.some x)

-- What who answers for an output x of the machines that may be held: a buffer under 64 bytes is refused, and left as it is.
abbrev pub Names : (k : Kind) → (Machine k.Ideal → Type 0) → k.Ideal → List ℕ → List ℕ → Result (Option ℕ) WhoRefusal → Type 0
Names k Held x before after (Err ShortBuffer) = (length before < 64) × (after ≡ before)
Names k Held x before after (Ok r) = (64 ≤ length before) × KeyWritten k Held x before after r

-- What who answers for an output x of a dictionary's pairs.
abbrev pub Named : {A : Type 0} → Pairs A → A → List ℕ → List ℕ → Result (Option ℕ) WhoRefusal → Type 0
Named P x before after (Err ShortBuffer) = (length before < 64) × (after ≡ before)
Named P x before after (Ok r) = KeyOf P x before after r
