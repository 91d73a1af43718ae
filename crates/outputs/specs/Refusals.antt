-- Why bytes make no text, by number. Assumes nothing.
use Rattle.std.specs.Prelude.{◌≡◌, ℕ, ◌<◌, ◌≤◌, List, length, Ok, Err, Result}
use Rattle.outputs.specs.Texts.{longest}
use Rattle.outputs.specs.declared.refusal.TextRefusal.{TextRefusal}
use Rattle.outputs.specs.declared.refusal.TextRefusal.TheVariants.{TooLong}

abbrev pub number : TextRefusal → ℕ
number TooLong = 1

-- a text that means these bytes, or a refusal of more than 24
abbrev pub Made : {X : Type 0} → (X → List ℕ) → List ℕ → Result X TextRefusal → Type 0
Made meaning bytes (Ok t) = (length bytes ≤ longest) × (meaning t ≡ bytes)
Made meaning bytes (Err e) = (longest < length bytes) × (e ≡ TooLong)
