-- Keys: byte strings, their order, their prefixes, and postorder. Assumes nothing.
use Rattle.std.specs.Prelude.{ℕ, suc, Bool, true, false, not, ◌&&◌, ◌||◌, List, [], ◌∷◌, map, ◌==◌, nat_lt}
use Rattle.std.proofs.Math.Option.{Option, none, some}

-- A string of numbers; a key is one of bytes, which `all_bytes` tests.
abbrev pub Key : Type 0
Key = List ℕ

-- u is lower than v: by bytes, unsigned, and a proper prefix is lower
abbrev pub lower : Key → Key → Bool
lower u [] = false
lower [] (b ∷ v) = true
lower (a ∷ u) (b ∷ v) = nat_lt a b || (a == b && lower u v)

-- equal strings
abbrev pub same_key : Key → Key → Bool
same_key [] [] = true
same_key [] (b ∷ v) = false
same_key (a ∷ u) [] = false
same_key (a ∷ u) (b ∷ v) = a == b && same_key u v

-- what follows u in v, if u is a prefix of v
abbrev pub past : Key → Key → Option Key
past [] v = some v
past (a ∷ u) [] = none
past (a ∷ u) (b ∷ v) = elim (a == b) [ true ↦ past u v | false ↦ none ]

-- there is something
abbrev pub is_some : {A : Type 0} → Option A → Bool
is_some none = false
is_some (some x) = true

-- u is a prefix of v
abbrev pub is_prefix : Key → Key → Bool
is_prefix u v = is_some (past u v)

-- u comes before v in postorder: a string comes after every longer one that begins with it; otherwise the lower comes first
abbrev pub postorder : Key → Key → Bool
postorder u v = not (same_key u v) && (is_prefix v u || (not (is_prefix u v) && lower u v))

-- the length of the longest common prefix
abbrev pub common_length : Key → Key → ℕ
common_length [] v = 0
common_length (a ∷ u) [] = 0
common_length (a ∷ u) (b ∷ v) = elim (a == b) [ true ↦ suc (common_length u v) | false ↦ 0 ]

-- the prefixes of a key, from the empty string to the key itself
abbrev pub prefixes : Key → List Key
prefixes [] = [] ∷ []
prefixes (a ∷ u) = [] ∷ map (λ v. a ∷ v) (prefixes u)
