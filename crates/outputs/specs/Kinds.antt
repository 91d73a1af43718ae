-- What an output kind is: its ideal outputs, what is asked of them, and the laws that a kind shows. Assumes nothing.
use Rattle.std.specs.Prelude.{◌≡◌, ℕ, ◌<◌, ◌≤◌, Bool, true, cond, List, ◌++◌, length, take, drop, ◌≢◌, nat_lt}
use Rattle.outputs.specs.Bits.{same_bits, value}

-- What reading an output off some bits gives: the output and the bits behind its code; or these bits only begin a code; or they hold no code and begin none.
pub data Reading (A : Type 0) : Type 0 where
  got : A → List Bool → Reading A
  begun : Reading A
  no_code : Reading A

-- reading goes on behind what was read
abbrev pub and_then : {A B : Type 0} → Reading A → (A → List Bool → Reading B) → Reading B
and_then (got x more) f = f x more
and_then begun f = begun
and_then no_code f = no_code

-- a field of `width` bits, whatever number it holds
abbrev pub read_field : ℕ → List Bool → Reading ℕ
read_field width row = cond (nat_lt (length row) width) begun (got (value (take width row)) (drop width row))

pub record Kind : Type 1 where
  -- every output that a transducer may put out, whether an image can hold it or not
  pub Ideal : Type 0
  pub empty : Ideal
  -- the first output and then the second
  pub join : Ideal → Ideal → Ideal
  -- the greatest common prefix of two outputs
  pub common : Ideal → Ideal → Ideal
  -- `rest x z` is what follows the prefix x in z, and empty if x is no prefix of z
  pub rest : Ideal → Ideal → Ideal
  -- whether an image can hold an output
  pub storable : Ideal → Bool
  -- the bits that stand for a storable output in an image
  pub code : Ideal → List Bool
  pub read : List Bool → Reading Ideal
  -- the number by which an image names its kind
  pub number : ℕ

-- x is a prefix of z
abbrev pub PrefixOf : (k : Kind) → k.Ideal → k.Ideal → Type 0
PrefixOf k x z = (y : k.Ideal) × (k.join x y ≡ z)

-- What every kind shows.
pub record Laws (k : Kind) : Type 0 where
  -- two proofs that outputs are equal are one
  pub set : IsSet k.Ideal
  -- the join is associative, and the empty output is neutral on both sides
  pub associative : (x y z : k.Ideal) → k.join (k.join x y) z ≡ k.join x (k.join y z)
  pub neutral_left : (x : k.Ideal) → k.join k.empty x ≡ x
  pub neutral_right : (x : k.Ideal) → k.join x k.empty ≡ x
  -- what is joined to the same output and gives the same is the same
  pub left_cancel : (x y z : k.Ideal) → k.join x y ≡ k.join x z → y ≡ z
  -- a join is empty only if both parts are
  pub empty_parts : (x y : k.Ideal) → k.join x y ≡ k.empty → (x ≡ k.empty) × (y ≡ k.empty)
  -- the common part is a prefix of both, and every prefix of both is a prefix of it
  pub common_of_left : (x y : k.Ideal) → PrefixOf k (k.common x y) x
  pub common_of_right : (x y : k.Ideal) → PrefixOf k (k.common x y) y
  pub common_greatest : (x y b : k.Ideal) → PrefixOf k b x → PrefixOf k b y → PrefixOf k b (k.common x y)
  -- the empty output is storable, and both parts of a storable join are
  pub empty_storable : k.storable k.empty ≡ true
  pub parts_storable : (x y : k.Ideal) → k.storable (k.join x y) ≡ true → (k.storable x ≡ true) × (k.storable y ≡ true)
  -- a code has at most 256 bits, and is read back in front of any bits
  pub code_short : (x : k.Ideal) → k.storable x ≡ true → length (k.code x) ≤ 256
  pub read_code : (x : k.Ideal) → k.storable x ≡ true → (more : List Bool) → k.read (k.code x ++ more) ≡ got x more
  -- reading succeeds on codes alone, and else tells whether the bits begin a code
  pub read_got : (row : List Bool) (x : k.Ideal) (more : List Bool) → k.read row ≡ got x more → (k.storable x ≡ true) × (row ≡ k.code x ++ more)
  pub read_begun : (row : List Bool) → k.read row ≡ begun → (x : k.Ideal) × (k.storable x ≡ true) × ((more : List Bool) × (row ++ more ≡ k.code x))
  pub read_no_code : (row : List Bool) → k.read row ≡ no_code → (x : k.Ideal) → k.storable x ≡ true → (more : List Bool) → row ++ more ≢ k.code x
  -- the rest after a prefix, and the empty output after what is none
  pub rest_of_join : (x y : k.Ideal) → k.rest x (k.join x y) ≡ y
  pub rest_else_empty : (x z : k.Ideal) → (PrefixOf k x z → ⊥) → k.rest x z ≡ k.empty
  -- the kind number has 8 bits
  pub number_fits : k.number < 256

-- Storable outputs are equal exactly if their codes are: this follows from the laws of reading.
abbrev pub same : (k : Kind) → k.Ideal → k.Ideal → Bool
same k x y = same_bits (k.code x) (k.code y)
