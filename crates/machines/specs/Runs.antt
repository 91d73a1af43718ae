-- Runs of adds: what each of a list of pairs is told, and which are taken. Assumes nothing.
use Rattle.std.specs.Prelude.{◌≡◌, ℕ, ◌≤◌, List, [], ◌∷◌, ◌++◌, length}
use Rattle.std.proofs.Math.Option.{Option, none, some}
use Rattle.outputs.specs.Kinds.{Kind}
use Rattle.machines.specs.Lists.{at}
use Rattle.machines.specs.Keys.{Key}
use Rattle.machines.specs.Machines.{count_arcs}
use Rattle.machines.specs.Pairs.{Pairs, output_of, Ascending, ByteKeys, ShortKeys, AllStorable}
use Rattle.machines.specs.Minimal.{minimal}
use Rattle.machines.specs.Memory.{refusal}

-- a pair that nothing refuses is put at the end
abbrev pub put_unless : {A : Type 0} → Option ℕ → Pairs A → Key × A → Pairs A
put_unless none P e = P ++ (e ∷ [])
put_unless (some n) P e = P

module _ (k : Kind) (states arcs : ℕ) where
  -- the pairs taken once these came to a builder that had taken P
  abbrev pub taken : Pairs k.Ideal → Pairs k.Ideal → Pairs k.Ideal
  taken P [] = P
  taken P (e ∷ es) = taken (put_unless (refusal k states arcs P e.0) P e) es

  -- what they are told, each after those in front of it
  abbrev pub told : Pairs k.Ideal → Pairs k.Ideal → List (Option ℕ)
  told P [] = []
  told P (e ∷ es) = refusal k states arcs P e.0 ∷ told (put_unless (refusal k states arcs P e.0) P e) es

-- What holds of every run of adds.
pub record RunFacts (k : Kind) (states arcs : ℕ) (es : Pairs k.Ideal) : Type 0 where
  -- what is taken ascends, and is short and not too much; it is of bytes and storable if what came was
  pub ascending : Ascending (taken k states arcs [] es)
  pub short : ShortKeys (taken k states arcs [] es)
  pub few : length (taken k states arcs [] es) ≤ 1048575
  pub bytes : ByteKeys es → ByteKeys (taken k states arcs [] es)
  pub storable : AllStorable k es → AllStorable k (taken k states arcs [] es)
  -- the minimal machine of what is taken has no more states and arcs than there is room for
  pub fits : AllStorable k es → (length (minimal k (taken k states arcs [] es)).states ≤ states) × (count_arcs (minimal k (taken k states arcs [] es)).states ≤ arcs)
  -- each is told what its key is told after the pairs taken from those in front of it
  pub each_told : length (told k states arcs [] es) ≡ length es
  pub refused : (before : Pairs k.Ideal) (e : Key × k.Ideal) (after : Pairs k.Ideal) → es ≡ before ++ (e ∷ after)
      → at (told k states arcs [] es) (length before) ≡ some (refusal k states arcs (taken k states arcs [] before) e.0)
  -- what is taken is what was not refused, each key with the output that it came with
  pub kept : (before : Pairs k.Ideal) (e : Key × k.Ideal) (after : Pairs k.Ideal) → es ≡ before ++ (e ∷ after)
      → at (told k states arcs [] es) (length before) ≡ some none → output_of (taken k states arcs [] es) e.0 ≡ some e.1
  pub only : (w : Key) (z : k.Ideal) → output_of (taken k states arcs [] es) w ≡ some z
      → (before : Pairs k.Ideal) × (after : Pairs k.Ideal) × (es ≡ before ++ ((w, z) ∷ after)) × (at (told k states arcs [] es) (length before) ≡ some none)
  -- without a refused pair, the same is taken, and the others are told the same
  pub without : (before : Pairs k.Ideal) (e : Key × k.Ideal) (after : Pairs k.Ideal) (n : ℕ) → es ≡ before ++ (e ∷ after)
      → at (told k states arcs [] es) (length before) ≡ some (some n)
      → (taken k states arcs [] es ≡ taken k states arcs [] (before ++ after))
      × (told k states arcs [] es ≡ told k states arcs [] before ++ (some n ∷ told k states arcs (taken k states arcs [] before) after))
      × (told k states arcs [] (before ++ after) ≡ told k states arcs [] before ++ told k states arcs (taken k states arcs [] before) after)
