-- The theorems of this crate, put together from their parts. Assumes the laws of a kind.
use Rattle.outputs.specs.Kinds.{Kind, Laws}
use Rattle.machines.specs.Pairs.{Pairs, Proper}
use Rattle.construction.specs.Theorems.{ComparingRight, ClosingSound, SealedMinimal}
use Rattle.construction.proofs.Comparing.{same_self, same_equal, same_state_self, same_state_equal}
use Rattle.construction.proofs.Closing.{enter_sound, settle_sound, close_beyond_sound}
use Rattle.construction.proofs.Sealing.{sealed_minimal}

module _ (k : Kind) (laws : Laws k) where
  pub comparing_right : ComparingRight k
  comparing_right = record { output_self = same_self k; output_equal = same_equal k laws; state_self = same_state_self k; state_equal = same_state_equal k laws }

  pub closing_sound : ClosingSound k
  closing_sound = record { enters = enter_sound k laws; settles = settle_sound k laws; closes = close_beyond_sound k laws }

  pub proper_minimal : (P : Pairs k.Ideal) → Proper k P → SealedMinimal k P
  proper_minimal P proper = sealed_minimal k laws P proper.ascending proper.storable proper.nonempty
