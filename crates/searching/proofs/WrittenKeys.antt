-- A string that is found from the start on is a key, and every key is short enough to be found. Assumes the laws of a kind.
use Rattle.std.proofs.Common.{◌≡◌, ℕ, ◌+◌, List, ◌++◌, length, drop, Some, None, Option, sym, refl, ap, ◌∙◌, subst, arith}
use mathlib.Core.Option as Maybe
use Rattle.outputs.specs.Kinds.{Kind, Laws, PrefixOf}
use Rattle.machines.specs.Machines.{Machine, join_some, answer_from}
use Rattle.machines.specs.Pairs.{Pairs, Proper}
use Rattle.machines.specs.Minimal.{minimal}
use Rattle.machines.proofs.Theorems.{right_readings}
use Rattle.machines.proofs.Under.{prefix_some}
use Rattle.loading.specs.declared.held.Loaded.{Loaded}
use Rattle.loading.specs.Loading.{Holds}
use Rattle.lookups.proofs.HeldStates.{held_stored}
use Rattle.searching.specs.Searches.{Left, Sought, KeyWritten, KeyOf}
use Rattle.searching.proofs.Strings.{joined_behind}
use Rattle.searching.proofs.Lengths.{answered_short}

module _ {O S : Type 0} (k : Kind) (laws : Laws k) (meaning : O → k.Ideal) (bytes : S → List ℕ) (loaded : Loaded O S) (x : k.Ideal) (first : O) (same : first ≡ loaded.start_output) where
  -- the start output of a machine that is held
  begins : (m : Machine k.Ideal) → Holds k meaning bytes loaded m → m.start_output ≡ meaning first
  begins m h = sym h.start_output ∙ ap meaning (sym same)

  -- the start output is no prefix
  pub no_key : (b : List ℕ) (r : Option ℕ) → r ≡ None → Left k meaning (meaning first) x None → KeyWritten k (Holds k meaning bytes loaded) x b b r
  no_key b r e n = subst (KeyWritten k (Holds k meaning bytes loaded) x b b) (sym e) (
    refl,
    λ m h w f. n (subst (λ (z : k.Ideal). PrefixOf k z x) (begins m h) (prefix_some k laws m.start_output x (answer_from k m.states m.start w) f)),
  )

  module _ (y : O) (left : Left k meaning (meaning first) x (Some y)) (q : ℕ) (start : q ≡ loaded.start) where
    -- a machine that is held begins where the search does
    starts : (m : Machine k.Ideal) → Holds k meaning bytes loaded m → q ≡ m.start
    starts m h = start ∙ h.start

    goes_on : (m : Machine k.Ideal) → Holds k meaning bytes loaded m → k.join m.start_output (meaning y) ≡ x
    goes_on m h = ap (λ (z : k.Ideal). k.join z (meaning y)) (begins m h) ∙ left

    pub key_sought : (b c : List ℕ) (r : Option ℕ) → Sought k (Holds k meaning bytes loaded) q (meaning y) 0 b c r → KeyWritten k (Holds k meaning bytes loaded) x b c r
    key_sought b c None f = (
      f.0,
      λ m h w e.
          let stored = held_stored k meaning bytes loaded m h in
          let behind = joined_behind k laws m.start_output (meaning y) x (answer_from k m.states m.start w) (goes_on m h) e in
          let short = answered_short k m.states (λ p s here. (stored.states p s here).below) w m.start (meaning y) behind in
          f.1 m h w (omega (arith, short, stored.short)) (ap (λ (p : ℕ). answer_from k m.states p w) (starts m h) ∙ behind),
    )
    key_sought b c (Some n) f =
        let long : length f.0 ≡ n = omega (arith, f.1) in
        let end : 0 + length f.0 ≡ n = omega (arith, f.1) in (
          f.2,
          (
            f.0,
            long,
            f.3 ∙ ap (λ (p : ℕ). f.0 ++ drop p b) end,
            λ m h.
                ap (join_some k m.start_output) (ap (λ (p : ℕ). answer_from k m.states p f.0) (sym (starts m h)) ∙ f.4 m h)
                ∙ ap {A = k.Ideal} {B = Maybe.Option k.Ideal} (λ z. Maybe.some z) (goes_on m h),
          ),
        )

-- what is written of the minimal machine of some pairs is one of their keys
pub key_of_pairs : (k : Kind) (laws : Laws k) (Held : Machine k.Ideal → Type 0) (x : k.Ideal) (b c : List ℕ) (r : Option ℕ) → KeyWritten k Held x b c r
    → (P : Pairs k.Ideal) → Proper k P → Held (minimal k P) → KeyOf P x b c r
key_of_pairs k laws Held x b c None f P proper h = (right_readings k laws P proper).unnamed x (f.1 (minimal k P) h)
key_of_pairs k laws Held x b c (Some n) f P proper h = (f.1.0, f.1.1, f.1.2, (right_readings k laws P proper).names x f.1.0 (f.1.3 (minimal k P) h))
