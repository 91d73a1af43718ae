-- The minimal machine of pairs within the limits is fit for an image. Assumes the laws of a kind.
use Rattle.std.proofs.Common.{◌≡◌, ℕ, ◌<◌, true, length, refl, arith}
use mathlib.Core.Option.{Option, none, some}
use Rattle.outputs.specs.Kinds.{Kind, Laws}
use Rattle.machines.specs.Lists.{at, Each}
use Rattle.machines.specs.Machines.{State}
use Rattle.machines.specs.Pairs.{Pairs}
use Rattle.machines.specs.Minimal.{minimal, key_counts}
use Rattle.machines.proofs.Lists.{each_in, at_in}
use Rattle.machines.proofs.Theorems.{right_answers, numbering, can_be_stored}
use Rattle.machines.specs.Storing.{EndStorable}
use Rattle.images.specs.Fits.{FitState, Fit}
use Rattle.images.specs.RoundTrip.{Within}

end_storable : (k : Kind) (e : Option k.Ideal) → ((x : k.Ideal) → e ≡ some x → k.storable x ≡ true) → EndStorable k e
end_storable k none h = tt
end_storable k (some x) h = h x refl

module _ (k : Kind) (laws : Laws k) (P : Pairs k.Ideal) (within : Within k P) where
  state_fits : (i : ℕ) (s : State k.Ideal) → at (minimal k P).states i ≡ some s → FitState k (key_counts k P) i s
  state_fits i s e =
      let proper = within.proper in
      let numbered = numbering k laws P proper in
      let stored = can_be_stored k laws P proper in
      let state = stored.each_state i s e in
      record {
        some_way = state.some_way;
        rising = numbered.arcs_rise i s e;
        bytes = each_in (λ t. Each (λ arc. arc.byte < 256) t.arcs) (minimal k P).states s (right_answers k laws P proper).on_bytes (at_in (minimal k P).states i s e);
        below = numbered.targets_below i s e;
        end_storable = end_storable k s.end state.end_storable;
        storable = state.arcs_storable;
        counted = numbered.counts i s e;
        few_keys = omega (arith, stored.counts_within i _ (numbered.counts i s e), within.few_keys);
      }

  pub minimal_fits : Fit k (minimal k P) (key_counts k P) (length P)
  minimal_fits =
      let proper = within.proper in
      let numbered = numbering k laws P proper in
      let stored = can_be_stored k laws P proper in
      record {
        some_states = omega (arith, numbered.start_last);
        few_states = within.few_states;
        few_arcs = within.few_arcs;
        some_keys = proper.nonempty;
        few_keys = within.few_keys;
        start_last = numbered.start_last;
        start_storable = stored.start_storable;
        each_counted = stored.each_counted;
        each_fit = state_fits;
        all_counted = numbered.all_counted;
        all_targeted = numbered.all_targeted;
        short = numbered.shallow within.short;
      }
