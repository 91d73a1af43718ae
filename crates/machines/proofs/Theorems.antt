-- The theorems of this crate, put together from their parts. Assumes the laws of a kind, and that the pairs are proper.
use Rattle.std.proofs.Common.{◌≡◌, ℕ, [], ◌∷◌, ◌++◌, length, sym, refl, ap, ◌∙◌, inl, inr, arith}
use mathlib.Core.Option.{Option, none, some}
use Rattle.outputs.specs.Kinds.{Kind, Laws}
use Rattle.machines.specs.Lists.{at}
use Rattle.machines.specs.Keys.{Key}
use Rattle.machines.specs.Pairs.{Pairs, output_of, KeyPrefix, Proper}
use Rattle.machines.specs.Realizing.{RightAnswers, Minimality}
use Rattle.machines.specs.Numbering.{Numbering}
use Rattle.machines.specs.Storing.{Storing}
use Rattle.machines.specs.Memory.{refusal}
use Rattle.machines.specs.Runs.{taken, told, RunFacts}
use Rattle.machines.specs.Asked.{RightReadings}
use Rattle.machines.proofs.RightAnswers.{minimal_answers}
use Rattle.machines.proofs.Fewest.{least_states, least_arcs}
use Rattle.machines.proofs.Reaching.{empty_prefix, is_greatest_common, earliest, reach_prefix, reach_nowhere, so_far_nowhere}
use Rattle.machines.proofs.StartLast.{start_last}
use Rattle.machines.proofs.ClassNumbers.{firsts_in_postorder, first_of_class}
use Rattle.machines.proofs.Targets.{targets_below, arcs_rise, on_bytes, all_targeted}
use Rattle.machines.proofs.Distinct.{different, onward}
use Rattle.machines.proofs.AcceptedKeys.{state_counted, all_counted, count_some}
use Rattle.machines.proofs.Recounting.{counts_computed}
use Rattle.machines.proofs.LongestStrings.{start_shallow, start_short}
use Rattle.machines.proofs.Stored.{storing}
use Rattle.machines.proofs.Walks.{find_is, so_far_prefix}
use Rattle.machines.proofs.Ranks.{rank_is}
use Rattle.machines.proofs.RunFits.{run_fits}
use Rattle.machines.proofs.RunFacts.{ascending_taken, short_taken, few_taken, bytes_taken, storable_taken, each_told, told_at, kept, came_with, taken_skip, told_skip, told_split}

module _ (k : Kind) (laws : Laws k) (P : Pairs k.Ideal) (proper : Proper k P) where
  some_key : KeyPrefix P []
  some_key = empty_prefix P proper.nonempty

  pub right_answers : RightAnswers k P
  right_answers = record {
    answers = minimal_answers k laws P proper.ascending proper.storable some_key;
    realizes = λ w b. minimal_answers k laws P proper.ascending proper.storable some_key w;
    on_bytes = on_bytes k laws P proper.ascending proper.bytes;
    so_far = reach_prefix k laws P proper.ascending proper.storable some_key;
    in_common = is_greatest_common k laws P proper.ascending;
    nowhere = reach_nowhere k laws P proper.ascending proper.storable some_key;
  }

  pub minimality : Minimality k P
  minimality = record {
    fewest_states = least_states k laws P proper.ascending proper.bytes;
    fewest_arcs = least_arcs k laws P proper.ascending proper.bytes;
    earliest = earliest k laws P proper.ascending proper.bytes;
  }

  pub numbering : Numbering k P
  numbering = record {
    by_classes = refl;
    in_postorder = firsts_in_postorder k P;
    first_of_class = first_of_class k P laws proper.ascending proper.storable;
    start_last = start_last k P proper.nonempty;
    targets_below = targets_below k laws P;
    all_targeted = all_targeted k laws P proper.ascending proper.storable proper.nonempty;
    different = different k laws P proper.ascending proper.storable;
    onward = onward k laws P proper.ascending proper.storable;
    arcs_rise = arcs_rise k laws P proper.ascending;
    counts = state_counted k laws P proper.ascending proper.storable;
    counted = counts_computed k laws P proper.ascending proper.storable;
    counts_some = count_some k laws P proper.ascending proper.storable;
    all_counted = all_counted k laws P proper.ascending proper.storable some_key;
    short = start_short k laws P proper.ascending proper.storable some_key;
    shallow = start_shallow k laws P proper.ascending proper.storable some_key;
  }

  pub can_be_stored : Storing k P
  can_be_stored = storing k laws P proper.ascending proper.bytes proper.storable some_key

  pub right_readings : RightReadings k P
  right_readings = record {
    finds = find_is k laws P proper.ascending proper.storable some_key;
    reaches = so_far_prefix k laws P proper.ascending proper.storable some_key;
    nowhere = so_far_nowhere k laws P proper.ascending proper.storable some_key;
    ranks = rank_is k laws P proper.ascending proper.storable some_key;
    names = λ x w e. sym (minimal_answers k laws P proper.ascending proper.storable some_key w) ∙ e;
    unnamed = λ x never w e. never w (minimal_answers k laws P proper.ascending proper.storable some_key w ∙ e);
  }

module _ (k : Kind) (laws : Laws k) (states arcs : ℕ) (es : Pairs k.Ideal) where
  -- each entry is told what its key is told after those in front of it
  refused_by : (before : Pairs k.Ideal) (e : Key × k.Ideal) (after : Pairs k.Ideal) → es ≡ before ++ (e ∷ after)
      → at (told k states arcs [] es) (length before) ≡ some (refusal k states arcs (taken k states arcs [] before) e.0)
  refused_by before e after is = ap (λ l. at (told k states arcs [] l) (length before)) is ∙ told_at k states arcs [] before e after

  told_so : (before : Pairs k.Ideal) (e : Key × k.Ideal) (after : Pairs k.Ideal) (o : Option ℕ) → es ≡ before ++ (e ∷ after)
      → at (told k states arcs [] es) (length before) ≡ some o → refusal k states arcs (taken k states arcs [] before) e.0 ≡ o
  told_so before e after o is h = let f = refused_by before e after is in cc

  pub run_facts : RunFacts k states arcs es
  run_facts = record {
    ascending = ascending_taken k states arcs [] es tt;
    short = short_taken k states arcs [] es tt;
    few = few_taken k states arcs [] es (omega arith);
    bytes = bytes_taken k states arcs [] es tt;
    storable = storable_taken k states arcs [] es tt;
    fits = run_fits k laws states arcs es;
    each_told = each_told k states arcs [] es;
    refused = refused_by;
    kept = λ before e after is h.
        ap (λ l. output_of (taken k states arcs [] l) e.0) is ∙ kept k states arcs [] before e after tt (told_so before e after none is h);
    only = λ w z f. elim (came_with k states arcs [] es w z f) [
      | inl g ↦ (let o : ◌≡◌ {A = ℕ} 0 1 = cc in absurd (omega arith))
      | inr c ↦ (c.0, c.1, c.2, refused_by c.0 (w, z) c.1 c.2 ∙ ap {B = Option (Option ℕ)} some c.3)
    ];
    without = λ before e after n is h.
        let f = told_so before e after (some n) is h in (
          ap (taken k states arcs []) is ∙ taken_skip k states arcs [] before e after n f,
          ap (told k states arcs []) is ∙ told_skip k states arcs [] before e after n f,
          told_split k states arcs [] before after,
        );
  }
