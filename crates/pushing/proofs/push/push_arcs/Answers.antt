use Rattle.std.proofs.Common.{◌≡◌, ℕ, length, sym, refl, subst, rules}
use Rattle.stacks.specs.Stacks.{lows, highs}
use Rattle.stacks.proofs.Changing.{changed_length}
use Rattle.outputs.specs.Joins.{join_or_empty}
use Rattle.records.specs.Lying.{Laid}
use Rattle.records.specs.Holding.{arc_of}
use Rattle.records.proofs.Moving.{moved}
use Rattle.pushing.specs.Changes.{output_under}
use Rattle.pushing.proofs.Ranges.{range_changed}
use Rattle.pushing.proofs.push.push_arcs.Goals as goal

pub returns : goal.returns
returns g c =
    let mean = g.O.Output.meaning in
    let f = join_or_empty g.O.Output.kind (mean c.args.front) in
    let b = c.args.core.now in
    let s = c.change_low.ensures in
    record {
      shape = record {
        keeps = record { states = refl; arcs = s.highs; slots = refl; staterooms = refl; arcrooms = s.capacity };
        pairs = refl;
        openings = refl;
        arcs = changed_length _ c.args.from c.args.to (lows b.arcs) (lows c.change_low.new.self) s.lows;
      };
      start = refl;
      arcs = range_changed (arc_of mean) (output_under f) _ (λ x y p. search rules) c.args.from c.args.to (lows b.arcs) (lows c.change_low.new.self) s.lows;
      records = refl;
    }

pub invariant_of-core : goal.invariant_of-core
invariant_of-core g c =
    let b = c.args.core.now in
    let s = c.change_low.ensures in
    let n : length (lows c.change_low.new.self) ≡ length (lows b.arcs) = changed_length _ c.args.from c.args.to (lows b.arcs) (lows c.change_low.new.self) s.lows in
    record { sound = moved b b.states c.change_low.new.self b.slots.now refl refl s.highs refl s.capacity (subst (λ (m : ℕ). Laid m (highs b.states)) (sym n) b.sound.laid) b.sound.since b.sound.paired }
