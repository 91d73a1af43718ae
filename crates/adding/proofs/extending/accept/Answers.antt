use Rattle.std.proofs.Common.{◌+◌, List, map, reverse, length, sym, refl, ap, ◌∙◌, subst, arith, length-set}
use Rattle.stacks.specs.Stacks.{lows, highs}
use Rattle.std.specs.Prelude.{Some}
use Rattle.records.specs.declared.record.State.{State}
use Rattle.records.specs.Lying.{Laid, Since}
use Rattle.records.specs.Holding.{arcs_of, open_record}
use Rattle.records.proofs.Laying.{laid_set, since_set, since_at, since_more}
use Rattle.records.proofs.Moving.{moved}
use Rattle.pushing.proofs.OneRecord.{records_newest}
use Rattle.adding.specs.Extending.{ended}
use Rattle.adding.proofs.LastRecord.{reverse_first}
use Rattle.adding.proofs.extending.accept.Goals as goal

pub returns : goal.returns
returns g c =
    let mean = g.O.Output.meaning in
    let b = c.args.core.now in
    let hs = highs b.states in
    let L = lows b.arcs in
    let x = c.at_high-top.result in
    let t = c.at_high-top.ensures x in
    let y : State g.row.O.Denot = record { end = Some c.args.output; count = x.count; first = x.first; keys = x.keys } in
    let s = c.set_high.ensures in
    let es = arcs_of mean L in
    record {
      keeps = record { states = s.lows; arcs = refl; slots = refl; staterooms = s.capacity; arcrooms = refl };
      pairs = refl;
      start = refl;
      openings = ap length s.highs ∙ length-set _ _ _;
      records = ap (λ (xs : List (State g.row.O.Denot)). reverse (map (open_record mean es) xs)) s.highs
          ∙ ap reverse (records_newest mean es es x y (ended (mean c.args.output)) (λ i j h. refl) refl (length L) hs b.sound.laid c.requires.opened t)
          ∙ reverse_first (ended (mean c.args.output)) (map (open_record mean es) hs);
    }

pub invariant_of-core : goal.invariant_of-core
invariant_of-core g c =
    let b = c.args.core.now in
    let so = b.sound in
    let hs = highs b.states in
    let x = c.at_high-top.result in
    let t = c.at_high-top.ensures x in
    let y : State g.row.O.Denot = record { end = Some c.args.output; count = x.count; first = x.first; keys = x.keys } in
    let s = c.set_high.ensures in
    let more = since_more b.pairs (b.pairs + 1) hs (omega arith) so.since in
    let key = since_at b.pairs hs 0 x c.requires.opened so.since t in
    record {
      sound = moved b c.set_high.new.self b.arcs b.slots.now refl s.lows refl s.capacity refl
          (subst (Laid (length (lows b.arcs))) (sym s.highs) (laid_set (length (lows b.arcs)) hs 0 y x so.laid t refl refl))
          (subst (Since (b.pairs + 1)) (sym s.highs) (since_set (b.pairs + 1) hs 0 y more (omega (arith, key))))
          (omega (arith, c.requires.pairs));
    }
