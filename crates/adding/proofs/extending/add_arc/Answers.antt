use Rattle.std.proofs.Common.{◌≡◌, ℕ, ◌+◌, ◌<◌, List, [], ◌∷◌, ◌++◌, map, reverse, length, get_or, take, drop, set, sym, refl, ap, ◌∙◌, subst, arith, length-set, rules}
use Rattle.std.proofs.lemmas.List.{length_push, length-map, map_push}
use Rattle.stacks.specs.Stacks.{lows, highs}
use Rattle.machines.specs.Machines.{Arc as Edge}
use Rattle.construction.specs.Steps.{add_arc}
use Rattle.records.specs.declared.record.State.{State}
use Rattle.records.specs.Lying.{Led, Laid, Since}
use Rattle.records.specs.Holding.{arc_of, arcs_of, end_of, open_record}
use Rattle.records.proofs.Laying.{laid_at, led_more, led_laid, since_set, since_at}
use Rattle.records.proofs.Moving.{moved}
use Rattle.pushing.proofs.OneRecord.{records_newest}
use Rattle.adding.proofs.LastRecord.{reverse_first, push_before, push_last_part}
use Rattle.adding.proofs.extending.add_arc.Goals as goal

pub overflow_add-top : goal.overflow_add-top
overflow_add-top g c =
    let b = c.args.core.now in
    let x = c.at_high-top.result in
    let r = laid_at (length (lows b.arcs)) (highs b.states) 0 x c.requires.opened b.sound.laid (c.at_high-top.ensures x) in
    let m : x.count + 1 < 131073 = omega (arith, r.0, c.requires.room, b.sound.arcfew) in search rules

pub returns : goal.returns
returns g c =
    let k = g.O.Output.kind in
    let mean = g.O.Output.meaning in
    let b = c.args.core.now in
    let so = b.sound in
    let hs = highs b.states in
    let L = lows b.arcs in
    let x = c.at_high-top.result in
    let t = c.at_high-top.ensures x in
    let y : State g.row.O.Denot = record { end = x.end; count = x.count + 1; first = x.first; keys = x.keys } in
    let s = c.set_high.ensures in
    let p = c.push_low.ensures in
    let v = mean c.args.output in
    let e : Edge k.Ideal = record { byte = c.args.byte; target = 0; output = v } in
    let es = arcs_of mean L in
    let at = laid_at (length L) hs 0 x c.requires.opened so.laid t in
    let n : length (highs c.set_high.new.self) ≡ length hs = ap length s.highs ∙ length-set _ _ _ in
    let m : length (lows c.push_low.new.self) ≡ length L + 1 = ap length p.lows ∙ length_push _ _ in
    let w : arcs_of mean (lows c.push_low.new.self) ≡ es ++ (e ∷ []) = ap (arcs_of mean) p.lows ∙ map_push (arc_of mean) L _ in
    let l : Led (length (lows c.push_low.new.self)) (highs c.set_high.new.self) =
    subst (λ (j : ℕ). Led j (highs c.set_high.new.self)) (sym m) (subst (Led (length L + 1)) (sym s.highs) (led_more (length L) hs y x c.requires.opened so.laid t refl refl)) in
    let q : length es ≡ length L = length-map L (arc_of mean) in
    let here : take (x.count + 1) (drop x.first (es ++ (e ∷ []))) ≡ take x.count (drop x.first es) ++ (e ∷ []) = push_last_part es e x.first x.count (newest_end L hs x c.requires.opened so.laid t ∙ sym q) in
    record {
      keeps = record {
        states = s.lows;
        arcs = p.highs;
        slots = refl;
        staterooms = s.capacity;
        arcrooms = p.capacity;
      };
      pairs = refl;
      start = refl;
      openings = n;
      arcs = m;
      led = l;
      records = ap (λ (xs : List (State g.row.O.Denot)). reverse (map (open_record mean (arcs_of mean (lows c.push_low.new.self))) xs)) s.highs
          ∙ ap (λ (fs : List (Edge k.Ideal)). reverse (map (open_record mean fs) (set hs 0 y))) w
          ∙ ap reverse (records_newest mean es (es ++ (e ∷ [])) x y (add_arc k c.args.byte v) (λ i j h. push_before es e i j (omega (arith, at.0, q))) (λ i. record { end = end_of mean x; arcs = here i; since = x.keys }) (length L) hs so.laid c.requires.opened t)
          ∙ reverse_first (add_arc k c.args.byte v) (map (open_record mean es) hs);
    }
  where
    newest_end : {O X : Type 0} (L : List X) (hs : List (State O)) (x : State O) → 0 < length hs → Laid (length L) hs → x ≡ get_or hs 0 x → x.first + x.count ≡ length L
    newest_end L [] x h l t = absurd (omega arith)
    newest_end {O} L (y ∷ hs) x h l t = ap (λ (z : State O). z.first + z.count) t ∙ l.0

pub invariant_of-core : goal.invariant_of-core
invariant_of-core g c =
    let b = c.args.core.now in
    let so = b.sound in
    let hs = highs b.states in
    let L = lows b.arcs in
    let x = c.at_high-top.result in
    let t = c.at_high-top.ensures x in
    let y : State g.row.O.Denot = record { end = x.end; count = x.count + 1; first = x.first; keys = x.keys } in
    let s = c.set_high.ensures in
    let p = c.push_low.ensures in
    let key = since_at b.pairs hs 0 x c.requires.opened so.since t in
    let m : length (lows c.push_low.new.self) ≡ length L + 1 = ap length p.lows ∙ length_push _ _ in
    let l : Led (length (lows c.push_low.new.self)) (highs c.set_high.new.self) =
    subst (λ (j : ℕ). Led j (highs c.set_high.new.self)) (sym m) (subst (Led (length L + 1)) (sym s.highs) (led_more (length L) hs y x c.requires.opened so.laid t refl refl)) in
    record { sound = moved b c.set_high.new.self c.push_low.new.self b.slots.now refl s.lows p.highs s.capacity p.capacity (led_laid _ _ l) (subst (Since b.pairs) (sym s.highs) (since_set b.pairs hs 0 y so.since key)) so.paired }
