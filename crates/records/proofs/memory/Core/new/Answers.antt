use Rattle.std.proofs.Common.{◌≡◌, [], length, sym, ap, subst, arith}
use Rattle.stacks.specs.Stacks.{lows, highs}
use Rattle.register.proofs.Entering.{used_none}
use Rattle.records.specs.Lying.{Laid, Since, Packed}
use Rattle.records.proofs.memory.Core.new.Goals as goal

pub invariant_of-result : goal.invariant_of-result
invariant_of-result g c =
    let s = c.new.ensures in
    let a = c.new-2.ensures in
    let ls : lows c.new.result ≡ [] = s.lows in
    let hs : highs c.new.result ≡ [] = s.highs in
    let z : length (lows c.new-2.result) ≡ 0 = ap length a.lows in
    record {
      sound = record {
        few = omega (arith, c.requires.few, s.capacity);
        arcfew = omega (arith, c.requires.arcfew, a.capacity);
        slotroom = omega (arith, c.requires.slotroom, s.capacity);
        laid = subst (Laid (length (lows c.new-2.result))) (sym hs) z;
        since = subst (Since 0) (sym hs) tt;
        packed = subst (Packed 0 (length (highs c.new-2.result))) (sym ls) (sym (ap length a.highs));
        known = λ i. omega (arith, c.requires.clear i);
        used = omega (arith, used_none c.args.slots.now c.requires.clear);
        paired = omega arith;
      };
    }
