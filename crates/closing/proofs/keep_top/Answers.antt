use Rattle.std.proofs.Common.{◌≡◌, ℕ, ◌+◌, List, [], ◌∷◌, ◌++◌, length, get_or, set, sym, ap, ◌∙◌, subst, arith, length-set}
use Rattle.std.proofs.lemmas.List.{length_push}
use Rattle.stacks.specs.Stacks.{lows, highs}
use Rattle.machines.specs.Machines.{State as Node}
use Rattle.construction.specs.Records.{Closed, state_of}
use Rattle.register.specs.Slots.{used, Entered, Hole}
use Rattle.register.specs.Answers.{Missing}
use Rattle.register.proofs.Entering.{used_set, known_set}
use Rattle.records.specs.Shape.{closings}
use Rattle.records.specs.Holding.{closed, closed_states, opened}
use Rattle.records.specs.Registering.{Register, state_at, home}
use Rattle.records.proofs.Counting.{count_closed}
use Rattle.comparing.specs.Newest.{newest}
use Rattle.records.proofs.Storing.{stored_closed}
use Rattle.closing.proofs.Finding.{stored_top, number_missing}
use Rattle.closing.proofs.Entering.{register_more, other, enter_new}
use Rattle.closing.proofs.keep_top.Goals as goal

pub returns : goal.returns
returns g c =
    let k = g.O.Output.kind in
    let mean = g.O.Output.meaning in
    let dig = g.O.Output.digested in
    let b = c.args.core.now in
    let m = c.settle_top-number.new.core in
    let p = c.settle_top-number.ensures.popped in
    let s = c.settle_top-number.ensures.settled in
    let e = c.enter.ensures in
    let number = c.settle_top-number.result in
    let slots = b.slots.now in
    let slots' = c.enter.new.slots in
    let ts = closed_states mean b in
    let n : length ts ≡ closings b = count_closed mean b in
    let all : number ≡ length ts = s.next ∙ sym n in
    let top : newest (opened mean b) ≡ state_of s.top = ap newest s.was in
    let missing : Missing number (λ q. state_of s.top ≡ state_at ts q) slots (home dig (length slots) (state_of s.top)) c.args.slot =
    subst (λ (x : Node k.Ideal). Missing number (λ q. x ≡ state_at ts q) slots (home dig (length slots) x) c.args.slot) top (subst (λ (j : ℕ). Missing j (λ q. newest (opened mean b) ≡ state_at ts q) slots (home dig (length slots) (newest (opened mean b))) c.args.slot) (sym s.next) c.requires.missing) in
    let written : slots' ≡ set slots c.args.slot (number + 1) = e.written ∙ ap (λ (xs : List ℕ). set xs c.args.slot (number + 1)) s.slots in
    let wide : length slots' ≡ length slots = ap length written ∙ length-set slots c.args.slot (number + 1) in
    let new : (h : ℕ) → Hole slots h c.args.slot → Entered h slots' number = λ h o. e.entered h (subst (λ (xs : List ℕ). Hole xs h c.args.slot) (sym s.slots) o) in
    let kept : (h q : ℕ) → Entered h slots q → Entered h slots' q = λ h q o. e.kept h q (subst (λ (xs : List ℕ). Entered h xs q) (sym s.slots) o) in
    let states : closed_states mean m ≡ ts ++ (state_of s.top ∷ []) = ap (λ (x : Closed k.Ideal). x.states) s.closed in
    let one : closings m ≡ closings b + 1 = sym (count_closed mean m) ∙ ap length states ∙ length_push ts (state_of s.top) ∙ ap (λ (j : ℕ). j + 1) n in
    let hole = c.requires.missing.hole in
    record {
      popped = record {
        within = record { staterooms = p.within.staterooms; arcrooms = p.within.arcrooms; states = p.within.states; arcs = p.within.arcs };
        opens = p.opens;
        led = p.led;
        pairs = p.pairs;
        start = p.start;
      };
      closes = λ reg.
          let none_there = number_missing k g.met.O.Output.lawful (state_of s.top) (stored_top k mean g.met.O.Output.stored (lows b.arcs) (highs b.states) s.top _ s.was) ts (stored_closed k mean g.met.O.Output.stored (highs b.arcs) (lows b.states))
          (λ q h e. other ts (state_of s.top) dig slots slots' c.args.slot number all wide reg missing new kept q h (sym e)) in
          record {
            top = s.top;
            was = s.was;
            entered = enter_new k b.pairs (closed mean b) s.top none_there ∙ (λ i. (sym all i, sym s.closed i));
          };
      registered = λ reg. subst (Register dig slots') (sym states) (register_more ts (state_of s.top) dig slots slots' c.args.slot number all wide reg missing new kept);
    }

pub invariant_of-core : goal.invariant_of-core
invariant_of-core g c =
    let k = g.O.Output.kind in
    let mean = g.O.Output.meaning in
    let dig = g.O.Output.digested in
    let b = c.args.core.now in
    let m = c.settle_top-number.new.core in
    let p = c.settle_top-number.ensures.popped in
    let s = c.settle_top-number.ensures.settled in
    let e = c.enter.ensures in
    let number = c.settle_top-number.result in
    let slots = b.slots.now in
    let slots' = c.enter.new.slots in
    let ts = closed_states mean b in
    let n : length ts ≡ closings b = count_closed mean b in
    let written : slots' ≡ set slots c.args.slot (number + 1) = e.written ∙ ap (λ (xs : List ℕ). set xs c.args.slot (number + 1)) s.slots in
    let wide : length slots' ≡ length slots = ap length written ∙ length-set slots c.args.slot (number + 1) in
    let states : closed_states mean m ≡ ts ++ (state_of s.top ∷ []) = ap (λ (x : Closed k.Ideal). x.states) s.closed in
    let one : closings m ≡ closings b + 1 = sym (count_closed mean m) ∙ ap length states ∙ length_push ts (state_of s.top) ∙ ap (λ (j : ℕ). j + 1) n in
    let hole = c.requires.missing.hole in
    let so = m.sound in
    record {
      sound = record {
        few = so.few;
        arcfew = so.arcfew;
        slotroom = omega (arith, so.slotroom, ap length s.slots, wide);
        laid = so.laid;
        since = so.since;
        packed = so.packed;
        known = λ j. omega (arith, one, ap (λ (xs : List ℕ). get_or xs j 0) written, known_set slots c.args.slot (number + 1) (closings b) b.sound.known hole.within (omega (arith, s.next)) j);
        used = omega (arith, one, ap used written, used_set slots c.args.slot number hole.within hole.free, b.sound.used);
        paired = so.paired;
      };
    }
