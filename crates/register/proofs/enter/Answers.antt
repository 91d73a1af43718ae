use Rattle.std.proofs.Common.{refl}
use Rattle.register.proofs.Entering.{entered_new, entered_still}
use Rattle.register.proofs.enter.Goals as goal

pub returns : goal.returns
returns c =
    let ts = c.args.slots.now in
    record {
      written = refl;
      entered = entered_new ts c.args.slot c.args.q c.requires.within;
      kept = entered_still ts c.args.slot c.args.q c.requires.within c.requires.free;
    }
