use Rattle.machines.specs.Lists.{at}
use Rattle.lookups.specs.Lookups.{bits_of}
use Rattle.lookups.proofs.HeldStates.{held_stored}
use Rattle.reading.proofs.Ways.{place_some}
use Rattle.reading.proofs.seeking.arc_place.Goals as goal

pub returns : goal.returns
returns g c = λ m h.
    place_some g.O.Output.kind (bits_of g.S.Store.bytes c.args.loaded.now) c.args.byte (at m.states c.args.state) c.in_ok-opened.opened c.arcs_of.result c.seek.result (c.in_ok-opened.ensures m h) c.arcs_of.ensures c.seek.ensures
    (λ s e. ((held_stored g.O.Output.kind g.O.Output.meaning g.S.Store.bytes c.args.loaded.now m h).states c.args.state s e).rising)
