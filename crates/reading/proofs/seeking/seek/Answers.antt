use Rattle.std.proofs.Common.{◌+◌, ◌-◌, arith}
use Rattle.lookups.specs.Lookups.{bits_of}
use Rattle.reading.proofs.RowScans.{begins, ends, found, above, more}
use Rattle.reading.proofs.seeking.seek.Goals as goal

pub loop-init : goal.loop-init
loop-init g c = λ arcs rise row. begins g.O.Output.kind (bits_of g.S.Store.bytes c.args.loaded.now) c.args.byte arcs c.args.row rise row

pub returns-then-here-byte : goal.returns-then-here-byte
returns-then-here-byte g c = λ arcs rise row.
    found g.O.Output.kind (bits_of g.S.Store.bytes c.args.loaded.now) c.args.byte arcs (c.args.row.left - c.loop.counter) c.loop.place (c.loop.invariant arcs rise row) c.byte_at-here.result (omega arith) c.byte_at-here.ensures c.if-here-byte.true

pub returns-then-here-byte-2 : goal.returns-then-here-byte-2
returns-then-here-byte-2 g c = λ arcs rise row.
    above g.O.Output.kind (bits_of g.S.Store.bytes c.args.loaded.now) c.args.byte arcs (c.args.row.left - c.loop.counter) c.loop.place (c.loop.invariant arcs rise row) c.byte_at-here.result (omega arith) c.byte_at-here.ensures (omega arith)

pub loop-preserved : goal.loop-preserved
loop-preserved g c = λ arcs rise row.
    more g.O.Output.kind (bits_of g.S.Store.bytes c.args.loaded.now) c.args.byte arcs (c.args.row.left - c.loop.counter) c.loop.place (c.loop.invariant arcs rise row) c.byte_at-here.result (omega arith) c.byte_at-here.ensures
    c.pass_arc-place.result c.pass_arc-place.ensures (omega arith) (c.args.row.left - (c.loop.counter + 1)) (omega arith)

pub returns : goal.returns
returns g c = λ arcs rise row.
    ends g.O.Output.kind (bits_of g.S.Store.bytes c.args.loaded.now) c.args.byte arcs (c.args.row.left - c.loop.counter) c.loop.place (c.loop.invariant arcs rise row) (omega arith)
