use Rattle.loading.specs.Loading.{Holds}
use Rattle.searching.proofs.WrittenKeys.{no_key, key_sought, key_of_pairs}
use Rattle.searching.proofs.naming.write_key.Goals as goal

pub returns-in_err-rest : goal.returns-in_err-rest
returns-in_err-rest g c =
    let k = g.O.Output.kind in
    let x = g.O.Output.meaning c.args.output.now in
    let written = no_key k g.met.O.Output.lawful g.O.Output.meaning g.S.Store.bytes c.args.loaded.now x
    c.start_output-first.result c.start_output-first.ensures c.args.buffer.now c.from_residual.result c.from_residual.ensures c.in_err-rest.ensures in
    record {
      written = written;
      pairs = key_of_pairs k g.met.O.Output.lawful (Holds k g.O.Output.meaning g.S.Store.bytes c.args.loaded.now) x
          c.args.buffer.now c.args.buffer.now c.from_residual.result written;
    }

pub returns : goal.returns
returns g c =
    let k = g.O.Output.kind in
    let x = g.O.Output.meaning c.args.output.now in
    let written = key_sought k g.met.O.Output.lawful g.O.Output.meaning g.S.Store.bytes c.args.loaded.now x
    c.start_output-first.result c.start_output-first.ensures c.in_ok-rest.rest c.in_ok-rest.ensures
    c.start.result c.start.ensures.state c.args.buffer.now c.seek.new.buffer c.seek.result c.seek.ensures in
    record {
      written = written;
      pairs = key_of_pairs k g.met.O.Output.lawful (Holds k g.O.Output.meaning g.S.Store.bytes c.args.loaded.now) x
          c.args.buffer.now c.seek.new.buffer c.seek.result written;
    }
