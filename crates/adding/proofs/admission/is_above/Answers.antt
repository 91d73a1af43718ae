use Rattle.std.proofs.Common.{ℕ, ◌<◌, ltb, length, get_or, sym, ap, ◌∙◌, arith}
use Rattle.construction.specs.Records.{newest_key}
use Rattle.records.specs.Holding.{held}
use Rattle.records.proofs.Counting.{count_open}
use Rattle.adding.proofs.NewestKey.{above_newest}
use Rattle.adding.proofs.Parting.{common_within, lower_prefix, lower_longer, lower_parting}
use Rattle.adding.proofs.admission.is_above.Goals as goal

pub returns-then-depth-key : goal.returns-then-depth-key
returns-then-depth-key g c =
    let b = c.args.core.now in
    let os = (held g.O.Output.meaning b).open' in
    let key = c.args.key.now in
    let some : 0 < length os = omega (arith, count_open g.O.Output.meaning b, c.highs.ensures, c.if-highs-eq0.false) in
    sym (above_newest os key some ∙ lower_prefix key (newest_key os) (sym c.requires ∙ c.if-depth-key.true))

pub returns-then-depth-length : goal.returns-then-depth-length
returns-then-depth-length g c =
    let b = c.args.core.now in
    let os = (held g.O.Output.meaning b).open' in
    let key = c.args.key.now in
    let some : 0 < length os = omega (arith, count_open g.O.Output.meaning b, c.highs.ensures, c.if-highs-eq0.false) in
    let whole = sym c.requires ∙ c.if-depth-length.true ∙ c.length.ensures in
    let within = common_within key (newest_key os) in
    sym (above_newest os key some ∙ lower_longer key (newest_key os) whole (omega (arith, within.0, c.requires, c.if-depth-key.false, c.if-depth-length.true, c.length.ensures)))

pub byte-requires : goal.byte-requires
byte-requires g c =
    let newest = newest_key (held g.O.Output.meaning c.args.core.now).open' in
    let within = common_within c.args.key.now newest in
    omega (arith, within.1, c.requires, c.if-depth-length.false, c.length.ensures)

pub bounds-key-depth : goal.bounds-key-depth
bounds-key-depth g c =
    let newest = newest_key (held g.O.Output.meaning c.args.core.now).open' in
    let within = common_within c.args.key.now newest in
    omega (arith, within.0, c.requires, c.if-depth-key.false)

pub returns : goal.returns
returns g c =
    let b = c.args.core.now in
    let os = (held g.O.Output.meaning b).open' in
    let key = c.args.key.now in
    let d = c.args.depth in
    let some : 0 < length os = omega (arith, count_open g.O.Output.meaning b, c.highs.ensures, c.if-highs-eq0.false) in
    let within = common_within key (newest_key os) in
    ap (λ (n : ℕ). ltb n (get_or key d 0)) c.byte.ensures ∙ sym (above_newest os key some ∙ lower_parting d key (newest_key os) c.requires
    (omega (arith, within.0, c.requires, c.if-depth-key.false))
    (omega (arith, within.1, c.requires, c.if-depth-length.false, c.length.ensures)))
