use Rattle.capi_parts.proofs.Evaluated.{regular-map-is}
use Rattle.capi_parts.proofs.lent.RegularFromC.record.Goals as goal

pub returns : goal.returns
returns c =
    let m = c.args.self in
    regular-map-is m.dims.now m.grid.now m.linear c.shape_of-count.ensures c.four_from-starts.ensures c.four_from-steps.ensures
