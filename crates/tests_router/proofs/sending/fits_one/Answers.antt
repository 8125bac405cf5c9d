use Rattle.std.proofs.Common.{length, ap, arith, append-nil}
use Rattle.tests_router.proofs.sending.fits_one.Goals as goal

pub returns : goal.returns
returns c =
    let sized = c.octets-octets.ensures.sized.1 in
    let whole = ap length (append-nil c.args.area.now) in
    omega (arith, sized, whole)
