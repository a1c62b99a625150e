use Rattle.aes.proofs.Exchanges.{masks, long_first, long_second, first, second}
use Rattle.aes.proofs.planes.exchange.Goals as goal

pub returns : goal.returns
returns c =
    let x = c.args.x in
    let y = c.args.y in
    let n = c.args.by in
    let m = c.args.mask in
    let test = masks n m c.requires in
    let hx = c.fits-x.0 in
    let hy = c.fits-y.0 in
    record {
      long = (long_first n m x y hx hy, long_second n m x y hx hy);
      first = λ l k hl hk. first n m test x y l k hx hy hl hk;
      second = λ l k hl hk. second n m test x y l k hx hy hl hk;
    }
