use Rattle.grid_geometry.proofs.Bounds.{wide_product_is, product_bound}
use Rattle.segment_paths.proofs.products.product.Goals as goal

pub returns : goal.returns
returns c =
    let p = wide_product_is c.args.u c.args.v c.requires.one c.requires.other in
    record {
      value = p;
      bound = rw p (product_bound c.args.u c.args.v 2000000000000 c.requires.one c.requires.other);
    }
