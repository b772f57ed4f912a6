use Rattle.shadow_elim.proofs.FittingSums.{fit-less, all-within}
use Rattle.shadow_elim.proofs.sizes.do_all_fit.Goals as goal

pub returns-clause-fit : goal.returns-clause-fit
returns-clause-fit c = λ h x hu hl.
    all-within x c.args.uppers.now c.args.lowers.now c.sizes_of_all.result c.sizes_of_all-2.result hu hl c.sizes_of_all.ensures.sized
    c.sizes_of_all-2.ensures.sized (c.do_fit.ensures.0 h)

pub returns-clause-exact : goal.returns-clause-exact
returns-clause-exact c = (
  λ h. record {
    upper = c.sizes_of_all.result;
    lower = c.sizes_of_all-2.result;
    uppers_sized = λ i d k. (c.sizes_of_all.ensures.sized i d k).1;
    lowers_sized = λ i d k. (c.sizes_of_all-2.ensures.sized i d k).1;
    fit = c.do_fit.ensures.0 h;
  },
  λ a. c.do_fit.ensures.1 (fit-less c.sizes_of_all.result a.upper c.sizes_of_all-2.result a.lower
      (c.sizes_of_all.ensures.least a.upper a.uppers_sized) (c.sizes_of_all-2.ensures.least a.lower a.lowers_sized) a.fit),
)
