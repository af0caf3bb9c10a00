-- `kinds_fit`: what is asked of each place in turn is the test.
use Rattle.std.proofs.Common.{refl, ap, ◌+◌, ◌*◌, leb, get_or, add-one, arith, rules, tests}
use Rattle.record.proofs.Ranges.{range_all}
use Rattle.rows.specs.Rows.{kinds_fit_in}
use Rattle.rows.proofs.kinds_fit.Goals as goal

pub returns : goal.returns
unfolding kinds_fit_in
returns c =
    let a = c.args in
    range_all (λ k. leb (get_or a.words.now (a.at + 7 * k) 0) 255) 0 8 c.all.result c.all.ensures.ran (cc) (λ k b q called. search (rules, tests))
    (λ n. kinds_fit_in n a.words.now a.at) (omega arith) refl (λ k l m. ap (λ n. kinds_fit_in n a.words.now a.at) (add-one k))
