use Rattle.std.proofs.Common.{◌<◌, ◌^◌, ◌*◌, sum, map, ◌∙◌, rules, arith}
use Rattle.std.specs.List.{zip}
use Rattle.std.proofs.lemmas.Iterator.{YieldsList-from_slice, YieldsList-from_zip, YieldsList-from_map}
use Rattle.std.proofs.lemmas.Iterator.Consumers.{YieldsList-at, sum_from_yields_List, fits_from_yields_list}
use Rattle.matrix.specs.Sets.{word_count}
use Rattle.matrix.proofs.Bits.{shared, meet, meet_words, count_le}
use Rattle.matrix.proofs.sets.shared_bits.Goals as goal

pub sum-requires-clause-fits : goal.sum-requires-clause-fits
sum-requires-clause-fits c =
    let two = YieldsList-at c.zip-2.ensures.first (YieldsList-from_zip (YieldsList-at c.zip.ensures.first (YieldsList-from_slice c.args.first.now cc)) (YieldsList-from_slice c.args.second.now cc)) in
    let three = YieldsList-at c.map.ensures.source (YieldsList-from_zip two (YieldsList-from_slice c.args.third.now cc)) in
    let e = meet_words word_count c.args.first.now c.args.second.now c.args.third.now (search rules) (search rules) (search rules) (λ k. search rules) in
    let fits : sum (map shared (zip (zip c.args.first.now c.args.second.now) c.args.third.now)) < 2 ^ 32 = omega (arith, e, count_le (meet c.args.first.now c.args.second.now c.args.third.now) (word_count * 64)) in
    fits_from_yields_list c.map.result _ (YieldsList-from_map _ shared three c.map.ensures.closure (λ x r q k. search rules)) fits

pub returns : goal.returns
returns c =
    let two = YieldsList-at c.zip-2.ensures.first (YieldsList-from_zip (YieldsList-at c.zip.ensures.first (YieldsList-from_slice c.args.first.now cc)) (YieldsList-from_slice c.args.second.now cc)) in
    let three = YieldsList-at c.map.ensures.source (YieldsList-from_zip two (YieldsList-from_slice c.args.third.now cc)) in
    sum_from_yields_List c.map.result c.sum.result c.sum.ensures.ran (YieldsList-from_map _ shared three c.map.ensures.closure (λ x r q k. search rules))
    ∙ meet_words word_count c.args.first.now c.args.second.now c.args.third.now (search rules) (search rules) (search rules) (λ k. search rules)
