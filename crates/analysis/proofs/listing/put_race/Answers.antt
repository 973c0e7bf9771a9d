use Rattle.std.proofs.Common.{◌≡◌, ℕ, ◌<◌, ◌≤◌, List, [], ◌++◌, length, get_or, vec_items, codes, decimal, ap, ◌∙◌, subst, append_assoc, arith, rules}
use Rattle.std.proofs.lemmas.List.{length-map}
use Rattle.chart.specs.Charted.{content}
use Rattle.chart.specs.Names.{text_of}
use Rattle.chart.specs.declared.charting.Chart.{Chart}
use Rattle.chart.specs.declared.names.Name.{Name}
use Rattle.chart.proofs.Stored.{mapped_at}
use Rattle.analysis.specs.Races.{InChart}
use Rattle.analysis.specs.Writing.{Fronted}
use Rattle.analysis.specs.declared.races.Race.{Race}
use Rattle.analysis.proofs.Sweeping.{few_events}
use Rattle.analysis.proofs.Telling.{length_take_most, digits_three}
use Rattle.analysis.proofs.listing.put_race.Goals as goal

regrouped : (a b s d t n e : List ℕ) → (((((a ++ b) ++ s) ++ d) ++ t) ++ n) ++ e ≡ a ++ (b ++ (s ++ (d ++ (t ++ (n ++ e)))))
regrouped a b s d t n e = simp append_assoc

-- the numbers have at most three digits
module _ (chart : Chart) (x : Race) (known : InChart (content chart) x) where
  first_short : length (decimal x.first.0) ≤ 3
  first_short = let l = known.first in let f = few_events chart in digits_three x.first.0 (omega arith)

  second_short : length (decimal x.second.0) ≤ 3
  second_short = let l = known.second in let f = few_events chart in digits_three x.second.0 (omega arith)

  module _ (names : List Name) (is : names ≡ vec_items chart.parts.instances) where
    inside : x.instance.0 < length names
    inside = omega (arith, length-map (vec_items chart.parts.instances) text_of, ap length is, known.instance)

    name_is : (n : Name) → n ≡ get_or names x.instance.0 n → text_of n ≡ get_or (content chart).instances x.instance.0 []
    name_is n h =
        let l = inside in
        let e = ap length is in
        mapped_at text_of (vec_items chart.parts.instances) x.instance.0 n (omega arith) (subst (λ ys. n ≡ get_or ys x.instance.0 n) is h) []

name_short : (n : Name) (t : List ℕ) → t ≡ text_of n → length t ≤ 24
name_short n t e =
    let s : n.len ≤ 24 = n.short in
    omega (arith, ap length e, length_take_most n.len n.bytes)

pub push_number-requires : goal.push_number-requires
push_number-requires c = let a = first_short c.args.chart.now c.args.race c.requires.known in grind arith

pub push-requires-2 : goal.push-requires-2
push-requires-2 c = let a = first_short c.args.chart.now c.args.race c.requires.known in grind arith

pub push_number-requires-2 : goal.push_number-requires-2
push_number-requires-2 c =
    let a = first_short c.args.chart.now c.args.race c.requires.known in
    let b = second_short c.args.chart.now c.args.race c.requires.known in
    grind arith

pub push-requires-3 : goal.push-requires-3
push-requires-3 c =
    let a = first_short c.args.chart.now c.args.race c.requires.known in
    let b = second_short c.args.chart.now c.args.race c.requires.known in
    grind arith

pub push-requires-4 : goal.push-requires-4
push-requires-4 c =
    let a = first_short c.args.chart.now c.args.race c.requires.known in
    let b = second_short c.args.chart.now c.args.race c.requires.known in
    let n = name_short c.index-instances-race.result _ c.text-name.ensures in
    grind arith

pub push-requires-5 : goal.push-requires-5
push-requires-5 c =
    let a = first_short c.args.chart.now c.args.race c.requires.known in
    let b = second_short c.args.chart.now c.args.race c.requires.known in
    let n = name_short c.index-instances-race.result _ c.text-name.ensures in
    grind arith

pub returns-clause-front : goal.returns-clause-front
returns-clause-front c =
    let chart = c.args.chart.now in
    let x = c.args.race in
    let name = c.text-name.ensures ∙ name_is chart x c.requires.known c.instances.result.now c.instances.ensures c.index-instances-race.result c.index-instances-race.is in
    let begun = c.push-2.ensures.adds _ _ (c.push_number.ensures.adds _ _ (c.push.ensures.adds _ _ c.new-line.ensures.empty)) in
    let line = c.push-5.ensures.adds _ _ (c.push-4.ensures.adds _ _ (c.push-3.ensures.adds _ _ (c.push_number-2.ensures.adds _ _ begun))) in
    (search rules)
    ∙ subst (λ ys. Fronted c.args.buffer.now ys c.push-5.new.self.buffer.now)
    (regrouped (codes "race ") (decimal x.first.0) (codes " ") (decimal x.second.0) (codes " ") c.text-name.result.now (codes "\n")
    ∙ ap (λ (t : List ℕ). codes "race " ++ (decimal x.first.0 ++ (codes " " ++ (decimal x.second.0 ++ (codes " " ++ (t ++ codes "\n")))))) name)
    line.front
